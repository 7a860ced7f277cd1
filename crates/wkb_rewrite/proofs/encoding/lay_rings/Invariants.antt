use Rattle.std.proofs.Common.{◌≡◌}
use Rattle.wkb_laws.specs.Prelude.{geometry_of, encoding}
use Rattle.wkb_check.specs.Prelude.{HasGeometry, bytes_left}
use Rattle.wkb_rewrite.proofs.Encoded.{Left}
use Rattle.wkb_rewrite.proofs.encoding.lay_rings.Given as goal

abbrev pub decreases-loop-ring : goal.decreases-loop-ring
decreases-loop-ring l = bytes_left l.pieces

abbrev pub invariant-loop-ring : goal.invariant-loop-ring
invariant-loop-ring l = record {
  left : (g : HasGeometry l.buf)
      → Left l.buf l.fn.options.endianness l.inner.form l.pieces l.at l.out l.fn.out
      (encoding l.fn.options.endianness l.fn.options.form (geometry_of g.value));
  alone : l.pieces.geometries ≡ 0;
}
