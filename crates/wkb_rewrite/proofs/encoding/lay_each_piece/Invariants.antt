use Rattle.std.specs.Prelude.{◌≤◌}
use Rattle.wkb_laws.specs.Prelude.{geometry_of, encoding}
use Rattle.wkb_check.specs.Prelude.{HasGeometry, bytes_left}
use Rattle.wkb_rewrite.proofs.Encoded.{Left}
use Rattle.wkb_rewrite.proofs.encoding.lay_each_piece.Given as goal

abbrev pub decreases-loop-point : goal.decreases-loop-point
decreases-loop-point l = bytes_left l.pieces

abbrev pub invariant-loop-point : goal.invariant-loop-point
invariant-loop-point l = (g : HasGeometry l.buf)
    → Left l.buf l.endianness l.inner.form l.pieces l.at l.out l.fn.out
    (encoding l.endianness l.fn.options.form (geometry_of g.value))

abbrev pub decreases-loop-ring : goal.decreases-loop-ring
decreases-loop-ring l = bytes_left l.pieces

abbrev pub invariant-loop-ring : goal.invariant-loop-ring
invariant-loop-ring l = record {
  left : (g : HasGeometry l.buf)
      → Left l.buf l.endianness l.inner.form l.pieces l.at l.out l.fn.out
      (encoding l.endianness l.fn.options.form (geometry_of g.value));
  fewer : bytes_left l.pieces ≤ bytes_left l.initial.pieces;
}
