use Rattle.std.proofs.Common.{◌≡◌, ◌+◌, ◌∷◌, [], arith, ap, length, is_some}
use Rattle.wkb_laws.specs.Prelude.{Endianness, LittleEndian, srid_size, encoding, geometry_of}
use Rattle.wkb_check.specs.Prelude.{HasGeometry, IsAhead, pieces_of}
use Rattle.wkb_check.proofs.Following.{given, all_given}
use Rattle.wkb_rewrite.proofs.Measured.{srid_sizes, sizes_append, long_of, measured}
use Rattle.wkb_check.proofs.Ahead.{here}
use Rattle.wkb_rewrite.proofs.encoding.encoded_size.Goals as goal
use Rattle.wkb_rewrite.proofs.encoding.encoded_size.Goals.{After-into_iter-piece-iterator}

-- the loop goes over the pieces of the geometry, and the first size is too much by their SRIDs
ahead : (c : After-into_iter-piece-iterator) (g : HasGeometry c.args.buf.now)
    → IsAhead c.into_iter-piece-iterator.result (pieces_of 0 g.spelled g.value)
ahead c g = rw c.into_iter-piece-iterator.ensures.into_iter_gives (c.of-piece-items.ensures.ahead g)

over : (c : After-into_iter-piece-iterator) (order : Endianness) (g : HasGeometry c.args.buf.now)
    → c.args.found.now.bytes + c.size_of_srid.result
    ≡ length (encoding order c.args.form (geometry_of g.value)) + srid_sizes (pieces_of 0 g.spelled g.value)
over c order g =
    omega (
      arith,
      ap (λ o. srid_size (is_some o)) c.srid_of_form.ensures,
      measured order c.args.form c.args.buf.now g (λ i. (c.type_inv.buf i).fits) (long_of c.requires g),
    )

pub loop-piece-init-derived : goal.loop-piece-init-derived
loop-piece-init-derived c = (record { pieces = _; are = ahead c (here c.requires) }, tt)

pub loop-piece-init : goal.loop-piece-init
loop-piece-init c = record { can = (loop-piece-init-derived c).0; finite = tt; less = omega arith }

pub overflow_sub-size : goal.overflow_sub-size
overflow_sub-size c =
    let g = here c.requires in
    let before = (goal.at.overflow_sub-size c).After-into_iter-piece-iterator in
    let k = given _ _ _ _ (ahead before g) c.loop-piece.yielded_by in
    omega (
      arith,
      over before LittleEndian g,
      ap srid_sizes k.2,
      sizes_append c.loop-piece.yielded k.0,
      ap srid_sizes (c.in-Some.ensures.steps.steps k.0 k.1).first,
    )

pub loop-piece-preserved : goal.loop-piece-preserved
loop-piece-preserved c = record {
  can = c.in-Some.ensures.goes.keeps;
  finite = tt;
  less = omega (arith, sizes_append c.loop-piece.yielded (c.in-Some.piece ∷ []), overflow_sub-size c);
}

pub returns-clause-size : goal.returns-clause-size
returns-clause-size c = λ order g.
    let before = (goal.at.returns-clause-size c).After-into_iter-piece-iterator in
    omega (
      arith,
      over before order g,
      ap srid_sizes (all_given _ _ _ _ _ (ahead before g) c.loop-piece.yielded_by c.in-None.ensures.steps),
    )
