use Rattle.std.proofs.Common.{length, length-set, set, refl, sym, ◌∙◌, arith}
use Rattle.wkb_geom.specs.declared.{common.Dimension.TheVariants.Xy, common.Endianness.TheVariants.BigEndian}
use Rattle.wkb_check.proofs.Placing.{own_inside, onward, leaf_inside, rings_inside, members_inside, rings_alone}
use Rattle.wkb_check.proofs.Placing.{none_of, inside_many, inner}
use Rattle.wkb_check.specs.Subjects.{subjects}
use Rattle.wkb_abi.proofs.Entries.{LaysInside, item_laid, left_first, left_next, here}
use Rattle.wkb_abi.proofs.parts.+table.Goals as goal
use Rattle.wkb_abi.proofs.parts.+table.Goals.{then-has_coordinates, else-has_coordinates+then-piece-eq-POLYGON}
use Rattle.wkb_abi.proofs.parts.+table.Goals.{else-has_coordinates+else-piece-eq-POLYGON}

pub loop-init : goal.loop-init
loop-init t c = λ more all. left_first (omega arith)

pub of_geometry-piece-requires : goal.of_geometry-piece-requires
of_geometry-piece-requires t c =
    let h = here (c.loop.invariant _ c.requires.fit.all) (omega (arith, c.loop-test.true)) c.requires.fit.fit in
    record { here = h.geometry }

pub overflow_add-inside : goal.overflow_add-inside
overflow_add-inside t c =
    let h = here (c.loop.invariant _ c.requires.fit.all) (omega (arith, c.loop-test.true)) c.requires.fit.fit in
    omega (arith, h.room, h.some, c.loop.auto.parts)

pub end-requires : goal.end-requires
end-requires t c =
    let h = here (c.loop.invariant _ c.requires.fit.all) (omega (arith, c.loop-test.true)) c.requires.fit.fit in
    omega (
      arith,
      (own_inside c.args.buf.now c.loop.at.byte _ h.geometry c.of_geometry-piece.result
          (c.of_geometry-piece.ensures h.geometry) refl).inside,
    )

pub lay_rings-requires-clause-whole : goal.lay_rings-requires-clause-whole
lay_rings-requires-clause-whole t c =
    let h = here (c.loop.invariant _ c.requires.fit.all) (omega (arith, c.loop-test.true)) c.requires.fit.fit in
    (rings_inside c.args.buf.now c.loop.at.byte h.geometry c.of_geometry-piece.result
    (c.of_geometry-piece.ensures h.geometry) c.end.result c.end.ensures c.if-piece-eq-POLYGON.true).whole

pub lay_rings-requires-clause-room : goal.lay_rings-requires-clause-room
lay_rings-requires-clause-room t c =
    let h = here (c.loop.invariant _ c.requires.fit.all) (omega (arith, c.loop-test.true)) c.requires.fit.fit in
    omega (
      arith,
      h.room,
      length-set c.loop.parts c.loop.at.index c.of.result,
      inside_many (rings_inside c.args.buf.now c.loop.at.byte h.geometry c.of_geometry-piece.result
          (c.of_geometry-piece.ensures h.geometry) c.end.result c.end.ensures c.if-piece-eq-POLYGON.true),
    )

pub lay_geometries-requires : goal.lay_geometries-requires
lay_geometries-requires t c =
    let l = c.loop.invariant _ c.requires.fit.all in
    let h = here l (omega (arith, c.loop-test.true)) c.requires.fit.fit in
    let is = c.of_geometry-piece.ensures h.geometry in
    let inside = own_inside c.args.buf.now c.loop.at.byte c.end.result h.geometry c.of_geometry-piece.result is
    c.end.ensures in
    let m = members_inside c.args.buf.now c.loop.at.byte h.geometry c.of_geometry-piece.result is
    c.end.result c.end.ensures (sym c.has_coordinates.ensures ∙ c.if-has_coordinates.false)
    c.if-piece-eq-POLYGON.false BigEndian Xy in (
      omega (arith, c.decreases, l.onward, inside.inside, onward _ _ _ c.of_geometry-piece.result inside),
      record { more = h.geometry.rest; all = m.all; fit = omega (arith, h.room, inside_many m, length-set c.loop.parts c.loop.at.index c.of.result) },
    )

pub offset_bounds-parts-at : goal.offset_bounds-parts-at
offset_bounds-parts-at t c =
    let h = here (c.loop.invariant _ c.requires.fit.all) (omega (arith, c.loop-test.true)) c.requires.fit.fit in
    omega (arith, h.room, h.some, c.loop.auto.parts)

pub bounds-parts-at : goal.bounds-parts-at
bounds-parts-at t c =
    let h = here (c.loop.invariant _ c.requires.fit.all) (omega (arith, c.loop-test.true)) c.requires.fit.fit in
    omega (arith, h.room, h.some, c.loop.auto.parts)

pub end_part-requires : goal.end_part-requires
end_part-requires t c =
    let h = here (c.loop.invariant _ c.requires.fit.all) (omega (arith, c.loop-test.true)) c.requires.fit.fit in
    omega (
      arith,
      h.room,
      h.some,
      c.loop.auto.parts,
      c.if-has_coordinates.auto.parts,
      length-set c.loop.parts c.loop.at.index c.of.result,
    )

pub loop-preserved : goal.loop-preserved
loop-preserved t c = λ more all.
    left_next (c.loop.invariant more all) (omega (arith, c.loop-test.true)) c.if-has_coordinates.next.index
    c.if-has_coordinates.next.byte _
    (λ g.
    let buf = c.args.buf.now in
    let at = c.loop.at in
    let is = c.of_geometry-piece.ensures g in
    let inside : LaysInside (set c.loop.parts at.index c.of.result) c.if-has_coordinates.parts at.index c.end.result c.if-has_coordinates.next
    (inner g.spelled g.value) (length (subjects g.spelled g.value)) = elim c.if-has_coordinates.branch [
      | then-has_coordinates w ↦
          let r = rings_alone (leaf_inside buf at.byte g _ is c.end.result c.end.ensures
          (sym c.has_coordinates.ensures ∙ w.if-has_coordinates.true) BigEndian Xy) in
          rw (w.parts-is, w.next-is, ← r.0) (record { laid = refl; index_is = omega (arith, r.1); byte_is = refl })
      | else-has_coordinates+then-piece-eq-POLYGON w ↦
          let r = rings_alone (rings_inside buf at.byte g _ is _ c.end.ensures w.if-piece-eq-POLYGON.true) in
          let lays = w.lay_rings.ensures in
          rw (w.parts-is, w.next-is, ← r.0)
          (record { laid = lays.laid; index_is = omega (arith, lays.index, r.1); byte_is = lays.byte })
      | else-has_coordinates+else-piece-eq-POLYGON w ↦
          let i = members_inside buf at.byte g _ is _ c.end.ensures
          (sym c.has_coordinates.ensures ∙ w.if-has_coordinates.false) w.if-piece-eq-POLYGON.false BigEndian Xy in
          let lays = w.lay_geometries.ensures g.rest i.all in
          rw (w.parts-is, w.next-is, i.are)
          (record { laid = lays.laid; index_is = omega (arith, lays.index, inside_many i); byte_is = lays.byte })
    ] in
    item_laid buf at.byte g _ is c.end.ensures c.of.result c.of.ensures inside c.end_part.ensures)

pub returns : goal.returns
returns t c = λ more all.
    let l = c.loop.invariant more all in
    let none = none_of l.to_come.values (omega (arith, l.to_come.counted, c.loop-test.false)) in
    let left = rw none at l.left in
    record { laid = left.laid; index = omega (arith, rw none at l.indices); byte = left.bytes }
