use Rattle.wkb_view.proofs.Prelude.{subst, sym, ◌-◌, length, length-take, arith, err_from_is_err_and, member_at}
use Rattle.wkb_view.proofs.Prelude.{list_item, AreOfDimension}
use Rattle.wkb_view.specs.Prelude.{multi_polygon_with}
use Rattle.wkb_view.proofs.Lists.{IsList, parts_length, list_here, list_fits, list_reads, list_stops, polygons_within}
use Rattle.wkb_view.proofs.Lists.{list_refused}
use Rattle.wkb_view.proofs.Spells.{body_spelled}
use Rattle.wkb_view.proofs.multi_polygon.MultiPolygon.read.Goals.{In_ok-count}
use Rattle.wkb_view.proofs.multi_polygon.MultiPolygon.read.Goals as goal
unfoldable use Rattle.wkb_geom.specs.Reading.{multi_polygon_at}

-- the list that was asked for
here : (c : In_ok-count)
    → IsList c.args.layout (member_at 3 c.args.layout.dimension) (list_item c.args.layout multi_polygon_with)
    c.args.bytes.now c.in_ok-count.count c.args.counts.now c.counted_list.new.counts
    (multi_polygon_at c.args.layout c.args.bytes.now)
unfolding multi_polygon_at
here c =
    list_here c.args.layout c.args.bytes.now c.in_ok-count.count c.args.counts.now c.counted_list.new.counts
    c.in_ok-count.ensures.whole c.in_ok-count.ensures.count c.counted_list.ensures.turns 6 _ _
    c.counted_list.ensures.slots

pub returns-clause-answer : goal.returns-clause-answer
returns-clause-answer c =
    let e = c.in_ok-members.ensures.polygons in
    rw c.into_vec.ensures (list_reads (here (goal.at.returns-clause-answer c).In_ok-count) _ _ _ e.0 e.1)

pub invariant_of-multi_polygon : goal.invariant_of-multi_polygon
invariant_of-multi_polygon c =
    let l = c.args.layout in
    let bytes = c.args.bytes.now in
    let e = c.in_ok-members.ensures in
    let read =
    list_reads (here (goal.at.invariant_of-multi_polygon c).In_ok-count) _ _ _ e.polygons.0 e.polygons.1 in (
      omega (arith, length-take (length bytes - length c.in_ok-members.rest.now) bytes),
      subst (AreOfDimension l.dimension) (sym c.into_vec.ensures) e.dimension,
      rw c.into_vec.ensures (body_spelled bytes _ _ _ c.requires.head read.0),
    )

pub read_members-requires-clause-fits : goal.read_members-requires-clause-fits
read_members-requires-clause-fits c =
    list_fits (here (goal.at.read_members-requires-clause-fits c).In_ok-count) c.requires.fits

pub returns-in_err-members : goal.returns-in_err-members
returns-in_err-members c =
    let p = err_from_is_err_and c.from_residual-in_err-members.result c.from_residual-in_err-members.ensures.1 in
    let list = here (goal.at.returns-in_err-members c).In_ok-count in
    let stops = c.in_err-members.ensures in
    rw (p.1, p.2) (grind (arith, list_stops))

pub returns-in_err-count : goal.returns-in_err-count
unfolding multi_polygon_at
returns-in_err-count c = grind (arith, err_from_is_err_and, list_refused, parts_length, polygons_within)
