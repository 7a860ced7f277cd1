use Rattle.wkb_view.proofs.Prelude.{length-take, arith, err_from_is_err_and, list_item, member_at}
use Rattle.wkb_view.proofs.Prelude.{multi_point_with, AreBytes-take}
use Rattle.wkb_geom.specs.declared.code.TheConstants.{POINT}
use Rattle.wkb_view.specs.Prelude.{multi_point_at}
use Rattle.wkb_view.proofs.Lists.{IsList, points_here, list_fits, list_reads, list_stops}
use Rattle.wkb_view.proofs.Spells.{body_spelled}
use Rattle.wkb_view.proofs.multi_point.MultiPoint.read.Goals.{In_ok-count}
use Rattle.wkb_view.specs.Prelude.read_errors
use Rattle.wkb_view.proofs.multi_point.MultiPoint.read.Goals as goal

-- the list that its points are
here : (c : In_ok-count)
    → IsList c.args.layout (member_at POINT c.args.layout.dimension) (list_item c.args.layout multi_point_with)
    c.args.bytes.now c.in_ok-count.count c.args.counts.now c.args.counts.now
    (multi_point_at c.args.layout c.args.bytes.now)
here c =
    points_here c.args.layout c.args.bytes.now c.in_ok-count.count c.args.counts.now c.in_ok-count.ensures.counted
    c.in_ok-count.ensures.whole

pub pass_points-requires-clause-fits : goal.pass_points-requires-clause-fits
pass_points-requires-clause-fits c =
    list_fits (here (goal.at.pass_points-requires-clause-fits c).In_ok-count) c.requires.fits

pub invariant_of-result : goal.invariant_of-result
invariant_of-result c =
    let e = c.in_ok-rest.ensures.points in
    let read = list_reads (here (goal.at.invariant_of-result c).In_ok-count) _ _ _ e.0 e.1 in
    record {
      whole = grind (arith, length-take);
      in_range = grind (arith, AreBytes-take);
      spells = body_spelled c.args.bytes.now _ _ _ c.requires.head read.0;
      each = ∣ c.in_ok-rest.ensures.each ∣₁;
    }

pub returns-clause-answer : goal.returns-clause-answer
returns-clause-answer c =
    let e = c.in_ok-rest.ensures.points in
    list_reads (here (goal.at.returns-clause-answer c).In_ok-count) _ _ _ e.0 e.1

pub returns-in_err-rest-clause-answer : goal.returns-in_err-rest-clause-answer
returns-in_err-rest-clause-answer c =
    let p = err_from_is_err_and c.from_residual-in_err-rest.result c.from_residual-in_err-rest.ensures.1 in
    rw (p.1, p.2) (list_stops (here (goal.at.returns-in_err-rest-clause-answer c).In_ok-count)
    (read_errors.Cause c.in_err-rest.field-0.0) _ c.in_err-rest.ensures.points)
