use Rattle.wkb_view.proofs.Prelude.{refl, ap, ◌∙◌, arith, map, length, ◌≤◌, point, point_of, points_in, point_value}
use Rattle.wkb_view.specs.Views.{seen_coordinate}
use Rattle.wkb_view.proofs.Encodings.{HasWrittenHeader, one_more_written, all_written}
use Rattle.wkb_view.proofs.multi_point.MultiPointAsWritten.is_as_written.Goals as goal

pub loop-i-preserved : goal.loop-i-preserved
loop-i-preserved c =
    let p = c.unwrap.result in
    let is = c.if-not-is_as_written.ensures refl in
    let dimension = rw c.unwrap.ensures at c.point.ensures.dimension in
    one_more_written c.loop-i.invariant is (point_value p ∙ ap (λ d. point d (seen_coordinate p)) dimension)
    (rw c.unwrap.ensures at c.point.ensures.spelled) (rw c.unwrap.ensures at c.point.ensures.value)

pub returns : goal.returns
returns c =
    let m = c.args.self.now in
    let is = c.if-not-begins_as.ensures in
    let header : HasWrittenHeader 4 m.layout m.buf.now c.args.order c.args.has_flags = grind arith in
    let members = points_in m.layout m.count m.buf.now in
    let all : length (map (λ i. point_of i.value) members) ≤ c.loop-i.i = grind arith in
    λ _. record {
      bytes = is.bytes;
      same = all_written (λ i. point_of i.value) members header all c.loop-i.invariant;
    }
