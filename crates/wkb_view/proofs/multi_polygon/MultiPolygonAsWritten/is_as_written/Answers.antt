use Rattle.wkb_view.proofs.Prelude.{refl, ap, arith, map, length, ◌≤◌, length-map, polygon, polygon_of}
use Rattle.wkb_view.proofs.Prelude.{polygon_items}
use Rattle.wkb_view.proofs.Encodings.{HasWrittenHeader, one_more_written, all_written}
use Rattle.wkb_view.proofs.multi_polygon.MultiPolygonAsWritten.is_as_written.Goals as goal

pub loop-i-preserved : goal.loop-i-preserved
loop-i-preserved c =
    let p = c.unwrap.result.now in
    let is = c.if-not-is_as_written.ensures refl in
    let dimension = rw c.unwrap.ensures at c.polygon.ensures.dimension in
    one_more_written c.loop-i.invariant is (ap (λ d. polygon d p.parts) dimension)
    (rw c.unwrap.ensures at c.polygon.ensures.spelled) (rw c.unwrap.ensures at c.polygon.ensures.part)

pub returns : goal.returns
returns c =
    let m = c.self.inside in
    let is = c.if-not-begins_as.ensures in
    let header : HasWrittenHeader 6 m.layout m.buf.now c.args.order c.args.has_flags =
    record { order_is = is.order refl; plain = is.plain refl; code = is.code refl } in
    let members = polygon_items m.members.items in
    let parts = map (λ i. polygon_of i.value) members in
    let all : length parts ≤ c.loop-i.i = grind (arith, length-map) in
    let so_far = rw (← c.self.view_is) at c.loop-i.invariant in
    rw (← c.self.view_is) (λ _. record {
      bytes = is.bytes;
      same = all_written (λ i. polygon_of i.value) members header all so_far;
    })
