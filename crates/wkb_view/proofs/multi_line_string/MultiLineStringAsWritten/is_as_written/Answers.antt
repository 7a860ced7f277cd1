use Rattle.wkb_view.proofs.Prelude.{refl, ap, arith, map, length, ◌≤◌, line_string, members_in}
use Rattle.wkb_view.specs.Prelude.{line_string_of}
use Rattle.wkb_view.specs.Views.{seen_coordinates}
use Rattle.wkb_view.proofs.Encodings.{HasWrittenHeader, one_more_written, all_written}
use Rattle.wkb_view.proofs.multi_line_string.MultiLineStringAsWritten.is_as_written.Goals as goal

pub loop-i-preserved : goal.loop-i-preserved
loop-i-preserved c =
    let l = c.unwrap.result in
    let is = c.if-not-is_as_written.ensures refl in
    let dimension = rw c.unwrap.ensures at c.member.ensures.dimension in
    one_more_written c.loop-i.invariant is (ap (λ d. line_string d (seen_coordinates l)) dimension)
    (rw c.unwrap.ensures at c.member.ensures.spelled) (rw c.unwrap.ensures at c.member.ensures.value)

pub returns : goal.returns
returns c =
    let m = c.self.inside in
    let is = c.if-not-begins_as.ensures in
    let header : HasWrittenHeader 5 m.layout m.buf.now c.args.order c.args.has_flags =
    record { order_is = is.order refl; plain = is.plain refl; code = is.code refl } in
    let members = members_in 2 m.layout m.ends.items m.buf.now in
    let all : length (map (λ i. line_string_of i.value) members) ≤ c.loop-i.i = grind arith in
    let so_far = rw (← c.self.view_is) at c.loop-i.invariant in
    rw (← c.self.view_is) (λ _. record {
      bytes = is.bytes;
      same = all_written (λ i. line_string_of i.value) members header all so_far;
    })
