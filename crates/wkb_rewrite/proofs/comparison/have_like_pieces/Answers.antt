use Rattle.std.proofs.Common.{sym, ◌∙◌}
use Rattle.wkb_rewrite.proofs.Walks.{all_to_come, next_taken, none_taken, some_ahead, end_told}
use Rattle.wkb_rewrite.proofs.Comparing.{shares_of_one, value_of_shares, like, unlike}
use Rattle.wkb_rewrite.proofs.comparison.have_like_pieces.Goals as goal

pub loop-x-init-derived : goal.loop-x-init-derived
loop-x-init-derived c = (record { pieces = _; are = c.of-firsts.ensures.ahead c.requires.first }, tt)

pub loop-x-init : goal.loop-x-init
loop-x-init c = λ g h. record {
  left = _;
  right = _;
  firsts = all_to_come g (c.of-firsts.ensures.ahead g) c.of-firsts.ensures.same;
  seconds = all_to_come h (c.of-seconds.ensures.ahead h) c.of-seconds.ensures.same;
  same = (λ e. e, λ e. e);
}

pub next-requires-in-Some : goal.next-requires-in-Some
next-requires-in-Some c = some_ahead (c.loop-x.invariant c.requires.first c.requires.second).seconds

pub next-requires-2 : goal.next-requires-2
next-requires-2 c = some_ahead (c.loop-x.invariant c.requires.first c.requires.second).seconds

pub returns-in_default-next : goal.returns-in_default-next
returns-in_default-next c = λ g h.
    let l = c.loop-x.invariant g h in
    let some = (next_taken l.firsts c.in-Some.ensures.steps).first in
    let none = none_taken l.seconds c.in_default-next.is c.next-in-Some.ensures.steps in
    (λ yes. absurd cc, λ e. let both = sym some ∙ l.same.0 (shares_of_one g h e) ∙ none in absurd cc)

pub are_alike-requires : goal.are_alike-requires
are_alike-requires c =
    let l = c.loop-x.invariant c.requires.first c.requires.second in
    record {
      first = (next_taken l.firsts c.in-Some.ensures.steps).own;
      second = (next_taken l.seconds c.in-Some-next.ensures.steps).own;
    }

pub returns-then-not-are_alike : goal.returns-then-not-are_alike
returns-then-not-are_alike c = λ g h.
    let l = c.loop-x.invariant g h in
    let x = next_taken l.firsts c.in-Some.ensures.steps in
    let y = next_taken l.seconds c.in-Some-next.ensures.steps in
    (λ yes. absurd cc, λ e. let same = c.are_alike.ensures.1 (unlike l x y (shares_of_one g h e)) in absurd cc)

pub loop-x-preserved : goal.loop-x-preserved
loop-x-preserved c = λ g h.
    let l = c.loop-x.invariant g h in
    let x = next_taken l.firsts c.in-Some.ensures.steps in
    let y = next_taken l.seconds c.in-Some-next.ensures.steps in
    like l x y (c.are_alike.ensures.0 c.if-not-are_alike.false)

pub returns : goal.returns
returns c = λ g h.
    let l = c.loop-x.invariant g h in
    let none = none_taken l.firsts c.in_default.is c.next.ensures.steps in
    let end = end_told _ c.is_none.result l.seconds c.next-2.ensures.steps c.is_none.ensures in (
      λ yes. value_of_shares g h (λ i. (c.type_inv.a i).fits) (λ i. (c.type_inv.b i).fits)
          (l.same.1 (none ∙ end.0 yes)),
      λ e. end.1 (sym none ∙ l.same.0 (shares_of_one g h e)),
    )
