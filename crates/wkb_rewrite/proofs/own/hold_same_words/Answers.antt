use Rattle.std.proofs.Common.{refl, sym, ◌∙◌, arith}
use Rattle.wkb_rewrite.proofs.Held.{all_words}
use Rattle.wkb_rewrite.proofs.own.hold_same_words.Goals as goal

pub returns : goal.returns
returns c = λ first second h k. (
  λ yes. sym (all_words _ h c.loop-i-test.false) ∙ c.loop-i.invariant first second h k
      ∙ all_words _ k (omega arith),
  λ e. refl,
)
