use Rattle.std.proofs.Common.{sym, ◌∙◌}
use Rattle.std.proofs.lemmas.Slice.Eq.{bytes_eq-Decides}
use Rattle.wkb_rewrite.proofs.Comparing.{same_spelling}
use Rattle.wkb_rewrite.proofs.comparison.have_one_value.Goals as goal

pub returns-then-eq : goal.returns-then-eq
returns-then-eq c = λ g h. (
  λ yes. (same_spelling g h ((bytes_eq-Decides _ _).0 (sym c.eq.ensures ∙ yes))).value,
  λ e. c.if-eq.true,
)
