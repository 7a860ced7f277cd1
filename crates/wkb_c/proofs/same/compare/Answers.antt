use Rattle.wkb_abi.proofs.Common.{refl, sym, ◌∙◌}
use Rattle.wkb_abi.specs.Statuses.{one_value, two_values}
use Rattle.wkb_abi.proofs.Telling.{accepted_there, same_values, other_values}
use Rattle.wkb_c.proofs.same.compare.Goals as goal

pub returns-then-have_one_value : goal.returns-then-have_one_value
returns-then-have_one_value c =
    let have = c.have_one_value.ensures (accepted_there _ c.requires.first) (accepted_there _ c.requires.second) in
    one_value refl (same_values _ _ c.requires.first c.requires.second (have.0 c.if-have_one_value.true))

pub returns-else-have_one_value : goal.returns-else-have_one_value
returns-else-have_one_value c =
    let have = c.have_one_value.ensures (accepted_there _ c.requires.first) (accepted_there _ c.requires.second) in
    two_values refl
    (other_values _ _ c.requires.first c.requires.second
    (λ same. let never = sym c.if-have_one_value.false ∙ have.1 same in absurd (cc)))
