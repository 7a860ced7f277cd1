use Rattle.wkb_abi.proofs.Common.{◌∙◌}
use Rattle.wkb_abi.specs.PieceLevels.{totals_plus}
use Rattle.wkb_abi.proofs.totals.Totals.after.Goals as goal

pub returns-in-Some : goal.returns-in-Some
returns-in-Some c = λ g.
    let are = c.in-Some.ensures.totals c.args.row.now c.requires.found c.requires.first g in
    c.and.ensures ∙ (λ i. totals_plus c.args.self (are.coordinates_are i) (are.rings_are i) (are.singles_are i))
