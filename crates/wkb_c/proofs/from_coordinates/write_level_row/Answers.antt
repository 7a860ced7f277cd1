use Rattle.wkb_abi.proofs.Common.{sym, ◌∙◌}
use Rattle.wkb_c.proofs.LevelRows.{written_step}
use Rattle.wkb_c.proofs.RowItems.{lent_rest}
use Rattle.wkb_c.proofs.from_coordinates.write_level_row.Goals as goal

pub returns-in-Whole-clause-step : goal.returns-in-Whole-clause-step
returns-in-Whole-clause-step c =
    written_step c.in-Some.target c.in-Some.is (sym c.is_unset-null.ensures ∙ c.if-null-2.false)
    (lent_rest c.args.out.now c.write_row.new.out c.min-at.result c.min-at.ensures c.write_row.auto.out)
    (rw c.requires.levels at c.in-Whole.ensures.written)

pub returns-in-LacksRoom-clause-step : goal.returns-in-LacksRoom-clause-step
returns-in-LacksRoom-clause-step c =
    written_step c.in-Some.target c.in-Some.is (sym c.is_unset-null.ensures ∙ c.if-null-2.false)
    (lent_rest c.args.out.now c.write_row.new.out c.min-at.result c.min-at.ensures c.write_row.auto.out)
    (rw c.requires.levels at c.in-LacksRoom.ensures.written)

pub returns-in-Unfit-clause-step : goal.returns-in-Unfit-clause-step
returns-in-Unfit-clause-step c =
    written_step c.in-Some.target c.in-Some.is (sym c.is_unset-null.ensures ∙ c.if-null-2.false)
    (lent_rest c.args.out.now c.write_row.new.out c.min-at.result c.min-at.ensures c.write_row.auto.out)
    (rw c.requires.levels at c.in-Unfit.ensures.written)
