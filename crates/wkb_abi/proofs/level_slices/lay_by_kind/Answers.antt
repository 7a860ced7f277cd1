use Rattle.wkb_abi.proofs.Common.{arith, sym, ◌∙◌}
use Rattle.wkb_check.proofs.Placing.{only_piece}
use Rattle.wkb_abi.proofs.Levels.{first_fits, levels_fill}
use Rattle.wkb_abi.proofs.level_slices.lay_by_kind.Goals as goal

pub lay_piece_levels-requires : goal.lay_piece_levels-requires
lay_piece_levels-requires c =
    first_fits _ _ _ c.args.out.now c.requires.room (omega arith) (omega arith) (omega arith) c.requires.first
    c.requires.here

pub returns-then-has_coordinates-clause-levels : goal.returns-then-has_coordinates-clause-levels
returns-then-has_coordinates-clause-levels c = λ g.
    let a = c.args in
    let left = levels_fill a.asked a.row.now a.from a.out.now c.requires.room (omega arith) (omega arith) (omega arith)
    g in
    c.lay_piece_levels.ensures.laid
    ∙ (rw (only_piece a.row.now 0 g a.first.now (c.requires.first g)
    (sym c.has_coordinates.ensures ∙ c.if-has_coordinates.true)) at left).1
