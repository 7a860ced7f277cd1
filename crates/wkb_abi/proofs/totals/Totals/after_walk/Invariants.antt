use Rattle.wkb_abi.proofs.Common.{HasGeometry, subjects, ◌≡◌}
use Rattle.wkb_check.specs.Pieces.{bytes_left}
use Rattle.wkb_abi.specs.Coordinates.{totals_after}
use Rattle.wkb_abi.proofs.Levels.{Coming, totals_behind}
use Rattle.wkb_abi.proofs.totals.Totals.after_walk.Given as goal

abbrev pub invariant-loop-piece : goal.invariant-loop-piece
invariant-loop-piece l =
    (g : HasGeometry l.row)
    → Coming l.pieces (λ ps. totals_behind l.to ps ≡ totals_after l.fn.self (subjects g.spelled g.value))

abbrev pub decreases-loop-piece : goal.decreases-loop-piece
decreases-loop-piece l = bytes_left l.pieces
