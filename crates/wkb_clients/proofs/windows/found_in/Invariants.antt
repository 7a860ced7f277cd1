use Rattle.wkb.specs.Kept.{KeepsBefore}
use Rattle.wkb_clients.specs.Windows.{Meets, MeetsNone}
use Rattle.wkb_clients.proofs.windows.found_in.Given as goal

abbrev pub invariant-loop-row : goal.invariant-loop-row
invariant-loop-row l =
    KeepsBefore (λ b. Meets l.window b.now) (λ b. MeetsNone l.window b.now) l.rows l.found.items l.row-index
