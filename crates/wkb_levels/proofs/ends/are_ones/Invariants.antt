use Rattle.std.proofs.Common.{◌≡◌, ℕ, ◌<◌, ◌+◌, slice_index}
use Rattle.wkb_levels.specs.Cuts.{start_at}
use Rattle.wkb_levels.proofs.ends.are_ones.Given as goal

abbrev pub invariant-loop-end : goal.invariant-loop-end
invariant-loop-end l =
    (l.at ≡ start_at l.start l.ends l.end-index)
    × ((i : ℕ) → i < l.end-index → slice_index l.ends i ≡ start_at l.start l.ends i + 1)
