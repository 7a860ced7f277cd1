use Rattle.std.proofs.Common.{◌≡◌, ◌≤◌, ℕ, ◌<◌, slice_index}
use Rattle.wkb_levels.specs.Cuts.{start_at}
use Rattle.wkb_levels.proofs.ends.are_ends.Given as goal

abbrev pub invariant-loop-end : goal.invariant-loop-end
invariant-loop-end l =
    (l.at ≡ start_at l.start l.ends l.end-index)
    × ((l.start ≤ l.at)
    × ((i : ℕ) → i < l.end-index
    → (start_at l.start l.ends i ≤ slice_index l.ends i) × (slice_index l.ends i ≤ l.at)))
