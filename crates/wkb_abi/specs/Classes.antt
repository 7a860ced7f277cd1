-- The classes of statuses. Later versions add statuses inside them.
use Rattle.std.specs.Prelude.{ℕ, ◌<◌, ◌≤◌, ◌^◌}

-- a row has no bytes, or its levels are bad
pub record IsRowStatus (status : ℕ) : Type 0 where
  pub least : 16 ≤ status
  pub below : status < 32

-- a row has no bytes, or is rejected
abbrev pub TellsOfRow : ℕ → Type 0
TellsOfRow status = 16 ≤ status

-- the input is rejected
abbrev pub IsRefusalStatus : ℕ → Type 0
IsRefusalStatus status = 32 ≤ status

-- the input isn't rejected, or nobody looked at it
abbrev pub IsNoRefusal : ℕ → Type 0
IsNoRefusal status = status < 32

-- the input is rejected because it ends too early, and the fault tells where it ends and where it would
abbrev pub IsShortStatus : ℕ → Type 0
IsShortStatus status = 48 ≤ status

-- a byte of a column's statuses has room for it
abbrev pub FitsByte : ℕ → Type 0
FitsByte status = status < 2 ^ 8
