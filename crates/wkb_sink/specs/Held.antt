-- What the sinks hold.
use Rattle.std.specs.Prelude.{ℕ, ◌+◌, ◌≤◌, Bool, List, length}

-- a writer, and whether the sink over it has failed
pub record Outward (W : Type 0) : Type 0 where
  pub writer : W
  pub failed : Bool

-- the bytes in memory, for how many there is room without another allocation, and whether the sink has failed
pub record Growing : Type 0 where
  pub bytes : List ℕ
  pub capacity : ℕ
  pub failed : Bool

-- there is room for these bytes without another allocation
abbrev pub FitsCapacity : Growing → List ℕ → Type 0
FitsCapacity s bytes = length s.bytes + length bytes ≤ s.capacity

-- the bytes that were put into a slice, how many more it takes, and whether the sink has failed
pub record Lent : Type 0 where
  pub bytes : List ℕ
  pub room : ℕ
  pub failed : Bool
