-- Bytes that wait in a block on their way to a sink.
use Rattle.std.specs.Prelude.{◌≡◌, ℕ, ◌+◌, List, ◌++◌, length, take}

-- the slice that a block fills, the bytes that wait there, and how many more it holds
pub record Waiting : Type 0 where
  pub slice : ℕ
  pub waiting : List ℕ
  pub room : ℕ

-- how many bytes a block holds in all
abbrev pub block_size : Waiting → ℕ
block_size w = length w.waiting + w.room

-- after the bytes up to a place, the encoding was laid up to its end
pub record LaysAt (place end : ℕ) (old new encoding : List ℕ) : Type 0 where
  pub ends : end ≡ place + length encoding
  pub is : take end new ≡ take place old ++ encoding
