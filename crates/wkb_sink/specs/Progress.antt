-- How far an encoding has come on its way through a block to a sink.
use Rattle.std.specs.Prelude.{◌≡◌, ℕ, ◌<◌, ◌≤◌, Bool, true, false, List, [], ◌++◌, ◌-◌, length, take}
use Rattle.std.specs.Prelude.{Option, Result, MatchResult}
use Rattle.std.specs.Io.KnownBytes.{Appends}
use Rattle.wkb_sink.specs.Blocks.{Waiting, block_size}
use Rattle.wkb_sink.specs.declared.{block.TheConstants.MIN_BLOCK, buffered.Buffered.Buffered, buffered.Stopped.Stopped}
use Rattle.wkb_sink.specs.declared.sink.Sink.{Ghosts}

-- which sink it is, the bytes that were appended, where it tells them, whether it has failed, what is known of the
-- error that is kept, and the block
pub record Progress : Type 1 where
  pub sink : ℕ
  pub appended : Option (List ℕ)
  pub failed : Bool
  pub fails_by : Type 0
  pub block : Waiting

-- the encoding was laid after what waited, and some of these bytes were appended, nothing if the block had room for
-- n bytes. The sink works
pub record Moves (old new : Progress) (encoding : List ℕ) (n : ℕ) : Type 0 where
  pub same : new.sink ≡ old.sink
  pub slice : new.block.slice ≡ old.block.slice
  pub size : block_size new.block ≡ block_size old.block
  pub works : new.failed ≡ false
  pub moved : List ℕ
  pub whole : old.block.waiting ++ encoding ≡ moved ++ new.block.waiting
  pub appended : Appends old.appended new.appended moved
  pub kept : n ≤ old.block.room → moved ≡ []

-- nothing was laid, and there is room for n bytes
abbrev pub IsReady : Progress → Progress → ℕ → Type 0
IsReady old new n = Moves old new [] n

-- the encoding was laid
abbrev pub IsLaid : Progress → Progress → List ℕ → Type 0
IsLaid old new encoding = Moves old new encoding (length encoding)

-- the sink failed by the error that is kept, after a strict prefix of what waited and the encoding was appended
pub record IsBroken (old new : Progress) (encoding : List ℕ) : Type 0 where
  pub same : new.sink ≡ old.sink
  pub stopped : new.failed ≡ true
  pub cause : new.fails_by
  pub front : List ℕ
  pub rest : List ℕ
  pub whole : old.block.waiting ++ encoding ≡ front ++ rest
  pub left : 0 < length rest
  pub appended : Appends old.appended new.appended front

-- the block had no room for n bytes, and the sink failed before the encoding was appended, or the block is too small
pub record RunsOut (old new : Progress) (encoding : List ℕ) (n : ℕ) : Type 0 where
  pub full : old.block.room < n
  pub broken : MIN_BLOCK ≤ block_size old.block → IsBroken old new encoding

-- n bytes found no room
abbrev pub IsShort : Progress → Progress → ℕ → Type 0
IsShort old new n = RunsOut old new [] n

-- the encoding found no room
abbrev pub IsCut : Progress → Progress → List ℕ → Type 0
IsCut old new encoding = RunsOut old new encoding (length encoding)

-- the encoding was laid, or the sink failed
abbrev pub Advances : Progress → Progress → List ℕ → Result (Unit {0}) Stopped → Type 0
Advances old new encoding r = MatchResult r (λ _. IsLaid old new encoding) (λ _. IsCut old new encoding)

-- what the block holds
abbrev pub held : {S : Type 0} {sink : Ghosts S} → Buffered S sink → Waiting
held out = record {
  slice = out.bytes.ghost_name;
  waiting = take out.len out.bytes.now;
  room = length out.bytes.now - out.len;
}

-- how far it has come with this sink and block, by the sink's ghost members
abbrev pub progress : {S : Type 0} (sink : Ghosts S) → Buffered S sink → Progress
progress sink out = record {
  sink = out.sink.ghost_name;
  appended = sink.appended out.sink.now;
  failed = sink.has_failed out.sink.now;
  fails_by = sink.fails_by out.sink.now out.error;
  block = held out;
}

-- a step laid the encoding by this sink and block, or the sink failed
abbrev pub Lays : {S : Type 0} (sink : Ghosts S) → Buffered S sink → Buffered S sink → List ℕ
    → Result (Unit {0}) Stopped → Type 0
Lays sink old new encoding r = Advances (progress sink old) (progress sink new) encoding r

-- a step made ready for n bytes, or the sink failed
abbrev pub Readies : {S : Type 0} (sink : Ghosts S) → Buffered S sink → Buffered S sink → ℕ
    → Result (Unit {0}) Stopped → Type 0
Readies sink old new n r =
    MatchResult r (λ _. IsReady (progress sink old) (progress sink new) n)
    (λ _. IsShort (progress sink old) (progress sink new) n)
