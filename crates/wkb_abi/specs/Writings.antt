-- The bytes that an encoding is written into.
use Rattle.std.specs.Prelude.{◌≡◌, ◌≢◌, ◌⊎◌, ◌↔◌, ℕ, ◌+◌, ◌≤◌, List, length, Some, None}
use Rattle.wkb_abi.specs.Room.{AreWritten, FindsNoRoom}
use Rattle.wkb_abi.specs.declared.{options.Options.Options, options.Request.Request, fault.WkbFault.WkbFault}
use Rattle.wkb_abi.specs.declared.{status.TheConstants.OK, status.TheConstants.NO_ROOM}
use Rattle.wkb_abi.specs.declared.status.TheConstants.{UNKNOWN_OPTION}
use Rattle.wkb_abi.specs.Columns.{IsRefusedWith}
use Rattle.wkb_abi.specs.Requests.{request_of, IsRequested}
use Rattle.wkb_abi.specs.Classes.{IsRefusalStatus, IsNoRefusal}
use Rattle.wkb_abi.specs.Statuses.{IsFault, IsStatusOfWriting}

-- The encoding that is asked for was written, or doesn't fit its room. Its length is told, which is at most four bytes
-- more than the input's.
pub record WritesRequested (request : Request) (input before after : List ℕ) (status size : ℕ) : Type 0 where
  pub written : status ≡ OK → AreWritten (IsRequested request input) before after size
  pub no_room : status ≡ NO_ROOM → FindsNoRoom (IsRequested request input) before size
  pub bound : size ≤ length input + 4
  pub known : (status ≡ OK) ⊎ (status ≡ NO_ROOM)
  pub long : length after ≡ length before
  pub out_kept : status ≢ OK → after ≡ before

-- the encoding that the options ask for of the input's geometry
pub record HasEncoding (o : Options) (input encoding : List ℕ) : Type 0 where
  pub request : Request
  pub asked : request_of o ≡ Some request
  pub is_requested : IsRequested request input encoding

-- The effect of options, after a check has found the geometry: the encoding that they request is written, or doesn't
-- fit the capacity; or they mean nothing.
pub record WritesAsked (o : Options) (input before after : List ℕ) (status size size' : ℕ) : Type 0 where
  pub written : status ≡ OK → AreWritten (HasEncoding o input) before after size'
  pub no_room : status ≡ NO_ROOM → FindsNoRoom (HasEncoding o input) before size'
  pub unknown : (status ≡ UNKNOWN_OPTION) ↔ (request_of o ≡ None)
  pub bound : (status ≡ OK) ⊎ (status ≡ NO_ROOM) → size' ≤ length input + 4
  pub known : ((status ≡ OK) ⊎ (status ≡ NO_ROOM)) ⊎ (status ≡ UNKNOWN_OPTION)
  pub long : length after ≡ length before
  pub out_kept : status ≢ OK → after ≡ before
  pub size_kept : status ≢ OK → status ≢ NO_ROOM → size' ≡ size

-- The effect of options on any bytes: that on the geometry at their start, or the status of their refusal.
pub data WritesAny (o : Options) (input before after : List ℕ) (status size size' : ℕ) : Type 0 where
  accepted : WritesAsked o input before after status size size' → WritesAny o input before after status size size'
  rejected : request_of o ≢ None → IsRefusedWith input status → after ≡ before → size' ≡ size
      → WritesAny o input before after status size size'

-- what a call does that writes the encoding that the options ask for
pub record Encodes (o : Options) (input before after : List ℕ) (size size' : ℕ) (fault fault' : WkbFault)
    (status : ℕ) : Type 0 where
  pub written : status ≡ OK → AreWritten (HasEncoding o input) before after size'
  pub no_room : status ≡ NO_ROOM → FindsNoRoom (HasEncoding o input) before size'
  pub unknown : (status ≡ UNKNOWN_OPTION) ↔ (request_of o ≡ None)
  pub bound : (status ≡ OK) ⊎ (status ≡ NO_ROOM) → size' ≤ length input + 4
  pub refused : IsRefusalStatus status → IsFault input status fault'
  pub known : IsStatusOfWriting status
  pub out_kept : status ≢ OK → after ≡ before
  pub size_kept : status ≢ OK → status ≢ NO_ROOM → size' ≡ size
  pub fault_kept : IsNoRefusal status → fault' ≡ fault

-- there is no encoding, and this status says why
pub data FailsToWrite (o : Options) (input : List ℕ) (status : ℕ) : Type 0 where
  unknown : request_of o ≡ None → status ≡ UNKNOWN_OPTION → FailsToWrite o input status
  refused : request_of o ≢ None → (fault : WkbFault) → IsFault input status fault → FailsToWrite o input status
