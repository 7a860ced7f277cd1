-- Parts of one form after a count, and the offsets at which they end.
use Rattle.std.proofs.Common.{◌≡◌, ℕ, ◌+◌, ◌/◌, ◌≤◌, List, min, map, Vec, Global, Result, refl, arith}
use Rattle.std.specs.Borrow.{Bor}
use Rattle.wkb_geom.specs.declared.code.TheConstants.{LINE_STRING, POLYGON, MULTI_LINE_STRING}
use Rattle.wkb_geom.specs.declared.header.TheConstants.{MIN_MEMBER_SIZE}
use Rattle.wkb_geom.specs.declared.words.TheConstants.{COUNT_SIZE}
use Rattle.wkb_view.specs.Prelude.{Layout, Item, Reading, Cause, ReadError, list_at, slots_asked, body_start, consumed}
use Rattle.wkb_view.specs.Prelude.{ring_part, polygon_item, member_at, list_item, multi_line_string_with}
use Rattle.wkb_view.specs.declared.{counts.Counts.Counts, reserved.Reserved.Reserved}
use Rattle.wkb_view.specs.Entries.{entries}
use Rattle.wkb_view.specs.Members.{parts_behind, pieces_behind, IsMemberOfKind, member_item}
use Rattle.wkb_view.specs.Outcome.{CountsOutcome, CountsOrStops}
use Rattle.wkb_view.specs.Passes.{passed_as}
use Rattle.wkb_view.specs.Pieces.{ArePieces, IsRingPart}

-- Parts of at least `least` bytes: the kind of the whole, how a part is read, what is seen in its bytes and their form,
-- and the whole by its parts and its bytes. The whole asks for as many entries as the remaining bytes can hold.
pub record PartsOf (least : ℕ) : Type 1 where
  pub kind : ℕ
  pub Read : Type 0
  pub reading : List ℕ → Reading Read
  pub seen : List ℕ → Read
  pub IsPart : List ℕ → Type 0
  pub whole : List Read → List ℕ → Item
  pub counted : COUNT_SIZE ≤ least
  pub slots : (n remaining : ℕ) → slots_asked kind n remaining ≡ min n (remaining / least)

-- the rings of a polygon
abbrev pub ring_parts : Layout → PartsOf COUNT_SIZE
ring_parts l =
    record {
      kind = POLYGON;
      Read = List ℕ;
      reading = ring_part l;
      seen = λ ring. ring;
      IsPart = IsRingPart l.order l.dimension;
      whole = polygon_item l;
      counted = omega arith;
      slots = λ n remaining. refl;
    }

-- the line strings of a multi line string
abbrev pub line_string_parts : Layout → PartsOf MIN_MEMBER_SIZE
line_string_parts l =
    record {
      kind = MULTI_LINE_STRING;
      Read = Item;
      reading = member_at LINE_STRING l.dimension;
      seen = member_item LINE_STRING l.dimension;
      IsPart = IsMemberOfKind LINE_STRING l.dimension;
      whole = list_item l multi_line_string_with;
      counted = omega arith;
      slots = λ n remaining. refl;
    }

module _ {least : ℕ} (parts : Layout → PartsOf least) (l : Layout) where
  -- the whole at the start of the bytes
  abbrev pub whole_at : List ℕ → Reading Item
  whole_at bytes = list_at (parts l).kind l (parts l).reading (parts l).whole bytes

  -- the n parts after its count
  abbrev pub parts_at : ℕ → List ℕ → Reading (List (parts l).Read)
  parts_at n bytes = parts_behind (parts l).reading l n bytes

  -- the parts that end at these offsets
  abbrev pub parts_ending : List ℕ → List ℕ → List (parts l).Read
  parts_ending ends encoding = map (parts l).seen (pieces_behind l ends encoding)

  -- each of these offsets is the end of a part, in the bytes that were passed
  abbrev pub AreEndsOf : List ℕ → List ℕ → Bor (List ℕ) → Type 0
  AreEndsOf ends bytes rest = ArePieces (parts l).IsPart (body_start l.has_srid + 4) ends (consumed bytes rest.now)

  -- n parts were passed, and these are their ends, or one is rejected
  abbrev pub PassesParts : ℕ → List ℕ → Result (Reserved ℕ × Bor (List ℕ)) Cause → Counts → Counts → Type 0
  PassesParts n bytes result old new =
      CountsOutcome (λ x. passed_as (parts_ending (entries x.0)) bytes x.1) result (parts_at n bytes) old new

  -- the whole was passed, and these are the ends of its parts, or the reader stopped
  abbrev pub ReadsEnds : List ℕ → Result (Vec ℕ Global × Bor (List ℕ)) ReadError → Counts → Counts → Type 0
  ReadsEnds bytes result old new =
      CountsOrStops (λ x. passed_as (λ t. (parts l).whole (parts_ending x.0.items t) t) bytes x.1)
      result (whole_at bytes) old new
