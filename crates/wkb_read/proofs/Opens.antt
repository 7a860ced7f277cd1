-- How a collection begins.
use Rattle.wkb_read.proofs.Prelude.{◌≡◌, ℕ, suc, ◌+◌, ◌-◌, ◌≤◌, ◌<◌, List, [], length, drop, false, ltb, refl, sym, ap}
use Rattle.wkb_read.proofs.Prelude.{◌∙◌, arith, drop-drop, number, Item, Cost, ◌⊕◌, one_turn, Reading, costs, done}
use Rattle.wkb_read.proofs.Prelude.{and_then, repeated, slots_of, body_start, consumed, Layout, closing, list_item}
use Rattle.wkb_read.proofs.Prelude.{collection_with, max_nesting, geometry_inside, after_member, collection_inside}
use Rattle.std.proofs.lemmas.Bool.{le-ltb}
use Rattle.wkb_view.specs.Entries.{entries_asked}
use Rattle.wkb_view.proofs.Lists.{parts_length}
use Rattle.wkb_view.proofs.Algebra.{cost_is, costs-costs, repeated_more, repeated_none}
unfoldable use Rattle.wkb_geom.specs.Reading.{collection_at}

-- more entries are asked for
abbrev pub more_slots : Cost → ℕ → Cost
more_slots c entries = record { turns = c.turns; slots = c.slots + entries }

more_slots_is : (c : Cost) (entries : ℕ) → more_slots c entries ≡ c ⊕ slots_of entries
more_slots_is c entries = cost_is _ _ (omega arith) refl

-- the collection's own list is asked for, and its members are read
pub opens : (l : Layout) (bytes : List ℕ) (depth n : ℕ) (spent : Cost) (rest : List ℕ) (r : Reading Item)
    → depth < max_nesting → body_start l.has_srid + 4 ≤ length bytes
    → n ≡ number l.order 4 (drop (body_start l.has_srid) bytes) → rest ≡ drop (body_start l.has_srid + 4) bytes
    → r ≡ and_then (repeated n (geometry_inside (suc depth)) rest) (closing l bytes)
    → costs (more_slots spent (entries_asked 9 l bytes)) r ≡ costs spent (collection_inside l depth bytes)
unfolding collection_at
opens l bytes depth n spent rest r shallow whole n-is rest-is r-is =
    let long : ltb (length bytes) (body_start l.has_srid + 4) ≡ false = le-ltb _ _ whole in
    let level : max_nesting - depth ≡ suc (max_nesting - suc depth) = omega arith in
    ap (λ (c : Cost). costs c r) (more_slots_is spent (entries_asked 9 l bytes))
    ∙ sym (costs-costs spent (slots_of (entries_asked 9 l bytes)) r)
    ∙ rw (
      r-is,
      level,
      long,
      ← parts_length l.has_srid bytes,
      ← n-is,
      drop-drop 4 (body_start l.has_srid) bytes,
      ← rest-is,
    ) refl

-- one without members is whole
pub without_members : (l : Layout) (bytes encoding rest : List ℕ) (n : ℕ) (member : List ℕ → Reading Item)
    (members : List Item) → n ≡ 0 → encoding ≡ consumed bytes rest
    → members ≡ []
    → done (list_item l collection_with members encoding) rest ≡ and_then (repeated n member rest) (closing l bytes)
without_members l bytes encoding rest n member members none encoding-is empty = grind (arith, repeated_none)

-- one with members goes on with the first
pub first_begins : (l : Layout) (bytes rest : List ℕ) (n : ℕ) (member : List ℕ → Reading Item) (members : List Item)
    → 0 < n → members ≡ []
    → costs one_turn (and_then (member rest) (after_member member l bytes (n - 1) members))
    ≡ and_then (repeated n member rest) (closing l bytes)
first_begins l bytes rest n member members some empty =
    let k : n ≡ suc (n - 1) = omega arith in
    grind (arith, repeated_more)
