-- Parts read one after the other, as a loop does, and lists of them after a count.
use Rattle.wkb_view.proofs.Prelude.{◌≡◌, ℕ, suc, ◌+◌, ◌-◌, ◌≤◌, ◌<◌, List, [], ◌∷◌, ◌++◌, Ok, refl, ap, arith, Bool}
use Rattle.wkb_view.proofs.Prelude.{length, drop, append-nil, Cause, ReadError, one_turn, Outcome, Reading, costs, done}
use Rattle.wkb_view.proofs.Prelude.{count_in, and_then, repeated, Layout, Item, number, multi_point_end, slots_asked}
use Rattle.wkb_view.proofs.Prelude.{consumed, body_start, parts_start, list_item, member_at, multi_point_with, Counts}
use Rattle.wkb_view.proofs.Prelude.{Spent, next_turn, cost_of, CanCount, Stops, entries_asked, HasNoList}
use Rattle.std.proofs.Common.{append_assoc, cond, ltb}
use Rattle.wkb_view.specs.Prelude.{refused, end_of_input, free, list_at}
use Rattle.wkb_view.specs.Members.{parts_behind}
use Rattle.wkb_view.proofs.Algebra.{repeated_more, repeated_none, turn_begins, all_read, part_within, part_counted}
use Rattle.wkb_view.proofs.Algebra.{part_leads, part_stops}
use Rattle.wkb_view.specs.Prelude.read_errors
unfoldable use Rattle.wkb_geom.specs.Reading.{multi_point_at, multi_polygon_at}

-- what costs nothing spends nothing
pub freely : {A : Type 0} (r : Reading A) (p : Outcome A) (c : Counts) → r ≡ (free, p) → (r.1 ≡ p) × Spent c c r.0
freely {A = A} r p c is = (ap (λ (q : Reading A). q.1) is, rw is (record { turns = omega arith; slots = omega arith }))

-- what is rejected at no cost stops there
pub refused_stops : {A : Type 0} (r : Reading A) (bytes : List ℕ) (cause : Cause) (c : Counts) → r ≡ refused bytes cause
    → Stops (read_errors.Cause cause) r c c
refused_stops r bytes cause c is = rw is (refl, record { turns = omega arith; slots = omega arith })

-- the parts so far, and those still to be read
abbrev goes_on : {A : Type 0} → List A → Reading (List A) → Reading (List A)
goes_on front r = and_then r (λ xs after. done (front ++ xs) after)

-- after i of the parts: what was counted and what is left to be read lead to the whole
pub record Loop {A : Type 0} (part : List ℕ → Reading A) (count i : ℕ) (front : List A) (rest : List ℕ)
    (start now : Counts)
    (whole : Reading (List A)) : Type 0 where
  pub leads : costs (cost_of now) (goes_on front (repeated (count - i) part rest)) ≡ costs (cost_of start) whole

-- the next part, and the n parts after it
abbrev with_next : {A : Type 0} → (List ℕ → Reading A) → ℕ → List A → A → List ℕ → Reading (List A)
with_next part n front x after = goes_on (front ++ x ∷ []) (repeated n part after)

module _ {A : Type 0} {start : Counts} {whole : Reading (List A)} {part : List ℕ → Reading A} {count i : ℕ}
    {front : List A} {rest : List ℕ} {old : Counts} where
  module _ (lt : i < count) (loop : Loop part count i front rest start old whole) where
    next_leads : costs (cost_of (next_turn old)) (and_then (part rest) (with_next part (count - (i + 1)) front))
        ≡ costs (cost_of start) whole
    next_leads =
        let n = count - (i + 1) in
        let k : count - i ≡ suc n = omega arith in
        let same : costs one_turn (and_then (part rest) (with_next part n front))
        ≡ costs one_turn (and_then (part rest) (λ x r.
        and_then (repeated n part r) (λ xs after. done (front ++ x ∷ xs) after))) =
        grind (arith, costs, one_turn, and_then, repeated, done, append_assoc) in
        grind (arith, turn_begins, repeated_more)

    -- what the next part costs is among the cost of the whole
    pub part_costs : (old.turns + 1 + (part rest).0.turns ≤ start.turns + whole.0.turns)
        × (old.slots + (part rest).0.slots ≤ start.slots + whole.0.slots)
    part_costs = part_within (part rest) _ whole start (next_turn old) next_leads

    -- a part that was read
    pub next_part : (new : Counts) (x : A) (after : List ℕ) → (part rest).1 ≡ Ok (x, after)
        → Spent (next_turn old) new (part rest).0
        → Loop part count (i + 1) (front ++ x ∷ []) after start new whole
    next_part new x after is spent = grind (arith, part_leads, next_leads)

    -- a part that stops
    pub loop_stops : (e : ReadError) (new : Counts) → Stops e (part rest) (next_turn old) new → Stops e whole start new
    loop_stops e new stops = part_stops e (part rest) _ whole start (next_turn old) new next_leads stops

  -- no part is left
  pub parts_end : count ≤ i → Loop part count i front rest start old whole
      → (whole.1 ≡ Ok (front, rest)) × Spent start old whole.0
  parts_end le loop = grind (arith, repeated_none, append-nil, all_read)

-- ---- a list of parts after a count, and what its entries cost

pub parts_length : (srid : Bool) (bytes : List ℕ)
    → length (parts_start srid bytes) ≡ length bytes - (body_start srid + 4)
parts_length srid bytes = grind arith

-- a list of n parts, for which entries were asked for between the two: its parts lead to the whole
pub record IsList {A : Type 0} (l : Layout) (part : List ℕ → Reading A) (end : List A → List ℕ → Item)
    (bytes : List ℕ) (n : ℕ) (old mid : Counts)
    (whole : Reading Item) : Type 0 where
  pub grows : old.slots ≤ mid.slots
  pub leads : costs (cost_of mid)
      (and_then (parts_behind part l n bytes) (λ xs after. done (end xs (consumed bytes after)) after))
      ≡ costs (cost_of old) whole

-- a count that is there, and the entries that were asked for
module _ (l : Layout) (bytes : List ℕ) (n : ℕ) (old mid : Counts) (whole : body_start l.has_srid + 4 ≤ length bytes)
    (counted : n ≡ count_in l bytes) (turns : mid.turns ≡ old.turns) where
  abbrev Asked : ℕ → Type 0
  Asked k = mid.slots ≡ old.slots + slots_asked k (count_in l bytes) (length bytes - (body_start l.has_srid + 4))

  pub list_here : {A : Type 0} (k : ℕ) (part : List ℕ → Reading A) (end : List A → List ℕ → Item) → Asked k
      → IsList l part end bytes n old mid (list_at k l part end bytes)
  list_here k part end slots = grind arith

-- A list whose count is cut short, or for whose entries an allocation fails: its reading, if the count is there, costs
-- the entries that were asked for.
module _ (least : ℕ) (l : Layout) (bytes : List ℕ) where
  abbrev has_no_count : Bool
  has_no_count = ltb (length bytes) (body_start l.has_srid + 4)

  module _ (long : Reading Item) (asked : entries_asked least l bytes ≤ long.0.slots) where
    abbrev list_or_cut : Reading Item
    list_or_cut = cond has_no_count (refused bytes end_of_input) long

    pub entries_within : entries_asked least l bytes ≤ list_or_cut.0.slots
    entries_within = grind (arith, asked)

    pub list_refused : (error : ReadError) (old new : Counts) → HasNoList l bytes error → new.turns ≡ old.turns
        → new.slots ≡ old.slots + entries_asked least l bytes → Stops error list_or_cut old new
    list_refused error old new none turns slots = grind arith

pub polygons_within : (l : Layout) (bytes : List ℕ) → entries_asked 9 l bytes ≤ (multi_polygon_at l bytes).0.slots
unfolding multi_polygon_at
polygons_within l bytes = entries_within 9 l bytes _ (omega (arith, parts_length l.has_srid bytes))

-- where its bytes are there, a multi point is a list that asks for no entry
pub points_here : (l : Layout) (bytes : List ℕ) (n : ℕ) (old : Counts)
    → n ≡ number l.order 4 (drop (body_start l.has_srid) bytes)
    → multi_point_end l.dimension l.has_srid n ≤ length bytes
    → IsList l (member_at 1 l.dimension) (list_item l multi_point_with) bytes n old old (multi_point_at l bytes)
unfolding multi_point_at
points_here l bytes n old counted enough = grind arith

module _ {A : Type 0} {n : ℕ} {l : Layout} {part : List ℕ → Reading A} {end : List A → List ℕ → Item}
    {bytes : List ℕ} {old mid : Counts} {whole : Reading Item} (h : IsList l part end bytes n old mid whole) where
  abbrev parts : Reading (List A)
  parts = parts_behind part l n bytes

  abbrev made : List A → List ℕ → Reading Item
  made xs after = done (end xs (consumed bytes after)) after

  -- what can be counted of the whole can be counted of its parts
  pub list_fits : CanCount old whole.0 → CanCount mid parts.0
  list_fits = part_counted parts made whole old mid h.leads

  -- a list whose parts are read
  pub list_reads : (new : Counts) (xs : List A) (rest : List ℕ) → parts.1 ≡ Ok (xs, rest) → Spent mid new parts.0
      → (whole.1 ≡ Ok (end xs (consumed bytes rest), rest)) × Spent old new whole.0
  list_reads new xs rest is spent = grind arith

  -- a list whose parts stop
  pub list_stops : (e : ReadError) (new : Counts) → Stops e parts mid new → Stops e whole old new
  list_stops e new stops = part_stops e parts made whole old mid new h.leads stops
