-- The entries of a table: of rings one after another, and of geometries and what is inside each.
use Rattle.wkb_abi.proofs.Common.{◌≡◌, ℕ, suc, ◌+◌, ◌-◌, ◌<◌, ◌≤◌, ◌^◌, List, [], ◌∷◌, ◌++◌, length, drop, set, refl}
use Rattle.wkb_abi.proofs.Common.{ap, arith, length-append, sets, length-sets, width, number, Piece}
use Rattle.wkb_abi.proofs.Common.{Dimension, Endianness, Spelling, Value, Subject, subjects, subjects_of_each}
use Rattle.std.proofs.Common.{add-one, get_or, length-set}
use Rattle.std.proofs.lemmas.List.{set_comm, set-set}
use lib.Seq.{get_or-set_same}
use Rattle.wkb_check.specs.Prelude.{AreWhole, HasGeometry, HasGeometries, ring, subjects_of_rings}
use Rattle.wkb_check.specs.Pieces.{own_end, piece_of, piece_at, ring_piece, last_end, first_rings}
use Rattle.wkb_check.proofs.Placing.{inner, itself_first, sets_after, end_append, end_onward, first_one, begun_at}
use Rattle.wkb_check.proofs.Placing.{behind_geometry}
use Rattle.wkb_check.proofs.Rings.{next_ring}
use Rattle.wkb_abi.specs.declared.{parts.Part.Part, parts.PartPlace.PartPlace}
use Rattle.wkb_abi.specs.Tables.{entry_of, entry_at, entries_from, geometry_entries, EndsPart}

pub width_is_small : (d : Dimension) → width d < 2 ^ 32
width_is_small d = grind arith

pub as_many_entries : (index at : ℕ) (xs : List Subject) → length (entries_from index at xs) ≡ length xs
as_many_entries index at [] = refl
as_many_entries index at (x ∷ xs) = omega (arith, as_many_entries (index + 1) (own_end (piece_at at x)) xs)

entries_append : (index at next to : ℕ) (xs ys : List Subject) → next ≡ index + length xs → to ≡ last_end at xs
    → entries_from index at xs ++ entries_from next to ys ≡ entries_from index at (xs ++ ys)
entries_append index at next to [] ys n e = grind arith
entries_append index at next to (x ∷ xs) ys n e =
    grind (arith, entries_append (index + 1) (own_end (piece_at at x)) next to xs ys (omega (arith, n)) e)

-- What is left of some subjects, from the next byte on, makes of the table at the next index what all make of it.
pub record AreLeft (xs all : List Subject) (index at first start : ℕ) (parts before : List Part) : Type 0 where
  pub bytes : last_end at xs ≡ last_end start all
  pub laid : sets parts index (entries_from index at xs) ≡ sets before first (entries_from first start all)
  pub long : length parts ≡ length before

-- the entries of those that come first are laid
left_more : {xs all : List Subject} {index at first start next to : ℕ} {parts before new : List Part}
    → AreLeft xs all index at first start parts before → (own others : List Subject) → xs ≡ own ++ others
    → new ≡ sets parts index (entries_from index at own) → next ≡ index + length own → to ≡ last_end at own
    → AreLeft others all next to first start new before
left_more {index = index} {at} {next = next} {to} {parts} left own others are laid n b =
    grind (arith, sets_after, as_many_entries, end_append, entries_append, length-sets)

-- of the rings of a polygon these are left
pub record RingsLeft (buf : List ℕ) (order : Endianness) (d : Dimension) (n index at : ℕ) (parts : List Part)
    (all first start : ℕ) (before : List Part) : Type 0 where
  pub whole : AreWhole order d n (drop at buf)
  pub indices : index + n ≡ first + all
  pub left : AreLeft (first_rings order d n (drop at buf)) (first_rings order d all (drop start buf)) index at first
      start parts before

pub ring_laid : {buf : List ℕ} {order : Endianness} {d : Dimension} {n m index at : ℕ} {parts : List Part}
    {all first start : ℕ} {before : List Part} → RingsLeft buf order d n index at parts all first start before
    → n ≡ suc m → (p : Part) (next : ℕ)
    → next ≡ own_end (ring_piece order d at (number order 4 (drop at buf)))
    → p ≡ entry_of (ring_piece order d at (number order 4 (drop at buf))) next (index + 1)
    → RingsLeft buf order d m (index + 1) next (set parts index p) all first start before
ring_laid {buf} {order} {d} {n} {m} {index} {at} {parts} l e p next ends is =
    let r = next_ring buf order d n m at next l.whole e ends in
    let entry : p ≡ entry_at index at (ring order d r.ring) = grind arith in
    record {
      whole = r.whole;
      indices = omega (arith, l.indices, e);
      left =
          left_more l.left (ring order d r.ring ∷ []) _ (ap (subjects_of_rings order d) r.are)
          (ap (set parts index) entry) refl r.next_is;
    }

-- ---- stores

module _ {A : Type 0} where
  set_first : (l : List A) (i j : ℕ) (a : A) (vs : List A) → i < j → set (sets l j vs) i a ≡ sets (set l i a) j vs
  set_first l i j a [] h = refl
  set_first l i j a (v ∷ vs) h = grind (arith, set_comm, set_first (set l j v) i (suc j) a vs (omega (arith, h)))

  -- an item that is laid last, before others
  laid_first : (l r : List A) (i : ℕ) (a : A) (vs : List A) → r ≡ sets l (i + 1) vs → set r i a ≡ sets l i (a ∷ vs)
  laid_first l r i a vs e = rw (e, ← add-one i) (set_first l i (i + 1) a vs (omega arith))

-- ---- the end of a part

-- an entry with another end, and one with another index behind it
abbrev with_end : Part → ℕ → Part
with_end e end = record {
  begin = e.begin;
  end = end;
  offset = e.offset;
  count = e.count;
  next = e.next;
  srid = e.srid;
  has_srid = e.has_srid;
  kind = e.kind;
  dimension = e.dimension;
  width = e.width;
  order = e.order;
}

abbrev with_next : Part → ℕ → Part
with_next e next = record {
  begin = e.begin;
  end = e.end;
  offset = e.offset;
  count = e.count;
  next = next;
  srid = e.srid;
  has_srid = e.has_srid;
  kind = e.kind;
  dimension = e.dimension;
  width = e.width;
  order = e.order;
}

-- what was laid at an index is changed there
pub ended : (old before : List Part) (i : ℕ) (e none : Part) (end next : ℕ) → i < length old → old ≡ set before i e
    → set (set old i (with_end (get_or old i none) end)) i
    (with_next (get_or (set old i (with_end (get_or old i none) end)) i none) next)
    ≡ set before i (with_next (with_end e end) next)
ended old before i e none end next there is = grind (arith, get_or-set_same, length-set, set-set)

-- ---- a geometry

-- The entry of this geometry and of what is inside it are laid at this index, and the next place is the one after them.
pub record IsLaid (parts new : List Part) (index at next to : ℕ) (s : Spelling) (t : Value) : Type 0 where
  pub laid : new ≡ sets parts index (geometry_entries index at s t)
  pub next_is : next ≡ index + length (subjects s t)
  pub to_is : to ≡ last_end at (subjects s t)

-- the entries of what is inside it are laid behind its own, with which they are so many, and this is the next place
pub record LaysInside (parts new : List Part) (index from : ℕ) (after : PartPlace) (inside : List Subject) (many : ℕ)
    : Type 0 where
  pub laid : new ≡ sets parts (index + 1) (entries_from (index + 1) from inside)
  pub index_is : after.index ≡ index + many
  pub byte_is : after.byte ≡ last_end from inside

-- its own entry, which was laid before, ends there then
pub item_laid : (buf : List ℕ) (at : ℕ) (g : HasGeometry (drop at buf)) (p : Piece)
    → (is : p ≡ piece_of at g.spelled g.value) → {parts with ended : List Part} {index from : ℕ} {after : PartPlace}
    → from ≡ own_end p → (e : Part) → e ≡ entry_of p from (index + 1)
    → LaysInside (set parts index e) with index from after (inner g.spelled g.value)
    (length (subjects g.spelled g.value))
    → EndsPart with ended index after → IsLaid parts ended index at after.index after.byte g.spelled g.value
item_laid buf at g p is {parts} {with} {ended} {index} {from} {after} ends e e-is inside ends_part =
    let own = inner g.spelled g.value in
    let behind = sets parts (index + 1) (entries_from (index + 1) from own) in
    let first : with ≡ set behind index e = grind (arith, set_first) in
    grind (arith, laid_first, itself_first)

-- ---- the loop over geometries

-- of the geometries these are left
pub record Left (buf : List ℕ) (total start : ℕ) (more : List ℕ) (all : HasGeometries total (drop start buf) more)
    (first : ℕ) (before : List Part) (n index at : ℕ) (parts : List Part) : Type 0 where
  pub to_come : HasGeometries n (drop at buf) more
  pub indices : index + length (subjects_of_each to_come.spelled to_come.values)
      ≡ first + length (subjects_of_each all.spelled all.values)
  pub left : AreLeft (subjects_of_each to_come.spelled to_come.values) (subjects_of_each all.spelled all.values) index
      at first start parts before
  pub onward : start ≤ at

-- a geometry that is there, and its entries fit the table
pub record Here (buf : List ℕ) (at index : ℕ) (parts : List Part) : Type 0 where
  pub geometry : HasGeometry (drop at buf)
  pub room : index + length (subjects geometry.spelled geometry.value) ≤ length parts
  pub some : 1 ≤ length (subjects geometry.spelled geometry.value)

module _ {buf more : List ℕ} {total start : ℕ} {all : HasGeometries total (drop start buf) more} {first : ℕ}
    {before : List Part} where
  pub left_first : {n : ℕ} → n ≡ total → Left buf total start more all first before n first start before
  left_first e =
      rw e (record {
        to_come = all;
        indices = refl;
        left = record { bytes = refl; laid = refl; long = refl };
        onward = omega arith;
      })

  module _ {n index at : ℕ} {parts : List Part} (l : Left buf total start more all first before n index at parts) where
    pub left_next : {m : ℕ} → n ≡ suc m → (next to : ℕ) (after : List Part)
        → ((g : HasGeometry (drop at buf)) → IsLaid parts after index at next to g.spelled g.value)
        → Left buf total start more all first before m next to after
    left_next {m = m} e next to after item =
        let f = first_one n m (drop at buf) more l.to_come e in
        let g = f.geometry in
        let i = item g in
        let own = subjects g.spelled g.value in
        let others = subjects_of_each f.others.spelled f.others.values in
        record {
          to_come = begun_at (behind_geometry buf at to g i.to_is).0 f.others;
          indices = omega (arith, l.indices, ap length f.are, length-append own others, i.next_is);
          left = left_more l.left own others f.are i.laid i.next_is i.to_is;
          onward = omega (arith, l.onward, i.to_is, end_onward at own);
        }

    pub here : 0 < n → first + length (subjects_of_each all.spelled all.values) ≤ length before
        → Here buf at index parts
    here some fit =
        let f = first_one n (n - 1) (drop at buf) more l.to_come (omega (arith, some)) in
        let own = subjects f.geometry.spelled f.geometry.value in
        let others = subjects_of_each f.others.spelled f.others.values in
        record {
          geometry = f.geometry;
          room = omega (arith, fit, l.indices, ap length f.are, length-append own others, l.left.long);
          some = omega (arith, ap length (itself_first f.geometry.spelled f.geometry.value));
        }
