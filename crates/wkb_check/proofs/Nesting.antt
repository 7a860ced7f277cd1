-- The loop over the open collections: what is looked at, and what is ahead of it.
use Rattle.std.proofs.Common.{◌≡◌, ℕ, zero, suc, ◌+◌, ◌-◌, ◌<◌, ◌≤◌, List, [], ◌∷◌, length, slice_set, sum_by, Bor}
use Rattle.std.proofs.Common.{Result, Ok, Err, refl, sym, arith, length-take, slice_index_or, replicate, Bool}
use Rattle.std.proofs.lemmas.List.{length-reverse}
use Rattle.std.proofs.lemmas.List.Sums.{sum_by-cons}
use Rattle.wkb_laws.specs.Prelude.{WkbType, Dimension, Cause, Head, Layout, max_nesting}
use Rattle.wkb_geom.specs.declared.code.WkbType.TheVariants as kinds
use Rattle.wkb_geom.specs.Reading.{Item, values, list_item, collection_with, layout_of, body_start, parts_start}
use Rattle.wkb_geom.specs.Reading.{count_in, HasNoCount, list_at, type_kind, Reading, done, point_item_of, costs}
use Rattle.wkb_geom.specs.Reading.{slots_of, and_then, polygon_item, consumed, body_at, geometry_inside}
unfoldable use Rattle.wkb_geom.specs.Reading.{geometry_at, by_type, point_at, line_string_at, polygon_at, head_at}
unfoldable use Rattle.wkb_geom.specs.Reading.{collection_at}
use Rattle.wkb_geom.specs.Counted.{coordinate_count_each}
use Rattle.wkb_check.specs.declared.nested.OpenCounts.{OpenCounts}
use Rattle.wkb_check.specs.Prelude.{Walk, type_walked, body_walked, inside_walked, Tally, Walked, walked, onward}
use Rattle.wkb_check.specs.Prelude.{item_coordinates, coordinates_by, ahead_of}
use Rattle.wkb_check.specs.Passes.{open_counts, IsFollowed, Passes, PassesOrOpens}
use Rattle.wkb_check.proofs.Counting.{no_count}
use Rattle.wkb_check.proofs.Closing.{top_set, top_is, none_left}

values_sum : (l : List Item) → coordinate_count_each (values l) ≡ sum_by item_coordinates l
values_sum [] = refl
values_sum (i ∷ l) = simp (sum_by-cons, values_sum l)

-- ---- a geometry with its header

module _ (u : Tally) (l : Layout) (bytes : List ℕ) where
  abbrev IsSame : ℕ → Reading Item → Type 0
  IsSame k r = walked item_coordinates r u ≡ walked (coordinates_by k) r u

  point_same : (encoding words : List ℕ) (empty : Bool) (rest : List ℕ)
      → IsSame 1 (done (point_item_of l encoding words empty) rest)
  point_same encoding words empty rest = grind arith

  rings_same : (n : ℕ) (r : Reading (List (List ℕ)))
      → IsSame 3
      (costs (slots_of n) (and_then r (λ rings rest. done (polygon_item l rings (consumed bytes rest)) rest)))
  rings_same n r = grind arith

  -- the coordinates of a geometry are those of one of its kind
  kind_same : (collection : Layout → List ℕ → Reading Item) (t : WkbType)
      → IsSame (type_kind t) (body_at collection t l bytes)
  unfolding point_at line_string_at polygon_at
  kind_same collection t = grind arith

pub with_header : (around : ℕ) (bytes : List ℕ) (h : Head) (t : Tally) → head_at bytes ≡ Ok h
    → inside_walked around bytes t ≡ body_walked around h bytes t
unfolding geometry_at by_type
with_header around bytes h t e = grind (arith, kind_same)

pub without_header : (around : ℕ) (bytes : List ℕ) (c : Cause) (t : Tally) → head_at bytes ≡ Err c
    → inside_walked around bytes t ≡ Err (t.0, (c, length bytes))
unfolding geometry_at by_type
without_header around bytes c t e = grind arith

-- ---- the open collections

module _ (depth : ℕ) (h : Head) (d : Dimension) (l : Layout) (bytes : List ℕ)
    (is : h.wkb_type ≡ kinds.GeometryCollection d) (l-is : l ≡ layout_of h) (shallow : depth < max_nesting) where
  -- what follows the header of a collection
  behind : (t : Tally)
      → body_walked depth h bytes t
      ≡ walked item_coordinates (list_at 7 l (geometry_inside (suc depth)) (list_item l collection_with) bytes)
      t
  unfolding collection_at
  behind t = grind arith

  pub opens : (left start : List ℕ) (n turns passed : ℕ) → length left ≡ max_nesting → n ≡ count_in l bytes
      → body_start l.has_srid + 4 ≤ length bytes → start ≡ parts_start l.has_srid bytes
      → onward (body_walked depth h bytes (turns, passed)) (ahead_of (open_counts left depth))
      ≡ ahead_of (open_counts (slice_set left depth n) (depth + 1)) (turns, passed) start
  opens left start n turns passed len counts long at =
      grind (arith, top_set, behind, values_sum, length-reverse, length-take)

  pub opens_none : (turns passed : ℕ) (c : Cause) → HasNoCount l bytes c
      → body_walked depth h bytes (turns, passed) ≡ Err (turns, (c, length bytes))
  opens_none turns passed c none = grind (arith, behind, no_count)

-- a geometry that is no collection is passed, and opens nothing
pub passes_plain : (r : Result (Bor (List ℕ)) Cause) (h : Head) (l : Layout) (bytes : List ℕ) (o : OpenCounts)
    (old new : Walk) → l ≡ layout_of h
    → Passes r (type_walked (max_nesting - o.depth) h.wkb_type l bytes) old new
    → PassesOrOpens r h bytes o o old new
passes_plain r h l bytes o old new is p = grind arith

-- ---- the loop

no_count_left : (n d : ℕ) → ◌≡◌ {A = ℕ} (slice_index_or (replicate n 0) d 0) 0
no_count_left zero d = refl
no_count_left (suc n) zero = refl
no_count_left (suc n) (suc d) = no_count_left n d

-- of the collections around the outermost no member follows
none_follow : (left : List ℕ) (around : ℕ) → ((d : ℕ) → ◌≡◌ {A = ℕ} (slice_index_or left d 0) 0) → around ≤ length left
    → (t : Tally) (rest : List ℕ) → ahead_of (open_counts left around) t rest ≡ Ok (t, rest)
none_follow left zero none fits t rest = refl
none_follow left (suc around) none fits t rest =
    rw (
      top_is left around (suc around) 0 refl (omega (arith, fits)) (sym (none around)),
      none_left (open_counts left around) t rest,
    ) (none_follow left around none (omega (arith, fits)) t rest)

pub starts : (around : ℕ) (w : Walked) → around ≤ max_nesting
    → onward w (ahead_of (open_counts (replicate max_nesting 0) around)) ≡ w
starts around (Ok x) fits = none_follow _ around (no_count_left max_nesting) fits x.0 x.1
starts around (Err e) fits = refl

-- the next member begins
module _ (left next bytes : List ℕ) (depth deep turns passed : ℕ) (reached whole : Walked) (ahead : reached ≡ whole)
    (finished : reached ≡ ahead_of (open_counts left depth) (turns, passed) bytes)
    (settled : IsFollowed (open_counts left depth) (open_counts next deep)) (len : length next ≡ max_nesting)
    (shallow : deep ≤ max_nesting) where
  begun : onward (inside_walked deep bytes (turns + 1, passed)) (ahead_of (open_counts next deep)) ≡ whole
  begun = grind (arith, length-reverse, length-take)

  pub next_begins : (h : Head) → head_at bytes ≡ Ok h
      → onward (body_walked deep h bytes (turns + 1, passed)) (ahead_of (open_counts next deep)) ≡ whole
  next_begins h e = rw (← with_header deep bytes h (turns + 1, passed) e) begun

  pub next_stops : (c : Cause) → head_at bytes ≡ Err c → whole ≡ Err (turns + 1, (c, length bytes))
  next_stops c e = sym (rw (without_header deep bytes c (turns + 1, passed) e) at begun)

pub ruleset open_laws = (opens, opens_none, passes_plain)

pub ruleset loop_laws = (next_begins, next_stops)
