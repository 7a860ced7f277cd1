-- One geometry whose members are the geometries that rows begin with.
use Rattle.wkb_abi.proofs.Common.{◌≡◌, ℕ, suc, ◌<◌, ◌≤◌, List, [], ◌∷◌, refl, sym, arith, append-nil, Value}
use Rattle.wkb_abi.proofs.Common.{Values, member, no_members, kind, dimension, members, point, line_string, polygon}
use Rattle.wkb_abi.proofs.Common.{multi_point, multi_line_string, multi_polygon, collection, Dimension, false, Wanted}
use Rattle.wkb_laws.specs.Prelude.{IsPart, member_part, each, nest_each}
use Rattle.wkb_abi.specs.declared.{column.Column.Column, options.Options.Options}
unfoldable use Rattle.wkb_laws.specs.Prelude.{words_encoding}
use Rattle.wkb_laws.proofs.Lists.{by_list_kind, count-each}
use Rattle.wkb_check.specs.Public.{member_room}
use Rattle.wkb_rewrite.proofs.Encodings.{encoded_apart}
use Rattle.wkb_c.specs.Collections.{AreRowMembers, IsCollected, IsAsked, IsWhole}
use Rattle.wkb_c.specs.declared.collect.CollectTarget.{CollectTarget}
use Rattle.wkb_c.proofs.RowItems.{written_as, no_room_as}

-- ---- the members of a geometry

-- a geometry of this kind and this dimension that has these members
record HasMembers (k : ℕ) (d : Dimension) (ts : Values) : Type 0 where
  pub value : Value
  pub kind_is : kind value ≡ k
  pub dimension_is : dimension value ≡ d
  pub members_are : members value ≡ ts

has : (t : Value) {ts : Values} → members t ≡ ts → HasMembers (kind t) (dimension t) ts
has t are = record { value = t; kind_is = refl; dimension_is = refl; members_are = are }

-- one more is in front of its own, where it wants it
one_more : (v t : Value) → 3 < kind v → IsPart (member_part (kind v) (dimension v)) (kind t) (dimension t) false
    → HasMembers (kind v) (dimension v) (member t (members v))
one_more (multi_point d l) (point e c) low is =
    has (multi_point d (c ∷ l)) (λ i. member (point (sym is.1 i) c) (each (point d) l))
one_more (multi_line_string d l) (line_string e c) low is =
    has (multi_line_string d (c ∷ l)) (λ i. member (line_string (sym is.1 i) c) (each (line_string d) l))
one_more (multi_polygon d l) (polygon e c) low is =
    has (multi_polygon d (c ∷ l)) (λ i. member (polygon (sym is.1 i) c) (each (polygon d) l))
one_more (collection d ts) t low is = has (collection d (member t ts)) refl
one_more _ _ low is = absurd (omega (arith, is.0))

module _ (c : Column) {k : ℕ} {d : Dimension} (low : 3 < k) (high : k ≤ 7) where
  made : (i : ℕ) (ts : Values) → AreRowMembers c (member_part k d) i ts → HasMembers k d ts
  made i no_members are =
      by_list_kind (λ k. HasMembers k d no_members) (has (multi_point d []) refl) (has (multi_line_string d []) refl)
      (has (multi_polygon d []) refl) (has (collection d no_members) refl) k low high
  made i (member t ts) are = grind (arith, member, one_more, made (suc i) ts are.1)

shallow_each : (c : Column) (w : Wanted) (i : ℕ) (ts : Values) → AreRowMembers c w i ts → nest_each ts ≤ member_room
shallow_each c w i no_members are = omega arith
shallow_each c w i (member t ts) are = omega (arith, are.0.has.front.shallow, shallow_each c w (suc i) ts are.1)

-- ---- what is written of it

-- ---- the whole

pub whole_collected : {c : Column} {rows k n : ℕ} {o : Options} {target : CollectTarget}
    → IsAsked k n o target → (encoding : List ℕ) → IsWhole c target rows encoding
    → IsCollected c rows k n o encoding
unfolding words_encoding
whole_collected a encoding w = grind (arith, encoded_apart, collection, append-nil, count-each, made, shallow_each)

pub ruleset collected_laws = (whole_collected, written_as, no_room_as)
