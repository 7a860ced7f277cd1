-- A count, and the parts after it.
use Rattle.std.proofs.Common.{◌≡◌, ℕ, ◌+◌, ◌≤◌, List, [], ◌∷◌, length, map, sum_by, Result, Ok, Err, refl, arith, Bor}
use Rattle.std.proofs.lemmas.List.Sums.{sum_by-cons}
use Rattle.wkb_laws.specs.Prelude.{Cause, Layout, slots_asked}
use Rattle.wkb_geom.specs.Reading.{costs, points_counted, multi_point_with, multi_line_string_with, multi_polygon_with}
use Rattle.wkb_geom.specs.Reading.{body_start, parts_start, HasNoCount, with_count, parts_body, member_at, list_item}
use Rattle.wkb_geom.specs.Reading.{Reading, Item, and_then, done, slots_of, consumed, count_in, list_at, refused}
unfoldable use Rattle.wkb_geom.specs.Reading.{repeated, polygon_at, multi_point_at, multi_line_string_at}
unfoldable use Rattle.wkb_geom.specs.Reading.{multi_polygon_at}
use Rattle.wkb_check.specs.Prelude.{Walk, Passes, tally}
use Rattle.wkb_check.specs.Walked.{Tally, Walked, walked, coordinates_by, number_of_member, item_coordinates}
use Rattle.wkb_check.specs.Walked.{rings_walked, polygon_walked, members_walked, multi_point_walked, multi_walked}
unfoldable use Rattle.wkb_check.specs.Walked.{multi_at}
use Rattle.wkb_check.specs.declared.skip.MemberKind.{MemberKind}
use Rattle.wkb_check.specs.declared.skip.MemberKind.TheVariants as kinds

-- the input ends before the count does
pub no_count : {A : Type 0} (many : A → ℕ) (l : Layout) (bytes : List ℕ) (turns passed : ℕ)
    (behind : ℕ → Reading A) (c : Cause) → HasNoCount l bytes c
    → walked many (with_count l bytes behind) (turns, passed) ≡ Err (turns, (c, length bytes))
no_count many l bytes turns passed behind c none = grind arith

-- a reading that is walked over as another one
as_walked : (walk other : Tally → Walked) (r : Result (Bor (List ℕ)) Cause) (old new : Walk)
    → walk (tally old) ≡ other (tally old) → Passes r other old new → Passes r walk old new
as_walked walk other r old new same h = grind arith

module _ {A : Type 0} (many : A → ℕ) (whole : List A → List ℕ → Item) (total : Item → ℕ)
    (sum : (parts : List A) (encoding : List ℕ) → total (whole parts encoding) ≡ sum_by many parts) where
  -- parts, and the whole that they make
  whole_walked : (n : ℕ) (bytes : List ℕ) (r : Reading (List A)) (t : Tally)
      → walked total (costs (slots_of n) (and_then r (λ parts rest. done (whole parts (consumed bytes rest)) rest))) t
      ≡ walked (sum_by many) r t
  whole_walked n bytes r t = grind arith

-- ---- the sums

mapped_sum : {A B : Type 0} (f : B → ℕ) (g : A → B) (l : List A) → sum_by f (map g l) ≡ sum_by (λ a. f (g a)) l
mapped_sum f g [] = refl
mapped_sum f g (a ∷ l) = simp (sum_by-cons, mapped_sum f g l)

mapped_ones : {A B : Type 0} (g : A → B) (l : List A) → length (map g l) ≡ sum_by (λ a. 1) l
mapped_ones g [] = refl
mapped_ones g (a ∷ l) = omega (arith, mapped_ones g l, sum_by-cons (λ a. 1) a l)

-- ---- the kinds

pub polygon_passes : (l : Layout) (bytes start : List ℕ) (n : ℕ) (r : Result (Bor (List ℕ)) Cause) (old new : Walk)
    → n ≡ count_in l bytes → body_start l.has_srid + 4 ≤ length bytes → start ≡ parts_start l.has_srid bytes
    → Passes r (rings_walked l n start) old new → Passes r (polygon_walked l bytes) old new
unfolding polygon_at
polygon_passes l bytes start n r old new counts long at h = grind (arith, as_walked, mapped_sum)

abbrev multi_with : MemberKind → Layout → List Item → List ℕ → Item
multi_with kinds.Point l = list_item l multi_point_with
multi_with kinds.LineString l = list_item l multi_line_string_with
multi_with kinds.Polygon l = list_item l multi_polygon_with

multi_sum : (kind : MemberKind) (l : Layout) (parts : List Item) (encoding : List ℕ)
    → item_coordinates (multi_with kind l parts encoding)
    ≡ sum_by (coordinates_by (number_of_member kind)) parts
multi_sum kind l parts encoding = grind (arith, mapped_ones, mapped_sum, sum_by)

multi_is : (kind : MemberKind) (l : Layout) (bytes : List ℕ)
    → multi_at kind l bytes
    ≡ list_at (3 + number_of_member kind) l (member_at (number_of_member kind) l.dimension)
    (multi_with kind l) bytes
unfolding multi_at multi_line_string_at multi_polygon_at
multi_is kind l bytes = grind arith

module _ (kind : MemberKind) (l : Layout) (bytes : List ℕ) where
  abbrev member_part : List ℕ → Reading Item
  member_part = member_at (number_of_member kind) l.dimension

  pub multi_cut : (turns passed : ℕ) (c : Cause) → HasNoCount l bytes c
      → walked item_coordinates (multi_at kind l bytes) (turns, passed) ≡ Err (turns, (c, length bytes))
  multi_cut turns passed c none = grind (arith, multi_is, no_count)

  pub multi_passes : (start : List ℕ) (n : ℕ) (r : Result (Bor (List ℕ)) Cause) (old new : Walk) → n ≡ count_in l bytes
      → body_start l.has_srid + 4 ≤ length bytes → start ≡ parts_start l.has_srid bytes
      → Passes r (members_walked kind l.dimension n start) old new → Passes r (multi_walked kind l bytes) old new
  multi_passes start n r old new counts long at h = grind (arith, multi_is kind l bytes, multi_sum kind l)

-- ---- multi points

module _ (l : Layout) (bytes : List ℕ) where
  abbrev points_behind : Result ℕ Cause → Reading Item
  points_behind (Ok n) = parts_body 4 l (member_at 1 l.dimension) (multi_with kinds.Point l) bytes n
  points_behind (Err c) = refused bytes c

  points_are : multi_point_at l bytes ≡ points_behind (points_counted l bytes)
  unfolding multi_point_at
  points_are = grind arith

  pub points_stop : (turns passed : ℕ) (c : Cause) → points_counted l bytes ≡ Err c
      → walked item_coordinates (multi_point_at l bytes) (turns, passed) ≡ Err (turns, (c, length bytes))
  points_stop turns passed c e = rw (points_are, e) (grind arith)

  pub points_pass : (start : List ℕ) (n : ℕ) (r : Result (Bor (List ℕ)) Cause) (old new : Walk)
      → points_counted l bytes ≡ Ok n → start ≡ parts_start l.has_srid bytes
      → Passes r (members_walked kinds.Point l.dimension n start) old new
      → Passes r (multi_point_walked l bytes) old new
  points_pass start n r old new counts at h =
      let part = member_at 1 l.dimension in
      as_walked (multi_point_walked l bytes) (members_walked kinds.Point l.dimension n start) r old new
      (rw (points_are, counts, at) (whole_walked (coordinates_by 1) (multi_with kinds.Point l) item_coordinates
      (multi_sum kinds.Point l) (slots_asked 4 n (length (parts_start l.has_srid bytes))) bytes
      (repeated n part (parts_start l.has_srid bytes)) (tally old))) h

pub ruleset count_laws = (no_count, polygon_passes, multi_cut, multi_passes, points_stop, points_pass)
