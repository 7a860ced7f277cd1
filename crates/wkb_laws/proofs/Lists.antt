-- Lists of values, what holds of all items, and the kinds that are lists of members.
use Rattle.std.proofs.Common.{ℕ, sum_by, ◌+◌, ◌*◌, sym, ap, ◌∙◌, ◌≡◌, List, [], ◌∷◌, length, refl, arith, ◌<◌, ◌≤◌}
use Rattle.std.proofs.Common.{◌==◌, ◌&&◌, nat_lt, if◌then◌else◌}
use Rattle.std.proofs.lemmas.List.Sums.{sum_by-cons}
use Rattle.std.specs.List.{AllByRecursion}
use Rattle.wkb_laws.specs.Prelude.{Value, ShortMultiPoint, multi_line_string_with, multi_point_with, multi_polygon_with}
use Rattle.wkb_laws.specs.Prelude.{no_members, each, Dimension, multi_point_end, collection_with, list_item, parts_body}
use Rattle.wkb_laws.specs.Prelude.{Values, member, count, Layout, general, Wanted, any, part, Item, refused, Reading}

-- what follows for one follows for all
pub all_imply : {A : Type 0} (P Q : A → Type 0) → ((a : A) → P a → Q a) → (l : List A) → AllByRecursion P l
    → AllByRecursion Q l
all_imply P Q f [] h = tt
all_imply P Q f (a ∷ l) h = (f a h.0, all_imply P Q f l h.1)

pub lists_imply : {A : Type 0} (P Q : A → Type 0) → ((a : A) → P a → Q a) → (l : List (List A))
    → AllByRecursion (AllByRecursion P) l → AllByRecursion (AllByRecursion Q) l
lists_imply P Q f = all_imply _ _ (all_imply P Q f)

-- What a list of values has is the sum of what its items have.
module _ {A : Type 0} (f : A → Value) (total : Values → ℕ) (none : total no_members ≡ 0) where
  pub each_sum : (own : A → ℕ) → ((a : A) (ts : Values) → total (member (f a) ts) ≡ own a + total ts) → (l : List A)
      → total (each f l) ≡ sum_by own l
  each_sum own one [] = none
  each_sum own one (a ∷ l) = one a (each f l) ∙ ap (λ z. own a + z) (each_sum own one l) ∙ sym (sum_by-cons own a l)

  pub each_same : (n : ℕ) → ((a : A) (ts : Values) → total (member (f a) ts) ≡ n + total ts) → (l : List A)
      → total (each f l) ≡ n * length l
  each_same n one [] = omega (arith, none)
  each_same n one (a ∷ l) = omega (arith, one a (each f l), each_same n one l)

pub count-each : {A : Type 0} (f : A → Value) (l : List A) → count (each f l) ≡ length l
count-each f l = omega (arith, each_same f count refl 1 (λ a ts. refl) l)

-- what holds of each of the four holds of any
pub by_list_kind : (Q : ℕ → Type 0) → Q 4 → Q 5 → Q 6 → Q 7 → (k : ℕ) → 3 < k → k ≤ 7 → Q k
by_list_kind Q a b c d k low high = grind arith

-- a part that is a member: of any kind, or a point, a line string or a polygon
abbrev pub IsWanted : Wanted → Type 0
IsWanted any = Unit {0}
IsWanted (part k d) = k ≤ 3

-- the geometry of such members, by its kind
abbrev pub whole_by : ℕ → Dimension → List Item → Value
whole_by k =
    if k == 4 then multi_point_with else if k == 5 then multi_line_string_with else if k == 6 then multi_polygon_with
    else collection_with

-- what comes after the count of a list of members
abbrev pub list_behind : ℕ → Layout → (List ℕ → Reading Item) → List ℕ → ℕ → Reading Item
list_behind k l part_at input n =
    let end = multi_point_end l.dimension l.has_srid n in
    if (k == 4) && nat_lt (length input) end then refused input (general (ShortMultiPoint end (length input)))
    else parts_body k l part_at (list_item l (whole_by k)) input n
