-- A walk that visits coordinates part by part.
use Rattle.std.proofs.Common.{◌≡◌, ℕ, ◌+◌, ◌<◌, ◌≤◌, List, [], ◌∷◌, ◌++◌, flat_map, drop, length, Some, slice_get, refl}
use Rattle.std.proofs.Common.{sym, ap, subst, ◌∙◌, append_assoc, append-nil, Option, option_map, slice_index_or}
use Rattle.std.proofs.lemmas.List.{drop_all}
use Rattle.std.proofs.lemmas.Option.{slice_get-get_or}
use Rattle.wkb.specs.Ranges.{drop_at}
use Rattle.wkb.specs.Reads.{Item, values}
use Rattle.wkb.specs.Values.{Coordinate}
use Rattle.wkb.specs.Coordinates.{coordinates_of, coordinates_of_each, Visits}

module _ {S : Type 0} (has : S → List Coordinate → Type 0) where
  pub visits_none : (v : S) → Visits has v v []
  visits_none v = record { visited = λ before h. subst (has v) (sym (append-nil before)) h }

  pub visits_both : (a b c : S) (xs ys : List Coordinate) → Visits has a b xs → Visits has b c ys
      → Visits has a c (xs ++ ys)
  visits_both a b c xs ys p q =
      record {
        visited = λ before h. subst (has c) (append_assoc before xs ys) (q.visited (before ++ xs) (p.visited before h));
      }

  -- the items before an index were visited: with those from it on, all are
  pub record VisitsBefore {A : Type 0} (f : A → List Coordinate) (old now : S) (xs : List A) (i : ℕ) : Type 0 where
    pub left : (new : S) → Visits has now new (flat_map f (drop i xs)) → Visits has old new (flat_map f xs)

  pub visiting_starts : {A : Type 0} (f : A → List Coordinate) (old : S) (xs : List A) → VisitsBefore f old old xs 0
  visiting_starts f old xs = record { left = λ new h. h }

  -- the item at the index was visited
  pub visits_next : {A : Type 0} (f : A → List Coordinate) (old now next : S) (xs : List A) (i : ℕ) (x : A)
      → VisitsBefore f old now xs i → slice_get xs i ≡ Some x → Visits has now next (f x)
      → VisitsBefore f old next xs (i + 1)
  visits_next f old now next xs i x so_far at step =
      record {
        left = λ new h.
            so_far.left new
            (subst (λ l. Visits has now new (flat_map f l)) (sym (drop_at xs i x at))
            (visits_both now next new (f x) (flat_map f (drop (i + 1) xs)) step h));
      }

  -- as a call that may find none returned the item
  pub visits_found : {A B : Type 0} (f : A → List Coordinate) (seen : B → A) (old now next : S) (xs : List A) (i : ℕ)
      (found : Option B) (b : B)
      → VisitsBefore f old now xs i → option_map seen found ≡ slice_get xs i → found ≡ Some b
      → Visits has now next (f (seen b)) → VisitsBefore f old next xs (i + 1)
  visits_found f seen old now next xs i found b so_far at some step =
      visits_next f old now next xs i (seen b) so_far (sym at ∙ ap (option_map seen) some) step

  -- as the loop over a list names the item
  pub visits_item : {A : Type 0} (f : A → List Coordinate) (old now next : S) (xs : List A) (i : ℕ) (x : A)
      → VisitsBefore f old now xs i → i < length xs → Visits has now next (f (slice_index_or xs i x))
      → VisitsBefore f old next xs (i + 1)
  visits_item f old now next xs i x so_far inside step =
      visits_next f old now next xs i (slice_index_or xs i x) so_far (slice_get-get_or xs i x inside) step

  pub visiting_ends : {A : Type 0} (f : A → List Coordinate) (old now : S) (xs : List A) (i : ℕ)
      → VisitsBefore f old now xs i → length xs ≤ i → Visits has old now (flat_map f xs)
  visiting_ends f old now xs i so_far all =
      so_far.left now (subst (λ l. Visits has now now (flat_map f l)) (sym (drop_all i xs all)) (visits_none now))

pub ruleset visiting_laws = (visits_none, visiting_starts, visits_next, visits_found, visits_item, visiting_ends)

-- coordinates that are visited one by one
pub each_alone : (cs : List Coordinate) → flat_map (λ c. c ∷ []) cs ≡ cs
each_alone [] = refl
each_alone (c ∷ cs) = ap (λ l. c ∷ l) (each_alone cs)

pub each_member : (ms : List Item) → flat_map (λ m. coordinates_of m.value) ms ≡ coordinates_of_each (values ms)
each_member [] = refl
each_member (m ∷ ms) = ap (λ l. coordinates_of m.value ++ l) (each_member ms)
