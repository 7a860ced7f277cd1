-- Members in lists.
use Rattle.wkb_view.proofs.Prelude.{Spelling, multi_point_end, list_of_spellings, fitted_line_strings, member_dimension}
use Rattle.wkb_view.proofs.Prelude.{slice_get-map, polygon, as_dimensions, member_layout, polygon_items, IsMemberOfKind}
use Rattle.wkb_view.proofs.Prelude.{Option, length-drop, length-take, option_map, length-map, fitted_parts, member_item}
use Rattle.wkb_view.proofs.Prelude.{slice_get, Coordinate, polygon_of, body_start, IsEncoding, members_in, point_ends}
use Rattle.wkb_view.proofs.Prelude.{length, IfSome, Dimension, Listed, spellings, Layout, point_of, points_in}
use Rattle.wkb_view.proofs.Prelude.{◌≡◌, zero, List, ◌++◌, Some, None, refl, subst, false, arith, rules, pieces, Passed}
use Rattle.wkb_view.proofs.Prelude.{ℕ, suc, [], ◌∷◌, map, ap, ◌∙◌, ◌+◌, ◌-◌, ◌*◌, ◌≤◌, ◌<◌, Bor, take, drop, Ok, Item}
use Rattle.std.specs.Prelude.{IsOk}
use Rattle.std.specs.List.{AllByRecursion}
use Rattle.wkb_view.specs.Prelude.{whole_of, laid}
use Rattle.wkb_plain.proofs.Lookups.{IsAnswered, copied_is}
use Rattle.wkb_laws.specs.Fits.{fitted_polygons}
use Rattle.wkb_view.specs.Members.{AreMembersOfKind, pieces_behind, every, stride}
use Rattle.wkb_view.proofs.Pieces.{parts_counted, pieces_past, piece_form, piece_seen, last_end}

-- the spellings of members, one by one
pub spelled_each : (ms : List Item) → list_of_spellings (spellings ms) ≡ map (λ i. i.spelled) ms
spelled_each [] = refl
spelled_each (m ∷ ms) = ap (λ (ss : List Spelling). m.spelled ∷ ss) (spelled_each ms)

-- ---- the members that pieces are

pub members_counted : {B : Type 0} (f : Item → B) (k : ℕ) (l : Layout) (ends encoding : List ℕ)
    → length (map f (members_in k l ends encoding)) ≡ length ends
members_counted f k l ends encoding = grind (arith, parts_counted, length-map)

module _ (k : ℕ) (l : Layout) (ends encoding : List ℕ) (i : ℕ) where
  -- one that is handed out has the encoding that its layout says
  pub member_encoding : (t : List ℕ) (m : Layout) → AreMembersOfKind k l ends encoding
      → Some t ≡ slice_get (pieces_behind l ends encoding) i
      → member_layout k l.dimension t ≡ Ok m → IsEncoding k m t
  member_encoding t m are e is =
      grind (arith, piece_form (IsMemberOfKind k l.dimension) (body_start l.has_srid + 4) ends encoding i t are e)

  -- and has a layout
  pub member_there : (t : List ℕ) → AreMembersOfKind k l ends encoding
      → Some t ≡ slice_get (pieces_behind l ends encoding) i → IsOk (member_layout k l.dimension t)
  member_there t are e = grind (arith, piece_form)

  -- what is made of it
  pub members_seen : {B : Type 0} (f : Item → B) (o : Option (List ℕ)) → o ≡ slice_get (pieces_behind l ends encoding) i
      → option_map f (option_map (member_item k l.dimension) o) ≡ slice_get (map f (members_in k l ends encoding)) i
  members_seen f o e = grind (arith, slice_get-map, piece_seen)

  -- and its spelling
  pub spelling_seen : (o : Option (List ℕ)) → o ≡ slice_get (pieces_behind l ends encoding) i
      → option_map (λ m. m.spelled) (option_map (member_item k l.dimension) o)
      ≡ slice_get (list_of_spellings (spellings (members_in k l ends encoding))) i
  spelling_seen o e = grind (arith, spelled_each, members_seen)

-- what holds of each member holds with one more
pub all_more : {A : Type 0} (P : A → Type 0) (xs : List A) (x : A) → AllByRecursion P xs → P x
    → AllByRecursion P (xs ++ x ∷ [])
all_more P [] x all h = (h, tt)
all_more P (y ∷ ys) x all h = (all.0, all_more P ys x all.1 h)

each_at : {A : Type 0} (P : A → Type 0) (xs : List A) (i : ℕ) (x : A) → AllByRecursion P xs → slice_get xs i ≡ Some x
    → P x
each_at P [] i x all e = absurd cc
each_at P (y ∷ xs) zero x all e = let same : y ≡ x = cc in subst P same all.0
each_at P (y ∷ xs) (suc i) x all e = each_at P xs i x all.1 e

seen_at : {B : Type 0} (f : Item → B) (ps : List (Listed (List (List Coordinate)))) (i : ℕ)
    (o : Option (Bor (Listed (List (List Coordinate))))) → IsAnswered ps i o
    → option_map (λ p. f (whole_of polygon p.now)) o ≡ slice_get (map f (polygon_items ps)) i
seen_at f ps i o got = grind (arith, slice_get-map, copied_is ps i o got)

dimension_at : (d : Dimension) (ps : List (Listed (List (List Coordinate)))) (i : ℕ)
    (o : Option (Bor (Listed (List (List Coordinate))))) → IsAnswered ps i o
    → AllByRecursion (λ p. p.dimension ≡ d) ps → IfSome o (λ p. p.now.dimension ≡ d)
dimension_at d ps i o got all = grind (arith, each_at, copied_is)

fitted_at : (d : Dimension) (o : Option (Bor (Listed (List (List Coordinate)))))
    → IfSome o (λ p. p.now.dimension ≡ d)
    → option_map (λ p. fitted_parts p.now) o
    ≡ option_map (fitted_line_strings (as_dimensions d)) (option_map (λ p. p.now.parts) o)
fitted_at d o same = grind arith

-- the member of a multi polygon at an index, if there is one
pub record PolygonAt (d : Dimension) (ps : List (Listed (List (List Coordinate)))) (i : ℕ)
    (o : Option (Bor (Listed (List (List Coordinate))))) : Type 0 where
  pub part : option_map (λ p. p.now.parts) o ≡ slice_get (map (λ m. polygon_of m.value) (polygon_items ps)) i
  pub value : option_map (λ p. fitted_parts p.now) o
      ≡ slice_get (fitted_polygons (as_dimensions d) (map (λ m. polygon_of m.value) (polygon_items ps))) i
  pub dimension : IfSome o (λ p. p.now.dimension ≡ d)
  pub spelled : option_map (λ p. p.now.spelled) o ≡ slice_get (list_of_spellings (spellings (polygon_items ps))) i

pub polygon_there : (d : Dimension) (ps : List (Listed (List (List Coordinate)))) (i : ℕ)
    (o : Option (Bor (Listed (List (List Coordinate))))) → IsAnswered ps i o
    → AllByRecursion (λ p. p.dimension ≡ d) ps → PolygonAt d ps i o
polygon_there d ps i o got all =
    let part = seen_at (λ m. polygon_of m.value) ps i o got in
    let same = dimension_at d ps i o got all in
    record {
      part = part;
      dimension = same;
      value = grind (arith, fitted_at, seen_at, dimension_at, slice_get-map);
      spelled = search (rules, seen_at, spelled_each);
    }

-- ---- the members of a multi point, which have one size

pub length-every : (start size n : ℕ) → length (every start size n) ≡ n
length-every start size zero = refl
length-every start size (suc n) = ap suc (length-every (start + size) size n)

last_end-every : (start size n : ℕ) → last_end start (every start size n) ≡ start + size * n
last_end-every start size zero = omega arith
last_end-every start size (suc n) = omega (arith, last_end-every (start + size) size n)

every-next : (start size n end : ℕ) → end ≡ start + size * n + size
    → every start size (suc n) ≡ every start size n ++ end ∷ []
every-next start size zero end e = ap (λ (k : ℕ). k ∷ []) (omega arith)
every-next start size (suc n) end e = grind (arith, every-next (start + size) size n end (omega arith))

-- the part at an index
pub every_at : (start size n i : ℕ) (encoding : List ℕ) → i < n
    → slice_get (pieces start (every start size n) encoding) i ≡ Some (take size (drop (start + size * i) encoding))
every_at start size zero i encoding lt = absurd (omega arith)
every_at start size (suc n) zero encoding lt = grind arith
every_at start size (suc n) (suc i) encoding lt = grind (arith, every_at (start + size) size n i encoding (omega arith))

-- ---- a member has no SRID, so that it has the size of all

-- the layout of a member has the dimension that is wanted
pub member_laid : (k : ℕ) (d : Dimension) (bytes : List ℕ) (l : Layout) → member_layout k d bytes ≡ Ok l
    → member_layout k d bytes ≡ Ok (laid l.order d l.has_srid)
member_laid k d bytes l e = e ∙ ap (λ (f : Dimension). Ok (laid l.order f l.has_srid)) (member_dimension k d bytes l e)

-- and that of a point is known but for the order
pub point_laid : (d : Dimension) (bytes : List ℕ) (l : Layout) → member_layout 1 d bytes ≡ Ok l
    → member_layout 1 d bytes ≡ Ok (laid l.order d false)
point_laid d bytes l e = grind arith

-- a member more
pub ends_next : (l : Layout) (i : ℕ) (bytes rest after : List ℕ)
    → rest ≡ drop (last_end (body_start l.has_srid + 4) (point_ends l i)) bytes
    → last_end (body_start l.has_srid + 4) (point_ends l i) ≤ length bytes
    → Passed 9 (IsMemberOfKind 1 l.dimension) rest after
    → point_ends l (i + 1) ≡ point_ends l i ++ (length bytes - length after) ∷ []
ends_next l i bytes rest after rest-is within passed =
    let start = body_start l.has_srid + 4 in
    let last = last_end-every start (stride l.dimension) i in
    let long = ap length rest-is ∙ length-drop (last_end start (point_ends l i)) bytes in
    let shorter = passed.shorter in
    let one : i + 1 ≡ suc i = omega arith in
    grind (arith, every-next, length-take)

-- where the last of them ends
pub points_end : (l : Layout) (i : ℕ) (bytes rest : List ℕ)
    → rest ≡ drop (last_end (body_start l.has_srid + 4) (point_ends l i)) bytes
    → last_end (body_start l.has_srid + 4) (point_ends l i) ≤ length bytes
    → multi_point_end l.dimension l.has_srid i + length rest ≡ length bytes
points_end l i bytes rest rest-is within = grind (arith, length-drop, last_end-every)

-- ---- members by their index

pub points_counted : (l : Layout) (n : ℕ) (encoding : List ℕ)
    → length (map (λ i. point_of i.value) (points_in l n encoding)) ≡ n
points_counted l n encoding = grind (arith, members_counted, length-every)

pub point_encoding : (l : Layout) (n i : ℕ) (buf : List ℕ) (start : ℕ) (part : List ℕ) → i < n
    → start ≡ body_start l.has_srid + 4 + stride l.dimension * i
    → part ≡ take (stride l.dimension) (drop start buf) → Some part ≡ slice_get (pieces_behind l (point_ends l n) buf) i
point_encoding l n i buf start part lt start-is part-is = grind (arith, every_at)

pub point_past : (l : Layout) (n i : ℕ) (buf : List ℕ) → n ≤ i
    → None ≡ slice_get (pieces_behind l (point_ends l n) buf) i
point_past l n i buf le = grind (arith, pieces_past, length-every)
