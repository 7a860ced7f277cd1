-- How many coordinates, rings and singles a geometry has, by its kind.
use Rattle.wkb_abi.proofs.Common.{[], length-append, multi_line_string, multi_polygon, DescribesFront, subjects_of_each}
use Rattle.wkb_abi.proofs.Common.{length, no_spellings, SpellsEach, line_string, multi_point, member_count, HasGeometry}
use Rattle.wkb_abi.proofs.Common.{Dimension, Spelling, Spellings, spelling, Coordinate, polygon, collection, Endianness}
use Rattle.wkb_abi.proofs.Common.{List, arith, Option, Spells, Wanted, Value, point, Summary, Totals, Subject, subjects}
use Rattle.wkb_abi.proofs.Common.{◌≡◌, ℕ, ◌+◌, ◌<◌, ◌∷◌, ◌++◌, refl, sym, ◌∙◌, node, subst, Piece}
use Rattle.std.proofs.lemmas.Grind.{flat_map-append}
use Rattle.std.proofs.lemmas.List.Sums.{sum_by-cons, sum_by-append}
use Rattle.std.proofs.Common.{rules, sum, sum_by}
use Rattle.wkb_geom.specs.Values.{each}
use Rattle.wkb_laws.proofs.OneFront.{one_spelling}
use Rattle.wkb_geom.specs.Counted.{coordinate_count}
use Rattle.wkb_check.specs.Prelude.{piece_of, IsPieceAt, subjects_of_rings}
use Rattle.wkb_abi.specs.Coordinates.{ring_counts, single_counts, AreTotals}
use Rattle.wkb_abi.specs.PieceLevels.{ring_number, single_number}

-- these subjects have so many coordinates, rings and singles
abbrev Count : List Subject → ℕ → ℕ → ℕ → Type 0
Count xs coordinates rings singles =
    AreTotals (record { coordinates = coordinates; rings = rings; singles = singles }) xs

no_subject : Count [] 0 0 0
no_subject = record { coordinates_are = refl; rings_are = refl; singles_are = refl }

-- and so many have these and others
both : {xs ys : List Subject} {c d cd r q rq s t st : ℕ} → Count xs c r s → Count ys d q t → cd ≡ c + d → rq ≡ r + q
    → st ≡ s + t → Count (xs ++ ys) cd rq st
both {xs} {ys} a b c_is r_is s_is = grind (arith, flat_map-append, sum_by-append, length-append)

-- and so many has one more
more : {xs : List Subject} {c cd r rq s st : ℕ} (x : Subject) → Count xs c r s → cd ≡ sum (ring_counts x) + c
    → rq ≡ length (ring_counts x) + r → st ≡ length (single_counts x) + s → Count (x ∷ xs) cd rq st
more x are c_is r_is s_is = grind (arith, sum_by-append, length-append)

rings_count : (order : Endianness) (d : Dimension) (rings : List (List Coordinate))
    → Count (subjects_of_rings order d rings) (sum_by length rings) (length rings) 0
rings_count order d [] = no_subject
rings_count order d (cs ∷ rest) = search (rules, more, sum_by-cons, rings_count order d rest)

point_counts : (d : Dimension) (c : Option Coordinate) (s : Spelling) → Count (subjects s (point d c)) 1 1 1
point_counts d c (node h words ss) = more _ no_subject (omega arith) (omega arith) (omega arith)

line_counts : (d : Dimension) (cs : List Coordinate) (s : Spelling)
    → Count (subjects s (line_string d cs)) (length cs) 1 1
line_counts d cs (node h words ss) = more _ no_subject (omega arith) (omega arith) (omega arith)

polygon_counts : (d : Dimension) (rings : List (List Coordinate)) (s : Spelling)
    → Count (subjects s (polygon d rings)) (sum_by length rings) (length rings) 1
polygon_counts d rings (node h words ss) =
    more _ (both (rings_count h.order d rings) no_subject refl refl refl) (omega arith) (omega arith) (omega arith)

-- the members of a multi geometry, each of which is one single
module _ {A : Type 0} (f : A → Value) (c r : A → ℕ)
    (one : (a : A) (s : Spelling) → Count (subjects s (f a)) (c a) (r a) 1) where
  each_counts : (w : Wanted) (xs : List A) (ss : Spellings) (bytes : List ℕ) → SpellsEach w ss (each f xs) bytes
      → Count (subjects_of_each ss (each f xs)) (sum_by c xs) (sum_by r xs) (length xs)
  each_counts w [] no_spellings bytes h = no_subject
  each_counts w [] (spelling s ss) bytes h = absurd h
  each_counts w (a ∷ xs) no_spellings bytes h = absurd h
  each_counts w (a ∷ xs) (spelling s ss) bytes h =
      both (one a s) (each_counts w xs ss h.rest h.second) (sum_by-cons c a xs) (sum_by-cons r a xs) (omega arith)

sum_of_ones : {A : Type 0} (xs : List A) → sum_by (λ (a : A). 1) xs ≡ length xs
sum_of_ones [] = refl
sum_of_ones (a ∷ xs) = omega (arith, sum_by-cons (λ a. 1) a xs, sum_of_ones xs)

sum_with_ones : {A : Type 0} (f : A → ℕ) (xs : List A) → sum_by (λ (a : A). 1 + f a) xs ≡ length xs + sum_by f xs
sum_with_ones f [] = refl
sum_with_ones f (a ∷ xs) = omega (arith, sum_by-cons (λ a. 1 + f a) a xs, sum_by-cons f a xs, sum_with_ones f xs)

-- ---- by the kind

-- a geometry that is no collection has as many as its first piece and its parts say
kind_counts : (at : ℕ) (s : Spelling) (t : Value) (bytes : List ℕ) → Spells s t bytes → (piece_of at s t).kind < 7
    → Count (subjects s t) (coordinate_count t) (ring_number (piece_of at s t) (1 + member_count t))
    (single_number (piece_of at s t))
kind_counts at (node h words ss) (point d c) bytes sp small = point_counts d c (node h words ss)
kind_counts at (node h words ss) (line_string d cs) bytes sp small = line_counts d cs (node h words ss)
kind_counts at (node h words ss) (polygon d rings) bytes sp small = polygon_counts d rings (node h words ss)
kind_counts at (node h words ss) (multi_point d points) bytes sp small =
    let ones = sum_of_ones points in
    more _ (each_counts (point d) (λ c. 1) (λ c. 1) (point_counts d) _ points ss _ sp.second.second)
    (omega (arith, ones)) (omega (arith, ones)) (omega arith)
kind_counts at (node h words ss) (multi_line_string d lines) bytes sp small =
    more _ (each_counts (line_string d) length (λ cs. 1) (line_counts d) _ lines ss _ sp.second.second)
    (omega arith) (omega (arith, sum_of_ones lines)) (omega arith)
kind_counts at (node h words ss) (multi_polygon d polygons) bytes sp small =
    more _ (each_counts (polygon d) (sum_by length) length (polygon_counts d) _ polygons ss _ sp.second.second)
    (omega arith) (omega (arith, sum_with_ones length polygons)) (omega arith)
kind_counts at (node h words ss) (collection d ts) bytes sp small = absurd (omega (arith, small))

-- what the check found of a geometry that is no collection has its totals
pub totals_found : {own : Totals} {found : Summary} {first : Piece} (input : List ℕ) → (d : DescribesFront input found)
    → IsPieceAt input 0 first → (g : HasGeometry input) → first.kind < 7
    → own.coordinates ≡ found.coordinates → own.rings ≡ ring_number first found.parts
    → own.singles ≡ single_number first → AreTotals own (subjects g.spelled g.value)
totals_found input d at g small coordinates_is rings_is singles_is =
    let same = one_spelling d.spelled g.spelled d.value g.value d.front.front g.begins.front d.rest g.rest
    d.front.spelled g.begins.first (sym d.front.whole ∙ g.begins.whole) in
    let counts = kind_counts 0 g.spelled g.value g.begins.front g.begins.first
    (subst (λ (p : Piece). p.kind < 7) (at g) small) in
    grind arith
