-- The encoding of a value is that of its shares.
use Rattle.std.proofs.Common.{◌≡◌, ℕ, List, [], ◌∷◌, ◌++◌, length, map, refl, sym, ap, ◌∙◌, append-nil, append_assoc}
use Rattle.std.proofs.Common.{arith}
use Rattle.std.specs.List.{flat_map, concat}
use Rattle.wkb_laws.specs.Prelude.{Endianness, Form, Coordinate, no_spellings, geometry_of, geometries_of, number_bytes}
use Rattle.wkb_laws.specs.Prelude.{Dimension, Values, no_members, dimension, Spelling, Spellings, SpellsEach, encodings}
use Rattle.wkb_laws.specs.Prelude.{Value, member, members, each, node, spelling, Spells, Wanted, encoding, inner}
unfoldable use Rattle.wkb_laws.specs.Prelude.{words_encoding, coordinates_encoding, point_encoding}
unfoldable use Rattle.wkb_laws.specs.Prelude.{line_string_encoding, polygon_encoding, members_encoding}
use Rattle.wkb_laws.proofs.Values.{same_dimension, count-geometries_of}
use Rattle.wkb_check.specs.Subjects.{rings_of}
use Rattle.wkb_sink.proofs.Turned.{words_joined}
use Rattle.wkb_rewrite.specs.Shares.{Share, share_encoding}
use Rattle.wkb_rewrite.proofs.ValueShares.{own_share, ring_share, shares_of, shares_of_each}

-- the encodings of a geometry's shares, one after another: only the first has the form's SRID
abbrev pub shares_encoding : Endianness → Form → List Share → List ℕ
shares_encoding order form [] = []
shares_encoding order form (x ∷ xs) = share_encoding order form x ++ shares_encoding order (inner form) xs

pub inner_twice : (form : Form) → inner (inner form) ≡ inner form
inner_twice form = grind arith

pub inner_again : (form : Form) {own : Form} → own ≡ inner form → inner own ≡ own
inner_again form is = ap inner is ∙ inner_twice form ∙ sym is

-- inside a geometry the form stays the same, so that shares can be encoded list by list
pub shares_append : (order : Endianness) (form : Form) (xs ys : List Share) → inner form ≡ form
    → shares_encoding order form (xs ++ ys) ≡ shares_encoding order form xs ++ shares_encoding order form ys
shares_append order form [] ys e = refl
shares_append order form (x ∷ xs) ys e = simp (e, append_assoc, shares_append order form xs ys e)

-- a count and coordinates
counted_words : (order : Endianness) (cs : List Coordinate)
    → number_bytes order 4 (length cs) ++ words_encoding order (concat cs) ≡ coordinates_encoding order cs
unfolding coordinates_encoding
counted_words order cs = ap (λ l. number_bytes order 4 (length cs) ++ l) (words_joined order cs)

rings_encoded : (order : Endianness) (form : Form) (d : Dimension) (rings : List (List Coordinate))
    → shares_encoding order form (map (ring_share d) rings) ≡ flat_map (coordinates_encoding order) rings
rings_encoded order form d [] = refl
rings_encoded order form d (cs ∷ rings) =
    λ i. counted_words order cs i ++ rings_encoded order (inner form) d rings i

each_encoded : {A : Type 0} (order : Endianness) (form : Form) (f : A → Value) (l : List A)
    → encodings order form (geometries_of (each f l)) ≡ flat_map (λ a. encoding order form (geometry_of (f a))) l
each_encoded order form f [] = refl
each_encoded order form f (a ∷ l) = ap (λ z. encoding order form (geometry_of (f a)) ++ z) (each_encoded order form f l)

-- the encoding of what is inside a value
abbrev pub inside : Endianness → Form → Value → List ℕ
inside order form t =
    flat_map (coordinates_encoding order) (rings_of t) ++ encodings order (inner form) (geometries_of (members t))

-- a value's own encoding comes first
pub encoded_apart : (order : Endianness) (form : Form) (t : Value)
    → encoding order form (geometry_of t) ≡ share_encoding order form (own_share t) ++ inside order form t
unfolding point_encoding line_string_encoding coordinates_encoding polygon_encoding members_encoding words_encoding
encoded_apart order form t =
    grind (arith, same_dimension, append-nil, words_joined, append_assoc, each_encoded, count-geometries_of)

mutual
  pub shares_encoded : (order : Endianness) (form : Form) (s : Spelling) (t : Value) (x : List ℕ) → Spells s t x
      → shares_encoding order form (shares_of s t) ≡ encoding order form (geometry_of t)
  shares_encoded order form (node h words ss) t x a =
      ap (λ l. share_encoding order form (own_share t) ++ l)
      (shares_append order (inner form) (map (ring_share (dimension t)) (rings_of t)) (shares_of_each ss (members t))
      (inner_twice form)
      ∙ (λ i. rings_encoded order (inner form) (dimension t) (rings_of t) i
      ++ each_shares_encoded order form _ ss (members t) a.second.rest a.second.second i))
      ∙ sym (encoded_apart order form t)

  each_shares_encoded : (order : Endianness) (form : Form) (w : Wanted) (ss : Spellings) (ts : Values) (x : List ℕ)
      → SpellsEach w ss ts x
      → shares_encoding order (inner form) (shares_of_each ss ts) ≡ encodings order (inner form) (geometries_of ts)
  each_shares_encoded order form w no_spellings no_members x a = refl
  each_shares_encoded order form w (spelling s ss) (member t ts) x a =
      shares_append order (inner form) (shares_of s t) (shares_of_each ss ts) (inner_twice form)
      ∙ (λ i. shares_encoded order (inner form) s t a.front a.first.0 i
      ++ each_shares_encoded order form w ss ts a.rest a.second i)
  each_shares_encoded order form w _ _ x a = absurd a
