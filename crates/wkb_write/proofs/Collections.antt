-- A collection's members, as a list of what they mean.
use Rattle.wkb_write.proofs.Prelude.{◌≡◌, ℕ, ◌+◌, ◌*◌, ◌<◌, ◌^◌, List, [], ◌∷◌, ◌++◌, length, map, get_or, refl}
use Rattle.wkb_write.proofs.Prelude.{ap, ◌∙◌, arith, None, Result, Err, flat_map, Endianness, Form, Dimension}
use Rattle.wkb_write.proofs.Prelude.{Dimensions, Stopped, Fault, Geometry, Progress, Advances, written_dimension}
use Rattle.wkb_write.proofs.Prelude.{geometries, encoding, encodings, fault, fault_each, first_fault}
use Rattle.wkb_write.proofs.Prelude.{or_else, counted, count_geometries, members_encoding, header_encoding}
use Rattle.wkb_write.proofs.Prelude.{dimensions_fault, none_first, none_rest, count_below, slice_get_read, sum_by}
use Rattle.wkb_write.proofs.Prelude.{sum_by-cons, count_fault, bytes_behind_header, Finds, capped, Bool, IsLaid, IsCut}
use Rattle.wkb_write.proofs.Prelude.{number_bytes}
use Rattle.wkb_geom.specs.Sizes.{byte_sizes}
use Rattle.wkb_write.specs.Bodies.{collection_of, measure_after, member_measure}
use Rattle.wkb_write.specs.Measures.{IsAdded, IsMeasured}
use Rattle.wkb_write.proofs.Faults.{reports_first, reports_rest}
use Rattle.wkb_write.proofs.Loops.{HasLaid, all_laid, head_laid, head_cut}
use Rattle.wkb_write.proofs.Falls.{members_fall, member_falls}
use Rattle.wkb_geom.specs.Encodings.{inner, form_with_flags}
use Rattle.wkb_write.specs.Answers.{member_encoding}
use Rattle.wkb_write.proofs.Sums.{Ahead}
use Rattle.wkb_write.proofs.Supported.{none_at}
use Rattle.wkb_write.proofs.Whole.{header_within}

module _ {X : Type 0} (f : X → Geometry) where
  encodings-geometries : (order : Endianness) (form : Form) (xs : List X)
      → encodings order form (geometries (map f xs)) ≡ flat_map (λ x. encoding order form (f x)) xs
  encodings-geometries order form [] = refl
  encodings-geometries order form (x ∷ xs) = grind (arith, encoding, encodings-geometries order form xs)

  count-geometries : (xs : List X) → count_geometries (geometries (map f xs)) ≡ length xs
  count-geometries [] = refl
  count-geometries (x ∷ xs) = omega (arith, count-geometries xs)

  faults-geometries : (xs : List X) → fault_each (geometries (map f xs)) ≡ first_fault (λ x. fault (f x)) xs
  unfolding first_fault
  faults-geometries [] = refl
  faults-geometries (x ∷ xs) = ap (or_else (fault (f x))) (faults-geometries xs)

  sizes-geometries : (xs : List X)
      → byte_sizes (geometries (map f xs)) ≡ 5 * length xs + sum_by (λ x. bytes_behind_header (f x)) xs
  sizes-geometries [] = refl
  sizes-geometries (x ∷ xs) =
      omega (arith, sum_by-cons (λ y. bytes_behind_header (f y)) x xs, sizes-geometries xs, header_within (f x))

  module _ (d : Dimensions) (xs : List X) where
    -- the encoding of a collection of these members, by the dimension that its header tells
    members_encoded : {named : Dimension} {own : Form} (order : Endianness) (form : Form) → named ≡ written_dimension d
        → inner form ≡ own → encoding order form (collection_of f d xs)
        ≡ header_encoding order form 7 named ++ counted order (λ x. encoding order own (f x)) xs
    unfolding members_encoding counted
    members_encoded order form name same = grind (arith, count-geometries, encodings-geometries)

    -- its header and its count were laid, and with these all of it where it has no member; or they were cut
    module _ {a b : Progress} {named : Dimension} (order : Endianness) (form : Form)
        (name : named ≡ written_dimension d) where
      pub collection_begun : (has_flags : Bool) → inner form ≡ form_with_flags has_flags
          → IsLaid a b (header_encoding order form 7 named ++ number_bytes order 4 (length xs))
          → HasLaid a b (encoding order form (collection_of f d xs)) (member_encoding f order has_flags) xs 0
      unfolding member_encoding
      collection_begun has_flags same p = head_laid order _ (members_encoded order form name same) refl p

      pub collection_empty : length xs ≡ 0
          → IsLaid a b (header_encoding order form 7 named ++ number_bytes order 4 (length xs))
          → IsLaid a b (encoding order form (collection_of f d xs))
      collection_empty none p = all_laid (head_laid order _ (members_encoded order form name refl) refl p) (omega arith)

      pub collection_cut : IsCut a b (header_encoding order form 7 named ++ number_bytes order 4 (length xs))
          → IsCut a b (encoding order form (collection_of f d xs))
      collection_cut p = head_cut order _ _ xs (members_encoded order form name refl) refl p

    -- a collection without a fault has a count that four bytes hold
    pub collection_count : fault (collection_of f d xs) ≡ None → length xs < 2 ^ 32
    collection_count none = grind (arith, count_below, count-geometries, none_first, none_rest, dimensions_fault)

    -- where a collection has no fault, a member has none
    pub member_ready : (i : ℕ) (x : X) → x ≡ get_or xs i x → i < length xs
        → fault (collection_of f d xs) ≡ None → fault (f x) ≡ None
    member_ready i x is within none =
        grind (arith, faults-geometries, none_rest, dimensions_fault, none_at, fault, slice_get_read)

    -- the fault of its dimensions, or of its count
    pub dimensions_refused : {r : Result ℕ Fault} (before : ℕ) (e : Fault) → r ≡ Err e → Finds e (dimensions_fault d)
        → IsAdded before (collection_of f d xs) r
    unfolding IsAdded
    dimensions_refused before e exit finds = rw exit (reports_first e _ _ finds)

    pub count_refused : {n : ℕ} {r : Result ℕ Fault} (before : ℕ) (e : Fault) → r ≡ Err e → dimensions_fault d ≡ None
        → n ≡ length xs → Finds e (count_fault n) → IsAdded before (collection_of f d xs) r
    unfolding IsAdded
    count_refused before e exit supported is finds = grind (arith, reports_rest, count-geometries, reports_first)

    -- its members are measured as parts, after what is before it
    pub members_ahead : {n : ℕ} (before total : ℕ) → dimensions_fault d ≡ None
        → (count_fault (length xs) ≡ None) × (n ≡ length xs) → total ≡ capped (before + (4 + 5 * n))
        → Ahead (λ x. member_measure (f x)) (measure_after before (collection_of f d xs)) total xs 0
    unfolding or_else
    members_ahead before total supported counted sum =
        grind (arith, fault, count-geometries, counted, faults-geometries, sizes-geometries)

-- a collection that a value is: where it has no fault, and where it was measured or put
module _ {X : Type 0} {geo : Geometry} {read d : Dimensions} (f : X → Geometry) (xs : List X) (same : read ≡ d)
    (is : collection_of f d xs ≡ geo) where
  pub collection_ready : fault geo ≡ None → fault (collection_of f read xs) ≡ None
  collection_ready none = rw same (ap fault is ∙ none)

  pub collection_added : (before : ℕ) (r : Result ℕ Fault)
      → IsAdded before (collection_of f read xs) r → IsAdded before geo r
  collection_added before r added = rw (← is, ← same) added

  pub lays_collection : (a b : Progress) (r : Result (Unit {0}) Stopped) (order : Endianness) (form : Form)
      → Advances a b (encoding order form (collection_of f read xs)) r
      → Advances a b (encoding order form geo) r
  lays_collection a b r order form p = rw (← is, ← same) p

-- where nothing is before it
pub added_alone : (g : Geometry) (r : Result ℕ Fault) → IsAdded 0 g r → IsMeasured g r
unfolding IsAdded IsMeasured
added_alone g r added = grind arith

pub ruleset collection_laws = (collection_ready, lays_collection)

pub ruleset begun_laws = (collection_begun, collection_empty, collection_cut, collection_count)

pub ruleset added_laws = (added_alone, collection_added, dimensions_refused, count_refused, members_fall, member_falls)
