-- The runs of words, one by one and joined again.
use Rattle.std.proofs.Common.{◌≡◌, ℕ, zero, suc, ◌+◌, ◌-◌, ◌*◌, ◌/◌, ◌%◌, ◌<◌, ◌≤◌, refl, sym, ap, ◌∙◌, arith, List, []}
use Rattle.std.proofs.Common.{◌∷◌, ◌++◌, length, take, drop, length-drop, Some, None, slice_get, div-add-mod'}
use Rattle.std.proofs.Math.Nat.{mul-le-mul_right, zero-mul}
use Rattle.std.proofs.lemmas.List.{drop-drop, take-append-drop}
use Rattle.std.specs.List.{concat}
use Rattle.wkb_geom.specs.declared.common.Dimensions.{Dimensions}
use Rattle.wkb_geom.specs.Dimensions.{size}
use Rattle.wkb_plain.specs.Runs.{runs, coordinates_in}

pub length-runs : (width count : ℕ) (words : List ℕ) → length (runs width count words) ≡ count
length-runs width zero words = refl
length-runs width (suc count) words = omega (arith, length-runs width count (drop width words))

pub slice_get-runs : (width count i : ℕ) (words : List ℕ) → i < count
    → slice_get (runs width count words) i ≡ Some (take width (drop (i * width) words))
slice_get-runs width zero i words h = absurd (omega arith)
slice_get-runs width (suc count) zero words h = ap (λ n. Some (take width (drop n words))) (sym (zero-mul width))
slice_get-runs width (suc count) (suc i) words h =
    slice_get-runs width count i (drop width words) (omega arith)
    ∙ ap (λ l. Some (take width l)) (drop-drop (i * width) width words ∙ ap (λ n. drop n words) (omega arith))

pub slice_get-runs_past : (width count i : ℕ) (words : List ℕ) → count ≤ i → slice_get (runs width count words) i ≡ None
slice_get-runs_past width zero i words h = refl
slice_get-runs_past width (suc count) zero words h = absurd (omega arith)
slice_get-runs_past width (suc count) (suc i) words h =
    slice_get-runs_past width count i (drop width words) (omega arith)

-- a run below the count ends within the words
pub run_within : (width i : ℕ) (words : List ℕ) → i < length words / width → i * width + width ≤ length words
run_within width i words h =
    let step : (i + 1) * width ≤ length words / width * width = mul-le-mul_right width (omega arith) in
    omega arith

concat-runs : (width count : ℕ) (words : List ℕ) → length words ≡ count * width
    → concat (runs width count words) ≡ words
concat-runs width zero [] whole = refl
concat-runs width zero (w ∷ words) whole = absurd (omega arith)
concat-runs width (suc count) words whole =
    ap (λ rest. take width words ++ rest) (concat-runs width count (drop width words) (simp length-drop (omega arith)))
    ∙ take-append-drop width words

-- where no word is left over, the coordinates are all the words
pub concat-coordinates_in : (d : Dimensions) (words : List ℕ) → length words % size d ≡ 0
    → concat (coordinates_in d words) ≡ words
concat-coordinates_in d words whole =
    concat-runs (size d) (length words / size d) words (omega (arith, div-add-mod' (length words) (size d)))

-- a coordinate that there is ends within the words
pub coordinate_within : (d : Dimensions) (words : List ℕ) (i width : ℕ) → width ≡ size d
    → i < length (coordinates_in d words) → i * width + width ≤ length words
coordinate_within d words i width wide h =
    let count = length-runs (size d) (length words / size d) words in
    rw wide (run_within (size d) i words (omega (arith, count, h)))

-- and stands there
pub coordinate_at : (d : Dimensions) (words : List ℕ) (i width : ℕ) → width ≡ size d
    → i < length (coordinates_in d words)
    → slice_get (coordinates_in d words) i ≡ Some (take (i * width + width - i * width) (drop (i * width) words))
coordinate_at d words i width wide h =
    let count = length-runs (size d) (length words / size d) words in grind (arith, slice_get-runs)

pub ruleset runs_laws = (length-runs, slice_get-runs, slice_get-runs_past, run_within, concat-coordinates_in)

pub ruleset line_laws = (runs_laws, coordinate_within, coordinate_at)
