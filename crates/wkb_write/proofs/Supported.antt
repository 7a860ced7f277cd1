-- What has no fault: an item of a list, and a dimension, of which a coordinate can be laid.
use Rattle.wkb_write.proofs.Prelude.{◌≡◌, ℕ, zero, suc, ◌≤◌, List, [], ◌∷◌, Option, Some, None, ap, ◌∙◌, arith}
use Rattle.wkb_write.proofs.Prelude.{slice_get, Dimensions, none_first, none_rest, size, Fault, first_fault}
use Rattle.wkb_write.proofs.Prelude.{dimensions_fault, Dimension, written_dimension}
use Rattle.wkb_geom.specs.Dimensions.{width}
use Rattle.wkb_laws.proofs.Lengths.{width-least}
use Rattle.wkb_laws.proofs.Values.{width-written_dimension}
use Rattle.wkb_sink.specs.Runs.{FitsCoordinate}
use Rattle.wkb_write.specs.Bodies.{coordinate_words}

-- where no item has a fault, the item at i has none
pub none_at : {X : Type 0} (f : X → Option Fault) (xs : List X) (i : ℕ) (x : X) → first_fault f xs ≡ None
    → slice_get xs i ≡ Some x → f x ≡ None
unfolding first_fault
none_at f [] i x h is = cc
none_at f (y ∷ ys) zero x h is = let same : x ≡ y = cc in ap f same ∙ none_first (f y) (first_fault f ys) h
none_at f (y ∷ ys) (suc i) x h is = none_at f ys i x (none_rest (f y) (first_fault f ys) h) is

-- a dimension with a name has two to four words
pub width_most : (d : Dimension) → width d ≤ 4
width_most d = grind arith

pub supported_at_least : (d : Dimensions) → dimensions_fault d ≡ None → 2 ≤ size d
supported_at_least d none = omega (arith, width-written_dimension d none, width-least (written_dimension d))

pub supported_at_most : (d : Dimensions) → dimensions_fault d ≡ None → size d ≤ 4
supported_at_most d none = omega (arith, width-written_dimension d none, width_most (written_dimension d))

-- and as many as the name of a supported dimension
pub named_words : (d : Dimensions) → dimensions_fault d ≡ None → width (written_dimension d) ≡ coordinate_words d
named_words d none = omega (arith, width-written_dimension d none, supported_at_most d none)

pub ruleset width_laws = (width-least, width_most, named_words)

-- so its coordinates can be laid
pub has_width : {d of : Dimensions} {named : Dimension} {words : ℕ} → named ≡ written_dimension d → of ≡ d
    → dimensions_fault d ≡ None → words ≡ width named → FitsCoordinate of words
has_width {d = d} {named = named} name same none is =
    grind (arith, width-written_dimension, size, width-least, width_most)
