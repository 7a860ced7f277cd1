-- The recursion of collections falls: a collection is longer than its members.
use Rattle.wkb_write.proofs.Prelude.{◌≡◌, ◌+◌, ◌<◌, ◌≤◌, ℕ, zero, suc, List, [], ◌∷◌, length, map, get_or, ap, arith}
use Rattle.wkb_write.proofs.Prelude.{Dimensions, Geometry, collection, geometries, byte_size}
use Rattle.wkb_laws.specs.Prelude.{Geometries, byte_sizes}

-- a member is no longer than all members
member_among : {X : Type 0} (f : X → Geometry) (xs : List X) (i : ℕ) (d : X) → i < length xs
    → byte_size (f (get_or xs i d)) ≤ byte_sizes (geometries (map f xs))
member_among f [] i d h = absurd (omega arith)
member_among f (x ∷ xs) zero d h = omega arith
member_among f (x ∷ xs) (suc i) d h = omega (arith, member_among f xs i d (omega arith))

pub members_fall : (d : Dimensions) (gs : Geometries) (geo : Geometry) (t : ℕ) → collection d gs ≡ geo
    → byte_size geo ≡ t → byte_sizes gs + 1 < t
members_fall d gs geo t is measure = let whole = ap byte_size is in omega (arith, whole)

pub member_falls : {X : Type 0} (f : X → Geometry) (xs : List X) (i : ℕ) (x : X) (t : ℕ) → x ≡ get_or xs i x
    → i < length xs → byte_sizes (geometries (map f xs)) + 1 ≡ t → byte_size (f x) < t
member_falls f xs i x t item within measure = grind (arith, byte_size, member_among)
