-- Which geometries meet a box.
use Rattle.std.specs.Prelude.{◌≡◌, ℕ, List, Bool, true, ◌&&◌, nat_le, nat_lt}
use Rattle.std.specs.Borrow.{Bor}
use Rattle.wkb.specs.Checks.{Range, Bounds, BoundsFront, rank}
use Rattle.wkb.specs.Kept.{Keeps}
use Rattle.wkb_clients.specs.declared.boxes.BoundingBox.{BoundingBox}

-- whether the second range has a number and neither ends before the other begins, in the order of numbers
abbrev pub ranges_meet : Range → Range → Bool
ranges_meet a b =
    nat_lt 0 b.count && (nat_le (rank a.least) (rank b.greatest) && nat_le (rank b.least) (rank a.greatest))

abbrev pub bounds_meet : BoundingBox → Bounds → Bool
bounds_meet box b = ranges_meet box.x b.x && ranges_meet box.y b.y

-- the bytes begin with a geometry whose bounds meet the box
pub record Meets (box : BoundingBox) (bytes : List ℕ) : Type 0 where
  pub bounds : Bounds
  pub front : BoundsFront bytes bounds
  pub meet : bounds_meet box bounds ≡ true

abbrev pub MeetsNone : BoundingBox → List ℕ → Type 0
MeetsNone box bytes = Meets box bytes → ⊥

-- these are the geometries that meet the box, in order, and no others
abbrev pub AreThoseThatMeet : BoundingBox → List (Bor (List ℕ)) → List (Bor (List ℕ)) → Type 0
AreThoseThatMeet box all found = Keeps (λ b. Meets box b.now) (λ b. MeetsNone box b.now) all found
