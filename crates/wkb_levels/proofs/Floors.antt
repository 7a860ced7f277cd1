-- How far rows reach.
use Rattle.std.proofs.Common.{◌≡◌, ℕ, ◌+◌, ◌≤◌, max, arith, ◌⊎◌, inl, inr}
use Rattle.std.proofs.lemmas.Bool.{cases_eq}
use Rattle.wkb_geom.specs.declared.common.Dimensions.{Dimensions}
use Rattle.wkb_levels.specs.declared.{levels.Levels.Levels, levels.Place.Place}
use Rattle.wkb_levels.specs.Columns.{EndUpTo, IsLevelFloor, IsFloor, row_end, rings_end}
use Rattle.wkb_levels.specs.Columns.{SpansSingles, SpansRings, SpansCoordinates, coordinates_end}

-- ---- at one level

-- a row that spans some items there reaches to its end, one that spans none reaches nowhere
abbrev pub Reaches : (ℕ → Type 0) → (ℕ → ℕ) → ℕ → ℕ → ℕ → Type 0
Reaches Spans end i floor next = (Spans i × (next ≡ max floor (end i))) ⊎ ((Spans i → ⊥) × (next ≡ floor))

module _ {Spans : ℕ → Type 0} {end : ℕ → ℕ} where
  pub floor_next : {i floor next : ℕ} → IsLevelFloor Spans end i floor → Reaches Spans end i floor next
      → IsLevelFloor Spans end (i + 1) next
  floor_next {i} {floor} {next} is (inl (here, moved)) =
      record {
        enough = grind (arith, cases_eq);
        least = λ n ends.
            omega (
              arith,
              moved,
              is.least n (λ j h spans. ends j (omega (arith, h)) spans),
              ends i (omega arith) here,
            );
      }
  floor_next {i} {floor} {next} is (inr (differ, kept)) =
      record {
        enough = grind (arith, cases_eq);
        least = λ n ends. omega (arith, kept, is.least n (λ j h spans. ends j (omega (arith, h)) spans));
      }

  -- a number is behind the earlier rows' ends exactly if it is behind the floor
  pub behind : {i floor : ℕ} → IsLevelFloor Spans end i floor → (n : ℕ) → floor ≤ n → EndUpTo Spans end i n
  behind is n up j h spans = omega (arith, is.enough j h spans, up)

-- ---- at all

pub front_floor : (place : Place) → place.singles ≡ 0 → place.rings ≡ 0 → place.coordinates ≡ 0
    → (l : Levels) (d : Dimensions) → IsFloor l d 0 place
front_floor place s r c l d = grind arith

module _ {l : Levels} {d : Dimensions} {i : ℕ} {floor : Place} (is : IsFloor l d i floor) (next : Place) where
  pub place_next : Reaches (SpansSingles l) (row_end l) i floor.singles next.singles
      → Reaches (SpansRings l) (rings_end l) i floor.rings next.rings
      → Reaches (SpansCoordinates l d) (coordinates_end l) i floor.coordinates next.coordinates
      → IsFloor l d (i + 1) next
  place_next s r c = record {
    singles = floor_next is.singles s;
    rings = floor_next is.rings r;
    coordinates = floor_next is.coordinates c;
  }

pub ruleset floor_laws = front_floor
