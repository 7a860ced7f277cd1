-- A polygon's rings are inside the rings, and are the piece.
use Rattle.std.proofs.Common.{◌≡◌, ℕ, List, ◌+◌, ◌-◌, ◌<◌, ◌≤◌, sym, arith}
use Rattle.std.proofs.Common.{length, Some, None, slice_index, slice_range}
use Rattle.wkb_levels.specs.Cuts.{AreOnes, only_each}
use Rattle.wkb_levels.specs.EndLists.{start_of, ends_of, begin_of}
use Rattle.wkb_levels.specs.RingLists.{rings_rings}
use Rattle.wkb_levels.specs.PolygonLists.{polygons_polygons}
use Rattle.wkb_levels.specs.declared.polygons.Polygons.{Polygons}
use Rattle.wkb_levels.proofs.Pieces.{length-pieces, slice_get-pieces, slice_range-pieces, start_from}
use Rattle.wkb_levels.proofs.Pieces.{ones_at, ones_only, not_ones}

-- none begins before the first ring
pub begins_from : (p : Polygons) (s b i : ℕ) → s ≡ start_of p.ends → b ≡ begin_of p.ends i
    → i < length (polygons_polygons p) → s ≤ b
begins_from p s b i first at h =
    let limit = start_of p.ends + length (rings_rings p.rings) in
    omega (
      arith,
      first,
      at,
      start_from limit (start_of p.ends) (ends_of p.ends) i p.fit (omega (arith, h, length-pieces)),
    )

-- none ends before it begins, nor past the rings
pub ends_in : (p : Polygons) (s b e i : ℕ) → s ≡ start_of p.ends → b ≡ begin_of p.ends i
    → e ≡ slice_index (ends_of p.ends) i → i < length (polygons_polygons p)
    → (s ≤ e) × (b - s ≤ e - s) × (e - s ≤ length (rings_rings p.rings))
ends_in p s b e i first at to h = grind (arith, length-pieces, begins_from)

-- where each has one ring, there are as many rings
pub ones_in : (p : Polygons) (n : ℕ) → n ≡ length (ends_of p.ends) → AreOnes (start_of p.ends) (ends_of p.ends)
    → n ≤ length (rings_rings p.rings)
ones_in p n count ones = grind (arith, ones_at (start_of p.ends) (ends_of p.ends) n ones (omega (arith, count)))

-- and they are the first ones
pub ones_first : (p : Polygons) (n : ℕ) (rings : List (List (List ℕ))) → n ≡ length (ends_of p.ends)
    → AreOnes (start_of p.ends) (ends_of p.ends) → rings ≡ slice_range (rings_rings p.rings) 0 n
    → Some rings ≡ only_each (polygons_polygons p)
ones_first p n rings count ones are = grind (arith, ones_only, ones_in)

-- where not each has one ring
pub not_ones_in : (p : Polygons) → (AreOnes (start_of p.ends) (ends_of p.ends) → ⊥)
    → None ≡ only_each (polygons_polygons p)
not_ones_in p differ =
    let s = start_of p.ends in
    sym (not_ones s (rings_rings p.rings) (s + length (rings_rings p.rings)) s (ends_of p.ends) (omega arith)
    (omega arith) p.fit differ)

pub ruleset polygon_laws = (
  length-pieces,
  slice_get-pieces,
  slice_range-pieces,
  begins_from,
  ends_in,
  ones_in,
  ones_first,
  not_ones_in,
)
