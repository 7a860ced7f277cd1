-- How many bytes of a view come after its header.
use Rattle.wkb_view.proofs.Prelude.{◌≡◌, ℕ, ◌-◌, List, length, None, arith, rings_size, fault, in_full_lem}
use Rattle.wkb_view.proofs.Prelude.{spelled_good, lawful-geometry_of, AreBytes, Layout, Coordinate, Listed, body_start}
use Rattle.wkb_view.proofs.Prelude.{srid_in, as_dimensions, BytesSpell, fitted_parts, polygon_laid, polygon_seen}
use Rattle.wkb_laws.proofs.Lengths.{srid_size_is}
use Rattle.wkb_laws.proofs.Spelled.{size_of_spelled_lem}
use Rattle.wkb_laws.proofs.Values.{Good}
use Rattle.wkb_laws.specs.Fits.{fitted_polygon}
use Rattle.wkb_view.specs.Lawful.{line_strings_fit}

-- a polygon, by what its view means
module _ (l : Layout) (ends bytes : List ℕ) (p : Listed (List (List Coordinate))) (view : polygon_laid l ends bytes ≡ p)
    (fine : AreBytes bytes) (spells : BytesSpell (polygon_seen (polygon_laid l ends bytes))) where
  good : Good (polygon_seen (polygon_laid l ends bytes)).value
  good =
      let seen = polygon_seen (polygon_laid l ends bytes) in
      spelled_good seen.spelled seen.value bytes fine (in_full_lem seen.spelled seen.value bytes spells)

  pub rings_same : fitted_parts (polygon_laid l ends bytes) ≡ (polygon_laid l ends bytes).parts
  rings_same =
      (line_strings_fit (as_dimensions l.dimension) (polygon_laid l ends bytes).parts).same
      (lawful-geometry_of (polygon_seen (polygon_laid l ends bytes)).value good.0)

  -- its rings with their count take all bytes after the header
  pub polygon_size : (n : ℕ) → n ≡ length bytes - body_start l.has_srid
      → n ≡ rings_size (as_dimensions p.dimension) (fitted_parts p)
  polygon_size n is =
      let seen = polygon_seen (polygon_laid l ends bytes) in
      let long = size_of_spelled_lem seen.spelled seen.value bytes (in_full_lem seen.spelled seen.value bytes spells) in
      grind (arith, rings_same, srid_size_is, srid_in)

  -- it has no fault
  pub polygon_writable : fault (fitted_polygon p) ≡ None
  polygon_writable = rw (← view, rings_same) good.1

pub ruleset sized_laws = (polygon_size, polygon_writable)
