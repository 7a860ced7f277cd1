-- What polygons one after another mean.
use Rattle.std.specs.Prelude.{ℕ, List}
use Rattle.wkb_geom.specs.declared.common.Dimensions.{Dimensions}
use Rattle.wkb_levels.specs.declared.{ends.Ends.Ends, polygons.Polygons.Polygons, rings.Rings.Rings}
use Rattle.wkb_levels.specs.Cuts.{pieces_from}
use Rattle.wkb_levels.specs.EndLists.{start_of, ends_of}
use Rattle.wkb_levels.specs.RingLists.{rings_dimensions, rings_rings}

-- the polygons of these rings that end here; the first begins with the first ring
abbrev pub polygons_of : Rings → Ends → List (List (List (List ℕ)))
polygons_of rings e = pieces_from (start_of e) (rings_rings rings) (start_of e) (ends_of e)

abbrev pub polygons_dimensions : Polygons → Dimensions
polygons_dimensions p = rings_dimensions p.rings

abbrev pub polygons_polygons : Polygons → List (List (List (List ℕ)))
polygons_polygons p = polygons_of p.rings p.ends
