-- What a shape of any type means, and several together.
use Rattle.std.specs.Prelude.{List, map, Some}
use Rattle.wkb.specs.Prelude.traits.{Xy}
use Rattle.wkb.specs.Geometries.{Geometry, point, collection, geometries}
use Rattle.wkb_cases.specs.Places.{words_of_place}
use Rattle.wkb_clients.specs.Shapes.{path_meant, area_meant, region_meant}
use Rattle.wkb_clients.specs.declared.features.Feature.{Feature}
use Rattle.wkb_clients.specs.declared.features.Feature.TheOpen.{Feature-F, Place, Path, Area, Region, Together}
use Rattle.wkb_clients.specs.declared.features.Feature.TheFolds.{fold-Feature}
use Rattle.wkb_clients.specs.declared.features.Layer.{Layer}

-- one level, with what each member means in its place
abbrev pub level_meant : Feature-F Geometry → Geometry
level_meant (Place p) = point Xy (Some (words_of_place p))
level_meant (Path p) = path_meant p
level_meant (Area a) = area_meant a
level_meant (Region r) = region_meant r
level_meant (Together ms) = collection Xy (geometries ms.now)

-- what a shape means
abbrev pub feature_meant : Feature → Geometry
feature_meant = fold-Feature Geometry level_meant

-- what each shape of a layer means
abbrev pub layer_members : Layer → List Geometry
layer_members layer = map feature_meant layer.features.now

-- a layer is a collection of these
abbrev pub layer_meant : Layer → Geometry
layer_meant layer = collection Xy (geometries (layer_members layer))
