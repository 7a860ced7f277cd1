-- Lemmas: a shape of any type is lawful, of one dimension, and so is a layer.
use Rattle.std.proofs.Common.{ap, ◌∙◌, sym, subst, ◌≡◌, List, [], ◌∷◌, map, refl}
use Rattle.wkb.specs.Prelude.traits.{Xy}
use Rattle.wkb.specs.Geometries.{Geometry, dimensions_of, geometries, IsGeometry, AreGeometries}
use Rattle.wkb_cases.specs.LawfulPlaces.{place_lawful}
use Rattle.wkb_clients.specs.Features.{level_meant, feature_meant, layer_members}
use Rattle.wkb_clients.specs.LawfulShapes.{path_lawful, area_lawful, region_lawful}
use Rattle.wkb_clients.specs.declared.features.Feature.{Feature}
use Rattle.wkb_clients.specs.declared.features.Feature.TheOpen.{Feature-F, Place, Path, Area, Region, Together}
use Rattle.wkb_clients.specs.declared.features.Feature.TheViews.{out-Feature}
use Rattle.wkb_clients.specs.declared.features.Feature.TheFolds.{fold_out-Feature, map-Feature, ind-Feature}
use Rattle.wkb_clients.specs.declared.features.Feature.TheFolds.{fold-roll-Feature}
use Rattle.wkb_clients.specs.declared.features.Layer.{Layer}

-- one level, with what each member means in its place
abbrev level_of : Feature-F Feature → Geometry
level_of x = level_meant (map-Feature Feature Geometry feature_meant x)

level_has_one_dimension : (x : Feature-F Feature) → dimensions_of (level_of x) ≡ Xy
level_has_one_dimension (Place p) = refl
level_has_one_dimension (Path p) = refl
level_has_one_dimension (Area a) = refl
level_has_one_dimension (Region r) = refl
level_has_one_dimension (Together ms) = refl

pub feature_one_dimension : (feature : Feature) → dimensions_of (feature_meant feature) ≡ Xy
feature_one_dimension feature =
    ap dimensions_of (fold_out-Feature Geometry level_meant feature) ∙ level_has_one_dimension (out-Feature feature)

abbrev LawfulFeature : Type 0
LawfulFeature = (feature : Feature) × IsGeometry (feature_meant feature)

together_lawful : (ms : List LawfulFeature) → AreGeometries (geometries (map feature_meant (map (λ m. m.0) ms)))
together_lawful [] = tt
together_lawful (m ∷ ms) = (m.1, together_lawful ms)

-- a level of members that are lawful
level_lawful : (x : Feature-F LawfulFeature) → IsGeometry (level_of (map-Feature LawfulFeature Feature (λ m. m.0) x))
level_lawful (Place p) = place_lawful p
level_lawful (Path p) = path_lawful p
level_lawful (Area a) = area_lawful a
level_lawful (Region r) = region_lawful r
level_lawful (Together ms) = together_lawful ms.now

pub feature_lawful : (feature : Feature) → IsGeometry (feature_meant feature)
feature_lawful =
    ind-Feature (λ feature. IsGeometry (feature_meant feature))
    (λ x y is.
    subst IsGeometry (sym (fold-roll-Feature Geometry level_meant x))
    (subst (λ z. IsGeometry (level_of z)) is (level_lawful y)))

features_lawful : (features : List Feature) → AreGeometries (geometries (map feature_meant features))
features_lawful [] = tt
features_lawful (feature ∷ features) = (feature_lawful feature, features_lawful features)

pub layer_lawful : (layer : Layer) → AreGeometries (geometries (layer_members layer))
layer_lawful layer = features_lawful layer.features.now
