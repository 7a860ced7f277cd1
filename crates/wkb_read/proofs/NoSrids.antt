-- Geometries that have no SRID but their own.
use Rattle.wkb_read.proofs.Prelude.{◌≡◌, ◌+◌, ◌-◌, ◌*◌, ◌≤◌, List, [], ◌∷◌, length, None, refl, arith, geometry_of}
use Rattle.wkb_read.proofs.Prelude.{AllByRecursion, Item, spellings, BytesSpell, geometry_seen, Listed, Coordinate}
use Rattle.wkb_read.proofs.Prelude.{seen_as_it_is}
use Rattle.std.proofs.Common.{is_some}
use Rattle.wkb_laws.specs.Prelude.{fault, AreBytes, srid_size, byte_size}
use Rattle.wkb_geom.specs.Spellings.{Spelling, node, Spells, srid_count, srid_count_each}
use Rattle.wkb_laws.proofs.Lengths.{srid_size_is, none_without_members, none_in_points}
use Rattle.wkb_laws.proofs.Spelled.{in_full_lem, size_of_spelled_lem}
use Rattle.wkb_laws.proofs.Values.{Good, spelled_good, lawful-geometry_of}
use Rattle.wkb_read.specs.Prelude.{members_spelled, srid_of, polygon_seen, multi_point_seen}
use Rattle.wkb_read.specs.NoSrids.{HoldsNoSrid, HaveNoSrids}
use Rattle.wkb_view.specs.declared.multi_point.MultiPoint.{MultiPoint}
use Rattle.wkb_geom.specs.Values as value

-- the rings of a polygon have none
pub polygon_holds_none : (p : Listed (List (List Coordinate))) → HoldsNoSrid (polygon_seen p)
polygon_holds_none p spells = inside p.spelled (in_full_lem _ _ _ spells)
  where
    inside : (s : Spelling) → Spells s (value.polygon p.dimension p.parts) p.encoding
        → srid_count_each (members_spelled s) ≡ 0
    inside (node h own ss) a = none_without_members _ ss _ a.second.second

pub multi_point_holds_none : (m : MultiPoint) → HoldsNoSrid (multi_point_seen m)
multi_point_holds_none m spells =
    let w = multi_point_seen m in inside w.spelled (in_full_lem w.spelled w.value w.encoding spells)
  where
    inside : (s : Spelling) → Spells s (multi_point_seen m).value (multi_point_seen m).encoding
        → srid_count_each (members_spelled s) ≡ 0
    inside (node h own ss) a = none_in_points _ ss _ _ a.second.second

-- nor have the members of a collection, where they have none
pub none_in_members : (members : List Item) → HaveNoSrids members → AllByRecursion BytesSpell members
    → srid_count_each (spellings members) ≡ 0
none_in_members [] none each = refl
none_in_members (m ∷ ms) none each = omega (arith, none.0 each.0, none_in_members ms none.1 each.1)

own_and_inside : (s : Spelling)
    → 4 * srid_count s ≡ srid_size (is_some (srid_of s)) + 4 * srid_count_each (members_spelled s)
own_and_inside (node h own ss) = omega (arith, srid_size_is (is_some h.srid))

-- the bytes of a geometry that holds no SRID, without its own
module _ (w : Item) (spells : BytesSpell w) (none : HoldsNoSrid w) where
  long : length w.encoding ≡ byte_size (geometry_of w.value) + srid_size (is_some (srid_of w.spelled))
  long = grind (arith, size_of_spelled_lem, in_full_lem, own_and_inside)

  pub srid_within : srid_size (is_some (srid_of w.spelled)) ≤ length w.encoding
  srid_within = omega (arith, long)

  module _ (fine : AreBytes w.encoding) where
    good : Good w.value
    good = spelled_good w.spelled w.value w.encoding fine (in_full_lem w.spelled w.value w.encoding spells)

    means : geometry_seen w ≡ geometry_of w.value
    means = seen_as_it_is w (lawful-geometry_of w.value good.0)

    pub size_known : length w.encoding - srid_size (is_some (srid_of w.spelled)) ≡ byte_size (geometry_seen w)
    size_known = rw means (omega (arith, long))

    pub writable : fault (geometry_seen w) ≡ None
    writable = rw means good.1

pub ruleset size_laws = (srid_within, size_known, writable)
