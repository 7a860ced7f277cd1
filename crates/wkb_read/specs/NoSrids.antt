-- Which geometries have no SRID, or none but their own.
use Rattle.std.specs.Prelude.{◌≡◌, List, Bool, nat_lt}
use Rattle.std.specs.List.{AllByRecursion}
use Rattle.wkb_read.specs.Prelude.{Item, Value, BytesSpell, members_spelled}
use Rattle.wkb_laws.specs.Prelude.{srid_count, srid_count_each, kind}

-- whether it is a point, a line string, a polygon or a multi point: no member of these has an SRID
abbrev pub tells_size : Value → Bool
tells_size t = nat_lt (kind t) 5

-- no member of the geometry has an SRID
abbrev pub HoldsNoSrid : Item → Type 0
HoldsNoSrid w = BytesSpell w → srid_count_each (members_spelled w.spelled) ≡ 0

-- of these geometries none has an SRID, and no member of theirs
abbrev pub HaveNoSrids : List Item → Type 0
HaveNoSrids = AllByRecursion (λ w. BytesSpell w → srid_count w.spelled ≡ 0)
