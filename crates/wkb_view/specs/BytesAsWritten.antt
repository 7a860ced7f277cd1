-- Geometries whose bytes in memory are what is written of them.
use Rattle.std.specs.Prelude.{◌≡◌, Bool, Option, IsSome, MatchOption}
use Rattle.wkb_laws.specs.Prelude.{Form, geometry_of}
use Rattle.wkb_geom.specs.Encodings.{form_srid, form_with_flags}
use Rattle.wkb_laws.specs.Written.{written}
use Rattle.wkb_view.specs.Prelude.{Endianness, AreBytes, Item}

-- the geometry's bytes spell it as it is written in this order, with EWKB's flags or without, and with no SRID
pub record IsSpelledAsWritten (order : Endianness) (has_flags : Bool) (item : Item) : Type 0 where
  pub bytes : AreBytes item.encoding
  pub same : item.spelled ≡ written order (form_with_flags has_flags) (geometry_of item.value)

-- whether the form has EWKB's flags is found; nothing, where the form has an SRID
abbrev pub IsFlagsOf : Form → Option Bool → Type 0
IsFlagsOf form found = MatchOption found (IsSome (form_srid form)) (λ has_flags. form ≡ form_with_flags has_flags)
