-- Which encoding is asked for.
use Rattle.std.specs.Prelude.{ℕ, List, Option, Some, None, ◌==◌, if◌then◌else◌}
use Rattle.wkb_laws.specs.Prelude.{Endianness, BigEndian, LittleEndian, Iso, Ewkb, IsRewriting, IsRewritingWithSrid}
use Rattle.wkb_sink.specs.declared.options.WriteOptions.{WriteOptions}
use Rattle.wkb_abi.specs.declared.options.TheConstants.{BIG_ENDIAN, LITTLE_ENDIAN, ISO, EWKB_OWN_SRID, EWKB_WITH_SRID}
use Rattle.wkb_abi.specs.declared.options.TheConstants.{EWKB_WITHOUT_SRID}
use Rattle.wkb_abi.specs.declared.options.Options.{Options}
use Rattle.wkb_abi.specs.declared.options.Request.{Request}
use Rattle.wkb_abi.specs.declared.options.Request.TheVariants.{Encoding, OwnSrid}

-- the order of this number
abbrev pub order_asked : ℕ → Option Endianness
order_asked n = if n == BIG_ENDIAN then Some BigEndian else (if n == LITTLE_ENDIAN then Some LittleEndian else None)

-- what the options ask for in this order
abbrev pub form_asked : Options → Endianness → Option Request
form_asked o order =
    if o.form == ISO then Some (Encoding (record { endianness = order; form = Iso }))
    else (if o.form == EWKB_OWN_SRID then Some (OwnSrid order)
    else (if o.form == EWKB_WITH_SRID then Some (Encoding (record { endianness = order; form = Ewkb (Some o.srid) }))
    else (if o.form == EWKB_WITHOUT_SRID then Some
    (Encoding (record { endianness = order; form = Ewkb None })) else None)))

-- what the options ask for, where their numbers mean something
abbrev pub request_in : Options → Option Endianness → Option Request
request_in o (Some order) = form_asked o order
request_in o None = None

abbrev pub request_of : Options → Option Request
request_of o = request_in o (order_asked o.order)

-- the encoding that is asked for of the geometry at the start of the input
abbrev pub IsRequested : Request → List ℕ → List ℕ → Type 0
IsRequested (Encoding o) input encoding = IsRewriting o.endianness o.form input encoding
IsRequested (OwnSrid order) input encoding = IsRewritingWithSrid order input encoding

-- the options of a request, for a geometry that has this SRID of its own
abbrev pub options_for : Request → Option ℕ → WriteOptions
options_for (Encoding o) srid = o
options_for (OwnSrid order) srid = record { endianness = order; form = Ewkb srid }
