-- What is written under some options.
use Rattle.std.specs.Prelude.{ℕ, ◌+◌, List, ◌++◌, is_some}
use Rattle.wkb_geom.specs.Encodings.{form_srid, header_encoding, inner}
use Rattle.wkb_geom.specs.Numbers.{number_bytes}
use Rattle.wkb_geom.specs.Refusals.{srid_size}
use Rattle.wkb_geom.specs.declared.{common.Form.Form, code.WkbType.WkbType}
use Rattle.wkb_geom.specs.Reading.{type_dimension, type_kind}
use Rattle.wkb_sink.specs.declared.options.WriteOptions.{WriteOptions}

-- the options of a geometry inside another one
abbrev pub inner_options : WriteOptions → WriteOptions
inner_options options = record { endianness = options.endianness; form = inner options.form }

-- the header of a geometry of this kind and dimension
abbrev pub header_of : WriteOptions → WkbType → List ℕ
header_of options wkb_type =
    header_encoding options.endianness options.form (type_kind wkb_type) (type_dimension wkb_type)

-- such a header, and then a count
abbrev pub counted_header : WriteOptions → WkbType → ℕ → List ℕ
counted_header options wkb_type n = header_of options wkb_type ++ number_bytes options.endianness 4 n

-- the length of a header under a form
abbrev pub header_size : Form → ℕ
header_size form = 5 + srid_size (is_some (form_srid form))
