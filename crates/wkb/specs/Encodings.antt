-- What is written, and what can't be.
pub use Rattle.wkb_geom.specs.Encodings.{form_srid, inner, count_geometries, encoding, encodings}
pub use Rattle.wkb_geom.specs.declared.error.Fault.{Fault}
pub use Rattle.wkb_geom.specs.declared.error.Fault.TheVariants.{UnsupportedDimensions as unsupported_dimensions}
pub use Rattle.wkb_geom.specs.declared.error.Fault.TheVariants.{Count as count_overflow, Size as size_overflow}
pub use Rattle.wkb_geom.specs.Encodings.{coordinates_fault, rings_fault, fault, fault_each, fault_under, IsWritable}
pub use Rattle.wkb_geom.specs.Encodings.{IsForm, IsRewriting, IsRewritingWithSrid}
unfoldable pub use
    Rattle.wkb_geom.specs.Encodings.{code_of, srid_encoding, header_encoding, words_encoding, coordinates_encoding}
unfoldable pub use Rattle.wkb_geom.specs.Encodings.{point_words, point_encoding}
unfoldable pub use
    Rattle.wkb_geom.specs.Encodings.{
      line_string_encoding,
      polygon_encoding,
      members_encoding,
      or_else,
      dimensions_fault,
    }
unfoldable pub use Rattle.wkb_geom.specs.Encodings.{count_fault, first_fault, size_fault}
pub use Rattle.wkb_write.specs.Answers.{encoding_of, fault_of}
