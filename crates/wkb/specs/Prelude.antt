-- Shared names of the field: byte orders, forms, dimensions, numbers and errors. Re-exports only.
pub use Rattle.wkb_geom.specs.declared.common.Endianness.{Endianness}
pub use Rattle.wkb_geom.specs.declared.common.Endianness.TheVariants.{BigEndian, LittleEndian}
pub use Rattle.wkb_geom.specs.declared.common.Form.{Form}
pub use Rattle.wkb_geom.specs.declared.common.Form.TheVariants.{Iso, Ewkb}
pub use Rattle.wkb_geom.specs.declared.common.Dimension.{Dimension}
pub use Rattle.wkb_geom.specs.declared.common.Dimension.TheVariants.{Xy, Xyz, Xym, Xyzm}
pub use Rattle.wkb_geom.specs.declared.common.Dimensions.{Dimensions}
pub use Rattle.wkb_geom.specs.declared.error.WkbError.{WkbError}
pub use Rattle.wkb_geom.specs.declared.error.Cause.{Cause}
pub use Rattle.wkb_geom.specs.declared.error.WkbError.TheVariants as errors
pub use Rattle.wkb_geom.specs.declared.error.Cause.TheVariants as causes
pub use Rattle.wkb_geom.specs.declared.common.Dimensions.TheVariants as traits
pub use Rattle.wkb_geom.specs.Numbers.{AreBytes, IsU32, IsWord, is_nan, all_nan, empty_word, order_byte, IsNumber}
unfoldable pub use Rattle.wkb_geom.specs.Numbers.{number, number_bytes}
pub use Rattle.wkb_geom.specs.Dimensions.{width, has_z, has_m, size, dimension_of_size, named, written_dimension}
pub use Rattle.wkb_geom.specs.Dimensions.{as_dimensions}
pub use Rattle.wkb_geom.specs.Errors.{TellsFault, IsMemory, Tells}
pub use Rattle.wkb_geom.specs.declared.error.General.{General}
pub use Rattle.wkb_geom.specs.declared.error.General.TheVariants as generals
pub use Rattle.wkb_geom.specs.declared.error.Overflow.{Overflow}
pub use Rattle.wkb_geom.specs.declared.error.Overflow.TheVariants as overflows
pub use Rattle.wkb_geom.specs.Meanings.{HasOrder, IsNamed}
pub use Rattle.wkb_geom.specs.Reading.{order_of_byte, count_in}
pub use Rattle.wkb_geom.specs.declared.words.TheConstants.{WORD_SIZE}
