-- The lengths of a header and of numbers.
use Rattle.wkb_sink.proofs.Prelude.{◌≡◌, ℕ, ◌+◌, ◌≤◌, ◌++◌, length, arith, length-append}
use Rattle.wkb_sink.proofs.Prelude.{Endianness, header_encoding, srid_encoding}
use Rattle.byteorder.specs.Numbers.{length-bytes_high_first, length-bytes_low_first}
use Rattle.wkb_geom.specs.declared.{common.Dimension.Dimension, common.Endianness.TheVariants.BigEndian}
use Rattle.wkb_geom.specs.declared.{common.Endianness.TheVariants.LittleEndian, common.Form.Form}
use Rattle.wkb_geom.specs.Numbers.{number_bytes}
use Rattle.wkb_sink.specs.Options.{header_size}

pub length-number : (order : Endianness) (n w : ℕ) → length (number_bytes order n w) ≡ n
unfolding number_bytes
length-number BigEndian n w = length-bytes_high_first n w
length-number LittleEndian n w = length-bytes_low_first 0 n w

pub length-header : (order : Endianness) (form : Form) (k : ℕ) (d : Dimension)
    → length (header_encoding order form k d) ≡ header_size form
unfolding header_encoding srid_encoding
length-header order form k d = grind (arith, length-append, srid_encoding, length-number)

-- a header and a count
pub length-counted : (order : Endianness) (form : Form) (k : ℕ) (d : Dimension) (n : ℕ) {size : ℕ}
    → size ≡ header_size form
    → size + 4 ≤ length (header_encoding order form k d ++ number_bytes order 4 n)
length-counted order form k d n is = grind (arith, length-append, header_encoding, length-header, length-number)
