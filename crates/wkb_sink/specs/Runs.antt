-- Coordinates, and runs of them: those of a line from an index up to another one.
use Rattle.std.specs.Prelude.{◌≡◌, ℕ, ◌≤◌, ◌-◌, ◌*◌, List, ◌++◌, length, take, drop, replicate, slice_index}
use Rattle.std.specs.List.{AllByRecursion, flat_map}
use Rattle.wkb_geom.specs.declared.{common.Dimensions.Dimensions, common.Endianness.Endianness}
use Rattle.wkb_geom.specs.declared.{common.Endianness.TheVariants.BigEndian, common.Endianness.TheVariants.LittleEndian}
use Rattle.wkb_geom.specs.Dimensions.{size}
use Rattle.wkb_geom.specs.Encodings.{words_encoding}
use Rattle.wkb_geom.specs.Numbers.{IsWord, number_bytes, empty_word}
use Rattle.wkb_geom.specs.Values.{Coordinate}

-- a coordinate of this dimension has as many words, and can be written
pub record FitsCoordinate (d : Dimensions) (words : ℕ) : Type 0 where
  pub is : words ≡ size d
  pub least : 2 ≤ words
  pub most : words ≤ 4

-- the first two words of a coordinate
abbrev pub x_y_encoding : Endianness → Coordinate → List ℕ
x_y_encoding order c = number_bytes order 8 (slice_index c 0) ++ number_bytes order 8 (slice_index c 1)

-- the words of a point without a coordinate
abbrev pub empty_encoding : Endianness → ℕ → List ℕ
empty_encoding order words = words_encoding order (replicate words empty_word)

-- the two indices are a run's, and the dimension can be written
pub record AreRunEnds (d : Dimensions) (cs : List Coordinate) (from to : ℕ) : Type 0 where
  pub order : from ≤ to
  pub within : to ≤ length cs
  pub least : 2 ≤ size d
  pub most : size d ≤ 4

-- the order that this one isn't
abbrev pub other : Endianness → Endianness
other BigEndian = LittleEndian
other LittleEndian = BigEndian

-- words that the first bytes hold in one order are held by the others in another one
abbrev pub Turns : Endianness → Endianness → List ℕ → List ℕ → Type 0
Turns held order from to =
    (words : List ℕ) → AllByRecursion IsWord words → from ≡ words_encoding held words → to ≡ words_encoding order words

-- the size of a run
abbrev pub run_size : Dimensions → ℕ → ℕ → ℕ
run_size d from to = 8 * size d * (to - from)

-- coordinates one after another, without their count
abbrev pub uncounted_encoding : Endianness → List Coordinate → List ℕ
uncounted_encoding order cs = flat_map (words_encoding order) cs

-- the coordinates of a run, one after another
abbrev pub run_encoding : Endianness → List Coordinate → ℕ → ℕ → List ℕ
run_encoding order cs from to = uncounted_encoding order (drop from (take to cs))
