-- What each piece of a geometry says of its value, and how that is encoded.
use Rattle.std.specs.Prelude.{◌≡◌, ◌≤◌, ℕ, ◌+◌, ◌*◌, List, [], ◌++◌, length, drop, replicate, Bool, IsTrue, ◌↔◌, nat_lt}
use Rattle.std.specs.Prelude.{◌&&◌, ◌==◌, if◌then◌else◌}
use Rattle.std.specs.List.{AllByRecursion}
use lib.Seq.{sets}
use Rattle.wkb_laws.specs.Prelude.{Dimension, Endianness, Form, WkbType, width, header_encoding, words_encoding}
use Rattle.wkb_geom.specs.declared.code.TheConstants.{POINT, POLYGON}
use Rattle.wkb_geom.specs.Numbers.{IsWord, number, number_bytes, all_nan, empty_word}
use Rattle.wkb_geom.specs.Reading.{items, type_of, type_kind, type_dimension}
use Rattle.wkb_check.specs.declared.{pieces.Piece.Piece, pieces.TheConstants.RING}
use Rattle.wkb_sink.specs.declared.options.WriteOptions.{WriteOptions}

-- the bytes hold these words in this order
pub record Holds (order : Endianness) (words bytes : List ℕ) : Type 0 where
  pub fit : AllByRecursion IsWord words
  pub is : bytes ≡ words_encoding order words

-- whether the words are the same that these bytes hold, one in each order
abbrev pub TellsSameWords : Bool → Endianness → List ℕ → Endianness → List ℕ → Type 0
TellsSameWords same a_order a b_order b =
    (first second : List ℕ) → Holds a_order first a → Holds b_order second b → IsTrue same ↔ (first ≡ second)

-- how many words a piece itself has
abbrev pub word_count : Piece → ℕ
word_count p = if nat_lt p.kind POLYGON then width p.dimension * p.count else 0

-- the words that a piece itself has
abbrev pub own_words : List ℕ → Piece → List ℕ
own_words buf p = items 8 (number p.order 8) (word_count p) (drop p.offset buf)

-- whether a piece is a point whose words are all NaNs
abbrev pub is_empty_point : List ℕ → Piece → Bool
is_empty_point buf p = (p.kind == POINT) && all_nan (own_words buf p)

-- the words that are written of a piece: of an empty point the empty word in each place
abbrev pub written_words : List ℕ → Piece → List ℕ
written_words buf p = if is_empty_point buf p then replicate (word_count p) empty_word else own_words buf p

-- what a piece says of the value
pub record Share : Type 0 where
  pub kind : ℕ
  pub dimension : Dimension
  pub count : ℕ
  pub words : List ℕ

abbrev pub share_in : List ℕ → Piece → Share
share_in buf p =
    record { kind = p.kind; dimension = p.dimension; count = p.count; words = written_words buf p }

-- the header of a geometry of this type
abbrev pub type_header : Endianness → Form → WkbType → List ℕ
type_header order form t = header_encoding order form (type_kind t) (type_dimension t)

-- The encoding of a share has three parts: a header, a count and words. A ring has no header, and a point no count.
abbrev pub header_part : Endianness → Form → ℕ → Dimension → List ℕ
header_part order form k d = if k == RING then [] else type_header order form (type_of k d)

abbrev pub count_part : Endianness → ℕ → ℕ → List ℕ
count_part order k n = if k == POINT then [] else number_bytes order 4 n

abbrev pub share_encoding : Endianness → Form → Share → List ℕ
share_encoding order form x =
    header_part order form x.kind x.dimension ++ (count_part order x.kind x.count ++ words_encoding order x.words)

-- the header that is written of a piece under options
abbrev pub piece_header : WriteOptions → Piece → List ℕ
piece_header options p = header_part options.endianness options.form p.kind p.dimension

-- the words that are written of a piece, encoded
abbrev pub words_part : Endianness → List ℕ → Piece → List ℕ
words_part order buf p = words_encoding order (written_words buf p)

-- the encoding of a piece under options
abbrev pub piece_encoding : WriteOptions → List ℕ → Piece → List ℕ
piece_encoding options buf p = share_encoding options.endianness options.form (share_in buf p)

-- the slice has room for the bytes at the index `at`
abbrev pub HasRoomAt : List ℕ → ℕ → List ℕ → Type 0
HasRoomAt slice at bytes = at + length bytes ≤ length slice

-- the bytes were laid at the index `at`, and end at `end`
pub record IsLaidAt (old new : List ℕ) (at end : ℕ) (bytes : List ℕ) : Type 0 where
  pub end_is : end ≡ at + length bytes
  pub laid : new ≡ sets old at bytes
