use denote.Enum.Bare.{sameb}
use Rattle.std.proofs.Common.{true}
use Rattle.wkb_abi.proofs.Common.{arith, ◌≡◌, Endianness, Dimension}
use Rattle.wkb_geom.specs.contracts.common.Endianness as order
use Rattle.wkb_geom.specs.contracts.common.Dimension as dimension
use Rattle.wkb_geom.specs.declared.common.Endianness.TheVariants.{LittleEndian}
use Rattle.wkb_abi.proofs.Levels.{plain_words}
use Rattle.wkb_abi.proofs.level_slices.lay_piece_coordinates.Goals as goal

same_order : (a b : Endianness) → true ≡ sameb order.the_type a b → a ≡ b
same_order a b is = grind arith

same_dimension : (a b : Dimension) → true ≡ sameb dimension.the_type a b → a ≡ b
same_dimension a b is = grind arith

pub returns-then-eq-2 : goal.returns-then-eq-2
returns-then-eq-2 c =
    let a = c.args in
    let p = a.piece.now in
    let little = same_order p.order LittleEndian c.if-eq.ensures in
    let same = same_dimension p.dimension a.asked c.if-eq-2.ensures in
    let bytes = c.rest_from-bytes in
    let words = plain_words LittleEndian p.dimension p.count bytes.result.now in
    rw (little, ← same, ← bytes.ensures, words, ← c.width.ensures) c.lay_words.ensures
