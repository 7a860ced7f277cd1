use Rattle.std.proofs.Common.{◌≡◌, ◌≤◌, ◌∙◌, refl, ap, arith, length, drop, ◌<◌, false, Some}
use Rattle.wkb_geom.specs.declared.common.Dimension.TheVariants.{Xy}
use Rattle.wkb_geom.specs.declared.common.Endianness.{Endianness}
use Rattle.wkb_geom.specs.declared.common.Endianness.TheVariants.{BigEndian, LittleEndian}
use Rattle.wkb_geom.specs.Numbers.{order_byte}
use Rattle.wkb_geom.specs.Reading.{order_of_byte, type_of}
use Rattle.wkb_geom.proofs.Heads.{head_meant}
use Rattle.wkb_check.specs.Pieces.{HasAhead}
use Rattle.wkb_check.specs.declared.pieces.Pieces.{Pieces}
use Rattle.wkb_check.proofs.Ahead.{bare_header, bare_meant}
use Rattle.wkb_check.proofs.Bodies.{rest_smaller}
use Rattle.wkb_check.proofs.Following.{geometry_there}
use Rattle.wkb_check.proofs.pieces.Pieces.next_bare_to.Goals as goal

own_byte : (order : Endianness) → order_of_byte (order_byte order) ≡ Some order
own_byte BigEndian = refl
own_byte LittleEndian = refl

long_there : (w : Pieces) → HasAhead w → w.rings ≡ 0 → 0 < w.geometries → 5 ≤ length (drop w.at w.bytes.now)
long_there w ahead none some = omega (arith, rest_smaller (geometry_there w ahead.are none some))

pub u32_at-kind-requires : goal.u32_at-kind-requires
u32_at-kind-requires c =
    let long = long_there c.args.self.now c.requires.ahead (omega (arith, c.if-self-gt0.false))
    (omega (arith, c.if-self-eq0.false)) in
    omega (arith, long, ap length c.rest_from-here.ensures)

pub bounds-here-0 : goal.bounds-here-0
bounds-here-0 c =
    let long = long_there c.args.self.now c.requires.ahead (omega (arith, c.if-self-gt0.false))
    (omega (arith, c.if-self-eq0.false)) in
    omega (arith, long, ap length c.rest_from-here.ensures)

pub of_header-piece-requires-clause-here : goal.of_header-piece-requires-clause-here
of_header-piece-requires-clause-here c =
    geometry_there c.args.self.now c.requires.ahead.are (omega (arith, c.if-self-gt0.false))
    (omega (arith, c.if-self-eq0.false))

pub of_header-piece-requires-clause-header : goal.of_header-piece-requires-clause-header
of_header-piece-requires-clause-header c =
    let k = c.u32_at-kind.result in
    let least = c.if-kind-lt-POINT.false in
    let most = c.if-last-kind.false in
    λ g. bare_header c.args.self.now.bytes.now c.args.self.now.at g c.rest_from-here.result.now c.args.order k
    c.rest_from-here.ensures
    (head_meant c.rest_from-here.result.now c.args.order k (type_of k Xy) false
    (omega (arith, rest_smaller g, ap length c.rest_from-here.ensures))
    (ap order_of_byte (c.if-here-byte.false ∙ c.byte.ensures) ∙ own_byte c.args.order) c.u32_at-kind.ensures
    (bare_meant k (omega (arith, least)) (omega (arith, most, c.requires.last))))
    (omega (arith, least)) (omega (arith, most, c.requires.last))
