use Rattle.std.proofs.Common.{rules, arith}
use Rattle.wkb_check.proofs.Ahead.{header_inside, count_inside, counted_piece}
use Rattle.wkb_check.proofs.pieces.Piece.of_header.Goals as goal

pub overflow_add-body : goal.overflow_add-body
overflow_add-body c = omega (arith, header_inside c.args.bytes.now c.args.begin c.requires.header c.requires.here)

pub overflow_add-body-2 : goal.overflow_add-body-2
overflow_add-body-2 c = omega (arith, header_inside c.args.bytes.now c.args.begin c.requires.header c.requires.here)

pub u32_at-requires : goal.u32_at-requires
u32_at-requires c =
    let other = c.if-kind-eq-POINT.false in
    omega (arith, count_inside c.args.bytes.now c.args.begin c.requires.header c.requires.here other)

pub overflow_add-count : goal.overflow_add-count
overflow_add-count c =
    let other = c.if-kind-eq-POINT.false in
    omega (arith, count_inside c.args.bytes.now c.args.begin c.requires.header c.requires.here other)

pub returns-else-kind-eq-POINT : goal.returns-else-kind-eq-POINT
returns-else-kind-eq-POINT c = search (rules, counted_piece, c.requires.header, c.if-kind-eq-POINT.false)
