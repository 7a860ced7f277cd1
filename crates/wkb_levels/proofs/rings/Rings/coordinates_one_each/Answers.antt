use Rattle.std.proofs.Common.{arith}
use Rattle.wkb_levels.proofs.RingLaws.{ones_within, ones_are}
use Rattle.wkb_levels.proofs.rings.Rings.coordinates_one_each.Goals as goal

pub overflow_mul-to : goal.overflow_mul-to
overflow_mul-to c =
    let ones = c.are_ones.ensures.0 c.if-not-are_ones.false in
    omega (arith, ones_within c.args.self.now _ _ _ c.size-width.ensures c.start.ensures c.len.ensures ones)

pub returns-clause-value : goal.returns-clause-value
returns-clause-value c =
    let ones = c.are_ones.ensures.0 c.if-not-are_ones.false in
    ones_are c.args.self.now _ _ _ c.new.result c.size-width.ensures c.start.ensures c.len.ensures ones
    c.new.ensures.some c.new.ensures.coordinates
