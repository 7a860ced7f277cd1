use Rattle.std.proofs.Common.{arith}
use Rattle.wkb_geom.proofs.Meanings.{meaning_is, meaning_is_none}
use Rattle.wkb_geom.proofs.code.WkbGeometryCode.known_type.Goals as goal

pub returns-then-not-is_in_table : goal.returns-then-not-is_in_table
returns-then-not-is_in_table c = grind (arith, meaning_is_none)

pub returns : goal.returns
returns c =
    rw (← c.self.view_is)
    (meaning_is c.self.inside.code c.without_flag-a.result c.without_flag-b.result c.without_flag-n.result
    c.in_ok-iso.iso c.dimension_with_flags.result c.of_kind.result
    c.without_flag-a.ensures c.without_flag-b.ensures c.without_flag-n.ensures c.if-not-is_in_table.ensures
    c.in_ok-iso.ensures c.dimension_with_flags.ensures c.of_kind.ensures)
