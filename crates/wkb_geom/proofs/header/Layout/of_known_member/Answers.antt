use Rattle.std.proofs.Common.{arith}
use Rattle.wkb_geom.proofs.Layouts.{known_whole, known_order}
use Rattle.wkb_geom.proofs.header.Layout.of_known_member.Goals as goal

pub bounds-bytes-0 : goal.bounds-bytes-0
bounds-bytes-0 c = let whole = known_whole _ _ _ c.requires in omega (arith, whole)

pub unreachable-requires : goal.unreachable-requires
unreachable-requires c = known_order _ _ _ c.requires _ c.of_byte.ensures c.in_default.is

pub u32_at-requires : goal.u32_at-requires
u32_at-requires c = known_whole _ _ _ c.requires
