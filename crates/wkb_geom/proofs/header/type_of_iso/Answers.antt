use Rattle.std.proofs.Common.{◌-◌, arith}
use Rattle.wkb_geom.specs.declared.common.Dimension.TheVariants.{Xyz, Xym, Xyzm}
use Rattle.wkb_geom.proofs.Heads.{kind_meant}
use Rattle.wkb_geom.proofs.header.type_of_iso.Goals as goal

pub returns-in-1001-to-1007 : goal.returns-in-1001-to-1007
returns-in-1001-to-1007 c =
    kind_meant c.args.code (c.args.code - 1000) Xyz c.of_kind.result c.of_kind.ensures (omega (arith, c.in-1001-to-1007))
    (omega (arith, c.in-1001-to-1007)) (omega (arith, c.in-1001-to-1007))

pub returns-in-2001-to-2007 : goal.returns-in-2001-to-2007
returns-in-2001-to-2007 c =
    kind_meant c.args.code (c.args.code - 2000) Xym c.of_kind-in-2001-to-2007.result c.of_kind-in-2001-to-2007.ensures (omega (arith, c.in-2001-to-2007))
    (omega (arith, c.in-2001-to-2007)) (omega (arith, c.in-2001-to-2007))

pub returns-in-3001-to-3007 : goal.returns-in-3001-to-3007
returns-in-3001-to-3007 c =
    kind_meant c.args.code (c.args.code - 3000) Xyzm c.of_kind-in-3001-to-3007.result c.of_kind-in-3001-to-3007.ensures (omega (arith, c.in-3001-to-3007))
    (omega (arith, c.in-3001-to-3007)) (omega (arith, c.in-3001-to-3007))
