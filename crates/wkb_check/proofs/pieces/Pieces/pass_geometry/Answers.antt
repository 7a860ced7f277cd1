use Rattle.std.proofs.Common.{arith}
use Rattle.wkb_check.proofs.Following.{members_few}
use Rattle.wkb_check.proofs.pieces.Pieces.pass_geometry.Goals as goal

pub overflow_add-self : goal.overflow_add-self
overflow_add-self c =
    let r = c.requires in
    let high = c.if-piece-gt-POLYGON.true in
    omega (arith, members_few c.args.self.now r.ahead r.no_ring r.some _ r.piece high c.if-piece-eq-POLYGON.false)
