use Rattle.std.proofs.Common.{arith}
use Rattle.wkb_check.proofs.Following.{member_begins, member_alone}
use Rattle.wkb_check.proofs.pieces.Piece.only_member.Goals as goal

pub rest_from-requires : goal.rest_from-requires
rest_from-requires c =
    let g = c.requires.here in
    member_begins c.args.bytes.now g c.args.self.now (c.requires.first g) (omega (arith, c.if-self-le-POLYGON.false))

pub returns : goal.returns
returns c = λ g.
    rw c.rest_from.ensures
    (member_alone c.args.bytes.now g c.args.self.now (c.requires.first g) (omega (arith, c.if-self-le-POLYGON.false))
    (omega (arith, c.if-self-ne1.false)))
