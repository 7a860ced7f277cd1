use Rattle.std.proofs.Common.{arith, lt-ltb}
use Rattle.wkb_rewrite.proofs.Encoded.{alone_fits, alone_laid}
use Rattle.wkb_rewrite.proofs.Measured.{kind_of}
use Rattle.wkb_rewrite.proofs.encoding.lay_one_piece.Goals as goal

pub lay_piece-requires : goal.lay_piece-requires
lay_piece-requires c =
    alone_fits c.requires.here c.outermost.ensures
    (lt-ltb _ 3 (omega (arith, kind_of c.requires.here _ c.outermost.ensures))) c.args.options _ c.requires.room

pub lay_piece-requires-in_default : goal.lay_piece-requires-in_default
lay_piece-requires-in_default c =
    alone_fits c.requires.here c.outermost-in_default.ensures
    (lt-ltb _ 3 (omega (arith, kind_of c.requires.here _ c.outermost-in_default.ensures))) c.args.options _
    c.requires.room

pub returns-in-Point : goal.returns-in-Point
returns-in-Point c = record {
  laid = (alone_laid c.requires.here c.outermost.ensures
      (lt-ltb _ 3 (omega (arith, kind_of c.requires.here _ c.outermost.ensures)))
      c.args.options c.lay_piece.ensures).laid;
}

pub returns-in_default : goal.returns-in_default
returns-in_default c = record {
  laid = (alone_laid c.requires.here c.outermost-in_default.ensures
      (lt-ltb _ 3 (omega (arith, kind_of c.requires.here _ c.outermost-in_default.ensures)))
      c.args.options c.lay_piece-in_default.ensures).laid;
}
