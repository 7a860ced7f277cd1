use Rattle.wkb_write.proofs.Prelude.{progress, encoding_of}
use Rattle.wkb_sink.specs.Options.{inner_options}
use Rattle.wkb_write.proofs.Loops.{HasLaid}
use Rattle.wkb_write.proofs.items.CountedWritable.put.Given as goal

abbrev pub invariant-loop-i : goal.invariant-loop-i
invariant-loop-i g l =
    let items = g.I.Items.items l.geom in
    HasLaid (progress g.S.Sink l.fn.out) (progress g.S.Sink l.out)
    (encoding_of l.fn.options (g.I.Items.geometry l.geom)) (items.encode (inner_options l.fn.options))
    items.list l.i
