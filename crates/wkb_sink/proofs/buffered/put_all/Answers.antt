use Rattle.wkb_sink.proofs.Prelude.{◌++◌, take, rules}
use Rattle.wkb_sink.proofs.Appended.{taken, written_more}
use Rattle.wkb_sink.proofs.buffered.put_all.Goals as goal

pub loop-rest-preserved : goal.loop-rest-preserved
loop-rest-preserved g c =
    let before = c.loop-rest.invariant in
    let part = take c.in-Ok.n c.loop-rest.rest.now in (
      before.0 ++ part,
      record {
        whole = taken _ before.0 c.loop-rest.rest.now c.in-Ok.n before.1.whole c.in-Ok.ensures.bound;
        written = written_more part before.1.written c.in-Ok.ensures.bytes;
        working = search rules;
      },
    )
