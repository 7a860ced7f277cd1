use Rattle.wkb_write.proofs.Prelude.{arith}
use Rattle.wkb_sink.proofs.Laid.{exits}
use Rattle.wkb_write.proofs.FirstItem.{item_at}
use Rattle.wkb_write.proofs.Loops.{head_cut, next_laid, next_cut}
use Rattle.wkb_write.proofs.items.CountedWritable.put.Goals as goal

pub returns-in_err-put_head : goal.returns-in_err-put_head
returns-in_err-put_head g c =
    exits _ _ c.from_residual.ensures.1
    (head_cut _ _ _ _ (c.wkb_type.ensures c.args.options.now) c.count-count.ensures c.in_err-put_head.ensures)

pub loop-i-preserved : goal.loop-i-preserved
loop-i-preserved g c = grind (arith, next_laid, item_at)

pub returns-in_err-put_item : goal.returns-in_err-put_item
returns-in_err-put_item g c =
    exits _ _ c.from_residual-in_err-put_item.ensures.1
    (next_cut c.loop-i.invariant (item_at _ c.loop-i.i (omega (arith, c.count-count.ensures))
    (rw c.inner-inner.ensures at c.in_err-put_item.ensures)))
