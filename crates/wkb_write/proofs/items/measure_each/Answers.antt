use Rattle.wkb_write.proofs.Prelude.{◌≡◌, ◌∙◌, None, arith, refl, count_fault}
use Rattle.wkb_write.proofs.FirstItem.{item_at}
use Rattle.wkb_write.proofs.Sums.{parts_ahead, part_step, headers_fit, part_refused}
use Rattle.wkb_write.proofs.items.measure_each.Goals as goal

pub loop-i-init : goal.loop-i-init
loop-i-init g c =
    let counted : count_fault c.in-Some.count ≡ None = rw c.in-Some.ensures.1 c.in-Some.ensures.0 in
    record {
      ahead = rw c.ITEM_HEADER.ensures (parts_ahead _ _ _ (c.in-Some.ensures.1 ∙ c.count.ensures) counted);
      fits = headers_fit _ _ c.ITEM_HEADER.type_inv counted;
    }

pub returns-in_default-measure_item : goal.returns-in_default-measure_item
returns-in_default-measure_item g c =
    part_refused c.loop-i.invariant.ahead _
    (item_at _ c.loop-i.i (omega (arith, c.in-Some.ensures.1, c.count.ensures)) c.measure_item.ensures)
    c.in_default-measure_item.not-Bytes

pub loop-i-preserved : goal.loop-i-preserved
loop-i-preserved g c =
    let here = item_at _ c.loop-i.i (omega (arith, c.in-Some.ensures.1, c.count.ensures)) c.in-Bytes.ensures in
    record {
      ahead = part_step c.loop-i.invariant.ahead here refl;
      fits = omega (arith, c.loop-i.invariant.fits, here.holds.1);
    }
