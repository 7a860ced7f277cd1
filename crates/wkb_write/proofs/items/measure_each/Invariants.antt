use Rattle.wkb_write.proofs.Prelude.{◌+◌, ◌*◌, ◌^◌, ◌<◌}
use Rattle.wkb_write.specs.Bodies.{parts_measure}
use Rattle.wkb_write.proofs.Sums.{Ahead}
use Rattle.wkb_write.proofs.items.measure_each.Given as goal

abbrev pub invariant-loop-i : goal.invariant-loop-i
invariant-loop-i g l =
    let items = g.I.Items.items l.geom in
    record {
      ahead :
          Ahead items.measure (parts_measure g.I.Items.ITEM_HEADER items.measure items.list) l.total
          items.list l.i;
      fits : l.total < 2 ^ 64 * (l.i + 1);
    }
