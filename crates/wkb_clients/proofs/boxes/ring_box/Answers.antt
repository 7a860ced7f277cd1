use Rattle.wkb.proofs.Ranges.{widens_x, widens_y}
use Rattle.wkb_clients.specs.Common.{ring_seen, ring_dimension}
use Rattle.wkb_clients.proofs.boxes.ring_box.Goals as goal

pub loop-i-preserved : goal.loop-i-preserved
loop-i-preserved c =
    let l = c.loop-i in
    let r = c.args.ring.now in
    let at = c.coord_at-coord.ensures.value in
    record {
      on_x = widens_x (ring_dimension r) l.x _ (ring_seen r) l.i _ c.coord_at-coord.result l.invariant.on_x at
          c.x.ensures c.with_word-x.ensures;
      on_y = widens_y (ring_dimension r) l.y _ (ring_seen r) l.i _ c.coord_at-coord.result l.invariant.on_y at
          c.y.ensures c.with_word-y.ensures;
    }
