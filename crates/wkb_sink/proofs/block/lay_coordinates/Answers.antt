use Rattle.wkb_sink.proofs.Prelude.{arith, refl}
use Rattle.wkb_sink.proofs.Stores.{stored_at}
use Rattle.wkb_sink.proofs.block.lay_coordinates.Goals as goal
use Rattle.wkb_sink.proofs.block.lay_coordinates.Goals.{in-BigEndian, in-LittleEndian}

pub returns : goal.returns
returns g c = elim c.match-order.branch [
  | in-BigEndian w ↦
      let stored = w.store_coordinates-stored in
      rw (w.bytes-is, w.stored-is, w.in-BigEndian.is)
      (record {
        end = omega (arith, stored.ensures.len);
        bytes = stored_at _ _ _ _ _ _ (omega (arith, stored.ensures.len, c.requires.room)) stored.auto.bytes
            stored.ensures.bytes refl;
      })
  | in-LittleEndian w ↦
      let stored = w.store_coordinates-stored-in-LittleEndian in
      rw (w.bytes-is, w.stored-is, w.in-LittleEndian.is)
      (record {
        end = omega (arith, stored.ensures.len);
        bytes = stored_at _ _ _ _ _ _ (omega (arith, stored.ensures.len, c.requires.room)) stored.auto.bytes
            stored.ensures.bytes refl;
      })
]
