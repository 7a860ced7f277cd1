use Rattle.wkb_sink.proofs.Prelude.{refl}
use Rattle.wkb_sink.proofs.Stores.{stored_at}
use Rattle.wkb_sink.proofs.block.lay_coordinate.Goals as goal

pub returns-clause-bytes : goal.returns-clause-bytes
returns-clause-bytes g c =
    stored_at _ _ _ _ _ _ c.requires.room c.store_coordinate.auto.bytes c.store_coordinate.ensures refl
