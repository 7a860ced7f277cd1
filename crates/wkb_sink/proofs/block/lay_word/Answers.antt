use Rattle.wkb_sink.proofs.Prelude.{refl}
use Rattle.wkb_sink.proofs.Stores.{stored_at}
use Rattle.wkb_sink.proofs.block.lay_word.Goals as goal

pub returns-clause-bytes : goal.returns-clause-bytes
returns-clause-bytes c =
    stored_at _ _ _ _ 8 _ c.requires c.store_word.auto.bytes c.store_word.ensures refl
