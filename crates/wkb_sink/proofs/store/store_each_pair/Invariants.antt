use Rattle.wkb_sink.proofs.Prelude.{◌≡◌, ◌*◌, take, words_encoding}
use Rattle.wkb_sink.proofs.store.store_each_pair.Given as goal

abbrev pub invariant-loop-pair : goal.invariant-loop-pair
invariant-loop-pair l = take (16 * l.pair) l.bytes ≡ words_encoding l.order (take (2 * l.pair) l.words)
