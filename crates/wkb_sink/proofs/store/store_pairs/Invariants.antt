use Rattle.wkb_sink.proofs.Prelude.{◌≡◌, ℕ, List, ◌*◌, take, words_encoding}
use Rattle.std.specs.List.{AllByRecursion}
use Rattle.wkb_geom.specs.Numbers.{IsWord}
use Rattle.wkb_sink.proofs.store.store_pairs.Given as goal

abbrev pub invariant-loop-pair : goal.invariant-loop-pair
invariant-loop-pair l =
    (words : List ℕ) → AllByRecursion IsWord words → l.lent ≡ words_encoding l.held words
    → take (16 * l.pair) l.bytes ≡ words_encoding l.order (take (2 * l.pair) words)
