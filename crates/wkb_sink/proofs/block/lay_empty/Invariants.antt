use Rattle.wkb_sink.proofs.Prelude.{◌≡◌, ◌+◌, ◌*◌, replicate, empty_word, words_encoding, LaysAt}
use Rattle.wkb_sink.proofs.block.lay_empty.Given as goal

abbrev pub invariant-loop-i : goal.invariant-loop-i
invariant-loop-i l = record {
  end : l.end ≡ l.at + 8 * l._i;
  bytes : LaysAt l.at l.end l.initial.bytes l.bytes (words_encoding l.order (replicate l._i empty_word));
}
