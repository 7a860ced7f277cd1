use Rattle.wkb_sink.proofs.Prelude.{arith, words_encoding}
use Rattle.wkb_sink.proofs.Behind.{behind, nothing_behind, word_more}
use Rattle.wkb_sink.proofs.block.lay_empty.Goals as goal

pub loop-i-init : goal.loop-i-init
unfolding words_encoding
loop-i-init c = record { end = omega arith; bytes = nothing_behind _ _ }

pub loop-i-preserved : goal.loop-i-preserved
loop-i-preserved c = record {
  end = omega (arith, c.lay_word-end.ensures.end, c.loop-i.invariant.end);
  bytes = rw word_more (behind c.loop-i.invariant.bytes c.lay_word-end.ensures.bytes);
}
