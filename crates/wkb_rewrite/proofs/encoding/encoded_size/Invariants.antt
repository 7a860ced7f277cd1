use Rattle.std.proofs.Common.{◌≡◌, ◌+◌}
use Rattle.wkb_rewrite.proofs.Measured.{srid_sizes}
use Rattle.wkb_rewrite.proofs.encoding.encoded_size.Given as goal

abbrev pub invariant-loop-piece : goal.invariant-loop-piece
invariant-loop-piece l = record {
  can : (goal.iterator-loop-piece).can_next l.piece-iterator;
  finite : (goal.iterator-loop-piece).is_finite l.piece-iterator;
  less : l.size + srid_sizes l.yielded ≡ l.initial.size;
}
