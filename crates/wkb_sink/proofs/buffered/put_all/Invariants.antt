use Rattle.wkb_sink.proofs.Prelude.{◌≡◌, ℕ, List, ◌++◌, length, false, IsWritten}
use Rattle.wkb_sink.proofs.buffered.put_all.Given as goal

abbrev pub invariant-loop-rest : goal.invariant-loop-rest
invariant-loop-rest g l = (front : List ℕ) × record {
  whole : l.bytes ≡ front ++ l.rest;
  written : IsWritten (g.S.Sink.appended l.initial.sink) (g.S.Sink.appended l.sink) front;
  working : g.S.Sink.has_failed l.sink ≡ false;
}

abbrev pub decreases-loop-rest : goal.decreases-loop-rest
decreases-loop-rest g l = length l.rest
