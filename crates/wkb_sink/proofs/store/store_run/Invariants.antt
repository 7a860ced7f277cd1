use Rattle.wkb_sink.proofs.Prelude.{◌≡◌, ◌≤◌, ◌+◌, ◌*◌, ◌-◌, take, drop, length, flat_map, words_encoding}
use Rattle.wkb_sink.proofs.store.store_run.Given as goal

abbrev pub invariant-loop-i : goal.invariant-loop-i
invariant-loop-i g l = record {
  long : length l.bytes ≡ length l.initial.bytes;
  left : l.at + 8 * l.width * (l.to - l.i) ≡ 8 * l.width * (l.to - l.from);
  past : l.from ≤ l.i;
  stored :
      take l.at l.bytes
      ≡ flat_map (words_encoding l.order) (drop l.from (take l.i (g.L.LineStringTrait.coordinates l.line)));
}
