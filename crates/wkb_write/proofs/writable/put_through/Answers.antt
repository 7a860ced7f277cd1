use Rattle.wkb_write.proofs.Prelude.{arith, refl, rules}
use Rattle.wkb_sink.proofs.Laid.{cut_last, ends_laid, ends_cut, lays_last}
use Rattle.wkb_write.proofs.writable.put_through.Goals.{in-Ok, in-Err}
use Rattle.wkb_write.proofs.writable.put_through.Goals as goal

pub returns-in-Ok-put : goal.returns-in-Ok-put
returns-in-Ok-put g c = elim c.match-put.branch [
  | in-Ok w ↦
      let ends =
      lays_last _ _ _ _ w.in-Ok.ensures w.flush-put.ensures.ready refl w.flush-put.ensures.empty
      (omega (arith, c.requires.least)) in
      ends_laid g.S.Sink _ _ c.match-put.out _ _ _ c.in-Ok-put.is (rw (← w.out-is, ← w.put-is) at ends) (search rules)
  | in-Err w ↦ absurd (cc)
]

pub returns-in-Err-put : goal.returns-in-Err-put
returns-in-Err-put g c = elim c.match-put.branch [
  | in-Ok w ↦
      let ends =
      lays_last _ _ _ _ w.in-Ok.ensures w.flush-put.ensures.ready refl w.flush-put.ensures.empty
      (omega (arith, c.requires.least)) in
      ends_cut g.S.Sink _ _ c.match-put.out _ _ _ c.in-Err-put.is (rw (← w.out-is, ← w.put-is) at ends) refl
      (search rules)
  | in-Err w ↦
      let ends = cut_last _ w.put-is (rw (← w.out-is) at w.in-Err.ensures) (omega (arith, c.requires.least)) in
      ends_cut g.S.Sink _ _ c.match-put.out _ _ _ c.in-Err-put.is ends refl (search rules)
]
