use Rattle.std.proofs.Common.{◌≡◌, arith, refl}
use Rattle.wkb_bounds.specs.Ordinates.{x_axis, y_axis}
use Rattle.wkb_bounds.proofs.Widening.{run_next, run_last, run_done}
use Rattle.wkb_bounds.proofs.axes.AxisExtremes.widen_plane_by.Goals as goal
use Rattle.wkb_bounds.proofs.axes.AxisExtremes.widen_plane_by.Goals.{then-left-gt0, else-left-gt0}

pub counting-x-requires : goal.counting-x-requires
counting-x-requires c = omega (arith, c.requires.room x_axis)

pub counting-y-requires : goal.counting-y-requires
counting-y-requires c = omega (arith, c.requires.room y_axis)

-- ---- two coordinates

pub with-x-requires-in-loop-pairs : goal.with-x-requires-in-loop-pairs
with-x-requires-in-loop-pairs c =
    let l = c.loop-pairs.invariant in
    let x = run_next l.x_left c.first_word.ensures c.with-x.ensures c.behind_first-second.ensures in
    omega (arith, x.counted, l.halved, c.behind_first-second.ensures.count_is)

pub with-y-requires-in-loop-pairs : goal.with-y-requires-in-loop-pairs
with-y-requires-in-loop-pairs c =
    let l = c.loop-pairs.invariant in
    let y = run_next l.y_left c.first_word-in-loop-pairs.ensures c.with-y.ensures c.behind_first-second.ensures in
    omega (arith, y.counted, l.halved, c.behind_first-second.ensures.count_is)

pub loop-pairs-preserved : goal.loop-pairs-preserved
loop-pairs-preserved c =
    let l = c.loop-pairs.invariant in
    let second = c.behind_first-second.ensures in
    let last = c.behind_first-left.ensures in
    let x = run_next l.x_left c.first_word.ensures c.with-x.ensures second in
    let y = run_next l.y_left c.first_word-in-loop-pairs.ensures c.with-y.ensures second in
    record {
      x_left = run_next x c.first_word-in-loop-pairs-2.ensures c.with-x-in-loop-pairs.ensures last;
      y_left = run_next y c.first_word-in-loop-pairs-3.ensures c.with-y-in-loop-pairs.ensures last;
      halved = omega (arith, l.halved, second.count_is, last.count_is);
    }

-- ---- the last one, or none

pub returns : goal.returns
returns c =
    let l = c.loop-pairs.invariant in
    elim c.if-left-gt0.branch [
      | then-left-gt0 w ↦
          let one : c.loop-pairs.left.count ≡ 1 = omega (arith, l.halved) in
          rw (w.x-is, w.y-is) (record {
            x = run_last l.x_left one w.first_word-then-left-gt0.ensures w.with-x-then-left-gt0.ensures;
            y = run_last l.y_left one w.first_word-then-left-gt0-2.ensures w.with-y-then-left-gt0.ensures;
            z = refl;
            m = refl;
          })
      | else-left-gt0 w ↦
          let none : c.loop-pairs.left.count ≡ 0 = omega arith in
          rw (w.x-is, w.y-is) (record { x = run_done l.x_left none; y = run_done l.y_left none; z = refl; m = refl })
    ]
