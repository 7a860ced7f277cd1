use Rattle.wkb_write.proofs.Prelude.{arith, ap, refl, [], ◌∙◌, ◌*◌, size}
use Rattle.std.proofs.Math.Nat.{mul-le-mul_left}
use Rattle.wkb_sink.proofs.Laid.{exits, laid_none, laid_here}
use Rattle.wkb_write.proofs.Loops.{run_laid, run_cut}
use Rattle.wkb_write.proofs.line_string.put_coordinates.Goals as goal

pub loop-done-init : goal.loop-done-init
loop-done-init g c = record {
  within = omega arith;
  laid = record { front = []; is = refl; laid = laid_none _ 0 c.requires.working };
}

pub returns-in_err-make_room : goal.returns-in_err-make_room
returns-in_err-make_room g c =
    exits _ _ c.from_residual.ensures.1
    (run_cut _ _ c.loop-done.invariant.laid (g.met.L.LineStringTrait.lawful c.args.line.now) (omega arith)
    (ap (λ n. 8 * n) (c.size-size.ensures ∙ ap size c.dim.ensures)) c.in_err-make_room.ensures.ready)

pub loop-done-preserved : goal.loop-done-preserved
loop-done-preserved g c = grind (arith, size, mul-le-mul_left, run_laid, laid_here)
