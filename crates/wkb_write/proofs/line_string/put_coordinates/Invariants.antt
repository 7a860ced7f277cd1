use Rattle.wkb_write.proofs.Prelude.{◌≤◌, ◌-◌, flat_map, words_encoding, progress}
use Rattle.wkb_write.proofs.Loops.{HasLaid}
use Rattle.wkb_write.proofs.line_string.put_coordinates.Given as goal

abbrev pub invariant-loop-done : goal.invariant-loop-done
invariant-loop-done g l =
    let coordinates = g.L.LineStringTrait.coordinates l.line in
    record {
      within : l.done ≤ l.count;
      laid :
          HasLaid (progress g.S.Sink l.fn.out) (progress g.S.Sink l.out)
          (flat_map (words_encoding l.order) coordinates) (words_encoding l.order) coordinates l.done;
    }

abbrev pub decreases-loop-done : goal.decreases-loop-done
decreases-loop-done g l = l.count - l.done
