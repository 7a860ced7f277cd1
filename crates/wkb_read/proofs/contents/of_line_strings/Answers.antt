use Rattle.wkb_read.proofs.Prelude.{length, arith, sum_more}
use Rattle.wkb_read.specs.Prelude.{multi_line_string_seen}
use Rattle.wkb_read.proofs.Sums.{bytes_counted}
use Rattle.wkb_read.proofs.contents.of_line_strings.Goals as goal

pub overflow_add-coordinates : goal.overflow_add-coordinates
overflow_add-coordinates c =
    let m = c.args.multi.now in
    let at = rw c.unwrap.ensures at c.line_string.ensures.part in
    let more = sum_more length m.parts c.loop-i.i c.loop-i.coordinates c.num_coords-coordinates.result _ at
    c.num_coords-coordinates.ensures c.loop-i.invariant in
    omega (arith, bytes_counted (multi_line_string_seen m) c.buf-bytes.ensures.spells)

pub loop-i-preserved : goal.loop-i-preserved
loop-i-preserved c =
    let m = c.args.multi.now in
    let at = rw c.unwrap.ensures at c.line_string.ensures.part in
    sum_more length m.parts c.loop-i.i c.loop-i.coordinates c.num_coords-coordinates.result _ at
    c.num_coords-coordinates.ensures c.loop-i.invariant
