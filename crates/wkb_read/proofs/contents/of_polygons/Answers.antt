use Rattle.wkb_read.proofs.Prelude.{◌≤◌, length, arith, ◌+◌, sum_by, ap, List, rules, Coordinate, sum_more}
use Rattle.wkb_read.specs.Prelude.{multi_polygon_seen}
use Rattle.wkb_read.proofs.Sums.{bytes_counted}
use Rattle.wkb_read.proofs.contents.of_polygons.Goals.{After-num_rings}
use Rattle.wkb_read.proofs.contents.of_polygons.Goals as goal

pub overflow_add-coordinates : goal.overflow_add-coordinates
overflow_add-coordinates c =
    let m = c.args.multi.now in
    let at = rw c.unwrap-polygon.ensures at c.polygon.ensures.part in
    let more = sum_more (λ (rings : List (List Coordinate)). sum_by length rings) m.parts c.loop-i.i
    c.loop-i.coordinates c.num_coords-coordinates.result _ at c.num_coords-coordinates.ensures
    c.loop-i.invariant.coordinates_left in
    omega (arith, bytes_counted (multi_polygon_seen m) c.buf-bytes.ensures.spells)

-- the parts with those of one polygon more are fewer than the bytes
parts_fit : (c : After-num_rings) → c.loop-i.members + (1 + c.num_rings.result) ≤ c.size-size.result
parts_fit c =
    let m = c.args.multi.now in
    let at = rw c.unwrap-polygon.ensures at c.polygon.ensures.part in
    let more = sum_more (λ (rings : List (List Coordinate)). 1 + length rings) m.parts c.loop-i.i
    c.loop-i.members (1 + c.num_rings.result) _ at (ap (λ n. 1 + n) c.num_rings.ensures)
    c.loop-i.invariant.members_left in
    omega (arith, bytes_counted (multi_polygon_seen m) c.buf-bytes.ensures.spells)

pub overflow_add-members-in-loop-i : goal.overflow_add-members-in-loop-i
overflow_add-members-in-loop-i c = search (rules, parts_fit)

pub overflow_add-members : goal.overflow_add-members
overflow_add-members c = omega (arith, parts_fit (goal.at.overflow_add-members c).After-num_rings)

pub loop-i-preserved : goal.loop-i-preserved
loop-i-preserved c =
    let m = c.args.multi.now in
    let at = rw c.unwrap-polygon.ensures at c.polygon.ensures.part in
    record {
      coordinates_left = sum_more (λ (rings : List (List Coordinate)). sum_by length rings) m.parts c.loop-i.i
          c.loop-i.coordinates c.num_coords-coordinates.result _ at c.num_coords-coordinates.ensures
          c.loop-i.invariant.coordinates_left;
      members_left = sum_more (λ (rings : List (List Coordinate)). 1 + length rings) m.parts c.loop-i.i
          c.loop-i.members (1 + c.num_rings.result) _ at (ap (λ n. 1 + n) c.num_rings.ensures)
          c.loop-i.invariant.members_left;
    }
