use Rattle.std.specs.Prelude.{◌≤◌, length}
use Rattle.wkb_cases.proofs.columns.write_polygons.Given as goal

abbrev pub invariant-loop-row : goal.invariant-loop-row
invariant-loop-row l = record {
  can_next : (goal.iterator-loop-row).can_next l.row-iterator;
  finite : (goal.iterator-loop-row).is_finite l.row-iterator;
  inside : l.written ≤ length l.out;
}
