use Rattle.wkb_view.proofs.Prelude.{◌≡◌, ◌+◌, ◌*◌, ◌/◌, ◌≤◌, min, length, parts_start, member_at, entries, capacity}
use Rattle.wkb_view.proofs.Prelude.{members_behind, polygon_items, AreOfDimension}
use Rattle.wkb_view.proofs.Lists.{Loop}
use Rattle.wkb_view.proofs.multi_polygon.read_members.Given as goal

abbrev pub invariant-loop : goal.invariant-loop
invariant-loop l = record {
  left : Loop (member_at 3 l.layout.dimension) l.count l.counter
      (polygon_items (entries l.members)) l.rest l.fn.counts l.own
      (members_behind 3 l.layout l.count l.bytes);
  room : min l.count (length (parts_start l.layout.has_srid l.bytes) / 9) ≤ capacity l.members;
  taken_in_all : 9 * length (entries l.members) + length l.rest ≤ length (parts_start l.layout.has_srid l.bytes);
  grows : l.fn.counts.slots ≤ l.own.slots;
  same : AreOfDimension l.layout.dimension (entries l.members);
  as_many : length (entries l.members) ≡ l.counter;
}
