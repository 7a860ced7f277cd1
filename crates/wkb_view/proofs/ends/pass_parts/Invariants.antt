use Rattle.wkb_view.proofs.Prelude.{◌+◌, ◌/◌, ◌≤◌, min, length, body_start, parts_start, entries, capacity}
use Rattle.wkb_view.specs.Ends.{parts_at}
use Rattle.wkb_view.proofs.Pieces.{SoFar}
use Rattle.wkb_view.proofs.ends.pass_parts.Given as goal

abbrev pub invariant-loop : goal.invariant-loop
invariant-loop g l =
    let parts = g.P.Parts.parts l.layout in
    record {
      so_far : SoFar g.P.Parts.MIN_SIZE parts.IsPart parts.seen parts.reading (body_start l.layout.has_srid + 4)
          l.count l.counter l.bytes (entries l.ends) l.rest l.fn.counts l.counts
          (parts_at g.P.Parts.parts l.layout l.count l.bytes);
      room : min l.count (length (parts_start l.layout.has_srid l.bytes) / g.P.Parts.MIN_SIZE) ≤ capacity l.ends;
    }
