use Rattle.std.proofs.Common.{◌+◌}
use Rattle.wkb_check.specs.Known.{HasGeometry}
use Rattle.wkb_check.proofs.Ahead.{here}
use Rattle.wkb_rewrite.specs.Copies.{IsCopied}
use Rattle.wkb_rewrite.proofs.copied.Copied.behind_header.Goals as goal
use Rattle.wkb_rewrite.proofs.copied.Copied.behind_header.Goals.{After-size_of_srid-start}

copied : (c : After-size_of_srid-start) (g : HasGeometry c.args.buf.now)
    → IsCopied c.args.options c.args.first.now c.args.found.now.bytes (5 + c.size_of_srid-start.result) g
copied c g = rw c.size_of_srid-start.ensures (c.requires.stands g)

pub slice_bounds-result-count : goal.slice_bounds-result-count
slice_bounds-result-count c =
    (copied (goal.at.slice_bounds-result-count c).After-size_of_srid-start (here c.requires.found)).inside

pub slice_bounds-result-start : goal.slice_bounds-result-start
slice_bounds-result-start c =
    (copied (goal.at.slice_bounds-result-start c).After-size_of_srid-start (here c.requires.found)).inside
