use Rattle.wkb_write.proofs.Prelude.{rules, polygon_encoding, coordinates_encoding}
use Rattle.wkb_sink.proofs.Behind.{behind_laws}
use Rattle.wkb_write.proofs.rect.RectKindFixed.lay.Goals as goal

pub returns-clause-bytes : goal.returns-clause-bytes
unfolding polygon_encoding coordinates_encoding
returns-clause-bytes g c =
    let least = c.x_y-x0.ensures in
    let greatest = c.x_y-x1.ensures in
    rw (← c.min.ensures.value, ← c.max.ensures.value, ← least.x, ← least.y, ← greatest.x, ← greatest.y)
    (search (rules, behind_laws) depth 12)
