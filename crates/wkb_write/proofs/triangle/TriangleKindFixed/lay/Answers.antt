use Rattle.wkb_write.proofs.Prelude.{rules, polygon_encoding, coordinates_encoding}
use Rattle.wkb_sink.proofs.Behind.{behind_laws}
use Rattle.wkb_write.proofs.triangle.TriangleKindFixed.lay.Goals as goal

pub returns-clause-bytes : goal.returns-clause-bytes
unfolding polygon_encoding coordinates_encoding
returns-clause-bytes g c =
    rw (← c.first-first.ensures.value, ← c.second.ensures.value, ← c.third.ensures.value)
    (rw (← c.requires.dimension) (search (rules, behind_laws) depth 8))
