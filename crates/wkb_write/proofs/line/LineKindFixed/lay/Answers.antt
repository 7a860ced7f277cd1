use Rattle.wkb_write.proofs.Prelude.{rules, line_string_encoding, coordinates_encoding}
use Rattle.wkb_sink.proofs.Behind.{behind_laws}
use Rattle.wkb_write.proofs.line.LineKindFixed.lay.Goals as goal

pub returns-clause-bytes : goal.returns-clause-bytes
unfolding line_string_encoding coordinates_encoding
returns-clause-bytes g c =
    rw (← c.requires.dimension, ← c.start.ensures.value, ← c.end.ensures.value)
    (search (rules, behind_laws) depth 8)
