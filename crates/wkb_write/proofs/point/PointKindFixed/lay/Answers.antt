use Rattle.wkb_write.proofs.Prelude.{point_encoding, point_words}
use Rattle.wkb_sink.proofs.Behind.{behind}
use Rattle.wkb_write.proofs.point.PointKindFixed.lay.Goals as goal

pub returns-in-Some-clause-bytes : goal.returns-in-Some-clause-bytes
unfolding point_encoding point_words
returns-in-Some-clause-bytes g c =
    rw (← c.requires.dimension, ← c.in-Some.ensures.value)
    (behind c.lay_header-at.ensures.bytes c.lay_coordinate.ensures.bytes)

pub returns-in-None-clause-bytes : goal.returns-in-None-clause-bytes
unfolding point_encoding point_words
returns-in-None-clause-bytes g c =
    let words = rw c.width-words.ensures at c.lay_empty.ensures.bytes in
    rw (← c.requires.dimension, ← c.in-None.ensures.value)
    (behind c.lay_header-at.ensures.bytes words)
