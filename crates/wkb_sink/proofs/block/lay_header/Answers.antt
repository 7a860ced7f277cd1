use Rattle.wkb_sink.proofs.Prelude.{header_encoding, srid_encoding}
use Rattle.wkb_sink.proofs.Behind.{behind, last}
use Rattle.wkb_sink.proofs.block.lay_header.Goals as goal

pub returns-in-Some-clause-bytes : goal.returns-in-Some-clause-bytes
unfolding header_encoding srid_encoding
returns-in-Some-clause-bytes c =
    rw (← c.from.ensures, ← c.code_and_srid-code.ensures.code, ← c.code_and_srid-code.ensures.srid, c.in-Some.is)
    (behind c.lay-at.ensures (behind c.lay_count-at.ensures.bytes c.lay_count.ensures.bytes))

pub returns-in-None-clause-bytes : goal.returns-in-None-clause-bytes
unfolding header_encoding srid_encoding
returns-in-None-clause-bytes c =
    rw (← c.from.ensures, ← c.code_and_srid-code.ensures.code, ← c.code_and_srid-code.ensures.srid, c.in-None.is)
    (behind c.lay-at.ensures (last c.lay_count-at.ensures.bytes))
