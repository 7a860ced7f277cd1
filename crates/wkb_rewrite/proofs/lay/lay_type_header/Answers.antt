use Rattle.wkb_geom.specs.Encodings.{header_encoding}
use Rattle.wkb_rewrite.proofs.Laying.{byte_laid, laid_on}
use Rattle.wkb_rewrite.proofs.lay.lay_type_header.Goals as goal

pub returns : goal.returns
unfolding header_encoding
returns c =
    let parts = c.code_and_srid-code.ensures in
    rw (← c.byte.ensures, ← parts.code, ← parts.srid)
    (byte_laid (laid_on c.lay_number-end.ensures c.lay_srid.ensures))
