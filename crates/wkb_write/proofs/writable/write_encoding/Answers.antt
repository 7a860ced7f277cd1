use Rattle.wkb_write.proofs.Writing.{encoding_fits, put_writes}
use Rattle.wkb_write.proofs.writable.write_encoding.Goals as goal

pub returns : goal.returns
returns g c = λ geo lawful none is.
    let fits = encoding_fits _ _ _ is none c.length.ensures.fits in
    put_writes _ fits lawful c.length_of_header.ensures.fits (rw is at c.put_all.ensures) c.wkb_result.ensures
