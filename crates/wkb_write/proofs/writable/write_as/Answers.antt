use Rattle.wkb_write.proofs.Writing.{put_writes}
use Rattle.wkb_write.proofs.writable.write_as.Goals as goal

pub returns-in-Ok : goal.returns-in-Ok
returns-in-Ok g c =
    put_writes _ (c.in-Ok.ensures.size c.args.options.now.endianness).0 c.checked_size.ensures.lawful
    c.checked_size.ensures.fits c.put_sized.ensures c.wkb_result.ensures
