use Rattle.wkb_sink.proofs.Laid.{past_cut}
use Rattle.wkb_sink.proofs.buffered.Buffered.put_past.Goals as goal

pub returns-in-Err : goal.returns-in-Err
returns-in-Err g c =
    past_cut c.in_ok-flush.ensures.ready c.in_ok-flush.ensures.empty c.requires.long
    c.in-Err.ensures.0 c.in-Err.ensures.1 c.in-Err.ensures.2
