use Rattle.wkb.specs.OwnBytes.{memory_alone, read_the_same}
use Rattle.wkb_clients.proofs.own.read_anew.Goals as goal

pub returns-clause-same : goal.returns-clause-same
returns-clause-same c = read_the_same c.read_wkb.result c.buf.ensures.front c.read_wkb.ensures

pub returns-clause-err : goal.returns-clause-err
returns-clause-err c = memory_alone c.read_wkb.result c.buf.ensures.front c.read_wkb.ensures
