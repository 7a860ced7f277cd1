use Rattle.wkb.specs.OwnBytes.{not_refused}
use Rattle.wkb.proofs.Calls.{own_encoding_with_srid}
use Rattle.wkb_clients.proofs.own.key_anew.Goals as goal

pub returns-clause-ok : goal.returns-clause-ok
returns-clause-ok c =
    own_encoding_with_srid c.args.order c.canonical_with_srid.result c.buf.ensures.front
    c.canonical_with_srid.ensures.ok

pub returns-clause-err : goal.returns-clause-err
returns-clause-err c =
    not_refused c.canonical_with_srid.result c.buf.ensures.front c.canonical_with_srid.ensures.err
