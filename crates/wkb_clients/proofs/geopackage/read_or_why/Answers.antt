use Rattle.std.proofs.Common.{arith}
use Rattle.wkb_clients.proofs.Packages.{holds}
use Rattle.wkb_clients.proofs.geopackage.read_or_why.Goals as goal

pub returns-in-Ok-read_wkb-clause-ok : goal.returns-in-Ok-read_wkb-clause-ok
returns-in-Ok-read_wkb-clause-ok c =
    let w = c.in-Ok-read_wkb.geometry in
    let front = c.in-Ok-read_wkb.ensures.front in
    holds c.args.blob.now _ c.in-Some.header c.in-Ok.found w c.in-Some.ensures c.body_of-body.ensures (grind arith)
    (c.in-Ok.ensures.one_front w.spelled w.value front.rest front.front) (grind arith) front
