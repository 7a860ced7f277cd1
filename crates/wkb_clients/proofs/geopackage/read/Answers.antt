use Rattle.std.proofs.lemmas.Result.{IfErr-weaker}
use Rattle.wkb_clients.proofs.Packages.{none_by, given_back}
use Rattle.wkb_clients.proofs.geopackage.read.Goals as goal

pub returns-clause-err : goal.returns-clause-err
returns-clause-err c = IfErr-weaker c.read_or_why.result _ _ (none_by c.args.blob.now) c.read_or_why.ensures.why

pub returns-clause-back : goal.returns-clause-back
returns-clause-back c =
    given_back c.args.blob.now c.read_or_why.result c.read_or_why.ensures.ok (returns-clause-err c)
