use Rattle.std.proofs.lemmas.Result.{IfOk-weaker}
use Rattle.wkb.proofs.Rewritings.{made_with_srid}
use Rattle.wkb.proofs.canon.canonical_with_srid.Goals as goal

pub returns-clause-ok : goal.returns-clause-ok
returns-clause-ok c =
    IfOk-weaker c.rewritten.result _ _ (λ encoding. made_with_srid c.in_ok-found.ensures.one_front)
    c.rewritten.ensures.ok
