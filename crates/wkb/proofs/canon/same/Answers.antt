use Rattle.wkb_check.proofs.Ahead.{here}
use Rattle.wkb.proofs.Rewritings.{compared}
use Rattle.wkb.proofs.canon.same.Goals as goal

pub have_one_value-requires-clause-first : goal.have_one_value-requires-clause-first
have_one_value-requires-clause-first c = here (c.in_ok-_first.ensures.front)

pub returns-clause-ok : goal.returns-clause-ok
returns-clause-ok c =
    compared c.have_one_value.result c.in_ok-_first.ensures.front c.in_ok-_second.ensures.front
    c.have_one_value.ensures
