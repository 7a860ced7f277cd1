use Rattle.wkb_check.proofs.Joining.{geometry_of_front}
use Rattle.wkb_bounds.proofs.scan.any_bounds_into.Goals as goal

pub returns-clause-one_front : goal.returns-clause-one_front
returns-clause-one_front c = λ s t rest f. c.front_bounds_into.ensures (geometry_of_front f)
