use Rattle.wkb_check.proofs.Joining.{geometry_of_front}
use Rattle.wkb_bounds.proofs.scan.plain_bounds_into.Goals as goal

pub returns-in-Some-clause-one_front : goal.returns-in-Some-clause-one_front
returns-in-Some-clause-one_front c = λ _ s t rest f. c.found_bounds_into.ensures (geometry_of_front f)
