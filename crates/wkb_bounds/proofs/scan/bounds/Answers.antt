use Rattle.wkb_bounds.proofs.scan.bounds.Goals as goal

pub returns-then-plain_bounds_into : goal.returns-then-plain_bounds_into
returns-then-plain_bounds_into c =
    let found = c.plain_bounds_into.ensures in
    let here = c.if-plain_bounds_into.true in
    record { front = found.front here; one_front = found.one_front here; refused = tt }
