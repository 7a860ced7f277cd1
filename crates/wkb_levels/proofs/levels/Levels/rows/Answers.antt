use Rattle.wkb_levels.proofs.levels.Levels.rows.Goals as goal

pub invariant_of-result : goal.invariant_of-result
invariant_of-result c = record { all = c.len.ensures; is_floor = c.front.ensures c.args.self.now c.args.dim }
