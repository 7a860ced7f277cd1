use Rattle.wkb_view.proofs.Prelude.{◌≡◌, true, take, all_nan, coordinate}
use Rattle.wkb_view.proofs.coord.Coord.is_all_nan.Given as goal

abbrev pub invariant-loop-n : goal.invariant-loop-n
invariant-loop-n l = all_nan (take l.n (coordinate l.fn.self.order l.fn.self.dimension l.fn.self.bytes.now)) ≡ true
