use Rattle.std.proofs.Common.{◌≡◌, ◌++◌, take}
use Rattle.wkb_clients.proofs.coordinates.WordsVisitor.visit.Given as goal

abbrev pub invariant-loop-n : goal.invariant-loop-n
invariant-loop-n g l = l.self.words.items ≡ l.fn.self.words.items ++ take l.n (g.C.CoordTrait.words l.coord)
