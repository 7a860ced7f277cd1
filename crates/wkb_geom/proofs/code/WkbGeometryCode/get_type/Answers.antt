use Rattle.std.proofs.Common.{rules}
use Rattle.wkb_geom.proofs.Meanings.{code_of_meaning, no_code_without_meaning}
use Rattle.wkb_geom.proofs.code.WkbGeometryCode.get_type.Goals as goal

pub returns-in-Some : goal.returns-in-Some
returns-in-Some c = record { meant = code_of_meaning _ _ c.in-Some.ensures }

pub returns-in-None : goal.returns-in-None
returns-in-None c = search (rules, no_code_without_meaning, c.self.view_is, c.in-None.ensures)
