use Rattle.wkb_view.proofs.Prelude.{each_same}
use Rattle.wkb_view.proofs.multi_line_string.MultiLineStringClone.clone.Goals as goal

pub invariant_of-result : goal.invariant_of-result
invariant_of-result c = rw (each_same _ _ c.in_ok-clone.ensures.cases.0) c.self.invariant

pub returns : goal.returns
returns c = rw (each_same _ _ c.in_ok-clone.ensures.cases.0) (record { cases = c.self.view_is })
