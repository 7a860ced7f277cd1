use Rattle.wkb_view.proofs.Prelude.{arith}
use Rattle.wkb_view.proofs.multi_line_string.MultiLineStringMultiLineStringTrait.TheImpl.Goals as goal

pub line_string-tells : goal.line_string-tells
line_string-tells g _ _ _ c = grind arith
