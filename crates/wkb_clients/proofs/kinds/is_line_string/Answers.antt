use Rattle.wkb.specs.Handed.{not_line_string}
use Rattle.wkb_clients.proofs.kinds.is_line_string.Goals as goal

pub returns-in_default : goal.returns-in_default
returns-in_default c =
    not_line_string c.args.geometry.now c.as_type.result c.as_type.ensures.view c.in_default.not-LineString
