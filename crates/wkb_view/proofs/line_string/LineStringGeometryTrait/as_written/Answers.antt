use Rattle.wkb_view.proofs.Prelude.{arith, line_string_seen}
use Rattle.wkb_view.proofs.Encodings.{is_encoded}
use Rattle.wkb_view.proofs.line_string.LineStringGeometryTrait.as_written.Goals as goal

pub returns : goal.returns
returns c =
    let l = c.args.self.now in
    let whole = is_encoded c.args.order c.args.form _ c.in_ok-has_flags.ensures (line_string_seen l) l.spells in
    grind arith
