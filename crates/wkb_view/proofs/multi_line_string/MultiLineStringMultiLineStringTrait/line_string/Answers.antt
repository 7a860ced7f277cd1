use Rattle.wkb_view.specs.Views.{seen_coordinates, line_string_dimension}
use Rattle.wkb_view.proofs.Lawful.{lawful_at}
use Rattle.wkb_view.specs.Lawful.{line_string_item_lawful}
use Rattle.wkb_view.proofs.multi_line_string.MultiLineStringMultiLineStringTrait.line_string.Goals as goal

pub returns-clause-value : goal.returns-clause-value
returns-clause-value c =
    lawful_at seen_coordinates line_string_dimension _ c.member.result c.args.self.now.parts c.args.i
    (λ l. line_string_item_lawful l.layout l.buf.now l.in_range) c.member.ensures.dimension c.member.ensures.value
