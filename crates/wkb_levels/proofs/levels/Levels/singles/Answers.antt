use Rattle.std.proofs.Common.{refl, arith, length}
use Rattle.std.proofs.lemmas.Bool.{false≢true}
use Rattle.wkb_levels.specs.Columns.{row_begin, row_end}
use Rattle.wkb_levels.specs.EndLists.{start_of, begin_of, ends_of}
use Rattle.wkb_levels.specs.PolygonLists.{polygons_polygons}
use Rattle.wkb_levels.proofs.ColumnLaws.{HasPart, has_part, spans_some, rings_fit, count_rings, levels_are}
use Rattle.wkb_levels.proofs.ColumnLaws.{polygons_are, none_exactly, some_told, follows_on}
use Rattle.wkb_levels.proofs.levels.Levels.singles.Goals as goal
use Rattle.wkb_levels.proofs.levels.Levels.singles.Goals.{After-last, After-new}

-- the singles of the row
singles : (c : After-last)
    → HasPart c.args.self.now.single_ends (row_begin c.args.self.now c.args.i) (row_end c.args.self.now c.args.i)
    c.in_ok-singles.singles
singles c =
    has_part c.args.self.now.single_ends _ _ c.in_ok-singles.singles _ _ c.begin.ensures c.end.ensures
    (c.in_ok-singles.ensures.some.0 refl) c.in_ok-singles.ensures.start c.in_ok-singles.ensures.ends

-- the rings that they span
spans : (c : After-new)
    → HasPart c.args.self.now.ring_ends (start_of c.in_ok-singles.singles)
    (begin_of c.in_ok-singles.singles (length (ends_of c.in_ok-singles.singles))) c.in_ok-spans.spans
spans c =
    has_part c.args.self.now.ring_ends _ _ c.in_ok-spans.spans _ _ c.start.ensures c.last.ensures
    (c.in_ok-spans.ensures.some.0 refl) c.in_ok-spans.ensures.start c.in_ok-spans.ensures.ends

pub returns-in_err-spans-clause-some : goal.returns-in_err-spans-clause-some
returns-in_err-spans-clause-some c = grind (arith, singles, none_exactly, spans_some, false≢true)

pub returns-in_err-rings-clause-some : goal.returns-in_err-rings-clause-some
returns-in_err-rings-clause-some c =
    let at = goal.at.returns-in_err-rings-clause-some c in
    none_exactly _ c.from_residual-in_err-rings.ensures (λ are.
    false≢true (c.in_err-rings.ensures.some.1
    (rings_fit c.args.self.now c.args.dim c.args.i _ (singles at.After-last) _ (spans at.After-new) are)))

pub new-requires-2 : goal.new-requires-2
new-requires-2 c = grind (arith, count_rings, singles, spans)

pub returns-clause-some : goal.returns-clause-some
returns-clause-some c =
    let at = goal.at.returns-clause-some c in
    follows_on c.new-2.result c.new-2.ensures.some (levels_are c.args.self.now c.args.dim c.args.i _
    (singles at.After-last) _ (spans at.After-new) _ c.in_ok-rings.ensures.rings (c.in_ok-rings.ensures.some.0 refl))

pub returns-clause-polygons : goal.returns-clause-polygons
returns-clause-polygons c =
    let at = goal.at.returns-clause-polygons c in
    some_told polygons_polygons _ _ c.new-2.result c.new-2.ensures.some c.new-2.ensures.polygons (polygons_are
    c.args.self.now c.args.dim c.args.i _ (singles at.After-last) _ (spans at.After-new) _ c.in_ok-rings.ensures.rings)
