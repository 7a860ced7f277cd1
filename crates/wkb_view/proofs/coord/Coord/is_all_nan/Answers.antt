use Rattle.wkb_view.proofs.Prelude.{◌<◌, ◌∙◌, refl, true, false, arith, is_nan, number, width, length-items}
use Rattle.wkb_view.proofs.Prelude.{coordinate}
use Rattle.std.proofs.lemmas.List.Folds.{list_all_at, list_all_more}
use Rattle.wkb_view.proofs.Items.{word_is}
use Rattle.wkb_view.proofs.coord.Coord.is_all_nan.Goals as goal

pub returns-then-not-is_nan : goal.returns-then-not-is_nan
returns-then-not-is_nan c =
    let s = c.args.self.now in
    let lt : c.loop-n.n < width s.dimension = omega arith in
    let word =
    word_is s.order s.dimension c.loop-n.n c.u64_at.result s.bytes.now false lt c.u64_at.ensures
    c.if-not-is_nan.ensures in
    grind (arith, list_all_at)

pub loop-n-preserved : goal.loop-n-preserved
loop-n-preserved c =
    let s = c.args.self.now in
    let lt : c.loop-n.n < width s.dimension = omega arith in
    let word =
    word_is s.order s.dimension c.loop-n.n c.u64_at.result s.bytes.now true lt c.u64_at.ensures
    c.if-not-is_nan.ensures in
    let counted = length-items 8 (number s.order 8) (width s.dimension) s.bytes.now in
    let more =
    list_all_more is_nan (coordinate s.order s.dimension s.bytes.now) c.loop-n.n 0 (omega arith) in
    more ∙ rw (c.loop-n.invariant, word) refl
