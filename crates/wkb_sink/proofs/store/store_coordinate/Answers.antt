use Rattle.wkb_sink.proofs.Prelude.{◌≡◌, arith, length}
use Rattle.wkb_sink.proofs.Stores.{stored_next, four_words}
use Rattle.wkb_sink.proofs.store.store_coordinate.Goals as goal

pub returns-in_default : goal.returns-in_default
returns-in_default g c =
    let words = g.C.CoordTrait.words c.args.coord.now in
    let wide : c.args.width ≡ 4 = omega arith in
    let len : length words ≡ 4 = omega (arith, (g.met.C.CoordTrait.lawful c.args.coord.now).len) in
    let word = four_words c.args.order words len in
    rw (wide, word, ← c.at-in_default.ensures, ← c.at-in_default-2.ensures)
    (stored_next _ _ _ _ 16 16 _ c.store_x_y.ensures (omega arith) c.store_two.ensures (omega arith))
