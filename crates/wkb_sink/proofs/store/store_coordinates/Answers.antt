use Rattle.wkb_sink.proofs.Prelude.{◌∙◌, ap, arith, sym, words_encoding}
use Rattle.std.proofs.lemmas.List.Concat.{concat_is}
use Rattle.wkb_sink.proofs.Turned.{run_lent, run_length, run_within, run_are_words, words_joined}
use Rattle.wkb_sink.proofs.Turned.{bytes_each, words_each}
use Rattle.wkb_sink.proofs.store.store_coordinates.Goals as goal

pub items_between-lent-requires-clause-within : goal.items_between-lent-requires-clause-within
items_between-lent-requires-clause-within g c =
    let lawful = g.met.L.LineStringTrait.lawful c.args.line.now in
    let each = bytes_each _ _ c.size-width.ensures c.dim.ensures c.other-held.result _ lawful in
    run_within (words_encoding c.other-held.result) _ _ each c.in-Some.ensures c.requires.run.within

pub returns-in-Some-clause-len : goal.returns-in-Some-clause-len
returns-in-Some-clause-len g c =
    let lawful = g.met.L.LineStringTrait.lawful c.args.line.now in
    let each = bytes_each _ _ c.size-width.ensures c.dim.ensures c.other-held.result _ lawful in
    rw (← c.dim.ensures, ← c.size-width.ensures)
    (run_length (words_encoding c.other-held.result) _ _ each c.in-Some.ensures c.requires.run.within
    c.requires.run.order c.items_between-lent.ensures)

pub returns-in-Some-clause-bytes : goal.returns-in-Some-clause-bytes
returns-in-Some-clause-bytes g c =
    let lawful = g.met.L.LineStringTrait.lawful c.args.line.now in
    let each = bytes_each _ _ c.size-width.ensures c.dim.ensures c.other-held.result _ lawful in
    let lent = run_lent (words_encoding c.other-held.result) _ _ each c.in-Some.ensures c.requires.run.within
    c.requires.run.order c.items_between-lent.ensures in
    c.store_words.ensures _ (run_are_words _ _ c.args.from c.args.to lawful) (lent ∙ sym (words_joined _ _))
    ∙ words_joined c.args.order _

pub items_between-run-requires-clause-within : goal.items_between-run-requires-clause-within
items_between-run-requires-clause-within g c =
    let lawful = g.met.L.LineStringTrait.lawful c.args.line.now in
    let each = words_each _ _ c.size-width.ensures c.dim.ensures _ lawful in
    run_within (λ c. c) _ _ each (rw concat_is at c.in-Some-coords_as_words.ensures) c.requires.run.within

pub returns-in-Some-coords_as_words-clause-len : goal.returns-in-Some-coords_as_words-clause-len
returns-in-Some-coords_as_words-clause-len g c =
    let each = words_each _ _ c.size-width.ensures c.dim.ensures _ (g.met.L.LineStringTrait.lawful c.args.line.now) in
    let run =
    run_length (λ c. c) _ _ each (rw concat_is at c.in-Some-coords_as_words.ensures) c.requires.run.within
    c.requires.run.order c.items_between-run.ensures in
    rw (← c.dim.ensures, ← c.size-width.ensures) (omega (arith, run))

pub returns-in-Some-coords_as_words-clause-bytes : goal.returns-in-Some-coords_as_words-clause-bytes
returns-in-Some-coords_as_words-clause-bytes g c =
    let each = words_each _ _ c.size-width.ensures c.dim.ensures _ (g.met.L.LineStringTrait.lawful c.args.line.now) in
    let run =
    run_lent (λ c. c) _ _ each (rw concat_is at c.in-Some-coords_as_words.ensures) c.requires.run.within
    c.requires.run.order c.items_between-run.ensures in
    rw (← words_joined, concat_is) (c.store_each.ensures ∙ ap (words_encoding c.args.order) run)
