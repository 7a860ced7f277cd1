use Rattle.wkb_view.proofs.Prelude.{◌≡◌, ℕ, List, ◌-◌, ◌+◌, ◌≤◌, ◌∙◌, ap, length, sym, arith, rules}
use Rattle.wkb_view.proofs.Prelude.{err_from_is_err_and, Layout, ReadError, body_start, parts_start, count_in}
use Rattle.wkb_view.proofs.Prelude.{slots_asked, Counts, entries_asked, HasNoList, Stops}
use Rattle.wkb_view.specs.Ends.{PartsOf, whole_at}
use Rattle.wkb_view.proofs.Lists.{IsList, list_here, list_fits, list_reads, list_stops, entries_within, list_refused}
use Rattle.wkb_view.proofs.Lists.{parts_length}
use Rattle.wkb_view.proofs.ends.read_ends.Given.{Over}
use Rattle.wkb_view.proofs.ends.read_ends.Goals.{In_ok-count}
use Rattle.wkb_view.specs.Prelude.read_errors
use Rattle.wkb_view.proofs.ends.read_ends.Goals as goal

-- the list that was asked for
here : (g : Over) (c : In_ok-count g)
    → let parts = g.P.Parts.parts c.args.layout in
    IsList c.args.layout parts.reading parts.whole c.args.bytes.now c.in_ok-count.count c.args.counts.now
    c.counted_list.new.counts (whole_at g.P.Parts.parts c.args.layout c.args.bytes.now)
here g c =
    let l = c.args.layout in
    let bytes = c.args.bytes.now in
    let parts = g.P.Parts.parts l in
    list_here l bytes c.in_ok-count.count c.args.counts.now c.counted_list.new.counts c.in_ok-count.ensures.whole
    c.in_ok-count.ensures.count c.counted_list.ensures.turns parts.kind _ _
    (rw c.MIN_SIZE.ensures at c.counted_list.ensures.slots
    ∙ ap (λ (n : ℕ). c.args.counts.now.slots + n)
    (sym (parts.slots (count_in l bytes) (length bytes - (body_start l.has_srid + 4)))))

-- the entries that are asked for are counted in the whole, also where the list isn't there
module _ {least : ℕ} (parts : Layout → PartsOf least) (l : Layout) (bytes : List ℕ) where
  asked : entries_asked least l bytes
      ≤ slots_asked (parts l).kind (count_in l bytes) (length (parts_start l.has_srid bytes))
  asked = grind (arith, parts_length)

  within : entries_asked least l bytes ≤ (whole_at parts l bytes).0.slots
  within = entries_within least l bytes _ (omega (arith, asked))

  refused : (error : ReadError) (old new : Counts) → HasNoList l bytes error → new.turns ≡ old.turns
      → new.slots ≡ old.slots + entries_asked least l bytes → Stops error (whole_at parts l bytes) old new
  refused = list_refused least l bytes _ (omega (arith, asked))

pub counted_list-requires-clause-fits : goal.counted_list-requires-clause-fits
counted_list-requires-clause-fits g c = search (rules, within)

pub returns-in_err-count-clause-answer : goal.returns-in_err-count-clause-answer
returns-in_err-count-clause-answer g c = search (rules, err_from_is_err_and, refused)

pub returns-in_err-count-clause-no_memory : goal.returns-in_err-count-clause-no_memory
returns-in_err-count-clause-no_memory g c =
    grind (arith, err_from_is_err_and, within g.P.Parts.parts c.args.layout c.args.bytes.now)

pub pass_parts-requires-clause-fits : goal.pass_parts-requires-clause-fits
pass_parts-requires-clause-fits g c =
    list_fits (here g (goal.at.pass_parts-requires-clause-fits g c).In_ok-count) c.requires.fits

pub returns-in_err-ends-clause-answer : goal.returns-in_err-ends-clause-answer
returns-in_err-ends-clause-answer g c =
    let p = err_from_is_err_and c.from_residual-in_err-ends.result c.from_residual-in_err-ends.ensures.1 in
    rw (p.1, p.2) (list_stops (here g (goal.at.returns-in_err-ends-clause-answer g c).In_ok-count)
    (read_errors.Cause c.in_err-ends.field-0.0) _ c.in_err-ends.ensures.answer)

pub returns-clause-answer : goal.returns-clause-answer
returns-clause-answer g c =
    let e = c.in_ok-ends.ensures.answer in
    rw c.into_vec.ensures (list_reads (here g (goal.at.returns-clause-answer g c).In_ok-count) _ _ _ e.0 e.1)
