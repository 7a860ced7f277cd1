use Rattle.wkb_read.proofs.Prelude.{◌≡◌, ◌+◌, ◌-◌, ◌<◌, ◌≤◌, ℕ, suc, List, [], length, refl, sym, arith, ap, ◌∙◌}
use Rattle.wkb_read.proofs.Prelude.{drop-drop, Item, Reading, Layout, Counts, Stops, max_nesting, body_start}
use Rattle.wkb_read.proofs.Prelude.{collection_inside, cost_of, entries}
use Rattle.wkb_geom.specs.declared.error.ReadError.{ReadError}
use Rattle.std.proofs.lemmas.Result.{err_from_is_err_and}
use Rattle.wkb_view.proofs.Lists.{parts_length, entries_within, list_refused}
use Rattle.wkb_view.specs.Entries.{entries_asked, HasNoList}
use Rattle.wkb_read.proofs.Places.{closed, front_taken}
use Rattle.wkb_read.proofs.Opens.{opens, without_members, first_begins}
use Rattle.wkb_read.proofs.read.stack.begin_collection.Goals as goal
unfoldable use Rattle.wkb_geom.specs.Reading.{collection_at}

pub returns-then-count-eq0-clause-begins : goal.returns-then-count-eq0-clause-begins
returns-then-count-eq0-clause-begins c =
    let l = c.args.layout in
    let bytes = c.args.bytes.now in
    let back = rw c.header_length.ensures at c.split_at.ensures.back in
    let front =
    front_taken (body_start l.has_srid + 4) bytes _ _ c.in_ok-count.ensures.whole
    (rw c.header_length.ensures at c.split_at.ensures.front) back in
    rw (c.counted_list.ensures.turns, c.counted_list.ensures.slots) (
      opens l bytes c.args.depth c.in_ok-count.count (cost_of c.args.counts.now) _ _
          (omega arith) c.in_ok-count.ensures.whole c.in_ok-count.ensures.count back
          (without_members l bytes _ _ c.in_ok-count.count _ _ c.if-count-eq0.true front
          (c.into_vec.ensures ∙ c.in_ok-count.ensures.empty)),
      omega arith,
    )

pub returns-clause-begins : goal.returns-clause-begins
returns-clause-begins c =
    let l = c.args.layout in
    let bytes = c.args.bytes.now in
    let items = c.in_ok-count.ensures.empty in
    let back = rw c.header_length.ensures at c.split_at.ensures.back in
    let behind : length c.split_at.result.1.now + (body_start l.has_srid + 4) ≡ length bytes = grind arith in
    let none : length (entries c.in_ok-count.members) ≡ 0 = ap length items in
    rw (c.counted_list.ensures.turns, c.counted_list.ensures.slots) (
      opens l bytes c.args.depth c.in_ok-count.count (cost_of c.args.counts.now) _ _
          (omega arith) c.in_ok-count.ensures.whole c.in_ok-count.ensures.count back
          (first_begins l bytes _ c.in_ok-count.count _ _ (omega arith) items),
      refl,
      omega arith,
      record {
        head = c.requires.head;
        count = sym c.in_ok-count.ensures.count ∙ omega arith;
        behind = rw items (drop-drop 4 (body_start l.has_srid) bytes ∙ sym back);
        each = rw items tt;
        within = omega arith;
        room = rw none (omega (arith, c.in_ok-count.ensures.room, c.in_ok-count.ensures.count, behind));
        shallow = rw items (omega arith);
      },
    )

pub invariant_of-whole : goal.invariant_of-whole
invariant_of-whole c =
    let start = body_start c.args.layout.has_srid in
    let bytes = c.args.bytes.now in
    let back = rw c.header_length.ensures at c.split_at.ensures.back in
    let front =
    front_taken (start + 4) bytes _ _ c.in_ok-count.ensures.whole
    (rw c.header_length.ensures at c.split_at.ensures.front) back in
    rw (c.into_vec.ensures ∙ c.in_ok-count.ensures.empty, front) (
      (closed c.args.layout bytes [] _ c.requires.head
          (sym c.in_ok-count.ensures.count ∙ c.if-count-eq0.true) c.in_ok-count.ensures.whole
          (drop-drop 4 start bytes ∙ sym back) tt).collection,
      λ _. tt,
      omega arith,
    )

module _ (l : Layout) (bytes : List ℕ) where
  within : (member : List ℕ → Reading Item) → entries_asked 9 l bytes ≤ (collection_at member l bytes).0.slots
  unfolding collection_at
  within member = entries_within 9 l bytes _ (omega (arith, parts_length l.has_srid bytes))

  refused : (member : List ℕ → Reading Item) (error : ReadError) (old new : Counts) → HasNoList l bytes error
      → new.turns ≡ old.turns
      → new.slots ≡ old.slots + entries_asked 9 l bytes → Stops error (collection_at member l bytes) old new
  unfolding collection_at
  refused member = list_refused 9 l bytes _ (omega (arith, parts_length l.has_srid bytes))

  module _ (depth : ℕ) (shallow : depth < max_nesting) where
    level : max_nesting - depth ≡ suc (max_nesting - suc depth)
    level = omega arith

    members_within : entries_asked 9 l bytes ≤ (collection_inside l depth bytes).0.slots
    members_within = rw level (within _)

    members_refused : (error : ReadError) (old new : Counts) → HasNoList l bytes error → new.turns ≡ old.turns
        → new.slots ≡ old.slots + entries_asked 9 l bytes → Stops error (collection_inside l depth bytes) old new
    members_refused error old new none turns slots = rw level (refused _ error old new none turns slots)

pub counted_list-requires-clause-fits : goal.counted_list-requires-clause-fits
counted_list-requires-clause-fits c = grind (arith, members_within)

pub returns-in_err-count-clause-begins : goal.returns-in_err-count-clause-begins
returns-in_err-count-clause-begins c = grind (arith, err_from_is_err_and, members_refused)
