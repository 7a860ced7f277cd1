use Rattle.wkb_read.proofs.Prelude.{◌≡◌, ◌<◌, ◌-◌, ℕ, ◌∷◌, [], ◌++◌, length, reverse, length-append, length-reverse}
use Rattle.wkb_read.proofs.Prelude.{length-set, refl, sym, ap, ◌∙◌, arith, vec_len, List, slice_set, Item, Reading}
use Rattle.wkb_read.proofs.Prelude.{costs, Open, cost_of, outward, true, false, entries, next_turn}
use Rattle.std.proofs.lemmas.Bool.{false≢true}
use Rattle.wkb_read.proofs.LastItem.{Top, top, popped}
use Rattle.wkb_read.proofs.Stack.{Reaches, Finishes, Completes, next_begins, completes}
use Rattle.wkb_read.proofs.read.stack.close_finished.Goals.{After-push}
use Rattle.wkb_read.proofs.read.stack.close_finished.Goals as goal

on_top : (c : After-push) → Top c.loop-top.stack.items (vec_len c.loop-top.stack - 1) c.in-Some.top.now
on_top c = grind (arith, top)

-- the top with the finished part, and this number of members after it
abbrev filled : After-push → ℕ → Open
filled c left =
    record {
      layout = c.in-Some.top.now.layout;
      bytes = c.in-Some.top.now.bytes;
      left = left;
      members = c.push.new.self;
    }

abbrev full : After-push → Open
full c = filled c c.in-Some.top.now.left

abbrev whole : After-push → Reading Item
whole c = costs (cost_of c.args.counts.now) (outward (reverse c.args.stack.now.items) c.args.part c.args.rest.now)

finishes : (c : After-push)
    → Finishes (c.in-Some.top.now ∷ (on_top c).below) c.loop-top.finished c.args.rest.now c.loop-top.counts (whole c)
finishes c = rw (on_top c).is at c.loop-top.invariant.finishes

begins : (c : After-push) → 0 < c.in-Some.top.now.left
    → Reaches (filled c (c.in-Some.top.now.left - 1) ∷ (on_top c).below) c.args.rest.now
    (next_turn c.loop-top.counts) (whole c)
begins c more =
    let o = c.in-Some.top.now in
    next_begins o (filled c (o.left - 1)) (on_top c).below c.loop-top.finished c.args.rest.now c.loop-top.counts _
    (whole c)
    (record {
      left = omega arith;
      layout = refl;
      bytes = refl;
      items = c.push.ensures.entries;
      capacity_kept = omega arith;
    }) (finishes c) refl

pub overflow_add-counts : goal.overflow_add-counts
overflow_add-counts c = grind (arith, begins (goal.at.overflow_add-counts c).After-push c.if-top-gt0.true)

pub returns-then-top-gt0 : goal.returns-then-top-gt0
returns-then-top-gt0 c =
    let p = (goal.at.returns-then-top-gt0 c).After-push in
    let r = begins p c.if-top-gt0.true in
    let top_left = filled p (c.in-Some.top.now.left - 1) in
    let as_many = length-set c.loop-top.stack.items (vec_len c.loop-top.stack - 1) top_left in
    grind (arith, on_top)

-- what is taken off is the top, now with all its members
taken_off : (c : After-push) (ys : List Open) (z : Open)
    → slice_set c.loop-top.stack.items (vec_len c.loop-top.stack - 1) (full c) ≡ ys ++ z ∷ []
    → (full c ≡ z) × ((on_top c).below ≡ reverse ys)
taken_off c ys z e =
    popped c.loop-top.stack.items ys (vec_len c.loop-top.stack - 1) c.in-Some.top.now (full c) z (on_top c) e

all_in : (c : After-push) (z : Open) (members : List Item) → full c ≡ z → members ≡ entries z.members
    → c.in-Some.top.now.left ≡ 0
    → Completes c.in-Some.top.now (on_top c).below members c.args.rest.now c.loop-top.counts (whole c)
all_in c z members same is none =
    completes c.in-Some.top.now (on_top c).below c.loop-top.finished members c.args.rest.now c.loop-top.counts
    (whole c) none
    (is ∙ ap (λ (o : Open). entries o.members) (sym same) ∙ c.push.ensures.entries) (finishes c)

pub slice_bounds-finished-count : goal.slice_bounds-finished-count
slice_bounds-finished-count c =
    let p = (goal.at.slice_bounds-finished-count c).After-push in
    grind (arith, finishes p, length-append, taken_off p _ _ c.in-Some-pop.ensures.items)

pub invariant_of-finished : goal.invariant_of-finished
invariant_of-finished c =
    let p = (goal.at.invariant_of-finished c).After-push in
    let same = (taken_off p _ _ c.in-Some-pop.ensures.items).0 in
    let all = all_in p _ _ same c.into_vec-members.ensures (omega arith) in
    (rw (sym same) all.collection, rw c.deref.ensures.value at c.count_with_srids-with_srids.ensures, all.shallow)

pub loop-top-preserved : goal.loop-top-preserved
loop-top-preserved c =
    let p = (goal.at.loop-top-preserved c).After-push in
    let off = taken_off p _ _ c.in-Some-pop.ensures.items in
    rw (sym off.0, sym off.1) (record {
      finishes = (all_in p _ _ off.0 c.into_vec-members.ensures (omega arith)).finishes;
      fewer = omega (arith, length-reverse c.pop.new.self.items, ap length off.1, (on_top p).count);
    })

pub push-requires : goal.push-requires
push-requires c =
    let t =
    top c.loop-top.stack.items (vec_len c.loop-top.stack - 1) c.in-Some.top.now
    (omega (arith, c.in-Some.ensures.variant.0 refl)) c.in-Some.ensures.value in
    let f = rw t.is at c.loop-top.invariant.finishes in
    omega (arith, length-append c.loop-top.finished.encoding c.args.rest.now)

-- an empty stack
none_in : (os : List Open) (n : ℕ) → n ≡ length os → (0 < n → false ≡ true) → os ≡ []
none_in [] n is some = refl
none_in (o ∷ os) n is some = absurd (false≢true (some (omega arith)))

pub returns-in_default : goal.returns-in_default
returns-in_default c = grind (arith, none_in)
