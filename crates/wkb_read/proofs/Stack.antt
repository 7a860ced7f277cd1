-- Open collections, as a part of one is finished.
use Rattle.wkb_read.proofs.Prelude.{◌≡◌, ℕ, suc, ◌+◌, ◌≤◌, List, [], ◌∷◌, ◌++◌, length, Ok, sym, ◌∙◌}
use Rattle.wkb_read.proofs.Prelude.{append_assoc, length-append, arith, Bor, Item, Cost, one_turn, Reading, costs}
use Rattle.wkb_read.proofs.Prelude.{and_then, consumed, Layout, BytesSpell, Counts, AtMost, Wkb, Open, Whole, nest}
use Rattle.wkb_read.proofs.Prelude.{IsCollectionIn, closing, list_item, collection_with, geometry_inside, after_member}
use Rattle.wkb_read.proofs.Prelude.{in_collection, outward, cost_of, IsOpen, AreOpen, IsFinished, BeginsAs, ◌<◌}
use Rattle.wkb_read.proofs.Prelude.{max_nesting, nest_each, values, next_turn, entries, length-reverse, reverse-append}
use Rattle.std.specs.Prelude.{max}
use Rattle.wkb_view.proofs.Algebra.{and_then-costs, and_then-assoc, and_then-same, done_then, repeated_more}
use Rattle.wkb_view.proofs.Algebra.{repeated_none, turn_begins, part_counted, part_stops, all_read}
use Rattle.std.proofs.lemmas.Result.{err_from_is_err_and}
use Rattle.wkb_read.proofs.Places.{Closed, closed, one_more, part_read}
use Rattle.wkb_view.specs.Entries.{capacity}
use Rattle.wkb_view.proofs.Members.{all_more}

-- what is being read inside these collections, and what comes of it in all
pub record Reaches (os : List Open) (bytes : List ℕ) (spent : Counts) (whole : Reading Item) : Type 0 where
  pub so_far : costs (cost_of spent) (and_then (geometry_inside (length os) bytes) (outward os)) ≡ whole
  pub stand : AreOpen os bytes

-- the same of a part that is finished
pub record Finishes (os : List Open) (m : Item) (rest : List ℕ) (spent : Counts) (whole : Reading Item) : Type 0 where
  pub so_far : costs (cost_of spent) (outward os m rest) ≡ whole
  pub stand : AreOpen os (m.encoding ++ rest)
  pub part : IsFinished (length os) m

-- ---- a part begins

-- a reading that leads to another does so inside collections too
moved : (os : List Open) (old new : Cost) (before after whole : Reading Item) → costs new after ≡ costs old before
    → costs old (and_then before (outward os)) ≡ whole → costs new (and_then after (outward os)) ≡ whole
moved os old new before after whole e so_far = grind (arith, and_then-costs)

-- a whole part was read
pub finishes : (w : Wkb) (os : List Open) (rest : Bor (List ℕ)) (bytes : List ℕ) (mid new : Counts)
    (whole : Reading Item) → Reaches os bytes mid whole
    → BeginsAs geometry_inside (length os) bytes (Ok (Whole w rest)) mid new
    → Finishes os w rest.now new whole
finishes w os rest bytes mid new whole r b =
    let p = part_read w rest bytes (length os) mid new b in
    grind (arith, done_then, moved)

-- what was counted before a turn is among the whole
pub at_most_turn : (os : List Open) (bytes : List ℕ) (old new after : Counts) (whole : Reading Item)
    → Reaches os bytes after (costs (cost_of old) whole)
    → after ≡ next_turn new → AtMost old new whole.0
at_most_turn os bytes old new after whole r turn = grind arith

-- ---- a part is finished

-- a collection with one member more
pub record IsNext (o next : Open) (m : Item) : Type 0 where
  pub left : o.left ≡ suc next.left
  pub layout : next.layout ≡ o.layout
  pub bytes : next.bytes.now ≡ o.bytes.now
  pub items : entries next.members ≡ entries o.members ++ m ∷ []
  pub capacity_kept : capacity o.members ≤ capacity next.members

member_more : (member : List ℕ → Reading Item) (l : Layout) (bytes : List ℕ) (n : ℕ) (front : List Item) (m : Item)
    (rest : List ℕ)
    → after_member member l bytes (suc n) front m rest
    ≡ costs one_turn (and_then (member rest) (after_member member l bytes n (front ++ m ∷ [])))
member_more member l bytes n front m rest = grind (arith, and_then-same, repeated_more, append_assoc)

goes_on : (o next : Open) (os : List Open) (m : Item) (rest : List ℕ) → IsNext o next m
    → outward (o ∷ os) m rest ≡ costs one_turn (and_then (geometry_inside (suc (length os)) rest) (outward (next ∷ os)))
goes_on o next os m rest n = grind (arith, and_then-assoc, and_then-costs, member_more)

-- with one member more, the list is nested as deep as it was, or as that member
nest_more : (xs : List Item) (m : Item)
    → nest_each (values (xs ++ m ∷ [])) ≡ max (nest_each (values xs)) (nest m.value)
nest_more [] m = omega arith
nest_more (x ∷ xs) m = omega (arith, nest_more xs m)

more_open : (depth : ℕ) (o next : Open) (m : Item) (rest : List ℕ) → IsNext o next m
    → IsOpen depth o (m.encoding ++ rest) → IsFinished (suc depth) m → IsOpen depth next rest
more_open depth o next m rest n h part = grind (arith, length-append, one_more, all_more, nest_more)

-- the next member begins
pub next_begins : (o next : Open) (os : List Open) (m : Item) (rest : List ℕ) (spent after : Counts)
    (whole : Reading Item) → IsNext o next m
    → Finishes (o ∷ os) m rest spent whole → after ≡ next_turn spent
    → Reaches (next ∷ os) rest after whole
next_begins o next os m rest spent after whole n f turn =
    record {
      so_far = grind (arith, turn_begins, goes_on);
      stand = (more_open (length os) o next m rest n f.stand.0 f.part, rw n.bytes f.stand.1);
    }

-- a collection that has all its members, and is a finished part itself
pub record Completes (o : Open) (os : List Open) (members : List Item) (rest : List ℕ) (spent : Counts)
    (whole : Reading Item) : Type 0 where
  pub collection : IsCollectionIn o.layout members (consumed o.bytes.now rest)
  pub shallow : nest_each (values members) < max_nesting
  pub finishes : Finishes os (list_item o.layout collection_with members (consumed o.bytes.now rest)) rest spent whole

pub completes : (o : Open) (os : List Open) (m : Item) (members : List Item) (rest : List ℕ) (spent : Counts)
    (whole : Reading Item) → o.left ≡ 0
    → members ≡ entries o.members ++ m ∷ [] → Finishes (o ∷ os) m rest spent whole
    → Completes o os members rest spent whole
completes o os m members rest spent whole none is f =
    let member = geometry_inside (suc (length os)) in
    let h = f.stand.0 in
    let front = entries o.members in
    let c : Closed o.layout o.bytes.now members rest = rw is (closed o.layout o.bytes.now (front ++ m ∷ []) rest h.head
    (h.count ∙ omega (arith, length-append front (m ∷ []))) (omega arith)
    (h.behind ∙ sym (one_more front m rest))
    (all_more BytesSpell front m h.each f.part.spelled)) in
    let encoding = consumed o.bytes.now rest in
    let deep : nest_each (values members) + suc (length os) ≤ max_nesting = grind (arith, nest_more) in
    let last : in_collection (length os) o m rest ≡ closing o.layout o.bytes.now members rest =
    rw (none, is) (repeated_none member rest (λ xs after. closing o.layout o.bytes.now (front ++ m ∷ xs) after)) in
    grind arith

-- what the loop over a stack comes to
pub ruleset list_laws = (length-append, length-reverse, reverse-append)

pub ruleset loop_laws = (list_laws, part_counted, part_stops, all_read, at_most_turn, finishes, err_from_is_err_and)
