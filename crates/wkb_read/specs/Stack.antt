-- The collections that are open around what is read, and how reading goes on once it is read.
use Rattle.std.specs.Prelude.{◌≡◌, ℕ, suc, ◌<◌, ◌+◌, ◌-◌, ◌*◌, ◌/◌, ◌≤◌, min, List, [], ◌∷◌, ◌++◌, length, drop}
use Rattle.std.specs.Prelude.{Result, Ok, Err, Option, Some, None, Vec, reverse}
use Rattle.std.specs.Global.{Global}
use Rattle.std.specs.List.{AllByRecursion}
use Rattle.wkb_read.specs.Prelude.{ReadError, Layout, max_nesting, number, Item, Reading, costs, one_turn, done}
use Rattle.wkb_read.specs.Prelude.{cost_of, and_then, repeated, collection_within, body_start, parts_start}
use Rattle.wkb_read.specs.Prelude.{Counts, HasHead, Spent, Stops, BytesSpell, nest, nest_each, values}
use Rattle.wkb_geom.specs.Reading.{geometry_inside}
use Rattle.wkb_view.specs.Entries.{entries, capacity}
use Rattle.wkb_geom.specs.declared.code.WkbType.TheVariants as kinds
use Rattle.wkb_read.specs.declared.{geometry.Wkb.Wkb, read.stack.Open.Open, read.stack.Begun.Begun}
use Rattle.wkb_read.specs.declared.{read.stack.Begun.TheVariants.Whole, read.stack.Begun.TheVariants.Opened}
use Rattle.wkb_read.specs.Places.{joined_encodings, closing}

-- the reading of a collection's count and members, inside this number of open collections
abbrev pub collection_inside : Layout → ℕ → List ℕ → Reading Item
collection_inside l depth = collection_within (max_nesting - depth) l

-- how a collection is read on once a member is finished, by the reading of the members after it
abbrev pub after_member : (List ℕ → Reading Item) → Layout → List ℕ → ℕ → List Item → Item → List ℕ → Reading Item
after_member member l bytes left front x rest =
    and_then (repeated left member rest) (λ xs after. closing l bytes (front ++ x ∷ xs) after)

-- how an open collection, inside this number of others, is read on once a member is finished
abbrev pub in_collection : ℕ → Open → Item → List ℕ → Reading Item
in_collection depth o = after_member (geometry_inside (suc depth)) o.layout o.bytes.now o.left (entries o.members)

-- how reading goes on once a part is finished inside these collections, the innermost first
abbrev pub outward : List Open → Item → List ℕ → Reading Item
outward [] x rest = done x rest
outward (o ∷ os) x rest = and_then (in_collection (length os) o x rest) (outward os)

-- the reading of a collection from its first member on, inside this number of open collections
abbrev pub first_member : ℕ → Open → List ℕ → Reading Item
first_member depth o bytes = costs one_turn (and_then (geometry_inside (suc depth) bytes) (in_collection depth o))

-- where the members of an open collection begin
abbrev pub members_start : Open → ℕ
members_start o = body_start o.layout.has_srid + 4

-- how many members an open collection has: those that were read, the current one, and those after it
abbrev pub members_count : Open → ℕ
members_count o = length (entries o.members) + 1 + o.left

-- After the count of a collection that is open inside this number of others come its members so far, each spelled by
-- its bytes, and then these bytes, with which the current member begins. The collection's list has room for the members
-- left, and no member so far is nested too deep.
pub record IsOpen (depth : ℕ) (o : Open) (here : List ℕ) : Type 0 where
  pub head : HasHead (λ d. kinds.GeometryCollection d) o.layout o.bytes.now
  pub count : number o.layout.order 4 (drop (body_start o.layout.has_srid) o.bytes.now) ≡ members_count o
  pub behind : parts_start o.layout.has_srid o.bytes.now ≡ joined_encodings (entries o.members) ++ here
  pub each : AllByRecursion BytesSpell (entries o.members)
  pub within : 9 * length (entries o.members) + length here + members_start o ≤ length o.bytes.now
  pub room : min (members_count o) ((length o.bytes.now - members_start o) / 9) ≤ capacity o.members
  pub shallow : nest_each (values (entries o.members)) + suc depth ≤ max_nesting

-- the collections around what is read, the innermost first
abbrev pub around : Vec Open Global → List Open
around stack = reverse stack.items

-- Each of these collections is open, the innermost first: its current member begins where the next inner one does, and
-- that of the innermost with these bytes.
abbrev pub AreOpen : List Open → List ℕ → Type 0
AreOpen [] here = Unit {0}
AreOpen (o ∷ os) here = IsOpen (length os) o here × AreOpen os o.bytes.now

-- a part that was read inside this number of open collections: spelled by its bytes, no shorter than a header and a
-- count, and not nested too deep
pub record IsFinished (depth : ℕ) (part : Item) : Type 0 where
  pub spelled : BytesSpell part
  pub long : 9 ≤ length part.encoding
  pub shallow : nest part.value ≤ max_nesting - depth

-- This result begins what a reading gives of these bytes inside this number of open collections: a whole geometry is
-- what it gives; of a collection it gives what comes of the first member; a refusal is its own.
abbrev pub BeginsAs : (ℕ → List ℕ → Reading Item) → ℕ → List ℕ → Result Begun ReadError → Counts → Counts → Type 0
BeginsAs read depth bytes (Ok (Whole w rest)) old new =
    (costs (cost_of new) (done w rest.now) ≡ costs (cost_of old) (read depth bytes))
    × (length rest.now + 9 ≤ length bytes)
BeginsAs read depth bytes (Ok (Opened o rest)) old new =
    (costs (cost_of new) (first_member depth o rest.now) ≡ costs (cost_of old) (read depth bytes))
    × (o.bytes.now ≡ bytes) × (depth < max_nesting) × IsOpen depth o rest.now
BeginsAs read depth bytes (Err error) old new = Stops error (read depth bytes) old new

-- a part was read inside the open collections `before`, and those of `after` are open then: all is read, or the next
-- part begins
abbrev pub Settles : Vec Open Global → Item → Vec Open Global → List ℕ → Option Item → Counts → Counts → Type 0
Settles before part after rest (Some w) old new =
    (around after ≡ []) × (costs (cost_of new) (done w rest) ≡ costs (cost_of old) (outward (around before) part rest))
Settles before part after rest None old new =
    let os = around after in
    (costs (cost_of new) (and_then (geometry_inside (length os) rest) (outward os))
    ≡ costs (cost_of old) (outward (around before) part rest))
    × AreOpen os rest

-- the result is what this reading gives, and what it cost was counted
abbrev pub ReadsAs : Reading Item → Result Wkb ReadError → Counts → Counts → Type 0
ReadsAs whole (Ok w) old new = ((rest : List ℕ) × (whole.1 ≡ Ok (w, rest))) × Spent old new whole.0
ReadsAs whole (Err error) old new = Stops error whole old new
