-- Reading from left to right, up to the body: what a reading says of its input, and its opening and its count.
use Rattle.std.proofs.Common.{◌≡◌, ◌≢◌, ℕ, zero, suc, ◌+◌, ◌≤◌, List, [], ◌∷◌, ◌++◌, length, take, drop, Some, Ok, Err}
use Rattle.std.proofs.Common.{Result, Bool, true, is_some, nat_lt, refl, sym, ap, ◌∙◌, append_assoc, arith, length-drop}
use Rattle.std.proofs.Common.{take-append-drop, length-take-le, drop-drop, ltb-true, ltb-false, ◌⊎◌, inl, inr}
use Rattle.std.proofs.lemmas.Bool.Decides.{nat_tests}
use Rattle.std.proofs.lemmas.Bool.{cond_both, cases_lt}
use Rattle.std.proofs.lemmas.List.{drop-append-le}
use Rattle.wkb_laws.specs.Prelude.{LittleEndian, IsHeader, no_order_byte, bad_order_byte, head_by_order, type_dimension}
use Rattle.wkb_laws.specs.Prelude.{member_count, listed_count, member_part, OpensCounted, parts_start, head_by_code}
use Rattle.wkb_laws.specs.Prelude.{Endianness, order_byte, SpellsBody, SpellsEach, body_start, spelled_in, FrontWithin}
use Rattle.wkb_laws.specs.Prelude.{BigEndian, Dimension, dimension, members, Spellings, srid_size, IsAllowed, type_kind}
use Rattle.wkb_laws.specs.Prelude.{Head, has_srid, Refuses, no_code, bad_code, no_count, layout_of, count_in, is_member}
use Rattle.wkb_laws.specs.Prelude.{Layout, number, Begins, Header, IsSrid, Spells, Wanted, Reading, head_at, srid_in}
use Rattle.wkb_laws.specs.Prelude.{Cause, Value, kind, nest, IsPart, Opens, Cost, Item, part}
use Rattle.wkb_geom.proofs.Meanings.{meaning_holds}
use Rattle.wkb_laws.proofs.Parts.{number-more, number_begins, begins_number, field_taken, length-opens}

-- what a reading says of the input: a front with its counts, or the refusal with its counts
pub record ItemIs (room : ℕ) (w : Wanted) (input : List ℕ) (i : Item) (rest : List ℕ) (cost : Cost) : Type 0 where
  pub whole : input ≡ i.encoding ++ rest
  pub spelled : Spells i.spelled i.value i.encoding
  pub shallow : nest i.value ≤ room
  pub wanted : IsPart w (kind i.value) (dimension i.value) (has_srid i.spelled)
  pub turns : cost.turns ≡ member_count i.value
  pub slots : cost.slots ≡ listed_count i.value

abbrev pub IsRight : ℕ → Wanted → List ℕ → Reading Item → Type 0
IsRight room w input (cost, Ok x) = ItemIs room w input x.0 x.1 cost
IsRight room w input (cost, Err r) = Refuses room w input r.cause cost.turns cost.slots

-- what was read is a front
abbrev pub item_front : {room : ℕ} {w : Wanted} {input : List ℕ} {i : Item} {rest : List ℕ} {cost : Cost}
    → ItemIs room w input i rest cost → FrontWithin room input i.spelled i.value rest
item_front {i = i} h =
    record { front = i.encoding; whole = h.whole; spelled = h.spelled; shallow = h.shallow }

-- the turns and the entries of a value
abbrev pub cost_of : Value → Cost
cost_of t = record { turns = member_count t; slots = listed_count t }

-- The input begins with a part that is wanted, or is rejected.
abbrev pub HasPart : ℕ → Wanted → List ℕ → Type 0
HasPart room w input =
    ((i : Item) × (rest : List ℕ) × ItemIs room w input i rest (cost_of i.value))
    ⊎ ((cause : Cause) × (turns : ℕ) × (slots : ℕ) × Refuses room w input cause turns slots)

-- the input opens with a geometry of this kind and this layout
abbrev pub Opened : List ℕ → ℕ → Layout → Type 0
Opened input k l = Opens input l.order k l.dimension l.has_srid (drop 5 input)

-- the opening that a head gives
abbrev pub OpensAs : List ℕ → Head → Type 0
OpensAs input h = Opened input (type_kind h.wkb_type) (layout_of h)

-- what holds of each fault in front of a body, and of each head that the input opens with, holds of what is read there
module _ (room : ℕ) (w : Wanted) where
  head_by : (order : Endianness) (first : ℕ) (behind : List ℕ) (Q : Result Head Cause → Type 0)
      → first ≡ order_byte order → first ≤ 1
      → ((c : Cause) → Refuses room w (first ∷ behind) c 0 0 → Q (Err c))
      → ((h : Head) → OpensAs (first ∷ behind) h → Q (Ok h))
      → Q (head_by_order (Some order) behind)
  head_by order first behind Q e small bad good =
      cond_both (nat_lt (length behind) 4) _ _ Q (λ t. bad _ (no_code small (ltb-true (length behind) 4 t)))
      (λ t. let begins = number_begins order 4 behind (ltb-false (length behind) 4 t) in
      let same = ap (λ z. z ∷ behind) e in
      meaning_holds (λ m. Q (head_by_code order (number order 4 behind) m)) (number order 4 behind)
      (λ m code. good _
      (record { code = number order 4 behind; behind = behind; whole = same; number = begins; meaning = code }))
      (λ none. bad _ (bad_code {order = order} {behind = behind} same begins none)))

  pub head_says : (input : List ℕ) (Q : Result Head Cause → Type 0)
      → ((c : Cause) → Refuses room w input c 0 0 → Q (Err c)) → ((h : Head) → OpensAs input h → Q (Ok h))
      → Q (head_at input)
  unfolding head_at
  head_says [] Q bad good = bad _ no_order_byte
  head_says (zero ∷ behind) Q bad good = head_by BigEndian zero behind Q refl (omega arith) bad good
  head_says (suc zero ∷ behind) Q bad good = head_by LittleEndian 1 behind Q refl (omega arith) bad good
  head_says (suc (suc n) ∷ behind) Q bad good = bad _ (bad_order_byte (omega arith))

module _ (room : ℕ) (w : Wanted) (input : List ℕ) (k : ℕ) (l : Layout) (o : Opened input k l)
    (allowed : IsAllowed room w k l.dimension l.has_srid) where
  -- the bytes with an allowed opening, an SRID and a count
  pub counts_here : body_start l.has_srid + 4 ≤ length input
      → OpensCounted room w input l.order k l.dimension l.has_srid (count_in l input) (parts_start l.has_srid input)
  counts_here long =
      let size = srid_size l.has_srid in
      let field = take size (drop 5 input) in
      let c = drop (body_start l.has_srid) input in
      let cut : drop 5 input ≡ field ++ (take 4 c ++ drop 4 c) = grind (arith, take-append-drop, drop-drop) in
      record {
        srid_field = field;
        count_field = take 4 c;
        opens = rw cut at o;
        allowed = allowed;
        srid_len = length-take-le size (drop 5 input) (omega (arith, length-drop 5 input));
        number = field_taken l.order 4 c (omega (arith, length-drop (body_start l.has_srid) input));
      }

  -- with a count that is whole, or not
  pub count_has : k ≢ 1
      → (body_start l.has_srid + 4 ≤ length input
      → OpensCounted room w input l.order k l.dimension l.has_srid (count_in l input) (parts_start l.has_srid input)
      → HasPart room w input)
      → HasPart room w input
  count_has not1 each = elim (cases_lt (length input) (body_start l.has_srid + 4)) [
    | inl short ↦ inr (_, _, _, no_count o not1 allowed (omega (arith, length-opens o)))
    | inr enough ↦ each enough (counts_here enough)
  ]

-- a number inside an encoding is the same in the input that begins with it
pub number_in : (order : Endianness) (a : ℕ) (input x rest : List ℕ) → input ≡ x ++ rest → a + 4 ≤ length x
    → number order 4 (drop a input) ≡ number order 4 (drop a x)
number_in order a input x rest e h = grind (arith, drop-append-le, number-more, length-drop)

-- the header that an encoding begins with
abbrev encoding_header : Layout → List ℕ → Header
encoding_header l x =
    record { order = l.order; code = number l.order 4 (drop 1 x); srid = srid_in l.order l.has_srid x }

pub has_srid_in : (order : Endianness) (srid : Bool) (x : List ℕ) → srid ≡ is_some (srid_in order srid x)
has_srid_in order srid x = grind arith

srid_is : (order : Endianness) (srid : Bool) (x : List ℕ) → srid_size srid ≤ length (drop 5 x)
    → IsSrid order (srid_in order srid x) (take (srid_size srid) (drop 5 x))
srid_is order srid x h = grind (arith, field_taken)

encoding_head : (input x rest : List ℕ) (k : ℕ) (d : Dimension) (l : Layout)
    → Opens input l.order k d l.has_srid (drop 5 input) → input ≡ x ++ rest
    → body_start l.has_srid ≤ length x → Begins (IsHeader (encoding_header l x) k d) x (drop (body_start l.has_srid) x)
encoding_head input [] rest k d l o e long = absurd (omega arith)
encoding_head input (a ∷ y) rest k d l o e long =
    let head : a ≡ order_byte l.order = cc in
    let tail : y ++ rest ≡ o.behind = cc in
    let read = begins_number l.order 4 o.code o.behind (drop 5 input) o.number in
    let same : o.code ≡ number l.order 4 y = grind (arith, number-more) in
    let field = take (srid_size l.has_srid) (drop 4 y) in
    let cut =
    sym (take-append-drop (srid_size l.has_srid) (drop 4 y))
    ∙ ap (λ z. field ++ z) (drop-drop (srid_size l.has_srid) 5 (a ∷ y)) in
    let code = number_begins l.order 4 y (omega arith) in
    record {
      front = order_byte l.order ∷ (code.front ++ field);
      whole = grind (arith, append_assoc);
      first = grind (arith, has_srid_in, srid_is, length-drop);
    }

-- Where an encoding follows the opening, before the rest, and its body spells a value, the encoding is that
-- value's.
pub item_is : (room : ℕ) (w : Wanted) (input x rest : List ℕ) (l : Layout) (own : List ℕ) (ss : Spellings) (t : Value)
    (b m : List ℕ) (cost : Cost)
    → Opens input l.order (kind t) (dimension t) l.has_srid (drop 5 input) → IsPart w (kind t) (dimension t) l.has_srid
    → input ≡ x ++ rest → body_start l.has_srid ≤ length x → drop (body_start l.has_srid) x ≡ b ++ m
    → SpellsBody l.order own t b → SpellsEach (member_part (kind t) (dimension t)) ss (members t) m → nest t ≤ room
    → cost.turns ≡ member_count t → cost.slots ≡ listed_count t
    → ItemIs room w input (record { encoding = x; spelled = spelled_in l x own ss; value = t }) rest cost
item_is room w input x rest l own ss t b m cost o p e long cut body each shallow turns slots =
    let head = encoding_head input x rest (kind t) (dimension t) l o e long in grind (arith, has_srid_in)

-- members that pass the test are wanted, and no others: a head of a member of this kind and dimension
abbrev pub IsWantedHead : ℕ → Dimension → Head → Type 0
IsWantedHead k d h = IsPart (part k d) (type_kind h.wkb_type) (type_dimension h.wkb_type) h.has_srid

pub passes : (k : ℕ) (d : Dimension) (h : Head) → is_member k d h ≡ true → IsWantedHead k d h
passes k d h t = grind (arith, nat_tests)

pub is_passed : (k : ℕ) (d : Dimension) (h : Head) → IsWantedHead k d h → is_member k d h ≡ true
is_passed k d h p = grind (arith, nat_tests)
