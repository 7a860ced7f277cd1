-- Members and list entries are bounded by the bytes.
use Rattle.std.proofs.Common.{◌≡◌, ℕ, ◌+◌, ◌*◌, ◌<◌, ◌≤◌, List, [], ◌∷◌, length, Bool, refl, sym, ◌∙◌, arith}
use Rattle.std.proofs.Common.{length-append, mul-le-mul_left}
use Rattle.std.proofs.lemmas.Bool.Decides.{nat_tests}
use Rattle.wkb_laws.specs.Prelude.{multi_line_string, member_count_each, listed_count_each, Spelling, SpellsCoordinates}
use Rattle.wkb_laws.specs.Prelude.{multi_polygon, member_count, listed_count, no_spellings, OpensCounted, no_ring_count}
use Rattle.wkb_laws.specs.Prelude.{line_string, multi_point, kind, member_part, FrontWithin, RefusesRings, later_member}
use Rattle.wkb_laws.specs.Prelude.{Endianness, Coordinate, spelling, slots_asked, room_inside, RefusesEach, this_member}
use Rattle.wkb_laws.specs.Prelude.{collection, no_members, SpellsBody, SpellsEach, short_ring, later_ring, bad_member}
use Rattle.wkb_laws.specs.Prelude.{Dimension, polygon, dimension, members, Spellings, any, IsAllowed, Refuses, bad_ring}
use Rattle.wkb_laws.specs.Prelude.{IsEach, Value, point, Values, member, node, Wanted, part, Spells, Cause}
use Rattle.wkb_laws.specs.Laws.{FrontIsBounded, RefusalIsBounded}
use Rattle.wkb_laws.proofs.Parts.{then_length, length-opens, header_length}
use Rattle.wkb_laws.proofs.Lists.{each_sum, each_same, IsWanted}

-- each item of a list has at least this number of bytes
pub each_long : {A : Type 0} (P : A → List ℕ → Type 0) (size : ℕ) → ((a : A) (x : List ℕ) → P a x → size ≤ length x)
    → (l : List A) (x : List ℕ) → IsEach P l x
    → size * length l ≤ length x
each_long P size one [] x h = omega arith
each_long P size one (a ∷ l) x h =
    omega (arith, each_long P size one l h.rest h.second, one a h.front h.first, then_length h)

pub coordinates_long : (order : Endianness) (d : Dimension) (cs : List Coordinate) (x : List ℕ)
    → SpellsCoordinates order d cs x → 4 ≤ length x
coordinates_long order d cs x h = omega (arith, then_length h)

-- how many rings a polygon has
abbrev pub ring_count : Value → ℕ
ring_count (polygon d rings) = length rings
ring_count _ = 0

-- the rings and the members, with what is in them
pub member_count-members : (t : Value) → member_count t ≡ ring_count t + member_count_each (members t)
member_count-members (multi_point d l) = omega (arith, each_same (point d) member_count_each refl 1 (λ a ts. refl) l)
member_count-members (multi_line_string d l) =
    omega (arith, each_same (line_string d) member_count_each refl 1 (λ a ts. refl) l)
member_count-members (multi_polygon d l) =
    sym (each_sum (polygon d) member_count_each refl (λ rings. 1 + length rings) (λ a ts. refl) l) ∙ omega arith
member_count-members _ = omega arith

mutual
  pub listed_count-most : (t : Value) → listed_count t ≤ member_count t
  listed_count-most (collection d ts) = listed_each-most ts
  listed_count-most _ = omega arith

  pub listed_each-most : (ts : Values) → listed_count_each ts ≤ member_count_each ts
  listed_each-most no_members = omega arith
  listed_each-most (member t ts) = omega (arith, listed_count-most t, listed_each-most ts)

body_long : (order : Endianness) (own : List ℕ) (t : Value) (x : List ℕ) → SpellsBody order own t x
    → 4 * ring_count t ≤ length x
body_long order own (polygon d rings) x h =
    let each = each_long (SpellsCoordinates order d) 4 (coordinates_long order d) rings h.1.rest h.1.second in
    omega (arith, then_length h.1)
body_long order own _ x h = omega arith

-- each ring and each member has four bytes of its own, and so has the geometry
mutual
  pub spelled_long : (s : Spelling) (t : Value) (x : List ℕ) → Spells s t x → 4 * member_count t + 5 ≤ length x
  spelled_long (node h own ss) t x a =
      let body = body_long h.order own t a.second.front a.second.first in
      let tail = each_spelled_long (member_part (kind t) (dimension t)) ss (members t) a.second.rest a.second.second in
      let head = header_length h (kind t) (dimension t) a.front a.first in
      omega (arith, then_length a, then_length a.second, member_count-members t)

  pub each_spelled_long : (w : Wanted) (ss : Spellings) (ts : Values) (x : List ℕ) → SpellsEach w ss ts x
      → 4 * member_count_each ts ≤ length x
  each_spelled_long w no_spellings no_members x a = omega arith
  each_spelled_long w (spelling s ss) (member t ts) x a =
      omega (arith, each_spelled_long w ss ts a.rest a.second, spelled_long s t a.front a.first.0, then_length a)
  each_spelled_long w _ _ x a = absurd a

pub front_is_bounded_lem : FrontIsBounded
front_is_bounded_lem input s t rest f = grind (arith, spelled_long, listed_count-most, length-append)

length-counts : {room : ℕ} {w : Wanted} {input rest : List ℕ} {order : Endianness} {k : ℕ} {d : Dimension}
    {srid : Bool} {n : ℕ}
    → OpensCounted room w input order k d srid n rest → 9 + length rest ≤ length input
length-counts c = omega (arith, length-opens c.opens, length-append {A = ℕ})

rings_begun : {order : Endianness} {d : Dimension} {n : ℕ} {input : List ℕ} {cause : Cause} {begun : ℕ}
    → RefusesRings order d n input cause begun
    → 4 * begun ≤ length input + 4
rings_begun (no_ring_count h) = omega arith
rings_begun (short_ring b h) = omega arith
rings_begun {order} {d} (later_ring ring b h) = grind (arith, coordinates_long, length-append, rings_begun h)

front_long : {room : ℕ} {input : List ℕ} {s : Spelling} {t : Value} {rest : List ℕ} → FrontWithin room input s t rest
    → 4 * member_count t + 5 + length rest ≤ length input
front_long {s = s} {t = t} {rest = rest} f = grind (arith, spelled_long, length-append)

-- nine times the entries for each byte: one for each collection that may be open, and five for the rest
abbrev share : Wanted → ℕ → ℕ
share any room = room + 5
share (part k d) room = 3

-- the share of the members of a list, and its own entries, are within the list's share
list_share : (inner outer asked slots rest len : ℕ) → inner + 1 ≤ outer → 9 * asked ≤ rest → rest ≤ len
    → 9 * slots ≤ inner * rest
    → 9 * (asked + slots) ≤ outer * len
list_share inner outer asked slots rest len more ask fits inside = grind arith

-- the members that are wanted after a count
pub wanted_inside : (w : Wanted) (room k : ℕ) (d : Dimension) (srid : Bool) → IsWanted w → IsAllowed room w k d srid
    → 3 < k → k ≤ 7 → IsWanted (member_part k d)
wanted_inside w room k d srid good allowed low high = grind arith

-- a list of rings, and a member that is spelled, pay for their entries by their own bytes
own_share : (s front rest len own slots : ℕ) → 3 ≤ s → 4 * own ≤ front → 9 * slots ≤ s * rest → front + rest ≤ len
    → 9 * (own + slots) ≤ s * len
own_share s front rest len own slots h pays inside fits =
    omega (arith, mul-le-mul_left s fits, mul-le-mul_left front h)

mutual
  pub refused_within : {room : ℕ} {w : Wanted} {input : List ℕ} {cause : Cause} {begun slots : ℕ}
      → Refuses room w input cause begun slots → IsWanted w
      → (4 * begun ≤ length input) × (9 * slots ≤ share w room * length input)
  refused_within {room} {w} {input} (bad_ring {n = n} {rest = rest} c r) good =
      let inside = rings_begun r in
      let long = length-counts c in
      let all =
      own_share (share w room) (length rest) 0 (length input) (slots_asked 3 n (length rest)) 0 (grind arith)
      (omega arith) (omega arith) (omega arith) in
      (omega arith, omega arith)
  refused_within {w = part l e} (bad_member c low enough r) good =
      let same = (c.allowed.wanted).0 in absurd (omega arith)
  refused_within {room} {w = any} {input = input}
      (bad_member {k = k} {n = n} {slots = slots} {d = d} {srid = srid} {rest = rest} c low enough r) good =
      let high = c.opens.meaning.kind.high in
      let long = length-counts c in
      let inside = each_refused_within r (wanted_inside any room k d srid good c.allowed low high) in (
        omega arith,
        list_share (share (member_part k d) (room_inside k room)) (room + 5) (slots_asked k n (length rest)) slots
            (length rest) (length input) (grind (arith, nat_tests)) (grind (arith, nat_tests)) (omega arith) inside.1,
      )
  refused_within _ good = (omega arith, omega arith)

  pub each_refused_within : {room : ℕ} {w : Wanted} {n : ℕ} {input : List ℕ} {cause : Cause} {begun slots : ℕ}
      → RefusesEach room w n input cause begun slots → IsWanted w
      → (4 * begun ≤ length input + 4) × (9 * slots ≤ share w room * length input)
  each_refused_within (this_member r) good = let inside = refused_within r good in (omega arith, inside.1)
  each_refused_within {room} {w} {input = input} (later_member {slots = slots} {rest = rest} {t = t} f p r) good =
      let inside = each_refused_within r good in
      let long = front_long f in
      let most = listed_count-most t in (
        omega arith,
        own_share (share w room) (4 * member_count t + 5) (length rest) (length input) (listed_count t) slots
            (grind arith) (omega arith) inside.1 (omega arith),
      )

pub refusal_is_bounded_lem : RefusalIsBounded
refusal_is_bounded_lem input cause turns slots r = grind (arith, refused_within)
