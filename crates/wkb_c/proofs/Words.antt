-- Where the parts of a geometry are in its bytes, and what is there.
use Rattle.wkb_abi.proofs.Common.{◌≡◌, ℕ, suc, ◌+◌, ◌*◌, List, [], ◌∷◌, length, drop, Some, refl, ap, ◌∙◌, arith}
use Rattle.wkb_abi.proofs.Common.{drop-drop, slice_get, width, number, Spelling, node, Spellings, no_spellings}
use Rattle.wkb_abi.proofs.Common.{spelling, Spells, Wanted, SpellsEach, Coordinate, Value, Values, no_members, member}
use Rattle.wkb_abi.proofs.Common.{members, member_count, member_count_each, length-append, dimension, Subject, subjects}
use Rattle.wkb_abi.proofs.Common.{subjects_of_each, Piece, false}
use Rattle.wkb_laws.specs.Prelude.{Begins, coordinate, coordinates}
use Rattle.wkb_laws.proofs.Bounds.{ring_count, member_count-members}
use Rattle.wkb_laws.proofs.Lengths.{coordinates_length}
use Rattle.wkb_laws.proofs.Parts.{item_at}
use Rattle.wkb_check.specs.Prelude.{own_end, piece_at, whole, ring, order_in, SpellsSubject, rings_of}
use Rattle.std.specs.Prelude.{Bool, true, if◌then◌else◌}
use Rattle.wkb_abi.specs.Tables.{entry_of, entry_at, entries_from, geometry_entries}
use Rattle.wkb_check.proofs.Placing.{spelled_end, rings_many}
use Rattle.wkb_abi.proofs.Entries.{as_many_entries}
use Rattle.wkb_check.proofs.Subjects.{Stands, ArePlaced, all_placed, IsPieceOf, says}
use Rattle.wkb_abi.specs.Subjects.{HoldsSubject, HoldEach}

-- ---- words

-- word n of coordinate i of a piece is where the piece says
word_read : (input : List ℕ) (p : Piece) (has : Bool) (i n w : ℕ) (c : Coordinate)
    → slice_get (if has then coordinates p.order p.dimension p.count (drop p.offset input) else []) i ≡ Some c
    → slice_get c n ≡ Some w → number p.order 8 (drop (p.offset + 8 * (width p.dimension * i + n)) input) ≡ w
word_read input p true i n w c this that =
    let size = 8 * width p.dimension in
    let x = drop p.offset input in
    let found = item_at size (coordinate p.order p.dimension) p.count i x c this in
    let word_is =
    item_at 8 (number p.order 8) (width p.dimension) n (drop (size * i) x) w (ap (λ z. slice_get z n) found ∙ that) in
    let at : p.offset + 8 * (width p.dimension * i + n) ≡ p.offset + (size * i + 8 * n) = omega arith in
    grind (arith, number, drop-drop)
word_read input p false i n w c this that = absurd (cc)

-- the entry of a piece holds its subject
piece_holds : {input : List ℕ} {p : Piece} {x : Subject} {bytes rest : List ℕ} (end next : ℕ) → IsPieceOf input p x
    → p.order ≡ order_in x → Stands input p.begin bytes rest → SpellsSubject x bytes → end ≡ p.begin + length bytes
    → HoldsSubject input (entry_of p end next) x
piece_holds end next is order_is stands spell end_is = grind (arith, word_read)

placed_holds : {input : List ℕ} {at : ℕ} {bytes rest : List ℕ} (index : ℕ) (x : Subject)
    → Stands input at bytes rest → SpellsSubject x bytes → HoldsSubject input (entry_at index at x) x
placed_holds {at = at} {bytes} index (whole (node h words ss) t) stands sp =
    piece_holds _ _ (says (whole (node h words ss) t) stands sp) refl stands sp
    (spelled_end at (node h words ss) t bytes sp)
placed_holds {bytes = bytes} index (ring order d cs) stands sp =
    piece_holds _ _ (says (ring order d cs) stands sp) refl stands sp
    (omega (arith, coordinates_length order d cs bytes sp))

each_holds : (input : List ℕ) (index at : ℕ) (xs : List Subject) → ArePlaced input at xs
    → HoldEach input (entries_from index at xs) xs
each_holds input index at [] f = tt
each_holds input index at (x ∷ xs) f =
    (placed_holds index x f.0.stands f.0.spell, each_holds input (index + 1) (own_end (piece_at at x)) xs f.1)

-- the entries of the geometry at the start of an input
pub holds : {input : List ℕ} (s : Spelling) (t : Value) {rest : List ℕ} → Begins (Spells s t) input rest
    → HoldEach input (geometry_entries 0 0 s t) (subjects s t)
holds {input} s t g = each_holds input 0 0 (subjects s t) (all_placed input 0 s t g)

-- ---- how many parts there are

rings_counted : (t : Value) → ring_count t ≡ length (rings_of t)
rings_counted t = grind arith

mutual
  pub counted : (s : Spelling) (t : Value) (bytes : List ℕ) → Spells s t bytes
      → length (subjects s t) ≡ suc (member_count t)
  counted (node h words ss) t bytes sp =
      let each = members_counted _ ss (members t) sp.second.rest sp.second.second in
      let rings = rings_many h.order (dimension t) (rings_of t) in
      omega (arith, member_count-members t, rings_counted t, length-append {A = Subject})

  members_counted : (w : Wanted) (ss : Spellings) (ts : Values) (bytes : List ℕ) → SpellsEach w ss ts bytes
      → length (subjects_of_each ss ts) ≡ member_count_each ts
  members_counted w no_spellings no_members bytes sp = refl
  members_counted w (spelling s ss) (member t ts) bytes sp =
      grind (arith, length-append, counted s t sp.front sp.first.0, members_counted w ss ts sp.rest sp.second)
  members_counted w _ _ bytes sp = absurd sp

pub entries_many : (s : Spelling) (t : Value) (bytes : List ℕ) → Spells s t bytes
    → length (geometry_entries 0 0 s t) ≡ suc (member_count t)
entries_many s t bytes sp = as_many_entries 0 0 (subjects s t) ∙ counted s t bytes sp
