-- Points, line strings and rings: what an encoding that was cut after them says, and what they cost.
use Rattle.wkb_view.proofs.Prelude.{length-take, length-drop, number-take, member_layout, IsMemberOfKind, member_item}
use Rattle.wkb_view.proofs.Prelude.{Endianness, Dimension, Outcome, Reading, consumed, member_at, then_body, IsEncoding}
use Rattle.wkb_view.proofs.Prelude.{◌≡◌, zero, List, length, take, drop, Option, arith, Layout, number, head_at, Passed}
use Rattle.wkb_view.proofs.Prelude.{ℕ, suc, ◌+◌, ◌≤◌, [], ◌∷◌, Some, None, Ok, refl, sym, ap, ◌∙◌, Item}
use Rattle.wkb_geom.specs.Reading.{order_of_byte, head_by_order}
use Rattle.wkb_view.specs.Prelude.{ring_end, member_body}
use Rattle.wkb_view.specs.Members.{item_of, layout_said}
use Rattle.wkb_view.specs.Pieces.{IsRingPart}
use Rattle.wkb_view.proofs.Pieces.{drop-of-take}

-- a number within the encoding that was taken
pub number_within : (order : Endianness) (at end : ℕ) (bytes : List ℕ) → at + 4 ≤ end
    → number order 4 (drop at (take end bytes)) ≡ number order 4 (drop at bytes)
number_within order at end bytes h = grind (arith, number, drop-of-take, number-take)

by_order_same : (o : Option Endianness) (n : ℕ) (behind : List ℕ) → 4 ≤ n → n ≤ length behind
    → head_by_order o (take n behind) ≡ head_by_order o behind
by_order_same None n behind h le = refl
by_order_same (Some e) n behind h le = grind (arith, length-take, number-take e 4 n behind h)

-- a header reads no byte past its end
pub head-take : (n : ℕ) (bytes : List ℕ) → 5 ≤ n → n ≤ length bytes → head_at (take n bytes) ≡ head_at bytes
unfolding head_at
head-take zero bytes h le = absurd (omega arith)
head-take (suc n) [] h le = absurd (omega arith)
head-take (suc n) (b ∷ bytes) h le = by_order_same (order_of_byte b) n bytes (omega arith) (omega arith)

-- ---- what was passed, by the encoding that was taken

abbrev pub found : Item → List ℕ → Outcome Item
found i rest = Ok (i, rest)

pub passed_by : {P : List ℕ → Type 0} (least : ℕ) (bytes rest : List ℕ) (end : ℕ) → least ≤ end → end ≤ length bytes
    → rest ≡ drop end bytes
    → P (take end bytes) → Passed least P bytes rest
passed_by least bytes rest end enough le rest-is form = grind (arith, length-drop)

pub ring_passed : (order : Endianness) (d : Dimension) (bytes rest : List ℕ) (n end : ℕ) → n ≡ number order 4 bytes
    → end ≡ ring_end d n → end ≤ length bytes
    → rest ≡ drop end bytes → Passed 4 (IsRingPart order d) bytes rest
ring_passed order d bytes rest n end n-is end-is le rest-is =
    passed_by 4 bytes rest end (omega arith) le rest-is
    (grind (arith, length-take, number-take))

-- ---- members

-- the member is what follows its header
pub member_gives : (k : ℕ) (d : Dimension) (bytes : List ℕ) (l : Layout) (r : Reading Item)
    → member_layout k d bytes ≡ Ok l → member_body k l bytes ≡ r
    → member_at k d bytes ≡ r
member_gives k d bytes l r e is = ap (λ s. then_body bytes s (λ m. member_body k m bytes)) e ∙ is

-- a member that was read, as it was passed
pub member_passed : (k : ℕ) (d : Dimension) (bytes : List ℕ) (l : Layout) (x : Item) (rest : List ℕ)
    → member_layout k d bytes ≡ Ok l
    → Passed 9 (IsEncoding k l) bytes rest → x ≡ item_of k l (consumed bytes rest)
    → (x ≡ member_item k d (consumed bytes rest)) × Passed 9 (IsMemberOfKind k d) bytes rest
member_passed k d bytes l x rest e passed is = grind (arith, head-take)

-- a member is seen by its layout
pub member_seen : (k : ℕ) (d : Dimension) (encoding : List ℕ) (l : Layout) → member_layout k d encoding ≡ Ok l
    → item_of k l encoding ≡ member_item k d encoding
member_seen k d encoding l e = ap (λ r. item_of k (layout_said d r) encoding) (sym e)
