-- The front of a list, what is read there, and what comes before a body.
use Rattle.std.proofs.Common.{slice_get, Some, drop-drop, ◌≡◌, ℕ, zero, suc, ◌+◌, ◌*◌, ◌≤◌, List, [], ◌∷◌, ◌++◌}
use Rattle.std.proofs.Common.{append_assoc, length, take, drop, refl, sym, ap, ◌∙◌, subst, arith, length-drop}
use Rattle.std.proofs.Common.{length-append, take-append-drop, length-take-le, take-add, Bool, is_some, ◌-◌}
use Rattle.std.proofs.Math.Seq.{take-append_seam, drop-append_seam}
use Rattle.byteorder.specs.Numbers.{big_from-append, little_from-append}
use Rattle.wkb_laws.specs.Prelude.{Then, Endianness, BigEndian, LittleEndian, IsNumber, number, IsEach, Begins}
use Rattle.wkb_laws.specs.Prelude.{Dimension, Header, IsHeader, srid_size, Opens, Coordinate, SpellsCoordinate}
use Rattle.wkb_laws.specs.Prelude.{coordinate, consumed}
use Rattle.wkb_geom.proofs.Items.{number-take}
pub use Rattle.wkb_geom.specs.Reading.{items}

-- how long an encoding of two parts is, and what it is in front of others
pub then_length : {P Q : List ℕ → Type 0} {x : List ℕ} (a : Then P Q x) → length x ≡ length a.front + length a.rest
then_length a = ap length a.whole ∙ length-append a.front a.rest

pub then_append : {P Q : List ℕ → Type 0} {x : List ℕ} (a : Then P Q x) (y : List ℕ) → x ++ y ≡ a.front ++ (a.rest ++ y)
then_append a y = ap (λ z. z ++ y) a.whole ∙ append_assoc a.front a.rest y

-- an encoding and another one after it
pub joined : {P Q : List ℕ → Type 0} (x y : List ℕ) → P x → Q y → Then P Q (x ++ y)
joined x y p q = record { front = x; rest = y; whole = refl; first = p; second = q }

pub take_front : (n : ℕ) (x y : List ℕ) → length x ≡ n → take n (x ++ y) ≡ x
take_front n x y e = subst (λ k. take k (x ++ y) ≡ x) e (take-append_seam x y)

pub drop_front : (n : ℕ) (x y : List ℕ) → length x ≡ n → drop n (x ++ y) ≡ y
drop_front n x y e = subst (λ k. drop k (x ++ y) ≡ y) e (drop-append_seam x y)

-- what comes before the rest is what was consumed
pub taken_front : (x rest : List ℕ) → consumed (x ++ rest) rest ≡ x
taken_front x rest = take_front (length (x ++ rest) - length rest) x rest (omega (arith, length-append x rest))

-- a number is read off the first bytes
pub number-more : (order : Endianness) (n : ℕ) (x y : List ℕ) → n ≤ length x
    → number order n (x ++ y) ≡ number order n x
unfolding number
number-more BigEndian n x y h = big_from-append n x y h
number-more LittleEndian n x y h = little_from-append n x y h

pub number-front : (order : Endianness) (n v : ℕ) (x y : List ℕ) → IsNumber order n v x → number order n (x ++ y) ≡ v
number-front order n v x y h = number-more order n x y (omega (arith, h.len)) ∙ h.value

-- the first n bytes are the field of the number that is read off them
pub field_taken : (order : Endianness) (n : ℕ) (y : List ℕ) → n ≤ length y
    → IsNumber order n (number order n y) (take n y)
field_taken order n y h = record { len = length-take-le n y h; value = number-take order n n y (omega arith) }

-- where an input begins with a field, the number and the rest
pub begins_number : (order : Endianness) (n v : ℕ) (input rest : List ℕ) → Begins (IsNumber order n v) input rest
    → (n ≤ length input) × (number order n input ≡ v) × (drop n input ≡ rest)
begins_number order n v input rest b = grind (arith, length-append, number-front, drop_front)

pub number_begins : (order : Endianness) (n : ℕ) (input : List ℕ) → n ≤ length input
    → Begins (IsNumber order n (number order n input)) input (drop n input)
number_begins order n input h =
    record { front = take n input; whole = sym (take-append-drop n input); first = field_taken order n input h }

-- Where each item is read off its bytes, so are n of them.
pub items_are : {A : Type 0} (P : A → List ℕ → Type 0) (size : ℕ) (item : List ℕ → A)
    → ((y : List ℕ) → size ≤ length y → P (item y) (take size y))
    → (n : ℕ) (y : List ℕ) → size * n ≤ length y → IsEach P (items size item n y) (take (size * n) y)
items_are P size item one zero y h = let e : size * 0 ≡ 0 = omega arith in rw e refl
items_are P size item one (suc n) y h =
    grind (arith, take-add, length-drop, items_are P size item one n (drop size y) (omega (arith, length-drop size y)))

-- as many bytes an item
pub each_len : {A : Type 0} (P : A → List ℕ → Type 0) (size : ℕ) → ((a : A) (x : List ℕ) → P a x → length x ≡ size)
    → (l : List A) (x : List ℕ) → IsEach P l x
    → length x ≡ size * length l
each_len P size one [] x h = omega (arith, ap length h)
each_len P size one (a ∷ l) x h =
    omega (arith, then_length h, one a h.front h.first, each_len P size one l h.rest h.second)

-- Where each item is what is read at the start of its bytes, so are n of them.
pub items_read : {A : Type 0} (P : A → List ℕ → Type 0) (size : ℕ) (item : List ℕ → A)
    → ((a : A) (x y : List ℕ) → P a x → (length x ≡ size) × (item (x ++ y) ≡ a))
    → (l : List A) (x y : List ℕ) → IsEach P l x → items size item (length l) (x ++ y) ≡ l
items_read P size item one [] x y h = refl
items_read P size item one (a ∷ l) x y h =
    let first = one a h.front (h.rest ++ y) h.first in
    let others = items_read P size item one l h.rest y h.second in
    rw (then_append h y, first.1, drop_front size h.front (h.rest ++ y) first.0, others)

-- a coordinate at the start of the bytes
pub coordinate_read : (order : Endianness) (d : Dimension) (c : Coordinate) (x y : List ℕ)
    → SpellsCoordinate order d c x → coordinate order d (x ++ y) ≡ c
coordinate_read order d c x y h = grind (arith, items_read, number-front)

-- one of the items, by its number
pub item_at : {A : Type 0} (size : ℕ) (item : List ℕ → A) (n i : ℕ) (y : List ℕ) (a : A)
    → slice_get (items size item n y) i ≡ Some a
    → item (drop (size * i) y) ≡ a
item_at size item zero i y a is = absurd (cc)
item_at size item (suc n) zero y a is = grind arith
item_at size item (suc n) (suc i) y a is = grind (arith, drop-drop, item_at size item n i (drop size y) a is)

pub length-opens : {input rest : List ℕ} {order : Endianness} {k : ℕ} {d : Dimension} {srid : Bool}
    → Opens input order k d srid rest
    → length input ≡ 5 + length rest
length-opens {input} {rest} o = grind (arith, length-append)

pub header_length : (h : Header) (k : ℕ) (d : Dimension) (front : List ℕ) → IsHeader h k d front
    → length front ≡ 5 + srid_size (is_some h.srid)
header_length h k d front is = grind (arith, length-append)
