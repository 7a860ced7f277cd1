-- A spelling and a value leave no byte open.
use Rattle.std.proofs.Common.{◌≡◌, ℕ, zero, suc, ◌+◌, ◌*◌, ◌^◌, ◌<◌, List, [], ◌∷◌, ◌++◌, length, Option, Some, None}
use Rattle.std.proofs.Common.{refl, sym, ap, subst, ◌∙◌, arith, ◌/◌}
use Rattle.std.proofs.lemmas.Nat.{div-mul-add}
use Rattle.byteorder.specs.Endian.{big_from, little_from}
use Rattle.byteorder.specs.Numbers.{big_from-cons, little_from-cons, big_from-lt}
use Rattle.wkb_laws.specs.Prelude.{Endianness, Dimension, AreBytes, IsNumber, number, Then}
use Rattle.wkb_laws.specs.Prelude.{IsEach, IsCounted, Coordinate, Value, Values, point, line_string, polygon}
use Rattle.wkb_laws.specs.Prelude.{no_members, member, kind, dimension, members, Header, Spelling, node, Spellings}
use Rattle.wkb_laws.specs.Prelude.{no_spellings, spelling, IsHeader, IsSrid, SpellsCoordinate, SpellsCoordinates}
use Rattle.wkb_laws.specs.Prelude.{SpellsBody, Wanted, member_part, Spells, SpellsEach}
use Rattle.wkb_laws.specs.Places.{HasOneEncoding, HaveOneEncoding, CoordinateHasOneEncoding}
use Rattle.wkb_laws.proofs.Values.{AreBytes-front, AreBytes-rest}

-- two encodings of a form are one
pub record Fixed (P : List ℕ → Type 0) : Type 0 where
  pub same : (x y : List ℕ) → P x → P y → AreBytes x → AreBytes y → x ≡ y

big_fixed : (n : ℕ) (x y : List ℕ) → length x ≡ n → length y ≡ n → big_from 0 n x ≡ big_from 0 n y → AreBytes x
    → AreBytes y → x ≡ y
big_fixed zero [] [] l m e h k = refl
big_fixed (suc n) (a ∷ x) (b ∷ y) l m e h k =
    let p = 256 ^ n in
    let sum : a * p + big_from 0 n x ≡ b * p + big_from 0 n y =
    ap (λ (r : ℕ). a * p + r) (sym (big_from-cons 0 n a x)) ∙ e ∙ ap (λ (r : ℕ). b * p + r) (big_from-cons 0 n b y) in
    let digit : a ≡ b =
    sym (div-mul-add a p _ (big_from-lt 0 n x (λ i. h (suc i)))) ∙ ap (λ (z : ℕ). z / p) sum
    ∙ div-mul-add b p _ (big_from-lt 0 n y (λ i. k (suc i))) in
    let tail : x ≡ y =
    big_fixed n x y (omega arith) (omega arith) (omega (arith, sum, ap (λ (z : ℕ). z * p) digit)) (λ i. h (suc i))
    (λ i. k (suc i)) in
    rw (digit, tail) refl
big_fixed _ _ _ l m e h k = absurd (omega arith)

little_fixed : (n : ℕ) (x y : List ℕ) → length x ≡ n → length y ≡ n → little_from 0 n x ≡ little_from 0 n y → AreBytes x
    → AreBytes y → x ≡ y
little_fixed zero [] [] l m e h k = refl
little_fixed (suc n) (a ∷ x) (b ∷ y) l m e h k =
    let small : a < 256 = h 0 in
    let small' : b < 256 = k 0 in
    let sum : a + 256 * little_from 0 n x ≡ b + 256 * little_from 0 n y =
    ap (λ (r : ℕ). a + 256 * r) (sym (little_from-cons 0 n a x)) ∙ e
    ∙ ap (λ (r : ℕ). b + 256 * r) (little_from-cons 0 n b y) in
    let digit : a ≡ b = omega (arith, small, small', sum) in
    let tail : x ≡ y =
    little_fixed n x y (omega arith) (omega arith) (omega (arith, small, small', sum)) (λ i. h (suc i))
    (λ i. k (suc i)) in
    rw (digit, tail) refl
little_fixed _ _ _ l m e h k = absurd (omega arith)

pub number_fixed : (order : Endianness) (n v : ℕ) → Fixed (IsNumber order n v)
unfolding number
number_fixed order n v = grind (arith, big_fixed, little_fixed)

together : {P Q : List ℕ → Type 0} → Fixed P → Fixed Q → (a b c d : List ℕ) → P a → P b → Q c → Q d → AreBytes (a ++ c)
    → AreBytes (b ++ d) → a ++ c ≡ b ++ d
together one other a b c d p q r s h k =
    let first : a ≡ b = one.same a b p q (AreBytes-front a c h) (AreBytes-front b d k) in
    let second : c ≡ d = other.same c d r s (AreBytes-rest a c h) (AreBytes-rest b d k) in
    cc

then_fixed : {P Q : List ℕ → Type 0} → Fixed P → Fixed Q → Fixed (Then P Q)
then_fixed one other = grind (arith, together)

each_fixed : {A : Type 0} {P : A → List ℕ → Type 0} → ((a : A) → Fixed (P a)) → (l : List A) → Fixed (IsEach P l)
each_fixed one [] = record { same = λ x y a b h k. a ∙ sym b }
each_fixed one (v ∷ l) = then_fixed (one v) (each_fixed one l)

counted_fixed : {A : Type 0} {P : A → List ℕ → Type 0} (order : Endianness) → ((a : A) → Fixed (P a)) → (l : List A)
    → Fixed (IsCounted order P l)
counted_fixed order one l = then_fixed (number_fixed order 4 (length l)) (each_fixed one l)

coordinate_fixed : (order : Endianness) (d : Dimension) (c : Coordinate) → Fixed (SpellsCoordinate order d c)
coordinate_fixed order d c =
    record { same = λ x y a b h k. (each_fixed (number_fixed order 8) c).same x y a.words b.words h k }

pub coordinates_fixed : (order : Endianness) (d : Dimension) (cs : List Coordinate)
    → Fixed (SpellsCoordinates order d cs)
coordinates_fixed order d = counted_fixed order (coordinate_fixed order d)

srid_fixed : (order : Endianness) (o : Option ℕ) → Fixed (IsSrid order o)
srid_fixed order None = record { same = λ x y a b h k. a ∙ sym b }
srid_fixed order (Some v) = number_fixed order 4 v

header_fixed : (g : Header) (n : ℕ) (d : Dimension) → Fixed (IsHeader g n d)
header_fixed g n d = record {
  same = λ x y a b h k.
      let h' : AreBytes (a.code_field ++ a.srid_field) = λ i. subst AreBytes a.whole h (suc i) in
      let k' : AreBytes (b.code_field ++ b.srid_field) = λ i. subst AreBytes b.whole k (suc i) in
      let fields = together (number_fixed g.order 4 g.code) (srid_fixed g.order g.srid) a.code_field b.code_field
      a.srid_field b.srid_field a.code b.code a.srid b.srid h' k' in
      rw (a.whole, b.whole, fields);
}

-- what follows another fact, where that says nothing of the bytes
beside : {F : Type 0} {P : List ℕ → Type 0} → Fixed P → Fixed (λ x. F × P x)
beside one = record { same = λ x y a b h k. one.same x y a.1 b.1 h k }

body_fixed : (order : Endianness) (words : List ℕ) (t : Value) → Fixed (SpellsBody order words t)
body_fixed order words (point d None) = beside (coordinate_fixed order d words)
body_fixed order words (point d (Some c)) =
    record { same = λ x y a b h k. (coordinate_fixed order d c).same x y a.2 b.2 h k }
body_fixed order words (line_string d cs) = beside (coordinates_fixed order d cs)
body_fixed order words (polygon d rings) = beside (counted_fixed order (coordinates_fixed order d) rings)
body_fixed order words _ = beside (number_fixed order 4 _)

mutual
  pub spells_fixed : (s : Spelling) (t : Value) → Fixed (Spells s t)
  spells_fixed (node g words ss) t =
      then_fixed (header_fixed g (kind t) (dimension t))
      (then_fixed (body_fixed g.order words t) (members_fixed (member_part (kind t) (dimension t)) ss (members t)))

  members_fixed : (w : Wanted) (ss : Spellings) (ts : Values) → Fixed (SpellsEach w ss ts)
  members_fixed w no_spellings no_members = record { same = λ x y a b h k. a ∙ sym b }
  members_fixed w (spelling s ss) (member t ts) =
      then_fixed (record { same = λ x y a b h k. (spells_fixed s t).same x y a.0 b.0 h k }) (members_fixed w ss ts)
  members_fixed w _ _ = record { same = λ x y a b h k. absurd a }

pub one_encoding_lem : HasOneEncoding
one_encoding_lem s t x y bytes bytes' h k = (spells_fixed s t).same x y h k bytes bytes'

pub coordinates_lem : HaveOneEncoding
coordinates_lem order d cs x y bytes bytes' h k = (coordinates_fixed order d cs).same x y h k bytes bytes'

pub coordinate_lem : CoordinateHasOneEncoding
coordinate_lem order d c x y bytes bytes' h k = (coordinate_fixed order d c).same x y h k bytes bytes'
