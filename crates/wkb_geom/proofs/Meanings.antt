-- What codes stand for: the number is taken apart flag by flag, and what is read is the one meaning.
use Rattle.std.proofs.Common.{◌≡◌, ◌⊎◌, ℕ, ◌+◌, ◌*◌, ◌/◌, ◌%◌, ◌<◌, ◌≤◌, Option, Some, None, Bool, true, false, sym, ap}
use Rattle.std.proofs.Common.{subst, arith, nat_le, ◌||◌, if◌then◌else◌}
use Rattle.std.proofs.lemmas.Bool.Decides.{nat_tests}
use Rattle.wkb_geom.specs.declared.{common.Dimension.Dimension, code.WkbType.WkbType}
use Rattle.wkb_geom.specs.Dimensions.{has_z, has_m}
use Rattle.wkb_geom.specs.Codes.{Code, flag, thousands, dimension_of_thousands, z_flag, m_flag, srid_flag}
use Rattle.wkb_geom.specs.Reading.{Meaning, type_kind, type_dimension, meaning_of, meaning_with, without, in_table}
use Rattle.wkb_geom.specs.Reading.{type_of, dimension_with, iso_dimension}
use Rattle.wkb_geom.specs.Meanings.{HasNoMeaning, has_srid_flag}
use Rattle.wkb_geom.proofs.Codes.{bit, flag-bit, bit-most, thousands-most}

-- thousands for the dimension and a kind
abbrev IsIso : ℕ → Dimension → ℕ → Type 0
IsIso n d k = (1 ≤ k) × (k ≤ 7) × (n ≡ 1000 * thousands d + k)

set_or_below : (b : Bool) (rest worth : ℕ) → (b ≡ false → rest < worth) → (bit b ≡ 1) ⊎ (rest < worth)
set_or_below b rest worth h = grind arith

-- what is left once the flags are taken is what a code has below its flags
below_flags : (c z m s z' m' s' a b n rest : ℕ) → c ≡ z * 0x80000000 + a → (z ≡ 1) ⊎ (a < 0x80000000)
    → a ≡ m * 0x40000000 + b → (m ≡ 1) ⊎ (b < 0x40000000)
    → b ≡ s * 0x20000000 + n → (s ≡ 1) ⊎ (n < 0x20000000) → z' ≤ 1 → m' ≤ 1 → s' ≤ 1
    → z ≤ 1 → m ≤ 1 → s ≤ 1 → rest < 4000
    → c ≡ z' * 0x80000000 + m' * 0x40000000 + s' * 0x20000000 + rest → n ≡ rest
below_flags c z m s z' m' s' a b n rest ea la eb lb en ln hz hm hs iz im is small e = grind arith

code_is : (c k : ℕ) (d : Dimension) (z m s : Bool) (a b n : ℕ) (iso : Dimension) → has_z d ≡ (z || has_z iso)
    → has_m d ≡ (m || has_m iso)
    → c ≡ flag z 0x80000000 + a → a ≡ flag m 0x40000000 + b → b ≡ flag s 0x20000000 + n → IsIso n iso k → Code c k d s
code_is c k d z m s a b n iso dz dm ea eb en h = grind arith

no_meaning : (c : ℕ) (z m s : Bool) (a b n : ℕ) → c ≡ flag z 0x80000000 + a → (z ≡ false → a < 0x80000000)
    → a ≡ flag m 0x40000000 + b → (m ≡ false → b < 0x40000000) → b ≡ flag s 0x20000000 + n
    → (s ≡ false → n < 0x20000000)
    → ((d : Dimension) (k : ℕ) → IsIso n d k → ⊥) → HasNoMeaning c
no_meaning c z m s a b n ea la eb lb en ln none k d srid code =
    let most = thousands-most code.iso in
    let rest = 1000 * thousands code.iso + k in
    let flags = below_flags c (bit z) (bit m) (bit s) (bit code.z) (bit code.m) (bit srid) a b n rest in
    let same : n ≡ rest = grind (arith, flags, flag-bit, set_or_below, bit-most) in
    none code.iso k (code.kind.low, code.kind.high, same)

if_holds : {A : Type 0} (Q : A → Type 0) (b : Bool) (x y : A) → (b ≡ true → Q x) → (b ≡ false → Q y)
    → Q (if b then x else y)
if_holds Q b x y f g = grind arith

pub type_kind-type_of : (k : ℕ) (d : Dimension) → 1 ≤ k → k ≤ 7
    → (type_kind (type_of k d) ≡ k) × (type_dimension (type_of k d) ≡ d)
type_kind-type_of k d low high = grind arith

-- a flag that was taken from a code, and what is left of it
without_flag : (c worth : ℕ)
    → (c ≡ flag (nat_le worth c) worth + without c worth) × (nat_le worth c ≡ false → without c worth < worth)
without_flag c worth = grind (arith, nat_tests)

has_z-with : (z m : Bool) → has_z (dimension_with z m) ≡ z
has_z-with z m = grind arith

has_m-with : (z m : Bool) → has_m (dimension_with z m) ≡ m
has_m-with z m = grind arith

thousands-iso : (q : ℕ) → q < 4 → thousands (iso_dimension q) ≡ q
thousands-iso q h = grind arith

abbrev meant : ℕ → Meaning
meant c =
    let a = without c z_flag in
    let b = without a m_flag in
    meaning_with (nat_le z_flag c) (nat_le m_flag a) (nat_le srid_flag b) (without b srid_flag)

abbrev is_in_table : ℕ → Bool
is_in_table c = in_table (without (without (without c z_flag) m_flag) srid_flag)

in_table_holds : (c : ℕ) → is_in_table c ≡ true
    → Code c (type_kind (meant c).wkb_type) (type_dimension (meant c).wkb_type) (meant c).has_srid
in_table_holds c table =
    grind (arith, nat_tests, without_flag, code_is, type_kind-type_of, has_z-with, has_m-with, thousands-iso)

none_outside : (c : ℕ) → is_in_table c ≡ false → HasNoMeaning c
none_outside c outside =
    let z = without_flag c z_flag in
    let m = without_flag (without c z_flag) m_flag in
    let s = without_flag (without (without c z_flag) m_flag) srid_flag in
    no_meaning c _ _ _ _ _ _ z.0 z.1 m.0 m.1 s.0 s.1 (λ d k is. grind (arith, nat_tests, thousands-most))

-- what a code stands for is what it is read as
pub meaning_holds : (Q : Option Meaning → Type 0) (c : ℕ)
    → ((m : Meaning) → Code c (type_kind m.wkb_type) (type_dimension m.wkb_type) m.has_srid → Q (Some m))
    → (HasNoMeaning c → Q None) → Q (meaning_of c)
unfolding meaning_of
meaning_holds Q c some none =
    if_holds Q (is_in_table c) _ _ (λ table. some (meant c) (in_table_holds c table))
    (λ outside. none (none_outside c outside))

meaning_by : (c : ℕ) {b : Bool} → b ≡ is_in_table c → meaning_of c ≡ (if b then Some (meant c) else None)
unfolding meaning_of
meaning_by c table = ap (λ (x : Bool). if x then Some (meant c) else None) (sym table)

iso_of_thousands : (q : ℕ) (d : Dimension) → Some d ≡ dimension_of_thousands q → d ≡ iso_dimension q
iso_of_thousands q d e = grind (arith, nat_tests)

-- the meaning, from the steps that find it
pub meaning_is : (c a b n : ℕ) (iso d : Dimension) (t : WkbType)
    → a ≡ without c z_flag → b ≡ without a m_flag → n ≡ without b srid_flag → true ≡ in_table n
    → Some iso ≡ dimension_of_thousands (n / 1000)
    → d ≡ dimension_with (nat_le z_flag c || has_z iso) (nat_le m_flag a || has_m iso) → t ≡ type_of (n % 1000) d
    → meaning_of c ≡ Some (record { wkb_type = t; has_srid = has_srid_flag c })
meaning_is c a b n iso d t a-is b-is n-is table iso-is d-is t-is =
    rw (t-is, d-is, iso_of_thousands (n / 1000) iso iso-is, n-is, b-is, a-is)
    (meaning_by c (rw (n-is, b-is, a-is) at table))

pub meaning_is_none : (c a b n : ℕ) → a ≡ without c z_flag → b ≡ without a m_flag → n ≡ without b srid_flag
    → false ≡ in_table n → meaning_of c ≡ None
meaning_is_none c a b n a-is b-is n-is table = meaning_by c (rw (n-is, b-is, a-is) at table)

-- what is read is a meaning
pub code_of_meaning : (c : ℕ) (m : Meaning) → meaning_of c ≡ Some m
    → Code c (type_kind m.wkb_type) (type_dimension m.wkb_type) m.has_srid
code_of_meaning c =
    meaning_holds
    (λ o. (m : Meaning) → o ≡ Some m → Code c (type_kind m.wkb_type) (type_dimension m.wkb_type) m.has_srid) c
    (λ n code m e. let same : n ≡ m = cc in
    subst (λ x. Code c (type_kind x.wkb_type) (type_dimension x.wkb_type) x.has_srid) same code)
    (λ none m e. cc)

-- nothing is read where there is none
pub no_code_without_meaning : (c : ℕ) → meaning_of c ≡ None → HasNoMeaning c
no_code_without_meaning c = meaning_holds (λ o. o ≡ None → HasNoMeaning c) c (λ n code e. cc) (λ none e. none)
