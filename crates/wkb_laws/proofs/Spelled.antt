-- What is known to be spelled is so in full, and by how many bytes.
use Rattle.std.proofs.Common.{◌≡◌, ℕ, zero, suc, List, [], length, Ok, Err, sym, ap, subst, ◌∙◌, append-nil, arith}
use Rattle.std.proofs.Math.Logic.{∥∥₁_elim}
use Rattle.std.proofs.Props.{props}
use Rattle.std.specs.Coded.{Coded-set}
use Rattle.wkb_geom.specs.Stored.{item_code}
use Rattle.wkb_geom.specs.Reading as reading
use Rattle.wkb_laws.specs.Prelude.{Value, Values, no_members, member, nest, Spelling, Spellings, no_spellings, spelling}
use Rattle.wkb_laws.specs.Prelude.{Spells, SpellsEach, any, Reading, Item, geometry_at}
use Rattle.wkb_laws.specs.Encodings.{SpelledInFull, SizeOfSpelled}
use Rattle.wkb_laws.specs.Places.{first_spellings, first_values, first_size}
use Rattle.wkb_laws.proofs.Parts.{then_length}
use Rattle.wkb_laws.proofs.Lengths.{spelled_length}
use Rattle.wkb_laws.proofs.Heads.{IsRight}
use Rattle.wkb_laws.proofs.Sound.{geometry_says}
use Rattle.wkb_laws.proofs.Complete.{found, front_at}

-- what is read of bytes that spell this value spells it in full
full_by : (s : Spelling) (t : Value) (bytes : List ℕ) (r : Reading Item) → IsRight (nest t) any bytes r
    → ∥ Spells s t bytes ∥₁
    → (Spells s t bytes → r ≡ found s t bytes []) → Spells s t bytes
full_by s t bytes (cost, Ok x) right spelled read =
    let item : Item = record { encoding = bytes; spelled = s; value = t } in
    let same : x.0 ≡ item = ∥∥₁_elim spelled (Coded-set item_code x.0 item) (λ h.
    let answers : ◌≡◌ {A = reading.Outcome Item} (Ok x) (Ok (item, [])) = ap (λ z. z.1) (read h) in
    let one : ◌≡◌ {A = Item × List ℕ} x (item, []) = cc in
    ap (λ z. z.0) one) in
    subst (λ (i : Item). Spells i.spelled i.value i.encoding) same right.spelled
full_by s t bytes (cost, Err e) right spelled read = absurd (∥∥₁_elim spelled (hlevel props) (λ h.
    let answers : ◌≡◌ {A = reading.Outcome Item} (Err e)
    (Ok (record { encoding = bytes; spelled = s; value = t }, [])) = ap (λ z. z.1) (read h) in
    absurd cc))

pub in_full_lem : SpelledInFull
in_full_lem s t bytes spelled =
    full_by s t bytes (geometry_at (nest t) bytes) (geometry_says (nest t) bytes) spelled (λ h.
    ap (geometry_at (nest t)) (sym (append-nil bytes))
    ∙ front_at (nest t) any tt s t bytes [] h (omega arith) tt)

-- ---- by how many bytes

pub size_of_spelled_lem : SizeOfSpelled
size_of_spelled_lem s t bytes h = spelled_length s t bytes h

-- the bytes of the first k members
pub first_length : (k : ℕ) (ss : Spellings) (ts : Values) (x : List ℕ)
    → SpellsEach any (first_spellings k ss) (first_values k ts) x
    → length x ≡ first_size k ss ts
first_length zero ss ts x h = ap length h
first_length (suc k) no_spellings no_members x h = ap length h
first_length (suc k) (spelling s ss) (member t ts) x h =
    omega (arith, then_length h, size_of_spelled_lem s t h.front h.first.0, first_length k ss ts h.rest h.second)
first_length (suc k) _ _ x h = absurd h
