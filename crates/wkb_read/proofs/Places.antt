-- The bytes of the members of open collections.
use Rattle.wkb_read.proofs.Prelude.{collection_with, AllByRecursion, joined_encodings, IsCollectionIn, geometry_inside}
use Rattle.wkb_read.proofs.Prelude.{member_count, listed_count, append_assoc, length-append, length-drop, HoldsMembers}
use Rattle.wkb_read.proofs.Prelude.{collection, list_item, append-nil, body_start, parts_start, BytesSpell, max_nesting}
use Rattle.wkb_read.proofs.Prelude.{subst, slice_get, ∥∥₁_elim, consumed, spellings, AreMembers, IsMemberAt, IsFinished}
use Rattle.wkb_read.proofs.Prelude.{length, Option, props, Layout, number, Listed, Reading, HasHead, parts_in, BeginsAs}
use Rattle.wkb_read.proofs.Prelude.{Head, ◌≡◌, List, ◌++◌, take, drop, refl, arith, Values, Item, values, Counts, Whole}
use Rattle.wkb_read.proofs.Prelude.{ℕ, ◌+◌, ◌-◌, ◌≤◌, [], ◌∷◌, Ok, Err, sym, ap, ◌∙◌, Bor, any, Wkb, nest}
use Rattle.wkb_laws.specs.Prelude.{IsNumber, SpellsEach, count}
use Rattle.wkb_laws.proofs.Heads.{IsRight, item_is}
use Rattle.wkb_laws.proofs.Bodies.{parts_encoding}
use Rattle.wkb_laws.proofs.OneFront.{one_spelling}
use Rattle.wkb_laws.proofs.Parts.{drop_front}
use Rattle.wkb_laws.proofs.Sound.{geometry_says}
use Rattle.wkb_read.proofs.Bodies.{head_opens}
use Rattle.wkb_geom.specs.declared.code.WkbType.TheVariants as kinds

joined_encodings-append : (xs ys : List Item) → joined_encodings (xs ++ ys) ≡ joined_encodings xs ++ joined_encodings ys
joined_encodings-append [] ys = refl
joined_encodings-append (x ∷ xs) ys = grind (arith, append_assoc, joined_encodings-append xs ys)

-- with one member more, its bytes come after the others
pub one_more : (xs : List Item) (x : Item) (rest : List ℕ)
    → joined_encodings (xs ++ x ∷ []) ++ rest ≡ joined_encodings xs ++ (x.encoding ++ rest)
one_more xs x rest = grind (arith, append_assoc, append-nil, joined_encodings-append)

-- what is read of bytes are their first ones, and spell it
pub record PartRead (depth : ℕ) (bytes : List ℕ) (w : Item) (rest : List ℕ) : Type 0 where
  pub whole : bytes ≡ w.encoding ++ rest
  pub part : IsFinished depth w

read_by : (depth : ℕ) (bytes : List ℕ) (r : Reading Item) → IsRight (max_nesting - depth) any bytes r
    → (w : Item) (rest : List ℕ)
    → r.1 ≡ Ok (w, rest)
    → length rest + 9 ≤ length bytes
    → PartRead depth bytes w rest
read_by depth bytes (c, Ok x) h w rest e long =
    let same : x ≡ (w, rest) = cc in
    let left : length x.1 ≡ length rest = ap (λ (p : Item × List ℕ). length p.1) same in
    subst (λ (p : Item × List ℕ). PartRead depth bytes p.0 p.1) same
    (record {
      whole = h.whole;
      part =
          record {
            spelled = ∣ h.spelled ∣₁;
            long = omega (arith, ap length h.whole, length-append x.0.encoding x.1);
            shallow = h.shallow;
          };
    })
read_by depth bytes (c, Err f) h w rest e long = absurd cc

pub part_read : (w : Wkb) (rest : Bor (List ℕ)) (bytes : List ℕ) (depth : ℕ) (old new : Counts)
    → BeginsAs geometry_inside depth bytes (Ok (Whole w rest)) old new → PartRead depth bytes w rest.now
part_read w rest bytes depth old new b =
    read_by depth bytes (geometry_inside depth bytes) (geometry_says (max_nesting - depth) bytes) w rest.now
    (sym (ap (λ (x : Reading Item). x.1) b.0)) b.1

-- what comes before the rest is what was taken
pub front_taken : (n : ℕ) (bytes encoding rest : List ℕ) → n ≤ length bytes → encoding ≡ take n bytes
    → rest ≡ drop n bytes → encoding ≡ consumed bytes rest
front_taken n bytes encoding rest long encoding-is rest-is = grind (arith, length-drop)

-- ---- a collection that has all its members

each_together : (ms : List Item) → AllByRecursion BytesSpell ms
    → ∥ SpellsEach any (spellings ms) (values ms) (joined_encodings ms) ∥₁
each_together [] h = ∣ refl ∣₁
each_together (m ∷ ms) h = ∥∥₁_elim h.0 (hlevel props) (λ s. ∥∥₁_elim (each_together ms h.1) (hlevel props) (λ r.
    ∣ record { front = m.encoding; rest = joined_encodings ms; whole = refl; first = (s, tt); second = r } ∣₁))

count_values : (ms : List Item) → count (values ms) ≡ length ms
count_values [] = refl
count_values (m ∷ ms) = omega (arith, count_values ms)

-- what it is, and what comes after it
pub record Closed (l : Layout) (bytes : List ℕ) (members : List Item) (rest : List ℕ) : Type 0 where
  pub collection : IsCollectionIn l members (consumed bytes rest)
  pub whole : bytes ≡ consumed bytes rest ++ rest

pub closed : (l : Layout) (bytes : List ℕ) (members : List Item) (rest : List ℕ)
    → HasHead (λ d. kinds.GeometryCollection d) l bytes
    → number l.order 4 (drop (body_start l.has_srid) bytes) ≡ length members → body_start l.has_srid + 4 ≤ length bytes
    → parts_start l.has_srid bytes ≡ joined_encodings members ++ rest → AllByRecursion BytesSpell members
    → Closed l bytes members rest
closed l bytes members rest head counted long behind each =
    let start = body_start l.has_srid in
    let encoding = consumed bytes rest in
    let field = take 4 (drop start bytes) in
    let p = parts_encoding l bytes (joined_encodings members) rest long behind in
    let t = collection l.dimension (values members) in
    let h : Head = record { order = l.order; wkb_type = kinds.GeometryCollection l.dimension; has_srid = l.has_srid } in
    let spelled : BytesSpell (list_item l collection_with members encoding) =
    ∥∥₁_elim (each_together members each) (hlevel props) (λ all.
    ∣ (item_is (nest t) any bytes encoding rest l [] (spellings members) t field (joined_encodings members)
    (record { turns = member_count t; slots = listed_count t })
    (head_opens bytes h head) tt p.whole p.long p.body
    (refl, subst (λ k. IsNumber l.order 4 k field) (counted ∙ sym (count_values members)) p.number)
    all (omega arith) refl refl).spelled ∣₁) in
    let holds : HoldsMembers l.has_srid encoding members =
    grind (arith, length-drop, length-append, drop_front) in
    record { collection = (holds, spelled); whole = p.whole }

-- ---- the members of a collection that was read

pub are_members : (whole : Listed Values) (found : List Item) (l : Layout) (members : List Item) (encoding : List ℕ)
    → parts_in l members encoding ≡ whole → found ≡ members → HoldsMembers l.has_srid encoding members
    → AreMembers whole found
are_members whole found l members encoding is same h = grind arith

-- members with the same bytes, spellings and values are the same
same_members : (xs ys : List Item) → AllByRecursion BytesSpell xs → AllByRecursion BytesSpell ys
    → spellings xs ≡ spellings ys → values xs ≡ values ys
    → joined_encodings xs ≡ joined_encodings ys → xs ≡ ys
same_members [] [] a b s v t = refl
same_members [] (y ∷ ys) a b s v t = absurd cc
same_members (x ∷ xs) [] a b s v t = absurd cc
same_members (x ∷ xs) (y ∷ ys) a b s v t =
    let spelled : x.spelled ≡ y.spelled = cc in
    let value : x.value ≡ y.value = cc in
    let both : (x.encoding ≡ y.encoding) × (joined_encodings xs ≡ joined_encodings ys) =
    ∥∥₁_elim a.0 (hlevel props) (λ p. ∥∥₁_elim b.0 (hlevel props) (λ q.
    let one =
    one_spelling x.spelled y.spelled x.value y.value x.encoding y.encoding (joined_encodings xs)
    (joined_encodings ys) p q t in
    (one.encoding, one.rest))) in
    let more : xs ≡ ys = same_members xs ys a.1 b.1 (cc) (cc) both.1 in
    let item : x ≡ y = rw (both.0, spelled, value) refl in
    rw (item, more) refl

-- so a collection has one list of members, and one of each number
pub is_member_at : (whole : Listed Values) (members : List Item) (i : ℕ) (found : Option Item)
    → AreMembers whole members → found ≡ slice_get members i
    → IsMemberAt whole i found
is_member_at whole members i found a e = grind (arith, same_members)
