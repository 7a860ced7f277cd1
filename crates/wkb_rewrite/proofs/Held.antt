-- Bytes that hold words.
use Rattle.std.proofs.Common.{◌≡◌, ℕ, zero, suc, ◌+◌, ◌*◌, ◌^◌, ◌≤◌, ◌<◌, List, [], ◌∷◌, ◌++◌, length, take, drop, refl}
use Rattle.std.proofs.Common.{sym, ap, ◌∙◌, subst, arith, length-drop, take-append-drop, take-add, Bool, true, false}
use Rattle.std.proofs.Common.{◌-◌, ◌/◌, ◌↔◌, ◌≢◌, if◌then◌else◌, get_or, IsTrue, replicate}
use Rattle.std.proofs.lemmas.List.{length-replicate, drop_more, drop_all, take_all, take_more_same, ext_get_or}
use denote.Enum.Bare.{sameb}
use Rattle.std.proofs.lemmas.Bool.Decides.{nat_tests}
use Rattle.std.specs.Str.{bytes_eq}
use Rattle.std.proofs.lemmas.Slice.Eq.{bytes_eq-Decides}
use Rattle.wkb_geom.specs.contracts.common.Endianness.{the_type}
use Rattle.std.proofs.lemmas.Option.{get_or_from_slice_get}
use Rattle.wkb_laws.specs.Prelude.{Endianness, AreBytes, length-items, empty_word, items}
unfoldable use Rattle.wkb_laws.specs.Prelude.{number, number_bytes, words_encoding}
use Rattle.wkb_laws.proofs.Parts.{field_taken}
use Rattle.wkb_sink.proofs.Turned.{words_length, word_at}
use Rattle.wkb_laws.proofs.Values.{AreBytes-front, AreBytes-rest, number-lt}
use Rattle.wkb_laws.proofs.EncodingBytes.{number_is_bytes}
use Rattle.wkb_laws.proofs.EncodingSpells.{IsNumber-number_bytes}
use Rattle.wkb_laws.proofs.OneEncoding.{number_fixed}
use Rattle.wkb_check.specs.Prelude.{own_end}
use Rattle.wkb_check.specs.declared.pieces.Piece.{Piece}
use Rattle.wkb_sink.specs.Runs.{other}
use Rattle.wkb_rewrite.specs.Shares.{Holds, own_words, word_count, written_words, words_part, is_empty_point}

pub taken_bytes : (n : ℕ) (z : List ℕ) → AreBytes z → AreBytes (take n z) × AreBytes (drop n z)
taken_bytes n z b =
    let both : AreBytes (take n z ++ drop n z) = subst AreBytes (sym (take-append-drop n z)) b in
    (AreBytes-front (take n z) (drop n z) both, AreBytes-rest (take n z) (drop n z) both)

-- n bytes are those of the number that they hold
pub number_held : (order : Endianness) (n : ℕ) (z : List ℕ) → AreBytes z → n ≤ length z
    → (number order n z < 256 ^ n) × (take n z ≡ number_bytes order n (number order n z))
number_held order n z b long =
    let field = field_taken order n z long in
    let bytes = (taken_bytes n z b).0 in
    let small = number-lt order n (number order n z) (take n z) field bytes in
    let again = IsNumber-number_bytes order n (number order n z) small in
    (small, (number_fixed order n _).same _ _ field again bytes (number_is_bytes order n _))

-- the words of n times eight bytes are held by these
pub words_held : (order : Endianness) (n : ℕ) (z : List ℕ) → AreBytes z → 8 * n ≤ length z
    → Holds order (items 8 (number order 8) n z) (take (8 * n) z)
unfolding words_encoding
words_held order zero z b long = record { fit = tt; is = refl }
words_held order (suc n) z b long =
    let first = number_held order 8 z b (omega arith) in
    let others = words_held order n (drop 8 z) (taken_bytes 8 z b).1 (omega (arith, length-drop 8 z)) in
    record {
      fit = (first.0, others.fit);
      is = ap (λ k. take k z) (omega arith) ∙ take-add 8 (8 * n) z ∙ (λ i. first.1 i ++ others.is i);
    }

-- a piece's own words end where it does
pub own_end_is : (p : Piece) → own_end p ≡ p.offset + 8 * word_count p
own_end_is p = grind (arith, nat_tests)

-- the words of a piece are held by its bytes
pub own_held : (buf : List ℕ) (p : Piece) → AreBytes buf → own_end p ≤ length buf
    → Holds p.order (own_words buf p) (take (own_end p - p.offset) (drop p.offset buf))
own_held buf p b inside =
    let long = own_end_is p in
    subst (λ k. Holds p.order (own_words buf p) (take k (drop p.offset buf))) (omega arith)
    (words_held p.order (word_count p) (drop p.offset buf) (taken_bytes p.offset buf b).1
    (omega (arith, length-drop p.offset buf)))

-- as many bytes, and each word where it stands
held_long : {order : Endianness} {words bytes : List ℕ} → Holds order words bytes → length bytes ≡ 8 * length words
held_long {order = order} {words = words} h = ap length h.is ∙ words_length order words

word_is : {order : Endianness} {words bytes : List ℕ} (i : ℕ) → Holds order words bytes → i < length words
    → number order 8 (drop (8 * i) bytes) ≡ get_or words i 0
word_is i h more = grind (arith, get_or_from_slice_get, word_at)

pub word_next : {order : Endianness} {words bytes : List ℕ} (i : ℕ) → Holds order words bytes → i < length bytes / 8
    → drop i words ≡ number order 8 (drop (8 * i) bytes) ∷ drop (i + 1) words
word_next {words = words} i h more =
    let within : i < length words = omega (arith, held_long h) in
    drop_more words i 0 within ∙ ap (λ w. w ∷ drop (i + 1) words) (sym (word_is i h within))

pub no_word_next : {order : Endianness} {words bytes : List ℕ} (i : ℕ) → Holds order words bytes
    → length bytes / 8 ≤ i → drop i words ≡ []
no_word_next {words = words} i h over = drop_all i words (omega (arith, held_long h))

pub all_words : {order : Endianness} {words bytes : List ℕ} (i : ℕ) → Holds order words bytes
    → length bytes / 8 ≤ i → take i words ≡ words
all_words {words = words} i h over = take_all i words (omega (arith, held_long h))

-- the same bytes hold the same words
same_held : {order : Endianness} {ws vs xs ys : List ℕ} → Holds order ws xs → Holds order vs ys → xs ≡ ys → ws ≡ vs
same_held {order = order} {ws = ws} {vs = vs} h k e =
    let many : length ws ≡ length vs = omega (arith, held_long h, held_long k, ap length e) in
    ext_get_or 0 ws vs many (λ i more. sym (word_is i h more) ∙ ap (λ z. number order 8 (drop (8 * i) z)) e
    ∙ word_is i k (omega arith))

pub same_order : (x y : Endianness) → sameb the_type x y ≡ true → x ≡ y
same_order x y e = grind arith

pub other_order : (x y : Endianness) → sameb the_type x y ≡ false → x ≡ other y
other_order x y e = grind arith

-- in one order the words are the same exactly where the bytes are
pub same_words : {order : Endianness} {ws vs xs ys : List ℕ} (same : Bool) → Holds order ws xs → Holds order vs ys
    → same ≡ bytes_eq xs ys → IsTrue same ↔ (ws ≡ vs)
same_words {order = order} {xs = xs} {ys = ys} same h k is = (
  λ yes. same_held h k ((bytes_eq-Decides xs ys).0 (sym is ∙ yes)),
  λ e. is ∙ (bytes_eq-Decides xs ys).1 (h.is ∙ ap (words_encoding order) e ∙ sym k.is),
)

-- the words of two bytes, as far as they were compared
module _ {o q : Endianness} {ws vs xs ys : List ℕ} (i : ℕ) (h : Holds o ws xs) (k : Holds q vs ys)
    (long : length xs ≡ length ys) (more : i < length xs / 8) where
  first : number o 8 (drop (8 * i) xs) ≡ get_or ws i 0
  first = word_is i h (omega (arith, held_long h))

  second : number q 8 (drop (8 * i) ys) ≡ get_or vs i 0
  second = word_is i k (omega (arith, held_long k))

  pub words_on : number o 8 (drop (8 * i) xs) ≡ number q 8 (drop (8 * i) ys) → take i ws ≡ take i vs
      → take (i + 1) ws ≡ take (i + 1) vs
  words_on same before = grind (arith, take_more_same, held_long, first, second)

  pub words_differ : number o 8 (drop (8 * i) xs) ≢ number q 8 (drop (8 * i) ys) → IsTrue false ↔ (ws ≡ vs)
  words_differ differ = (λ no. absurd cc, λ e. absurd (differ (first ∙ ap (λ l. get_or l i 0) e ∙ sym second)))

-- ---- how many bytes a piece's words have

words_long : (buf : List ℕ) (p : Piece) → length (own_words buf p) ≡ word_count p
words_long buf p = length-items 8 (number p.order 8) (word_count p) (drop p.offset buf)

pub own_long : (buf : List ℕ) (p : Piece) (bytes : List ℕ) → Holds p.order (own_words buf p) bytes
    → length bytes ≡ 8 * word_count p
own_long buf p bytes h = omega (arith, held_long h, words_long buf p)

pub written_long : (order : Endianness) (buf : List ℕ) (p : Piece)
    → length (words_encoding order (written_words buf p)) ≡ 8 * word_count p
written_long order buf p = grind (arith, words_length, words_long, length-replicate)

-- as many bytes are written of it
pub as_long : (order : Endianness) (buf : List ℕ) (p : Piece) (bytes : List ℕ) → Holds p.order (own_words buf p) bytes
    → length (words_part order buf p) ≡ length bytes
as_long order buf p bytes h = omega (arith, written_long order buf p, own_long buf p bytes h)

-- which words are written of a piece
pub written_empty : (buf : List ℕ) (p : Piece) → is_empty_point buf p ≡ true
    → written_words buf p ≡ replicate (word_count p) empty_word
written_empty buf p e = ap (λ t. if t then replicate (word_count p) empty_word else own_words buf p) e

pub written_own : (buf : List ℕ) (p : Piece) → is_empty_point buf p ≡ false → written_words buf p ≡ own_words buf p
written_own buf p e = ap (λ t. if t then replicate (word_count p) empty_word else own_words buf p) e

pub ruleset same_laws = (same_words, same_order, words_on, words_differ)

pub ruleset stored_laws = (as_long, written_long, same_order, other_order, written_empty, written_own)
