-- Encodings that follow one another in a block.
use Rattle.wkb_sink.proofs.Prelude.{ℕ, List, [], ◌++◌, sym, append_assoc, append-nil, ◌≡◌, ◌+◌, refl, arith}
use Rattle.wkb_sink.proofs.Prelude.{length-append, subst, take, replicate, replicate_more, flat_map-append, Endianness}
use Rattle.wkb_sink.proofs.Prelude.{number_bytes, words_encoding, LaysAt}

pub behind : {a b c : ℕ} {x y z s t : List ℕ} → LaysAt a b x y s → LaysAt b c y z t → LaysAt a c x z (s ++ t)
behind {a = a} {x = x} {s = s} {t = t} p q = grind (arith, length-append, append_assoc)

pub last : {b c : ℕ} {y z t : List ℕ} → LaysAt b c y z t → LaysAt b c y z (t ++ [])
last {b = b} {c = c} {y = y} {z = z} {t = t} p = subst (LaysAt b c y z) (sym (append-nil t)) p

pub nothing_behind : (a : ℕ) (x : List ℕ) → LaysAt a a x x []
nothing_behind a x = record { ends = omega arith; is = sym (append-nil (take a x)) }

-- one word more of the same
pub word_more : (order : Endianness) (n w : ℕ)
    → words_encoding order (replicate (n + 1) w) ≡ words_encoding order (replicate n w) ++ number_bytes order 8 w
unfolding words_encoding
word_more order n w = rw (← replicate_more n w, flat_map-append, append-nil) refl

pub ruleset behind_laws = (behind, last)
