-- Parts of an encoding that are stored one after another.
use Rattle.wkb_sink.proofs.Prelude.{◌≡◌, ℕ, zero, suc, ◌+◌, ◌-◌, ◌*◌, ◌<◌, ◌≤◌, List, [], ◌∷◌, ◌++◌, length, take}
use Rattle.wkb_sink.proofs.Prelude.{drop, Some, refl, sym, ap, ◌∙◌, append_assoc, append-nil, arith, length-drop}
use Rattle.wkb_sink.proofs.Prelude.{slice_get, slice_index, add-one, flat_map, length-take-le, take-append-le, take_at}
use Rattle.wkb_sink.proofs.Prelude.{Endianness, number_bytes, words_encoding, LaysAt}
use Rattle.std.proofs.Math.Nat.{mul-add}
use Rattle.std.proofs.Math.Seq.{take-append-add}
use borrow.Rule.Slice.PartMut.{put_mid, mid_of}

-- an encoding that was stored after another
pub stored_next : (all part t s : List ℕ) (at n k : ℕ) → take at all ≡ t → at ≤ length all → take n part ≡ s
    → n ≤ length part
    → take (at + n) (put_mid at k all part) ≡ t ++ s
stored_next all part t s at n k is fits part_is part_fits =
    grind (arith, length-take-le, take-append-add, take-append-le)

-- the words of two to four, one after another
pub two_words : (order : Endianness) (ws : List ℕ) → length ws ≡ 2
    → words_encoding order ws ≡ number_bytes order 8 (slice_index ws 0) ++ number_bytes order 8 (slice_index ws 1)
unfolding words_encoding
two_words order (x ∷ y ∷ []) h = simp append-nil refl
two_words order ws h = absurd (omega arith)

pub three_words : (order : Endianness) (ws : List ℕ) → length ws ≡ 3
    → words_encoding order ws ≡ (number_bytes order 8 (slice_index ws 0) ++ number_bytes order 8 (slice_index ws 1))
    ++ number_bytes order 8 (slice_index ws 2)
unfolding words_encoding
three_words order (x ∷ y ∷ z ∷ []) h = simp (append-nil, append_assoc) refl
three_words order ws h = absurd (omega arith)

pub four_words : (order : Endianness) (ws : List ℕ) → length ws ≡ 4
    → words_encoding order ws ≡ (number_bytes order 8 (slice_index ws 0) ++ number_bytes order 8 (slice_index ws 1))
    ++ (number_bytes order 8 (slice_index ws 2) ++ number_bytes order 8 (slice_index ws 3))
unfolding words_encoding
four_words order (x ∷ y ∷ z ∷ w ∷ []) h = simp (append-nil, append_assoc) refl
four_words order ws h = absurd (omega arith)

pub ruleset stored_laws = (take_at)

pub flat_map_step : {X : Type 0} (f : X → List ℕ) (xs : List X) (i : ℕ) (x : X) → slice_get xs i ≡ Some x
    → flat_map f (take (i + 1) xs) ≡ flat_map f (take i xs) ++ f x
flat_map_step f [] i x h = cc
flat_map_step f (y ∷ ys) zero x h = let same : y ≡ x = cc in append-nil (f y) ∙ ap f same
flat_map_step f (y ∷ ys) (suc i) x h = grind (arith, add-one, append_assoc, flat_map, flat_map_step f ys i x h)

-- one item more of a run from one place on
pub run_step : {X : Type 0} (f : X → List ℕ) (xs : List X) (start i : ℕ) (x : X) → slice_get xs i ≡ Some x → start ≤ i
    → flat_map f (drop start (take (i + 1) xs)) ≡ flat_map f (drop start (take i xs)) ++ f x
run_step f [] start i x item h = cc
run_step f (y ∷ ys) zero i x item h = flat_map_step f (y ∷ ys) i x item
run_step f (y ∷ ys) (suc start) zero x item h = absurd (omega arith)
run_step f (y ∷ ys) (suc start) (suc i) x item h = grind (arith, add-one, run_step f ys start i x item (omega arith))

-- an encoding that was stored at a place
pub stored_at : (bytes part s : List ℕ) (place n end : ℕ) → place + n ≤ length bytes
    → length part ≡ length (mid_of place (length bytes - place) bytes) → take n part ≡ s → end ≡ place + n
    → LaysAt place end bytes (put_mid place (length bytes - place) bytes part) s
stored_at bytes part s place n end fits many stored is = grind (arith, length-drop, length-take-le, stored_next)

-- the bytes of the items that are left, of w bytes each
pub one_more : (w i to : ℕ) → i < to → w * (to - i) ≡ w * (to - (i + 1)) + w
one_more w i to h =
    let step : to - i ≡ (to - (i + 1)) + 1 = omega arith in
    ap (λ k. w * k) step ∙ omega (arith, mul-add w (to - (i + 1)) 1)

pub ruleset coordinate_laws = (two_words, three_words, stored_next)

pub ruleset run_laws = (one_more, stored_next, run_step)
