-- Words that are read in one order, and stored in another.
use Rattle.wkb_sink.proofs.Prelude.{◌≡◌, ℕ, zero, suc, ◌+◌, ◌-◌, ◌*◌, ◌<◌, ◌≤◌, List, [], ◌∷◌, ◌++◌, length, take, drop}
use Rattle.wkb_sink.proofs.Prelude.{Some, refl, sym, ap, ◌∙◌, arith, slice_get, slice_index, length-append, flat_map}
use Rattle.wkb_sink.proofs.Prelude.{flat_map-append, length-drop, length-take-le, Endianness, words_encoding}
use Rattle.wkb_sink.proofs.Prelude.{take_all, append_assoc, append-nil}
use Rattle.std.proofs.Math.Nat.{mul-add}
use Rattle.std.specs.List.{AllByRecursion, concat}
use Rattle.std.proofs.lemmas.Option.{slice_get-get_or}
use Rattle.std.proofs.Math.Seq.{drop-append-add, take-append-add}
use Rattle.wkb_geom.specs.declared.common.Dimensions.{Dimensions}
use Rattle.wkb_geom.specs.Dimensions.{size}
use Rattle.wkb_geom.specs.Numbers.{number, number_bytes, IsWord}
use Rattle.wkb_geom.specs.Geometries.{AreCoordinates}
use Rattle.wkb_sink.specs.Runs.{Turns}
use Rattle.wkb_sink.proofs.Lengths.{length-number}
use Rattle.wkb_sink.proofs.Stores.{stored_next, flat_map_step}
use borrow.Rule.Slice.PartMut.{put_mid}

read_back : (order : Endianness) (w : ℕ) (rest : List ℕ) → IsWord w
    → number order 8 (number_bytes order 8 w ++ rest) ≡ w
unfolding number number_bytes
read_back order w rest h = grind arith

pub words_length : (order : Endianness) (ws : List ℕ) → length (words_encoding order ws) ≡ 8 * length ws
unfolding words_encoding
words_length order [] = refl
words_length order (w ∷ ws) = grind (arith, length-append, flat_map, length-number, words_length order ws)

-- the word at an index, read off the bytes
pub word_at : (order : Endianness) (ws : List ℕ) (i : ℕ) → AllByRecursion IsWord ws → i < length ws
    → slice_get ws i ≡ Some (number order 8 (drop (8 * i) (words_encoding order ws)))
unfolding words_encoding
word_at order [] i h there = absurd (omega arith)
word_at order (w ∷ ws) zero h there = ap Some (sym (read_back order w (flat_map (number_bytes order 8) ws) h.0))
word_at order (w ∷ ws) (suc i) h there =
    let first = number_bytes order 8 w in
    let rest = flat_map (number_bytes order 8) ws in
    let place : 8 * suc i ≡ length first + 8 * i = omega (arith, length-number order 8 w) in
    rw (place, drop-append-add first rest (8 * i)) (word_at order ws i h.1 (omega arith))

-- two words more are stored
two_words_more : (order : Endianness) (words all part : List ℕ) (i k first second : ℕ)
    → take (16 * i) all ≡ words_encoding order (take (2 * i) words)
    → slice_get words (2 * i) ≡ Some first → slice_get words (2 * i + 1) ≡ Some second
    → take 16 part ≡ number_bytes order 8 first ++ number_bytes order 8 second
    → 16 * i ≤ length all → 16 ≤ length part
    → take (16 * (i + 1)) (put_mid (16 * i) k all part) ≡ words_encoding order (take (2 * (i + 1)) words)
unfolding words_encoding
two_words_more order words all part i k first second behind one two stored fits part_fits =
    let next : 16 * (i + 1) ≡ 16 * i + 16 = omega arith in
    let both : 2 * (i + 1) ≡ 2 * i + 1 + 1 = omega arith in
    let each = number_bytes order 8 in
    rw (next, both) (stored_next _ _ _ _ (16 * i) 16 _ behind fits stored part_fits
    ∙ sym (append_assoc (flat_map each (take (2 * i) words)) (each first) (each second))
    ∙ ap (λ l. l ++ each second) (sym (flat_map_step each words (2 * i) first one))
    ∙ sym (flat_map_step each words (2 * i + 1) second two))

-- of words at hand
pub stored_two_more : (order : Endianness) (words all part : List ℕ) (i k : ℕ)
    → take (16 * i) all ≡ words_encoding order (take (2 * i) words)
    → take 16 part
    ≡ number_bytes order 8 (slice_index words (2 * i)) ++ number_bytes order 8 (slice_index words (2 * i + 1))
    → 2 * i + 1 < length words → 16 * i ≤ length all → 16 ≤ length part
    → take (16 * (i + 1)) (put_mid (16 * i) k all part) ≡ words_encoding order (take (2 * (i + 1)) words)
stored_two_more order words all part i k behind stored more fits part_fits =
    grind (arith, two_words_more, slice_get-get_or)

-- the last of an odd number of words
stored_last : (order : Endianness) (words all part : List ℕ) (i k n word : ℕ) → n ≡ 8 * length words
    → take (8 * i) all ≡ words_encoding order (take i words) → slice_get words i ≡ Some word
    → take 8 part ≡ number_bytes order 8 word → i + 1 ≡ length words → 8 * i ≤ length all → 8 ≤ length part
    → take n (put_mid (8 * i) k all part) ≡ words_encoding order words
unfolding words_encoding
stored_last order words all part i k n word is behind item stored last fits part_fits =
    let whole : n ≡ 8 * i + 8 = omega (arith, is, last) in
    grind (arith, stored_next, flat_map_step, words_encoding, take_all)

-- the word at an index of those that the bytes hold in this order
pub word_held : (held : Endianness) (words lent : List ℕ) (at i word : ℕ) → AllByRecursion IsWord words
    → lent ≡ words_encoding held words → at ≡ 8 * i → word ≡ number held 8 (drop at lent) → i < length words
    → slice_get words i ≡ Some word
word_held held words lent at i word fit is place read more = grind (arith, word_at)

-- of words that are read in one order, and stored in another
pub turned_two_more : (held order : Endianness) (words lent all part : List ℕ) (i k first second : ℕ)
    → AllByRecursion IsWord words
    → lent ≡ words_encoding held words
    → take (16 * i) all ≡ words_encoding order (take (2 * i) words)
    → first ≡ number held 8 (drop (16 * i) lent)
    → second ≡ number held 8 (drop (16 * i + 8) lent)
    → take 16 part ≡ number_bytes order 8 first ++ number_bytes order 8 second
    → 2 * i + 1 < length words → 16 * i ≤ length all → 16 ≤ length part
    → take (16 * (i + 1)) (put_mid (16 * i) k all part) ≡ words_encoding order (take (2 * (i + 1)) words)
turned_two_more held order words lent all part i k first second fit is behind one two stored more fits part_fits =
    grind (arith, two_words_more, word_held)

-- a run of items of k bytes each
run_front : {X : Type 0} (f : X → List ℕ) (k : ℕ) (xs : List X) (to : ℕ) → AllByRecursion (λ x. length (f x) ≡ k) xs
    → to ≤ length xs
    → take (k * to) (flat_map f xs) ≡ flat_map f (take to xs)
run_front f k xs zero h within = let none : k * zero ≡ 0 = omega arith in rw none refl
run_front f k [] (suc to) h within = absurd (omega arith)
run_front f k (x ∷ xs) (suc to) h within =
    let place : k * suc to ≡ length (f x) + k * to = omega (arith, h.0) in
    rw (place, take-append-add (f x) (flat_map f xs) (k * to))
    (ap (λ l. f x ++ l) (run_front f k xs to h.1 (omega arith)))

each_word : (order : Endianness) (ws : List ℕ) → AllByRecursion (λ w. length (number_bytes order 8 w) ≡ 8) ws
each_word order [] = tt
each_word order (w ∷ ws) = (length-number order 8 w, each_word order ws)

front_fits : (ws : List ℕ) (i : ℕ) → AllByRecursion IsWord ws → AllByRecursion IsWord (take i ws)
front_fits ws zero h = tt
front_fits [] (suc i) h = tt
front_fits (w ∷ ws) (suc i) h = (h.0, front_fits ws i h.1)

-- the first words, whose bytes were turned
pub turned_front : (held order : Endianness) (words lent part : List ℕ) (at i : ℕ) → AllByRecursion IsWord words
    → lent ≡ words_encoding held words → Turns held order (take at lent) part → at ≡ 8 * i → i ≤ length words
    → part ≡ words_encoding order (take i words)
unfolding words_encoding
turned_front held order words lent part at i fit is turns place within =
    turns (take i words) (front_fits words i fit)
    (rw (is, place) (run_front (number_bytes held 8) 8 words i (each_word held words) within))

-- the first words, and what was there behind them
front_length : (order : Endianness) (words part rest : List ℕ) (i : ℕ) → part ≡ words_encoding order (take i words)
    → i ≤ length words
    → 8 * i ≡ length part
front_length order words part rest i is within = grind (arith, words_length, length-take-le)

pub stored_alone : (order : Endianness) (words part rest : List ℕ) (i n : ℕ) → n ≡ 8 * length words
    → part ≡ words_encoding order (take i words) → i ≡ length words
    → take n (part ++ rest) ≡ words_encoding order words
stored_alone order words part rest i n is front all =
    let size = front_length order words part rest i front (omega (arith, all)) in
    grind (arith, take-append-add part rest 0, append-nil, take_all)

-- the last of an odd number of words, behind the others
pub stored_behind : (order : Endianness) (words part rest last : List ℕ) (at i k n word : ℕ) → n ≡ 8 * length words
    → part ≡ words_encoding order (take i words) → at ≡ 8 * i → slice_get words i ≡ Some word
    → take 8 last ≡ number_bytes order 8 word → i + 1 ≡ length words → 8 ≤ length last
    → take n (put_mid at k (part ++ rest) last) ≡ words_encoding order words
stored_behind order words part rest last at i k n word is front place item stored more fits =
    let size = front_length order words part rest i front (omega (arith, more)) in
    let kept : take (8 * i) (part ++ rest) ≡ words_encoding order (take i words) =
    grind (arith, take-append-add part rest 0, append-nil) in grind (arith, stored_last, length-append)

pub ruleset each_laws = (stored_two_more, stored_behind, slice_get-get_or)

pub ruleset turned_laws = (turned_two_more, words_length, take_all)

run_bytes : {X : Type 0} (f : X → List ℕ) (k : ℕ) (xs : List X) (from to : ℕ)
    → AllByRecursion (λ x. length (f x) ≡ k) xs → from ≤ to → to ≤ length xs
    → take (k * to - k * from) (drop (k * from) (flat_map f xs)) ≡ flat_map f (drop from (take to xs))
run_bytes f k xs zero to h order within =
    let none : k * zero ≡ 0 = omega arith in
    let all : k * to - 0 ≡ k * to = omega arith in
    rw (none, all) (run_front f k xs to h within)
run_bytes f k xs (suc from) zero h order within = absurd (omega arith)
run_bytes f k [] (suc from) (suc to) h order within = absurd (omega arith)
run_bytes f k (x ∷ xs) (suc from) (suc to) h order within =
    grind (arith, drop-append-add, flat_map, run_bytes f k xs from to h.1 (omega arith) (omega arith))

items_fit : {X : Type 0} (f : X → List ℕ) (k : ℕ) (xs : List X) (n : ℕ) → AllByRecursion (λ x. length (f x) ≡ k) xs
    → n ≤ length xs
    → k * n ≤ length (flat_map f xs)
items_fit f k xs zero h within = omega arith
items_fit f k [] (suc n) h within = absurd (omega arith)
items_fit f k (x ∷ xs) (suc n) h within = grind (arith, length-append, flat_map, items_fit f k xs n h.1 (omega arith))

-- items of k numbers each that stand one after another in memory, and the part of these that is a run
module _ {X : Type 0} (f : X → List ℕ) (k : ℕ) (xs : List X) {all : List ℕ} {to : ℕ}
    (each : AllByRecursion (λ x. length (f x) ≡ k) xs) (is : all ≡ flat_map f xs) (within : to ≤ length xs) where
  pub run_within : k * to ≤ length all
  run_within = rw is (items_fit f k xs to each within)

  module _ {from : ℕ} {part : List ℕ} (order : from ≤ to) (lent : part ≡ take (k * to - k * from) (drop (k * from) all))
    where
      pub run_length : length part ≡ k * (to - from)
      run_length = grind (arith, mul-add, length-drop, length-take-le, run_within)

      pub run_lent : part ≡ flat_map f (drop from (take to xs))
      run_lent = lent ∙ rw is (run_bytes f k xs from to each order within)

-- of coordinates as bytes, and as words
module _ {w : ℕ} (read dims : Dimensions) (wide : w ≡ size read) (same : read ≡ dims) where
  pub bytes_each : (order : Endianness) (cs : List (List ℕ)) → AreCoordinates dims cs
      → AllByRecursion (λ c. length (words_encoding order c) ≡ 8 * w) cs
  bytes_each order [] h = tt
  bytes_each order (c ∷ cs) h = grind (arith, words_length, bytes_each order cs h.1)

  pub words_each : (cs : List (List ℕ)) → AreCoordinates dims cs → AllByRecursion (λ c. length c ≡ w) cs
  words_each [] h = tt
  words_each (c ∷ cs) h = (omega (arith, h.0.len, wide, ap size same), words_each cs h.1)

-- the words of a run of coordinates
abbrev pub run_words : List (List ℕ) → ℕ → ℕ → List ℕ
run_words cs from to = concat (drop from (take to cs))

pub words_joined : (order : Endianness) (cs : List (List ℕ))
    → words_encoding order (concat cs) ≡ flat_map (words_encoding order) cs
unfolding words_encoding
words_joined order [] = refl
words_joined order (c ∷ cs) = grind (arith, flat_map-append, flat_map, words_joined order cs)

are_words : (xs ys : List ℕ) → AllByRecursion IsWord xs → AllByRecursion IsWord ys → AllByRecursion IsWord (xs ++ ys)
are_words [] ys h k = k
are_words (x ∷ xs) ys h k = (h.0, are_words xs ys h.1 k)

pub run_are_words : (dims : Dimensions) (cs : List (List ℕ)) (from to : ℕ) → AreCoordinates dims cs
    → AllByRecursion IsWord (run_words cs from to)
run_are_words dims [] zero zero h = tt
run_are_words dims [] (suc from) zero h = tt
run_are_words dims (c ∷ cs) zero (suc to) h = grind (arith, are_words, run_are_words dims cs zero to h.1)
run_are_words dims (c ∷ cs) (suc from) (suc to) h = run_are_words dims cs from to h.1
run_are_words dims cs from to h = tt
