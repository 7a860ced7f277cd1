-- Words and ends that are written one after another, and how far they go.
use Rattle.wkb_abi.proofs.Common.{◌≡◌, ℕ, zero, suc, ◌+◌, ◌*◌, ◌≤◌, ◌<◌, ◌^◌, List, [], ◌∷◌, ◌++◌, length, drop}
use Rattle.wkb_abi.proofs.Common.{slice_index, refl, ap, sym, ◌∙◌, arith, append_assoc, append-nil, length-append}
use Rattle.wkb_abi.proofs.Common.{drop-drop, Dimension, width, number, Coordinate, Spelling, node, Spellings}
use Rattle.wkb_abi.proofs.Common.{no_spellings, spelling, Value, Values, no_members, member, members, dimension, sets}
use Rattle.wkb_abi.proofs.Common.{length-sets, Endianness, HasGeometry, Piece, levels_of, Totals, Subject, subjects}
use Rattle.wkb_abi.proofs.Common.{subjects_of_each, kind, subst, false, set}
use Rattle.std.proofs.Common.{length-set, sum, flat_map, nat_lt, Bool, cond}
use Rattle.std.proofs.lemmas.List.Sums.{sum_by-cons, sum_by-append}
use Rattle.std.proofs.lemmas.Option.{slice_get-get_or}
use Rattle.wkb_laws.specs.Prelude.{length-items, coordinate, coordinates, items}
use Rattle.wkb_laws.proofs.OneFront.{one_spelling}
use Rattle.wkb_laws.proofs.Parts.{item_at}
use Rattle.wkb_check.specs.Prelude.{piece_at, subject_pieces, own_end, IsAhead, IsTaken, IsPieceAt, OnlyMember}
use Rattle.wkb_check.specs.declared.pieces.Pieces.{Pieces}
use Rattle.wkb_check.specs.Pieces.{all_pieces}
use Rattle.wkb_check.proofs.Placing.{sets_after, itself_first}
use Rattle.wkb_abi.specs.Coordinates.{words_asked, asked_subject_words, ring_counts, single_counts, ends, totals_after}
use Rattle.wkb_abi.specs.Coordinates.{LevelLists, with_levels, HasRoomUpTo}
use Rattle.wkb_abi.specs.LevelLists.{AreSameSlices, HasRoomFor, LaysLevels}
use Rattle.wkb_abi.specs.declared.level_slices.LevelSlices.{LevelSlices}
use Rattle.wkb_abi.specs.PieceLevels.{ring_sizes, single_sizes, piece_words, PieceFits, with_piece, totals_with}
use Rattle.wkb_check.proofs.Subjects.{ArePlaced, all_placed, says}
use Rattle.wkb_check.specs.Subjects.{whole, subjects_of_rings, rings_of}

-- ---- words

-- word n of a coordinate
pub coordinate_word : (order : Endianness) (d : Dimension) (from n at : ℕ) (row : List ℕ) → n < width d
    → at ≡ from + 8 * n → number order 8 (drop at row) ≡ slice_index (coordinate order d (drop from row)) n
coordinate_word order d from n at row h is =
    grind (arith, number, drop-drop, item_at, width, slice_get-get_or, length-items)

-- n coordinates are still to be written
pub record WordsLeft (asked own : Dimension) (order : Endianness) (row all : List ℕ) (n from at : ℕ) (out : List ℕ)
    : Type 0 where
  pub inside : from + 8 * width own * n ≤ length row
  pub room : at + width asked * n ≤ length out
  pub written : sets out at (flat_map (words_asked asked own) (coordinates order own n (drop from row))) ≡ all

pub words_next : {asked own : Dimension} {order : Endianness} {row all : List ℕ} {n m from to at next : ℕ}
    {out new : List ℕ} → WordsLeft asked own order row all n from at out → n ≡ suc m → to ≡ from + 8 * width own
    → next ≡ at + width asked → new ≡ sets out at (words_asked asked own (coordinate order own (drop from row)))
    → WordsLeft asked own order row all m to next new
words_next {asked} {own} {order} {row} {m = m} {from} {at = at} {next} {out} left some to_is next_is new_is =
    grind (arith, length-sets, drop-drop, width, sets_after)

-- n words are still to be written as they come
pub record PlainLeft (order : Endianness) (row all : List ℕ) (n from at : ℕ) (out : List ℕ) : Type 0 where
  pub inside : from + 8 * n ≤ length row
  pub room : at + n ≤ length out
  pub written : sets out at (items 8 (number order 8) n (drop from row)) ≡ all

pub plain_next : {order : Endianness} {row all : List ℕ} {n m from to at next : ℕ} {out new : List ℕ}
    → PlainLeft order row all n from at out → n ≡ suc m → to ≡ from + 8 → next ≡ at + 1
    → new ≡ set out at (number order 8 (drop from row)) → PlainLeft order row all m to next new
plain_next {order} {row} {m = m} {from} {to} {at} {next} {out} left some to_is next_is new_is =
    let behind : drop 8 (drop from row) ≡ drop to row = drop-drop 8 from row ∙ ap (λ k. drop k row) (sym to_is) in
    let further : next ≡ suc at = omega (arith, next_is) in grind (arith, length-set, number)

items_append : (order : Endianness) (m n : ℕ) (bytes : List ℕ)
    → items 8 (number order 8) m bytes ++ items 8 (number order 8) n (drop (8 * m) bytes)
    ≡ items 8 (number order 8) (m + n) bytes
items_append order zero n bytes = grind arith
items_append order (suc m) n bytes =
    let long : 8 + 8 * m ≡ 8 * suc m = omega arith in
    let many : suc (m + n) ≡ suc m + n = omega arith in
    ap (λ ys. items 8 (number order 8) (suc m) bytes ++ items 8 (number order 8) n ys)
    (ap (λ k. drop k bytes) (sym long) ∙ sym (drop-drop (8 * m) 8 bytes))
    ∙ ap (λ ys. number order 8 bytes ∷ ys) (items_append order m n (drop 8 bytes))
    ∙ ap (λ k. items 8 (number order 8) k bytes) many

own_words : (order : Endianness) (d : Dimension) (bytes : List ℕ)
    → words_asked d d (coordinate order d bytes) ≡ coordinate order d bytes
own_words order d bytes = grind arith

-- the words of coordinates that are asked for as they are
pub plain_words : (order : Endianness) (d : Dimension) (n : ℕ) (bytes : List ℕ)
    → flat_map (words_asked d d) (coordinates order d n bytes) ≡ items 8 (number order 8) (width d * n) bytes
plain_words order d zero bytes = let none : width d * 0 ≡ 0 = omega arith in rw none refl
plain_words order d (suc n) bytes =
    let many : width d + width d * n ≡ width d * suc n = omega arith in
    ap (λ ws. ws ++ flat_map (words_asked d d) (coordinates order d n (drop (8 * width d) bytes)))
    (own_words order d bytes)
    ∙ ap (λ ws. coordinate order d bytes ++ ws) (plain_words order d n (drop (8 * width d) bytes))
    ∙ items_append order (width d) (width d * n) bytes
    ∙ ap (λ k. items 8 (number order 8) k bytes) many

-- ---- ends

pub ends_length : (start : ℕ) (ns : List ℕ) → length (ends start ns) ≡ length ns
ends_length start [] = refl
ends_length start (n ∷ ns) = ap suc (ends_length (start + n) ns)

ends_append : (start to : ℕ) (ns ms : List ℕ) → to ≡ start + sum ns
    → ends start (ns ++ ms) ≡ ends start ns ++ ends to ms
ends_append start to [] ms is = ap (λ k. ends k ms) (omega (arith, is))
ends_append start to (n ∷ ns) ms is =
    ap (λ z. (start + n) ∷ z) (ends_append (start + n) to ns ms (omega (arith, is, sum_by-cons (λ n. n) n ns)))

-- ---- pieces

-- what the piece of a subject gives each level
own_sizes : (begin : ℕ) (x : Subject)
    → (ring_sizes (piece_at begin x) ≡ ring_counts x) × (single_sizes (piece_at begin x) ≡ single_counts x)
own_sizes begin x = grind arith

-- the pieces that are to come, and what is known of them
pub record Coming (w : Pieces) (P : List Piece → Type 0) : Type 0 where
  pub ps : List Piece
  pub ahead : IsAhead w ps
  pub left : P ps

-- ---- totals

-- totals are 64-bit integers
pub record AreSmall (at : Totals) : Type 0 where
  pub coordinates : at.coordinates < 2 ^ 64
  pub rings : at.rings < 2 ^ 64
  pub singles : at.singles < 2 ^ 64

-- the totals after these pieces
abbrev pub totals_behind : Totals → List Piece → Totals
totals_behind at [] = at
totals_behind at (p ∷ ps) = totals_behind (totals_with at p) ps

-- those after the pieces of subjects
pub totals_reached : (begin : ℕ) (xs : List Subject) (at : Totals) → AreSmall at
    → totals_behind at (subject_pieces begin xs) ≡ totals_after at xs
totals_reached begin [] at small = grind arith
totals_reached begin (x ∷ xs) at small =
    let others = totals_reached (own_end (piece_at begin x)) xs (totals_with at (piece_at begin x))
    (record { coordinates = omega arith; rings = omega arith; singles = omega arith }) in
    grind (arith, own_sizes, sum_by-append, length-append)

pub totals_next : {now : Pieces} {ps : List Piece} {p : Piece} {to all : Totals} (at : Totals) → IsTaken now ps p
    → to ≡ totals_with at p → totals_behind at ps ≡ all → Coming now (λ ps. totals_behind to ps ≡ all)
totals_next at taken with left = grind arith

-- ---- where singles end

-- where the singles among subjects end, before which there are so many rings: the code counts the rings so far
abbrev single_ends : ℕ → List Subject → List ℕ
single_ends at [] = []
single_ends at (x ∷ xs) = ends at (single_counts x) ++ single_ends (at + length (ring_counts x)) xs

-- each begins where the one before it ends
abbrev EndInTurn : List Subject → Type 0
EndInTurn xs = (at : ℕ) → single_ends at xs ≡ ends at (flat_map single_counts xs)

-- so it is behind the rings of a polygon, which its own end counts
rings_end : (order : Endianness) (d : Dimension) (rings : List (List Coordinate)) (xs : List Subject) → EndInTurn xs
    → (at : ℕ) → single_ends at (subjects_of_rings order d rings ++ xs)
    ≡ ends (at + length rings) (flat_map single_counts (subjects_of_rings order d rings ++ xs))
rings_end order d [] xs h at = h at ∙ ap (λ k. ends k (flat_map single_counts xs)) (omega arith)
rings_end order d (cs ∷ rings) xs h at = grind (arith, rings_end order d rings xs h (at + 1))

-- a single counts its own ring, or those behind it
single_opens : (s : Spelling) (t : Value)
    → sum (single_counts (whole s t)) ≡ length (ring_counts (whole s t)) + length (rings_of t)
single_opens s t = grind arith

mutual
  geometry_ends : (s : Spelling) (t : Value) (xs : List Subject) → EndInTurn xs → EndInTurn (subjects s t ++ xs)
  geometry_ends (node h words ss) t xs end at =
      let x = whole (node h words ss) t in
      let rings = subjects_of_rings h.order (dimension t) (rings_of t) in
      let others = subjects_of_each ss (members t) in
      let inner = rings_end h.order (dimension t) (rings_of t) (others ++ xs) (members_end ss (members t) xs end)
      (at + length (ring_counts x)) in
      rw (append_assoc rings others xs)
      (ap (λ ns. ends at (single_counts x) ++ ns) inner
      ∙ sym (ends_append at (at + length (ring_counts x) + length (rings_of t)) (single_counts x)
      (flat_map single_counts (rings ++ (others ++ xs))) (omega (arith, single_opens (node h words ss) t))))

  members_end : (ss : Spellings) (ts : Values) (xs : List Subject) → EndInTurn xs
      → EndInTurn (subjects_of_each ss ts ++ xs)
  members_end ss no_members xs end = end
  members_end no_spellings (member t ts) xs end = end
  members_end (spelling s ss) (member t ts) xs end =
      rw (append_assoc (subjects s t) (subjects_of_each ss ts) xs)
      (geometry_ends s t (subjects_of_each ss ts ++ xs) (members_end ss ts xs end))

-- ---- levels

-- slices that stay are the same all along
pub stay_same : {a b c : LevelSlices} → AreSameSlices b c → AreSameSlices a b → AreSameSlices a c
stay_same next before = grind arith

pub wide_enough : (d : Dimension) (n : ℕ) → n ≤ width d * n
wide_enough d n = grind arith

words_length : (asked own : Dimension) (cs : List Coordinate)
    → length (flat_map (words_asked asked own) cs) ≡ width asked * length cs
words_length asked own [] = omega arith
words_length asked own (c ∷ cs) = grind (arith, length-append, words_length asked own cs)

subject_words : (asked : Dimension) (x : Subject)
    → length (asked_subject_words asked x) ≡ width asked * sum (ring_counts x)
subject_words asked x = grind (arith, words_length, width)

pub subjects_words : (asked : Dimension) (xs : List Subject)
    → length (flat_map (asked_subject_words asked) xs) ≡ width asked * sum (flat_map ring_counts xs)
subjects_words asked [] = omega arith
subjects_words asked (x ∷ xs) =
    grind (arith, width, sum_by-append, length-append, subject_words, subjects_words asked xs)

words_if : (asked own : Dimension) (has : Bool) (cs : List Coordinate)
    → flat_map (words_asked asked own) (cond has cs []) ≡ cond has (flat_map (words_asked asked own) cs) []
words_if asked own has cs = grind arith

-- these items are still to be laid here, for which there is room, and then the list is this
record ItemsLeft (out : List ℕ) (at : ℕ) (items all : List ℕ) : Type 0 where
  pub short : length out < 2 ^ 63
  pub room : at + length items ≤ length out
  pub written : sets out at items ≡ all

items_next : {out : List ℕ} {at : ℕ} {items all : List ℕ} → ItemsLeft out at items all → (next : ℕ)
    (first others : List ℕ) → items ≡ first ++ others → next ≡ at + length first
    → ItemsLeft (sets out at first) next others all
items_next {out} {at} left next first others items_is next_is = grind (arith, length-sets, length-append, sets_after)

-- there is room for these pieces, and with them the lists become these
abbrev pub Fill : Dimension → List ℕ → LevelLists → Totals → LevelLists → List Piece → Type 0
Fill asked input all at out [] = out ≡ all
Fill asked input all at out (p ∷ ps) =
    PieceFits asked input p at out × Fill asked input all (totals_with at p) (with_piece asked input p at out) ps

module _ (asked : Dimension) (input : List ℕ) (all : LevelLists) where
  fill : (begin : ℕ) (xs : List Subject) (at : Totals) (out : LevelLists) → ArePlaced input begin xs
      → ItemsLeft out.words (width asked * at.coordinates) (flat_map (asked_subject_words asked) xs) all.words
      → ItemsLeft out.ring_ends at.rings (ends at.coordinates (flat_map ring_counts xs)) all.ring_ends
      → ItemsLeft out.single_ends at.singles (single_ends at.rings xs) all.single_ends
      → Fill asked input all at out (subject_pieces begin xs)
  fill begin [] at out placed w r s = grind arith
  fill begin (x ∷ xs) at out placed w r s =
      let p = piece_at begin x in
      let to = totals_with at p in
      let own = own_sizes begin x in
      let piece = says x placed.0.stands placed.0.spell in
      let words : asked_subject_words asked x ≡ piece_words asked input p =
      (λ i. flat_map (words_asked asked (sym piece.dimension_is i)) (sym piece.coordinates_are i))
      ∙ words_if asked p.dimension (nat_lt p.kind 3) _ in
      let long : length (piece_words asked input p) ≡ width asked * sum (ring_sizes p) =
      sym (ap length words) ∙ subject_words asked x ∙ ap (λ ns. width asked * sum ns) (sym own.0) in
      let fits : PieceFits asked input p at out = grind (arith, length-append, ends_length) in
      let c : to.coordinates ≡ at.coordinates + sum (ring_sizes p) =
      omega (arith, wide_enough asked (at.coordinates + sum (ring_sizes p))) in
      let k : to.rings ≡ at.rings + length (ring_sizes p) = omega arith in (
        fits,
        fill (own_end p) xs to (with_piece asked input p at out) placed.1
            (items_next w (width asked * to.coordinates) (piece_words asked input p) _
            (ap (λ ws. ws ++ flat_map (asked_subject_words asked) xs) words)
            (ap (λ n. width asked * n) c ∙ omega arith))
            (items_next r to.rings (ends at.coordinates (ring_sizes p)) (ends to.coordinates (flat_map ring_counts xs))
            (rw (← own.0) (ends_append at.coordinates to.coordinates (ring_sizes p) (flat_map ring_counts xs) c))
            (omega (arith, ends_length at.coordinates (ring_sizes p))))
            (items_next s to.singles (ends at.rings (single_sizes p)) (single_ends to.rings xs)
            (rw (own.1, k, own.0)) (omega (arith, ends_length at.rings (single_sizes p)))),
      )

-- ---- a walk

-- with the pieces that are to come the lists become those with all levels of the geometry, in the same slices
pub record Walks (asked : Dimension) (row : List ℕ) (from : Totals) (before : LevelSlices) (w : Pieces) (at : Totals)
    (out : LevelSlices) : Type 0 where
  pub left : (g : HasGeometry row)
      → Coming w
      (Fill asked row (with_levels asked (subjects g.spelled g.value) from (levels_of before)) at (levels_of out))
  pub same_slices : AreSameSlices before out

-- a piece is laid
levels_next : {asked : Dimension} {input : List ℕ} (all : LevelLists) (at : Totals) {to : Totals} (out : LevelLists)
    {new : LevelLists} {ps : List Piece} {p : Piece} {now : Pieces} → Fill asked input all at out ps
    → IsTaken now ps p → to ≡ totals_with at p → new ≡ with_piece asked input p at out
    → Coming now (Fill asked input all to new)
levels_next all at out left taken with laid = grind arith

module _ (asked : Dimension) (row : List ℕ) (from : Totals) (before : LevelSlices)
    (fits : HasRoomFor asked row from before) (short : length before.words.now < 2 ^ 63)
    (short' : length before.ring_ends.now < 2 ^ 63) (short'' : length before.single_ends.now < 2 ^ 63) where
  -- in front of the first piece
  pub levels_fill : (g : HasGeometry row)
      → Fill asked row (with_levels asked (subjects g.spelled g.value) from (levels_of before)) from (levels_of before)
      (all_pieces g)
  levels_fill g =
      let room = fits g in
      let xs = subjects g.spelled g.value in
      let rings = flat_map ring_counts xs in
      let singles : single_ends from.rings xs ≡ ends from.rings (flat_map single_counts xs) =
      rw (append-nil xs) at (geometry_ends g.spelled g.value [] (λ at. refl) from.rings) in
      fill asked row _ 0 xs from (levels_of before) (all_placed row 0 g.spelled g.value g.begins)
      (grind (arith, width, subjects_words))
      (record { short = short'; room = omega (arith, ends_length from.coordinates rings); written = refl })
      (grind (arith, singles, ends_length))

  -- which fits
  pub first_fits : {first : Piece} → IsPieceAt row 0 first → HasGeometry row
      → PieceFits asked row first from (levels_of before)
  first_fits is g = rw (is g) (rw (itself_first g.spelled g.value) at (levels_fill g)).0

  -- behind it the walk begins
  pub walk_begins : {first : Piece} {w : Pieces} {to : Totals} {new : LevelSlices}
      → ((g : HasGeometry row) → IsTaken w (all_pieces g) first) → to ≡ totals_with from first
      → levels_of new ≡ with_piece asked row first from (levels_of before) → AreSameSlices before new
      → Walks asked row from before w to new
  walk_begins steps with laid same =
      record { left = λ g. levels_next _ _ _ (levels_fill g) (steps g) with laid; same_slices = same }

module _ {asked : Dimension} {row : List ℕ} {from at : Totals} {before out : LevelSlices} {w : Pieces}
    (walk : Walks asked row from before w at out) where
  -- the next piece fits
  pub piece_fits : {now : Pieces} {p : Piece} → ((ps : List Piece) → IsAhead w ps → IsTaken now ps p)
      → HasGeometry row → PieceFits asked row p at (levels_of out)
  piece_fits steps g = let l = walk.left g in (rw (steps l.ps l.ahead).first at l.left).0

  -- behind it the walk goes on
  pub walk_on : {now : Pieces} {p : Piece} {to : Totals} {new : LevelSlices}
      → ((ps : List Piece) → IsAhead w ps → IsTaken now ps p) → to ≡ totals_with at p
      → levels_of new ≡ with_piece asked row p at (levels_of out) → AreSameSlices out new
      → Walks asked row from before now to new
  walk_on steps with laid same = record {
    left = λ g. let l = walk.left g in levels_next _ _ _ l.left (steps l.ps l.ahead) with laid;
    same_slices = stay_same same walk.same_slices;
  }

  -- where no piece was taken it is where it was
  pub walk_stays : {now : Pieces} → now ≡ w → Walks asked row from before now at out
  walk_stays same = subst (λ v. Walks asked row from before v at out) (sym same) walk

  -- and where no piece is left it ends
  pub walk_ends : ((ps : List Piece) → IsAhead w ps → ps ≡ []) → LaysLevels asked row from before out
  walk_ends none = λ g. let l = walk.left g in rw (none l.ps l.ahead) at l.left

-- ---- a geometry with one member

-- it gives no level anything itself
nothing_own : (asked : Dimension) (s : Spelling) (t : Value) → nat_lt (kind t) 4 ≡ false
    → (ring_counts (whole s t) ≡ []) × (single_counts (whole s t) ≡ []) × (asked_subject_words asked (whole s t) ≡ [])
nothing_own asked s t high = grind arith

module _ {buf bytes : List ℕ} (g : HasGeometry buf) (only : OnlyMember g.spelled g.value bytes) (from : Totals)
    (asked : Dimension) where
  abbrev its : List Subject
  its = subjects only.member.spelled only.member.value

  all_its : (f : Subject → List ℕ) → f (whole g.spelled g.value) ≡ []
      → flat_map f (subjects g.spelled g.value) ≡ flat_map f its
  all_its f none = ap (flat_map f) only.are ∙ ap (λ ns. ns ++ flat_map f its) none

  rings : flat_map ring_counts (subjects g.spelled g.value) ≡ flat_map ring_counts its
  rings = all_its ring_counts (nothing_own asked g.spelled g.value only.high).0

  singles : flat_map single_counts (subjects g.spelled g.value) ≡ flat_map single_counts its
  singles = all_its single_counts (nothing_own asked g.spelled g.value only.high).1

  -- so its levels are those of its member
  pub member_levels : (out : LevelLists)
      → with_levels asked its from out ≡ with_levels asked (subjects g.spelled g.value) from out
  member_levels out =
      let words = all_its (asked_subject_words asked) (nothing_own asked g.spelled g.value only.high).2 in
      grind (arith, width, rings, singles)

  -- and there is room for the one where there is for the other
  pub member_fits : (out : LevelLists) → HasRoomUpTo asked out (totals_after from (subjects g.spelled g.value))
      → (m : HasGeometry bytes) → HasRoomUpTo asked out (totals_after from (subjects m.spelled m.value))
  member_fits out room m =
      let own = only.member in
      let same = one_spelling own.spelled m.spelled own.value m.value own.begins.front m.begins.front own.rest m.rest
      own.begins.first m.begins.first (sym own.begins.whole ∙ m.begins.whole) in
      let after : totals_after from (subjects g.spelled g.value) ≡ totals_after from its = grind arith in grind arith
