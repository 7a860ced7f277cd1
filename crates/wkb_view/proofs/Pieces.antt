-- Parts of one form one after another, by the offsets at which they end.
use Rattle.wkb_view.proofs.Prelude.{◌≡◌, length-append, length-drop, length-take, option_map, length-map, slice_get-map}
use Rattle.wkb_view.proofs.Prelude.{zero, Option, length, slice_get, drop-drop, drop-take, Reading, consumed, next_turn}
use Rattle.wkb_view.proofs.Prelude.{List, take, drop, Some, None, subst, get_or, arith, pieces, Passed, Counts, Spent}
use Rattle.wkb_view.proofs.Prelude.{ℕ, suc, ◌-◌, ◌+◌, ◌≤◌, ◌<◌, [], ◌∷◌, map, refl, sym, ap, ◌∙◌, ◌/◌, ◌*◌, ◌++◌, Ok}
use Rattle.std.proofs.lemmas.List.{take-take}
use Rattle.std.proofs.lemmas.Option.{slice_get_past}
use Rattle.wkb_view.specs.Pieces.{ArePieces, AreInOrder, IsPiece}
use Rattle.wkb_view.proofs.Lists.{Loop, next_part, parts_end}

-- ---- the part at an index

-- it goes from s to t
pub record Between (start : ℕ) (ends encoding : List ℕ) (i s t : ℕ) : Type 0 where
  pub ordered : s ≤ t
  pub within : s + (t - s) ≤ length encoding
  pub item : slice_get (pieces start ends encoding) i ≡ Some (take (t - s) (drop s encoding))

between : (start : ℕ) (ends encoding : List ℕ) (i : ℕ) → AreInOrder start ends encoding → i < length ends
    → Between start ends encoding i (get_or (start ∷ ends) i 0) (get_or ends i 0)
between start [] encoding i h lt = absurd (omega arith)
between start (x ∷ ends) encoding zero h lt = grind arith
between start (x ∷ ends) encoding (suc i) h lt = grind (arith, between x ends encoding i h.1 (omega arith))

pub part_is : (start : ℕ) (ends encoding : List ℕ) (i s : ℕ) → AreInOrder start ends encoding → i < length ends
    → s ≡ get_or (start ∷ ends) i 0
    → Between start ends encoding i s (get_or ends i 0)
part_is start ends encoding i s stand lt s-is = grind (arith, between start ends encoding i stand lt)

pieces_counted : (start : ℕ) (ends encoding : List ℕ) → length (pieces start ends encoding) ≡ length ends
pieces_counted start [] encoding = refl
pieces_counted start (x ∷ ends) encoding = ap suc (pieces_counted x ends encoding)

pub pieces_past : (start : ℕ) (ends encoding : List ℕ) (i : ℕ) → length ends ≤ i
    → None ≡ slice_get (pieces start ends encoding) i
pieces_past start ends encoding i h = grind (arith, slice_get_past, pieces_counted)

pub parts_counted : {A : Type 0} (seen : List ℕ → A) (start : ℕ) (ends encoding : List ℕ)
    → length (map seen (pieces start ends encoding)) ≡ length ends
parts_counted seen start ends encoding = grind (arith, length-map, pieces_counted)

-- ---- by the part that is handed out

-- parts of one form follow one another
pub in_order : (P : List ℕ → Type 0) (start : ℕ) (ends encoding : List ℕ) → ArePieces P start ends encoding
    → AreInOrder start ends encoding
in_order P start [] encoding h = h
in_order P start (x ∷ ends) encoding h = grind (arith, in_order P x ends encoding h.1)

-- the part that is handed out has the form
pub piece_form : (P : List ℕ → Type 0) (start : ℕ) (ends encoding : List ℕ) (i : ℕ) (t : List ℕ)
    → ArePieces P start ends encoding
    → Some t ≡ slice_get (pieces start ends encoding) i → P t
piece_form P start [] encoding i t h e = absurd cc
piece_form P start (x ∷ ends) encoding zero t h e = grind arith
piece_form P start (x ∷ ends) encoding (suc i) t h e = piece_form P x ends encoding i t h.1 e

-- and is seen as the item at its index
pub piece_seen : {A : Type 0} (seen : List ℕ → A) (start : ℕ) (ends encoding : List ℕ) (i : ℕ) (o : Option (List ℕ))
    → o ≡ slice_get (pieces start ends encoding) i
    → option_map seen o ≡ slice_get (map seen (pieces start ends encoding)) i
piece_seen seen start ends encoding i o e = grind (arith, slice_get-map)

pub ruleset part_laws = (part_is, pieces_past)

pub ruleset piece_laws = (in_order, piece_form, piece_seen)

-- ---- one piece more

-- where the last of the parts ends
abbrev pub last_end : ℕ → List ℕ → ℕ
last_end start [] = start
last_end start (end ∷ ends) = last_end end ends

last_end-push : (start : ℕ) (ends : List ℕ) (end : ℕ) → last_end start (ends ++ end ∷ []) ≡ end
last_end-push start [] end = refl
last_end-push start (e ∷ ends) end = last_end-push e ends end

pieces-push : {A : Type 0} (seen : List ℕ → A) (start : ℕ) (ends : List ℕ) (end : ℕ) (encoding : List ℕ)
    → map seen (pieces start (ends ++ end ∷ []) encoding)
    ≡ map seen (pieces start ends encoding)
    ++ seen (take (end - last_end start ends) (drop (last_end start ends) encoding)) ∷ []
pieces-push seen start [] end encoding = refl
pieces-push {A = A} seen start (e ∷ ends) end encoding = grind (arith, pieces-push seen e ends end encoding)

ArePieces-push : (P : List ℕ → Type 0) (start : ℕ) (ends : List ℕ) (end : ℕ) (encoding : List ℕ)
    → ArePieces P start ends encoding
    → IsPiece P (last_end start ends) end encoding → ArePieces P start (ends ++ end ∷ []) encoding
ArePieces-push P start [] end encoding h r = (r, r.within)
ArePieces-push P start (x ∷ ends) end encoding h r = (h.0, ArePieces-push P x ends end encoding h.1 r)

-- ---- the same over the encoding that was taken

pub drop-of-take : (start n : ℕ) (xs : List ℕ) → start ≤ n → drop start (take n xs) ≡ take (n - start) (drop start xs)
drop-of-take start n xs h = grind (arith, drop-take start (n - start) xs)

start-le-last_end : (P : List ℕ → Type 0) (start : ℕ) (ends encoding : List ℕ) → ArePieces P start ends encoding
    → start ≤ last_end start ends
start-le-last_end P start [] encoding h = omega arith
start-le-last_end P start (x ∷ ends) encoding h = omega (arith, start-le-last_end P x ends encoding h.1)

pieces-take : (P : List ℕ → Type 0) (start : ℕ) (ends : List ℕ) (n : ℕ) (encoding : List ℕ)
    → ArePieces P start ends encoding → last_end start ends ≤ n
    → (pieces start ends (take n encoding) ≡ pieces start ends encoding) × ArePieces P start ends (take n encoding)
pieces-take P start [] n encoding h le = (refl, omega (arith, length-take n encoding))
pieces-take P start (x ∷ ends) n encoding h le =
    grind (arith, start-le-last_end, drop-of-take, take-take, length-take, pieces-take P x ends n encoding h.1 le)

-- after i of the parts, each seen by its encoding
pub record SoFar {A : Type 0} (least : ℕ) (P : List ℕ → Type 0) (seen : List ℕ → A) (part : List ℕ → Reading A)
    (start count i : ℕ) (bytes ends rest : List ℕ)
    (began now : Counts) (whole : Reading (List A)) : Type 0 where
  pub left : Loop part count i (map seen (pieces start ends bytes)) rest began now whole
  pub stand : ArePieces P start ends bytes
  pub rest_is : rest ≡ drop (last_end start ends) bytes
  pub within : last_end start ends ≤ length bytes
  pub taken_in_all : least * length ends + length rest + start ≤ length bytes
  pub as_many : length ends ≡ i

module _ {A : Type 0} {least : ℕ} {P : List ℕ → Type 0} {seen : List ℕ → A} {part : List ℕ
    → Reading A} {start count : ℕ} {bytes : List ℕ}
    {began old : Counts} {i : ℕ} {ends rest : List ℕ} {whole : Reading (List A)} where
  pub pieces_next : (after : List ℕ) (new : Counts) → 4 ≤ least → i < count
      → SoFar least P seen part start count i bytes ends rest began old whole
      → (part rest).1 ≡ Ok (seen (consumed rest after), after) → Spent (next_turn old) new (part rest).0
      → Passed least P rest after
      → SoFar least P seen part start count (i + 1) bytes
      (ends ++ (length bytes - length after) ∷ []) after began new whole
  pieces_next after new four lt so_far is spent passed =
      let last = last_end start ends in
      let end = length bytes - length after in
      let size = length rest - length after in
      let long : length rest ≡ length bytes - last = ap length so_far.rest_is ∙ length-drop last bytes in
      let end_is : end ≡ last + size = omega arith in
      let same_piece : take (end - last) (drop last bytes) ≡ consumed rest after = grind arith in
      let pushed : map seen (pieces start (ends ++ end ∷ []) bytes)
      ≡ map seen (pieces start ends bytes) ++ seen (consumed rest after) ∷ [] = grind (arith, pieces-push, pieces) in
      let piece : IsPiece P last end bytes =
      record { ordered = omega arith; within = omega arith; form = subst P (sym same_piece) passed.form } in
      let end_at = last_end-push start ends end in
      let more : length (ends ++ end ∷ []) ≡ length ends + 1 = length-append ends (end ∷ []) in
      record {
        left = rw pushed (next_part lt so_far.left new (seen (consumed rest after)) after is spent);
        stand = ArePieces-push P start ends end bytes so_far.stand piece;
        rest_is = passed.rest_is ∙ ap (λ (b : List ℕ). drop size b) so_far.rest_is ∙ drop-drop size last bytes
            ∙ ap (λ (n : ℕ). drop n bytes) (sym end_is ∙ sym end_at);
        within = rw end_at (omega arith);
        taken_in_all = rw more (omega arith);
        as_many = omega arith;
      }

  -- what was read, in the encoding that was taken
  pub pieces_read : count ≤ i → SoFar least P seen part start count i bytes ends rest began old whole
      → (whole.1 ≡ Ok (map seen (pieces start ends (consumed bytes rest)), rest)) × Spent began old whole.0
      × ArePieces P start ends (consumed bytes rest)
  pieces_read le so_far =
      let last = last_end start ends in
      let cut : length bytes - length rest ≡ last = grind (arith, length-drop) in
      let end = parts_end le so_far.left in
      let taken_out = pieces-take P start ends last bytes so_far.stand (omega arith) in
      (rw (cut, taken_out.0) end.0, end.1, rw cut taken_out.1)

-- where another part fits, its end has a slot
pub parts_fit : (least n passed rest start all : ℕ) → 0 < least → least * n + rest + start ≤ all
    → least + passed ≤ rest → n < (all - start) / least
parts_fit least n passed rest start all some so_far more = grind arith
