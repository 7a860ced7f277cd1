-- The words of a geometry's pieces: they widen a range as the words of its value do.
use Rattle.std.proofs.Common.{◌≡◌, ℕ, zero, suc, ◌+◌, ◌*◌, ◌≤◌, List, [], ◌∷◌, ◌++◌, length, take, drop, arith}
use Rattle.std.proofs.Common.{true, false, nat_lt, refl, sym, ap, ◌∙◌, append-nil, append_assoc, subst, Some, None}
use Rattle.std.proofs.Common.{Option}
use Rattle.std.proofs.lemmas.Bool.{cond-true, cond-false}
use Rattle.std.specs.Cmp.{first_so, second_so}
use Rattle.wkb_geom.specs.Numbers.{is_nan}
use Rattle.wkb_laws.specs.Prelude.{Endianness, Dimension, all_nan, width, Coordinate, Value, Values, point, line_string}
use Rattle.wkb_laws.specs.Prelude.{polygon, no_members, member, each, members, kind, Spelling, node, Spellings}
use Rattle.wkb_laws.specs.Prelude.{no_spellings, spelling, Spells, SpellsEach, Wanted, coordinates}
use Rattle.wkb_check.specs.Prelude.{HasGeometry, Subject, whole, dimension_in, subject_coordinates}
use Rattle.wkb_check.specs.declared.{pieces.Piece.Piece, pieces.Pieces.Pieces}
use Rattle.wkb_check.specs.Prelude.{subjects, subjects_of_rings, subjects_of_each}
use Rattle.wkb_bounds.specs.declared.{range.Range.Range, range.Bounds.Bounds, axes.AxisExtremes.AxisExtremes}
use Rattle.wkb_bounds.specs.Ranges.{widened, range_of, no_numbers}
use Rattle.wkb_bounds.specs.Ordinates.{Axis, axis_place, word_at, words_of_each, words_in, words_on, words_on_each}
use Rattle.wkb_bounds.specs.Bounded.{on, nothing, AreBounds, bounds_by}
use Rattle.wkb_bounds.specs.Walking.{piece_words, CountsUpTo, WidensByPiece, HasWidened}
use Rattle.wkb_check.specs.Pieces.{pieces_of, piece_of, own_end, IsNext, Steps, OnlyMember, HasAll, HasAhead, IsBehind}
use Rattle.wkb_bounds.proofs.Widening.{widened-append}
use Rattle.wkb_check.proofs.Placing.{only_piece}
use Rattle.wkb_check.proofs.Subjects.{ArePiecesOf, pieces_match}

-- of a piece with coordinates its words, and where they end; other pieces have none
pub leaf_words : (a : Axis) (buf : List ℕ) (p : Piece) → nat_lt p.kind 3 ≡ true
    → piece_words a buf p ≡ words_in a p.dimension (coordinates p.order p.dimension p.count (drop p.offset buf))
leaf_words a buf p leaf = ap (words_in a p.dimension) (cond-true (nat_lt p.kind 3) _ _ leaf)

pub leaf_end : (p : Piece) → nat_lt p.kind 3 ≡ true → own_end p ≡ p.offset + 8 * width p.dimension * p.count
leaf_end p leaf = cond-true (nat_lt p.kind 3) _ _ leaf

pub no_words : (a : Axis) (buf : List ℕ) (p : Piece) → nat_lt p.kind 3 ≡ false → piece_words a buf p ≡ []
no_words a buf p high = ap (words_in a p.dimension) (cond-false (nat_lt p.kind 3) _ _ high)

words_append : {A : Type 0} (f : A → List ℕ) (xs ys : List A)
    → words_of_each f (xs ++ ys) ≡ words_of_each f xs ++ words_of_each f ys
words_append f [] ys = refl
words_append f (x ∷ xs) ys = simp (words_append f xs ys, append_assoc)

-- ---- points

no_number : (r : Range) (ws : List ℕ) (k : ℕ) → all_nan ws ≡ true → widened r (take 1 (drop k ws)) ≡ r
no_number r [] zero e = refl
no_number r [] (suc k) e = refl
no_number r (w ∷ ws) zero e = cond-true (is_nan w) _ _ (first_so (is_nan w) (all_nan ws) e)
no_number r (w ∷ ws) (suc k) e = no_number r ws k (second_so (is_nan w) (all_nan ws) e)

-- the words of an empty point widen no range
empty_words : (r : Range) (p : Option ℕ) (ws : List ℕ) → all_nan ws ≡ true → widened r (word_at p ws) ≡ r
empty_words r p ws e = grind (arith, no_number)

each_words : {A : Type 0} (a : Axis) (f : A → Value) (own : A → List ℕ) → ((x : A) → words_on a (f x) ≡ own x)
    → (l : List A)
    → words_on_each a (each f l) ≡ words_of_each own l
each_words a f own same [] = refl
each_words a f own same (x ∷ l) = let others = each_words a f own same l in λ i. same x i ++ others i

-- the words of members are those of the value
member_words : (a : Axis) (t : Value) → nat_lt (kind t) 4 ≡ false → words_on_each a (members t) ≡ words_on a t
member_words a t high = grind (arith, each_words)

-- ---- a geometry and its members

-- the words of a subject's own coordinates on an axis
abbrev subject_words : Axis → Subject → List ℕ
subject_words a x = words_in a (dimension_in x) (subject_coordinates x)

same_words : (a : Axis) (buf : List ℕ) (ps : List Piece) (xs : List Subject) → ArePiecesOf buf ps xs
    → words_of_each (piece_words a buf) ps ≡ words_of_each (subject_words a) xs
same_words a buf [] [] m = refl
same_words a buf (p ∷ ps) (x ∷ xs) m =
    λ i. words_in a (m.0.dimension_is i) (m.0.coordinates_are i) ++ same_words a buf ps xs m.1 i
same_words a buf _ _ m = absurd m

rings_words : (a : Axis) (order : Endianness) (d : Dimension) (rings : List (List Coordinate))
    → words_of_each (subject_words a) (subjects_of_rings order d rings ++ []) ≡ words_of_each (words_in a d) rings
rings_words a order d [] = refl
rings_words a order d (cs ∷ rings) = ap (λ z. words_in a d cs ++ z) (rings_words a order d rings)

mutual
  value_words : (a : Axis) (s : Spelling) (t : Value) (x : List ℕ) → Spells s t x → (r : Range)
      → widened r (words_of_each (subject_words a) (subjects s t)) ≡ widened r (words_on a t)
  value_words a (node h words ss) (point d None) x sp r =
      simp append-nil (empty_words r (axis_place a d) words sp.second.first.0)
  value_words a (node h words ss) (point d (Some c)) x sp r = simp append-nil
  value_words a (node h words ss) (line_string d cs) x sp r = simp append-nil
  value_words a (node h words ss) (polygon d rings) x sp r = ap (widened r) (rings_words a h.order d rings)
  value_words a (node h words ss) t x sp r =
      members_words a _ ss (members t) sp.second.rest sp.second.second r ∙ ap (widened r) (member_words a t refl)

  members_words : (a : Axis) (w : Wanted) (ss : Spellings) (ts : Values) (x : List ℕ) → SpellsEach w ss ts x
      → (r : Range)
      → widened r (words_of_each (subject_words a) (subjects_of_each ss ts)) ≡ widened r (words_on_each a ts)
  members_words a w no_spellings no_members x h r = refl
  members_words a w (spelling s ss) (member t ts) x h r =
      simp (words_append, widened-append)
      (ap (λ q. widened q (words_of_each (subject_words a) (subjects_of_each ss ts)))
      (value_words a s t h.front h.first.0 r) ∙ members_words a w ss ts h.rest h.second (widened r (words_on a t)))
  members_words a w _ _ x h r = absurd h

no_subject_words : (a : Axis) (s : Spelling) (t : Value) → nat_lt (kind t) 4 ≡ false
    → subject_words a (whole s t) ≡ []
no_subject_words a s t high = grind arith

-- a geometry with one member has the bounds of that member
pub member_bounds : {buf bytes : List ℕ} (g : HasGeometry buf) (only : OnlyMember g.spelled g.value bytes) (b : Bounds)
    → AreBounds b only.member.value → AreBounds b g.value
member_bounds g only b are a =
    let m = only.member in
    are a ∙ sym (value_words a m.spelled m.value m.begins.front m.begins.first no_numbers)
    ∙ ap (λ ws. widened no_numbers (ws ++ words_of_each (subject_words a) (subjects m.spelled m.value)))
    (sym (no_subject_words a g.spelled g.value only.high))
    ∙ ap (λ xs. widened no_numbers (words_of_each (subject_words a) xs)) (sym only.are)
    ∙ value_words a g.spelled g.value g.begins.front g.begins.first no_numbers

-- the words of all pieces
all_words : (a : Axis) (buf : List ℕ) (g : HasGeometry buf)
    → widened no_numbers (words_of_each (piece_words a buf) (pieces_of 0 g.spelled g.value))
    ≡ range_of (words_on a g.value)
all_words a buf g =
    ap (widened no_numbers)
    (same_words a buf (pieces_of 0 g.spelled g.value) _ (pieces_match buf 0 g.spelled g.value g.begins))
    ∙ value_words a g.spelled g.value g.begins.front g.begins.first no_numbers

-- a geometry with coordinates is one piece, and its words are that piece's
pub one_words : (a : Axis) (buf : List ℕ) (g : HasGeometry buf) (p : Piece) → p ≡ piece_of 0 g.spelled g.value
    → nat_lt p.kind 3 ≡ true
    → widened no_numbers (words_in a p.dimension (coordinates p.order p.dimension p.count (drop p.offset buf)))
    ≡ range_of (words_on a g.value)
one_words a buf g p is low =
    ap (widened no_numbers) (sym (leaf_words a buf p low) ∙ sym (append-nil (piece_words a buf p)))
    ∙ ap (λ ps. widened no_numbers (words_of_each (piece_words a buf) ps))
    (sym (only_piece buf 0 g p is low))
    ∙ all_words a buf g

-- ---- the loop over the pieces

pub on_nothing : (a : Axis) → on a nothing ≡ no_numbers
on_nothing a = grind arith

pub none_counted : (a : Axis) → (on a nothing).count ≡ 0
none_counted a = ap (λ (r : Range). r.count) (on_nothing a)

-- one piece more, after these
pub widened_push : (a : Axis) (buf : List ℕ) (r : Range) (ps : List Piece) (p : Piece) (q : Range)
    → q ≡ widened r (words_of_each (piece_words a buf) ps)
    → widened q (piece_words a buf p) ≡ widened r (words_of_each (piece_words a buf) (ps ++ p ∷ []))
widened_push a buf r ps p q e = simp (e, words_append, append-nil, widened-append)

-- all pieces
pub all_widened : (buf : List ℕ) (b : Bounds) (ps : List Piece) (g : HasGeometry buf)
    → pieces_of 0 g.spelled g.value ≡ ps
    → ((a : Axis) → on a b ≡ widened (on a nothing) (words_of_each (piece_words a buf) ps)) → AreBounds b g.value
all_widened buf b ps g all widens = λ a. rw (widens a, on_nothing a, ← all) (all_words a buf g)

-- ---- a walk over the pieces

none_few : (n : ℕ) (k : AxisExtremes) → bounds_by k ≡ nothing → CountsUpTo n k
none_few n k none a = omega (arith, ap (λ b. (on a b).count) none, none_counted a)

module _ {buf : List ℕ} where
  pub walk_starts : {w : Pieces} {k : AxisExtremes} → HasAll buf w → bounds_by k ≡ nothing → HasWidened buf w k
  walk_starts {w} {k} all none = record {
    so_far = λ g. record {
      passed = [];
      left = _;
      all = refl;
      ahead = all.ahead g;
      widens = λ a. ap (on a) none;
    };
    same = all.same;
    few = none_few w.at k none;
    inside = omega (arith, all.begins);
  }

  -- the first piece has no coordinates
  pub walk_behind : {w : Pieces} {first : Piece} {k : AxisExtremes} → IsBehind buf first w
      → nat_lt first.kind 3 ≡ false → bounds_by k ≡ nothing → HasWidened buf w k
  walk_behind {w} {first} {k} behind high none = record {
    so_far = λ g. let taken = behind.steps g in record {
      passed = first ∷ [];
      left = taken.rest;
      all = taken.first;
      ahead = taken.ahead;
      widens = grind (arith, no_words);
    };
    same = behind.same;
    few = none_few w.at k none;
    inside = behind.inside.inside;
  }

  pub walk_ahead : {w : Pieces} {k : AxisExtremes} → HasGeometry buf → HasWidened buf w k → HasAhead w
  walk_ahead g x = record { pieces = _; are = (x.so_far g).ahead }

  pub walk_few : {old new : Pieces} {k : AxisExtremes} {p : Piece} → HasWidened buf old k → Steps old (Some p) new
      → CountsUpTo p.offset k
  walk_few x s a = omega (arith, x.few a, s.inside.begins)

  pub walk_inside : {old new : Pieces} {k : AxisExtremes} {p : Piece} → HasWidened buf old k → Steps old (Some p) new
      → own_end p ≤ length buf
  walk_inside x s = omega (arith, s.inside.ends, s.inside.inside, ap length x.same)

  pub walk_goes : {old new : Pieces} {k now : AxisExtremes} {p : Piece} → HasWidened buf old k
      → Steps old (Some p) new → WidensByPiece buf p k now → HasWidened buf new now
  walk_goes {p = p} x s w = record {
    so_far = λ g.
        let f = x.so_far g in
        let taken = s.steps f.left f.ahead in
        record {
          passed = f.passed ++ p ∷ [];
          left = taken.rest;
          all = f.all ∙ ap (λ ps. f.passed ++ ps) taken.first ∙ sym (append_assoc f.passed (p ∷ []) taken.rest);
          ahead = taken.ahead;
          widens = λ a. w.widens a ∙ widened_push a buf (on a nothing) f.passed p _ (f.widens a);
        };
    same = s.same ∙ x.same;
    few = λ a. omega (arith, w.few a, s.inside.ends);
    inside = omega (arith, s.inside.inside, ap length x.same);
  }

  pub walk_stays : {old new : Pieces} {k : AxisExtremes} → HasWidened buf old k → new ≡ old → HasWidened buf new k
  walk_stays {k = k} x is = subst (λ w. HasWidened buf w k) (sym is) x

  pub walk_ends : {old new : Pieces} {k : AxisExtremes} {r : Option Piece} {b : Bounds} → HasWidened buf old k
      → r ≡ None → Steps old r new → b ≡ bounds_by k → (g : HasGeometry buf) → AreBounds b g.value
  walk_ends {new = new} {k} x none s is g =
      let f = x.so_far g in
      let all = f.all ∙ ap (λ ps. f.passed ++ ps) (subst (IsNext new f.left) none (s.steps f.left f.ahead))
      ∙ append-nil f.passed in
      subst (λ b. AreBounds b g.value) (sym is) (all_widened buf (bounds_by k) f.passed g all f.widens)
