-- The pieces that are to come, and what they say.
use Rattle.std.proofs.Common.{◌≡◌, ℕ, ◌≤◌, List, [], ◌∷◌, length, map, Option, Some, None, refl, sym, ap, ◌∙◌, rules}
use Rattle.std.proofs.Common.{subst, arith, ◌↔◌, IsTrue, is_some, Bool, true, false, not}
use Rattle.wkb_check.specs.Prelude.{HasGeometry}
use Rattle.wkb_check.specs.declared.{pieces.Piece.Piece, pieces.Pieces.Pieces}
use Rattle.wkb_check.specs.Pieces.{own_end, pieces_of, IsAhead, HasAhead, IsNext, Steps}
use Rattle.wkb_rewrite.specs.Shares.{Share, share_in}
use Rattle.wkb_rewrite.proofs.ValueShares.{shares_of}
use Rattle.wkb_rewrite.proofs.Spelled.{pieces_say}

-- the pieces to come of these bytes say these shares
pub record Rest (buf : List ℕ) (w : Pieces) (xs : List Share) : Type 0 where
  pub pieces : List Piece
  pub ahead : IsAhead w pieces
  pub bytes : w.bytes.now ≡ buf
  pub say : map (share_in buf) pieces ≡ xs

pub all_to_come : {buf : List ℕ} (g : HasGeometry buf) {w : Pieces} → IsAhead w (pieces_of 0 g.spelled g.value)
    → w.bytes.now ≡ buf → Rest buf w (shares_of g.spelled g.value)
all_to_come g ahead same = search (rules, pieces_say)

pub some_ahead : {buf : List ℕ} {w : Pieces} {xs : List Share} → Rest buf w xs → HasAhead w
some_ahead r = record { pieces = r.pieces; are = r.ahead }

-- one piece was taken: what it says comes first
pub record Next (buf : List ℕ) (new : Pieces) (xs : List Share) (p : Piece) : Type 0 where
  pub own : own_end p ≤ length buf
  pub others : List Share
  pub first : xs ≡ share_in buf p ∷ others
  pub left : Rest buf new others

pub next_taken : {buf : List ℕ} {old new : Pieces} {xs : List Share} {p : Piece} → Rest buf old xs
    → Steps old (Some p) new → Next buf new xs p
next_taken {buf = buf} r s =
    let one = s.steps r.pieces r.ahead in grind arith

pub nothing_ahead : {old new : Pieces} {ps : List Piece} {r : Option Piece} → IsAhead old ps → r ≡ None
    → Steps old r new → ps ≡ []
nothing_ahead {new = new} {ps = ps} ahead is s = subst (IsNext new ps) is (s.steps ps ahead)

pub none_taken : {buf : List ℕ} {old new : Pieces} {xs : List Share} {r : Option Piece} → Rest buf old xs → r ≡ None
    → Steps old r new → xs ≡ []
none_taken {buf = buf} r is s = sym r.say ∙ ap (map (share_in buf)) (nothing_ahead r.ahead is s)

-- nothing more comes exactly where nothing is to come
pub end_told : {buf : List ℕ} {old new : Pieces} {xs : List Share} (r : Option Piece) (ended : Bool) → Rest buf old xs
    → Steps old r new → is_some r ≡ not ended → IsTrue ended ↔ ([] ≡ xs)
end_told None true rest s is = (λ yes. sym (none_taken rest refl s), λ e. refl)
end_told (Some p) false rest s is = (
  λ yes. absurd cc,
  λ e. let some = e ∙ (next_taken rest s).first in absurd cc,
)
end_told _ _ rest s is = absurd cc
