-- Encodings that are appended to a sink one after another.
use Rattle.wkb_sink.proofs.Prelude.{◌≡◌, ℕ, ◌≤◌, List, ◌++◌, length, take, drop, Option, append_assoc}
use Rattle.wkb_sink.proofs.Prelude.{arith, length-drop, take_all, take-append-drop, ◌-◌, Appends, IsWritten}
use Rattle.std.proofs.KnownBytes.{Appends-trans, Appends-nil}

pub ruleset nothing_appended = (Appends-nil)

pub written_more : {a b c : Option (List ℕ)} {s : List ℕ} (t : List ℕ) → IsWritten a b s → Appends b c t
    → IsWritten a c (s ++ t)
written_more t p q = record { appended = Appends-trans _ _ _ _ _ p.appended q }

-- the part that was taken, and what is left
pub taken : (all front rest : List ℕ) (n : ℕ) → all ≡ front ++ rest → n ≤ length rest
    → all ≡ (front ++ take n rest) ++ take (length rest - n) (drop n rest)
taken all front rest n is h = grind (arith, take-append-drop, append_assoc, take_all, length-drop)
