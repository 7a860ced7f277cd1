-- What holds of one row of a column: it has one list of bytes, and no two answers.
use Rattle.std.proofs.Common.{arith, rules}
use Rattle.wkb_abi.proofs.Common.{◌≡◌, ℕ, List, IsAccepted, IsRow, IsRefusedWith, Column}
use Rattle.wkb_laws.proofs.Outcomes.{never_both_lem}
use Rattle.wkb_abi.specs.Columns.{LacksRow, null_row, bad_offsets}

-- a row has one list of bytes
pub one_row : {c : Column} {i : ℕ} {a b : List ℕ} → IsRow c i a → IsRow c i b → a ≡ b
one_row {c} x y = grind arith

pub never_lacks : {c : Column} {i status : ℕ} {row : List ℕ} → IsRow c i row → LacksRow c i status → ⊥
never_lacks is (null_row null is_status) = cc
never_lacks is (bad_offsets some none is_status) = none _ is.slice

-- what is accepted isn't rejected
pub never_refused : {row : List ℕ} {status : ℕ} → IsAccepted row → IsRefusedWith row status → ⊥
never_refused {row} a why = search (rules, never_both_lem)
