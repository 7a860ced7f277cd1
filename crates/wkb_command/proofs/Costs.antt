-- What reading cost, of the bytes that a text spells.
use Rattle.std.proofs.Common.{arith, ◌≡◌, ℕ, List, Option, Some, None, Result}
use Rattle.std.specs.Result.{result_err}
use Rattle.wkb_geom.specs.declared.{error.Cause.Cause, error.WkbError.WkbError}
use Rattle.wkb_geom.specs.declared.error.WkbError.TheVariants as errors
use Rattle.wkb_command.specs.Readings.{Accepts, IsRefused}
use Rattle.wkb.specs.Reads.{Wkb, Counts, Costs, Reads}
use Rattle.wkb_command.specs.Calls.{IsHexOf}

pub accepted_cost : (text bytes input : List ℕ) (r : Result Wkb WkbError) (counts : Counts) → IsHexOf text bytes
    → input ≡ bytes → Reads input r → Costs input r counts → result_err r ≡ None
    → (x : List ℕ) × IsHexOf text x × Accepts x counts.turns counts.slots
accepted_cost text bytes input r counts hex is reads costs none = grind arith

pub refused_cost : (text bytes input : List ℕ) (r : Result Wkb WkbError) (error : Option WkbError) (counts : Counts)
    (e : WkbError)
    → IsHexOf text bytes → input ≡ bytes → Reads input r → Costs input r counts → error ≡ result_err r → error ≡ Some e
    → ((x : _) → e ≡ errors.Memory x → ⊥)
    → (x : List ℕ) × IsHexOf text x × ((cause : Cause) × IsRefused x cause counts.turns counts.slots)
refused_cost text bytes input r error counts e hex is reads costs ends some other = grind arith
