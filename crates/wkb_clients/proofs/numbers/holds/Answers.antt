use Rattle.std.proofs.Common.{◌≡◌, Bool, true, false, ◌&&◌, refl, arith}
use Rattle.std.specs.Prelude.{T}
use Rattle.wkb.specs.Order.{between, is_number}
use Rattle.wkb_clients.proofs.numbers.holds.Goals as goal

both : (a b : Bool) → T a → T b → (a && b) ≡ true
both true true p q = refl
both true false p q = absurd q
both false b p q = absurd p

pub float_from_bits-number : goal.float_from_bits-number
float_from_bits-number c = is_number _ c.requires.number

pub float_from_bits-result : goal.float_from_bits-result
float_from_bits-result c = is_number _ c.requires.numbers.least

pub float_from_bits-result-2 : goal.float_from_bits-result-2
float_from_bits-result-2 c = is_number _ c.requires.numbers.greatest

pub returns : goal.returns
returns c =
    let lies = between c.args.range c.args.word (omega arith) (omega arith) (omega arith) c.requires.numbers
    c.requires.number c.requires.within in
    both _ _ lies.least lies.greatest
