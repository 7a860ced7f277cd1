-- Lemmas: having one value is an equivalence of inputs, in which a rewriting and its input are; it keeps the bounds.
use Rattle.std.proofs.Common.{ℕ, List, [], arith, append-nil}
use Rattle.wkb.specs.Prelude.{AreBytes, Endianness, Form}
use Rattle.wkb.specs.Encodings.{IsForm, IsRewriting}
use Rattle.wkb.specs.Canonical.{IsAccepted, HaveOneValue}
use Rattle.wkb.specs.Checks.{Bounds, BoundsFront}
use Rattle.wkb.specs.Known.{has_one_front, rewriting_is_read}

-- An input has one value with itself.
pub same_reflexive : {a : List ℕ} → IsAccepted a → HaveOneValue a a
same_reflexive h = grind arith

-- It doesn't matter which of two is named first.
pub same_symmetric : {a b : List ℕ} → HaveOneValue a b → HaveOneValue b a
same_symmetric h = grind arith

-- Two that have one value with a third have one.
pub same_transitive : {a b c : List ℕ} → HaveOneValue a b → HaveOneValue b c → HaveOneValue a c
same_transitive {b = b} h k = grind (arith, has_one_front b k.s h.u k.t h.t k.rest h.more k.first h.second)

-- A rewriting, such as what `canonical` returns, has one value with its input.
pub same_as_rewriting : (order : Endianness) (form : Form) {input out : List ℕ} → IsForm form → AreBytes input
    → IsRewriting order form input out → HaveOneValue input out
same_as_rewriting order form {input = input} fits bytes r =
    let read = rewriting_is_read order form input r.s r.t r.rest [] fits bytes r.front in
    grind (arith, append-nil)

-- The bounds of an input are those of each that has one value with it.
pub bounds_of_same : {a b : List ℕ} {found : Bounds} → HaveOneValue a b → BoundsFront a found → BoundsFront b found
bounds_of_same {a = a} h f = grind (arith, has_one_front a f.spelled h.s f.value h.t f.rest h.rest f.front h.first)
