-- At most one front.
use Rattle.std.proofs.Common.{◌≡◌, ℕ, max, List, ◌++◌, sym, ap, ◌∙◌, arith}
use Rattle.wkb_laws.specs.Prelude.{Value, nest, Spelling, Spells, any, Item, geometry_at}
use Rattle.wkb_geom.specs.Reading as reading
use Rattle.wkb_laws.specs.Laws.{HasOneFront}
use Rattle.wkb_laws.proofs.Complete.{found, front_at}

-- two readings of a geometry are one
pub record SameSpelling (s u : Spelling) (t v : Value) (x y r q : List ℕ) : Type 0 where
  pub spelling : s ≡ u
  pub value : t ≡ v
  pub encoding : x ≡ y
  pub rest : r ≡ q

pub one_spelling : (s u : Spelling) (t v : Value) (x y r q : List ℕ) → Spells s t x → Spells u v y → x ++ r ≡ y ++ q
    → SameSpelling s u t v x y r q
one_spelling s u t v x y r q a b e =
    let room = max (nest t) (nest v) in
    let both : found s t x r ≡ found u v y q =
    sym (front_at room any tt s t x r a (omega arith) tt) ∙ ap (geometry_at room) e
    ∙ front_at room any tt u v y q b (omega arith) tt in
    let answers : ◌≡◌ {A = reading.Outcome Item} (found s t x r).1 (found u v y q).1 = grind arith in
    grind arith

pub one_front_lem : HasOneFront
one_front_lem input s u t v rest more a b = grind (arith, one_spelling)
