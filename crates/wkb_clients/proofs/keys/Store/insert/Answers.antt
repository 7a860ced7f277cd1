use Rattle.std.proofs.Common.{◌++◌, ◌∷◌, [], ℕ, List, map, Vec, Global, true, false, refl, sym, ap, ◌∙◌, arith}
use Rattle.std.specs.Prelude.{bytes_eq}
use Rattle.std.specs.List.{list_any}
use Rattle.std.proofs.lemmas.List.{map-append}
use Rattle.wkb_clients.specs.Keys.{value_in}
use Rattle.wkb_clients.proofs.KeysFound.{inserts, is_its_own}
use Rattle.wkb_clients.proofs.keys.Store.insert.Goals as goal

-- the bytes of a key
abbrev bytes_of : Vec ℕ Global → List ℕ
bytes_of v = v.items

pub returns-then-contains-clause-ok : goal.returns-then-contains-clause-ok
returns-then-contains-clause-ok c =
    let key = c.in-Ok.key in
    inserts bytes_of c.self.inside.keys.items _ _ c.args.bytes.now key true c.are_bytes.ensures c.in-Ok.ensures.ok
    c.self.invariant c.self.view_is
    (sym c.if-contains.true ∙ c.contains.ensures.value
    ∙ ap (λ l. list_any (λ y. bytes_eq (bytes_of y) key.items) l) c.deref.ensures.value) refl

pub invariant_of-self-2 : goal.invariant_of-self-2
invariant_of-self-2 c = grind (arith, is_its_own)

pub returns-clause-ok : goal.returns-clause-ok
returns-clause-ok c =
    let key = c.in-Ok.key in
    let keys = c.self.inside.keys.items in
    inserts bytes_of keys _ _ c.args.bytes.now key false c.are_bytes.ensures c.in-Ok.ensures.ok
    c.self.invariant c.self.view_is
    (sym c.if-contains.false ∙ c.contains.ensures.value
    ∙ ap (λ l. list_any (λ y. bytes_eq (bytes_of y) key.items) l) c.deref.ensures.value)
    (ap (map (λ y. value_in (bytes_of y))) c.in_ok-push.ensures.items
    ∙ map-append (λ y. value_in (bytes_of y)) keys (key ∷ [])
    ∙ ap (λ l. l ++ value_in (bytes_of key) ∷ []) c.self.view_is)
