-- Reading from left to right gives exactly the fronts and the refusals, at bounded costs.
use Rattle.std.proofs.Common.{◌≡◌, ℕ, ◌+◌, ◌*◌, ◌≤◌, List, length, refl, arith, Ok, Err, rules}
use Rattle.wkb_laws.specs.Prelude.{any, max_nesting, Reading, Item, Layout, at_no_cost}
unfoldable use Rattle.wkb_laws.specs.Prelude.{line_string_at}
use Rattle.wkb_laws.specs.Laws.{Agrees, GeometryAgrees, FrontIsRead, RefusalIsRead, ReadingIsBounded}
use Rattle.wkb_laws.proofs.Bounds.{front_is_bounded_lem, refusal_is_bounded_lem}
use Rattle.wkb_laws.proofs.Heads.{IsRight, item_front}
use Rattle.wkb_laws.proofs.Sound.{geometry_says}
use Rattle.wkb_laws.proofs.Complete.{front_read, refusal_read}

-- a line string costs nothing
pub line_string_free : (l : Layout) (bytes : List ℕ) → line_string_at l bytes ≡ at_no_cost (line_string_at l bytes).1
unfolding line_string_at
line_string_free l bytes = grind arith

agrees : (input : List ℕ) (r : Reading Item) → IsRight max_nesting any input r → Agrees input r
agrees input (cost, Ok x) h =
    (item_front h, h.turns, h.slots, refl)
agrees input (cost, Err e) h = h

pub geometry_agrees_lem : GeometryAgrees
geometry_agrees_lem input = agrees input _ (geometry_says max_nesting input)

pub front_is_read_lem : FrontIsRead
front_is_read_lem input s t rest f = front_read max_nesting any tt input s t rest f tt

pub refusal_is_read_lem : RefusalIsRead
refusal_is_read_lem input cause turns slots r = refusal_read r tt

bounded : (input : List ℕ) (r : Reading Item) → Agrees input r
    → (4 * r.0.turns ≤ length input + 4) × (r.0.slots ≤ 15 * length input)
bounded input (cost, Ok x) h = search (rules, front_is_bounded_lem)
bounded input (cost, Err e) h = refusal_is_bounded_lem input e.cause cost.turns cost.slots h

pub reading_is_bounded_lem : ReadingIsBounded
reading_is_bounded_lem input = bounded input _ (geometry_agrees_lem input)
