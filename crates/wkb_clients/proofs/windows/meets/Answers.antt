use Rattle.std.proofs.Common.{◌≡◌, ℕ, List, Bool, true, false, MatchBool, sym, ap, ◌∙◌, arith}
use Rattle.wkb.specs.Checks.{Bounds, BoundsFront, BoundsOnlyFront}
use Rattle.wkb.specs.Ranges.{same_bounds}
use Rattle.wkb_clients.specs.declared.boxes.BoundingBox.{BoundingBox}
use Rattle.wkb_clients.specs.Windows.{bounds_meet, Meets, MeetsNone}
use Rattle.wkb_clients.proofs.windows.meets.Goals as goal

judged : (box : BoundingBox) (bytes : List ℕ) (b : Bounds) (r : Bool) → BoundsFront bytes b
    → BoundsOnlyFront bytes b → r ≡ bounds_meet box b → MatchBool r (Meets box bytes) (MeetsNone box bytes)
judged box bytes b true front only is = record { bounds = b; front = front; meet = sym is }
judged box bytes b false front only is = λ m.
    let f = m.front in
    let same = same_bounds b m.bounds f.value (only f.spelled f.value f.rest f.front) f.bounded in
    let wrong : false ≡ true = is ∙ ap (bounds_meet box) same ∙ m.meet in
    absurd (cc)

pub returns-in-Ok : goal.returns-in-Ok
returns-in-Ok c = grind (arith, judged)

pub returns-in-Err : goal.returns-in-Err
returns-in-Err c = λ m. c.in-Err.ensures.refused.no_front m.front.spelled m.front.value m.front.rest m.front.front
