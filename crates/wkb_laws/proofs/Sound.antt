-- Reading from left to right is sound: a value is a front with its counts, and a fault is the refusal.
use Rattle.std.proofs.Common.{◌≡◌, ℕ, zero, suc, ◌-◌, ◌≤◌, List, Bool, subst, arith, lit<, lit≤, sym, ◌<◌, inl, inr}
use Rattle.std.proofs.lemmas.Bool.{both_ways, cases_Bool}
use Rattle.wkb_laws.specs.Prelude.{Dimension, Layout, WkbType, Wanted, any, part, IsAllowed, too_deep, wrong_part}
use Rattle.wkb_laws.specs.Prelude.{type_kind, layout_of, geometry_at, is_member}
use Rattle.wkb_geom.specs.declared.code.WkbType.TheVariants as kinds
use Rattle.wkb_laws.proofs.Heads.{IsRight, Opened, head_says, passes, is_passed, HasPart, item_front}
use Rattle.wkb_laws.proofs.Complete.{front_read, refusal_read}
use Rattle.wkb_laws.proofs.Bodies.{point_has, line_string_has, polygon_has, list_has}

-- a geometry of any kind is allowed, a collection where there is room
allowed : {room k : ℕ} {d : Dimension} {srid : Bool} → (k ≡ 7 → 0 < room) → IsAllowed room any k d srid
allowed shallow = record { wanted = tt; shallow = shallow }

-- a member of a multi geometry, which has none itself
module _ (room : ℕ) where
  leaf_has : (w : Wanted) (input : List ℕ) (k : ℕ) (l : Layout) → k ≤ 3 → Opened input k l
      → IsAllowed room w k l.dimension l.has_srid
      → HasPart room w input
  leaf_has w input zero l few o a = absurd (omega arith)
  leaf_has w input (suc zero) l few o a = point_has room w input l o a.wanted
  leaf_has w input (suc (suc zero)) l few o a = line_string_has room w input l o a
  leaf_has w input (suc (suc (suc zero))) l few o a = polygon_has room w input l o a
  leaf_has w input (suc (suc (suc (suc k)))) l few o a = absurd (omega arith)

  part_has : (k : ℕ) (d : Dimension) → k ≤ 3 → (y : List ℕ) → HasPart room (part k d) y
  part_has k d few y =
      head_says room (part k d) y (λ r. HasPart room (part k d) y) (λ c bad. inr (_, _, _, bad))
      (λ h o. elim (cases_Bool (is_member k d h)) [
        | inl t ↦
            let p = passes k d h t in
            leaf_has (part k d) y (type_kind h.wkb_type) (layout_of h) (omega (arith, p.0)) o
            (record { wanted = p; shallow = λ e. absurd (omega (arith, p.0)) })
        | inr f ↦ inr (_, _, _, wrong_part o (λ p. both_ways _ f (is_passed k d h p)))
      ])

  -- a body, by its type
  body_has : (y : List ℕ) → ((l : Layout) → Opened y 7 l → HasPart room any y) → (t : WkbType) (l : Layout)
      → Opened y (type_kind t) l → HasPart room any y
  body_has y deeper (kinds.GeometryCollection d) l o = deeper l o
  body_has y deeper (kinds.Point d) l o = point_has room any y l o tt
  body_has y deeper (kinds.LineString d) l o = line_string_has room any y l o (allowed (λ e. omega arith))
  body_has y deeper (kinds.Polygon d) l o = polygon_has room any y l o (allowed (λ e. omega arith))
  body_has y deeper _ l o =
      list_has room any y l _ (lit< tt) o (allowed (λ e. omega arith)) (part_has _ l.dimension (lit≤ tt))

  any_by : (y : List ℕ) → ((l : Layout) → Opened y 7 l → HasPart room any y) → HasPart room any y
  any_by y deeper =
      head_says room any y (λ r. HasPart room any y) (λ c bad. inr (_, _, _, bad))
      (λ h o. body_has y deeper h.wkb_type (layout_of h) o)

-- every input has a front or a refusal
pub any_has : (room : ℕ) (y : List ℕ) → HasPart room any y
any_has zero y = any_by zero y (λ l o. inr (_, _, _, too_deep o tt))
any_has (suc room) y =
    let inside : room ≡ suc room - 1 = omega arith in
    any_by (suc room) y (λ l o. list_has (suc room) any y l 7 (lit< tt) o (allowed (λ e. omega arith))
    (subst (λ z. (x : List ℕ) → HasPart z any x) inside (any_has room)))

-- what is there is what is read
pub geometry_says : (room : ℕ) (input : List ℕ) → IsRight room any input (geometry_at room input)
geometry_says room input = elim (any_has room input) [
  | inl h ↦
      subst (IsRight room any input)
      (sym (front_read room any tt input h.0.spelled h.0.value h.1 (item_front h.2) tt)) h.2
  | inr r ↦ subst (IsRight room any input) (sym (refusal_read r.3 tt)) r.3
]
