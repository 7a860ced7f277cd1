-- A strict prefix of a geometry is rejected as an input that ends too early.
use Rattle.std.proofs.Common.{◌⊎◌, ℕ, ◌+◌, List, [], ◌++◌, length, ap, append_assoc, arith, inl, inr}
use Rattle.std.proofs.Common.{length-append, Bool, append-nil}
use Rattle.wkb_laws.specs.Prelude.{Endianness, Dimension, Begins, Value, listed_count, Spelling, Wanted, Front}
use Rattle.wkb_laws.specs.Prelude.{FrontWithin, Cause, slots_asked, Opens, OpensCounted, RefusesRings, later_ring}
use Rattle.wkb_laws.specs.Prelude.{Refuses, bad_order_byte, bad_code, wrong_part, too_deep, bad_ring, bad_member}
use Rattle.wkb_laws.specs.Prelude.{RefusesEach, this_member, later_member}
use Rattle.wkb_laws.specs.Laws.{EndsTooEarly, CutIsRefused}
use Rattle.wkb_laws.proofs.OneFront.{one_front_lem}
use Rattle.wkb_laws.proofs.Outcomes.{read_or_refused_lem, never_both_lem}

-- what is at the start is there with more bytes after it
begins_more : {P : List ℕ → Type 0} {input rest : List ℕ} (y : List ℕ) → Begins P input rest
    → Begins P (input ++ y) (rest ++ y)
begins_more {rest = rest} y b = grind (arith, append_assoc)

opens_more : {input rest : List ℕ} {order : Endianness} {k : ℕ} {d : Dimension} {srid : Bool} (y : List ℕ)
    → Opens input order k d srid rest
    → Opens (input ++ y) order k d srid (rest ++ y)
opens_more y o = grind (arith, begins_more)

counts_more : {room : ℕ} {w : Wanted} {input rest : List ℕ} {order : Endianness} {k : ℕ} {d : Dimension} {n : ℕ}
    {srid : Bool} (y : List ℕ)
    → OpensCounted room w input order k d srid n rest → OpensCounted room w (input ++ y) order k d srid n (rest ++ y)
counts_more {input = input} {rest = rest} {order = order} {k = k} {d = d} {srid = srid} y c =
    grind (arith, append_assoc, opens_more)

front_more : {room : ℕ} {input : List ℕ} {s : Spelling} {t : Value} {rest : List ℕ} (y : List ℕ)
    → FrontWithin room input s t rest
    → FrontWithin room (input ++ y) s t (rest ++ y)
front_more {rest = rest} y f = grind (arith, append_assoc)

rings_cut : {order : Endianness} {d : Dimension} {n : ℕ} {input : List ℕ} {cause : Cause} {begun : ℕ}
    → RefusesRings order d n input cause begun → EndsTooEarly cause
rings_cut (later_ring ring b h) = rings_cut h
rings_cut _ = tt

-- A refusal for another reason than an early end stays, with its turns, whatever follows.
mutual
  lasts : {room : ℕ} {w : Wanted} {input : List ℕ} {cause : Cause} {begun slots : ℕ}
      → Refuses room w input cause begun slots → (y : List ℕ) → (EndsTooEarly cause → ⊥)
      → (z : ℕ) × Refuses room w (input ++ y) cause begun z
  lasts (bad_order_byte h) y n = (0, bad_order_byte h)
  lasts (bad_code {order = order} {behind = behind} e b none) y n =
      (0, bad_code {order = order} {behind = behind ++ y} (ap (λ z. z ++ y) e) (begins_more y b) none)
  lasts (wrong_part o not) y n = (0, wrong_part (opens_more y o) not)
  lasts (too_deep o p) y n = (0, too_deep (opens_more y o) p)
  lasts (bad_ring c r) y n = absurd (n (rings_cut r))
  lasts {input = input} (bad_member {k = k} {n = m} {rest = rest} c low long r) y n =
      let more = each_lasts r y n in (
        slots_asked k m (length (rest ++ y)) + more.0,
        bad_member (counts_more y c) low (λ e. let fits = long e in omega (arith, length-append input y)) more.1,
      )
  lasts _ y n = absurd (n tt)

  each_lasts : {room : ℕ} {w : Wanted} {n : ℕ} {input : List ℕ} {cause : Cause} {begun slots : ℕ}
      → RefusesEach room w n input cause begun slots → (y : List ℕ)
      → (EndsTooEarly cause → ⊥) → (z : ℕ) × RefusesEach room w n (input ++ y) cause begun z
  each_lasts (this_member r) y n = let more = lasts r y n in (more.0, this_member more.1)
  each_lasts (later_member {t = t} f p r) y n =
      let more = each_lasts r y n in (listed_count t + more.0, later_member (front_more y f) p more.1)

cut_or_not : (c : Cause) → EndsTooEarly c ⊎ (EndsTooEarly c → ⊥)
cut_or_not c = grind arith

pub cut_is_refused_lem : CutIsRefused
cut_is_refused_lem input s t rest x y f e some =
    let whole : Front (x ++ y) s t [] = grind (arith, append-nil) in
    elim (read_or_refused_lem x) [
      | inl g ↦
          let same = one_front_lem (x ++ y) g.0 s g.1 t (g.2 ++ y) [] (front_more y g.3) whole in
          absurd (omega (arith, ap length same.3, length-append g.2 y))
      | inr r ↦ elim (cut_or_not r.0) [
        | inl cut ↦ (r.0, r.1, r.2, r.3, cut)
        | inr not ↦
            let more = lasts r.3 y not in absurd (never_both_lem (x ++ y) s t [] r.0 r.1 more.0 whole more.1)
      ]
    ]
