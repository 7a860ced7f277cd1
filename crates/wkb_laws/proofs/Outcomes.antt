-- Every input has a front or exactly one refusal, and never both.
use Rattle.std.proofs.Common.{◌≡◌, ℕ, suc, ◌+◌, ◌≤◌, List, ◌++◌, refl, sym, ap, ◌∙◌, arith, inl, inr, None, Some}
use Rattle.wkb_laws.specs.Prelude.{Values, no_members, member, count, nest_each, member_count_each, Spellings}
use Rattle.wkb_laws.specs.Prelude.{no_spellings, spelling, Wanted, any, SpellsEach, Cause, room_inside, Refuses}
use Rattle.wkb_laws.specs.Prelude.{bad_member, RefusesEach, this_member, later_member, max_nesting}
use Rattle.wkb_geom.specs.Reading.{cause_of}
use Rattle.wkb_laws.specs.Laws.{ReadOrRefused, NeverBoth, OneRefusal, listed_inside, RefusedOutward}
use Rattle.wkb_laws.proofs.Parts.{then_append}
use Rattle.wkb_laws.proofs.Bodies.{refused_each}
use Rattle.wkb_laws.proofs.GeometryAt.{front_is_read_lem, refusal_is_read_lem}
use Rattle.wkb_laws.proofs.Heads.{item_front}
use Rattle.wkb_laws.proofs.Sound.{any_has}

pub read_or_refused_lem : ReadOrRefused
read_or_refused_lem input = elim (any_has max_nesting input) [
  | inl h ↦ inl (h.0.spelled, h.0.value, h.1, item_front h.2)
  | inr r ↦ inr r
]

pub never_both_lem : NeverBoth
never_both_lem input s t rest cause turns slots f r =
    let both = sym (front_is_read_lem input s t rest f) ∙ refusal_is_read_lem input cause turns slots r in
    let causes : None ≡ Some cause = ap (λ z. cause_of z.1) both in
    cc

pub one_refusal_lem : OneRefusal
one_refusal_lem input cause other turns turns' slots slots' r q =
    let same = sym (refusal_is_read_lem input cause turns slots r) ∙ refusal_is_read_lem input other turns' slots' q in
    let causes : Some cause ≡ Some other = ap (λ z. cause_of z.1) same in
    (cc, ap (λ z. z.0.turns) same, ap (λ z. z.0.slots) same)

-- a rejected member after some that are spelled
refused_behind : (room : ℕ) (w : Wanted) (more : ℕ) (ss : Spellings) (ts : Values) (input x rest : List ℕ) (c : Cause)
    (b z : ℕ)
    → input ≡ x ++ rest → SpellsEach w ss ts x → nest_each ts ≤ room → Refuses room w rest c b z
    → RefusesEach room w (count ts + suc more) input c (member_count_each ts + (1 + b)) (listed_inside ts + z)
refused_behind room w more no_spellings no_members input x rest c b z e h shallow r =
    rw (e, h) (refused_each (omega arith) (omega arith) (omega arith) (this_member {more = more} r))
refused_behind room w more (spelling s ss) (member t ts) input x rest c b z e h shallow r =
    let shape : input ≡ h.front ++ (h.rest ++ rest) = e ∙ then_append h rest in
    let others = refused_behind room w more ss ts (h.rest ++ rest) h.rest rest c b z refl h.second (omega arith) r in
    refused_each (omega arith) (omega arith) (omega arith)
    (later_member
    (record { front = h.front; whole = shape; spelled = h.first.0; shallow = omega arith }) h.first.1 others)
refused_behind room w more _ _ input x rest c b z e h shallow r = absurd h

pub refused_outward_lem : RefusedOutward
refused_outward_lem room w input order d srid n behind more ss ts x rest c b z counts e h shallow fewer r =
    bad_member {k = 7} counts (omega arith) (λ four. absurd (omega arith))
    (rw fewer (refused_behind (room_inside 7 room) any more ss ts behind x rest c b z e h shallow r))
