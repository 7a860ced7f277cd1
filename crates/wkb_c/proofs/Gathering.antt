-- The members that rows begin with, row by row.
use Rattle.wkb_abi.proofs.Common.{◌≡◌, ℕ, suc, ◌+◌, ◌≤◌, ◌<◌, List, ◌++◌, length, drop, ◌⊎◌, inl, inr, refl, sym, ap}
use Rattle.wkb_abi.proofs.Common.{subst, ◌∙◌, arith, length-append, Spelling, Value, Values, member, no_members, kind}
use Rattle.wkb_abi.proofs.Common.{Some, None, srid_size, ◌-◌, sets, sets-eq, Summary, false, IsAccepted, RowHas, IsRow}
use Rattle.wkb_abi.proofs.Common.{Reach, Wanted}
use Rattle.wkb_laws.specs.Prelude.{inner, IsRewriting, FrontWithin, AreBytes, type_kind, type_dimension, IsPart, any}
use Rattle.wkb_laws.specs.Prelude.{count, nest}
use Rattle.std.proofs.lemmas.Bool.{cases_eq}
use Rattle.std.proofs.Common.{length-drop, Result, Ok, Err, IfErr, length-take, take_at}
use Rattle.std.proofs.lemmas.Slice.{drop-append-drop}
use Rattle.wkb_geom.specs.Reading.{cause_of}
use Rattle.wkb_laws.proofs.Complete.{front_read, refusal_read}
use Rattle.wkb_laws.proofs.EncodingSpells.{inner_fits}
use Rattle.wkb_laws.proofs.OneFront.{one_front_lem}
use Rattle.wkb_check.specs.Public.{DescribesFrontWithin, Checks, member_room}
use Rattle.wkb_check.proofs.Ahead.{type_kind_is, type_dimension_is}
use Rattle.wkb_check.proofs.Placing.{sets_after}
use Rattle.wkb_rewrite.specs.Targets.{encoding_for}
use Rattle.wkb_rewrite.proofs.Measured.{measured}
use Rattle.wkb_sink.specs.declared.options.WriteOptions.{WriteOptions}
use Rattle.wkb_abi.proofs.OneRow.{one_row, never_lacks}
use Rattle.wkb_abi.proofs.Telling.{accepted_there}
use Rattle.wkb_abi.specs.Room.{IsHeld}
use Rattle.wkb_abi.specs.Writings.{WritesRequested}
use Rattle.wkb_abi.specs.declared.{column.Column.Column, fault.WkbFault.WkbFault, options.Request.TheVariants.Encoding}
use Rattle.wkb_abi.specs.declared.{status.TheConstants.NO_ROOM, status.TheConstants.OK}
use Rattle.wkb_c.specs.Collections.{BeginsWithMember, AreRowMembers, HaveMembers, inner_of, WritesMember, WritesMembers}
use Rattle.wkb_c.specs.Collections.{part_of, inside_of, LaysIfFits, IsUnwanted, IsUnfit, no_row, refused, no_member}
use Rattle.wkb_c.specs.declared.collect.CollectTarget.{CollectTarget}
use Rattle.wkb_c.proofs.RowItems.{IsLent, lent_laid}

-- ---- one row

-- where a geometry is in front, it also is with other room that it doesn't exceed
abbrev with_room : {a b : ℕ} {row : List ℕ} {s : Spelling} {t : Value} {rest : List ℕ} → FrontWithin a row s t rest
    → nest t ≤ b → FrontWithin b row s t rest
with_room f few = record { front = f.front; whole = f.whole; spelled = f.spelled; shallow = few }

-- a member is a geometry that is accepted
abbrev pub there : {w : Wanted} {row : List ℕ} {t : Value} → BeginsWithMember w row t → IsAccepted row
there {t = t} b =
    record { s = b.s; t = t; rest = b.rest; front = with_room b.front (omega (arith, b.front.shallow)) }

-- a geometry that is no collection has room anywhere
none_nested : (t : Value) → kind t < 7 → nest t ≤ member_room
none_nested t low = grind arith

-- and so is what is described there
pub described_with : {a b : ℕ} {row : List ℕ} {f : Summary} → (d : DescribesFrontWithin a row f) → nest d.value ≤ b
    → DescribesFrontWithin b row f
described_with d few = record {
  spelled = d.spelled;
  value = d.value;
  rest = d.rest;
  front = with_room d.front few;
  described = d.described;
}

pub plain_inside : {row : List ℕ} {f : Summary} → Checks row (Ok f) → type_kind f.wkb_type < 7
    → DescribesFrontWithin member_room row f
plain_inside checks low =
    let d = checks.front in
    described_with d
    (none_nested d.value (omega (arith, low, ap type_kind d.described.wkb_type ∙ type_kind_is d.value)))

pub unfit_of : {c : Column} {i : ℕ} {row : List ℕ} (w : Wanted) (fault : WkbFault) (r : Result ℕ ℕ) → IsRow c i row
    → IfErr r (λ status. IsUnwanted w row status fault) → IfErr r (λ status. IsUnfit c w i status fault)
unfit_of w fault (Ok size) is unwanted = tt
unfit_of {row = row} w fault (Err status) is unwanted = no_member row is unwanted

-- ---- members are settled by their rows

module _ (c : Column) (v w : Wanted) where
  same_members : (i : ℕ) (ts us : Values) → AreRowMembers c v i ts → AreRowMembers c w i us → count ts ≡ count us
      → ts ≡ us
  same_members i no_members no_members a b many = refl
  same_members i no_members (member u us) a b many = absurd (omega (arith, many))
  same_members i (member t ts) no_members a b many = absurd (omega (arith, many))
  same_members i (member t ts) (member u us) a b many =
      let x = there a.0.has in
      let y = there (subst (λ z. BeginsWithMember w z u) (one_row b.0.is a.0.is) b.0.has) in
      let same = one_front_lem a.0.row x.s y.s t u x.rest y.rest x.front y.front in
      λ j. member (same.2 j) (same_members (suc i) ts us a.1 b.1 (omega (arith, many)) j)

pub one_list : {c : Column} {v w : Wanted} {rows : ℕ} (h : HaveMembers c v rows) (k : HaveMembers c w rows)
    → h.values ≡ k.values
one_list {c} {v} {w} h k = same_members c v w 0 h.values k.values h.are k.are (h.many ∙ sym k.many)

-- a row that begins with a member is not unfit where any are wanted
member_fits : {c : Column} {w : Wanted} {i status : ℕ} {fault : WkbFault} {t : Value}
    → RowHas (BeginsWithMember w) c i t → IsUnfit c any i status fault → ⊥
member_fits has (no_row none) = never_lacks has.is none
member_fits {t = t} has (refused row is why) =
    let b = has.has in
    let front = subst (λ row. FrontWithin member_room row b.s t b.rest) (one_row has.is is) b.front in
    let both = sym (front_read member_room any tt row b.s t b.rest front tt) ∙ refusal_read why.refuses tt in
    let causes : None ≡ Some why.cause = ap (λ z. cause_of z.1) both in
    absurd cc
member_fits has (no_member row is why) = why.unwanted tt

-- nor is any of some rows
pub never_unfit : {c : Column} {n status : ℕ} {fault : WkbFault} (w : Wanted) (i : ℕ) (ts : Values)
    → AreRowMembers c w i ts → i ≤ n → n < i + count ts → IsUnfit c any n status fault → ⊥
never_unfit w i no_members are from below unfit = absurd (omega (arith, from, below))
never_unfit {c} {n} {status} {fault} w i (member t ts) are from below unfit = elim (cases_eq n i) [
  | inl same ↦ member_fits are.0 (subst (λ i. IsUnfit c any i status fault) same unfit)
  | inr other ↦ never_unfit w (suc i) ts are.1 (omega (arith, from, other)) (omega (arith, below)) unfit
]

-- ---- how a member is written

-- a call that writes an encoding, with room or without
module _ {o : WriteOptions} {row before after : List ℕ} {status size : ℕ}
    (w : WritesRequested (Encoding o) row before after status size) (a : IsAccepted row) where
  requested_is : (bytes : List ℕ) → IsRewriting o.endianness o.form row bytes → bytes ≡ encoding_for o a.t
  requested_is bytes h =
      h.written ∙ ap (encoding_for o) (one_front_lem row h.s a.s h.t a.t h.rest a.rest h.front a.front).2

  size_and_bytes : (status ≡ OK) ⊎ (status ≡ NO_ROOM)
      → (size ≡ length (encoding_for o a.t)) × LaysIfFits before after (encoding_for o a.t)
  size_and_bytes (inl ok) =
      let h = w.written ok in
      let is = requested_is h.items h.is in
      (h.held.count_is ∙ ap length is, λ room. h.held.whole ∙ ap (λ z. z ++ drop (length z) before) is)
  size_and_bytes (inr none) =
      let h = w.no_room none in
      let is = requested_is h.items h.is in
      (h.lacks.count_is ∙ ap length is, λ room. absurd (omega (arith, room, h.lacks.short, ap length is)))

-- inside a geometry no SRID is written, so that an encoding is no longer than its input
pub found_written : {target : CollectTarget} {row before after : List ℕ} {f : Summary} {status size : ℕ} → AreBytes row
    → (d : DescribesFrontWithin member_room row f)
    → IsPart (part_of target) (type_kind f.wkb_type) (type_dimension f.wkb_type) false
    → WritesRequested (Encoding (inner_of target)) row before after status size
    → WritesMember target before after row size
found_written {target} {row} {size = size} b d wanted w =
    let begins : BeginsWithMember (part_of target) row d.value = grind (arith, type_kind_is, type_dimension_is) in
    let both = size_and_bytes w (there begins) w.known in
    let o = target.options in
    let long = measured o.endianness (inner o.form) row (accepted_there row (there begins)) b refl in
    let none = ap srid_size (inner_fits o.form).1 in
    let short : size ≤ length row =
    omega (arith, both.0, long, none, ap length d.front.whole, length-append {A = ℕ}) in
    record { t = d.value; begins = begins; size_is = both.0; short = short; laid = both.1 }

-- ---- how they are written one behind another

-- Members of the rows from the first on, of which the last are these; the encodings of the others end here. If there is
-- room, they are laid, so that all are once the last are.
pub record EndsWith (c : Column) (target : CollectTarget) (i at : ℕ) (before out : List ℕ) (last : Values) : Type 0
  where
    pub all : Values
    pub are : AreRowMembers c (part_of target) 0 all
    pub many : count all ≡ i + count last
    pub size_is : length (inside_of target all) ≡ at + length (inside_of target last)
    pub laid : at ≤ length before → sets out at (inside_of target last) ≡ sets before 0 (inside_of target all)

-- The rows before row i begin with members, behind which come those of row i and the next. Their encodings end here, no
-- further than these rows reach.
pub record WrittenBefore (c : Column) (target : CollectTarget) (i reach at : ℕ) (before out : List ℕ) : Type 0 where
  pub go_on : (last : Values) → AreRowMembers c (part_of target) i last → EndsWith c target i at before out last
  pub fits : at ≤ reach
  pub long : length out ≡ length before

pub none_written : {c : Column} {target : CollectTarget} {reach : ℕ} {out : List ℕ}
    → WrittenBefore c target 0 reach 0 out out
none_written = grind arith

pub written_more : {c : Column} {target : CollectTarget} {i reach to at n : ℕ} {before out lent sub new : List ℕ}
    → Reach c i reach → Reach c (i + 1) to → WrittenBefore c target i reach at before out
    → RowHas (WritesMember target lent sub) c i n → IsLent at out lent sub new → length new ≡ length out
    → WrittenBefore c target (i + 1) to (at + n) before new
written_more {c} {target} {i} {at = at} {n} {out = out} {new = new} from after m one l long =
    let s = one.is.slice in
    let up : i + 1 ≡ suc i = omega arith in
    let own : RowHas (BeginsWithMember (part_of target)) c i one.has.t = grind arith in
    let bytes = encoding_for (inner_of target) one.has.t in
    let least = from.least s.start s.after in
    let enough = after.enough i s.start s.end (omega arith) s.span in
    record {
      go_on = λ last are.
          let w = m.go_on (member one.has.t last) (own, subst (λ k. AreRowMembers c (part_of target) k last) up are) in
          record {
            all = w.all;
            are = w.are;
            many = omega (arith, w.many);
            size_is = omega (arith, w.size_is, one.has.size_is, length-append bytes (inside_of target last));
            laid = λ room.
                let new_is = lent_laid l bytes (omega (arith, room, one.has.size_is, m.long)) one.has.laid in
                ap (λ z. sets z (at + n) (inside_of target last)) new_is
                ∙ sets_after out at (at + n) bytes (inside_of target last) (omega (arith, one.has.size_is))
                ∙ w.laid (omega (arith, room));
          };
      fits = omega (arith, ap length s.row_is, length-take (s.end - s.start) (drop s.start c.bytes.now));
      long = long ∙ m.long;
    }

pub all_written : {c : Column} {target : CollectTarget} {rows i reach at : ℕ} {before out : List ℕ} → Reach c i reach
    → WrittenBefore c target i reach at before out → i ≡ rows → WritesMembers c target rows before out at
all_written {c} {target} {at = at} {before} {out} r m all =
    let w = m.go_on no_members tt in
    let reach = r.least (length c.bytes.now) (λ j s e below is. is.inside) in
    record {
      measured = record {
        have = record { values = w.all; many = omega (arith, w.many, all); are = w.are };
        size_is = omega (arith, w.size_is);
        short = omega (arith, m.fits, reach);
      };
      laid = grind (arith, sets-eq);
    }

-- the front of the whole, and its members behind it
pub whole_laid : {out copied lent sub new : List ℕ} (front inside : List ℕ) {start size : ℕ} → start ≡ length front
    → size ≡ start + length inside → size ≤ length out → copied ≡ front
    → (length copied ≡ start → IsLent start (copied ++ drop start out) lent sub new) → LaysIfFits lent sub inside
    → IsHeld (front ++ inside) out new size
whole_laid {out} {copied} front inside {start} start_is size_is room copied_is lends lays =
    let base = copied ++ drop start out in
    let long : length copied ≡ start = ap length copied_is ∙ sym start_is in
    let many : start + length inside ≡ length (front ++ inside) = omega (arith, start_is, length-append front inside) in
    let enough : start + length inside ≤ length base =
    omega (arith, size_is, room, long, length-append copied (drop start out), length-drop start out) in
    record {
      count_is = size_is ∙ many;
      whole =
          lent_laid (lends long) inside enough lays ∙ sets-eq inside base start enough
          ∙ (λ i. (take_at copied (drop start out) start long i ++ inside)
          ++ drop-append-drop start out copied (start + length inside) (omega arith) long i)
          ∙ (λ i. (copied_is i ++ inside) ++ drop (many i) out);
    }
