-- Geometries one after another, and the first of them.
use Rattle.std.proofs.Common.{◌≡◌, ℕ, ◌+◌, ◌≤◌, List, ◌++◌, length, sym, ap, arith, length-append, append_assoc, refl}
use Rattle.std.proofs.Common.{◌∙◌}
use Rattle.wkb_laws.specs.Prelude.{Value, Values, no_members, member, count, Spelling, Spellings, no_spellings}
use Rattle.wkb_laws.specs.Prelude.{spelling, SpellsEach, Wanted, any, Front}
use Rattle.wkb_laws.proofs.Parts.{then_length, then_append}
use Rattle.wkb_check.specs.Prelude.{HasGeometry, HasGeometries, Subject, subjects, subjects_of_each}
use Rattle.wkb_check.proofs.Bodies.{spelled_long}

-- n geometries at the start of the bytes, and their subjects
pub record Joined (n : ℕ) (bytes more : List ℕ) (xs : List Subject) : Type 0 where
  pub all : HasGeometries n bytes more
  pub are : subjects_of_each all.spelled all.values ≡ xs

-- geometries of any kind or of one, and others after them
pub joined : (w : Wanted) (ss : Spellings) (ts : Values) (x : List ℕ) {m n : ℕ} {bytes more : List ℕ}
    {xs : List Subject} → SpellsEach w ss ts x → Joined n bytes more xs → m ≡ count ts + n
    → Joined m (x ++ bytes) more (subjects_of_each ss ts ++ xs)
joined w no_spellings no_members x {m} {n} {bytes} {more} {xs} h k e = grind arith
joined w (spelling s ss) (member t ts) x {m} {n} {bytes} {more} {xs} h k e =
    let o = joined w ss ts h.rest {m = count ts + n} h.second k refl in
    let y = o.all.begins in
    record {
      all = record {
        spelled = spelling s o.all.spelled;
        values = member t o.all.values;
        begins = record {
          front = h.front ++ y.front;
          whole = then_append h bytes ∙ ap (λ z. h.front ++ z) y.whole ∙ sym (append_assoc h.front y.front more);
          first = record { front = h.front; rest = y.front; whole = refl; first = (h.first.0, tt); second = y.first };
        };
        counted = omega (arith, e, o.all.counted);
      };
      are = ap (λ l. subjects s t ++ l) o.are ∙ sym (append_assoc (subjects s t) (subjects_of_each ss ts) xs);
    }
joined w _ _ x h k e = absurd h

-- each has a byte at least
each_some : (ss : Spellings) (ts : Values) (x : List ℕ) → SpellsEach any ss ts x → count ts ≤ length x
each_some no_spellings no_members x h = omega arith
each_some (spelling s ss) (member t ts) x h =
    omega (arith, then_length h, spelled_long s t h.front h.first.0, each_some ss ts h.rest h.second)
each_some _ _ x h = absurd h

pub few_geometries : (n : ℕ) (bytes more : List ℕ) → HasGeometries n bytes more → n ≤ length bytes
few_geometries n bytes more all = grind (arith, each_some, length-append)

-- ---- the first

abbrev pub geometry_of_front : {input : List ℕ} {s : Spelling} {t : Value} {rest : List ℕ} → Front input s t rest
    → HasGeometry input
geometry_of_front {s = s} {t = t} {rest = rest} f =
    record {
      spelled = s;
      value = t;
      rest = rest;
      begins = record { front = f.front; whole = f.whole; first = f.spelled };
    }
