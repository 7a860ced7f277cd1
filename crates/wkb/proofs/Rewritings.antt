-- What the check finds in an input is what is rewritten and compared; what it rejects is what the reader rejects.
use Rattle.std.proofs.Common.{◌≡◌, ℕ, ◌+◌, ◌≤◌, List, ◌++◌, length, length-append, length-drop, Bool, true, false, refl}
use Rattle.std.proofs.Common.{sym, ap, ◌∙◌, take, drop, ◌↔◌, IsTrue, MatchBool, subst, arith, append-nil}
use Rattle.std.proofs.Math.Seq.{take-append_seam}
use Rattle.std.proofs.lemmas.List.{drop_all}
use Rattle.std.proofs.lemmas.List.Edits.{sets, sets-eq}
use Rattle.wkb_laws.specs.Prelude.{Endianness, Form, Ewkb, encoding, IsRewriting, IsRewritingWithSrid, Front, AreBytes}
use Rattle.wkb_geom.specs.Geometries.{geometry_of}
use Rattle.wkb_check.specs.Known.{HasGeometry}
use Rattle.wkb_check.specs.Public.{DescribesFront, DescribesOnlyFront}
use Rattle.wkb_check.specs.declared.answer.Summary.{Summary}
use Rattle.wkb_check.proofs.Ahead.{here}
use Rattle.wkb_rewrite.proofs.Measured.{long_of, measured}
use Rattle.wkb.specs.Canonical.{HaveOneValue, HaveTwoValues}

-- what was laid at the start of a list is followed by what was there
laid_over : (x old new items : List ℕ) (len : ℕ) → length old ≡ len → length x ≤ len → new ≡ sets old 0 x
    → take len (new ++ drop (length new) items) ≡ x ++ drop (length x) old
laid_over x old new items len long fits laid =
    let new_is : new ≡ x ++ drop (length x) old = grind (arith, sets-eq) in
    let whole : len ≡ length new =
    omega (arith, ap length new_is, length-append x (drop (length x) old), length-drop (length x) old, long, fits) in
    grind (arith, take-append_seam)

-- of a list of as many bytes it is all
pub filled : (x old new items : List ℕ) (len : ℕ) → length old ≡ len → len ≡ length x → new ≡ sets old 0 x
    → take len (new ++ drop (length new) items) ≡ x
filled x old new items len long fits laid =
    laid_over x old new items len long (omega (arith, fits)) laid
    ∙ ap (λ l. x ++ l) (drop_all (length x) old (omega (arith, long, fits))) ∙ append-nil x

-- and so it is of a longer one that is cut
pub cut : (x old new items : List ℕ) (len n : ℕ) → length old ≡ len → length x ≤ len → n ≡ length x
    → new ≡ sets old 0 x
    → take n (take len (new ++ drop (length new) items)) ≡ x
cut x old new items len n long fits is laid =
    ap (take n) (laid_over x old new items len long fits laid) ∙ ap (λ k. take k (x ++ drop (length x) old)) is
    ∙ take-append_seam x (drop (length x) old)

-- an encoding is at most an SRID longer than the geometry that the check found
pub longest : {buf : List ℕ} {found : Summary} (order : Endianness) (form : Form) → DescribesFront buf found
    → AreBytes buf → (g : HasGeometry buf)
    → length (encoding order form (geometry_of g.value)) ≤ found.bytes + 4
longest {buf = buf} order form d are g =
    grind (arith, measured order form buf g are (long_of d g))

-- what was made of it is its rewriting
pub made : {buf : List ℕ} {found : Summary} {order : Endianness} {form : Form} {out : List ℕ}
    → (d : DescribesFront buf found) → out ≡ encoding order form (geometry_of (here d).value)
    → IsRewriting order form buf out
made d is = record { s = d.spelled; t = d.value; rest = d.rest; front = d.front; written = is }

-- with the geometry's own SRID
pub made_with_srid : {buf : List ℕ} {found : Summary} {order : Endianness} {out : List ℕ}
    → DescribesOnlyFront buf found → IsRewriting order (Ewkb found.srid) buf out → IsRewritingWithSrid order buf out
made_with_srid {order = order} only is = record {
  s = is.s;
  t = is.t;
  rest = is.rest;
  front = is.front;
  written =
      is.written ∙ ap (λ z. encoding order (Ewkb z) (geometry_of is.t)) (only is.s is.t is.rest is.front).srid;
}

-- ---- comparisons

-- two inputs are compared by the values at their starts
pub compared : {a b : List ℕ} {f g : Summary} (equal : Bool) → DescribesFront a f → DescribesFront b g
    → ((x : HasGeometry a) (y : HasGeometry b) → IsTrue equal ↔ (x.value ≡ y.value))
    → MatchBool equal (HaveOneValue a b) (HaveTwoValues a b)
compared {b = b} true d e values = record {
  s = d.spelled;
  u = e.spelled;
  t = d.value;
  rest = d.rest;
  more = e.rest;
  first = d.front;
  second = subst (λ v. Front b e.spelled v e.rest) (sym ((values (here d) (here e)).0 refl)) e.front;
}
compared false d e values = record {
  s = d.spelled;
  u = e.spelled;
  t = d.value;
  v = e.value;
  rest = d.rest;
  more = e.rest;
  first = d.front;
  second = e.front;
  different = λ one. let no : IsTrue false = (values (here d) (here e)).1 one in absurd (cc);
}
