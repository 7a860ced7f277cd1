-- Values and outermost SRIDs are equal exactly where their encodings are.
use Rattle.std.proofs.Common.{◌≡◌, ℕ, List, [], ◌++◌, sym, ap, ◌∙◌, subst, append-nil, arith, rules}
use Rattle.wkb_laws.specs.Prelude.{Endianness, Form, Ewkb, AreBytes, Value, Spelling, node, header, Spells, Front}
use Rattle.wkb_laws.specs.Prelude.{geometry_of, form_srid, encoding, IsForm}
use Rattle.wkb_laws.specs.Written.{written, HasOptions}
use Rattle.wkb_laws.specs.Encodings.{EqualSpelled, EqualSpelledWithSrid}
use Rattle.wkb_laws.specs.Laws.{EncodingSpells, WrittenIsRead, WritableIsRead, EqualEncodings, EqualEncodingsWithSrid}
use Rattle.wkb_laws.specs.Laws.{EqualEncodingsWithOwnSrid, RestIsFree, BytesAreRead, RewritingIsRead, RewritingIsFixed}
use Rattle.wkb_laws.specs.Laws.{RewritingWithSridIsFixed}
use Rattle.wkb_laws.proofs.OneFront.{one_spelling, one_front_lem}
use Rattle.wkb_laws.proofs.EncodingSpells.{encoding_spells, written_has_options}
use Rattle.wkb_laws.proofs.Values.{Good, spelled_good, front_good, front_bytes, front_srid, normal-geometry_of}
use Rattle.wkb_laws.proofs.Values.{lawful-geometry_of, or_else_parts}

-- What has the options has the SRID of their form.
pub outer_srid : (order : Endianness) (form : Form) (s : Spelling) → HasOptions order form s
    → (header s).srid ≡ form_srid form
outer_srid order form (node h words ss) k = k.1

-- the encoding of a value spells it
pub value_encoding : (order : Endianness) (form : Form) (t : Value) → IsForm form → Good t
    → Spells (written order form (geometry_of t)) t (encoding order form (geometry_of t))
value_encoding order form t h good = grind (arith, normal-geometry_of, encoding_spells, lawful-geometry_of)

pub one_encoding : (order : Endianness) (form other : Form) (t v : Value) → IsForm form → IsForm other → Good t → Good v
    → encoding order form (geometry_of t) ≡ encoding order other (geometry_of v)
    → (t ≡ v) × (form_srid form ≡ form_srid other)
one_encoding order form other t v h k good fine e =
    let same =
    one_spelling _ _ t v _ _ [] [] (value_encoding order form t h good) (value_encoding order other v k fine)
    (ap (λ x. x ++ []) e) in (
      same.value,
      sym (outer_srid order form _ (written_has_options order form (geometry_of t)))
          ∙ ap (λ s. (header s).srid) same.spelling
          ∙ outer_srid order other _ (written_has_options order other (geometry_of v)),
    )

pub encoding_spells_lem : EncodingSpells
encoding_spells_lem order form g h lawful fine =
    (written order form g, encoding_spells order form g h lawful fine, written_has_options order form g)

pub written_is_read_lem : WrittenIsRead
written_is_read_lem order form g rest h lawful fine shallow =
    let spelled = encoding_spells order form g h lawful fine in grind (arith, written_has_options)

pub writable_is_read_lem : WritableIsRead
writable_is_read_lem order form g rest h lawful fine shallow = grind (arith, written_is_read_lem, or_else_parts)

pub equal_spelled_lem : EqualSpelled
equal_spelled_lem order form s u t v x y h b b' a a' = (
  λ e. (one_encoding order form form t v h h (spelled_good s t x b a) (spelled_good u v y b' a') e).0,
  λ e. ap (λ z. encoding order form (geometry_of z)) e,
)

pub equal_spelled_with_srid_lem : EqualSpelledWithSrid
equal_spelled_with_srid_lem order i j s u t v x y h k b b' a a' = (
  λ e. one_encoding order (Ewkb i) (Ewkb j) t v h k (spelled_good s t x b a) (spelled_good u v y b' a') e,
  λ e. ap (λ z. encoding order (Ewkb i) (geometry_of z)) e.0 ∙ ap (λ z. encoding order (Ewkb z) (geometry_of v)) e.1,
)

pub equal_encodings_lem : EqualEncodings
equal_encodings_lem order form a b s u t v rest more h ab bb f g =
    equal_spelled_lem order form s u t v f.front g.front h (front_bytes a s t rest ab f)
    (front_bytes b u v more bb g) f.spelled g.spelled

pub equal_encodings_with_srid_lem : EqualEncodingsWithSrid
equal_encodings_with_srid_lem order i j a b s u t v rest more h k ab bb f g =
    equal_spelled_with_srid_lem order i j s u t v f.front g.front h k (front_bytes a s t rest ab f)
    (front_bytes b u v more bb g) f.spelled g.spelled

pub rest_is_free_lem : RestIsFree
rest_is_free_lem input s t rest more f = grind arith

pub bytes_are_read_lem : BytesAreRead
bytes_are_read_lem input s t rest f = grind (arith, append-nil)

pub rewriting_is_read_lem : RewritingIsRead
rewriting_is_read_lem order form input s t rest more h b f =
    let good = front_good input s t rest b f in
    let same = normal-geometry_of t good.0 in
    let lawful = lawful-geometry_of t good.0 in
    rw same at (written_is_read_lem order form (geometry_of t) more h lawful good.1 (rw same f.shallow))

pub equal_encodings_with_own_srid_lem : EqualEncodingsWithOwnSrid
equal_encodings_with_own_srid_lem order a b s u t v rest more ab bb f g =
    search (rules, equal_encodings_with_srid_lem, front_srid)

-- what was rewritten is read as itself
read_back : (order : Endianness) (form : Form) (input out : List ℕ) (s : Spelling) (t : Value) (rest : List ℕ)
    → IsForm form → AreBytes input
    → Front input s t rest → out ≡ encoding order form (geometry_of t)
    → (u : Spelling) × Front out u t [] × HasOptions order form u
read_back order form input out s t rest h b f e =
    let r = rewriting_is_read_lem order form input s t rest [] h b f in
    (r.0, subst (λ z. Front z r.0 t []) (append-nil _ ∙ sym e) r.1, r.2)

pub rewriting_is_fixed_lem : RewritingIsFixed
rewriting_is_fixed_lem order form input out h b r =
    let back = read_back order form input out r.s r.t r.rest h b r.front r.written in (
      record { s = back.0; t = r.t; rest = []; front = back.1; written = r.written },
      λ again q.
          let one = one_front_lem out q.s back.0 q.t r.t q.rest [] q.front back.1 in
          q.written ∙ rw one.2 (sym r.written),
    )

pub rewriting_with_srid_is_fixed_lem : RewritingWithSridIsFixed
rewriting_with_srid_is_fixed_lem order input out b r =
    let srid = (header r.s).srid in
    let back =
    read_back order (Ewkb srid) input out r.s r.t r.rest
    (front_srid input r.s r.t r.rest b r.front) b r.front r.written in
    let same : (header back.0).srid ≡ srid = outer_srid order (Ewkb srid) back.0 back.2 in (
      record {
        s = back.0;
        t = r.t;
        rest = [];
        front = back.1;
        written = r.written ∙ ap (λ z. encoding order (Ewkb z) (geometry_of r.t)) (sym same);
      },
      λ again q.
          let one = one_front_lem out q.s back.0 q.t r.t q.rest [] q.front back.1 in
          q.written ∙ rw (one.1, same, one.2) (sym r.written),
    )
