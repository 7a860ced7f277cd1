-- What was read is spelled by its bytes.
use Rattle.wkb_view.proofs.Prelude.{rules, ◌≡◌, ℕ, ◌≤◌, List, length, take, drop, Ok, subst, length-take, arith, Cause}
use Rattle.wkb_view.proofs.Prelude.{Layout, number, Item, Reading, head_at, then_body, body_start, point_item}
use Rattle.wkb_view.proofs.Prelude.{BytesSpell, IsEncoding}
use Rattle.std.proofs.Common.{Result, Err}
use Rattle.wkb_geom.specs.Spellings.{Wanted, any}
use Rattle.wkb_geom.specs.Reading.{body_at, too_deep, layout_of}
use Rattle.wkb_laws.proofs.Heads.{IsRight}
use Rattle.wkb_laws.proofs.Sound.{geometry_says}
use Rattle.wkb_view.specs.Prelude.{Head, point_end, line_string_end, point_at, line_string_at, line_string_item}
use Rattle.wkb_view.specs.Headers.{HasHead}
use Rattle.wkb_view.proofs.Items.{slice_laws}
use Rattle.wkb_view.proofs.Leaves.{number_within}
use Rattle.wkb_geom.specs.declared.code.WkbType.TheVariants as kinds
unfoldable use Rattle.wkb_geom.specs.Reading.{by_type, geometry_at}

says_spelled : (w : Wanted) (bytes : List ℕ) (r : Reading Item) → IsRight 0 w bytes r → (i : Item) (rest : List ℕ)
    → r.1 ≡ Ok (i, rest) → BytesSpell i
says_spelled w bytes (c, Ok x) h i rest e = let same : x.0 ≡ i = cc in subst BytesSpell same ∣ h.spelled ∣₁
says_spelled w bytes (c, Err f) h i rest e = absurd cc

says_body : (bytes : List ℕ) (h : Head) → head_at bytes ≡ Ok h
    → IsRight 0 any bytes (body_at too_deep h.wkb_type (layout_of h) bytes)
unfolding geometry_at by_type
says_body bytes h e =
    subst (λ (r : Result Head Cause). IsRight 0 any bytes
    (then_body bytes r (λ g. body_at too_deep g.wkb_type (layout_of g) bytes))) e (geometry_says 0 bytes)

-- what is read after a header is spelled by the bytes that were taken
pub body_spelled : (bytes : List ℕ) (h : Head) (i : Item) (rest : List ℕ) → head_at bytes ≡ Ok h
    → (body_at too_deep h.wkb_type (layout_of h) bytes).1 ≡ Ok (i, rest) → BytesSpell i
body_spelled bytes h i rest e is = search (rules, says_spelled, says_body)

-- the encoding of a point that was read
pub point_encoding : (l : Layout) (bytes buf : List ℕ) (end : ℕ) → HasHead (λ d. kinds.Point d) l bytes
    → end ≡ point_end l.dimension l.has_srid
    → end ≤ length bytes → buf ≡ take end bytes
    → point_at l bytes ≡ Ok (point_item l (take end bytes), drop end bytes) → IsEncoding 1 l buf
point_encoding l bytes buf end head end-is long buf-is read =
    grind (arith, length-take end bytes, body_spelled bytes _ _ _ head read)

-- and of a line string
pub line_string_is_encoding : (l : Layout) (bytes buf : List ℕ) (n end : ℕ) → HasHead (λ d. kinds.LineString d) l bytes
    → n ≡ number l.order 4 (drop (body_start l.has_srid) bytes) → end ≡ line_string_end l.dimension l.has_srid n
    → end ≤ length bytes → buf ≡ take end bytes
    → (line_string_at l bytes).1 ≡ Ok (line_string_item l (take end bytes), drop end bytes) → IsEncoding 2 l buf
line_string_is_encoding l bytes buf n end head n-is end-is long buf-is read =
    record {
      whole = grind (arith, number_within, length-take);
      spells =
          rw buf-is (body_spelled bytes
          (record { order = l.order; wkb_type = kinds.LineString l.dimension; has_srid = l.has_srid }) _ _ head read);
    }

pub ruleset line_string_laws = (number_within, line_string_is_encoding, slice_laws)
