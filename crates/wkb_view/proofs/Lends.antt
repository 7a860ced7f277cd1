-- The bytes of a geometry begin with it, so its value is lawful and can be written, and the traits show it.
use Rattle.wkb_view.proofs.Prelude.{◌≡◌, ap, ◌<◌, ◌≤◌, ℕ, List, [], length, refl, subst, sym, append-nil, arith}
use Rattle.wkb_view.proofs.Prelude.{geometry_of, in_full_lem, point_value, fitted_geometry-same, AreBytes, BytesSpell}
use Rattle.wkb_view.proofs.Prelude.{Endianness, Item, point_seen, line_string_seen, multi_point_seen, LineString}
use Rattle.std.proofs.Common.{◌^◌}
use Rattle.wkb_laws.specs.Prelude.{max_nesting, nest}
use Rattle.wkb_laws.proofs.Lengths.{front_is_writable_lem}
use Rattle.wkb_view.specs.Lends.{IsFront, Lends, AreSlice}
use Rattle.wkb_view.specs.Prelude.{LittleEndian}
use Rattle.wkb_view.specs.declared.{multi_point.MultiPoint.MultiPoint, point.Point.Point}
use Rattle.wkb_view.proofs.Items.{point_encoding_is}

pub lends : (w : Item) (bytes : List ℕ) → bytes ≡ w.encoding → BytesSpell w → nest w.value ≤ max_nesting
    → AreSlice bytes → Lends w bytes
lends w bytes is spells shallow slice =
    let f : IsFront bytes w =
    record {
      rest = [];
      front = grind (arith, append-nil, in_full_lem);
      encoding_is = refl;
    } in
    let law =
    λ (order : Endianness).
    front_is_writable_lem order bytes w.spelled w.value [] slice.bytes slice.fits f.front in
    record {
      encoding = is;
      spells = spells;
      front = f;
      read =
          record {
            front = subst (λ b. IsFront b w) is f;
            bytes = subst AreBytes is slice.bytes;
            fits = subst (λ b. length b < 2 ^ 64) is slice.fits;
            lawful = (law LittleEndian).0;
            seen = fitted_geometry-same (geometry_of w.value) (law LittleEndian).0;
            normal = (law LittleEndian).1;
            writable = λ order. (law order).2;
          };
    }

-- ---- the views that keep what reading found in ghost fields

pub point_lends : (p : Point) → AreSlice p.buf.now → Lends (point_seen p) p.buf.now
point_lends p slice =
    lends (point_seen p) p.buf.now (sym (point_encoding_is p.layout p.buf.now)) p.spells
    (omega (arith, ap nest (point_value p))) slice

pub line_string_lends : (l : LineString) → AreSlice l.buf.now → Lends (line_string_seen l) l.buf.now
line_string_lends l slice = lends (line_string_seen l) l.buf.now refl l.spells (omega arith) slice

pub multi_point_lends : (m : MultiPoint) → AreSlice m.buf.now → Lends (multi_point_seen m) m.buf.now
multi_point_lends m slice = lends (multi_point_seen m) m.buf.now refl m.spells (omega arith) slice
