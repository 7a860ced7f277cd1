-- Rows that are written in levels, and encoded again, are as they were.
use Rattle.wkb_abi.proofs.Common.{◌≡◌, Dimension, Spelling, dimension, length-append, encoding, geometry_of, Endianness}
use Rattle.wkb_abi.proofs.Common.{List, length, Option, subst, arith, Value, header, subjects}
use Rattle.wkb_abi.specs.declared.{options.Options.Options, column.Column.Column, totals.Totals.Totals}
use Rattle.wkb_abi.specs.declared.{level_column.LevelColumn.LevelColumn, level_column.LevelTarget.LevelTarget}
use Rattle.wkb_abi.specs.declared.{options.Request.Request, options.Request.TheVariants.Encoding}
use Rattle.wkb_abi.specs.declared.{options.Request.TheVariants.OwnSrid, options.TheConstants.EWKB_OWN_SRID}
use Rattle.wkb_abi.proofs.Common.{ℕ, suc, ◌+◌, ◌*◌, ◌≤◌, ◌<◌, ◌^◌, drop, Some, None, refl, sym, ap, ◌∙◌, kind}
use Rattle.std.proofs.Common.{take-append-drop, ◌-◌, take, sum, flat_map, slice_range}
use Rattle.std.proofs.lemmas.Bool.Decides.{nat_tests}
use Rattle.std.proofs.lemmas.List.{length-map}
use Rattle.wkb_laws.specs.Prelude.{as_dimensions, Front, AreBytes}
use Rattle.wkb_laws.proofs.Lengths.{named_width, width-least}
use Rattle.wkb_laws.proofs.OneFront.{one_front_lem}
use Rattle.wkb_laws.proofs.Values.{front_bytes, AreBytes-front, AreBytes-rest}
use Rattle.wkb_levels.proofs.Pieces.{length-range}
use Rattle.wkb_levels.specs.Columns.{IsClear, singles_of}
use Rattle.wkb_levels.specs.Meant.{kind_meant}
use Rattle.wkb_abi.specs.Columns.{is_unset_bit}
use Rattle.wkb_abi.specs.Coordinates.{ends, ring_counts, Level, of_words, of_rings, of_singles, many_in, HoldLevels}
use Rattle.wkb_abi.specs.LevelRows.{HasLevelEncoding, LacksLevels, null_row, unknown, unfit}
use Rattle.wkb_abi.specs.LevelTargets.{levels_in, target_with, target_asked}
use Rattle.wkb_abi.specs.Requests.{IsRequested, request_of, options_for}
use Rattle.wkb_abi.specs.RowItems.{HoldsItems, IsRowAnswer, handed, no_room, failed}
use Rattle.wkb_column_laws.specs.ThereAndBack.{as_spelled, HasEmptyWords, bytes_of, AreGivenOn, IsLevelled}
use Rattle.wkb_column_laws.specs.ThereAndBack.{BackAsSpelled, IsWrittenBack, ThereAndBack}
use Rattle.wkb_abi.proofs.OneRow.{one_row}
use Rattle.wkb_abi.proofs.Rooms.{rise_at}
use Rattle.wkb_column_laws.proofs.ThereAndBackEncodings.{spelled_writable, same_encoding}
use Rattle.wkb_column_laws.proofs.ThereAndBackKinds.{singles_in, gives, HaveWords, have_words, Means, singles_mean}
use Rattle.wkb_column_laws.proofs.ThereAndBackLevels.{sizes_sum, joined, HoldsSingles, singles_are, levels_are}
use Rattle.wkb_column_laws.proofs.ThereAndBackLevels.{spans_are}
use Rattle.wkb_column_laws.proofs.ThereAndBackRows.{rings_more, coordinates_more, fits_before, held_given, single_level}
use Rattle.wkb_column_laws.proofs.ThereAndBackRows.{unscaled, row_there, given, at, ring_level, BeginsAt, begins_at}

-- a part of bytes is bytes
range_bytes : (bytes : List ℕ) (start end : ℕ) → AreBytes bytes → AreBytes (slice_range bytes start end)
range_bytes bytes start end are =
    let rest = drop start bytes in
    let behind : AreBytes rest = AreBytes-rest (take start bytes) rest (rw take-append-drop are) in
    AreBytes-front (take (end - start) rest) (drop (end - start) rest) (rw take-append-drop behind)

module _ {c : Column} {dimension : ℕ} {asked : Dimension} {statuses : List ℕ} {rows : ℕ} {l : LevelColumn}
    (g : AreGivenOn c dimension asked statuses rows l) where
  -- a row whose levels were written
  module _ {i : ℕ} (below : i < rows) {s : Spelling} {t : Value} (lv : IsLevelled c asked statuses i s t) where
    abbrev from : Totals
    from = at g i

    abbrev to : Totals
    to = at g (suc i)

    -- its levels are there, and in what is given on
    written : HoldLevels asked (subjects s t) from to g.now
    written = row_there g.asked_is lv.ok lv.is_row lv.front (g.written.each i below)

    there : HoldLevels asked (subjects s t) from to (given g)
    there = held_given g below written

    -- an earlier row ends before it at each level
    earlier : (j : ℕ) → j ≤ suc i → BeginsAt (levels_in l) j (at g j)
    earlier j up =
        begins_at g j (omega (arith, up, below))
        (fits_before g (suc i) j up (omega (arith, below)) (λ k. (written k).within))

    -- where it begins and ends
    begin : BeginsAt (levels_in l) i from
    begin = earlier i (omega arith)

    end : BeginsAt (levels_in l) (suc i) to
    end = earlier (suc i) (omega arith)

    -- its singles, and how many words and rings they have
    abbrev own : List (List (List (List ℕ)))
    own = singles_in s t

    words_are : HaveWords asked (subjects s t) (joined (joined own))
    words_are = grind (arith, subjects, joined, have_words)

    sum_is : sum (flat_map ring_counts (subjects s t)) ≡ length (joined (joined own))
    sum_is = rw (gives s t).1 (sizes_sum (joined own))

    rings_are : length (flat_map ring_counts (subjects s t)) ≡ length (joined own)
    rings_are = rw (gives s t).1 (length-map (joined own) (λ cs. length cs))

    -- the levels of the row hold the singles of its geometry
    holds : HoldsSingles (levels_in l) (as_dimensions asked) i own
    holds = record {
      some_words = omega (arith, named_width asked, width-least asked);
      wide = rw (← named_width asked) words_are.wide;
      single_ends = subst (λ T. T) (λ k. HoldsItems (sym (single_level g).ends k) (sym begin.singles k)
          (sym end.singles k) (ends (sym begin.rings k) ((gives s t).0 k))) (there of_singles);
      ring_ends = subst (λ T. T) (λ k. HoldsItems (sym (ring_level g).ends k) (sym begin.rings k) (sym end.rings k)
          (ends (sym begin.coordinates k) ((gives s t).1 k))) (there of_rings);
      words = subst (λ T. T) (λ k. HoldsItems l.words.now (named_width asked k * sym begin.coordinates k)
          (named_width asked k * sym end.coordinates k) (words_are.words_are k)) (there of_words);
      rings = omega (arith, begin.rings, end.rings, rings_more there, rings_are);
      coordinates = end.coordinates ∙ coordinates_more there ∙ (λ k. sym begin.coordinates k + sum_is k);
    }

    -- they are clear of earlier rows
    clear : IsClear (levels_in l) (as_dimensions asked) i
    clear = record {
      spans = spans_are holds;
      singles = λ j h spans. omega (arith, (before j h).singles, begin.singles, rise j h of_singles);
      rings = λ j h spans. omega (arith, (before j h).rings, begin.rings, rise j h of_rings);
      coordinates = λ j h spans.
          let far = unscaled asked (at g (suc j)).coordinates from.coordinates (rise j h of_words) in
          omega (arith, (before j h).coordinates, begin.coordinates, far);
    }
      where
        before : (j : ℕ) → j < i → BeginsAt (levels_in l) (suc j) (at g (suc j))
        before j h = earlier (suc j) (omega (arith, h))

        rise : (j : ℕ) → j < i → (k : Level) → many_in k asked (at g (suc j)) ≤ many_in k asked from
        rise j h k = rise_at g.written k asked i (omega (arith, below)) (suc j) (omega (arith, h))

    -- they mean what the bytes spell
    means : Means s t
    means = singles_mean s t lv.front.front lv.plain lv.front.spelled

    row_meant : kind_meant means.kind_is (as_dimensions asked) (singles_of (levels_in l) (as_dimensions asked) i)
        ≡ Some (as_spelled s t)
    row_meant = rw (singles_are holds) (rw lv.dimension_is at means.meant)

    -- which can be written, so the row has the encoding of that
    has_encoding : (o : Options) (request : Request) → request_of o ≡ Some request
        → HasLevelEncoding l (target_asked (kind t) dimension o) i
        (bytes_of (options_for request None) (as_spelled s t))
    has_encoding o request asked_so =
        let options = options_for request None in
        let r = lv.is_row.slice in
        let bytes : AreBytes lv.row = rw r.row_is (range_bytes c.bytes.now r.start r.end g.bytes) in
        let long = length-range c.bytes.now r.start r.end r.span.inside in
        let small : length lv.front.front < 2 ^ 63 =
        omega (arith, g.small, ap length lv.front.whole, length-append lv.front.front lv.rest, ap length r.row_is, r) in
        record {
          present =
              (λ k. is_unset_bit (g.levels.validity k) (g.levels.validity_offset k + i)) ∙ lv.is_row.present;
          target = record { kind = means.kind_is; dim = as_dimensions asked; options = options };
          is_asked = λ k. target_with (means.named k) (g.asked_is k) (asked_so k);
          encoding = record {
            geometry = as_spelled s t;
            row = record { levels = levels_are holds; clear = clear; meant = row_meant };
            writable =
                spelled_writable options.endianness options.form s t lv.front.front
                (front_bytes lv.row s t lv.rest bytes lv.front) small lv.front.spelled;
            is = refl;
          };
        }

-- for every column
pub back_as_spelled : BackAsSpelled
back_as_spelled c dimension asked statuses rows l g i below s t lv o request asked_so =
    has_encoding g below lv o request asked_so

-- ---- what is written of the row itself

-- only one number of a form asks for the row's own SRID
own_srid : (o : Options) (order : Endianness) → request_of o ≡ Some (OwnSrid order) → o.form ≡ EWKB_OWN_SRID
own_srid o order asked = grind (arith, nat_tests)

module _ {row rest : List ℕ} {s : Spelling} {t : Value} (front : Front row s t rest) (empty : HasEmptyWords s t) where
  -- as it is asked for, it is that of what the bytes spell
  requested : (request : Request) → ((order : Endianness) → request ≡ OwnSrid order → (header s).srid ≡ None)
      → (bytes : List ℕ) → IsRequested request row bytes → bytes ≡ bytes_of (options_for request None) (as_spelled s t)
  requested (Encoding o) none bytes is =
      let one = one_front_lem row is.s s is.t t is.rest rest is.front front in
      is.written ∙ ap (λ v. bytes_of o (geometry_of v)) one.2 ∙ sym (same_encoding o.endianness o.form s t empty)
  requested (OwnSrid order) none bytes is =
      let one = one_front_lem row is.s s is.t t is.rest rest is.front front in
      let srid : (header is.s).srid ≡ None = ap (λ z. (header z).srid) one.1 ∙ none order refl in
      grind (arith, same_encoding)

-- what a call tells of a row that has an encoding, which is its only one
answered : {l : LevelColumn} {asked : Option LevelTarget} {i status start end : ℕ} {out encoding : List ℕ}
    → HasLevelEncoding l asked i encoding
    → IsRowAnswer (HasLevelEncoding l asked) (LacksLevels l asked) i status start end out
    → IsWrittenBack encoding i status start end out
answered has (handed items is ok held) = handed items (cc) ok held
answered has (no_room items is lacks end_is short) = no_room items (cc) lacks end_is short
answered has (failed (null_row null is_status) end_is) = absurd cc
answered has (failed (unknown present none is_status) end_is) = absurd cc
answered {l} {i = i} {encoding = encoding} has (failed (unfit present t is_asked differ is_status) end_is) =
    absurd (differ encoding (grind arith))

-- both together
pub there_and_back : ThereAndBack
there_and_back c dimension asked statuses rows l g i below s t lv empty o none encoding has statuses' ends out each
    inside =
    let request = has.has.request in
    let front : Front has.row s t lv.rest = subst (λ z. Front z s t lv.rest) (one_row lv.is_row has.is) lv.front in
    let is = requested front empty request
    (λ order is. none (own_srid o order (has.has.asked ∙ ap (λ z. Some z) is))) encoding has.has.is_requested in
    let own = subst (HasLevelEncoding l (target_asked (kind t) dimension o) i) (sym is)
    (has_encoding g below lv o request has.has.asked) in
    answered own (each i inside)
