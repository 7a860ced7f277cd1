use Rattle.std.proofs.Common.{◌≡◌, ◌*◌, ◌≤◌, length, length-drop, drop, ap, arith, refl, subst}
use Rattle.wkb_laws.specs.Prelude.{width, coordinates}
use Rattle.wkb_bounds.specs.Ordinates.{words_in, words_on}
use Rattle.wkb_bounds.specs.Ranges.{no_numbers, widened, range_of}
use Rattle.wkb_check.proofs.Placing.{own_inside}
use Rattle.wkb_bounds.proofs.Words.{one_words, on_nothing, leaf_end}
use Rattle.wkb_bounds.proofs.scan.piece_bounds_into.Goals as goal
use Rattle.wkb_bounds.proofs.scan.piece_bounds_into.Goals.{After-rest_from-bytes}

pub rest_from-bytes-requires : goal.rest_from-bytes-requires
rest_from-bytes-requires c =
    let p = c.args.only.now in
    let i = own_inside c.args.buf.now 0 _ c.requires.here p (c.requires.only c.requires.here) refl in
    omega (arith, leaf_end p c.requires.low)

-- the coordinates are there
whole : (c : After-rest_from-bytes)
    → 8 * width c.args.only.now.dimension * c.args.only.now.count ≤ length c.rest_from-bytes.result.now
whole c =
    let p = c.args.only.now in
    let buf = c.args.buf.now in
    let i = own_inside buf 0 _ c.requires.here p (c.requires.only c.requires.here) refl in
    omega (arith, leaf_end p c.requires.low, ap length c.rest_from-bytes.ensures, length-drop p.offset buf)

pub of_coordinate-requires : goal.of_coordinate-requires
of_coordinate-requires c =
    let p = c.args.only.now in
    omega (
      arith,
      whole (goal.at.of_coordinate-requires c).After-rest_from-bytes,
      ap (λ n. 8 * width p.dimension * n) c.if-only-eq1.true,
    )

pub returns-then-only-eq1 : goal.returns-then-only-eq1
returns-then-only-eq1 c = λ g a.
    let p = c.args.only.now in
    let buf = c.args.buf.now in
    rw (c.of_coordinate.ensures a, on_nothing a, c.rest_from-bytes.ensures)
    (subst
    (λ n. widened no_numbers (words_in a p.dimension (coordinates p.order p.dimension n (drop p.offset buf)))
    ≡ range_of (words_on a g.value)) c.if-only-eq1.true
    (one_words a buf g p (c.requires.only g) c.requires.low))

pub run_bounds_into-requires : goal.run_bounds_into-requires
run_bounds_into-requires c = whole (goal.at.run_bounds_into-requires c).After-rest_from-bytes

pub returns : goal.returns
returns c = grind (arith, on_nothing, one_words)
