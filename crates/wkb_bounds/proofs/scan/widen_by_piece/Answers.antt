use Rattle.std.proofs.Common.{◌∙◌, sym, ap, arith}
use Rattle.wkb_bounds.specs.Bounded.{on, bounds_by}
use Rattle.wkb_bounds.specs.Ranges.{widened}
use Rattle.wkb_check.proofs.Leaves.{wide}
use Rattle.wkb_bounds.proofs.Widening.{counts_more}
use Rattle.wkb_bounds.proofs.Words.{leaf_words, leaf_end}
use Rattle.wkb_bounds.proofs.scan.widen_by_piece.Goals as goal

pub returns-then-has_coordinates : goal.returns-then-has_coordinates
returns-then-has_coordinates c =
    let p = c.args.piece.now in
    let leaf = sym c.has_coordinates.ensures ∙ c.if-has_coordinates.true in
    record {
      widens = λ a.
          c.widen.ensures a
          ∙ rw (c.rest_from-bytes.ensures)
          (ap (widened (on a (bounds_by c.args.extremes.now))) (sym (leaf_words a c.args.buf.now p leaf)));
      few = λ a.
          omega (
            arith,
            c.requires.few a,
            counts_more _ _ _ _ _ _ a c.widen.ensures,
            leaf_end p leaf,
            wide p.dimension p.count,
          );
    }
