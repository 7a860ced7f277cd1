use Rattle.wkb_check.specs.Prelude.{HasGeometry, bytes_left}
use Rattle.wkb_rewrite.proofs.Comparing.{shares_at, Compared}
use Rattle.wkb_rewrite.proofs.comparison.have_like_pieces.Given as goal

abbrev pub decreases-loop-x : goal.decreases-loop-x
decreases-loop-x l = bytes_left l.firsts

abbrev pub invariant-loop-x : goal.invariant-loop-x
invariant-loop-x l = (g : HasGeometry l.a) (h : HasGeometry l.b)
    → Compared l.a l.b l.firsts l.seconds (shares_at g) (shares_at h)
