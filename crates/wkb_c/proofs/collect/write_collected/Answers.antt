use Rattle.wkb_abi.proofs.Common.{arith, ℕ, length-append, drop, refl, ◌++◌, ◌∙◌}
use Rattle.wkb_c.specs.Collections.{front_of, inside_of}
use Rattle.wkb_c.proofs.Gathering.{one_list, never_unfit, whole_laid}
use Rattle.wkb_c.proofs.RowItems.{lent_rest}
use Rattle.wkb_c.proofs.collect.write_collected.Goals as goal

pub returns-then-out-wanted-clause-no_room : goal.returns-then-out-wanted-clause-no_room
returns-then-out-wanted-clause-no_room c = λ none.
    let m = c.requires.measured in
    let target = c.args.target.now in
    let begun = c.lay_front-start.ensures.bytes in record {
      items = front_of target c.args.rows ++ inside_of target m.have.values;
      is = record { have = m.have; encoding_is = refl };
      lacks = record {
        count_is = omega (arith, m.size_is, begun.ends, length-append {A = ℕ});
        short = omega (arith, m.size_is, begun.ends, length-append {A = ℕ}, c.if-out-wanted.true);
      };
    }

pub unreachable-requires : goal.unreachable-requires
unreachable-requires c =
    let have = c.requires.measured.have in
    let first = c.in-Err.ensures.unfit in
    never_unfit _ 0 have.values have.are (omega arith) (omega (arith, have.many, first.below)) first.unfit

pub returns-clause-written : goal.returns-clause-written
returns-clause-written c = λ ok.
    let m = c.requires.measured in
    let w = c.in-Ok.ensures.written in
    let begun = c.lay_front-start.ensures.bytes in
    let start = c.lay_front-start.result in
    let base = c.copy_from_slice.new.self ++ drop start c.args.out.now in record {
      items = front_of c.args.target.now c.args.rows ++ inside_of c.args.target.now m.have.values;
      is = record { have = m.have; encoding_is = refl };
      held =
          whole_laid _ _ (omega (arith, begun.ends)) (omega (arith, m.size_is)) (omega (arith, c.if-out-wanted.false))
          (c.copy_from_slice.ensures.after ∙ begun.is)
          (λ long. lent_rest base c.write_members.new.out start (omega (arith, long, length-append {A = ℕ}))
          c.write_members.auto.out)
          (rw (one_list w.measured.have m.have) at w.laid);
    }
