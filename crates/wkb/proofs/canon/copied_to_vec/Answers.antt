use Rattle.std.proofs.Common.{◌∙◌, ◌++◌, sym, length-take-le}
use Rattle.wkb.proofs.canon.copied_to_vec.Goals as goal

pub slice_bounds-extend_from_slice-end : goal.slice_bounds-extend_from_slice-end
slice_bounds-extend_from_slice-end c =
    sym (length-take-le c.lay_header-end.result c.lay_header-end.new.out c.lay_header-end.ensures.inside)

pub returns-clause-ok : goal.returns-clause-ok
returns-clause-ok c =
    let header = c.in_ok-extend_from_slice.ensures.items
    ∙ (λ i. c.in_ok-encoding.ensures.items i ++ c.lay_header-end.ensures.header i) in
    c.in_ok-extend_from_slice-2.ensures.items ∙ (λ i. header i ++ c.args.copied.now.rest.now)
