use Rattle.wkb_abi.proofs.Common.{levels_of, ◌∙◌}
use Rattle.wkb_abi.proofs.Levels.{member_levels, member_fits}
use Rattle.wkb_abi.proofs.level_slices.lay_levels.Goals as goal

pub first_of_member-own-requires : goal.first_of_member-own-requires
first_of_member-own-requires c = (c.in-Some.ensures c.requires.here).member

pub lay_by_kind-requires-clause-here : goal.lay_by_kind-requires-clause-here
lay_by_kind-requires-clause-here c = (c.in-Some.ensures c.requires.here).member

pub lay_by_kind-requires-clause-room : goal.lay_by_kind-requires-clause-room
lay_by_kind-requires-clause-room c =
    let g = c.requires.here in
    member_fits g (c.in-Some.ensures g) c.args.from c.args.asked (levels_of c.args.out.now) (c.requires.room g)

pub returns-in-Some-clause-levels : goal.returns-in-Some-clause-levels
returns-in-Some-clause-levels c = λ g.
    let only = c.in-Some.ensures g in
    c.lay_by_kind.ensures.levels only.member ∙ member_levels g only c.args.from c.args.asked (levels_of c.args.out.now)
