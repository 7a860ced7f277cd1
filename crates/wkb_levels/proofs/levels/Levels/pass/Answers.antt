use Rattle.std.proofs.Common.{rules, inl, inr}
use Rattle.wkb_levels.proofs.Floors.{place_next}
use Rattle.wkb_levels.proofs.levels.Levels.pass.Goals as goal

pub returns-then-not-are_items-clause-floor : goal.returns-then-not-are_items-clause-floor
returns-then-not-are_items-clause-floor c =
    place_next c.requires.floor _ (inr (search rules)) (inr (search rules)) (inr (search rules))

pub returns-then-not-are_items-2-clause-floor : goal.returns-then-not-are_items-2-clause-floor
returns-then-not-are_items-2-clause-floor c =
    place_next c.requires.floor _ (inl (search rules)) (inr (search rules)) (inr (search rules))

pub returns-then-width-eq0-clause-floor : goal.returns-then-width-eq0-clause-floor
returns-then-width-eq0-clause-floor c =
    place_next c.requires.floor _ (inl (search rules)) (inl (search rules)) (inr (search rules))

pub returns-then-rings_clear-clause-floor : goal.returns-then-rings_clear-clause-floor
returns-then-rings_clear-clause-floor c =
    place_next c.requires.floor _ (inl (search rules)) (inl (search rules)) (inl (search rules))

pub returns-else-rings_clear-clause-floor : goal.returns-else-rings_clear-clause-floor
returns-else-rings_clear-clause-floor c =
    place_next c.requires.floor _ (inl (search rules)) (inl (search rules)) (inl (search rules))
