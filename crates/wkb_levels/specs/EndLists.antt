-- Where the items of a level end, as a list.
use Rattle.std.specs.Prelude.{ℕ, suc, ◌-◌, List}
use Rattle.std.specs.List.{range_with_len}
use Rattle.wkb_levels.specs.declared.ends.Ends.{Ends}
use Rattle.wkb_levels.specs.declared.ends.Ends.TheVariants as variants
use Rattle.wkb_levels.specs.Cuts.{start_at, AreEnds}

-- where the first begins
abbrev pub start_of : Ends → ℕ
start_of (variants.Each from to) = from
start_of (variants.At start ends) = start

-- where each ends: one each are the numbers up to the last
abbrev pub ends_of : Ends → List ℕ
ends_of (variants.Each from to) = range_with_len (suc from) (to - from)
ends_of (variants.At start ends) = ends.now

-- where item i begins
abbrev pub begin_of : Ends → ℕ → ℕ
begin_of e i = start_at (start_of e) (ends_of e) i

-- the ends don't fall, from the start on, and none passes the limit
abbrev pub AreEndsWithin : ℕ → Ends → Type 0
AreEndsWithin limit e = AreEnds limit (start_of e) (ends_of e)
