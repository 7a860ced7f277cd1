-- Lemmas: what a range says of the numbers that it was widened by, and of those of a value on an axis.
pub use Rattle.wkb_bounds.specs.Within.{IsWithin, BringsWithin, WidenedBefore}
pub use Rattle.wkb_bounds.proofs.Within.{stays_within, within_range_of, number_within, item_within, ordinate_within}
pub use Rattle.wkb_bounds.proofs.Within.{drop_at, widening_starts, widens_next, widening_ends, same_bounds}
