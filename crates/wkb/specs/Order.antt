-- Lemmas: words are in the order of numbers.
pub use Rattle.wkb_laws.proofs.Doubles.{is_number, not_nan}
pub use Rattle.wkb_bounds.specs.Within.{HasNumbers, IsBetween}
pub use Rattle.wkb_bounds.proofs.Within.{stay_numbers, range_has_numbers, between}
