-- The words that the proofs of this crate share, passed on from one place. Declares nothing.
pub use Rattle.std.proofs.Common.{ℕ, slice_index_or, append_assoc, append-nil, length-append, length-drop, take-suc-set}
pub use Rattle.std.proofs.Common.{length, reverse, slice_set, vec_len, Option, Result, length-set, take_all, take-suc}
pub use Rattle.std.proofs.Common.{List, ◌++◌, take, drop, Bool, true, false, Some, None, subst, arith, rules, sum_by}
pub use Rattle.std.proofs.Common.{◌≡◌, suc, ◌+◌, ◌-◌, ◌*◌, ◌<◌, ◌≤◌, [], ◌∷◌, map, ltb, Ok, Err, refl, sym, ap, ◌∙◌}
pub use Rattle.std.specs.Prelude.{slice_get}
pub use Rattle.std.specs.Borrow.{Bor}
pub use Rattle.std.specs.List.{AllByRecursion}
pub use Rattle.std.specs.Option.{option_map}
pub use Rattle.std.proofs.lemmas.List.{drop-drop, length-reverse, reverse-append}
pub use Rattle.std.proofs.Math.Logic.{∥∥₁_elim}
pub use Rattle.std.proofs.Props.{props}
pub use Rattle.wkb_geom.specs.declared.common.Endianness.TheVariants.{LittleEndian}
pub use Rattle.wkb_geom.specs.Reading.{◌⊕◌, slots_of, then_body, cause_of, geometry_inside}
pub use Rattle.wkb_read.specs.Prelude.{WkbType, Endianness, Cause, ReadError, WkbError, Head, Layout, max_nesting}
pub use Rattle.wkb_read.specs.Prelude.{geometry_of, geometries_of, number, Item, Cost, one_turn, Outcome, Reading}
pub use Rattle.wkb_read.specs.Prelude.{costs, done, list_item, collection_with, collection_within, layout_of, laid}
pub use Rattle.wkb_read.specs.Prelude.{at_no_cost, and_then, consumed, body_start, parts_start, type_kind}
pub use Rattle.wkb_read.specs.Prelude.{type_dimension, body_at, values, spellings, Refuses, any, Listed, Tells}
pub use Rattle.wkb_read.specs.Prelude.{TellsReadError, Coordinate, Value, Values, collection, member_count}
pub use Rattle.wkb_read.specs.Prelude.{listed_count, Counts, HasHead, IsCause, Spent, AtMost, CanCount, Stops}
pub use Rattle.wkb_read.specs.Prelude.{BytesSpell, cost_of, nest, nest_each}
unfoldable pub use Rattle.wkb_read.specs.Prelude.{repeated, head_at, geometry_at}
pub use Rattle.wkb_laws.specs.Laws.{Agrees}
pub use Rattle.wkb_laws.proofs.GeometryAt.{geometry_agrees_lem}
pub use Rattle.wkb_read.specs.declared.{geometry.Wkb.Wkb, read.stack.Begun.TheVariants.Whole, read.stack.Open.Open}
pub use Rattle.wkb_read.specs.Memory.{IsNotMemory, HasNoMembers, TypeTakesNone, ReadsWithoutMemory}
pub use Rattle.wkb_read.specs.Places.{joined_encodings, parts_in, closing, HoldsMembers, IsCollectionIn, AreMembers}
pub use Rattle.wkb_read.specs.Places.{IsMemberAt}
pub use Rattle.wkb_geom.specs.Fronts.{HasNoFront}
pub use Rattle.wkb_read.specs.Reads.{IsFront, IsOnlyFront, IsRefusal, TellsEach, IfRefused, IfMemory, CountsValue}
pub use Rattle.wkb_read.specs.Reads.{CountsRefusal, CountsAtMost, AsksForNone, BeginsNone, KindTakesNone, TakesNoMemory}
pub use Rattle.wkb_view.specs.Lends.{geometry_seen, members_seen}
pub use Rattle.wkb_view.proofs.ViewLaws.{seen_as_it_is}
pub use Rattle.wkb_read.specs.Stack.{after_member, in_collection, outward, first_member, IsOpen, AreOpen, IsFinished}
pub use Rattle.wkb_read.specs.Stack.{collection_inside, BeginsAs, ReadsAs}
pub use Rattle.wkb_laws.proofs.Sums.{sum_more}
pub use Rattle.wkb_view.specs.Entries.{entries}
pub use Rattle.wkb_view.specs.Outcome.{next_turn}
pub use Rattle.wkb_read.specs.Contents.{coordinates_inside, parts_inside}
