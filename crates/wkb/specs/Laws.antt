-- The statements of the lemmas of `Known`, and the records that they name.
pub use Rattle.wkb_laws.specs.Laws.{HasOneFront, RestIsFree, BytesAreRead, HasFront, HasRefusal, ReadOrRefused}
pub use Rattle.wkb_laws.specs.Laws.{NeverBoth, OneRefusal, WritableIsRead, listed_inside, RefusedOutward, EndsTooEarly}
pub use Rattle.wkb_laws.specs.Laws.{CutIsRefused, Agrees, GeometryAgrees, FrontIsRead, RefusalIsRead, FrontIsBounded}
pub use Rattle.wkb_laws.specs.Laws.{RefusalIsBounded, ReadingIsBounded, EncodingSpells, WrittenIsRead, EncodingHasSize}
pub use Rattle.wkb_laws.specs.Laws.{LengthOfEncoding, LengthOfFront, FrontIsWritable, EwkbIsWritable, SizeIsRefused}
pub use Rattle.wkb_laws.specs.Laws.{OwnSridIsWritable, RewritingIsRead, RewritingIsFixed, RewritingWithSridIsFixed}
pub use Rattle.wkb_laws.specs.Laws.{EqualEncodings, EqualEncodingsWithSrid, EqualEncodingsWithOwnSrid, NamedDimension}
pub use Rattle.wkb_laws.specs.Laws.{RanksInOrder}
pub use Rattle.wkb_laws.specs.Encodings.{spelled_size, SpelledInFull, SizeOfSpelled, IsRewritable, SpelledIsWritable}
pub use Rattle.wkb_laws.specs.Encodings.{EqualSpelled, EqualSpelledWithSrid}
pub use Rattle.wkb_laws.specs.Places.{HasOneEncoding, HaveOneEncoding, CoordinateHasOneEncoding, behind_count, IsOneOf}
pub use Rattle.wkb_laws.specs.Places.{IsMember, first_spellings, first_values, SpellsFirst, first_size, member_start}
pub use Rattle.wkb_laws.specs.Places.{ring_start, StandsAt, HoldsMember, FirstStart, NextStart, FirstRingStart}
pub use Rattle.wkb_laws.specs.Places.{NextRingStart, MembersStand, HoldsRing, RingsStand}
pub use Rattle.wkb_laws.specs.Places.{MembersInPlace, RingsInPlace, IsWordOf, WordsStand, LineStringWordsStand}
