-- How bytes spell a value, and what an input begins with.
pub use Rattle.wkb_geom.specs.Grammar.{Then, Begins, IsEach, IsCounted}
pub use Rattle.wkb_geom.specs.Spellings.{Header, Spelling, node, Spellings, no_spellings, spelling, header, has_srid}
pub use Rattle.wkb_geom.specs.Spellings.{srid_count, srid_count_each, IsSrid, IsHeader, SpellsCoordinate}
pub use Rattle.wkb_geom.specs.Spellings.{SpellsCoordinates, SpellsBody, Wanted, any, part, member_part, IsPart, Spells}
pub use Rattle.wkb_geom.specs.Spellings.{SpellsEach}
pub use Rattle.wkb_geom.specs.Fronts.{max_nesting, FrontWithin, Front}
pub use Rattle.wkb_laws.specs.Written.{HasOptions, AllHaveOptions}
pub use Rattle.wkb_geom.specs.Codes.{Code, iso_code, ewkb_code, thousands, dimension_of_thousands}
