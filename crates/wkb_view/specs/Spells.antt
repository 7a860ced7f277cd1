-- How bytes spell a geometry.
use Rattle.std.specs.Prelude.{ℕ, Option}
use Rattle.wkb_laws.specs.Prelude.{Endianness, Spelling, header, Spells, Item}

-- the bytes of a geometry spell its value
abbrev pub BytesSpell : Item → Type 0
BytesSpell i = ∥ Spells i.spelled i.value i.encoding ∥₁

-- the SRID in its header
abbrev pub srid_of : Spelling → Option ℕ
srid_of s = (header s).srid

-- the order of its header, and of its own numbers
abbrev pub order_of : Spelling → Endianness
order_of s = (header s).order
