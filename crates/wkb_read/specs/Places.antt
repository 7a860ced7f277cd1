-- Where the members of a collection are in its bytes.
use Rattle.std.specs.Prelude.{◌≡◌, ℕ, ◌+◌, ◌≤◌, List, [], ◌∷◌, ◌++◌, length, Bool, Option, slice_get}
use Rattle.std.specs.Option.{is_some}
use Rattle.std.specs.List.{AllByRecursion}
use Rattle.wkb_read.specs.Prelude.{Layout, Values, Listed, whole_of, collection, Item, Reading, done, list_item}
use Rattle.wkb_read.specs.Prelude.{collection_with, spelled_in, consumed, body_start, parts_start, spellings, values}
use Rattle.wkb_read.specs.Prelude.{srid_of, members_spelled, BytesSpell}

-- the item that a collection is
abbrev pub collection_seen : Listed Values → Item
collection_seen = whole_of collection

-- the collection that an encoding is, by its layout and its members, as a view of it holds it
abbrev pub parts_in : Layout → List Item → List ℕ → Listed Values
parts_in l members encoding = record {
  encoding = encoding;
  spelled = spelled_in l encoding [] (spellings members);
  dimension = l.dimension;
  parts = values members;
}

-- what is read once a collection that began with these bytes has all its members
abbrev pub closing : Layout → List ℕ → List Item → List ℕ → Reading Item
closing l bytes members after = done (list_item l collection_with members (consumed bytes after)) after

-- the bytes of these geometries, one after another
abbrev pub joined_encodings : List Item → List ℕ
joined_encodings [] = []
joined_encodings (m ∷ ms) = m.encoding ++ joined_encodings ms

-- after a collection's count come its members, one after another, each spelled by its bytes, and nothing else
pub record HoldsMembers (has_srid : Bool) (encoding : List ℕ) (members : List Item) : Type 0 where
  pub long : body_start has_srid + 4 ≤ length encoding
  pub behind : parts_start has_srid encoding ≡ joined_encodings members
  pub each : AllByRecursion BytesSpell members

-- the encoding holds these members, and spells their collection
abbrev pub IsCollectionIn : Layout → List Item → List ℕ → Type 0
IsCollectionIn l members encoding =
    HoldsMembers l.has_srid encoding members × BytesSpell (list_item l collection_with members encoding)

-- the members of a collection, by their bytes, their spellings and their values
pub record AreMembers (whole : Listed Values) (members : List Item) : Type 0 where
  pub bytes : HoldsMembers (is_some (srid_of whole.spelled)) whole.encoding members
  pub spelled : spellings members ≡ members_spelled whole.spelled
  pub value : values members ≡ whole.parts

-- the member of this number, if there is one, among the members that a collection has
abbrev pub IsMemberAt : Listed Values → ℕ → Option Item → Type 0
IsMemberAt whole i found = (members : List Item) → AreMembers whole members → found ≡ slice_get members i
