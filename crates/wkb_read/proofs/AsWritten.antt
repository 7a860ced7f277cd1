-- A collection that is spelled as it is written.
use Rattle.wkb_read.proofs.Prelude.{◌≡◌, ℕ, List, [], ◌∷◌, Bool, refl, AllByRecursion, Layout, Endianness, Item}
use Rattle.wkb_read.proofs.Prelude.{spellings, values, geometries_of, list_item, collection_with, arith, take_all}
use Rattle.wkb_read.specs.Prelude.{IsSpelledAsWritten}
use Rattle.wkb_geom.specs.Encodings.{inner, form_with_flags}
use Rattle.wkb_geom.specs.Numbers.{AreBytes}
use Rattle.wkb_laws.specs.Written.{written_each}
use Rattle.wkb_view.proofs.Encodings.{HasWrittenHeader, header_spelled, as_member}
use Rattle.wkb_view.proofs.Members.{all_more}

-- members that are spelled as they are written
members_written : (order : Endianness) (has_flags : Bool) (members : List Item)
    → AllByRecursion (IsSpelledAsWritten order has_flags) members
    → spellings members ≡ written_each order (inner (form_with_flags has_flags)) (geometries_of (values members))
members_written order has_flags [] all = refl
members_written order has_flags (m ∷ members) all =
    rw (all.0.same, as_member order has_flags m.value, members_written order has_flags members all.1) refl

-- and so is a collection of them, with the header that is written
pub collection_written : (order : Endianness) (has_flags : Bool) (l : Layout) (members : List Item) (encoding : List ℕ)
    → AreBytes encoding → HasWrittenHeader 7 l encoding order has_flags
    → AllByRecursion (IsSpelledAsWritten order has_flags) members
    → IsSpelledAsWritten order has_flags (list_item l collection_with members encoding)
collection_written order has_flags l members encoding range h all =
    grind (arith, header_spelled, spellings, members_written)

pub ruleset written_laws = (take_all, all_more, collection_written)
