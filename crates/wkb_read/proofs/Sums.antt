-- Sums over parts are below the number of bytes.
use Rattle.wkb_read.proofs.Prelude.{◌≡◌, ℕ, ◌+◌, ◌≤◌, List, [], ◌∷◌, length, refl, arith, Item, values, BytesSpell}
use Rattle.wkb_read.proofs.Prelude.{Layout, list_item, collection_with, rules, sum_by, coordinates_inside, parts_inside}
use Rattle.std.proofs.lemmas.List.Sums.{sum_by-cons}
use Rattle.wkb_geom.specs.Counted.{coordinate_count, coordinate_count_each}
use Rattle.wkb_geom.specs.Values.{member_count, member_count_each}
use Rattle.wkb_laws.proofs.Counts.{counts_within}
use Rattle.wkb_laws.proofs.Spelled.{in_full_lem}

-- a geometry has fewer coordinates and parts than bytes
pub bytes_counted : (w : Item) → BytesSpell w
    → coordinate_count w.value + (1 + member_count w.value) ≤ length w.encoding
bytes_counted w spells = grind (arith, counts_within, in_full_lem)

-- the numbers of members, one member after another
pub coordinates_summed : (ms : List Item) → coordinate_count_each (values ms) ≡ sum_by coordinates_inside ms
coordinates_summed [] = refl
coordinates_summed (m ∷ ms) = omega (arith, coordinates_summed ms, sum_by-cons coordinates_inside m ms)

pub members_summed : (ms : List Item) → member_count_each (values ms) ≡ sum_by parts_inside ms
members_summed [] = refl
members_summed (m ∷ ms) = omega (arith, members_summed ms, sum_by-cons parts_inside m ms)

-- so has a collection, by its members
pub collection_counted : (l : Layout) (ms : List Item) (encoding : List ℕ)
    → BytesSpell (list_item l collection_with ms encoding)
    → sum_by coordinates_inside ms + (1 + sum_by parts_inside ms) ≤ length encoding
collection_counted l ms encoding spells =
    search (rules, bytes_counted, list_item, collection_with, coordinates_summed, members_summed)
