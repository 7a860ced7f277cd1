-- Coordinates one after another.
use Rattle.std.specs.Prelude.{◌≡◌, ℕ, ◌+◌, ◌*◌, ◌/◌, List, drop}
use Rattle.wkb_laws.specs.Prelude.{Endianness, number, items, Coordinate}
use Rattle.wkb_bounds.specs.declared.run.Run.{Run}

-- n coordinates of this size at the start of the bytes
abbrev pub rows : Endianness → ℕ → ℕ → List ℕ → List Coordinate
rows order size n bytes = items size (items 8 (number order 8) (size / 8)) n bytes

abbrev pub run_coordinates : Run → List Coordinate
run_coordinates r = rows r.order r.size r.count r.bytes.now

-- it is a run of n coordinates of this size at the start of the bytes
pub record IsRun (order : Endianness) (size n : ℕ) (bytes : List ℕ) (r : Run) : Type 0 where
  pub coordinates_are : run_coordinates r ≡ rows order size n bytes
  pub size_is : r.size ≡ size
  pub count_is : r.count ≡ n

-- word k of the first coordinate
abbrev pub first_word : ℕ → Run → ℕ
first_word k r = number r.order 8 (drop (8 * k) r.bytes.now)

-- the rest has the coordinates behind the first
pub record IsBehindFirst (r rest : Run) : Type 0 where
  pub order_is : rest.order ≡ r.order
  pub size_is : rest.size ≡ r.size
  pub count_is : r.count ≡ rest.count + 1
  pub bytes_are : rest.bytes.now ≡ drop r.size r.bytes.now
