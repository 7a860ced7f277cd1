-- Points, line strings and rings: how they are passed, and how many coordinates they have.
use Rattle.std.proofs.Common.{rules, ◌≡◌, ℕ, ◌+◌, ◌*◌, ◌≤◌, List, length, drop, take, Ok, Err, sym, ◌∙◌, ◌-◌, arith}
use Rattle.std.proofs.Common.{length-drop, length-take-le, take-append-drop, add-zero, take_all}
use Rattle.wkb_laws.specs.Prelude.{Dimension, Endianness, Cause, Layout, width, length-items, number}
use Rattle.wkb_geom.specs.Refusals.{line_string_end, ring_end}
use Rattle.wkb_geom.specs.Reading.{Outcome, at_no_cost, count_in, ring_in, coordinate, point_at, ring_at}
use Rattle.wkb_geom.specs.Reading.{line_string_at, ring_part, line_string_item, point_item, refused}
use Rattle.wkb_laws.proofs.GeometryAt.{line_string_free}
use Rattle.wkb_laws.proofs.Heads.{number_in}
use Rattle.wkb_check.specs.Walked.{Tally, walked, ring_coordinates, coordinates_by}

-- what is rejected itself
pub refused_walked : {A : Type 0} (many : A → ℕ) (bytes : List ℕ) (c : Cause) (t : Tally)
    → walked many (refused bytes c) t ≡ Err (t.0, (c, length bytes))
refused_walked many bytes c t = simp add-zero

-- how many coordinates a ring has that begins here, in an encoding that ends there
coordinates_there : (order : Endianness) (d : Dimension) (start end : ℕ) (bytes : List ℕ) → start + 4 ≤ end
    → end ≤ length bytes
    → length (ring_in order d (drop start (take end bytes))) ≡ number order 4 (drop start bytes)
coordinates_there order d start end bytes counted whole =
    let encoding = take end bytes in
    let size : length encoding ≡ end = length-take-le end bytes whole in
    length-items (8 * width d) (coordinate order d) (number order 4 (drop start encoding))
    (drop 4 (drop start encoding))
    ∙ sym (number_in order start bytes encoding (drop end bytes) (sym (take-append-drop end bytes)) (omega arith))

-- a coordinate has sixteen bytes at least
pub wide : (d : Dimension) (n : ℕ) → 16 * n ≤ 8 * width d * n
wide d n = grind arith

-- what is counted of a part that is passed, by where it ends
leaf_passes : {A : Type 0} (many : A → ℕ) (x : A) (bytes : List ℕ) (n end turns passed : ℕ)
    (read : Outcome A)
    → read ≡ Ok (x, drop end bytes) → many x ≡ n
    → walked many (at_no_cost read) (turns, passed)
    ≡ Ok ((turns, passed + n), take (length bytes - end) (drop end bytes))
leaf_passes many x bytes n end turns passed read is counted = grind (arith, take_all, length-drop, add-zero)

module _ (l : Layout) (bytes : List ℕ) where
  pub ring_passes : (n end turns passed : ℕ) → n ≡ number l.order 4 bytes → end ≡ ring_end l.dimension n
      → end ≤ length bytes
      → ring_at l.order l.dimension bytes ≡ Ok (take end bytes, drop end bytes)
      → walked (ring_coordinates l) (ring_part l bytes) (turns, passed)
      ≡ Ok ((turns, passed + n), take (length bytes - end) (drop end bytes))
  ring_passes n end turns passed n-is end-is whole read =
      leaf_passes (ring_coordinates l) (take end bytes) bytes n end turns passed _ read
      (coordinates_there l.order l.dimension 0 end bytes (omega (arith, end-is)) whole ∙ sym n-is)

  pub line_string_passes : (n end turns passed : ℕ) → n ≡ count_in l bytes
      → end ≡ line_string_end l.dimension l.has_srid n → end ≤ length bytes
      → (line_string_at l bytes).1 ≡ Ok (line_string_item l (take end bytes), drop end bytes)
      → walked (coordinates_by 2) (line_string_at l bytes) (turns, passed)
      ≡ Ok ((turns, passed + n), take (length bytes - end) (drop end bytes))
  line_string_passes n end turns passed n-is end-is whole read =
      rw (line_string_free l bytes) (leaf_passes (coordinates_by 2) (line_string_item l (take end bytes)) bytes n end
      turns passed _ read (grind (arith, coordinates_there) ∙ sym n-is))

  pub point_passes : (end turns passed : ℕ) → end ≤ length bytes
      → point_at l bytes ≡ Ok (point_item l (take end bytes), drop end bytes)
      → walked (coordinates_by 1) (at_no_cost (point_at l bytes)) (turns, passed)
      ≡ Ok ((turns, passed + 1), take (length bytes - end) (drop end bytes))
  point_passes end turns passed whole read = search (rules, leaf_passes)

pub ruleset leaf_laws = (wide, refused_walked, point_passes, line_string_free, line_string_passes, ring_passes)
