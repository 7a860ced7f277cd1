-- Lists that are allocated once, and the entries that are asked for after a count.
use Rattle.std.specs.Prelude.{ℕ, ◌+◌, ◌-◌, ◌/◌, ◌≤◌, min, List, length, vec_capacity}
use Rattle.wkb_view.specs.Prelude.{ReadError, Layout, body_start, parts_start, count_in, HasNoCount}
use Rattle.wkb_view.specs.Prelude.read_errors
use Rattle.wkb_view.specs.declared.reserved.Reserved.{Reserved}

-- the entries of a list
abbrev pub entries : {T : Type 0} → Reserved T → List T
entries list = list.items.items

-- the number of entries that it has room for
abbrev pub capacity : {T : Type 0} → Reserved T → ℕ
capacity list = vec_capacity list.items

-- the number of entries that are asked for after the count, where each part has at least `least` bytes
abbrev pub entries_asked : ℕ → Layout → List ℕ → ℕ
entries_asked least l bytes = min (count_in l bytes) ((length bytes - (body_start l.has_srid + 4)) / least)

-- there is room for n parts after the count, or for as many as the bytes can hold
abbrev pub HasSlots : ℕ → Layout → ℕ → List ℕ → ℕ → Type 0
HasSlots least l n bytes room = min n (length (parts_start l.has_srid bytes) / least) ≤ room

-- why there is no list: the input ends before the count does, or the allocation failed
abbrev pub HasNoList : Layout → List ℕ → ReadError → Type 0
HasNoList l bytes (read_errors.Cause cause) = HasNoCount l bytes cause
HasNoList l bytes read_errors.Memory = Unit {0}
