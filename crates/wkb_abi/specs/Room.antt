-- A slice that items are written into.
use Rattle.std.specs.Prelude.{◌≡◌, ℕ, ◌<◌, ◌++◌, List, length, drop}

-- the items are at the start, nothing after them has changed, and this is their number
pub record IsHeld {A : Type 0} (items before after : List A) (count : ℕ) : Type 0 where
  pub count_is : count ≡ length items
  pub whole : after ≡ items ++ drop (length items) before

-- there are more items than there is room for, and this is their number
pub record Exceeds {A : Type 0} (items before : List A) (count : ℕ) : Type 0 where
  pub count_is : count ≡ length items
  pub short : length before < length items

-- items that are this were written
pub record AreWritten {A : Type 0} (Is : List A → Type 0) (before after : List A) (count : ℕ) : Type 0 where
  pub items : List A
  pub is : Is items
  pub held : IsHeld items before after count

-- items that are this don't fit their room
pub record FindsNoRoom {A : Type 0} (Is : List A → Type 0) (before : List A) (count : ℕ) : Type 0 where
  pub items : List A
  pub is : Is items
  pub lacks : Exceeds items before count
