-- What reading an input says of it.
use Rattle.std.specs.Prelude.{◌≡◌, ℕ, List, Option}
use Rattle.wkb_geom.specs.Values.{Value, member_count, listed_count}
use Rattle.wkb_geom.specs.Spellings.{Spelling, header, any}
use Rattle.wkb_geom.specs.Fronts.{Front, max_nesting}
use Rattle.wkb_geom.specs.declared.error.Cause.{Cause}
use Rattle.wkb_geom.specs.Refusals.{Refuses}

-- the input begins with a geometry that costs so many turns and slots
pub record Accepts (input : List ℕ) (turns slots : ℕ) : Type 0 where
  pub s : Spelling
  pub t : Value
  pub rest : List ℕ
  pub front : Front input s t rest
  pub turns_are : turns ≡ member_count t
  pub slots_are : slots ≡ listed_count t

-- the input begins with no geometry, for this cause, after so many turns and slots
pub record IsRefused (input : List ℕ) (cause : Cause) (turns slots : ℕ) : Type 0 where
  pub refuses : Refuses max_nesting any input cause turns slots

-- the input begins with a geometry whose own SRID is this
pub record HasSrid (input : List ℕ) (srid : Option ℕ) : Type 0 where
  pub s : Spelling
  pub t : Value
  pub rest : List ℕ
  pub front : Front input s t rest
  pub is : srid ≡ (header s).srid
