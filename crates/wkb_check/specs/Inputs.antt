-- What is known of inputs: that they begin with a geometry, and whether two have one value.
use Rattle.std.specs.Prelude.{◌≢◌, ℕ, List}
use Rattle.wkb_laws.specs.Prelude.{Front, Spelling, Value}

-- the input begins with a geometry
pub record IsAccepted (input : List ℕ) : Type 0 where
  pub s : Spelling
  pub t : Value
  pub rest : List ℕ
  pub front : Front input s t rest

-- both inputs begin with geometries, and their values are equal
pub record HaveOneValue (a b : List ℕ) : Type 0 where
  pub s : Spelling
  pub u : Spelling
  pub t : Value
  pub rest : List ℕ
  pub more : List ℕ
  pub first : Front a s t rest
  pub second : Front b u t more

-- both inputs begin with geometries, and their values are different
pub record HaveTwoValues (a b : List ℕ) : Type 0 where
  pub s : Spelling
  pub u : Spelling
  pub t : Value
  pub v : Value
  pub rest : List ℕ
  pub more : List ℕ
  pub first : Front a s t rest
  pub second : Front b u v more
  pub different : t ≢ v
