-- Keys of geometries, and a store of them.
use Rattle.std.proofs.Common.{◌≡◌, ℕ, List, [], ◌∷◌, ◌++◌, Bool, Ok, Err, None, ◌↔◌, MatchBool, Contains}
use Rattle.wkb_clients.specs.Common.{LittleEndian, Xy, Iso, AreBytes, Value, point, Spelling, Front, max_nesting, Item}
use Rattle.wkb_clients.specs.Common.{Reading, geometry_at}
use Rattle.wkb.specs.Geometries.{geometry_of}
use Rattle.wkb.specs.Encodings.{encoding}

-- the bytes that are written of a value, under one order and one form
unfoldable pub key_of : Value → List ℕ
key_of t = encoding LittleEndian Iso (geometry_of t)

-- the key of the geometry that the input begins with
pub record IsKey (input key : List ℕ) : Type 0 where
  pub spelled : Spelling
  pub value : Value
  pub rest : List ℕ
  pub front : Front input spelled value rest
  pub is : key ≡ key_of value

-- Two inputs have one key exactly if their values are equal.
abbrev pub HasOneKey : Type 0
HasOneKey = (a b x y : List ℕ) → AreBytes a → AreBytes b → (k : IsKey a x) → (l : IsKey b y)
    → (x ≡ y) ↔ (k.value ≡ l.value)

-- The value that the input begins with was stored before, and nothing changed, or it was not, and is the last one now.
pub record Inserts (old new : List Value) (input : List ℕ) (was : Bool) : Type 0 where
  pub spelled : Spelling
  pub value : Value
  pub rest : List ℕ
  pub front : Front input spelled value rest
  pub known : MatchBool was (Contains old value) (Contains old value → ⊥)
  pub kept : MatchBool was (new ≡ old) (new ≡ old ++ value ∷ [])

-- the value that a key is read as
abbrev pub value_read : Reading Item → Value
value_read (cost, Ok x) = x.0.value
value_read (cost, Err r) = point Xy None

unfoldable pub value_in : List ℕ → Value
value_in key = value_read (geometry_at max_nesting key)
