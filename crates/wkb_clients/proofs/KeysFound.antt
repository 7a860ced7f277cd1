-- Keys, found among others or missing, and the values that they are read as.
use Rattle.std.proofs.Common.{◌≡◌, ℕ, ◌<◌, List, [], ◌∷◌, ◌++◌, map, length, get_or, Bool, true, false, sym, ap, subst}
use Rattle.std.proofs.Common.{◌∙◌, arith, bytes_eq, Contains, MatchBool}
use Rattle.std.specs.List.{All, list_any}
use Rattle.std.proofs.lemmas.List.{append-nil, get_or-map, length-map}
use Rattle.std.proofs.lemmas.List.Folds.{Any-from_list_any, list_any_at}
use Rattle.wkb_clients.specs.Common.{LittleEndian, Iso, AreBytes, Value, Front}
use Rattle.std.proofs.lemmas.Slice.Eq.{bytes_eq-Decides}
use Rattle.wkb.specs.Encodings.{IsRewriting}
use Rattle.wkb.specs.Known.{equal_encodings, front_is_read, rewriting_is_read}
use Rattle.wkb_clients.specs.Keys.{key_of, IsKey, HasOneKey, Inserts, value_in, value_read}

pub is_key : (input key : List ℕ) → IsRewriting LittleEndian Iso input key → IsKey input key
unfolding key_of
is_key input key h = record { spelled = h.s; value = h.t; rest = h.rest; front = h.front; is = h.written }

pub one_key_lem : HasOneKey
unfolding key_of
one_key_lem a b x y bytes bytes' k l =
    let same =
    equal_encodings LittleEndian Iso a b k.spelled l.spelled k.value l.value k.rest l.rest tt bytes bytes' k.front
    l.front in
    (λ e. same.0 (sym k.is ∙ e ∙ l.is), λ e. k.is ∙ same.1 e ∙ sym l.is)

-- a key is read as the value that it was made of
pub key_read : (input key : List ℕ) → AreBytes input → (k : IsKey input key)
    → value_in key ≡ k.value
unfolding key_of value_in
key_read input key bytes k =
    let r = rewriting_is_read LittleEndian Iso input k.spelled k.value k.rest [] tt bytes k.front in
    let f : Front key r.0 k.value [] = subst (λ b. Front b r.0 k.value []) (append-nil _ ∙ sym k.is) r.1 in
    ap value_read (front_is_read key r.0 k.value [] f)

-- so it is the key of that value
pub is_its_own : (input key : List ℕ) → AreBytes input → (k : IsKey input key)
    → key ≡ key_of (value_in key)
is_its_own input key bytes k = k.is ∙ ap key_of (sym (key_read input key bytes k))

module _ {V : Type 0} (bytes_of : V → List ℕ) where
  abbrev value_of : V → Value
  value_of v = value_in (bytes_of v)

  -- whether the key is among others decides whether its value is among theirs
  judged : (ks : List V) (v : V) (t : Value) (was : Bool) → bytes_of v ≡ key_of t → value_of v ≡ t
      → All (λ y. bytes_of y ≡ key_of (value_of y)) ks
      → was ≡ list_any (λ y. bytes_eq (bytes_of y) (bytes_of v)) ks
      → MatchBool was (Contains (map value_of ks) t) (Contains (map value_of ks) t → ⊥)
  judged ks v t true key value all is =
      let k = Any-from_list_any (λ y. bytes_eq (bytes_of y) (bytes_of v)) ks (sym is) in
      let same = (bytes_eq-Decides (bytes_of k.1) (bytes_of v)).0 k.4 in
      let at : get_or (map value_of ks) k.0 t ≡ t = grind (arith, get_or-map) in
      (k.0, omega (arith, k.2, length-map ks value_of), at)
  judged ks v t false key value all is = λ c.
      let below : c.0 < length ks = omega (arith, c.1, length-map ks value_of) in
      let y = get_or ks c.0 v in
      let at : value_of y ≡ t = sym (get_or-map value_of ks c.0 v t below) ∙ c.2 in
      let found = list_any_at (λ y. bytes_eq (bytes_of y) (bytes_of v)) ks c.0 v below
      ((bytes_eq-Decides (bytes_of y) (bytes_of v)).1 (all c.0 v below ∙ ap key_of at ∙ sym key)) in
      absurd (cc)

  -- what an insertion did
  pub inserts : (ks : List V) (old new : List Value) (input : List ℕ) (v : V) (was : Bool) → AreBytes input
      → (k : IsKey input (bytes_of v)) → All (λ y. bytes_of y ≡ key_of (value_of y)) ks
      → map value_of ks ≡ old → was ≡ list_any (λ y. bytes_eq (bytes_of y) (bytes_of v)) ks
      → MatchBool was (new ≡ old) (new ≡ old ++ value_of v ∷ []) → Inserts old new input was
  inserts ks old new input v was bytes k all view is kept =
      let value = key_read input (bytes_of v) bytes k in grind (arith, judged)
