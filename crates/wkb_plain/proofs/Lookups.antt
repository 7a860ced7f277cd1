-- The part of a slice at an index, if there is one.
use Rattle.std.proofs.Common.{◌≡◌, ℕ, ◌<◌, List, length, map, All, Option, Some, None, Bor, is_some, IfSome, option_map}
use Rattle.std.proofs.Common.{option_copied, slice_index_or, slice_get}
use Rattle.std.proofs.Common.{true, nat_lt, refl, sym, ap, ◌∙◌, subst, arith}
use Rattle.std.proofs.lemmas.Bool.Decides.{nat_tests}
use Rattle.std.proofs.lemmas.Option.{slice_get-map, slice_get_past, slice_get_read}

-- what the slice returned for the index
abbrev pub IsAnswered : {A : Type 0} → List A → ℕ → Option (Bor A) → Type 0
IsAnswered xs i o = (is_some o ≡ nat_lt i (length xs)) × IfSome o (λ x. x.now ≡ slice_index_or xs i x.now)

below : (i n : ℕ) → nat_lt i n ≡ true → i < n
below i n e = grind (arith, nat_tests)

pub copied_is : {A : Type 0} (xs : List A) (i : ℕ) (o : Option (Bor A)) → IsAnswered xs i o
    → option_copied o ≡ slice_get xs i
copied_is xs i None h = sym (slice_get_past xs i (grind (arith, nat_tests)))
copied_is xs i (Some x) h = sym (slice_get_read xs (length xs) i x.now refl (below i (length xs) (sym h.0)) h.1)

-- what is made of it
pub copied_seen : {A B : Type 0} (f : A → B) (xs : List A) (i : ℕ) (o : Option (Bor A)) (r : Option A)
    → IsAnswered xs i o → r ≡ option_copied o
    → option_map f r ≡ slice_get (map f xs) i
copied_seen f xs i o r h copy = ap (option_map f) (copy ∙ copied_is xs i o h) ∙ sym (slice_get-map f xs i)

-- what holds of each part holds of it
pub copied_holds : {A : Type 0} (P : A → Type 0) (xs : List A) (i : ℕ) (o : Option (Bor A)) (r : Option A)
    → IsAnswered xs i o → r ≡ option_copied o
    → All P xs → IfSome r P
copied_holds P xs i None r h copy all = subst (λ q. IfSome q P) (sym copy) tt
copied_holds P xs i (Some x) r h copy all =
    subst (λ q. IfSome q P) (sym copy) (subst P (sym h.1) (all i x.now (below i (length xs) (sym h.0))))

pub ruleset lookup_laws = (copied_is, copied_seen, copied_holds)
