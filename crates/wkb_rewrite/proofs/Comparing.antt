-- Values are equal exactly where their shares are.
use Rattle.std.proofs.Common.{◌≡◌, ◌↔◌, ℕ, List, ◌∷◌, replicate, refl, sym, ap, ◌∙◌, subst, true, arith, zero, suc, ◌*◌}
use Rattle.std.proofs.Common.{nat_lt, if◌then◌else◌}
use Rattle.wkb_laws.specs.Prelude.{Endianness, Form, LittleEndian, Iso, AreBytes, encoding, geometry_of, all_nan}
use Rattle.wkb_laws.specs.Prelude.{empty_word, width}
use Rattle.wkb_laws.proofs.Values.{Good, AreBytes-front, spelled_good}
use Rattle.wkb_laws.proofs.OneFront.{SameSpelling, one_spelling}
use Rattle.wkb_laws.proofs.Rewritings.{one_encoding}
use Rattle.wkb_check.specs.Prelude.{HasGeometry}
use Rattle.wkb_check.specs.declared.{pieces.Piece.Piece, pieces.Pieces.Pieces}
use Rattle.wkb_rewrite.specs.Shares.{Share, share_in, is_empty_point, written_words, word_count}
use Rattle.wkb_rewrite.proofs.ValueShares.{shares_of, shares_same}
use Rattle.wkb_rewrite.proofs.Encodings.{shares_encoding, shares_encoded}
use Rattle.wkb_rewrite.proofs.Held.{own_long, written_empty, written_own}
use Rattle.wkb_rewrite.proofs.Walks.{Rest, Next}

abbrev pub shares_at : {buf : List ℕ} → HasGeometry buf → List Share
shares_at g = shares_of g.spelled g.value

-- the same bytes begin with one geometry
pub same_spelling : {a b : List ℕ} (g : HasGeometry a) (h : HasGeometry b) → a ≡ b
    → SameSpelling g.spelled h.spelled g.value h.value g.begins.front h.begins.front g.rest h.rest
same_spelling g h e = grind (arith, one_spelling)

-- its encoding is that of its shares
pub encoded : {buf : List ℕ} (order : Endianness) (form : Form) (g : HasGeometry buf)
    → shares_encoding order form (shares_at g) ≡ encoding order form (geometry_of g.value)
encoded order form g = shares_encoded order form g.spelled g.value g.begins.front g.begins.first

pub value_good : {buf : List ℕ} (g : HasGeometry buf) → AreBytes buf → Good g.value
value_good g b =
    spelled_good g.spelled g.value g.begins.front
    (AreBytes-front g.begins.front g.rest (subst AreBytes g.begins.whole b)) g.begins.first

pub shares_of_one : {a b : List ℕ} (g : HasGeometry a) (h : HasGeometry b) → g.value ≡ h.value
    → shares_at g ≡ shares_at h
shares_of_one g h e = grind (arith, shares_of, shares_same)

pub value_of_shares : {a b : List ℕ} (g : HasGeometry a) (h : HasGeometry b) → AreBytes a → AreBytes b
    → shares_at g ≡ shares_at h → g.value ≡ h.value
value_of_shares g h x y e =
    (one_encoding LittleEndian Iso Iso g.value h.value tt tt (value_good g x) (value_good h y)
    (sym (encoded LittleEndian Iso g) ∙ ap (shares_encoding LittleEndian Iso) e ∙ encoded LittleEndian Iso h)).0

-- ---- the loop

-- what is to come of two geometries is the same exactly where they are
pub record Compared (a b : List ℕ) (v w : Pieces) (xs ys : List Share) : Type 0 where
  pub left : List Share
  pub right : List Share
  pub firsts : Rest a v left
  pub seconds : Rest b w right
  pub same : (xs ≡ ys) ↔ (left ≡ right)

module _ {a b : List ℕ} {v w : Pieces} {xs ys : List Share} (l : Compared a b v w xs ys) {new more : Pieces}
    {x y : Piece} (m : Next a new l.left x) (n : Next b more l.right y) where
  both : xs ≡ ys → share_in a x ∷ m.others ≡ share_in b y ∷ n.others
  both e = sym m.first ∙ l.same.0 e ∙ n.first

  pub unlike : xs ≡ ys → share_in a x ≡ share_in b y
  unlike e = let first = both e in cc

  pub like : share_in a x ≡ share_in b y → Compared a b new more xs ys
  like e = grind arith

-- ---- two pieces

empty_is_nan : (n : ℕ) → all_nan (replicate n empty_word) ≡ true
empty_is_nan zero = refl
empty_is_nan (suc n) = empty_is_nan n

pub empty_told : (a : List ℕ) (x : Piece) (b : List ℕ) (y : Piece) → x.kind ≡ y.kind
    → written_words a x ≡ written_words b y
    → is_empty_point a x ≡ is_empty_point b y
empty_told a x b y k e = grind (arith, empty_is_nan)

pub words_as_many : (x y : Piece) → x.kind ≡ y.kind → x.dimension ≡ y.dimension → x.count ≡ y.count
    → word_count x ≡ word_count y
words_as_many x y k d n = λ i. if nat_lt (k i) 3 then width (d i) * n i else 0

pub ruleset word_laws = (own_long, written_empty, written_own, empty_told, words_as_many)
