-- The pieces that are to come, one after another.
use Rattle.std.proofs.Common.{rules, ◌≡◌, ◌≢◌, ℕ, ◌+◌, ◌-◌, ◌<◌, ◌≤◌, List, [], ◌∷◌, ◌++◌, length, drop, refl, sym, ap}
use Rattle.std.proofs.Common.{◌∙◌, subst, arith, append-nil, append_assoc, length-drop, lt-ltb, le-ltb}
use Rattle.std.specs.Prelude.{Some, None, nat_lt}
use Rattle.std.specs.Iterator.{MakesProgress, Yields, at_most}
use Rattle.wkb_laws.specs.Prelude.{Endianness, Dimension, number, any}
use Rattle.wkb_check.specs.Prelude.{HasGeometry, decoded_rings, subjects, subjects_of_rings, subjects_of_each, Piece}
use Rattle.wkb_check.specs.Pieces.{Ahead, own_end, ring_piece, last_end, subject_pieces, pieces_of, first_rings}
use Rattle.wkb_check.specs.Pieces.{IsPieceAt, IsInside, IsAhead, HasAhead, Takes, TakesOrStays, Steps, bytes_left}
use Rattle.wkb_check.specs.Pieces.{piece_of, OnlyMember}
use Rattle.wkb_check.specs.declared.pieces.Pieces.{Pieces}
use Rattle.wkb_check.proofs.Placing.{First, alone, first_one, Inside, leaf_inside, rings_inside, members_inside, inner}
use Rattle.wkb_check.proofs.Placing.{itself_first, own_inside, begun_at, none_of, kind_of}
use Rattle.wkb_check.proofs.Rings.{NextRing, next_ring}
use Rattle.wkb_check.proofs.Joining.{few_geometries, joined}

pub ahead_first : (buf : List ℕ) (order : Endianness) (d : Dimension) (g : HasGeometry buf)
    → Ahead buf order d 0 1 0 (pieces_of 0 g.spelled g.value)
ahead_first buf order d g = record {
  more = g.rest;
  whole = tt;
  all = alone g;
  are = ap (subject_pieces 0) (sym (append-nil (subjects g.spelled g.value)));
}

-- ---- a ring

-- the ring that was read at the next byte is taken
module _ (w : Pieces) (ahead : HasAhead w) (some : 0 < w.rings) (p : Piece)
    (is : p ≡ ring_piece w.order w.dimension w.at (number w.order 4 (drop w.at w.bytes.now))) where
  ring_after : {xs : List Piece} → IsAhead w xs → (next : ℕ) → next ≡ own_end p
      → NextRing w.bytes.now w.order w.dimension w.rings (w.rings - 1) w.at next
  ring_after a next ends = grind (arith, next_ring)

  pub ring_inside : own_end p ≤ length w.bytes.now
  ring_inside = (ring_after ahead.are (own_end p) refl).inside

  pub ring_takes : (next : ℕ) → next ≡ own_end p → Takes w (record w { rings = w.rings - 1; at = next }) p
  ring_takes next ends = record {
    steps = λ xs a.
        let r = ring_after a next ends in
        let others = subjects_of_each a.all.spelled a.all.values in
        let rings = decoded_rings w.order w.dimension (w.rings - 1) (drop next w.bytes.now) in
        let behind = subjects_of_rings w.order w.dimension rings ++ others in
        let ends_same = (λ i. last_end (r.next_is i) (subjects_of_rings w.order w.dimension rings))
        ∙ ap (λ rs. last_end w.at (subjects_of_rings w.order w.dimension rs)) (sym r.are) in
        record {
          rest = subject_pieces next behind;
          first = grind arith;
          ahead = record {
            more = a.more;
            whole = r.whole;
            all = begun_at (ap (λ k. drop k w.bytes.now) ends_same) a.all;
            are = refl;
          };
        };
    inside = grind (arith, ring_inside);
    same = refl;
  }

pub ruleset ring_laws = (ring_inside, ring_takes)

-- ---- a geometry

pub none_ahead : {buf : List ℕ} {order : Endianness} {d : Dimension} {r n at : ℕ} {xs : List Piece}
    → Ahead buf order d r n at xs → r ≤ 0 → n ≤ 0 → xs ≡ []
none_ahead {buf = buf} {order = order} {d = d} {n = n} {at = at} {xs = xs} a e none = grind arith

module _ (w : Pieces) {xs : List Piece} (a : IsAhead w xs) (none : w.rings ≡ 0) (some : 0 < w.geometries) where
  to_come : Ahead w.bytes.now w.order w.dimension 0 w.geometries w.at xs
  to_come = subst (λ r. Ahead w.bytes.now w.order w.dimension r w.geometries w.at xs) none a

  one : First w.geometries (drop w.at w.bytes.now) to_come.more to_come.all (w.geometries - 1)
  one = search (rules, first_one, to_come)

  pub geometry_there : HasGeometry (drop w.at w.bytes.now)
  geometry_there = one.geometry

-- the geometry that was read at the next byte is taken: its piece comes first, and then what is inside it
module _ (w : Pieces) (ahead : HasAhead w) (none : w.rings ≡ 0) (some : 0 < w.geometries) (p : Piece)
    (is : IsPieceAt w.bytes.now w.at p) where
  there : HasGeometry (drop w.at w.bytes.now)
  there = geometry_there w ahead.are none some

  pub piece_inside : (next : ℕ) → next ≡ own_end p → IsInside w.bytes.now w.at next p
  piece_inside next ends = own_inside w.bytes.now w.at next there p (is there) ends

  takes : {o : Endianness} {e : Dimension} {r m next : ℕ} → next ≡ own_end p
      → ((g : HasGeometry (drop w.at w.bytes.now)) → Inside w.bytes.now g.spelled g.value g.rest o e r m next)
      → (n : ℕ) → n ≡ w.geometries - 1 + m
      → Takes w (record w { at = next; rings = r; geometries = n; order = o; dimension = e }) p
  takes {o} {e} {r} {m} {next} ends inside n n-is = record {
    steps = λ xs a.
        let c = to_come w a none some in
        let f = one w a none some in
        let g = f.geometry in
        let i = inside g in
        let x = i.all in
        let others = subjects_of_each f.others.spelled f.others.values in
        let j = joined any x.spelled x.values x.begins.front {m = n} {n = w.geometries - 1} {xs = others}
        x.begins.first (record { all = f.others; are = refl }) (omega (arith, n-is, x.counted)) in
        let own = first_rings o e r (drop next w.bytes.now) in
        let behind = own ++ subjects_of_each j.all.spelled j.all.values in
        let joins : inner g.spelled g.value ++ others ≡ behind = grind (arith, append_assoc) in
        record {
          rest = subject_pieces next behind;
          first = grind (arith, itself_first);
          ahead = record { more = c.more; whole = i.whole; all = begun_at x.begins.whole j.all; are = refl };
        };
    inside = piece_inside next ends;
    same = refl;
  }

  module _ (next : ℕ) (ends : next ≡ own_end p) where
    pub leaf_takes : p.kind ≤ 3 → p.kind ≢ 3 → Takes w (record w { at = next; geometries = w.geometries - 1 }) p
    leaf_takes low other =
        takes {m = 0} ends (λ g. rw none (leaf_inside w.bytes.now w.at g p (is g) next ends
        (lt-ltb p.kind 3 (omega (arith, low, other))) w.order w.dimension)) (w.geometries - 1) (omega arith)

    pub polygon_takes : p.kind ≡ 3
        → Takes w
        (record w {
          at = next;
          rings = p.count;
          geometries = w.geometries - 1;
          order = p.order;
          dimension = p.dimension;
        }) p
    polygon_takes three = takes {m = 0} ends (search (rules, rings_inside)) (w.geometries - 1) (omega arith)

    pub members_takes : 3 < p.kind → p.kind ≢ 3
        → Takes w (record w { at = next; geometries = w.geometries - 1 + p.count }) p
    members_takes high other =
        takes {m = p.count} ends (λ g. rw none (members_inside w.bytes.now w.at g p (is g) next ends
        (le-ltb p.kind 3 (omega (arith, high))) other w.order w.dimension)) (w.geometries - 1 + p.count) refl

  -- no more members are counted than there are bytes
  pub members_few : 3 < p.kind → p.kind ≢ 3 → w.geometries - 1 + p.count ≤ length w.bytes.now
  members_few high other =
      let a = ((members_takes (own_end p) refl high other).steps ahead.pieces ahead.are).ahead in
      let from = last_end (own_end p) (first_rings w.order w.dimension w.rings (drop (own_end p) w.bytes.now)) in
      omega (arith, few_geometries _ _ _ a.all, length-drop from w.bytes.now)

pub ruleset piece_laws = (piece_inside, leaf_takes, polygon_takes, members_takes)

-- a geometry with one member, by its piece
module _ (buf : List ℕ) (g : HasGeometry buf) (p : Piece) (is : p ≡ piece_of 0 g.spelled g.value) (high : 3 < p.kind)
  where
    member_end : p.offset ≡ own_end p
    member_end = rw (le-ltb p.kind 3 (omega (arith, high))) refl

    pub member_begins : p.offset ≤ length buf
    member_begins = omega (arith, (own_inside buf 0 _ g p is member_end).inside)

    pub member_alone : p.count ≡ 1 → OnlyMember g.spelled g.value (drop p.offset buf)
    member_alone one =
        let i = members_inside buf 0 g p is p.offset member_end (le-ltb p.kind 3 (omega (arith, high)))
        (λ three. absurd (omega (arith, high, three))) p.order p.dimension in
        let f = first_one p.count 0 _ _ i.all one in
        let none = ap (subjects_of_each f.others.spelled) (none_of f.others.values f.others.counted) in
        record {
          high = ap (λ k. nat_lt k 4) (sym (kind_of buf 0 g p is)) ∙ le-ltb p.kind 4 (omega (arith, high));
          member = f.geometry;
          are = grind (arith, itself_first, append-nil);
        }

-- ---- the iterator

-- after a piece, others may be taken, and fewer bytes are left
pub goes : (w now : Pieces) (p : Piece) → HasAhead w → Takes w now p
    → MakesProgress HasAhead (λ v. at_most (bytes_left v)) w (Some p) now
goes w now p h t =
    let x = t.steps h.pieces h.are in
    grind arith

-- a piece that was taken came by a step
pub stepped : {old new : Pieces} {p : Piece} → TakesOrStays old (Some p) new → Steps old (Some p) new
stepped t = record { steps = t.takes.steps; inside = t.takes.inside; further = t.further; same = t.same }

-- fewer bytes are left after a piece
pub fewer_left : {old new : Pieces} {p : Piece} → Steps old (Some p) new → bytes_left new < bytes_left old
fewer_left s = omega (arith, s.further, s.inside.ends, s.inside.inside, ap length s.same)

-- what calls of `next` gave, and what is to come after them, are the pieces that were to come
pub given : (w now : Pieces) (ps xs : List Piece) → IsAhead w ps → Yields Steps w xs now
    → (rest : List Piece) × IsAhead now rest × (ps ≡ xs ++ rest)
given w now ps [] a y = (ps, subst (λ v. IsAhead v ps) y a, refl)
given w now ps (x ∷ xs) a y =
    let t = y.1.steps ps a in
    let k = given y.0 now t.rest xs t.ahead y.2 in
    (k.0, k.1, t.first ∙ ap (λ l. x ∷ l) k.2)

-- where none is left, they are all
pub all_given : (w now end : Pieces) (ps xs : List Piece) → IsAhead w ps → Yields Steps w xs now → Steps now None end
    → ps ≡ xs
all_given w now end ps xs a y s =
    let k = given w now ps xs a y in
    k.2 ∙ ap (λ l. xs ++ l) (s.steps k.0 k.1) ∙ append-nil xs
