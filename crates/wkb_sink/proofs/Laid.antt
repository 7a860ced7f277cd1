-- Encodings that are laid one after another.
use Rattle.std.proofs.Common.{rules, IsErrAnd, IfOk, MatchResult}
use Rattle.wkb_sink.proofs.Prelude.{◌≡◌, ℕ, ◌+◌, ◌≤◌, ◌<◌, List, [], ◌++◌, Option, refl, sym, ap, ◌∙◌, subst, length}
use Rattle.wkb_sink.proofs.Prelude.{append_assoc, append-nil, arith, length-append, Bool, true, false, Result, Ok, Err}
use Rattle.wkb_sink.proofs.Prelude.{Appends, Stopped, LaysAt, Waiting, block_size, Progress, IsReady, IsLaid, IsShort}
use Rattle.wkb_sink.proofs.Prelude.{Moves, RunsOut, IsBroken, IsCut, Advances, progress, IsBegun, IsWritten, MIN_BLOCK}
use Rattle.wkb_sink.proofs.Prelude.{take, take_all, length-take-le, ◌-◌}
use Rattle.std.proofs.lemmas.Result.{err_from_is_err_and}
use Rattle.wkb_sink.specs.declared.{buffered.Buffered.Buffered, sink.Sink.Ghosts}
use Rattle.std.proofs.KnownBytes.{Appends-trans}

-- nothing is to be done
pub laid_none : (a : Progress) (n : ℕ) → a.failed ≡ false → IsReady a a n
laid_none a n works = grind (arith, append-nil)

-- the room that is left by what fitted
room_left : {a b : Progress} {s : List ℕ} {n : ℕ} → Moves a b s n → n ≤ a.block.room
    → b.block.room + length s ≡ a.block.room
room_left {a = a} {b = b} {s = s} p fits = grind (arith, length-append)

-- a step after another one
moves_then : {a b c : Progress} {s t : List ℕ} {n m k : ℕ} → Moves a b s n → Moves b c t m
    → (k ≤ a.block.room → n ≤ a.block.room) → (k ≤ a.block.room → length s + m ≤ a.block.room)
    → Moves a c (s ++ t) k
moves_then {a = a} {b = b} {c = c} {s = s} {t = t} p q first both = record {
  same = q.same ∙ p.same;
  slice = q.slice ∙ p.slice;
  size = q.size ∙ p.size;
  works = q.works;
  moved = p.moved ++ q.moved;
  whole = rw (← append_assoc, p.whole, append_assoc, q.whole, append_assoc) refl;
  appended = Appends-trans _ _ _ _ _ p.appended q.appended;
  kept = λ fits.
      let left = room_left p (first fits) in
      ap (λ l. l ++ q.moved) (p.kept (first fits)) ∙ q.kept (omega (arith, both fits, left));
}

pub laid_then : {a b c : Progress} {s t : List ℕ} → IsLaid a b s → IsLaid b c t → IsLaid a c (s ++ t)
laid_then {s = s} {t = t} p q = grind (arith, length-append, moves_then)

-- what the encoding begins with was cut
broken_first : {a b : Progress} {s : List ℕ} (t : List ℕ) → IsBroken a b s → IsBroken a b (s ++ t)
broken_first {a = a} {s = s} t p = record {
  same = p.same;
  stopped = p.stopped;
  cause = p.cause;
  front = p.front;
  rest = p.rest ++ t;
  whole = rw (← append_assoc, p.whole, append_assoc) refl;
  left = omega (arith, p.left, length-append p.rest t);
  appended = p.appended;
}

out_first : {a b : Progress} {s : List ℕ} {n m : ℕ} (t : List ℕ) → RunsOut a b s n → n ≤ m → RunsOut a b (s ++ t) m
out_first t p many = record {
  full = omega (arith, p.full, many);
  broken = λ large. broken_first t (p.broken large);
}

pub cut_first : {a b : Progress} {s : List ℕ} (t : List ℕ) → IsCut a b s → IsCut a b (s ++ t)
cut_first {s = s} t p = out_first t p (omega (arith, length-append s t))

-- there was no room for the encoding's first bytes
pub no_room : {a b : Progress} {n : ℕ} (t : List ℕ) → IsShort a b n → n ≤ length t → IsCut a b t
no_room t p many = out_first t p many

broken_then : {a b c : Progress} {s t : List ℕ} {n : ℕ} → Moves a b s n → IsBroken b c t → IsBroken a c (s ++ t)
broken_then {a = a} {b = b} {s = s} {t = t} p q = record {
  same = q.same ∙ p.same;
  stopped = q.stopped;
  cause = q.cause;
  front = p.moved ++ q.front;
  rest = q.rest;
  whole = rw (← append_assoc, p.whole, append_assoc, q.whole, append_assoc) refl;
  left = q.left;
  appended = Appends-trans _ _ _ _ _ p.appended q.appended;
}

pub cut_then : {a b c : Progress} {s t : List ℕ} → IsLaid a b s → IsCut b c t → IsCut a c (s ++ t)
cut_then {a = a} {b = b} {s = s} {t = t} p q = record {
  full = let left = room_left p in grind (arith, q.full, left, length-append s t);
  broken = λ large. broken_then p (q.broken (omega (arith, large, p.size)));
}

-- what the exit of a `?` returns
pub exits : {a b : Progress} {all : List ℕ} (e : Stopped) (r : Result (Unit {0}) Stopped) → IsErrAnd r (λ y. y ≡ e)
    → IsCut a b all → Advances a b all r
exits e r is cut = rw (err_from_is_err_and r is).1 cut

-- the last part's result is that of the whole
pub lays_then : {a b : Progress} (c : Progress) {s : List ℕ} (t : List ℕ) (r : Result (Unit {0}) Stopped) → IsLaid a b s
    → Advances b c t r
    → Advances a c (s ++ t) r
lays_then c t (Ok x) p q = laid_then p q
lays_then c t (Err e) p q = cut_then p q

-- what a block holds whose bytes wait up to a place
abbrev pub waiting_to : ℕ → List ℕ → ℕ → Waiting
waiting_to slice bytes place =
    record { slice = slice; waiting = take place bytes; room = length bytes - place }

-- the progress of a sink with a block
abbrev pub stage : ℕ → Option (List ℕ) → Bool → Type 0 → Waiting → Progress
stage sink appended failed cause block =
    record { sink = sink; appended = appended; failed = failed; fails_by = cause; block = block }

module _ {k : ℕ} {o : Option (List ℕ)} {failed : Bool} {cause : Type 0} {slice place end : ℕ} {old new t : List ℕ} where
  -- an encoding that was laid in the block, where there was room
  pub laid_now : failed ≡ false → LaysAt place end old new t → length new ≡ length old → end ≤ length old
      → IsLaid (stage k o failed cause (waiting_to slice old place))
      (stage k o failed cause (waiting_to slice new end)) t
  laid_now works is same within = search (rules, length-take-le)

  -- or once there was room for its first n bytes
  pub laid_here : {a : Progress} {n : ℕ} → IsReady a (stage k o failed cause (waiting_to slice old place)) n
      → LaysAt place end old new t → length new ≡ length old → end ≤ length old → place + n ≤ end
      → IsLaid a (stage k o failed cause (waiting_to slice new end)) t
  laid_here p is same within many =
      moves_then p (laid_now p.works is same within) (λ fits. omega (arith, many, is.ends, fits))
      (λ fits. omega (arith, fits))

module _ {n : ℕ} {a b : Option (List ℕ)} {s f : Bool} {k m : Type 0} {w v : Waiting} {bytes : List ℕ} where
  -- bytes of what waited and of the encoding were put, and the others wait
  alone : (t : List ℕ) → IsWritten a b bytes → f ≡ false → v.slice ≡ w.slice → block_size v ≡ block_size w
      → w.waiting ++ t ≡ bytes ++ v.waiting → Moves (stage n a s k w) (stage n b f m v) t (w.room + 1)
  alone t p works same size is = grind arith

  -- all that waited was put
  pub flushed : IsWritten a b bytes → f ≡ false → bytes ≡ w.waiting → v.slice ≡ w.slice → v.waiting ≡ []
      → v.room ≡ length w.waiting + w.room → IsReady (stage n a s k w) (stage n b f m v) (w.room + 1)
  flushed p works is same empty room = grind arith

  -- what waited and the encoding were not put as a whole
  broken : (t : List ℕ) → IsBegun a b bytes → f ≡ true → m → w.waiting ++ t ≡ bytes
      → IsBroken (stage n a s k w) (stage n b f m v) t
  broken t p stopped cause is = grind arith

  pub flush_cut : IsBegun a b bytes → f ≡ true → m → bytes ≡ w.waiting
      → IsShort (stage n a s k w) (stage n b f m v) (w.room + 1)
  flush_cut p stopped cause is = grind (arith, broken, append-nil)

-- bytes that were put past a block in which nothing waits
module _ {old : Progress} {i n : ℕ} {a b : Option (List ℕ)} {s f : Bool} {k m : Type 0} {w : Waiting} {bytes : List ℕ}
    (before : IsReady old (stage n a s k w) i) (empty : w.waiting ≡ []) (long : old.block.room < length bytes) where
  pub past_laid : IsWritten a b bytes → f ≡ false → IsLaid old (stage n b f m w) bytes
  past_laid p works =
      moves_then before (alone bytes p works refl refl (rw empty (sym (append-nil bytes))))
      (λ fits. omega (arith, fits, long)) (λ fits. omega (arith, fits, long))

  -- or not all of them
  pub past_cut : IsBegun a b bytes → f ≡ true → m → IsCut old (stage n b f m w) bytes
  past_cut p stopped cause = record {
    full = long;
    broken = λ large. broken_then before (broken bytes p stopped cause (ap (λ l. l ++ bytes) empty));
  }

-- after a flush there is room for n bytes, for which there was none
pub ready_now : {a b : Progress} {m : ℕ} (n : ℕ) → IsReady a b m → a.block.room < n → IsReady a b n
ready_now n p short = grind arith

-- or the sink failed
pub short_now : {a b : Progress} {m : ℕ} (n : ℕ) (e : Stopped) (r : Result (Unit {0}) Stopped)
    → IsErrAnd r (λ y. y ≡ e) → IsShort a b m → a.block.room < n
    → MatchResult r (λ _. IsReady a b n) (λ _. IsShort a b n)
short_now n e r is p short = grind arith

-- or the block is too small
pub short_block : {a b : Progress} {m : ℕ} (n : ℕ) → IsReady a b m → b.block.waiting ≡ [] → a.block.room < n
    → b.block.room < n → n ≤ MIN_BLOCK → IsShort a b n
short_block n p empty short left fits = grind arith

-- the whole of an encoding was appended, or the sink failed
abbrev pub Ends : Progress → Progress → List ℕ → Result (Unit {0}) Stopped → Type 0
Ends a b t r =
    MatchResult r (λ _. (b.sink ≡ a.sink) × Appends a.appended b.appended t × (b.failed ≡ false))
    (λ _. IsBroken a b t)

-- an encoding that was laid where nothing waited, and the flush after it
pub lays_last : {a b : Progress} (n : ℕ) (c : Progress) (t : List ℕ) (r : Result (Unit {0}) Stopped) → IsLaid a b t
    → MatchResult r (λ _. IsReady b c n) (λ _. IsShort b c n) → a.block.waiting ≡ []
    → IfOk r (λ _. c.block.waiting ≡ []) → MIN_BLOCK ≤ block_size a.block → Ends a c t r
lays_last {a = a} {b = b} n c t (Ok x) p q none empty large =
    let rest : b.block.waiting ≡ q.moved = grind (arith, append-nil) in
    let whole : t ≡ p.moved ++ q.moved = grind arith in (
      q.same ∙ p.same,
      subst (Appends a.appended c.appended) (sym whole) (Appends-trans _ _ _ _ _ p.appended q.appended),
      q.works,
    )
lays_last {a = a} n c t (Err e) p q none empty large =
    subst (IsBroken a c) (append-nil t) (broken_then p (q.broken (omega (arith, large, p.size))))

-- or one that was cut
pub cut_last : {a b : Progress} {t : List ℕ} {e : Stopped} (r : Result (Unit {0}) Stopped) → r ≡ Err e → IsCut a b t
    → MIN_BLOCK ≤ block_size a.block → Ends a b t r
cut_last r is cut large = rw is (cut.broken large)

-- what the sink has in the end; x is what the borrowed sink ends as
pub ends_laid : {S : Type 0} (sink : Ghosts S) (t : List ℕ) (a : Progress) (b : Buffered S sink) (x : S) (u : Unit {0})
    (r : Result (Unit {0}) Stopped) → r ≡ Ok u → Ends a (progress sink b) t r
    → (a.sink ≡ b.sink.ghost_name → x ≡ b.sink.now)
    → IsWritten a.appended (sink.appended x) t × (sink.has_failed x ≡ false)
ends_laid sink t a b x u r is p known = grind arith

-- or where it failed
pub ends_cut : {S : Type 0} (sink : Ghosts S) (t : List ℕ) (a : Progress) (b : Buffered S sink) (x : S) (e : Stopped)
    (r : Result (Unit {0}) Stopped) → r ≡ Err e → Ends a (progress sink b) t r → a.block.waiting ≡ []
    → (a.sink ≡ b.sink.ghost_name → x ≡ b.sink.now)
    → IsBegun a.appended (sink.appended x) t × (sink.has_failed x ≡ true) × sink.fails_by x b.error
ends_cut sink t a b x e r is p none known = grind arith

-- an encoding that fills the block
fills : {a b : Progress} {t : List ℕ} → IsLaid a b t → a.block.waiting ≡ [] → a.block.room ≡ length t
    → (b.block.waiting ≡ t) × (b.block.room ≡ 0)
fills {a = a} {b = b} {t = t} p none room = grind arith

-- what a slice ends as, x, that such a block fills
pub fills_slice : {a : Progress} {n : ℕ} {o : Option (List ℕ)} {failed : Bool} {cause : Type 0} {slice : ℕ}
    (t bytes : List ℕ) (place : ℕ) (x : List ℕ)
    → IsLaid a (stage n o failed cause (waiting_to slice bytes place)) t
    → a.block.waiting ≡ [] → a.block.room ≡ length t → (a.block.slice ≡ slice → x ≡ bytes) → x ≡ t
fills_slice t bytes place x laid none room known = grind (arith, fills, take_all)
