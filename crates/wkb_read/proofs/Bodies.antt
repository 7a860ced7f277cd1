-- Geometries by their headers and kinds.
use Rattle.wkb_read.proofs.Prelude.{any, max_nesting, ◌≡◌, ◌-◌, ℕ, List, Result, Ok, Err, sym, ap, subst, arith}
use Rattle.wkb_read.proofs.Prelude.{WkbType, Layout, layout_of, collection_within, then_body, Cause, Head, Item}
use Rattle.wkb_read.proofs.Prelude.{Outcome, Reading, costs, done, at_no_cost, head_at, body_at, Counts, Stops}
use Rattle.wkb_read.proofs.Prelude.{geometry_inside, cost_of, ReadError, BeginsAs}
use Rattle.std.specs.Prelude.{IsErrAnd}
use Rattle.wkb_read.specs.declared.read.stack.Begun.{Begun}
use Rattle.wkb_laws.proofs.Heads.{OpensAs, head_says}
use Rattle.wkb_view.proofs.Lists.{refused_stops}
use Rattle.wkb_read.specs.Prelude.read_errors
unfoldable use Rattle.wkb_geom.specs.Reading.{by_type, geometry_at}

geometry_is : (levels : ℕ) (bytes : List ℕ)
    → geometry_at levels bytes
    ≡ then_body bytes (head_at bytes) (λ h. body_at (collection_within levels) h.wkb_type (layout_of h) bytes)
unfolding geometry_at by_type
geometry_is levels bytes = grind arith

-- the reading of what follows a header, inside this number of open collections
abbrev pub body_inside : ℕ → Head → List ℕ → Reading Item
body_inside depth h bytes = body_at (collection_within (max_nesting - depth)) h.wkb_type (layout_of h) bytes

-- after a header comes its body
pub behind_header : (depth : ℕ) (bytes : List ℕ) (h : Head) → head_at bytes ≡ Ok h
    → geometry_inside depth bytes ≡ body_inside depth h bytes
behind_header depth bytes h e = grind (arith, geometry_is)

-- the reading of the bytes, by the type in their header
pub by_header : (depth : ℕ) (bytes : List ℕ) (h : Head) (t : WkbType) (l : Layout) → head_at bytes ≡ Ok h
    → h.wkb_type ≡ t → l ≡ layout_of h
    → geometry_inside depth bytes ≡ body_at (collection_within (max_nesting - depth)) t l bytes
by_header depth bytes h t l e is laid = grind (arith, behind_header)

pub stops_without_header : (cause : Cause) (depth : ℕ) (bytes : List ℕ) (c : Counts) → head_at bytes ≡ Err cause
    → Stops (read_errors.Cause cause) (geometry_inside depth bytes) c c
stops_without_header cause depth bytes c h = grind (arith, refused_stops, geometry_is)

-- an error that `?` hands on, by the reading that stops
pub hands_on : (depth : ℕ) (bytes : List ℕ) (r : Result Begun ReadError) (error : ReadError) (read : Reading Item)
    (old new : Counts) → IsErrAnd r (λ e. e ≡ error) → geometry_inside depth bytes ≡ read
    → Stops error read old new → BeginsAs geometry_inside depth bytes r old new
hands_on depth bytes r error read old new is same stops = grind arith

-- a whole part that costs nothing
pub whole_at_no_cost : {A : Type 0} (r : Outcome A) (x : A) (rest : List ℕ) (c : Counts) → r ≡ Ok (x, rest)
    → costs (cost_of c) (done x rest) ≡ costs (cost_of c) (at_no_cost r)
whole_at_no_cost r x rest c is = ap (λ (p : Outcome _). costs (cost_of c) (at_no_cost p)) (sym is)

-- what a header that was read says of the bytes
pub head_opens : (input : List ℕ) (h : Head) → head_at input ≡ Ok h → OpensAs input h
head_opens input h e =
    head_says 0 any input (λ r. r ≡ Ok h → OpensAs input h) (λ c bad is. absurd cc)
    (λ g opens is. let same : g ≡ h = cc in subst (λ (f : Head). OpensAs input f) same opens) e
