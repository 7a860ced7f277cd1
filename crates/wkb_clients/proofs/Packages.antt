-- What is found in a GeoPackage blob, and what isn't.
use Rattle.std.proofs.Common.{arith, ◌≡◌, List, ℕ, true, false, sym, ap, subst, ◌∙◌, ◌⊎◌, inl, inr, Result, Ok, Err}
use Rattle.std.specs.Prelude.{IfOk, IfErr}
use Rattle.wkb.specs.Checks.{Bounds, AreBounds}
use Rattle.wkb.specs.Known.{has_one_front}
use Rattle.wkb.specs.OwnBytes.{no_refusal, one_geometry}
use Rattle.wkb.specs.Ranges.{same_bounds}
use Rattle.wkb_clients.specs.Common.{Item, IsFront}
use Rattle.wkb_clients.specs.declared.geopackage.BlobHeader.{BlobHeader}
use Rattle.wkb_clients.specs.declared.geopackage.Package.{Package}
use Rattle.wkb_clients.specs.declared.geopackage.Unread.{Unread}
use Rattle.wkb_clients.specs.declared.geopackage.Unread.TheVariants as reasons
use Rattle.wkb_clients.specs.Geopackage.{IsBlobHeader, HoldsGeometry, HoldsNoGeometry, body_of, envelope_around}
use Rattle.wkb_clients.specs.Geopackage.{is_ewkb, IsWhy, IsWantOfMemory, GivesBack}

-- a blob has one header
one_header : (blob : List ℕ) (h g : BlobHeader) → IsBlobHeader blob h → IsBlobHeader blob g → h ≡ g
one_header blob h g a b = grind arith

-- where a reason is true of a blob, an allocation failed or it holds no geometry
pub none_by : (blob : List ℕ) (e : Unread) → IsWhy blob e → IsWantOfMemory e ⊎ HoldsNoGeometry blob
none_by blob reasons.Header why = inr (λ h w holds. why h holds.header)
none_by blob reasons.Ewkb why = grind arith
none_by blob reasons.Envelope why =
    inr (λ h w holds.
    let f = why.front in
    let g = holds.front in
    let one = has_one_front (body_of blob) f.spelled w.spelled f.value w.value f.rest g.rest f.front g.front in
    let wrong : false ≡ true = grind (arith, holds) in
    absurd (cc))
none_by blob (reasons.Geometry e) why =
    elim why.why [ inl memory ↦ inl memory | inr refusal ↦ inr (λ h w holds. no_refusal holds.front refusal) ]

-- a geometry is there, and the envelope is around its bounds
pub holds : (blob body : List ℕ) (h : BlobHeader) (b : Bounds) (w : Item) → IsBlobHeader blob h → body ≡ body_of blob
    → false ≡ is_ewkb body → AreBounds b w.value → true ≡ envelope_around h.order h.envelope blob b → IsFront body w
    → HoldsGeometry blob h w
holds blob body h b w head same iso bounded around front = record {
  header = head;
  iso = sym (iso ∙ ap is_ewkb same);
  front = subst (λ l. IsFront l w) same front;
  around = λ c is. ap (envelope_around h.order h.envelope blob) (same_bounds c b w.value is bounded) ∙ sym around;
}

-- what a blob holds is what is read of it
pub given_back : (blob : List ℕ) (r : Result Package Unread) → IfOk r (λ p. HoldsGeometry blob p.header p.geometry)
    → IfErr r (λ e. IsWantOfMemory e ⊎ HoldsNoGeometry blob) → GivesBack blob r
given_back blob (Ok q) ok err p there =
    let header = one_header blob q.header p.header ok.header there.header in
    let geometry = one_geometry ok.front there.front in
    λ i. record { header = header i; geometry = geometry i }
given_back blob (Err e) ok (inl memory) p there = memory
given_back blob (Err e) ok (inr none) p there = absurd (none p.header p.geometry there)
