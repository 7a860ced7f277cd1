-- What became of a row, from what its writer and its size returned.
use Rattle.std.proofs.Common.{arith, ◌≡◌, ℕ, ◌<◌, List, None, length, refl, sym, ap, ◌∙◌, inl, inr}
use Rattle.std.proofs.lemmas.Option.{none-some, same_Some}
use Rattle.wkb_geom.specs.declared.{common.Dimensions.Dimensions, error.WkbError.WkbError}
use Rattle.wkb_sink.specs.declared.options.WriteOptions.{WriteOptions}
use Rattle.wkb_write.specs.Prelude.{encoding_of, fault_of, IsInFront, IsSliceError, Reports, Geometry}
use Rattle.wkb_levels.specs.declared.{levels.Levels.Levels, row.Kind.Kind}
use Rattle.wkb_levels.specs.declared.write.Written.TheVariants as written
use Rattle.wkb_levels.specs.Meant.{IsLevelRow}
use Rattle.wkb_levels.specs.RowWrites.{IsRowWrite, put, lacks, unfit}

module _ (l : Levels) (kind : Kind) (d : Dimensions) (o : WriteOptions) (i : ℕ) (before after : List ℕ) where
  pub no_row : ((g : Geometry) → IsLevelRow l kind d i g → ⊥) → after ≡ before
      → IsRowWrite l kind d o i before after written.Unfit
  no_row differ kept = unfit (λ bytes has. differ has.geometry has.row) refl kept

  pub row_put : (g : Geometry) (n : ℕ) → IsLevelRow l kind d i g → fault_of o g ≡ None
      → IsInFront before after (encoding_of o g) n → IsRowWrite l kind d o i before after (written.Whole n)
  row_put g n row fine front =
      put (encoding_of o g) (record { geometry = g; row = row; writable = fine; is = refl }) (grind arith) (grind arith)

  pub row_lacks : (g : Geometry) (n : ℕ) (e : WkbError) → IsLevelRow l kind d i g → IsSliceError o g before e
      → (fault_of o g ≡ None) × (n ≡ length (encoding_of o g)) → after ≡ before
      → IsRowWrite l kind d o i before after (written.LacksRoom n)
  row_lacks g n e row why sized kept =
      lacks (encoding_of o g) (record { geometry = g; row = row; writable = sized.0; is = refl })
      (ap (λ k. written.LacksRoom k) sized.1) (short why) kept where
        short : IsSliceError o g before e → length before < length (encoding_of o g)
        short (inl refused) = absurd (none-some _ (sym sized.0 ∙ refused.is))
        short (inr grown) = grown.short

  pub row_refused : (g : Geometry) (e : WkbError) → IsLevelRow l kind d i g → Reports e (fault_of o g)
      → after ≡ before → IsRowWrite l kind d o i before after written.Unfit
  row_refused g e row refused kept =
      unfit
      (λ bytes has.
      let one = one_row has.geometry has.row in none-some _ (sym has.writable ∙ ap (fault_of o) one ∙ refused.is))
      refl kept where
        one_row : (h : Geometry) → IsLevelRow l kind d i h → h ≡ g
        one_row h other = same_Some h g (sym other.meant ∙ row.meant)

pub ruleset write_laws = (no_row, row_put, row_lacks, row_refused)
