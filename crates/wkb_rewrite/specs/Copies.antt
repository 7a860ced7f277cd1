-- The two parts of an encoding that is copied.
use Rattle.std.specs.Prelude.{◌≡◌, ◌≤◌, ℕ, ◌+◌, ◌-◌, List, ◌++◌, take, drop, is_some}
use Rattle.wkb_laws.specs.Prelude.{type_of, srid_size}
use Rattle.wkb_check.specs.Prelude.{HasGeometry}
use Rattle.wkb_check.specs.declared.pieces.Piece.{Piece}
use Rattle.wkb_rewrite.specs.Targets.{encoding_for}
use Rattle.wkb_rewrite.specs.declared.copied.Copied.{Copied}
use Rattle.wkb_sink.specs.Options.{header_of}
use Rattle.wkb_sink.specs.declared.options.WriteOptions.{WriteOptions}

abbrev pub copied_header : Copied → List ℕ
copied_header c = header_of c.options c.wkb_type

abbrev pub copied_encoding : Copied → List ℕ
copied_encoding c = copied_header c ++ c.rest.now

-- the encoding of a geometry is a header, and the input's bytes from the start up to this end
pub record IsCopied {input : List ℕ} (options : WriteOptions) (first : Piece) (end start : ℕ) (g : HasGeometry input)
    : Type 0 where
  pub inside : start ≤ end
  pub is : encoding_for options g.value
      ≡ header_of options (type_of first.kind first.dimension) ++ take (end - start) (drop start input)

-- whatever geometry the input begins with, behind the header of this first piece it stands as it is written
abbrev pub StandsBehindHeader : List ℕ → ℕ → Piece → WriteOptions → Type 0
StandsBehindHeader input end first options =
    (g : HasGeometry input) → IsCopied options first end (5 + srid_size (is_some first.srid)) g
