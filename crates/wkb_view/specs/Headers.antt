-- The header that is known to come before a body.
use Rattle.std.specs.Prelude.{◌≡◌, ℕ, List, Ok}
use Rattle.wkb_view.specs.Prelude.{Dimension, WkbType, Layout, head_at}

-- the bytes begin with a header of this kind and layout
abbrev pub HasHead : (Dimension → WkbType) → Layout → List ℕ → Type 0
HasHead kind l bytes =
    head_at bytes ≡ Ok (record { order = l.order; wkb_type = kind l.dimension; has_srid = l.has_srid })
