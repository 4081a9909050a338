-- The report layout.
use Rattle.std.specs.Prelude.{true, false, List, [], ◌∷◌}
use Rattle.layouts.specs.Meanings.{Meaning}
use Rattle.layouts.specs.Tables.{meaning_by}
use Rattle.layouts.specs.declared.table.Grant.TheVariants.{Nobody, Everybody, Either, OfFirst}
use Rattle.layouts.specs.declared.table.Line.{Line}
use Rattle.layouts.specs.declared.layout.Params.TheVariants.{Zero, One, Two}
use Rattle.layouts.specs.declared.layout.Kind.TheVariants.{Plain, Sealing, Locking}

-- 0 msg, 1 principal, 2 nonce, 3 shared key of two principals, 4 public key of a principal, 5 private key of a public key
abbrev pub report_table : List Line
report_table =
    record { params = Zero; sendable = true; kind = Plain; makeable = true; granted = Nobody }
    ∷ record { params = Zero; sendable = true; kind = Plain; makeable = false; granted = Everybody }
    ∷ record { params = Zero; sendable = true; kind = Plain; makeable = true; granted = Nobody }
    ∷ record { params = Two 1 1; sendable = true; kind = Sealing; makeable = false; granted = Either }
    ∷ record { params = One 1; sendable = true; kind = Locking 5; makeable = false; granted = Everybody }
    ∷ record { params = One 4; sendable = false; kind = Plain; makeable = false; granted = OfFirst }
    ∷ []

abbrev pub report : Meaning
report = meaning_by report_table
