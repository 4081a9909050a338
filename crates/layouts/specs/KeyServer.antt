-- The key-server layout.
use Rattle.std.specs.Prelude.{true, false, List, [], ◌∷◌}
use Rattle.layouts.specs.Meanings.{Meaning}
use Rattle.layouts.specs.Tables.{meaning_by}
use Rattle.layouts.specs.declared.table.Grant.TheVariants.{Nobody, Everybody, Either}
use Rattle.layouts.specs.declared.table.Line.{Line}
use Rattle.layouts.specs.declared.layout.Params.TheVariants.{Zero, Two}
use Rattle.layouts.specs.declared.layout.Kind.TheVariants.{Plain, Sealing}

-- 0 msg, 1 principal, 2 nonce, 3 long-term key of two principals, 4 short-term key of two principals
abbrev pub key_server_table : List Line
key_server_table =
    record { params = Zero; sendable = true; kind = Plain; makeable = true; granted = Nobody }
    ∷ record { params = Zero; sendable = true; kind = Plain; makeable = false; granted = Everybody }
    ∷ record { params = Zero; sendable = true; kind = Plain; makeable = true; granted = Nobody }
    ∷ record { params = Two 1 1; sendable = false; kind = Sealing; makeable = false; granted = Either }
    ∷ record { params = Two 1 1; sendable = true; kind = Sealing; makeable = true; granted = Nobody }
    ∷ []

abbrev pub key_server : Meaning
key_server = meaning_by key_server_table
