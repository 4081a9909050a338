-- Layouts that are written down as tables, a line for each family.
use Rattle.std.specs.Prelude.{ℕ, Bool, true, false, ◌||◌, List, length, ◌==◌, slice_index_or}
use Rattle.layouts.specs.Meanings.{Meaning, listed}
use Rattle.layouts.specs.declared.layout.Kind.TheVariants.{Plain}
use Rattle.layouts.specs.declared.layout.Params.TheVariants.{Zero}
use Rattle.layouts.specs.declared.table.Grant.{Grant}
use Rattle.layouts.specs.declared.table.Grant.TheVariants.{Nobody, Everybody, First, Either, OfFirst}
use Rattle.layouts.specs.declared.table.Line.{Line}

abbrev pub lacked : Line
lacked = record { params = Zero; sendable = false; kind = Plain; makeable = false; granted = Nobody }

-- Granted to nobody, to everybody, to the first parameter, to either parameter, or to the first parameter of the first.
abbrev pub grants_by : Grant → ℕ → ℕ → ℕ → ℕ → Bool
grants_by Nobody o a b c = false
grants_by Everybody o a b c = true
grants_by First o a b c = o == a
grants_by Either o a b c = o == a || o == b
grants_by OfFirst o a b c = o == c

abbrev pub line_at : List Line → ℕ → Line
line_at table F = slice_index_or table F lacked

abbrev pub params_of : Line → List ℕ
params_of x = listed x.params

-- The layout that the table writes down, family 0 first.
abbrev pub meaning_by : List Line → Meaning
meaning_by table = record {
  families = length table;
  params = λ F. params_of (line_at table F);
  sendable = λ F. (line_at table F).sendable;
  kind = λ F. (line_at table F).kind;
  makeable = λ F. (line_at table F).makeable;
  grants = λ o F a b c. grants_by (line_at table F).granted o a b c;
}
