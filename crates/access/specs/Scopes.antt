-- The scope in which a rule is read: names, the owner, universal variables.
use Rattle.std.specs.Prelude.{ℕ, ◌+◌, List, [], ◌∷◌, ◌++◌, map}
use Rattle.reading.specs.declared.scope.Entry.{Entry}
use Rattle.terms.specs.declared.row.Item.TheVariants.{Name, Variable}
use Rattle.theory.specs.declared.data.Declared.{Declared}
use Rattle.theory.specs.Data.{Ty}
use Rattle.theory.specs.declared.owner.Owner.{Owner}
use Rattle.theory.specs.declared.owner.Owner.TheVariants.{Nobody, Generic, Anchored}
use Rattle.types.specs.Forms.{read_type}
use Rattle.types.specs.Scopes.{a_principal}

abbrev pub name_entry : Owner → Declared → Entry
name_entry o d = record { item = Name d.name; of = read_type o d.of }

-- The owner is declared where it is a variable, and else is one of the names.
abbrev pub owner_entries : Owner → List Entry
owner_entries Nobody = []
owner_entries Generic = record { item = Variable 0; of = a_principal } ∷ []
owner_entries (Anchored a) = []

abbrev pub variable_entry : Owner → ℕ → Ty → Entry
variable_entry o v T = record { item = Variable v; of = read_type o T }

-- Variables, the first of which has the number v.
abbrev pub variable_entries : Owner → ℕ → List Ty → List Entry
variable_entries o v [] = []
variable_entries o v (T ∷ Ts) = variable_entry o v T ∷ variable_entries o (v + 1) Ts

abbrev pub rule_scope : List Declared → Owner → List Ty → List Entry
rule_scope ds o us = (map (name_entry o) ds ++ owner_entries o) ++ variable_entries o 1 us
