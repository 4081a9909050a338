-- Where a rule is checked, and where its faults are told.
use Rattle.std.specs.Prelude.{ℕ, []}
use Rattle.terms.specs.Held.{rows_of}
use Rattle.types.specs.Rules.{Place}
use Rattle.access.specs.Faults.{AccessFault}
use Rattle.access.specs.declared.faults.Denied.{Denied}
use Rattle.access.specs.declared.setting.Setting.{Setting}

-- The predicates of a theory have no say in the access check.
abbrev pub setting_of : {L : Type 0} → Setting L → Place
setting_of e = record { names = e.names.declared.now; memory = []; own = []; rows = rows_of e.book.now; owner = e.owner; role = e.role; rule = e.rule }

-- A row of the book has no spot in the rule.
abbrev pub at_rule : ℕ → ℕ → ℕ → Denied → AccessFault
at_rule role rule n d = record { role = role; rule = rule; spot = 0; why = d }

abbrev pub same : AccessFault → AccessFault
same f = f

-- where something has no place of its own
abbrev pub here : ℕ → AccessFault → AccessFault
here n f = f
