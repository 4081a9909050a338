use Rattle.std.proofs.Common.{◌≡◌, ◌+◌, ◌++◌, length, take}
use Rattle.access.specs.Scopes.{variable_entries}
use Rattle.access.proofs.entries.add_variables.Given as goal

abbrev pub invariant-loop-i : goal.invariant-loop-i
invariant-loop-i l =
    (length l.scope.items ≡ length l.initial.scope.items + l.i)
    × (l.scope.items ≡ l.initial.scope.items ++ variable_entries l.owner 1 (take l.i l.variables))
