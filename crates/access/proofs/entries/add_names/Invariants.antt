use Rattle.std.proofs.Common.{◌≡◌, ◌++◌, map, take}
use Rattle.access.specs.Scopes.{name_entry}
use Rattle.access.proofs.entries.add_names.Given as goal

abbrev pub invariant-loop-declared : goal.invariant-loop-declared
invariant-loop-declared l = l.scope.items ≡ l.initial.scope.items ++ map (name_entry l.owner) (take l.declared-index l.names)
