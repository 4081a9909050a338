use Rattle.std.proofs.Common.{◌≡◌, length, drop}
use Rattle.types.specs.Scopes.{scope_of}
use Rattle.types.specs.Facts.{ledger_of, arguments_check}
use Rattle.types.proofs.facts.check_arguments.Given as goal

abbrev pub invariant-loop-k : goal.invariant-loop-k
invariant-loop-k l =
    let s = scope_of l.marked.scope in
    let b = ledger_of l.marked in
    arguments_check s b l.args (drop (length l.yielded) l.args) (drop (length l.yielded) l.takes) ≡ arguments_check s b l.args l.args l.takes
