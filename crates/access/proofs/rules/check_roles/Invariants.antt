use Rattle.std.proofs.Common.{◌+◌, length}
use Rattle.terms.specs.Held.{rows_of}
use Rattle.access.specs.Demands.{role_lines}
use Rattle.access.proofs.Leading.{Leads}
use Rattle.access.proofs.rules.check_roles.Given as goal

abbrev pub invariant-loop-i : goal.invariant-loop-i
invariant-loop-i g l =
    let lay = g.L.Layout.meaning l.layout in
    Leads (λ seen R. role_lines lay l.names.declared.now (rows_of l.book) (length seen + 1) R) l.roles l.i
