use Rattle.std.proofs.Common.{◌++◌, ap, ◌∙◌, arith}
use Rattle.std.proofs.lemmas.List.{take_all}
use Rattle.access.specs.Scopes.{variable_entries}
use Rattle.access.proofs.Scoped.{variables_more}
use Rattle.access.proofs.entries.add_variables.Goals as goal

pub loop-i-preserved : goal.loop-i-preserved
loop-i-preserved c = (
  omega (arith, c.push.ensures.len, c.loop-i.invariant.0),
  c.push.ensures.items ∙ variables_more c.args.owner c.args.scope.now.items c.loop-i.scope.items c.args.variables.now c.loop-i.i _ _ c.loop-i-test.true c.entry.ensures c.loop-i.invariant.1,
)

pub returns : goal.returns
returns c = c.loop-i.invariant.1 ∙ ap (λ Ts. c.args.scope.now.items ++ variable_entries c.args.owner 1 Ts) (take_all c.loop-i.i c.args.variables.now c.loop-i-test.false)
