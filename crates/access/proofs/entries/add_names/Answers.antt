use Rattle.std.proofs.Common.{◌++◌, map, ap, ◌∙◌}
use Rattle.std.proofs.lemmas.List.{take_all}
use Rattle.access.specs.Scopes.{name_entry}
use Rattle.access.proofs.Scoped.{names_more}
use Rattle.access.proofs.entries.add_names.Goals as goal

pub loop-declared-preserved : goal.loop-declared-preserved
loop-declared-preserved c = c.push.ensures.items ∙ names_more c.args.owner c.args.scope.now.items c.loop-declared.scope.items c.args.names.now c.loop-declared.declared-index _ _ c.loop-declared-test.true c.entry.ensures c.loop-declared.invariant

pub returns : goal.returns
returns c = c.loop-declared.invariant ∙ ap (λ ds. c.args.scope.now.items ++ map (name_entry c.args.owner) ds) (take_all c.loop-declared.declared-index c.args.names.now c.loop-declared-test.false)
