use Rattle.std.proofs.Common.{ap, ap₂, ◌∙◌}
use Rattle.types.specs.Facts.{ledger}
use Rattle.types.specs.Rules.{setting_of, facts_with}
use Rattle.types.proofs.scope.Setting.check_side.Goals as goal

pub returns : goal.returns
returns g c =
    let e = setting_of c.args.self.now in
    let marked = c.new-marked.ensures in
    c.check_facts.ensures
    ∙ ap₂ (λ s l. facts_with s l e c.args.base c.args.facts.now) (marked.scoped ∙ c.scope.ensures) (marked.marks ∙ ap (λ s. ledger (g.L.Layout.meaning c.args.self.now.layout.now) s e.rows) c.scope.ensures)
