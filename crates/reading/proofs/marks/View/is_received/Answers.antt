use Rattle.std.proofs.Common.{false, rules, refl, ap, ◌∙◌}
use Rattle.reading.proofs.Numbering.{at_numbered, asked}
use Rattle.terms.specs.Numbered.{at}
use Rattle.reading.proofs.marks.View.is_received.Goals as goal

pub returns : goal.returns
returns c =
    let marked = at false c.args.got.now in
    asked marked 0 c.lowest.result c.is_some_and.result refl c.is_some_and.ensures (λ x p. search rules) ∙ ap marked (at_numbered 0 c.args.self.low.now c.args.number c.lowest.result c.lowest.ensures)
