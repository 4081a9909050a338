use Rattle.std.proofs.Common.{◌-◌, true, cond, unwrap_or, slice_set, sym, ap, ◌∙◌}
use Rattle.reading.proofs.Numbering.{at_numbered}
use Rattle.reading.specs.Marks.{mark_row}
use Rattle.reading.proofs.marks.View.mark.Goals as goal

pub returns-in_default : goal.returns-in_default
returns-in_default c =
    ap (λ o. mark_row c.args.got.now (unwrap_or o 0)) (sym c.in_default.is) ∙ ap (mark_row c.args.got.now) (at_numbered 0 c.args.self.low.now c.args.number c.lowest.result c.lowest.ensures)

pub returns-then-is_number : goal.returns-then-is_number
returns-then-is_number c =
    let got = c.args.got.now in
    ap (λ b. cond b (slice_set got (c.in-Some.lowest - 1) true) got) (sym c.if-is_number.true ∙ c.is_number.ensures)
    ∙ ap (λ o. mark_row got (unwrap_or o 0)) (sym c.in-Some.is)
    ∙ ap (mark_row got) (at_numbered 0 c.args.self.low.now c.args.number c.lowest.result c.lowest.ensures)

pub returns-else-is_number : goal.returns-else-is_number
returns-else-is_number c =
    let got = c.args.got.now in
    ap (λ b. cond b (slice_set got (c.in-Some.lowest - 1) true) got) (sym c.if-is_number.false ∙ c.is_number.ensures)
    ∙ ap (λ o. mark_row got (unwrap_or o 0)) (sym c.in-Some.is)
    ∙ ap (mark_row got) (at_numbered 0 c.args.self.low.now c.args.number c.lowest.result c.lowest.ensures)
