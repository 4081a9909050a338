use Rattle.std.proofs.Common.{◌≡◌, ◌<◌, length, arith, length-set, rules, [], ◌∙◌, ap}
use Rattle.terms.specs.Filling.{fill}
use Rattle.terms.proofs.Filled.{fill_more, fill_none}
use Rattle.terms.proofs.book.Book.mark_rows.Goals as goal

pub loop-i-preserved : goal.loop-i-preserved
loop-i-preserved g c =
    let room : c.loop-i.i < length c.loop-i.on = omega arith in (
      simp length-set c.loop-i.invariant.0,
      λ f gives. fill_more f c.rows-rows.result.now c.loop-i.on c.loop-i.i _ _ _ _ _ c.loop-i-test.true room (search rules) (search rules) (c.loop-i.invariant.1 f gives) (gives _ _ _ _ c.mark-is_on.ensures),
    )

pub returns-clause-value : goal.returns-clause-value
returns-clause-value g c f gives =
    let done : c.loop-i.i ≡ length c.rows-rows.result.now = omega arith in
    rw done at (fill_none f c.rows-rows.result.now c.loop-i.on c.loop-i.i _ c.loop-i-test.false (c.loop-i.invariant.1 f gives) ∙ ap (fill f [] []) c.rows-rows.ensures.value)
