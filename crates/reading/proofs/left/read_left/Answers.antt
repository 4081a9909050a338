use Rattle.std.proofs.Common.{ap, ◌∙◌}
use Rattle.terms.specs.Held.{rows_of}
use Rattle.reading.specs.Marks.{held_rows, closed_rows}
use Rattle.reading.proofs.Closing.{put_together, told_at}
use Rattle.reading.proofs.left.read_left.Goals as goal

pub returns-clause-told : goal.returns-clause-told
returns-clause-told g c =
    let lay = g.L.Layout.meaning c.args.layout.now in
    let rows = rows_of c.args.book.now in
    let w = put_together c.args.owner rows c.as_slice.result.now c.as_slice-2.result.now c.as_slice-3.result.now in
    told_at lay c.args.scope.now c.args.owner rows c.args.book.now.sound c.args.left.now _ _ _ _ _ _
    (c.as_slice.ensures.value ∙ c.lowest_rows-low.ensures)
    (c.as_slice-2.ensures.value ∙ c.granted_rows-granted.ensures)
    (c.as_slice-3.ensures.value ∙ c.in_ok-openers.ensures)
    c.received_rows-got.ensures
    (c.held_rows.ensures.value ∙ ap (held_rows w) c.as_slice-4.ensures.value)
    (c.closed_rows.ensures.value ∙ ap (closed_rows w) c.as_slice-5.ensures.value)
