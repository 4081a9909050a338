use Rattle.std.proofs.Common.{◌≡◌, length, vec_items, ap, ◌∙◌, arith}
use Rattle.terms.specs.Marks.{marks_of}
use Rattle.access.specs.Demands.{parts_of}
use Rattle.access.specs.Places.{setting_of}
use Rattle.access.specs.Tests.{closed_rows_check, can_rows}
use Rattle.access.proofs.Ruling.{read_on}
use Rattle.access.proofs.setting.Setting.check_reading.Goals as goal

pub returns : goal.returns
returns g c =
    let e = setting_of c.args.self.now in
    let R = c.args.rule.now in
    let held = marks_of c.args.reading.now.held in
    let closed = marks_of c.args.reading.now.closed in
    let u = c.len-universal.result in
    let made = c.as_slice-made.result.now in
    let us : u ≡ length (vec_items R.universal) = omega (arith, c.len-universal.ensures, R.universal.ok.0) in
    let ls : c.len.result ≡ length (vec_items R.left) = omega (arith, c.len.ensures, R.left.ok.0) in
    read_on (g.L.Layout.meaning c.args.self.now.layout.now) e (parts_of R) held closed c.as_slice-3.result.now u c.len.result made c.as_slice-4.result.now _ _ _ us ls c.as_slice-made.ensures.value c.as_slice-4.ensures.value
    (c.in_ok-check_closed.ensures ∙ ap (closed_rows_check e) c.as_slice.ensures.value) c.in_ok-check_made.ensures
    (c.as_slice-3.ensures.value ∙ c.buildable_rows-can.ensures ∙ ap (λ held. can_rows e.owner u (length made) held e.rows) c.as_slice-2.ensures.value) c.check_built.ensures
