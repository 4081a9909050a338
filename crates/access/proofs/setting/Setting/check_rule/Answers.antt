use Rattle.std.proofs.Common.{length, Err, sym, ap, ◌∙◌, subst, subst₂, ap₂}
use Rattle.reading.specs.Scopes.{context}
use Rattle.reading.specs.Told.{left_terms, Told}
use Rattle.refusals.specs.Demands.{First}
use Rattle.std.proofs.lemmas.Result.{err_from_is_err_and}
use Rattle.terms.specs.Marks.{marks_of}
use Rattle.access.specs.Demands.{parts_of, parts_lines}
use Rattle.access.specs.Places.{setting_of}
use Rattle.access.specs.Scopes.{rule_scope}
use Rattle.access.specs.Tests.{owners_check}
use Rattle.access.proofs.Ruling.{stops_left, stops_right, goes_on}
use Rattle.access.proofs.setting.Setting.check_rule.Goals as goal

pub returns-in_err-check_owners : goal.returns-in_err-check_owners
returns-in_err-check_owners g c =
    let lay = g.L.Layout.meaning c.args.self.now.layout.now in
    let e = setting_of c.args.self.now in
    let p = parts_of c.args.rule.now in
    let f = err_from_is_err_and c.from_residual.result c.from_residual.ensures.1 in
    subst (First (parts_lines lay e p)) (sym (f.1 ∙ ap Err f.2))
    (stops_left lay e c.args.self.now.book.now.sound p c.requires _ (c.in_err-check_owners.ensures ∙ ap (owners_check e 0) c.as_slice-left.ensures.value))

pub returns-in_err-check_owners-2 : goal.returns-in_err-check_owners-2
returns-in_err-check_owners-2 g c =
    let lay = g.L.Layout.meaning c.args.self.now.layout.now in
    let e = setting_of c.args.self.now in
    let p = parts_of c.args.rule.now in
    let f = err_from_is_err_and c.from_residual-in_err-check_owners-2.result c.from_residual-in_err-check_owners-2.ensures.1 in
    subst (First (parts_lines lay e p)) (sym (f.1 ∙ ap Err f.2))
    (stops_right lay e c.args.self.now.book.now.sound p c.requires _ _ (c.in_ok-check_owners.ensures ∙ ap (owners_check e 0) c.as_slice-left.ensures.value)
    (c.in_err-check_owners-2.ensures ∙ ap₂ (owners_check e) (ap length c.as_slice-left.ensures.value) c.as_slice.ensures.value))

pub returns : goal.returns
returns g c =
    let lay = g.L.Layout.meaning c.args.self.now.layout.now in
    let e = setting_of c.args.self.now in
    let p = parts_of c.args.rule.now in
    let held = marks_of c.in-Some.reading.held in
    let closed = marks_of c.in-Some.reading.closed in
    let scope = c.as_slice-3.ensures.value ∙ c.rule_scope-scope.ensures ∙ ap (rule_scope e.names e.owner) c.as_slice-2.ensures.value in
    let told = subst₂ (λ scope fs. Told lay (context scope) e.owner e.rows (left_terms e.owner e.rows fs) held closed) scope c.as_slice-left.ensures.value c.in-Some.ensures.told in
    goes_on lay e c.args.self.now.book.now.sound p c.requires held closed _ _ _ (c.in_ok-check_owners.ensures ∙ ap (owners_check e 0) c.as_slice-left.ensures.value)
    (c.in_ok-check_owners-2.ensures ∙ ap₂ (owners_check e) (ap length c.as_slice-left.ensures.value) c.as_slice.ensures.value) told c.check_reading.ensures
