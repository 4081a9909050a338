use Rattle.std.proofs.Common.{◌+◌, length, Ok, Err, sym, ap, ◌∙◌, subst}
use Rattle.refusals.specs.Demands.{First}
use Rattle.std.proofs.lemmas.Result.{err_from_is_err_and}
use Rattle.types.specs.Theories.{numbered}
use Rattle.access.specs.Demands.{rule_lines, rules_lines}
use Rattle.access.specs.Places.{setting_of}
use Rattle.access.proofs.Leading.{in_place, place_of_next, leads_more, leads_stop, leads_all}
use Rattle.access.proofs.setting.Setting.check_rules.Goals as goal

pub check_rule-requires : goal.check_rule-requires
check_rule-requires g c = c.requires _ (in_place c.args.rules.now c.loop-i.i c.index-rules-i.result c.loop-i-test.true c.index-rules-i.is)

pub returns-in_err-check_rule : goal.returns-in_err-check_rule
returns-in_err-check_rule g c =
    let lay = g.L.Layout.meaning c.args.self.now.layout.now in
    let e = setting_of c.args.self.now in
    let rules = c.args.rules.now in
    let f = err_from_is_err_and c.from_residual.result c.from_residual.ensures.1 in
    let place = place_of_next rules c.loop-i.i c.loop-i-test.true in
    subst (First (rules_lines lay e rules)) (sym (f.1 ∙ ap Err f.2))
    (leads_stop (λ seen R. rule_lines lay (numbered e (length seen + 1)) R) rules c.loop-i.i c.index-rules-i.result c.loop-i-test.true c.index-rules-i.is c.loop-i.invariant _
    (subst (λ n. First (rule_lines lay (numbered e n) c.index-rules-i.result) (Err c.in_err-check_rule.field-0.0)) place c.in_err-check_rule.ensures))

pub loop-i-preserved : goal.loop-i-preserved
loop-i-preserved g c =
    let lay = g.L.Layout.meaning c.args.self.now.layout.now in
    let e = setting_of c.args.self.now in
    let rules = c.args.rules.now in
    let place = place_of_next rules c.loop-i.i c.loop-i-test.true in
    leads_more (λ seen R. rule_lines lay (numbered e (length seen + 1)) R) rules c.loop-i.i c.index-rules-i.result c.loop-i-test.true c.index-rules-i.is c.loop-i.invariant
    (subst (λ n. First (rule_lines lay (numbered e n) c.index-rules-i.result) (Ok (tt {0}))) place c.in_ok-check_rule.ensures)

pub returns : goal.returns
returns g c =
    let lay = g.L.Layout.meaning c.args.self.now.layout.now in
    let e = setting_of c.args.self.now in
    leads_all (λ seen R. rule_lines lay (numbered e (length seen + 1)) R) c.args.rules.now c.loop-i.i c.loop-i-test.false c.loop-i.invariant
