use Rattle.std.proofs.Common.{◌+◌, length}
use Rattle.types.specs.Theories.{numbered}
use Rattle.access.specs.Demands.{rule_lines}
use Rattle.access.specs.Places.{setting_of}
use Rattle.access.proofs.Leading.{Leads}
use Rattle.access.proofs.setting.Setting.check_rules.Given as goal

abbrev pub invariant-loop-i : goal.invariant-loop-i
invariant-loop-i g l =
    let lay = g.L.Layout.meaning l.self.layout.now in
    let e = setting_of l.self in
    Leads (λ seen R. rule_lines lay (numbered e (length seen + 1)) R) l.rules l.i
