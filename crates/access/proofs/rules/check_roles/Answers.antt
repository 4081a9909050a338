use Rattle.std.proofs.Common.{◌≡◌, ℕ, ◌+◌, List, [], length, Ok, Err, vec_items, sym, ap, ◌∙◌, subst}
use Rattle.refusals.specs.Demands.{First}
use Rattle.refusals.specs.Walks.{Answer}
use Rattle.std.proofs.lemmas.Result.{err_from_is_err_and}
use Rattle.layouts.specs.Meanings.{Meaning}
use Rattle.terms.specs.Held.{rows_of}
use Rattle.terms.specs.declared.row.Row.{Row}
use Rattle.theory.specs.Owners.{owner_of}
use Rattle.theory.specs.declared.data.Declared.{Declared}
use Rattle.theory.specs.declared.data.Role.{Role}
use Rattle.theory.specs.declared.data.Rule.{Rule}
use Rattle.theory.specs.declared.owner.Owner.{Owner}
use Rattle.access.specs.Demands.{rules_lines, role_lines, roles_lines}
use Rattle.access.specs.Tabled.{RulesTabled}
use Rattle.access.specs.Faults.{AccessFault}
use Rattle.access.proofs.Leading.{in_place, place_of_next, leads_more, leads_stop, leads_all}
use Rattle.access.proofs.rules.check_roles.Goals as goal

-- the rules of a role that the code lent, at its place
at-role : (lay : Meaning) (ds : List Declared) (rows : List Row) (n m : ℕ) (R : Role) (o : Owner) (rules : List Rule) (r : Answer AccessFault) → n ≡ m → o ≡ owner_of R.anchor → rules ≡ vec_items R.rules →
    First (rules_lines lay (record { names = ds; memory = []; own = []; rows = rows; owner = o; role = n; rule = 0 }) rules) r → First (role_lines lay ds rows m R) r
at-role lay ds rows n m R o rules r p q s h =
    subst (λ n. First (role_lines lay ds rows n R) r) p
    (subst (λ o. First (rules_lines lay (record { names = ds; memory = []; own = []; rows = rows; owner = o; role = n; rule = 0 }) (vec_items R.rules)) r) q
    (subst (λ rules. First (rules_lines lay (record { names = ds; memory = []; own = []; rows = rows; owner = o; role = n; rule = 0 }) rules) r) s h))

pub check_rules-requires : goal.check_rules-requires
check_rules-requires g c =
    subst (RulesTabled (length (rows_of c.args.book.now))) (sym c.as_slice.ensures.value) (c.requires _ (in_place c.args.roles.now c.loop-i.i c.index-roles-i.result c.loop-i-test.true c.index-roles-i.is))

pub returns-in_err-check_rules : goal.returns-in_err-check_rules
returns-in_err-check_rules g c =
    let lay = g.L.Layout.meaning c.args.layout.now in
    let ds = c.args.names.declared.now in
    let rows = rows_of c.args.book.now in
    let roles = c.args.roles.now in
    let f = err_from_is_err_and c.from_residual.result c.from_residual.ensures.1 in
    let place = place_of_next roles c.loop-i.i c.loop-i-test.true in
    subst (First (roles_lines lay ds rows roles)) (sym (f.1 ∙ ap Err f.2))
    (leads_stop (λ seen R. role_lines lay ds rows (length seen + 1) R) roles c.loop-i.i c.index-roles-i.result c.loop-i-test.true c.index-roles-i.is c.loop-i.invariant _
    (at-role lay ds rows _ _ c.index-roles-i.result _ _ _ place c.from.ensures c.as_slice.ensures.value c.in_err-check_rules.ensures))

pub loop-i-preserved : goal.loop-i-preserved
loop-i-preserved g c =
    let lay = g.L.Layout.meaning c.args.layout.now in
    let ds = c.args.names.declared.now in
    let rows = rows_of c.args.book.now in
    let roles = c.args.roles.now in
    let place = place_of_next roles c.loop-i.i c.loop-i-test.true in
    leads_more (λ seen R. role_lines lay ds rows (length seen + 1) R) roles c.loop-i.i c.index-roles-i.result c.loop-i-test.true c.index-roles-i.is c.loop-i.invariant
    (at-role lay ds rows _ _ c.index-roles-i.result _ _ (Ok (tt {0})) place c.from.ensures c.as_slice.ensures.value c.in_ok-check_rules.ensures)

pub returns : goal.returns
returns g c =
    let lay = g.L.Layout.meaning c.args.layout.now in
    leads_all (λ seen R. role_lines lay c.args.names.declared.now (rows_of c.args.book.now) (length seen + 1) R) c.args.roles.now c.loop-i.i c.loop-i-test.false c.loop-i.invariant
