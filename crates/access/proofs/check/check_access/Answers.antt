use Rattle.std.proofs.Common.{◌≡◌, [], Ok, Err, sym, refl, ap, ◌∙◌}
use Rattle.refusals.specs.Walks.{pass}
use Rattle.std.proofs.lemmas.Result.{err_from_is_err_and}
use Rattle.theory.specs.Tables.{tables_check}
use Rattle.access.proofs.Checking.{access_answered, access_passes}
use Rattle.access.proofs.check.check_access.Goals as goal

pub returns-in_err-check_rules_of : goal.returns-in_err-check_rules_of
returns-in_err-check_rules_of g c =
    let lay = g.L.Layout.meaning c.args.layout.now in
    let T = c.args.theory.now in
    let tables : tables_check T [] ≡ pass = sym c.in_ok-check_tables.ensures in
    let f = err_from_is_err_and c.from_residual-in_err-check_rules_of.result c.from_residual-in_err-check_rules_of.ensures.1 in
    record {
      answer = access_answered lay T tables (Err c.in_err-check_rules_of.field-0.0) c.in_err-check_rules_of.ensures _ (f.1 ∙ ap Err f.2);
      judged = access_passes lay T tables (Err c.in_err-check_rules_of.field-0.0) c.in_err-check_rules_of.ensures _ (f.1 ∙ ap Err f.2);
    }

pub returns : goal.returns
returns g c =
    let lay = g.L.Layout.meaning c.args.layout.now in
    let T = c.args.theory.now in
    let tables : tables_check T [] ≡ pass = sym c.in_ok-check_tables.ensures in
    record {
      answer = access_answered lay T tables (Ok (tt {0})) c.in_ok-check_rules_of.ensures (Ok (tt {0})) refl;
      judged = access_passes lay T tables (Ok (tt {0})) c.in_ok-check_rules_of.ensures (Ok (tt {0})) refl;
    }
