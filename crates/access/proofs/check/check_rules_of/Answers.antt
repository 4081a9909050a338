use Rattle.std.proofs.Common.{length, sym, subst}
use Rattle.terms.specs.Held.{rows_of}
use Rattle.access.specs.Tabled.{RolesTabled}
use Rattle.access.proofs.Tabling.{roles_tabled}
use Rattle.access.proofs.check.check_rules_of.Goals as goal

pub check_roles-requires : goal.check_roles-requires
check_roles-requires g c =
    let T = c.args.theory.now in
    subst (RolesTabled (length (rows_of T.book))) (sym c.as_slice-2.ensures.value) (roles_tabled T c.requires)
