-- The answers of the checks, one after the other.
use Rattle.std.proofs.Common.{◌≡◌, [], ◌∷◌, Ok, Err, sym, refl, ap, ◌∙◌, subst, inl, inr}
use Rattle.layouts.specs.Meanings.{Meaning}
use Rattle.refusals.proofs.Deciding.{clash, passes_as}
use Rattle.refusals.proofs.Demanding.{first_passes}
use Rattle.refusals.specs.Decides.{Passes}
use Rattle.refusals.specs.Demands.{Lines, First, carried}
use Rattle.refusals.specs.Walks.{Answer, pass}
use Rattle.theory.specs.Tables.{tables_check}
use Rattle.theory.specs.declared.data.Theory.{Theory}
use Rattle.types.specs.Theories.{theory_check}
use Rattle.types.specs.Typed.{TheoryTyped}
use Rattle.access.proofs.Allowing.{theory_allowed, allowed_theory}
use Rattle.access.proofs.Tabling.{roles_tabled}
use Rattle.access.specs.Allowed.{TheoryAllowed}
use Rattle.access.specs.Checks.{After, AccessTold, AccessAnswered, Answered, Accessible, Accepted}
use Rattle.access.specs.Demands.{theory_lines}
use Rattle.access.specs.Faults.{AccessFault}
use Rattle.access.specs.declared.faults.CheckFault.{CheckFault}
use Rattle.access.specs.declared.faults.CheckFault.TheVariants.{Table, Typing, Access}

abbrev pub lifted : Answer AccessFault → Answer CheckFault
lifted (Ok u) = pass
lifted (Err f) = Err (Access f)

first_lifted : (ls : Lines AccessFault) (a : Answer AccessFault) → First ls a → First (carried Access ls) (lifted a)
first_lifted [] a h = ap lifted h
first_lifted (l ∷ ls) a (inl h) = inl (h.0, ap lifted h.1)
first_lifted (l ∷ ls) a (inr h) = inr (h.0, first_lifted ls a h.1)

lifted_pass : (a : Answer AccessFault) → lifted a ≡ pass → a ≡ pass
lifted_pass (Ok u) e = refl
lifted_pass (Err f) e = clash (cc)

module _ (lay : Meaning) (T : Theory) (tables : tables_check T [] ≡ pass) (a : Answer AccessFault) (h : First (theory_lines lay T) a) (r : Answer CheckFault) (is : r ≡ lifted a) where
  allowed_passes : Passes r (TheoryAllowed lay T)
  allowed_passes =
      let p = passes_as (theory_allowed lay T (roles_tabled T tables)) (allowed_theory lay T (roles_tabled T tables)) (first_passes (theory_lines lay T) a h) in
      record { holds = λ e. p.holds (lifted_pass a (sym is ∙ e)); passes = λ x. is ∙ ap lifted (p.passes x) }

  told : AccessTold lay T r
  told = subst (First (carried Access (theory_lines lay T))) (sym is) (first_lifted (theory_lines lay T) a h)

  pub access_answered : AccessAnswered lay T r
  access_answered = subst (λ t. After Table t (AccessTold lay T) r) (sym tables) told

  pub access_passes : Passes r (Accessible lay T)
  access_passes = passes_as (λ x. record { tables = tables; allowed = x }) (λ x. x.allowed) allowed_passes

  module _ (types : theory_check lay T ≡ pass) (typed : TheoryTyped lay T) where
    pub answered : Answered lay T r
    answered = subst (λ t. After Table t (After Typing (theory_check lay T) (AccessTold lay T)) r) (sym tables) (subst (λ t. After Typing t (AccessTold lay T) r) (sym types) told)

    pub all_passes : Passes r (Accepted lay T)
    all_passes = passes_as (λ x. record { tables = tables; typed = typed; allowed = x }) (λ x. x.allowed) allowed_passes
