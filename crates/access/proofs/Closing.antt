-- The lowest row that stays closed is the first whose mark is on.
use Rattle.std.proofs.Common.{◌≡◌, ℕ, suc, ◌+◌, ◌-◌, Bool, true, false, eqb, not, List, [], ◌∷◌, ◌++◌, length, get_or, take, sym, refl, ap, subst, inl, inr, arith}
use Rattle.refusals.proofs.Deciding.{clash}
use Rattle.refusals.specs.Decides.{Decides}
use Rattle.refusals.specs.Demands.{Lines, First, lines}
use Rattle.std.proofs.Math.Seq.{take-nil}
use Rattle.std.proofs.lemmas.Bool.{ne_eqb}
use Rattle.std.proofs.lemmas.List.{length_push}
use Rattle.std.specs.List.{position_from}
use Rattle.terms.specs.declared.row.Row.{Row}
use Rattle.types.specs.Rows.{at}
use Rattle.types.specs.Rules.{Place}
use Rattle.access.specs.Places.{at_rule}
use Rattle.access.specs.Tests.{none_closed}
use Rattle.access.specs.declared.faults.Denied.{Denied}
use Rattle.access.specs.declared.faults.Denied.TheVariants.{StaysClosed}

-- what has the number after so many others
pub at_next : {A : Type 0} (d : A) (xs : List A) (j : ℕ) → at d xs (j + 1) ≡ get_or xs j d
at_next d xs j =
    let more : eqb (j + 1) 0 ≡ false = ne_eqb (j + 1) 0 (λ e. omega arith) in
    let place : j + 1 - 1 ≡ j = omega arith in
    rw (more, place) refl

next : (r : Row) (seen : List Row) (n : ℕ) → n ≡ length seen → n + 1 ≡ length (seen ++ r ∷ [])
next r seen n s = let l = length_push seen r in omega arith

shift : (n j : ℕ) → n + suc j + 1 ≡ n + 1 + j + 1
shift n j = omega arith

-- P is demanded of each row by its number
module _ (e : Place) (P : ℕ → Type 0) where
  abbrev each : List Row → Row → Lines Denied
  each seen r = (StaysClosed (length seen + 1), P (length seen + 1)) ∷ []

  pub closed_first : (rs seen : List Row) (n : ℕ) (bs : List Bool) → n ≡ length seen → ((j : ℕ) → Decides (not (get_or bs j false)) (P (n + j + 1))) →
      First (lines each (at_rule e.role e.rule) seen rs) (none_closed e (position_from (λ b. b) n (take (length rs) bs)))
  closed_first [] seen n bs s told = refl
  closed_first (r ∷ rs) seen n [] s told =
      let number : n + 0 + 1 ≡ length seen + 1 = omega (arith, s) in
      let none : take {A = Bool} (length rs) [] ≡ [] = take-nil (length rs) in
      inr (subst P number ((told 0).sound refl), subst (λ bs. First (lines each (at_rule e.role e.rule) (seen ++ r ∷ []) rs) (none_closed e (position_from (λ b. b) (n + 1) bs))) none (closed_first rs (seen ++ r ∷ []) (n + 1) [] (next r seen n s) (λ j. subst (λ k. Decides true (P k)) (shift n j) (told (suc j)))))
  closed_first (r ∷ rs) seen n (true ∷ bs) s told =
      let number : n + 0 + 1 ≡ length seen + 1 = omega (arith, s) in
      inl ((λ p. clash (cc ((told 0).complete (subst P (sym number) p)))), ap (λ k. none_closed e (position_from (λ b. b) k (true ∷ take (length rs) bs))) s)
  closed_first (r ∷ rs) seen n (false ∷ bs) s told =
      let number : n + 0 + 1 ≡ length seen + 1 = omega (arith, s) in
      inr (subst P number ((told 0).sound refl), closed_first rs (seen ++ r ∷ []) (n + 1) bs (next r seen n s) (λ j. subst (λ k. Decides (not (get_or bs j false)) (P k)) (shift n j) (told (suc j))))
