use Rattle.std.proofs.Common.{◌≡◌, List, ℕ, true, reverse, sym, subst, ap, ◌∙◌, arith}
use Rattle.std.proofs.lemmas.List.{reverse-reverse}
use Rattle.names.specs.Reading.{fit_once}
use Rattle.names.specs.Rolls.{once_each}
use Rattle.names.proofs.roll.Roll.load.Goals as goal

pub invariant_of-self-clause-once : goal.invariant_of-self-clause-once
invariant_of-self-clause-once c =
    let once = fit_once c.args.numbers.now (λ i. omega (arith, c.type_inv.numbers i)) (sym c.in_default.ensures.value) in
    let whole = ap reverse c.reverse.ensures.items ∙ reverse-reverse _ ∙ c.refill.ensures.items in
    subst (λ (xs : List ℕ). once_each xs ≡ true) (sym whole) once
