use Rattle.std.proofs.Common.{◌≡◌, ℕ, ◌+◌, List, [], ◌∷◌, map, min, vec_len, ap, ◌∙◌, rules, arith}
use Rattle.std.specs.List.{fold, sum_by}
use Rattle.std.proofs.lemmas.List.Sums.{sum_by-cons}
use Rattle.theory.proofs.counts.rule_total.Goals as goal

-- numbers that are added up to a highest one: so far a is their sum s, or the highest
added_up : {X : Type 0} (f : X → ℕ) (top : ℕ) (xs : List X) (a s : ℕ) → a ≡ min s top → fold (λ n k. min (n + k) top) a (map f xs) ≡ min (s + sum_by f xs) top
added_up f top [] a s e = omega (arith, e)
added_up f top (x ∷ xs) a s e =
    let step : min (a + f x) top ≡ min (s + f x) top = omega (arith, e) in
    added_up f top xs (min (a + f x) top) (s + f x) step ∙ ap (λ n. min n top) (omega (arith, sum_by-cons f x xs))

pub returns : goal.returns
returns c =
    let folded : c.fold.result ≡ fold (λ n k. min (n + k) 18446744073709551615) 0 (map (λ R. vec_len R.rules) c.args.roles.now) = search rules in
    folded ∙ (added_up (λ R. vec_len R.rules) 18446744073709551615 c.args.roles.now 0 0 (omega arith) ∙ ap (λ n. min n 18446744073709551615) (omega arith))
