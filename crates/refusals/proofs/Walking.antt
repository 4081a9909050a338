-- One turn of a loop that walks through a list.
use Rattle.std.proofs.Common.{◌≡◌, ℕ, ◌+◌, ◌<◌, ◌≤◌, Bool, true, false, List, length, get_or, take, drop, Ok, Err, sym, ap, ◌∙◌, arith}
use Rattle.std.proofs.lemmas.List.{at_drop_more, at_drop_all, take_more, length-take-le}
use Rattle.refusals.specs.Walks.{Answer, pass, demand, and_then, walk}

module _ {X F G : Type 0} (check : List X → X → Answer F) (place : ℕ → F → G) (xs : List X) (i : ℕ) where
  turn : (d : X) → i < length xs → (a : Answer F) → check (take i xs) (get_or xs i d) ≡ a → walk check place (take i xs) (drop i xs) ≡ and_then (place (i + 1)) a (walk check place (take (i + 1) xs) (drop (i + 1) xs))
  turn d within a e =
      let long : length (take i xs) ≡ i = length-take-le i xs (omega arith) in
      let more = take_more xs i d within in
      at_drop_more (walk check place (take i xs)) xs i d within ∙ simp (long, e, more)

  -- `seen` is what the code lent as the elements before, and r what the check of the element answered
  module _ (r : Answer G) (seen : List X) (d : X) (within : i < length xs) (lent : seen ≡ take i xs) (inv : walk check place (take i xs) (drop i xs) ≡ r) where
    pub walk_here : (f : F) → Err f ≡ check seen (get_or xs i d) → Err (place (i + 1) f) ≡ r
    walk_here f e = sym (turn d within (Err f) (rw lent at (sym e))) ∙ inv

    pub walk_later : (u : Unit {0}) → Ok u ≡ check seen (get_or xs i d) → walk check place (take (i + 1) xs) (drop (i + 1) xs) ≡ r
    walk_later u e = sym (turn d within (Ok u) (rw lent at (sym e))) ∙ inv

  -- the same where the element owns memory: x is what was lent of it
  module _ (r : Answer G) (seen : List X) (x : X) (within : i < length xs) (lent : seen ≡ take i xs) (read : x ≡ get_or xs i x) (inv : walk check place (take i xs) (drop i xs) ≡ r) where
    pub walk_here_own : (f : F) → Err f ≡ check seen x → Err (place (i + 1) f) ≡ r
    walk_here_own f e = walk_here r seen x within lent inv f (e ∙ ap (check seen) read)

    pub walk_later_own : (u : Unit {0}) → Ok u ≡ check seen x → walk check place (take (i + 1) xs) (drop (i + 1) xs) ≡ r
    walk_later_own u e = walk_later r seen x within lent inv u (e ∙ ap (check seen) read)

  pub walk_none : length xs ≤ i → walk check place (take i xs) (drop i xs) ≡ Ok (tt {0})
  walk_none past = at_drop_all (walk check place (take i xs)) xs i past

-- a check of one line, by the answer of its test
pub demand_fails : {F : Type 0} (f : F) {b : Bool} → false ≡ b → Err f ≡ demand b f pass
demand_fails f e = ap (λ b. demand b f pass) e

pub demand_holds : {F : Type 0} (f : F) {b : Bool} → true ≡ b → pass ≡ demand b f pass
demand_holds f e = ap (λ b. demand b f pass) e
