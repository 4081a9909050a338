-- Reading a list, word by word.
use Rattle.std.proofs.Common.{◌≡◌, ℕ, ◌+◌, ◌<◌, ◌≤◌, List, [], ◌∷◌, ◌++◌, length, get_or, drop, Some, None, Option, sym, refl, ap, ◌∙◌, append_assoc, Bor}
use Rattle.std.proofs.lemmas.List.{at_drop_more, at_drop_all, append-nil}
use Rattle.script.specs.Lists.{Word, both, all_of}
use Rattle.script.proofs.Matching.{told}

-- elements in front of those of a list, if it is one
abbrev pub joined : {X : Type 0} → List X → Option (List X) → Option (List X)
joined xs None = None
joined xs (Some ys) = Some (xs ++ ys)

abbrev cons : {X : Type 0} → X → List X → List X
cons x xs = x ∷ xs

joined_push : {X : Type 0} (xs : List X) (x : X) (o : Option (List X)) → joined (xs ++ x ∷ []) o ≡ joined xs (both cons (Some x) o)
joined_push xs x None = refl
joined_push xs x (Some ys) = ap Some (append_assoc xs (x ∷ []) ys)

module _ {X : Type 0} (reads : Word → Option X) (xs : List X) (ws : List (Bor Word)) (i : ℕ) where
  module _ (d : Bor Word) (within : i < length ws) where
    turn : all_of reads (told (drop i ws)) ≡ both cons (reads (get_or ws i d).now) (all_of reads (told (drop (i + 1) ws)))
    turn = at_drop_more (λ l. all_of reads (told l)) ws i d within

    pub list_more : (x : X) → Some x ≡ reads (get_or ws i d).now → joined (xs ++ x ∷ []) (all_of reads (told (drop (i + 1) ws))) ≡ joined xs (all_of reads (told (drop i ws)))
    list_more x e = joined_push xs x (all_of reads (told (drop (i + 1) ws))) ∙ ap (λ o. joined xs (both cons o (all_of reads (told (drop (i + 1) ws))))) e ∙ ap (joined xs) (sym turn)

    pub list_broken : None ≡ reads (get_or ws i d).now → None ≡ joined xs (all_of reads (told (drop i ws)))
    list_broken e = ap (λ o. joined xs (both cons o (all_of reads (told (drop (i + 1) ws))))) e ∙ ap (joined xs) (sym turn)

  pub list_all : length ws ≤ i → Some xs ≡ joined xs (all_of reads (told (drop i ws)))
  list_all past = ap Some (sym (append-nil xs)) ∙ ap (joined xs) (sym (at_drop_all (λ l. all_of reads (told l)) ws i past))
