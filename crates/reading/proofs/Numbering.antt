-- A number's element, told with and without a word for none.
use Rattle.std.proofs.Common.{◌≡◌, ℕ, ◌-◌, Bool, true, false, cond, eqb, List, Some, None, Option, MatchOption, unwrap_or, slice_index_or, sym, refl, ap, ◌∙◌}
use Rattle.std.proofs.lemmas.Option.{unwrap_or-slice_get}
use Rattle.std.specs.List.{slice_get}
use Rattle.terms.specs.Numbered.{numbered, at}

-- the element of which the number is told, if it is
pub at_numbered : {A : Type 0} (d : A) (xs : List A) (k : ℕ) (o : Option A) → o ≡ numbered xs k → unwrap_or o d ≡ at d xs k
at_numbered d xs k o e = ap (λ x. unwrap_or x d) e ∙ go (eqb k 0)
  where
    go : (b : Bool) → unwrap_or (cond b None (slice_get xs (k - 1))) d ≡ cond b d (slice_index_or xs (k - 1) d)
    go true = refl
    go false = unwrap_or-slice_get xs (k - 1) d

-- what is asked of the value, if there is one, is asked of the value or else of one that it is false of
pub asked : {A : Type 0} {P : A → Type 0} (f : A → Bool) (d : A) (o : Option A) (b : Bool) → f d ≡ false → MatchOption o (b ≡ false) P → ((x : A) → P x → b ≡ f x) → b ≡ f (unwrap_or o d)
asked f d None b n m s = m ∙ sym n
asked f d (Some x) b n m s = s x m
