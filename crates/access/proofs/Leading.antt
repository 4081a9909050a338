-- A loop that checks one element after the other: the demands still to come lead to the answer of all.
use Rattle.std.proofs.Common.{◌≡◌, ℕ, zero, suc, ◌+◌, ◌<◌, ◌≤◌, List, [], ◌∷◌, ◌++◌, length, get_or, take, drop, Err, sym, refl, ap, ◌∙◌, subst, inl, inr, arith}
use mathlib.Core.List.{Memᴰ}
use Rattle.refusals.proofs.Deciding.{clash}
use Rattle.refusals.specs.Demands.{Lines, First, carried, lines}
use Rattle.refusals.specs.Walks.{Answer, pass}
use Rattle.std.proofs.lemmas.List.{take_more, drop_more, drop_all, length-take-le}
use Rattle.access.specs.Places.{here}
use Rattle.access.specs.Faults.{AccessFault}

passed_on : (n : ℕ) (xs ys : Lines AccessFault) (r : Answer AccessFault) → First xs pass → First ys r → First (carried (here n) xs ++ ys) r
passed_on n [] ys r h k = k
passed_on n (l ∷ xs) ys r (inl h) k = clash (cc h.1)
passed_on n (l ∷ xs) ys r (inr h) k = inr (h.0, passed_on n xs ys r h.1 k)

stopped_at : (n : ℕ) (xs ys : Lines AccessFault) (f : AccessFault) → First xs (Err f) → First (carried (here n) xs ++ ys) (Err f)
stopped_at n [] ys f h = clash (cc)
stopped_at n (l ∷ xs) ys f (inl h) = inl (h.0, h.1)
stopped_at n (l ∷ xs) ys f (inr h) = inr (h.0, stopped_at n xs ys f h.1)

-- what was lent of a list's element is one of its elements
pub in_place : {X : Type 0} (xs : List X) (i : ℕ) (x : X) → i < length xs → x ≡ get_or xs i x → Memᴰ x xs
in_place [] i x h e = absurd (omega arith)
in_place (y ∷ xs) zero x h e = Memᴰ.head e
in_place (y ∷ xs) (suc i) x h e = Memᴰ.tail (in_place xs i x (omega arith) e)

-- the place of an element, by those before it
pub place_of_next : {X : Type 0} (xs : List X) (i : ℕ) → i < length xs → i + 1 ≡ length (take i xs) + 1
place_of_next xs i h = ap (λ n. n + 1) (sym (length-take-le i xs (omega arith)))

module _ {X : Type 0} (each : List X → X → Lines AccessFault) (xs : List X) where
  abbrev pub Leads : ℕ → Type 0
  Leads i = (r : Answer AccessFault) → First (lines each here (take i xs) (drop i xs)) r → First (lines each here [] xs) r

  module _ (i : ℕ) (x : X) (within : i < length xs) (is : x ≡ get_or xs i x) (leads : Leads i) where
    turn : (r : Answer AccessFault) → First (carried (here (length (take i xs) + 1)) (each (take i xs) x) ++ lines each here (take i xs ++ x ∷ []) (drop (i + 1) xs)) r → First (lines each here [] xs) r
    turn r h = leads r (subst (λ ys. First (lines each here (take i xs) ys) r) (ap (λ y. y ∷ drop (i + 1) xs) is ∙ sym (drop_more xs i x within)) h)

    pub leads_more : First (each (take i xs) x) pass → Leads (i + 1)
    leads_more h r k =
        turn r (passed_on (length (take i xs) + 1) (each (take i xs) x) _ r h (subst (λ seen. First (lines each here seen (drop (i + 1) xs)) r) (take_more xs i x within ∙ ap (λ y. take i xs ++ y ∷ []) (sym is)) k))

    pub leads_stop : (f : AccessFault) → First (each (take i xs) x) (Err f) → First (lines each here [] xs) (Err f)
    leads_stop f h = turn (Err f) (stopped_at (length (take i xs) + 1) (each (take i xs) x) _ f h)

  pub leads_all : (i : ℕ) → length xs ≤ i → Leads i → First (lines each here [] xs) pass
  leads_all i past leads = leads pass (subst (λ ys. First (lines each here (take i xs) ys) pass) (sym (drop_all i xs past)) refl)
