-- The elements of a list, by their places.
use Rattle.std.proofs.Common.{◌≡◌, ℕ, zero, suc, List, [], ◌∷◌, Some, sym, ap}
use mathlib.Core.List.Memᴰ
use Rattle.judgments.specs.Contexts.{◌∈◌}
use Rattle.refusals.proofs.Deciding.{clash}
use Rattle.std.specs.List.{slice_get}

pub nth_in : {A : Type 0} (xs : List A) (x : A) → x ∈ xs → (k : ℕ) × (slice_get xs k ≡ Some x)
nth_in [] x m = elim m [ ]
nth_in (y ∷ xs) x (Memᴰ.head e) = (0, ap Some (sym e))
nth_in (y ∷ xs) x (Memᴰ.tail m) = let rest = nth_in xs x m in (suc rest.0, rest.1)

pub in_nth : {A : Type 0} (xs : List A) (x : A) (k : ℕ) → slice_get xs k ≡ Some x → x ∈ xs
in_nth [] x k e = clash (cc)
in_nth (y ∷ xs) x zero e = let same : x ≡ y = cc in Memᴰ.head same
in_nth (y ∷ xs) x (suc k) e = Memᴰ.tail (in_nth xs x k e)
