-- The equality that rows derive is `same_row`.
use Rattle.std.proofs.Common.{◌≡◌, ℕ, Bool, List, [], ◌∷◌, ◌+◌, cond, Some, refl, ap₂}
use Rattle.std.specs.List.{position_from}
use Rattle.earliest.specs.Places.{earliest}
use Rattle.terms.specs.Rows.{same_row}
use Rattle.terms.specs.contracts.row.RowPartialEq.TheImpl as derived
use Rattle.terms.specs.declared.row.Item.TheVariants as item
use Rattle.terms.specs.declared.row.Row.{Row}
use Rattle.terms.specs.declared.row.Row.TheVariants as row

pub derived_same : (a b : Row) → (derived.ghosts).eq a b ≡ same_row a b
derived_same (row.Item (item.Name m)) (row.Item (item.Name n)) = refl
derived_same (row.Item (item.Name m)) (row.Item (item.Variable w)) = refl
derived_same (row.Item (item.Variable v)) (row.Item (item.Name n)) = refl
derived_same (row.Item (item.Variable v)) (row.Item (item.Variable w)) = refl
derived_same (row.Item i) (row.Pair c d) = refl
derived_same (row.Item i) (row.Seal c d) = refl
derived_same (row.Item i) (row.Lock c d) = refl
derived_same (row.Pair a b) (row.Item j) = refl
derived_same (row.Pair a b) (row.Pair c d) = refl
derived_same (row.Pair a b) (row.Seal c d) = refl
derived_same (row.Pair a b) (row.Lock c d) = refl
derived_same (row.Seal a b) (row.Item j) = refl
derived_same (row.Seal a b) (row.Pair c d) = refl
derived_same (row.Seal a b) (row.Seal c d) = refl
derived_same (row.Seal a b) (row.Lock c d) = refl
derived_same (row.Lock a b) (row.Item j) = refl
derived_same (row.Lock a b) (row.Pair c d) = refl
derived_same (row.Lock a b) (row.Seal c d) = refl
derived_same (row.Lock a b) (row.Lock c d) = refl

-- a search by tests that say the same
same_place : (p q : Row → Bool) → ((y : Row) → p y ≡ q y) → (n : ℕ) (ys : List Row) → position_from p n ys ≡ position_from q n ys
same_place p q same n [] = refl
same_place p q same n (y ∷ ys) = ap₂ (λ b r. cond b (Some n) r) (same y) (same_place p q same (n + 1) ys)

pub derived_earliest : (r : Row) (rows : List Row) → earliest (derived.ghosts).eq r rows ≡ earliest same_row r rows
derived_earliest r rows = same_place _ _ (λ y. derived_same y r) 0 rows
