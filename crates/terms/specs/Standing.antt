-- The term that a row stands for.
use Rattle.std.specs.Prelude.{◌≡◌, ℕ, true, List, length, Some}
use Rattle.terms.specs.Rows.{is_row, row_at}
use Rattle.terms.specs.Terms.{Term, item, pair, seal, lock}
use Rattle.terms.specs.declared.row.Item.{Item}
use Rattle.terms.specs.declared.row.Row.{Row}
use Rattle.terms.specs.declared.row.Row.TheVariants as row

-- The row with the number k stands for the term.
pub data Stands (rows : List Row) : ℕ → Term → Type 0 where
  an_item : {k : ℕ} {i : Item} → row_at rows k ≡ Some (row.Item i) → Stands rows k (item i)
  a_pair : {k a b : ℕ} {s t : Term} → row_at rows k ≡ Some (row.Pair a b) → Stands rows a s → Stands rows b t → Stands rows k (pair s t)
  a_seal : {k c j : ℕ} {t : Term} {i : Item} → row_at rows k ≡ Some (row.Seal c j) → Stands rows c t → Stands rows j (item i) → Stands rows k (seal t i)
  a_lock : {k c j : ℕ} {t : Term} {i : Item} → row_at rows k ≡ Some (row.Lock c j) → Stands rows c t → Stands rows j (item i) → Stands rows k (lock t i)

-- Each row stands for exactly one term, and no two rows for the same.
pub record Exact (rows : List Row) : Type 0 where
  pub some_term : (k : ℕ) → is_row (length rows) k ≡ true → (t : Term) × Stands rows k t
  pub one_term : (k : ℕ) (s t : Term) → Stands rows k s → Stands rows k t → s ≡ t
  pub one_row : (j k : ℕ) (t : Term) → Stands rows j t → Stands rows k t → j ≡ k
