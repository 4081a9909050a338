-- What a book says of the row with a number: its parts are earlier, its key is an item, and no other row equals it.
use Rattle.std.proofs.Common.{◌≡◌, ℕ, ◌-◌, ◌<◌, ◌≤◌, Bool, true, false, not, ◌&&◌, List, [], length, get_or, take, is_some, is_ok, Some, None, Option, sym, refl, ◌∙◌, subst, ⊎_elim, arith}
use Rattle.std.specs.List.{slice_get}
use Rattle.std.proofs.lemmas.List.{length-take-le}
use Rattle.std.proofs.lemmas.Bool.{and_parts, not-true, cases_order}
use Rattle.earliest.specs.Places.{earliest}
use Rattle.earliest.proofs.Firsts.{earliest_first}
use Rattle.refusals.specs.Tables.{decided}
use Rattle.terms.specs.Rows.{same_row, is_row, row_at}
use Rattle.terms.specs.Books.{in_range, parts_there, key_is_item, is_item, unfit, is_there, may_follow, is_book}
use Rattle.terms.specs.declared.row.Item.{Item}
use Rattle.terms.specs.declared.row.Row.{Row}
use Rattle.terms.specs.declared.row.Row.TheVariants as row
use Rattle.terms.proofs.Following.{follows_at}
use Rattle.terms.proofs.Numbered.{clash, row_from_one, row_within, row_there, row_take, is_row_from, nth_take, same_itself}

-- the three conditions on a row that may stand after others
pub record Fits (rows : List Row) (r : Row) : Type 0 where
  pub ranges : in_range r ≡ true
  pub parts : parts_there (length rows) r ≡ true
  pub key : key_is_item rows r ≡ true

fits_from : (rows : List Row) (r : Row) → is_ok (decided (unfit rows r) (tt {0})) ≡ true → Fits rows r
fits_from rows r e = by (in_range r) (parts_there (length rows) r) (key_is_item rows r) refl refl refl
  where
    by : (a b c : Bool) → in_range r ≡ a → parts_there (length rows) r ≡ b → key_is_item rows r ≡ c → Fits rows r
    by true true true p q s = record { ranges = p; parts = q; key = s }
    by false b c p q s = let z : false ≡ true = simp p at e in clash (cc)
    by true false c p q s = let z : false ≡ true = simp (p, q) at e in clash (cc)
    by true true false p q s = let z : false ≡ true = simp (p, q, s) at e in clash (cc)

item_from : (o : Option Row) → is_item o ≡ true → (i : Item) × (o ≡ Some (row.Item i))
item_from None e = clash (cc)
item_from (Some (row.Item i)) e = (i, refl)
item_from (Some (row.Pair a b)) e = clash (cc)
item_from (Some (row.Seal c k)) e = clash (cc)
item_from (Some (row.Lock c k)) e = clash (cc)

-- a number of an earlier row
abbrev pub Earlier : ℕ → ℕ → Type 0
Earlier k j = (0 < j) × (j < k)

-- parts and key of the row with the number k are earlier rows, and the key is an item
abbrev pub EarlierParts : List Row → ℕ → Row → Type 0
EarlierParts rows k (row.Item i) = Unit {0}
EarlierParts rows k (row.Pair a b) = Earlier k a × Earlier k b
EarlierParts rows k (row.Seal c j) = Earlier k c × Earlier k j × ((i : Item) × (row_at rows j ≡ Some (row.Item i)))
EarlierParts rows k (row.Lock c j) = Earlier k c × Earlier k j × ((i : Item) × (row_at rows j ≡ Some (row.Item i)))

module _ (rows : List Row) (book : is_book rows ≡ true) where
  -- the row with a number may follow those before it
  pub follows : (k : ℕ) (r : Row) → row_at rows k ≡ Some r → may_follow (take (k - 1) rows) r ≡ true
  follows k r e =
      let w = row_within rows k r e in
      let there = row_there rows k r w.0 w.1 in
      let is : get_or rows (k - 1) r ≡ r = cc in
      subst (λ q. may_follow (take (k - 1) rows) q ≡ true) is (follows_at [] rows (k - 1) r (omega arith) book)

  pub fits : (k : ℕ) (r : Row) → row_at rows k ≡ Some r → Fits (take (k - 1) rows) r
  fits k r e = fits_from (take (k - 1) rows) r (and_parts _ (not (is_there (take (k - 1) rows) r)) (follows k r e)).0

  module _ (k : ℕ) (low : 0 < k) (within : k ≤ length rows) where
    long : length (take (k - 1) rows) ≡ k - 1
    long = length-take-le (k - 1) rows (omega arith)

    one : (j : ℕ) → is_row (length (take (k - 1) rows)) j ≡ true → Earlier k j
    one j e = let p = is_row_from (length (take (k - 1) rows)) j e in (p.0, omega (arith, p.1, long))

    two : (a b : ℕ) → is_row (length (take (k - 1) rows)) a && is_row (length (take (k - 1) rows)) b ≡ true → Earlier k a × Earlier k b
    two a b e = let p = and_parts (is_row (length (take (k - 1) rows)) a) (is_row (length (take (k - 1) rows)) b) e in (one a p.0, one b p.1)

    key_item : (j : ℕ) → Earlier k j → is_item (row_at (take (k - 1) rows) j) ≡ true → (i : Item) × (row_at rows j ≡ Some (row.Item i))
    key_item j w e = let found = item_from (row_at (take (k - 1) rows) j) e in (found.0, sym (row_take rows (k - 1) j (omega arith)) ∙ found.1)

    earlier_parts : (r : Row) → Fits (take (k - 1) rows) r → EarlierParts rows k r
    earlier_parts (row.Item i) f = tt
    earlier_parts (row.Pair a b) f = two a b f.parts
    earlier_parts (row.Seal c j) f = let p = two c j f.parts in (p.0, p.1, key_item j p.1 f.key)
    earlier_parts (row.Lock c j) f = let p = two c j f.parts in (p.0, p.1, key_item j p.1 f.key)

  pub earlier : (k : ℕ) (r : Row) → row_at rows k ≡ Some r → EarlierParts rows k r
  earlier k r e = let w = row_within rows k r e in earlier_parts k w.0 w.1 r (fits k r e)

  -- no row equals a later one
  not_again : (j k : ℕ) (r : Row) → row_at rows j ≡ Some r → row_at rows k ≡ Some r → j < k → ⊥
  not_again j k r p q low =
      let new = not-true (is_there (take (k - 1) rows) r) (and_parts _ (not (is_there (take (k - 1) rows) r)) (follows k r q)).1 in
      let w = row_within rows j r p in
      let at : slice_get (take (k - 1) rows) (j - 1) ≡ Some r = nth_take rows (k - 1) (j - 1) (omega arith) ∙ sym (row_from_one rows j w.0) ∙ p in
      go (earliest same_row r (take (k - 1) rows)) refl new at
    where
      go : (o : Option ℕ) → earliest same_row r (take (k - 1) rows) ≡ o → is_some (earliest same_row r (take (k - 1) rows)) ≡ false → slice_get (take (k - 1) rows) (j - 1) ≡ Some r → ⊥
      go (Some i) e new at = let z : true ≡ false = simp e at new in clash (cc)
      go None e new at = let differs = earliest_first same_row r (take (k - 1) rows) None (sym e) (j - 1) r at in let itself = same_itself r in clash (cc)

  -- rows that are equal are one row
  pub apart : (j k : ℕ) (r : Row) → row_at rows j ≡ Some r → row_at rows k ≡ Some r → j ≡ k
  apart j k r p q =
      ⊎_elim
      (λ e. e)
      (⊎_elim (λ low. absurd (not_again j k r p q low)) (λ low. absurd (not_again k j r q p low)))
      (cases_order j k)
