-- One turn of a loop that works something out of each row, and puts it into an array.
use Rattle.std.proofs.Common.{◌≡◌, ℕ, ◌+◌, ◌<◌, ◌≤◌, List, [], ◌∷◌, ◌++◌, length, get_or, take, drop, set, sym, ◌∙◌}
use Rattle.std.proofs.lemmas.List.{at_drop_more, at_drop_all, take_more, take_more_set}
use Rattle.terms.specs.Filling.{fill}
use Rattle.terms.specs.declared.row.Row.{Row}

module _ {A : Type 0} (f : List Row → List A → Row → A) (rows : List Row) (got : List A) (i : ℕ) where
  -- `seen` and `had` are what the code lent of the rows and of what was got
  pub fill_more : (all : List A) (seen : List Row) (had : List A) (d : Row) (x : A) → i < length rows → i < length got → seen ≡ take i rows → had ≡ take i got → fill f (take i rows) (take i got) (drop i rows) ≡ all → x ≡ f seen had (get_or rows i d) → fill f (take (i + 1) rows) (take (i + 1) (set got i x)) (drop (i + 1) rows) ≡ all
  fill_more all seen had d x within room lent lent' inv e =
      let rows_more = take_more rows i d within in
      let got_more = take_more_set got i x room in
      let is : x ≡ f (take i rows) (take i got) (get_or rows i d) = rw (lent, lent') at e in
      let turned : fill f (take i rows ++ get_or rows i d ∷ []) (take i got ++ f (take i rows) (take i got) (get_or rows i d) ∷ []) (drop (i + 1) rows) ≡ all = sym (at_drop_more (fill f (take i rows) (take i got)) rows i d within) ∙ inv in
      rw (rows_more, got_more) (rw (sym is) at turned)

  pub fill_none : (all : List A) → length rows ≤ i → fill f (take i rows) (take i got) (drop i rows) ≡ all → take i got ≡ all
  fill_none all past inv = sym (at_drop_all (fill f (take i rows) (take i got)) rows i past) ∙ inv
