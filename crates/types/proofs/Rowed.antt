-- The marks on rows, and the test of a row's type, decide what the terms of the rows have.
use Rattle.std.proofs.Common.{◌≡◌, ℕ, ◌+◌, ◌-◌, ◌<◌, ◌≤◌, Bool, true, false, cond, eqb, ◌⊎◌, List, [], ◌∷◌, ◌++◌, map, length, get_or, Some, None, Option, sym, refl, ap, ◌∙◌, ap₂, inl, inr, ⊎_elim, append_assoc, append-nil, arith}
use Rattle.std.specs.List.{slice_get}
use Rattle.std.proofs.lemmas.Bool.{cases_Bool, cases_lt, or_cases, or_left, or_right, eqb-true, eqb-false}
use Rattle.std.proofs.lemmas.List.{get_or_push, get_or_append_left, get_or_past, length_push}
use Rattle.std.proofs.lemmas.Option.{slice_get_past}
use Rattle.judgments.specs.Contexts.{◌∶◌, Context, ◌∈◌, msg}
use Rattle.terms.specs.Terms.{Term, item, pair, seal, lock}
use Rattle.layouts.specs.Meanings.{Meaning}
use Rattle.judgments.specs.Typing.{Formed, Key, Has, declared, sent, pairs, seals, locks}
use Rattle.judgments.proofs.Contexts.{not_zero, regular}
use Rattle.types.specs.Scopes.{Declarations, scope_type}
use Rattle.types.specs.Types.{items}
use Rattle.theory.specs.Owners.{item_of}
use Rattle.types.specs.Judged.{type_of, context_of}
use Rattle.types.specs.Rows.{at, row_at, fill, nothing, term_of, terms, term_at}
use Rattle.types.specs.Messages.{none, is_msg, sends, is_sealing, is_locking, declared_row, key_type, mark_of, marks, same_plain, same_items, same_type, is_type, has_type}
use Rattle.refusals.specs.Decides.{Decides}
use Rattle.types.proofs.Places.{nth_left, nth_right}
use Rattle.refusals.proofs.Deciding.{decides_and, decides_same, decides_as, decides_never, decides_always}
use Rattle.types.proofs.Found.{found_declared}
use Rattle.types.proofs.Signatures.{found_is}
use Rattle.terms.specs.declared.row.Item.{Item}
use Rattle.theory.specs.Data.{Ty}
use Rattle.theory.specs.declared.owner.Owner.{Owner}
use Rattle.terms.specs.declared.row.Row.{Row}
use Rattle.judgments.specs.Substitutions.{the_item}
use Rattle.terms.specs.declared.row.Item.TheVariants.{Name, Variable}
use Rattle.layouts.specs.declared.layout.Kind.{Kind}
use Rattle.layouts.specs.declared.layout.Kind.TheVariants.{Plain, Sealing, Locking}
use Rattle.judgments.specs.Contexts as judge
use Rattle.types.specs.Messages as test
use Rattle.terms.specs.declared.row.Row.TheVariants as row

pub at_zero : {A : Type 0} (d : A) (xs : List A) (k : ℕ) → eqb k 0 ≡ true → at d xs k ≡ d
at_zero d xs k t = rw t refl

pub at_later : {A : Type 0} (d : A) (xs : List A) (k : ℕ) → eqb k 0 ≡ false → at d xs k ≡ get_or xs (k - 1) d
at_later d xs k f = rw f refl

row_at_zero : (xs : List Row) (k : ℕ) → eqb k 0 ≡ true → row_at xs k ≡ None
row_at_zero xs k t = rw t refl

row_at_later : (xs : List Row) (k : ℕ) → eqb k 0 ≡ false → row_at xs k ≡ slice_get xs (k - 1)
row_at_later xs k f = rw f refl

-- by the number of a new element
pub at_push : {A : Type 0} (d : A) (xs : List A) (x : A) (k : ℕ) → at d (xs ++ x ∷ []) k ≡ cond (eqb k (length xs + 1)) x (at d xs k)
at_push d xs x k = ⊎_elim last before (cases_Bool (eqb k (length xs + 1)))
  where
    last : eqb k (length xs + 1) ≡ true → at d (xs ++ x ∷ []) k ≡ cond (eqb k (length xs + 1)) x (at d xs k)
    last t =
        let same = eqb-true k (length xs + 1) t in
        let place : length xs ≡ k - 1 = omega arith in
        let more : eqb k 0 ≡ false = grind (arith, same) in
        rw t (at_later d (xs ++ x ∷ []) k more ∙ get_or_push xs x d (k - 1) place)

    within : eqb k 0 ≡ false → (k ≡ length xs + 1 → ⊥) → get_or (xs ++ x ∷ []) (k - 1) d ≡ get_or xs (k - 1) d
    within f ne = ⊎_elim
        (λ (lt : k - 1 < length xs). get_or_append_left xs (x ∷ []) d (k - 1) lt)
        (λ (ge : length xs ≤ k - 1).
        let differs = eqb-false k 0 f in
        let long = length_push xs x in
        let past : length (xs ++ x ∷ []) ≤ k - 1 = omega (arith, ne) in
        get_or_past (xs ++ x ∷ []) (k - 1) d past ∙ sym (get_or_past xs (k - 1) d ge))
        (cases_lt (k - 1) (length xs))

    before : eqb k (length xs + 1) ≡ false → at d (xs ++ x ∷ []) k ≡ cond (eqb k (length xs + 1)) x (at d xs k)
    before f = ⊎_elim
        (λ t. rw f (at_zero d (xs ++ x ∷ []) k t ∙ sym (at_zero d xs k t)))
        (λ g. rw f (at_later d (xs ++ x ∷ []) k g ∙ (within g (eqb-false k (length xs + 1) f) ∙ sym (at_later d xs k g))))
        (cases_Bool (eqb k 0))

pub row_at_push : (xs : List Row) (x : Row) (k : ℕ) → row_at (xs ++ x ∷ []) k ≡ cond (eqb k (length xs + 1)) (Some x) (row_at xs k)
row_at_push xs x k = ⊎_elim last before (cases_Bool (eqb k (length xs + 1)))
  where
    last : eqb k (length xs + 1) ≡ true → row_at (xs ++ x ∷ []) k ≡ cond (eqb k (length xs + 1)) (Some x) (row_at xs k)
    last t =
        let same = eqb-true k (length xs + 1) t in
        let place : k - 1 ≡ length xs + 0 = omega arith in
        let more : eqb k 0 ≡ false = grind (arith, same) in
        rw t (row_at_later (xs ++ x ∷ []) k more ∙ nth_right xs (x ∷ []) 0 (k - 1) place)

    within : eqb k 0 ≡ false → (k ≡ length xs + 1 → ⊥) → slice_get (xs ++ x ∷ []) (k - 1) ≡ slice_get xs (k - 1)
    within f ne = ⊎_elim
        (λ (lt : k - 1 < length xs). nth_left xs (x ∷ []) (k - 1) lt)
        (λ (ge : length xs ≤ k - 1).
        let differs = eqb-false k 0 f in
        let long = length_push xs x in
        let past : length (xs ++ x ∷ []) ≤ k - 1 = omega (arith, ne) in
        slice_get_past (xs ++ x ∷ []) (k - 1) past ∙ sym (slice_get_past xs (k - 1) ge))
        (cases_lt (k - 1) (length xs))

    before : eqb k (length xs + 1) ≡ false → row_at (xs ++ x ∷ []) k ≡ cond (eqb k (length xs + 1)) (Some x) (row_at xs k)
    before f = ⊎_elim
        (λ t. rw f (row_at_zero (xs ++ x ∷ []) k t ∙ sym (row_at_zero xs k t)))
        (λ g. rw f (row_at_later (xs ++ x ∷ []) k g ∙ (within g (eqb-false k (length xs + 1) f) ∙ sym (row_at_later xs k g))))
        (cases_Bool (eqb k 0))

pub same_plain_decides : (i j : Item) → Decides (same_plain i j) (i ≡ j)
same_plain_decides (Name m) (Name n) = decides_as (λ e. ap Name e) (λ e. cc) (decides_same m n)
same_plain_decides (Name m) (Variable w) = decides_never (λ e. not_zero (cc))
same_plain_decides (Variable v) (Name n) = decides_never (λ e. not_zero (cc))
same_plain_decides (Variable v) (Variable w) = decides_as (λ e. ap Variable e) (λ e. cc) (decides_same v w)

module _ (o : Owner) where
  pub same_items_decides : (ps qs : List Item) → Decides (same_items o ps qs) (map (item_of o) ps ≡ map (item_of o) qs)
  same_items_decides [] [] = decides_always refl
  same_items_decides [] (q ∷ qs) = decides_never (λ e. not_zero (cc))
  same_items_decides (p ∷ ps) [] = decides_never (λ e. not_zero (cc))
  same_items_decides (p ∷ ps) (q ∷ qs) =
      decides_as (λ h. ap₂ (λ x xs. x ∷ xs) h.0 h.1) (λ e. (cc, cc)) (decides_and (same_plain_decides (item_of o p) (item_of o q)) (same_items_decides ps qs))

  pub same_type_decides : (T U : Ty) → Decides (same_type o T U) (type_of o T ≡ type_of o U)
  same_type_decides T U =
      decides_as (λ h. ap₂ judge.ty h.0 h.1) (λ e. (cc, cc)) (decides_and (decides_same T.family U.family) (same_items_decides (items T.params) (items U.params)))

  none_decides : (ps : List Item) → Decides (none ps) (map (item_of o) ps ≡ [])
  none_decides [] = decides_always refl
  none_decides (p ∷ ps) = decides_never (λ e. not_zero (cc))

  pub is_msg_decides : (T : Ty) → Decides (is_msg T) (type_of o T ≡ msg)
  is_msg_decides T =
      decides_as (λ h. ap₂ judge.ty h.0 h.1) (λ e. (cc, cc)) (decides_and (decides_same T.family 0) (none_decides (items T.params)))

  -- which term stands for a row, as far as its shape goes
  pub data Stand : Option Row → Term → Type 0 where
    no_row : Stand None nothing
    item_row : {i : Item} → Stand (Some (row.Item i)) (item (item_of o i))
    pair_row : {a b : ℕ} {s t : Term} → Stand (Some (row.Pair a b)) (pair s t)
    seal_row : {c k : ℕ} {t : Term} {i : Item} → Stand (Some (row.Seal c k)) (seal t i)
    lock_row : {c k : ℕ} {t : Term} {i : Item} → Stand (Some (row.Lock c k)) (lock t i)

-- Flags worked out row by row decide a property of the rows' terms, if each does so after those before it.
module _ (o : Owner) (P : Term → Type 0) where
  -- the rows so far, their terms and their flags
  pub record Level (seen : List Row) (ts : List Term) (bs : List Bool) : Type 0 where
    pub long_ts : length ts ≡ length seen
    pub long_bs : length bs ≡ length seen
    pub stand : (k : ℕ) → Stand o (row_at seen k) (at nothing ts k)
    pub decided : (k : ℕ) → Decides (at false bs k) (P (at nothing ts k))

  module _ (nobody : P nothing → ⊥) (flag : List Row → List Bool → Row → Bool)
      (flagged : (seen : List Row) (ts : List Term) (bs : List Bool) → Level seen ts bs → (r : Row) → Decides (flag seen bs r) (P (term_of o seen ts r))) where
    level_none : Level [] [] []
    level_none = record {
      long_ts = refl;
      long_bs = refl;
      stand = λ k. ⊎_elim
          (λ t. rw (row_at_zero [] k t, at_zero nothing [] k t) no_row)
          (λ f. rw (row_at_later [] k f, at_later nothing [] k f) no_row)
          (cases_Bool (eqb k 0));
      decided = λ k. ⊎_elim
          (λ t. rw (at_zero false [] k t, at_zero nothing [] k t) (decides_never nobody))
          (λ f. rw (at_later false [] k f, at_later nothing [] k f) (decides_never nobody))
          (cases_Bool (eqb k 0));
    }

    row_stands : (seen : List Row) (ts : List Term) (r : Row) → Stand o (Some r) (term_of o seen ts r)
    row_stands seen ts (row.Item i) = item_row
    row_stands seen ts (row.Pair a b) = pair_row
    row_stands seen ts (row.Seal c k) = seal_row
    row_stands seen ts (row.Lock c k) = lock_row

    level_more : (seen : List Row) (ts : List Term) (bs : List Bool) (level : Level seen ts bs) (r : Row) → Level (seen ++ r ∷ []) (ts ++ term_of o seen ts r ∷ []) (bs ++ flag seen bs r ∷ [])
    level_more seen ts bs level r = record {
      long_ts = length_push ts t ∙ (ap (λ n. n + 1) level.long_ts ∙ sym (length_push seen r));
      long_bs = length_push bs b ∙ (ap (λ n. n + 1) level.long_bs ∙ sym (length_push seen r));
      stand = λ k. rw (row_at_push seen r k, at_push nothing ts t k, level.long_ts) (by_place (eqb k (length seen + 1)) k);
      decided = λ k. rw (at_push nothing ts t k, at_push false bs b k, level.long_ts, level.long_bs) (by_number (eqb k (length seen + 1)) k);
    }
      where
        t : Term
        t = term_of o seen ts r

        b : Bool
        b = flag seen bs r

        by_place : (c : Bool) (k : ℕ) → Stand o (cond c (Some r) (row_at seen k)) (cond c (term_of o seen ts r) (at nothing ts k))
        by_place true k = row_stands seen ts r
        by_place false k = level.stand k

        by_number : (c : Bool) (k : ℕ) → Decides (cond c (flag seen bs r) (at false bs k)) (P (cond c (term_of o seen ts r) (at nothing ts k)))
        by_number true k = flagged seen ts bs level r
        by_number false k = level.decided k

    level_all : (rows seen : List Row) (ts : List Term) (bs : List Bool) → Level seen ts bs → Level (seen ++ rows) (fill (term_of o) seen ts rows) (fill flag seen bs rows)
    level_all [] seen ts bs l = rw append-nil l
    level_all (r ∷ rows) seen ts bs l = rw append_assoc at (level_all rows (seen ++ r ∷ []) _ _ (level_more seen ts bs l r))

    pub level : (rows : List Row) → Level rows (terms o rows) (fill flag [] [] rows)
    level rows = level_all rows [] [] [] level_none

module _ (lay : Meaning) (s : Declarations) (formed : Formed lay (context_of s)) where
  abbrev Γ : Context
  Γ = context_of s

  abbrev H : Term → judge.Ty → Type 0
  H = Has lay Γ

  pub never_zero : (T : judge.Ty) → Name 0 ∶ T ∈ Γ → ⊥
  never_zero T m = let range = (regular lay Γ formed).in_range m in omega arith

  -- what has a type, by its shape
  pub item_typed : (j : Item) (U : judge.Ty) → H (item j) U → (j ∶ U ∈ Γ) ⊎ (((F : ℕ) × (ps : List Item) × (j ∶ judge.ty F ps ∈ Γ) × (lay.sendable F ≡ true)) × (U ≡ msg))
  item_typed j U (declared m) = inl m
  item_typed j U (sent {F = F} {ps = ps} m e) = inr ((F, ps, m, e), refl)

  pair_typed : (a b : Term) (U : judge.Ty) → H (pair a b) U → H a msg × H b msg × (U ≡ msg)
  pair_typed a b U (pairs x y) = (x, y, refl)

  seal_typed : (c : Term) (k : Item) (U : judge.Ty) → H (seal c k) U → H c msg × Key lay Γ k Sealing × (U ≡ msg)
  seal_typed c k U (seals x y) = (x, y, refl)

  lock_typed : (c : Term) (k : Item) (U : judge.Ty) → H (lock c k) U → H c msg × ((G : ℕ) × Key lay Γ k (Locking G)) × (U ≡ msg)
  lock_typed c k U (locks {G = G} x y) = (x, (G, y), refl)

  -- the item's declared type passes the test
  module _ (i : Item) (test : Option Ty → Bool) (P : Type 0) (nobody : test None ≡ false)
      (sound : (T : Ty) → item_of s.owner i ∶ type_of s.owner T ∈ Γ → test (Some T) ≡ true → P)
      (complete : P → (U : judge.Ty) × (item_of s.owner i ∶ U ∈ Γ) × ((T : Ty) → type_of s.owner T ≡ U → test (Some T) ≡ true)) where
    pub found_decides : Decides (test (scope_type s i)) P
    found_decides = record { sound = there (scope_type s i) refl; complete = λ p. whole (complete p) }
      where
        there : (x : Option Ty) → scope_type s i ≡ x → test x ≡ true → P
        there None e t = not_zero (cc (nobody, t))
        there (Some T) e t = sound T (found_declared s.names s.owner s.variables i T e) t

        whole : (U : judge.Ty) × (item_of s.owner i ∶ U ∈ Γ) × ((T : Ty) → type_of s.owner T ≡ U → test (Some T) ≡ true) → test (scope_type s i) ≡ true
        whole h = let f = found_is lay s formed i h.0 h.1 in rw f.1 (h.2 f.0 f.2)

  sends_decides : (i : Item) → Decides (sends lay (scope_type s i)) (H (item (item_of s.owner i)) msg)
  sends_decides i = found_decides i (sends lay) _ refl sound complete
    where
      sound : (T : Ty) → item_of s.owner i ∶ type_of s.owner T ∈ Γ → sends lay (Some T) ≡ true → H (item (item_of s.owner i)) msg
      sound T m t = ⊎_elim
          (λ e. declared (rw ((is_msg_decides s.owner T).sound e) at m))
          (λ e. sent m e)
          (or_cases (is_msg T) (lay.sendable T.family) t)

      complete : H (item (item_of s.owner i)) msg → (U : judge.Ty) × (item_of s.owner i ∶ U ∈ Γ) × ((T : Ty) → type_of s.owner T ≡ U → sends lay (Some T) ≡ true)
      complete h = ⊎_elim
          (λ m. (msg, m, λ T e. or_left (is_msg T) (lay.sendable T.family) ((is_msg_decides s.owner T).complete e)))
          (λ w. (judge.ty w.0.0 w.0.1, w.0.2, λ T e. let same : T.family ≡ w.0.0 = cc in or_right (is_msg T) (lay.sendable T.family) (rw same w.0.3)))
          (item_typed _ msg h)

  is_sealing_decides : (κ : Kind) → Decides (is_sealing κ) (κ ≡ Sealing)
  is_sealing_decides Plain = decides_never (λ e. not_zero (cc))
  is_sealing_decides Sealing = decides_always refl
  is_sealing_decides (Locking G) = decides_never (λ e. not_zero (cc))

  is_locking_decides : (κ : Kind) → Decides (is_locking κ) ((G : ℕ) × (κ ≡ Locking G))
  is_locking_decides Plain = decides_never (λ e. let no_way = e.1 in not_zero (cc))
  is_locking_decides Sealing = decides_never (λ e. let no_way = e.1 in not_zero (cc))
  is_locking_decides (Locking G) = decides_always (G, refl)

  seals_decides : (i : Item) → Decides (test.seals lay (scope_type s i)) (Key lay Γ (item_of s.owner i) Sealing)
  seals_decides i = found_decides i (test.seals lay) _ refl
      (λ T m t. record { family = T.family; params = _; declared = m; of_kind = (is_sealing_decides (lay.kind T.family)).sound t })
      (λ k. (judge.ty k.family k.params, k.declared, λ T e. let same : T.family ≡ k.family = cc in rw (same, k.of_kind) refl))

  locks_decides : (i : Item) → Decides (test.locks lay (scope_type s i)) ((G : ℕ) × Key lay Γ (item_of s.owner i) (Locking G))
  locks_decides i = found_decides i (test.locks lay) _ refl
      (λ T m t. let h = (is_locking_decides (lay.kind T.family)).sound t in (h.0, record { family = T.family; params = _; declared = m; of_kind = h.1 }))
      (λ k. (judge.ty k.1.family k.1.params, k.1.declared, λ T e. let same : T.family ≡ k.1.family = cc in rw (same, k.1.of_kind) refl))

  pub key_decides : (κ : Option Ty → Bool) (P : Item → Type 0) → (κ None ≡ false) → (P (Name 0) → ⊥) → ((i : Item) → Decides (κ (scope_type s i)) (P (item_of s.owner i))) →
      (x : Option Row) (t : Term) → Stand s.owner x t → Decides (κ (declared_row s x)) (P (the_item t))
  key_decides κ P none_not no_way by_item x t no_row = rw none_not (decides_never no_way)
  key_decides κ P none_not no_way by_item x t (item_row {i = i}) = by_item i
  key_decides κ P none_not no_way by_item x t pair_row = rw none_not (decides_never no_way)
  key_decides κ P none_not no_way by_item x t seal_row = rw none_not (decides_never no_way)
  key_decides κ P none_not no_way by_item x t lock_row = rw none_not (decides_never no_way)

  abbrev Message : Term → Type 0
  Message t = H t msg

  no_message : Message nothing → ⊥
  no_message h = ⊎_elim (λ m. never_zero msg m) (λ w. never_zero _ w.0.2) (item_typed _ msg h)

  module _ (seen : List Row) (ts : List Term) (bs : List Bool) (l : Level s.owner Message seen ts bs) where
    message_flagged : (r : Row) → Decides (mark_of lay s seen bs r) (Message (term_of s.owner seen ts r))
    message_flagged (row.Item i) = sends_decides i
    message_flagged (row.Pair a b) =
        decides_as (λ h. pairs h.0 h.1) (λ h. let w = pair_typed _ _ msg h in (w.0, w.1)) (decides_and (l.decided a) (l.decided b))
    message_flagged (row.Seal c k) =
        decides_as (λ h. seals h.0 h.1) (λ h. let w = seal_typed _ _ msg h in (w.0, w.1))
        (decides_and (l.decided c) (key_decides (test.seals lay) (λ i. Key lay Γ i Sealing) refl (λ key. never_zero _ key.declared) seals_decides (row_at seen k) (at nothing ts k) (l.stand k)))
    message_flagged (row.Lock c k) =
        decides_as (λ h. locks h.0 h.1.1) (λ h. let w = lock_typed _ _ msg h in (w.0, w.1))
        (decides_and (l.decided c) (key_decides (test.locks lay) (λ i. (G : ℕ) × Key lay Γ i (Locking G)) refl (λ key. never_zero _ key.1.declared) locks_decides (row_at seen k) (at nothing ts k) (l.stand k)))

  pub messages : (rows : List Row) → Level s.owner Message rows (terms s.owner rows) (marks lay s rows)
  messages rows = level s.owner Message no_message (mark_of lay s) message_flagged rows

  pub marks_decide : (rows : List Row) (k : ℕ) → Decides (at false (marks lay s rows) k) (H (term_at s.owner rows k) msg)
  marks_decide rows k = (messages rows).decided k

  -- another type than msg is an item's declared one
  module _ (T : Ty) (other : type_of s.owner T ≡ msg → ⊥) where
    item_type_decides : (i : Item) → Decides (is_type s.owner (scope_type s i) T) (H (item (item_of s.owner i)) (type_of s.owner T))
    item_type_decides i = found_decides i (λ x. is_type s.owner x T) _ refl
        (λ U m t. declared (rw ((same_type_decides s.owner U T).sound t) at m))
        (λ h. ⊎_elim
        (λ m. (type_of s.owner T, m, λ U e. (same_type_decides s.owner U T).complete e))
        (λ w. absurd (other w.1))
        (item_typed _ _ h))

    row_type_decides : (x : Option Row) (t : Term) → Stand s.owner x t → Decides (is_type s.owner (declared_row s x) T) (H t (type_of s.owner T))
    row_type_decides x t no_row = decides_never (λ h. ⊎_elim (λ m. never_zero _ m) (λ w. other w.1) (item_typed _ _ h))
    row_type_decides x t (item_row {i = i}) = item_type_decides i
    row_type_decides x t pair_row = decides_never (λ h. other (pair_typed _ _ _ h).2)
    row_type_decides x t seal_row = decides_never (λ h. other (seal_typed _ _ _ h).2)
    row_type_decides x t lock_row = decides_never (λ h. other (lock_typed _ _ _ h).2)

  pub has_type_decides : (rows : List Row) (k : ℕ) (T : Ty) → Decides (has_type s rows (marks lay s rows) k T) (H (term_at s.owner rows k) (type_of s.owner T))
  has_type_decides rows k T = ⊎_elim
      (λ t. rw t (rw ((is_msg_decides s.owner T).sound t) (marks_decide rows k)))
      (λ f.
      let other : type_of s.owner T ≡ msg → ⊥ = λ e. not_zero (cc (f, (is_msg_decides s.owner T).complete e)) in
      rw f (row_type_decides T other (row_at rows k) (term_at s.owner rows k) ((messages rows).stand k)))
      (cases_Bool (is_msg T))
