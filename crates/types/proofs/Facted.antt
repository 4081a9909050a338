-- The check of a fact decides whether its terms agree with the argument types.
use Rattle.std.proofs.Common.{◌≡◌, ℕ, zero, suc, ◌-◌, Bool, false, eqb, List, [], ◌∷◌, map, length, get_or, is_some, Option, sym, refl, ap, ◌∙◌, subst, ap₂, ⊎_elim, arith}
use Rattle.std.proofs.lemmas.Bool.{cases_Bool}
use Rattle.judgments.specs.Contexts.{◌∶◌, Context, ◌∈◌, msg}
use Rattle.terms.specs.Terms.{Term}
use Rattle.layouts.specs.Meanings.{Meaning}
use Rattle.judgments.specs.Typing.{Formed, Key, Has, declared, sent, pairs, seals, locks, Known, AllKnown}
use Rattle.judgments.specs.Rules.{Agree, meant, named, place}
use Rattle.types.specs.Scopes.{Declarations, scope_type}
use Rattle.types.specs.Types.{items}
use Rattle.theory.specs.Owners.{item_of}
use Rattle.types.specs.Judged.{type_of, context_of, slot_of, slot_list, argument_of}
use Rattle.types.specs.Rows.{at, row_at, nothing, term_of, term_at}
use Rattle.types.specs.Messages.{key_type, marks, has_type}
use Rattle.types.specs.Facts.{known_of, knowns, ledger, all_flags, item_in, slot_item, filled, argument_type, arguments_check, fact_check}
use Rattle.refusals.specs.Decides.{Decides, Passes}
use Rattle.refusals.proofs.Deciding.{decides_and, decides_same, decides_always, demand_passes, passes_always, passes_as}
use Rattle.types.proofs.Rowed.{Stand, no_row, item_row, pair_row, seal_row, lock_row, Level, level, found_decides, key_decides, never_zero, messages, has_type_decides, at_zero, at_later}
use Rattle.terms.specs.declared.row.Item.{Item}
use Rattle.theory.specs.declared.owner.Owner.{Owner}
use Rattle.terms.specs.declared.row.Row.{Row}
use Rattle.theory.specs.declared.data.Slot.{Slot}
use Rattle.layouts.specs.declared.layout.Params.{Params}
use Rattle.theory.specs.Data.{Argument}
use Rattle.types.specs.declared.faults.Ill.TheVariants.{Count, Undeclared, Lacks}
use Rattle.judgments.specs.Substitutions.{the_item}
use Rattle.judgments.specs.Contexts as judge
use Rattle.judgments.specs.Typing as typing
use Rattle.judgments.specs.Rules as rules
use Rattle.terms.specs.declared.row.Row.TheVariants as row
use Rattle.theory.specs.declared.data.Slot.TheVariants as slot
use Rattle.layouts.specs.declared.layout.Params.TheVariants as params

-- what has a type is known
pub has_known : (lay : Meaning) (Γ : Context) (t : Term) (T : judge.Ty) → Has lay Γ t T → Known Γ t
has_known lay Γ t T (declared m) = (T, m)
has_known lay Γ t T (sent {F = F} {ps = ps} m e) = (judge.ty F ps, m)
has_known lay Γ t T (pairs {s = a} {t = b} x y) = (has_known lay Γ a msg x, has_known lay Γ b msg y)
has_known lay Γ t T (seals {t = c} x y) = (has_known lay Γ c msg x, (judge.ty y.family y.params, y.declared))
has_known lay Γ t T (locks {t = c} x y) = (has_known lay Γ c msg x, (judge.ty y.family y.params, y.declared))

pub agree_known : (lay : Meaning) (Γ : Context) (all ts : List Term) (As : List rules.Argument) → Agree lay Γ all ts As → AllKnown Γ ts
agree_known lay Γ all [] [] h = tt
agree_known lay Γ all [] (A ∷ As) h = absurd h
agree_known lay Γ all (t ∷ ts) [] h = absurd h
agree_known lay Γ all (t ∷ ts) (rules.of_type F ps ∷ As) h = (has_known lay Γ t _ h.0, agree_known lay Γ all ts As h.1)

pub agree_long : (lay : Meaning) (Γ : Context) (all ts : List Term) (As : List rules.Argument) → Agree lay Γ all ts As → length ts ≡ length As
agree_long lay Γ all [] [] h = refl
agree_long lay Γ all [] (A ∷ As) h = absurd h
agree_long lay Γ all (t ∷ ts) [] h = absurd h
agree_long lay Γ all (t ∷ ts) (rules.of_type F ps ∷ As) h = ap suc (agree_long lay Γ all ts As h.1)

-- the item of a row's term
pub the_item_is : (o : Owner) (x : Option Row) (t : Term) → Stand o x t → the_item t ≡ item_of o (item_in x)
the_item_is o x t no_row = refl
the_item_is o x t item_row = refl
the_item_is o x t pair_row = refl
the_item_is o x t seal_row = refl
the_item_is o x t lock_row = refl

term_at_map : (f : ℕ → Term) → f 0 ≡ nothing → (ks : List ℕ) (p : ℕ) → rules.term_at (map f ks) p ≡ f (get_or ks p 0)
term_at_map f z [] p = sym z
term_at_map f z (k ∷ ks) zero = refl
term_at_map f z (k ∷ ks) (suc p) = term_at_map f z ks p

map_long : {X Y : Type 0} (f : X → Y) (xs : List X) → length (map f xs) ≡ length xs
map_long f [] = refl
map_long f (x ∷ xs) = ap suc (map_long f xs)

module _ (lay : Meaning) (s : Declarations) (formed : Formed lay (context_of s)) (rows : List Row) where
  abbrev Γ : Context
  Γ = context_of s

  abbrev term : ℕ → Term
  term k = term_at s.owner rows k

  some_decides : (i : Item) → Decides (is_some (scope_type s i)) (typing.Declared Γ (item_of s.owner i))
  some_decides i = found_decides lay s formed i is_some _ refl (λ T m t. (type_of s.owner T, m)) (λ h. (h.0, h.1, λ T e. refl))

  module _ (seen : List Row) (ts : List Term) (bs : List Bool) (l : Level s.owner (Known Γ) seen ts bs) where
    key_known : (k : ℕ) → Decides (is_some (key_type s seen k)) (typing.Declared Γ (the_item (at nothing ts k)))
    key_known k = key_decides lay s formed is_some (typing.Declared Γ) refl (λ h. never_zero lay s formed h.0 h.1) some_decides (row_at seen k) (at nothing ts k) (l.stand k)

    known_flagged : (r : Row) → Decides (known_of s seen bs r) (Known Γ (term_of s.owner seen ts r))
    known_flagged (row.Item i) = some_decides i
    known_flagged (row.Pair a b) = decides_and (l.decided a) (l.decided b)
    known_flagged (row.Seal c k) = decides_and (l.decided c) (key_known k)
    known_flagged (row.Lock c k) = decides_and (l.decided c) (key_known k)

  knowns_decide : (k : ℕ) → Decides (at false (knowns s rows) k) (Known Γ (term k))
  knowns_decide k = (level s.owner (Known Γ) (λ h. never_zero lay s formed h.0 h.1) (known_of s) known_flagged rows).decided k

  pub all_known_decides : (ks : List ℕ) → Decides (all_flags (knowns s rows) ks) (AllKnown Γ (map term ks))
  all_known_decides [] = decides_always tt
  all_known_decides (k ∷ ks) = decides_and (knowns_decide k) (all_known_decides ks)

  -- what a parameter means
  slot_is : (args : List ℕ) (p : Slot) → item_of s.owner (slot_item rows args p) ≡ meant (map term args) (slot_of p)
  slot_is args (slot.Name n) = refl
  slot_is args (slot.Place p) = ⊎_elim
      (λ t.
      let none : at 0 args p ≡ 0 = at_zero 0 args p t in
      let is : slot_of (slot.Place p) ≡ named 0 = rw t refl in
      rw (none, is) refl)
      (λ f.
      let some : at 0 args p ≡ get_or args (p - 1) 0 = at_later 0 args p f in
      let is : slot_of (slot.Place p) ≡ place (p - 1) = rw f refl in
      let k = get_or args (p - 1) 0 in
      rw (some, is) (sym (ap the_item (term_at_map term refl args (p - 1)) ∙ the_item_is s.owner (row_at rows k) (term k) ((messages lay s formed rows).stand k))))
      (cases_Bool (eqb p 0))

  filled_is : (args : List ℕ) (ps : Params Slot) → map (item_of s.owner) (items (filled rows args ps)) ≡ map (meant (map term args)) (map slot_of (slot_list ps))
  filled_is args params.Zero = refl
  filled_is args (params.One p) = ap (λ x. x ∷ []) (slot_is args p)
  filled_is args (params.Two p q) = ap₂ (λ x y. x ∷ y ∷ []) (slot_is args p) (slot_is args q)

  pub argument_decides : (args : List ℕ) (k : ℕ) (A : Argument) →
      Decides (has_type s rows (marks lay s rows) k (argument_type rows args A)) (Has lay Γ (term k) (judge.ty A.family (map (meant (map term args)) (map slot_of (slot_list A.params)))))
  argument_decides args k A =
      subst (λ qs. Decides (has_type s rows (marks lay s rows) k (argument_type rows args A)) (Has lay Γ (term k) (judge.ty A.family qs))) (filled_is args A.params) (has_type_decides lay s formed rows k (argument_type rows args A))

  arguments_pass : (all ks : List ℕ) (As : List Argument) → length ks ≡ length As → Passes (arguments_check s (ledger lay s rows) all ks As) (Agree lay Γ (map term all) (map term ks) (map argument_of As))
  arguments_pass all [] [] e = passes_always tt
  arguments_pass all [] (A ∷ As) e = absurd (omega arith)
  arguments_pass all (k ∷ ks) [] e = absurd (omega arith)
  arguments_pass all (k ∷ ks) (A ∷ As) e = demand_passes (Lacks k) (argument_decides all k A) (λ _. arguments_pass all ks As (omega arith))

  pub fact_passes : (takes : List Argument) (args : List ℕ) → Passes (fact_check s (ledger lay s rows) takes args) (Agree lay Γ (map term args) (map term args) (map argument_of takes))
  fact_passes takes args =
      passes_as
      (λ h. h.1.1)
      (λ h. (sym (map_long term args) ∙ (agree_long lay Γ _ _ _ h ∙ map_long argument_of takes), (agree_known lay Γ _ _ _ h, h)))
      (demand_passes Count (decides_same (length args) (length takes))
      (λ e. demand_passes Undeclared (all_known_decides args) (λ _. arguments_pass args args takes e)))
