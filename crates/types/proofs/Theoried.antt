-- The type check decides whether a theory has its types.
use Rattle.std.proofs.Common.{◌≡◌, ℕ, suc, ◌+◌, eqb, List, [], ◌∷◌, map, length, Some, None, vec_items, Option, sym, refl, ap, subst, ⊎_elim}
use Rattle.std.specs.List.{slice_get}
use Rattle.terms.specs.Held.{rows_of}
use Rattle.std.proofs.lemmas.Bool.{cases_Bool}
use Rattle.judgments.specs.Contexts.{◌∶◌, Context, Decl, ◌∈◌}
use Rattle.layouts.specs.Meanings.{Meaning}
use Rattle.layouts.specs.Laws.{Lawful}
use Rattle.judgments.specs.Typing.{Suit, Formed}
use Rattle.judgments.proofs.Contexts.{regular}
use Rattle.types.specs.Types.{items}
use Rattle.types.specs.Names.{names_only, names_check}
use Rattle.theory.specs.Owners.{item_of, owner_of}
use Rattle.types.specs.Judged.{declare, name_decl, context_of}
use Rattle.types.specs.Predicates.{predicates_check}
use Rattle.types.specs.Rules.{same}
use Rattle.types.specs.Theories.{here, numbered, numbered_check, rules_check, anchor_check, place_of, role_at, placed_check, theory_check}
use Rattle.types.specs.Typed.{signature, AnchorTyped, RuleTypedIn, RoleTyped, TheoryTyped}
use Rattle.refusals.specs.Decides.{Passes}
use Rattle.refusals.proofs.Deciding.{demand_passes, passes_always, passes_as, then_passes, walk_members}
use Rattle.types.proofs.Found.{declare_at}
use Rattle.types.proofs.Signatures.{suited_decides, names_judged}
use Rattle.types.proofs.Ruled.{no_name, rule_passes}
use Rattle.types.proofs.Predicated.{predicates_pass}
use Rattle.terms.specs.declared.row.Item.{Item}
use Rattle.terms.specs.declared.row.Item.TheVariants.{Name, Variable}
use Rattle.terms.specs.declared.row.Row.{Row}
use Rattle.theory.specs.declared.data.Declared.{Declared}
use Rattle.theory.specs.declared.owner.Owner.{Owner}
use Rattle.theory.specs.declared.owner.Owner.TheVariants.{Nobody, Generic, Anchored}
use Rattle.theory.specs.declared.data.Predicate.{Predicate}
use Rattle.theory.specs.declared.data.Rule.{Rule}
use Rattle.theory.specs.declared.data.Role.{Role}
use Rattle.theory.specs.declared.data.Theory.{Theory}
use Rattle.judgments.specs.Contexts as judge

declare_same : {X : Type 0} (f g : ℕ → X → Decl) (xs : List X) → ((k n : ℕ) (x : X) → slice_get xs k ≡ Some x → f n x ≡ g n x) → (n : ℕ) (Γ : Context) → declare f n xs Γ ≡ declare g n xs Γ
declare_same f g [] h n Γ = refl
declare_same f g (x ∷ xs) h n Γ = rw (h 0 n x refl) (declare_same f g xs (λ k m y e. h (suc k) m y e) (n + 1) (g n x ∷ Γ))

module _ (lay : Meaning) (ds : List Declared) (formed : Formed lay (signature ds)) where
  -- a parameter of a declared name's type is a name, so that no owner reads it otherwise
  suit_names : (o : Owner) (ps : List Item) (Gs : List ℕ) → Suit (signature ds) (map (item_of Nobody) ps) Gs → map (item_of o) ps ≡ map (item_of Nobody) ps
  suit_names o [] Gs h = refl
  suit_names o (p ∷ ps) [] h = absurd h
  suit_names o (Name n ∷ ps) (G ∷ Gs) h = ap (λ xs. Name n ∷ xs) (suit_names o ps Gs h.1)
  suit_names o (Variable v ∷ ps) (G ∷ Gs) h = ⊎_elim
      (λ t. absurd (no_name ds Nobody [] 0 _ (rw t at h.0.1)))
      (λ f. absurd (no_name ds Nobody [] v _ (rw f at h.0.1)))
      (cases_Bool (eqb v 0))

  read_same : (o : Owner) (k n : ℕ) (d : Declared) → slice_get ds k ≡ Some d → name_decl o n d ≡ name_decl Nobody n d
  read_same o k n d e =
      let at = declare_at (name_decl Nobody) 1 ds [] k d e in
      let well = (regular lay (signature ds) formed).formed at in
      ap (λ qs. Name d.name ∶ judge.ty d.of.family qs) (suit_names o (items d.of.params) _ well.1)

  names_same : (o : Owner) → declare (name_decl o) 1 ds [] ≡ signature ds
  names_same o = declare_same (name_decl o) (name_decl Nobody) ds (read_same o) 1 []

  -- the names and the owner are well formed
  pub owner_formed : Lawful lay → (anchor : Option ℕ) → Formed lay (context_of (record { names = ds; owner = owner_of anchor; variables = [] }))
  owner_formed law None =
      rw (names_same Generic)
      (formed, (λ T m. no_name ds Nobody [] 0 T m), tt {0}, (law.principal_there, subst (λ Gs. Suit (signature ds) [] Gs) (sym law.principal_params) (tt {0})))
  owner_formed law (Some a) = rw (names_same (Anchored a)) formed

  pub anchor_passes : (role : ℕ) (anchor : Option ℕ) → Passes (anchor_check ds role anchor) (AnchorTyped ds anchor)
  anchor_passes role None = passes_always tt
  anchor_passes role (Some a) = passes_as (λ h. h.0) (λ h. (h, tt {0})) (demand_passes _ (suited_decides lay (names_only ds) formed (Name a) 1) (λ _. passes_always (tt {0})))

  module _ (law : Lawful lay) (memory : List Predicate) (rows : List Row) where
    rules_pass : (number : ℕ) (anchor : Option ℕ) (Ps : List Predicate) (Rs : List Rule) →
        Passes (rules_check lay (place_of ds memory rows number anchor Ps) Rs) ((r : Rule) → r ∈ Rs → RuleTypedIn lay (place_of ds memory rows 0 anchor Ps) r)
    rules_pass number anchor Ps Rs =
        walk_members (numbered_check lay (place_of ds memory rows number anchor Ps)) here (RuleTypedIn lay (place_of ds memory rows 0 anchor Ps))
        (λ seen r. rule_passes lay (numbered (place_of ds memory rows number anchor Ps) (length seen + 1)) (owner_formed law anchor) r) Rs []

    role_passes : (number : ℕ) (R : Role) → Passes (role_at lay ds memory rows number R) (RoleTyped lay ds memory rows R)
    role_passes number R =
        passes_as
        (λ h. record { anchored = h.0; predicates = h.1.0; typed = h.1.1 })
        (λ t. (t.anchored, (t.predicates, t.typed)))
        (then_passes same (anchor_check ds number R.anchor) _ (anchor_passes number R.anchor)
        (λ _. then_passes same (predicates_check lay ds number 0 (vec_items R.predicates)) _ (predicates_pass lay ds formed number 0 (vec_items R.predicates))
        (λ _. rules_pass number R.anchor (vec_items R.predicates) (vec_items R.rules))))

pub theory_passes : (lay : Meaning) → Lawful lay → (T : Theory) → Passes (theory_check lay T) (TheoryTyped lay T)
theory_passes lay law T =
    let ds = vec_items T.names in
    let memory = vec_items T.memory in
    let rows = rows_of T.book in
    let Rs = vec_items T.roles in
    passes_as
    (λ h. record { names = h.0; memory = h.1.0; roles = h.1.1 })
    (λ t. (t.names, (t.memory, t.roles)))
    (then_passes same (names_check lay ds) _ (names_judged lay ds)
    (λ formed. then_passes same (predicates_check lay ds 0 (length ds) memory) _ (predicates_pass lay ds formed 0 (length ds) memory)
    (λ _. walk_members (placed_check lay ds memory rows) here (RoleTyped lay ds memory rows) (λ seen R. role_passes lay ds formed law memory rows (length seen + 1) R) Rs [])))
