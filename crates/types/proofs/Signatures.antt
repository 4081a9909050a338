-- The signature's check decides whether its context is well formed.
use Rattle.std.proofs.Common.{◌≡◌, ℕ, ◌+◌, true, not, List, [], ◌∷◌, ◌++◌, map, length, is_some, Some, None, Option, refl, arith}
use Rattle.judgments.specs.Contexts.{◌∶◌, Context, Decl, ◌∈◌}
use Rattle.layouts.specs.Meanings.{Meaning}
use Rattle.judgments.specs.Typing.{Suit, TypeFormed, InRange, New, Formed}
use Rattle.judgments.proofs.Contexts.{not_zero, regular}
use Rattle.types.specs.Scopes.{Declarations, type_in, scope_type}
use Rattle.types.specs.Types.{has_family, suited, items, all_suited, type_formed}
use Rattle.types.specs.Names.{names_only, in_range, name_check, at_name, names_check}
use Rattle.theory.specs.Owners.{item_of}
use Rattle.types.specs.Judged.{type_of, declare, name_decl, context_of}
use Rattle.refusals.specs.Decides.{Decides, Passes}
use Rattle.refusals.proofs.Deciding.{decides_and, decides_lt, decides_same, decides_never, decides_always, demand_passes, passes_always, passes_as, walk_passes}
use Rattle.types.proofs.Found.{found_declared, declared_found}
use Rattle.terms.specs.declared.row.Item.{Item}
use Rattle.terms.specs.declared.row.Item.TheVariants.{Name}
use Rattle.theory.specs.Data.{Ty}
use Rattle.theory.specs.declared.data.Declared.{Declared}
use Rattle.theory.specs.declared.owner.Owner.TheVariants.{Nobody}
use Rattle.types.specs.declared.faults.Ill.TheVariants.{Taken, Unformed}
use Rattle.judgments.specs.Contexts as judge

-- in a well-formed context what is found is all that is declared of an item
module _ (lay : Meaning) (s : Declarations) (formed : Formed lay (context_of s)) where
  pub found_is : (i : Item) (U : judge.Ty) → item_of s.owner i ∶ U ∈ context_of s → (T : Ty) × (scope_type s i ≡ Some T) × (type_of s.owner T ≡ U)
  found_is i U m =
      let h = declared_found s.names s.owner s.variables i U m in
      (h.0, h.1, (regular lay (context_of s) formed).once (found_declared s.names s.owner s.variables i h.0 h.1) m)

  pub suited_decides : (i : Item) (F : ℕ) → Decides (suited s i F) ((qs : List Item) × (item_of s.owner i ∶ judge.ty F qs ∈ context_of s))
  suited_decides i F = record { sound = sound (scope_type s i) refl; complete = complete }
    where
      sound : (o : Option Ty) → scope_type s i ≡ o → has_family o F ≡ true → (qs : List Item) × (item_of s.owner i ∶ judge.ty F qs ∈ context_of s)
      sound None e t = not_zero (cc)
      sound (Some T) e t =
          let same : T.family ≡ F = (decides_same T.family F).sound t in
          (map (item_of s.owner) (items T.params), rw same at (found_declared s.names s.owner s.variables i T e))

      complete : (qs : List Item) × (item_of s.owner i ∶ judge.ty F qs ∈ context_of s) → suited s i F ≡ true
      complete h =
          let f = found_is i (judge.ty F h.0) h.1 in
          let same : f.0.family ≡ F = cc f.2 in
          rw f.1 ((decides_same f.0.family F).complete same)

  pub all_suited_decides : (ps : List Item) (Fs : List ℕ) → Decides (all_suited s ps Fs) (Suit (context_of s) (map (item_of s.owner) ps) Fs)
  all_suited_decides [] [] = decides_always tt
  all_suited_decides [] (F ∷ Fs) = decides_never (λ h. h)
  all_suited_decides (p ∷ ps) [] = decides_never (λ h. h)
  all_suited_decides (p ∷ ps) (F ∷ Fs) = decides_and (suited_decides p F) (all_suited_decides ps Fs)

  pub type_formed_decides : (T : Ty) → Decides (type_formed lay s T) (TypeFormed lay (context_of s) (type_of s.owner T))
  type_formed_decides T = decides_and (decides_lt T.family lay.families) (all_suited_decides (items T.params) (lay.params T.family))

pub declare_push : {X : Type 0} (f : ℕ → X → Decl) (n : ℕ) (xs : List X) (x : X) (Γ : Context) → declare f n (xs ++ x ∷ []) Γ ≡ f (n + length xs) x ∷ declare f n xs Γ
declare_push f n [] x Γ = let place : n + 0 ≡ n = omega arith in rw place refl
declare_push f n (y ∷ xs) x Γ =
    let place : n + length (y ∷ xs) ≡ (n + 1) + length xs = omega arith in
    rw place (declare_push f (n + 1) xs x (f n y ∷ Γ))

module _ (lay : Meaning) where
  abbrev Sig : List Declared → Type 0
  Sig ds = Formed lay (context_of (names_only ds))

  pub in_range_decides : (n : ℕ) → Decides (in_range n) (InRange (Name n))
  in_range_decides n = decides_and (decides_lt 0 n) (decides_lt n (4294967296))

  pub new_decides : (ds : List Declared) (n : ℕ) → Decides (not (is_some (type_in ds n))) (New (Name n) (context_of (names_only ds)))
  new_decides ds n = record { sound = λ e T m. sound e (declared_found ds Nobody [] (Name n) T m); complete = complete (type_in ds n) refl }
    where
      sound : not (is_some (type_in ds n)) ≡ true → (T : Ty) × (type_in ds n ≡ Some T) → ⊥
      sound e h = let no_way : not (is_some (Some h.0)) ≡ true = rw h.1 at e in not_zero (cc)

      complete : (o : Option Ty) → type_in ds n ≡ o → New (Name n) (context_of (names_only ds)) → not (is_some o) ≡ true
      complete None e new = refl
      complete (Some T) e new = absurd (new (type_of Nobody T) (found_declared ds Nobody [] (Name n) T e))

  pub name_passes : (seen : List Declared) (d : Declared) → Sig seen → Passes (name_check lay seen d) (Sig (seen ++ d ∷ []))
  name_passes seen d formed =
      rw (declare_push (name_decl Nobody) 1 seen d [])
      (passes_as
      (λ h. (formed, h.0.1, h.0.0, h.1.0))
      (λ h. ((h.2, h.1), (h.3, tt {0})))
      (demand_passes Taken (decides_and (in_range_decides d.name) (new_decides seen d.name))
      (λ _. demand_passes Unformed (type_formed_decides lay (names_only seen) formed d.of) (λ _. passes_always (tt {0})))))

  name_back : (seen : List Declared) (d : Declared) → Sig (seen ++ d ∷ []) → Sig seen
  name_back seen d h = (rw (declare_push (name_decl Nobody) 1 seen d []) at h).0

  pub names_judged : (ds : List Declared) → Passes (names_check lay ds) (Formed lay (context_of (names_only ds)))
  names_judged ds = walk_passes (name_check lay) at_name Sig name_passes name_back ds [] tt
