-- Atoms that are made and wait.
use Rattle.std.proofs.Common.{ℕ, ◌+◌, ◌≡◌, ◌≢◌, List, [], ◌∷◌, ◌++◌, map, length, Option, Some, None, IsSome, refl, sym, ap, subst, ◌∙◌, inl, inr}
use Rattle.std.proofs.lemmas.Bool.{cases_eq}
use Rattle.std.proofs.lemmas.List.{append_assoc, length-replicate}
use Rattle.std.specs.Option.{option_map}
use Rattle.std.specs.Prelude.{slice_index_or}
use Rattle.lmn_base.specs.declared.functor.Functor.{Functor}
use Rattle.lmn_store_heap.specs.Heap.{Heap, HeapAtom, new_atom, link_of, partners_of, marks_of, IsAtom, made_atom, Distinct}
use Rattle.lmn_store_heap.specs.Sound.{Paired, Shaped, Sound}
use Rattle.lmn_store_heap.proofs.ListLemmas.{each_of}
use Rattle.lmn_congruence_splice.specs.Splice as splice
use Rattle.lmn_store_heap.proofs.Listing.{alter_at, alter_away, made_listed}
use Rattle.lmn_store_heap.proofs.Common.{no_links, no_port}
use Rattle.lmn_base.specs.Lists.{In}

-- these atoms are made, one after the other
abbrev pub all_made : Heap → List (ℕ × Functor) → Heap
all_made s [] = s
all_made s (e ∷ es) = all_made (made_atom s e.0 e.1) es

-- each number is free when its atom is made
abbrev pub AllFree : Heap → List (ℕ × Functor) → Type 0
AllFree s [] = Unit {0}
AllFree s (e ∷ es) = (s.atoms e.0 ≡ None) × AllFree (made_atom s e.0 e.1) es

module _ (s : Heap) (a : ℕ) (f : Functor) where
  abbrev t : Heap
  t = made_atom s a f

  pub made_at : t.atoms a ≡ Some (new_atom f)
  made_at = alter_at s.atoms a (λ _. Some (new_atom f))

  pub made_away : (b : ℕ) → b ≢ a → t.atoms b ≡ s.atoms b
  made_away b d = alter_away s.atoms a (λ _. Some (new_atom f)) b d

  link_new : (i : ℕ) → link_of t a i ≡ None
  link_new i = ap (λ (o : Option HeapAtom). slice_index_or (partners_of o) i None) made_at ∙ no_links f.arity i

  link_away : (b i : ℕ) → b ≢ a → link_of t b i ≡ link_of s b i
  link_away b i d = ap (λ (o : Option HeapAtom). slice_index_or (partners_of o) i None) (made_away b d)

  module _ (free : s.atoms a ≡ None) where
    link_free : (i : ℕ) → link_of s a i ≡ None
    link_free i = ap (λ (o : Option HeapAtom). slice_index_or (partners_of o) i None) free

    -- no partner changes
    pub made_link : (b i : ℕ) → link_of t b i ≡ link_of s b i
    made_link b i = elim (cases_eq b a) [
      | inl e ↦ subst (λ z. link_of t z i ≡ link_of s z i) (sym e) (link_new i ∙ sym (link_free i))
      | inr d ↦ link_away b i d
    ]

    pub made_paired : Paired s → Paired t
    made_paired p = record {
      back = λ b i c j e. made_link c j ∙ p.back b i c j (sym (made_link b i) ∙ e);
      apart = λ b i e. p.apart b i (sym (made_link b i) ∙ e);
    }

    pub made_shaped : Shaped s → Shaped t
    made_shaped h = record {
      ports = λ b g e. elim (cases_eq b a) [
        | inl q ↦ (let at : t.atoms b ≡ Some (new_atom f) = ap t.atoms q ∙ made_at in
            let same : Some f ≡ Some g = sym (ap (λ (o : Option HeapAtom). option_map (λ x. x.functor) o) at) ∙ e in
            let fg : f ≡ g = (cc) in
            ap (λ (o : Option HeapAtom). length (partners_of o)) at ∙ length-replicate f.arity no_port ∙ ap (λ (k : Functor). k.arity) fg)
        | inr d ↦ ap (λ (o : Option HeapAtom). length (partners_of o)) (made_away b d) ∙ h.ports b g (sym (ap (λ (o : Option HeapAtom). option_map (λ x. x.functor) o) (made_away b d)) ∙ e)
      ];
      marks = λ b is. elim (cases_eq b a) [
        | inl q ↦ (let at : t.atoms b ≡ Some (new_atom f) = ap t.atoms q ∙ made_at in
            ap (λ (o : Option HeapAtom). length (marks_of o)) at ∙ length-replicate (f.arity + 1) 0 ∙ ap (λ k. k + 1) (sym (length-replicate f.arity no_port)) ∙ sym (ap (λ (o : Option HeapAtom). length (partners_of o) + 1) at))
        | inr d ↦ ap (λ (o : Option HeapAtom). length (marks_of o)) (made_away b d) ∙ h.marks b (subst (λ (o : Option HeapAtom). IsSome o) (made_away b d) is)
            ∙ sym (ap (λ (o : Option HeapAtom). length (partners_of o) + 1) (made_away b d))
      ];
    }

-- After all is made. What was there is as it was; a new atom waits, with its functor and ports without partner.
pub record AfterMaking (s t : Heap) (es : List (ℕ × Functor)) : Type 0 where
  pub sound : Sound t
  pub old : (a : ℕ) → IsAtom s a → t.atoms a ≡ s.atoms a
  pub others : (a : ℕ) → (In a (map (λ (e : ℕ × Functor). e.0) es) → ⊥) → t.atoms a ≡ s.atoms a
  pub links : (a i : ℕ) → link_of t a i ≡ link_of s a i
  pub fresh : (a : ℕ) → In a (map (λ (e : ℕ × Functor). e.0) es) → s.atoms a ≡ None
  pub line : t.new_atoms ≡ s.new_atoms ++ map (λ (e : ℕ × Functor). e.0) es
  pub mems : t.mems ≡ s.mems
  pub new_mems : t.new_mems ≡ s.new_mems
  pub root : t.root ≡ s.root

-- what holds when they are made
pub all_made_after : (es : List (ℕ × Functor)) (s : Heap) → Sound s → AllFree s es → AfterMaking s (all_made s es) es
all_made_after [] s h w = record { sound = h; old = λ a i. refl; others = λ a i. refl; links = λ a i. refl; fresh = λ a i. absurd i; line = nil (s.new_atoms); mems = refl; new_mems = refl; root = refl }
  where
    nil : (xs : List ℕ) → xs ≡ xs ++ []
    nil [] = refl
    nil (x ∷ xs) = ap (λ ys. x ∷ ys) (nil xs)
all_made_after (e ∷ es) s h w =
    let t = made_atom s e.0 e.1 in
    let on = all_made_after es t (record { paired = made_paired s e.0 e.1 w.0 h.paired; listed = made_listed s e.0 e.1 h.listed w.0; shaped = made_shaped s e.0 e.1 w.0 h.shaped }) w.1 in
    let other : (a : ℕ) → IsAtom s a → a ≢ e.0 = λ a is q. let z : IsSome {T = HeapAtom} None = subst (λ (o : Option HeapAtom). IsSome o) (ap s.atoms q ∙ w.0) is in absurd (cc) in
    record {
      sound = on.sound;
      old = λ a is. let away = made_away s e.0 e.1 a (other a is) in on.old a (subst (λ (o : Option HeapAtom). IsSome o) (sym away) is) ∙ away;
      others = λ a o. on.others a (λ i. o (inr i)) ∙ made_away s e.0 e.1 a (λ q. o (inl (sym q)));
      links = λ a i. on.links a i ∙ made_link s e.0 e.1 w.0 a i;
      fresh = λ a i. elim i [
        | inl q ↦ ap s.atoms (sym q) ∙ w.0
        | inr j ↦ elim (cases_eq a e.0) [ inl q ↦ ap s.atoms q ∙ w.0 | inr d ↦ sym (made_away s e.0 e.1 a d) ∙ on.fresh a j ]
      ];
      line = on.line ∙ append_assoc s.new_atoms (e.0 ∷ []) (map (λ (e : ℕ × Functor). e.0) es);
      mems = on.mems;
      new_mems = on.new_mems;
      root = on.root;
    }

-- a new atom has its functor, its ports and waits
pub made_functor : (es : List (ℕ × Functor)) (s : Heap) → Sound s → AllFree s es → (e : ℕ × Functor) → splice.IsOneOf e es → (all_made s es).atoms e.0 ≡ Some (new_atom e.1)
made_functor [] s h w e i = absurd i
made_functor (g ∷ es) s h w e (inl q) =
    let t = made_atom s g.0 g.1 in
    let sound : Sound t = record { paired = made_paired s g.0 g.1 w.0 h.paired; listed = made_listed s g.0 g.1 h.listed w.0; shaped = made_shaped s g.0 g.1 w.0 h.shaped } in
    let is : IsAtom t g.0 = subst (λ (o : Option HeapAtom). IsSome o) (sym (made_at s g.0 g.1)) refl in
    subst (λ (x : ℕ × Functor). (all_made t es).atoms x.0 ≡ Some (new_atom x.1)) q ((all_made_after es t sound w.1).old g.0 is ∙ made_at s g.0 g.1)
made_functor (g ∷ es) s h w e (inr i) =
    made_functor es (made_atom s g.0 g.1) (record { paired = made_paired s g.0 g.1 w.0 h.paired; listed = made_listed s g.0 g.1 h.listed w.0; shaped = made_shaped s g.0 g.1 w.0 h.shaped }) w.1 e i

-- no number is made twice
pub made_once : (es : List (ℕ × Functor)) (s : Heap) → Sound s → AllFree s es → Distinct (map (λ (e : ℕ × Functor). e.0) es)
made_once [] s h w = tt
made_once (g ∷ es) s h w =
    let t = made_atom s g.0 g.1 in
    let sound : Sound t = record { paired = made_paired s g.0 g.1 w.0 h.paired; listed = made_listed s g.0 g.1 h.listed w.0; shaped = made_shaped s g.0 g.1 w.0 h.shaped } in (
      each_of (λ y. g.0 ≢ y) (map (λ (e : ℕ × Functor). e.0) es) (λ a i q. let free : t.atoms g.0 ≡ None = ap t.atoms q ∙ (all_made_after es t sound w.1).fresh a i in
          let z : ◌≡◌ {A = Option HeapAtom} (Some (new_atom g.1)) None = sym (made_at s g.0 g.1) ∙ free in absurd (cc)),
      made_once es t sound w.1,
    )
