-- The walks over different items leave different atoms, so they leave few.
use Rattle.std.proofs.Common.{◌≡◌, ◌≢◌, ℕ, ◌+◌, ◌≤◌, ◌^◌, inl, inr, ◌⊎◌, List, [], ◌∷◌, ◌++◌, length, refl, sym, ap, ◌∙◌, subst, arith}
use Rattle.lmn_store_heap.specs.Heap.{Heap, IsAtom}
use Rattle.lmn_store_heap.specs.Lists.{Distinct}
use Rattle.lmn_store_heap.specs.Sound.{Paired, AtMost}
use Rattle.lmn_store_heap.proofs.Depths.{both_distinct}
use Rattle.lmn_store_heap.proofs.ListLemmas.{each_in}
use Rattle.lmn_store_heap.proofs.Pigeonholes.{not_longer}
use Rattle.lmn_print_folding.specs.Marks.{argument_count, Event, meets_link, meets_term, leaves, WalkMeets, link, term, end_of_term, end_of_item, atoms_left}
use Rattle.lmn_print_folding.proofs.FewTurns.{left_once, left_there}
use Rattle.lmn_print_folding.proofs.WalkLemmas.{one_walk}
use Rattle.lmn_print.specs.Walked.{ItemsWalked, none, more}
use Rattle.lmn_base.specs.Lists.{In}
use Rattle.lmn_base.proofs.Lists.{in_either}

-- the atom that is left last
abbrev ended : ℕ → List Event → ℕ
ended d [] = d
ended d (meets_link a i ∷ es) = ended d es
ended d (meets_term a i c ∷ es) = ended d es
ended d (leaves a ∷ es) = ended a es

ended_any : (s : Heap) (a i : ℕ) (es : List Event) → WalkMeets s a i es → (d e : ℕ) → ended d es ≡ ended e es
ended_any s a i _ (link l n w) d e = ended_any s a (i + 1) _ w d e
ended_any s a i _ (term c l t w) d e = ended_any s c 0 _ w d e
ended_any s a i _ (end_of_term p j e x ports l w) d f = refl
ended_any s a i _ (end_of_item e x) d f = refl

ended_item : (d a : ℕ) (es : List Event) → ended d (es ++ leaves a ∷ []) ≡ a
ended_item d a [] = refl
ended_item d a (meets_link b i ∷ es) = ended_item d a es
ended_item d a (meets_term b i c ∷ es) = ended_item d a es
ended_item d a (leaves b ∷ es) = ended_item b a es

-- where a walk leaves an atom
leaving : (s : Heap) (a i b : ℕ) (es : List Event) → WalkMeets s a i es → In b (atoms_left es) → (fs : List Event) × WalkMeets s b (argument_count s b) fs × (ended 0 es ≡ ended 0 fs)
leaving s a i b _ (link l n w) h = leaving s a (i + 1) b _ w h
leaving s a i b _ (term {es = es} d l t w) h = leaving s d 0 b es w h
leaving s a i b _ (end_of_term {es = es} p j e x ports l w) (inl h) =
    (leaves a ∷ es, subst (λ z. WalkMeets s z (argument_count s z) (leaves a ∷ es)) h (subst (λ k. WalkMeets s a k (leaves a ∷ es)) e (end_of_term p j e x ports l w)), refl)
leaving s a i b _ (end_of_term {es = es} p j e x ports l w) (inr h) = let f = leaving s p (j + 1) b es w h in (f.0, f.1, ended_any s p (j + 1) es w a 0 ∙ f.2)
leaving s a i b _ (end_of_item e x) (inl h) =
    (leaves a ∷ [], subst (λ z. WalkMeets s z (argument_count s z) (leaves a ∷ [])) h (subst (λ k. WalkMeets s a k (leaves a ∷ [])) e (end_of_item e x)), refl)
leaving s a i b _ (end_of_item e x) (inr h) = absurd h

-- two walks that leave one atom end alike
one_left : (s : Heap) (a b c : ℕ) (es fs : List Event) → WalkMeets s a 0 es → WalkMeets s b 0 fs → In c (atoms_left es) → In c (atoms_left fs) → ended 0 es ≡ ended 0 fs
one_left s a b c es fs v w i j =
    let p = leaving s a 0 c es v i in
    let q = leaving s b 0 c fs w j in
    p.2 ∙ ap (ended 0) (one_walk s c (argument_count s c) p.0 q.0 p.1 q.1) ∙ sym q.2

pub atoms_left_append : (es fs : List Event) → atoms_left (es ++ fs) ≡ atoms_left es ++ atoms_left fs
atoms_left_append [] fs = refl
atoms_left_append (meets_link a i ∷ es) fs = atoms_left_append es fs
atoms_left_append (meets_term a i c ∷ es) fs = atoms_left_append es fs
atoms_left_append (leaves a ∷ es) fs = ap (λ xs. a ∷ xs) (atoms_left_append es fs)

module _ (s : Heap) (paired : Paired s) where
  split : (es fs : List Event) (c : ℕ) → In c (atoms_left (es ++ fs)) → In c (atoms_left es) ⊎ In c (atoms_left fs)
  split es fs c i = in_either c (atoms_left es) (atoms_left fs) (subst (In c) (atoms_left_append es fs) i)

  -- an atom is left on the walk over one of the items
  left_from : (xs : List ℕ) (es : List Event) → ItemsWalked s xs es → (c : ℕ) → In c (atoms_left es)
      → (b : ℕ) × In b xs × (ws : List Event) × WalkMeets s b 0 (ws ++ leaves b ∷ []) × In c (atoms_left (ws ++ leaves b ∷ []))
  left_from [] _ none c i = absurd i
  left_from (a ∷ xs) _ (more {fs = fs} es w h) c i = elim (split (es ++ leaves a ∷ []) fs c i) [
    | inl j ↦ (a, inl refl, es, w, j)
    | inr j ↦ (let r = left_from xs fs h c j in (r.0, inr r.1, r.2, r.3, r.4))
  ]

  all_left_once : (xs : List ℕ) (es : List Event) → Distinct xs → ItemsWalked s xs es → Distinct (atoms_left es)
  all_left_once [] _ d none = tt
  all_left_once (a ∷ xs) _ d (more {fs = fs} es w h) =
      subst Distinct (sym (atoms_left_append (es ++ leaves a ∷ []) fs))
      (both_distinct (atoms_left (es ++ leaves a ∷ [])) (atoms_left fs) (left_once s a 0 (es ++ leaves a ∷ []) w) (all_left_once xs fs d.1 h) (λ c i j.
      let r = left_from xs fs h c j in
      let same : a ≡ r.0 = sym (ended_item 0 a es) ∙ one_left s a r.0 c (es ++ leaves a ∷ []) (r.2 ++ leaves r.0 ∷ []) w r.3 i r.4 ∙ ended_item 0 r.0 r.2 in
      each_in (λ y. a ≢ y) xs r.0 d.0 r.1 same))

  -- the walks over all items leave few atoms
  pub few_items_left : AtMost (2 ^ 48) s → (xs : List ℕ) (es : List Event) → Distinct xs → ((a : ℕ) → In a xs → IsAtom s a) → ItemsWalked s xs es → length (atoms_left es) ≤ 2 ^ 48
  few_items_left most xs es d atoms h =
      let all = not_longer (atoms_left es) most.atoms (all_left_once xs es d h) (λ c i.
      let r = left_from xs es h c i in
      most.all_atoms c (left_there s paired r.0 0 (r.2 ++ leaves r.0 ∷ []) (atoms r.0 r.1) r.3 c r.4)) in
      let few = most.few in
      omega (arith, all, few)
