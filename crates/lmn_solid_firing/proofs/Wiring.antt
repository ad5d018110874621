-- The connectors of a head, by a list of its ends.
use Rattle.std.proofs.Common.{ℕ, zero, suc, ◌≡◌, ◌+◌, ◌-◌, ◌<◌, ◌⊎◌, inl, inr, Bool, true, false, List, [], ◌∷◌, ◌++◌, map, refl, sym, ap, subst, ◌∙◌, arith}
use Rattle.std.specs.Prelude.{Some, cond, ◌==◌, slice_get, slice_index_or}
use Rattle.std.proofs.lemmas.Bool.{eqb-true}
use Rattle.std.proofs.lemmas.List.{append_assoc}
use Rattle.std.proofs.lemmas.Option.{same_Some}
use Rattle.lmn_base.specs.Graphs.{Port}
use Rattle.lmn_base.proofs.Lists.{map_append}
use Rattle.lmn_base.proofs.Numbers.{equal_itself}
use Rattle.lmn_congruence.specs.LinkedRules.{level_occurrences}
use Rattle.lmn_congruence.specs.Rules.{Level}
use Rattle.lmn_solid_heads.specs.Embeddings.{HasLink}
use Rattle.lmn_compile_head.specs.Heads.{IsHead}
use Rattle.lmn_adequacy_turns.proofs.HeadLinks.{has_port}
use Rattle.lmn_solid_firing.specs.Meant.{wire_pairs}
use Rattle.lmn_solid_heads.specs.declared.items.HeadItem.{HeadItem}
use Rattle.lmn_solid_heads.specs.Heads.{HeadAtom, at_atoms, at_ports, atoms_of, links_of_head, times, typed_contexts_of}
use Rattle.lmn_solid_heads.proofs.Common.{port_links, times_append}
use Rattle.lmn_solid_bodies.specs.Flattening.{membrane_named}
use Rattle.lmn_solid_tables.specs.Flats.{link_at}
use Rattle.lmn_solid_tables.specs.declared.flat.Flat.{Flat}
use Rattle.lmn_solid_firing.specs.Pieces.{ends_at, ends_from, links_at, wire, wires}

-- ---- links

ends_links : (flat : Flat) (b i : ℕ) (xs : List ℕ) → links_at (ends_at flat b i xs) ≡ xs
ends_links flat b i [] = refl
ends_links flat b i (x ∷ xs) = ap (λ ys. x ∷ ys) (ends_links flat b (suc i) xs)

all_links : (flat : Flat) (images : List ℕ) (n m : ℕ) (as' : List HeadAtom) → map (λ o. o.link) (at_atoms m as') ≡ links_at (ends_from flat images n as')
all_links flat images n m [] = refl
all_links flat images n m (a ∷ as') =
    map_append (λ o. o.link) (at_ports m 0 a.links) (at_atoms (m + 1) as')
    ∙ (λ i. port_links m 0 a.links i ++ all_links flat images (suc n) (m + 1) as' i)
    ∙ sym (map_append (λ e. e.0) (ends_at flat (slice_index_or images n 0) 0 a.links) (ends_from flat images (suc n) as') ∙ ap (λ ys. ys ++ links_at (ends_from flat images (suc n) as')) (ends_links flat (slice_index_or images n 0) 0 a.links))

-- how often a link stands in a head
pub times_split : (flat : Flat) (images : List ℕ) (items : List HeadItem) (x : ℕ) →
    times x (links_of_head items) ≡ times x (links_at (ends_from flat images 0 (atoms_of items))) + times x (map (λ t. t.link) (typed_contexts_of items))
times_split flat images items x =
    times_append x (map (λ o. o.link) (at_atoms 0 (atoms_of items))) (map (λ t. t.link) (typed_contexts_of items))
    ∙ ap (λ ls. times x ls + times x (map (λ t. t.link) (typed_contexts_of items))) (all_links flat images 0 0 (atoms_of items))

-- ---- rounds of loops

-- a wire more
pub wire_added : (F : ℕ) (ends : List (ℕ × ℕ)) (typed : List ℕ) (n k : ℕ) (former now whole : List (ℕ × ℕ)) → now ≡ former ++ wire F ends typed k → 0 < n → k ≡ n - 1 →
    former ++ wires F ends typed n ≡ whole → now ++ wires F ends typed (n - 1) ≡ whole
wire_added F ends typed n k former now whole is pos e d = by n pos e d
  where
    by : (n : ℕ) → 0 < n → k ≡ n - 1 → former ++ wires F ends typed n ≡ whole → now ++ wires F ends typed (n - 1) ≡ whole
    by zero pos e d = absurd (omega (arith, pos))
    by (suc n) pos e d =
        let m : suc n - 1 ≡ n = omega arith in let g : k ≡ n = e ∙ m in
        ap (λ j. now ++ wires F ends typed j) m ∙
        ap (λ zs. zs ++ wires F ends typed n) is
        ∙ append_assoc former (wire F ends typed k) (wires F ends typed n)
        ∙ ap (λ j. former ++ (wire F ends typed j ++ wires F ends typed n)) g
        ∙ d

-- ---- the end of a link

-- a link stands at an end of an atom, which is found first, or at none of them
at_port : (flat : Flat) (b i : ℕ) (xs : List ℕ) (es : List (ℕ × ℕ)) (x : ℕ) →
    ((j : ℕ) × (slice_get xs j ≡ Some x) × (membrane_named (ends_at flat b i xs ++ es) x ≡ link_at flat b (i + j)))
    ⊎ (((j : ℕ) → slice_get xs j ≡ Some x → ⊥) × (membrane_named (ends_at flat b i xs ++ es) x ≡ membrane_named es x))
at_port flat b i [] es x = inr ((λ j e. absurd (cc)), refl)
at_port flat b i (y ∷ xs) es x = by (y == x) refl (at_port flat b (suc i) xs es x)
  where
    others : List (ℕ × ℕ)
    others = ends_at flat b (suc i) xs ++ es

    by : (t : Bool) → (y == x) ≡ t →
        ((j : ℕ) × (slice_get xs j ≡ Some x) × (membrane_named (ends_at flat b (suc i) xs ++ es) x ≡ link_at flat b (suc i + j)))
        ⊎ (((j : ℕ) → slice_get xs j ≡ Some x → ⊥) × (membrane_named (ends_at flat b (suc i) xs ++ es) x ≡ membrane_named es x)) →
        ((j : ℕ) × (slice_get (y ∷ xs) j ≡ Some x) × (membrane_named (ends_at flat b i (y ∷ xs) ++ es) x ≡ link_at flat b (i + j)))
        ⊎ (((j : ℕ) → slice_get (y ∷ xs) j ≡ Some x → ⊥) × (membrane_named (ends_at flat b i (y ∷ xs) ++ es) x ≡ membrane_named es x))
    by true e r = let z : i ≡ i + 0 = omega arith in inl (0, ap Some (eqb-true y x e), ap (λ s. cond s (link_at flat b i) (membrane_named (ends_at flat b (suc i) xs ++ es) x)) e ∙ ap (link_at flat b) z)
    by false e (inl r) =
        let z : suc i + r.0 ≡ i + suc r.0 = omega arith in
        inl (suc r.0, r.1, ap (λ s. cond s (link_at flat b i) (membrane_named (ends_at flat b (suc i) xs ++ es) x)) e ∙ r.2 ∙ ap (link_at flat b) z)
    by false e (inr r) = inr (none e r.0, ap (λ s. cond s (link_at flat b i) (membrane_named (ends_at flat b (suc i) xs ++ es) x)) e ∙ r.1)
      where
        none : (y == x) ≡ false → ((j : ℕ) → slice_get xs j ≡ Some x → ⊥) → (j : ℕ) → slice_get (y ∷ xs) j ≡ Some x → ⊥
        none e n zero d = let f = same_Some y x d in let g : (x == x) ≡ false = subst (λ (w : ℕ). (w == x) ≡ false) f e in let k = equal_itself x in absurd (cc)
        none e n (suc j) d = n j d

-- where a link stands at a port of an atom, its first end is that of the solid at such a port
pub first_end : (flat : Flat) (images : List ℕ) (n : ℕ) (as' : List HeadAtom) (x k i : ℕ) (a : HeadAtom) → slice_get as' k ≡ Some a → slice_get a.links i ≡ Some x →
    (m : ℕ) × (j : ℕ) × (b : HeadAtom) × (slice_get as' m ≡ Some b) × (slice_get b.links j ≡ Some x) × (membrane_named (ends_from flat images n as') x ≡ link_at flat (slice_index_or images (n + m) 0) j)
first_end flat images n [] x k i a e d = absurd (cc)
first_end flat images n (c ∷ as') x k i a e d = by (at_port flat (slice_index_or images n 0) 0 c.links (ends_from flat images (suc n) as') x) k e (λ k e. first_end flat images (suc n) as' x k i a e d)
  where
    by : ((j : ℕ) × (slice_get c.links j ≡ Some x) × (membrane_named (ends_from flat images n (c ∷ as')) x ≡ link_at flat (slice_index_or images n 0) (0 + j)))
        ⊎ (((j : ℕ) → slice_get c.links j ≡ Some x → ⊥) × (membrane_named (ends_from flat images n (c ∷ as')) x ≡ membrane_named (ends_from flat images (suc n) as') x)) →
        (k : ℕ) → slice_get (c ∷ as') k ≡ Some a →
        ((k : ℕ) → slice_get as' k ≡ Some a → (m : ℕ) × (j : ℕ) × (b : HeadAtom) × (slice_get as' m ≡ Some b) × (slice_get b.links j ≡ Some x) × (membrane_named (ends_from flat images (suc n) as') x ≡ link_at flat (slice_index_or images (suc n + m) 0) j)) →
        (m : ℕ) × (j : ℕ) × (b : HeadAtom) × (slice_get (c ∷ as') m ≡ Some b) × (slice_get b.links j ≡ Some x) × (membrane_named (ends_from flat images n (c ∷ as')) x ≡ link_at flat (slice_index_or images (n + m) 0) j)
    by (inl r) k e more =
        let z : n ≡ n + 0 = omega arith in let y : 0 + r.0 ≡ r.0 = omega arith in
        (0, r.0, c, refl, r.1, r.2 ∙ (λ j. link_at flat (slice_index_or images (z j) 0) (y j)))
    by (inr r) zero e more = absurd (r.0 i (subst (λ (b : HeadAtom). slice_get b.links i ≡ Some x) (sym (same_Some c a e)) d))
    by (inr r) (suc k) e more =
        let w = more k e in
        let z : suc n + w.0 ≡ n + suc w.0 = omega arith in
        (suc w.0, w.1, w.2, w.3, w.4, r.1 ∙ w.5 ∙ ap (λ j. link_at flat (slice_index_or images j 0) w.1) z)

-- ---- the whole

module _ (flat : Flat) (images : List ℕ) (items : List HeadItem) (is : IsHead items) (F : ℕ) (link_of : ℕ → ℕ) (l : Level)
    (linked : (x : ℕ) (p : Port) → HasLink items x p → link_of x ≡ link_at flat (slice_index_or images p.0 0) p.1)
    (occurs : (x : ℕ) → times x (links_of_head items) ≡ level_occurrences x l) where
  abbrev ends : List (ℕ × ℕ)
  ends = ends_from flat images 0 (atoms_of items)

  abbrev typed : List ℕ
  typed = map (λ t. t.link) (typed_contexts_of items)

  -- the end of a link that stands once
  once_is : (x : ℕ) → times x (links_at ends) + times x typed ≡ 1 → membrane_named ends x ≡ link_of x
  once_is x once =
      let p = has_port items is x (times_split flat images items x ∙ once) in
      let w = first_end flat images 0 (atoms_of items) x p.0.0 p.0.1 p.1.0 p.1.1 p.1.2 in
      let z : 0 + w.0 ≡ w.0 = omega arith in
      w.5 ∙ ap (λ k. link_at flat (slice_index_or images k 0) w.1) z ∙ sym (linked x (w.0, w.1) (w.2, w.3, w.4))

  step : (t : Bool) (k j : ℕ) (u v : ℕ × ℕ) (ws vs : List (ℕ × ℕ)) → j ≡ k → (k == 1) ≡ t → (k ≡ 1 → u ≡ v) → ws ≡ vs → cond (k == 1) (u ∷ []) [] ++ ws ≡ cond (j == 1) (v ∷ vs) vs
  step true k j u v ws vs e t g s =
      let h = g (eqb-true k 1 t) in
      ap (λ c. cond c (u ∷ []) [] ++ ws) t ∙ (λ i. h i ∷ s i) ∙ sym (ap (λ c. cond c (v ∷ vs) vs) (ap (λ z. z == 1) e ∙ t))
  step false k j u v ws vs e t g s =
      ap (λ c. cond c (u ∷ []) [] ++ ws) t ∙ s ∙ sym (ap (λ c. cond c (v ∷ vs) vs) (ap (λ z. z == 1) e ∙ t))

  -- the wires are those of the head
  pub wires_are : (R : ℕ) → wires F ends typed R ≡ wire_pairs F link_of l R
  wires_are zero = refl
  wires_are (suc n) =
      let k = times n (links_at ends) + times n typed in
      step (k == 1) k (level_occurrences n l) (F + n, membrane_named ends n) (F + n, link_of n) (wires F ends typed n) (wire_pairs F link_of l n)
      (sym (occurs n) ∙ times_split flat images items n) refl (λ once. ap (λ y. (F + n, y)) (once_is n once)) (wires_are n)
