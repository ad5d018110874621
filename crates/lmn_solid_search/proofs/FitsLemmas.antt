-- Links that lead to those of earlier atoms.
use Rattle.std.proofs.Common.{◌≡◌, ◌≢◌, ◌∙◌, ℕ, ◌+◌, ◌<◌, ◌≤◌, List, length, slice_get, slice_index_or, Some, sym, ap, subst, inl, inr, arith}
use Rattle.std.proofs.lemmas.Option.{same_Some}
use Rattle.std.proofs.lemmas.Bool.{cases_eq}
use Rattle.lmn_base.specs.Graphs.{Port}
use Rattle.lmn_base.proofs.Lists.{get_below, get_index}
use Rattle.lmn_store_heap.specs.Heap.{Heap, link_of}
use Rattle.lmn_solid_search.specs.Taking.{StandsAt, image_port, PortFits, PortFitsTo, LinksFit}
use Rattle.lmn_solid_search.specs.declared.head.AtomItem.{AtomItem}

module _ (h : Heap) (atoms : List AtomItem) (images : List ℕ) (p : Port) (x m : ℕ) (a : AtomItem) (links : List ℕ) (at : slice_get atoms m ≡ Some a) (is : links ≡ a.links) where
  -- a port that fits one atom leads to its ports,
  pub fits_atom : PortFitsTo h atoms images p x m → (j : ℕ) → slice_get links j ≡ Some x → ◌≢◌ {A = ℕ × ℕ} (m, j) p → link_of h (slice_index_or images p.0 0) p.1 ≡ Some (slice_index_or images m 0, j)
  fits_atom f j e d = f j (a, at, ap (λ (ls : List ℕ). slice_get ls j) (sym is) ∙ e) d

  -- and is one where it leads to those of each
  pub fits_more : ((j : ℕ) → slice_get links j ≡ Some x → ◌≢◌ {A = ℕ × ℕ} (m, j) p → link_of h (slice_index_or images p.0 0) p.1 ≡ Some (slice_index_or images m 0, j))
      → ((q : Port) → q.0 < m → StandsAt atoms x q → ◌≢◌ {A = ℕ × ℕ} q p → link_of h (slice_index_or images p.0 0) p.1 ≡ Some (image_port images q))
      → (q : Port) → q.0 < m + 1 → StandsAt atoms x q → ◌≢◌ {A = ℕ × ℕ} q p → link_of h (slice_index_or images p.0 0) p.1 ≡ Some (image_port images q)
  fits_more here before q l s d = elim (cases_eq q.0 m) [
    | inr apart ↦ before q (omega (arith, l, apart)) s d
    | inl same ↦ (
        let b : s.0 ≡ a = same_Some _ _ (sym s.1 ∙ subst (λ (n : ℕ). slice_get atoms n ≡ Some a) (sym same) at) in
        let e : slice_get links q.1 ≡ Some x = ap (λ (ls : List ℕ). slice_get ls q.1) (is ∙ sym (ap (λ (c : AtomItem). c.links) b)) ∙ s.2 in
        here q.1 e (λ g. d ((λ i. (same i, q.1)) ∙ g)) ∙ ap (λ (n : ℕ). Some (slice_index_or images n 0, q.1)) (sym same))
  ]

module _ (h : Heap) (atoms : List AtomItem) (images : List ℕ) (n : ℕ) (a : AtomItem) (links : List ℕ) (at : slice_get atoms n ≡ Some a) (is : links ≡ a.links) where
  pub stands : (i x : ℕ) → slice_get links i ≡ Some x → StandsAt atoms x (n, i)
  stands i x e = (a, at, ap (λ (ls : List ℕ). slice_get ls i) (sym is) ∙ e)

  link_there : (i x : ℕ) → StandsAt atoms x (n, i) → slice_get links i ≡ Some x
  link_there i x s = ap (λ (ls : List ℕ). slice_get ls i) (is ∙ sym (ap (λ (c : AtomItem). c.links) (same_Some _ _ (sym s.1 ∙ at)))) ∙ s.2

  -- all links of an atom fit where each does
  pub links_more : (k : ℕ) → k < length links → PortFits h atoms images (n, k) (slice_index_or links k 0) → ((i x : ℕ) → i < k → StandsAt atoms x (n, i) → PortFits h atoms images (n, i) x)
      → (i x : ℕ) → i < k + 1 → StandsAt atoms x (n, i) → PortFits h atoms images (n, i) x
  links_more k low here before i x l s = elim (cases_eq i k) [
    | inr apart ↦ before i x (omega (arith, l, apart)) s
    | inl same ↦ (
        let e : x ≡ slice_index_or links k 0 = same_Some _ _ (sym (link_there i x s) ∙ ap (slice_get links) same ∙ get_index links k low) in
        subst (λ (j : ℕ). PortFits h atoms images (n, j) x) (sym same) (subst (PortFits h atoms images (n, k)) (sym e) here))
  ]

  pub links_all : (k : ℕ) → length links ≤ k → ((i x : ℕ) → i < k → StandsAt atoms x (n, i) → PortFits h atoms images (n, i) x) → LinksFit h atoms images n
  links_all k l f i x s = f i x (let b = get_below links i x (link_there i x s) in omega (arith, b, l)) s
