-- The index when what waits, or is gone, is freed.
use Rattle.std.proofs.Common.{ℕ, ◌≡◌, ◌≢◌, ◌⊎◌, List, [], Option, Some, None, IsSome, refl, sym, ap, subst, ◌∙◌, inl, inr}
use Rattle.std.specs.Prelude.{slice_index_or}
use Rattle.std.specs.Option.{option_map, option_and_then}
use Rattle.lmn_base.specs.Lists.{In}
use Rattle.lmn_store_heap.specs.Heap.{HeapMem, Place, top, within, waiting, gone, mems_in, mem_place_of}
use Rattle.lmn_store_counts.specs.RuleLists.{RuleList}
use Rattle.lmn_store_counts.specs.Counts.{Removes}
use Rattle.lmn_store_web_preorder.specs.Nests.{Nest}
use Rattle.lmn_web.specs.declared.kind.CellKind.TheVariants.{Membrane}
use Rattle.lmn_web.specs.Webs.{WebCell, web_label, StandOnce}
use Rattle.lmn_store_web.specs.Indexes.{IsIndexed, key_of}
use Rattle.lmn_store_web.specs.WebHeaps.{Posts, mems_of, heap_by}
use Rattle.lmn_store_web.specs.WebStores.{IsStored}
use Rattle.lmn_store_web.proofs.ReadLemmas.{mem_there, mems_is}
use Rattle.lmn_web_merging.proofs.Sending.{home_some}
use Rattle.lmn_store_web.proofs.IndexLemmas.{index_fewer, key_is}

-- a place is that of what is gone, or isn't
pub goes : (P : Place) → (P ≡ gone) ⊎ (P ≡ gone → ⊥)
goes top = inr (λ e. absurd (cc))
goes (within m) = inr (λ e. absurd (cc))
goes waiting = inr (λ e. absurd (cc))
goes gone = inl refl

-- that of what waits, or not
pub waits : (P : Place) → (P ≡ waiting) ⊎ (P ≡ waiting → ⊥)
waits top = inr (λ e. absurd (cc))
waits (within m) = inr (λ e. absurd (cc))
waits waiting = inl refl
waits gone = inr (λ e. absurd (cc))

labelled : (o : Option WebCell) → IsSome o → (l : ℕ) × (option_map (λ (c : WebCell). c.label) o ≡ Some l)
labelled None s = absurd (cc)
labelled (Some c) s = (c.label, refl)

-- a place without rules is the key of no membrane
pub vacant_key : (p : Posts) (t : List (Option RuleList)) (w : ℕ → Option WebCell) → IsStored p t w → (i : ℕ) → slice_index_or t i None ≡ None → (m : ℕ) → IsSome (mems_of p t w m) → key_of w m ≢ i
vacant_key p t w k i e m s f =
    let j = mem_there p t w m s in
    let h = k.rules m j.1 j.2 j.3 in
    let z : IsSome {T = RuleList} None = subst (λ (q : Option RuleList). IsSome q) (ap (λ l. slice_index_or t l None) (sym (key_is w m h.0 h.1.0) ∙ f) ∙ e) h.1.1 in absurd (cc)

module _ (p : Posts) (t : List (Option RuleList)) (w : ℕ → Option WebCell) (g : List (Option RuleList)) (v : ℕ → Option WebCell) (k : IsStored p t w) (o : StandOnce v) (labels : (y i : ℕ) → web_label v y ≡ Some i → web_label w y ≡ Some i)
    (u : HeapMem → Option HeapMem) (P : Place) (r : Removes (λ (x : HeapMem). x.place) u P) (decide : (Q : Place) → (Q ≡ P) ⊎ (Q ≡ P → ⊥)) (same : (y : ℕ) → mems_of p g v y ≡ option_and_then u (mems_of p t w y))
    (empty : (m : ℕ) → mem_place_of (heap_by p t w) m ≡ Some P → mems_in (heap_by p t w) m ≡ []) where
  left_or : (q : Option HeapMem) → (option_and_then u q ≡ q) ⊎ ((option_and_then u q ≡ None) × (option_map (λ x. x.place) q ≡ Some P))
  left_or None = inl refl
  left_or (Some x) = elim (decide x.place) [ inl e ↦ inr ((r x).0 e, ap (λ z. Some z) e) | inr d ↦ inl ((r x).1 d) ]

  was : (m : ℕ) → IsSome (mems_of p g v m) → mems_of p g v m ≡ mems_of p t w m
  was m i = elim (left_or (mems_of p t w m)) [
    | inl e ↦ same m ∙ e
    | inr e ↦ absurd (let z : IsSome {T = HeapMem} None = subst (λ (q : Option HeapMem). IsSome q) (same m ∙ e.0) i in cc)
  ]

  left : (m : ℕ) → IsSome (mems_of p t w m) → IsSome (mems_of p g v m) ⊎ (mems_in (heap_by p t w) m ≡ [])
  left m i = elim (left_or (mems_of p t w m)) [
    | inl e ↦ inl (subst (λ (q : Option HeapMem). IsSome q) (sym (same m ∙ e)) i)
    | inr e ↦ inr (empty m e.1)
  ]

  key_left : (y : ℕ) → IsSome (v y) → key_of v y ≡ key_of w y
  key_left y i = let l = labelled (v y) i in key_is v y l.0 l.1 ∙ sym (key_is w y l.0 (labels y l.0 l.1))

  members : (m y : ℕ) → IsSome (mems_of p g v m) → In y (mems_in (heap_by p g v) m) → key_of v y ≡ key_of w y
  members m y i l =
      let q = mem_there p g v m i in
      let home = (o.homes m y Membrane (subst (λ us. In y us) (mems_is p g v m q.1 q.2 q.3) l)).0 in
      key_left y (home_some (v y) (subst (λ (h : Option ℕ). IsSome h) (sym home) refl))

  used : (i : ℕ) → ((m : ℕ) → IsSome (mems_of p t w m) → key_of w m ≢ i) ⊎ ((m : ℕ) × IsSome (mems_of p t w m) × (key_of w m ≡ i))
  used i = by (slice_index_or t i None) refl
    where
      by : (q : Option RuleList) → slice_index_or t i None ≡ q → ((m : ℕ) → IsSome (mems_of p t w m) → key_of w m ≢ i) ⊎ ((m : ℕ) × IsSome (mems_of p t w m) × (key_of w m ≡ i))
      by None e = inl (vacant_key p t w k i e)
      by (Some x) e = let a = k.used i (subst (λ (q : Option RuleList). IsSome q) (sym e) refl) in inr (a.0, a.1, key_is w a.0 i a.2)

  -- the index holds the nest of what is left
  pub index_freed : (holds : Nest → Type 0) (ms : List ℕ) → IsIndexed holds ms (key_of w) (heap_by p t w) → IsIndexed holds ms (key_of v) (heap_by p g v)
  index_freed holds ms x = index_fewer holds ms (key_of w) (heap_by p t w) x (key_of v) (heap_by p g v) refl was left (λ m i. key_left m (mem_there p g v m i).0) members used
