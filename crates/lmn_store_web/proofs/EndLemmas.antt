-- `finish` and `discard`: what may be freed, and the heap afterwards.
use Rattle.std.proofs.Common.{◌≡◌, ◌≢◌, ◌⊎◌, ℕ, List, [], Option, Some, None, IsSome, refl, sym, ap, subst, ◌∙◌, inl, inr}
use Rattle.std.specs.Option.{option_and_then}
use Rattle.lmn_base.specs.Lists.{In}
use Rattle.lmn_store_heap.specs.Heap.{Heap, HeapAtom, HeapMem, top, within, waiting, gone, home_by, place_of, mem_place_of, home_of, unless_gone, unless_waiting, mem_unless_gone, mem_unless_waiting, finished, discarded}
use Rattle.lmn_store_heap.specs.Conditions.{Alone, Ready}
use Rattle.lmn_store_counts.specs.RuleLists.{RuleList}
use Rattle.lmn_store_counts.specs.Counts.{HasCounts, Removes}
use Rattle.lmn_store_counts.proofs.PlaceLemmas.{removes_gone, removes_waiting, mem_removes_gone, mem_removes_waiting}
use Rattle.lmn_web.specs.declared.kind.CellKind.{CellKind}
use Rattle.lmn_web.specs.declared.kind.CellKind.TheVariants.{Atom, Membrane}
use Rattle.lmn_web.specs.Webs.{WebCell, kind_at, home_at, partner_at, cells_in, StandOnce, IsPaired}
use Rattle.lmn_store_web.specs.WebHeaps.{Posts, place_at, atoms_of, is_post, mems_of, heap_by}
use Rattle.lmn_store_web.specs.WebStores.{IsStored}
use Rattle.lmn_store_web.specs.Frees.{CanFree, Frees}
use Rattle.lmn_store_web.proofs.ReadLemmas.{Stand, stand, at_top, at_line, at_gone, at_mem, waits_in, waits_back, atom_there, place_is, home_is, mem_place_is, atoms_is, mems_is}
use Rattle.lmn_store_web.proofs.SoundLemmas.{Formed, link_is, linked_there, no_line, no_end}
use Rattle.lmn_web_merging.proofs.Sending.{home_some}
use Rattle.lmn_store_web.proofs.PlaceLemmas.{gone_place}
use Rattle.lmn_store_web.proofs.FreeLemmas.{atom_place, mem_place}

-- the home of what is gone
gone_back : (p : Posts) (h : Option ℕ) → place_at p h ≡ gone → h ≡ Some p.gone
gone_back p h e = by (stand p h)
  where
    by : Stand p h (place_at p h) → h ≡ Some p.gone
    by (at_top a b) = let w : top ≡ gone = sym b ∙ e in absurd (cc)
    by (at_line a b) = let w : waiting ≡ gone = sym b ∙ e in absurd (cc)
    by (at_gone a b) = a
    by (at_mem k a b c d) = let w : within k ≡ gone = sym b ∙ e in absurd (cc)

module _ (p : Posts) (t : List (Option RuleList)) (w : ℕ → Option WebCell) (k : IsStored p t w) (l : StandOnce w) (r : IsPaired w) (c : Formed w) (n m s : ℕ) (counts : HasCounts (atoms_of p w) (mems_of p t w) n m s) where
  abbrev H : Heap
  H = heap_by p t w

  no_root : (b : ℕ) → kind_at w b ≡ Atom → (b ≡ p.root) ⊎ (b ≡ p.waiting) ⊎ (b ≡ p.gone) → ⊥
  no_root b e (inl q) = let z : Atom ≡ Membrane = sym e ∙ ap (kind_at w) q ∙ k.root in absurd (cc)
  no_root b e (inr (inl q)) = let z : Atom ≡ Membrane = sym e ∙ ap (kind_at w) q ∙ k.waiting in absurd (cc)
  no_root b e (inr (inr q)) = let z : Atom ≡ Membrane = sym e ∙ ap (kind_at w) q ∙ k.gone in absurd (cc)

  -- where an atom with a partner is
  where_is : (a i b j : ℕ) → partner_at w a i ≡ Some (b, j) → IsSome (w a) × (kind_at w a ≡ Atom) × (place_of H a ≡ Some (place_at p (home_at w a)))
  where_is a i b j e = let q = atom_there p t w a (linked_there p t w k l r c a i (b, j) e) in (q.0, q.1, place_is p t w a q.1 q.0)

  -- what is gone may be freed
  pub finish_free : Ready H → CanFree p p.gone t w n m s
  finish_free ready = record { line = inr refl; stored = k; counts = counts; closed = closed; empty = empty }
    where
      closed : (a i b j : ℕ) → home_at w a ≡ Some p.gone → partner_at w a i ≡ Some (b, j) → home_at w b ≡ Some p.gone
      closed a i b j e q = by (stand p (home_at w b))
        where
          back : partner_at w b j ≡ Some (a, i)
          back = r.back a i b j q

          at : IsSome (w b) × (kind_at w b ≡ Atom) × (place_of H b ≡ Some (place_at p (home_at w b)))
          at = where_is b j a i back

          by : Stand p (home_at w b) (place_at p (home_at w b)) → home_at w b ≡ Some p.gone
          by (at_top h f) = absurd (no_root b at.1 ((k.homeless b at.0).0 h))
          by (at_line h f) = absurd (subst (λ us. In b us) ready.no_atoms (subst (λ j. In b (cells_in w p.waiting j)) at.1 (l.listed p.waiting b h)))
          by (at_gone h f) = h
          by (at_mem y h f d g) =
              let home : home_of H b ≡ Some y = home_is p t w b at.1 at.0 ∙ ap home_by f in
              let gone_a : place_of H a ≡ Some gone = (where_is a i b j q).2 ∙ ap (λ o. Some (place_at p o)) e ∙ ap Some (gone_place p t k.apart) in
              absurd (ready.kept b j a i (subst (λ (o : Option ℕ). IsSome o) (sym home) refl) (link_is p t w k l r c b j ∙ back) gone_a)

      empty : (a : ℕ) (j : CellKind) → home_at w a ≡ Some p.gone → cells_in w a j ≡ []
      empty a j e = by (kind_at w a) refl j
        where
          there : IsSome (w a)
          there = home_some (w a) (subst (λ (o : Option ℕ). IsSome o) (sym e) refl)

          by : (q : CellKind) → kind_at w a ≡ q → (j : CellKind) → cells_in w a j ≡ []
          by Atom q j = l.bare a j q
          by Membrane q Atom = sym (atoms_is p t w a q (no_line p t w k l r c a p.gone e) (no_end p t w k l r c a p.gone e)) ∙ (ready.empty a (at q)).0
            where
              at : kind_at w a ≡ Membrane → mem_place_of H a ≡ Some gone
              at q = mem_place_is p t w a q (no_line p t w k l r c a p.gone e) (no_end p t w k l r c a p.gone e) there ∙ ap (λ o. Some (place_at p o)) e ∙ ap Some (gone_place p t k.apart)
          by Membrane q Membrane = sym (mems_is p t w a q (no_line p t w k l r c a p.gone e) (no_end p t w k l r c a p.gone e)) ∙ (ready.empty a (at q)).1
            where
              at : kind_at w a ≡ Membrane → mem_place_of H a ≡ Some gone
              at q = mem_place_is p t w a q (no_line p t w k l r c a p.gone e) (no_end p t w k l r c a p.gone e) there ∙ ap (λ o. Some (place_at p o)) e ∙ ap Some (gone_place p t k.apart)

  -- and what waits
  pub discard_free : Alone H → CanFree p p.waiting t w n m s
  discard_free alone = record {
    line = inl refl;
    stored = k;
    counts = counts;
    closed = λ a i b j e q.
        let waits : place_of H a ≡ Some waiting = (where_is a i b j q).2 ∙ ap (λ o. Some (place_at p o)) e ∙ ap Some (waits_in p) in
        let there : place_of H b ≡ Some waiting = alone a i b j waits (link_is p t w k l r c a i ∙ q) in
        let at : Some (place_at p (home_at w b)) ≡ Some waiting = sym (where_is b j a i (r.back a i b j q)).2 ∙ there in
        waits_back p (home_at w b) (cc);
    empty = k.bare;
  }

-- Nothing stands in the line any more

module _ (p : Posts) (l : ℕ) (t : List (Option RuleList)) (w : ℕ → Option WebCell) (g : List (Option RuleList)) (v : ℕ → Option WebCell) (f : Frees p l t w g v) (o : StandOnce v) (back : (h : Option ℕ) → place_at p h ≡ place_at p (Some l) → h ≡ Some l)
    (none : (j : CellKind) → cells_in v l j ≡ []) where
  no_home : (y : ℕ) → home_at v y ≡ Some l → ⊥
  no_home y e = subst (λ us. In y us) (none (kind_at v y)) (o.listed l y e)

  all_atoms : (u : HeapAtom → Option HeapAtom) → Removes (λ (x : HeapAtom). x.place) u (place_at p (Some l)) → atoms_of p v ≡ (λ y. option_and_then u (atoms_of p w y))
  all_atoms u r = λ i y. (by (atoms_of p v y) (λ x e q. no_home y (back (home_at v y) (sym (atom_place p t (v y) x e) ∙ q))) ∙ f.atoms u r y) i
    where
      by : (q : Option HeapAtom) → ((x : HeapAtom) → q ≡ Some x → x.place ≡ place_at p (Some l) → ⊥) → q ≡ option_and_then u q
      by None d = refl
      by (Some x) d = sym ((r x).1 (d x refl))

  all_mems : (u : HeapMem → Option HeapMem) → Removes (λ (x : HeapMem). x.place) u (place_at p (Some l)) → mems_of p g v ≡ (λ y. option_and_then u (mems_of p t w y))
  all_mems u r = λ i y. (by (mems_of p g v y) (λ x e q. no_home y (back (home_at v y) (sym (mem_place p g (is_post p y) (v y) x e) ∙ q))) ∙ f.mems u r y) i
    where
      by : (q : Option HeapMem) → ((x : HeapMem) → q ≡ Some x → x.place ≡ place_at p (Some l) → ⊥) → q ≡ option_and_then u q
      by None d = refl
      by (Some x) d = sym ((r x).1 (d x refl))

both_none : (v : ℕ → Option WebCell) (l : ℕ) → cells_in v l Atom ≡ [] → cells_in v l Membrane ≡ [] → (j : CellKind) → cells_in v l j ≡ []
both_none v l a b Atom = a
both_none v l a b Membrane = b

module _ (p : Posts) (t : List (Option RuleList)) (w : ℕ → Option WebCell) (g : List (Option RuleList)) (v : ℕ → Option WebCell) (o : StandOnce v) (apart : p.waiting ≢ p.gone) where
  -- all that was gone is freed
  pub finished_heap : Frees p p.gone t w g v → cells_in v p.gone Atom ≡ [] → cells_in v p.gone Membrane ≡ [] → heap_by p g v ≡ finished (heap_by p t w)
  finished_heap f a b =
      let at = gone_place p t apart in
      let back : (h : Option ℕ) → place_at p h ≡ place_at p (Some p.gone) → h ≡ Some p.gone = λ h e. gone_back p h (e ∙ at) in
      let none = both_none v p.gone a b in
      let atoms = all_atoms p p.gone t w g v f o back none unless_gone (subst (λ P. Removes (λ (x : HeapAtom). x.place) unless_gone P) (sym at) removes_gone) in
      let mems = all_mems p p.gone t w g v f o back none mem_unless_gone (subst (λ P. Removes (λ (x : HeapMem). x.place) mem_unless_gone P) (sym at) mem_removes_gone) in
      λ i. record { root = p.root; atoms = atoms i; mems = mems i; new_atoms = f.others Atom (λ e. apart (sym e)) i; new_mems = f.others Membrane (λ e. apart (sym e)) i }

  -- all that waited is freed
  pub discarded_heap : Frees p p.waiting t w g v → cells_in v p.waiting Atom ≡ [] → cells_in v p.waiting Membrane ≡ [] → heap_by p g v ≡ discarded (heap_by p t w)
  discarded_heap f a b =
      let at = waits_in p in
      let back : (h : Option ℕ) → place_at p h ≡ place_at p (Some p.waiting) → h ≡ Some p.waiting = λ h e. waits_back p h (e ∙ at) in
      let none = both_none v p.waiting a b in
      let atoms = all_atoms p p.waiting t w g v f o back none unless_waiting (subst (λ P. Removes (λ (x : HeapAtom). x.place) unless_waiting P) (sym at) removes_waiting) in
      let mems = all_mems p p.waiting t w g v f o back none mem_unless_waiting (subst (λ P. Removes (λ (x : HeapMem). x.place) mem_unless_waiting P) (sym at) mem_removes_waiting) in
      λ i. record { root = p.root; atoms = atoms i; mems = mems i; new_atoms = a i; new_mems = b i }
