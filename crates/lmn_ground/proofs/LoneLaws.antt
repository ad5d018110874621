-- A part that is entered at the one port of an atom is that atom.
use Rattle.std.proofs.Common.{◌≡◌, ℕ, zero, suc, ◌<◌, Bool, true, false, List, [], ◌∷◌, ◌++◌, length, Option, Some, None, refl, sym, ap, subst, ◌∙◌, inl, inr, arith}
use Rattle.std.specs.Prelude.{◌==◌, ◌&&◌}
use Rattle.std.proofs.lemmas.Bool.Decides.{Decides-eqb}
use Rattle.lmn_base.specs.declared.functor.Functor.{Functor}
use Rattle.lmn_base.specs.Graphs.{Reached, SameGraph}
use Rattle.lmn_base.specs.Lists.{In}
use Rattle.lmn_store_heap.specs.Heap.{Heap, HeapAtom, IsAtom, partners_of, arity_of, functor_of, link_of, made_atom}
use Rattle.lmn_store_heap.specs.Sound.{Sound}
use Rattle.lmn_store_heap.specs.Graphs.{atom_map}
use Rattle.lmn_ground_parts.specs.Walks.{is_port, neighbour, port_range, HasPort, IsPartInDepth, net}
use Rattle.lmn_ground_parts.specs.Copies.{made_as, made_like, joined_like, all_joined, copied, answer, AreNew, AllAtoms, LeadsOut, Beside, Copied}
use Rattle.lmn_ground_parts.proofs.WalkLaws.{all_seen}
use Rattle.lmn_ground.specs.Copies.{Remains}
use Rattle.lmn_ground.specs.Spread.{AreAtoms, AtomFits, IsWhole}
use Rattle.lmn_ground.proofs.SoughtLaws.{next_root}
use Rattle.lmn_ground.proofs.GroundLaws.{part_atoms, one_size}
use Rattle.lmn_ground.proofs.CopiedLaws.{made_beside, copied_same, answers_are, copied_part, copied_free, copied_beside}
use Rattle.lmn_ground_parts.proofs.AnswerLaws.{answer_here}
use Rattle.lmn_store_heap.proofs.Common.{is_not}
use Rattle.lmn_ground_parts.proofs.Common.{made_away}

-- where both hold they hold together
both : (b c : Bool) → b ≡ true → c ≡ true → (b && c) ≡ true
both true c e f = f
both false c e f = e

-- equal ports are told to be
is_same : (p q : ℕ × ℕ) → p.0 ≡ q.0 → p.1 ≡ q.1 → is_port p q ≡ true
is_same p q e f = both (p.0 == q.0) (p.1 == q.1) ((Decides-eqb p.0 q.0).1 e) ((Decides-eqb p.1 q.1).1 f)

-- where only the root is to be joined nothing is
like_root : (f : ℕ → ℕ) (root : ℕ × ℕ) (h : Heap) (p : ℕ × ℕ) → is_port p root ≡ true → joined_like f root h p ≡ h
like_root f root h p e = rw e refl

joins_none : (f : ℕ → ℕ) (root : ℕ × ℕ) (h : Heap) (ps : List (ℕ × ℕ)) → ((p : ℕ × ℕ) → HasPort p ps → is_port p root ≡ true) → all_joined f root h ps ≡ h
joins_none f root h [] t = refl
joins_none f root h (p ∷ ps) t = ap (λ (k : Heap). all_joined f root k ps) (like_root f root h p (t p (inl refl))) ∙ joins_none f root h ps (λ q k. t q (inr k))

module _ (s : Heap) (root : ℕ × ℕ) (one : arity_of s root.0 ≡ 1) (port : root.1 < arity_of s root.0) where
  only_port : (p : ℕ × ℕ) (n : ℕ) → n ≡ 1 → HasPort p (port_range root.0 0 n) → (p.0 ≡ root.0) × (p.1 ≡ root.1)
  only_port p zero e h = absurd h
  only_port p (suc zero) e (inl k) = (sym (ap (λ q. q.0) k), (let z : p.1 ≡ 0 = sym (ap (λ q. q.1) k) in omega (arith, z, one, port)))
  only_port p (suc zero) e (inr h) = absurd h
  only_port p (suc (suc n)) e h = absurd (omega (arith, e))

  -- the walk finds it
  pub lone_part : IsPartInDepth s root (root.0 ∷ [])
  lone_part = all_seen (net s).arity (neighbour (net s) root (λ _. true)) (root.0 ∷ []) (port_range root.0 0 (arity_of s root.0)) (λ p b h e.
      let k = only_port p (arity_of s root.0) one h in
      let z = next_root (net s) root (λ _. true) p (is_same p root k.0 k.1) in
      absurd (cc))

  pub lone_reached : (a : ℕ) → Reached (atom_map s) root a → root.0 ≡ a
  lone_reached a r = elim (((part_atoms s root (root.0 ∷ []) lone_part).1 a).1 r) [ inl e ↦ e | inr e ↦ absurd e ]

  pub lone_size : (xs : List ℕ) → AreAtoms s root xs → 1 ≡ length xs
  lone_size xs are = one_size s root (root.0 ∷ []) xs lone_part are

  -- and where it fits, the whole does
  pub lone_whole : (home : Option ℕ) → AtomFits s home root.0 → IsWhole s root home
  lone_whole home f = record {
    atoms = λ a r. subst (AtomFits s home) (lone_reached a r) f;
    ends = λ a i r l d. absurd (d (
        let e : a ≡ root.0 = sym (lone_reached a r) in
        let m = subst (λ (z : ℕ). i < arity_of s z) e l in
        let k : i ≡ root.1 = omega (arith, m, one, port) in
        λ z. (e z, k z)));
  }

  only_port_of : (p : ℕ × ℕ) (n : ℕ) → n ≡ 1 → HasPort p (port_range root.0 0 n ++ []) → is_port p root ≡ true
  only_port_of p zero e h = absurd h
  only_port_of p (suc zero) e h = let k = only_port p 1 refl h in is_same p root k.0 k.1
  only_port_of p (suc (suc n)) e h = absurd (omega (arith, e))

  made_alone : IsAtom s root.0 → (c : ℕ) (f : Functor) → functor_of s root.0 ≡ Some f → s.atoms c ≡ None → made_atom s c f ≡ copied s root (root.0 ∷ []) (c ∷ [])
  made_alone there c f e fresh =
      let M = made_like s (root.0 ∷ []) (c ∷ []) in
      let away : In root.0 (c ∷ []) → ⊥ = λ k. elim k [ inl u ↦ is_not s root.0 c there fresh (sym u) | inr u ↦ absurd u ] in
      let ports : arity_of M root.0 ≡ 1 = ap (λ (o : Option HeapAtom). length (partners_of o)) (made_away s (root.0 ∷ []) (c ∷ []) root.0 away) ∙ one in
      sym (joins_none (answer (root.0 ∷ []) (c ∷ [])) root M (port_range root.0 0 (arity_of M root.0) ++ []) (λ p k. only_port_of p (arity_of M root.0) ports k) ∙ ap (made_as s c) e)

  -- its copy is one atom with its functor
  pub lone_copied : Sound s → IsAtom s root.0 → LeadsOut s root → IsWhole s root None → (f : Functor) → functor_of s root.0 ≡ Some f → (c : ℕ) → s.atoms c ≡ None → Copied s (made_atom s c f) root (c, root.1)
  lone_copied sound there outside full f e c fresh =
      let new : AreNew s (c ∷ []) = ((tt, tt), λ y k. elim k [ inl u ↦ subst (λ (z : ℕ). s.atoms z ≡ None) u fresh | inr u ↦ absurd u ]) in
      let all : AllAtoms s (root.0 ∷ []) = λ x k. elim k [ inl u ↦ subst (IsAtom s) u there | inr u ↦ absurd u ] in
      let is : made_atom s c f ≡ copied s root (root.0 ∷ []) (c ∷ []) = made_alone there c f e fresh in
      let here : answer (root.0 ∷ []) (c ∷ []) root.0 ≡ c = answer_here root.0 c [] [] root.0 refl in
      let same = subst (λ (h : Heap). (g : SameGraph (atom_map s) root (atom_map h) (c, root.1)) × ((a : ℕ) → g.to a ≡ answer (root.0 ∷ []) (c ∷ []) a)) (sym is)
      (subst (λ (z : ℕ). (g : SameGraph (atom_map s) root (atom_map (copied s root (root.0 ∷ []) (c ∷ []))) (z, root.1)) × ((a : ℕ) → g.to a ≡ answer (root.0 ∷ []) (c ∷ []) a)) here
      (copied_same s root (root.0 ∷ []) (c ∷ []) sound full lone_part all new refl outside, answers_are s root (root.0 ∷ []) (c ∷ []) sound full lone_part all new refl outside)) in
      record {
        atoms = root.0 ∷ [];
        copies = c ∷ [];
        part = lone_part;
        is = is;
        beside = subst (λ (h : Heap). Beside s h (c ∷ [])) (sym is) (copied_beside s root (root.0 ∷ []) (c ∷ []) sound full lone_part all new refl outside);
        same = same.0;
        long = refl;
        answers = same.1;
        in_order = subst (λ (h : Heap). IsPartInDepth h (c, root.1) (c ∷ [])) (sym is) (subst (λ (z : ℕ). IsPartInDepth (copied s root (root.0 ∷ []) (c ∷ [])) (z, root.1) (c ∷ [])) here (copied_part s root (root.0 ∷ []) (c ∷ []) sound full lone_part all new refl outside));
        free = subst (λ (h : Heap). link_of h c root.1 ≡ None) (sym is) (subst (λ (z : ℕ). link_of (copied s root (root.0 ∷ []) (c ∷ [])) z root.1 ≡ None) here (copied_free s root (root.0 ∷ []) (c ∷ []) sound full lone_part all new refl outside));
      }

-- where nothing was made, nothing was
pub remains_nothing : (s t : Heap) → t ≡ s → Remains s t
remains_nothing s t e = record {
  atoms = [];
  copies = [];
  there = λ x k. absurd k;
  is = e;
  beside = subst (λ (h : Heap). Beside s h []) (sym e) (made_beside s [] [] (λ x k. absurd k) (tt, λ y k. absurd k) (omega arith));
}
