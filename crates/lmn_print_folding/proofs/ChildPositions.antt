-- Children by the positions of atoms are children by the atoms of a heap.
use Rattle.std.proofs.Common.{◌≡◌, ◌≢◌, ℕ, suc, ◌-◌, ◌<◌, List, map, length, slice_get, Some, sym, ap, ◌∙◌, subst, inl, inr, arith}
use Rattle.std.proofs.lemmas.Option.{same_Some}
use Rattle.lmn_congruence.specs.Regions.{SolidAtom}
use Rattle.lmn_congruence.specs.Rules.{Name}
use Rattle.lmn_print_folded.specs.Folding.{IsChild, Descends}
use Rattle.lmn_print_folded.specs.Folding as folding
use Rattle.lmn_store_heap.specs.Heap.{Heap, arity_of, atoms_in}
use Rattle.lmn_store_heap.specs.Lists.{Distinct}
use Rattle.lmn_store_heap.specs.Solid.{IsNaming, links_from}
use Rattle.lmn_store_heap.specs.Sound.{Valid}
use Rattle.lmn_store_heap.proofs.Replacing.{port_within}
use Rattle.lmn_print_folding.specs.Children.{IsChildAt, DescendsAt}
use Rattle.lmn_print_folding.specs.Children as marked
use Rattle.lmn_print_folding.proofs.Positions.{one_position, behind, further_back}
use Rattle.lmn_print_folding.proofs.AtomsOfPositions.{atom_with, atom_at, atom_behind, number_at, number_is, last_number, numbers_end}
use Rattle.lmn_store_heap.proofs.Common.{in_at, length_numbered, position}

module _ (names : List Name) (s : Heap) (valid : Valid s) (name : ℕ → ℕ → ℕ) (naming : IsNaming s name) (m : ℕ) where
  abbrev atoms : List SolidAtom
  atoms = map (atom_with names s name) (atoms_in s m)

  distinct : Distinct (atoms_in s m)
  distinct = valid.sound.listed.atoms_once m

  one_place : (p q a : ℕ) → slice_get (atoms_in s m) p ≡ Some a → slice_get (atoms_in s m) q ≡ Some a → p ≡ q
  one_place p q a e f = one_position (atoms_in s m) p q a distinct e f

  -- the child is the atom at its position, without its last link
  pub child_is : (q p k a : ℕ) → slice_get (atoms_in s m) q ≡ Some a → (c : IsChild atoms q p k)
      → (c.child ≡ atom_with names s name a) × (0 < arity_of s a) × (c.first_links ≡ links_from name a 0 (arity_of s a - 1)) × (c.last_link ≡ name a (arity_of s a - 1))
  child_is q p k a e c =
      let same : c.child ≡ atom_with names s name a = same_Some c.child (atom_with names s name a) (sym c.child_at ∙ atom_at names s name (atoms_in s m) q a e) in
      let end = numbers_end name a (arity_of s a) c.first_links c.last_link (sym (ap (λ (x : SolidAtom). x.links) same) ∙ c.links) in
      (same, end.0, end.1, end.2)

  pub to_heap : (q p k a b : ℕ) → slice_get (atoms_in s m) q ≡ Some a → slice_get (atoms_in s m) p ≡ Some b → IsChild atoms q p k → IsChildAt s m a b k
  to_heap q p k a b e f c =
      let child = child_is q p k a e c in
      let parent : c.parent ≡ atom_with names s name b = same_Some c.parent (atom_with names s name b) (sym c.parent_at ∙ atom_at names s name (atoms_in s m) p b f) in
      let links : c.parent.links ≡ links_from name b 0 (arity_of s b) = ap (λ (x : SolidAtom). x.links) parent in
      let port = number_is name b (arity_of s b) k c.last_link (ap (λ ls. slice_get ls k) (sym links) ∙ c.joined) in
      let some = child.1 in
      let other : a ≢ b = λ g. c.other (one_place q p b (e ∙ ap Some g) f) in
      record {
        child = in_at (atoms_in s m) q a e;
        parent = in_at (atoms_in s m) p b f;
        ports = some;
        joined = elim (naming.apart a (arity_of s a - 1) b k (omega (arith, some)) port.0 (sym child.3 ∙ sym port.1)) [ inl same ↦ absurd (other same.0) | inr l ↦ l ];
        other = other;
        before = elim c.before [
          | inl d ↦ inl (λ g. d (let h : suc k ≡ arity_of s b = omega (arith, g) in h ∙ sym (ap length links ∙ length_numbered name b 0 (arity_of s b))))
          | inr l ↦ inr (behind (atoms_in s m) p q b a distinct f e l)
        ];
      }

  pub from_heap : (q p k a b : ℕ) → slice_get (atoms_in s m) q ≡ Some a → slice_get (atoms_in s m) p ≡ Some b → IsChildAt s m a b k → IsChild atoms q p k
  from_heap q p k a b e f c =
      let low = port_within s b k (a, arity_of s a - 1) (valid.sound.paired.back a (arity_of s a - 1) b k c.joined) in
      record {
        child = atom_with names s name a;
        parent = atom_with names s name b;
        first_links = links_from name a 0 (arity_of s a - 1);
        last_link = name a (arity_of s a - 1);
        child_at = atom_at names s name (atoms_in s m) q a e;
        parent_at = atom_at names s name (atoms_in s m) p b f;
        links = last_number name a (arity_of s a) c.ports;
        joined = number_at name b (arity_of s b) k low ∙ ap Some (sym (naming.joined a (arity_of s a - 1) b k c.joined));
        other = λ g. c.other (same_Some a b (sym e ∙ ap (slice_get (atoms_in s m)) g ∙ f));
        before = elim c.before [
          | inl d ↦ inl (λ g. d (let h : suc k ≡ arity_of s b = g ∙ length_numbered name b 0 (arity_of s b) in omega (arith, h)))
          | inr h ↦ inr (further_back (atoms_in s m) p q b a distinct f e h)
        ];
      }

  pub down : (i a : ℕ) → DescendsAt s m i a → (p q : ℕ) → slice_get (atoms_in s m) p ≡ Some i → slice_get (atoms_in s m) q ≡ Some a → Descends atoms p q
  down i _ marked.itself p q e f = subst (Descends atoms p) (one_place p q i e f) folding.itself
  down i _ (marked.child {q = b} {r = a} {k = k} d c) p q e f =
      let r = position (atoms_in s m) b c.parent in
      folding.child (down i b d p r.0 e r.1) (from_heap q r.0 k a b f r.1 c)

  pub up : (p q : ℕ) → Descends atoms p q → (i a : ℕ) → slice_get (atoms_in s m) p ≡ Some i → slice_get (atoms_in s m) q ≡ Some a → DescendsAt s m i a
  up p _ folding.itself i a e f = subst (DescendsAt s m i) (same_Some i a (sym e ∙ f)) marked.itself
  up p _ (folding.child {q = r} {r = q} {k = k} d c) i a e f =
      let b = atom_behind names s name (atoms_in s m) r c.parent c.parent_at in
      marked.child (up p r d i b.0 e b.1) (to_heap q r k a b.0 f b.1 c)
