-- A heap with other marks has the same solids, and is the same where all marks are 0 in both.
use Rattle.std.proofs.Common.{◌≡◌, ℕ, ◌+◌, ◌<◌, inl, inr, List, [], ◌∷◌, ◌++◌, length, Option, Some, None, IsSome, refl, sym, ap, ◌∙◌, subst}
use Rattle.std.specs.Option.{option_map}
use Rattle.std.specs.Prelude.{slice_index_or}
use Rattle.std.proofs.lemmas.Grind.{same_number_lists}
use Rattle.lmn_base.specs.declared.solid.Solid.{Solid}
use Rattle.lmn_store_heap.specs.Heap.{Heap, HeapAtom, IsAtom, arity_of, atoms_in, link_of, partners_of, marks_of, rules_in, Unmarked}
use Rattle.lmn_store_heap.specs.Solid.{IsNaming, HasSolid, solid_atom_at, solid_atoms_at}
use Rattle.lmn_store_heap.specs.Sound.{Shaped}
use Rattle.lmn_store_heap.proofs.SolidLemmas.{regions_frame}
use Rattle.lmn_print_plain.specs.Numbers.{with_marks}
use Rattle.lmn_print.proofs.ClearedMarks.{OtherMarks, tree_same, view_same, arity_same}
use Rattle.lmn_store_heap.proofs.Common.{same_atoms}

module _ (s t : Heap) (r : OtherMarks s t) where
  link_same : (a i : ℕ) → link_of t a i ≡ link_of s a i
  link_same a i = view_same (λ o. slice_index_or (partners_of o) i None) (λ x ms. refl) s t r a

  naming_same : (name : ℕ → ℕ → ℕ) → IsNaming s name → IsNaming t name
  naming_same name n = record {
    joined = λ a i b j e. n.joined a i b j (sym (link_same a i) ∙ e);
    apart = λ a i b j l k e. elim (n.apart a i b j (subst (λ x. i < x) (arity_same s t r a) l) (subst (λ x. j < x) (arity_same s t r b) k) e) [
      | inl u ↦ inl u
      | inr u ↦ inr (link_same a i ∙ u)
    ];
  }

  atoms_same : (name : ℕ → ℕ → ℕ) (xs : List ℕ) → solid_atoms_at s name xs ≡ solid_atoms_at t name xs
  atoms_same name [] = refl
  atoms_same name (a ∷ xs) = ap (λ ys. ys ++ solid_atoms_at s name xs) (sym (view_same (solid_atom_at name a) (λ x ms. refl) s t r a)) ∙ ap (λ ys. solid_atom_at name a (t.atoms a) ++ ys) (atoms_same name xs)

  pub solid_same : (x : Solid) → HasSolid s x → HasSolid t x
  solid_same x of =
      let atoms : (m : ℕ) → atoms_in s m ≡ atoms_in t m = λ m. sym (ap (λ (k : Heap). atoms_in k m) r.1) in
      let same = regions_frame s t of.name of.name of.forest (λ m i. (atoms_same of.name (atoms_in s m) ∙ ap (solid_atoms_at t of.name) (atoms m), sym (ap (λ (k : Heap). rules_in k m) r.1))) in
      record {
        forest = of.forest;
        tree = tree_same s t r of.forest of.tree;
        name = of.name;
        naming = naming_same of.name of.naming;
        root = sym same ∙ of.root;
        count = of.count;
        numbers = of.numbers;
      }

  pub heap_same : Shaped s → Shaped t → Unmarked s → Unmarked t → t ≡ s
  heap_same shape shape' before behind = r.1 ∙ same_atoms s _ s.atoms (λ a. by a (s.atoms a) refl)
    where
      by : (a : ℕ) (o : Option HeapAtom) → s.atoms a ≡ o → option_map (with_marks (r.0 a)) o ≡ o
      by a None e = refl
      by a (Some x) e =
          let old : marks_of (s.atoms a) ≡ x.marks = ap marks_of e in
          let now : marks_of (t.atoms a) ≡ r.0 a = ap (λ (k : Heap). marks_of (k.atoms a)) r.1 ∙ ap (λ o. marks_of (option_map (with_marks (r.0 a)) o)) e in
          let is : IsAtom s a = subst IsSome (sym e) refl in
          let is' : IsAtom t a = subst (λ (k : Heap). IsAtom k a) (sym r.1) (subst (λ o. IsSome (option_map (with_marks (r.0 a)) o)) (sym e) refl) in
          let long : length (r.0 a) ≡ arity_of s a + 1 = ap length (sym now) ∙ shape'.marks a is' ∙ ap (λ n. n + 1) (arity_same s t r a) in
          let long' : length x.marks ≡ arity_of s a + 1 = ap length (sym old) ∙ shape.marks a is in
          let same : r.0 a ≡ x.marks = same_number_lists (r.0 a) x.marks (long ∙ sym long') (λ k l.
          ap (λ ms. slice_index_or ms k 0) (sym now) ∙ behind a k ∙ sym (before a k) ∙ ap (λ ms. slice_index_or ms k 0) old) in
          ap (λ ms. Some (with_marks ms x)) same
