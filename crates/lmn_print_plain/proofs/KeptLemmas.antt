-- A heap with its marks changed has the same solid, and the marks of the beginning give it back.
use Rattle.std.proofs.Common.{◌≡◌, ℕ, ◌+◌, ◌<◌, ◌⊎◌, inl, inr, List, length, Option, Some, None, IsSome, refl, sym, ap, ◌∙◌, subst, arith}
use Rattle.std.specs.Option.{option_map}
use Rattle.std.specs.Prelude.{slice_index_or}
use Rattle.std.proofs.lemmas.Bool.{cases_eq}
use Rattle.std.proofs.lemmas.Grind.{same_number_lists}
use Rattle.lmn_base.specs.declared.rule.RuleTree.{RuleTree}
use Rattle.lmn_base.specs.declared.solid.Solid.{Solid}
use Rattle.lmn_congruence.specs.Rules.{Name}
use Rattle.lmn_store_heap.specs.Heap.{Heap, HeapAtom, top, IsAtom, IsMem, marks_of, arity_of, mark_of, parent_of, mem_place_of, atoms_in, rules_in, PortsUnmarked}
use Rattle.lmn_store_heap.specs.Solid.{HasSolid, solid_atoms_at}
use Rattle.lmn_store_heap.specs.Sound.{Shaped, Sound, Valid}
use Rattle.lmn_store_heap.proofs.SolidLemmas.{regions_frame}
use Rattle.lmn_print_plain.specs.Numbers.{Remarks, with_marks}
use Rattle.lmn_print_plain.specs.Stored.{TellsNumbers}
use Rattle.lmn_print_plain.specs.Writing.{IsPlainHeapLine, IsMarkedLineOf}
use Rattle.lmn_print_plain.proofs.MarkLemmas.{arity_same, link_same, home_same, functor_same, atom_before, naming_same, tree_same, atoms_same}
use Rattle.lmn_store_heap.proofs.Common.{same_atoms}

-- it is valid
pub valid_same : (s t : Heap) → Remarks s t → Sound t → Valid s → Valid t
valid_same s t r sound valid = record {
  sound = sound;
  settled = record {
    atoms = λ a i. subst IsSome (sym (home_same s t r a)) (valid.settled.atoms a (atom_before s t r a i));
    mems = λ m i. subst (λ (k : Heap). IsMem k m → (mem_place_of k m ≡ Some top) ⊎ IsSome (parent_of k m)) (sym r.is) (valid.settled.mems m) i;
  };
  full = λ a i l. subst IsSome (sym (link_same s t r a i)) (valid.full a i (subst (λ n. i < n) (arity_same s t r a) l));
  no_connector = λ a i e. valid.no_connector a (subst IsSome (home_same s t r a) i) (sym (functor_same s t r a) ∙ e);
  tree = (valid.tree.0, tree_same s t r valid.tree.0 valid.tree.1);
}

-- the line of its solid is that of the heap
pub line_same : (names : List Name) (table : List RuleTree) (s t : Heap) → Remarks s t → ((x : Solid) (of : HasSolid s x) → TellsNumbers t of.name) → (text : List ℕ)
    → IsPlainHeapLine names table s text → IsMarkedLineOf names table t text
line_same names table s t r told text line =
    let of = line.1 in
    let atoms : (m : ℕ) → atoms_in s m ≡ atoms_in t m = λ m. sym (ap (λ (k : Heap). atoms_in k m) r.is) in
    let same = regions_frame s t of.name of.name of.forest (λ m i. (atoms_same s t r of.name (atoms_in s m) ∙ ap (solid_atoms_at t of.name) (atoms m), sym (ap (λ (k : Heap). rules_in k m) r.is))) in
    let there : HasSolid t line.0 = record {
      forest = of.forest;
      tree = tree_same s t r of.forest of.tree;
      name = of.name;
      naming = naming_same s t r of.name of.naming;
      root = sym same ∙ of.root;
      count = of.count;
      numbers = of.numbers;
    } in
    (line.0, there, told line.0 of, line.2)

-- Where the marks of all ports are 0 in both, they are the same heap.
pub kept_heap : (s u : Heap) → Remarks s u → Shaped s → Shaped u → PortsUnmarked s → PortsUnmarked u → u ≡ s
kept_heap s u r shape shape' before behind = r.is ∙ same_atoms s _ s.atoms (λ a. by a (s.atoms a) refl)
  where
    -- each mark is as before
    mark : (a k : ℕ) → k < arity_of s a + 1 → mark_of u a k ≡ mark_of s a k
    mark a k l = elim (cases_eq k (arity_of s a)) [
      | inl e ↦ subst (λ n. mark_of u a n ≡ mark_of s a n) (sym e) (r.own a)
      | inr d ↦ (let low : k < arity_of s a = omega (arith, l, d) in
          behind a k (subst (λ n. k < n) (sym (arity_same s u r a)) low) ∙ sym (before a k low))
    ]

    by : (a : ℕ) (o : Option HeapAtom) → s.atoms a ≡ o → option_map (with_marks (r.marks a)) o ≡ o
    by a None e = refl
    by a (Some x) e =
        let old : marks_of (s.atoms a) ≡ x.marks = ap marks_of e in
        let now : marks_of (u.atoms a) ≡ r.marks a = ap (λ (k : Heap). marks_of (k.atoms a)) r.is ∙ ap (λ o. marks_of (option_map (with_marks (r.marks a)) o)) e in
        let is : IsAtom s a = subst IsSome (sym e) refl in
        let is' : IsAtom u a = subst (λ (k : Heap). IsAtom k a) (sym r.is) (subst (λ o. IsSome (option_map (with_marks (r.marks a)) o)) (sym e) refl) in
        let long : length (r.marks a) ≡ arity_of s a + 1 = ap length (sym now) ∙ shape'.marks a is' ∙ ap (λ n. n + 1) (arity_same s u r a) in
        let long' : length x.marks ≡ arity_of s a + 1 = ap length (sym old) ∙ shape.marks a is in
        let same : r.marks a ≡ x.marks = same_number_lists (r.marks a) x.marks (long ∙ sym long') (λ k l.
        ap (λ ms. slice_index_or ms k 0) (sym now) ∙ mark a k (subst (λ n. k < n) long l) ∙ ap (λ ms. slice_index_or ms k 0) old) in
        ap (λ ms. Some (with_marks ms x)) same
