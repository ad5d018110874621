-- A heap with other marks of membranes is sound where the first one is.
use Rattle.std.proofs.Common.{ℕ, ◌≡◌, Option, Some, None, IsSome, refl, sym, ap, subst, ◌∙◌, ◌+◌, length}
use Rattle.std.specs.Prelude.{slice_index_or}
use Rattle.std.specs.Option.{option_map}
use Rattle.lmn_base.specs.Lists.{In}
use Rattle.lmn_store_heap.specs.Heap.{Heap, HeapAtom, HeapMem, place_of, mem_place_of, functor_of, link_of, arity_of, marks_of, partners_of, mem_with_mark}
use Rattle.lmn_store_heap.specs.Lists.{Distinct}
use Rattle.lmn_store_heap.specs.Sound.{Sound, Paired, Listed, Shaped}
use Rattle.lmn_schedule_sleep.specs.Quiet.{SameButMarks}
use Rattle.lmn_schedule_sleep.proofs.Marks.{ReadAlike, read_alike}

module _ (h k : Heap) (e : SameButMarks h k) where
  same : ReadAlike h k
  same = read_alike h k e

  places : (a : ℕ) → place_of k a ≡ place_of h a
  places a = ap (λ (o : Option HeapAtom). option_map (λ x. x.place) o) (e.atoms a)

  functors : (a : ℕ) → functor_of k a ≡ functor_of h a
  functors a = ap (λ (o : Option HeapAtom). option_map (λ x. x.functor) o) (e.atoms a)

  links : (a i : ℕ) → link_of k a i ≡ link_of h a i
  links a i = ap (λ (o : Option HeapAtom). slice_index_or (partners_of o) i None) (e.atoms a)

  arities : (a : ℕ) → arity_of k a ≡ arity_of h a
  arities a = ap (λ (o : Option HeapAtom). length (partners_of o)) (e.atoms a)

  mem_places : (m : ℕ) → mem_place_of k m ≡ mem_place_of h m
  mem_places m = let u = e.mems m in ap (λ (o : Option HeapMem). option_map (λ x. x.place) o) u.1 ∙ by u.0 (h.mems m)
    where
      by : (v : ℕ) (o : Option HeapMem) → option_map (λ x. x.place) (option_map (mem_with_mark v) o) ≡ option_map (λ x. x.place) o
      by v None = refl
      by v (Some x) = refl

  paired_so : Paired h → Paired k
  paired_so p = record {
    back = λ a i b j q. links b j ∙ p.back a i b j (sym (links a i) ∙ q);
    apart = λ a i q. p.apart a i (sym (links a i) ∙ q);
  }

  listed_so : Listed h → Listed k
  listed_so l = record {
    atoms = λ m a. (λ i. places a ∙ (l.atoms m a).0 (subst (In a) ((same).lists m) i), λ q. subst (In a) (sym ((same).lists m)) ((l.atoms m a).1 (sym (places a) ∙ q)));
    atoms_once = λ m. subst Distinct (sym ((same).lists m)) (l.atoms_once m);
    mems = λ m n. (λ i. mem_places n ∙ (l.mems m n).0 (subst (In n) ((same).inner m) i), λ q. subst (In n) (sym ((same).inner m)) ((l.mems m n).1 (sym (mem_places n) ∙ q)));
    mems_once = λ m. subst Distinct (sym ((same).inner m)) (l.mems_once m);
    new_atoms = λ a. (λ i. places a ∙ (l.new_atoms a).0 (subst (In a) e.new_atoms i), λ q. subst (In a) (sym e.new_atoms) ((l.new_atoms a).1 (sym (places a) ∙ q)));
    new_atoms_once = subst Distinct (sym e.new_atoms) l.new_atoms_once;
    new_mems = λ m. (λ i. mem_places m ∙ (l.new_mems m).0 (subst (In m) e.new_mems i), λ q. subst (In m) (sym e.new_mems) ((l.new_mems m).1 (sym (mem_places m) ∙ q)));
    new_mems_once = subst Distinct (sym e.new_mems) l.new_mems_once;
    root = λ m. (λ q. (l.root m).0 (sym (mem_places m) ∙ q) ∙ sym e.root, λ q. mem_places m ∙ (l.root m).1 (q ∙ e.root));
    no_top = λ a q. l.no_top a (sym (places a) ∙ q);
    new_empty = λ m q. (let w = l.new_empty m (sym (mem_places m) ∙ q) in ((same).lists m ∙ w.0, (same).inner m ∙ w.1));
  }

  shaped_so : Shaped h → Shaped k
  shaped_so s = record {
    ports = λ a f q. arities a ∙ s.ports a f (sym (functors a) ∙ q);
    marks = λ a i. ap (λ (o : Option HeapAtom). length (marks_of o)) (e.atoms a) ∙ s.marks a (subst (λ (o : Option HeapAtom). IsSome o) (e.atoms a) i) ∙ ap (λ n. n + 1) (sym (arities a));
  }

  -- it is sound again
  pub sound_but_marks : Sound h → Sound k
  sound_but_marks s = record { paired = paired_so s.paired; listed = listed_so s.listed; shaped = shaped_so s.shaped }
