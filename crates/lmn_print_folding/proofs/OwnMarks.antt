-- What other own marks change of a heap, and what they don't.
use Rattle.std.proofs.Common.{◌≡◌, ℕ, ◌-◌, ◌<◌, ◌⊎◌, inl, inr, ◌++◌, List, [], ◌∷◌, length, Option, Some, None, IsSome, refl, sym, ap, ◌∙◌, subst, arith}
use Rattle.std.specs.Option.{option_map, option_and_then}
use Rattle.std.specs.Prelude.{slice_index_or}
use Rattle.lmn_store_heap.specs.Heap.{Heap, HeapAtom, IsAtom, IsMem, top, marked, partners_of, marks_of, arity_of, link_of, mark_of, functor_of, home_of, home_by, parent_of, mem_place_of, atoms_in}
use Rattle.lmn_store_heap.specs.Lists.{after}
use Rattle.lmn_store_heap.specs.Sound.{Forest, IsTree, Paired, Sound, Valid}
use Rattle.lmn_store_heap.proofs.Groves.{forms_frame}
use Rattle.lmn_print_plain.specs.Numbers.{printed_atoms, with_marks, remarked}
use Rattle.lmn_print_plain.proofs.MarkLemmas.{mark_at, mark_off, remarked_same, remarked_twice, marked_is, view_is}
use Rattle.lmn_print_folding.specs.Chosen.{ChangesOwnMarks}
use Rattle.lmn_print_folding.specs.Children.{IsChildAt, DescendsAt, itself, child}
use Rattle.lmn_print_folding.specs.Marking.{IsChildNowhere, IsChildSomewhere, SetsOwnMark}
use Rattle.lmn_base.specs.Lists.{In}

view_same : {X : Type 0} (view : Option HeapAtom → X) → ((x : HeapAtom) (ms : List ℕ) → view (Some (with_marks ms x)) ≡ view (Some x)) → (s t : Heap) → ChangesOwnMarks s t → (a : ℕ) → view (t.atoms a) ≡ view (s.atoms a)
view_same view h s t r a = ap (λ (k : Heap). view (k.atoms a)) r.is ∙ view_is view h s r.marks a

module _ (s t : Heap) (r : ChangesOwnMarks s t) where
  pub arity_same : (a : ℕ) → arity_of t a ≡ arity_of s a
  arity_same a = view_same (λ o. length (partners_of o)) (λ x ms. refl) s t r a

  pub link_same : (a i : ℕ) → link_of t a i ≡ link_of s a i
  link_same a i = view_same (λ o. slice_index_or (partners_of o) i None) (λ x ms. refl) s t r a

  -- the last port of an atom stays joined
  pub last_same : (a : ℕ) (p : ℕ × ℕ) → link_of t a (arity_of t a - 1) ≡ Some p → link_of s a (arity_of s a - 1) ≡ Some p
  last_same a p e = sym (link_same a (arity_of s a - 1)) ∙ ap (λ k. link_of t a (k - 1)) (sym (arity_same a)) ∙ e

  pub paired_same : Paired s → Paired t
  paired_same paired = record {
    back = λ a i b j e. link_same b j ∙ paired.back a i b j (sym (link_same a i) ∙ e);
    apart = λ a i e. paired.apart a i (sym (link_same a i) ∙ e);
  }

  home_same : (a : ℕ) → home_of t a ≡ home_of s a
  home_same a = view_same (λ o. option_and_then (λ x. home_by x.place) o) (λ x ms. refl) s t r a

  functor_same : (a : ℕ) → functor_of t a ≡ functor_of s a
  functor_same a = view_same (λ o. option_map (λ x. x.functor) o) (λ x ms. refl) s t r a

  pub atom_same : (a : ℕ) → IsAtom s a → IsAtom t a
  atom_same a i = subst (λ (h : Heap). IsAtom h a) (sym r.is) (by (s.atoms a) i)
    where
      by : (o : Option HeapAtom) → IsSome o → IsSome (option_map (with_marks (r.marks a)) o)
      by None i = absurd (cc i)
      by (Some x) i = refl

  pub atom_before : (a : ℕ) → IsAtom t a → IsAtom s a
  atom_before a i = by (s.atoms a) (subst (λ (h : Heap). IsAtom h a) r.is i)
    where
      by : (o : Option HeapAtom) → IsSome (option_map (with_marks (r.marks a)) o) → IsSome o
      by None i = absurd (cc i)
      by (Some x) i = refl

  pub list_same : (m : ℕ) → atoms_in t m ≡ atoms_in s m
  list_same m = ap (λ (k : Heap). atoms_in k m) r.is

  pub tree_same : (f : Forest) → IsTree s f → IsTree t f
  tree_same f tree =
      subst (λ h. IsTree h f) (sym r.is) (record { forms = forms_frame s (remarked s r.marks) f (s.root ∷ []) (λ m i. refl) tree.forms; once = tree.once; all = tree.all })

  pub printed_same : (ms : List ℕ) → printed_atoms t ms ≡ printed_atoms s ms
  printed_same [] = refl
  printed_same (m ∷ ms) = ap (λ xs. xs ++ printed_atoms t ms) (list_same m) ∙ ap (λ xs. atoms_in s m ++ xs) (printed_same ms)

  -- it is valid
  pub valid_same : Sound t → Valid s → Valid t
  valid_same sound valid = record {
    sound = sound;
    settled = record {
      atoms = λ a i. subst IsSome (sym (home_same a)) (valid.settled.atoms a (atom_before a i));
      mems = λ m i. subst (λ (k : Heap). IsMem k m → (mem_place_of k m ≡ Some top) ⊎ IsSome (parent_of k m)) (sym r.is) (valid.settled.mems m) i;
    };
    full = λ a i l. subst IsSome (sym (link_same a i)) (valid.full a i (subst (λ n. i < n) (arity_same a) l));
    no_connector = λ a i e. valid.no_connector a (subst IsSome (home_same a) i) (sym (functor_same a) ∙ e);
    tree = (valid.tree.0, tree_same valid.tree.0 valid.tree.1);
  }

  -- children stay
  pub child_same : {m q p k : ℕ} → IsChildAt s m q p k → IsChildAt t m q p k
  child_same {m} {q} {p} {k} c = record {
    child = subst (In q) (sym (list_same m)) c.child;
    parent = subst (In p) (sym (list_same m)) c.parent;
    ports = subst (λ n. 0 < n) (sym (arity_same q)) c.ports;
    joined = ap (λ n. link_of t q (n - 1)) (arity_same q) ∙ link_same q (arity_of s q - 1) ∙ c.joined;
    other = c.other;
    before = elim c.before [
      | inl d ↦ inl (λ e. d (e ∙ arity_same p))
      | inr i ↦ inr (subst (λ xs. In q (after p xs)) (sym (list_same m)) i)
    ];
  }

  pub descends_same : {m p q : ℕ} → DescendsAt s m p q → DescendsAt t m p q
  descends_same itself = itself
  descends_same (child d c) = child (descends_same d) (child_same c)

-- other own marks leave what is no child
pub no_child_same : (s t : Heap) → ChangesOwnMarks t s → (a : ℕ) → IsChildNowhere s a → IsChildNowhere t a
no_child_same s t r a h m p k c = h m p k (child_same t s r c)

-- and what is one
pub some_child_same : (s t : Heap) → ChangesOwnMarks s t → (a : ℕ) → IsChildSomewhere s a → IsChildSomewhere t a
some_child_same s t r a h = (h.0, h.1, h.2, child_same s t r h.3)

-- nothing is changed, more is changed, and it is changed back
pub changes_none : (s : Heap) → ChangesOwnMarks s s
changes_none s = record { marks = λ a. marks_of (s.atoms a); is = sym (remarked_same s); ports = λ a i l. refl }

-- changes of own marks one after the other are such a change
pub changes_more : (s t u : Heap) → ChangesOwnMarks s t → ChangesOwnMarks t u → ChangesOwnMarks s u
changes_more s t u p q = record {
  marks = q.marks;
  is = q.is ∙ ap (λ (h : Heap). remarked h q.marks) p.is ∙ remarked_twice s p.marks q.marks;
  ports = λ a i l. q.ports a i (subst (λ n. i < n) (sym (arity_same s t p a)) l) ∙ p.ports a i l;
}

-- a change of own marks can be changed back
pub changes_back : (s t : Heap) → ChangesOwnMarks s t → ChangesOwnMarks t s
changes_back s t p = record {
  marks = λ a. marks_of (s.atoms a);
  is = sym (ap (λ (h : Heap). remarked h (λ a. marks_of (s.atoms a))) p.is ∙ remarked_twice s p.marks (λ a. marks_of (s.atoms a)) ∙ remarked_same s);
  ports = λ a i l. sym (p.ports a i (subst (λ n. i < n) (arity_same s t p a) l));
}

-- an own mark is set
pub own_set : (s t : Heap) → Sound s → (a slot v : ℕ) → IsAtom s a → slot ≡ arity_of s a → t ≡ marked s a slot v → SetsOwnMark s t a v
own_set s t sound a slot v there at e = subst (λ h. SetsOwnMark s h a v) (sym e) (subst (λ n. SetsOwnMark s (marked s a n v) a v) (sym at) set)
  where
    changed : ChangesOwnMarks s (marked s a (arity_of s a) v)
    changed = record {
      marks = λ b. marks_of ((marked s a (arity_of s a) v).atoms b);
      is = marked_is s a (arity_of s a) v;
      ports = λ b i l. mark_off s a (arity_of s a) v b i (λ same. let f : arity_of s b ≡ arity_of s a = ap (arity_of s) same.0 in let g = same.1 in omega (arith, l, f, g));
    }

    slot_there : arity_of s a < length (marks_of (s.atoms a))
    slot_there = let h = sound.shaped.marks a there in omega (arith, h)

    set : SetsOwnMark s (marked s a (arity_of s a) v) a v
    set = record {
      marks = changed;
      mark = ap (mark_of (marked s a (arity_of s a) v) a) (arity_same s (marked s a (arity_of s a) v) changed a) ∙ mark_at s a (arity_of s a) v slot_there;
      others = λ b d. ap (mark_of (marked s a (arity_of s a) v) b) (arity_same s (marked s a (arity_of s a) v) changed b) ∙ mark_off s a (arity_of s a) v b (arity_of s b) (λ same. d same.0);
    }
