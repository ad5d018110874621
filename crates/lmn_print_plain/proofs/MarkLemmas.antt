-- What other marks change of a heap, and what they don't.
use Rattle.std.proofs.Common.{◌≡◌, ℕ, zero, suc, ◌+◌, ◌<◌, inl, inr, List, [], ◌∷◌, ◌++◌, length, Option, Some, None, IsSome, refl, sym, ap, ◌∙◌, subst, arith, length-set}
use Rattle.std.proofs.lemmas.Bool.{cases_eq}
use Rattle.std.proofs.lemmas.List.{get_or-set_same, get_or-set_other}
use Rattle.std.specs.Option.{option_map}
use Rattle.std.specs.Prelude.{slice_index_or, slice_set}
use Rattle.lmn_store_heap.specs.Heap.{Heap, HeapAtom, IsAtom, alter, with_mark, marked, partners_of, marks_of, arity_of, link_of, mark_of, home_of, functor_of, atoms_in}
use Rattle.lmn_store_heap.specs.Solid.{IsNaming, solid_atom_at, solid_atoms_at}
use Rattle.lmn_store_heap.specs.Sound.{Forest, IsTree}
use Rattle.lmn_store_heap.proofs.Groves.{forms_frame}
use Rattle.lmn_store_heap.proofs.Listing.{alter_at, alter_away}
use Rattle.lmn_store_heap.proofs.Ports.{SamePort, same_port}
use Rattle.lmn_print_plain.specs.Numbers.{printed_atoms, with_marks, remarked, Remarks}
use Rattle.lmn_store_heap.proofs.Common.{same_atoms}

-- the marks after one was set

-- a mark that is set is found there
pub mark_at : (s : Heap) (a i v : ℕ) → i < length (marks_of (s.atoms a)) → mark_of (marked s a i v) a i ≡ v
mark_at s a i v l = ap (λ (o : Option HeapAtom). slice_index_or (marks_of o) i 0) (alter_at s.atoms a (option_map (with_mark i v))) ∙ by (s.atoms a) l
  where
    by : (o : Option HeapAtom) → i < length (marks_of o) → slice_index_or (marks_of (option_map (with_mark i v) o)) i 0 ≡ v
    by None l = absurd (omega (arith, l))
    by (Some x) l = get_or-set_same x.marks i v 0 l

-- a mark that was set to 0 is 0
pub mark_zero : (s : Heap) (a i : ℕ) → mark_of (marked s a i 0) a i ≡ 0
mark_zero s a i = ap (λ (o : Option HeapAtom). slice_index_or (marks_of o) i 0) (alter_at s.atoms a (option_map (with_mark i 0))) ∙ by (s.atoms a)
  where
    none : (xs : List ℕ) (k : ℕ) → slice_index_or (slice_set xs k 0) k 0 ≡ 0
    none [] k = refl
    none (x ∷ xs) zero = refl
    none (x ∷ xs) (suc k) = none xs k

    by : (o : Option HeapAtom) → slice_index_or (marks_of (option_map (with_mark i 0) o)) i 0 ≡ 0
    by None = refl
    by (Some x) = none x.marks i

-- a mark that is set leaves every other mark
pub mark_off : (s : Heap) (a i v c k : ℕ) → (SamePort c k a i → ⊥) → mark_of (marked s a i v) c k ≡ mark_of s c k
mark_off s a i v c k d = elim (cases_eq c a) [
  | inl e ↦ subst (λ z. mark_of (marked s a i v) z k ≡ mark_of s z k) (sym e)
      (ap (λ (o : Option HeapAtom). slice_index_or (marks_of o) k 0) (alter_at s.atoms a (option_map (with_mark i v))) ∙ by (s.atoms a) (λ f. d (e, f)))
  | inr n ↦ ap (λ (o : Option HeapAtom). slice_index_or (marks_of o) k 0) (alter_away s.atoms a (option_map (with_mark i v)) c n)
]
  where
    by : (o : Option HeapAtom) → (k ≡ i → ⊥) → slice_index_or (marks_of (option_map (with_mark i v) o)) k 0 ≡ slice_index_or (marks_of o) k 0
    by None n = refl
    by (Some x) n = get_or-set_other x.marks i k v 0 n

-- as many marks as before
pub marks_length : (s : Heap) (a i v c : ℕ) → length (marks_of ((marked s a i v).atoms c)) ≡ length (marks_of (s.atoms c))
marks_length s a i v c = elim (cases_eq c a) [
  | inl e ↦ subst (λ z. length (marks_of ((marked s a i v).atoms z)) ≡ length (marks_of (s.atoms z))) (sym e)
      (ap (λ (o : Option HeapAtom). length (marks_of o)) (alter_at s.atoms a (option_map (with_mark i v))) ∙ by (s.atoms a))
  | inr n ↦ ap (λ (o : Option HeapAtom). length (marks_of o)) (alter_away s.atoms a (option_map (with_mark i v)) c n)
]
  where
    by : (o : Option HeapAtom) → length (marks_of (option_map (with_mark i v) o)) ≡ length (marks_of o)
    by None = refl
    by (Some x) = length-set x.marks i v

-- Other marks, as a whole.

-- an atom with its own marks is itself
pub own_marks : (o : Option HeapAtom) → option_map (with_marks (marks_of o)) o ≡ o
own_marks None = refl
own_marks (Some x) = refl

-- a heap with the marks that it has is itself
pub remarked_same : (s : Heap) → remarked s (λ a. marks_of (s.atoms a)) ≡ s
remarked_same s = same_atoms s _ s.atoms (λ a. own_marks (s.atoms a))

-- of two times new marks the last ones stay
pub remarked_twice : (s : Heap) (u v : ℕ → List ℕ) → remarked (remarked s u) v ≡ remarked s v
remarked_twice s u v = same_atoms s _ _ (λ a. by (s.atoms a) (u a) (v a))
  where
    by : (o : Option HeapAtom) (xs ys : List ℕ) → option_map (with_marks ys) (option_map (with_marks xs) o) ≡ option_map (with_marks ys) o
    by None xs ys = refl
    by (Some x) xs ys = refl

-- one mark set is new marks for all
pub marked_is : (s : Heap) (a i v : ℕ) → marked s a i v ≡ remarked s (λ b. marks_of ((marked s a i v).atoms b))
marked_is s a i v = same_atoms s _ _ (λ c. elim (cases_eq c a) [
  | inl e ↦ subst (λ z. alter s.atoms a (option_map (with_mark i v)) z ≡ option_map (with_marks (marks_of (alter s.atoms a (option_map (with_mark i v)) z))) (s.atoms z)) (sym e)
      (subst (λ w. w ≡ option_map (with_marks (marks_of w)) (s.atoms a)) (sym (alter_at s.atoms a (option_map (with_mark i v)))) (by (s.atoms a)))
  | inr n ↦ subst (λ w. w ≡ option_map (with_marks (marks_of w)) (s.atoms c)) (sym (alter_away s.atoms a (option_map (with_mark i v)) c n)) (sym (own_marks (s.atoms c)))
])
  where
    by : (o : Option HeapAtom) → option_map (with_mark i v) o ≡ option_map (with_marks (marks_of (option_map (with_mark i v) o))) o
    by None = refl
    by (Some x) = refl

-- what doesn't look at marks is as before
pub view_is : {X : Type 0} (view : Option HeapAtom → X) → ((x : HeapAtom) (ms : List ℕ) → view (Some (with_marks ms x)) ≡ view (Some x)) → (s : Heap) (v : ℕ → List ℕ) (a : ℕ) → view ((remarked s v).atoms a) ≡ view (s.atoms a)
view_is view h s v a = by (s.atoms a)
  where
    by : (o : Option HeapAtom) → view (option_map (with_marks (v a)) o) ≡ view o
    by None = refl
    by (Some x) = h x (v a)

view_same : {X : Type 0} (view : Option HeapAtom → X) → ((x : HeapAtom) (ms : List ℕ) → view (Some (with_marks ms x)) ≡ view (Some x)) → (s t : Heap) → Remarks s t → (a : ℕ) → view (t.atoms a) ≡ view (s.atoms a)
view_same view h s t r a = ap (λ (k : Heap). view (k.atoms a)) r.is ∙ view_is view h s r.marks a

module _ (s t : Heap) (r : Remarks s t) where
  pub arity_same : (a : ℕ) → arity_of t a ≡ arity_of s a
  arity_same a = view_same (λ o. length (partners_of o)) (λ x ms. refl) s t r a

  pub link_same : (a i : ℕ) → link_of t a i ≡ link_of s a i
  link_same a i = view_same (λ o. slice_index_or (partners_of o) i None) (λ x ms. refl) s t r a

  pub home_same : (a : ℕ) → home_of t a ≡ home_of s a
  home_same a = view_same (λ o. home_of (record s { atoms = λ b. o }) a) (λ x ms. refl) s t r a

  pub functor_same : (a : ℕ) → functor_of t a ≡ functor_of s a
  functor_same a = view_same (λ o. option_map (λ x. x.functor) o) (λ x ms. refl) s t r a

  pub atom_same : (a : ℕ) → IsAtom s a → IsAtom t a
  atom_same a i = subst (λ (h : Heap). IsAtom h a) (sym r.is) (by (s.atoms a) i)
    where
      by : (o : Option HeapAtom) → IsSome o → IsSome (option_map (with_marks (r.marks a)) o)
      by None i = absurd (cc i)
      by (Some x) i = refl

  pub atom_before : (a : ℕ) → IsAtom t a → IsAtom s a
  atom_before a i = by (s.atoms a) (subst (λ (h : Heap). IsAtom h a) r.is i)
    where
      by : (o : Option HeapAtom) → IsSome (option_map (with_marks (r.marks a)) o) → IsSome o
      by None i = absurd (cc i)
      by (Some x) i = refl

  pub naming_same : (name : ℕ → ℕ → ℕ) → IsNaming s name → IsNaming t name
  naming_same name n = record {
    joined = λ a i b j e. n.joined a i b j (sym (link_same a i) ∙ e);
    apart = λ a i b j l k e. elim (n.apart a i b j (subst (λ x. i < x) (arity_same a) l) (subst (λ x. j < x) (arity_same b) k) e) [
      | inl u ↦ inl u
      | inr u ↦ inr (link_same a i ∙ u)
    ];
  }

  pub tree_same : (f : Forest) → IsTree s f → IsTree t f
  tree_same f tree =
      subst (λ h. IsTree h f) (sym r.is) (record { forms = forms_frame s (remarked s r.marks) f (s.root ∷ []) (λ m i. refl) tree.forms; once = tree.once; all = tree.all })

  pub printed_same : (ms : List ℕ) → printed_atoms t ms ≡ printed_atoms s ms
  printed_same [] = refl
  printed_same (m ∷ ms) = ap (λ xs. xs ++ printed_atoms t ms) (ap (λ (k : Heap). atoms_in k m) r.is) ∙ ap (λ xs. atoms_in s m ++ xs) (printed_same ms)

  pub atoms_same : (name : ℕ → ℕ → ℕ) (xs : List ℕ) → solid_atoms_at s name xs ≡ solid_atoms_at t name xs
  atoms_same name [] = refl
  atoms_same name (a ∷ xs) = ap (λ ys. ys ++ solid_atoms_at s name xs) (sym (view_same (solid_atom_at name a) (λ x ms. refl) s t r a)) ∙ ap (λ ys. solid_atom_at name a (t.atoms a) ++ ys) (atoms_same name xs)

-- nothing is changed, more is changed
pub remarks_none : (s : Heap) → Remarks s s
remarks_none s = record { marks = λ a. marks_of (s.atoms a); is = sym (remarked_same s); own = λ a. refl }

-- other marks and then others again are other marks
pub remarks_more : (s t u : Heap) → Remarks s t → Remarks t u → Remarks s u
remarks_more s t u p q = record {
  marks = q.marks;
  is = q.is ∙ ap (λ (h : Heap). remarked h q.marks) p.is ∙ remarked_twice s p.marks q.marks;
  own = λ a. subst (λ n. mark_of u a n ≡ mark_of t a n) (arity_same s t p a) (q.own a) ∙ p.own a;
}

-- the mark of a port is set
pub remarks_mark : (s : Heap) (a i v : ℕ) → i < arity_of s a → Remarks s (marked s a i v)
remarks_mark s a i v l = record {
  marks = λ b. marks_of ((marked s a i v).atoms b);
  is = marked_is s a i v;
  own = λ b. mark_off s a i v b (arity_of s b) (λ e. let f : arity_of s b ≡ arity_of s a = ap (arity_of s) e.0 in let g = e.1 in omega (arith, l, f, g));
}

-- one port more of an atom is cleared
pub record Cleared (s t : Heap) (a n : ℕ) : Type 0 where
  pub marks : Remarks s t
  pub here : (i : ℕ) → i < n → i < arity_of s a → mark_of t a i ≡ 0
  pub others : (b i : ℕ) → i < arity_of s b → mark_of s b i ≡ 0 → mark_of t b i ≡ 0

-- at first no mark of an atom is cleared
pub cleared_none : (s : Heap) (a : ℕ) → Cleared s s a 0
cleared_none s a = record { marks = remarks_none s; here = λ i l k. absurd (omega (arith, l)); others = λ b i l e. e }

-- then one more
pub cleared_more : (s t u : Heap) (a n : ℕ) → n < arity_of s a → Cleared s t a n → u ≡ marked t a n 0 → Cleared s u a (n + 1)
cleared_more s t u a n l c e = record {
  marks = subst (Remarks s) (sym e) (remarks_more s t (marked t a n 0) c.marks (remarks_mark t a n 0 (subst (λ k. n < k) (sym (arity_same s t c.marks a)) l)));
  here = λ i k m. subst (λ (h : Heap). mark_of h a i ≡ 0) (sym e) (elim (cases_eq i n) [
    | inl f ↦ subst (λ j. mark_of (marked t a n 0) a j ≡ 0) (sym f) (mark_zero t a n)
    | inr d ↦ mark_off t a n 0 a i (λ f. d f.1) ∙ c.here i (omega (arith, k, d)) m
  ]);
  others = λ b i k z. subst (λ (h : Heap). mark_of h b i ≡ 0) (sym e) (elim (same_port b i a n) [
    | inl f ↦ subst (λ j. mark_of (marked t a n 0) b j ≡ 0) (sym f.1) (subst (λ j. mark_of (marked t a n 0) j n ≡ 0) (sym f.0) (mark_zero t a n))
    | inr d ↦ mark_off t a n 0 b i d ∙ c.others b i k z
  ]);
}
