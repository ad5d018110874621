-- What other marks, own marks too, change of a heap, and that all are set to 0, atom by atom.
use Rattle.std.proofs.Common.{◌≡◌, ℕ, ◌+◌, ◌^◌, ◌<◌, ◌⊎◌, inl, inr, List, [], ◌∷◌, ◌++◌, length, Option, Some, None, IsSome, IfSome, refl, sym, ap, ◌∙◌, subst, arith}
use Rattle.std.proofs.lemmas.Bool.{cases_eq}
use Rattle.std.specs.Option.{option_map}
use Rattle.std.specs.Prelude.{slice_index_or}
use Rattle.lmn_store_heap.specs.Heap.{Heap, HeapAtom, IsAtom, IsInPlace, alter, with_mark, home_of, atoms_in, partners_of, mark_of, marked, marks_of, arity_of, Unmarked}
use Rattle.lmn_store_heap.specs.Lists.{from, after}
use Rattle.lmn_store_heap.specs.Sound.{Forest, flat, IsTree, Valid, Sound, AtMost}
use Rattle.lmn_store_heap.specs.Trees.{tree_of}
use Rattle.lmn_store_heap.proofs.Groves.{forms_frame}
use Rattle.lmn_store_heap.proofs.Listing.{alter_at, alter_away}
use Rattle.lmn_store_heap.proofs.Ports.{same_port}
use Rattle.lmn_print_plain.specs.Numbers.{printed_atoms, remarked, with_marks}
use Rattle.lmn_print_plain.proofs.MarkLemmas.{remarked_same, remarked_twice, mark_zero, mark_off, marks_length}
use Rattle.lmn_print_plain.proofs.OrderLemmas.{printed_all, tree_there}
use Rattle.lmn_print_plain.proofs.StoredLemmas.{atoms_fewer}
use Rattle.lmn_store_heap.proofs.Common.{same_atoms}
use Rattle.lmn_base.specs.Lists.{In}
use Rattle.std.proofs.lemmas.List.{get_or_past}
use Rattle.lmn_base.proofs.Numbers.{below_or_from}

-- t is s with other marks
abbrev pub OtherMarks : Heap → Heap → Type 0
OtherMarks s t = (marks : ℕ → List ℕ) × (t ≡ remarked s marks)

-- a heap has the marks that it has
pub others_none : (s : Heap) → OtherMarks s s
others_none s = ((λ a. marks_of (s.atoms a)), sym (remarked_same s))

-- other marks and then others are other marks
pub others_more : (s t u : Heap) → OtherMarks s t → OtherMarks t u → OtherMarks s u
others_more s t u p q = (q.0, q.1 ∙ ap (λ (h : Heap). remarked h q.0) p.1 ∙ remarked_twice s p.0 q.0)

marked_others : (s : Heap) (a i v : ℕ) → OtherMarks s (marked s a i v)
marked_others s a i v = (
  (λ b. marks_of ((marked s a i v).atoms b)),
  same_atoms s _ _ (λ c. elim (cases_eq c a) [
    | inl e ↦ subst (λ z. alter s.atoms a (option_map (with_mark i v)) z ≡ option_map (with_marks (marks_of (alter s.atoms a (option_map (with_mark i v)) z))) (s.atoms z)) (sym e)
        (subst (λ w. w ≡ option_map (with_marks (marks_of w)) (s.atoms a)) (sym (alter_at s.atoms a (option_map (with_mark i v)))) (by (s.atoms a)))
    | inr n ↦ subst (λ w. w ≡ option_map (with_marks (marks_of w)) (s.atoms c)) (sym (alter_away s.atoms a (option_map (with_mark i v)) c n)) (own (s.atoms c))
  ]),
)
  where
    by : (o : Option HeapAtom) → option_map (with_mark i v) o ≡ option_map (with_marks (marks_of (option_map (with_mark i v) o))) o
    by None = refl
    by (Some x) = refl

    own : (o : Option HeapAtom) → o ≡ option_map (with_marks (marks_of o)) o
    own None = refl
    own (Some x) = refl

-- what doesn't look at marks is as before
pub view_same : {X : Type 0} (view : Option HeapAtom → X) → ((x : HeapAtom) (ms : List ℕ) → view (Some (with_marks ms x)) ≡ view (Some x)) → (s t : Heap) → OtherMarks s t → (a : ℕ) → view (t.atoms a) ≡ view (s.atoms a)
view_same view h s t r a = ap (λ (k : Heap). view (k.atoms a)) r.1 ∙ by (s.atoms a)
  where
    by : (o : Option HeapAtom) → view (option_map (with_marks (r.0 a)) o) ≡ view o
    by None = refl
    by (Some x) = h x (r.0 a)

module _ (s t : Heap) (r : OtherMarks s t) where
  pub arity_same : (a : ℕ) → arity_of t a ≡ arity_of s a
  arity_same a = view_same (λ o. length (partners_of o)) (λ x ms. refl) s t r a

  home_same : (a : ℕ) → home_of t a ≡ home_of s a
  home_same a = view_same (λ o. home_of (record s { atoms = λ b. o }) a) (λ x ms. refl) s t r a

  pub atom_same : (a : ℕ) → IsAtom s a → IsAtom t a
  atom_same a i = subst (λ (h : Heap). IsAtom h a) (sym r.1) (by (s.atoms a) i)
    where
      by : (o : Option HeapAtom) → IsSome o → IsSome (option_map (with_marks (r.0 a)) o)
      by None i = absurd (cc i)
      by (Some x) i = refl

  pub place_same : (a : ℕ) → IsInPlace s a → IsInPlace t a
  place_same a i = subst IsSome (sym (home_same a)) i

  pub place_before : (a : ℕ) → IsInPlace t a → IsInPlace s a
  place_before a i = subst IsSome (home_same a) i

  pub tree_same : (f : Forest) → IsTree s f → IsTree t f
  tree_same f tree =
      subst (λ h. IsTree h f) (sym r.1) (record { forms = forms_frame s (remarked s r.0) f (s.root ∷ []) (λ m i. refl) tree.forms; once = tree.once; all = tree.all })

  printed_same : (ms : List ℕ) → printed_atoms t ms ≡ printed_atoms s ms
  printed_same [] = refl
  printed_same (m ∷ ms) = ap (λ xs. xs ++ printed_atoms t ms) (ap (λ (k : Heap). atoms_in k m) r.1) ∙ ap (λ xs. atoms_in s m ++ xs) (printed_same ms)

  -- what comes behind an atom in printed order came there before
  pub behind_before : (f : Forest) (a : ℕ) (next : Option ℕ) → from next (printed_atoms t (flat f)) ≡ after a (printed_atoms t (flat f)) → from next (printed_atoms s (flat f)) ≡ after a (printed_atoms s (flat f))
  behind_before f a next e = subst (λ xs. from next xs ≡ after a xs) (printed_same (flat f)) e

-- The first marks of an atom are 0.
pub record ClearedTo (s t : Heap) (a n : ℕ) : Type 0 where
  pub marks : OtherMarks s t
  pub long : (b : ℕ) → length (marks_of (t.atoms b)) ≡ length (marks_of (s.atoms b))
  pub here : (i : ℕ) → i < n → mark_of t a i ≡ 0
  pub others : (b i : ℕ) → mark_of s b i ≡ 0 → mark_of t b i ≡ 0

-- at first no mark of an atom is cleared
pub cleared_none : (s : Heap) (a : ℕ) → ClearedTo s s a 0
cleared_none s a = record { marks = others_none s; long = λ b. refl; here = λ i l. absurd (omega (arith, l)); others = λ b i e. e }

-- then one more
pub cleared_more : (s t u : Heap) (a n : ℕ) → ClearedTo s t a n → u ≡ marked t a n 0 → ClearedTo s u a (n + 1)
cleared_more s t u a n c e = subst (λ (h : Heap). ClearedTo s h a (n + 1)) (sym e) (record {
  marks = others_more s t (marked t a n 0) c.marks (marked_others t a n 0);
  long = λ b. marks_length t a n 0 b ∙ c.long b;
  here = λ i l. elim (cases_eq i n) [
    | inl f ↦ subst (λ j. mark_of (marked t a n 0) a j ≡ 0) (sym f) (mark_zero t a n)
    | inr d ↦ mark_off t a n 0 a i (λ f. d f.1) ∙ c.here i (omega (arith, l, d))
  ];
  others = λ b i z. elim (same_port b i a n) [
    | inl f ↦ subst (λ j. mark_of (marked t a n 0) b j ≡ 0) (sym f.1) (subst (λ j. mark_of (marked t a n 0) j n ≡ 0) (sym f.0) (mark_zero t a n))
    | inr d ↦ mark_off t a n 0 b i d ∙ c.others b i z
  ];
})

-- all of them are
pub cleared_all : (s t : Heap) → Sound s → (a n : ℕ) → IsAtom s a → arity_of s a < n → ClearedTo s t a n → (i : ℕ) → mark_of t a i ≡ 0
cleared_all s t sound a n there low c i = elim (below_or_from i (length (marks_of (t.atoms a)))) [
  | inl l ↦ (let long = c.long a in let shape = sound.shaped.marks a there in c.here i (omega (arith, l, long, shape, low)))
  | inr l ↦ get_or_past (marks_of (t.atoms a)) i 0 l
]

-- All marks are 0 but those of atoms that are still to come.
pub record ClearingAll (s t : Heap) (f : Forest) (next : Option ℕ) : Type 0 where
  pub marks : OtherMarks s t
  pub left : (a i : ℕ) → (mark_of t a i ≡ 0) ⊎ In a (from next (printed_atoms s (flat f)))

-- at first no atom is cleared
pub clearing_first : (s : Heap) → Valid s → (f : Forest) → IsTree s f → (next : Option ℕ) → from next (printed_atoms s (flat f)) ≡ printed_atoms s (flat f) → ClearingAll s s f next
clearing_first s valid f t next e = record { marks = others_none s; left = λ a i. by a i (s.atoms a) refl }
  where
    by : (a i : ℕ) (o : Option HeapAtom) → s.atoms a ≡ o → (mark_of s a i ≡ 0) ⊎ In a (from next (printed_atoms s (flat f)))
    by a i None g = inl (ap (λ o. slice_index_or (marks_of o) i 0) g)
    by a i (Some x) g = inr (subst (In a) (sym e) (printed_all s valid f t a (subst IsSome (sym g) refl)))

-- one atom more
pub clearing_next : {A : Type 0} (id : A → ℕ) (s t u : Heap) (f : Forest) → IsTree s f → (a : A) (now next : Option A) → now ≡ Some a → ClearingAll s t f (option_map id now) → OtherMarks t u
    → ((i : ℕ) → mark_of u (id a) i ≡ 0) → ((b i : ℕ) → mark_of t b i ≡ 0 → mark_of u b i ≡ 0)
    → ((g : Forest) → IsTree u g → from (option_map id next) (printed_atoms u (flat g)) ≡ after (id a) (printed_atoms u (flat g))) → ClearingAll s u f (option_map id next)
clearing_next id s t u f tree a now next is c r done others h =
    let whole = others_more s t u c.marks r in
    let d = subst (λ o. ClearingAll s t f (option_map id o)) is c in
    record { marks = whole; left = λ b i. by b i (behind_before s u whole f (id a) (option_map id next) (h f (tree_same s u whole f tree))) (d.left b i) }
  where
    by : (b i : ℕ) → from (option_map id next) (printed_atoms s (flat f)) ≡ after (id a) (printed_atoms s (flat f)) → (mark_of t b i ≡ 0) ⊎ In b (from (Some (id a)) (printed_atoms s (flat f)))
        → (mark_of u b i ≡ 0) ⊎ In b (from (option_map id next) (printed_atoms s (flat f)))
    by b i behind (inl z) = inl (others b i z)
    by b i behind (inr (inl q)) = inl (subst (λ x. mark_of u x i ≡ 0) q (done i))
    by b i behind (inr (inr j)) = inr (subst (In b) (sym behind) j)

-- no atom is left
pub clearing_last : {A : Type 0} (id : A → ℕ) (s t : Heap) (f : Forest) (now : Option A) → ((a : A) → now ≡ Some a → ⊥) → ClearingAll s t f (option_map id now) → Unmarked t
clearing_last id s t f None none c a i = elim (c.left a i) [ inl z ↦ z | inr j ↦ absurd j ]
clearing_last id s t f (Some b) none c a i = absurd (none b refl)

-- fewer atoms are to come behind one
pub clearing_fewer : {A : Type 0} (id : A → ℕ) (s t : Heap) → Sound s → AtMost (2 ^ 48) s → OtherMarks s t → (f : Forest) → IsTree s f → (a : A) (now next : Option A) → now ≡ Some a
    → ((g : Forest) → IsTree t g → from (option_map id next) (printed_atoms t (flat g)) ≡ after (id a) (printed_atoms t (flat g)))
    → length (from (option_map id next) (printed_atoms s (flat (tree_of s)))) < length (from (option_map id now) (printed_atoms s (flat (tree_of s))))
clearing_fewer id s t sound most r f tree a now next is list =
    let whole = tree_there s sound most f tree in
    atoms_fewer id a now next (printed_atoms s (flat (tree_of s))) is (behind_before s t r (tree_of s) (id a) (option_map id next) (list (tree_of s) (tree_same s t r (tree_of s) whole)))

-- what is in place with other marks is so without
pub next_place : {A : Type 0} (id : A → ℕ) (s t : Heap) → OtherMarks s t → (next : Option A) → IfSome next (λ a. IsInPlace t (id a)) → IfSome next (λ a. IsInPlace s (id a))
next_place id s t r None h = tt
next_place id s t r (Some a) h = place_before s t r (id a) h
