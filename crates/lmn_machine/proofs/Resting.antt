-- Rests that are told by own marks, and what is asked of them.
use Rattle.std.proofs.Common.{◌≡◌, ◌<◌, ℕ, zero, suc, ◌+◌, Bool, true, List, [], ◌∷◌, ◌++◌, length, map, take, Option, Some, None, IsSome, refl, sym, ap, subst, ◌∙◌, inl, inr, arith}
use Rattle.std.proofs.lemmas.Bool.Decides.{Decides-eqb}
use Rattle.std.proofs.lemmas.List.{get_or-set_same}
use Rattle.std.specs.Option.{option_map, option_and_then}
use Rattle.std.specs.Prelude.{◌⊎◌, ◌↔◌, ◌==◌, not, slice_get, slice_index_or}
use Rattle.lmn_base.specs.Graphs.{AtomMap, Port, Reached}
use Rattle.lmn_base.specs.Lists.{In}
use Rattle.lmn_base.proofs.Lists.{get_below, get_there, in_either}
use Rattle.lmn_store_heap.specs.Heap.{Heap, HeapAtom, within, home_by, IsAtom, IsMem, marks_of, partners_of, mark_of, arity_of, link_of, home_of, atoms_in, mems_in, PortsUnmarked, own_mark, Unmarked}
use Rattle.lmn_store_heap.specs.Sound.{Forms, Valid}
use Rattle.lmn_store_heap.specs.Graphs.{atom_map}
use Rattle.lmn_store_heap.proofs.Common.{decide_in}
use Rattle.lmn_store_heap.proofs.Groves.{forms_frame, list_inside}
use Rattle.lmn_store_heap.proofs.ListLemmas.{in_left, in_right}
use Rattle.lmn_store_heap.proofs.Listing.{home_is}
use Rattle.lmn_ground_parts.specs.Rests.{keep, atoms_of_all, NoneLeaves}
use Rattle.lmn_ground_parts.specs.Walks.{is_in, IsPartInDepth}
use Rattle.lmn_ground.specs.Marks.{paint_at}
use Rattle.lmn_ground.specs.Rests.{AreMembranes, IsLeft, own_marked}
use Rattle.lmn_ground.specs.Spread.{IsWhole}
use Rattle.lmn_ground.proofs.GroundLaws.{part_atoms}
use Rattle.lmn_ground.proofs.CopyLaws.{member as in_handles}
use Rattle.lmn_ground.proofs.DropLaws.{is_out, out_is}
use Rattle.lmn_ground.proofs.PaintedAt.{painted_none}
use Rattle.lmn_ground.proofs.RestLaws.{keep_in, all_in, in_all as in_all_of}
use Rattle.lmn_machine_commit.proofs.RestOf.{rest_of, kept_has, has_kept, root_over, within_forest}
use Rattle.lmn_solid_heads.specs.Embeddings.{StandsWithin}
use Rattle.lmn_instr_code.specs.Running.{HeadRegisters, HeadSize, IsInSome, IsLeftIn, IsClosedRest}
use Rattle.lmn_machine_registers.specs.declared.registers.SetRegisters.{SetRegisters}
use Rattle.lmn_machine_registers.specs.Agreeing.{Agrees}
use Rattle.lmn_machine.specs.Searching.{AreHeldWhole, AreRootPorts}
use Rattle.lmn_machine_commit.specs.OwnMarks.{own_place, own_painted}
use Rattle.lmn_machine.proofs.Besides.{some_more, more_some, known, known_agrees}
use Rattle.lmn_machine_commit.proofs.Owning.{arity_painted, all_at, in_all, off_all, none, marked_is, of_handles, same_graph, arity_same, link_same, there_painted, back_painted, mem_painted, clean_painted, full_painted, port_painted, marked_more, are_membranes}
use Rattle.lmn_base.proofs.Truth.{not_true}

-- which atoms are in parts is told by the graph
pub some_same : (h t : Heap) → atom_map t ≡ atom_map h → (r : HeadRegisters) (gs : List ℕ) (b : ℕ) → IsInSome h r gs b → IsInSome t r gs b
some_same h t e r [] b u = u
some_same h t e r (g ∷ gs) b (inl k) = inl (subst (λ (n : AtomMap). Reached n (r.images.part g) b) (sym e) k)
some_same h t e r (g ∷ gs) b (inr k) = inr (some_same h t e r gs b k)

-- A heap now that is s but for further own marks.
module _ (h : Heap) (z : Unmarked h) (v : ℕ → ℕ) (s : Heap) (e : s ≡ own_painted h v) (all : List ℕ) (m : ℕ) (now : Heap) (f : now ≡ own_marked m all s) where
  painted_now : now ≡ own_painted h (all_at all m v)
  painted_now = marked_more h z v s e all m now f

  now_graph : atom_map now ≡ atom_map s
  now_graph = same_graph h z (all_at all m v) now painted_now ∙ sym (same_graph h z v s e)

  pub now_atom : (a : ℕ) → IsAtom s a → IsAtom now a
  now_atom a i = there_painted h z (all_at all m v) now painted_now a (back_painted h z v s e a i)

  now_arity : (a : ℕ) → arity_of now a ≡ arity_of s a
  now_arity a = arity_same h z (all_at all m v) now painted_now a ∙ sym (arity_same h z v s e a)

  pub now_port : (a i : ℕ) → i < arity_of s a → i < arity_of now a
  now_port a i l = subst (λ n. i < n) (sym (now_arity a)) l

  pub now_clean : PortsUnmarked now
  now_clean = clean_painted h z (all_at all m v) now painted_now

  pub now_full : ((a i : ℕ) → i < arity_of s a → IsSome (link_of s a i)) → (a i : ℕ) → i < arity_of now a → IsSome (link_of now a i)
  now_full full a i l = subst IsSome (ap (λ (n : AtomMap). n.partner (a, i)) (sym now_graph)) (full a i (subst (λ n. i < n) (now_arity a) l))

  -- each part is whole
  pub now_whole : ((a i : ℕ) → i < arity_of s a → IsSome (link_of s a i)) → (root : Port) → IsWhole now root None
  now_whole full root = record { atoms = λ a r. tt; ends = λ a i r l ne. now_full full a i l }

  -- the atoms of one part more
  pub tells_more : (listed : List ℕ) (i g : ℕ) (root : Port) (r : HeadRegisters) (b : ℕ) → slice_get listed i ≡ Some g → r.images.part g ≡ root → In b all ↔ IsInSome s r (take i listed) b → (ps : List ℕ) → IsPartInDepth now root ps →
      In b (all ++ ps) ↔ IsInSome s r (take (i + 1) listed) b
  tells_more listed i g root r b at is told ps part =
      let t : suc i ≡ i + 1 = omega arith in
      let atoms = (part_atoms now root ps part).1 b in (
        λ k. subst (λ j. IsInSome s r (take j listed) b) t (more_some s r listed i g b at (elim (in_either b all ps k) [
          | inl a ↦ inl (told.0 a)
          | inr a ↦ inr (subst (λ p. Reached (atom_map s) p b) (sym is) (subst (λ (n : AtomMap). Reached n root b) now_graph (atoms.0 a)))
        ])),
        λ k. elim (some_more s r listed i g b at (subst (λ j. IsInSome s r (take j listed) b) (sym t) k)) [
          | inl a ↦ in_left b all ps (told.1 a)
          | inr a ↦ in_right b all ps (atoms.1 (subst (λ (n : AtomMap). Reached n root b) (sym now_graph) (subst (λ p. Reached (atom_map s) p b) is a)))
        ],
      )

-- All own marks are taken back: those of the first list were set first and are taken back last.
pub all_back : (h : Heap) → Unmarked h → (xs ys zs : List ℕ) → ((a : ℕ) → In a ys → In a zs) → (t : Heap) → t ≡ own_painted h (all_at xs 0 (all_at zs 0 (all_at ys 1 (all_at xs 1 none)))) → t ≡ h
all_back h z xs ys zs sub t e = e ∙ painted_none own_place h (all_at xs 0 (all_at zs 0 (all_at ys 1 (all_at xs 1 none)))) (λ a. elim (decide_in a xs) [
  | inl i ↦ in_all xs 0 (all_at zs 0 (all_at ys 1 (all_at xs 1 none))) a i
  | inr n ↦ off_all xs 0 (all_at zs 0 (all_at ys 1 (all_at xs 1 none))) a n ∙ elim (decide_in a zs) [
    | inl i ↦ in_all zs 0 (all_at ys 1 (all_at xs 1 none)) a i
    | inr m ↦ off_all zs 0 (all_at ys 1 (all_at xs 1 none)) a m ∙ (off_all ys 1 (all_at xs 1 none) a (λ j. m (sub a j)) ∙ off_all xs 1 none a n)
  ]
])

-- The rests of a heap with own marks v.
module _ (h : Heap) (valid : Valid h) (z : Unmarked h) (v : ℕ → ℕ) where
  abbrev t : Heap
  t = own_painted h v

  all_same : (ms : List ℕ) → atoms_of_all t ms ≡ atoms_of_all h ms
  all_same [] = refl
  all_same (m ∷ ms) = ap (λ xs. atoms_in h m ++ xs) (all_same ms)

  -- each membrane has one
  pub left_there : (m : ℕ) (out : List ℕ) → IsMem h m → (atoms membranes : List ℕ) × IsLeft t m out atoms membranes
  left_there m out there =
      let la : ℕ → Bool = λ a. own_mark t a == 0 in
      let lm : ℕ → Bool = λ n. not (is_in out n) in
      let r = rest_of h valid m there la lm in (
        r.0,
        r.1,
        record {
          forest = r.2.forest;
          forms = forms_frame h t r.2.forest (keep lm (mems_in h m)) (λ n i. refl) r.2.forms;
          preorder = r.2.preorder;
          once = r.2.once;
          outside = r.2.outside;
          in_order = r.2.in_order ∙ ap (λ xs. keep la (atoms_in h m) ++ xs) (sym (all_same r.1));
        },
      )

  is_atom : (n b : ℕ) → In b (atoms_in h n) → IsAtom h b
  is_atom n b i = by (h.atoms b) ((valid.sound.listed.atoms n b).0 i)
    where
      by : (o : Option HeapAtom) → option_map (λ x. x.place) o ≡ Some (within n) → IsSome o
      by None e = absurd (cc)
      by (Some x) e = refl

  own_is : (a : ℕ) → IsAtom h a → own_mark t a ≡ v a
  own_is a there = ap (λ (n : ℕ). mark_of t a n) (arity_painted h v a) ∙ by (v a) (h.atoms a) there (valid.sound.shaped.marks a there) (z a (arity_of h a))
    where
      by : (w : ℕ) (o : Option HeapAtom) → IsSome o → length (marks_of o) ≡ length (partners_of o) + 1 → slice_index_or (marks_of o) (length (partners_of o)) 0 ≡ 0 → slice_index_or (marks_of (paint_at own_place w o)) (length (partners_of o)) 0 ≡ w
      by w None s l k = absurd (cc)
      by zero (Some x) s l k = k
      by (suc w) (Some x) s l k = get_or-set_same x.marks (length x.links) (suc w) 0 (omega (arith, l))

  module _ (m : ℕ) (out atoms ms : List ℕ) (left : IsLeft t m out atoms ms) where
    abbrev left_atom : ℕ → Bool
    left_atom a = own_mark t a == 0

    abbrev left_membrane : ℕ → Bool
    left_membrane n = not (is_in out n)

    -- what an atom of the rest is, by the marks and by the membranes that are set apart
    abbrev IsLeftOver : ℕ → Type 0
    IsLeftOver b = (In b (atoms_in h m) × (v b ≡ 0)) ⊎ ((c : ℕ) × In c (mems_in h m) × (In c out → ⊥) × StandsWithin h b c)

    forms : Forms h left.forest (keep left_membrane (mems_in h m))
    forms = forms_frame t h left.forest (keep left_membrane (mems_in h m)) (λ n i. refl) left.forms

    home_there : (n b : ℕ) → In b (atoms_in h n) → home_of h b ≡ Some n
    home_there n b i = by (h.atoms b) ((valid.sound.listed.atoms n b).0 i)
      where
        by : (o : Option HeapAtom) → option_map (λ x. x.place) o ≡ Some (within n) → option_and_then (λ x. home_by x.place) o ≡ Some n
        by None e = absurd (cc)
        by (Some x) e = let f : x.place ≡ within n = cc in ap home_by f

    over_of : (b : ℕ) → In b atoms → IsLeftOver b
    over_of b i = elim (in_either b (keep left_atom (atoms_in h m)) (atoms_of_all t ms) (subst (λ zs. In b zs) left.in_order i)) [
      | inl k ↦ (let there = keep_in left_atom (atoms_in h m) b k in
          inl (there, sym (own_is b (is_atom m b there)) ∙ (Decides-eqb (own_mark t b) 0).0 (kept_has left_atom (atoms_in h m) b k)))
      | inr k ↦ (let w = all_in t ms b k in
          let r = root_over h valid.sound.listed left.forest (keep left_membrane (mems_in h m)) w.0 forms (subst (λ zs. In w.0 zs) left.preorder w.1) in
          inr (r.0, keep_in left_membrane (mems_in h m) r.0 r.1, out_is r.0 out (not_true (is_in out r.0) (kept_has left_membrane (mems_in h m) r.0 r.1)), (w.0, r.2, home_there w.0 b w.2, r.3)))
    ]

    of_over : (b : ℕ) → IsLeftOver b → In b atoms
    of_over b (inl w) = subst (λ zs. In b zs) (sym left.in_order) (in_left b (keep left_atom (atoms_in h m)) (atoms_of_all t ms)
        (has_kept left_atom (atoms_in h m) b w.0 ((Decides-eqb (own_mark t b) 0).1 (own_is b (is_atom m b w.0) ∙ w.1))))
    of_over b (inr w) =
        let kept : left_membrane w.0 ≡ true = ap (λ b. not b) (is_out w.0 out w.2) in
        let root = list_inside h left.forest (keep left_membrane (mems_in h m)) forms w.0 (has_kept left_membrane (mems_in h m) w.0 w.1 kept) in
        let inside = within_forest h valid.sound.listed left.forest (keep left_membrane (mems_in h m)) w.0 forms root w.3.1 w.3.0 w.3.3 in
        subst (λ zs. In b zs) (sym left.in_order) (in_right b (keep left_atom (atoms_in h m)) (atoms_of_all t ms)
        (in_all_of t ms w.3.0 b (subst (λ zs. In w.3.0 zs) (sym left.preorder) inside) ((valid.sound.listed.atoms w.3.0 b).1 (home_is h b w.3.0 w.3.2))))

  -- Own marks tell which atoms are in registers or in parts, and the membranes in registers are set apart.
  module _ {A M : Type 0} (atom : A → ℕ) (membrane : M → ℕ) (g : SetRegisters A M) (gs : List ℕ) (c : HeadSize) (r : HeadRegisters) (x m : ℕ)
      (all_atoms : c.atoms ≡ length g.atoms) (all_membranes : c.membranes ≡ length g.membranes) (agrees : Agrees atom membrane g r) (place : r.images.membrane x ≡ m)
      (set : (b : ℕ) → In b (map atom g.atoms) ⊎ IsInSome h r gs b → v b ≡ 1) (clear : (b : ℕ) → (In b (map atom g.atoms) → ⊥) → (IsInSome h r gs b → ⊥) → v b ≡ 0)
      (atoms ms : List ℕ) (left : IsLeft t m (map membrane g.membranes) atoms ms) where
    not_both : (n : ℕ) → n ≡ 0 → n ≡ 1 → ⊥
    not_both n e f = omega (arith, e, f)

    off_atoms : (b : ℕ) → (In b (map atom g.atoms) → ⊥) → (k : ℕ) → k < c.atoms → r.images.atom k ≡ b → ⊥
    off_atoms b n k l e =
        let a = get_there g.atoms k (subst (λ j. k < j) all_atoms l) in
        n (subst (λ y. In y (map atom g.atoms)) (sym (agrees.atoms k a.0 a.1) ∙ e) (in_handles atom g.atoms k a.0 a.1))

    atoms_off : (b : ℕ) → ((k : ℕ) → k < c.atoms → r.images.atom k ≡ b → ⊥) → In b (map atom g.atoms) → ⊥
    atoms_off b f i = let o = of_handles atom g.atoms b i in f o.0 (subst (λ j. o.0 < j) (sym all_atoms) (get_below g.atoms o.0 o.1.0 o.1.1)) (agrees.atoms o.0 o.1.0 o.1.1 ∙ o.1.2)

    off_membranes : (b : ℕ) → (In b (map membrane g.membranes) → ⊥) → (k : ℕ) → k < c.membranes → r.images.membrane k ≡ b → ⊥
    off_membranes b n k l e =
        let a = get_there g.membranes k (subst (λ j. k < j) all_membranes l) in
        n (subst (λ y. In y (map membrane g.membranes)) (sym (agrees.membranes k a.0 a.1) ∙ e) (in_handles membrane g.membranes k a.0 a.1))

    membranes_off : (b : ℕ) → ((k : ℕ) → k < c.membranes → r.images.membrane k ≡ b → ⊥) → In b (map membrane g.membranes) → ⊥
    membranes_off b f i = let o = of_handles membrane g.membranes b i in f o.0 (subst (λ j. o.0 < j) (sym all_membranes) (get_below g.membranes o.0 o.1.0 o.1.1)) (agrees.membranes o.0 o.1.0 o.1.1 ∙ o.1.2)

    is_left : (b : ℕ) → In b atoms → IsLeftIn h c r x gs b
    is_left b i = elim (over_of m (map membrane g.membranes) atoms ms left b i) [
      | inl w ↦ inl (subst (λ n. In b (atoms_in h n)) (sym place) w.0, off_atoms b (λ k. not_both (v b) w.1 (set b (inl k))), λ k. not_both (v b) w.1 (set b (inr k)))
      | inr w ↦ inr (w.0, subst (λ n. In w.0 (mems_in h n)) (sym place) w.1, off_membranes w.0 w.2, w.3)
    ]

    left_is : (b : ℕ) → IsLeftIn h c r x gs b → In b atoms
    left_is b (inl w) = of_over m (map membrane g.membranes) atoms ms left b (inl (subst (λ n. In b (atoms_in h n)) place w.0, clear b (atoms_off b w.1) w.2))
    left_is b (inr w) = of_over m (map membrane g.membranes) atoms ms left b (inr (w.0, subst (λ n. In w.0 (mems_in h n)) place w.1, membranes_off w.0 w.2, w.3))

    -- no link leaves the one exactly where none leaves the other
    pub closed_means : (result : Bool) → (result ≡ true) ↔ NoneLeaves t atoms → (result ≡ true) ↔ IsClosedRest h c r x gs
    closed_means result given = (
      λ e b i p l k. is_left p.0 (given.0 e b i p.0 p.1 (left_is b l) (link_same h z v t refl b i ∙ k)),
      λ f. given.1 (λ a i b j w k. left_is b (f a i (b, j) (is_left a w) (sym (link_same h z v t refl a i) ∙ k))),
    )

-- The heaps while a rest is asked about: h1 when the atoms in registers are marked, h2 when those of the parts are, k behind the
-- question, h3 when the marks of the parts are taken back.
module _ {A M : Type 0} (atom : A → ℕ) (membrane : M → ℕ) (h : Heap) (valid : Valid h) (z : Unmarked h) (g : SetRegisters A M) (held : AreHeldWhole atom membrane h g)
    (h1 : Heap) (e1 : h1 ≡ own_marked 1 (map atom g.atoms) h) where
  abbrev xs : List ℕ
  xs = map atom g.atoms

  abbrev v1 : ℕ → ℕ
  v1 = all_at xs 1 none

  p1 : h1 ≡ own_painted h v1
  p1 = e1 ∙ marked_is h xs 1 z

  graph1 : atom_map h1 ≡ atom_map h
  graph1 = same_graph h z v1 h1 p1

  pub first_marked : (s : Heap) × (marks : ℕ → ℕ) × Unmarked s × (h1 ≡ own_painted s marks)
  first_marked = (h, v1, z, p1)

  pub first_full : (a i : ℕ) → i < arity_of h1 a → IsSome (link_of h1 a i)
  first_full = full_painted h z v1 h1 p1 valid.full

  pub first_parts : AreRootPorts atom h1 g.parts
  first_parts = λ k p u. (there_painted h z v1 h1 p1 (atom p.0) (held.parts k p u), port_painted h z v1 h1 p1 (atom p.0) p.1 (held.whole k p u).port)

  module _ (h2 : Heap) (ys : List ℕ) (e2 : h2 ≡ own_marked 1 ys h1) where
    abbrev v2 : ℕ → ℕ
    v2 = all_at ys 1 v1

    p2 : h2 ≡ own_painted h v2
    p2 = marked_more h z v1 h1 p1 ys 1 h2 e2

    pub asked_mem : (m : ℕ) → IsMem h m → IsMem h2 m
    asked_mem m there = mem_painted h z v2 h2 p2 m there

    pub asked_out : (out : List M) → out ≡ g.membranes → AreMembranes h2 (map membrane out)
    asked_out out same = are_membranes membrane h2 out (λ k m u. mem_painted h z v2 h2 p2 (membrane m) (held.membranes k m (subst (λ ms. slice_get ms k ≡ Some m) same u)))

    pub asked_rest : (m : ℕ) (out : List ℕ) → IsMem h m → (atoms membranes : List ℕ) × IsLeft h2 m out atoms membranes
    asked_rest m out there = subst (λ (s : Heap). (atoms membranes : List ℕ) × IsLeft s m out atoms membranes) (sym p2) (left_there h valid z v2 m out there)

    pub asked_clean : PortsUnmarked h2
    asked_clean = clean_painted h z v2 h2 p2

    on_atom : (b : ℕ) → In b xs → v2 b ≡ 1
    on_atom b i = elim (decide_in b ys) [ inl j ↦ in_all ys 1 v1 b j | inr n ↦ off_all ys 1 v1 b n ∙ in_all xs 1 none b i ]

    off_both : (b : ℕ) → (In b xs → ⊥) → (In b ys → ⊥) → v2 b ≡ 0
    off_both b n o = off_all ys 1 v1 b o ∙ off_all xs 1 none b n

    -- Whether a link leaves it.
    module _ (gs : List ℕ) (told : (s : HeadRegisters) → Agrees atom membrane g s → (a : ℕ) → In a ys ↔ IsInSome h1 s gs a) where
      set : (r : HeadRegisters) → Agrees atom membrane g r → (b : ℕ) → In b xs ⊎ IsInSome h r gs b → v2 b ≡ 1
      set r agrees b (inl i) = on_atom b i
      set r agrees b (inr u) = in_all ys 1 v1 b ((told r agrees b).1 (some_same h h1 graph1 r gs b u))

      clear : (r : HeadRegisters) → Agrees atom membrane g r → (b : ℕ) → (In b xs → ⊥) → (IsInSome h r gs b → ⊥) → v2 b ≡ 0
      clear r agrees b n o = off_both b n (λ j. o (some_same h1 h (sym graph1) r gs b ((told r agrees b).0 j)))

      pub asked_closed : (m : ℕ) (out : List M) (result : Bool) → IsMem h m → out ≡ g.membranes → ((atoms membranes : List ℕ) → IsLeft h2 m (map membrane out) atoms membranes → (result ≡ true) ↔ NoneLeaves h2 atoms)
          → (c : HeadSize) (r : HeadRegisters) (x : ℕ) → c.atoms ≡ length g.atoms → c.membranes ≡ length g.membranes → Agrees atom membrane g r → r.images.membrane x ≡ m → (result ≡ true) ↔ IsClosedRest h c r x gs
      asked_closed m out result there same answer c r x all_atoms all_membranes agrees place =
          let left = left_there h valid z v2 m (map membrane g.membranes) there in
          let stands : IsLeft h2 m (map membrane out) left.0 left.1 =
          subst (λ (s : Heap). IsLeft s m (map membrane out) left.0 left.1) (sym p2) (subst (λ ms. IsLeft (own_painted h v2) m (map membrane ms) left.0 left.1) (sym same) left.2) in
          closed_means h valid z v2 atom membrane g gs c r x m all_atoms all_membranes agrees place (set r agrees) (clear r agrees) left.0 left.1 left.2 result
          (subst (λ (s : Heap). (result ≡ true) ↔ NoneLeaves s left.0) p2 (answer left.0 left.1 stands))

      -- what was painted is painted again
      pub told_again : (k : Heap) → k ≡ h2 → (zs : List ℕ) → ((s : HeadRegisters) → Agrees atom membrane g s → (a : ℕ) → In a zs ↔ IsInSome k s gs a) → (a : ℕ) → In a ys → In a zs
      told_again k e zs again a i =
          let s = known atom membrane g in
          let agrees = known_agrees atom membrane g in
          (again s agrees a).1 (some_same h1 k (same_graph h z v2 k (e ∙ p2) ∙ sym graph1) s gs a ((told s agrees a).0 i))

    module _ (k : Heap) (e : k ≡ h2) where
      p : k ≡ own_painted h v2
      p = e ∙ p2

      pub again_marked : (s : Heap) × (marks : ℕ → ℕ) × Unmarked s × (k ≡ own_painted s marks)
      again_marked = (h, v2, z, p)

      pub again_full : (a i : ℕ) → i < arity_of k a → IsSome (link_of k a i)
      again_full = full_painted h z v2 k p valid.full

      pub again_parts : AreRootPorts atom k g.parts
      again_parts = λ j q u. (there_painted h z v2 k p (atom q.0) (held.parts j q u), port_painted h z v2 k p (atom q.0) q.1 (held.whole j q u).port)

      module _ (h3 : Heap) (zs : List ℕ) (e3 : h3 ≡ own_marked 0 zs k) where
        p3 : h3 ≡ own_painted h (all_at zs 0 v2)
        p3 = marked_more h z v2 k p zs 0 h3 e3

        pub last_held : (j : ℕ) (a : A) → slice_get g.atoms j ≡ Some a → IsAtom h3 (atom a)
        last_held j a u = there_painted h z (all_at zs 0 v2) h3 p3 (atom a) (held.atoms j a u)

        -- all marks are taken back
        pub last_same : ((a : ℕ) → In a ys → In a zs) → (h4 : Heap) → h4 ≡ own_marked 0 xs h3 → h4 ≡ h
        last_same both h4 e4 = all_back h z xs ys zs both h4 (marked_more h z (all_at zs 0 v2) h3 p3 xs 0 h4 e4)
