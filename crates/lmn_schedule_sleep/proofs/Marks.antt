-- What differs in the marks of membranes alone is read alike.
use Rattle.std.proofs.Common.{ℕ, zero, suc, ◌≡◌, List, [], ◌∷◌, Option, Some, None, IsSome, inl, inr, refl, sym, ap, subst, ◌∙◌, length}
use Rattle.std.specs.Prelude.{slice_index_or}
use Rattle.std.specs.Option.{option_map, option_and_then}
use Rattle.lmn_base.specs.Graphs.{Reached, StandsWhole, SameGraph, Port}
use Rattle.lmn_base.specs.Lists.{In}
use Rattle.lmn_guards.specs.declared.plan.TypeKind.{TypeKind}
use Rattle.lmn_guards.specs.declared.plan.TypeKind.TheVariants.{Int, Unary, Ground}
use Rattle.lmn_guards.specs.declared.plan.TypeKind.TheVariants as kind
use Rattle.lmn_store_heap.specs.Heap.{Heap, HeapMem, HeapAtom, IsMem, atoms_by, mems_by, rules_by, home_by, atoms_in, mems_in, rules_in, functor_of, link_of, home_of, parent_of, partners_of, mem_with_mark}
use Rattle.lmn_store_heap.specs.Conditions.{Above}
use Rattle.lmn_store_heap.specs.Graphs.{atom_map}
use Rattle.lmn_solid_heads.specs.Guards.{IsOfKindAt, integer_of_functor}
use Rattle.lmn_solid_heads.specs.Embeddings.{StandsWithin}
use Rattle.lmn_instr_code.specs.declared.instr.AtomPort.{AtomPort}
use Rattle.lmn_instr_code.specs.declared.instr.Instr.{Instr}
use Rattle.lmn_instr_code.specs.declared.instr.Instr.TheVariants.{FindAtom, Deref, Func, InMem, NeqAtom, Joined, NotIn, AnyMem, NeqMem, IsInt, IsUnary, IsGround, NAtoms, NMems, NoRules, IsClosed, EqGround, NeqGround, GetInt, Const, Add, Sub, Mul, Div, Mod, Lt, Le, Gt, Ge, Eq, Ne, Commit}
use Rattle.lmn_instr_code.specs.Running.{HeadRegisters, HeadSize, IsContext, IsLeftIn, IsInSome, HasOthers, InstructionHolds, AllHold, size_of_head, port_of, Succeeds}
use Rattle.lmn_schedule_sleep.specs.Quiet.{SameButMarks}

-- Two heaps are read alike: the same atoms stand in the same lists.
pub record ReadAlike (h t : Heap) : Type 0 where
  pub root : t.root ≡ h.root
  pub atoms : (a : ℕ) → t.atoms a ≡ h.atoms a
  pub lists : (m : ℕ) → atoms_in t m ≡ atoms_in h m
  pub inner : (m : ℕ) → mems_in t m ≡ mems_in h m
  pub rules : (m : ℕ) → rules_in t m ≡ rules_in h m
  pub parents : (m : ℕ) → parent_of t m ≡ parent_of h m
  pub there : (m : ℕ) → IsMem t m → IsMem h m
  pub stays : (m : ℕ) → IsMem h m → IsMem t m

pub alike_back : (h t : Heap) → ReadAlike h t → ReadAlike t h
alike_back h t e = record {
  root = sym e.root;
  atoms = λ a. sym (e.atoms a);
  lists = λ m. sym (e.lists m);
  inner = λ m. sym (e.inner m);
  rules = λ m. sym (e.rules m);
  parents = λ m. sym (e.parents m);
  there = e.stays;
  stays = e.there;
}

pub read_alike : (h t : Heap) → SameButMarks h t → ReadAlike h t
read_alike h t e = record {
  root = e.root;
  atoms = e.atoms;
  lists = λ m. (let u = e.mems m in ap atoms_by u.1 ∙ of_atoms u.0 (h.mems m));
  inner = λ m. (let u = e.mems m in ap mems_by u.1 ∙ of_mems u.0 (h.mems m));
  rules = λ m. (let u = e.mems m in ap rules_by u.1 ∙ of_rules u.0 (h.mems m));
  parents = λ m. (let u = e.mems m in ap (λ (o : Option HeapMem). option_and_then (λ x. home_by x.place) o) u.1 ∙ of_place u.0 (h.mems m));
  there = λ m i. (let u = e.mems m in was u.0 (h.mems m) (subst (λ (o : Option HeapMem). IsSome o) u.1 i));
  stays = λ m i. (let u = e.mems m in subst (λ (o : Option HeapMem). IsSome o) (sym u.1) (is u.0 (h.mems m) i));
}
  where
    of_atoms : (v : ℕ) (o : Option HeapMem) → atoms_by (option_map (mem_with_mark v) o) ≡ atoms_by o
    of_atoms v None = refl
    of_atoms v (Some x) = refl

    of_mems : (v : ℕ) (o : Option HeapMem) → mems_by (option_map (mem_with_mark v) o) ≡ mems_by o
    of_mems v None = refl
    of_mems v (Some x) = refl

    of_rules : (v : ℕ) (o : Option HeapMem) → rules_by (option_map (mem_with_mark v) o) ≡ rules_by o
    of_rules v None = refl
    of_rules v (Some x) = refl

    of_place : (v : ℕ) (o : Option HeapMem) → option_and_then (λ x. home_by x.place) (option_map (mem_with_mark v) o) ≡ option_and_then (λ x. home_by x.place) o
    of_place v None = refl
    of_place v (Some x) = refl

    was : (v : ℕ) (o : Option HeapMem) → IsSome (option_map (mem_with_mark v) o) → IsSome o
    was v None i = i
    was v (Some x) i = refl

    is : (v : ℕ) (o : Option HeapMem) → IsSome o → IsSome (option_map (mem_with_mark v) o)
    is v None i = i
    is v (Some x) i = refl

module _ (h t : Heap) (same : ReadAlike h t) where
  functors : (a : ℕ) → functor_of t a ≡ functor_of h a
  functors a = ap (λ (o : Option HeapAtom). option_map (λ x. x.functor) o) (same.atoms a)

  -- heaps that are read alike have the same links
  pub links : (a i : ℕ) → link_of t a i ≡ link_of h a i
  links a i = ap (λ (o : Option HeapAtom). slice_index_or (partners_of o) i None) (same.atoms a)

  -- and their atoms the same homes
  pub homes : (a : ℕ) → home_of t a ≡ home_of h a
  homes a = ap (λ (o : Option HeapAtom). option_and_then (λ x. home_by x.place) o) (same.atoms a)

  maps : atom_map t ≡ atom_map h
  maps = λ i. atom_map (record h { atoms = λ a. same.atoms a i })

  -- a way up leads to the same membrane
  pub above_alike : (k m n : ℕ) → Above t k m n → Above h k m n
  above_alike zero m n a = a
  above_alike (suc k) m n a = (a.0, sym (same.parents n) ∙ a.1, above_alike k m a.0 a.2)

  within_alike : (a m : ℕ) → StandsWithin t a m → StandsWithin h a m
  within_alike a m s = (s.0, s.1, sym (homes a) ∙ s.2, above_alike s.1 m s.0 s.3)

  above_forth : (k m n : ℕ) → Above h k m n → Above t k m n
  above_forth zero m n a = a
  above_forth (suc k) m n a = (a.0, same.parents n ∙ a.1, above_forth k m a.0 a.2)

  within_forth : (a m : ℕ) → StandsWithin h a m → StandsWithin t a m
  within_forth a m s = (s.0, s.1, homes a ∙ s.2, above_forth s.1 m s.0 s.3)

  kind_alike : (k : TypeKind) (p : Port) → IsOfKindAt h k p → IsOfKindAt t k p
  kind_alike Int p w = (w.0, ap integer_of_functor (functors p.0) ∙ w.1)
  kind_alike Unary p w = (w.0, functors p.0 ∙ w.1, w.2)
  kind_alike Ground p w = w

  context_alike : (n : ℕ) (r : HeadRegisters) (k : TypeKind) (g : ℕ) (p : AtomPort) (m : ℕ) → IsContext h n r k g p m → IsContext t n r k g p m
  context_alike n r k g p m w = record {
    held = links (port_of r p).0 (port_of r p).1 ∙ w.held;
    of_kind = kind_alike k (r.images.part g) w.of_kind;
    whole = subst (λ x. StandsWhole x (r.images.part g) (r.images.membrane m)) (sym maps) w.whole;
    apart = λ b j q. w.apart b j (subst (λ x. Reached x (r.images.part g) b) maps q);
  }

  some_after : (r : HeadRegisters) (gs : List ℕ) (b : ℕ) → IsInSome h r gs b → IsInSome t r gs b
  some_after r [] b w = w
  some_after r (g ∷ gs) b (inl q) = inl (subst (λ x. Reached x (r.images.part g) b) (sym maps) q)
  some_after r (g ∷ gs) b (inr q) = inr (some_after r gs b q)

  some_before : (r : HeadRegisters) (gs : List ℕ) (b : ℕ) → IsInSome t r gs b → IsInSome h r gs b
  some_before r [] b w = w
  some_before r (g ∷ gs) b (inl q) = inl (subst (λ x. Reached x (r.images.part g) b) maps q)
  some_before r (g ∷ gs) b (inr q) = inr (some_before r gs b q)

  others_alike : (r : HeadRegisters) (gs : List ℕ) (c m : ℕ) → HasOthers (IsInSome h r gs) c (atoms_in h m) → HasOthers (IsInSome t r gs) c (atoms_in t m)
  others_alike r gs c m w = record {
    others = w.others;
    differ = w.differ;
    count = w.count;
    there = λ b i. subst (In b) (sym (same.lists m)) (w.there b i);
    apart = λ b i q. w.apart b i (some_before r gs b q);
    rest = λ b i. elim (w.rest b (subst (In b) (same.lists m) i)) [ inl q ↦ inl q | inr q ↦ inr (some_after r gs b q) ];
  }

  graph_forth : (p q : Port) → SameGraph (atom_map h) p (atom_map h) q → SameGraph (atom_map t) p (atom_map t) q
  graph_forth p q w = subst (λ x. SameGraph x p x q) (sym maps) w

  graph_back : (p q : Port) → SameGraph (atom_map t) p (atom_map t) q → SameGraph (atom_map h) p (atom_map h) q
  graph_back p q w = subst (λ x. SameGraph x p x q) maps w

  left_forth : (n : HeadSize) (r : HeadRegisters) (m : ℕ) (gs : List ℕ) (b : ℕ) → IsLeftIn h n r m gs b → IsLeftIn t n r m gs b
  left_forth n r m gs b (inl q) = inl (subst (In b) (sym (same.lists (r.images.membrane m))) q.0, q.1, λ s. q.2 (some_before r gs b s))
  left_forth n r m gs b (inr q) = inr (q.0, subst (In q.0) (sym (same.inner (r.images.membrane m))) q.1, q.2, within_forth b q.0 q.3)

  left_back : (n : HeadSize) (r : HeadRegisters) (m : ℕ) (gs : List ℕ) (b : ℕ) → IsLeftIn t n r m gs b → IsLeftIn h n r m gs b
  left_back n r m gs b (inl q) = inl (subst (In b) (same.lists (r.images.membrane m)) q.0, q.1, λ s. q.2 (some_after r gs b s))
  left_back n r m gs b (inr q) = inr (q.0, subst (In q.0) (same.inner (r.images.membrane m)) q.1, q.2, within_alike b q.0 q.3)

  holds_alike : (n : HeadSize) (r : HeadRegisters) (i : Instr) → InstructionHolds h n r i → InstructionHolds t n r i
  holds_alike n r (FindAtom a m f) w = (subst (In (r.images.atom a)) (sym (same.lists (r.images.membrane m))) w.0, functors (r.images.atom a) ∙ w.1)
  holds_alike n r (Deref a p k) w = links (port_of r p).0 (port_of r p).1 ∙ w
  holds_alike n r (Func a f) w = functors (r.images.atom a) ∙ w
  holds_alike n r (InMem a m) w = subst (In (r.images.atom a)) (sym (same.lists (r.images.membrane m))) w
  holds_alike n r (NeqAtom a b) w = w
  holds_alike n r (Joined p q) w = links (port_of r p).0 (port_of r p).1 ∙ w
  holds_alike n r (NotIn p m) w = λ q e s. w q (sym (links (port_of r p).0 (port_of r p).1) ∙ e) (within_alike q.0 (r.images.membrane m) s)
  holds_alike n r (AnyMem m k) w = subst (In (r.images.membrane m)) (sym (same.inner (r.images.membrane k))) w
  holds_alike n r (NeqMem m k) w = w
  holds_alike n r (IsInt g p m) w = context_alike n.atoms r kind.Int g p m w
  holds_alike n r (IsUnary g p m) w = context_alike n.atoms r kind.Unary g p m w
  holds_alike n r (IsGround g p m) w = context_alike n.atoms r kind.Ground g p m w
  holds_alike n r (NAtoms m c gs) w = others_alike r gs c (r.images.membrane m) w
  holds_alike n r (NMems m c) w = ap length (same.inner (r.images.membrane m)) ∙ w
  holds_alike n r (NoRules m) w = same.rules (r.images.membrane m) ∙ w
  holds_alike n r (IsClosed m gs) w = λ b i p q e. left_forth n r m gs p.0 (w b i p (left_back n r m gs b q) (sym (links b i) ∙ e))
  holds_alike n r (EqGround g k) w = graph_forth (r.images.part g) (r.images.part k) w
  holds_alike n r (NeqGround g k) w = λ q. w (graph_back (r.images.part g) (r.images.part k) q)
  holds_alike n r (GetInt v g) w = ap integer_of_functor (functors (r.images.part g).0) ∙ w
  holds_alike n r (Const v z) w = w
  holds_alike n r (Add v x y) w = w
  holds_alike n r (Sub v x y) w = w
  holds_alike n r (Mul v x y) w = w
  holds_alike n r (Div v x y) w = w
  holds_alike n r (Mod v x y) w = w
  holds_alike n r (Lt v x) w = w
  holds_alike n r (Le v x) w = w
  holds_alike n r (Gt v x) w = w
  holds_alike n r (Ge v x) w = w
  holds_alike n r (Eq v x) w = w
  holds_alike n r (Ne v x) w = w
  holds_alike n r Commit w = w
  holds_alike n r _ w = absurd w

  all_hold_alike : (n : HeadSize) (r : HeadRegisters) (is : List Instr) → AllHold h n r is → AllHold t n r is
  all_hold_alike n r [] w = w
  all_hold_alike n r (i ∷ is) w = (holds_alike n r i w.0, all_hold_alike n r is w.1)

  -- code succeeds in the one where it does in the other
  pub succeeds_alike : (code : List Instr) (m : ℕ) (r : HeadRegisters) → Succeeds h code m r → Succeeds t code m r
  succeeds_alike code m r w = record { here = w.here; all = all_hold_alike (size_of_head code) r code w.all }
