-- The code of a head on a renamed heap.
use Rattle.std.proofs.Common.{◌≡◌, ◌∙◌, ℕ, suc, if◌then◌else◌, List, [], ◌∷◌, Option, Some, None, length, map, refl, sym, ap, subst, inl, inr}
use Rattle.std.specs.Option.{option_map}
use Rattle.std.proofs.lemmas.List.{length-map}
use Rattle.lmn_base.specs.Graphs.{Port, SameGraph}
use Rattle.lmn_base.specs.Lists.{In}
use Rattle.lmn_guards.specs.declared.plan.TypeKind.{TypeKind}
use Rattle.lmn_guards.specs.declared.plan.TypeKind.TheVariants as kind
use Rattle.lmn_store_heap.specs.Graphs.{atom_map}
use Rattle.lmn_store_heap.specs.Heap.{Heap, HeapAtom, HeapMem, Place, atoms_in, gone, mems_in, top, waiting, within}
use Rattle.lmn_solid_heads.specs.Embeddings.{ListNotAfter, StandsWithin, index_of, partner}
use Rattle.lmn_solid_heads.specs.Guards.{IsOfKindAt, integer_of_functor}
use Rattle.lmn_instr_code.specs.declared.instr.Instr.{Instr}
use Rattle.lmn_instr_code.specs.declared.instr.Instr.TheVariants.{AnyMem, Deref, EqGround, FindAtom, Func, GetInt, InMem, IsClosed, IsGround, IsInt, IsUnary, Joined, NAtoms, NMems, NeqAtom, NeqGround, NeqMem, NoRules, NotIn}
use Rattle.lmn_instr_code.specs.Running.{AllHold, HasOthers, HeadRegisters, HeadSize, InstructionHolds, IsClosedRest, IsContext, IsFirstSuccess, IsInSome, IsLeftIn, Succeeds, choices, size_of_head}
use Rattle.lmn_verify_renaming.specs.Laws.{HeadsAreRenamed}
use Rattle.lmn_verify_renaming.specs.Registers.{renamed_head}
use Rattle.lmn_verify_renaming.specs.Renamed.{Renaming, inverse, renamed, renamed_atom, renamed_mem, renamed_place, renamed_port}
use Rattle.lmn_verify_renaming.proofs.Numbers.{distinct_there, in_back, in_there, kept_test, one_to_one}
use Rattle.lmn_verify_renaming.proofs.Parts.{graph_there, reached_back, reached_there, whole_there, within_back, within_there}
use Rattle.lmn_verify_renaming.proofs.Reading.{atoms_there, functor_there, link_back, link_kept, mems_there, rules_there}

-- ---- there and back

ports_again : (to back : ℕ → ℕ) → ((x : ℕ) → back (to x) ≡ x) → (ls : List (Option (ℕ × ℕ))) → map (option_map (renamed_port back)) (map (option_map (renamed_port to)) ls) ≡ ls
ports_again to back there [] = refl
ports_again to back there (None ∷ ls) = ap (λ xs. None ∷ xs) (ports_again to back there ls)
ports_again to back there (Some p ∷ ls) = λ i. Some (there p.0 i, p.1) ∷ ports_again to back there ls i

list_again : (to back : ℕ → ℕ) → ((x : ℕ) → back (to x) ≡ x) → (xs : List ℕ) → map back (map to xs) ≡ xs
list_again to back there [] = refl
list_again to back there (x ∷ xs) = λ i. there x i ∷ list_again to back there xs i

place_again : (to back : ℕ → ℕ) → ((x : ℕ) → back (to x) ≡ x) → (p : Place) → renamed_place back (renamed_place to p) ≡ p
place_again to back there top = refl
place_again to back there (within m) = ap within (there m)
place_again to back there waiting = refl
place_again to back there gone = refl

module _ (r : Renaming) where
  atom_again : (o : Option HeapAtom) → option_map (renamed_atom r.atoms.back r.mems.back) (option_map (renamed_atom r.atoms.to r.mems.to) o) ≡ o
  atom_again None = refl
  atom_again (Some x) = λ i. Some (record x { links = ports_again r.atoms.to r.atoms.back r.atoms.there x.links i; place = place_again r.mems.to r.mems.back r.mems.there x.place i })

  mem_again : (o : Option HeapMem) → option_map (renamed_mem r.atoms.back r.mems.back) (option_map (renamed_mem r.atoms.to r.mems.to) o) ≡ o
  mem_again None = refl
  mem_again (Some x) = λ i. Some (record x {
    atoms = list_again r.atoms.to r.atoms.back r.atoms.there x.atoms i;
    mems = list_again r.mems.to r.mems.back r.mems.there x.mems i;
    place = place_again r.mems.to r.mems.back r.mems.there x.place i;
  })

  -- a heap that is renamed and back
  pub renamed_again : (s : Heap) → renamed (inverse r) (renamed r s) ≡ s
  renamed_again s = λ i. record {
    root = r.mems.there s.root i;
    atoms = λ a. (ap (λ x. option_map (renamed_atom r.atoms.back r.mems.back) (option_map (renamed_atom r.atoms.to r.mems.to) (s.atoms x))) (r.atoms.there a) ∙ atom_again (s.atoms a)) i;
    mems = λ m. (ap (λ x. option_map (renamed_mem r.atoms.back r.mems.back) (option_map (renamed_mem r.atoms.to r.mems.to) (s.mems x))) (r.mems.there m) ∙ mem_again (s.mems m)) i;
    new_atoms = list_again r.atoms.to r.atoms.back r.atoms.there s.new_atoms i;
    new_mems = list_again r.mems.to r.mems.back r.mems.there s.new_mems i;
  }

-- ---- one instruction

module _ (r : Renaming) (s : Heap) (n : HeadSize) (g : HeadRegisters) where
  abbrev A : ℕ → ℕ
  A = r.atoms.to

  abbrev B : ℕ → ℕ
  B = r.atoms.back

  abbrev M : ℕ → ℕ
  M = r.mems.to

  abbrev K : Heap
  K = renamed r s

  abbrev G : HeadRegisters
  G = renamed_head r g

  in_atoms : (a m : ℕ) → In a (atoms_in s m) → In (A a) (atoms_in K (M m))
  in_atoms a m i = subst (In (A a)) (sym (atoms_there r s m)) (in_there r.atoms a (atoms_in s m) i)

  in_atoms_back : (b m : ℕ) → In b (atoms_in K (M m)) → In (B b) (atoms_in s m)
  in_atoms_back b m i = in_back r.atoms b (atoms_in s m) (subst (In b) (atoms_there r s m) i)

  in_mems : (c m : ℕ) → In c (mems_in s m) → In (M c) (mems_in K (M m))
  in_mems c m i = subst (In (M c)) (sym (mems_there r s m)) (in_there r.mems c (mems_in s m) i)

  in_mems_back : (c m : ℕ) → In c (mems_in K (M m)) → In (r.mems.back c) (mems_in s m)
  in_mems_back c m i = in_back r.mems c (mems_in s m) (subst (In c) (mems_there r s m) i)

  kind_there : (k : TypeKind) (p : Port) → IsOfKindAt s k p → IsOfKindAt K k (renamed_port A p)
  kind_there kind.Int p w = (w.0, ap integer_of_functor (functor_there r s p.0) ∙ w.1)
  kind_there kind.Unary p w = (w.0, functor_there r s p.0 ∙ w.1, w.2)
  kind_there kind.Ground p w = tt

  context_there : (c : ℕ) (k : TypeKind) (x : ℕ) (p : _) (m : ℕ) → IsContext s c g k x p m → IsContext K c G k x p m
  context_there c k x p m w = record {
    held = link_kept r s (g.images.atom p.atom) p.port (g.images.part x).0 (g.images.part x).1 w.held;
    of_kind = kind_there k (g.images.part x) w.of_kind;
    whole = whole_there r s (g.images.part x) (g.images.membrane m) w.whole;
    apart = λ b j c l e. w.apart (B b) j (reached_back r s (g.images.part x) b c) l (sym (r.atoms.there (g.images.atom j)) ∙ ap B e);
  }

  some_there : (gs : List ℕ) (b : ℕ) → IsInSome s g gs b → IsInSome K G gs (A b)
  some_there [] b h = absurd h
  some_there (x ∷ gs) b (inl w) = inl (reached_there r s (g.images.part x) b w)
  some_there (x ∷ gs) b (inr w) = inr (some_there gs b w)

  some_back : (gs : List ℕ) (b : ℕ) → IsInSome K G gs b → IsInSome s g gs (B b)
  some_back [] b h = absurd h
  some_back (x ∷ gs) b (inl w) = inl (reached_back r s (g.images.part x) b w)
  some_back (x ∷ gs) b (inr w) = inr (some_back gs b w)

  others_there : (gs : List ℕ) (c : ℕ) (xs : List ℕ) → HasOthers (IsInSome s g gs) c xs → HasOthers (IsInSome K G gs) c (map A xs)
  others_there gs c xs w = record {
    others = map A w.others;
    differ = distinct_there r.atoms w.others w.differ;
    count = length-map w.others A ∙ w.count;
    there = λ b i. subst (λ z. In z (map A xs)) (r.atoms.again b) (in_there r.atoms (B b) xs (w.there (B b) (in_back r.atoms b w.others i)));
    apart = λ b i p. w.apart (B b) (in_back r.atoms b w.others i) (some_back gs b p);
    rest = λ b i. elim (w.rest (B b) (in_back r.atoms b xs i)) [
      | inl j ↦ inl (subst (λ z. In z (map A w.others)) (r.atoms.again b) (in_there r.atoms (B b) w.others j))
      | inr p ↦ inr (subst (IsInSome K G gs) (r.atoms.again b) (some_there gs (B b) p))
    ];
  }

  left_there : (m : ℕ) (gs : List ℕ) (b : ℕ) → IsLeftIn s n g m gs b → IsLeftIn K n G m gs (A b)
  left_there m gs b (inl w) = inl (
    in_atoms b (g.images.membrane m) w.0,
    (λ k l e. w.1 k l (one_to_one r.atoms (g.images.atom k) b e)),
    (λ p. w.2 (subst (IsInSome s g gs) (r.atoms.there b) (some_back gs (A b) p))),
  )
  left_there m gs b (inr w) = inr (
    M w.0,
    in_mems w.0 (g.images.membrane m) w.1,
    (λ k l e. w.2 k l (one_to_one r.mems (g.images.membrane k) w.0 e)),
    within_there r s b w.0 w.3,
  )

  left_back : (m : ℕ) (gs : List ℕ) (b : ℕ) → IsLeftIn K n G m gs b → IsLeftIn s n g m gs (B b)
  left_back m gs b (inl w) = inl (
    in_atoms_back b (g.images.membrane m) w.0,
    (λ k l e. w.1 k l (ap A e ∙ r.atoms.again b)),
    (λ p. w.2 (subst (IsInSome K G gs) (r.atoms.again b) (some_there gs (B b) p))),
  )
  left_back m gs b (inr w) = inr (
    r.mems.back w.0,
    in_mems_back w.0 (g.images.membrane m) w.1,
    (λ k l e. w.2 k l (ap M e ∙ r.mems.again w.0)),
    within_back r s b (r.mems.back w.0) (subst (StandsWithin K b) (sym (r.mems.again w.0)) w.3),
  )

  closed_there : (m : ℕ) (gs : List ℕ) → IsClosedRest s n g m gs → IsClosedRest K n G m gs
  closed_there m gs w = λ b i p l e.
      subst (IsLeftIn K n G m gs) (r.atoms.again p.0) (left_there m gs (B p.0) (w (B b) i (B p.0, p.1) (left_back m gs b l) (link_back r s b i p.0 p.1 e)))

  -- two parts that are the same with other numbers are the same
  graph_back : (x y : Port) → SameGraph (atom_map K) (renamed_port A x) (atom_map K) (renamed_port A y) → SameGraph (atom_map s) x (atom_map s) y
  graph_back x y w =
      let there = graph_there (inverse r) K (renamed_port A x) (renamed_port A y) w in
      let again = subst (λ h. SameGraph (atom_map h) (B (A x.0), x.1) (atom_map h) (B (A y.0), y.1)) (renamed_again r s) there in
      let px : ◌≡◌ {A = ℕ × ℕ} (B (A x.0), x.1) x = λ i. (r.atoms.there x.0 i, x.1) in
      let py : ◌≡◌ {A = ℕ × ℕ} (B (A y.0), y.1) y = λ i. (r.atoms.there y.0 i, y.1) in
      subst (λ q. SameGraph (atom_map s) x (atom_map s) q) py (subst (λ q. SameGraph (atom_map s) q (atom_map s) (B (A y.0), y.1)) px again)

  pub holds_there : (i : Instr) → InstructionHolds s n g i → InstructionHolds K n G i
  holds_there (FindAtom a m f) w = (in_atoms (g.images.atom a) (g.images.membrane m) w.0, functor_there r s (g.images.atom a) ∙ w.1)
  holds_there (Deref a p k) w = link_kept r s (g.images.atom p.atom) p.port (g.images.atom a) k w
  holds_there (Func a f) w = functor_there r s (g.images.atom a) ∙ w
  holds_there (InMem a m) w = in_atoms (g.images.atom a) (g.images.membrane m) w
  holds_there (NeqAtom a b) w = λ e. w (one_to_one r.atoms (g.images.atom a) (g.images.atom b) e)
  holds_there (Joined p q) w = link_kept r s (g.images.atom p.atom) p.port (g.images.atom q.atom) q.port w
  holds_there (NotIn p m) w = λ q e t.
      w (B q.0, q.1) (ap (λ z. partner s (z, p.port)) (sym (r.atoms.there (g.images.atom p.atom))) ∙ link_back r s (A (g.images.atom p.atom)) p.port q.0 q.1 e) (within_back r s q.0 (g.images.membrane m) t)
  holds_there (AnyMem m k) w = in_mems (g.images.membrane m) (g.images.membrane k) w
  holds_there (NeqMem m k) w = λ e. w (one_to_one r.mems (g.images.membrane m) (g.images.membrane k) e)
  holds_there (IsInt x p m) w = context_there n.atoms kind.Int x p m w
  holds_there (IsUnary x p m) w = context_there n.atoms kind.Unary x p m w
  holds_there (IsGround x p m) w = context_there n.atoms kind.Ground x p m w
  holds_there (NAtoms m c gs) w = subst (HasOthers (IsInSome K G gs) c) (sym (atoms_there r s (g.images.membrane m))) (others_there gs c (atoms_in s (g.images.membrane m)) w)
  holds_there (NMems m c) w = ap (λ xs. length xs) (mems_there r s (g.images.membrane m)) ∙ length-map (mems_in s (g.images.membrane m)) M ∙ w
  holds_there (NoRules m) w = rules_there r s (g.images.membrane m) ∙ w
  holds_there (IsClosed m gs) w = closed_there m gs w
  holds_there (EqGround x y) w = graph_there r s (g.images.part x) (g.images.part y) w
  holds_there (NeqGround x y) w = λ e. w (graph_back (g.images.part x) (g.images.part y) e)
  holds_there (GetInt v x) w = ap integer_of_functor (functor_there r s (g.images.part x).0) ∙ w
  holds_there _ w = w

-- ---- the code

index_there : (to : Renaming) (a : ℕ) (xs : List ℕ) → index_of (to.atoms.to a) (map to.atoms.to xs) ≡ index_of a xs
index_there r a [] = refl
index_there r a (x ∷ xs) = λ i. if sym (kept_test r.atoms x a) i then 0 else suc (index_there r a xs i)

index_of_mem : (to : Renaming) (m : ℕ) (xs : List ℕ) → index_of (to.mems.to m) (map to.mems.to xs) ≡ index_of m xs
index_of_mem r a [] = refl
index_of_mem r a (x ∷ xs) = λ i. if sym (kept_test r.mems x a) i then 0 else suc (index_of_mem r a xs i)

module _ (r : Renaming) (s : Heap) (g : HeadRegisters) where
  all_there : (n : HeadSize) (code : List Instr) → AllHold s n g code → AllHold (renamed r s) n (renamed_head r g) code
  all_there n [] w = tt
  all_there n (i ∷ is) w = (holds_there r s n g i w.0, all_there n is w.1)

  pub choices_there : (code : List Instr) → choices (renamed r s) (renamed_head r g) code ≡ choices s g code
  choices_there [] = refl
  choices_there (FindAtom a m f ∷ is) =
      let x = g.images.atom a in
      let y = g.images.membrane m in
      λ i. (ap (index_of (r.atoms.to x)) (atoms_there r s y) ∙ index_there r x (atoms_in s y)) i ∷ choices_there is i
  choices_there (AnyMem m k ∷ is) =
      let x = g.images.membrane m in
      let y = g.images.membrane k in
      λ i. (ap (index_of (r.mems.to x)) (mems_there r s y) ∙ index_of_mem r x (mems_in s y)) i ∷ choices_there is i
  choices_there (_ ∷ is) = choices_there is

  pub succeeds_there : (code : List Instr) (m : ℕ) → Succeeds s code m g → Succeeds (renamed r s) code (r.mems.to m) (renamed_head r g)
  succeeds_there code m w = record { here = ap r.mems.to w.here; all = all_there (size_of_head code) code w.all }

-- what succeeds in a renamed heap succeeds in the heap
pub succeeds_back : (r : Renaming) (s : Heap) (code : List Instr) (m : ℕ) (g : HeadRegisters) → Succeeds (renamed r s) code (r.mems.to m) g → Succeeds s code m (renamed_head (inverse r) g)
succeeds_back r s code m g w =
    let there = succeeds_there (inverse r) (renamed r s) g code (r.mems.to m) w in
    subst (λ k. Succeeds s code k (renamed_head (inverse r) g)) (r.mems.there m)
    (subst (λ h. Succeeds h code (r.mems.back (r.mems.to m)) (renamed_head (inverse r) g)) (renamed_again r s) there)

-- a first success is one with other numbers
pub first_there : (r : Renaming) (s : Heap) (code : List Instr) (m : ℕ) (g : HeadRegisters) → IsFirstSuccess s code m g → IsFirstSuccess (renamed r s) code (r.mems.to m) (renamed_head r g)
first_there r s code m g w = record {
  succeeds = succeeds_there r s g code m w.succeeds;
  first = λ t v.
      (let back = w.first (renamed_head (inverse r) t) (succeeds_back r s code m t v) in
      let same : choices s (renamed_head (inverse r) t) code ≡ choices (renamed r s) t code =
      ap (λ h. choices h (renamed_head (inverse r) t) code) (sym (renamed_again r s)) ∙ choices_there (inverse r) (renamed r s) t code in
      subst (λ xs. ListNotAfter xs (choices (renamed r s) t code)) (sym (choices_there r s g code)) (subst (ListNotAfter (choices s g code)) same back));
}

-- the code of a head on a renamed heap
pub heads_are_renamed : HeadsAreRenamed
heads_are_renamed r s code m = record {
  succeeds = λ g w. succeeds_there r s g code m w;
  back = λ g w. succeeds_back r s code m g w;
  first = λ g w. first_there r s code m g w;
}
