-- Verified code that fails in a membrane fails there until something in it or below it is touched.
use Rattle.std.proofs.Common.{◌≡◌, ◌<◌, ◌≤◌, ◌+◌, ◌∙◌, ◌⊎◌, inl, inr, ℕ, zero, suc, List, [], ◌∷◌, length, refl, sym, ap, subst, arith}
use Rattle.std.specs.List.{AllByRecursion}
use Rattle.lmn_base.specs.Graphs.{Port, Reached, at_root, StandsWhole}
use Rattle.lmn_base.specs.Lists.{In}
use Rattle.lmn_base.proofs.Lists.{get_there}
use Rattle.lmn_guards.specs.declared.plan.TypeKind.{TypeKind}
use Rattle.lmn_guards.specs.declared.plan.TypeKind.TheVariants as kind
use Rattle.lmn_store_heap.specs.Graphs.{atom_map}
use Rattle.lmn_store_heap.specs.Heap.{Heap, functor_of, link_of, atoms_in}
use Rattle.lmn_store_heap.specs.Sound.{Valid}
use Rattle.lmn_store_heap.proofs.Heights.{climbs_both}
use Rattle.lmn_solid_heads.specs.Embeddings.{Lies, partner}
use Rattle.lmn_solid_heads.specs.Guards.{IsOfKindAt, integer_of_functor}
use Rattle.lmn_solid_heads.specs.Heads.{atoms_of, membranes_of, typed_contexts_of}
use Rattle.lmn_instr_code.specs.declared.instr.AtomPort.{AtomPort}
use Rattle.lmn_instr_code.specs.declared.instr.Code.{Code}
use Rattle.lmn_instr_code.specs.declared.instr.Instr.{Instr}
use Rattle.lmn_instr_code.specs.declared.instr.Instr.TheVariants.{FindAtom, Deref, Func, InMem, NeqAtom, Joined, NotIn, AnyMem, NeqMem, IsInt, IsUnary, IsGround, NAtoms, NMems, NoRules, IsClosed, EqGround, NeqGround, GetInt, Const, Add, Sub, Mul, Div, Mod, Lt, Le, Gt, Ge, Eq, Ne, Commit}
use Rattle.lmn_instr_code.specs.Running.{HeadRegisters, HeadSize, AllHold, IsContext, IsInSome, IsLeftIn, IsClosedRest, HasOthers, Succeeds, size_of_head, atoms_set, membranes_set, port_of}
use Rattle.lmn_machine.specs.Searching.{HeadInOrder, parts_set}
use Rattle.lmn_schedule_sleep.specs.Quiet.{IsQuiet}
use Rattle.lmn_schedule_sleep.proofs.Guards.{Alike, alike_back, graph_alike}
use Rattle.lmn_verify_code.specs.Verified.{IsVerified}
use Rattle.lmn_verify_laws.specs.Flat.{flat_head}
use Rattle.lmn_verify_laws.proofs.Heads.{lies}
use Rattle.lmn_verify_laws.proofs.Items.{atom_count, atom_found, atoms_counted, membrane_count, membrane_found_at, parts_counted, typed_count, typed_found}
use Rattle.lmn_schedule_sleep.proofs.Staying.{Within, untouched, was_inner, inner_within, was_atom, is_atom, is_inner, still_within, was_within, listed_before, functor_same, link_same, reached_before, reached_after, part_functor, part_link, whole_before}
use Rattle.lmn_verify_laws.proofs.Ready.{membranes_counted, verified_is_in_order}

module _ (code : Code) (k : ℕ) (v : IsVerified code k) (h t : Heap) (vh : Valid h) (vt : Valid t) (m : ℕ) (quiet : IsQuiet h t m) (r : HeadRegisters) (succeeds : Succeeds t code.head m r) where
  abbrev c : HeadSize
  c = size_of_head code.head

  abbrev Inside : ℕ → Type 0
  Inside n = Within h t vh vt m quiet n

  lie : Lies t (flat_head code) m r.images
  lie = lies code k v t vt m r succeeds

  -- ---- what the registers hold is below the membrane

  inside_by : (fuel n : ℕ) → n < fuel → n < 1 + membranes_set code.head → Inside (r.images.membrane n)
  inside_by zero n l u = absurd (omega (arith, l))
  inside_by (suc fuel) zero l u = (0, lie.here)
  inside_by (suc fuel) (suc i) l u =
      let many = membrane_count code in
      let few = membranes_counted code.head in
      let b = get_there (membranes_of (flat_head code)) i (omega (arith, many, few, u)) in
      let w = membrane_found_at code k v i b.0 b.1 in
      let low : b.0.inside < suc i = subst (λ z. z < suc i) (ap (λ y. y.inside) w.2) w.4 in
      let up = inside_by fuel b.0.inside (omega (arith, low, l)) (omega (arith, low, u)) in
      inner_within h t vh vt m quiet (r.images.membrane b.0.inside) (r.images.membrane (suc i)) up
      (was_inner h t vh vt m quiet (r.images.membrane b.0.inside) (r.images.membrane (suc i)) up (lie.membranes_placed (suc i) b.0 (i, refl, b.1)))

  inside : (n : ℕ) → n < 1 + membranes_set code.head → Inside (r.images.membrane n)
  inside n u = inside_by (suc n) n (omega arith) u

  -- an atom in a register
  record IsHeld (a : ℕ) : Type 0 where
    home : ℕ
    below : Inside home
    there : In a (atoms_in h home)

  atom_held : (a : ℕ) → a < atoms_set code.head → IsHeld (r.images.atom a)
  atom_held a l =
      let many = atom_count code in
      let few = atoms_counted code.head v.looked_at in
      let x = get_there (atoms_of (flat_head code)) a (omega (arith, many, few, l)) in
      let w = atom_found code k v a x.0 x.1 in
      let low : x.0.inside < 1 + membranes_set code.head = subst (λ z. z < 1 + membranes_set code.head) (ap (λ y. y.inside) w.2) w.4 in
      let up = inside x.0.inside low in
      record { home = r.images.membrane x.0.inside; below = up; there = was_atom h t vh vt m quiet (r.images.membrane x.0.inside) (r.images.atom a) up (lie.atoms_placed a x.0 x.1) }

  held_link : (a i : ℕ) → IsHeld a → link_of t a i ≡ link_of h a i
  held_link a i w = link_same h t vh vt m quiet a i w.home w.below w.there

  port_same : (p : AtomPort) → p.atom < atoms_set code.head → partner t (port_of r p) ≡ partner h (port_of r p)
  port_same p l = held_link (r.images.atom p.atom) p.port (atom_held p.atom l)

  -- a part in a register
  record IsHeldPart (p : Port) : Type 0 where
    home : ℕ
    below : Inside home
    whole : StandsWhole (atom_map t) p home

  part_held : (g : ℕ) → g < parts_set code.head → IsHeldPart (r.images.part g)
  part_held g l =
      let many = typed_count code in
      let few = parts_counted code.head in
      let x = get_there (typed_contexts_of (flat_head code)) g (omega (arith, many, few, l)) in
      let w = typed_found code k v g x.0 x.1 in
      let low : x.0.inside < 1 + membranes_set code.head = subst (λ z. z < 1 + membranes_set code.head) (ap (λ y. y.inside) w.2) w.4 in
      record { home = r.images.membrane x.0.inside; below = inside x.0.inside low; whole = (lie.parts g x.0 x.1).whole }

  before : (p : Port) → IsHeldPart p → (b : ℕ) → Reached (atom_map t) p b → Reached (atom_map h) p b
  before p w b s = reached_before h t vh vt m quiet p w.home w.below w.whole b s

  behind : (p : Port) → IsHeldPart p → (b : ℕ) → Reached (atom_map h) p b → Reached (atom_map t) p b
  behind p w b s = reached_after h t vh vt m quiet p w.home w.below w.whole b s

  root_same : (p : Port) → IsHeldPart p → functor_of t p.0 ≡ functor_of h p.0
  root_same p w = part_functor h t vh vt m quiet p w.home w.below w.whole p.0 at_root

  alike : (p : Port) → IsHeldPart p → Alike (atom_map t) (atom_map h) p
  alike p w = record {
    to = before p w;
    from = behind p w;
    functors = λ b s. sym (part_functor h t vh vt m quiet p w.home w.below w.whole b s);
    links = λ b i s. sym (part_link h t vh vt m quiet p w.home w.below w.whole b i s);
  }

  -- ---- the instructions

  kind_same : (q : TypeKind) (p : Port) → functor_of t p.0 ≡ functor_of h p.0 → IsOfKindAt t q p → IsOfKindAt h q p
  kind_same kind.Int p e w = (w.0, ap integer_of_functor (sym e) ∙ w.1)
  kind_same kind.Unary p e w = (w.0, sym e ∙ w.1, w.2)
  kind_same kind.Ground p e w = w

  context : (q : TypeKind) (g : ℕ) (p : AtomPort) (n : ℕ) → p.atom < atoms_set code.head → n < 1 + membranes_set code.head → IsContext t c.atoms r q g p n → IsContext h c.atoms r q g p n
  context q g p n la ln w =
      let up = inside n ln in
      let here : IsHeldPart (r.images.part g) = record { home = r.images.membrane n; below = up; whole = w.whole } in
      record {
        held = sym (port_same p la) ∙ w.held;
        of_kind = kind_same q (r.images.part g) (root_same (r.images.part g) here) w.of_kind;
        whole = whole_before h t vh vt m quiet (r.images.part g) (r.images.membrane n) up w.whole;
        apart = λ b j s. w.apart b j (behind (r.images.part g) here b s);
      }

  abbrev AllParts : List ℕ → Type 0
  AllParts gs = AllByRecursion (λ j. j < parts_set code.head) gs

  some_before : (gs : List ℕ) → AllParts gs → (b : ℕ) → IsInSome t r gs b → IsInSome h r gs b
  some_before [] l b s = s
  some_before (g ∷ gs) l b (inl s) = inl (before (r.images.part g) (part_held g l.0) b s)
  some_before (g ∷ gs) l b (inr s) = inr (some_before gs l.1 b s)

  some_behind : (gs : List ℕ) → AllParts gs → (b : ℕ) → IsInSome h r gs b → IsInSome t r gs b
  some_behind [] l b s = s
  some_behind (g ∷ gs) l b (inl s) = inl (behind (r.images.part g) (part_held g l.0) b s)
  some_behind (g ∷ gs) l b (inr s) = inr (some_behind gs l.1 b s)

  others_same : (x n : ℕ) (gs : List ℕ) → Inside x → AllParts gs → HasOthers (IsInSome t r gs) n (atoms_in t x) → HasOthers (IsInSome h r gs) n (atoms_in h x)
  others_same x n gs up l w = record {
    others = w.others;
    differ = w.differ;
    count = w.count;
    there = λ b i. was_atom h t vh vt m quiet x b up (w.there b i);
    apart = λ b i s. w.apart b i (some_behind gs l b s);
    rest = λ b i. by b (w.rest b (is_atom h t vh vt m quiet x b up i));
  }
    where
      by : (b : ℕ) → In b w.others ⊎ IsInSome t r gs b → In b w.others ⊎ IsInSome h r gs b
      by b (inl i) = inl i
      by b (inr s) = inr (some_before gs l b s)

  -- an atom of the rest of a membrane
  left_before : (n : ℕ) (gs : List ℕ) (b : ℕ) → n < 1 + membranes_set code.head → AllParts gs → IsLeftIn t c r n gs b → IsLeftIn h c r n gs b
  left_before n gs b u l (inl (i, named, part)) = inl (was_atom h t vh vt m quiet (r.images.membrane n) b (inside n u) i, named, λ s. part (some_behind gs l b s))
  left_before n gs b u l (inr (x, i, named, s)) =
      let inner = was_inner h t vh vt m quiet (r.images.membrane n) x (inside n u) i in
      inr (x, inner, named, was_within h t vh vt m quiet b x (inner_within h t vh vt m quiet (r.images.membrane n) x (inside n u) inner) s)

  left_behind : (n : ℕ) (gs : List ℕ) (b : ℕ) → n < 1 + membranes_set code.head → AllParts gs → IsLeftIn h c r n gs b → IsLeftIn t c r n gs b
  left_behind n gs b u l (inl (i, named, part)) = inl (is_atom h t vh vt m quiet (r.images.membrane n) b (inside n u) i, named, λ s. part (some_before gs l b s))
  left_behind n gs b u l (inr (x, i, named, s)) =
      inr (x, is_inner h t vh vt m quiet (r.images.membrane n) x (inside n u) i, named, still_within h t vh vt m quiet b x (inner_within h t vh vt m quiet (r.images.membrane n) x (inside n u) i) s)

  left_held : (n : ℕ) (gs : List ℕ) (b : ℕ) → n < 1 + membranes_set code.head → IsLeftIn h c r n gs b → IsHeld b
  left_held n gs b u (inl (i, named, part)) = record { home = r.images.membrane n; below = inside n u; there = i }
  left_held n gs b u (inr (x, i, named, s)) =
      let up = inner_within h t vh vt m quiet (r.images.membrane n) x (inside n u) i in
      record { home = s.0; below = (s.1 + up.0, climbs_both h s.1 up.0 m x s.0 s.3 up.1); there = listed_before h t vh vt m quiet b s.0 s.2 }

  closed_same : (n : ℕ) (gs : List ℕ) → n < 1 + membranes_set code.head → AllParts gs → IsClosedRest t c r n gs → IsClosedRest h c r n gs
  closed_same n gs u l w b i p left e =
      left_before n gs p.0 u l (w b i p (left_behind n gs b u l left) (held_link b i (left_held n gs b u left) ∙ e))

  fewer : (g : ℕ) (gs : List ℕ) → g ≤ parts_set code.head → AllByRecursion (λ j. j < g) gs → AllParts gs
  fewer g [] u l = tt
  fewer g (j ∷ gs) u l = ((let low = l.0 in omega (arith, low, u)), fewer g gs u l.1)

  -- Where all of its instructions hold in the one heap, they held in the other.
  held : (is : List Instr) (a n g w : ℕ) → HeadInOrder a n g w is → a + atoms_set is ≡ atoms_set code.head → n + membranes_set is ≡ 1 + membranes_set code.head → g + parts_set is ≡ parts_set code.head
      → AllHold t c r is → AllHold h c r is
  held [] a n g w o ea en eg s = tt
  held (FindAtom x y f ∷ is) a n g w o ea en eg s =
      let low : y < 1 + membranes_set code.head = (let l = o.0.1 in omega (arith, l, en)) in
      let there = was_atom h t vh vt m quiet (r.images.membrane y) (r.images.atom x) (inside y low) s.0.0 in
      ((there, sym (functor_same h t vh vt m quiet (r.images.atom x) (r.images.membrane y) (inside y low) there) ∙ s.0.1), held is (a + 1) n g w o.1 (omega (arith, ea)) en eg s.1)
  held (Deref x p j ∷ is) a n g w o ea en eg s =
      let low : p.atom < atoms_set code.head = (let l = o.0.1 in omega (arith, l, ea)) in
      (sym (port_same p low) ∙ s.0, held is (a + 1) n g w o.1 (omega (arith, ea)) en eg s.1)
  held (Func x f ∷ is) a n g w o ea en eg s =
      let low : x < atoms_set code.head = (let l = o.0 in omega (arith, l, ea)) in
      let at = atom_held x low in
      (sym (functor_same h t vh vt m quiet (r.images.atom x) at.home at.below at.there) ∙ s.0, held is a n g w o.1 ea en eg s.1)
  held (InMem x y ∷ is) a n g w o ea en eg s =
      let low : y < 1 + membranes_set code.head = (let l = o.0.1 in omega (arith, l, en)) in
      (was_atom h t vh vt m quiet (r.images.membrane y) (r.images.atom x) (inside y low) s.0, held is a n g w o.1 ea en eg s.1)
  held (NeqAtom x y ∷ is) a n g w o ea en eg s = (s.0, held is a n g w o.1 ea en eg s.1)
  held (Joined p q ∷ is) a n g w o ea en eg s =
      let low : p.atom < atoms_set code.head = (let l = o.0.0 in omega (arith, l, ea)) in
      (sym (port_same p low) ∙ s.0, held is a n g w o.1 ea en eg s.1)
  held (NotIn p y ∷ is) a n g w o ea en eg s =
      let low : p.atom < atoms_set code.head = (let l = o.0.0 in omega (arith, l, ea)) in
      let at : y < 1 + membranes_set code.head = (let l = o.0.1 in omega (arith, l, en)) in
      (λ q e z. s.0 q (port_same p low ∙ e) (still_within h t vh vt m quiet q.0 (r.images.membrane y) (inside y at) z), held is a n g w o.1 ea en eg s.1)
  held (AnyMem x y ∷ is) a n g w o ea en eg s =
      let low : y < 1 + membranes_set code.head = (let l = o.0.1 in omega (arith, l, en)) in
      (was_inner h t vh vt m quiet (r.images.membrane y) (r.images.membrane x) (inside y low) s.0, held is a (n + 1) g w o.1 ea (omega (arith, en)) eg s.1)
  held (NeqMem x y ∷ is) a n g w o ea en eg s = (s.0, held is a n g w o.1 ea en eg s.1)
  held (IsInt x p y ∷ is) a n g w o ea en eg s =
      let low : p.atom < atoms_set code.head = (let l = o.0.0.1 in omega (arith, l, ea)) in
      let at : y < 1 + membranes_set code.head = (let l = o.0.0.2 in omega (arith, l, en)) in
      (context kind.Int x p y low at s.0, held is a n (g + 1) w o.1 ea en (omega (arith, eg)) s.1)
  held (IsUnary x p y ∷ is) a n g w o ea en eg s =
      let low : p.atom < atoms_set code.head = (let l = o.0.0.1 in omega (arith, l, ea)) in
      let at : y < 1 + membranes_set code.head = (let l = o.0.0.2 in omega (arith, l, en)) in
      (context kind.Unary x p y low at s.0, held is a n (g + 1) w o.1 ea en (omega (arith, eg)) s.1)
  held (IsGround x p y ∷ is) a n g w o ea en eg s =
      let low : p.atom < atoms_set code.head = (let l = o.0.0.1 in omega (arith, l, ea)) in
      let at : y < 1 + membranes_set code.head = (let l = o.0.0.2 in omega (arith, l, en)) in
      (context kind.Ground x p y low at s.0, held is a n (g + 1) w o.1 ea en (omega (arith, eg)) s.1)
  held (NAtoms x j gs ∷ is) a n g w o ea en eg s =
      let at : x < 1 + membranes_set code.head = (let l = o.0.0 in omega (arith, l, en)) in
      (others_same (r.images.membrane x) j gs (inside x at) (fewer g gs (omega (arith, eg)) o.0.1) s.0, held is a n g w o.1 ea en eg s.1)
  held (NMems x j ∷ is) a n g w o ea en eg s =
      let at : x < 1 + membranes_set code.head = (let l = o.0 in omega (arith, l, en)) in
      (ap length (sym (untouched h t vh vt m quiet (r.images.membrane x) (inside x at)).mems) ∙ s.0, held is a n g w o.1 ea en eg s.1)
  held (NoRules x ∷ is) a n g w o ea en eg s =
      let at : x < 1 + membranes_set code.head = (let l = o.0 in omega (arith, l, en)) in
      (sym (untouched h t vh vt m quiet (r.images.membrane x) (inside x at)).rules ∙ s.0, held is a n g w o.1 ea en eg s.1)
  held (IsClosed x gs ∷ is) a n g w o ea en eg s =
      let at : x < 1 + membranes_set code.head = (let l = o.0.0 in omega (arith, l, en)) in
      (closed_same x gs at (fewer g gs (omega (arith, eg)) o.0.1) s.0, held is a n g w o.1 ea en eg s.1)
  held (EqGround x y ∷ is) a n g w o ea en eg s =
      let one : x < parts_set code.head = (let l = o.0.0 in omega (arith, l, eg)) in
      let two : y < parts_set code.head = (let l = o.0.1 in omega (arith, l, eg)) in
      (graph_alike (atom_map t) (atom_map h) (r.images.part x) (r.images.part y) (alike (r.images.part x) (part_held x one)) (alike (r.images.part y) (part_held y two)) s.0, held is a n g w o.1 ea en eg s.1)
  held (NeqGround x y ∷ is) a n g w o ea en eg s =
      let one : x < parts_set code.head = (let l = o.0.0 in omega (arith, l, eg)) in
      let two : y < parts_set code.head = (let l = o.0.1 in omega (arith, l, eg)) in
      let back : (z : ℕ) → z < parts_set code.head → Alike (atom_map h) (atom_map t) (r.images.part z) = λ z l. alike_back (atom_map t) (atom_map h) (r.images.part z) (alike (r.images.part z) (part_held z l)) in
      (λ e. s.0 (graph_alike (atom_map h) (atom_map t) (r.images.part x) (r.images.part y) (back x one) (back y two) e), held is a n g w o.1 ea en eg s.1)
  held (GetInt x y ∷ is) a n g w o ea en eg s =
      let one : y < parts_set code.head = (let l = o.0.1 in omega (arith, l, eg)) in
      (ap integer_of_functor (sym (root_same (r.images.part y) (part_held y one))) ∙ s.0, held is a n g (w + 1) o.1 ea en eg s.1)
  held (Const x y ∷ is) a n g w o ea en eg s = (s.0, held is a n g (w + 1) o.1 ea en eg s.1)
  held (Add x y z ∷ is) a n g w o ea en eg s = (s.0, held is a n g (w + 1) o.1 ea en eg s.1)
  held (Sub x y z ∷ is) a n g w o ea en eg s = (s.0, held is a n g (w + 1) o.1 ea en eg s.1)
  held (Mul x y z ∷ is) a n g w o ea en eg s = (s.0, held is a n g (w + 1) o.1 ea en eg s.1)
  held (Div x y z ∷ is) a n g w o ea en eg s = (s.0, held is a n g (w + 1) o.1 ea en eg s.1)
  held (Mod x y z ∷ is) a n g w o ea en eg s = (s.0, held is a n g (w + 1) o.1 ea en eg s.1)
  held (Lt x y ∷ is) a n g w o ea en eg s = (s.0, held is a n g w o.1 ea en eg s.1)
  held (Le x y ∷ is) a n g w o ea en eg s = (s.0, held is a n g w o.1 ea en eg s.1)
  held (Gt x y ∷ is) a n g w o ea en eg s = (s.0, held is a n g w o.1 ea en eg s.1)
  held (Ge x y ∷ is) a n g w o ea en eg s = (s.0, held is a n g w o.1 ea en eg s.1)
  held (Eq x y ∷ is) a n g w o ea en eg s = (s.0, held is a n g w o.1 ea en eg s.1)
  held (Ne x y ∷ is) a n g w o ea en eg s = (s.0, held is a n g w o.1 ea en eg s.1)
  held (Commit ∷ is) a n g w o ea en eg s = (tt, held is a n g w o.1 ea en eg s.1)
  held (_ ∷ is) a n g w o ea en eg s = absurd s.0

  -- so the head succeeded there
  pub succeeded : Succeeds h code.head m r
  succeeded = record {
    here = succeeds.here;
    all = held code.head 0 1 0 0 (verified_is_in_order code k v).head (omega arith) refl (omega arith) succeeds.all;
  }
