-- What is in registers, or in a part in registers, and stands in a membrane: while its own marks are set.
use Rattle.std.proofs.Common.{◌≡◌, ◌<◌, ◌≤◌, ℕ, ◌+◌, List, [], ◌∷◌, ◌++◌, length, map, Some, None, IsSome, refl, sym, ap, subst, ◌∙◌, inl, inr, arith}
use Rattle.std.specs.Prelude.{◌↔◌, slice_get}
use Rattle.lmn_base.specs.Graphs.{AtomMap, Port, Reached}
use Rattle.lmn_base.specs.Lists.{In}
use Rattle.lmn_base.proofs.Lists.{get_below, in_either}
use Rattle.lmn_base.proofs.Numbers.{same_or_not}
use Rattle.lmn_store_heap.specs.Heap.{Heap, IsAtom, IsMem, marked, arity_of, home_of, port_id, PortsUnmarked}
use Rattle.lmn_store_heap.specs.Graphs.{atom_map}
use Rattle.lmn_store_heap.proofs.ListLemmas.{in_left, in_right}
use Rattle.lmn_ground_parts.specs.Walks.{IsPartInDepth}
use Rattle.lmn_ground.specs.Rests.{own_marked}
use Rattle.lmn_ground.specs.Spread.{IsWhole}
use Rattle.lmn_ground.proofs.GroundLaws.{part_atoms}
use Rattle.lmn_ground.proofs.CopyLaws.{member as in_handles}
use Rattle.lmn_machine_registers.specs.declared.registers.SetRegisters.{SetRegisters}
use Rattle.lmn_machine_commit.specs.OwnMarks.{own_painted, AreWholeParts, HasOwnMarks, IsInPartInside, IsOneInside, IsTakenInside}
use Rattle.lmn_machine_commit.proofs.Owning.{all_at, of_handles, own_append, same_graph, arity_same, there_painted, back_painted, mem_painted, clean_painted, marked_more}

-- one of the first n of these atoms
abbrev pub IsFirstInside : {A : Type 0} → (A → ℕ) → Heap → List A → ℕ → ℕ → ℕ → Type 0
IsFirstInside {A} atom h atoms m n b = (k : ℕ) × (a : A) × (k < n) × (slice_get atoms k ≡ Some a) × (atom a ≡ b) × (home_of h b ≡ Some m)

-- an atom of one of the first n of these parts
abbrev pub IsInFirstInside : {A : Type 0} → (A → ℕ) → Heap → List (A × ℕ) → ℕ → ℕ → ℕ → Type 0
IsInFirstInside {A} atom h parts m n b = (k : ℕ) × (p : A × ℕ) × (k < n) × (slice_get parts k ≡ Some p) × (home_of h (atom p.0) ≡ Some m) × Reached (atom_map h) (port_id atom p) b

-- the first are all
pub atoms_all : {A : Type 0} (atom : A → ℕ) (h : Heap) (atoms : List A) (m n b : ℕ) → length atoms ≤ n → IsFirstInside atom h atoms m n b ↔ IsOneInside atom h atoms m b
atoms_all {A} atom h atoms m n b l = (
  λ w. (subst (λ z. In z (map atom atoms)) w.4 (in_handles atom atoms w.0 w.1 w.3), w.5),
  λ w. (let o = of_handles atom atoms b w.0 in let k = get_below atoms o.0 o.1.0 o.1.1 in (o.0, o.1.0, omega (arith, k, l), o.1.1, o.1.2, w.1)),
)

-- and so it is of parts
pub parts_all : {A : Type 0} (atom : A → ℕ) (h : Heap) (parts : List (A × ℕ)) (m n b : ℕ) → length parts ≤ n → IsInFirstInside atom h parts m n b ↔ IsInPartInside atom h parts m b
parts_all atom h parts m n b l = (λ w. (w.0, w.1, w.3, w.4, w.5), λ w. (let k = get_below parts w.0 w.1 w.2 in (w.0, w.1, omega (arith, k, l), w.2, w.3, w.4)))

-- What is marked of one atom, or of one part.
abbrev pub MarksThese : (ℕ → Type 0) → ℕ → Heap → Heap → Type 0
MarksThese P mark s t = (all : List ℕ) × ((b : ℕ) → In b all ↔ P b) × (t ≡ own_marked mark all s)

-- an atom that stands there is marked
pub atom_marked : (mark m a : ℕ) (s t : Heap) → home_of s a ≡ Some m → t ≡ marked s a (arity_of s a) mark → MarksThese (λ b. (a ≡ b) × (home_of s b ≡ Some m)) mark s t
atom_marked mark m a s t home e = (a ∷ [], λ b. (λ i. elim i [ inl q ↦ (q, subst (λ z. home_of s z ≡ Some m) q home) | inr j ↦ absurd j ], λ w. inl w.0), e)

-- of one that stands elsewhere nothing is
pub atom_not_marked : (mark m a : ℕ) (s : Heap) → (home_of s a ≡ Some m → ⊥) → MarksThese (λ b. (a ≡ b) × (home_of s b ≡ Some m)) mark s s
atom_not_marked mark m a s off = ([], λ b. (λ i. absurd i, λ w. absurd (off (subst (λ z. home_of s z ≡ Some m) (sym w.0) w.1))), refl)

-- the atoms of a part whose root stands there are marked
pub part_marked : (mark m : ℕ) (root : Port) (s t : Heap) → home_of s root.0 ≡ Some m → (ps : List ℕ) → IsPartInDepth s root ps → t ≡ own_marked mark ps s → MarksThese (λ b. (home_of s root.0 ≡ Some m) × Reached (atom_map s) root b) mark s t
part_marked mark m root s t home ps part e = (ps, λ b. (let w = (part_atoms s root ps part).1 b in (λ i. (home, w.0 i), λ u. w.1 u.1)), e)

-- of one whose root stands elsewhere none is
pub part_not_marked : (mark m : ℕ) (root : Port) (s : Heap) → (home_of s root.0 ≡ Some m → ⊥) → MarksThese (λ b. (home_of s root.0 ≡ Some m) × Reached (atom_map s) root b) mark s s
part_not_marked mark m root s off = ([], λ b. (λ i. absurd i, λ w. absurd (off w.0)), refl)

-- the ports that are joined are told by the graph
pub whole_same : (s t : Heap) → atom_map t ≡ atom_map s → ((a : ℕ) → arity_of t a ≡ arity_of s a) → (root : Port) → IsWhole s root None → IsWhole t root None
whole_same s t graph arities root w = record {
  atoms = λ a r. tt;
  ends = λ a i r l d. subst IsSome (ap (λ (n : AtomMap). n.partner (a, i)) (sym graph)) (w.ends a i (subst (λ (n : AtomMap). Reached n root a) graph r) (subst (λ n. i < n) (arities a) l) d);
}

-- A heap now that is s but for further own marks.
module _ (s : Heap) (has : HasOwnMarks s) (all : List ℕ) (mark : ℕ) (now : Heap) (f : now ≡ own_marked mark all s) where
  abbrev v : ℕ → ℕ
  v = all_at all mark has.1

  is_now : now ≡ own_painted has.0 v
  is_now = marked_more has.0 has.2 has.1 s has.3 all mark now f

  -- the graph is as it was
  pub graph_now : atom_map now ≡ atom_map s
  graph_now = same_graph has.0 has.2 v now is_now ∙ sym (same_graph has.0 has.2 has.1 s has.3)

  -- so is where each atom stands
  pub home_now : (a : ℕ) → home_of now a ≡ home_of s a
  home_now a = ap (λ (n : AtomMap). n.home a) graph_now

  -- and how many ports it has
  pub arity_now : (a : ℕ) → arity_of now a ≡ arity_of s a
  arity_now a = arity_same has.0 has.2 v now is_now a ∙ sym (arity_same has.0 has.2 has.1 s has.3 a)

  -- other marks than own ones are still 0
  pub has_now : HasOwnMarks now
  has_now = (has.0, v, has.2, is_now)

  -- each atom is there
  pub atom_now : (a : ℕ) → IsAtom s a → IsAtom now a
  atom_now a i = there_painted has.0 has.2 v now is_now a (back_painted has.0 has.2 has.1 s has.3 a i)

  -- and each membrane
  pub mem_now : (m : ℕ) → IsMem s m → IsMem now m
  mem_now m i = mem_painted has.0 has.2 v now is_now m (subst (λ (h : Heap). IsMem h m) has.3 i)

  -- and each port
  pub port_now : (a i : ℕ) → i < arity_of s a → i < arity_of now a
  port_now a i l = subst (λ n. i < n) (sym (arity_now a)) l

  -- a part is as whole as it was
  pub whole_now : (root : Port) → IsWhole s root None → IsWhole now root None
  whole_now root w = whole_same s now graph_now arity_now root w

  -- one atom more
  pub atoms_more : {A : Type 0} (atom : A → ℕ) (atoms : List A) (i : ℕ) (x : A) (m b : ℕ) → slice_get atoms i ≡ Some x → In b all ↔ IsFirstInside atom s atoms m i b → (ys : List ℕ) → In b ys ↔ ((atom x ≡ b) × (home_of now b ≡ Some m))
      → In b (all ++ ys) ↔ IsFirstInside atom s atoms m (i + 1) b
  atoms_more atom atoms i x m b at told ys one = (
    λ k. elim (in_either b all ys k) [
      | inl a ↦ (let w = told.0 a in let l = w.2 in (w.0, w.1, omega (arith, l), w.3, w.4, w.5))
      | inr a ↦ (let w = one.0 a in (i, x, omega arith, at, w.0, sym (home_now b) ∙ w.1))
    ],
    λ w. elim (same_or_not w.0 i) [
      | inl q ↦ (
          let same : Some x ≡ Some w.1 = sym at ∙ (ap (λ j. slice_get atoms j) (sym q) ∙ w.3) in
          let this : x ≡ w.1 = cc in
          in_right b all ys (one.1 (ap atom this ∙ w.4, home_now b ∙ w.5)))
      | inr d ↦ (let l = w.2 in in_left b all ys (told.1 (w.0, w.1, omega (arith, l, d), w.3, w.4, w.5)))
    ],
  )

  -- one part more
  pub parts_more : {A : Type 0} (atom : A → ℕ) (parts : List (A × ℕ)) (i : ℕ) (p : A × ℕ) (m b : ℕ) → slice_get parts i ≡ Some p → In b all ↔ IsInFirstInside atom s parts m i b → (ys : List ℕ)
      → In b ys ↔ ((home_of now (atom p.0) ≡ Some m) × Reached (atom_map now) (port_id atom p) b) → In b (all ++ ys) ↔ IsInFirstInside atom s parts m (i + 1) b
  parts_more atom parts i p m b at told ys one = (
    λ k. elim (in_either b all ys k) [
      | inl a ↦ (let w = told.0 a in let l = w.2 in (w.0, w.1, omega (arith, l), w.3, w.4, w.5))
      | inr a ↦ (let w = one.0 a in (i, p, omega arith, at, sym (home_now (atom p.0)) ∙ w.0, subst (λ (n : AtomMap). Reached n (port_id atom p) b) graph_now w.1))
    ],
    λ w. elim (same_or_not w.0 i) [
      | inl q ↦ (
          let same : Some p ≡ Some w.1 = sym at ∙ (ap (λ j. slice_get parts j) (sym q) ∙ w.3) in
          let this : p ≡ w.1 = cc in
          let there : (home_of s (atom p.0) ≡ Some m) × Reached (atom_map s) (port_id atom p) b = subst (λ r. (home_of s (atom r.0) ≡ Some m) × Reached (atom_map s) (port_id atom r) b) (sym this) (w.4, w.5) in
          in_right b all ys (one.1 (home_now (atom p.0) ∙ there.0, subst (λ (n : AtomMap). Reached n (port_id atom p) b) (sym graph_now) there.1)))
      | inr d ↦ (let l = w.2 in in_left b all ys (told.1 (w.0, w.1, omega (arith, l, d), w.3, w.4, w.5)))
    ],
  )

  -- so are all parts in registers
  pub wholes_now : {A : Type 0} (atom : A → ℕ) (parts : List (A × ℕ)) → AreWholeParts atom s parts → AreWholeParts atom now parts
  wholes_now atom parts w = λ k p e. (let u = w k p e in (atom_now (atom p.0) u.0, port_now (atom p.0) p.1 u.1, whole_now (port_id atom p) u.2))

  part_inside : {A : Type 0} (atom : A → ℕ) (parts : List (A × ℕ)) (m b : ℕ) → IsInPartInside atom now parts m b ↔ IsInPartInside atom s parts m b
  part_inside atom parts m b = (
    λ w. (w.0, w.1, w.2, sym (home_now (atom w.1.0)) ∙ w.3, subst (λ (n : AtomMap). Reached n (port_id atom w.1) b) graph_now w.4),
    λ w. (w.0, w.1, w.2, home_now (atom w.1.0) ∙ w.3, subst (λ (n : AtomMap). Reached n (port_id atom w.1) b) (sym graph_now) w.4),
  )

  -- first the atoms, and then the parts
  pub both_marked : {A M : Type 0} (atom : A → ℕ) (g : SetRegisters A M) (m : ℕ) → ((b : ℕ) → In b all ↔ IsOneInside atom s g.atoms m b) → (ys : List ℕ) → ((b : ℕ) → In b ys ↔ IsInPartInside atom now g.parts m b)
      → (t : Heap) → t ≡ own_marked mark ys now → MarksThese (IsTakenInside {A = A} {M = M} atom s g m) mark s t
  both_marked atom g m first ys second t e = (
    all ++ ys,
    λ b. (
      λ k. elim (in_either b all ys k) [ inl a ↦ inl ((first b).0 a) | inr a ↦ inr ((part_inside atom g.parts m b).0 ((second b).0 a)) ],
      λ u. elim u [ inl w ↦ in_left b all ys ((first b).1 w) | inr w ↦ in_right b all ys ((second b).1 ((part_inside atom g.parts m b).1 w)) ],
    ),
    e ∙ ap (λ (h : Heap). own_marked mark ys h) f ∙ sym (own_append mark all ys s),
  )

-- whatever is marked, other marks than own ones are 0
pub has_clean : (s : Heap) → HasOwnMarks s → PortsUnmarked s
has_clean s has = clean_painted has.0 has.2 has.1 s has.3
