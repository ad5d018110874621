-- What a match leaves in membranes: there is such a rest of each, that of an accepted rule is what its head leaves, and no link
-- leaves it where the context is closed.
use Rattle.std.proofs.Common.{ℕ, zero, suc, ◌≡◌, ◌<◌, ◌+◌, ◌==◌, Bool, true, false, cond, not, inl, inr, List, [], ◌++◌, map, length, Option, Some, None, refl, sym, ap, subst, ◌∙◌, arith}
use Rattle.std.specs.Prelude.{slice_get, ◌↔◌}
use Rattle.std.proofs.lemmas.Bool.{cases_eq, eq-eqb, eqb-true}
use Rattle.lmn_base.specs.declared.rule.RuleTree.{RuleTree}
use Rattle.lmn_base.specs.Graphs.{Reached, StandsWhole, Port}
use Rattle.lmn_base.specs.Lists.{In}
use Rattle.lmn_base.proofs.Lists.{get_below, get_there as there, in_either}
use Rattle.lmn_base.proofs.Numbers.{not_equal}
use Rattle.lmn_guards.specs.declared.plan.GuardPlan.{GuardPlan}
use Rattle.lmn_store_heap.specs.Heap.{Heap, within, atoms_in, mems_in}
use Rattle.lmn_store_heap.specs.Graphs.{atom_map}
use Rattle.lmn_store_heap.specs.Sound.{Forms, Valid}
use Rattle.lmn_store_heap.proofs.Heights.{mem_of_place}
use Rattle.lmn_store_heap.proofs.ListLemmas.{in_left, in_right}
use Rattle.lmn_store_heap.proofs.Listing.{home_is}
use Rattle.lmn_ground_parts.specs.Rests.{IsRest, NoneLeaves}
use Rattle.lmn_ground_parts.specs.Walks.{is_in}
use Rattle.lmn_congruence_splice.specs.Classes.{rising}
use Rattle.lmn_congruence_splice.specs.Splice.{IsOneOf}
use Rattle.lmn_congruence_splice.proofs.EndLemmas.{in_rising}
use Rattle.lmn_solid_heads.specs.declared.items.HeadItem.{HeadItem}
use Rattle.lmn_solid_heads.specs.Heads.{HeadMembrane, atoms_of, typed_contexts_of, membranes_of}
use Rattle.lmn_solid_heads.specs.Embeddings.{HasMembrane, Lies}
use Rattle.lmn_instr_code.specs.declared.instr.Instr.{Instr}
use Rattle.lmn_instr_code.specs.Running.{HeadRegisters, IsFirstSuccess, membranes_set}
use Rattle.lmn_compile_head.specs.Accepted.{AcceptedLeast, head_items, rule_head_code}
use Rattle.lmn_compile_body.specs.Accepted.{AcceptedNested, IsCompilable, rule_body_items}
use Rattle.lmn_solid_bodies.specs.Fired.{images_of}
use Rattle.lmn_solid_bodies.specs.Rules.{HeadNests, InsideHead, closed_rests}
use Rattle.lmn_solid_bodies.specs.Running.{Registers}
use Rattle.lmn_solid_bodies.specs.Within.{HoldsRests, IsTakenAtom, membrane_images}
use Rattle.lmn_solid_bodies.proofs.Below.{below_home, is_removed, later, preorder}
use Rattle.lmn_solid_bodies.proofs.Dropping as dropping
use Rattle.lmn_solid_bodies.proofs.Dropping.{not_in, out_of}
use Rattle.lmn_solid_bodies.proofs.Firing.{heap_in_of, of_heap_in, rising_below}
use Rattle.lmn_solid_bodies.proofs.HeadPorts.{in_map, of_map}
use Rattle.lmn_machine_commit.proofs.RestOf.{rest_of}
use Rattle.lmn_machine_laws.proofs.Finite.{part_listed}
use Rattle.lmn_machine_laws.specs.AcceptedCode.{AcceptedSetsItems, SetsItems}
use Rattle.lmn_schedule_strategy.specs.Turns.{HoldsRestsOf, IsBesideCode, IsRestOf}
use Rattle.lmn_machine_commit.proofs.Owning.{keep_same}

-- ---- atoms of parts

-- The atoms of parts that stand whole are a list.
pub all_of_parts : (h : Heap) → Valid h → (n : ℕ) (root : ℕ → Port) → ((k : ℕ) → k < n → (m : ℕ) × StandsWhole (atom_map h) (root k) m) →
    (ps : List ℕ) × ((a : ℕ) → In a ps ↔ ((k : ℕ) × (k < n) × Reached (atom_map h) (root k) a))
all_of_parts h valid zero root whole = ([], λ a. ((λ i. absurd i), (λ w. let l = w.1 in absurd (omega (arith, l)))))
all_of_parts h valid (suc n) root whole =
    let one = whole n (omega arith) in
    let list = part_listed h (root n) (atoms_in h one.0) (λ a q. (valid.sound.listed.atoms one.0 a).1 (home_is h a one.0 (one.1.at_home a q))) in
    let more = all_of_parts h valid n root (λ k l. whole k (omega (arith, l))) in (
      list.0 ++ more.0,
      λ a. (
        (λ i. elim (in_either a list.0 more.0 i) [ inl j ↦ (n, omega arith, (list.1.1 a).0 j) | inr j ↦ (let w = (more.1 a).0 j in (w.0, (let l = w.1 in omega (arith, l)), w.2)) ]),
        (λ w. elim (cases_eq w.0 n) [
          | inl e ↦ in_left a list.0 more.0 ((list.1.1 a).1 (subst (λ z. Reached (atom_map h) (root z) a) e w.2))
          | inr d ↦ in_right a list.0 more.0 ((more.1 a).1 (w.0, less w.0 w.1 d, w.2))
        ]),
      ),
    )
  where
    less : (k : ℕ) → k < suc n → (k ≡ n → ⊥) → k < n
    less k l d = grind arith

-- ---- tests

-- So a rest by the one is a rest by the other.
rest_by : (h : Heap) (m : ℕ) (left p q : ℕ → Bool) (atoms membranes : List ℕ) → ((x : ℕ) → In x (mems_in h m) → p x ≡ q x) → IsRest h m left p atoms membranes → IsRest h m left q atoms membranes
rest_by h m left p q atoms membranes e w = record {
  forest = w.forest;
  forms = subst (Forms h w.forest) (keep_same p q (mems_in h m) e) w.forms;
  preorder = w.preorder;
  once = w.once;
  outside = w.outside;
  in_order = w.in_order;
}

-- ---- the rests of a head

-- What the registers say to be left in a membrane of a head: all atoms but those that are taken, all membranes but images, and
-- all that is in these.
abbrev pub IsLeftBy : Heap → List HeadItem → Registers → ℕ → List ℕ → List ℕ → Type 0
IsLeftBy h head r k atoms membranes =
    (left : ℕ → Bool) × ((a : ℕ) → In a (atoms_in h (r.head.images.membrane k)) → (left a ≡ true) ↔ (IsTakenAtom h head r.head.images a → ⊥))
    × IsRest h (r.head.images.membrane k) left (λ x. not (is_in (membrane_images r head) x)) atoms membranes

module _ (h : Heap) (valid : Valid h) (head : List HeadItem) (m : ℕ) (r : Registers) (lies : Lies h head m r.head.images) where
  abbrev at : ℕ → ℕ
  at k = r.head.images.membrane k

  -- the atoms of the parts
  pub in_parts : (ps : List ℕ) × ((a : ℕ) → In a ps ↔ ((k : ℕ) × (k < length (typed_contexts_of head)) × Reached (atom_map h) (r.head.images.part k) a))
  in_parts = all_of_parts h valid (length (typed_contexts_of head)) r.head.images.part (λ k l. let t = there (typed_contexts_of head) k l in (at t.0.inside, (lies.parts k t.0 t.1).whole))

  -- the atoms that are taken
  abbrev taken : List ℕ
  taken = images_of r head ++ in_parts.0

  is_taken : (a : ℕ) → In a taken → IsTakenAtom h head r.head.images a
  is_taken a i = elim (in_either a (images_of r head) in_parts.0 i) [
    | inl j ↦ (let n = length (atoms_of head) in let w = of_map r.head.images.atom a (rising 0 n) (heap_in_of a (images_of r head) j) in inl (w.0, (let b = (rising_below n 0 w.0 w.1).1 in omega (arith, b)), w.2))
    | inr j ↦ (let w = (in_parts.1 a).0 j in let t = there (typed_contexts_of head) w.0 w.1 in inr (w.0, t.0, t.1, w.2))
  ]

  taken_in : (a : ℕ) → IsTakenAtom h head r.head.images a → In a taken
  taken_in a (inl w) =
      let n = length (atoms_of head) in
      in_left a (images_of r head) in_parts.0 (of_heap_in a (images_of r head) (subst (λ z. IsOneOf z (images_of r head)) w.2 (in_map r.head.images.atom w.0 (rising 0 n) (in_rising n 0 w.0 (omega arith) (let l = w.1 in omega (arith, l))))))
  taken_in a (inr w) = in_right a (images_of r head) in_parts.0 ((in_parts.1 a).1 (w.0, get_below (typed_contexts_of head) w.0 w.1 w.2, w.3))

  -- There is a rest of each membrane of the head.
  some_left : (k : ℕ) (b : HeadMembrane) → HasMembrane head k b → (atoms membranes : List ℕ) × IsLeftBy h head r k atoms membranes
  some_left k b has =
      let left : ℕ → Bool = λ a. not (is_in taken a) in
      let w = rest_of h valid (at k) (mem_of_place h (at k) (within (at b.inside)) ((valid.sound.listed.mems (at b.inside) (at k)).0 (lies.membranes_placed k b has))) left (λ x. not (is_in (membrane_images r head) x)) in
      (w.0, w.1, (left, (λ a i. ((λ e t. not_in taken a e (taken_in a t)), (λ o. out_of taken a (λ j. o (is_taken a j))))), w.2))

  module _ (nests : HeadNests head) where
    -- What is left besides what head code sets is what the head leaves: the membrane of the rule stands in none of its membranes.
    pub left_by_head : (code : List Instr) → SetsItems code head → (k : ℕ) (b : HeadMembrane) → HasMembrane head k b → (atoms membranes : List ℕ) → IsRestOf h code r.head k atoms membranes → IsLeftBy h head r k atoms membranes
    left_by_head code sets k b has atoms membranes w = (
      w.0,
      (λ a i. let v = w.1 a i in ((λ e t. beside a (v.0 e) t), (λ o. v.1 (free a o)))),
      rest_by h (at k) w.0 (λ x. not (is_in (map at (rising 0 (1 + membranes_set code))) x)) (λ x. not (is_in (membrane_images r head) x)) atoms membranes same w.2,
    )
      where
        beside : (a : ℕ) → IsBesideCode h code r.head a → IsTakenAtom h head r.head.images a → ⊥
        beside a v (inl t) = v.no_atom t.0 (subst (λ n. t.0 < n) (sym sets.atoms) t.1) t.2
        beside a v (inr t) = v.no_part t.0 (subst (λ n. t.0 < n) (sym sets.parts) (get_below (typed_contexts_of head) t.0 t.1 t.2)) t.3

        free : (a : ℕ) → (IsTakenAtom h head r.head.images a → ⊥) → IsBesideCode h code r.head a
        free a o = record {
          no_atom = λ j l e. o (inl (j, subst (λ n. j < n) sets.atoms l, e));
          no_part = λ j l q. let t = there (typed_contexts_of head) j (subst (λ n. j < n) sets.parts l) in o (inr (j, t.0, t.1, q));
        }

        image : In (at k) (membrane_images r head)
        image = subst (λ z. In (at z) (membrane_images r head)) (sym has.1) (is_removed head r has.0 (get_below (membranes_of head) has.0 b has.2))

        apart : (x : ℕ) → In x (mems_in h (at k)) → at 0 ≡ x → ⊥
        apart x i e = let d = later h valid (at k) x i in let u = below_home h valid head m r lies nests (at k) image in let f = ap (preorder h valid) (sym lies.here ∙ e) in omega (arith, d, u, f)

        one_more : (n : ℕ) → suc n ≡ 1 + n
        one_more n = omega arith

        without : (x : ℕ) → In x (mems_in h (at k)) → not (is_in (map at (rising 0 (suc (length (membranes_of head))))) x) ≡ not (is_in (membrane_images r head) x)
        without x i = ap (λ t. not (cond t true (is_in (membrane_images r head) x))) (not_equal (at 0) x (apart x i))

        same : (x : ℕ) → In x (mems_in h (at k)) → not (is_in (map at (rising 0 (1 + membranes_set code))) x) ≡ not (is_in (membrane_images r head) x)
        same x i = subst (λ n. not (is_in (map at (rising 0 (1 + n))) x) ≡ not (is_in (membrane_images r head) x)) (sym sets.membranes) (subst (λ n. not (is_in (map at (rising 0 n)) x) ≡ not (is_in (membrane_images r head) x)) (one_more (length (membranes_of head))) (without x i))

    -- No link leaves the rest of a membrane with a closed context.
    pub left_closed : InsideHead head → (k : ℕ) (b : HeadMembrane) → HasMembrane head k b → b.has_closed_context ≡ true → (atoms membranes : List ℕ) → IsLeftBy h head r k atoms membranes → NoneLeaves h atoms
    left_closed inside k b has closed atoms membranes w =
        subst (λ t. NoneLeaves h (cond t atoms (chosen k).0.0)) (eq-eqb k k refl) (dropping.stays h valid head m kept lies nests inside held k (record { membrane = b; has = has; closed = closed }))
      where
        -- a rest of each of the others
        chosen : (j : ℕ) → (l : List ℕ × List ℕ) × ((c : HeadMembrane) → HasMembrane head j c → IsLeftBy h head r j l.0 l.1)
        chosen zero = (([], []), λ c v. (let e = v.1 in absurd (omega (arith, e))))
        chosen (suc j) = by (slice_get (membranes_of head) j) refl
          where
            by : (o : Option HeadMembrane) → slice_get (membranes_of head) j ≡ o → (l : List ℕ × List ℕ) × ((c : HeadMembrane) → HasMembrane head (suc j) c → IsLeftBy h head r (suc j) l.0 l.1)
            by None e = (([], []), λ c v. absurd (let i : v.0 ≡ j = (let f = v.1 in omega (arith, f)) in let n : None ≡ Some c = sym e ∙ subst (λ z. slice_get (membranes_of head) z ≡ Some c) i v.2 in cc))
            by (Some c) e = let w = some_left (suc j) c (j, refl, e) in ((w.0, w.1), λ d v. w.2)

        kept : Registers
        kept = record r { left_atoms = λ j. cond (j == k) atoms (chosen j).0.0; left_membranes = λ j. cond (j == k) membranes (chosen j).0.1 }

        held : HoldsRests h kept head
        held = λ j c v u. by j c v (j == k) refl
          where
            by : (j : ℕ) (c : HeadMembrane) → HasMembrane head j c → (t : Bool) → (j == k) ≡ t → IsLeftBy h head r j (cond t atoms (chosen j).0.0) (cond t membranes (chosen j).0.1)
            by j c v true e = subst (λ z. IsLeftBy h head r z atoms membranes) (sym (eqb-true j k e)) w
            by j c v false e = (chosen j).1 c v

-- ---- the rests of a rule

-- Registers with which the code of the head of an accepted rule first succeeds, and that hold the rests besides what it sets,
-- hold what is left where closed contexts stand.
pub rests_of_rule : AcceptedSetsItems → AcceptedNested → AcceptedLeast → (table : List RuleTree) (r : RuleTree) (plan : GuardPlan) → IsCompilable table r plan →
    (h : Heap) → Valid h → (m : ℕ) (s : Registers) → IsFirstSuccess h (rule_head_code r plan) m s.head → HoldsRestsOf h (rule_head_code r plan) s → HoldsRests h s (head_items r plan)
rests_of_rule sets nested least table r plan whole h valid m s first rests k b has closed =
    let head = head_items r plan in
    let code = rule_head_code r plan in
    let items = sets code table r plan (record { ready = whole.ready; is = refl }) in
    let lies = (least.least table r plan h m s.head whole.ready valid first).embeds.lies in
    left_by_head h valid head m s lies (nested table r plan whole).head_nests code items k b has (s.left_atoms k) (s.left_membranes k) (rests k (below has.0 has.1 (subst (λ n. has.0 < n) (sym items.membranes) (get_below (membranes_of head) has.0 b has.2))))
  where
    below : {n : ℕ} → (i : ℕ) → k ≡ suc i → i < n → k < 1 + n
    below i e l = omega (arith, e, l)

-- No link leaves the rest of a membrane whose closed context stands in the body.
pub closed_of_rule : AcceptedSetsItems → AcceptedNested → AcceptedLeast → (table : List RuleTree) (r : RuleTree) (plan : GuardPlan) → IsCompilable table r plan →
    (h : Heap) → Valid h → (m : ℕ) (s : HeadRegisters) → IsFirstSuccess h (rule_head_code r plan) m s → (k : ℕ) → IsOneOf k (closed_rests (rule_body_items r plan)) →
    (k < 1 + membranes_set (rule_head_code r plan)) × ((atoms membranes : List ℕ) → IsRestOf h (rule_head_code r plan) s k atoms membranes → NoneLeaves h atoms)
closed_of_rule sets nested least table r plan whole h valid m s first k i =
    let head = head_items r plan in
    let code = rule_head_code r plan in
    let items = sets code table r plan (record { ready = whole.ready; is = refl }) in
    let lies = (least.least table r plan h m s whole.ready valid first).embeds.lies in
    let rule = nested table r plan whole in
    let w = rule.of_closed k i in
    let regs : Registers = record { head = s; copy = λ c. (0, 0); copied = λ c. []; left_atoms = λ c. []; left_membranes = λ c. [] } in (
      below w.1.0 w.1.1 (subst (λ n. w.1.0 < n) (sym items.membranes) (get_below (membranes_of head) w.1.0 w.0 w.1.2)),
      λ atoms membranes rest. left_closed h valid head m regs lies rule.head_nests rule.inside k w.0 w.1 w.2 atoms membranes (left_by_head h valid head m regs lies rule.head_nests code items k w.0 w.1 atoms membranes rest),
    )
  where
    below : {n : ℕ} → (i : ℕ) → k ≡ suc i → i < n → k < 1 + n
    below i e l = omega (arith, e, l)
