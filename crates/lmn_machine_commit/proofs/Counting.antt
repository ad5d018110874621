-- How many rules code adds to the membrane in a register, counted instruction by instruction.
use Rattle.std.proofs.Common.{ℕ, zero, suc, ◌≡◌, ◌≢◌, ◌<◌, ◌≤◌, ◌+◌, ◌⊎◌, inl, inr, cond, List, [], ◌∷◌, ◌++◌, Option, Some, None, IsSome, refl, arith, ap, sym, subst, length, take, ◌∙◌}
use Rattle.std.specs.Prelude.{slice_get}
use Rattle.std.proofs.lemmas.Option.{same_Some}
use Rattle.lmn_base.proofs.Lists.{get_below, get_there}
use Rattle.lmn_base.proofs.Numbers.{not_equal}
use Rattle.lmn_store_heap.specs.Heap.{Heap, HeapMem, reserved, rules_in, spare_of}
use Rattle.lmn_instr_code.specs.declared.instr.Instr.{Instr}
use Rattle.lmn_instr_code.specs.declared.instr.Instr.TheVariants.{NewMem, LoadRule, CopyRules}
use Rattle.lmn_instr_pool.specs.Extents.{Makes, NoneBefore}
use Rattle.lmn_solid_bodies.specs.Running.{Registers}
use Rattle.lmn_machine_registers.specs.declared.registers.SetRegisters.{SetRegisters}
use Rattle.lmn_machine_commit.specs.Registers.{AgreesWithCopies, AreHeld}
use Rattle.lmn_machine_commit.specs.Preparing.{AddsSo, AllUse, IsCounted, IsMade, KeepsCount, RoomIsMade, Uses, UsesInOrder, membranes_made, needed, needed_by}
use Rattle.lmn_machine_commit.proofs.Codes.{needed_more}
use Rattle.lmn_machine_commit.proofs.Making.{agrees_before, copy_rules_made, load_rule_made}

-- ---- instructions

-- an instruction that makes no membrane and adds no rules keeps what is counted
pub keeps_count : (i : Instr) → ((m n : ℕ) → i ≡ NewMem m n → ⊥) → ((m k : ℕ) → i ≡ LoadRule m k → ⊥) → ((m n : ℕ) → i ≡ CopyRules m n → ⊥) → KeepsCount i
keeps_count (NewMem m n) o p q = absurd (o m n refl)
keeps_count (LoadRule m k) o p q = absurd (p m k refl)
keeps_count (CopyRules m n) o p q = absurd (q m n refl)
keeps_count _ o p q = tt

-- it adds none
keeps_none : (i : Instr) → KeepsCount i → AddsSo i None
keeps_none (LoadRule m k) w = absurd w
keeps_none (CopyRules m n) w = absurd w
keeps_none _ w = refl

-- an instruction that adds rules uses its registers as it reads them,
pub adds_uses : (a m g v c : ℕ) (i : Instr) (to : ℕ) → AddsSo i (Some to) → UsesInOrder a m g v c i → Uses a m g c i
adds_uses a m g v c (LoadRule x k) to e u = u
adds_uses a m g v c (CopyRules x y) to e u = u
adds_uses a m g v c _ to e u = absurd (cc)

-- that of the membrane too
pub adds_below : (a m g v c : ℕ) (i : Instr) (to : ℕ) → AddsSo i (Some to) → UsesInOrder a m g v c i → to < m
adds_below a m g v c (LoadRule x k) to e u = let s : to ≡ x = same_Some to x e in let l : x < m = u in omega (arith, s, l)
adds_below a m g v c (CopyRules x y) to e u = let s : to ≡ y = same_Some to y e in let l = u.1 in omega (arith, s, l)
adds_below a m g v c _ to e u = absurd (cc)

-- one that adds none needs no room
no_need : (r : Registers) (rules : ℕ → List ℕ) (i : Instr) (x : ℕ) → AddsSo i None → needed_by r rules i x ≡ 0
no_need r rules (LoadRule m k) x e = absurd (cc)
no_need r rules (CopyRules m n) x e = absurd (cc)
no_need r rules _ x e = refl

-- nor does one for which nothing is made
unmade : (r : Registers) (rules : ℕ → List ℕ) (i : Instr) (x : ℕ) → (Makes i → ⊥) → needed_by r rules i x ≡ 0
unmade r rules (LoadRule m k) x none = absurd (none tt)
unmade r rules (CopyRules m n) x none = absurd (none tt)
unmade r rules _ x none = refl

pub none_needed : (r : Registers) (rules : ℕ → List ℕ) (code : List Instr) (n x : ℕ) → NoneBefore Makes n code → needed r rules (take n code) x ≡ 0
none_needed r rules [] zero x none = refl
none_needed r rules [] (suc n) x none = refl
none_needed r rules (i ∷ is) zero x none = refl
none_needed r rules (i ∷ is) (suc n) x none =
    let here = unmade r rules i x (none 0 i (omega arith) refl) in
    let rest = none_needed r rules is n x (λ j y l e. none (suc j) y (omega (arith, l)) e) in
    omega (arith, here, rest)

-- What is counted behind an instruction: a membrane that it made has no rules, and else as before.
abbrev IsCountedOn : Instr → (register count next next_count : ℕ) → Type 0
IsCountedOn (NewMem m n) register count next next_count = (next ≡ m) × (next_count ≡ 0)
IsCountedOn _ register count next next_count = (next ≡ register) × (next_count ≡ count)

keeps_on : (i : Instr) (register count : ℕ) → KeepsCount i → IsCountedOn i register count register count
keeps_on (NewMem m n) register count w = absurd w
keeps_on _ register count w = (refl, refl)

adds_on : (i : Instr) (to count : ℕ) → AddsSo i (Some to) → IsCountedOn i to count to count
adds_on (NewMem m n) to count w = absurd (cc)
adds_on _ to count w = (refl, refl)

on_made : (i : Instr) (register count next next_count : ℕ) → IsCountedOn i register count next next_count →
    ((m : ℕ) × (n : ℕ) × (i ≡ NewMem m n) × (next ≡ m) × (next_count ≡ 0)) ⊎ ((membranes_made i ≡ 0) × (next ≡ register) × (next_count ≡ count))
on_made (NewMem m n) register count next next_count o = inl (m, n, refl, o.0, o.1)
on_made _ register count next next_count o = inr (refl, o.0, o.1)

same_rules : (r : Registers) (f g : ℕ → List ℕ) (is : List Instr) (x : ℕ) → ((y : ℕ) → f y ≡ g y) → needed r f is x ≡ needed r g is x
same_rules r f g is x e = let q : f ≡ g = λ i y. e y i in ap (λ h. needed r h is x) q

-- code adds no rules to a membrane that is in none of its registers
none_by : (r : Registers) (rules : ℕ → List ℕ) (a m g c x : ℕ) → ((n : ℕ) → n < m → r.head.images.membrane n ≢ x) → (i : Instr) → Uses a m g c i → needed_by r rules i x ≡ 0
none_by r rules a m g c x away (LoadRule n k) u = ap (λ b. cond b 1 0) (not_equal (r.head.images.membrane n) x (away n u))
none_by r rules a m g c x away (CopyRules k n) u = ap (λ b. cond b (length (rules (r.head.images.membrane k))) 0) (not_equal (r.head.images.membrane n) x (away n u.1))
none_by r rules a m g c x away _ u = refl

none_to : (r : Registers) (rules : ℕ → List ℕ) (a m g c x : ℕ) → ((n : ℕ) → n < m → r.head.images.membrane n ≢ x) → (is : List Instr) → AllUse a m g c is → needed r rules is x ≡ 0
none_to r rules a m g c x away [] u = refl
none_to r rules a m g c x away (i ∷ is) u =
    let here = none_by r rules a m g c x away i u.0 in
    let rest = none_to r rules a m g c x away is u.1 in
    omega (arith, here, rest)

-- ---- counts

module _ {A M : Type 0} (atom : A → ℕ) (membrane : M → ℕ) where
  counted_none : (s : Heap) (g : SetRegisters A M) (before upto : List Instr) (i : Instr) (register count : ℕ) → upto ≡ before ++ i ∷ [] → AddsSo i None →
      IsCounted {A = A} {M = M} atom membrane s g before register count → IsCounted {A = A} {M = M} atom membrane s g upto register count
  counted_none s g before upto i register count is adds c r m u e =
      let more = ap (λ js. needed r (rules_in s) js (membrane m)) is ∙ needed_more r (rules_in s) before i (membrane m) in
      let none = no_need r (rules_in s) i (membrane m) adds in
      let k = c r m u e in
      omega (arith, more, none, k)

  pub counted_more : (s : Heap) (g : SetRegisters A M) (before upto : List Instr) (i : Instr) (to : ℕ) (m : M) (n added count : ℕ) → upto ≡ before ++ i ∷ [] → slice_get g.membranes to ≡ Some m →
      ((r : Registers) → AgreesWithCopies atom membrane g r → n ≡ needed r (rules_in s) before (membrane m)) → ((r : Registers) → AgreesWithCopies atom membrane g r → added ≡ needed_by r (rules_in s) i (membrane m)) →
      count ≡ n + added → IsCounted {A = A} {M = M} atom membrane s g upto to count
  counted_more s g before upto i to m n added count is at so_far here sum r x u e =
      let same : m ≡ x = same_Some m x (sym at ∙ e) in
      let more = ap (λ js. needed r (rules_in s) js (membrane m)) is ∙ needed_more r (rules_in s) before i (membrane m) in
      let p = so_far r u in
      let q = here r u in
      let all : count ≡ needed r (rules_in s) upto (membrane m) = omega (arith, more, p, q, sum) in
      subst (λ z. count ≡ needed r (rules_in s) upto (membrane z)) same all

  -- a membrane that is made is in none of the registers that were set
  fresh_away : (s : Heap) (g : SetRegisters A M) (r : Registers) (m : M) → AreHeld atom membrane s g → AgreesWithCopies atom membrane g r → s.mems (membrane m) ≡ None →
      (n : ℕ) → n < length g.membranes → r.head.images.membrane n ≢ membrane m
  fresh_away s g r m held u free n l e =
      let x = get_there g.membranes n l in
      let there = held.membranes n x.0 x.1 in
      let same : membrane x.0 ≡ membrane m = sym (u.membranes n x.0 x.1) ∙ e in
      let z : IsSome {T = HeapMem} None = subst (λ (o : Option HeapMem). IsSome o) (ap s.mems same ∙ free) there in
      cc

  counted_on : (s t : Heap) (g k : SetRegisters A M) (before : List Instr) (i : Instr) (v register count next next_count : ℕ) → IsMade atom membrane s t g k before i → AreHeld atom membrane s g →
      AllUse (length g.atoms) (length g.membranes) (length g.parts) (length g.copies) before → UsesInOrder (length g.atoms) (length g.membranes) (length g.parts) v (length g.copies) i →
      (upto : List Instr) → upto ≡ before ++ i ∷ [] → IsCounted {A = A} {M = M} atom membrane s g upto register count → IsCountedOn i register count next next_count →
      IsCounted {A = A} {M = M} atom membrane t k upto next next_count
  counted_on s t g k before i v register count next next_count made held uses reads upto is c on r m u at =
      let b = agrees_before atom membrane g k r made.grows u in
      let later = same_rules r (rules_in t) (rules_in s) upto (membrane m) made.rules in
      elim (on_made i register count next next_count on) [
        | inl o ↦ (
            let w : UsesInOrder (length g.atoms) (length g.membranes) (length g.parts) v (length g.copies) (NewMem o.0 o.1) = subst (λ j. UsesInOrder (length g.atoms) (length g.membranes) (length g.parts) v (length g.copies) j) o.2 reads in
            let here : slice_get k.membranes (length g.membranes) ≡ Some m = subst (λ n. slice_get k.membranes n ≡ Some m) (o.3 ∙ w.0.0) at in
            let free : s.mems (membrane m) ≡ None = elim (made.new_membranes (length g.membranes) m here) [
              | inl e ↦ absurd (let l = get_below g.membranes (length g.membranes) m e in omega (arith, l))
              | inr e ↦ e
            ] in
            let none = none_to r (rules_in s) (length g.atoms) (length g.membranes) (length g.parts) (length g.copies) (membrane m) (fresh_away s g r m held b free) before uses in
            let more = ap (λ js. needed r (rules_in s) js (membrane m)) is ∙ needed_more r (rules_in s) before i (membrane m) in
            let own : needed_by r (rules_in s) i (membrane m) ≡ 0 = ap (λ j. needed_by r (rules_in s) j (membrane m)) o.2 in
            let z = o.4 in
            omega (arith, z, more, none, own, later)
            )
        | inr o ↦ (
            let at_same : slice_get k.membranes register ≡ Some m = subst (λ n. slice_get k.membranes n ≡ Some m) o.1 at in
            let below = get_below k.membranes register m at_same in
            let many = made.membranes in
            let none = o.0 in
            let x = get_there g.membranes register (omega (arith, below, many, none)) in
            let same : x.0 ≡ m = same_Some x.0 m (sym (made.grows.membranes register x.0 x.1) ∙ at_same) in
            let before_it = c r m b (subst (λ y. slice_get g.membranes register ≡ Some y) same x.1) in
            let z = o.2 in
            omega (arith, z, before_it, later)
            )
      ]

  -- what is counted behind an instruction that keeps the count,
  pub counted_kept : (s t : Heap) (g k : SetRegisters A M) (before : List Instr) (i : Instr) (v register count : ℕ) → KeepsCount i → IsMade atom membrane s t g k before i → AreHeld atom membrane s g →
      AllUse (length g.atoms) (length g.membranes) (length g.parts) (length g.copies) before → UsesInOrder (length g.atoms) (length g.membranes) (length g.parts) v (length g.copies) i →
      (upto : List Instr) → upto ≡ before ++ i ∷ [] → IsCounted {A = A} {M = M} atom membrane s g before register count → IsCounted {A = A} {M = M} atom membrane t k upto register count
  counted_kept s t g k before i v register count keeps made held uses reads upto is c =
      counted_on s t g k before i v register count register count made held uses reads upto is (counted_none s g before upto i register count is (keeps_none i keeps) c) (keeps_on i register count keeps)

  -- behind one that makes a membrane,
  pub counted_new : (s t : Heap) (g k : SetRegisters A M) (before : List Instr) (i : Instr) (m n v register count : ℕ) → i ≡ NewMem m n → IsMade atom membrane s t g k before i → AreHeld atom membrane s g →
      AllUse (length g.atoms) (length g.membranes) (length g.parts) (length g.copies) before → UsesInOrder (length g.atoms) (length g.membranes) (length g.parts) v (length g.copies) i →
      (upto : List Instr) → upto ≡ before ++ i ∷ [] → IsCounted {A = A} {M = M} atom membrane s g before register count → IsCounted {A = A} {M = M} atom membrane t k upto m 0
  counted_new s t g k before i m n v register count e made held uses reads upto is c =
      counted_on s t g k before i v register count m 0 made held uses reads upto is (counted_none s g before upto i register count is (subst (λ j. AddsSo j None) (sym e) refl) c) (subst (λ j. IsCountedOn j register count m 0) (sym e) (refl, refl))

  -- and behind one that adds rules
  pub counted_added : (s t : Heap) (g : SetRegisters A M) (before : List Instr) (i : Instr) (v to count : ℕ) → AddsSo i (Some to) → IsMade atom membrane s t g g before i → AreHeld atom membrane s g →
      AllUse (length g.atoms) (length g.membranes) (length g.parts) (length g.copies) before → UsesInOrder (length g.atoms) (length g.membranes) (length g.parts) v (length g.copies) i →
      (upto : List Instr) → upto ≡ before ++ i ∷ [] → IsCounted {A = A} {M = M} atom membrane s g upto to count → IsCounted {A = A} {M = M} atom membrane t g upto to count
  counted_added s t g before i v to count adds made held uses reads upto is c =
      counted_on s t g g before i v to count to count made held uses reads upto is c (adds_on i to count adds)

  -- room for as many rules as were counted is room for what the code adds
  room_for : (s t : Heap) (g : SetRegisters A M) (code : List Instr) (count to : ℕ) (m : M) → IsCounted {A = A} {M = M} atom membrane s g code to count → slice_get g.membranes to ≡ Some m →
      t ≡ reserved s (membrane m) (spare_of t (membrane m)) → count ≤ spare_of t (membrane m) → RoomIsMade {A = A} {M = M} atom membrane s t g code (membrane m)
  room_for s t g code count to m c at is least = (is, λ r u. (let n = c r m u at in omega (arith, n, least)))

  -- and then what an instruction makes is made that adds rules
  pub room_made_for : (s t : Heap) (g : SetRegisters A M) (before upto : List Instr) (i : Instr) (count to : ℕ) (m : M) → AddsSo i (Some to) → AreHeld atom membrane s g → upto ≡ before ++ i ∷ [] →
      IsCounted {A = A} {M = M} atom membrane s g upto to count → slice_get g.membranes to ≡ Some m → t ≡ reserved s (membrane m) (spare_of t (membrane m)) → count ≤ spare_of t (membrane m) → IsMade atom membrane s t g g before i
  room_made_for s t g before upto (LoadRule x k) count to m adds held is c at reserved_so least =
      let same : to ≡ x = same_Some to x adds in
      load_rule_made atom membrane s t g before upto (LoadRule x k) m x k held (room_for s t g upto count to m c at reserved_so least) is refl (subst (λ n. slice_get g.membranes n ≡ Some m) same at)
  room_made_for s t g before upto (CopyRules x y) count to m adds held is c at reserved_so least =
      let same : to ≡ y = same_Some to y adds in
      copy_rules_made atom membrane s t g before upto (CopyRules x y) m x y held (room_for s t g upto count to m c at reserved_so least) is refl (subst (λ n. slice_get g.membranes n ≡ Some m) same at)
  room_made_for s t g before upto _ count to m adds held is c at reserved_so least = absurd (cc)
