-- From the match of a head to the heap after its body.
use Rattle.std.proofs.Common.{ℕ, zero, suc, ◌≡◌, ◌<◌, ◌≤◌, ◌+◌, List, [], length, Option, Some, None, IsSome, Bool, refl, sym, ap, subst, ◌∙◌, inl, inr, arith}
use Rattle.std.specs.Prelude.{slice_get, IsTrue, ◌⊎◌, ◌↔◌}
use Rattle.std.specs.Option.{option_map}
use Rattle.std.specs.List.{AllByRecursion}
use Rattle.std.proofs.lemmas.Option.{slice_get_within}
use Rattle.lmn_store_heap.specs.Heap.{Heap, HeapMem, IsMem, rules_by, rules_in, port_id, mem_with_spare, Unmarked}
use Rattle.lmn_store_heap.specs.Sound.{Forest, Valid}
use Rattle.lmn_instr_code.specs.declared.instr.Code.{Code}
use Rattle.lmn_instr_code.specs.Running.{HeadRegisters, IsFirstSuccess, atoms_set, membranes_set}
use Rattle.lmn_solid_bodies.specs.Running.{Registers}
use Rattle.lmn_solid_bodies.specs.Stopping.{SameButSpares}
use Rattle.lmn_machine_registers.specs.Agreeing.{Agrees}
use Rattle.lmn_machine_registers.specs.declared.registers.SetRegisters.{SetRegisters}
use Rattle.lmn_machine_commit.specs.Matched.{IsPrepared}
use Rattle.lmn_machine_commit.specs.Preparing.{BodyInOrder, Prepared}
use Rattle.lmn_machine_commit.specs.Registers.{HasCopies, HasRests, AreSized, Grows}
use Rattle.lmn_machine_commit.specs.Registers as body
use Rattle.lmn_machine_commit.specs.Waking.{Commits}
use Rattle.lmn_schedule_sleep.proofs.Marks.{read_alike}
use Rattle.lmn_machine.specs.Costs.{IsTold, Leaves}
use Rattle.lmn_machine.specs.Searching.{AreAllSet, parts_set, integers_set}
use Rattle.lmn_machine.proofs.Besides.{known, known_agrees}
use Rattle.lmn_schedule_strategy.specs.declared.turning.Turn.{Turn}
use Rattle.lmn_schedule_strategy.specs.declared.turning.Turn.TheVariants.{Committed, Irreducible, Full, NoMemory}
use Rattle.lmn_schedule_strategy.specs.Choosing.{CanTurn, IsFirstIn, IsFirstRule, HasFound, asked}
use Rattle.lmn_schedule_strategy.specs.Turns.{AreRunnable, IsAnswer, Chooses, CanFire, AnswersMatch, Loads}
use Rattle.lmn_schedule_strategy.proofs.KeptRules.{AllRules, rules_kept}
use Rattle.lmn_schedule_strategy.proofs.RestsHeld.{holds_by_code, rest_by_code, rests_held}
use Rattle.lmn_base.proofs.Lists.{value_or, get_there as there}
use Rattle.lmn_store_heap.proofs.Common.{mem_stands}
use Rattle.lmn_base.specs.Lists.{In}

-- ---- the registers of a body

-- registers that have the values of those that are set, where the copies have these atoms and the rests are these lists
abbrev body_known : {A M : Type 0} → (A → ℕ) → (M → ℕ) → SetRegisters A M → List (List ℕ) → (ℕ → List ℕ × List ℕ) → Registers
body_known atom membrane g copied left = record {
  head = known atom membrane g;
  copy = λ k. value_or (λ p. port_id atom p.root) (0, 0) (slice_get g.copies k);
  copied = λ k. value_or (λ xs. xs) [] (slice_get copied k);
  left_atoms = λ k. (left k).0;
  left_membranes = λ k. (left k).1;
}

known_copies : {A M : Type 0} (atom : A → ℕ) (membrane : M → ℕ) (g : SetRegisters A M) (copied : List (List ℕ)) (left : ℕ → List ℕ × List ℕ) → HasCopies (body_known atom membrane g copied left) copied
known_copies atom membrane g copied left k atoms e = ap (λ o. value_or (λ xs. xs) [] o) e

body_agrees : {A M : Type 0} (atom : A → ℕ) (membrane : M → ℕ) (g : SetRegisters A M) (copied : List (List ℕ)) (left : ℕ → List ℕ × List ℕ) → AreSized g.copies copied → body.AgreesWithCopies atom membrane g (body_known atom membrane g copied left)
body_agrees atom membrane g copied left sized =
    let a = known_agrees atom membrane g in
    record {
      atoms = a.atoms;
      membranes = a.membranes;
      parts = a.parts;
      integers = a.integers;
      copies = λ k p e. (
        ap (λ o. value_or (λ p. port_id atom p.root) (0, 0) o) e,
        let l = slice_get_within g.copies k p e in
            let x = there copied k (let c = sized.count in omega (arith, l, c)) in
            ap (λ o. length (value_or (λ xs. xs) [] o)) x.1 ∙ sized.sizes k p x.0 e x.1,
      );
    }

-- what agrees with more registers agrees with the first of them
agrees_before : {A M : Type 0} (atom : A → ℕ) (membrane : M → ℕ) (g k : SetRegisters A M) → Grows g k → (s : HeadRegisters) → Agrees atom membrane k s → Agrees atom membrane g s
agrees_before atom membrane g k grows s a = record {
  atoms = λ i x e. a.atoms i x (grows.atoms i x e);
  membranes = λ i x e. a.membranes i x (grows.membranes i x e);
  parts = λ i p e. a.parts i p (ap (λ ps. slice_get ps i) grows.parts ∙ e);
  integers = λ i z e. a.integers i z (ap (λ zs. slice_get zs i) grows.integers ∙ e);
}

-- ---- a head is matched

-- a membrane in which a rule stands is there
pub ruled_mem : (h : Heap) (m i n : ℕ) → slice_get (rules_in h m) i ≡ Some n → IsMem h m
ruled_mem h m i n e = by (h.mems m) e
  where
    by : (o : Option HeapMem) → slice_get (rules_by o) i ≡ Some n → IsSome o
    by None e = absurd (cc)
    by (Some y) e = refl

-- a number has one code
pub one_code : (codes : List Code) (n : ℕ) (a b : Code) → slice_get codes n ≡ Some a → slice_get codes n ≡ Some b → a ≡ b
one_code codes n a b e f = let u : Some a ≡ Some b = sym e ∙ f in cc

-- what a search has found can fire
pub can_fire : {A M : Type 0} (atom : A → ℕ) (membrane : M → ℕ) (h : Heap) (codes : List Code) (run : AreRunnable codes) (rules : ℕ) (can : CanTurn h rules) (m place n : ℕ) (g : SetRegisters A M) →
    IsFirstRule h codes m place n → HasFound atom membrane h codes m n g → (code : Code) → slice_get codes n ≡ Some code → CanFire atom membrane h g code
can_fire atom membrane h codes run rules can m place n g first found code is =
    let same = one_code codes n found.code code found.is is in
    let r = run n code is in
    let set = subst (λ (c : Code). AreAllSet g c.head) same found.set in
    let placed = mem_stands h can.valid m (ruled_mem h m place n first.stands) in
    let is_first : (s : HeadRegisters) → Agrees atom membrane g s → IsFirstSuccess h code.head m s = λ s a. subst (λ (c : Code). IsFirstSuccess h c.head m s) same (found.first s a) in
    let agrees : (s : Registers) → body.AgreesWithCopies atom membrane g s → Agrees atom membrane g s.head = λ s a. record { atoms = a.atoms; membranes = a.membranes; parts = a.parts; integers = a.integers } in
    record {
      held = found.held;
      copies = found.copies;
      order = order_as g code set r.ready.order;
      told = told_as g code set r.ready.told;
      matched = record {
        valid = can.valid;
        unmarked = can.unmarked;
        own = (let l = set.membranes in omega (arith, l));
        commits = λ s a rests. r.commits h m s can.valid placed (is_first s.head (agrees s a)) (holds_by_code atom membrane h g code.head set s (agrees s a) rests);
      };
      rests = λ at k x e.
          (let s = known atom membrane g in
          let a = known_agrees atom membrane g in
          let w = r.copies h m s can.valid placed (is_first s a) at k x e in
          let y = there g.membranes k (subst (λ n. k < n) (sym set.membranes) w.0) in (y.0, y.1, λ atoms membranes rest. w.1 atoms membranes (rest_by_code atom membrane h g code.head set s a k y.0 y.1 atoms membranes rest)));
      some = λ s a rests. r.leaves h m s can.valid placed (is_first s.head a) (holds_by_code atom membrane h g code.head set s a rests);
    }
  where
    order_as : {A M : Type 0} (g : SetRegisters A M) (code : Code) → AreAllSet g code.head → BodyInOrder (atoms_set code.head) (1 + membranes_set code.head) (parts_set code.head) (integers_set code.head) 0 code.body →
        BodyInOrder (length g.atoms) (length g.membranes) (length g.parts) (length g.integers) 0 code.body
    order_as g code set o = rw (set.atoms, set.membranes, set.parts, set.integers) o

    told_as : {A M : Type 0} (g : SetRegisters A M) (code : Code) → AreAllSet g code.head → AllByRecursion (IsTold (1 + membranes_set code.head) (parts_set code.head)) code.body →
        AllByRecursion (IsTold (length g.membranes) (length g.parts)) code.body
    told_as g code set o = rw (set.membranes, set.parts) o

-- ---- the three ends

-- one number is at most another, or above it
pub le_or_less : (m n : ℕ) → (m ≤ n) ⊎ (n < m)
le_or_less zero n = inl (omega arith)
le_or_less (suc m) zero = inr (omega arith)
le_or_less (suc m) (suc n) = elim (le_or_less m n) [ inl a ↦ inl (omega (arith, a)) | inr b ↦ inr (omega (arith, b)) ]

module _ {A M : Type 0} (atom : A → ℕ) (membrane : M → ℕ) (h : Heap) (g : SetRegisters A M) (code : Code) (can : CanFire atom membrane h g code) (size : ℕ) (fits : Bool)
    (few : (s : Registers) (n : ℕ) → Agrees atom membrane g s.head → HasRests atom membrane h g s → Leaves h s code.body n → IsTrue fits ↔ (n ≤ size)) where
  -- the rests besides the registers
  abbrev lists : ℕ → List ℕ × List ℕ
  lists k = (rests_held atom membrane h can.matched.valid g can.held k).0

  has_lists : (s : Registers) → ((k : ℕ) → s.left_atoms k ≡ (lists k).0) → ((k : ℕ) → s.left_membranes k ≡ (lists k).1) → HasRests atom membrane h g s
  has_lists s e d k m i = rw (e k, d k) ((rests_held atom membrane h can.matched.valid g can.held k).1 m i)

  many_left : (n : ℕ) → (n ≤ size → ⊥) → size < n
  many_left n above = elim (le_or_less n size) [ inl a ↦ absurd (above a) | inr b ↦ b ]

  -- too many items would be left
  pub fires_full : (h' : Heap) → h' ≡ h → (IsTrue fits → ⊥) → AnswersMatch atom membrane h g code size Full h'
  fires_full h' e l =
      let s = body_known atom membrane g [] lists in
      let a = known_agrees atom membrane g in
      let rests = has_lists s (λ k. refl) (λ k. refl) in
      let n = can.some s a rests in
      record { registers = s; agrees = a; rests = rests; left = n.0; leaves = n.1; answered = (many_left n.0 (λ k. l ((few s n.0 a rests n.1).1 k)), e) }

  -- there is no memory
  pub fires_not : (h' : Heap) → IsTrue fits → SameButSpares h h' → AnswersMatch atom membrane h g code size NoMemory h'
  fires_not h' l same =
      let s = body_known atom membrane g [] lists in
      let a = known_agrees atom membrane g in
      let rests = has_lists s (λ k. refl) (λ k. refl) in
      let n = can.some s a rests in
      record { registers = s; agrees = a; rests = rests; left = n.0; leaves = n.1; answered = ((few s n.0 a rests n.1).0 l, same) }

  -- the body is prepared
  abbrev is_prepared : (t : Heap) (k : SetRegisters A M) → Prepared atom membrane h t g k code.body → IsPrepared atom membrane t k code.body
  is_prepared t k p = record { before = h; matched_by = g; matched = can.matched; prepared = p }

  -- it is committed
  pub fires_all : (t h' : Heap) (k : SetRegisters A M) (p : Prepared atom membrane h t g k code.body) → IsTrue fits →
      ((q : IsPrepared atom membrane t k code.body) (r : Registers) → body.AgreesWithCopies atom membrane k r → HasCopies r q.prepared.copied → HasRests atom membrane q.before q.matched_by r → Commits q.before r code.body h') → AnswersMatch atom membrane h g code size Committed h'
  fires_all t h' k p l runs =
      let s = body_known atom membrane k p.copied lists in
      let a = agrees_before atom membrane g k p.grows s.head (known_agrees atom membrane k) in
      let rests = has_lists s (λ i. refl) (λ i. refl) in
      let n = can.some s a rests in
      record {
        registers = s;
        agrees = a;
        rests = rests;
        left = n.0;
        leaves = n.1;
        answered = ((few s n.0 a rests n.1).0 l, runs (is_prepared t k p) s (body_agrees atom membrane k p.copied lists p.sizes) (known_copies atom membrane k p.copied lists) rests);
      }

-- what is prepared over a heap and registers that are as they were
pub prepared_as : {A M : Type 0} (atom : A → ℕ) (membrane : M → ℕ) (h h1 t : Heap) (g g1 k : SetRegisters A M) (code : Code) → h1 ≡ h → g1 ≡ g → Prepared atom membrane h1 t g1 k code.body → Prepared atom membrane h t g k code.body
prepared_as atom membrane h h1 t g g1 k code e d p = subst (λ x. Prepared atom membrane h t x k code.body) d (subst (λ x. Prepared atom membrane x t g1 k code.body) e p)

-- ---- the turn

module _ {A M : Type 0} (atom : A → ℕ) (membrane : M → ℕ) (h : Heap) (codes : List Code) (m place n size : ℕ) (g : SetRegisters A M) (found : HasFound atom membrane h codes m n g) (code : Code) (is : slice_get codes n ≡ Some code) where
  -- what fires is the answer to a rule that is chosen
  abbrev pub chooses : (f : Forest) (from : ℕ) → IsFirstIn h codes (asked from f) m place n → (answer : Turn) (h' : Heap) → AnswersMatch atom membrane h g code size answer h' → Chooses h codes (asked from f) size answer h'
  chooses f from first answer h' fires = record {
    membrane = m;
    place = place;
    rule = n;
    chosen = first;
    code = code;
    is = is;
    registers = fires.registers;
    first = subst (λ (c : Code). IsFirstSuccess h c.head m fires.registers.head) (one_code codes n found.code code found.is is) (found.first fires.registers.head fires.agrees);
    rests = holds_by_code atom membrane h g code.head (subst (λ (c : Code). AreAllSet g c.head) (one_code codes n found.code code found.is is) found.set) fires.registers fires.agrees fires.rests;
    left = fires.left;
    leaves = fires.leaves;
    answered = fires.answered;
  }

  same_rules : (k : ℕ) (o u : Option HeapMem) → u ≡ option_map (mem_with_spare k) o → (j : ℕ) → In j (rules_by u) → In j (rules_by o)
  same_rules k None u e j i = absurd (subst (λ z. In j (rules_by z)) e i)
  same_rules k (Some y) u e j i = subst (λ z. In j (rules_by z)) e i

  -- the rules in membranes are of the table again
  rules_again : (P : ℕ → Type 0) (s : Registers) (left : ℕ) (answer : Turn) (h' : Heap) → AllByRecursion (Loads P) code.body → IsAnswer h s code.body left size answer h' → AllRules P h.mems → AllRules P h'.mems
  rules_again P s left Committed h' loads answered all =
      let c = answered.1 in
      let kept = rules_kept P s code.body h c.after loads (c.prepared, c.prepares, c.does) all in
      λ x k i. kept x k (subst (In k) ((read_alike c.after h' c.alike).rules x) i)
  rules_again P s left Irreducible h' loads answered all = absurd answered
  rules_again P s left Full h' loads answered all = subst (λ (z : Heap). AllRules P z.mems) (sym answered.1) all
  rules_again P s left NoMemory h' loads answered all = λ x k i. let w = answered.1.mems x in all x k (same_rules w.0 (h.mems x) (h'.mems x) w.1 k i)

  -- and the next turn can be made
  pub can_again : AreRunnable codes → CanTurn h (length codes) → (answer : Turn) (h' : Heap) → AnswersMatch atom membrane h g code size answer h' → Valid h' → Unmarked h' → CanTurn h' (length codes)
  can_again run can answer h' fires valid unmarked = record {
    valid = valid;
    unmarked = unmarked;
    of_table = λ x k i. rules_again (λ j. j < length codes) fires.registers fires.left answer h' (run n code is).loads fires.answered (λ y j w. can.of_table y j w) x k i;
  }
