-- The registers of two first successes of head code are the same, as far as the code sets them.
use Rattle.std.proofs.Common.{ℕ, ◌≡◌, ◌<◌, ◌+◌, List, [], ◌∷◌, ◌++◌, Some, refl, sym, ap, subst, ◌∙◌, inl, inr, arith}
use Rattle.std.specs.Prelude.{slice_get, take}
use Rattle.std.proofs.lemmas.Option.{same_Some}
use Rattle.lmn_base.specs.Graphs.{Port}
use Rattle.lmn_base.specs.Lists.{In}
use Rattle.lmn_base.proofs.Lists.{head_is, tail_is, take_slice}
use Rattle.lmn_base.proofs.Numbers.{in_order, same_or_not}
use Rattle.lmn_store_heap.specs.Heap.{Heap, atoms_in, mems_in, rules_in}
use Rattle.lmn_store_heap.proofs.Common.{in_at}
use Rattle.lmn_solid_heads.specs.Embeddings.{index_of, partner}
use Rattle.lmn_solid_heads.proofs.Common.{same_index}
use Rattle.lmn_instr_code.specs.declared.instr.AtomPort.{AtomPort}
use Rattle.lmn_instr_code.specs.declared.instr.Code.{Code}
use Rattle.lmn_instr_code.specs.declared.instr.Instr.{Instr}
use Rattle.lmn_instr_code.specs.declared.instr.Instr.TheVariants.{FindAtom, Deref, AnyMem, IsInt, IsUnary, IsGround, GetInt, Const, Add, Sub, Mul, Div, Mod}
use Rattle.lmn_instr_code.specs.Running.{AllHold, HeadRegisters, HeadSize, IsFirstSuccess, atoms_set, choices, membranes_set, port_of, size_of_head}
use Rattle.lmn_machine.specs.Searching.{HeadInOrder, parts_set}
use Rattle.lmn_schedule_strategy.specs.Choosing.{IsFirstIn, IsFirstRule, NoneIn, NoneOf}
use Rattle.lmn_compile_head.proofs.Only.{neither_after}

-- ---- the rule that is chosen

module _ (h : Heap) (codes : List Code) where
  -- a rule that succeeds is none of those that don't
  stands : (m place n : ℕ) → IsFirstRule h codes m place n → NoneOf h codes m (rules_in h m) → ⊥
  stands m place n f none = none n (in_at (rules_in h m) place n f.stands) f.succeeds

  one_membrane : (earlier more later others : List ℕ) (m m' p p' n n' : ℕ) → earlier ++ m ∷ later ≡ more ++ m' ∷ others → NoneIn h codes earlier → NoneIn h codes more →
      IsFirstRule h codes m p n → IsFirstRule h codes m' p' n' → m ≡ m'
  one_membrane [] [] later others m m' p p' n n' e none none' f f' = head_is e
  one_membrane [] (x ∷ xs) later others m m' p p' n n' e none none' f f' = absurd (stands m p n f (subst (λ z. NoneOf h codes z (rules_in h z)) (sym (head_is e)) (none' x (inl refl))))
  one_membrane (x ∷ xs) [] later others m m' p p' n n' e none none' f f' = absurd (stands m' p' n' f' (subst (λ z. NoneOf h codes z (rules_in h z)) (head_is e) (none x (inl refl))))
  one_membrane (x ∷ xs) (y ∷ ys) later others m m' p p' n n' e none none' f f' =
      one_membrane xs ys later others m m' p p' n n' (tail_is e) (λ z i. none z (inr i)) (λ z i. none' z (inr i)) f f'

  one_rule : (m p p' n n' : ℕ) → IsFirstRule h codes m p n → IsFirstRule h codes m p' n' → n ≡ n'
  one_rule m p p' n n' f f' = elim (in_order p p') [
    | inl e ↦ same_Some n n' (sym (subst (λ k. slice_get (rules_in h m) k ≡ Some n) e f.stands) ∙ f'.stands)
    | inr w ↦ elim w [
      | inl l ↦ absurd (f'.earlier n (in_at (take p' (rules_in h m)) p n (take_slice p' (rules_in h m) p n l f.stands)) f.succeeds)
      | inr l ↦ absurd (f.earlier n' (in_at (take p (rules_in h m)) p' n' (take_slice p (rules_in h m) p' n' l f'.stands)) f'.succeeds)
    ]
  ]

  -- where membranes are asked in one order, one rule of one membrane is the first
  pub one_first : (ms : List ℕ) (m m' p p' n n' : ℕ) → IsFirstIn h codes ms m p n → IsFirstIn h codes ms m' p' n' → (m ≡ m') × (n ≡ n')
  one_first ms m m' p p' n n' c d =
      let same = one_membrane c.earlier d.earlier c.later d.later m m' p p' n n' (sym c.order ∙ d.order) c.none d.none c.rule d.rule in
      (same, one_rule m' p p' n n' (subst (λ z. IsFirstRule h codes z p n) same c.rule) d.rule)

-- ---- the registers

-- The first registers are the same: so many of atoms, of membranes and of typed contexts.
pub record Alike (r s : HeadRegisters) (a m g : ℕ) : Type 0 where
  pub atoms : (k : ℕ) → k < a → r.images.atom k ≡ s.images.atom k
  pub membranes : (k : ℕ) → k < m → r.images.membrane k ≡ s.images.membrane k
  pub parts : (k : ℕ) → k < g → r.images.part k ≡ s.images.part k

-- one more of a kind
next : {A : Type 0} (f g : ℕ → A) (n : ℕ) → ((k : ℕ) → k < n → f k ≡ g k) → f n ≡ g n → (k : ℕ) → k < n + 1 → f k ≡ g k
next f g n before here k l = elim (same_or_not k n) [ inl e ↦ ap f e ∙ here ∙ ap g (sym e) | inr d ↦ before k (omega (arith, l, d)) ]

-- what stands at the other end of a port is one
one_part : (h : Heap) (r s : HeadRegisters) (p : AtomPort) (q q' : Port) → r.images.atom p.atom ≡ s.images.atom p.atom → partner h (port_of r p) ≡ Some q → partner h (port_of s p) ≡ Some q' → q ≡ q'
one_part h r s p q q' e u v = same_Some q q' (sym (subst (λ a. partner h (a, p.port) ≡ Some q) e u) ∙ v)

module _ (h : Heap) (c : HeadSize) (r s : HeadRegisters) where
  alike_all : (code : List Instr) (a m g v A M G : ℕ) → A ≡ a + atoms_set code → M ≡ m + membranes_set code → G ≡ g + parts_set code →
      HeadInOrder a m g v code → AllHold h c r code → AllHold h c s code → choices h r code ≡ choices h s code → Alike r s a m g → Alike r s A M G
  alike_all [] a m g v A M G x y z o u w e k = record {
    atoms = λ j l. k.atoms j (omega (arith, l, x));
    membranes = λ j l. k.membranes j (omega (arith, l, y));
    parts = λ j l. k.parts j (omega (arith, l, z));
  }
  alike_all (FindAtom x y f ∷ is) a m g v A M G sa sm sg o u w e k =
      let inside = k.membranes y o.0.1 in
      let there = subst (λ z. In (r.images.atom x) (atoms_in h z)) inside u.0.0 in
      let place = subst (λ z. index_of (r.images.atom x) (atoms_in h z) ≡ index_of (s.images.atom x) (atoms_in h (s.images.membrane y))) inside (head_is e) in
      let here = subst (λ z. r.images.atom z ≡ s.images.atom z) o.0.0 (same_index (r.images.atom x) (s.images.atom x) (atoms_in h (s.images.membrane y)) place there w.0.0) in
      alike_all is (a + 1) m g v A M G (omega (arith, sa)) sm sg o.1 u.1 w.1 (tail_is e) (record { atoms = next r.images.atom s.images.atom a k.atoms here; membranes = k.membranes; parts = k.parts })
  alike_all (Deref x p q ∷ is) a m g v A M G sa sm sg o u w e k =
      let both = one_part h r s p (r.images.atom x, q) (s.images.atom x, q) (k.atoms p.atom o.0.1) u.0 w.0 in
      let here = subst (λ z. r.images.atom z ≡ s.images.atom z) o.0.0 (ap (λ (t : Port). t.0) both) in
      alike_all is (a + 1) m g v A M G (omega (arith, sa)) sm sg o.1 u.1 w.1 e (record { atoms = next r.images.atom s.images.atom a k.atoms here; membranes = k.membranes; parts = k.parts })
  alike_all (AnyMem x y ∷ is) a m g v A M G sa sm sg o u w e k =
      let inside = k.membranes y o.0.1 in
      let there = subst (λ z. In (r.images.membrane x) (mems_in h z)) inside u.0 in
      let place = subst (λ z. index_of (r.images.membrane x) (mems_in h z) ≡ index_of (s.images.membrane x) (mems_in h (s.images.membrane y))) inside (head_is e) in
      let here = subst (λ z. r.images.membrane z ≡ s.images.membrane z) o.0.0 (same_index (r.images.membrane x) (s.images.membrane x) (mems_in h (s.images.membrane y)) place there w.0) in
      alike_all is a (m + 1) g v A M G sa (omega (arith, sm)) sg o.1 u.1 w.1 (tail_is e) (record { atoms = k.atoms; membranes = next r.images.membrane s.images.membrane m k.membranes here; parts = k.parts })
  alike_all (IsInt x p y ∷ is) a m g v A M G sa sm sg o u w e k =
      let here = subst (λ z. r.images.part z ≡ s.images.part z) o.0.0.0.0 (one_part h r s p (r.images.part x) (s.images.part x) (k.atoms p.atom o.0.0.1) u.0.held w.0.held) in
      alike_all is a m (g + 1) v A M G sa sm (omega (arith, sg)) o.1 u.1 w.1 e (record { atoms = k.atoms; membranes = k.membranes; parts = next r.images.part s.images.part g k.parts here })
  alike_all (IsUnary x p y ∷ is) a m g v A M G sa sm sg o u w e k =
      let here = subst (λ z. r.images.part z ≡ s.images.part z) o.0.0.0.0 (one_part h r s p (r.images.part x) (s.images.part x) (k.atoms p.atom o.0.0.1) u.0.held w.0.held) in
      alike_all is a m (g + 1) v A M G sa sm (omega (arith, sg)) o.1 u.1 w.1 e (record { atoms = k.atoms; membranes = k.membranes; parts = next r.images.part s.images.part g k.parts here })
  alike_all (IsGround x p y ∷ is) a m g v A M G sa sm sg o u w e k =
      let here = subst (λ z. r.images.part z ≡ s.images.part z) o.0.0.0.0 (one_part h r s p (r.images.part x) (s.images.part x) (k.atoms p.atom o.0.0.1) u.0.held w.0.held) in
      alike_all is a m (g + 1) v A M G sa sm (omega (arith, sg)) o.1 u.1 w.1 e (record { atoms = k.atoms; membranes = k.membranes; parts = next r.images.part s.images.part g k.parts here })
  alike_all (GetInt x y ∷ is) a m g v A M G sa sm sg o u w e k = alike_all is a m g (v + 1) A M G sa sm sg o.1 u.1 w.1 e k
  alike_all (Const x z ∷ is) a m g v A M G sa sm sg o u w e k = alike_all is a m g (v + 1) A M G sa sm sg o.1 u.1 w.1 e k
  alike_all (Add x y z ∷ is) a m g v A M G sa sm sg o u w e k = alike_all is a m g (v + 1) A M G sa sm sg o.1 u.1 w.1 e k
  alike_all (Sub x y z ∷ is) a m g v A M G sa sm sg o u w e k = alike_all is a m g (v + 1) A M G sa sm sg o.1 u.1 w.1 e k
  alike_all (Mul x y z ∷ is) a m g v A M G sa sm sg o u w e k = alike_all is a m g (v + 1) A M G sa sm sg o.1 u.1 w.1 e k
  alike_all (Div x y z ∷ is) a m g v A M G sa sm sg o u w e k = alike_all is a m g (v + 1) A M G sa sm sg o.1 u.1 w.1 e k
  alike_all (Mod x y z ∷ is) a m g v A M G sa sm sg o u w e k = alike_all is a m g (v + 1) A M G sa sm sg o.1 u.1 w.1 e k
  alike_all (_ ∷ is) a m g v A M G sa sm sg o u w e k = alike_all is a m g v A M G sa sm sg o.1 u.1 w.1 e k

-- so all registers are the same that head code sets in order
pub one_match : (h : Heap) (code : List Instr) (m : ℕ) (r s : HeadRegisters) → HeadInOrder 0 1 0 0 code → IsFirstSuccess h code m r → IsFirstSuccess h code m s → Alike r s (atoms_set code) (1 + membranes_set code) (parts_set code)
one_match h code m r s o u w =
    alike_all h (size_of_head code) r s code 0 1 0 0 (atoms_set code) (1 + membranes_set code) (parts_set code) (omega arith) (omega arith) (omega arith) o u.succeeds.all w.succeeds.all
    (neither_after (choices h r code) (choices h s code) (u.first s w.succeeds) (w.first r u.succeeds))
    (record { atoms = λ k l. absurd (omega (arith, l)); membranes = λ k l. first k l; parts = λ k l. absurd (omega (arith, l)) })
  where
    first : (k : ℕ) → k < 1 → r.images.membrane k ≡ s.images.membrane k
    first k l = let none : k ≡ 0 = omega (arith, l) in ap r.images.membrane none ∙ u.succeeds.here ∙ sym w.succeeds.here ∙ ap s.images.membrane (sym none)
