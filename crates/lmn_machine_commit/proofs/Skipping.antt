-- Instructions for which nothing is made are passed over.
use Rattle.std.proofs.Common.{ℕ, zero, suc, ◌≡◌, ◌<◌, ◌≤◌, ◌+◌, ◌-◌, List, ◌∷◌, arith, sym, subst, length, take, drop, Some}
use Rattle.std.specs.Prelude.{slice_get}
use Rattle.lmn_base.proofs.Lists.{drop_get, get_there}
use Rattle.lmn_store_heap.specs.Heap.{Heap}
use Rattle.lmn_store_heap.specs.Sound.{Valid}
use Rattle.lmn_instr_code.specs.declared.instr.Instr.{Instr}
use Rattle.lmn_instr_pool.specs.Extents.{Makes}
use Rattle.lmn_machine_registers.specs.declared.registers.SetRegisters.{SetRegisters}
use Rattle.lmn_machine_commit.specs.Registers.{AreHeld}
use Rattle.lmn_machine_commit.specs.Preparing.{BodyInOrder, CanCopy, CanCopyRests, Prepared}
use Rattle.lmn_machine_commit.proofs.Codes.{take_get}
use Rattle.lmn_machine_commit.proofs.Making.{in_order_next, nothing_made, prepared_more}
use Rattle.lmn_machine_commit.proofs.Waiting.{makes_nothing}
use Rattle.lmn_machine_commit.proofs.Later.{IsApart, still_holds}
use Rattle.lmn_machine_commit.proofs.Rules.{itself}

module _ {A M : Type 0} (atom : A → ℕ) (membrane : M → ℕ) (h s : Heap) (valid : Valid h) (g k : SetRegisters A M) (apart : IsApart atom membrane h g k)
    (parts : CanCopy {A = A} {M = M} atom h g) (held : AreHeld atom membrane h g) (code : List Instr) (rests : CanCopyRests atom membrane h g code) where
  abbrev pub InOrder : List Instr → Type 0
  InOrder is = BodyInOrder (length k.atoms) (length k.membranes) (length k.parts) (length k.integers) (length k.copies) is

  -- what the code makes before a place is made, and the code from there on is in order
  abbrev pub IsDone : ℕ → Type 0
  IsDone i = Prepared atom membrane h s g k (take i code) × InOrder (drop i code)

  pass_one : (i : ℕ) (x : Instr) → slice_get code i ≡ Some x → (Makes x → ⊥) → IsDone i → IsDone (i + 1)
  pass_one i x here none d =
      let order : InOrder (x ∷ drop (i + 1) code) = subst (λ is. InOrder is) (drop_get i code x here) d.1 in
      let made = nothing_made atom membrane s k (take i code) x d.0.held (length k.integers) (length k.copies) order.0
      (record {
        no_atom = λ y z f e. none (subst Makes (sym e) tt);
        no_integer = λ y z v e. none (subst Makes (sym e) tt);
        no_mem = λ y z e. none (subst Makes (sym e) tt);
        no_copy = λ y z v e. none (subst Makes (sym e) tt);
        no_rule = λ y z e. none (subst Makes (sym e) tt);
        no_rules = λ y z e. none (subst Makes (sym e) tt);
        no_rest = λ y z e. none (subst Makes (sym e) tt);
      }) in (
        subst (λ is. Prepared atom membrane h s g k is) (sym (take_get i code x here))
            (prepared_more atom membrane h s s g k k (take i code) x (length k.integers) d.0 made (makes_nothing s)
            (still_holds atom membrane h s valid d.0.makes (d.0.makes.rest h (itself h valid).1) g k d.0.grows apart parts held code i x here rests) order.0),
        in_order_next atom membrane k k x (drop (i + 1) code) made.atoms made.membranes made.grows.parts made.grows.integers made.copies order,
      )

  pass_many : (n i : ℕ) → i + n ≤ length code → ((j : ℕ) (x : Instr) → i ≤ j → j < i + n → slice_get code j ≡ Some x → Makes x → ⊥) → IsDone i → IsDone (i + n)
  pass_many zero i l none d = let same : i ≡ i + zero = omega arith in subst (λ m. IsDone m) same d
  pass_many (suc n) i l none d =
      let x = get_there code i (omega (arith, l)) in
      let next = pass_one i x.0 x.1 (λ m. none i x.0 (omega arith) (omega arith) x.1 m) d in
      let all = pass_many n (i + 1) (omega (arith, l)) (λ j y a b e m. none j y (omega (arith, a)) (omega (arith, b)) e m) next in
      let same : i + 1 + n ≡ i + suc n = omega arith in
      subst (λ m. IsDone m) same all

  -- from a place to a later one, where nothing is made for those between
  pub pass_to : (i end : ℕ) → i ≤ end → end ≤ length code → ((j : ℕ) (x : Instr) → i ≤ j → j < end → slice_get code j ≡ Some x → Makes x → ⊥) → IsDone i → IsDone end
  pass_to i end l few none d =
      let n = end - i in
      let e : i + n ≡ end = omega (arith, l) in
      subst (λ m. IsDone m) e (pass_many n i (omega (arith, e, few)) (λ j x a b t m. none j x a (omega (arith, b, e)) t m) d)
