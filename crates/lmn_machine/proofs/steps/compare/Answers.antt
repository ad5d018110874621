use Rattle.std.proofs.Common.{ℕ, ℤ, ◌≡◌, Some, refl, sym, subst, ◌∙◌, FitsSigned, w64, to_z, of_z}
use Rattle.std.proofs.lemmas.Int.{to_z-of_z}
use Rattle.std.specs.Prelude.{Bool, IsTrue, slice_get, ◌↔◌}
use Rattle.lmn_base.specs.declared.guard.Cmp.TheVariants as cmp
use Rattle.lmn_guards.specs.Values.{Stand}
use Rattle.lmn_instr_code.specs.declared.instr.Instr.{Instr}
use Rattle.lmn_instr_code.specs.declared.instr.Instr.TheVariants.{Lt, Le, Gt, Ge, Eq, Ne, Commit}
use Rattle.lmn_instr_code.specs.Running.{HeadRegisters, InstructionHolds}
use Rattle.lmn_machine_registers.specs.declared.registers.SetRegisters.{SetRegisters}
use Rattle.lmn_machine_registers.specs.Agreeing.{Agrees}
use Rattle.lmn_machine.specs.Searching.{Compares}
use Rattle.lmn_machine.proofs.steps.compare.Goals as goal

-- what is told of two integers in registers, read as 64 bits, is told of the values that are set
compared : {A M : Type 0} (atom : A → ℕ) (membrane : M → ℕ) (g : SetRegisters A M) (s : HeadRegisters) (P : ℤ → ℤ → Type 0) (x y : ℕ) (m n : ℤ) (b : Bool) → Agrees atom membrane g s → slice_get g.integers x ≡ Some m → slice_get g.integers y ≡ Some n →
    FitsSigned w64 m → FitsSigned w64 n → (IsTrue b ↔ P (to_z w64 (of_z w64 m)) (to_z w64 (of_z w64 n))) → (IsTrue b ↔ P (s.integer x) (s.integer y))
compared atom membrane g s P x y m n b a e f p q t =
    subst (λ z. IsTrue b ↔ P z (s.integer y)) (to_z-of_z w64 m p ∙ sym (a.integers x m e))
    (subst (λ z. IsTrue b ↔ P (to_z w64 (of_z w64 m)) z) (to_z-of_z w64 n q ∙ sym (a.integers y n f)) t)

-- there is no other comparison
no_other : (i : Instr) (n : ℕ) → Compares n i → ((x y : ℕ) → i ≡ Lt x y → ⊥) → ((x y : ℕ) → i ≡ Le x y → ⊥) → ((x y : ℕ) → i ≡ Gt x y → ⊥) → ((x y : ℕ) → i ≡ Ge x y → ⊥) →
    ((x y : ℕ) → i ≡ Eq x y → ⊥) → ((x y : ℕ) → i ≡ Ne x y → ⊥) → (i ≡ Commit → ⊥) → ⊥
no_other (Lt x y) n r lt le gt ge eq ne commit = lt x y refl
no_other (Le x y) n r lt le gt ge eq ne commit = le x y refl
no_other (Gt x y) n r lt le gt ge eq ne commit = gt x y refl
no_other (Ge x y) n r lt le gt ge eq ne commit = ge x y refl
no_other (Eq x y) n r lt le gt ge eq ne commit = eq x y refl
no_other (Ne x y) n r lt le gt ge eq ne commit = ne x y refl
no_other Commit n r lt le gt ge eq ne commit = commit refl
no_other _ n r lt le gt ge eq ne commit = r

pub returns-in-Lt : goal.returns-in-Lt
returns-in-Lt g c = λ atom membrane h n s a. subst (λ i. IsTrue c.is_less.result ↔ InstructionHolds h n s i) (sym c.in-Lt.is)
    (compared atom membrane c.args.set.now s (Stand cmp.Lt) c.in-Lt.left c.in-Lt.right c.at.result c.at-in-Lt.result c.is_less.result a c.at.ensures c.at-in-Lt.ensures (record { sfits = c.at.type_inv }) (record { sfits = c.at-in-Lt.type_inv }) c.is_less.ensures)

pub returns-in-Le : goal.returns-in-Le
returns-in-Le g c = λ atom membrane h n s a. subst (λ i. IsTrue c.is_at_most.result ↔ InstructionHolds h n s i) (sym c.in-Le.is)
    (compared atom membrane c.args.set.now s (Stand cmp.Le) c.in-Le.left c.in-Le.right c.at-in-Le.result c.at-in-Le-2.result c.is_at_most.result a c.at-in-Le.ensures c.at-in-Le-2.ensures (record { sfits = c.at-in-Le.type_inv }) (record { sfits = c.at-in-Le-2.type_inv }) c.is_at_most.ensures)

pub returns-in-Gt : goal.returns-in-Gt
returns-in-Gt g c = λ atom membrane h n s a. subst (λ i. IsTrue c.is_greater.result ↔ InstructionHolds h n s i) (sym c.in-Gt.is)
    (compared atom membrane c.args.set.now s (Stand cmp.Gt) c.in-Gt.left c.in-Gt.right c.at-in-Gt.result c.at-in-Gt-2.result c.is_greater.result a c.at-in-Gt.ensures c.at-in-Gt-2.ensures (record { sfits = c.at-in-Gt.type_inv }) (record { sfits = c.at-in-Gt-2.type_inv }) c.is_greater.ensures)

pub returns-in-Ge : goal.returns-in-Ge
returns-in-Ge g c = λ atom membrane h n s a. subst (λ i. IsTrue c.is_at_least.result ↔ InstructionHolds h n s i) (sym c.in-Ge.is)
    (compared atom membrane c.args.set.now s (Stand cmp.Ge) c.in-Ge.left c.in-Ge.right c.at-in-Ge.result c.at-in-Ge-2.result c.is_at_least.result a c.at-in-Ge.ensures c.at-in-Ge-2.ensures (record { sfits = c.at-in-Ge.type_inv }) (record { sfits = c.at-in-Ge-2.type_inv }) c.is_at_least.ensures)

pub returns-in-Eq : goal.returns-in-Eq
returns-in-Eq g c = λ atom membrane h n s a. subst (λ i. IsTrue c.are_equal.result ↔ InstructionHolds h n s i) (sym c.in-Eq.is)
    (compared atom membrane c.args.set.now s (Stand cmp.Eq) c.in-Eq.left c.in-Eq.right c.at-in-Eq.result c.at-in-Eq-2.result c.are_equal.result a c.at-in-Eq.ensures c.at-in-Eq-2.ensures (record { sfits = c.at-in-Eq.type_inv }) (record { sfits = c.at-in-Eq-2.type_inv }) c.are_equal.ensures)

pub returns-in-Ne : goal.returns-in-Ne
returns-in-Ne g c = λ atom membrane h n s a. subst (λ i. IsTrue c.are_different.result ↔ InstructionHolds h n s i) (sym c.in-Ne.is)
    (compared atom membrane c.args.set.now s (Stand cmp.Ne) c.in-Ne.left c.in-Ne.right c.at-in-Ne.result c.at-in-Ne-2.result c.are_different.result a c.at-in-Ne.ensures c.at-in-Ne-2.ensures (record { sfits = c.at-in-Ne.type_inv }) (record { sfits = c.at-in-Ne-2.type_inv }) c.are_different.ensures)

pub returns-in_default : goal.returns-in_default
returns-in_default g c = λ atom membrane h n s a. absurd (no_other c.args.instr.now _ c.requires c.in_default.not-Lt c.in_default.not-Le c.in_default.not-Gt c.in_default.not-Ge c.in_default.not-Eq c.in_default.not-Ne c.in_default.not-Commit)
