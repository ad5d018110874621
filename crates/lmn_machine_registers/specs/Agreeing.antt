-- What the registers hold, by numbers. The crates that run code speak of it; no contract of this crate does.
use Rattle.std.specs.Prelude.{ℕ, ℤ, ◌≡◌, Some, slice_get}
use Rattle.lmn_store_heap.specs.Heap.{port_id}
use Rattle.lmn_instr_code.specs.Running.{HeadRegisters}
use Rattle.lmn_machine_registers.specs.declared.registers.SetRegisters.{SetRegisters}

-- Registers that have the values of those that are set, where `atom` and `membrane` number the handles of a store.
pub record Agrees {A M : Type 0} (atom : A → ℕ) (membrane : M → ℕ) (g : SetRegisters A M) (s : HeadRegisters) : Type 0 where
  pub atoms : (k : ℕ) (a : A) → slice_get g.atoms k ≡ Some a → s.images.atom k ≡ atom a
  pub membranes : (k : ℕ) (m : M) → slice_get g.membranes k ≡ Some m → s.images.membrane k ≡ membrane m
  pub parts : (k : ℕ) (p : A × ℕ) → slice_get g.parts k ≡ Some p → s.images.part k ≡ port_id atom p
  pub integers : (k : ℕ) (z : ℤ) → slice_get g.integers k ≡ Some z → s.integer k ≡ z
