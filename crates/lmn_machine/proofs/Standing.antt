-- What conditions say of one atom alone.
use Rattle.std.proofs.Common.{ℕ, ℤ, ◌≡◌, ◌≤◌, List, Option, Some, None, refl, ap, sym, subst, drop, ◌∙◌}
use Rattle.std.specs.Prelude.{Bool, true, false, ◌↔◌, slice_get, IfSome}
use Rattle.lmn_base.specs.declared.guard.Cmp.{Cmp}
use Rattle.lmn_base.specs.Graphs.{Port}
use Rattle.lmn_guards.specs.Values.{Stand}
use Rattle.lmn_store_heap.specs.Heap.{Heap}
use Rattle.lmn_solid_heads.specs.Guards.{integer_at}
use Rattle.lmn_solid_heads.specs.Embeddings.{partner}
use Rattle.lmn_instr_code.specs.declared.instr.AtomPort.{AtomPort}
use Rattle.lmn_instr_code.specs.declared.instr.Instr.{Instr}
use Rattle.lmn_instr_code.specs.declared.instr.Instr.TheVariants.{IsInt, GetInt, Const}
use Rattle.lmn_instr_code.specs.Running.{HeadRegisters, HeadSize, AllHold}
use Rattle.lmn_machine.proofs.Fitting.{hold_behind}

-- what holds of a value that is there
pub if_some : {X : Type 0} (P : X → Type 0) (o : Option X) → ((x : X) → o ≡ Some x → P x) → IfSome o P
if_some P None f = tt
if_some P (Some x) f = f x refl

-- a value that isn't there is none
pub no_value : {X : Type 0} (o : Option X) (x : X) → o ≡ None → o ≡ Some x → ⊥
no_value o x e u = cc

-- the end of a port by its link
pub led_to : (h : Heap) (a : ℕ) (port : ℕ) (q p : Port) (o : Option ℤ) → partner h (a, port) ≡ Some p → integer_at h p ≡ o → partner h (a, port) ≡ Some q → integer_at h q ≡ o
led_to h a port q p o link is e = let t : p ≡ q = cc in subst (λ r. integer_at h r ≡ o) t is

-- a port without a link leads nowhere
pub led_nowhere : (h : Heap) (a : ℕ) (port : ℕ) (q : Port) → partner h (a, port) ≡ None → partner h (a, port) ≡ Some q → ⊥
led_nowhere h a port q link e = cc

module _ (h : Heap) (c : HeadSize) (s : HeadRegisters) (code : List Instr) (at : ℕ) where
  -- a typed context that is an integer is the one behind the port from which it is entered
  pub part_told : (k g m part register a : ℕ) (p : AtomPort) (o : Option ℤ) → at ≤ k → slice_get code k ≡ Some (IsInt g p m) → g ≡ part → p.atom ≡ register → ((q : Port) → partner h (a, p.port) ≡ Some q → integer_at h q ≡ o) →
      s.images.atom register ≡ a → AllHold h c s (drop at code) → integer_at h (s.images.part part) ≡ o
  part_told k g m part register a p o l e same is told here all =
      let t = hold_behind h c s code at k (IsInt g p m) l e all in
      subst (λ n. integer_at h (s.images.part n) ≡ o) same (told (s.images.part g) (ap (λ b. partner h (b, p.port)) (sym (ap s.images.atom is ∙ here)) ∙ t.held))

  -- the integer of a typed context is that in the register which GETINT sets
  pub gotten : (k v g x : ℕ) (z : ℤ) → at ≤ k → slice_get code k ≡ Some (GetInt v g) → v ≡ x → integer_at h (s.images.part g) ≡ Some z → AllHold h c s (drop at code) → s.integer x ≡ z
  gotten k v g x z l e same is all = subst (λ n. s.integer n ≡ z) same (one (s.integer v) z (sym (hold_behind h c s code at k (GetInt v g) l e all) ∙ is))
    where
      one : (x y : ℤ) → Some x ≡ Some y → x ≡ y
      one x y u = cc

  -- and that of CONST is its number
  pub constant : (k v x : ℕ) (y z : ℤ) (o : Option ℤ) → at ≤ k → slice_get code k ≡ Some (Const v y) → v ≡ x → o ≡ Some y → o ≡ Some z → AllHold h c s (drop at code) → s.integer x ≡ z
  constant k v x y z o l e same is found all = subst (λ n. s.integer n ≡ z) same (hold_behind h c s code at k (Const v y) l e all ∙ (let t : Some y ≡ Some z = sym is ∙ found in one y z t))
    where
      one : (x y : ℤ) → Some x ≡ Some y → x ≡ y
      one x y u = cc

  -- where no integer is behind the port from which it is entered, it isn't one
  pub no_integer : (g m register a : ℕ) (p : AtomPort) (o : Option ℤ) → o ≡ None → p.atom ≡ register → ((q : Port) → partner h (a, p.port) ≡ Some q → integer_at h q ≡ o) → s.images.atom register ≡ a →
      partner h (s.images.atom p.atom, p.port) ≡ Some (s.images.part g) → (z : ℤ) × (integer_at h (s.images.part g) ≡ Some z) → ⊥
  no_integer g m register a p o none is told here held t =
      no_value o t.0 none (sym (told (s.images.part g) (ap (λ b. partner h (b, p.port)) (sym (ap s.images.atom is ∙ here)) ∙ held)) ∙ t.1)

-- a comparison that is false of two values doesn't stand of what is the same
pub not_stands : (o : Cmp) (m n x y : ℤ) (result : Bool) → ((result ≡ true) ↔ Stand o m n) → result ≡ false → (x ≡ m) × (y ≡ n) → Stand o x y → ⊥
not_stands o m n x y result told fails same stands =
    let t = told.1 (subst (λ z. z) (λ i. Stand o (same.0 i) (same.1 i)) stands) in cc
