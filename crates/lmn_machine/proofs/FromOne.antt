-- The search from the membrane alone.
use Rattle.std.proofs.Common.{ℕ, zero, suc, ◌≡◌, List, [], ◌∷◌, Some, refl, arith, ap, subst, ◌∙◌}
use Rattle.std.specs.Prelude.{Bool, true, false, slice_get}
use Rattle.lmn_store_heap.specs.Heap.{Heap, IsMem}
use Rattle.lmn_instr_code.specs.declared.instr.Instr.{Instr}
use Rattle.lmn_instr_code.specs.Running.{HeadRegisters, HeadSize, AllHold, Succeeds, IsFirstSuccess, size_of_head}
use Rattle.lmn_machine_registers.specs.declared.registers.SetRegisters.{SetRegisters}
use Rattle.lmn_machine_registers.specs.Agreeing.{Agrees}
use Rattle.lmn_machine.specs.Searching.{AreHeldWhole, SetsAll, Searched, AreAllSet, Looked}
use Rattle.lmn_machine.specs.Jumping.{only_membrane}
use Rattle.lmn_machine.proofs.Stepping.{agrees_before, extends_itself}

module _ {A M : Type 0} (atom : A → ℕ) (membrane : M → ℕ) (h : Heap) where
  one_agrees : (m : M) (s : HeadRegisters) → s.images.membrane 0 ≡ membrane m → Agrees atom membrane (only_membrane m) s
  one_agrees m s e = record { atoms = λ k a u. absurd (cc); membranes = λ k n u. at k n u; parts = λ k a u. absurd (cc); integers = λ k a u. absurd (cc) }
    where
      at : (k : ℕ) (n : M) → slice_get (m ∷ []) k ≡ Some n → s.images.membrane k ≡ membrane n
      at zero n u = let t : m ≡ n = cc in e ∙ ap membrane t
      at (suc k) n u = absurd (cc)

  -- the size of a head, by its code and the one membrane
  sets_all : (m : M) (code : List Instr) → SetsAll {A = A} {M = M} (size_of_head code) (only_membrane m) code
  sets_all m code = record { atoms = omega arith; membranes = omega arith }

  first_found : (m : M) (k : SetRegisters A M) (result : Bool) (code : List Instr) → Searched atom membrane h (only_membrane m) k result code → result ≡ true → (r : HeadRegisters) → Agrees atom membrane k r →
      IsFirstSuccess h code (membrane m) r
  first_found m k result code t e r a =
      let f = t.found e in
      let all = sets_all m code in
      let b = agrees_before atom membrane h (only_membrane m) k r t.extends a in
      record {
        succeeds = record { here = b.membranes 0 m refl; all = f.holds (size_of_head code) r all a };
        first = λ s u. f.first (size_of_head code) r s all a (one_agrees m s u.here) u.all;
      }

  none_found : (m : M) (k : SetRegisters A M) (result : Bool) (code : List Instr) → Searched atom membrane h (only_membrane m) k result code → result ≡ false → (r : HeadRegisters) → Succeeds h code (membrane m) r → ⊥
  none_found m k result code t e r s = t.none e (size_of_head code) r (sets_all m code) (one_agrees m r s.here) s.all

  all_set : (m : M) (k : SetRegisters A M) (result : Bool) (code : List Instr) → Searched atom membrane h (only_membrane m) k result code → result ≡ true → AreAllSet k code
  all_set m k result code t e = let s = t.sets e in record {
    atoms = (let n = s.atoms in omega (arith, n));
    membranes = (let n = s.membranes in omega (arith, n));
    parts = (let n = s.parts in omega (arith, n));
    integers = (let n = s.integers in omega (arith, n));
  }

  -- what a search from the membrane alone tells
  pub looked : (m : M) (k : SetRegisters A M) (result : Bool) (code : List Instr) → Searched atom membrane h (only_membrane m) k result code → Looked atom membrane h code (membrane m) k result
  looked m k result code t = record {
    held = t.held;
    copies = t.extends.copies;
    set = all_set m k result code t;
    found = first_found m k result code t;
    none = none_found m k result code t;
  }

  -- that membrane alone is held
  pub held_one : (m : M) → IsMem h (membrane m) → AreHeldWhole atom membrane h (only_membrane m)
  held_one m there = record { atoms = λ k a u. absurd (cc); membranes = λ k n u. at k n u; parts = λ k a u. absurd (cc); whole = λ k p u. absurd (cc); listed = λ a u. absurd (cc) }
    where
      at : (k : ℕ) (n : M) → slice_get (m ∷ []) k ≡ Some n → IsMem h (membrane n)
      at zero n u = let t : m ≡ n = cc in subst (λ x. IsMem h (membrane x)) t there
      at (suc k) n u = absurd (cc)

  -- code that succeeds with no registers of which the first membrane is this one
  pub counted_out : (m : M) (code : List Instr) → IsMem h (membrane m) → ((c : HeadSize) (s : HeadRegisters) → s.images.membrane 0 ≡ membrane m → AllHold h c s code → ⊥) → Searched atom membrane h (only_membrane m) (only_membrane m) false code
  counted_out m code there denied = record {
    held = held_one m there;
    extends = extends_itself atom membrane h (only_membrane m);
    sets = λ u. absurd (cc);
    found = λ u. absurd (cc);
    none = λ u c s k a v. denied c s (a.membranes 0 m refl) v;
  }
