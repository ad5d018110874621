-- What is said of registers holds whatever part they list.
use Rattle.std.proofs.Common.{ℕ, ◌≡◌, List, [], ap}
use Rattle.std.specs.Prelude.{Bool, true, Result, Ok, Err}
use Rattle.lmn_store_heap.specs.Heap.{Heap}
use Rattle.lmn_ground.specs.Listed.{IsListed}
use Rattle.lmn_ground.specs.declared.listing.PartList.{PartList}
use Rattle.lmn_ground.proofs.ListedLaws.{listed_none}
use Rattle.lmn_instr_code.specs.declared.instr.Instr.{Instr}
use Rattle.lmn_instr_code.specs.Running.{HeadRegisters, HeadSize}
use Rattle.lmn_machine_registers.specs.Agreeing.{Agrees}
use Rattle.lmn_machine_registers.specs.declared.registers.SetRegisters.{SetRegisters}
use Rattle.lmn_machine.specs.Searching.{AreHeldWhole, Extends, Found, Searched, SetsAll, SetsMore, Stepped}
use Rattle.lmn_machine.specs.Jumping.{Ended, Lasted}
use Rattle.lmn_machine.specs.declared.choices.Choices.{Choices}
use Rattle.lmn_machine.specs.declared.reasons.Reasons.{Reasons}

-- with another part listed
abbrev pub listing : {A M : Type 0} → SetRegisters A M → PartList A → SetRegisters A M
listing g l = record g { listed = l }

module _ {A M : Type 0} (atom : A → ℕ) (membrane : M → ℕ) (h : Heap) (g : SetRegisters A M) (l : PartList A) where
  -- they hold what they held
  pub held_listing : IsListed atom h l → AreHeldWhole atom membrane h g → AreHeldWhole atom membrane h (listing g l)
  held_listing listed held = record { atoms = held.atoms; membranes = held.membranes; parts = held.parts; whole = held.whole; listed = listed }

  pub held_forgetting : l ≡ record { port = 0; atoms = [] } → AreHeldWhole atom membrane h g → AreHeldWhole atom membrane h (listing g l)
  held_forgetting e held = held_listing (listed_none atom h l (ap (λ (x : PartList A). x.atoms) e)) held

  extends_listing : (k : SetRegisters A M) → Extends (listing g l) k → Extends g k
  extends_listing k t = record { atoms = t.atoms; membranes = t.membranes; parts = t.parts; integers = t.integers; copies = t.copies }

  agrees_listing : (s : HeadRegisters) → Agrees atom membrane g s → Agrees atom membrane (listing g l) s
  agrees_listing s t = record { atoms = t.atoms; membranes = t.membranes; parts = t.parts; integers = t.integers }

  all_listing : (c : HeadSize) (code : List Instr) → SetsAll c g code → SetsAll c (listing g l) code
  all_listing c code t = record { atoms = t.atoms; membranes = t.membranes }

  more_listing : (k : SetRegisters A M) (code : List Instr) → SetsMore (listing g l) k code → SetsMore g k code
  more_listing k code t = record { atoms = t.atoms; membranes = t.membranes; parts = t.parts; integers = t.integers }

  found_listing : (k : SetRegisters A M) (code : List Instr) → Found atom membrane h (listing g l) k code → Found atom membrane h g k code
  found_listing k code t = record {
    holds = λ c s a b. t.holds c s (all_listing c code a) b;
    first = λ c s u a b d e. t.first c s u (all_listing c code a) b (agrees_listing u d) e;
  }

  -- so a search answers
  pub searched_listing : (k : SetRegisters A M) (result : Bool) (code : List Instr) → Searched atom membrane h (listing g l) k result code → Searched atom membrane h g k result code
  searched_listing k result code t = record {
    held = t.held;
    extends = extends_listing k t.extends;
    sets = λ e. more_listing k code (t.sets e);
    found = λ e. found_listing k code (t.found e);
    none = λ e c s a b. t.none e c s (all_listing c code a) (agrees_listing s b);
  }

  pub lasted_listing : (left : ℕ) (k : SetRegisters A M) (result : Bool) (code : List Instr) → Lasted left atom membrane h (listing g l) k result code → Lasted left atom membrane h g k result code
  lasted_listing left k result code t = record {
    held = t.held;
    extends = extends_listing k t.extends;
    found = λ e. searched_listing k result code (t.found e);
    searched = λ e. searched_listing k result code (t.searched e);
  }

  pub ended_listing : (r : Reasons) (k : SetRegisters A M) (result : Result (Unit {0}) Choices) (code : List Instr) → Ended atom membrane h r (listing g l) k result code → Ended atom membrane h r g k result code
  ended_listing r k (Ok u) code t = searched_listing k true code t
  ended_listing r k (Err e) code t = (
    t.0,
    extends_listing k t.1,
    λ c s a b. t.2 c s (all_listing c code a) (record { atoms = b.atoms; membranes = b.membranes; parts = b.parts; integers = b.integers }),
  )

  -- and an instruction is run
  pub stepped_listing : (k : SetRegisters A M) (result : Bool) (i : Instr) → Stepped atom membrane h (listing g l) k result i → Stepped atom membrane h g k result i
  stepped_listing k result i t = record {
    held = t.held;
    extends = extends_listing k t.extends;
    holds = t.holds;
    only = λ c s n a u. t.only c s n (agrees_listing s a) u;
    sets = λ e. more_listing k _ (t.sets e);
    order = t.order;
  }
