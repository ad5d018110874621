-- What is kept by other numbers.
use Rattle.std.specs.Prelude.{ℕ, ◌≡◌, List}
use Rattle.lmn_base.specs.declared.functor.Functor.{Functor}
use Rattle.lmn_base.specs.declared.solid.Solid.{Solid}
use Rattle.lmn_store_heap.specs.Heap.{Heap, IsAtom, IsMem, Unmarked, discarded, finished, joined, made_atom, made_mem, marked, mem_marked, moved_all, placed, placed_mem, reserved, rule_added, rules_copied, taken, taken_mem}
use Rattle.lmn_store_heap.specs.Solid.{HasSolid}
use Rattle.lmn_store_heap.specs.Sound.{Sound, Valid}
use Rattle.lmn_instr_code.specs.declared.instr.Instr.{Instr}
use Rattle.lmn_instr_code.specs.Running.{HeadRegisters, IsFirstSuccess, Succeeds}
use Rattle.lmn_verify_renaming.specs.Registers.{renamed_head}
use Rattle.lmn_verify_renaming.specs.Renamed.{Renaming, SameButRoom, inverse, renamed}

-- What each call makes of the renamed heap.
pub record CallsRenamed (r : Renaming) (s : Heap) : Type 0 where
  pub set_mark : (a slot v : ℕ) → marked (renamed r s) (r.atoms.to a) slot v ≡ renamed r (marked s a slot v)
  pub set_mem_mark : (m v : ℕ) → mem_marked (renamed r s) (r.mems.to m) v ≡ renamed r (mem_marked s m v)
  pub make_atom : (a : ℕ) (f : Functor) → made_atom (renamed r s) (r.atoms.to a) f ≡ renamed r (made_atom s a f)
  pub make_mem : (m : ℕ) → made_mem (renamed r s) (r.mems.to m) ≡ renamed r (made_mem s m)
  pub reserve_rules : (m n : ℕ) → reserved (renamed r s) (r.mems.to m) n ≡ renamed r (reserved s m n)
  pub discard : discarded (renamed r s) ≡ renamed r (discarded s)
  pub place_atom : (m a : ℕ) → placed (renamed r s) (r.mems.to m) (r.atoms.to a) ≡ renamed r (placed s m a)
  pub place_mem : (m n : ℕ) → placed_mem (renamed r s) (r.mems.to m) (r.mems.to n) ≡ renamed r (placed_mem s m n)
  pub take_atom : (a : ℕ) → taken (renamed r s) (r.atoms.to a) ≡ renamed r (taken s a)
  pub take_mem : (m : ℕ) → taken_mem (renamed r s) (r.mems.to m) ≡ renamed r (taken_mem s m)
  pub move_all : (m n : ℕ) → moved_all (renamed r s) (r.mems.to m) (r.mems.to n) ≡ renamed r (moved_all s m n)
  pub add_rule : (m k : ℕ) → rule_added (renamed r s) (r.mems.to m) k ≡ renamed r (rule_added s m k)
  pub copy_rules : (m n : ℕ) → rules_copied (renamed r s) (r.mems.to m) (r.mems.to n) ≡ renamed r (rules_copied s m n)
  pub join : (a i b j : ℕ) → joined (renamed r s) (r.atoms.to a) i (r.atoms.to b) j ≡ renamed r (joined s a i b j)
  pub finish : finished (renamed r s) ≡ renamed r (finished s)

abbrev pub CallsAreRenamed : Type 0
CallsAreRenamed = (r : Renaming) (s : Heap) → CallsRenamed r s

-- The solids of the renamed heap.
abbrev pub SolidsAreRenamed : Type 0
SolidsAreRenamed = (r : Renaming) (s : Heap) (x : Solid) → HasSolid s x → HasSolid (renamed r s) x

-- What head code does on the renamed heap, in a membrane: what succeeds there, and what succeeds there first.
pub record HeadRenamed (r : Renaming) (s : Heap) (code : List Instr) (m : ℕ) : Type 0 where
  pub succeeds : (g : HeadRegisters) → Succeeds s code m g → Succeeds (renamed r s) code (r.mems.to m) (renamed_head r g)
  pub back : (g : HeadRegisters) → Succeeds (renamed r s) code (r.mems.to m) g → Succeeds s code m (renamed_head (inverse r) g)
  pub first : (g : HeadRegisters) → IsFirstSuccess s code m g → IsFirstSuccess (renamed r s) code (r.mems.to m) (renamed_head r g)

abbrev pub HeadsAreRenamed : Type 0
HeadsAreRenamed = (r : Renaming) (s : Heap) (code : List Instr) (m : ℕ) → HeadRenamed r s code m

-- Two heaps between commits that have one solid are one with other numbers, but for room for rules and marks of membranes.
abbrev pub OneSolidIsRenamed : Type 0
OneSolidIsRenamed = (h k : Heap) (x : Solid) → Valid h → Valid k → Unmarked h → Unmarked k → HasSolid h x → HasSolid k x → (r : Renaming) × SameButRoom (renamed r h) k

-- Other numbers, and other numbers for these, are other numbers.
abbrev pub RenamedTwice : Type 0
RenamedTwice = (r q : Renaming) → (p : Renaming) × ((a : ℕ) → p.atoms.to a ≡ q.atoms.to (r.atoms.to a)) × ((m : ℕ) → p.mems.to m ≡ q.mems.to (r.mems.to m))
    × ((s : Heap) → renamed q (renamed r s) ≡ renamed p s)

-- A heap is as it was where what it has keeps its numbers.
abbrev pub FixedIsSame : Type 0
FixedIsSame = (r : Renaming) (s : Heap) → Sound s → ((a : ℕ) → IsAtom s a → r.atoms.to a ≡ a) → ((m : ℕ) → IsMem s m → r.mems.to m ≡ m) → renamed r s ≡ s

-- What each call leaves of heaps that are the same but for room and marks is the same but for these.
pub record KeepsRoom (s t : Heap) : Type 0 where
  pub make_atom : (a : ℕ) (f : Functor) → SameButRoom (made_atom s a f) (made_atom t a f)
  pub make_mem : (m : ℕ) → SameButRoom (made_mem s m) (made_mem t m)
  pub reserve_rules : (m n k : ℕ) → SameButRoom (reserved s m n) (reserved t m k)
  pub place_atom : (m a : ℕ) → SameButRoom (placed s m a) (placed t m a)
  pub place_mem : (m n : ℕ) → SameButRoom (placed_mem s m n) (placed_mem t m n)
  pub take_atom : (a : ℕ) → SameButRoom (taken s a) (taken t a)
  pub take_mem : (m : ℕ) → SameButRoom (taken_mem s m) (taken_mem t m)
  pub move_all : (m n : ℕ) → SameButRoom (moved_all s m n) (moved_all t m n)
  pub add_rule : (m k : ℕ) → SameButRoom (rule_added s m k) (rule_added t m k)
  pub copy_rules : (m n : ℕ) → SameButRoom (rules_copied s m n) (rules_copied t m n)
  pub join : (a i b j : ℕ) → SameButRoom (joined s a i b j) (joined t a i b j)
  pub finish : SameButRoom (finished s) (finished t)

abbrev pub CallsKeepRoom : Type 0
CallsKeepRoom = (s t : Heap) → SameButRoom s t → KeepsRoom s t

-- Heads don't read room and marks of membranes.
abbrev pub HeadsReadNoRoom : Type 0
HeadsReadNoRoom = (s t : Heap) → SameButRoom s t → (code : List Instr) (m : ℕ) (g : HeadRegisters) → (Succeeds s code m g → Succeeds t code m g) × (IsFirstSuccess s code m g → IsFirstSuccess t code m g)
