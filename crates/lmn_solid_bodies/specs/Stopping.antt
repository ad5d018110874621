-- What a prepare leaves that is given up.
use Rattle.std.specs.Prelude.{ℕ, ◌≡◌, List, [], ◌∷◌}
use Rattle.std.specs.Option.{option_map}
use Rattle.lmn_store_heap.specs.Heap.{Heap, mem_with_spare}
use Rattle.lmn_instr_code.specs.declared.instr.Instr.{Instr}
use Rattle.lmn_instr_code.specs.declared.instr.Instr.TheVariants.{CopyGround, CopyCells}

-- t is h but for the spares of its membranes, and nothing waits in it
pub record SameButSpares (h t : Heap) : Type 0 where
  pub root : t.root ≡ h.root
  pub atoms : (a : ℕ) → t.atoms a ≡ h.atoms a
  pub mems : (m : ℕ) → (k : ℕ) × (t.mems m ≡ option_map (mem_with_spare k) (h.mems m))
  pub new_atoms : t.new_atoms ≡ []
  pub new_mems : t.new_mems ≡ []

abbrev pub IsCopying : Instr → Type 0
IsCopying (CopyGround c m g) = Unit {0}
IsCopying (CopyCells m n) = Unit {0}
IsCopying _ = ⊥

-- code without COPYGROUND and COPYCELLS
abbrev pub NoCopying : List Instr → Type 0
NoCopying [] = Unit {0}
NoCopying (i ∷ is) = (IsCopying i → ⊥) × NoCopying is
