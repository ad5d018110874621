-- Where in a code instructions of some kinds stand.
use Rattle.std.specs.Prelude.{ℕ, ◌≡◌, ◌<◌, ◌≤◌, List, Some, length, slice_get}
use Rattle.lmn_instr_code.specs.declared.instr.Instr.{Instr}
use Rattle.lmn_instr_code.specs.declared.instr.Instr.TheVariants.{Commit, RemoveAtom, RemoveMem, NewAtom, NewInt, NewMem, CopyGround, CopyCells, LoadRule, CopyRules}
use Rattle.lmn_instr_pool.specs.declared.extent.Extent.{Extent}
use Rattle.lmn_instr_pool.specs.declared.extent.Kind.{Kind}
use Rattle.lmn_instr_pool.specs.declared.extent.Kind.TheVariants.{Removal, Making, Action}

-- it takes an atom or a membrane away by itself, not as one of a part or of a rest
abbrev pub Removes : Instr → Type 0
Removes (RemoveAtom a) = Unit {0}
Removes (RemoveMem m) = Unit {0}
Removes _ = ⊥

-- something is made for it before the code is run, or room for rules
abbrev pub Makes : Instr → Type 0
Makes (NewAtom a m f) = Unit {0}
Makes (NewInt a m v) = Unit {0}
Makes (NewMem m n) = Unit {0}
Makes (CopyGround c m g) = Unit {0}
Makes (CopyCells m n) = Unit {0}
Makes (LoadRule m k) = Unit {0}
Makes (CopyRules m n) = Unit {0}
Makes _ = ⊥

-- it asks or does something: any but COMMIT
abbrev pub Acts : Instr → Type 0
Acts Commit = ⊥
Acts _ = Unit {0}

-- none of such instructions stands at the place n or behind it
abbrev pub NoneFrom : (Instr → Type 0) → ℕ → List Instr → Type 0
NoneFrom P n code = (i : ℕ) (x : Instr) → n ≤ i → slice_get code i ≡ Some x → P x → ⊥

-- none of such instructions stands before the place n
abbrev pub NoneBefore : (Instr → Type 0) → ℕ → List Instr → Type 0
NoneBefore P n code = (i : ℕ) (x : Instr) → i < n → slice_get code i ≡ Some x → P x → ⊥

-- Private contracts alone cite what follows: an instruction of a kind, and what is told of a code.
abbrev pub IsOf : Kind → Instr → Type 0
IsOf Removal = Removes
IsOf Making = Makes
IsOf Action = Acts

-- all that stands at the place n or behind it is COMMIT
abbrev pub EndsAt : ℕ → List Instr → Type 0
EndsAt n code = (n ≤ length code) × NoneFrom Acts n code

pub record HasExtent (e : Extent) (code : List Instr) : Type 0 where
  pub removed : e.removals ≤ length code
  pub removals : NoneFrom Removes e.removals code
  pub started : e.first ≤ length code
  pub first : NoneBefore Makes e.first code
  pub ended : e.last ≤ length code
  pub last : NoneFrom Makes e.last code
