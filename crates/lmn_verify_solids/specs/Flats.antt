-- The code of a flat rule, as far as a firing reads it. Laws alone cite these words.
use Rattle.std.specs.Prelude.{ℕ, true, ◌≡◌, ◌<◌, ◌+◌, ◌⊎◌, List, ◌++◌, length}
use Rattle.std.specs.List.{AllByRecursion}
use Rattle.lmn_solid_heads.specs.declared.items.HeadItem.{HeadItem}
use Rattle.lmn_solid_heads.specs.Embeddings.{HasMembrane}
use Rattle.lmn_solid_heads.specs.Heads.{HeadMembrane, atoms_of, membranes_of}
use Rattle.lmn_congruence_splice.specs.Splice.{IsOneOf}
use Rattle.lmn_instr_code.specs.declared.instr.AtomPort.{AtomPort}
use Rattle.lmn_instr_code.specs.declared.instr.Code.{Code}
use Rattle.lmn_instr_code.specs.declared.instr.NewPort.{NewPort}
use Rattle.lmn_instr_code.specs.declared.instr.Instr.{Instr}
use Rattle.lmn_instr_code.specs.declared.instr.Instr.TheVariants.{RemoveAtom, RemovePart, RemoveMem, DropCells, NewLink, Relink, Unify, Proceed}
use Rattle.lmn_instr_code.specs.Running.{membranes_set}
use Rattle.lmn_solid_bodies.specs.declared.items.BodyItem.{BodyItem}
use Rattle.lmn_solid_bodies.specs.Code.{making}
use Rattle.lmn_solid_bodies.specs.Items.{connectors, new_ports, old_ports}

-- the instruction takes out what a register of the head holds
abbrev pub IsRemoval : Instr → Type 0
IsRemoval (RemoveAtom a) = Unit {0}
IsRemoval (RemovePart x) = Unit {0}
IsRemoval (RemoveMem m) = Unit {0}
IsRemoval _ = ⊥

-- What stands behind what is made: DROPCELLS; a tie of two ports of one link of the rule, or of two links that a connector joins; PROCEED.
abbrev pub IsBehind : List HeadItem → List BodyItem → Instr → Type 0
IsBehind head body (DropCells m) = Unit {0}
IsBehind head body (NewLink p q) = (z : ℕ) × IsOneOf (p, z) (new_ports (length (atoms_of head)) 0 body) × IsOneOf (q, z) (new_ports (length (atoms_of head)) 0 body)
IsBehind head body (Relink p g) = (z : ℕ) × IsOneOf (p, z) (new_ports (length (atoms_of head)) 0 body) × IsOneOf (g, z) (old_ports head) × (g.atom < length (atoms_of head))
IsBehind head body (Unify g o) =
    (y : ℕ) × (z : ℕ) × IsOneOf (g, y) (old_ports head) × IsOneOf (o, z) (old_ports head) × IsOneOf (y, z) (connectors body)
    × (g.atom < length (atoms_of head)) × (o.atom < length (atoms_of head))
IsBehind head body Proceed = Unit {0}
IsBehind head body _ = ⊥

-- The body takes out what the head holds, makes the items of a flat body, in their order, drops the rests of the membranes with closed contexts,
-- and ties ends of links.
pub record IsFlatCode (head : List HeadItem) (body : List BodyItem) (code : Code) : Type 0 where
  pub membranes : membranes_set code.head ≡ length (membranes_of head)
  pub taking : List Instr
  pub behind : List Instr
  pub whole : code.body ≡ taking ++ (making (length (atoms_of head)) (1 + length (membranes_of head)) 0 body ++ behind)
  pub takes : AllByRecursion IsRemoval taking
  pub ends : AllByRecursion (IsBehind head body) behind
  pub closed : (k : ℕ) (b : HeadMembrane) → HasMembrane head k b → b.has_closed_context ≡ true → IsOneOf (DropCells k) behind

-- Each end of a link of a flat rule is tied by its code, and nothing else is dropped.
--   closed      what is dropped are the rests of membranes with closed contexts
--   both_new, new_old, both_old    two ends of one link are tied; they are no two ports of the head
--   wires       so are the links that a connector joins, each of which ends at a port of the head
pub record HasEachTie (head : List HeadItem) (body : List BodyItem) (code : Code) : Type 0 where
  pub closed : (k : ℕ) → IsOneOf (DropCells k) code.body → (b : HeadMembrane) × HasMembrane head k b × (b.has_closed_context ≡ true)
  pub both_new : (z : ℕ) (p q : NewPort) → IsOneOf (p, z) (new_ports (length (atoms_of head)) 0 body) → IsOneOf (q, z) (new_ports (length (atoms_of head)) 0 body) →
      (p ≡ q) ⊎ (IsOneOf (NewLink p q) code.body ⊎ IsOneOf (NewLink q p) code.body)
  pub new_old : (z : ℕ) (p : NewPort) (g : AtomPort) → IsOneOf (p, z) (new_ports (length (atoms_of head)) 0 body) → IsOneOf (g, z) (old_ports head) → IsOneOf (Relink p g) code.body
  pub both_old : (z : ℕ) (g o : AtomPort) → IsOneOf (g, z) (old_ports head) → IsOneOf (o, z) (old_ports head) → g ≡ o
  pub wires : (e : ℕ × ℕ) → IsOneOf e (connectors body) → (g : AtomPort) × (o : AtomPort) × IsOneOf (g, e.0) (old_ports head) × IsOneOf (o, e.1) (old_ports head) × IsOneOf (Unify g o) code.body
