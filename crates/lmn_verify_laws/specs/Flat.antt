-- The rule of which verified code is the code, as flat lists of items: what the head of the code finds, and what its body makes.
use Rattle.std.specs.Prelude.{ℕ, ◌+◌, true, false, not, if◌then◌else◌, List, [], ◌∷◌, ◌++◌, length, map, Option, Some, None}
use Rattle.std.specs.List.{filter_map}
use Rattle.lmn_congruence_splice.specs.Classes.{rising}
use Rattle.lmn_solid_heads.specs.declared.items.HeadItem.{HeadItem}
use Rattle.lmn_solid_heads.specs.declared.items.HeadItem.TheVariants as head
use Rattle.lmn_solid_bodies.specs.declared.items.BodyItem.{BodyItem}
use Rattle.lmn_solid_bodies.specs.declared.items.BodyItem.TheVariants as body
use Rattle.lmn_instr_code.specs.declared.instr.NewPort.{NewPort}
use Rattle.lmn_instr_code.specs.declared.instr.NewPort.TheVariants as new
use Rattle.lmn_instr_code.specs.declared.instr.Code.{Code}
use Rattle.lmn_instr_code.specs.declared.instr.Instr.{Instr}
use Rattle.lmn_instr_code.specs.declared.instr.Instr.TheVariants.{NewAtom, NewInt, NewMem, CopyGround, MoveCells, CopyCells, LoadRule, CopyRules, Unify}
use Rattle.lmn_verify_code.specs.declared.found.FoundAtom.{FoundAtom}
use Rattle.lmn_verify_code.specs.declared.found.FoundMembrane.{FoundMembrane}
use Rattle.lmn_verify_code.specs.declared.found.FoundPart.{FoundPart}
use Rattle.lmn_verify_code.specs.Verified.{atoms_found, membranes_found, parts_found, places, same_port, port_of_register, nothing_left, rest_dropped}

-- ---- links

-- The links at the ports of an instruction, which has the numbers k and k + 1 for them: all of its ports are at one link, but
-- those of UNIFY, which are at two.
abbrev pub linked_by : ℕ → Instr → List (NewPort × ℕ)
linked_by k (Unify p q) = (new.Atom p, k) ∷ ((new.Atom q, k + 1) ∷ [])
linked_by k i = map (λ p. (p, k)) (places i)

-- the ports of all instructions with their links, those of the first with k
abbrev pub linked : ℕ → List Instr → List (NewPort × ℕ)
linked k [] = []
linked k (i ∷ is) = linked_by k i ++ linked (k + 2) is

-- the link at a port
abbrev pub link_at : List (NewPort × ℕ) → NewPort → ℕ
link_at [] p = 0
link_at (e ∷ es) p = if same_port e.0 p then e.1 else link_at es p

-- the link at a port of an atom register, or at a copy
abbrev pub link_in : Code → NewPort → ℕ
link_in code p = link_at (linked 0 (code.head ++ code.body)) p

-- those at the n ports of the atom in a register
abbrev pub links_in : Code → ℕ → ℕ → List ℕ
links_in code a n = map (λ i. link_in code (new.Atom (port_of_register a i))) (rising 0 n)

-- how many links there are
abbrev pub link_count : Code → ℕ
link_count code = length (code.head ++ code.body) + length (code.head ++ code.body)

-- ---- the head

abbrev pub atom_item : Code → FoundAtom → HeadItem
atom_item code a = head.Atom a.functor (links_in code a.atom a.functor.arity) a.membrane

-- A membrane that isn't counted has an untyped context, which is closed where what is left is dropped. Each may hold rules.
abbrev pub membrane_item : Code → FoundMembrane → HeadItem
membrane_item code m = head.Membrane m.inside (not (nothing_left code m.membrane)) (rest_dropped code m.membrane) true

abbrev pub typed_item : Code → FoundPart → HeadItem
typed_item code p = head.Typed p.part p.kind (link_in code (new.Atom p.port)) p.membrane

-- what the head of the code finds
abbrev pub flat_head : Code → List HeadItem
flat_head code =
    map (membrane_item code) (membranes_found code.head) ++ (map (atom_item code) (atoms_found code.head) ++ map (typed_item code) (parts_found code.head))

-- ---- the body

-- what an instruction makes, moves or copies
abbrev pub made_item : Code → Instr → Option BodyItem
made_item code (NewAtom a m f) = Some (body.Atom f (links_in code a f.arity) m)
made_item code (NewInt a m v) = Some (body.Bound v (link_in code (new.Atom (port_of_register a 0))) m)
made_item code (NewMem m n) = Some (body.Membrane n)
made_item code (CopyGround c m g) = Some (body.Copy g (link_in code (new.Copy c)) m)
made_item code (MoveCells m n) = Some (body.Rest m false n)
made_item code (CopyCells m n) = Some (body.Rest m true n)
made_item code (LoadRule m k) = Some (body.Rule k m)
made_item code (CopyRules m n) = Some (body.Rules m n)
made_item code _ = None

-- each UNIFY connects the two links of its ports
abbrev pub connected : ℕ → List Instr → List BodyItem
connected k [] = []
connected k (Unify p q ∷ is) = body.Connector k (k + 1) ∷ connected (k + 2) is
connected k (i ∷ is) = connected (k + 2) is

-- what the body of the code makes, and its connectors
abbrev pub flat_body : Code → List BodyItem
flat_body code = filter_map (made_item code) code.body ++ connected 0 (code.head ++ code.body)
