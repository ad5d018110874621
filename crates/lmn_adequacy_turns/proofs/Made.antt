-- Code of a body leaves the root where it is.
use Rattle.std.proofs.Common.{ℕ, ◌≡◌, List, [], ◌∷◌, refl, ap, ◌∙◌}
use Rattle.lmn_store_heap.specs.Heap.{Heap, made_mem, reserved}
use Rattle.lmn_instr_code.specs.declared.instr.Instr.{Instr}
use Rattle.lmn_instr_code.specs.declared.instr.Instr.TheVariants.{RemoveAtom, RemovePart, RemoveMem, NewAtom, NewInt, NewMem, CopyGround, MoveCells, CopyCells, LoadRule, CopyRules, DropCells, NewLink, Relink, Unify, Proceed}
use Rattle.lmn_solid_bodies.specs.Running.{Registers, Prepares, RunsBody, Makes}
use Rattle.lmn_solid_bodies.proofs.RestMems.{like_mems}
use Rattle.lmn_solid_bodies.proofs.RestsMade.{joined_lines}
use Rattle.lmn_ground_parts.specs.Copies.{answer, made_like, ports_of}
use Rattle.lmn_ground_parts.specs.Rests.{made_roomy, rest_copied}
use Rattle.lmn_solid_bodies.proofs.Common.{commits_root}

-- ---- the root

-- a rest is copied, placed and dropped beside it
roomy_root : (es : List (ℕ × ℕ)) (s : Heap) → (made_roomy s es).root ≡ s.root
roomy_root [] s = refl
roomy_root (e ∷ es) s = roomy_root es (reserved (made_mem s e.0) e.0 e.1)

rest_made_root : (s : Heap) (xs ys : List ℕ) (rooms : List (ℕ × ℕ)) → (rest_copied s xs rooms ys).root ≡ s.root
rest_made_root s xs ys rooms =
    let t = made_roomy s rooms in
    let like = made_like t xs ys in
    (joined_lines (answer xs ys) like (ports_of like xs)).3 ∙ (like_mems xs ys t).2 ∙ roomy_root rooms s

makes_root : (r : Registers) (i : Instr) (s t : Heap) → Makes r i s t → t.root ≡ s.root
makes_root r (RemoveAtom a) s t w = ap (λ z. z.root) w
makes_root r (RemovePart g) s t w = ap (λ z. z.root) w
makes_root r (RemoveMem m) s t w = ap (λ z. z.root) w
makes_root r (NewAtom a m f) s t w = ap (λ z. z.root) w.1
makes_root r (NewInt a m v) s t w = ap (λ z. z.root) w.1
makes_root r (NewMem m n) s t w = ap (λ z. z.root) w.1
makes_root r (CopyGround c m g) s t w = w.0.beside.root
makes_root r (MoveCells m n) s t w = ap (λ z. z.root) w
makes_root r (CopyCells m n) s t w = ap (λ z. z.root) w.2.is ∙ rest_made_root s (r.left_atoms m) w.0 w.1
makes_root r (DropCells m) s t w = ap (λ z. z.root) w
makes_root r (LoadRule m k) s t w = ap (λ z. z.root) w.1
makes_root r (CopyRules m n) s t w = ap (λ z. z.root) w.1
makes_root r (NewLink p q) s t w = ap (λ z. z.root) w
makes_root r (Relink p h) s t w = ap (λ z. z.root) w
makes_root r (Unify g h) s t w = ap (λ z. z.root) w
makes_root r Proceed s t w = ap (λ z. z.root) w
makes_root r _ s t w = absurd w

prepares_root : (r : Registers) (is : List Instr) (s t : Heap) → Prepares r is s t → t.root ≡ s.root
prepares_root r [] s t w = ap (λ z. z.root) w
prepares_root r (i ∷ is) s t w = prepares_root r is w.0 t w.2 ∙ makes_root r i s w.0 w.1

-- code of a body leaves the root where it is
pub root_stays : (r : Registers) (code : List Instr) (s t : Heap) → RunsBody r code s t → t.root ≡ s.root
root_stays r code s t w = commits_root r code w.0 t w.2 ∙ prepares_root r code s w.0 w.1
