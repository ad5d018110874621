-- Code that is committed, one instruction after the other.
use Rattle.std.proofs.Common.{ℕ, ◌≡◌, List, [], ◌∷◌, ◌++◌, map, length, Some, refl, ap, sym, subst, ◌∙◌}
use Rattle.std.specs.Prelude.{slice_get}
use Rattle.std.specs.Prelude.{◌↔◌}
use Rattle.lmn_base.specs.Graphs.{Reached}
use Rattle.lmn_store_heap.specs.Graphs.{atom_map}
use Rattle.lmn_store_heap.specs.Heap.{Heap, Distinct, IsMem, IsMemInPlace, gone, mem_place_of, port_id, taken_all}
use Rattle.lmn_ground.proofs.GroundLaws.{part_atoms}
use Rattle.lmn_instr_code.specs.declared.instr.Instr.{Instr}
use Rattle.lmn_instr_code.specs.declared.instr.Instr.TheVariants.{RemovePart, CopyGround, CopyCells, DropCells}
use Rattle.lmn_solid_bodies.specs.Running.{Registers, Does, DoesAll, all_placed}
use Rattle.lmn_solid_bodies.specs.Conditions.{Can}
use Rattle.lmn_machine_registers.specs.declared.registers.PartCopy.{PartCopy}
use Rattle.lmn_machine_registers.specs.declared.registers.SetRegisters.{SetRegisters}
use Rattle.lmn_machine_commit.specs.Registers.{AgreesWithCopies}
use Rattle.lmn_machine_commit.specs.Committing.{IsDoneSoFar, Runs, Stands}
use Rattle.lmn_machine_commit.specs.Preparing.{Uses}
use Rattle.lmn_ground_parts.specs.Rests.{CopyWaits, IsContent, rest_placed, rest_taken}
use Rattle.lmn_ground_parts.specs.Walks.{IsPartInDepth}
use Rattle.lmn_base.specs.Lists.{In}

same_taken : (ns : List ℕ) (s : Heap) → taken_all s ns ≡ taken_all s ns
same_taken [] s = refl
same_taken (n ∷ ns) s = same_taken ns _

-- the registers that an instruction uses are those that the one uses that it is
pub uses_as : (a m g c : ℕ) {i j : Instr} → i ≡ j → Uses a m g c i → Uses a m g c j
uses_as a m g c e u = subst (λ k. Uses a m g c k) e u

-- it asks for what that one asks for
pub asks_as : (r : Registers) (s : Heap) {i j : Instr} → i ≡ j → Can r i s → Can r j s
asks_as r s e can = subst (λ k. Can r k s) e can

-- and does what that one does
pub does_as : (r : Registers) (s t : Heap) {i j : Instr} → i ≡ j → Does r j s t → Does r i s t
does_as r s t e does = subst (λ k. Does r k s t) (sym e) does

-- what holds of two values holds of those that they are
pub both_as : {X Y : Type 0} (P : X → Y → Type 0) {x x' : X} {y y' : Y} → x ≡ x' → y ≡ y' → P x y → P x' y'
both_as P {x' = x'} {y = y} e f h = subst (λ z. P x' z) f (subst (λ z. P z y) e h)

module _ {A M : Type 0} (atom : A → ℕ) (membrane : M → ℕ) (g : SetRegisters A M) where
  pub part_taken : (r : Registers) (i : Instr) (x : ℕ) (p : A × ℕ) (s t : Heap) (all : List ℕ) → AgreesWithCopies atom membrane g r → i ≡ RemovePart x → slice_get g.parts x ≡ Some p →
      IsPartInDepth s (atom p.0, p.1) all → t ≡ taken_all s all → Does r i s t
  part_taken r i x p s t all u e at part is =
      let root : r.head.images.part x ≡ port_id atom p = u.parts x p at in
      let found = part_atoms s (atom p.0, p.1) all part in
      subst (λ j. Does r j s t) (sym e)
      (subst (λ q. (ns : List ℕ) × Distinct ns × ((b : ℕ) → In b ns ↔ Reached (atom_map s) q b) × (t ≡ taken_all s ns)) (sym root) (all, found.0, found.1, is ∙ same_taken all s))

  -- the atoms of a copy that is to be placed wait
  pub copy_waits : (r : Registers) (i : Instr) (x y z : ℕ) (p : PartCopy A) (s : Heap) → AgreesWithCopies atom membrane g r → i ≡ CopyGround x y z → slice_get g.copies x ≡ Some p → Can r i s →
      (atoms rest : List ℕ) × (length atoms ≡ p.atoms) × (s.new_atoms ≡ atoms ++ rest)
  copy_waits r i x y z p s u e at can =
      let w : Can r (CopyGround x y z) s = subst (λ j. Can r j s) e can in
      (r.copied x, w.1.0, (u.copies x p at).1, w.1.1)

  -- and they go to a membrane that is in place
  pub copy_goes : (r : Registers) (i : Instr) (x y z : ℕ) (m : M) (s : Heap) → AgreesWithCopies atom membrane g r → i ≡ CopyGround x y z → slice_get g.membranes y ≡ Some m → Can r i s → IsMemInPlace s (membrane m)
  copy_goes r i x y z m s u e at can = let w : Can r (CopyGround x y z) s = subst (λ j. Can r j s) e can in subst (IsMemInPlace s) (u.membranes y m at) w.0

  pub copy_placed : (r : Registers) (i : Instr) (x y z : ℕ) (p : PartCopy A) (m : M) (s t : Heap) → AgreesWithCopies atom membrane g r → i ≡ CopyGround x y z → slice_get g.copies x ≡ Some p → slice_get g.membranes y ≡ Some m →
      Can r i s → ((atoms rest : List ℕ) → length atoms ≡ p.atoms → s.new_atoms ≡ atoms ++ rest → t ≡ all_placed s (map (λ a. (membrane m, a)) atoms)) → Does r i s t
  copy_placed r i x y z p m s t u e copy inside can placed =
      let w : Can r (CopyGround x y z) s = subst (λ j. Can r j s) e can in
      subst (λ j. Does r j s t) (sym e)
      (w.1.0, w.1.1, placed (r.copied x) w.1.0 (u.copies x p copy).1 w.1.1 ∙ ap (λ n. all_placed s (map (λ a. (n, a)) (r.copied x))) (sym (u.membranes y m inside)))

  -- the copy of a rest that is to be placed waits
  pub rest_waits : (r : Registers) (i : Instr) (x y : ℕ) (m n : M) (s : Heap) → AgreesWithCopies atom membrane g r → i ≡ CopyCells x y → slice_get g.membranes x ≡ Some m → slice_get g.membranes y ≡ Some n → Can r i s →
      IsMem s (membrane m) × IsMemInPlace s (membrane n) × ((atoms membranes copies new_membranes : List ℕ) × CopyWaits s (membrane m) (membrane n) atoms membranes copies new_membranes)
  rest_waits r i x y m n s u e from to can =
      let w : Can r (CopyCells x y) s = subst (λ j. Can r j s) e can in (
        subst (IsMem s) (u.membranes x m from) w.0,
        subst (IsMemInPlace s) (u.membranes y n to) w.1,
        (
          r.left_atoms x,
          r.left_membranes x,
          w.2.0,
          w.2.1,
          subst (λ k. CopyWaits s k (membrane n) (r.left_atoms x) (r.left_membranes x) w.2.0 w.2.1) (u.membranes x m from)
              (subst (λ k. CopyWaits s (r.head.images.membrane x) k (r.left_atoms x) (r.left_membranes x) w.2.0 w.2.1) (u.membranes y n to) w.2.2),
        ),
      )

  -- and goes to its membrane
  pub rest_goes : (r : Registers) (i : Instr) (x y : ℕ) (m n : M) (s t : Heap) → AgreesWithCopies atom membrane g r → i ≡ CopyCells x y → slice_get g.membranes x ≡ Some m → slice_get g.membranes y ≡ Some n → Can r i s →
      ((atoms membranes copies new_membranes : List ℕ) → CopyWaits s (membrane m) (membrane n) atoms membranes copies new_membranes → t ≡ rest_placed s (membrane m) (membrane n) atoms membranes copies new_membranes) → Does r i s t
  unfolding rest_waits
  rest_goes r i x y m n s t u e from to can goes =
      let w = rest_waits r i x y m n s u e from to can in
      let c : Can r (CopyCells x y) s = subst (λ j. Can r j s) e can in
      let is = goes (r.left_atoms x) (r.left_membranes x) c.2.0 c.2.1 w.2.4 in
      subst (λ j. Does r j s t) (sym e) (
        c.2.0,
        c.2.1,
        c.2.2,
        subst (λ k. t ≡ rest_placed s k (r.head.images.membrane y) (r.left_atoms x) (r.left_membranes x) c.2.0 c.2.1) (sym (u.membranes x m from))
            (subst (λ k. t ≡ rest_placed s (membrane m) k (r.left_atoms x) (r.left_membranes x) c.2.0 c.2.1) (sym (u.membranes y n to)) is),
      )

  -- what is dropped is all that a membrane holds that was taken
  pub rest_held : (r : Registers) (i : Instr) (x : ℕ) (m : M) (s : Heap) → AgreesWithCopies atom membrane g r → i ≡ DropCells x → slice_get g.membranes x ≡ Some m → Can r i s →
      (mem_place_of s (membrane m) ≡ Some gone) × ((atoms membranes : List ℕ) × IsContent s (membrane m) atoms membranes)
  rest_held r i x m s u e at can =
      let w : Can r (DropCells x) s = subst (λ j. Can r j s) e can in (
        subst (λ k. mem_place_of s k ≡ Some gone) (u.membranes x m at) w.0,
        (r.left_atoms x, r.left_membranes x, subst (λ k. IsContent s k (r.left_atoms x) (r.left_membranes x)) (u.membranes x m at) w.1),
      )

  pub rest_dropped : (r : Registers) (i : Instr) (x : ℕ) (m : M) (s t : Heap) → AgreesWithCopies atom membrane g r → i ≡ DropCells x → slice_get g.membranes x ≡ Some m → Can r i s →
      ((atoms membranes : List ℕ) → IsContent s (membrane m) atoms membranes → t ≡ rest_taken s atoms membranes) → Does r i s t
  rest_dropped r i x m s t u e at can taken =
      let w : Can r (DropCells x) s = subst (λ j. Can r j s) e can in
      subst (λ j. Does r j s t) (sym e) (w.1, taken (r.left_atoms x) (r.left_membranes x) (subst (λ k. IsContent s k (r.left_atoms x) (r.left_membranes x)) (u.membranes x m at) w.1))

  -- one instruction more is done
  pub done_more : (whole rest is : List Instr) (i : Instr) (s0 s t : Heap) → rest ≡ i ∷ is → IsDoneSoFar atom membrane g whole rest s0 s → ((r : Registers) → AgreesWithCopies atom membrane g r → Can r i s → Does r i s t) → IsDoneSoFar atom membrane g whole is s0 t
  done_more whole rest is i s0 s t e d does r u w =
      let q = d r u w in
      let runs : Runs r (i ∷ is) s = subst (λ js. Runs r js s) e q.0 in
      let step = does r u runs.0 in
      (runs.2 t step, λ v c. q.1 v (subst (λ js. DoesAll r js s v) (sym e) (t, step, c)))

  pub can_now : (whole rest is : List Instr) (i : Instr) (s0 s : Heap) → rest ≡ i ∷ is → IsDoneSoFar atom membrane g whole rest s0 s → (w : (r : Registers) × AgreesWithCopies atom membrane g r × Runs r whole s0) →
      (r : Registers) × AgreesWithCopies atom membrane g r × Can r i s × Stands r i s
  can_now whole rest is i s0 s e d w =
      let q : Runs w.0 (i ∷ is) s = subst (λ js. Runs w.0 js s) e (d w.0 w.1 w.2).0 in
      (w.0, w.1, q.0, q.1)
