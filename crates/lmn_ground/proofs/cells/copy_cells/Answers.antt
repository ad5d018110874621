use Rattle.std.proofs.Common.{ap, map, subst, sym, ◌∙◌, ◌≡◌, ℕ, List, IsSome, Option, length}
use Rattle.lmn_base.specs.Lists.{In}
use Rattle.std.specs.Prelude.{slice_index_or}
use Rattle.std.proofs.Common.{◌==◌, not, None, []}
use Rattle.lmn_base.proofs.Lists.{on_err}
use Rattle.lmn_store_heap.specs.Heap.{Heap, HeapAtom, Distinct, IsAtom, marks_of, own_mark, partners_of}
use Rattle.lmn_ground_parts.specs.Copies.{made_like}
use Rattle.lmn_ground_parts.specs.Rests.{AreRoomsFor, RestRemains, joined_copies}
use Rattle.lmn_ground_parts.specs.Walks.{is_in}
use Rattle.lmn_base.proofs.Numbers.{above_zero}
use Rattle.lmn_ground.specs.Rests.{AreMembranes, IsLeft}
use Rattle.lmn_ground.proofs.CopyLaws.{length_map}
use Rattle.lmn_ground.proofs.RestLaws.{atoms_once}
use Rattle.lmn_ground.proofs.RestCopyLaws.{on_error, on_ok}
use Rattle.lmn_ground.proofs.GatherRestLaws.{are_members, copied_bare, copied_whole, no_rows, remains_nothing, remains_only, remains_whole, rest_atom, rest_clean, rest_member, roomy_atoms}
use Rattle.lmn_ground.proofs.cells.copy_cells.Goals as goal

pub returns-in_err-gather_membranes-clause-err : goal.returns-in_err-gather_membranes-clause-err
returns-in_err-gather_membranes-clause-err g c =
    let s = g.S.LinkStore.heap c.args.store.now in
    let m = g.S.LinkStore.mem_id c.args.mem in
    let out = map g.S.LinkStore.mem_id c.args.out.now in
    let all : (atoms ms : List ℕ) → IsLeft s m out atoms ms → RestRemains s s atoms = λ atoms ms t. remains_nothing s atoms in
    on_err _ _ all

pub returns-in_err-gather_atoms-clause-err : goal.returns-in_err-gather_atoms-clause-err
returns-in_err-gather_atoms-clause-err g c =
    let s = g.S.LinkStore.heap c.args.store.now in
    let m = g.S.LinkStore.mem_id c.args.mem in
    let out = map g.S.LinkStore.mem_id c.args.out.now in
    let all : (atoms ms : List ℕ) → IsLeft s m out atoms ms → RestRemains s s atoms = λ atoms ms t. remains_nothing s atoms in
    on_err _ _ all

pub make_membranes-requires : goal.make_membranes-requires
make_membranes-requires g c =
    let s = g.S.LinkStore.heap c.args.store.now in
    let m = g.S.LinkStore.mem_id c.args.mem in
    let out = map g.S.LinkStore.mem_id c.args.out.now in
    let r = c.requires.rest in
    record { there = subst (AreMembranes s) (sym (c.in_ok-gather_membranes.ensures.all r.0 r.1 r.2)) (are_members s r.1 (rest_member s c.root-root.ensures.sound m out r.0 r.1 r.2)) }

pub returns-in_err-make_membranes-clause-err : goal.returns-in_err-make_membranes-clause-err
returns-in_err-make_membranes-clause-err g c =
    let s = g.S.LinkStore.heap c.args.store.now in
    let u = g.S.LinkStore.heap c.make_membranes.new.store in
    let m = g.S.LinkStore.mem_id c.args.mem in
    let out = map g.S.LinkStore.mem_id c.args.out.now in
    let w = c.make_membranes.ensures.some in
    let all : (atoms ms : List ℕ) → IsLeft s m out atoms ms → RestRemains s u atoms = λ atoms ms t. remains_only s u atoms w.0 w.1 w.2 in
    on_err _ _ all

pub returns-then-len-eq0-clause-ok : goal.returns-then-len-eq0-clause-ok
returns-then-len-eq0-clause-ok g c = λ atoms ms t.
    let s = g.S.LinkStore.heap c.args.store.now in
    let u = g.S.LinkStore.heap c.make_membranes.new.store in
    let m = g.S.LinkStore.mem_id c.args.mem in
    let out = map g.S.LinkStore.mem_id c.args.out.now in
    let w = c.in_ok-make_membranes.ensures.ok in
    let same : u.atoms ≡ s.atoms = ap (λ (h : Heap). h.atoms) w.3 ∙ roomy_atoms s w.0 in
    let none = no_rows g.S.LinkStore.atom_id c.gather_atoms.new.atoms atoms (c.in_ok-gather_atoms.ensures.all atoms ms t) (sym c.len.ensures ∙ c.if-len-eq0.true) in
    ([], w.0, copied_bare s u atoms ms w.0 none w.1 (subst (λ zs. AreRoomsFor s zs w.0) (c.in_ok-gather_membranes.ensures.all atoms ms t) w.2) w.3)

pub copy_atoms-requires : goal.copy_atoms-requires
copy_atoms-requires g c =
    let s = g.S.LinkStore.heap c.args.store.now in
    let u = g.S.LinkStore.heap c.make_membranes.new.store in
    let m = g.S.LinkStore.mem_id c.args.mem in
    let out = map g.S.LinkStore.mem_id c.args.out.now in
    let w = c.in_ok-make_membranes.ensures.ok in
    let same : u.atoms ≡ s.atoms = ap (λ (h : Heap). h.atoms) w.3 ∙ roomy_atoms s w.0 in
    let r = c.requires.rest in
    let all = c.in_ok-gather_atoms.ensures.all r.0 r.1 r.2 in
    let there : (x : ℕ) → In x r.0 → IsAtom s x = rest_atom s c.root-root.ensures.sound m out r.0 r.1 r.2 in
    record {
      there = λ x i. subst (λ (f : ℕ → Option HeapAtom). IsSome (f x)) (sym same) (there x (subst (In x) all i));
      once = subst Distinct (sym all) (atoms_once s c.root-root.ensures.sound m (λ a. own_mark s a == 0) (λ n. not (is_in out n)) r.0 r.1 r.2);
      some = above_zero (length c.gather_atoms.new.atoms) (λ e. c.if-len-eq0.false (c.len.ensures ∙ e));
      clean = λ x i. ap (λ (f : ℕ → Option HeapAtom). slice_index_or (marks_of (f x)) 0 0) same ∙ rest_clean s c.requires.clean x (c.requires.unmatched r.0 r.1 r.2 x (subst (In x) all i));
      stays = λ a i b j k link. subst (In b) (sym all) (c.requires.closed r.0 r.1 r.2 a i b j (subst (In a) all k) (ap (λ (f : ℕ → Option HeapAtom). slice_index_or (partners_of (f a)) i None) (sym same) ∙ link));
    }

pub returns-clause-ok : goal.returns-clause-ok
returns-clause-ok g c =
    on_ok c.copy_atoms.result _ _ (λ v atoms ms t.
    let s = g.S.LinkStore.heap c.args.store.now in
    let u = g.S.LinkStore.heap c.make_membranes.new.store in
    let m = g.S.LinkStore.mem_id c.args.mem in
    let out = map g.S.LinkStore.mem_id c.args.out.now in
    let w = c.in_ok-make_membranes.ensures.ok in
    let same : u.atoms ≡ s.atoms = ap (λ (h : Heap). h.atoms) w.3 ∙ roomy_atoms s w.0 in
    let all = c.in_ok-gather_atoms.ensures.all atoms ms t in (
      v.0,
      w.0,
      copied_whole s u (g.S.LinkStore.heap c.copy_atoms.new.store) atoms ms v.0 w.0 w.1 (subst (λ zs. AreRoomsFor s zs w.0) (c.in_ok-gather_membranes.ensures.all atoms ms t) w.2) w.3
          v.1 (v.2 ∙ sym (length_map g.S.LinkStore.atom_id c.gather_atoms.new.atoms) ∙ ap length all) (subst (λ zs. g.S.LinkStore.heap c.copy_atoms.new.store ≡ joined_copies u zs v.0) all v.3),
    )) c.copy_atoms.ensures.ok

pub returns-clause-err : goal.returns-clause-err
returns-clause-err g c =
    on_error c.copy_atoms.result _ _ (λ v atoms ms t.
    let s = g.S.LinkStore.heap c.args.store.now in
    let u = g.S.LinkStore.heap c.make_membranes.new.store in
    let m = g.S.LinkStore.mem_id c.args.mem in
    let out = map g.S.LinkStore.mem_id c.args.out.now in
    let w = c.in_ok-make_membranes.ensures.ok in
    let same : u.atoms ≡ s.atoms = ap (λ (h : Heap). h.atoms) w.3 ∙ roomy_atoms s w.0 in
    let all = c.in_ok-gather_atoms.ensures.all atoms ms t in
    remains_whole s u (g.S.LinkStore.heap c.copy_atoms.new.store) atoms v.0 w.0 w.1 w.3 v.1 (subst (λ zs. g.S.LinkStore.heap c.copy_atoms.new.store ≡ made_like u zs v.0) all v.2)) c.copy_atoms.ensures.err
