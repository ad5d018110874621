use Rattle.std.proofs.Common.{◌≡◌, ℕ, ◌-◌, Option, Some, IsSome, sym, ap, subst, ◌∙◌, refl, arith}
use Rattle.std.specs.Option.{option_map}
use Rattle.lmn_store_heap.specs.Lists.{from}
use Rattle.lmn_web_cells.specs.CellIds.{cell_id}
use Rattle.lmn_web.specs.Webs.{cells_in}
use Rattle.lmn_web_merging.specs.Keepers.{merged_by}
use Rattle.lmn_web.specs.declared.kind.CellKind.TheVariants.{Membrane}
use Rattle.lmn_store_web.proofs.FreeLemmas.{frees_none, frees_both}
use Rattle.lmn_store_web.proofs.FreeSteps.{line_kind, line_plain, mem_home, mem_rules, mem_alone, mem_empty, key_there, mem_counted, spare_counted, mem_step, mem_fewer, atoms_left}
use Rattle.lmn_store_web.proofs.PlaceLemmas.{first_is}
use Rattle.lmn_store_web.proofs.freeing.free_mems.Goals as goal

pub loop-m-init : goal.loop-m-init
loop-m-init c = record { freed = λ p h. (h, frees_none p (cell_id c.args.line) c.args.rules.now.slots (merged_by c.args.web.now)); atoms = refl }

pub first_plain-requires-clause-membrane : goal.first_plain-requires-clause-membrane
first_plain-requires-clause-membrane c =
    let r = c.requires in let p = r.0 in let may = (c.loop-m.invariant.freed p r.1).0 in
    line_kind p (cell_id c.args.line) c.loop-m.rules.slots (merged_by c.loop-m.web) may.atoms may.mems c.loop-m.spare may.can

pub place_of_rules-place-requires : goal.place_of_rules-place-requires
place_of_rules-place-requires c =
    let r = c.requires in let p = r.0 in let may = (c.loop-m.invariant.freed p r.1).0 in let n = may.atoms in let l = cell_id c.args.line in let t = c.loop-m.rules.slots in let w = merged_by c.loop-m.web in let k = may.mems in let s = c.loop-m.spare in let x = cell_id c.in-Some.m in
    let h = may.can in
    let first : from (Some x) (cells_in w l Membrane) ≡ cells_in w l Membrane = c.in-Some.ensures.list in
    mem_rules p l t w n k s h c.listed.ensures x first

pub free_cell-requires-clause-listed : goal.free_cell-requires-clause-listed
free_cell-requires-clause-listed c =
    let r = c.requires in let p = r.0 in let may = (c.loop-m.invariant.freed p r.1).0 in let n = may.atoms in let l = cell_id c.args.line in let t = c.loop-m.rules.slots in let w = merged_by c.loop-m.web in let k = may.mems in let s = c.loop-m.spare in let x = cell_id c.in-Some.m in
    let h = may.can in
    let first : from (Some x) (cells_in w l Membrane) ≡ cells_in w l Membrane = c.in-Some.ensures.list in
    subst (λ (o : Option ℕ). IsSome o) (sym (mem_home p l t w n k s h c.listed.ensures x first)) refl

pub free_cell-requires-clause-kind : goal.free_cell-requires-clause-kind
free_cell-requires-clause-kind c =
    let r = c.requires in let p = r.0 in let may = (c.loop-m.invariant.freed p r.1).0 in let n = may.atoms in let l = cell_id c.args.line in let t = c.loop-m.rules.slots in let w = merged_by c.loop-m.web in let k = may.mems in let s = c.loop-m.spare in let x = cell_id c.in-Some.m in
    let h = may.can in
    let first : from (Some x) (cells_in w l Membrane) ≡ cells_in w l Membrane = c.in-Some.ensures.list in
    (first_is w c.listed.ensures l x Membrane first).1

pub free_cell-requires-clause-alone : goal.free_cell-requires-clause-alone
free_cell-requires-clause-alone c =
    let r = c.requires in let p = r.0 in let may = (c.loop-m.invariant.freed p r.1).0 in let n = may.atoms in let l = cell_id c.args.line in let t = c.loop-m.rules.slots in let w = merged_by c.loop-m.web in let k = may.mems in let s = c.loop-m.spare in let x = cell_id c.in-Some.m in
    let h = may.can in
    let first : from (Some x) (cells_in w l Membrane) ≡ cells_in w l Membrane = c.in-Some.ensures.list in
    mem_alone p l t w n k s h c.listed.ensures x first

pub free_cell-requires-clause-empty : goal.free_cell-requires-clause-empty
free_cell-requires-clause-empty c =
    let r = c.requires in let p = r.0 in let may = (c.loop-m.invariant.freed p r.1).0 in let n = may.atoms in let l = cell_id c.args.line in let t = c.loop-m.rules.slots in let w = merged_by c.loop-m.web in let k = may.mems in let s = c.loop-m.spare in let x = cell_id c.in-Some.m in
    let h = may.can in
    let first : from (Some x) (cells_in w l Membrane) ≡ cells_in w l Membrane = c.in-Some.ensures.list in
    mem_empty p l t w n k s h c.listed.ensures x first

pub remove-freed-requires : goal.remove-freed-requires
remove-freed-requires c =
    let r = c.requires in let p = r.0 in let may = (c.loop-m.invariant.freed p r.1).0 in let n = may.atoms in let l = cell_id c.args.line in let t = c.loop-m.rules.slots in let w = merged_by c.loop-m.web in let k = may.mems in let s = c.loop-m.spare in let x = cell_id c.in-Some.m in
    let h = may.can in
    let first : from (Some x) (cells_in w l Membrane) ≡ cells_in w l Membrane = c.in-Some.ensures.list in
    key_there p l t w n k s h c.listed.ensures x first c.place_of_rules-place.result c.place_of_rules-place.ensures

pub overflow_sub-count : goal.overflow_sub-count
overflow_sub-count c =
    let r = c.requires in let p = r.0 in let may = (c.loop-m.invariant.freed p r.1).0 in let n = may.atoms in let l = cell_id c.args.line in let t = c.loop-m.rules.slots in let w = merged_by c.loop-m.web in let k = may.mems in let s = c.loop-m.spare in let x = cell_id c.in-Some.m in
    let h = may.can in
    let first : from (Some x) (cells_in w l Membrane) ≡ cells_in w l Membrane = c.in-Some.ensures.list in
    let b = mem_counted p l t w n k s h c.listed.ensures x first c.place_of_rules-place.result c.place_of_rules-place.ensures c.remove-freed.result c.remove-freed.ensures.value in
    let sum = may.sum in omega (arith, b, sum)

pub overflow_sub-count-in-Some : goal.overflow_sub-count-in-Some
overflow_sub-count-in-Some c =
    let r = c.requires in let p = r.0 in let may = (c.loop-m.invariant.freed p r.1).0 in let n = may.atoms in let l = cell_id c.args.line in let t = c.loop-m.rules.slots in let w = merged_by c.loop-m.web in let k = may.mems in let s = c.loop-m.spare in let x = cell_id c.in-Some.m in
    let h = may.can in
    let first : from (Some x) (cells_in w l Membrane) ≡ cells_in w l Membrane = c.in-Some.ensures.list in
    let b = mem_counted p l t w n k s h c.listed.ensures x first c.place_of_rules-place.result c.place_of_rules-place.ensures c.remove-freed.result c.remove-freed.ensures.value in
    let e = c.len.ensures in let sum = may.sum in
    omega (arith, b, e, sum)

pub overflow_sub-count-in-Some-2 : goal.overflow_sub-count-in-Some-2
overflow_sub-count-in-Some-2 c =
    let r = c.requires in let p = r.0 in let may = (c.loop-m.invariant.freed p r.1).0 in let n = may.atoms in let l = cell_id c.args.line in let t = c.loop-m.rules.slots in let w = merged_by c.loop-m.web in let k = may.mems in let s = c.loop-m.spare in let x = cell_id c.in-Some.m in
    let h = may.can in
    let first : from (Some x) (cells_in w l Membrane) ≡ cells_in w l Membrane = c.in-Some.ensures.list in
    let b = mem_counted p l t w n k s h c.listed.ensures x first c.place_of_rules-place.result c.place_of_rules-place.ensures c.remove-freed.result c.remove-freed.ensures.value in
    let a = spare_counted p l t w n k s h c.listed.ensures x first c.place_of_rules-place.result c.place_of_rules-place.ensures c.remove-freed.result c.remove-freed.ensures.value in
    let len = c.len.ensures in let spares = c.spare-spares.ensures in let sum = may.sum in
    omega (arith, b, a, len, spares, sum)

pub overflow_sub-spare : goal.overflow_sub-spare
overflow_sub-spare c =
    let r = c.requires in let p = r.0 in let may = (c.loop-m.invariant.freed p r.1).0 in let n = may.atoms in let l = cell_id c.args.line in let t = c.loop-m.rules.slots in let w = merged_by c.loop-m.web in let k = may.mems in let s = c.loop-m.spare in let x = cell_id c.in-Some.m in
    let h = may.can in
    let first : from (Some x) (cells_in w l Membrane) ≡ cells_in w l Membrane = c.in-Some.ensures.list in
    let b = spare_counted p l t w n k s h c.listed.ensures x first c.place_of_rules-place.result c.place_of_rules-place.ensures c.remove-freed.result c.remove-freed.ensures.value in
    let e = c.spare-spares.ensures in
    omega (arith, b, e)

pub loop-m-smaller : goal.loop-m-smaller
loop-m-smaller c =
    let r = c.requires in let p = r.0 in let may = (c.loop-m.invariant.freed p r.1).0 in let n = may.atoms in let l = cell_id c.args.line in let t = c.loop-m.rules.slots in let w = merged_by c.loop-m.web in let k = may.mems in let s = c.loop-m.spare in let x = cell_id c.in-Some.m in
    let h = may.can in
    let first : from (Some x) (cells_in w l Membrane) ≡ cells_in w l Membrane = c.in-Some.ensures.list in
    let d = c.free_cell.ensures.drops l (mem_home p l t w n k s h c.listed.ensures x first) in
    mem_fewer p l t w n k s h c.listed.ensures x first c.place_of_rules-place.result c.place_of_rules-place.ensures c.remove-freed.result c.remove-freed.ensures.value
    (merged_by c.free_cell.new.web) c.remove-freed.new.self.slots c.remove-freed.ensures.slots d c.free_cell.ensures.strange

pub loop-m-preserved : goal.loop-m-preserved
loop-m-preserved c =
    let v = merged_by c.free_cell.new.web in let g = c.remove-freed.new.self.slots in
    record {
      freed = λ p at.
          let i = c.loop-m.invariant.freed p at in let n = i.0.atoms in let l = cell_id c.args.line in let t = c.loop-m.rules.slots in let w = merged_by c.loop-m.web in let k = i.0.mems in let s = c.loop-m.spare in let x = cell_id c.in-Some.m in
          let first : from (Some x) (cells_in w l Membrane) ≡ cells_in w l Membrane = c.in-Some.ensures.list in
          let d = c.free_cell.ensures.drops l (mem_home p l t w n k s i.0.can c.listed.ensures x first) in
          let q = mem_step p l t w n k s i.0.can c.listed.ensures x first c.place_of_rules-place.result c.place_of_rules-place.ensures c.remove-freed.result c.remove-freed.ensures.value v g c.remove-freed.ensures.slots d c.free_cell.ensures.strange
          _ _ (ap (λ z. k - 1 - z) c.len.ensures) (ap (λ z. s - z) c.spare-spares.ensures) in
          let b = mem_counted p l t w n k s i.0.can c.listed.ensures x first c.place_of_rules-place.result c.place_of_rules-place.ensures c.remove-freed.result c.remove-freed.ensures.value in
          let a = spare_counted p l t w n k s i.0.can c.listed.ensures x first c.place_of_rules-place.result c.place_of_rules-place.ensures c.remove-freed.result c.remove-freed.ensures.value in
          let len = c.len.ensures in let spares = c.spare-spares.ensures in let sum = i.0.sum in
          (record { atoms = n; mems = k - 1 - c.len.result; can = q.0; sum = omega (arith, b, a, len, spares, sum) }, frees_both p l c.args.rules.now.slots (merged_by c.args.web.now) t w g v i.1 q.1);
      atoms =
          (let r = c.requires in let p = r.0 in let may = (c.loop-m.invariant.freed p r.1).0 in let n = may.atoms in let l = cell_id c.args.line in let t = c.loop-m.rules.slots in let w = merged_by c.loop-m.web in let k = may.mems in let s = c.loop-m.spare in let x = cell_id c.in-Some.m in
          let h = may.can in
          let first : from (Some x) (cells_in w l Membrane) ≡ cells_in w l Membrane = c.in-Some.ensures.list in
          let d = c.free_cell.ensures.drops l (mem_home p l t w n k s h c.listed.ensures x first) in
          atoms_left p l t w n k s h c.listed.ensures x first c.place_of_rules-place.result c.place_of_rules-place.ensures c.remove-freed.result c.remove-freed.ensures.value v g c.remove-freed.ensures.slots d c.free_cell.ensures.strange ∙ c.loop-m.invariant.atoms);
    }

pub returns-clause-freed : goal.returns-clause-freed
returns-clause-freed c = c.loop-m.invariant.freed

pub returns-clause-none : goal.returns-clause-none
returns-clause-none c =
    let us = cells_in (merged_by c.loop-m.web) (cell_id c.args.line) Membrane in
    sym (subst (λ o. from (option_map cell_id o) us ≡ us) c.in_default.is c.first_plain.ensures.list)

pub returns-clause-atoms : goal.returns-clause-atoms
returns-clause-atoms c = c.loop-m.invariant.atoms

pub first_plain-requires-clause-plain : goal.first_plain-requires-clause-plain
first_plain-requires-clause-plain c =
    let r = c.requires in let p = r.0 in let may = (c.loop-m.invariant.freed p r.1).0 in
    line_plain p (cell_id c.args.line) c.loop-m.rules.slots (merged_by c.loop-m.web) may.atoms may.mems c.loop-m.spare may.can
