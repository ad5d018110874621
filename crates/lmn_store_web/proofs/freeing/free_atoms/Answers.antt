use Rattle.std.proofs.Common.{◌-◌, sym, subst, arith}
use Rattle.lmn_web_cells.specs.CellIds.{cell_id}
use Rattle.lmn_web_merging.specs.Keepers.{merged_by}
use Rattle.lmn_store_web.specs.Frees.{CanFree}
use Rattle.lmn_store_web.proofs.FreeSteps.{line_kind, line_plain}
use Rattle.lmn_store_web.proofs.FreeAtoms.{line_closed, line_counted, line_free, line_frees, line_none}
use Rattle.lmn_store_web.proofs.freeing.free_atoms.Goals as goal

pub count_plain-requires-clause-membrane : goal.count_plain-requires-clause-membrane
count_plain-requires-clause-membrane c =
    let r = c.requires in
    line_kind r.0 (cell_id c.args.line) r.1 (merged_by c.args.web.now) r.3.atoms r.3.mems r.2 r.3.can

pub overflow_sub-count : goal.overflow_sub-count
overflow_sub-count c =
    let r = c.requires in let low = line_counted r.0 (cell_id c.args.line) r.1 (merged_by c.args.web.now) r.3.atoms r.3.mems r.2 r.3.can c.listed.ensures c.paired.ensures in let e = c.count_plain.ensures in let sum = r.3.sum in
    omega (arith, low, e, sum)

pub free_atoms_plain-requires-clause-membrane : goal.free_atoms_plain-requires-clause-membrane
free_atoms_plain-requires-clause-membrane c =
    let r = c.requires in
    line_kind r.0 (cell_id c.args.line) r.1 (merged_by c.args.web.now) r.3.atoms r.3.mems r.2 r.3.can

pub free_atoms_plain-requires-clause-closed : goal.free_atoms_plain-requires-clause-closed
free_atoms_plain-requires-clause-closed c =
    let r = c.requires in
    line_closed r.0 (cell_id c.args.line) r.1 (merged_by c.args.web.now) r.3.atoms r.3.mems r.2 r.3.can c.listed.ensures c.paired.ensures

pub returns-clause-freed : goal.returns-clause-freed
returns-clause-freed c p t s may =
    let l = cell_id c.args.line in let w = merged_by c.args.web.now in let v = merged_by c.free_atoms_plain.new.self in let n = may.atoms in let m = may.mems in let h = may.can in
    let low = line_counted p l t w n m s h c.listed.ensures c.paired.ensures in let e = c.count_plain.ensures in let sum = may.sum in (
      record {
        atoms = n - c.count_plain.result;
        mems = m;
        can = subst (λ k. CanFree p l t v (n - k) m s) (sym c.count_plain.ensures) (line_free p l t w n m s h c.listed.ensures c.paired.ensures v c.free_atoms_plain.ensures);
        sum = omega (arith, low, e, sum);
      },
      line_frees p l t w n m s h c.listed.ensures c.paired.ensures v c.free_atoms_plain.ensures,
    )

pub returns-clause-none : goal.returns-clause-none
returns-clause-none c =
    let r = c.requires in
    line_none r.0 (cell_id c.args.line) r.1 (merged_by c.args.web.now) r.3.atoms r.3.mems r.2 r.3.can c.listed.ensures c.paired.ensures (merged_by c.free_atoms_plain.new.self) c.free_atoms_plain.ensures

pub count_plain-requires-clause-plain : goal.count_plain-requires-clause-plain
count_plain-requires-clause-plain c =
    let r = c.requires in
    line_plain r.0 (cell_id c.args.line) r.1 (merged_by c.args.web.now) r.3.atoms r.3.mems r.2 r.3.can

pub free_atoms_plain-requires-clause-plain : goal.free_atoms_plain-requires-clause-plain
free_atoms_plain-requires-clause-plain c =
    let r = c.requires in
    line_plain r.0 (cell_id c.args.line) r.1 (merged_by c.args.web.now) r.3.atoms r.3.mems r.2 r.3.can
