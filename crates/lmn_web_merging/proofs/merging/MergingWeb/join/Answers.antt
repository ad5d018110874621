use Rattle.std.proofs.Common.{ℕ, ◌<◌, List, Option, sym, ap, subst, ◌∙◌, length}
use Rattle.lmn_web_cells.specs.Rows.{Row}
use Rattle.lmn_web_cells.specs.CellIds.{cell_id}
use Rattle.lmn_web.specs.Webs.{web_by, arity_at, joined}
use Rattle.lmn_web_merging.specs.Keepers.{seen, merged_by}
use Rattle.lmn_web_merging.specs.Moves.{AreKept}
use Rattle.lmn_web_merging.proofs.Seen.{atom_by_port, atom_partners}
use Rattle.lmn_web_merging.proofs.Writing.{joined_kept, seen_joined}
use Rattle.lmn_web_merging.proofs.merging.MergingWeb.join.Goals as goal

pub join-requires-clause-a : goal.join-requires-clause-a
join-requires-clause-a c =
    let w = web_by c.self.inside.web in let x = cell_id c.args.a in let y = cell_id c.args.b in
    let lx = subst (λ (z : List Row). c.args.i < arity_at (merged_by z) x) (sym c.self.view_is) c.requires.a in
    let ly = subst (λ (z : List Row). c.args.j < arity_at (merged_by z) y) (sym c.self.view_is) c.requires.b in
    let kx = atom_by_port w x c.args.i lx in let ky = atom_by_port w y c.args.j ly in
    subst (λ (ps : List (Option (ℕ × ℕ))). c.args.i < length ps) (atom_partners w x kx) lx

pub join-requires-clause-b : goal.join-requires-clause-b
join-requires-clause-b c =
    let w = web_by c.self.inside.web in let x = cell_id c.args.a in let y = cell_id c.args.b in
    let lx = subst (λ (z : List Row). c.args.i < arity_at (merged_by z) x) (sym c.self.view_is) c.requires.a in
    let ly = subst (λ (z : List Row). c.args.j < arity_at (merged_by z) y) (sym c.self.view_is) c.requires.b in
    let kx = atom_by_port w x c.args.i lx in let ky = atom_by_port w y c.args.j ly in
    subst (λ (ps : List (Option (ℕ × ℕ))). c.args.j < length ps) (atom_partners w y ky) ly

pub invariant_of-self : goal.invariant_of-self
invariant_of-self c =
    let w = web_by c.self.inside.web in let x = cell_id c.args.a in let y = cell_id c.args.b in
    let lx = subst (λ (z : List Row). c.args.i < arity_at (merged_by z) x) (sym c.self.view_is) c.requires.a in
    let ly = subst (λ (z : List Row). c.args.j < arity_at (merged_by z) y) (sym c.self.view_is) c.requires.b in
    let kx = atom_by_port w x c.args.i lx in let ky = atom_by_port w y c.args.j ly in
    subst AreKept (sym c.join.ensures) (joined_kept w c.paired.ensures c.self.invariant x c.args.i y c.args.j kx ky)

pub returns : goal.returns
returns c =
    let w = web_by c.self.inside.web in let x = cell_id c.args.a in let y = cell_id c.args.b in
    let lx = subst (λ (z : List Row). c.args.i < arity_at (merged_by z) x) (sym c.self.view_is) c.requires.a in
    let ly = subst (λ (z : List Row). c.args.j < arity_at (merged_by z) y) (sym c.self.view_is) c.requires.b in
    let kx = atom_by_port w x c.args.i lx in let ky = atom_by_port w y c.args.j ly in
    ap seen c.join.ensures ∙ seen_joined w c.paired.ensures c.self.invariant x c.args.i y c.args.j kx ky ∙ ap (λ (z : List Row). joined (merged_by z) x c.args.i y c.args.j) c.self.view_is
