use Rattle.std.proofs.Common.{◌≡◌, ℕ, List, Option, Some, None, sym, ap, subst, ◌∙◌}
use Rattle.std.specs.Prelude.{slice_index_or}
use Rattle.lmn_base.specs.Lists.{In}
use Rattle.lmn_web_cells.specs.Rows.{Row}
use Rattle.lmn_web_cells.specs.CellIds.{cell_id}
use Rattle.lmn_web.specs.declared.kind.CellKind.TheVariants.{Atom, Membrane}
use Rattle.lmn_web.specs.Webs.{web_by, kind_at, partner_at, cells_in, WithoutAtoms}
use Rattle.lmn_web_merging.specs.Keepers.{keeper, seen, merged_by}
use Rattle.lmn_web_merging.proofs.Seen.{seen_membrane, keeper_kind, seen_cells, atom_partners}
use Rattle.lmn_web_merging.proofs.Freeing.{atoms_freed_kept, seen_atoms_freed}
use Rattle.lmn_web_merging.proofs.merging.MergingWeb.free_atoms.Goals as goal

pub keeper_of-keeper-requires-clause-membrane : goal.keeper_of-keeper-requires-clause-membrane
keeper_of-keeper-requires-clause-membrane c =
    (seen_membrane (web_by c.self.inside.web) (cell_id c.args.home) (subst (λ (z : List Row). kind_at (merged_by z) (cell_id c.args.home) ≡ Membrane) (sym c.self.view_is) c.requires.membrane)).0

pub keeper_of-keeper-requires-clause-ports : goal.keeper_of-keeper-requires-clause-ports
keeper_of-keeper-requires-clause-ports c =
    c.self.invariant.ports (cell_id c.args.home) (seen_membrane (web_by c.self.inside.web) (cell_id c.args.home) (subst (λ (z : List Row). kind_at (merged_by z) (cell_id c.args.home) ≡ Membrane) (sym c.self.view_is) c.requires.membrane)).0

pub free_atoms-requires-clause-membrane : goal.free_atoms-requires-clause-membrane
free_atoms-requires-clause-membrane c =
    let w = web_by c.self.inside.web in let m = cell_id c.args.home in let a = c.self.invariant in let r = c.paired.ensures in let l = c.listed.ensures in
    let t = seen_membrane w m (subst (λ (z : List Row). kind_at (merged_by z) m ≡ Membrane) (sym c.self.view_is) c.requires.membrane) in
    let q : cell_id c.keeper_of-keeper.result ≡ keeper w m = c.keeper_of-keeper.ensures in
    ap (kind_at w) q ∙ keeper_kind w r a m t.0

pub free_atoms-requires-clause-closed : goal.free_atoms-requires-clause-closed
free_atoms-requires-clause-closed c x i b j ix p =
    let w = web_by c.self.inside.web in let m = cell_id c.args.home in let a = c.self.invariant in let r = c.paired.ensures in let l = c.listed.ensures in
    let t = seen_membrane w m (subst (λ (z : List Row). kind_at (merged_by z) m ≡ Membrane) (sym c.self.view_is) c.requires.membrane) in
    let q : cell_id c.keeper_of-keeper.result ≡ keeper w m = c.keeper_of-keeper.ensures in
    let same : cells_in (seen w) m Atom ≡ cells_in w (cell_id c.keeper_of-keeper.result) Atom = seen_cells w r a m Atom ∙ ap (λ z. cells_in w z Atom) (sym q) in
    let k = (l.homes (cell_id c.keeper_of-keeper.result) x Atom ix).1 in
    let closed = subst (λ (z : List Row). (a i b j : ℕ) → In a (cells_in (merged_by z) m Atom) → partner_at (merged_by z) a i ≡ Some (b, j) → In b (cells_in (merged_by z) m Atom)) (sym c.self.view_is) c.requires.closed in
    subst (λ us. In b us) same (closed x i b j (subst (λ us. In x us) (sym same) ix) (ap (λ (ps : List (Option (ℕ × ℕ))). slice_index_or ps i None) (atom_partners w x k) ∙ p))

pub invariant_of-self : goal.invariant_of-self
invariant_of-self c =
    let w = web_by c.self.inside.web in let m = cell_id c.args.home in let a = c.self.invariant in let r = c.paired.ensures in let l = c.listed.ensures in
    let t = seen_membrane w m (subst (λ (z : List Row). kind_at (merged_by z) m ≡ Membrane) (sym c.self.view_is) c.requires.membrane) in
    let q : cell_id c.keeper_of-keeper.result ≡ keeper w m = c.keeper_of-keeper.ensures in
    let s : WithoutAtoms w (web_by c.free_atoms.new.self) (keeper w m) = subst (λ z. WithoutAtoms w (web_by c.free_atoms.new.self) z) q c.free_atoms.ensures in
    atoms_freed_kept w (web_by c.free_atoms.new.self) l r a m t.0 s t.1

pub returns : goal.returns
returns c =
    let w = web_by c.self.inside.web in let m = cell_id c.args.home in let a = c.self.invariant in let r = c.paired.ensures in let l = c.listed.ensures in
    let t = seen_membrane w m (subst (λ (z : List Row). kind_at (merged_by z) m ≡ Membrane) (sym c.self.view_is) c.requires.membrane) in
    let q : cell_id c.keeper_of-keeper.result ≡ keeper w m = c.keeper_of-keeper.ensures in
    let s : WithoutAtoms w (web_by c.free_atoms.new.self) (keeper w m) = subst (λ z. WithoutAtoms w (web_by c.free_atoms.new.self) z) q c.free_atoms.ensures in
    subst (λ (z : List Row). WithoutAtoms (merged_by z) (merged_by c.free_atoms.new.self) m) c.self.view_is (seen_atoms_freed w (web_by c.free_atoms.new.self) l r a m t.0 s)
