use Rattle.std.proofs.Common.{◌≡◌, ℕ, List, Option, Some, is_some, length, refl, sym, ap, subst, ◌∙◌}
use Rattle.std.specs.Option.{option_map}
use Rattle.lmn_base.specs.Lists.{In}
use Rattle.lmn_store_heap.specs.Heap.{alter}
use Rattle.lmn_web_cells.specs.Rows.{Row}
use Rattle.lmn_web_cells.specs.Cells.{HeldCell, cells_by, numbers_of}
use Rattle.lmn_web_cells.specs.CellIds.{cell_id}
use Rattle.lmn_web_cells.specs.Numbers.{KIND}
use Rattle.lmn_web_cells.specs.Ports.{partner_in}
use Rattle.lmn_web.specs.declared.kind.CellKind.TheVariants.{Atom, Membrane}
use Rattle.lmn_web.specs.Webs.{WithoutAtoms, web_by, web_of, kind_at, cells_in, partner_at, list_in, number_in}
use Rattle.lmn_web.specs.Indexes.{bare_atoms, cell_kind, most_cells}
use Rattle.lmn_web.proofs.ListedLemmas.{atom_number, cell_of, no_atom_by}
use Rattle.lmn_web.proofs.FreeLemmas.{web_sized}
use Rattle.lmn_web.proofs.EmptyLemmas.{Emptied, emptied, closed_cells, empty_is, empty_web, empty_classed, membrane_there}
use Rattle.lmn_web.proofs.WebLemmas.{eight_by}
use Rattle.lmn_web.proofs.web.Web.free_atoms.Goals as goal

pub free_list-requires-clause-there : goal.free_list-requires-clause-there
free_list-requires-clause-there c =
    let f = cells_by c.self.inside.cells in let m = cell_id c.args.home in
    membrane_there f m (no_atom_by f (list_in f) m (subst (λ (z : List Row). kind_at (web_by z) m ≡ Membrane) (sym c.self.view_is) c.requires.membrane))

pub free_list-requires-clause-sized : goal.free_list-requires-clause-sized
free_list-requires-clause-sized c = web_sized (cells_by c.self.inside.cells) most_cells c.self.invariant.web

pub free_list-requires-clause-line : goal.free_list-requires-clause-line
free_list-requires-clause-line c =
    let f = cells_by c.self.inside.cells in let m = cell_id c.args.home in
    c.self.invariant.web.listed.line m Atom (no_atom_by f (list_in f) m (subst (λ (z : List Row). kind_at (web_by z) m ≡ Membrane) (sym c.self.view_is) c.requires.membrane))

pub free_list-requires-clause-atoms : goal.free_list-requires-clause-atoms
free_list-requires-clause-atoms c a i = atom_number (number_in (cells_by c.self.inside.cells) a KIND) (c.self.invariant.web.listed.kinds (cell_id c.args.home) a Atom i)

pub forget_atoms-requires-clause-there : goal.forget_atoms-requires-clause-there
forget_atoms-requires-clause-there c =
    let f = cells_by c.self.inside.cells in let m = cell_id c.args.home in let W = c.self.invariant.web in
    let membrane : cell_kind f m ≡ Atom → ⊥ = no_atom_by f (list_in f) m (subst (λ (z : List Row). kind_at (web_by z) m ≡ Membrane) (sym c.self.view_is) c.requires.membrane) in
    ap (λ (o : Option HeldCell). is_some o) (c.free_list.ensures.others m (λ i. (cell_of f (list_in f) W.listed m m Atom i).1 refl)) ∙ membrane_there f m membrane

pub forget_atoms-requires-clause-numbers : goal.forget_atoms-requires-clause-numbers
forget_atoms-requires-clause-numbers c =
    let f = cells_by c.self.inside.cells in let m = cell_id c.args.home in let W = c.self.invariant.web in
    let membrane : cell_kind f m ≡ Atom → ⊥ = no_atom_by f (list_in f) m (subst (λ (z : List Row). kind_at (web_by z) m ≡ Membrane) (sym c.self.view_is) c.requires.membrane) in
    ap (λ (o : Option HeldCell). length (numbers_of o)) (c.free_list.ensures.others m (λ i. (cell_of f (list_in f) W.listed m m Atom i).1 refl)) ∙ W.numbers m (membrane_there f m membrane) ∙ eight_by (number_in f m KIND) membrane

pub invariant_of-self : goal.invariant_of-self
invariant_of-self c =
    let f = cells_by c.self.inside.cells in let m = cell_id c.args.home in let W = c.self.invariant.web in let xs = list_in f m Atom in
    let membrane : cell_kind f m ≡ Atom → ⊥ = no_atom_by f (list_in f) m (subst (λ (z : List Row). kind_at (web_by z) m ≡ Membrane) (sym c.self.view_is) c.requires.membrane) in
    let g = cells_by c.free_list.new.cells in let h = cells_by c.forget_atoms.new.cells in
    let is : h ≡ alter g m (option_map bare_atoms) = c.forget_atoms.ensures in
    let e : Emptied f h m xs = subst (λ (u : ℕ → Option HeldCell). Emptied f u m xs) (sym is) (emptied f g m xs (λ i. (cell_of f (list_in f) W.listed m m Atom i).1 refl) c.free_list.ensures) in
    let closed : (a i b j : ℕ) → In a xs → partner_in f a i ≡ Some (b, j) → In b xs =
    closed_cells f most_cells W m (subst (λ (z : List Row). (a i b j : ℕ) → In a (cells_in (web_by z) m Atom) → partner_at (web_by z) a i ≡ Some (b, j) → In b (cells_in (web_by z) m Atom)) (sym c.self.view_is) c.requires.closed) in
    record {
      web = empty_web f h most_cells W m membrane e closed;
      classed = empty_classed f h most_cells W m membrane e closed c.self.invariant.classed;
    }

pub returns : goal.returns
returns c =
    let f = cells_by c.self.inside.cells in let m = cell_id c.args.home in let W = c.self.invariant.web in let xs = list_in f m Atom in
    let membrane : cell_kind f m ≡ Atom → ⊥ = no_atom_by f (list_in f) m (subst (λ (z : List Row). kind_at (web_by z) m ≡ Membrane) (sym c.self.view_is) c.requires.membrane) in
    let g = cells_by c.free_list.new.cells in let h = cells_by c.forget_atoms.new.cells in
    let is : h ≡ alter g m (option_map bare_atoms) = c.forget_atoms.ensures in
    let e : Emptied f h m xs = subst (λ (u : ℕ → Option HeldCell). Emptied f u m xs) (sym is) (emptied f g m xs (λ i. (cell_of f (list_in f) W.listed m m Atom i).1 refl) c.free_list.ensures) in
    subst (λ (z : List Row). WithoutAtoms (web_by z) (web_of h) m) c.self.view_is (empty_is f h most_cells W m membrane e)
