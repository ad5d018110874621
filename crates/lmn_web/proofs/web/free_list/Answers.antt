use Rattle.std.proofs.Common.{◌≡◌, ◌<◌, Option, Some, IsSome, length, get_or, sym, ap, subst, ◌∙◌}
use Rattle.std.specs.Option.{option_map}
use Rattle.lmn_store_heap.specs.Lists.{from}
use Rattle.lmn_web_cells.specs.Cells.{HeldCell, cells_by, numbers_of, ports_of}
use Rattle.lmn_web_cells.specs.CellIds.{cell_id}
use Rattle.lmn_web_cells.specs.Runs.{link_in}
use Rattle.lmn_web_cells.specs.Numbers.{ARITY}
use Rattle.lmn_web.specs.declared.kind.CellKind.TheVariants.{Atom}
use Rattle.lmn_web.specs.Webs.{list_in}
use Rattle.lmn_web.specs.Indexes.{numbers_by}
use Rattle.lmn_web.proofs.EmptyLemmas.{Frees, frees_none, frees_all, frees_next, next_comes, fewer_left}
use Rattle.lmn_web.proofs.web.free_list.Goals as goal

pub loop-at-init : goal.loop-at-init
loop-at-init c =
    let f = cells_by c.args.cells.now in let m = cell_id c.args.m in let xs = list_in f m Atom in
    subst (Frees f f xs) (ap (link_in f m) (sym c.first_link.ensures) ∙ c.link-at.ensures) (frees_none f m 3 xs c.requires.line)

pub link-next-requires-clause-there : goal.link-next-requires-clause-there
link-next-requires-clause-there c =
    let f = cells_by c.args.cells.now in let m = cell_id c.args.m in let xs = list_in f m Atom in let g = cells_by c.loop-at.cells in let x = cell_id c.in-Some.c in
    let s : Frees f g xs (Some x) = subst (λ o. Frees f g xs (option_map cell_id o)) c.in-Some.is c.loop-at.invariant in
    (next_comes f m 3 xs c.requires.line g x s).there

pub free_atom-requires-clause-there : goal.free_atom-requires-clause-there
free_atom-requires-clause-there c =
    let f = cells_by c.args.cells.now in let m = cell_id c.args.m in let xs = list_in f m Atom in let g = cells_by c.loop-at.cells in let x = cell_id c.in-Some.c in
    let s : Frees f g xs (Some x) = subst (λ o. Frees f g xs (option_map cell_id o)) c.in-Some.is c.loop-at.invariant in
    (next_comes f m 3 xs c.requires.line g x s).there

pub free_atom-requires-clause-arity : goal.free_atom-requires-clause-arity
free_atom-requires-clause-arity c =
    let f = cells_by c.args.cells.now in let m = cell_id c.args.m in let xs = list_in f m Atom in let g = cells_by c.loop-at.cells in let x = cell_id c.in-Some.c in
    let s : Frees f g xs (Some x) = subst (λ o. Frees f g xs (option_map cell_id o)) c.in-Some.is c.loop-at.invariant in
    let next = next_comes f m 3 xs c.requires.line g x s in
    subst (λ (o : Option HeldCell). IsSome o → get_or (numbers_of o) ARITY 0 ≡ length (ports_of o)) (sym next.same) (c.requires.sized.arity x) next.there

pub free_atom-requires-clause-numbers : goal.free_atom-requires-clause-numbers
free_atom-requires-clause-numbers c =
    let f = cells_by c.args.cells.now in let m = cell_id c.args.m in let xs = list_in f m Atom in let g = cells_by c.loop-at.cells in let x = cell_id c.in-Some.c in
    let s : Frees f g xs (Some x) = subst (λ o. Frees f g xs (option_map cell_id o)) c.in-Some.is c.loop-at.invariant in
    let next = next_comes f m 3 xs c.requires.line g x s in
    subst (λ (o : Option HeldCell). IsSome o → length (numbers_of o) ≡ 6) (sym next.same) (λ t. c.requires.sized.numbers x t ∙ ap numbers_by (c.requires.atoms x next.listed)) next.there

pub loop-at-preserved : goal.loop-at-preserved
loop-at-preserved c =
    let f = cells_by c.args.cells.now in let m = cell_id c.args.m in let xs = list_in f m Atom in let g = cells_by c.loop-at.cells in let x = cell_id c.in-Some.c in let v = cells_by c.free_atom.new.cells in
    let s : Frees f g xs (Some x) = subst (λ o. Frees f g xs (option_map cell_id o)) c.in-Some.is c.loop-at.invariant in
    subst (Frees f v xs) c.link-next.ensures (frees_next f m 3 xs c.requires.line g v x c.free_atom.ensures s)

pub loop-at-smaller : goal.loop-at-smaller
loop-at-smaller c =
    let f = cells_by c.args.cells.now in let m = cell_id c.args.m in let xs = list_in f m Atom in let g = cells_by c.loop-at.cells in let x = cell_id c.in-Some.c in
    let s : Frees f g xs (Some x) = subst (λ o. Frees f g xs (option_map cell_id o)) c.in-Some.is c.loop-at.invariant in
    subst (λ o. length (from (option_map cell_id c.link-next.result) xs) < length (from (option_map cell_id o) xs)) (sym c.in-Some.is)
    (subst (λ o. length (from o xs) < length (from (Some x) xs)) c.link-next.ensures (fewer_left f m 3 xs c.requires.line g x s))

pub returns : goal.returns
returns c =
    let f = cells_by c.args.cells.now in let m = cell_id c.args.m in let xs = list_in f m Atom in let g = cells_by c.loop-at.cells in
    frees_all f m 3 xs c.requires.line g (subst (λ o. Frees f g xs (option_map cell_id o)) c.in_default.is c.loop-at.invariant)
