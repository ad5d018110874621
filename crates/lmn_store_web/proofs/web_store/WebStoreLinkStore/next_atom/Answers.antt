use Rattle.std.proofs.Common.{subst, sym, ◌≡◌, IfSome, Some, ℕ}
use Rattle.std.specs.Option.{option_map}
use Rattle.lmn_store_heap.specs.Lists.{from, after}
use Rattle.lmn_store_heap.specs.Heap.{IsInPlace, home_of, atoms_in}
use Rattle.lmn_web_cells.specs.CellIds.{cell_id}
use Rattle.lmn_store_web.specs.WebHeaps.{KeptWeb, heap_of}
use Rattle.lmn_store_web.proofs.SoundLemmas.{merged_formed}
use Rattle.lmn_store_web.proofs.CallLemmas.{has_home, next_atom_list, next_atom_home}
use Rattle.lmn_store_web.proofs.web_store.WebStoreLinkStore.next_atom.Goals as goal

pub next-requires : goal.next-requires
next-requires c = has_home _ _ _ c.self.invariant.store.stored c.listed.ensures (cell_id c.args.a) (subst (λ (z : KeptWeb). IsInPlace (heap_of z) (cell_id c.args.a)) (sym c.self.view_is) c.requires)

pub returns-clause-list : goal.returns-clause-list
returns-clause-list c =
    let a = cell_id c.args.a in
    subst (λ (z : KeptWeb). (m : ℕ) → home_of (heap_of z) a ≡ Some m → from (option_map cell_id c.next.result) (atoms_in (heap_of z) m) ≡ after a (atoms_in (heap_of z) m)) c.self.view_is
    (next_atom_list _ _ _ c.self.invariant.store.stored c.listed.ensures c.paired.ensures (merged_formed c.self.inside.web) (option_map cell_id c.next.result) a c.next.ensures.list)

pub returns-clause-home : goal.returns-clause-home
returns-clause-home c =
    let a = cell_id c.args.a in
    subst (λ (z : KeptWeb). IfSome c.next.result (λ b. home_of (heap_of z) (cell_id b) ≡ home_of (heap_of z) a)) c.self.view_is
    (next_atom_home _ _ _ c.self.invariant.store.stored c.listed.ensures c.paired.ensures (merged_formed c.self.inside.web) cell_id c.next.result a
    (subst (λ (z : KeptWeb). IsInPlace (heap_of z) a) (sym c.self.view_is) c.requires) c.next.ensures.list)
