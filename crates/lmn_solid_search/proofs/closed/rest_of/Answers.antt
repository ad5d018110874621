use Rattle.std.proofs.Common.{List, ℕ, subst}
use Rattle.lmn_base.specs.Lists.{In}
use Rattle.lmn_solid_tables.specs.Flats.{heap_of}
use Rattle.lmn_solid_search.proofs.BelowLemmas.{below_there, inner_mem}
use Rattle.lmn_solid_search.proofs.ClosingLemmas.{rest_is}
use Rattle.lmn_solid_search.proofs.OutsideLemmas.{atom_listed}
use Rattle.lmn_solid_search.proofs.closed.rest_of.Goals as goal

pub below-requires-clause-starts : goal.below-requires-clause-starts
below-requires-clause-starts c = λ m i. inner_mem (heap_of c.args.flat.now) c.requires.valid c.args.membrane m (subst (λ (xs : List ℕ). In m xs) c.membranes.ensures ((c.in_ok-starts.ensures m).0 (subst (λ (xs : List ℕ). In m xs) c.as_slice.ensures i)).0)

pub unmarked_of-requires : goal.unmarked_of-requires
unmarked_of-requires c = λ a i. c.requires.mine a (atom_listed (heap_of c.args.flat.now) c.args.membrane a c.requires.valid (subst (λ (xs : List ℕ). In a xs) c.atoms.ensures i))

pub add_atoms-requires-clause-membranes : goal.add_atoms-requires-clause-membranes
add_atoms-requires-clause-membranes c = λ m i. below_there (heap_of c.args.flat.now) c.requires.valid c.as_slice.result.now m
    (λ n j. inner_mem (heap_of c.args.flat.now) c.requires.valid c.args.membrane n (subst (λ (xs : List ℕ). In n xs) c.membranes.ensures ((c.in_ok-starts.ensures n).0 (subst (λ (xs : List ℕ). In n xs) c.as_slice.ensures j)).0))
    (c.in_ok-inner.ensures.all.right m (subst (λ (xs : List ℕ). In m xs) c.as_slice-2.ensures i))

pub returns-clause-rest : goal.returns-clause-rest
returns-clause-rest c = rest_is (heap_of c.args.flat.now) c.requires.valid c.args.membrane c.args.images.now c.args.mine.now c.below.new.seen c.membranes.result.now c.atoms.result.now c.in_ok-starts.starts c.as_slice.result.now c.in_ok-inner.inner c.as_slice-2.result.now c.in_ok-rest.rest c.add_atoms.new.list
    c.membranes.ensures c.atoms.ensures c.as_slice.ensures c.as_slice-2.ensures c.in_ok-starts.ensures c.in_ok-inner.ensures.all c.in_ok-rest.ensures c.in_ok-add_atoms.ensures
