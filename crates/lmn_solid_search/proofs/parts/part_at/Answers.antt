use Rattle.std.proofs.Common.{List, ℕ, refl, sym, subst}
use Rattle.lmn_base.specs.Lists.{In}
use Rattle.lmn_solid_tables.specs.Flats.{heap_of, port_by}
use Rattle.lmn_solid_search.specs.Walking.{IsGathered, StandsApart}
use Rattle.lmn_solid_search.proofs.WalkingLemmas.{reached_atom}
use Rattle.lmn_solid_search.proofs.parts.part_at.Goals as goal

pub stands_apart-requires-clause-atoms : goal.stands_apart-requires-clause-atoms
stands_apart-requires-clause-atoms c = λ a i. reached_atom (heap_of c.args.flat.now) (port_by c.args.entry) a c.requires.valid c.requires.entry (c.in_ok-atoms.ensures.all.reached a (subst (λ (xs : List ℕ). In a xs) c.as_slice.ensures i))

pub returns-clause-some : goal.returns-clause-some
returns-clause-some c = (
  subst (λ (xs : List ℕ). StandsApart (heap_of c.args.flat.now) (port_by c.args.entry) c.args.home xs) c.as_slice-2.ensures
      ((c.stands_apart.ensures c.reach.new.seen (port_by c.args.entry) (subst (λ (xs : List ℕ). IsGathered (heap_of c.args.flat.now) (port_by c.args.entry) c.reach.new.seen xs) (sym c.as_slice.ensures) c.in_ok-atoms.ensures.all)).0 c.if-not-stands_apart.false),
  refl,
  λ a. (c.in_ok-atoms.ensures.all.reached a, c.in_ok-atoms.ensures.all.all a),
)
