use Rattle.std.proofs.Common.{List, ℕ, subst, arith}
use Rattle.lmn_base.specs.Lists.{In}
use Rattle.lmn_solid_tables.specs.Flats.{heap_of}
use Rattle.lmn_solid_search.proofs.ClosingLemmas.{rest_there, rest_marked, closed_by}
use Rattle.lmn_solid_search.proofs.OutsideLemmas.{atom_listed}
use Rattle.lmn_solid_search.proofs.WalkingLemmas.{cleared_length}
use Rattle.lmn_solid_search.proofs.closed.is_closed.Goals as goal

pub mark_all-requires : goal.mark_all-requires
mark_all-requires c = λ a i. (
    let there = rest_there (heap_of c.args.flat.now) c.args.membrane c.args.images.now c.args.mine.now a c.requires.valid (λ b n j. atom_listed (heap_of c.args.flat.now) n b c.requires.valid j) ((c.in_ok-rest.ensures.rest a).0 (subst (λ (xs : List ℕ). In a xs) c.as_slice.ensures i)) in
    let l = c.requires.within a there in
    let e = cleared_length c.args.within.now c.clear.new.self c.clear.ensures in
    omega (arith, l, e))

pub all_stay-requires-clause-atoms : goal.all_stay-requires-clause-atoms
all_stay-requires-clause-atoms c = λ a i. rest_there (heap_of c.args.flat.now) c.args.membrane c.args.images.now c.args.mine.now a c.requires.valid (λ b n j. atom_listed (heap_of c.args.flat.now) n b c.requires.valid j) ((c.in_ok-rest.ensures.rest a).0 (subst (λ (xs : List ℕ). In a xs) c.as_slice-2.ensures i))

pub returns-clause-closed : goal.returns-clause-closed
returns-clause-closed c = closed_by (heap_of c.args.flat.now) c.args.membrane c.args.images.now c.args.mine.now c.mark_all.new.seen c.in_ok-rest.rest c.as_slice-2.result.now c.all_stay.result c.as_slice-2.ensures c.in_ok-rest.ensures.rest
    (rest_marked (heap_of c.args.flat.now) c.args.membrane c.args.images.now c.args.mine.now c.args.within.now c.clear.new.self c.mark_all.new.seen c.in_ok-rest.rest c.as_slice.result.now c.as_slice.ensures c.in_ok-rest.ensures.rest c.clear.ensures c.mark_all.ensures.marked) c.all_stay.ensures
