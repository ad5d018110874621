use Rattle.std.proofs.Common.{Some, None}
use Rattle.lmn_base.proofs.Truth.{never_both}
use Rattle.lmn_machine.specs.Searching.{IsWholeApart}
use Rattle.lmn_machine.proofs.Ends.{end_with, no_end_with}
use Rattle.lmn_machine.proofs.whole.whole_end.Goals as goal

pub returns-then-is_whole-clause-end : goal.returns-then-is_whole-clause-end
returns-then-is_whole-clause-end g c =
    end_with g.S.LinkStore.atom_id (g.S.LinkStore.heap c.args.store.now) (IsWholeApart g.S.LinkStore.atom_id (g.S.LinkStore.heap c.args.store.now) c.args.atoms.now (g.S.LinkStore.mem_id c.args.m)) (g.S.LinkStore.atom_id c.args.from) c.args.port c.in-Some.root
    c.in-Some.ensures.there c.in-Some.ensures.link (c.is_whole.ensures.whole.0 c.if-is_whole.true)

pub returns-else-is_whole-clause-end : goal.returns-else-is_whole-clause-end
returns-else-is_whole-clause-end g c =
    no_end_with g.S.LinkStore.atom_id (g.S.LinkStore.heap c.args.store.now) (IsWholeApart g.S.LinkStore.atom_id (g.S.LinkStore.heap c.args.store.now) c.args.atoms.now (g.S.LinkStore.mem_id c.args.m)) (g.S.LinkStore.atom_id c.args.from) c.args.port (Some c.in-Some.root)
    c.in-Some.ensures.link (λ w. never_both c.is_whole.result (c.is_whole.ensures.whole.1 w) c.if-is_whole.false)

pub returns-in-None-clause-end : goal.returns-in-None-clause-end
returns-in-None-clause-end g c =
    no_end_with g.S.LinkStore.atom_id (g.S.LinkStore.heap c.args.store.now) (IsWholeApart g.S.LinkStore.atom_id (g.S.LinkStore.heap c.args.store.now) c.args.atoms.now (g.S.LinkStore.mem_id c.args.m)) (g.S.LinkStore.atom_id c.args.from) c.args.port None c.in-None.ensures.link tt
