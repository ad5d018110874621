use Rattle.std.proofs.Common.{◌≡◌, true, false, sym, ◌∙◌}
use Rattle.lmn_machine_commit.proofs.Inside.{part_marked, part_not_marked, has_clean}
use Rattle.lmn_machine_commit.proofs.marking.paint_inside.Goals as goal

pub paint-requires-clause-clean : goal.paint-requires-clause-clean
paint-requires-clause-clean g c = has_clean (g.S.LinkStore.heap c.args.store.now) c.requires.marked

pub returns-then-has_home : goal.returns-then-has_home
returns-then-has_home g c = part_marked c.args.mark (g.S.LinkStore.mem_id c.args.m) (g.S.LinkStore.atom_id c.args.part.0, c.args.part.1) (g.S.LinkStore.heap c.args.store.now) (g.S.LinkStore.heap c.paint.new.store) (c.has_home.ensures.0 c.if-has_home.true) c.paint.ensures.0 c.paint.ensures.1 c.paint.ensures.2

pub returns-else-has_home : goal.returns-else-has_home
returns-else-has_home g c = part_not_marked c.args.mark (g.S.LinkStore.mem_id c.args.m) (g.S.LinkStore.atom_id c.args.part.0, c.args.part.1) (g.S.LinkStore.heap c.args.store.now) (λ e. let z : true ≡ false = sym (c.has_home.ensures.1 e) ∙ c.if-has_home.false in cc)
