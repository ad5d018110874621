use Rattle.std.proofs.Common.{◌≡◌, true, false, sym, ◌∙◌}
use Rattle.lmn_machine_commit.proofs.Inside.{atom_marked, atom_not_marked}
use Rattle.lmn_machine_commit.proofs.marking.mark_inside.Goals as goal

pub returns-then-has_home : goal.returns-then-has_home
returns-then-has_home g c = atom_marked c.args.mark (g.S.LinkStore.mem_id c.args.m) (g.S.LinkStore.atom_id c.args.a) (g.S.LinkStore.heap c.args.store.now) (g.S.LinkStore.heap c.set_own.new.store) (c.has_home.ensures.0 c.if-has_home.true) c.set_own.ensures

pub returns-else-has_home : goal.returns-else-has_home
returns-else-has_home g c = atom_not_marked c.args.mark (g.S.LinkStore.mem_id c.args.m) (g.S.LinkStore.atom_id c.args.a) (g.S.LinkStore.heap c.args.store.now) (λ e. let z : true ≡ false = sym (c.has_home.ensures.1 e) ∙ c.if-has_home.false in cc)
