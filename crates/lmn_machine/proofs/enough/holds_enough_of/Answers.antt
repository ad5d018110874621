use Rattle.std.proofs.Common.{length}
use Rattle.lmn_base.proofs.Truth.{not_false}
use Rattle.lmn_machine.proofs.Sufficing.{too_few}
use Rattle.lmn_machine.proofs.enough.holds_enough_of.Goals as goal

pub returns : goal.returns
returns g c = λ e k s p u. too_few (g.S.LinkStore.heap c.args.store.now) k s c.args.code.now c.args.at (length c.args.code.now) c.wanted-count.result (g.S.LinkStore.mem_id c.args.m) c.args.want c.wanted-count.ensures
    (c.holds_fewer-2.ensures (not_false c.holds_fewer-2.result e)) p u
