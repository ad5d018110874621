use Rattle.lmn_base.proofs.Lists.{weaker}
use Rattle.lmn_solid_search.proofs.ForetellingLemmas.{behind_compare, behind_differ, behind_equal, behind_kind, compare_refused}
use Rattle.lmn_solid_search.proofs.early.Early.ask.Goals as goal

pub returns-in-Kind-clause-behind : goal.returns-in-Kind-clause-behind
returns-in-Kind-clause-behind c =
    behind_kind c.args.self.now c.args.typed.now c.args.condition.now c.in-Kind.name c.in-Kind.args c.in-Kind.pos c.in-Kind.is

pub returns-in-Compare-clause-refused : goal.returns-in-Compare-clause-refused
returns-in-Compare-clause-refused c =
    weaker c.refuses.result _ _ (λ e w. compare_refused c.args.self.now c.args.typed.now c.in-Compare.op c.in-Compare.left c.in-Compare.right c.in-Compare.pos c.args.condition.now e c.in-Compare.is w) c.refuses.ensures

pub returns-in-Compare-clause-behind : goal.returns-in-Compare-clause-behind
returns-in-Compare-clause-behind c =
    behind_compare c.args.self.now c.args.typed.now c.args.condition.now c.in-Compare.op c.in-Compare.left c.in-Compare.right c.in-Compare.pos c.in-Compare.is

pub returns-in_ok-equate-in-Equal-clause-behind : goal.returns-in_ok-equate-in-Equal-clause-behind
returns-in_ok-equate-in-Equal-clause-behind c =
    behind_equal c.args.self.now c.equate.new.self c.args.typed.now c.args.condition.now c.in-Equal.left c.in-Equal.right c.in-Equal.pos c.in-Equal.is c.in_ok-equate-in-Equal.ensures

pub returns-in-Differ-clause-behind : goal.returns-in-Differ-clause-behind
returns-in-Differ-clause-behind c =
    behind_differ c.args.self.now c.args.typed.now c.args.condition.now c.in-Differ.left c.in-Differ.right c.in-Differ.pos c.in-Differ.is
