use Rattle.std.proofs.lemmas.Result.{on_ok_weaker}
use Rattle.lmn_solid_search.specs.Pairing.{Adds, AreTwins}
use Rattle.lmn_solid_search.specs.declared.pairs.Pairs.{Pairs}
use Rattle.lmn_solid_search.proofs.PairingLemmas.{first_twins}
use Rattle.lmn_solid_search.proofs.pairs.Pairs.begin.Goals as goal

pub returns-clause-twins : goal.returns-clause-twins
returns-clause-twins c =
    let empty : Pairs = record { lefts = c.new.result; rights = c.new-2.result; forth = c.clear.new.self; back = c.clear-2.new.self } in
    on_ok_weaker {P = Adds empty c.args.left c.args.right c.add.new.self} {Q = AreTwins c.add.new.self} c.add.result
    (first_twins empty c.add.new.self c.args.self.now.forth c.args.self.now.back c.args.left c.args.right c.clear.ensures c.clear-2.ensures c.new.ensures c.new-2.ensures c.requires.left c.requires.right)
    c.add.ensures.added
