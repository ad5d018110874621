use Rattle.std.proofs.lemmas.Result.{IfOk-weaker}
use Rattle.lmn_flatten.proofs.SmallParts.{argument_link, argument_made, atom_made, list_made, context_made, membrane_made}
use Rattle.lmn_flatten.proofs.scope.Scope.argument.Goals as goal

pub returns-in-Link : goal.returns-in-Link
returns-in-Link c = IfOk-weaker c.written.result _ _
    (λ occ found r keys way g h absent. argument_link r keys way c.args.pos c.args.term.now c.in-Link.token occ c.written.new.self c.in-Link.is (found r keys g h)) c.written.ensures

pub returns-in-Atom : goal.returns-in-Atom
returns-in-Atom c = IfOk-weaker c.unwritten.result _ _
    (λ occ found r keys way g h absent. argument_made r keys way c.args.pos c.args.term.now occ c.unwritten.new.self (atom_made r way c.args.pos c.args.term.now _ c.in-Atom.is) (found r keys way h absent))
    c.unwritten.ensures

pub returns-in-List : goal.returns-in-List
returns-in-List c = IfOk-weaker c.unwritten-in-List.result _ _
    (λ occ found r keys way g h absent. argument_made r keys way c.args.pos c.args.term.now occ c.unwritten-in-List.new.self (list_made r way c.args.pos c.args.term.now _ _ c.in-List.is) (found r keys way h absent))
    c.unwritten-in-List.ensures

pub returns-in-Context : goal.returns-in-Context
returns-in-Context c = IfOk-weaker c.unwritten-in-Context.result _ _
    (λ occ found r keys way g h absent. argument_made r keys way c.args.pos c.args.term.now occ c.unwritten-in-Context.new.self (context_made r way c.args.pos c.args.term.now _ c.in-Context.is) (found r keys way h absent))
    c.unwritten-in-Context.ensures

pub returns-in-Membrane : goal.returns-in-Membrane
returns-in-Membrane c = IfOk-weaker c.unwritten-in-Membrane.result _ _
    (λ occ found r keys way g h absent. argument_made r keys way c.args.pos c.args.term.now occ c.unwritten-in-Membrane.new.self (membrane_made r way c.args.pos c.args.term.now _ c.in-Membrane.is) (found r keys way h absent))
    c.unwritten-in-Membrane.ensures
