use Rattle.lmn_verify_listing.proofs.OperandLemmas.{port_register, port_index, port_within}
use Rattle.lmn_verify_listing.proofs.operand.read_port.Goals as goal

pub returns-then-at-text-clause-none : goal.returns-then-at-text-clause-none
returns-then-at-text-clause-none c = λ p l m e. port_within c.args.text.now p.atom p.port c.place_of-at.result l e c.place_of-at.ensures c.if-at-text.true

pub returns-in-None-index_in-clause-none : goal.returns-in-None-index_in-clause-none
returns-in-None-index_in-clause-none c = λ p l m e. c.in-None-index_in.ensures.none p.port m (port_index c.args.text.now p.atom p.port c.place_of-at.result l e c.place_of-at.ensures)

pub returns-in-None-clause-none : goal.returns-in-None-clause-none
returns-in-None-clause-none c = λ p l m e. c.in-None.ensures.none p.atom l (port_register c.args.text.now p.atom p.port c.place_of-at.result l e c.place_of-at.ensures)
