use Rattle.std.proofs.Common.{subst}
use Rattle.std.proofs.lemmas.Bool.Decides.{Decides-eqb}
use Rattle.lmn_store_heap.specs.Heap.{atoms_in}
use Rattle.lmn_instr_code.specs.Running.{HasOthers, IsInSome}
use Rattle.lmn_machine.proofs.Besides.{others_count}
use Rattle.lmn_machine.proofs.others.has_others.Goals as goal

pub returns-clause-others : goal.returns-clause-others
returns-clause-others g c = λ s a.
    (let h = g.S.LinkStore.heap c.args.store.now in
    let xs = atoms_in h (g.S.LinkStore.mem_id c.args.m) in
    let o = c.atoms_besides.ensures.others s a in (
      λ t. subst (λ n. HasOthers (IsInSome h s c.args.listed.now) n xs) ((Decides-eqb c.atoms_besides.result c.args.count).0 t) o,
      λ u. (Decides-eqb c.atoms_besides.result c.args.count).1 (others_count (IsInSome h s c.args.listed.now) c.atoms_besides.result c.args.count xs o u),
    ))
