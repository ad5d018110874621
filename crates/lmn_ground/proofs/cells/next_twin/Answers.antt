use Rattle.std.proofs.Common.{◌∷◌, subst}
use Rattle.lmn_base.specs.Lists.{In}
use Rattle.lmn_ground.proofs.DroppingLaws.{is_mem}
use Rattle.lmn_ground.proofs.TwinLaws.{content_one, either_here, steps_in}
use Rattle.lmn_ground.proofs.cells.next_twin.Goals as goal

pub first_mem-requires : goal.first_mem-requires
first_mem-requires g c =
    let m = g.S.LinkStore.mem_id c.args.mem in
    let at = g.S.LinkStore.mem_id c.args.at.mem in
    let q = c.requires.at in
    is_mem (g.S.LinkStore.heap c.args.store.now) c.root-root.ensures.sound m q.0 q.1 q.2 c.requires.mem at (either_here m at q.1 q.3)

pub returns-in-Some-clause-list : goal.returns-in-Some-clause-list
returns-in-Some-clause-list g c = λ atoms ms r.
    let s = g.S.LinkStore.heap c.args.store.now in
    let m = g.S.LinkStore.mem_id c.args.mem in
    let at = g.S.LinkStore.mem_id c.args.at.mem in
    let sound = c.root-root.ensures.sound in
    let q = c.requires.at in
    steps_in s sound m atoms ms r at (g.S.LinkStore.mem_id c.in-Some.inner) (subst (λ zs. In at (m ∷ zs)) (content_one s sound c.root-root.ensures.few m q.0 q.1 atoms ms q.2 r) q.3) c.in-Some.ensures.list
