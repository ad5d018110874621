use Rattle.std.proofs.Common.{arith, map}
use Rattle.lmn_ground.proofs.MeasureLaws.{few_left}
use Rattle.lmn_ground.proofs.measuring.items_left.Goals as goal

pub overflow_add-result : goal.overflow_add-result
overflow_add-result g c =
    let r = c.requires.rest in
    let few = few_left (g.S.LinkStore.heap c.args.store.now) c.root-root.ensures.sound c.root-root.ensures.few (g.S.LinkStore.mem_id c.args.mem) (map g.S.LinkStore.mem_id c.args.out.now) r.0 r.1 r.2 in
    let a = c.atoms_left.ensures r.0 r.1 r.2 in
    let b = c.membranes_left.ensures r.0 r.1 r.2 in
    omega (arith, few, a, b)

pub returns : goal.returns
returns g c = λ atoms ms t.
    let a = c.atoms_left.ensures atoms ms t in
    let b = c.membranes_left.ensures atoms ms t in
    omega (arith, a, b)
