use Rattle.std.proofs.Common.{ap, map}
use Rattle.std.specs.Option.{option_map}
use Rattle.lmn_ground.specs.Rests.{IsLeft}
use Rattle.lmn_ground.proofs.RestLaws.{first_is_in, less_left_of, next_is_in, rest_found, rest_is}
use Rattle.lmn_ground.proofs.GatherRestLaws.{listed_all, listed_more, listed_none}
use Rattle.lmn_ground.proofs.cells.gather_membranes.Goals as goal

pub loop-next-init : goal.loop-next-init
loop-next-init g c =
    let s = g.S.LinkStore.heap c.args.store.now in
    record {
      listed = λ atoms all t. listed_none g.S.LinkStore.mem_id c.args.membranes.now (option_map g.S.LinkStore.mem_id c.first_membrane-next.result) all c.requires.empty (c.first_membrane-next.ensures.list atoms all t);
      at = first_is_in g.S.LinkStore.mem_id (IsLeft s (g.S.LinkStore.mem_id c.args.mem) (map g.S.LinkStore.mem_id c.args.out.now)) c.first_membrane-next.result c.first_membrane-next.ensures.list;
      there = c.first_membrane-next.ensures.there;
    }

pub loop-next-smaller : goal.loop-next-smaller
loop-next-smaller g c =
    let s = g.S.LinkStore.heap c.args.store.now in
    let m = g.S.LinkStore.mem_id c.args.mem in
    let out = map g.S.LinkStore.mem_id c.args.out.now in
    let r = c.requires.rest in
    less_left_of (rest_found s m out) r.1 (option_map g.S.LinkStore.mem_id c.loop-next.next) (option_map g.S.LinkStore.mem_id c.next_membrane-next.result) (g.S.LinkStore.mem_id c.in-Some.m)
    (rest_is s c.root-root.ensures.sound c.root-root.ensures.few m out r.0 r.1 r.2) (ap (option_map g.S.LinkStore.mem_id) c.in-Some.is) (c.next_membrane-next.ensures.list r.0 r.1 r.2)

pub loop-next-preserved : goal.loop-next-preserved
loop-next-preserved g c =
    let s = g.S.LinkStore.heap c.args.store.now in
    let m = g.S.LinkStore.mem_id c.args.mem in
    let out = map g.S.LinkStore.mem_id c.args.out.now in
    record {
      listed = λ atoms all t. listed_more g.S.LinkStore.mem_id c.loop-next.membranes _ c.in-Some.m (option_map g.S.LinkStore.mem_id c.loop-next.next) (option_map g.S.LinkStore.mem_id c.next_membrane-next.result) all
          c.in_ok-push.ensures.ok (ap (option_map g.S.LinkStore.mem_id) c.in-Some.is) (c.loop-next.invariant.listed atoms all t) (c.next_membrane-next.ensures.list atoms all t);
      at = next_is_in g.S.LinkStore.mem_id (IsLeft s m out) (g.S.LinkStore.mem_id c.in-Some.m) c.next_membrane-next.result c.next_membrane-next.ensures.list;
      there = c.next_membrane-next.ensures.there;
    }

pub returns : goal.returns
returns g c = record {
  all = λ atoms all t.
      listed_all g.S.LinkStore.mem_id c.loop-next.membranes (option_map g.S.LinkStore.mem_id c.loop-next.next) all (ap (option_map g.S.LinkStore.mem_id) c.in_default.is) (c.loop-next.invariant.listed atoms all t);
}
