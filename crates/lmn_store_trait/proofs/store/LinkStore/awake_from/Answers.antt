use Rattle.std.proofs.Common.{◌≡◌, ◌+◌, Some, None, sym, subst, ◌∙◌, arith}
use Rattle.lmn_store_heap.specs.Sound.{flat}
use Rattle.lmn_store_trait.proofs.NextAwake.{none_awake, none_awake_all, none_awake_on, none_awake_past}
use Rattle.lmn_store_trait.proofs.Numbers.{HasNumber, is_past, never_ends, number_mem, number_next, root_number}
use Rattle.lmn_store_trait.proofs.store.LinkStore.awake_from.Goals as goal

pub loop-passed-init : goal.loop-passed-init
loop-passed-init g c = record { number = root_number (g.Self.LinkStore.heap c.args.self.now) (g.Self.LinkStore.mem_id c.root-at.result) c.root-at.ensures.root }

pub next_membrane-requires-clause-membrane : goal.next_membrane-requires-clause-membrane
next_membrane-requires-clause-membrane g c = number_mem (g.Self.LinkStore.heap c.args.self.now) c.loop-passed.passed (g.Self.LinkStore.mem_id c.loop-passed.at) c.requires c.loop-passed.invariant.number

pub returns-in-None-clause-next : goal.returns-in-None-clause-next
returns-in-None-clause-next g c = λ f t.
    (let h = g.Self.LinkStore.heap c.args.self.now in
    let past = is_past (flat f) (c.loop-passed.passed + 1) (number_next h c.loop-passed.passed (g.Self.LinkStore.mem_id c.loop-passed.at) None c.loop-passed.invariant.number c.in-None.ensures f t) in
    none_awake_past h (flat f) c.args.start (let l = c.loop-passed-test.true in omega (arith, past, l)))

pub loop-passed-preserved : goal.loop-passed-preserved
loop-passed-preserved g c = record {
  number = number_next (g.Self.LinkStore.heap c.args.self.now) c.loop-passed.passed (g.Self.LinkStore.mem_id c.loop-passed.at) (Some (g.Self.LinkStore.mem_id c.in-Some.next)) c.loop-passed.invariant.number c.in-Some.ensures;
}

pub loop-number-init : goal.loop-number-init
loop-number-init g c =
    let h = g.Self.LinkStore.heap c.args.self.now in
    let e : c.loop-passed.passed ≡ c.args.start = (let f = c.loop-passed-test.false in let k = c.loop-passed.auto in omega arith) in
    record {
      number = subst (λ n. HasNumber h n (g.Self.LinkStore.mem_id c.loop-passed.at)) e c.loop-passed.invariant.number;
      none = λ f t. none_awake h (flat f) c.args.start;
    }

pub mem_mark-requires : goal.mem_mark-requires
mem_mark-requires g c = number_mem (g.Self.LinkStore.heap c.args.self.now) c.loop-number.number (g.Self.LinkStore.mem_id c.loop-number.at) c.requires c.loop-number.invariant.number

pub returns-then-mem_mark-eq-AWAKE-clause-next : goal.returns-then-mem_mark-eq-AWAKE-clause-next
returns-then-mem_mark-eq-AWAKE-clause-next g c = λ f t. record {
  least = (let k = c.loop-number.auto in omega arith);
  is = c.loop-number.invariant.number f t;
  awake = sym c.mem_mark.ensures ∙ c.if-mem_mark-eq-AWAKE.true;
  none = c.loop-number.invariant.none f t;
}

pub returns-in-None-next_membrane-clause-next : goal.returns-in-None-next_membrane-clause-next
returns-in-None-next_membrane-clause-next g c = λ f t.
    (let h = g.Self.LinkStore.heap c.args.self.now in
    let m = g.Self.LinkStore.mem_id c.loop-number.at in
    none_awake_all h (flat f) c.args.start (c.loop-number.number + 1)
    (none_awake_on h (flat f) c.args.start c.loop-number.number m (c.loop-number.invariant.none f t) (c.loop-number.invariant.number f t) (λ e. c.if-mem_mark-eq-AWAKE.false (c.mem_mark.ensures ∙ e)))
    (number_next h c.loop-number.number m None c.loop-number.invariant.number c.in-None-next_membrane.ensures f t))

pub loop-number-preserved : goal.loop-number-preserved
loop-number-preserved g c =
    let h = g.Self.LinkStore.heap c.args.self.now in
    let m = g.Self.LinkStore.mem_id c.loop-number.at in
    record {
      number = number_next h c.loop-number.number m (Some (g.Self.LinkStore.mem_id c.in-Some-next_membrane.next)) c.loop-number.invariant.number c.in-Some-next_membrane.ensures;
      none = λ f t. none_awake_on h (flat f) c.args.start c.loop-number.number m (c.loop-number.invariant.none f t) (c.loop-number.invariant.number f t) (λ e. c.if-mem_mark-eq-AWAKE.false (c.mem_mark.ensures ∙ e));
    }

pub returns-clause-next : goal.returns-clause-next
returns-clause-next g c = λ f t. never_ends (g.Self.LinkStore.heap c.args.self.now) c.loop-number.number (g.Self.LinkStore.mem_id c.loop-number.at) c.root-at.ensures.sound c.root-at.ensures.few
    (let f = c.loop-number-test.false in omega (arith, f)) c.loop-number.invariant.number f t
