use Rattle.std.proofs.Common.{Some, None}
use Rattle.lmn_base.proofs.Truth.{never_both}
use Rattle.lmn_guards.specs.declared.plan.TypeKind.TheVariants as kind
use Rattle.lmn_solid_heads.specs.Guards.{IsOfKindAt}
use Rattle.lmn_machine.specs.Searching.{IsLone}
use Rattle.lmn_machine.proofs.Ends.{end_with, no_end_with}
use Rattle.lmn_machine.proofs.parts.integer_end.Goals as goal

pub returns-then-is_lone_integer : goal.returns-then-is_lone_integer
returns-then-is_lone_integer g c =
    end_with g.S.LinkStore.atom_id (g.S.LinkStore.heap c.args.store.now) (λ q. IsLone g.S.LinkStore.atom_id (g.S.LinkStore.heap c.args.store.now) c.args.atoms.now (g.S.LinkStore.mem_id c.args.m) q.0 × IsOfKindAt (g.S.LinkStore.heap c.args.store.now) kind.Int q) (g.S.LinkStore.atom_id c.args.from) c.args.port c.in-Some.root
    c.in-Some.ensures.there c.in-Some.ensures.link (c.is_lone_integer.ensures.0 c.if-is_lone_integer.true)

pub returns-else-is_lone_integer : goal.returns-else-is_lone_integer
returns-else-is_lone_integer g c =
    no_end_with g.S.LinkStore.atom_id (g.S.LinkStore.heap c.args.store.now) (λ q. IsLone g.S.LinkStore.atom_id (g.S.LinkStore.heap c.args.store.now) c.args.atoms.now (g.S.LinkStore.mem_id c.args.m) q.0 × IsOfKindAt (g.S.LinkStore.heap c.args.store.now) kind.Int q) (g.S.LinkStore.atom_id c.args.from) c.args.port (Some c.in-Some.root)
    c.in-Some.ensures.link (λ w. never_both c.is_lone_integer.result (c.is_lone_integer.ensures.1 w) c.if-is_lone_integer.false)

pub returns-in-None : goal.returns-in-None
returns-in-None g c =
    no_end_with g.S.LinkStore.atom_id (g.S.LinkStore.heap c.args.store.now) (λ q. IsLone g.S.LinkStore.atom_id (g.S.LinkStore.heap c.args.store.now) c.args.atoms.now (g.S.LinkStore.mem_id c.args.m) q.0 × IsOfKindAt (g.S.LinkStore.heap c.args.store.now) kind.Int q) (g.S.LinkStore.atom_id c.args.from) c.args.port None c.in-None.ensures.link tt
