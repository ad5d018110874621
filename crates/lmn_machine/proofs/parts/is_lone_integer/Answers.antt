use Rattle.lmn_base.proofs.Truth.{never_both}
use Rattle.lmn_machine.proofs.Lone.{integer_unary}
use Rattle.lmn_machine.proofs.parts.is_lone_integer.Goals as goal

pub returns-then-is_integer : goal.returns-then-is_integer
returns-then-is_integer g c =
    let z = c.is_integer.ensures.0 c.if-is_integer.true in (
      λ t. (let p = c.stands_apart.ensures.0 t in (
        record {
          unary = integer_unary g.S.LinkStore.atom_id g.S.LinkStore.mem_id (g.S.LinkStore.heap c.args.store.now) (g.S.LinkStore.atom_id c.args.a, 0) z.0 z.1;
          home = p.0;
          apart = p.1;
        },
        z,
      )),
      λ p. c.stands_apart.ensures.1 (p.0.home, p.0.apart),
    )

pub returns-else-is_integer : goal.returns-else-is_integer
returns-else-is_integer g c = (λ t. absurd (cc), λ p. absurd (never_both c.is_integer.result (c.is_integer.ensures.1 p.1) c.if-is_integer.false))
