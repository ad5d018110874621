use Rattle.std.proofs.Common.{subst, sym}
use Rattle.lmn_ground_parts.specs.Copies.{Copied}
use Rattle.lmn_ground.proofs.SpreadLaws.{clean_part}
use Rattle.lmn_ground.proofs.CopiedLaws.{alone_after}
use Rattle.lmn_ground.proofs.copying.copy_listed.Goals as goal

pub copy_marked-copied-requires-clause-clean : goal.copy_marked-copied-requires-clause-clean
copy_marked-copied-requires-clause-clean g c = clean_part _ _ c.arity-ports.ensures.sound c.requires.root.1 c.requires.clean

pub returns-in-Ok-clause-alone : goal.returns-in-Ok-clause-alone
returns-in-Ok-clause-alone g c = alone_after (g.S.LinkStore.heap c.args.store.now) _ (g.S.LinkStore.heap c.clear.new.store) c.copy_marked-copied.result (g.S.LinkStore.atom_id c.args.root.0, c.args.root.1) (λ a. (g.S.LinkStore.atom_id a, c.args.root.1)) c.copy_marked-copied.ensures.ok c.copy_marked-copied.ensures.err c.clear.ensures

pub returns-in-Ok-clause-ok : goal.returns-in-Ok-clause-ok
returns-in-Ok-clause-ok g c = (
  subst (λ h. Copied (g.S.LinkStore.heap c.args.store.now) h (g.S.LinkStore.atom_id c.args.root.0, c.args.root.1) (g.S.LinkStore.atom_id c.in-Ok.copy, c.args.root.1)) (sym c.clear.ensures) c.in-Ok.ensures.ok,
  c.in-Ok.ensures.part,
  c.len.ensures,
)

pub copy_marked-copied-requires-clause-listed : goal.copy_marked-copied-requires-clause-listed
copy_marked-copied-requires-clause-listed g c = λ t. (c.is_listed-listed.ensures t).part
