use Rattle.std.proofs.Common.{ap, refl}
use Rattle.lmn_ground.proofs.ListedLaws.{listed_none, listed_part}
use Rattle.lmn_ground.proofs.copying.copy_counted.Goals as goal

pub returns-in-Ok-clause-listed : goal.returns-in-Ok-clause-listed
returns-in-Ok-clause-listed g c = listed_part _ _ _ c.arity-arity.ensures.sound (g.S.LinkStore.atom_id c.args.root.0, c.args.root.1) c.requires.root refl c.in-Ok.ensures.ok.1

pub returns-in-Err-clause-listed : goal.returns-in-Err-clause-listed
returns-in-Err-clause-listed g c = listed_none _ _ _ (ap (λ l. l.atoms) c.forget.ensures)
