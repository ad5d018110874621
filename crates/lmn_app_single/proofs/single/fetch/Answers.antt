use Rattle.std.proofs.Common.{refl}
use Rattle.lmn_app_single.specs.Texts.{text_bytes}
use Rattle.lmn_app_single.proofs.OutcomeLemmas.{long_told, under_told}
use Rattle.lmn_app_single.proofs.single.fetch.Goals as goal

pub returns-in-Ok-Whole-clause-text : goal.returns-in-Ok-Whole-clause-text
returns-in-Ok-Whole-clause-text g c =
    let found = rw c.in-Ok-Whole.field-0-is at c.in-Ok-Whole.ensures.fetched in
    (found.0, under_told (g.F.Shelf.told c.args.shelf.now) c.args.name.now _ found.1)

pub returns-in-Ok-TooLong-clause-fault : goal.returns-in-Ok-TooLong-clause-fault
returns-in-Ok-TooLong-clause-fault g c =
    let found = rw c.in-Ok-TooLong.field-0-is at c.in-Ok-TooLong.ensures.fetched in
    (refl, long_told _ (g.F.Shelf.told c.args.shelf.now) c.args.name.now text_bytes found (λ bytes l. l))

pub returns-in-Err-Failed-clause-fault : goal.returns-in-Err-Failed-clause-fault
returns-in-Err-Failed-clause-fault g c =
    let rose = rw c.in-Err-Failed.field-0-is at c.in-Err-Failed.ensures.rose in
    rose refl
