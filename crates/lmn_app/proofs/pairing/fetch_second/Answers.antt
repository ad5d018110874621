use Rattle.std.proofs.Common.{inr, refl, ◌≡◌}
use Rattle.lmn_app_words.specs.Forms.{pair_of, to_pair}
use Rattle.lmn_app_single.specs.Writing.{told_under}
use Rattle.lmn_app_single.proofs.OutcomeLemmas.{told_here, under_told}
use Rattle.lmn_app.proofs.RequestLemmas.{pair_faulty, request_memory, second_too_long}
use Rattle.lmn_app.proofs.pairing.fetch_second.Goals as goal

pub returns-in-Ok-Whole-clause-told : goal.returns-in-Ok-Whole-clause-told
returns-in-Ok-Whole-clause-told g c =
    let found = rw c.in-Ok-Whole.field-0-is at c.in-Ok-Whole.ensures.fetched in
    let pair = pair_of c.args.words in
    told_here (λ text. text ≡ c.in-Ok-Whole.text) (told_under (g.F.Shelf.told c.args.shelf.now) pair.second) _ (under_told (g.F.Shelf.told c.args.shelf.now) pair.second _ found.1) refl

pub returns-in-Ok-TooLong-clause-fault : goal.returns-in-Ok-TooLong-clause-fault
returns-in-Ok-TooLong-clause-fault g c = λ took count of.
    let found = rw c.second_bytes.ensures at (rw c.in-Ok-TooLong.field-0-is at c.in-Ok-TooLong.ensures.fetched) in
    second_too_long (pair_of c.args.words) _ _ _ took count _ _ refl c.too_long.ensures found of

pub returns-in-Err-Failed-clause-fault : goal.returns-in-Err-Failed-clause-fault
returns-in-Err-Failed-clause-fault g c = λ took count of.
    let rose = rw c.in-Err-Failed.field-0-is at c.in-Err-Failed.ensures.rose in
    pair_faulty (pair_of c.args.words) _ took count _ _ (inr (rose refl))

pub returns-in-Err-NoMemory-clause-fault : goal.returns-in-Err-NoMemory-clause-fault
returns-in-Err-NoMemory-clause-fault g c = λ took count of. request_memory (to_pair (pair_of c.args.words)) _ took count _ _

pub returns-in-Ok-TooLong-clause-fetched : goal.returns-in-Ok-TooLong-clause-fetched
returns-in-Ok-TooLong-clause-fetched g c = λ of. (rw c.second_bytes.ensures at c.fetch.ensures.asked, of)

pub returns-in-Err-Failed-clause-fetched : goal.returns-in-Err-Failed-clause-fetched
returns-in-Err-Failed-clause-fetched g c = λ of. inr (rw c.second_bytes.ensures at c.fetch.ensures.asked, of)

pub returns-in-Err-NoMemory-clause-fetched : goal.returns-in-Err-NoMemory-clause-fetched
returns-in-Err-NoMemory-clause-fetched g c = λ of. inr (rw c.second_bytes.ensures at c.fetch.ensures.asked, of)
