use Rattle.std.proofs.Common.{inr, refl}
use Rattle.lmn_app_words.specs.Forms.{pair_of, to_pair}
use Rattle.lmn_app.proofs.RequestLemmas.{pair_faulty, request_memory, second_too_long}
use Rattle.lmn_app.proofs.pairing.measure_second.Goals as goal

pub returns-in-Ok-Length-clause-measured : goal.returns-in-Ok-Length-clause-measured
returns-in-Ok-Length-clause-measured g c = rw c.second_bytes.ensures at (rw c.in-Ok-Length.field-0-is at c.in-Ok-Length.ensures.measured)

pub returns-in-Ok-TooLong-clause-fault : goal.returns-in-Ok-TooLong-clause-fault
returns-in-Ok-TooLong-clause-fault g c = λ took count of.
    let found = rw c.second_bytes.ensures at (rw c.in-Ok-TooLong.field-0-is at c.in-Ok-TooLong.ensures.measured) in
    second_too_long (pair_of c.args.words) _ _ _ took count _ _ refl c.too_long.ensures found of

pub returns-in-Err-Failed-clause-fault : goal.returns-in-Err-Failed-clause-fault
returns-in-Err-Failed-clause-fault g c = λ took count of.
    let rose = rw c.in-Err-Failed.field-0-is at c.in-Err-Failed.ensures.rose in
    pair_faulty (pair_of c.args.words) _ took count _ _ (inr (rose refl))

pub returns-in-Err-NoMemory-clause-fault : goal.returns-in-Err-NoMemory-clause-fault
returns-in-Err-NoMemory-clause-fault g c = λ took count of. request_memory (to_pair (pair_of c.args.words)) _ took count _ _

pub returns-in-Ok-TooLong-clause-fetched : goal.returns-in-Ok-TooLong-clause-fetched
returns-in-Ok-TooLong-clause-fetched g c = λ of. (rw c.second_bytes.ensures at c.measure.ensures.asked, of)

pub returns-in-Err-Failed-clause-fetched : goal.returns-in-Err-Failed-clause-fetched
returns-in-Err-Failed-clause-fetched g c = λ of. inr (rw c.second_bytes.ensures at c.measure.ensures.asked, of)

pub returns-in-Err-NoMemory-clause-fetched : goal.returns-in-Err-NoMemory-clause-fetched
returns-in-Err-NoMemory-clause-fetched g c = λ of. inr (rw c.second_bytes.ensures at c.measure.ensures.asked, of)
