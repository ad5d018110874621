use Rattle.std.proofs.Common.{length, refl, subst, sym, ◌≤◌, ◌≡◌}
use Rattle.lmn_app_words.specs.Forms.{pair_of, to_pair}
use Rattle.lmn_app_single.specs.Texts.{text_bytes}
use Rattle.lmn_app_single.specs.Writing.{IsToldAnd, told_under}
use Rattle.lmn_app_single.proofs.OutcomeLemmas.{told_here}
use Rattle.lmn_app.proofs.RequestLemmas.{fetched_from, fetched_unread, pair_unread, request_texts, since_earlier}
use Rattle.lmn_app.proofs.top.perform_pair.Goals as goal

pub perform_pair_on-requires-clause-short : goal.perform_pair_on-requires-clause-short
perform_pair_on-requires-clause-short g c = subst (λ text. length text ≤ text_bytes) (sym c.as_slice.ensures) c.in-Ok.ensures.text.0

pub perform_pair_on-requires-clause-told : goal.perform_pair_on-requires-clause-told
perform_pair_on-requires-clause-told g c =
    let pair = pair_of c.args.words in
    let told = told_under (g.F.Shelf.told c.args.shelf.now) pair.file in
    subst (λ texts. IsToldAnd (told_under texts pair.file) (λ found. found ≡ c.as_slice.result.now)) (sym c.fetch.ensures.same)
    (told_here (λ found. found ≡ c.as_slice.result.now) told c.as_slice.result.now (rw c.as_slice.ensures c.in-Ok.ensures.text.1) refl)

pub returns-in-Ok-clause-asked : goal.returns-in-Ok-clause-asked
returns-in-Ok-clause-asked g c =
    fetched_from (pair_of c.args.words) c.perform_pair_on.result (g.F.Shelf.told c.args.shelf.now) (g.F.Shelf.told c.fetch.new.shelf) (g.F.Shelf.asked c.args.shelf.now) (g.F.Shelf.asked c.fetch.new.shelf) _
    c.fetch.ensures.same c.fetch.ensures.asked c.perform_pair_on.ensures.asked

pub returns-in-Ok-clause-ended : goal.returns-in-Ok-clause-ended
returns-in-Ok-clause-ended g c =
    since_earlier (pair_of c.args.words) _ _ _ _ _ _ _ _ _ c.fetch.ensures.later
    (request_texts (to_pair (pair_of c.args.words)) _ _ _ _ _ _ _ _ _ c.fetch.ensures.same c.perform_pair_on.ensures.ended)

pub returns-in-Err-clause-asked : goal.returns-in-Err-clause-asked
returns-in-Err-clause-asked g c = fetched_unread (pair_of c.args.words) _ (g.F.Shelf.told c.args.shelf.now) _ _ _ _ _ c.in-Err.ensures.fault c.fetch.ensures.asked

pub returns-in-Err-clause-ended : goal.returns-in-Err-clause-ended
returns-in-Err-clause-ended g c = pair_unread (pair_of c.args.words) _ _ _ _ _ _ c.in-Err.ensures.fault
