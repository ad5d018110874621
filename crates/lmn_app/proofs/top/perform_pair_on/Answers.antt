use Rattle.std.proofs.Common.{arith, ap, length}
use Rattle.lmn_flatten.proofs.GlossaryLemmas.{grown_length}
use Rattle.lmn_app_words.specs.Forms.{pair_of, to_pair}
use Rattle.lmn_app.specs.Pairs.{most_items_of_pair}
use Rattle.lmn_app_single.proofs.ListLemmas.{read_accepts, read_refuses}
use Rattle.lmn_app.proofs.RequestLemmas.{pair_refused, request_memory}
use Rattle.lmn_app.proofs.top.perform_pair_on.Goals as goal

pub read-requires : goal.read-requires
read-requires g c = record { room = omega (arith, ap length c.with_key-names.ensures, c.requires.short) }

pub act_on_pair-requires : goal.act_on_pair-requires
act_on_pair-requires g c = record {
  accepted = (
    c.args.text.now,
    read_accepts c.args.text.now c.with_key-names.result c.read.new.names c.in-Ok.accepted.plain c.in-Ok.accepted.plans c.requires.short c.with_key-names.ensures c.in-Ok.ensures.names c.in-Ok.ensures.reads,
    c.requires.told,
  );
  room = omega (arith, grown_length c.with_key-names.result c.read.new.names c.read.ensures.grows, ap length c.with_key-names.ensures, c.requires.short);
}

pub returns-in-Err-Refused-clause-ended : goal.returns-in-Err-Refused-clause-ended
returns-in-Err-Refused-clause-ended g c =
    let pair = pair_of c.args.words in
    let named = rw c.in-Err-Refused.field-0-is at c.in-Err-Refused.ensures.names in
    let refused = rw c.in-Err-Refused.field-0-is at c.in-Err-Refused.ensures.reads in
    let r = c.in-Err-Refused.refusal in
    let h = read_refuses (most_items_of_pair pair.kind) c.args.text.now c.with_key-names.result c.read.new.names r c.requires.short c.with_key-names.ensures named refused in
    rw c.in-Err-Refused.field-0-is (pair_refused pair r _ _ _ _ _ (record { text = c.args.text.now; is_told = c.requires.told; refused = h.0; code = h.1 }))

pub returns-clause-ended : goal.returns-clause-ended
returns-clause-ended g c = request_memory (to_pair (pair_of c.args.words)) _ _ _ _ _
