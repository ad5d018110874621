use Rattle.lmn_verify_compiled.proofs.Listable.{accepted_can_be_listed}
use Rattle.lmn_verify_compiled.proofs.accepted_can_be_listed.Goals as goal

pub returns : goal.returns
returns c =
    let loading = c.accepted_texts_can_be_loaded.ensures in
    accepted_can_be_listed c.accepted_texts.ensures loading.loaded loading.named c.accepted_heads.ensures c.plains_are_printable.ensures
