use Rattle.std.proofs.Common.{◌≡◌, ◌∙◌, sym, true, true≢false}
use Rattle.clap.specs.declared.error.kind.ErrorKind.TheVariants.{OutOfMemory}
use Rattle.lmn_app_words.specs.Forms.{texts_of}
use Rattle.lmn_app_words.proofs.FoundLemmas.{asked_found, form_taken}
use Rattle.lmn_app_words.proofs.parsing.matches_of.Goals as goal

pub prove-unreachable-requires : goal.prove-unreachable-requires
prove-unreachable-requires c =
    let taken = form_taken _ (texts_of c.args.words.now) c.in_ok-whole_line.ensures.0 c.requires in
    let is : c.kind-kind.result ≡ OutOfMemory = c.kind-kind.ensures ∙ c.in-Err.ensures.passes taken in
    let same : c.eq.result ≡ true = rw is at c.eq.ensures in
    true≢false (sym same ∙ c.if-prove.true)

pub returns-in-Ok : goal.returns-in-Ok
returns-in-Ok c = λ request asks. asked_found _ (texts_of c.args.words.now) _ c.in_ok-whole_line.ensures.0 c.in-Ok.ensures.matches request asks
