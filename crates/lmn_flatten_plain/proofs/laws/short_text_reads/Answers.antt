use Rattle.lmn_flatten_plain.proofs.ShortTexts.{short_text_reads}
use Rattle.lmn_flatten_plain.proofs.laws.short_text_reads.Goals as goal

pub returns : goal.returns
returns c = short_text_reads
