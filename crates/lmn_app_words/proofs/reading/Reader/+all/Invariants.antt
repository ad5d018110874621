use Rattle.std.proofs.Common.{length}
use Rattle.lmn_app_words.proofs.reading.Reader.+all.Given as goal

abbrev pub decreases-all : goal.decreases-all
decreases-all l = length l.words.now
