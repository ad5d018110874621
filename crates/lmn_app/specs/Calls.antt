-- What a call of the program leaves behind, for the words of its command line.
use Rattle.std.specs.Prelude.{ℕ, List}
use Rattle.std.specs.declared.alloc.Global.{Global}
use Rattle.std.specs.declared.string.String.{String}
use Rattle.lmn_app_words.specs.Forms.{Asks, Pair, to_pair}
use Rattle.lmn_app_single.specs.declared.ending.Ending.{Ending}
use Rattle.lmn_app_single.specs.Endings.{Concludes}
use Rattle.lmn_app_single.specs.Seen.{ShelfSeen, SinkSeen}
use Rattle.lmn_app_single.specs.Singles.{EndsSingle}
use Rattle.lmn_app.specs.Outcomes.{PairEnded}

-- Words ended so:
--   single   they ask for something with one text, or no memory was found for them, or they aren't of the form
--   of_pair  they ask for something with a program and a second text
pub data EndedSo (args : List (String Global)) (ending : Ending) (shelf shelf_after : ShelfSeen) (out out_after : SinkSeen) : Type 0 where
  single : EndsSingle args ending shelf shelf_after out out_after → EndedSo args ending shelf shelf_after out out_after
  of_pair : (p : Pair) → Asks args (to_pair p) → PairEnded p ending shelf shelf_after out out_after → EndedSo args ending shelf shelf_after out out_after

-- A call with these words is answered by this status, and what is seen of its shelf, of `out` and of `err` before and after: the words
-- ended so, and `err` took the line of the ending. What follows of it for each status `KeepsPromises` tells.
pub record IsAnswered (args : List (String Global)) (result : ℕ) (shelf shelf_after : ShelfSeen) (out out_after err err_after : SinkSeen) : Type 0 where
  pub ending : Ending
  pub ended : EndedSo args ending shelf shelf_after out out_after
  pub concluded : Concludes ending result err.told err_after.told err.faults err_after.faults
