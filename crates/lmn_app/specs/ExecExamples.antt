-- Listings beside a small text, and a run by one.
use Rattle.std.specs.Prelude.{◌≢◌, List, ℕ, [], codes}
use Rattle.lmn_base.specs.declared.refusal.Refusal.{Refusal}
use Rattle.lmn_app_runs.specs.declared.stop.Stop.TheVariants as stop
use Rattle.lmn_app_single.specs.declared.ending.Ending.TheVariants.{Done}
use Rattle.lmn_app.specs.Executions.{IsExecuted, IsExecutedAs, IsWrongListing, ReadsCodes}
use Rattle.lmn_app.specs.TextExamples.{small_text}
use Rattle.lmn_app_single.specs.Texts.{at_start}

-- Code that takes an `a` away and makes nothing. It isn't that of the rule of `a. a :- b.`, which makes a `b`.
abbrev pub taking : List ℕ
taking = codes "rule 0\n  FINDATOM A0 M0 a/0\n  COMMIT\n  REMOVEATOM A0\n  PROCEED\n"

-- code that finds an `a` and does nothing with it
abbrev pub leaving : List ℕ
leaving = codes "rule 0\n  FINDATOM A0 M0 a/0\n  COMMIT\n  PROCEED\n"

-- Of the first a code is read beside `a. a :- b.`, which may be run whatever its rule is. Of the second none is, nor of nothing at all.
abbrev pub SmallListingIsRead : Type 0
SmallListingIsRead = ReadsCodes small_text taking × (¬ (ReadsCodes small_text leaving)) × (¬ (ReadsCodes small_text []))

-- The second is wrong where its code begins, since that isn't verified, and not since a line doesn't stand in its place. Nothing at all is
-- wrong since a line is due. The first isn't wrong.
abbrev pub SmallListingIsWrong : Type 0
SmallListingIsWrong =
    IsWrongListing small_text leaving (at_start 82) × (¬ (IsWrongListing small_text leaving (at_start 81)))
    × IsWrongListing small_text [] (at_start 81)
    × ((refusal : Refusal) → ¬ (IsWrongListing small_text taking refusal))

-- By the first a run of `a. a :- b.` ends after one commit, with nothing but the rule.
abbrev pub SmallTextIsExecuted : Type 0
SmallTextIsExecuted = IsExecutedAs Done small_text taking (codes "(a :- b).\n% irreducible after 1\n")

-- No run by it ends so without a commit.
abbrev pub SmallTextIsNotExecutedSo : Type 0
SmallTextIsNotExecutedSo = (written : List ℕ) (x : IsExecuted small_text taking stop.Irreducible written) → x.commits ≢ 0
