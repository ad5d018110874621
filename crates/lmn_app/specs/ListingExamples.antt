-- The listing of a small text.
use Rattle.std.specs.Prelude.{ℕ, List, [], codes}
use Rattle.lmn_app.specs.TextExamples.{small_text}
use Rattle.lmn_app_single.specs.Writing.{IsListing}

-- the code of its one rule, which finds an `a`, takes it out and makes a `b`
abbrev pub small_listing : List ℕ
small_listing = codes "rule 0\n  FINDATOM A0 M0 a/0\n  COMMIT\n  REMOVEATOM A0\n  NEWATOM A1 M0 b/0\n  PROCEED\n"

-- This is the listing of `a. a :- b.`, and nothing at all isn't.
abbrev pub SmallTextIsListed : Type 0
SmallTextIsListed = IsListing small_text small_listing × ¬ (IsListing small_text [])
