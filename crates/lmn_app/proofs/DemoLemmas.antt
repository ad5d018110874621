-- What `demo` does.
use Rattle.std.proofs.Common.{refl}
use Rattle.std.specs.Fmt.{digits}
use Rattle.lmn_app_words.proofs.Examples.{folded_run_asked}
use Rattle.lmn_app.specs.DemoLaws.{DemoIsFoldedRun}
use Rattle.lmn_app_single.specs.Demos.{SomeDemo}

-- ---- a small text

-- the text of `demo 2`
pub some_demo : SomeDemo
unfolding digits
some_demo = refl

-- ---- what is done with them

-- `demo` does with its text what `run --folded` does with a file
pub demo_is_folded_run : DemoIsFoldedRun
demo_is_folded_run file named = (_, folded_run_asked file named, refl)
