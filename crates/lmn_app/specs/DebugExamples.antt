-- Sessions over a small text.
use Rattle.std.specs.Prelude.{codes}
use Rattle.lmn_app_single.specs.declared.ending.Ending.TheVariants.{Done}
use Rattle.lmn_app.specs.Debugs.{IsDebugged}
use Rattle.lmn_app.specs.TextExamples.{small_text}

-- Of two firings that are asked for there is one; one firing back its first process stands there.
abbrev pub SmallTextIsDebugged : Type 0
SmallTextIsDebugged = IsDebugged Done small_text (codes "step 2\nback 1\nshow\n") (codes "% at 1 irreducible\n% at 0\na. (a :- b).\n")

-- A step that is taken doesn't leave the number as it was.
abbrev pub SmallTextIsNotDebuggedSo : Type 0
SmallTextIsNotDebuggedSo = ¬ (IsDebugged Done small_text (codes "step 1\n") (codes "% at 0\n"))
