-- No text is too large for the commands that load its process with the size of a session.
use Rattle.std.specs.Prelude.{ℕ, List, None, Some}
use Rattle.lmn_base.specs.declared.refusal.Refusal.{Refusal}
use Rattle.lmn_app.specs.Debugs.{session_size}
use Rattle.lmn_app_single.specs.Texts.{IsAccepted, IsRefusal}

-- an accepted program has few enough items for a session, and so for a run of codes
abbrev pub AcceptedIsSmall : Type 0
AcceptedIsSmall = (program : List ℕ) → IsAccepted None program → IsAccepted (Some session_size) program

-- so what refuses it there is what refuses it where nothing is loaded, and never its size
abbrev pub NoneIsLarge : Type 0
NoneIsLarge = (program : List ℕ) (refusal : Refusal) → IsRefusal (Some session_size) program refusal → IsRefusal None program refusal
