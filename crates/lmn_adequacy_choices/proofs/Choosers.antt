-- Turns under a chooser.
use Rattle.std.proofs.Common.{sym, subst}
use Rattle.lmn_adequacy.specs.Choice.{NextFrom}
use Rattle.lmn_adequacy_choices.specs.Laws.{TurnsAreOfChooser}
use Rattle.lmn_adequacy_choices.specs.Turns.{heap_region}
use Rattle.lmn_adequacy_choices.proofs.Numbers.{numbered_alike}

-- there are as many paths as membranes
pub turns_are_of_chooser : TurnsAreOfChooser
turns_are_of_chooser chooser n h r inner tr S' next numbered =
    record { next = subst (λ k. NextFrom (chooser n k) (heap_region h r inner) S') (sym (numbered_alike h r inner tr).many) next; numbered = numbered }
