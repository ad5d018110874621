use Rattle.lmn_receipt_reading.proofs.SmallReadings.{all_is_ready, byte_is_behind, cut_is_window, name_is_kept, nothing_is_lost}
use Rattle.lmn_receipt_reading.proofs.laws.two_lines_are_read.Goals as goal

pub returns-clause-behind : goal.returns-clause-behind
returns-clause-behind c = byte_is_behind

pub returns-clause-window : goal.returns-clause-window
returns-clause-window c = cut_is_window

pub returns-clause-ready : goal.returns-clause-ready
returns-clause-ready c = all_is_ready

pub returns-clause-all : goal.returns-clause-all
returns-clause-all c = nothing_is_lost

pub returns-clause-name : goal.returns-clause-name
returns-clause-name c = name_is_kept
