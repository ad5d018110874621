use Rattle.std.proofs.Common.{refl}
use Rattle.lmn_app_words.specs.Forms.{pair_of, run_of, to_compile, to_demo, to_pair, to_run}
use Rattle.lmn_app_single.specs.Singles.{performed}
use Rattle.lmn_app_single.proofs.TaskLemmas.{run_in_range}
use Rattle.lmn_app_single.proofs.single.perform.Goals as goal

pub perform_file-requires : goal.perform_file-requires
perform_file-requires g c = record { range = run_in_range (run_of c.in-Run.words) _ refl (rw c.in-Run.is at c.requires) }

pub perform_demo-requires : goal.perform_demo-requires
perform_demo-requires g c = let range = rw c.in-Demo.is at c.requires in record { few = range.1 }

pub returns-in-Run : goal.returns-in-Run
returns-in-Run g c = λ args asks.
    performed (to_run (run_of c.in-Run.words)) (rw c.in-Run.is at asks) (record { ended = c.perform_file.ensures.ended; asked = c.perform_file.ensures.asked })

pub returns-in-Compile : goal.returns-in-Compile
returns-in-Compile g c = λ args asks.
    performed (to_compile c.in-Compile.file.now) (rw c.in-Compile.is at asks)
    (record { ended = c.perform_file-in-Compile.ensures.ended; asked = c.perform_file-in-Compile.ensures.asked })

pub returns-in-Demo : goal.returns-in-Demo
returns-in-Demo g c = λ args asks. performed (to_demo c.in-Demo.n) (rw c.in-Demo.is at asks) (c.perform_demo.ensures, refl)

pub returns-in-Pair : goal.returns-in-Pair
returns-in-Pair g c = λ args asks. (rw c.in-Pair.is at asks, refl, refl)
