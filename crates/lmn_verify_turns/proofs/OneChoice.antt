-- What codes choose on a solid is one.
use Rattle.std.proofs.Common.{◌≡◌, ◌+◌, List, arith}
use Rattle.lmn_base.specs.declared.solid.Solid.{Solid}
use Rattle.lmn_instr_code.specs.declared.instr.Code.{Code}
use Rattle.lmn_schedule_strategy.specs.Turns.{AreRunnable}
use Rattle.lmn_schedule_strategy.specs.declared.turning.Turn.TheVariants.{NoMemory}
use Rattle.lmn_verify_laws.specs.Laws.{VerifiedAreRunnable}
use Rattle.lmn_verify_renaming.proofs.Alike.{one_solid_is_renamed}
use Rattle.lmn_verify_renaming.proofs.Solids.{renamed_forest}
use Rattle.lmn_verify_solids.specs.Turns.{Choice, NoneSucceeds, SomeSucceeds}
use Rattle.lmn_verify_turns.specs.Laws.{ChoicesAreOne}
use Rattle.lmn_verify_turns.proofs.Carried.{tree_there}
use Rattle.lmn_verify_turns.proofs.Chosen.{chosen_there, cleared, nothing_there, one_left}
use Rattle.lmn_verify_turns.proofs.OnHeaps.{Grounds, chooses, chosen_succeeds, none_on_heap, on_heap, some_on_heap}
use Rattle.lmn_verify_turns.proofs.SameBut.{reads}

module _ (on : Grounds) (codes : List Code) (S : Solid) where
  one_number : AreRunnable codes → (c d : Choice codes S) → c.left ≡ d.left
  one_number run c d =
      let a = on_heap on codes S c in
      let b = on_heap on codes S d in
      let q = one_solid_is_renamed a.heap b.heap S a.valid b.valid a.unmarked b.unmarked a.solid b.solid in
      let f = a.valid.tree.0 in
      let tree = a.valid.tree.1 in
      let there = renamed_forest q.0.mems.to f in
      let tree_on = tree_there q.0 a.heap b.heap (reads q.0 a.heap b.heap q.1) f tree in
      let size = c.left + d.left in
      one_left codes run b.heap there tree_on size NoMemory NoMemory (cleared b.heap) (cleared b.heap)
      (chosen_there q.0 a.heap b.heap q.1 codes size f tree (cleared a.heap) (chooses on codes S c a f tree size (omega arith))) (chooses on codes S d b there tree_on size (omega arith))

  none_and_some : NoneSucceeds codes S → SomeSucceeds codes S → ⊥
  none_and_some c d =
      let a = none_on_heap on codes S c in
      let b = some_on_heap on codes S d in
      let q = one_solid_is_renamed a.heap b.heap S a.valid b.valid a.unmarked b.unmarked a.solid b.solid in
      let f = a.valid.tree.0 in
      let tree = a.valid.tree.1 in
      b.some (renamed_forest q.0.mems.to f) (tree_there q.0 a.heap b.heap (reads q.0 a.heap b.heap q.1) f tree) (nothing_there q.0 a.heap b.heap q.1 codes f (a.none f tree))

-- What verified codes choose on a solid would leave one number of items, and where none succeeds nothing is chosen.
pub choices_are_one : Grounds → VerifiedAreRunnable → ChoicesAreOne
choices_are_one on runnable codes verified S = record {
  one_left = one_number on codes S (runnable codes verified);
  no_choice = λ n c. none_and_some on codes S n (chosen_succeeds codes S c);
  no_success = none_and_some on codes S;
}
