use Rattle.lmn_verify_turns.proofs.OneChoice.{choices_are_one}
use Rattle.lmn_verify_turns.proofs.OnHeaps.{Grounds}
use Rattle.lmn_verify_turns.proofs.choices_are_one.Goals as goal

pub returns : goal.returns
returns c =
    let graphs = c.heaps_are_graphs.ensures in
    let grounds : Grounds = record {
      heaps = c.graphs_have_heaps.ensures;
      preorder = graphs.preorder;
      items = graphs.items;
      alike = c.heads_are_alike.ensures;
      back = c.rests_are_held.ensures;
    } in
    choices_are_one grounds c.verified_is_runnable.ensures.all
