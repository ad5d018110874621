use Rattle.lmn_verify_turns.proofs.Turns.{Grounds, turns_are_choices}
use Rattle.lmn_verify_turns.proofs.turns_are_choices.Goals as goal

pub returns : goal.returns
returns c =
    let graphs = c.heaps_are_graphs.ensures in
    let grounds : Grounds = record {
      graphs = graphs.graphs;
      preorder = graphs.preorder;
      items = graphs.items;
      alike = c.heads_are_alike.ensures;
      committed = c.flat_rules_fire.ensures;
      fires = c.verified_fires.ensures;
      lies = c.verified_heads_lie.ensures;
      flat = c.verified_is_flat.ensures;
      left = c.rests_are_left.ensures;
      solids = c.heaps_have_solids.ensures;
    } in
    turns_are_choices grounds
