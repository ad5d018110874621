use Rattle.lmn_verify_turns.proofs.OneNext.{Grounds, one_next}
use Rattle.lmn_verify_turns.proofs.OnHeaps as holding
use Rattle.lmn_verify_turns.proofs.one_next.Goals as goal

pub returns : goal.returns
returns c =
    let graphs = c.heaps_are_graphs.ensures in
    let on_heaps : holding.Grounds = record {
      heaps = c.graphs_have_heaps.ensures;
      preorder = graphs.preorder;
      items = graphs.items;
      alike = c.heads_are_alike.ensures;
      back = c.rests_are_held.ensures;
    } in
    let grounds : Grounds = record {
      heaps = on_heaps;
      firings = c.commits_are_firings.ensures;
      members = c.taken_by_members.ensures;
      flat = c.verified_is_flat.ensures;
      left = c.rests_are_left.ensures;
      renamed = c.firings_are_renamed.ensures;
      order = c.verified_is_in_order.ensures;
      lies = c.verified_heads_lie.ensures;
      rests = c.verified_rests.ensures.held;
      rule = c.verified_is_rule.ensures;
      sets = c.verified_sets_flat.ensures;
      integers = c.integers_are_one.ensures;
      solid = c.one_solid.ensures;
    } in
    one_next grounds
