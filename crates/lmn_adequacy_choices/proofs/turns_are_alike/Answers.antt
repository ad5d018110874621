use Rattle.lmn_adequacy_turns.specs.Turning.{renumbered_reading}
use Rattle.lmn_adequacy_choices.proofs.turns_are_alike.Goals as goal

pub returns : goal.returns
returns c table plans codes have h r inner w tab from =
    let ends = c.nothing_embeds.ensures table plans codes have h r inner w in
    record {
      none = λ none. (ends.embeds.0 none, ends.irreducible.0 none);
      embeds = λ code s chosen. let u = c.choices_alike.ensures table plans codes have h r inner w from code s chosen in
          record { path = u.path; number = chosen.place; positions = u.positions; embeds = u.chosen.embeds };
      some = λ code s chosen. c.choices_alike.ensures table plans codes have h r inner w from code s chosen;
      next = λ code s chosen h' runs. c.choices_agree.ensures table plans codes have h r inner w tab from code s chosen h' runs;
      items = λ code s chosen h' runs n k l. (c.costs_are_items.ensures table plans codes have h r inner w from code s chosen h' runs (renumbered_reading r n.number) n.forest n.again.read n.again.tree k).0 l;
      told = λ code s chosen k l. c.costs_are_told.ensures table plans codes have h r inner w tab from code s chosen k l;
    }
