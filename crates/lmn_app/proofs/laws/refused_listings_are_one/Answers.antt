use Rattle.lmn_app.proofs.OneRefusedListing.{Grounds, read_is_not_refused, neither_read_nor_refused, refused_in_one_way}
use Rattle.lmn_app.proofs.laws.refused_listings_are_one.Goals as goal

pub returns : goal.returns
returns c =
    let listed = c.listed_codes_are_one.ensures in
    let grounds : Grounds = record {
      listed = c.accepted_can_be_listed.ensures;
      codes = listed.one;
      names = listed.names;
      stand = c.listed_lines_stand.ensures;
      line = c.wrong_line_is_one.ensures;
    } in
    record {
      neither = neither_read_nor_refused c.no_listing_is_neither.ensures c.accepted_names_are_few.ensures c.accepted_texts_can_be_loaded.ensures.named;
      apart = read_is_not_refused grounds;
      refusal = refused_in_one_way grounds;
    }
