use Rattle.std.proofs.Common.{◌∷◌, [], ap, length, ◌∙◌, length-append}
use Rattle.lmn_receipt_search.proofs.QuietRegions.{items_in_first_line, items_in_text}
use Rattle.lmn_receipt_search.proofs.searching.PlainSearch.most_items.Goals as goal

pub returns-then-self : goal.returns-then-self
returns-then-self c S more quiet is =
    items_in_first_line S (quiet (c.requires.names c.if-self.true)) c.args.text.now more is (length c.args.line.now) (λ front rest none e. ap length (c.requires.line front rest none e) ∙ length-append front (10 ∷ []))

pub returns-else-self : goal.returns-else-self
returns-else-self c S more quiet is = items_in_text S c.args.text.now more is
