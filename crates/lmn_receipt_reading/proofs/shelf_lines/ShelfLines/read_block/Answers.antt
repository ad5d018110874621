use Rattle.std.proofs.Common.{◌≡◌, ◌<◌, ◌∙◌, ◌+◌, ◌-◌, ◌++◌, ap, refl, subst}
use Rattle.lmn_receipt_reading.specs.Seen.{seen}
use Rattle.lmn_receipt_reading.proofs.ReadingLemmas.{reads_block}
use Rattle.lmn_receipt_reading.proofs.shelf_lines.ShelfLines.read_block.Goals as goal

pub returns-clause-on : goal.returns-clause-on
returns-clause-on g c =
    let added = c.in-Ok.ensures.ok in
    reads_block (seen g.F.Shelf.told g.F.Shelf.asked g.F.Shelf.faults c.args.self.now) _ c.in_ok-part.part c.block-most.result record {
      same = record { told = c.in_ok-part.ensures.same; asked = c.in_ok-part.ensures.asked; later = c.in_ok-part.ensures.later; name = refl };
      right = c.requires.right;
      is = c.in_ok-part.ensures.part;
      within = c.block-most.ensures.within;
      read = ap (λ n. c.args.self.now.read + n) c.len-count.ensures;
      last = ap (λ w. w.last) added;
      ahead = ap (λ w. w.ahead) added ∙ ap (λ piece. c.args.self.now.window.now.ahead ++ piece) c.as_slice.ensures;
      full = subst (λ n. c.block-most.result - n ≡ 0 → c.end_of-self.result ≡ c.args.self.now.length) c.len-count.ensures c.end_of-self.ensures.none;
      short = subst (λ n. 0 < c.block-most.result - n → c.end_of-self.result ≡ c.args.self.now.read + c.len-count.result) c.len-count.ensures c.end_of-self.ensures.some;
    }
