use Rattle.std.proofs.Common.{◌+◌, ◌*◌, ◌∙◌, set, ap, arith}
use Rattle.lmn_web_cells.specs.Rows.{items_in, with_items, link, place_of}
use Rattle.lmn_web_cells.proofs.FillLemmas.{ports_begin, ports_there, first_word, second_there, second_word, ports_are}
use Rattle.lmn_web_cells.proofs.filling.fill_port.Goals as goal

pub set_link-requires : goal.set_link-requires
set_link-requires c =
    let old = c.args.rows.now.rows in let b = place_of c.args.at in let p = c.args.ports in let j = c.args.j in let low = c.requires.below in let few = c.requires.few in let i = c.requires.words.0 in
    (c.requires.start, omega (arith, low, few), (λ e. absurd (omega (arith, e))), ports_there old old b i p j (ports_begin old b i p j low c.requires.words.1) low)

pub set_number-requires : goal.set_number-requires
set_number-requires c =
    let old = c.args.rows.now.rows in let b = place_of c.args.at in let p = c.args.ports in let j = c.args.j in let low = c.requires.below in let few = c.requires.few in let i = c.requires.words.0 in
    (c.requires.start, omega (arith, low, few), (λ e. absurd (omega (arith, e))), second_there old c.set_link.new.self.rows b i p j (first_word old old c.set_link.new.self.rows b i p j (ports_begin old b i p j low c.requires.words.1) low (c.set_link.ensures ∙ ap (λ q. with_items b (set (items_in old b) (10 + j * 2) (link q)) old) c.nowhere.ensures)) low)

pub returns : goal.returns
returns c = λ i words.
    let old = c.args.rows.now.rows in let b = place_of c.args.at in let p = c.args.ports in let j = c.args.j in let low = c.requires.below in
    ports_are old c.set_number.new.self.rows b i p (j + 1)
    (second_word old c.set_link.new.self.rows c.set_number.new.self.rows b i p j (first_word old old c.set_link.new.self.rows b i p j (ports_begin old b i p j low words) low (c.set_link.ensures ∙ ap (λ q. with_items b (set (items_in old b) (10 + j * 2) (link q)) old) c.nowhere.ensures)) low c.set_number.ensures)
