use Rattle.std.proofs.Common.{◌∙◌, None, set, ap, arith}
use Rattle.lmn_web_cells.specs.Rows.{items_in, with_items, link, number, place_of}
use Rattle.lmn_web_cells.specs.Cells.{link_to}
use Rattle.lmn_web_cells.proofs.FillLemmas.{and_written, end_begun, end_there, some_end, end_none, end_one, end_two, end_three, end_four}
use Rattle.lmn_web_cells.proofs.filling.fill_end.Goals as goal

pub set_link-requires : goal.set_link-requires
set_link-requires c =
    let i = c.requires.words.0 in let words = c.requires.words.1 in
    let old = c.args.rows.now.rows in let b = place_of c.args.at in let there = some_end old b i words in
    (c.requires.start, omega arith, (λ e. absurd (omega (arith, e))), end_there old old b 10 (end_none i) there (end_begun old b i words) (omega arith))

pub set_number-requires : goal.set_number-requires
set_number-requires c =
    let i = c.requires.words.0 in let words = c.requires.words.1 in
    let old = c.args.rows.now.rows in let b = place_of c.args.at in let there = some_end old b i words in
    let one = and_written old old c.set_link.new.self.rows b 10 (end_none i) (link_to None) there (end_begun old b i words) (c.set_link.ensures ∙ ap (λ q. with_items b (set (items_in old b) 10 (link q)) old) c.nowhere.ensures) in
    (c.requires.start, omega arith, (λ e. absurd (omega (arith, e))), end_there old c.set_link.new.self.rows b 11 (end_one i) there one (omega arith))

pub set_number-requires-2 : goal.set_number-requires-2
set_number-requires-2 c =
    let i = c.requires.words.0 in let words = c.requires.words.1 in
    let old = c.args.rows.now.rows in let b = place_of c.args.at in let there = some_end old b i words in
    let one = and_written old old c.set_link.new.self.rows b 10 (end_none i) (link_to None) there (end_begun old b i words) (c.set_link.ensures ∙ ap (λ q. with_items b (set (items_in old b) 10 (link q)) old) c.nowhere.ensures) in
    let two = and_written old c.set_link.new.self.rows c.set_number.new.self.rows b 11 (end_one i) (number 0) there one c.set_number.ensures in
    (c.requires.start, omega arith, (λ e. absurd (omega (arith, e))), end_there old c.set_number.new.self.rows b 12 (end_two i) there two (omega arith))

pub set_number-requires-3 : goal.set_number-requires-3
set_number-requires-3 c =
    let i = c.requires.words.0 in let words = c.requires.words.1 in
    let old = c.args.rows.now.rows in let b = place_of c.args.at in let there = some_end old b i words in
    let one = and_written old old c.set_link.new.self.rows b 10 (end_none i) (link_to None) there (end_begun old b i words) (c.set_link.ensures ∙ ap (λ q. with_items b (set (items_in old b) 10 (link q)) old) c.nowhere.ensures) in
    let two = and_written old c.set_link.new.self.rows c.set_number.new.self.rows b 11 (end_one i) (number 0) there one c.set_number.ensures in
    let three = and_written old c.set_number.new.self.rows c.set_number-2.new.self.rows b 12 (end_two i) (number 0) there two c.set_number-2.ensures in
    (c.requires.start, omega arith, (λ e. absurd (omega (arith, e))), end_there old c.set_number-2.new.self.rows b 13 (end_three i) there three (omega arith))

pub set_link-requires-2 : goal.set_link-requires-2
set_link-requires-2 c =
    let i = c.requires.words.0 in let words = c.requires.words.1 in
    let old = c.args.rows.now.rows in let b = place_of c.args.at in let there = some_end old b i words in
    let one = and_written old old c.set_link.new.self.rows b 10 (end_none i) (link_to None) there (end_begun old b i words) (c.set_link.ensures ∙ ap (λ q. with_items b (set (items_in old b) 10 (link q)) old) c.nowhere.ensures) in
    let two = and_written old c.set_link.new.self.rows c.set_number.new.self.rows b 11 (end_one i) (number 0) there one c.set_number.ensures in
    let three = and_written old c.set_number.new.self.rows c.set_number-2.new.self.rows b 12 (end_two i) (number 0) there two c.set_number-2.ensures in
    let four = and_written old c.set_number-2.new.self.rows c.set_number-3.new.self.rows b 13 (end_three i) (number 0) there three c.set_number-3.ensures in
    (c.requires.start, omega arith, (λ e. absurd (omega (arith, e))), end_there old c.set_number-3.new.self.rows b 14 (end_four i) there four (omega arith))

pub returns : goal.returns
returns c = λ i words.
    let old = c.args.rows.now.rows in let b = place_of c.args.at in let there = some_end old b i words in
    let one = and_written old old c.set_link.new.self.rows b 10 (end_none i) (link_to None) there (end_begun old b i words) (c.set_link.ensures ∙ ap (λ q. with_items b (set (items_in old b) 10 (link q)) old) c.nowhere.ensures) in
    let two = and_written old c.set_link.new.self.rows c.set_number.new.self.rows b 11 (end_one i) (number 0) there one c.set_number.ensures in
    let three = and_written old c.set_number.new.self.rows c.set_number-2.new.self.rows b 12 (end_two i) (number 0) there two c.set_number-2.ensures in
    let four = and_written old c.set_number-2.new.self.rows c.set_number-3.new.self.rows b 13 (end_three i) (number 0) there three c.set_number-3.ensures in
    and_written old c.set_number-3.new.self.rows c.set_link-2.new.self.rows b 14 (end_four i) (link_to None) there four
    (c.set_link-2.ensures ∙ ap (λ q. with_items b (set (items_in c.set_number-3.new.self.rows b) 14 (link q)) c.set_number-3.new.self.rows) c.nowhere-2.ensures)
