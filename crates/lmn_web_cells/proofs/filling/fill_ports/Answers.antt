use Rattle.std.proofs.Common.{sym, ap, ◌∙◌}
use Rattle.lmn_web_cells.specs.Rows.{with_items, place_of}
use Rattle.lmn_web_cells.specs.Cells.{cell_items, blank_cell}
use Rattle.lmn_web_cells.specs.Fillings.{ports_filled}
use Rattle.lmn_web_cells.proofs.FillLemmas.{with_same, then, written, some_words, ports_all}
use Rattle.lmn_web_cells.proofs.filling.fill_ports.Goals as goal

pub returns-then-ports-eq0 : goal.returns-then-ports-eq0
returns-then-ports-eq0 c = λ i words.
    let old = c.args.rows.now.rows in let b = place_of c.args.at in let p = c.args.ports in
    sym (with_same old b) ∙ ap (λ is. with_items b is old) (words ∙ ports_all i p 0 (sym c.if-ports-eq0.true))

pub returns-then-ports-eq1 : goal.returns-then-ports-eq1
returns-then-ports-eq1 c = λ i words.
    let old = c.args.rows.now.rows in let b = place_of c.args.at in let p = c.args.ports in let there = some_words old b i p 0 words in
    let one = c.fill_port.ensures i words in
    one ∙ ap (λ is. with_items b is old) (ports_all i p 1 (sym c.if-ports-eq1.true))

pub fill_port-requires-2-clause-words : goal.fill_port-requires-2-clause-words
fill_port-requires-2-clause-words c =
    let i = c.requires.words.0 in let words = c.requires.words.1 in
    let old = c.args.rows.now.rows in let b = place_of c.args.at in let p = c.args.ports in let there = some_words old b i p 0 words in
    let one = c.fill_port.ensures i words in
    (i, written old c.fill_port.new.rows.rows b (ports_filled i p 1) there one)

pub returns-then-ports-eq2 : goal.returns-then-ports-eq2
returns-then-ports-eq2 c = λ i words.
    let old = c.args.rows.now.rows in let b = place_of c.args.at in let p = c.args.ports in let there = some_words old b i p 0 words in
    let one = c.fill_port.ensures i words in
    let two = then old c.fill_port.new.rows.rows c.fill_port-2.new.rows.rows b (ports_filled i p 1) (ports_filled i p 2) one (c.fill_port-2.ensures i (written old c.fill_port.new.rows.rows b (ports_filled i p 1) there one)) in
    two ∙ ap (λ is. with_items b is old) (ports_all i p 2 (sym c.if-ports-eq2.true))

pub fill_port-requires-3-clause-words : goal.fill_port-requires-3-clause-words
fill_port-requires-3-clause-words c =
    let i = c.requires.words.0 in let words = c.requires.words.1 in
    let old = c.args.rows.now.rows in let b = place_of c.args.at in let p = c.args.ports in let there = some_words old b i p 0 words in
    let one = c.fill_port.ensures i words in
    let two = then old c.fill_port.new.rows.rows c.fill_port-2.new.rows.rows b (ports_filled i p 1) (ports_filled i p 2) one (c.fill_port-2.ensures i (written old c.fill_port.new.rows.rows b (ports_filled i p 1) there one)) in
    (i, written old c.fill_port-2.new.rows.rows b (ports_filled i p 2) there two)

pub fill_from-requires-clause-words : goal.fill_from-requires-clause-words
fill_from-requires-clause-words c =
    let i = c.requires.words.0 in let words = c.requires.words.1 in
    let old = c.args.rows.now.rows in let b = place_of c.args.at in let p = c.args.ports in let there = some_words old b i p 0 words in
    let one = c.fill_port.ensures i words in
    let two = then old c.fill_port.new.rows.rows c.fill_port-2.new.rows.rows b (ports_filled i p 1) (ports_filled i p 2) one (c.fill_port-2.ensures i (written old c.fill_port.new.rows.rows b (ports_filled i p 1) there one)) in
    let three = then old c.fill_port-2.new.rows.rows c.fill_port-3.new.rows.rows b (ports_filled i p 2) (ports_filled i p 3) two (c.fill_port-3.ensures i (written old c.fill_port-2.new.rows.rows b (ports_filled i p 2) there two)) in
    (i, written old c.fill_port-3.new.rows.rows b (ports_filled i p 3) there three)

pub returns : goal.returns
returns c = λ i words.
    let old = c.args.rows.now.rows in let b = place_of c.args.at in let p = c.args.ports in let there = some_words old b i p 0 words in
    let one = c.fill_port.ensures i words in
    let two = then old c.fill_port.new.rows.rows c.fill_port-2.new.rows.rows b (ports_filled i p 1) (ports_filled i p 2) one (c.fill_port-2.ensures i (written old c.fill_port.new.rows.rows b (ports_filled i p 1) there one)) in
    let three = then old c.fill_port-2.new.rows.rows c.fill_port-3.new.rows.rows b (ports_filled i p 2) (ports_filled i p 3) two (c.fill_port-3.ensures i (written old c.fill_port-2.new.rows.rows b (ports_filled i p 2) there two)) in
    then old c.fill_port-3.new.rows.rows c.fill_from.new.rows.rows b (ports_filled i p 3) (cell_items (blank_cell i p)) three (c.fill_from.ensures i (written old c.fill_port-3.new.rows.rows b (ports_filled i p 3) there three))
