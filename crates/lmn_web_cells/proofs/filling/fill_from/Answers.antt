use Rattle.std.proofs.Common.{◌+◌, sym, ap, ◌∙◌, arith}
use Rattle.lmn_web_cells.specs.Rows.{with_items, place_of}
use Rattle.lmn_web_cells.specs.Fillings.{ports_filled}
use Rattle.lmn_web_cells.proofs.FillLemmas.{with_same, then, written, some_words, ports_all}
use Rattle.lmn_web_cells.proofs.filling.fill_from.Goals as goal

pub loop-j-init : goal.loop-j-init
loop-j-init c = λ i words.
    let old = c.args.rows.now.rows in let b = place_of c.args.at in
    sym (with_same old b) ∙ ap (λ is. with_items b is old) words

pub fill_port-requires-clause-words : goal.fill_port-requires-clause-words
fill_port-requires-clause-words c =
    let old = c.args.rows.now.rows in let b = place_of c.args.at in let p = c.args.ports in let i = c.requires.words.0 in
    (i, written old c.loop-j.rows.rows b (ports_filled i p c.loop-j.j) (some_words old b i p c.args.first c.requires.words.1) (c.loop-j.invariant i c.requires.words.1))

pub loop-j-preserved : goal.loop-j-preserved
loop-j-preserved c = λ i words.
    let old = c.args.rows.now.rows in let b = place_of c.args.at in let p = c.args.ports in let j = c.loop-j.j in let so_far = c.loop-j.invariant i words in
    then old c.loop-j.rows.rows c.fill_port.new.rows.rows b (ports_filled i p j) (ports_filled i p (j + 1)) so_far (c.fill_port.ensures i (written old c.loop-j.rows.rows b (ports_filled i p j) (some_words old b i p c.args.first words) so_far))

pub returns : goal.returns
returns c = λ i words.
    let old = c.args.rows.now.rows in let b = place_of c.args.at in let p = c.args.ports in let j = c.loop-j.j in
    let end = c.loop-j-test.false in let below = c.loop-j.auto.j-end in let low = c.requires.below in
    c.loop-j.invariant i words ∙ ap (λ is. with_items b is old) (ports_all i p j (omega (arith, end, below, low)))
