use Rattle.std.proofs.Common.{◌≡◌, ℕ, ◌+◌, ◌*◌, ◌<◌, ◌∷◌, ◌++◌, List, Option, drop, length, replicate, sym, subst, ap, ◌∙◌, arith}
use Rattle.lmn_web_cells.specs.Rows.{Item, Row, items_in, with_items, blank, numbered, place_of}
use Rattle.lmn_web_cells.specs.Cells.{cell_items, blank_cell, blank_links, blank_numbers}
use Rattle.lmn_web_cells.specs.Fillings.{ports_filled, unwritten}
use Rattle.lmn_web_cells.proofs.FillLemmas.{then, written, ports_none, behind_seven, unwritten_length}
use Rattle.lmn_web_cells.proofs.filling.fill.Goals as goal

long : (rows : List Row) (b p i : ℕ) (x : Option ℕ) → items_in rows b ≡ unwritten (10 + p * 2) i x → 7 < length (items_in rows b)
long rows b p i x e = subst (λ (is : List Item). 7 < length is) (sym e) (let n = unwritten_length (10 + p * 2) i x in omega (arith, n))

-- the words behind the links
links_filled : (old rows : List Row) (b p i : ℕ) (x : Option ℕ) → items_in old b ≡ unwritten (10 + p * 2) i x → rows ≡ with_items b (blank_links 7 ++ drop 7 (items_in old b)) old
    → rows ≡ with_items b (blank_links 7 ++ (numbered i x ∷ replicate (2 + p * 2) blank)) old
links_filled old rows b p i x e f = f ∙ ap (λ (is : List Item). with_items b (blank_links 7 ++ is) old) (ap (drop 7) e ∙ behind_seven i x (p * 2))

pub fill_links-requires-clause-words : goal.fill_links-requires-clause-words
fill_links-requires-clause-words c = long c.args.rows.now.rows (place_of c.args.at) c.args.ports c.requires.words.0 c.requires.words.1 c.requires.words.2

pub fill_numbers-requires-clause-words : goal.fill_numbers-requires-clause-words
fill_numbers-requires-clause-words c =
    let old = c.args.rows.now.rows in let b = place_of c.args.at in let p = c.args.ports in let i = c.requires.words.0 in let x = c.requires.words.1 in let words = c.requires.words.2 in
    let some = long old b p i x words in
    (i, x, written old c.fill_links.new.rows.rows b (blank_links 7 ++ (numbered i x ∷ replicate (2 + p * 2) blank)) (omega (arith, some)) (links_filled old c.fill_links.new.rows.rows b p i x words c.fill_links.ensures))

-- the words behind the numbers
numbers_filled : (old mid rows : List Row) (b p i : ℕ) (x : Option ℕ) → items_in old b ≡ unwritten (10 + p * 2) i x → mid ≡ with_items b (blank_links 7 ++ drop 7 (items_in old b)) old
    → (items_in mid b ≡ blank_links 7 ++ (numbered i x ∷ replicate (2 + p * 2) blank) → rows ≡ with_items b (blank_links 7 ++ (blank_numbers i ++ replicate (p * 2) blank)) mid) → rows ≡ with_items b (ports_filled i p 0) old
numbers_filled old mid rows b p i x e f g =
    let some = long old b p i x e in let first = links_filled old mid b p i x e f in let is = blank_links 7 ++ (numbered i x ∷ replicate (2 + p * 2) blank) in
    then old mid rows b is (blank_links 7 ++ (blank_numbers i ++ replicate (p * 2) blank)) first (g (written old mid b is (omega (arith, some)) first)) ∙ ap (λ (js : List Item). with_items b js old) (ports_none i p)

pub fill_ports-requires-clause-words : goal.fill_ports-requires-clause-words
fill_ports-requires-clause-words c =
    let old = c.args.rows.now.rows in let b = place_of c.args.at in let p = c.args.ports in let i = c.requires.words.0 in let x = c.requires.words.1 in let words = c.requires.words.2 in
    let some = long old b p i x words in
    (i, written old c.fill_numbers.new.rows.rows b (ports_filled i p 0) (omega (arith, some)) (numbers_filled old c.fill_links.new.rows.rows c.fill_numbers.new.rows.rows b p i x words c.fill_links.ensures (c.fill_numbers.ensures i x)))

pub returns : goal.returns
returns c = λ i x words.
    let old = c.args.rows.now.rows in let b = place_of c.args.at in let p = c.args.ports in let some = long old b p i x words in
    let two = numbers_filled old c.fill_links.new.rows.rows c.fill_numbers.new.rows.rows b p i x words c.fill_links.ensures (c.fill_numbers.ensures i x) in
    then old c.fill_numbers.new.rows.rows c.fill_ports.new.rows.rows b (ports_filled i p 0) (cell_items (blank_cell i p)) two (c.fill_ports.ensures i (written old c.fill_numbers.new.rows.rows b (ports_filled i p 0) (omega (arith, some)) two))
