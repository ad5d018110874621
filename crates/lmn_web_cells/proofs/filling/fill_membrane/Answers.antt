use Rattle.std.proofs.Common.{◌≡◌, ℕ, ◌<◌, ◌∷◌, ◌++◌, List, Option, drop, length, replicate, sym, subst, ap, ◌∙◌, arith}
use Rattle.lmn_web_cells.specs.Rows.{Item, Row, items_in, with_items, blank, numbered, place_of}
use Rattle.lmn_web_cells.specs.Cells.{cell_items, blank_membrane, blank_links}
use Rattle.lmn_web_cells.specs.Fillings.{unwritten}
use Rattle.lmn_web_cells.proofs.FillLemmas.{then, written, end_none}
use Rattle.lmn_web_cells.proofs.filling.fill_membrane.Goals as goal

long : (rows : List Row) (b i : ℕ) (x : Option ℕ) → items_in rows b ≡ unwritten 15 i x → 7 < length (items_in rows b)
long rows b i x e = subst (λ (is : List Item). 7 < length is) (sym e) (omega arith)

-- the words behind the links
links_filled : (old rows : List Row) (b i : ℕ) (x : Option ℕ) → items_in old b ≡ unwritten 15 i x → rows ≡ with_items b (blank_links 7 ++ drop 7 (items_in old b)) old → rows ≡ with_items b (blank_links 7 ++ (numbered i x ∷ replicate 7 blank)) old
links_filled old rows b i x e f = f ∙ ap (λ (is : List Item). with_items b (blank_links 7 ++ drop 7 is) old) e

pub fill_links-requires-clause-words : goal.fill_links-requires-clause-words
fill_links-requires-clause-words c = long c.args.rows.now.rows (place_of c.args.at) c.requires.words.0 c.requires.words.1 c.requires.words.2

pub fill_numbers-requires-clause-words : goal.fill_numbers-requires-clause-words
fill_numbers-requires-clause-words c =
    let old = c.args.rows.now.rows in let b = place_of c.args.at in let i = c.requires.words.0 in let x = c.requires.words.1 in let words = c.requires.words.2 in let some = long old b i x words in
    (i, x, written old c.fill_links.new.rows.rows b (blank_links 7 ++ (numbered i x ∷ replicate 7 blank)) (omega (arith, some)) (links_filled old c.fill_links.new.rows.rows b i x words c.fill_links.ensures))

-- the words behind the numbers
numbers_filled : (old mid rows : List Row) (b i : ℕ) (x : Option ℕ) → items_in old b ≡ unwritten 15 i x → mid ≡ with_items b (blank_links 7 ++ drop 7 (items_in old b)) old
    → (items_in mid b ≡ blank_links 7 ++ (numbered i x ∷ replicate 7 blank) → rows ≡ with_items b (end_none i) mid) → rows ≡ with_items b (end_none i) old
numbers_filled old mid rows b i x e f g =
    let some = long old b i x e in let first = links_filled old mid b i x e f in let is = blank_links 7 ++ (numbered i x ∷ replicate 7 blank) in
    then old mid rows b is (end_none i) first (g (written old mid b is (omega (arith, some)) first))

pub fill_end-requires-clause-words : goal.fill_end-requires-clause-words
fill_end-requires-clause-words c =
    let old = c.args.rows.now.rows in let b = place_of c.args.at in let i = c.requires.words.0 in let x = c.requires.words.1 in let words = c.requires.words.2 in let some = long old b i x words in
    (i, written old c.fill_numbers.new.rows.rows b (end_none i) (omega (arith, some)) (numbers_filled old c.fill_links.new.rows.rows c.fill_numbers.new.rows.rows b i x words c.fill_links.ensures (c.fill_numbers.ensures i x)))

pub returns : goal.returns
returns c = λ i x words.
    let old = c.args.rows.now.rows in let b = place_of c.args.at in let some = long old b i x words in
    let two = numbers_filled old c.fill_links.new.rows.rows c.fill_numbers.new.rows.rows b i x words c.fill_links.ensures (c.fill_numbers.ensures i x) in
    then old c.fill_numbers.new.rows.rows c.fill_end.new.rows.rows b (end_none i) (cell_items (blank_membrane i)) two (c.fill_end.ensures i (written old c.fill_numbers.new.rows.rows b (end_none i) (omega (arith, some)) two))
