-- Cells that are made, and that are freed.
use Rattle.std.proofs.Common.{◌≡◌, ◌≢◌, ◌==◌, ℕ, ◌+◌, ◌*◌, ◌<◌, ◌^◌, List, [], ◌∷◌, ◌++◌, length, Option, Some, None, IsSome, refl, sym, subst, ap, ◌∙◌, inl, inr, arith, zero, suc, get_or, replicate}
use Rattle.std.proofs.lemmas.Bool.{cases_eq}
use lib.ListN.{length-replicate}
use Rattle.lmn_web_cells.specs.Rows.{Item, Row, halves, items_in, with_items}
use Rattle.lmn_web_cells.specs.Fillings.{unwritten}
use Rattle.lmn_web_rows.specs.Seen.{HaveSameWords, IsMade, IsGone}
use Rattle.lmn_web_cells.specs.Cells.{HeldCell, cell_items, cell_by, cells_by, in_half, index_alone, blank_cell, blank_membrane, IsNewIndex, no_port, IsShaped, IsLaid, AreLaid, IsLinkWord, link_of, link_to, numbers_of, ports_of, with_link}
use Rattle.lmn_store_heap.specs.Heap.{alter}
use Rattle.lmn_web_cells.proofs.CellWords.{cell_back, word_count, atom_count, membrane_count}
use Rattle.lmn_web_cells.proofs.FillLemmas.{unwritten_length}
use Rattle.lmn_web_cells.proofs.CellRows.{Changed, found, number_word_is, items_same, items_away, words_there, link_changes, last_link_changes}
use Rattle.lmn_base.proofs.Numbers.{not_equal}
use Rattle.lmn_base.proofs.Truth.{if_no}
use Rattle.lmn_store_heap.proofs.Listing.{alter_at, alter_away}

small_none : (i k : ℕ) (more : List ℕ) → k < 2 → get_or (index_alone i ++ more) k 0 < 256
small_none i zero more low = omega arith
small_none i (suc zero) more low = omega arith
small_none i (suc (suc k)) more low = absurd (omega (arith, low))

narrow_none : (n k : ℕ) → (get_or (replicate n no_port) k no_port).port < 256
narrow_none zero k = omega arith
narrow_none (suc n) zero = omega arith
narrow_none (suc n) (suc k) = narrow_none n k

blank_shaped : (i p : ℕ) → p < 256 → IsShaped (blank_cell i p)
blank_shaped i p few = record { links = refl; numbers = inl (refl, refl); small = λ k low. small_none i k [] low; class = omega arith; few = subst (λ n. n < 256) (sym (length-replicate p no_port)) few; narrow = narrow_none p }

membrane_shaped : (i : ℕ) → IsShaped (blank_membrane i)
membrane_shaped i = record { links = refl; numbers = inr (refl, refl); small = λ k low. small_none i k (0 ∷ 0 ∷ []) low; class = omega arith; few = omega arith; narrow = narrow_none 1 }

-- the rows after a call, as cells
pub record Cells (old new : List Row) (b : ℕ) (c : Option HeldCell) : Type 0 where
  pub laid : AreLaid new
  pub cells : cells_by new ≡ alter (cells_by old) b (λ _. c)

-- the cells after the words at one place changed
changed : (old new : List Row) (b : ℕ) (is : List Item) (o : Option HeldCell) → AreLaid old → IsLaid is → cell_by is ≡ o → items_in new b ≡ is → ((j : ℕ) → j ≢ b → items_in new j ≡ items_in old j) → Cells old new b o
changed old new b is o laid good cell here away =
    let cells' : (j : ℕ) → cells_by new j ≡ alter (cells_by old) b (λ _. o) j = λ j. elim (cases_eq j b) [
      | inl s ↦ ap (λ m. cells_by new m) s ∙ ap cell_by here ∙ cell ∙ sym (ap (λ m. alter (cells_by old) b (λ _. o) m) s ∙ alter_at (cells_by old) b (λ _. o))
      | inr d ↦ ap cell_by (away j d) ∙ sym (alter_away (cells_by old) b (λ _. o) j d)
    ] in
    record {
      laid = λ j. elim (cases_eq j b) [ inl s ↦ subst IsLaid (sym (ap (λ m. items_in new m) s ∙ here)) good | inr d ↦ subst IsLaid (sym (away j d)) (laid j) ];
      cells = λ t j. cells' j t;
    }

-- the cells after one was made, which was written whole
made_cell : (old mid new : List Row) (b words : ℕ) (c : HeldCell) → AreLaid old → IsShaped c → 0 < words → IsMade old mid b words → new ≡ with_items b (cell_items c) mid → Cells old new b (Some c)
made_cell old mid new b words c laid shaped some m e =
    let is = cell_items c in let n = unwritten_length words m.number m.beside in let has : 0 < length (items_in mid b) = subst (λ (js : List Item). 0 < length js) (sym m.made) (omega (arith, n, some)) in
    changed old new b is (Some c) laid (inr (c, shaped, refl)) (cell_back c shaped) (ap (λ (z : List Row). items_in z b) e ∙ items_same mid b is has)
    (λ j d. ap (λ (z : List Row). items_in z j) e ∙ items_away mid b is j d ∙ m.others j d)

-- that of an atom
pub made : (old mid new : List Row) (b p : ℕ) → AreLaid old → p < 256 → (m : IsMade old mid b (10 + p * 2)) → ((i : ℕ) (x : Option ℕ) → items_in mid b ≡ unwritten (10 + p * 2) i x → new ≡ with_items b (cell_items (blank_cell i p)) mid)
    → Cells old new b (Some (blank_cell m.number p))
made old mid new b p laid few m e = made_cell old mid new b (10 + p * 2) (blank_cell m.number p) laid (blank_shaped m.number p few) (omega arith) m (e m.number m.beside m.made)

-- and of a membrane
pub made_membrane : (old mid new : List Row) (b : ℕ) → AreLaid old → (m : IsMade old mid b 15) → ((i : ℕ) (x : Option ℕ) → items_in mid b ≡ unwritten 15 i x → new ≡ with_items b (cell_items (blank_membrane i)) mid)
    → Cells old new b (Some (blank_membrane m.number))
made_membrane old mid new b laid m e = made_cell old mid new b 15 (blank_membrane m.number) laid (membrane_shaped m.number) (omega arith) m (e m.number m.beside m.made)

-- its index is new
pub new_index : (old mid : List Row) (b words : ℕ) → AreLaid old → (m : IsMade old mid b words) → IsNewIndex (cells_by old) m.number
new_index old mid b words laid m = λ a there e. m.fresh a (_, number_word_is old a laid there ∙ ap (λ (i : ℕ). halves i (in_half (get_or (numbers_of (cells_by old a)) 0 0) (get_or (numbers_of (cells_by old a)) 1 0) (get_or (numbers_of (cells_by old a)) 3 0))) e)

-- the cells after one was freed
pub freed : (old new : List Row) (b : ℕ) → AreLaid old → IsGone old new b → Cells old new b None
freed old new b laid g = changed old new b [] None laid (inl refl) refl g.none g.others

-- rows with the words that they had
pub laid_same : (old new : List Row) → AreLaid old → HaveSameWords old new → AreLaid new
laid_same old new laid h = λ j. subst IsLaid (sym (h j)) (laid j)

pub cells_same : (old new : List Row) → HaveSameWords old new → cells_by new ≡ cells_by old
cells_same old new h = λ t j. cell_by (h j t)

-- a cell has few ports
pub few_ports : (rows : List Row) (b p : ℕ) → AreLaid rows → IsSome (cells_by rows b) → length (ports_of (cells_by rows b)) ≡ p → p < 256
few_ports rows b p laid there e =
    let f = found rows b laid there in let few = f.shaped.few in let same : length f.cell.ports ≡ p = sym (ap (λ (o : Option HeldCell). length (ports_of o)) f.is) ∙ e in omega (arith, few, same)

-- how many words the row of a cell has
pub count_words : (rows : List Row) (b p : ℕ) → AreLaid rows → IsSome (cells_by rows b) → length (numbers_of (cells_by rows b)) ≡ 6 → length (ports_of (cells_by rows b)) ≡ p → length (items_in rows b) ≡ 10 + p * 2
count_words rows b p laid there six e =
    let f = found rows b laid there in let same : length f.cell.ports ≡ p = sym (ap (λ (o : Option HeldCell). length (ports_of o)) f.is) ∙ e in
    let n : length f.cell.numbers ≡ 6 = sym (ap (λ (o : Option HeldCell). length (numbers_of o)) f.is) ∙ six in let w = word_count f.cell f.shaped in let z = atom_count f.cell n in let e : length (cell_items f.cell) ≡ 10 + p * 2 = omega (arith, w, z, same) in
    ap (λ (is : List Item). length is) f.words ∙ e

-- and that of a membrane
pub count_membrane : (rows : List Row) (b : ℕ) → AreLaid rows → IsSome (cells_by rows b) → length (numbers_of (cells_by rows b)) ≡ 8 → length (items_in rows b) ≡ 15
count_membrane rows b laid there eight =
    let f = found rows b laid there in let n : length f.cell.numbers ≡ 8 = sym (ap (λ (o : Option HeldCell). length (numbers_of o)) f.is) ∙ eight in let w = word_count f.cell f.shaped in
    let e : length (cell_items f.cell) ≡ 15 = elim f.shaped.numbers [
      | inl six ↦ (let e = six.0 in absurd (omega (arith, e, n)))
      | inr e ↦ (let one = e.1 in let z = membrane_count f.cell n in omega (arith, w, z, one))
    ] in
    ap (λ (is : List Item). length is) f.words ∙ e

-- The link in a word

-- one of the first seven is its own number
pub link_itself : (word : ℕ) → word < 7 → link_of word ≡ word
link_itself word low = if_no (word == 14) 7 word (not_equal word 14 (λ (e : word ≡ 14). absurd (omega (arith, e, low))))

-- a word of a link is one of the first
pub word_small : (c : Option HeldCell) (word : ℕ) → IsLinkWord c word → word < 2 ^ 32
word_small c word (inl low) = omega (arith, low)
word_small c word (inr last) = let e = last.0 in omega (arith, e)

-- and not that of the index
pub word_apart : (c : Option HeldCell) (word : ℕ) → IsLinkWord c word → word ≢ 7
word_apart c word (inl low) = λ e. absurd (omega (arith, low, e))
word_apart c word (inr last) = let l = last.0 in λ e. absurd (omega (arith, l, e))

-- it is a word of the row
pub word_there : (rows : List Row) (b word : ℕ) → AreLaid rows → IsSome (cells_by rows b) → IsLinkWord (cells_by rows b) word → word < length (items_in rows b)
word_there rows b word laid there (inl low) = let some = words_there rows b laid there in omega (arith, low, some)
word_there rows b word laid there (inr last) = let all = count_membrane rows b laid there last.1 in let e = last.0 in omega (arith, all, e)

-- what a row is after the link in it was written
pub word_changes : (rows : List Row) (b word : ℕ) (x : Option ℕ) (laid : AreLaid rows) (there : IsSome (cells_by rows b)) → IsLinkWord (cells_by rows b) word → Changed rows b word (link_to x) (with_link (link_of word) x)
word_changes rows b word x laid there (inl low) = subst (λ (k : ℕ). Changed rows b word (link_to x) (with_link k x)) (sym (link_itself word low)) (link_changes rows b word x laid there low)
word_changes rows b word x laid there (inr last) = subst (λ (k : ℕ). Changed rows b k (link_to x) (with_link (link_of k) x)) (sym last.0) (last_link_changes rows b x laid there last.1)
