-- Rows that are cells: one of them is read, and changed.
use Rattle.std.proofs.Common.{◌≡◌, ◌≢◌, ◌⊎◌, ◌==◌, if◌then◌else◌, ℕ, zero, suc, ◌+◌, ◌-◌, ◌*◌, ◌/◌, ◌%◌, ◌<◌, ◌≤◌, ◌^◌, List, [], ◌∷◌, ◌++◌, length, take, get_or, set, Option, Some, None, IsSome, refl, sym, subst, ap, ◌∙◌, inl, inr, arith, length-set, get_or-set_same, get_or-set_other}
use Rattle.std.proofs.lemmas.Bool.{cases_eq, eq-eqb}
use Rattle.lmn_base.proofs.Numbers.{not_equal}
use Rattle.lmn_base.proofs.Truth.{if_no}
use Rattle.std.specs.Option.{option_map}
use denote.RawPtr.{Ptr, null_ptr}
use Rattle.lmn_web_cells.specs.Rows.{Item, blank, link, number, halves, halves_in, with_half, half_at, with_half_at, Row, items_in, with_items, place_ptr, IsStart, place_of}
use Rattle.lmn_web_cells.specs.Cells.{HeldPort, HeldCell, pointer_to, link_to, link_items, in_half, first_items, port_and_mark, cell_items, cell_by, cells_by, IsShaped, IsLaid, AreLaid, HaveFewPorts, HaveLinks, HaveSmallClasses, links_of, numbers_of, ports_of, no_port, with_link, with_number, with_to, with_port, with_mark}
use Rattle.lmn_store_heap.specs.Heap.{alter}
use Rattle.lmn_store_heap.proofs.Listing.{alter_at, alter_away}
use Rattle.lmn_web_cells.specs.CellIds.{IsLink, led_by}
use Rattle.lmn_web_cells.proofs.CellWords.{place_again, end_of, some_numbers, one_port, cell_back, ports_at, set_ports_at, port_word_at, set_to_at, set_port_at, set_mark_at, narrow_set, port_in, mark_in, word_count, first_in, second_in, third_in, half_with, number_word_at, set_small_number_at, first_number_at, set_first_number_at, last_number_word, set_last_number_word, first_link_at, set_first_link_at, last_link_word, set_last_link_word}
pub use Rattle.lmn_web_rows.proofs.Lookups.{if_yes, items_same, items_away}

-- what isn't none in a list is one of it
written_there : (xs : List (Option ℕ)) (j n : ℕ) → get_or xs j None ≡ Some n → j < length xs
written_there [] j n e = absurd cc
written_there (x ∷ xs) zero n e = omega arith
written_there (x ∷ xs) (suc j) n e = let l = written_there xs j n e in omega (arith, l)

-- one cell
same_cell : {c d : HeldCell} → Some c ≡ Some d → c ≡ d
same_cell e = cc e

-- a cell that is there, with its words
pub record Found (rows : List Row) (b : ℕ) : Type 0 where
  pub cell : HeldCell
  pub shaped : IsShaped cell
  pub words : items_in rows b ≡ cell_items cell
  pub is : cells_by rows b ≡ Some cell

none_there : (o : Option HeldCell) → o ≡ None → IsSome o → ⊥
none_there None e t = absurd cc
none_there (Some x) e t = absurd cc

-- the cell in a block of laid rows
pub found : (rows : List Row) (b : ℕ) → AreLaid rows → IsSome (cells_by rows b) → Found rows b
found rows b laid there = elim (laid b) [
  | inl e ↦ absurd (none_there (cells_by rows b) (ap cell_by e) there)
  | inr s ↦ record { cell = s.0; shaped = s.1; words = s.2; is = ap cell_by s.2 ∙ cell_back s.0 s.1 }
]

-- each cell has eight links
pub have_links : (rows : List Row) → AreLaid rows → HaveLinks (cells_by rows)
have_links rows laid a there = let f = found rows a laid there in ap (λ (o : Option HeldCell). length (links_of o)) f.is ∙ f.shaped.links

-- Links

-- a word that leads somewhere
pub word_is : (rows : List Row) (b k : ℕ) (laid : AreLaid rows) (there : IsSome (cells_by rows b)) → k < 7
    → get_or (items_in rows b) k blank ≡ link_to (get_or (links_of (cells_by rows b)) k None)
word_is rows b k laid there low =
    let f = found rows b laid there in
    ap (λ is. get_or is k blank) f.words ∙ first_link_at f.cell f.shaped k low ∙ ap (λ (o : Option HeldCell). link_to (get_or (links_of o) k None)) (sym f.is)

-- the last one of a membrane's
pub last_word_is : (rows : List Row) (b : ℕ) (laid : AreLaid rows) (there : IsSome (cells_by rows b)) → length (numbers_of (cells_by rows b)) ≡ 8
    → get_or (items_in rows b) 14 blank ≡ link_to (get_or (links_of (cells_by rows b)) 7 None)
last_word_is rows b laid there eight =
    let f = found rows b laid there in
    ap (λ is. get_or is 14 blank) f.words ∙ last_link_word f.cell f.shaped (sym (ap (λ (o : Option HeldCell). length (numbers_of o)) f.is) ∙ eight)
    ∙ ap (λ (o : Option HeldCell). link_to (get_or (links_of o) 7 None)) (sym f.is)

-- the pointer in a word, if it is one
abbrev pointer_in : Item → Ptr
pointer_in None = null_ptr
pointer_in (Some (None, n)) = null_ptr
pointer_in (Some (Some p, n)) = p

-- the pointer to a cell, or to nowhere, is a link
pub is_link : (x : Option ℕ) → IsLink (pointer_to x)
is_link None = inl refl
is_link (Some n) = inr (ap place_ptr (sym (place_again n)))

-- it leads there
pub leads : (x : Option ℕ) → led_by (pointer_to x) ≡ x
leads None = refl
leads (Some n) = ap Some (place_again n)

-- the pointer to what is there is one to a place
pub leads_there : (x : Option ℕ) (p : Ptr) → IsSome x → p ≡ pointer_to x → IsStart p × (x ≡ Some (place_of p))
leads_there None p some e = cc
leads_there (Some n) p some e = (subst IsStart (sym e) (ap place_ptr (sym (place_again n))), ap Some (sym (place_again n)) ∙ ap (λ (q : Ptr). Some (place_of q)) (sym e))

-- the pointer that was read from a word
pub pointer_read : (i : Item) (x : Option ℕ) (p : Ptr) → i ≡ link_to x → i ≡ link p → p ≡ pointer_to x
pointer_read i x p e r = ap pointer_in (sym r ∙ e)

-- the number that was read
abbrev number_in : Item → ℕ
number_in None = 0
number_in (Some (p, (n, xs))) = n

-- a word is one number
pub number_read : (i : Item) (m n : ℕ) → i ≡ number m → i ≡ number n → n ≡ m
number_read i m n e r = ap number_in (sym r ∙ e)

-- Numbers

-- the word of the index of a cell and of its small numbers
pub number_word_is : (rows : List Row) (b : ℕ) (laid : AreLaid rows) (there : IsSome (cells_by rows b))
    → get_or (items_in rows b) 7 blank ≡ halves (get_or (numbers_of (cells_by rows b)) 2 0) (in_half (get_or (numbers_of (cells_by rows b)) 0 0) (get_or (numbers_of (cells_by rows b)) 1 0) (get_or (numbers_of (cells_by rows b)) 3 0))
number_word_is rows b laid there =
    let f = found rows b laid there in
    ap (λ is. get_or is 7 blank) f.words ∙ number_word_at f.cell f.shaped ∙ ap (λ (o : Option HeldCell). halves (get_or (numbers_of o) 2 0) (in_half (get_or (numbers_of o) 0 0) (get_or (numbers_of o) 1 0) (get_or (numbers_of o) 3 0))) (sym f.is)

pub small_is : (rows : List Row) (b : ℕ) (laid : AreLaid rows) (there : IsSome (cells_by rows b)) → half_at (items_in rows b) 15 ≡ Some (in_half (get_or (numbers_of (cells_by rows b)) 0 0) (get_or (numbers_of (cells_by rows b)) 1 0) (get_or (numbers_of (cells_by rows b)) 3 0))
small_is rows b laid there = ap (λ i. get_or (halves_in i) 1 None) (number_word_is rows b laid there)

pub index_is : (rows : List Row) (b : ℕ) (laid : AreLaid rows) (there : IsSome (cells_by rows b)) → half_at (items_in rows b) 14 ≡ Some (get_or (numbers_of (cells_by rows b)) 2 0)
index_is rows b laid there = ap (λ i. get_or (halves_in i) 0 None) (number_word_is rows b laid there)

-- a small number is below 256
pub small_fits : (rows : List Row) (b k : ℕ) (laid : AreLaid rows) (there : IsSome (cells_by rows b)) → k < 2 → get_or (numbers_of (cells_by rows b)) k 0 < 256
small_fits rows b k laid there low = let f = found rows b laid there in subst (λ (o : Option HeldCell). get_or (numbers_of o) k 0 < 256) (sym f.is) (f.shaped.small k low)

-- one of the first two in what was read
if_first : (k all : ℕ) → k ≡ 0 → (if k == 0 then all / 256 % 256 else all % 256) ≡ all / 256 % 256
if_first k all e = if_yes (k == 0) (all / 256 % 256) (all % 256) (eq-eqb k 0 e)

if_second : (k all : ℕ) → k ≢ 0 → (if k == 0 then all / 256 % 256 else all % 256) ≡ all % 256
if_second k all d = if_no (k == 0) (all / 256 % 256) (all % 256) (not_equal k 0 d)

pub part_read : (rows : List Row) (b k all n : ℕ) (laid : AreLaid rows) (there : IsSome (cells_by rows b)) → k < 2 → all ≡ in_half (get_or (numbers_of (cells_by rows b)) 0 0) (get_or (numbers_of (cells_by rows b)) 1 0) (get_or (numbers_of (cells_by rows b)) 3 0)
    → n ≡ (if k == 0 then all / 256 % 256 else all % 256) → n ≡ get_or (numbers_of (cells_by rows b)) k 0
part_read rows b k all n laid there low e r =
    let ns = numbers_of (cells_by rows b) in let one = small_fits rows b 0 laid there (omega arith) in let two = small_fits rows b 1 laid there (omega arith) in elim (cases_eq k 0) [
      | inl z ↦ r ∙ if_first k all z ∙ ap (λ m. m / 256 % 256) e ∙ first_in (get_or ns 0 0) (get_or ns 1 0) (get_or ns 3 0) one two ∙ sym (ap (λ m. get_or ns m 0) z)
      | inr d ↦ (let z : k ≡ 1 = only_one k low d in r ∙ if_second k all d ∙ ap (λ m. m % 256) e ∙ second_in (get_or ns 0 0) (get_or ns 1 0) (get_or ns 3 0) one two ∙ sym (ap (λ m. get_or ns m 0) z))
    ]
  where
    only_one : (k : ℕ) → k < 2 → k ≢ 0 → k ≡ 1
    only_one k low d = omega (arith, low, d)

-- and the third one
pub class_read : (rows : List Row) (b all : ℕ) (laid : AreLaid rows) (there : IsSome (cells_by rows b)) → all ≡ in_half (get_or (numbers_of (cells_by rows b)) 0 0) (get_or (numbers_of (cells_by rows b)) 1 0) (get_or (numbers_of (cells_by rows b)) 3 0)
    → all / 65536 ≡ get_or (numbers_of (cells_by rows b)) 3 0
class_read rows b all laid there e =
    let ns = numbers_of (cells_by rows b) in
    ap (λ m. m / 65536) e ∙ third_in (get_or ns 0 0) (get_or ns 1 0) (get_or ns 3 0) (small_fits rows b 0 laid there (omega arith)) (small_fits rows b 1 laid there (omega arith))

-- all three
pub small_read : (rows : List Row) (b all : ℕ) (laid : AreLaid rows) (there : IsSome (cells_by rows b)) → all ≡ in_half (get_or (numbers_of (cells_by rows b)) 0 0) (get_or (numbers_of (cells_by rows b)) 1 0) (get_or (numbers_of (cells_by rows b)) 3 0)
    → (all / 65536 ≡ get_or (numbers_of (cells_by rows b)) 3 0) × (all / 256 % 256 ≡ get_or (numbers_of (cells_by rows b)) 0 0) × (all % 256 ≡ get_or (numbers_of (cells_by rows b)) 1 0)
small_read rows b all laid there e =
    let ns = numbers_of (cells_by rows b) in let one = small_fits rows b 0 laid there (omega arith) in let two = small_fits rows b 1 laid there (omega arith) in (
      class_read rows b all laid there e,
      ap (λ m. m / 256 % 256) e ∙ first_in (get_or ns 0 0) (get_or ns 1 0) (get_or ns 3 0) one two,
      ap (λ m. m % 256) e ∙ second_in (get_or ns 0 0) (get_or ns 1 0) (get_or ns 3 0) one two,
    )

-- the word of one of the two others
pub number_is : (rows : List Row) (b k : ℕ) (laid : AreLaid rows) (there : IsSome (cells_by rows b)) → 4 ≤ k → k < 6
    → get_or (items_in rows b) (7 + k - 3) blank ≡ number (get_or (numbers_of (cells_by rows b)) k 0)
number_is rows b k laid there high low =
    let f = found rows b laid there in
    ap (λ is. get_or is (7 + k - 3) blank) f.words ∙ first_number_at f.cell f.shaped k high low ∙ ap (λ (o : Option HeldCell). number (get_or (numbers_of o) k 0)) (sym f.is)

-- that of one of the last numbers of a membrane
pub count_is : (rows : List Row) (b k : ℕ) (laid : AreLaid rows) (there : IsSome (cells_by rows b)) → length (numbers_of (cells_by rows b)) ≡ 8 → 6 ≤ k → k < 8
    → get_or (items_in rows b) (12 + k - 6) blank ≡ number (get_or (numbers_of (cells_by rows b)) k 0)
count_is rows b k laid there eight h low =
    let f = found rows b laid there in
    ap (λ is. get_or is (12 + k - 6) blank) f.words ∙ last_number_word f.cell f.shaped (sym (ap (λ (o : Option HeldCell). length (numbers_of o)) f.is) ∙ eight) k h low
    ∙ ap (λ (o : Option HeldCell). number (get_or (numbers_of o) k 0)) (sym f.is)

-- Ports

-- the word that says where a port leads
pub to_is : (rows : List Row) (b j : ℕ) (laid : AreLaid rows) (there : IsSome (cells_by rows b)) → j < length (ports_of (cells_by rows b))
    → get_or (items_in rows b) (10 + (j * 2 + 0)) blank ≡ link_to (get_or (ports_of (cells_by rows b)) j no_port).to
to_is rows b j laid there low =
    let f = found rows b laid there in
    ap (λ is. get_or is (10 + (j * 2 + 0)) blank) f.words ∙ ports_at f.cell f.shaped (j * 2 + 0) ∙ port_word_at f.cell.ports j 0 (end_of f.cell) (omega arith) (subst (λ (o : Option HeldCell). j < length (ports_of o)) f.is low)
    ∙ ap (λ (o : Option HeldCell). link_to (get_or (ports_of o) j no_port).to) (sym f.is)

-- the word of the port there and of the mark
pub port_and_mark_is : (rows : List Row) (b j : ℕ) (laid : AreLaid rows) (there : IsSome (cells_by rows b)) → j < length (ports_of (cells_by rows b))
    → get_or (items_in rows b) (10 + (j * 2 + 1)) blank ≡ number (port_and_mark (get_or (ports_of (cells_by rows b)) j no_port))
port_and_mark_is rows b j laid there low =
    let f = found rows b laid there in
    ap (λ is. get_or is (10 + (j * 2 + 1)) blank) f.words ∙ ports_at f.cell f.shaped (j * 2 + 1) ∙ port_word_at f.cell.ports j 1 (end_of f.cell) (omega arith) (subst (λ (o : Option HeldCell). j < length (ports_of o)) f.is low)
    ∙ ap (λ (o : Option HeldCell). number (port_and_mark (get_or (ports_of o) j no_port))) (sym f.is)

-- the port and the mark in what was read of it
pub narrow_port : (rows : List Row) (b j : ℕ) (laid : AreLaid rows) (there : IsSome (cells_by rows b)) → (get_or (ports_of (cells_by rows b)) j no_port).port < 256
narrow_port rows b j laid there = let f = found rows b laid there in subst (λ (o : Option HeldCell). (get_or (ports_of o) j no_port).port < 256) (sym f.is) (f.shaped.narrow j)

pub port_read : (rows : List Row) (b j n : ℕ) (laid : AreLaid rows) (there : IsSome (cells_by rows b)) → n ≡ port_and_mark (get_or (ports_of (cells_by rows b)) j no_port) → n % 256 ≡ (get_or (ports_of (cells_by rows b)) j no_port).port
port_read rows b j n laid there e = let p = get_or (ports_of (cells_by rows b)) j no_port in ap (λ m. m % 256) e ∙ port_in p.mark p.port (narrow_port rows b j laid there)

pub mark_read : (rows : List Row) (b j n : ℕ) (laid : AreLaid rows) (there : IsSome (cells_by rows b)) → n ≡ port_and_mark (get_or (ports_of (cells_by rows b)) j no_port) → n / 256 ≡ (get_or (ports_of (cells_by rows b)) j no_port).mark
mark_read rows b j n laid there e = let p = get_or (ports_of (cells_by rows b)) j no_port in ap (λ m. m / 256) e ∙ mark_in p.mark p.port (narrow_port rows b j laid there)

-- fewer than 256 ports
pub low_port : (rows : List Row) (b j : ℕ) (laid : AreLaid rows) (there : IsSome (cells_by rows b)) → j < length (ports_of (cells_by rows b)) → j < 256
low_port rows b j laid there low = let f = found rows b laid there in let few = f.shaped.few in let l = subst (λ (o : Option HeldCell). j < length (ports_of o)) f.is low in omega (arith, few, l)

pub few_there : (rows : List Row) (b j : ℕ) → AreLaid rows → j < length (ports_of (cells_by rows b)) → j < 256
few_there rows b j laid low = by (cells_by rows b) refl low
  where
    by : (o : Option HeldCell) → cells_by rows b ≡ o → j < length (ports_of o) → j < 256
    by None e l = absurd (omega (arith, l))
    by (Some c) e l = low_port rows b j laid (subst (λ (o : Option HeldCell). IsSome o) (sym e) refl) low

-- each port has a number below 256
pub have_few_ports : (rows : List Row) → AreLaid rows → HaveFewPorts (cells_by rows)
have_few_ports rows laid b j low = few_there rows b j laid low

-- the upper half of each label is below 2 ^ 16
pub have_small_classes : (rows : List Row) → AreLaid rows → HaveSmallClasses (cells_by rows)
have_small_classes rows laid b = by (cells_by rows b) refl
  where
    by : (o : Option HeldCell) → cells_by rows b ≡ o → get_or (numbers_of o) 3 0 < 2 ^ 16
    by None e = omega arith
    by (Some c) e =
        let f = found rows b laid (subst (λ (o : Option HeldCell). IsSome o) (sym e) refl) in
        subst (λ (o : Option HeldCell). get_or (numbers_of o) 3 0 < 2 ^ 16) (sym f.is ∙ e) f.shaped.class

-- Changing a row

-- what a row is after one word of it was written
pub record Changed (rows : List Row) (b k : ℕ) (i : Item) (g : HeldCell → HeldCell) : Type 0 where
  pub laid : AreLaid (with_items b (set (items_in rows b) k i) rows)
  pub cells : cells_by (with_items b (set (items_in rows b) k i) rows) ≡ alter (cells_by rows) b (option_map g)

-- as many numbers and ports as before, and an atom's last link leads nowhere
same_count : (ns ms : List ℕ) (ps qs : List HeldPort) (x y : Option ℕ) → length ms ≡ length ns → length qs ≡ length ps → y ≡ x → ((length ns ≡ 6) × (x ≡ None)) ⊎ ((length ns ≡ 8) × (length ps ≡ 1)) → ((length ms ≡ 6) × (y ≡ None)) ⊎ ((length ms ≡ 8) × (length qs ≡ 1))
same_count ns ms ps qs x y n p l (inl six) = inl (n ∙ six.0, l ∙ six.1)
same_count ns ms ps qs x y n p l (inr eight) = inr (n ∙ eight.0, p ∙ eight.1)

-- also one of the rows
pub six_there : (rows : List Row) (b : ℕ) → AreLaid rows → IsSome (cells_by rows b) → 6 ≤ length (numbers_of (cells_by rows b))
six_there rows b laid there = let f = found rows b laid there in subst (λ (o : Option HeldCell). 6 ≤ length (numbers_of o)) (sym f.is) (some_numbers f.cell f.shaped)

-- a cell has the words of its links and first numbers
pub words_there : (rows : List Row) (b : ℕ) → AreLaid rows → IsSome (cells_by rows b) → 10 ≤ length (items_in rows b)
words_there rows b laid there = let f = found rows b laid there in subst (λ is. 10 ≤ length is) (sym f.words) (let n = word_count f.cell f.shaped in omega (arith, n))

-- both halves of the word of small numbers are there
pub halves_there : (rows : List Row) (b : ℕ) → AreLaid rows → IsSome (cells_by rows b) → 1 < length (halves_in (get_or (items_in rows b) 7 blank))
halves_there rows b laid there = written_there (halves_in (get_or (items_in rows b) 7 blank)) 1 _ (small_is rows b laid there)

-- a cell has the words of its ports
pub port_words_there : (rows : List Row) (b j w : ℕ) → AreLaid rows → IsSome (cells_by rows b) → j < length (ports_of (cells_by rows b)) → w < 2 → 10 + (j * 2 + w) < length (items_in rows b)
port_words_there rows b j w laid there low h =
    let f = found rows b laid there in let l : j < length f.cell.ports = subst (λ (o : Option HeldCell). j < length (ports_of o)) f.is low in
    subst (λ is. 10 + (j * 2 + w) < length is) (sym f.words) (let n = word_count f.cell f.shaped in omega (arith, n, l, h))

-- one word of a cell is written: what the rows stand for then
pub changes : (rows : List Row) (b k : ℕ) (i : Item) (g : HeldCell → HeldCell) (laid : AreLaid rows) (there : IsSome (cells_by rows b))
    → ((c : HeldCell) → IsShaped c → cells_by rows b ≡ Some c → (set (cell_items c) k i ≡ cell_items (g c)) × IsShaped (g c))
    → Changed rows b k i g
changes rows b k i g laid there by =
    let f = found rows b laid there in let some = words_there rows b laid there in
    let new : List Item = set (items_in rows b) k i in
    let at = items_same rows b new (omega (arith, some)) in
    let step = by f.cell f.shaped f.is in
    let words : new ≡ cell_items (g f.cell) = ap (λ is. set is k i) f.words ∙ step.0 in
    let laid' : AreLaid (with_items b new rows) = λ j. elim (cases_eq j b) [
      | inl e ↦ inr (g f.cell, step.1, ap (λ m. items_in (with_items b new rows) m) e ∙ at ∙ words)
      | inr d ↦ subst IsLaid (sym (items_away rows b new j d)) (laid j)
    ] in
    let cells' : (j : ℕ) → cells_by (with_items b new rows) j ≡ alter (cells_by rows) b (option_map g) j = λ j. elim (cases_eq j b) [
      | inl e ↦ ap (λ m. cells_by (with_items b new rows) m) e ∙ ap cell_by (at ∙ words) ∙ cell_back (g f.cell) step.1
          ∙ sym (ap (λ m. alter (cells_by rows) b (option_map g) m) e ∙ alter_at (cells_by rows) b (option_map g) ∙ ap (option_map g) f.is)
      | inr d ↦ ap cell_by (items_away rows b new j d) ∙ sym (alter_away (cells_by rows) b (option_map g) j d)
    ] in
    record { laid = laid'; cells = λ t j. cells' j t }

-- a link
pub link_changes : (rows : List Row) (b k : ℕ) (x : Option ℕ) (laid : AreLaid rows) (there : IsSome (cells_by rows b)) → k < 7 → Changed rows b k (link_to x) (with_link k x)
link_changes rows b k x laid there low = changes rows b k (link_to x) (with_link k x) laid there
    (λ c s e. (
      set_first_link_at c s k x low,
      record {
        links = length-set c.links k x ∙ s.links;
        numbers = same_count c.numbers c.numbers c.ports c.ports (get_or c.links 7 None) (get_or (set c.links k x) 7 None) refl refl (get_or-set_other c.links k 7 x None (λ (w : 7 ≡ k). absurd (omega (arith, w, low)))) s.numbers;
        small = s.small;
        class = s.class;
        few = s.few;
        narrow = s.narrow;
      },
    ))

-- the last link of a membrane
pub last_link_changes : (rows : List Row) (b : ℕ) (x : Option ℕ) (laid : AreLaid rows) (there : IsSome (cells_by rows b)) → length (numbers_of (cells_by rows b)) ≡ 8 → Changed rows b 14 (link_to x) (with_link 7 x)
last_link_changes rows b x laid there eight = changes rows b 14 (link_to x) (with_link 7 x) laid there
    (λ c s e. (let own : length c.numbers ≡ 8 = sym (ap (λ (o : Option HeldCell). length (numbers_of o)) e) ∙ eight in (
      set_last_link_word c s own x,
      record { links = length-set c.links 7 x ∙ s.links; numbers = inr (own, one_port c s own); small = s.small; class = s.class; few = s.few; narrow = s.narrow },
    )))

-- small numbers stay small where one is another
small_set : (ns : List ℕ) (k n : ℕ) → ((j : ℕ) → j < 2 → get_or ns j 0 < 256) → k < length ns → (k < 2 → n < 256) → (j : ℕ) → j < 2 → get_or (set ns k n) j 0 < 256
small_set ns k n s low fits j l = elim (cases_eq j k) [
  | inl e ↦ subst (λ (x : ℕ). x < 256) (sym (ap (λ (m : ℕ). get_or (set ns k n) m 0) e ∙ get_or-set_same ns k n 0 low)) (fits (omega (arith, e, l)))
  | inr d ↦ subst (λ (x : ℕ). x < 256) (sym (get_or-set_other ns k j n 0 d)) (s j l)
]

-- so does the upper half of a label
class_set : (ns : List ℕ) (k n : ℕ) → get_or ns 3 0 < 2 ^ 16 → k < length ns → (k ≡ 3 → n < 2 ^ 16) → get_or (set ns k n) 3 0 < 2 ^ 16
class_set ns k n s low fits = elim (cases_eq k 3) [
  | inl e ↦ subst (λ (x : ℕ). x < 2 ^ 16) (sym (ap (λ (m : ℕ). get_or (set ns m n) 3 0) e ∙ get_or-set_same ns 3 n 0 (subst (λ (m : ℕ). m < length ns) e low))) (fits e)
  | inr d ↦ subst (λ (x : ℕ). x < 2 ^ 16) (sym (get_or-set_other ns k 3 n 0 (λ e. d (sym e)))) s
]

-- what a row is after a half of a word of it was written
pub record HalfChanged (rows : List Row) (b j n : ℕ) (g : HeldCell → HeldCell) : Type 0 where
  pub laid : AreLaid (with_items b (with_half_at j n (items_in rows b)) rows)
  pub cells : cells_by (with_items b (with_half_at j n (items_in rows b)) rows) ≡ alter (cells_by rows) b (option_map g)

-- one of the small numbers
pub small_changes : (rows : List Row) (b k n : ℕ) (laid : AreLaid rows) (there : IsSome (cells_by rows b)) → k < 4 → k ≢ 2 → (k < 2 → n < 256) → (k ≡ 3 → n < 2 ^ 16) → HalfChanged rows b 15 (half_with (numbers_of (cells_by rows b)) k n) (with_number k n)
small_changes rows b k n laid there low other fits class =
    let all = half_with (numbers_of (cells_by rows b)) k n in
    let f = found rows b laid there in let i = with_half 1 all (get_or (items_in rows b) 7 blank) in
    let h = changes rows b 7 i (with_number k n) laid there
    (λ d t e. (
      ap (λ (is : List Item). set (cell_items d) 7 (with_half 1 all (get_or is 7 blank))) (f.words ∙ ap cell_items (same_cell (sym f.is ∙ e)))
          ∙ ap (λ (o : Option HeldCell). with_half_at 15 (half_with (numbers_of o) k n) (cell_items d)) e ∙ set_small_number_at d t k n low other,
      record {
        links = t.links;
        numbers = same_count d.numbers (set d.numbers k n) d.ports d.ports (get_or d.links 7 None) (get_or d.links 7 None) (length-set d.numbers k n) refl refl t.numbers;
        small = small_set d.numbers k n t.small (let m = some_numbers d t in omega (arith, m, low)) fits;
        class = class_set d.numbers k n t.class (let m = some_numbers d t in omega (arith, m, low)) class;
        few = t.few;
        narrow = t.narrow;
      },
    )) in
    record { laid = h.laid; cells = h.cells }

-- what is written of all, where one is another
if_first_is : (k x y : ℕ) → k ≡ 0 → (if k == 0 then x else y) ≡ x
if_first_is k x y e = if_yes (k == 0) x y (eq-eqb k 0 e)

if_second_is : (k x y : ℕ) → k ≢ 0 → (if k == 0 then x else y) ≡ y
if_second_is k x y d = if_no (k == 0) x y (not_equal k 0 d)

first_is : (a b h n all : ℕ) → a < 256 → b < 256 → all ≡ in_half a b h → all / 65536 * 65536 + (n * 256 + all % 256) ≡ in_half n b h
first_is a b h n all low small e = omega (arith, low, small, e)

second_is : (a b h n all : ℕ) → a < 256 → b < 256 → all ≡ in_half a b h → all / 256 * 256 + n ≡ in_half a n h
second_is a b h n all low small e = omega (arith, low, small, e)

third_is : (a b h n all : ℕ) → a < 256 → b < 256 → all ≡ in_half a b h → n * 65536 + all % 65536 ≡ in_half a b n
third_is a b h n all low small e = omega (arith, low, small, e)

pub part_written : (rows : List Row) (b k n all m : ℕ) (laid : AreLaid rows) (there : IsSome (cells_by rows b)) → k < 2 → all ≡ in_half (get_or (numbers_of (cells_by rows b)) 0 0) (get_or (numbers_of (cells_by rows b)) 1 0) (get_or (numbers_of (cells_by rows b)) 3 0)
    → m ≡ (if k == 0 then all / 65536 * 65536 + (n * 256 + all % 256) else all / 256 * 256 + n) → m ≡ half_with (numbers_of (cells_by rows b)) k n
part_written rows b k n all m laid there low e r =
    let ns = numbers_of (cells_by rows b) in let one = small_fits rows b 0 laid there (omega arith) in let two = small_fits rows b 1 laid there (omega arith) in let six = six_there rows b laid there in
    let x = all / 65536 * 65536 + (n * 256 + all % 256) in let y = all / 256 * 256 + n in elim (cases_eq k 0) [
      | inl z ↦ r ∙ if_first_is k x y z ∙ first_is (get_or ns 0 0) (get_or ns 1 0) (get_or ns 3 0) n all one two e
          ∙ sym (ap (λ j. half_with ns j n) z ∙ (λ t. in_half (get_or-set_same ns 0 n 0 (omega (arith, six)) t) (get_or-set_other ns 0 1 n 0 (λ (w : 1 ≡ 0). absurd (omega (arith, w))) t) (get_or-set_other ns 0 3 n 0 (λ (w : 3 ≡ 0). absurd (omega (arith, w))) t)))
      | inr d ↦ (let z : k ≡ 1 = only_one k low d in r ∙ if_second_is k x y d ∙ second_is (get_or ns 0 0) (get_or ns 1 0) (get_or ns 3 0) n all one two e
          ∙ sym (ap (λ j. half_with ns j n) z ∙ (λ t. in_half (get_or-set_other ns 1 0 n 0 (λ (w : 0 ≡ 1). absurd (omega (arith, w))) t) (get_or-set_same ns 1 n 0 (omega (arith, six)) t) (get_or-set_other ns 1 3 n 0 (λ (w : 3 ≡ 1). absurd (omega (arith, w))) t))))
    ]
  where
    only_one : (k : ℕ) → k < 2 → k ≢ 0 → k ≡ 1
    only_one k low d = omega (arith, low, d)

pub class_written : (rows : List Row) (b n all : ℕ) (laid : AreLaid rows) (there : IsSome (cells_by rows b)) → all ≡ in_half (get_or (numbers_of (cells_by rows b)) 0 0) (get_or (numbers_of (cells_by rows b)) 1 0) (get_or (numbers_of (cells_by rows b)) 3 0)
    → n * 65536 + all % 65536 ≡ half_with (numbers_of (cells_by rows b)) 3 n
class_written rows b n all laid there e =
    let ns = numbers_of (cells_by rows b) in let one = small_fits rows b 0 laid there (omega arith) in let two = small_fits rows b 1 laid there (omega arith) in let six = six_there rows b laid there in
    third_is (get_or ns 0 0) (get_or ns 1 0) (get_or ns 3 0) n all one two e
    ∙ sym (λ t. in_half (get_or-set_other ns 3 0 n 0 (λ (w : 0 ≡ 3). absurd (omega (arith, w))) t) (get_or-set_other ns 3 1 n 0 (λ (w : 1 ≡ 3). absurd (omega (arith, w))) t) (get_or-set_same ns 3 n 0 (omega (arith, six)) t))

-- one of the first numbers
pub number_changes : (rows : List Row) (b k n : ℕ) (laid : AreLaid rows) (there : IsSome (cells_by rows b)) → 4 ≤ k → k < 6 → Changed rows b (7 + k - 3) (number n) (with_number k n)
number_changes rows b k n laid there high low = changes rows b (7 + k - 3) (number n) (with_number k n) laid there
    (λ c s e. (
      set_first_number_at c s k n high low,
      record { links = s.links; numbers = same_count c.numbers (set c.numbers k n) c.ports c.ports (get_or c.links 7 None) (get_or c.links 7 None) (length-set c.numbers k n) refl refl s.numbers; small = small_set c.numbers k n s.small (let m = some_numbers c s in omega (arith, m, low)) (λ l. absurd (omega (arith, l, high))); class = class_set c.numbers k n s.class (let m = some_numbers c s in omega (arith, m, low)) (λ e. absurd (omega (arith, e, high))); few = s.few; narrow = s.narrow },
    ))

-- one of the last numbers of a membrane
pub count_changes : (rows : List Row) (b k n : ℕ) (laid : AreLaid rows) (there : IsSome (cells_by rows b)) → length (numbers_of (cells_by rows b)) ≡ 8 → 6 ≤ k → k < 8 → Changed rows b (12 + k - 6) (number n) (with_number k n)
count_changes rows b k n laid there eight h low = changes rows b (12 + k - 6) (number n) (with_number k n) laid there
    (λ c s e. (
      set_last_number_word c s (sym (ap (λ (o : Option HeldCell). length (numbers_of o)) e) ∙ eight) k n h low,
      record { links = s.links; numbers = same_count c.numbers (set c.numbers k n) c.ports c.ports (get_or c.links 7 None) (get_or c.links 7 None) (length-set c.numbers k n) refl refl s.numbers; small = small_set c.numbers k n s.small (let e8 = sym (ap (λ (o : Option HeldCell). length (numbers_of o)) e) ∙ eight in omega (arith, e8, low)) (λ l. absurd (omega (arith, l, h))); class = class_set c.numbers k n s.class (let e8 = sym (ap (λ (o : Option HeldCell). length (numbers_of o)) e) ∙ eight in omega (arith, e8, low)) (λ e. absurd (omega (arith, e, h))); few = s.few; narrow = s.narrow },
    ))

-- a cell keeps its shape where a port is another, which leads to a port with a number below 256
ports_set : (c : HeldCell) → IsShaped c → (j : ℕ) (p : HeldPort) → p.port < 256 → IsShaped (record c { ports = set c.ports j p })
ports_set c s j p small = record {
  links = s.links;
  numbers = same_count c.numbers c.numbers c.ports (set c.ports j p) (get_or c.links 7 None) (get_or c.links 7 None) refl (length-set c.ports j p) refl s.numbers;
  small = s.small;
  class = s.class;
  few = subst (λ n. n < 256) (sym (length-set c.ports j p)) s.few;
  narrow = narrow_set c.ports j p s.narrow small;
}

-- where a port leads
pub to_changes : (rows : List Row) (b j : ℕ) (x : Option ℕ) (laid : AreLaid rows) (there : IsSome (cells_by rows b)) → j < length (ports_of (cells_by rows b)) → Changed rows b (10 + (j * 2 + 0)) (link_to x) (with_to j x)
to_changes rows b j x laid there low = changes rows b (10 + (j * 2 + 0)) (link_to x) (with_to j x) laid there
    (λ c s e. (
      set_ports_at c s (j * 2 + 0) (link_to x) ∙ ap (λ is. link_items (take 7 c.links) ++ (first_items (take 6 c.numbers) ++ is)) (set_to_at c.ports j x (end_of c) (subst (λ (o : Option HeldCell). j < length (ports_of o)) e low)),
      ports_set c s j (record (get_or c.ports j no_port) { to = x }) (s.narrow j),
    ))

-- the number of the port there
pub port_changes : (rows : List Row) (b j n : ℕ) (laid : AreLaid rows) (there : IsSome (cells_by rows b)) → j < length (ports_of (cells_by rows b)) → n < 256
    → Changed rows b (10 + (j * 2 + 1)) (number ((get_or (ports_of (cells_by rows b)) j no_port).mark * 256 + n)) (with_port j n)
port_changes rows b j n laid there low small = changes rows b (10 + (j * 2 + 1)) (number ((get_or (ports_of (cells_by rows b)) j no_port).mark * 256 + n)) (with_port j n) laid there
    (λ c s e. (
      ap (λ (o : Option HeldCell). set (cell_items c) (10 + (j * 2 + 1)) (number ((get_or (ports_of o) j no_port).mark * 256 + n))) e ∙ set_ports_at c s (j * 2 + 1) (number ((get_or c.ports j no_port).mark * 256 + n))
          ∙ ap (λ is. link_items (take 7 c.links) ++ (first_items (take 6 c.numbers) ++ is)) (set_port_at c.ports j n (end_of c) (subst (λ (o : Option HeldCell). j < length (ports_of o)) e low)),
      ports_set c s j (record (get_or c.ports j no_port) { port = n }) small,
    ))

-- the mark of a port
pub mark_changes : (rows : List Row) (b j n : ℕ) (laid : AreLaid rows) (there : IsSome (cells_by rows b)) → j < length (ports_of (cells_by rows b))
    → Changed rows b (10 + (j * 2 + 1)) (number (n * 256 + (get_or (ports_of (cells_by rows b)) j no_port).port)) (with_mark j n)
mark_changes rows b j n laid there low = changes rows b (10 + (j * 2 + 1)) (number (n * 256 + (get_or (ports_of (cells_by rows b)) j no_port).port)) (with_mark j n) laid there
    (λ c s e. (
      ap (λ (o : Option HeldCell). set (cell_items c) (10 + (j * 2 + 1)) (number (n * 256 + (get_or (ports_of o) j no_port).port))) e ∙ set_ports_at c s (j * 2 + 1) (number (n * 256 + (get_or c.ports j no_port).port))
          ∙ ap (λ is. link_items (take 7 c.links) ++ (first_items (take 6 c.numbers) ++ is)) (set_mark_at c.ports j n (end_of c) (subst (λ (o : Option HeldCell). j < length (ports_of o)) e low)),
      ports_set c s j (record (get_or c.ports j no_port) { mark = n }) (s.narrow j),
    ))

-- what holds after a word was written, as the row's call says it
pub laid_after : (rows rows' : List Row) (b k : ℕ) (i i' : Item) (g : HeldCell → HeldCell) → Changed rows b k i g → i' ≡ i → rows' ≡ with_items b (set (items_in rows b) k i') rows → AreLaid rows'
laid_after rows rows' b k i i' g c e r = subst AreLaid (sym (r ∙ ap (λ z. with_items b (set (items_in rows b) k z) rows) e)) c.laid

-- the cells after one word was written
pub cells_after : (rows rows' : List Row) (b k : ℕ) (i i' : Item) (g : HeldCell → HeldCell) → Changed rows b k i g → i' ≡ i → rows' ≡ with_items b (set (items_in rows b) k i') rows
    → cells_by rows' ≡ alter (cells_by rows) b (option_map g)
cells_after rows rows' b k i i' g c e r = ap (λ (z : List Row). cells_by z) (r ∙ ap (λ z. with_items b (set (items_in rows b) k z) rows) e) ∙ c.cells

-- what holds after a half was written
pub half_laid_after : (rows rows' : List Row) (b j n n' : ℕ) (g : HeldCell → HeldCell) → HalfChanged rows b j n g → n' ≡ n → rows' ≡ with_items b (with_half_at j n' (items_in rows b)) rows → AreLaid rows'
half_laid_after rows rows' b j n n' g c e r = subst AreLaid (sym (r ∙ ap (λ z. with_items b (with_half_at j z (items_in rows b)) rows) e)) c.laid

pub half_cells_after : (rows rows' : List Row) (b j n n' : ℕ) (g : HeldCell → HeldCell) → HalfChanged rows b j n g → n' ≡ n → rows' ≡ with_items b (with_half_at j n' (items_in rows b)) rows → cells_by rows' ≡ alter (cells_by rows) b (option_map g)
half_cells_after rows rows' b j n n' g c e r = ap (λ (z : List Row). cells_by z) (r ∙ ap (λ z. with_items b (with_half_at j z (items_in rows b)) rows) e) ∙ c.cells

-- the number that was read of a half
pub half_read : (o : Option ℕ) (m n : ℕ) → o ≡ Some m → o ≡ Some n → n ≡ m
half_read o m n e r = some_is (sym r ∙ e) where
  some_is : {x y : ℕ} → Some x ≡ Some y → x ≡ y
  some_is q = cc q
