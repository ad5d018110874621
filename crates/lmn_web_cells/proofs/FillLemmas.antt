-- The words of a new row are written one after the other.
use Rattle.std.proofs.Common.{◌≡◌, ℕ, zero, suc, ◌+◌, ◌-◌, ◌*◌, ◌/◌, ◌%◌, ◌<◌, ◌==◌, List, [], ◌∷◌, ◌++◌, length, drop, get_or, set, replicate, Option, None, refl, sym, subst, ap, ◌∙◌, inl, inr, arith, length-set}
use Rattle.std.proofs.lemmas.List.{length-append, length-drop}
use lib.ListN.{length-replicate}
use Rattle.std.proofs.lemmas.Bool.{cases_eq, eq-eqb}
use Rattle.lmn_web_cells.specs.Rows.{Item, blank, number, numbered, NUMBER_WORD, halves_in, with_half_at, Row, items_in, with_items}
use Rattle.lmn_web_cells.specs.Cells.{link_to, cell_items, blank_cell, blank_links, blank_numbers, blank_ports}
use Rattle.lmn_web_cells.specs.Fillings.{ports_filled, unwritten}
use Rattle.lmn_web_cells.proofs.CellRows.{items_same, if_yes}
use Rattle.lmn_base.proofs.Numbers.{not_equal}
use Rattle.lmn_base.proofs.Truth.{if_no}

-- a row is written twice
pub with_twice : (rs : List Row) (b : ℕ) (is js : List Item) → with_items b js (with_items b is rs) ≡ with_items b js rs
with_twice [] b is js = refl
with_twice (r ∷ rs) b is js = elim (cases_eq r.at b) [
  | inl e ↦ ap (with_items b js) (if_yes (r.at == b) (record r { items = is } ∷ rs) (r ∷ with_items b is rs) (eq-eqb r.at b e)) ∙ if_yes (r.at == b) (record r { items = js } ∷ rs) (record r { items = is } ∷ with_items b js rs) (eq-eqb r.at b e)
      ∙ sym (if_yes (r.at == b) (record r { items = js } ∷ rs) (r ∷ with_items b js rs) (eq-eqb r.at b e))
  | inr d ↦ ap (with_items b js) (if_no (r.at == b) (record r { items = is } ∷ rs) (r ∷ with_items b is rs) (not_equal r.at b d)) ∙ if_no (r.at == b) (record r { items = js } ∷ with_items b is rs) (r ∷ with_items b js (with_items b is rs)) (not_equal r.at b d)
      ∙ ap (λ xs. r ∷ xs) (with_twice rs b is js) ∙ sym (if_no (r.at == b) (record r { items = js } ∷ rs) (r ∷ with_items b js rs) (not_equal r.at b d))
]

-- a row with the words that it has
pub with_same : (rs : List Row) (b : ℕ) → with_items b (items_in rs b) rs ≡ rs
with_same [] b = refl
with_same (r ∷ rs) b = elim (cases_eq r.at b) [
  | inl e ↦ if_yes (r.at == b) (record r { items = items_in (r ∷ rs) b } ∷ rs) (r ∷ with_items b (items_in (r ∷ rs) b) rs) (eq-eqb r.at b e)
      ∙ ap (λ is. record r { items = is } ∷ rs) (if_yes (r.at == b) r.items (items_in rs b) (eq-eqb r.at b e))
  | inr d ↦ if_no (r.at == b) (record r { items = items_in (r ∷ rs) b } ∷ rs) (r ∷ with_items b (items_in (r ∷ rs) b) rs) (not_equal r.at b d)
      ∙ ap (λ is. r ∷ with_items b is rs) (if_no (r.at == b) r.items (items_in rs b) (not_equal r.at b d)) ∙ ap (λ xs. r ∷ xs) (with_same rs b)
]

-- so far these words are written, and these are left
pub record Filled (old rows : List Row) (b : ℕ) (done rest : List Item) : Type 0 where
  pub there : 0 < length (items_in old b)
  pub are : rows ≡ with_items b (done ++ rest) old

filled_items : (old rows : List Row) (b : ℕ) (done rest : List Item) → Filled old rows b done rest → items_in rows b ≡ done ++ rest
filled_items old rows b done rest f = ap (λ rs. items_in rs b) f.are ∙ items_same old b (done ++ rest) f.there

set_next : (done rest : List Item) (i j : Item) (k : ℕ) → k ≡ length done → set (done ++ i ∷ rest) k j ≡ (done ++ j ∷ []) ++ rest
set_next [] rest i j k e = ap (λ n. set (i ∷ rest) n j) e
set_next (x ∷ done) rest i j zero e = absurd (omega (arith, e))
set_next (x ∷ done) rest i j (suc k) e = ap (λ is. x ∷ is) (set_next done rest i j k (omega (arith, e)))

count_words : (done rest : List Item) → length (done ++ rest) ≡ length done + length rest
count_words done rest = length-append done rest

next_there : (old rows : List Row) (b : ℕ) (done rest : List Item) (k : ℕ) → Filled old rows b done rest → k ≡ length done → 0 < length rest → k < length (items_in rows b)
next_there old rows b done rest k f e l = subst (λ is. k < length is) (sym (filled_items old rows b done rest f)) (let n = count_words done rest in omega (arith, n, e, l))

-- one more
pub next : (old rows rows' : List Row) (b : ℕ) (done rest : List Item) (k : ℕ) (i j : Item) → Filled old rows b done (j ∷ rest) → k ≡ length done
    → rows' ≡ with_items b (set (items_in rows b) k i) rows → Filled old rows' b (done ++ i ∷ []) rest
next old rows rows' b done rest k i j f e r = record {
  there = f.there;
  are = r ∙ ap (λ is. with_items b is rows) (ap (λ is. set is k i) (filled_items old rows b done (j ∷ rest) f) ∙ set_next done rest j i k e)
      ∙ ap (with_items b ((done ++ i ∷ []) ++ rest)) f.are ∙ with_twice old b (done ++ j ∷ rest) ((done ++ i ∷ []) ++ rest);
}

-- how many words are done, and what one more is

-- how many words links have
pub count_links : (n : ℕ) → length (blank_links n) ≡ n
count_links zero = refl
count_links (suc n) = ap suc (count_links n)

more_links : (n : ℕ) → blank_links n ++ link_to None ∷ [] ≡ blank_links (suc n)
more_links zero = refl
more_links (suc n) = ap (λ is. link_to None ∷ is) (more_links n)

-- how many words ports have
pub count_ports : (n : ℕ) → length (blank_ports n) ≡ n * 2
count_ports zero = refl
count_ports (suc n) = let r = count_ports n in omega (arith, r)

more_ports : (n : ℕ) → (blank_ports n ++ link_to None ∷ []) ++ number 0 ∷ [] ≡ blank_ports (suc n)
more_ports zero = refl
more_ports (suc n) = ap (λ is. link_to None ∷ number 0 ∷ is) (more_ports n)

-- a step of each loop, with the words written out

abbrev head_ports : ℕ → ℕ → List Item
head_ports i j = blank_links 7 ++ (blank_numbers i ++ blank_ports j)

count_head : (i j : ℕ) → length (head_ports i j) ≡ 10 + j * 2
count_head i j = let n = count_ports j in omega (arith, n)

abbrev port_one : ℕ → ℕ → List Item
port_one i j = head_ports i j ++ link_to None ∷ []

count_more : (xs : List Item) (i : Item) → length (xs ++ i ∷ []) ≡ suc (length xs)
count_more [] i = refl
count_more (x ∷ xs) i = ap suc (count_more xs i)

count_one : (i j : ℕ) → length (port_one i j) ≡ 10 + j * 2 + 1
count_one i j = let a = count_more (head_ports i j) (link_to None) in let b = count_head i j in omega (arith, a, b)

ports_one : (old rows rows' : List Row) (b i j left : ℕ) → Filled old rows b (head_ports i j) (replicate (suc left) blank) → rows' ≡ with_items b (set (items_in rows b) (10 + j * 2) (link_to None)) rows → Filled old rows' b (port_one i j) (replicate left blank)
ports_one old rows rows' b i j left f r = next old rows rows' b (head_ports i j) (replicate left blank) (10 + j * 2) (link_to None) blank f (sym (count_head i j)) r

ports_two : (old rows rows' : List Row) (b i j left : ℕ) → Filled old rows b (port_one i j) (replicate (suc left) blank) → rows' ≡ with_items b (set (items_in rows b) (10 + j * 2 + 1) (number 0)) rows → Filled old rows' b (head_ports i (suc j)) (replicate left blank)
ports_two old rows rows' b i j left f r =
    subst (λ done. Filled old rows' b (blank_links 7 ++ (blank_numbers i ++ done)) (replicate left blank)) (more_ports j) (next old rows rows' b (port_one i j) (replicate left blank) (10 + j * 2 + 1) (number 0) blank f (sym (count_one i j)) r)

begun : (old : List Row) (b : ℕ) (done rest : List Item) → 0 < length done + length rest → items_in old b ≡ done ++ rest → Filled old old b done rest
begun old b done rest l e = record {
  there = subst (λ is. 0 < length is) (sym e) (let n = count_words done rest in omega (arith, n, l));
  are = sym (with_same old b) ∙ ap (λ is. with_items b is old) e;
}

-- The invariants of the three loops

-- so many links of a row are written
abbrev pub LinksDone : List Row → List Row → ℕ → ℕ → Type 0
LinksDone old rows b k = Filled old rows b (blank_links k) (drop k (items_in old b))

-- the links, the numbers and so many ports are written
abbrev pub PortsDone : List Row → List Row → ℕ → ℕ → ℕ → ℕ → Type 0
PortsDone old rows b i p j = (left : ℕ) × (left + j * 2 ≡ p * 2) × Filled old rows b (head_ports i j) (replicate left blank)

plus_one : (k : ℕ) → suc k ≡ k + 1
plus_one k = omega arith

-- at first no link is written
pub links_begin : (old : List Row) (b : ℕ) → 0 < length (items_in old b) → LinksDone old old b 0
links_begin old b some = record { there = some; are = sym (with_same old b) }

-- the first word of what is left
first_left : (is : List Item) (k : ℕ) → k < length is → drop k is ≡ get_or is k blank ∷ drop (suc k) is
first_left [] k l = absurd (omega (arith, l))
first_left (i ∷ is) zero l = refl
first_left (i ∷ is) (suc k) l = first_left is k (omega (arith, l))

-- the next link is a word of the row
pub links_there : (old rows : List Row) (b k : ℕ) → LinksDone old rows b k → k < length (items_in old b) → k < length (items_in rows b)
links_there old rows b k d low = let is = items_in old b in next_there old rows b (blank_links k) (drop k is) k d (sym (count_links k)) (let n = length-drop k is in omega (arith, n, low))

-- one more link is written
pub links_step : (old rows rows' : List Row) (b k : ℕ) → LinksDone old rows b k → k < length (items_in old b) → rows' ≡ with_items b (set (items_in rows b) k (link_to None)) rows → LinksDone old rows' b (k + 1)
links_step old rows rows' b k d low r = let is = items_in old b in
    subst (λ n. LinksDone old rows' b n) (plus_one k) (subst (λ done. Filled old rows' b done (drop (suc k) is)) (more_links k)
    (next old rows rows' b (blank_links k) (drop (suc k) is) k (link_to None) (get_or is k blank) (subst (Filled old rows b (blank_links k)) (first_left is k low) d) (sym (count_links k)) r))

-- all seven are written
pub links_end : (old rows : List Row) (b k : ℕ) → LinksDone old rows b k → k ≡ 7 → rows ≡ with_items b (blank_links 7 ++ drop 7 (items_in old b)) old
links_end old rows b k d e = d.are ∙ (λ t. with_items b (blank_links (e t) ++ drop (e t) (items_in old b)) old)

-- so many ports are written at first
pub ports_begin : (old : List Row) (b i p j : ℕ) → j < p → items_in old b ≡ ports_filled i p j → PortsDone old old b i p j
ports_begin old b i p j low e = ((p - j) * 2, omega (arith, low), begun old b (head_ports i j) (replicate ((p - j) * 2) blank) (omega arith) e)

blanks_some : (left : ℕ) → 0 < left → 0 < length (replicate left blank)
blanks_some left l = let n = length-replicate left blank in omega (arith, n, l)

-- the first word of the next port is one of the row
pub ports_there : (old rows : List Row) (b i p j : ℕ) → PortsDone old rows b i p j → j < p → 10 + j * 2 < length (items_in rows b)
ports_there old rows b i p j d low = let e = d.1 in next_there old rows b (head_ports i j) (replicate d.0 blank) (10 + j * 2) d.2 (sym (count_head i j)) (blanks_some d.0 (omega (arith, e, low)))

-- the same after one of the two
abbrev pub OneDone : List Row → List Row → ℕ → ℕ → ℕ → ℕ → Type 0
OneDone old rows b i p j = (left : ℕ) × (left + j * 2 + 1 ≡ p * 2) × Filled old rows b (port_one i j) (replicate left blank)

one_more : (old rows rows' : List Row) (b i p j left : ℕ) → left + j * 2 ≡ p * 2 → Filled old rows b (head_ports i j) (replicate left blank) → j < p → rows' ≡ with_items b (set (items_in rows b) (10 + j * 2) (link_to None)) rows → OneDone old rows' b i p j
one_more old rows rows' b i p j zero e f low r = absurd (omega (arith, e, low))
one_more old rows rows' b i p j (suc left) e f low r = (left, omega (arith, e), ports_one old rows rows' b i j left f r)

-- the first word of a port is written
pub first_word : (old rows rows' : List Row) (b i p j : ℕ) → PortsDone old rows b i p j → j < p → rows' ≡ with_items b (set (items_in rows b) (10 + j * 2) (link_to None)) rows → OneDone old rows' b i p j
first_word old rows rows' b i p j d low r = one_more old rows rows' b i p j d.0 d.1 d.2 low r

-- its second word is one of the row
pub second_there : (old rows : List Row) (b i p j : ℕ) → OneDone old rows b i p j → j < p → 10 + j * 2 + 1 < length (items_in rows b)
second_there old rows b i p j d low = let e = d.1 in next_there old rows b (port_one i j) (replicate d.0 blank) (10 + j * 2 + 1) d.2 (sym (count_one i j)) (blanks_some d.0 (omega (arith, e, low)))

two_more : (old rows rows' : List Row) (b i p j left : ℕ) → left + j * 2 + 1 ≡ p * 2 → Filled old rows b (port_one i j) (replicate left blank) → j < p → rows' ≡ with_items b (set (items_in rows b) (10 + j * 2 + 1) (number 0)) rows → PortsDone old rows' b i p (j + 1)
two_more old rows rows' b i p j zero e f low r = absurd (omega (arith, e, low))
two_more old rows rows' b i p j (suc left) e f low r = (left, omega (arith, e), subst (λ n. Filled old rows' b (head_ports i n) (replicate left blank)) (plus_one j) (ports_two old rows rows' b i j left f r))

-- its second word is written: one more port
pub second_word : (old rows rows' : List Row) (b i p j : ℕ) → OneDone old rows b i p j → j < p → rows' ≡ with_items b (set (items_in rows b) (10 + j * 2 + 1) (number 0)) rows → PortsDone old rows' b i p (j + 1)
second_word old rows rows' b i p j d low r = two_more old rows rows' b i p j d.0 d.1 d.2 low r

-- what is written then
pub ports_are : (old rows : List Row) (b i p j : ℕ) → PortsDone old rows b i p j → rows ≡ with_items b (ports_filled i p j) old
ports_are old rows b i p j d = let e = d.1 in let n : d.0 ≡ (p - j) * 2 = omega (arith, e) in d.2.are ∙ (λ t. with_items b (head_ports i j ++ replicate (n t) blank) old)

-- no port is written
pub ports_none : (i p : ℕ) → blank_links 7 ++ (blank_numbers i ++ replicate (p * 2) blank) ≡ ports_filled i p 0
ports_none i p = let n : p * 2 ≡ (p - 0) * 2 = omega arith in λ t. blank_links 7 ++ (blank_numbers i ++ replicate (n t) blank)

-- all ports are
pub ports_all : (i p j : ℕ) → j ≡ p → ports_filled i p j ≡ cell_items (blank_cell i p)
ports_all i p j same = let n : (p - j) * 2 ≡ 0 = omega (arith, same) in λ t. blank_links 7 ++ (blank_numbers i ++ (blank_ports (same t) ++ replicate (n t) blank))

-- one step behind another
pub then : (old rows rows' : List Row) (b : ℕ) (is js : List Item) → rows ≡ with_items b is old → rows' ≡ with_items b js rows → rows' ≡ with_items b js old
then old rows rows' b is js e f = f ∙ ap (with_items b js) e ∙ with_twice old b is js

-- the words that were written
pub written : (old rows : List Row) (b : ℕ) (is : List Item) → 0 < length (items_in old b) → rows ≡ with_items b is old → items_in rows b ≡ is
written old rows b is there e = ap (λ rs. items_in rs b) e ∙ items_same old b is there

-- there are some
pub some_words : (old : List Row) (b i p j : ℕ) → items_in old b ≡ ports_filled i p j → 0 < length (items_in old b)
some_words old b i p j e = subst (λ is. 0 < length is) (sym e) (omega arith)

-- one word more is written, where these were
pub and_written : (old rows rows' : List Row) (b k : ℕ) (is : List Item) (i : Item) → 0 < length (items_in old b) → rows ≡ with_items b is old → rows' ≡ with_items b (set (items_in rows b) k i) rows → rows' ≡ with_items b (set is k i) old
and_written old rows rows' b k is i there e r = then old rows rows' b is (set is k i) e (r ∙ ap (λ js. with_items b (set js k i) rows) (written old rows b is there e))

-- The words of a membrane before its port is written, and after each of the words at its end is

abbrev pub end_none : ℕ → List Item
end_none i = blank_links 7 ++ (blank_numbers i ++ replicate 5 blank)

abbrev pub end_one : ℕ → List Item
end_one i = set (end_none i) 10 (link_to None)

abbrev pub end_two : ℕ → List Item
end_two i = set (end_one i) 11 (number 0)

abbrev pub end_three : ℕ → List Item
end_three i = set (end_two i) 12 (number 0)

abbrev pub end_four : ℕ → List Item
end_four i = set (end_three i) 13 (number 0)

-- at first none is
pub end_begun : (old : List Row) (b i : ℕ) → items_in old b ≡ end_none i → old ≡ with_items b (end_none i) old
end_begun old b i e = sym (with_same old b) ∙ ap (λ is. with_items b is old) e

-- there are words
pub some_end : (old : List Row) (b i : ℕ) → items_in old b ≡ end_none i → 0 < length (items_in old b)
some_end old b i e = subst (λ is. 0 < length is) (sym e) (omega arith)

-- one of the words that are written so far is a word of the row
pub end_there : (old rows : List Row) (b k : ℕ) (is : List Item) → 0 < length (items_in old b) → rows ≡ with_items b is old → k < length is → k < length (items_in rows b)
end_there old rows b k is there e low = subst (λ js. k < length js) (sym (written old rows b is there e)) low

-- The words of a cell before its first numbers are written, and after each is

abbrev pub head_none : ℕ → Option ℕ → ℕ → List Item
head_none i x left = blank_links 7 ++ (numbered i x ∷ (replicate 2 blank ++ replicate left blank))

abbrev pub head_one : ℕ → Option ℕ → ℕ → List Item
head_one i x left = with_half_at 15 0 (head_none i x left)

abbrev pub head_two : ℕ → Option ℕ → ℕ → List Item
head_two i x left = set (head_one i x left) 8 (number 0)

-- none of the other words is written
pub two_blank : (i : ℕ) (x : Option ℕ) (left : ℕ) → blank_links 7 ++ (numbered i x ∷ replicate (2 + left) blank) ≡ head_none i x left
two_blank i x left = ap (λ (n : ℕ). blank_links 7 ++ (numbered i x ∷ replicate n blank)) (more left) where
  more : (k : ℕ) → 2 + k ≡ suc (suc k)
  more k = omega arith

-- the words of a new row, behind its first seven
pub behind_seven : (i : ℕ) (x : Option ℕ) (left : ℕ) → drop 7 (unwritten (10 + left) i x) ≡ numbered i x ∷ replicate (2 + left) blank
behind_seven i x left = ap (λ (n : ℕ). drop 7 (unwritten n i x)) (ten left) where
  ten : (k : ℕ) → 10 + k ≡ suc (suc (suc (suc (suc (suc (suc (suc (2 + k))))))))
  ten k = omega arith

-- how many words it has
pub unwritten_length : (words i : ℕ) (x : Option ℕ) → length (unwritten words i x) ≡ words
unwritten_length words i x = length-set (replicate words blank) NUMBER_WORD (numbered i x) ∙ length-replicate words blank

-- a half more is written, where these words were
pub and_half_written : (old rows rows' : List Row) (b j n : ℕ) (is : List Item) → 0 < length (items_in old b) → rows ≡ with_items b is old → rows' ≡ with_items b (with_half_at j n (items_in rows b)) rows → rows' ≡ with_items b (with_half_at j n is) old
and_half_written old rows rows' b j n is there e r = then old rows rows' b is (with_half_at j n is) e (r ∙ ap (λ js. with_items b (with_half_at j n js) rows) (written old rows b is there e))

-- a half of one of the words that are written so far is there
pub half_there : (old rows : List Row) (b j : ℕ) (is : List Item) → 0 < length (items_in old b) → rows ≡ with_items b is old → j / 2 < length is → j % 2 < length (halves_in (get_or is (j / 2) blank))
    → (j / 2 < length (items_in rows b)) × (j % 2 < length (halves_in (get_or (items_in rows b) (j / 2) blank)))
half_there old rows b j is there e low half = let same = written old rows b is there e in (
  subst (λ (js : List Item). j / 2 < length js) (sym same) low,
  subst (λ (js : List Item). j % 2 < length (halves_in (get_or js (j / 2) blank))) (sym same) half,
)
