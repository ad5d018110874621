-- The words of a cell, read and written.
use Rattle.std.proofs.Common.{◌≡◌, ◌≢◌, ℕ, zero, suc, ◌+◌, ◌-◌, ◌*◌, ◌/◌, ◌%◌, ◌<◌, ◌≤◌, Bool, true, false, List, [], ◌∷◌, ◌++◌, length, take, drop, get_or, set, Option, Some, None, if◌then◌else◌, refl, sym, subst, ap, ◌∙◌, inl, inr, arith, get_or-set_same, get_or-set_other, length-take}
use Rattle.lmn_web_cells.specs.Rows.{Item, blank, number, halves, with_half, with_half_at, place_of, place_ptr}
use Rattle.lmn_web_cells.specs.Cells.{HeldPort, HeldCell, link_to, link_items, number_items, in_half, first_items, port_and_mark, port_items, end_items, cell_items, led_to, first_links, first_numbers, numbers_by, ports_by, is_number, is_membrane, last_numbers, last_link, cell_by, IsShaped, no_port}
use Rattle.std.proofs.Math.Seq.{take-set-lt}
use Rattle.std.proofs.lemmas.List.{nil_from_length, get_or-drop, take-append-drop, length-drop, take-set-le, drop-set-lt, drop-set-add, get_or-take}
use Rattle.lmn_base.proofs.Numbers.{no_more}

-- Parts of the words

-- those at the end, those behind the first numbers, and those behind the links
abbrev pub end_of : HeldCell → List Item
end_of c = end_items (get_or c.links 7 None) (drop 6 c.numbers)

abbrev pub behind_numbers : HeldCell → List Item
behind_numbers c = port_items c.ports ++ end_of c

abbrev pub behind_links : HeldCell → List Item
behind_links c = first_items (take 6 c.numbers) ++ behind_numbers c

-- a cell has six numbers at least
pub some_numbers : (c : HeldCell) → IsShaped c → 6 ≤ length c.numbers
some_numbers c s = elim s.numbers [ inl six ↦ (let e = six.0 in omega (arith, e)) | inr eight ↦ (let e = eight.0 in omega (arith, e)) ]

-- a cell with eight numbers has one port
pub one_port : (c : HeldCell) → IsShaped c → length c.numbers ≡ 8 → length c.ports ≡ 1
one_port c s n = elim s.numbers [ inl six ↦ (let e = six.0 in absurd (omega (arith, e, n))) | inr eight ↦ eight.1 ]

-- seven of its links stand in front
pub seven : (c : HeldCell) → IsShaped c → length (take 7 c.links) ≡ 7
seven c s = let e = s.links in simp length-take (omega (arith, e))

-- Reading

one_less : (n k : ℕ) → suc n + k ≡ suc (n + k)
one_less n k = omega arith

-- the word of a link
pub link_at : (ls : List (Option ℕ)) (k : ℕ) (rest : List Item) → k < length ls → get_or (link_items ls ++ rest) k blank ≡ link_to (get_or ls k None)
link_at [] k rest l = absurd (omega (arith, l))
link_at (x ∷ ls) zero rest l = refl
link_at (x ∷ ls) (suc k) rest l = link_at ls k rest (omega (arith, l))

-- what stands behind the links
pub past_links : (ls : List (Option ℕ)) (n k : ℕ) (rest : List Item) → length ls ≡ n → get_or (link_items ls ++ rest) (n + k) blank ≡ get_or rest k blank
past_links [] zero k rest e = ap (λ m. get_or rest m blank) (no_more k)
past_links [] (suc n) k rest e = absurd (omega (arith, e))
past_links (x ∷ ls) zero k rest e = absurd (omega (arith, e))
past_links (x ∷ ls) (suc n) k rest e = ap (λ m. get_or (link_items (x ∷ ls) ++ rest) m blank) (one_less n k) ∙ past_links ls n k rest (omega (arith, e))

-- six numbers and others
pub record Six (ns : List ℕ) : Type 0 where
  pub a : ℕ
  pub b : ℕ
  pub c : ℕ
  pub d : ℕ
  pub e : ℕ
  pub f : ℕ
  pub others : List ℕ
  pub are : ns ≡ a ∷ b ∷ c ∷ d ∷ e ∷ f ∷ others

six_of : (ns : List ℕ) → 6 ≤ length ns → Six ns
six_of [] l = absurd (omega (arith, l))
six_of (a ∷ []) l = absurd (omega (arith, l))
six_of (a ∷ b ∷ []) l = absurd (omega (arith, l))
six_of (a ∷ b ∷ c ∷ []) l = absurd (omega (arith, l))
six_of (a ∷ b ∷ c ∷ d ∷ []) l = absurd (omega (arith, l))
six_of (a ∷ b ∷ c ∷ d ∷ e ∷ []) l = absurd (omega (arith, l))
six_of (a ∷ b ∷ c ∷ d ∷ e ∷ f ∷ ns) l = record { a = a; b = b; c = c; d = d; e = e; f = f; others = ns; are = refl }

three_more : (k : ℕ) → 3 + k ≡ suc (suc (suc k))
three_more k = omega arith

-- the words of six numbers
abbrev six_words : {ns : List ℕ} → Six ns → List Item → List Item
six_words h rest = halves h.c (in_half h.a h.b h.d) ∷ number h.e ∷ number h.f ∷ rest

-- the words behind those of the first numbers
past_numbers : (ns : List ℕ) (k : ℕ) (rest : List Item) → 6 ≤ length ns → get_or (first_items (take 6 ns) ++ rest) (3 + k) blank ≡ get_or rest k blank
past_numbers ns k rest l = let h = six_of ns l in
    subst (λ (ms : List ℕ). get_or (first_items (take 6 ms) ++ rest) (3 + k) blank ≡ get_or rest k blank) (sym h.are)
    (ap (λ m. get_or (six_words h rest) m blank) (three_more k))

two_more : (k : ℕ) → 2 + k ≡ suc (suc k)
two_more k = omega arith

past_port : (ps : List HeldPort) (k : ℕ) (rest : List Item) → length ps ≡ 1 → get_or (port_items ps ++ rest) (2 + k) blank ≡ get_or rest k blank
past_port [] k rest e = absurd (omega (arith, e))
past_port (p ∷ []) k rest e = ap (λ m. get_or (port_items (p ∷ []) ++ rest) m blank) (two_more k)
past_port (p ∷ q ∷ ps) k rest e = absurd (omega (arith, e))

last_number_at : (ns : List ℕ) (k : ℕ) (rest : List Item) → k < length ns → get_or (number_items ns ++ rest) k blank ≡ number (get_or ns k 0)
last_number_at [] k rest l = absurd (omega (arith, l))
last_number_at (x ∷ ns) zero rest l = refl
last_number_at (x ∷ ns) (suc k) rest l = last_number_at ns k rest (omega (arith, l))

end_number_at : (x : Option ℕ) (ns : List ℕ) (k : ℕ) → k < length ns → get_or (end_items x ns) k blank ≡ number (get_or ns k 0)
end_number_at x [] k l = absurd (omega (arith, l))
end_number_at x (n ∷ ns) k l = last_number_at (n ∷ ns) k (link_to x ∷ []) l

end_link_at : (x : Option ℕ) (ns : List ℕ) → length ns ≡ 2 → get_or (end_items x ns) 2 blank ≡ link_to x
end_link_at x [] e = absurd (omega (arith, e))
end_link_at x (a ∷ []) e = absurd (omega (arith, e))
end_link_at x (a ∷ b ∷ []) e = refl
end_link_at x (a ∷ b ∷ c ∷ ns) e = absurd (omega (arith, e))

-- Writing

-- a link is written
pub set_link_at : (ls : List (Option ℕ)) (k : ℕ) (x : Option ℕ) (rest : List Item) → k < length ls → set (link_items ls ++ rest) k (link_to x) ≡ link_items (set ls k x) ++ rest
set_link_at [] k x rest l = absurd (omega (arith, l))
set_link_at (y ∷ ls) zero x rest l = refl
set_link_at (y ∷ ls) (suc k) x rest l = ap (λ is. link_to y ∷ is) (set_link_at ls k x rest (omega (arith, l)))

-- a word behind the links is written
pub set_past_links : (ls : List (Option ℕ)) (n k : ℕ) (i : Item) (rest : List Item) → length ls ≡ n → set (link_items ls ++ rest) (n + k) i ≡ link_items ls ++ set rest k i
set_past_links [] zero k i rest e = ap (λ m. set rest m i) (no_more k)
set_past_links [] (suc n) k i rest e = absurd (omega (arith, e))
set_past_links (x ∷ ls) zero k i rest e = absurd (omega (arith, e))
set_past_links (x ∷ ls) (suc n) k i rest e = ap (λ m. set (link_items (x ∷ ls) ++ rest) m i) (one_less n k) ∙ ap (λ is. link_to x ∷ is) (set_past_links ls n k i rest (omega (arith, e)))

set_past_numbers : (ns : List ℕ) (k : ℕ) (i : Item) (rest : List Item) → 6 ≤ length ns → set (first_items (take 6 ns) ++ rest) (3 + k) i ≡ first_items (take 6 ns) ++ set rest k i
set_past_numbers ns k i rest l = let h = six_of ns l in
    subst (λ (ms : List ℕ). set (first_items (take 6 ms) ++ rest) (3 + k) i ≡ first_items (take 6 ms) ++ set rest k i) (sym h.are)
    (ap (λ m. set (six_words h rest) m i) (three_more k))

set_past_port : (ps : List HeldPort) (k : ℕ) (i : Item) (rest : List Item) → length ps ≡ 1 → set (port_items ps ++ rest) (2 + k) i ≡ port_items ps ++ set rest k i
set_past_port [] k i rest e = absurd (omega (arith, e))
set_past_port (p ∷ []) k i rest e = ap (λ m. set (port_items (p ∷ []) ++ rest) m i) (two_more k)
set_past_port (p ∷ q ∷ ps) k i rest e = absurd (omega (arith, e))

set_last_number_at : (ns : List ℕ) (k n : ℕ) (rest : List Item) → k < length ns → set (number_items ns ++ rest) k (number n) ≡ number_items (set ns k n) ++ rest
set_last_number_at [] k n rest l = absurd (omega (arith, l))
set_last_number_at (y ∷ ns) zero n rest l = refl
set_last_number_at (y ∷ ns) (suc k) n rest l = ap (λ is. number y ∷ is) (set_last_number_at ns k n rest (omega (arith, l)))

set_end_number_at : (x : Option ℕ) (ns : List ℕ) (k n : ℕ) → k < length ns → set (end_items x ns) k (number n) ≡ end_items x (set ns k n)
set_end_number_at x [] k n l = absurd (omega (arith, l))
set_end_number_at x (y ∷ ns) zero n l = refl
set_end_number_at x (y ∷ ns) (suc k) n l = set_last_number_at (y ∷ ns) (suc k) n (link_to x ∷ []) l

set_end_link_at : (x y : Option ℕ) (ns : List ℕ) → length ns ≡ 2 → set (end_items x ns) 2 (link_to y) ≡ end_items y ns
set_end_link_at x y [] e = absurd (omega (arith, e))
set_end_link_at x y (a ∷ []) e = absurd (omega (arith, e))
set_end_link_at x y (a ∷ b ∷ []) e = refl
set_end_link_at x y (a ∷ b ∷ c ∷ ns) e = absurd (omega (arith, e))

-- what a cell's words stand for

-- the place to which a place's pointer leads
pub place_again : (n : ℕ) → place_of (place_ptr n) ≡ n
place_again n = omega arith

link_back : (x : Option ℕ) → led_to (link_to x) ≡ x
link_back None = refl
link_back (Some n) = ap Some (place_again n)

links_back : (ls : List (Option ℕ)) (n : ℕ) (rest : List Item) → length ls ≡ n → first_links n (link_items ls ++ rest) ≡ ls
links_back [] zero rest e = refl
links_back [] (suc n) rest e = absurd (omega (arith, e))
links_back (x ∷ ls) zero rest e = absurd (omega (arith, e))
links_back (x ∷ ls) (suc n) rest e = λ j. link_back x j ∷ links_back ls n rest (omega (arith, e)) j

links_gone : (ls : List (Option ℕ)) (n k : ℕ) (rest : List Item) → length ls ≡ n → drop (n + k) (link_items ls ++ rest) ≡ drop k rest
links_gone [] zero k rest e = ap (λ m. drop m rest) (no_more k)
links_gone [] (suc n) k rest e = absurd (omega (arith, e))
links_gone (x ∷ ls) zero k rest e = absurd (omega (arith, e))
links_gone (x ∷ ls) (suc n) k rest e = ap (λ m. drop m (link_items (x ∷ ls) ++ rest)) (one_less n k) ∙ links_gone ls n k rest (omega (arith, e))

-- three small numbers in one
pub first_in : (a b h : ℕ) → a < 256 → b < 256 → in_half a b h / 256 % 256 ≡ a
first_in a b h low small = omega (arith, low, small)

pub second_in : (a b h : ℕ) → a < 256 → b < 256 → in_half a b h % 256 ≡ b
second_in a b h low small = omega (arith, low, small)

pub third_in : (a b h : ℕ) → a < 256 → b < 256 → in_half a b h / 65536 ≡ h
third_in a b h low small = omega (arith, low, small)

numbers_back : (ns : List ℕ) (rest : List Item) → 6 ≤ length ns → get_or ns 0 0 < 256 → get_or ns 1 0 < 256 → numbers_by (first_items (take 6 ns) ++ rest) ≡ take 6 ns
numbers_back ns rest l low small = let h = six_of ns l in let u : h.a < 256 = subst (λ (ms : List ℕ). get_or ms 0 0 < 256) h.are low in let v : h.b < 256 = subst (λ (ms : List ℕ). get_or ms 1 0 < 256) h.are small in
    subst (λ (ms : List ℕ). numbers_by (first_items (take 6 ms) ++ rest) ≡ take 6 ms) (sym h.are) (λ t. first_in h.a h.b h.d u v t ∷ second_in h.a h.b h.d u v t ∷ h.c ∷ third_in h.a h.b h.d u v t ∷ h.e ∷ h.f ∷ [])

end_numbers_back : (x : Option ℕ) (ns : List ℕ) → length ns ≡ 2 → first_numbers 2 (end_items x ns) ≡ ns
end_numbers_back x [] e = absurd (omega (arith, e))
end_numbers_back x (a ∷ []) e = absurd (omega (arith, e))
end_numbers_back x (a ∷ b ∷ []) e = refl
end_numbers_back x (a ∷ b ∷ c ∷ ns) e = absurd (omega (arith, e))

numbers_gone : (ns : List ℕ) (k : ℕ) (rest : List Item) → 6 ≤ length ns → drop (3 + k) (first_items (take 6 ns) ++ rest) ≡ drop k rest
numbers_gone ns k rest l = let h = six_of ns l in
    subst (λ (ms : List ℕ). drop (3 + k) (first_items (take 6 ms) ++ rest) ≡ drop k rest) (sym h.are)
    (ap (λ m. drop m (six_words h rest)) (three_more k))

port_gone : (ps : List HeldPort) (rest : List Item) → length ps ≡ 1 → drop 2 (port_items ps ++ rest) ≡ rest
port_gone [] rest e = absurd (omega (arith, e))
port_gone (p ∷ []) rest e = refl
port_gone (p ∷ q ∷ ps) rest e = absurd (omega (arith, e))

-- the port and the mark in one number
pub port_in : (mark port : ℕ) → port < 256 → (mark * 256 + port) % 256 ≡ port
port_in mark port low = omega (arith, low)

pub mark_in : (mark port : ℕ) → port < 256 → (mark * 256 + port) / 256 ≡ mark
mark_in mark port low = omega (arith, low)

-- what stands behind the ports is none
ports_back : (ps : List HeldPort) (x : Option ℕ) (ns : List ℕ) → ((j : ℕ) → (get_or ps j no_port).port < 256) → ports_by (port_items ps ++ end_items x ns) ≡ ps
ports_back [] x [] low = refl
ports_back [] x (n ∷ []) low = refl
ports_back [] x (n ∷ m ∷ ns) low = refl
ports_back (p ∷ ps) x ns low = λ j. record { to = link_back p.to j; port = port_in p.mark p.port (low 0) j; mark = mark_in p.mark p.port (low 0) j } ∷ ports_back ps x ns (λ k. low (suc k)) j

whole : (is : List Item) → 0 < length is → cell_by is ≡ Some record { links = first_links 7 is ++ last_link is ∷ []; numbers = numbers_by (drop 7 is) ++ last_numbers is; ports = ports_by (drop 10 is) }
whole [] l = absurd (omega (arith, l))
whole (i ∷ is) l = refl

-- how many words a cell has

count_links : (ls : List (Option ℕ)) (rest : List Item) → length (link_items ls ++ rest) ≡ length ls + length rest
count_links [] rest = omega arith
count_links (x ∷ ls) rest = let r = count_links ls rest in omega (arith, r)

count_numbers : (ns : List ℕ) (rest : List Item) → 6 ≤ length ns → length (first_items (take 6 ns) ++ rest) ≡ 3 + length rest
count_numbers ns rest l = let h = six_of ns l in subst (λ (ms : List ℕ). length (first_items (take 6 ms) ++ rest) ≡ 3 + length rest) (sym h.are) (omega arith)

count_ports : (ps : List HeldPort) (rest : List Item) → length (port_items ps ++ rest) ≡ length ps * 2 + length rest
count_ports [] rest = omega arith
count_ports (p ∷ ps) rest = let r = count_ports ps rest in omega (arith, r)

-- how many words stand at the end
no_end : (x : Option ℕ) (ns : List ℕ) → length ns ≡ 0 → end_items x ns ≡ []
no_end x [] e = refl
no_end x (n ∷ ns) e = absurd (omega (arith, e))

three_words : (x : Option ℕ) (ns : List ℕ) → length ns ≡ 2 → length (end_items x ns) ≡ 3
three_words x [] e = absurd (omega (arith, e))
three_words x (a ∷ []) e = absurd (omega (arith, e))
three_words x (a ∷ b ∷ []) e = refl
three_words x (a ∷ b ∷ c ∷ ns) e = absurd (omega (arith, e))

two_behind : (c : HeldCell) → length c.numbers ≡ 8 → length (drop 6 c.numbers) ≡ 2
two_behind c e = let m = length-drop 6 c.numbers in omega (arith, m, e)

none_behind : (c : HeldCell) → length c.numbers ≡ 6 → end_of c ≡ []
none_behind c e = let m = length-drop 6 c.numbers in no_end (get_or c.links 7 None) (drop 6 c.numbers) (omega (arith, m, e))

-- how many words a cell has
pub word_count : (c : HeldCell) → IsShaped c → length (cell_items c) ≡ 10 + length c.ports * 2 + length (end_of c)
word_count c s =
    let a = count_links (take 7 c.links) (behind_links c) in let b = count_numbers c.numbers (behind_numbers c) (some_numbers c s) in let d = count_ports c.ports (end_of c) in
    let e = seven c s in omega (arith, a, b, d, e)

pub atom_count : (c : HeldCell) → length c.numbers ≡ 6 → length (end_of c) ≡ 0
atom_count c e = ap (λ (is : List Item). length is) (none_behind c e)

pub membrane_count : (c : HeldCell) → length c.numbers ≡ 8 → length (end_of c) ≡ 3
membrane_count c e = three_words (get_or c.links 7 None) (drop 6 c.numbers) (two_behind c e)

-- whether it is a membrane's

no_membrane : (ps : List HeldPort) → is_number (get_or (port_items ps ++ []) 2 blank) ≡ false
no_membrane [] = refl
no_membrane (p ∷ []) = refl
no_membrane (p ∷ q ∷ ps) = refl

a_membrane : (ps : List HeldPort) (x : Option ℕ) (ns : List ℕ) → length ps ≡ 1 → length ns ≡ 2 → is_number (get_or (port_items ps ++ end_items x ns) 2 blank) ≡ true
a_membrane ps x [] one two = absurd (omega (arith, two))
a_membrane [] x (n ∷ ns) one two = absurd (omega (arith, one))
a_membrane (p ∷ []) x (n ∷ ns) one two = refl
a_membrane (p ∷ q ∷ ps) x (n ∷ ns) one two = absurd (omega (arith, one))

word_behind_port : (c : HeldCell) → IsShaped c → get_or (cell_items c) 12 blank ≡ get_or (behind_numbers c) 2 blank
word_behind_port c s = past_links (take 7 c.links) 7 5 (behind_links c) (seven c s) ∙ past_numbers c.numbers 2 (behind_numbers c) (some_numbers c s)

tells_atom : (c : HeldCell) → IsShaped c → length c.numbers ≡ 6 → is_membrane (cell_items c) ≡ false
tells_atom c s six = ap is_number (word_behind_port c s ∙ ap (λ (is : List Item). get_or (port_items c.ports ++ is) 2 blank) (none_behind c six)) ∙ no_membrane c.ports

tells_membrane : (c : HeldCell) → IsShaped c → length c.numbers ≡ 8 → is_membrane (cell_items c) ≡ true
tells_membrane c s eight = ap is_number (word_behind_port c s) ∙ a_membrane c.ports (get_or c.links 7 None) (drop 6 c.numbers) (one_port c s eight) (two_behind c eight)

-- the last link of a membrane
pub last_link_word : (c : HeldCell) → IsShaped c → length c.numbers ≡ 8 → get_or (cell_items c) 14 blank ≡ link_to (get_or c.links 7 None)
last_link_word c s eight = past_links (take 7 c.links) 7 7 (behind_links c) (seven c s) ∙ past_numbers c.numbers 4 (behind_numbers c) (some_numbers c s)
    ∙ past_port c.ports 2 (end_of c) (one_port c s eight) ∙ end_link_at (get_or c.links 7 None) (drop 6 c.numbers) (two_behind c eight)

-- the last numbers of a membrane are read where its row has their words
last_back : (c : HeldCell) → IsShaped c → last_numbers (cell_items c) ≡ drop 6 c.numbers
last_back c s = elim s.numbers [
  | inl six ↦ (let e = six.0 in let m = length-drop 6 c.numbers in
      ap (λ (t : Bool). if t then first_numbers 2 (drop 12 (cell_items c)) else []) (tells_atom c s six.0) ∙ sym (nil_from_length (drop 6 c.numbers) (omega (arith, m, e))))
  | inr eight ↦ ap (λ (t : Bool). if t then first_numbers 2 (drop 12 (cell_items c)) else []) (tells_membrane c s eight.0)
      ∙ ap (first_numbers 2) (links_gone (take 7 c.links) 7 5 (behind_links c) (seven c s) ∙ numbers_gone c.numbers 2 (behind_numbers c) (some_numbers c s) ∙ port_gone c.ports (end_of c) eight.1)
      ∙ end_numbers_back (get_or c.links 7 None) (drop 6 c.numbers) (two_behind c eight.0)
]

-- and so is its last link
last_link_back : (c : HeldCell) → IsShaped c → last_link (cell_items c) ≡ get_or c.links 7 None
last_link_back c s = elim s.numbers [
  | inl six ↦ ap (λ (t : Bool). if t then led_to (get_or (cell_items c) 14 blank) else None) (tells_atom c s six.0) ∙ sym six.1
  | inr eight ↦ ap (λ (t : Bool). if t then led_to (get_or (cell_items c) 14 blank) else None) (tells_membrane c s eight.0) ∙ ap led_to (last_link_word c s eight.0) ∙ link_back (get_or c.links 7 None)
]

all_but_one : (n : ℕ) (ls : List (Option ℕ)) → length ls ≡ suc n → take n ls ++ get_or ls n None ∷ [] ≡ ls
all_but_one n [] e = absurd (omega (arith, e))
all_but_one zero (x ∷ []) e = refl
all_but_one zero (x ∷ y ∷ ls) e = absurd (omega (arith, e))
all_but_one (suc n) (x ∷ ls) e = ap (λ ys. x ∷ ys) (all_but_one n ls (omega (arith, e)))

some_words : (ls : List (Option ℕ)) (rest : List Item) → length ls ≡ 7 → 0 < length (link_items ls ++ rest)
some_words [] rest e = absurd (omega (arith, e))
some_words (x ∷ ls) rest e = omega arith

-- the words of a cell stand for it
pub cell_back : (c : HeldCell) → IsShaped c → cell_by (cell_items c) ≡ Some c
cell_back c s =
    let first : numbers_by (drop 7 (cell_items c)) ≡ take 6 c.numbers = ap numbers_by (links_gone (take 7 c.links) 7 0 (behind_links c) (seven c s)) ∙ numbers_back c.numbers (behind_numbers c) (some_numbers c s) (s.small 0 (omega arith)) (s.small 1 (omega arith)) in
    whole (cell_items c) (some_words (take 7 c.links) (behind_links c) (seven c s))
    ∙ (λ j. Some record {
      links = ((λ t. links_back (take 7 c.links) 7 (behind_links c) (seven c s) t ++ last_link_back c s t ∷ []) ∙ all_but_one 7 c.links s.links) j;
      numbers = ((λ t. first t ++ last_back c s t) ∙ take-append-drop 6 c.numbers) j;
      ports = (ap ports_by (links_gone (take 7 c.links) 7 3 (behind_links c) (seven c s) ∙ numbers_gone c.numbers 0 (behind_numbers c) (some_numbers c s)) ∙ ports_back c.ports (get_or c.links 7 None) (drop 6 c.numbers) s.narrow) j;
    })

-- Ports

two : (j w : ℕ) → suc (suc (j * 2 + w)) ≡ suc j * 2 + w
two j w = omega arith

-- the word w of a port
abbrev port_word : HeldPort → ℕ → Item
port_word p zero = link_to p.to
port_word p (suc w) = number (port_and_mark p)

-- a word of a port
pub port_word_at : (ps : List HeldPort) (j w : ℕ) (rest : List Item) → w < 2 → j < length ps → get_or (port_items ps ++ rest) (j * 2 + w) blank ≡ port_word (get_or ps j no_port) w
port_word_at [] j w rest h l = absurd (omega (arith, l))
port_word_at (p ∷ ps) zero zero rest h l = refl
port_word_at (p ∷ ps) zero (suc zero) rest h l = refl
port_word_at (p ∷ ps) zero (suc (suc w)) rest h l = absurd (omega (arith, h))
port_word_at (p ∷ ps) (suc j) w rest h l = subst (λ n. get_or (port_items (p ∷ ps) ++ rest) n blank ≡ port_word (get_or ps j no_port) w) (two j w) (port_word_at ps j w rest h (omega (arith, l)))

-- where a port leads is written
pub set_to_at : (ps : List HeldPort) (j : ℕ) (x : Option ℕ) (rest : List Item) → j < length ps → set (port_items ps ++ rest) (j * 2 + 0) (link_to x) ≡ port_items (set ps j (record (get_or ps j no_port) { to = x })) ++ rest
set_to_at [] j x rest l = absurd (omega (arith, l))
set_to_at (p ∷ ps) zero x rest l = refl
set_to_at (p ∷ ps) (suc j) x rest l = subst (λ n. set (port_items (p ∷ ps) ++ rest) n (link_to x) ≡ port_items (p ∷ set ps j (record (get_or ps j no_port) { to = x })) ++ rest) (two j 0)
    (ap (λ is. link_to p.to ∷ number (port_and_mark p) ∷ is) (set_to_at ps j x rest (omega (arith, l))))

-- the port there is written, or the mark
pub set_port_at : (ps : List HeldPort) (j n : ℕ) (rest : List Item) → j < length ps → set (port_items ps ++ rest) (j * 2 + 1) (number ((get_or ps j no_port).mark * 256 + n)) ≡ port_items (set ps j (record (get_or ps j no_port) { port = n })) ++ rest
set_port_at [] j n rest l = absurd (omega (arith, l))
set_port_at (p ∷ ps) zero n rest l = refl
set_port_at (p ∷ ps) (suc j) n rest l = subst (λ m. set (port_items (p ∷ ps) ++ rest) m (number ((get_or ps j no_port).mark * 256 + n)) ≡ port_items (p ∷ set ps j (record (get_or ps j no_port) { port = n })) ++ rest) (two j 1)
    (ap (λ is. link_to p.to ∷ number (port_and_mark p) ∷ is) (set_port_at ps j n rest (omega (arith, l))))

pub set_mark_at : (ps : List HeldPort) (j n : ℕ) (rest : List Item) → j < length ps → set (port_items ps ++ rest) (j * 2 + 1) (number (n * 256 + (get_or ps j no_port).port)) ≡ port_items (set ps j (record (get_or ps j no_port) { mark = n })) ++ rest
set_mark_at [] j n rest l = absurd (omega (arith, l))
set_mark_at (p ∷ ps) zero n rest l = refl
set_mark_at (p ∷ ps) (suc j) n rest l = subst (λ m. set (port_items (p ∷ ps) ++ rest) m (number (n * 256 + (get_or ps j no_port).port)) ≡ port_items (p ∷ set ps j (record (get_or ps j no_port) { mark = n })) ++ rest) (two j 1)
    (ap (λ is. link_to p.to ∷ number (port_and_mark p) ∷ is) (set_mark_at ps j n rest (omega (arith, l))))

-- ports stay below 256 where one of them leads to one
pub narrow_set : (ps : List HeldPort) (j : ℕ) (p : HeldPort) → ((k : ℕ) → (get_or ps k no_port).port < 256) → p.port < 256 → (k : ℕ) → (get_or (set ps j p) k no_port).port < 256
narrow_set [] j p low l k = low k
narrow_set (q ∷ ps) zero p low l zero = l
narrow_set (q ∷ ps) zero p low l (suc k) = low (suc k)
narrow_set (q ∷ ps) (suc j) p low l zero = low 0
narrow_set (q ∷ ps) (suc j) p low l (suc k) = narrow_set ps j p (λ m. low (suc m)) l k

-- behind the links and the first numbers
ten : (m : ℕ) → 10 + m ≡ 7 + (3 + m)
ten m = omega arith

-- a word of the ports, among all words
pub ports_at : (c : HeldCell) → IsShaped c → (m : ℕ) → get_or (cell_items c) (10 + m) blank ≡ get_or (behind_numbers c) m blank
ports_at c s m = ap (λ n. get_or (cell_items c) n blank) (ten m) ∙ past_links (take 7 c.links) 7 (3 + m) (behind_links c) (seven c s) ∙ past_numbers c.numbers m (behind_numbers c) (some_numbers c s)

-- a word of the ports is written, among all words
pub set_ports_at : (c : HeldCell) → IsShaped c → (m : ℕ) (i : Item) → set (cell_items c) (10 + m) i ≡ link_items (take 7 c.links) ++ (first_items (take 6 c.numbers) ++ set (behind_numbers c) m i)
set_ports_at c s m i = ap (λ n. set (cell_items c) n i) (ten m) ∙ set_past_links (take 7 c.links) 7 (3 + m) i (behind_links c) (seven c s)
    ∙ ap (λ is. link_items (take 7 c.links) ++ is) (set_past_numbers c.numbers m i (behind_numbers c) (some_numbers c s))

-- Numbers

-- the word of the first four, where six are written out
four_among : (ns : List ℕ) (rest : List Item) → 6 ≤ length ns → get_or (first_items (take 6 ns) ++ rest) 0 blank ≡ halves (get_or ns 2 0) (in_half (get_or ns 0 0) (get_or ns 1 0) (get_or ns 3 0))
four_among ns rest l = let h = six_of ns l in subst (λ (ms : List ℕ). get_or (first_items (take 6 ms) ++ rest) 0 blank ≡ halves (get_or ms 2 0) (in_half (get_or ms 0 0) (get_or ms 1 0) (get_or ms 3 0))) (sym h.are) refl

-- the small numbers as one, where one of them is another
abbrev pub half_with : List ℕ → ℕ → ℕ → ℕ
half_with ns k n = in_half (get_or (set ns k n) 0 0) (get_or (set ns k n) 1 0) (get_or (set ns k n) 3 0)

-- the word is written then
set_four_among : (ns : List ℕ) (k n : ℕ) (rest : List Item) → 6 ≤ length ns → k < 4 → k ≢ 2 → set (first_items (take 6 ns) ++ rest) 0 (halves (get_or ns 2 0) (half_with ns k n)) ≡ first_items (take 6 (set ns k n)) ++ rest
set_four_among ns k n rest l low other = let h = six_of ns l in
    subst (λ (ms : List ℕ). set (first_items (take 6 ms) ++ rest) 0 (halves (get_or ms 2 0) (half_with ms k n)) ≡ first_items (take 6 (set ms k n)) ++ rest) (sym h.are) (by h k low other)
  where
    by : (h : Six ns) (k : ℕ) → k < 4 → k ≢ 2 → set (six_words h rest) 0 (halves h.c (half_with (h.a ∷ h.b ∷ h.c ∷ h.d ∷ h.e ∷ h.f ∷ h.others) k n)) ≡ first_items (take 6 (set (h.a ∷ h.b ∷ h.c ∷ h.d ∷ h.e ∷ h.f ∷ h.others) k n)) ++ rest
    by h zero low other = refl
    by h (suc zero) low other = refl
    by h (suc (suc zero)) low other = absurd (other refl)
    by h (suc (suc (suc zero))) low other = refl
    by h (suc (suc (suc (suc k)))) low other = absurd (omega (arith, low))

-- what is shown of the two others
whole_among : (a b c d e f k : ℕ) (ns : List ℕ) (rest : List Item) → 4 ≤ k → k < 6 → get_or (halves c (in_half a b d) ∷ number e ∷ number f ∷ rest) (k - 3) blank ≡ number (get_or (a ∷ b ∷ c ∷ d ∷ e ∷ f ∷ ns) k 0)
whole_among a b c d e f zero ns rest h l = absurd (omega (arith, h))
whole_among a b c d e f (suc zero) ns rest h l = absurd (omega (arith, h))
whole_among a b c d e f (suc (suc zero)) ns rest h l = absurd (omega (arith, h))
whole_among a b c d e f (suc (suc (suc zero))) ns rest h l = absurd (omega (arith, h))
whole_among a b c d e f (suc (suc (suc (suc zero)))) ns rest h l = refl
whole_among a b c d e f (suc (suc (suc (suc (suc zero))))) ns rest h l = refl
whole_among a b c d e f (suc (suc (suc (suc (suc (suc k)))))) ns rest h l = absurd (omega (arith, l))

set_whole_among : (a b c d e f k n : ℕ) (ns : List ℕ) (rest : List Item) → 4 ≤ k → k < 6
    → set (halves c (in_half a b d) ∷ number e ∷ number f ∷ rest) (k - 3) (number n) ≡ first_items (take 6 (set (a ∷ b ∷ c ∷ d ∷ e ∷ f ∷ ns) k n)) ++ rest
set_whole_among a b c d e f zero n ns rest h l = absurd (omega (arith, h))
set_whole_among a b c d e f (suc zero) n ns rest h l = absurd (omega (arith, h))
set_whole_among a b c d e f (suc (suc zero)) n ns rest h l = absurd (omega (arith, h))
set_whole_among a b c d e f (suc (suc (suc zero))) n ns rest h l = absurd (omega (arith, h))
set_whole_among a b c d e f (suc (suc (suc (suc zero)))) n ns rest h l = refl
set_whole_among a b c d e f (suc (suc (suc (suc (suc zero))))) n ns rest h l = refl
set_whole_among a b c d e f (suc (suc (suc (suc (suc (suc k)))))) n ns rest h l = absurd (omega (arith, l))

-- the word of the index and the small numbers
pub number_word_at : (c : HeldCell) → IsShaped c → get_or (cell_items c) 7 blank ≡ halves (get_or c.numbers 2 0) (in_half (get_or c.numbers 0 0) (get_or c.numbers 1 0) (get_or c.numbers 3 0))
number_word_at c s = past_links (take 7 c.links) 7 0 (behind_links c) (seven c s) ∙ four_among c.numbers (behind_numbers c) (some_numbers c s)

-- the numbers behind the first six, where one of those is another
same_behind : (c : HeldCell) (k n : ℕ) → k < 6 → end_of (record c { numbers = set c.numbers k n }) ≡ end_of c
same_behind c k n low = ap (end_items (get_or c.links 7 None)) (drop-set-lt 6 c.numbers k n low)

-- it is written where one of the small numbers is another
pub set_small_number_at : (c : HeldCell) → IsShaped c → (k n : ℕ) → k < 4 → k ≢ 2 → with_half_at 15 (half_with c.numbers k n) (cell_items c) ≡ cell_items (record c { numbers = set c.numbers k n })
set_small_number_at c s k n low other = let all = half_with c.numbers k n in
    ap (λ i. set (cell_items c) 7 (with_half 1 all i)) (number_word_at c s) ∙ set_past_links (take 7 c.links) 7 0 (halves (get_or c.numbers 2 0) all) (behind_links c) (seven c s)
    ∙ ap (λ is. link_items (take 7 c.links) ++ is) (set_four_among c.numbers k n (behind_numbers c) (some_numbers c s) low other ∙ ap (λ is. first_items (take 6 (set c.numbers k n)) ++ (port_items c.ports ++ is)) (sym (same_behind c k n (omega (arith, low)))))

three_before : (k : ℕ) → 4 ≤ k → 7 + k - 3 ≡ 7 + (k - 3)
three_before k h = omega (arith, h)

-- the word of one of the other two
pub first_number_at : (c : HeldCell) → IsShaped c → (k : ℕ) → 4 ≤ k → k < 6 → get_or (cell_items c) (7 + k - 3) blank ≡ number (get_or c.numbers k 0)
first_number_at c s k high low = let h = six_of c.numbers (some_numbers c s) in
    ap (λ m. get_or (cell_items c) m blank) (three_before k high) ∙ past_links (take 7 c.links) 7 (k - 3) (behind_links c) (seven c s)
    ∙ subst (λ (ns : List ℕ). get_or (first_items (take 6 ns) ++ behind_numbers c) (k - 3) blank ≡ number (get_or ns k 0)) (sym h.are) (whole_among h.a h.b h.c h.d h.e h.f k h.others (behind_numbers c) high low)

-- it is written
pub set_first_number_at : (c : HeldCell) → IsShaped c → (k n : ℕ) → 4 ≤ k → k < 6 → set (cell_items c) (7 + k - 3) (number n) ≡ cell_items (record c { numbers = set c.numbers k n })
set_first_number_at c s k n high low = let h = six_of c.numbers (some_numbers c s) in
    ap (λ m. set (cell_items c) m (number n)) (three_before k high) ∙ set_past_links (take 7 c.links) 7 (k - 3) (number n) (behind_links c) (seven c s)
    ∙ ap (λ is. link_items (take 7 c.links) ++ is) (subst (λ (ns : List ℕ). set (first_items (take 6 ns) ++ behind_numbers c) (k - 3) (number n) ≡ first_items (take 6 (set ns k n)) ++ behind_numbers c) (sym h.are) (set_whole_among h.a h.b h.c h.d h.e h.f k n h.others (behind_numbers c) high low)
    ∙ ap (λ is. first_items (take 6 (set c.numbers k n)) ++ (port_items c.ports ++ is)) (sym (same_behind c k n low)))

-- behind the port of a membrane
behind_port : (k : ℕ) → 6 ≤ k → 12 + k - 6 ≡ 7 + (3 + (2 + (k - 6)))
behind_port k h = omega (arith, h)

from_six : (k : ℕ) → 6 ≤ k → 6 + (k - 6) ≡ k
from_six k h = omega (arith, h)

few_behind : (c : HeldCell) (k : ℕ) → length c.numbers ≡ 8 → 6 ≤ k → k < 8 → k - 6 < length (drop 6 c.numbers)
few_behind c k e h low = let m = length-drop 6 c.numbers in omega (arith, m, e, h, low)

-- the word of one of the numbers behind it
pub last_number_word : (c : HeldCell) → IsShaped c → length c.numbers ≡ 8 → (k : ℕ) → 6 ≤ k → k < 8 → get_or (cell_items c) (12 + k - 6) blank ≡ number (get_or c.numbers k 0)
last_number_word c s e k h low = ap (λ n. get_or (cell_items c) n blank) (behind_port k h) ∙ past_links (take 7 c.links) 7 (3 + (2 + (k - 6))) (behind_links c) (seven c s)
    ∙ past_numbers c.numbers (2 + (k - 6)) (behind_numbers c) (some_numbers c s) ∙ past_port c.ports (k - 6) (end_of c) (one_port c s e)
    ∙ end_number_at (get_or c.links 7 None) (drop 6 c.numbers) (k - 6) (few_behind c k e h low) ∙ ap number (get_or-drop 6 c.numbers (k - 6) 0 ∙ ap (λ n. get_or c.numbers n 0) (from_six k h))

-- one of them is written
pub set_last_number_word : (c : HeldCell) → IsShaped c → length c.numbers ≡ 8 → (k n : ℕ) → 6 ≤ k → k < 8 → set (cell_items c) (12 + k - 6) (number n) ≡ cell_items (record c { numbers = set c.numbers k n })
set_last_number_word c s e k n h low = ap (λ m. set (cell_items c) m (number n)) (behind_port k h) ∙ set_past_links (take 7 c.links) 7 (3 + (2 + (k - 6))) (number n) (behind_links c) (seven c s)
    ∙ ap (λ is. link_items (take 7 c.links) ++ is) (set_past_numbers c.numbers (2 + (k - 6)) (number n) (behind_numbers c) (some_numbers c s)
    ∙ ap (λ is. first_items (take 6 c.numbers) ++ is) (set_past_port c.ports (k - 6) (number n) (end_of c) (one_port c s e)
    ∙ ap (λ is. port_items c.ports ++ is) (set_end_number_at (get_or c.links 7 None) (drop 6 c.numbers) (k - 6) n (few_behind c k e h low)))
    ∙ (λ t. first_items (sym (take-set-le 6 c.numbers k n h) t) ++ (port_items c.ports ++ end_items (get_or c.links 7 None) (sym (ap (λ m. drop 6 (set c.numbers m n)) (sym (from_six k h)) ∙ drop-set-add 6 c.numbers (k - 6) n) t))))

-- Links

-- the word of one of the seven links
pub first_link_at : (c : HeldCell) → IsShaped c → (k : ℕ) → k < 7 → get_or (cell_items c) k blank ≡ link_to (get_or c.links k None)
first_link_at c s k low = let e = seven c s in link_at (take 7 c.links) k (behind_links c) (omega (arith, e, low)) ∙ ap link_to (get_or-take 7 c.links k None low)

-- it is written
pub set_first_link_at : (c : HeldCell) → IsShaped c → (k : ℕ) (x : Option ℕ) → k < 7 → set (cell_items c) k (link_to x) ≡ cell_items (record c { links = set c.links k x })
set_first_link_at c s k x low = let e = seven c s in
    set_link_at (take 7 c.links) k x (behind_links c) (omega (arith, e, low))
    ∙ (λ t. link_items (sym (take-set-lt 7 c.links k x low) t) ++ (first_items (take 6 c.numbers) ++ (port_items c.ports ++ end_items (sym (get_or-set_other c.links k 7 x None (λ (w : 7 ≡ k). absurd (omega (arith, w, low)))) t) (drop 6 c.numbers))))

-- and so is the last one
pub set_last_link_word : (c : HeldCell) → IsShaped c → length c.numbers ≡ 8 → (x : Option ℕ) → set (cell_items c) 14 (link_to x) ≡ cell_items (record c { links = set c.links 7 x })
set_last_link_word c s eight x = let e = s.links in
    set_past_links (take 7 c.links) 7 7 (link_to x) (behind_links c) (seven c s)
    ∙ ap (λ is. link_items (take 7 c.links) ++ is) (set_past_numbers c.numbers 4 (link_to x) (behind_numbers c) (some_numbers c s)
    ∙ ap (λ is. first_items (take 6 c.numbers) ++ is) (set_past_port c.ports 2 (link_to x) (end_of c) (one_port c s eight)
    ∙ ap (λ is. port_items c.ports ++ is) (set_end_link_at (get_or c.links 7 None) x (drop 6 c.numbers) (two_behind c eight))))
    ∙ (λ t. link_items (sym (take-set-le 7 c.links 7 x (omega arith)) t) ++ (first_items (take 6 c.numbers) ++ (port_items c.ports ++ end_items (sym (get_or-set_same c.links 7 x None (omega (arith, e))) t) (drop 6 c.numbers))))
