-- Cells: what the words of a row stand for.
use Rattle.std.specs.Prelude.{◌≡◌, ◌^◌, ◌≢◌, ◌⊎◌, Bool, true, false, ℕ, zero, suc, ◌+◌, ◌*◌, ◌/◌, ◌%◌, ◌==◌, ◌<◌, List, [], ◌∷◌, ◌++◌, length, take, drop, Option, Some, None, IsSome, if◌then◌else◌, slice_index_or, slice_set, replicate}
use denote.RawPtr.{Ptr, block_ptr, null_ptr}
use Rattle.lmn_web_cells.specs.Numbers.{HIGH, INDEX}
use Rattle.lmn_web_cells.specs.Rows.{Item, blank, link, number, halves, halves_in, Row, items_in, place_of, place_ptr}

-- a port: the cell to which it leads, the port there, and a mark
pub record HeldPort : Type 0 where
  pub to : Option ℕ
  pub port : ℕ
  pub mark : ℕ

-- a port in which nothing is set
abbrev pub no_port : HeldPort
no_port = record { to = None; port = 0; mark = 0 }

-- a cell: eight links, six numbers or, of a membrane, eight, and its ports, of which a membrane has one; the last link of an atom leads nowhere
pub record HeldCell : Type 0 where
  pub links : List (Option ℕ)
  pub numbers : List ℕ
  pub ports : List HeldPort

-- The words of a cell

-- the pointer to the cell of a number, or to nowhere
abbrev pub pointer_to : Option ℕ → Ptr
pointer_to None = null_ptr
pointer_to (Some n) = place_ptr n

-- a word that leads there
abbrev pub link_to : Option ℕ → Item
link_to x = link (pointer_to x)

abbrev pub link_items : List (Option ℕ) → List Item
link_items [] = []
link_items (x ∷ xs) = link_to x ∷ link_items xs

abbrev pub number_items : List ℕ → List Item
number_items [] = []
number_items (n ∷ ns) = number n ∷ number_items ns

-- the port there and the mark, as one number: the port is below 256
abbrev pub port_and_mark : HeldPort → ℕ
port_and_mark p = p.mark * 256 + p.port

-- two words for each port
abbrev pub port_items : List HeldPort → List Item
port_items [] = []
port_items (p ∷ ps) = link_to p.to ∷ number (port_and_mark p) ∷ port_items ps

-- three small numbers as one: the first two are below 256
abbrev pub in_half : ℕ → ℕ → ℕ → ℕ
in_half a b h = h * 65536 + (a * 256 + b)

-- the first six numbers: the index and three small ones in the halves of a word, and two in words of their own
abbrev pub first_items : List ℕ → List Item
first_items (a ∷ b ∷ i ∷ h ∷ ns) = halves i (in_half a b h) ∷ number_items ns
first_items _ = []

-- the words at the end of a membrane's row: its last two numbers and its last link
abbrev pub end_items : Option ℕ → List ℕ → List Item
end_items x [] = []
end_items x (n ∷ ns) = number_items (n ∷ ns) ++ link_to x ∷ []

-- The words of a cell: seven links, six numbers, its ports, and the words at the end of a membrane's row.
abbrev pub cell_items : HeldCell → List Item
cell_items c = link_items (take 7 c.links) ++ (first_items (take 6 c.numbers) ++ (port_items c.ports ++ end_items (slice_index_or c.links 7 None) (drop 6 c.numbers)))

-- Reading the words

-- the cell to which a word leads
abbrev pub led_to : Item → Option ℕ
led_to None = None
led_to (Some (None, n)) = None
led_to (Some (Some null_ptr, n)) = None
led_to (Some (Some (block_ptr b o), n)) = Some (place_of (block_ptr b o))

abbrev pub number_by : Item → ℕ
number_by None = 0
number_by (Some (p, (n, xs))) = n

abbrev pub first_links : ℕ → List Item → List (Option ℕ)
first_links zero is = []
first_links (suc n) [] = []
first_links (suc n) (i ∷ is) = led_to i ∷ first_links n is

abbrev pub first_numbers : ℕ → List Item → List ℕ
first_numbers zero is = []
first_numbers (suc n) [] = []
first_numbers (suc n) (i ∷ is) = number_by i ∷ first_numbers n is

abbrev pub written_or_none : Option ℕ → ℕ
written_or_none None = 0
written_or_none (Some n) = n

-- the number in a half of a word
abbrev pub half_by : Item → ℕ → ℕ
half_by i h = written_or_none (slice_index_or (halves_in i) h None)

-- the first six numbers
abbrev pub numbers_by : List Item → List ℕ
numbers_by (i ∷ j ∷ k ∷ is) = half_by i 1 / 256 % 256 ∷ half_by i 1 % 256 ∷ half_by i 0 ∷ half_by i 1 / 65536 ∷ number_by j ∷ number_by k ∷ []
numbers_by _ = []

-- a word that was written, and not as a pointer
abbrev pub is_number : Item → Bool
is_number None = false
is_number (Some (None, n)) = true
is_number (Some (Some p, n)) = false

-- ports begin with a pointer, and what stands behind those of a membrane with a number
abbrev pub ports_by : List Item → List HeldPort
ports_by [] = []
ports_by (i ∷ []) = []
ports_by (i ∷ j ∷ is) = if is_number i then [] else record { to = led_to i; port = number_by j % 256; mark = number_by j / 256 } ∷ ports_by is

-- a membrane has a number behind its first port, and no atom has
abbrev pub is_membrane : List Item → Bool
is_membrane is = is_number (slice_index_or is 12 blank)

-- the two numbers and the link at the end of a membrane's row
abbrev pub last_numbers : List Item → List ℕ
last_numbers is = if is_membrane is then first_numbers 2 (drop 12 is) else []

abbrev pub last_link : List Item → Option ℕ
last_link is = if is_membrane is then led_to (slice_index_or is 14 blank) else None

abbrev pub cell_by : List Item → Option HeldCell
cell_by [] = None
cell_by (i ∷ is) = Some record { links = first_links 7 (i ∷ is) ++ last_link (i ∷ is) ∷ []; numbers = numbers_by (drop 7 (i ∷ is)) ++ last_numbers (i ∷ is); ports = ports_by (drop 10 (i ∷ is)) }

-- the cell of each number
abbrev pub cells_by : List Row → ℕ → Option HeldCell
cells_by rows b = cell_by (items_in rows b)

-- A cell has eight links. An atom has six numbers, and its last link leads nowhere; a membrane has eight and one port. The first two numbers are below 256, the upper half of the label is below 2 ^ 16, and there are fewer than 256 ports, which lead to ports with numbers below 256.
pub record IsShaped (c : HeldCell) : Type 0 where
  pub links : length c.links ≡ 8
  pub numbers : ((length c.numbers ≡ 6) × (slice_index_or c.links 7 None ≡ None)) ⊎ ((length c.numbers ≡ 8) × (length c.ports ≡ 1))
  pub small : (k : ℕ) → k < 2 → slice_index_or c.numbers k 0 < 256
  pub class : slice_index_or c.numbers HIGH 0 < 2 ^ 16
  pub few : length c.ports < 256
  pub narrow : (j : ℕ) → (slice_index_or c.ports j no_port).port < 256

-- words are those of a cell, or there are none
abbrev pub IsLaid : List Item → Type 0
IsLaid is = (is ≡ []) ⊎ ((c : HeldCell) × IsShaped c × (is ≡ cell_items c))

abbrev pub AreLaid : List Row → Type 0
AreLaid rows = (b : ℕ) → IsLaid (items_in rows b)

-- Parts of a cell, where there is one

abbrev pub links_of : Option HeldCell → List (Option ℕ)
links_of None = []
links_of (Some c) = c.links

abbrev pub numbers_of : Option HeldCell → List ℕ
numbers_of None = []
numbers_of (Some c) = c.numbers

abbrev pub ports_of : Option HeldCell → List HeldPort
ports_of None = []
ports_of (Some c) = c.ports

abbrev pub port_of : Option HeldCell → ℕ → HeldPort
port_of c j = slice_index_or (ports_of c) j no_port

-- a word of a cell is a link: one of the first seven, or the last one of a membrane
abbrev pub IsLinkWord : Option HeldCell → ℕ → Type 0
IsLinkWord c word = (word < 7) ⊎ ((word ≡ 14) × (length (numbers_of c) ≡ 8))

-- the link in a word
abbrev pub link_of : ℕ → ℕ
link_of word = if word == 14 then 7 else word

-- Changes of a cell

abbrev pub with_link : ℕ → Option ℕ → HeldCell → HeldCell
with_link k x c = record c { links = slice_set c.links k x }

abbrev pub with_number : ℕ → ℕ → HeldCell → HeldCell
with_number k n c = record c { numbers = slice_set c.numbers k n }

-- a port leads elsewhere
abbrev pub with_to : ℕ → Option ℕ → HeldCell → HeldCell
with_to j x c = record c { ports = slice_set c.ports j (record (slice_index_or c.ports j no_port) { to = x }) }

-- the number of the port there
abbrev pub with_port : ℕ → ℕ → HeldCell → HeldCell
with_port j n c = record c { ports = slice_set c.ports j (record (slice_index_or c.ports j no_port) { port = n }) }

-- the mark of a port
abbrev pub with_mark : ℕ → ℕ → HeldCell → HeldCell
with_mark j n c = record c { ports = slice_set c.ports j (record (slice_index_or c.ports j no_port) { mark = n }) }

-- the first numbers of a cell in which nothing is set but its index
abbrev pub index_alone : ℕ → List ℕ
index_alone index = 0 ∷ 0 ∷ index ∷ 0 ∷ 0 ∷ 0 ∷ []

-- a cell of an atom in which nothing is set but its index, and that of a membrane
abbrev pub blank_cell : ℕ → ℕ → HeldCell
blank_cell index ports = record { links = replicate 8 None; numbers = index_alone index; ports = replicate ports no_port }

abbrev pub blank_membrane : ℕ → HeldCell
blank_membrane index = record { links = replicate 8 None; numbers = index_alone index ++ 0 ∷ 0 ∷ []; ports = replicate 1 no_port }

-- the words of so many links that lead nowhere, of the first numbers where all but the index are 0, and of ports in which nothing is set
abbrev pub blank_links : ℕ → List Item
blank_links n = link_items (replicate n None)

abbrev pub blank_numbers : ℕ → List Item
blank_numbers index = first_items (index_alone index)

abbrev pub blank_ports : ℕ → List Item
blank_ports n = port_items (replicate n no_port)

-- no cell has this index
abbrev pub IsNewIndex : (ℕ → Option HeldCell) → ℕ → Type 0
IsNewIndex f index = (a : ℕ) → IsSome (f a) → slice_index_or (numbers_of (f a)) INDEX 0 ≢ index

-- each cell that is there has eight links
abbrev pub HaveLinks : (ℕ → Option HeldCell) → Type 0
HaveLinks f = (a : ℕ) → IsSome (f a) → length (links_of (f a)) ≡ 8

-- each port of a cell has a number below 256
abbrev pub HaveFewPorts : (ℕ → Option HeldCell) → Type 0
HaveFewPorts f = (a j : ℕ) → j < length (ports_of (f a)) → j < 256

-- the upper half of the label of each cell is below 2 ^ 16
abbrev pub HaveSmallClasses : (ℕ → Option HeldCell) → Type 0
HaveSmallClasses f = (a : ℕ) → slice_index_or (numbers_of (f a)) HIGH 0 < 2 ^ 16
