-- Folded lines of small regions, by computing.
use Rattle.std.proofs.Common.{ℕ, zero, suc, ◌≡◌, ◌≢◌, ◌≤◌, ◌<◌, ◌⊎◌, inl, inr, ◌&&◌, Bool, true, List, [], ◌∷◌, Some, nat_lt, nat_le, refl, sym, ◌∙◌, subst, arith}
use Rattle.std.specs.Prelude.{codes}
use Rattle.std.specs.Fmt.{digits}
use Rattle.lmn_base.specs.Links.{NumbersLinks, no_more, known, new}
use Rattle.lmn_congruence.specs.Links.{one_if_same, places}
use Rattle.lmn_congruence.specs.Orders.{Among, at_head, further}
use Rattle.lmn_congruence.specs.Process.{Process, nothing, connector, atom, pair, membrane, rule, occurrences, Closed, Fresh, Local}
use Rattle.lmn_congruence.specs.Regions.{Region, region_process}
use Rattle.lmn_congruence.proofs.Counts.{none_if_apart, one_if_equal}
use Rattle.lmn_flatten_plain.specs.Numerals.{numeral}
use Rattle.lmn_print_folded.specs.Terms.{Folded, folded_links, renamed_folded}
use Rattle.lmn_print_folded.specs.Lines.{IsFoldedLine}
use Rattle.lmn_print_folded.specs.Words.{line_of_folded}
use Rattle.lmn_print_folded.specs.Examples as example
use Rattle.lmn_print_folded.proofs.OneFolded.{FewIn}
use Rattle.lmn_print_folded.proofs.Computed.{folded_of, computed}
use Rattle.lmn_print_folded.proofs.FoldedLines.{folded_line, one_folded_line}
use Rattle.lmn_base.proofs.Lists.{head_is as first_byte}
use Rattle.lmn_base.proofs.Numbers.{below_next, same_or_not as same_or_apart, below_or_from}
use Rattle.lmn_base.proofs.Truth.{and_true}

-- Each link is below a number, and each number below it stands at most twice.

abbrev all_below : ℕ → List ℕ → Bool
all_below n [] = true
all_below n (x ∷ xs) = nat_lt x n && all_below n xs

abbrev links_below : ℕ → Process → Bool
links_below n nothing = true
links_below n (connector x y) = nat_lt x n && nat_lt y n
links_below n (atom l xs) = all_below n xs
links_below n (pair P Q) = links_below n P && links_below n Q
links_below n (membrane P) = links_below n P
links_below n (rule r) = true

abbrev few_below : ℕ → Process → Bool
few_below zero P = true
few_below (suc n) P = nat_le (occurrences n P) 2 && few_below n P

not_here : (x y n : ℕ) → nat_lt y n ≡ true → n ≤ x → one_if_same x y ≡ 0
not_here x y n e l = let d : x ≢ y = grind arith in none_if_apart x y d

no_place : (n : ℕ) (xs : List ℕ) (x : ℕ) → all_below n xs ≡ true → n ≤ x → places x xs ≡ 0
no_place n [] x e l = refl
no_place n (y ∷ ys) x e l =
    let h = and_true (nat_lt y n) (all_below n ys) e in
    let a = not_here x y n h.0 l in
    let b = no_place n ys x h.1 l in omega (arith, a, b)

none_above : (n : ℕ) (P : Process) (x : ℕ) → links_below n P ≡ true → n ≤ x → occurrences x P ≡ 0
none_above n nothing x e l = refl
none_above n (connector y z) x e l =
    let h = and_true (nat_lt y n) (nat_lt z n) e in
    let a = not_here x y n h.0 l in
    let b = not_here x z n h.1 l in omega (arith, a, b)
none_above n (atom k xs) x e l = no_place n xs x e l
none_above n (pair P Q) x e l =
    let h = and_true (links_below n P) (links_below n Q) e in
    let a = none_above n P x h.0 l in
    let b = none_above n Q x h.1 l in omega (arith, a, b)
none_above n (membrane P) x e l = none_above n P x e l
none_above n (rule r) x e l = refl

at_most : (m : ℕ) → nat_le m 2 ≡ true → m ≤ 2
at_most m e = grind arith

few_there : (n : ℕ) (P : Process) (x : ℕ) → few_below n P ≡ true → x < n → occurrences x P ≤ 2
few_there zero P x e l = absurd (omega (arith, l))
few_there (suc n) P x e l = let h = and_true (nat_le (occurrences n P) 2) (few_below n P) e in go (below_next x n l) (at_most _ h.0) (few_there n P x h.1)
  where
    go : (x < n) ⊎ (x ≡ n) → occurrences n P ≤ 2 → (x < n → occurrences x P ≤ 2) → occurrences x P ≤ 2
    go (inl l) a more = more l
    go (inr e) a more = let Q : ℕ → Type 0 = λ y. occurrences y P ≤ 2 in subst Q (sym e) a

few_by : (n : ℕ) (P : Process) → links_below n P ≡ true → few_below n P ≡ true → FewIn P
few_by n P e f x = go (below_or_from x n)
  where
    go : (x < n) ⊎ (n ≤ x) → occurrences x P ≤ 2
    go (inl l) = few_there n P x f l
    go (inr l) = let h = none_above n P x e l in omega (arith, h)

line_by : (S : Region) (f : Folded) (n count : ℕ) (to : ℕ → ℕ) (line : List ℕ) → links_below n (region_process S) ≡ true → few_below n (region_process S) ≡ true
    → folded_of S ≡ Some f → ((x y : ℕ) → Among x (folded_links f) → Among y (folded_links f) → to x ≡ to y → x ≡ y)
    → NumbersLinks (folded_links (renamed_folded to f)) count → line ≡ line_of_folded (renamed_folded to f) → IsFoldedLine S line
line_by S f n count to line a b e one numbers is =
    folded_line {given = f} (computed S f (few_by n (region_process S) a b) e)
    (record { to = to; one_to_one = one; is = refl; count = count; by_first_occurrence = numbers }) is

-- the line of two lists
pub two_lists : example.TwoLists
unfolding numeral digits
two_lists = line_by example.two_lists _ 10 0 (λ x. x) _ refl refl refl (λ x y a b e. e) no_more refl

-- and of an answer in a list
pub an_answer : example.AnAnswer
unfolding numeral digits
an_answer = line_by example.an_answer _ 7 0 (λ x. x) _ refl refl refl (λ x y a b e. e) no_more refl

-- and of two atoms in a circle
pub in_a_circle : example.InACircle
unfolding numeral
in_a_circle = line_by example.in_a_circle _ 2 1 (λ x. x) _ refl refl refl (λ x y a b e. e) (new (known (omega arith) no_more)) refl

-- and of one beside it
pub beside_a_circle : example.BesideACircle
unfolding numeral
beside_a_circle = line_by example.beside_a_circle _ 3 2 (λ x. x) _ refl refl refl (λ x y a b e. e) (new (known (omega arith) (new (known (omega arith) no_more)))) refl

-- an atom isn't its own child
pub own_argument : example.OwnArgument
unfolding numeral
own_argument = line_by example.own_argument _ 1 1 (λ x. x) _ refl refl refl (λ x y a b e. e) (new (known (omega arith) no_more)) refl

-- two lists may share their rest
pub shared_rest : example.SharedRest
unfolding numeral digits
shared_rest = line_by example.shared_rest _ 5 1 (λ x. x) _ refl refl refl (λ x y a b e. e) (new (known (omega arith) no_more)) refl

-- a rest may be no list
pub other_rest : example.OtherRest
unfolding digits
other_rest = line_by example.other_rest _ 3 0 (λ x. x) _ refl refl refl (λ x y a b e. e) no_more refl

-- of two atoms joined by their last ports the later one is the child
pub last_ports : example.LastPorts
last_ports = line_by example.last_ports _ 1 0 (λ x. x) _ refl refl refl (λ x y a b e. e) no_more refl

-- cells and empty lists with other links are written by their names
pub no_lists : example.NoLists
no_lists = line_by example.no_lists _ 4 0 (λ x. x) _ refl refl refl (λ x y a b e. e) no_more refl

-- an item isn't written as a list
pub cell_as_item : example.CellAsItem
unfolding numeral digits
cell_as_item = line_by example.cell_as_item _ 2 1 (λ x. x) _ refl refl refl (λ x y a b e. e) (new (known (omega arith) no_more)) refl

seven : (x : ℕ) → Among x (7 ∷ 7 ∷ []) → x ≡ 7
seven x at_head = refl
seven x (further at_head) = refl
seven x (further (further h)) = elim h [ ]

-- an atom in a membrane is no child of one outside
pub across : example.Across
unfolding numeral
across =
    line_by example.across_membrane _ 8 1 (λ x. 0) _ refl refl refl (λ x y a b e. seven x a ∙ sym (seven y b)) (new (known (omega arith) no_more)) refl

-- the example is closed
pub last_ports_closed : Closed (region_process example.last_ports)
last_ports_closed x = go (same_or_apart x 0)
  where
    go : (x ≡ 0) ⊎ (x ≢ 0) → Fresh x (region_process example.last_ports) ⊎ Local x (region_process example.last_ports)
    go (inl e) = let h = one_if_equal x 0 e in inr (omega (arith, h))
    go (inr d) = let h = none_if_apart x 0 d in inl (omega (arith, h))

-- the first of two atoms joined by their last ports is no child
pub not_the_first : example.NotTheFirst
not_the_first h =
    let e = first_byte (one_folded_line example.last_ports (codes "a(b).\n") (codes "b(a).\n") last_ports_closed last_ports h) in
    omega (arith, e)
