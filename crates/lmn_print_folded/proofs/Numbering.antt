-- The links of a folded form can be numbered by first occurrence, and in one way. So a region has one folded line.
use Rattle.std.proofs.Common.{ℕ, zero, suc, ◌≡◌, ◌<◌, List, [], ◌∷◌, ◌++◌, map, length, slice_index_or, refl, sym, ap, ◌∙◌, subst, arith}
use Rattle.std.specs.Prelude.{Contains}
use Rattle.std.specs.List.{AllByRecursion}
use Rattle.std.proofs.lemmas.List.Elements.{Contains-append_right}
use Rattle.lmn_base.specs.Links.{NumbersLinks}
use Rattle.lmn_congruence.specs.Orders.{Among, at_head, further}
use Rattle.lmn_flatten_plain.specs.Links.{Link, made}
use Rattle.lmn_flatten_plain.proofs.SomeNumbers.{some_numbers}
use Rattle.lmn_flatten_plain.proofs.SameNumbers.{numbers_agree}
use Rattle.lmn_print_folded.specs.Terms.{FoldedTerm, link, labelled, FoldedTerms, no_term, term_and, FoldedItem, Folded, folded, FoldedMembranes, no_membrane, membrane_and, term_links, terms_links, items_links, folded_links, membranes_links, renamed_term, renamed_terms, renamed_item, renamed_folded, renamed_membranes}
use Rattle.lmn_print_folded.specs.Lines.{IsNumberedForm}
use Rattle.lmn_base.proofs.Lists.{contains_first as contains_here, join_maps}
use Rattle.lmn_print_folded.proofs.OneFolded.{same_terms, same_membranes}

-- Links renamed are the links of what is renamed.

module _ (f : ℕ → ℕ) where
  mutual
    pub renamed_term_links : (t : FoldedTerm) → term_links (renamed_term f t) ≡ map f (term_links t)
    renamed_term_links (link x) = refl
    renamed_term_links (labelled l ts) = renamed_terms_links ts

    pub renamed_terms_links : (ts : FoldedTerms) → terms_links (renamed_terms f ts) ≡ map f (terms_links ts)
    renamed_terms_links no_term = refl
    renamed_terms_links (term_and t ts) = join_maps f (term_links t) (terms_links ts) (renamed_term_links t) (renamed_terms_links ts)

  pub renamed_items_links : (is : List FoldedItem) → items_links (map (renamed_item f) is) ≡ map f (items_links is)
  renamed_items_links [] = refl
  renamed_items_links (i ∷ is) = join_maps f (terms_links i.arguments) (items_links is) (renamed_terms_links i.arguments) (renamed_items_links is)

  mutual
    pub renamed_links : (t : Folded) → folded_links (renamed_folded f t) ≡ map f (folded_links t)
    renamed_links (folded is fs rs) = join_maps f (items_links is) (membranes_links fs) (renamed_items_links is) (renamed_membranes_links fs)

    renamed_membranes_links : (ts : FoldedMembranes) → membranes_links (renamed_membranes f ts) ≡ map f (membranes_links ts)
    renamed_membranes_links no_membrane = refl
    renamed_membranes_links (membrane_and t ts) = join_maps f (folded_links t) (membranes_links ts) (renamed_links t) (renamed_membranes_links ts)

-- Existence.

abbrev mark : ℕ → Link
mark x = made (x ∷ [])

map_twice : (number : Link → ℕ) (xs : List ℕ) → map number (map mark xs) ≡ map (λ x. number (mark x)) xs
map_twice number [] = refl
map_twice number (x ∷ xs) = ap (λ ys. number (mark x) ∷ ys) (map_twice number xs)

contains_mark : (x : ℕ) (xs : List ℕ) → Among x xs → Contains (map mark xs) (mark x)
contains_mark x (y ∷ xs) at_head = contains_here (mark x) (map mark xs)
contains_mark x (y ∷ xs) (further a) = Contains-append_right (mark y ∷ []) (map mark xs) (mark x) (contains_mark x xs a)
contains_mark x [] a = elim a [ ]

mark_same : (x y : ℕ) → mark x ≡ mark y → x ≡ y
mark_same x y e = cc

-- each folded form can be numbered by first occurrence
pub some_numbered : (given : Folded) → (numbered : Folded) × IsNumberedForm given numbered
some_numbered given =
    let xs = folded_links given in
    let n = some_numbers (map mark xs) in
    let to : ℕ → ℕ = λ x. n.0 (mark x) in
    let P : List ℕ → Type 0 = λ ys. NumbersLinks ys n.1 in (
      renamed_folded to given,
      record {
        to = to;
        one_to_one = λ x y a b e. mark_same x y (n.2 (mark x) (mark y) (contains_mark x xs a) (contains_mark y xs b) e);
        is = refl;
        count = n.1;
        by_first_occurrence = subst P (map_twice n.0 xs ∙ sym (renamed_links to given)) n.3;
      },
    )

-- Uniqueness.

-- what is read below the length is among the list
pub contains_among : (xs : List ℕ) (x k : ℕ) → k < length xs → slice_index_or xs k x ≡ x → Among x xs
contains_among [] x k l e = absurd (omega (arith, l))
contains_among (y ∷ ys) x zero l e = let P : ℕ → Type 0 = λ z. Among z (y ∷ ys) in subst P e at_head
contains_among (y ∷ ys) x (suc k) l e = further (contains_among ys x k (omega (arith, l)) e)

all_front : (P : ℕ → Type 0) (xs ys : List ℕ) → AllByRecursion P (xs ++ ys) → AllByRecursion P xs
all_front P [] ys h = tt
all_front P (x ∷ xs) ys h = (h.0, all_front P xs ys h.1)

all_back : (P : ℕ → Type 0) (xs ys : List ℕ) → AllByRecursion P (xs ++ ys) → AllByRecursion P ys
all_back P [] ys h = h
all_back P (x ∷ xs) ys h = all_back P xs ys h.1

two_items : {a b : FoldedItem} {c d : List FoldedItem} → a ≡ b → c ≡ d → a ∷ c ≡ b ∷ d
two_items e f = cc

module _ (f g : ℕ → ℕ) where
  abbrev Agree : List ℕ → Type 0
  Agree xs = AllByRecursion (λ x. f x ≡ g x) xs

  mutual
    term_agrees : (t : FoldedTerm) → Agree (term_links t) → renamed_term f t ≡ renamed_term g t
    term_agrees (link x) h = ap link h.0
    term_agrees (labelled l ts) h = ap (labelled l) (terms_agree ts h)

    terms_agree : (ts : FoldedTerms) → Agree (terms_links ts) → renamed_terms f ts ≡ renamed_terms g ts
    terms_agree no_term h = refl
    terms_agree (term_and t ts) h =
        same_terms (term_agrees t (all_front (λ x. f x ≡ g x) (term_links t) (terms_links ts) h)) (terms_agree ts (all_back (λ x. f x ≡ g x) (term_links t) (terms_links ts) h))

  items_agree : (is : List FoldedItem) → Agree (items_links is) → map (renamed_item f) is ≡ map (renamed_item g) is
  items_agree [] h = refl
  items_agree (i ∷ is) h =
      two_items (ap (λ ts. record { label = i.label; arguments = ts }) (terms_agree i.arguments (all_front (λ x. f x ≡ g x) (terms_links i.arguments) (items_links is) h)))
      (items_agree is (all_back (λ x. f x ≡ g x) (terms_links i.arguments) (items_links is) h))

  mutual
    pub folded_agrees : (t : Folded) → Agree (folded_links t) → renamed_folded f t ≡ renamed_folded g t
    folded_agrees (folded is fs rs) h =
        ap (λ js. folded js (renamed_membranes f fs) rs) (items_agree is (all_front (λ x. f x ≡ g x) (items_links is) (membranes_links fs) h))
        ∙ ap (λ ms. folded (map (renamed_item g) is) ms rs) (membranes_agree fs (all_back (λ x. f x ≡ g x) (items_links is) (membranes_links fs) h))

    membranes_agree : (ts : FoldedMembranes) → Agree (membranes_links ts) → renamed_membranes f ts ≡ renamed_membranes g ts
    membranes_agree no_membrane h = refl
    membranes_agree (membrane_and t ts) h =
        same_membranes (folded_agrees t (all_front (λ x. f x ≡ g x) (folded_links t) (membranes_links ts) h))
        (membranes_agree ts (all_back (λ x. f x ≡ g x) (folded_links t) (membranes_links ts) h))

-- a folded form is numbered in one way
pub one_numbered : (given a b : Folded) → IsNumberedForm given a → IsNumberedForm given b → a ≡ b
one_numbered given a b h k =
    let xs = folded_links given in
    let P : ℕ → List ℕ → Type 0 = λ n ys. NumbersLinks ys n in
    let by_h = subst (P h.count) (ap folded_links h.is ∙ renamed_links h.to given) h.by_first_occurrence in
    let by_k = subst (P k.count) (ap folded_links k.is ∙ renamed_links k.to given) k.by_first_occurrence in
    let same = numbers_agree h.to k.to xs h.count k.count
    (λ x y c d e. h.one_to_one x y (contains_among xs x c.0 c.1 c.2) (contains_among xs y d.0 d.1 d.2) e)
    (λ x y c d e. k.one_to_one x y (contains_among xs x c.0 c.1 c.2) (contains_among xs y d.0 d.1 d.2) e) by_h by_k in
    h.is ∙ folded_agrees h.to k.to given same ∙ sym k.is
