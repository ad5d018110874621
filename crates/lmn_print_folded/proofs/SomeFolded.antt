-- Each region has a folded form.
use Rattle.std.proofs.Common.{ℕ, zero, suc, ◌≡◌, ◌≢◌, ◌+◌, ◌<◌, ◌⊎◌, List, [], ◌∷◌, ◌++◌, length, refl, sym, ◌∙◌, subst, inl, inr, arith}
use Rattle.std.specs.List.{range_with_len}
use Rattle.lmn_congruence.specs.Orders.{Among, at_head, further}
use Rattle.lmn_congruence.specs.Process.{together}
use Rattle.lmn_congruence.specs.Regions.{SolidAtom, Region, region, Regions, no_region, region_and, region_process, regions_processes}
use Rattle.lmn_print_folded.specs.Terms.{FoldedTerm, link, labelled, FoldedTerms, no_term, term_and, FoldedItem, Folded, folded, FoldedMembranes, no_membrane, membrane_and}
use Rattle.lmn_print_folded.specs.Folding as folding
use Rattle.lmn_print_folded.specs.Folding.{IsChild, NoChildren, Further, AreItems, atom_positions, Shows, as_link, as_term, ShowsAll, ShowsItems, Folds, folds, FoldsAll}
use Rattle.lmn_print_folded.proofs.Places.{AtMostTwice, one_child, one_parent}
use Rattle.lmn_print_folded.proofs.OneFolded.{FewIn}
use Rattle.lmn_print_folded.proofs.Choosing.{among, child_at, parent, taken_out, Seen, FromItem, from_item, positions_all, suc_less}
use Rattle.lmn_base.proofs.Lists.{get_below as within, get_there as element}
use Rattle.lmn_base.proofs.Numbers.{same_or_not as same_or_apart}
use Rattle.lmn_base.proofs.Truth.{Decided}

-- The way down to an atom that is printed as a term: an item, then children that are no items.
pub data Path (atoms : List SolidAtom) (items : List ℕ) : ℕ → List ℕ → Type 0 where
  start : {i : ℕ} → Among i items → Path atoms items i []
  below : {p q k : ℕ} {above : List ℕ} → Path atoms items p above → IsChild atoms q p k → ¬ (Among q items) → ¬ (Among q (p ∷ above)) →
      Path atoms items q (p ∷ above)

module _ (atoms : List SolidAtom) (few : AtMostTwice atoms) where
  pub not_twice : {items above : List ℕ} {p : ℕ} → Path atoms items p above → Among p above → ⊥
  not_twice (start a) h = elim h [ ]
  not_twice (below h c m n) a = n a

  parent_above : {items above : List ℕ} {p v u k : ℕ} → Path atoms items p above → Among v (p ∷ above) → ¬ (Among v items) → IsChild atoms v u k → Among u above
  parent_above (start a) at_head m d = absurd (m a)
  parent_above (start a) (further h) m d = elim h [ ]
  parent_above {v = q} {u = u} {k = j} (below {p = p} {k = k} {above = above} h c m n) at_head m' d =
      let P : ℕ → Type 0 = λ z. Among z (p ∷ above) in subst P (one_parent atoms q p k u j few c d).0 at_head
  parent_above (below h c m n) (further a) m' d = further (parent_above h a m' d)

  pub new_one : {items above : List ℕ} {p q k : ℕ} → Path atoms items p above → IsChild atoms q p k → ¬ (Among q items) → Among q (p ∷ above) → ⊥
  new_one h c m a = not_twice h (parent_above h a m c)

  module _ (items : List ℕ) where
    abbrev Goes : ℕ → Type 0
    Goes n = (unseen above : List ℕ) (p : ℕ) (xs : List ℕ) → length unseen ≡ n → Seen atoms items few unseen (p ∷ above) → Path atoms items p above
        → (ts : FoldedTerms) × ShowsAll (λ x. x) atoms items p 0 xs ts

    module _ (n : ℕ) (again : (m : ℕ) → suc m ≡ n → Goes m) (unseen above : List ℕ) (p : ℕ) (size : length unseen ≡ n) (all : Seen atoms items few unseen (p ∷ above)) (path : Path atoms items p above) where
      split : (q : ℕ) (rest : List ℕ) → ((v : ℕ) → v ≢ q → Among v unseen → Among v rest) → (v : ℕ) → Among v (p ∷ above) ⊎ Among v unseen → (v ≡ q) ⊎ (v ≢ q)
          → Among v (q ∷ p ∷ above) ⊎ Among v rest
      split q rest f v h (inl e) = let P : ℕ → Type 0 = λ z. Among z (q ∷ p ∷ above) in inl (subst P (sym e) at_head)
      split q rest f v (inl a) (inr d) = inl (further a)
      split q rest f v (inr a) (inr d) = inr (f v d a)

      one_port : (k x : ℕ) → (t : FoldedTerm) × Shows (λ x. x) atoms items p k x t
      one_port k x = go (child_at atoms p k)
        where
          as_one : (q : ℕ) (c : IsChild atoms q p k) → ¬ (Among q items) → Among q (p ∷ above) ⊎ Among q unseen → (t : FoldedTerm) × Shows (λ x. x) atoms items p k x t
          as_one q c m (inl a) = absurd (new_one path c m a)
          as_one q c m (inr a) =
              let left = taken_out q unseen a in
              let inside = again (length left.0) (sym left.1 ∙ size) left.0 (p ∷ above) q c.first_links refl
              (λ v l. split q left.0 left.2 v (all v l) (same_or_apart v q)) (below path c m (λ b. new_one path c m b)) in
              (labelled c.child.label inside.0, as_term c m inside.1)

          by_item : (q : ℕ) (c : IsChild atoms q p k) → Decided (Among q items) → (t : FoldedTerm) × Shows (λ x. x) atoms items p k x t
          by_item q c (inl a) = let P : ℕ → Type 0 = λ z. Among z items in (link x, as_link (λ r d. subst P (one_child atoms q r p k few c d) a))
          by_item q c (inr m) = as_one q c m (all q (within atoms q c.child c.child_at))

          go : Decided ((q : ℕ) × IsChild atoms q p k) → (t : FoldedTerm) × Shows (λ x. x) atoms items p k x t
          go (inl h) = by_item h.0 h.1 (among h.0 items)
          go (inr m) = (link x, as_link (λ q c. absurd (m (q, c))))

      ports : (k : ℕ) (xs : List ℕ) → (ts : FoldedTerms) × ShowsAll (λ x. x) atoms items p k xs ts
      ports k [] = (no_term, folding.none)
      ports k (x ∷ xs) =
          let first = one_port k x in
          let others = ports (suc k) xs in
          (term_and first.0 others.0, folding.more first.1 others.1)

    goes : (n : ℕ) → Goes n
    goes zero unseen above p xs size all path = ports zero (λ m e. absurd (omega (arith, e))) unseen above p size all path 0 xs
    goes (suc n) unseen above p xs size all path =
        ports (suc n) (λ m e. let P : ℕ → Type 0 = Goes in subst P (suc_less atoms items few n m (sym e)) (goes n)) unseen above p size all path 0 xs

    item_shown : (p : ℕ) (xs : List ℕ) → Among p items → (ts : FoldedTerms) × ShowsAll (λ x. x) atoms items p 0 xs ts
    item_shown p xs a =
        goes (length (atom_positions atoms)) (atom_positions atoms) [] p xs refl
        (λ v h. inr (positions_all atoms items few 0 (length atoms) v (omega arith) (omega (arith, h)))) (start a)

    abbrev Below : List ℕ → Type 0
    Below qs = (v : ℕ) → Among v qs → v < length atoms

    items_shown : (ps : List ℕ) → ((v : ℕ) → Among v ps → Among v items) → Below ps → (is : List FoldedItem) × ShowsItems (λ x. x) atoms items ps is
    items_shown [] f l = ([], folding.none)
    items_shown (p ∷ ps) f l =
        let a = element atoms p (l p at_head) in
        let first = item_shown p a.0.links (f p at_head) in
        let others = items_shown ps (λ v a. f v (further a)) (λ v a. l v (further a)) in
        (record { label = a.0.label; arguments = first.0 } ∷ others.0, folding.more a.0 a.1 first.1 others.1)

  no_children : (qs : List ℕ) → (items : List ℕ) × NoChildren atoms qs items
  no_children [] = ([], folding.none)
  no_children (q ∷ qs) = go (parent atoms q) (no_children qs)
    where
      go : Decided ((p : ℕ) × ((k : ℕ) × IsChild atoms q p k)) → (items : List ℕ) × NoChildren atoms qs items → (items : List ℕ) × NoChildren atoms (q ∷ qs) items
      go (inl h) more = (more.0, folding.left h.0 h.1.0 h.1.1 more.1)
      go (inr m) more = (q ∷ more.0, folding.kept (λ p k c. m (p, (k, c))) more.1)

  further_items : (items qs : List ℕ) → Below items qs → (all : List ℕ) × Further atoms items qs all
  further_items items [] l = (items, folding.none)
  further_items items (q ∷ qs) l = go (from_item atoms items few q (l q at_head)) (λ is. further_items is qs (λ v a. l v (further a)))
    where
      go : Decided (FromItem atoms items few q) → ((is : List ℕ) → (all : List ℕ) × Further atoms is qs all) → (all : List ℕ) × Further atoms items (q ∷ qs) all
      go (inl h) more = let others = more items in (others.0, folding.printed h.0 h.1.0 h.1.1 others.1)
      go (inr m) more = let others = more (items ++ q ∷ []) in (others.0, folding.item (λ i a d. m (i, (a, d))) others.1)

  pub range_below : (k n v : ℕ) → Among v (range_with_len k n) → v < k + n
  range_below k zero v h = elim h [ ]
  range_below k (suc n) v at_head = omega arith
  range_below k (suc n) v (further h) = let l = range_below (k + 1) n v h in omega (arith, l)

  some_items : (items : List ℕ) × AreItems atoms items
  some_items =
      let firsts = no_children (atom_positions atoms) in
      let all = further_items firsts.0 (atom_positions atoms) (λ v a. let l = range_below 0 (length atoms) v a in omega (arith, l)) in
      (all.0, record { firsts = firsts.0; no_children = firsts.1; further = all.1 })

-- Items are positions of atoms.

-- what holds of some positions holds of those that are no children
pub kept_below : {atoms : List SolidAtom} {qs is : List ℕ} (P : ℕ → Type 0) → NoChildren atoms qs is → ((v : ℕ) → Among v qs → P v) → (v : ℕ) → Among v is → P v
kept_below P folding.none h v a = h v a
kept_below P (folding.kept n k) h v at_head = h v at_head
kept_below P (folding.kept n k) h v (further a) = kept_below P k (λ w b. h w (further b)) v a
kept_below P (folding.left p j c k) h v a = kept_below P k (λ w b. h w (further b)) v a

last_one : (P : ℕ → Type 0) (items : List ℕ) (q : ℕ) → P q → ((v : ℕ) → Among v items → P v) → (v : ℕ) → Among v (items ++ q ∷ []) → P v
last_one P [] q here h v at_head = here
last_one P [] q here h v (further a) = elim a [ ]
last_one P (i ∷ items) q here h v at_head = h v at_head
last_one P (i ∷ items) q here h v (further a) = last_one P items q here (λ w b. h w (further b)) v a

all_below : {atoms : List SolidAtom} {items qs all : List ℕ} (P : ℕ → Type 0) → Further atoms items qs all → ((v : ℕ) → Among v items → P v) → ((v : ℕ) → Among v qs → P v)
    → (v : ℕ) → Among v all → P v
all_below P folding.none h g v a = h v a
all_below P (folding.printed i a d k) h g v b = all_below P k h (λ w c. g w (further c)) v b
all_below P (folding.item {q = q} {so_far = items} n k) h g v b = all_below P k (last_one P items q (g q at_head) h) (λ w c. g w (further c)) v b

-- each item is one of the atoms
pub items_below : (atoms : List SolidAtom) (few : AtMostTwice atoms) (items : List ℕ) → AreItems atoms items → (v : ℕ) → Among v items → v < length atoms
items_below atoms few items h =
    let P : ℕ → Type 0 = λ v. v < length atoms in
    let here : (v : ℕ) → Among v (atom_positions atoms) → v < length atoms = λ v a. let l = range_below atoms few 0 (length atoms) v a in omega (arith, l) in
    all_below P h.further (kept_below P h.no_children here) here

mutual
  pub some_folded : (S : Region) → FewIn (region_process S) → (f : Folded) × Folds (λ x. x) S f
  some_folded (region atoms ms rs) few =
      let few_here : AtMostTwice atoms = λ x. let n = few x in omega (arith, n) in
      let few_inside : FewIn (together (regions_processes ms)) = λ x. let n = few x in omega (arith, n) in
      let items = some_items atoms few_here in
      let shown = items_shown atoms few_here items.0 items.0 (λ v a. a) (items_below atoms few_here items.0 items.1) in
      let inside = all_some_folded ms few_inside in
      (folded shown.0 inside.0 rs, folds {shown = shown.0} items.0 items.1 shown.1 inside.1)

  all_some_folded : (ms : Regions) → FewIn (together (regions_processes ms)) → (fs : FoldedMembranes) × FoldsAll (λ x. x) ms fs
  all_some_folded no_region few = (no_membrane, folding.none)
  all_some_folded (region_and r rs) few =
      let first : FewIn (region_process r) = λ x. let n = few x in omega (arith, n) in
      let others : FewIn (together (regions_processes rs)) = λ x. let n = few x in omega (arith, n) in
      let one = some_folded r first in
      let more = all_some_folded rs others in
      (membrane_and one.0 more.0, folding.more one.1 more.1)
