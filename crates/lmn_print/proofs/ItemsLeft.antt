-- The links of items get their numbers, item by item.
use Rattle.std.proofs.Common.{◌≡◌, ℕ, ◌+◌, ◌*◌, ◌<◌, ◌≤◌, ◌^◌, List, [], ◌∷◌, ◌++◌, length, Option, Some, None, IfSome, refl, sym, ap, ◌∙◌, subst, arith}
use Rattle.std.specs.Option.{option_map}
use Rattle.std.proofs.lemmas.List.{append-nil, append_assoc, length-append}
use Rattle.lmn_base.specs.Limits.{most_links}
use Rattle.lmn_base.specs.Links.{Numbers}
use Rattle.lmn_base.specs.declared.rule.RuleTree.{RuleTree}
use Rattle.lmn_congruence.specs.Rules.{Name}
use Rattle.lmn_print_folded.specs.Terms.{FoldedMembranes, membranes_links, renamed_membranes}
use Rattle.lmn_store_heap.specs.Heap.{Heap, IsMem, PortsUnmarked}
use Rattle.lmn_store_heap.specs.Lists.{from, after}
use Rattle.lmn_store_heap.specs.Solid.{IsNaming}
use Rattle.lmn_store_heap.specs.Sound.{Forest, flat, IsTree, Valid, AtMost}
use Rattle.lmn_store_heap.proofs.Trees.{root_first}
use Rattle.lmn_print_folding.specs.Marks.{Event, leaves, WalkMeets, link, term, end_of_term, end_of_item, links_met, atoms_left}
use Rattle.lmn_print_folding.proofs.NumberedWalks.{item_same, arguments_same, term_same}
use Rattle.lmn_print_folding.specs.Chosen.{items_in}
use Rattle.lmn_print_plain.specs.Numbers.{Remarks, GoOn}
use Rattle.lmn_print_plain.proofs.HeapSolids.{heaps_have_solids}
use Rattle.lmn_print_plain.proofs.MarkLemmas.{arity_same, link_same}
use Rattle.lmn_print_plain.proofs.NumberLemmas.{mark_high, go_none, go_more, go_as}
use Rattle.lmn_print_plain.proofs.SolidLinks.{numbers_below}
use Rattle.lmn_print.specs.Printed.{PrintsForest, IsNumberedBy}
use Rattle.lmn_print.specs.Walked.{printed_items, ItemsWalked, none, more, IsPrinted}
use Rattle.lmn_print.proofs.FewItemAtoms.{atoms_left_append, few_items_left}
use Rattle.lmn_print.proofs.FirstNumbers.{first_numbers, renamed_naming}
use Rattle.lmn_print.proofs.ItemsOnce.{printed_items_once, items_atoms}
use Rattle.lmn_print.proofs.RenamedForests.{forest_renamed, forest_told, items_same}
use Rattle.lmn_print.proofs.WalkedLinks.{met_append, forest_walked}
use Rattle.lmn_base.proofs.Common.{all_met}

left_parts : (es fs : List Event) → length (atoms_left (es ++ fs)) ≡ length (atoms_left es) + length (atoms_left fs)
left_parts es fs = ap length (atoms_left_append es fs) ∙ length-append (atoms_left es) (atoms_left fs)

-- other marks of ports don't change the walks
module _ (s t : Heap) (r : Remarks s t) where
  pub walk_same : (a i : ℕ) (es : List Event) → WalkMeets s a i es → WalkMeets t a i es
  walk_same a i _ (link {es = es} l n w) = link (subst (λ k. i < k) (sym (arguments_same s t r a)) l) (term_same s t r a i ∙ n) (walk_same a (i + 1) es w)
  walk_same a i _ (term {es = es} c l e w) = term c (subst (λ k. i < k) (sym (arguments_same s t r a)) l) (term_same s t r a i ∙ e) (walk_same c 0 es w)
  walk_same a i _ (end_of_term {es = es} p j e x ports l w) =
      end_of_term p j (e ∙ sym (arguments_same s t r a)) (item_same s t r a ∙ x) (subst (λ k. 0 < k) (sym (arity_same s t r a)) ports) (link_same s t r a i ∙ l) (walk_same p (j + 1) es w)
  walk_same a i _ (end_of_item e x) = end_of_item (e ∙ sym (arguments_same s t r a)) (item_same s t r a ∙ x)

  pub walked_same : (xs : List ℕ) (es : List Event) → ItemsWalked s xs es → ItemsWalked t xs es
  walked_same [] _ none = none
  walked_same (a ∷ xs) _ (more {fs = fs} es w h) = more es (walk_same a 0 (es ++ leaves a ∷ []) w) (walked_same xs fs h)

-- Parts of what walks meet.

walked_none : (s : Heap) (es : List Event) → ItemsWalked s [] es → es ≡ []
walked_none s _ none = refl

-- walks over two lists of items, one after the other
pub record Parts (s : Heap) (xs ys : List ℕ) (es : List Event) : Type 0 where
  pub first : List Event
  pub rest : List Event
  pub whole : es ≡ first ++ rest
  pub first_walked : ItemsWalked s xs first
  pub rest_walked : ItemsWalked s ys rest

parts : (s : Heap) (xs ys zs : List ℕ) (es : List Event) → zs ≡ xs ++ ys → ItemsWalked s zs es → Parts s xs ys es
parts s [] ys zs es e w = record { first = []; rest = es; whole = refl; first_walked = none; rest_walked = subst (λ xs. ItemsWalked s xs es) e w }
parts s (x ∷ xs) ys [] es e w = absurd (cc e)
parts s (x ∷ xs) ys (a ∷ zs) _ e (more {fs = fs} es w h) =
    let same : a ≡ x = cc e in
    let behind : zs ≡ xs ++ ys = cc e in
    let p = parts s xs ys zs fs behind h in
    record {
      first = (es ++ leaves a ∷ []) ++ p.first;
      rest = p.rest;
      whole = ap (λ gs. (es ++ leaves a ∷ []) ++ gs) p.whole ∙ sym (append_assoc (es ++ leaves a ∷ []) p.first p.rest);
      first_walked = subst (λ b. ItemsWalked s (b ∷ xs) ((es ++ leaves a ∷ []) ++ p.first)) same (more es w p.first_walked);
      rest_walked = p.rest_walked;
    }

one_item : (s : Heap) (a : ℕ) (xs : List ℕ) (es : List Event) → xs ≡ a ∷ [] → ItemsWalked s xs es → (ws : List Event) × WalkMeets s a 0 ws × (es ≡ ws ++ [])
one_item s a [] es e w = absurd (cc e)
one_item s a (b ∷ xs) _ e (more {fs = fs} es w h) =
    let same : b ≡ a = cc e in
    let behind : xs ≡ [] = cc e in
    let nothing : fs ≡ [] = walked_none s fs (subst (λ ys. ItemsWalked s ys fs) behind h) in
    (es ++ leaves b ∷ [], subst (λ c. WalkMeets s c 0 (es ++ leaves b ∷ [])) same w, ap (λ gs. (es ++ leaves b ∷ []) ++ gs) nothing)

-- Of some items those of a last part are left: n links have their numbers, those of the items before among them.
module _ (s : Heap) (count : ℕ) (all : List ℕ) where
  abbrev pub ItemsLeft : Heap → List ℕ → ℕ → Type 0
  ItemsLeft t left n = (es : List Event) → ItemsWalked s all es → (fs : List Event) × ItemsWalked s left fs × (done : (ℕ → ℕ → ℕ) → List ℕ)
      × ((name : ℕ → ℕ → ℕ) → done name ++ links_met fs name ≡ links_met es name) × GoOn s t count n done × (n + most_links * length (atoms_left fs) ≤ count + most_links * length (atoms_left es))

  pub left_first : (left : List ℕ) → left ≡ all → ItemsLeft s left count
  left_first left e es w = (es, subst (λ xs. ItemsWalked s xs es) (sym e) w, (λ name. []), (λ name. refl), go_none s count, omega arith)

  -- the first part of them is done
  pub left_more : (t u : Heap) (xs ys left : List ℕ) (n m : ℕ) → Remarks s t → ItemsLeft t left n → left ≡ xs ++ ys
      → ((ws : List Event) → ItemsWalked s xs ws → GoOn t u n m (links_met ws) × (m ≤ n + most_links * length (atoms_left ws))) → ItemsLeft u ys m
  left_more t u xs ys left n m r h e go es w =
      let l = h es w in
      let p = parts s xs ys left l.0 e l.1 in
      let g = go p.first p.first_walked in
      let few = l.5 in
      let low = g.1 in
      let parted : length (atoms_left l.0) ≡ length (atoms_left p.first) + length (atoms_left p.rest) = ap (λ gs. length (atoms_left gs)) p.whole ∙ left_parts p.first p.rest in (
        p.rest,
        p.rest_walked,
        (λ name. l.2 name ++ links_met p.first name),
        (λ name. append_assoc (l.2 name) (links_met p.first name) (links_met p.rest name)
            ∙ ap (λ zs. l.2 name ++ zs) (sym (met_append p.first p.rest name) ∙ ap (λ gs. links_met gs name) (sym p.whole)) ∙ l.3 name),
        go_more s t u count n m l.2 (links_met p.first) r l.4 g.0,
        omega (arith, few, low, parted),
      )

  -- there is room for the numbers of the first part
  pub left_room : (t : Heap) (xs ys left : List ℕ) (n : ℕ) (es : List Event) → ItemsLeft t left n → left ≡ xs ++ ys → ItemsWalked s all es → count + most_links * length (atoms_left es) < 2 ^ 56
      → (ws : List Event) × ItemsWalked s xs ws × (n + most_links * length (atoms_left ws) < 2 ^ 56)
  left_room t xs ys left n es h e w low =
      let l = h es w in
      let p = parts s xs ys left l.0 e l.1 in
      let few = l.5 in
      let parted : length (atoms_left l.0) ≡ length (atoms_left p.first) + length (atoms_left p.rest) = ap (λ gs. length (atoms_left gs)) p.whole ∙ left_parts p.first p.rest in
      (p.first, p.first_walked, omega (arith, few, low, parted))

  -- none is left
  pub left_last : (t : Heap) (left : List ℕ) (n : ℕ) → left ≡ [] → ItemsLeft t left n → (es : List Event) → ItemsWalked s all es → GoOn s t count n (links_met es) × (n ≤ count + most_links * length (atoms_left es))
  left_last t left n e h es w =
      let l = h es w in
      let nothing : l.0 ≡ [] = walked_none s l.0 (subst (λ xs. ItemsWalked s xs l.0) e l.1) in
      let few = l.5 in
      (go_as s t count n l.2 (links_met es) (λ name. sym (append-nil (l.2 name)) ∙ ap (λ gs. l.2 name ++ links_met gs name) (sym nothing) ∙ l.3 name) l.4, omega (arith, few))

-- Items by `first` and `next`.

-- the walk over the next item
pub next_walk : (s t : Heap) (count : ℕ) (all left rest : List ℕ) (a n : ℕ) (es : List Event) → Remarks s t → ItemsLeft s count all t left n → left ≡ a ∷ rest → ItemsWalked s all es → count + most_links * length (atoms_left es) < 2 ^ 56
    → (ws : List Event) × WalkMeets t a 0 ws × (n + most_links * length (atoms_left ws) < 2 ^ 56)
next_walk s t count all left rest a n es r h e w low =
    let room = left_room s count all t (a ∷ []) rest left n es h e w low in
    let one = one_item s a (a ∷ []) room.0 refl room.1 in
    let parted : length (atoms_left room.0) ≡ length (atoms_left one.0) = ap (λ gs. length (atoms_left gs)) (one.2 ∙ append-nil one.0) in
    let few = room.2 in
    (one.0, walk_same s t r a 0 one.0 one.1, omega (arith, few, parted))

-- the links of one item more have their numbers
pub next_done : (s t u : Heap) (count : ℕ) (all left rest : List ℕ) (a n m : ℕ) → Remarks s t → ItemsLeft s count all t left n → left ≡ a ∷ rest
    → ((ws : List Event) → WalkMeets t a 0 ws → GoOn t u n m (links_met ws)) → ((ws : List Event) → WalkMeets t a 0 ws → m ≤ n + most_links * length (atoms_left ws)) → ItemsLeft s count all u rest m
next_done s t u count all left rest a n m r h e go few =
    left_more s count all t u (a ∷ []) rest left n m r h e (λ ws w.
    let one = one_item s a (a ∷ []) ws refl w in
    let same : one.0 ≡ ws = sym (one.2 ∙ append-nil one.0) in
    let walk = walk_same s t r a 0 one.0 one.1 in
    subst (λ es. GoOn t u n m (links_met es) × (m ≤ n + most_links * length (atoms_left es))) same (go one.0 walk, few one.0 walk))

-- Membranes.

-- something is printed of the whole tree, and there is room for all numbers
pub record Room (s : Heap) (f : Forest) : Type 0 where
  pub events : List Event
  pub walked : ItemsWalked s (printed_items s (flat f)) events
  pub few : 0 + most_links * length (atoms_left events) < 2 ^ 56

few_numbers : (k : ℕ) → k ≤ 2 ^ 48 → 0 + most_links * k < 2 ^ 56
few_numbers k l = omega (arith, l)

-- the atoms that are printed have few ports
pub room : (s : Heap) → Valid s → AtMost (2 ^ 48) s → IsPrinted s → (f : Forest) → IsTree s f → Room s f
room s valid most printed f tree =
    let solid = heaps_have_solids s valid in
    let name = solid.1.name in
    let given = printed [] [] name solid.1.naming f tree in
    let w = forest_walked [] s name [] valid.sound.paired f given.0 given.1 in
    record {
      events = w.0;
      walked = w.1;
      few = few_numbers (length (atoms_left w.0)) (few_items_left s valid.sound.paired most (printed_items s (flat f)) w.0 (printed_items_once s valid.sound (flat f) tree.once) (items_atoms s valid.sound (flat f)) w.1);
    }

-- the items of all membranes are done: the marks tell numbers of the links that are printed
pub all_numbered : (s t : Heap) → Valid s → PortsUnmarked s → Remarks s t → (n : ℕ) (names : List Name) (table : List RuleTree) (name : ℕ → ℕ → ℕ) → IsNaming s name → (f : Forest)
    → ((es : List Event) → ItemsWalked s (printed_items s (flat f)) es → GoOn s t 0 n (links_met es)) → (given : FoldedMembranes) → PrintsForest names table s name f given → IsNumberedBy names table t f given
all_numbered s t valid unmarked r n names table name naming f go given printed =
    let first = first_numbers given in
    let other : ℕ → ℕ → ℕ = λ a i. first.to (name a i) in
    let renamed = forest_renamed names s name first.to printed in
    let links = membranes_links (renamed_membranes first.to given) in
    let w = forest_walked names s other table valid.sound.paired f (renamed_membranes first.to given) renamed in
    let numbers : Numbers 0 (links_met w.0 other ++ []) first.count = subst (λ xs. Numbers 0 xs first.count) (sym w.2 ∙ sym (append-nil (links_met w.0 other))) first.numbers in
    let told = go w.0 w.1 other (renamed_naming s name first.to first.apart naming) [] first.count numbers (λ a i l. unmarked a i l ∙ sym (mark_high 0 (other a i) (omega arith))) in
    let count : n ≡ first.count = all_met told.0 in
    record {
      to = first.to;
      one_to_one = λ x y a b e. first.apart x y e;
      count = first.count;
      by_first_occurrence = first.numbers;
      prints = forest_told names s t r other n told.1 renamed (λ x i. subst (λ k. x < k) (sym count) (numbers_below 0 first.count links x first.numbers i));
    }

-- what is printed of a membrane and of those behind it
pub next_items : (s : Heap) (m : ℕ) (next : Option ℕ) (ms : List ℕ) → from next ms ≡ after m ms → printed_items s (from (Some m) ms) ≡ items_in s m ++ printed_items s (from next ms)
next_items s m next ms e = ap (λ ns. items_in s m ++ printed_items s ns) (sym e)

-- the items of all membranes, from the root on
pub root_items : (s : Heap) (m : ℕ) (f : Forest) → IsTree s f → m ≡ s.root → printed_items s (from (Some m) (flat f)) ≡ printed_items s (flat f)
root_items s m f tree e = ap (λ k. printed_items s (from (Some k) (flat f))) e ∙ ap (printed_items s) (root_first s f tree).1

-- the same with other marks
pub walked_there : (s t : Heap) → Remarks s t → (m : ℕ) (es : List Event) → ItemsWalked s (items_in s m) es → ItemsWalked t (items_in t m) es
walked_there s t r m es w = subst (λ xs. ItemsWalked t xs es) (sym (items_same s t r m)) (walked_same s t r (items_in s m) es w)

-- the items behind one stay with other marks
pub items_behind : (s t : Heap) → Remarks s t → (m a : ℕ) (next : Option ℕ) → from next (items_in t m) ≡ after a (items_in t m) → from next (items_in s m) ≡ after a (items_in s m)
items_behind s t r m a next e = subst (λ xs. from next xs ≡ after a xs) (items_same s t r m) e

-- where nothing is next
pub none_next : {A : Type 0} (id : A → ℕ) (next : Option A) (xs : List ℕ) → ((a : A) → next ≡ Some a → ⊥) → from (option_map id next) xs ≡ []
none_next id None xs nothing = refl
none_next id (Some a) xs nothing = absurd (nothing a refl)

-- what holds of what is next
pub next_same : {A : Type 0} (id : A → ℕ) (P Q : ℕ → Type 0) → ((a : ℕ) → P a → Q a) → (next : Option A) → IfSome next (λ a. P (id a)) → IfSome next (λ a. Q (id a))
next_same id P Q f None h = tt
next_same id P Q f (Some a) h = f (id a) h

-- what is a membrane with other marks is one without
pub mem_before : (s t : Heap) → Remarks s t → (m : ℕ) → IsMem t m → IsMem s m
mem_before s t r m i = subst (λ (h : Heap). IsMem h m) r.is i
