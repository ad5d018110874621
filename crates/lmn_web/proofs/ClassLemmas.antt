-- Walks in the tree of the last atoms of the classes of a membrane.
use Rattle.std.proofs.Common.{◌≡◌, ◌==◌, ◌≤◌, ◌<◌, ◌+◌, ◌/◌, ℕ, zero, suc, Bool, true, false, List, [], ◌∷◌, if◌then◌else◌, length, length-append, map, Option, Some, None, IsSome, is_some, refl, sym, ap, subst, ◌∙◌, inl, inr, arith}
use Rattle.std.proofs.lemmas.Bool.{eqb-true}
use Rattle.std.proofs.lemmas.List.{length-map}
use Rattle.lmn_base.specs.Lists.{In}
use Rattle.lmn_base.proofs.Lists.{in_either}
use Rattle.lmn_base.proofs.Truth.{if_no}
use Rattle.lmn_store_heap.proofs.Pigeonholes.{not_longer}
use Rattle.lmn_web_cells.specs.Rows.{Row, items_in}
use Rattle.lmn_web_cells.specs.Cells.{HeldCell, cell_by, cells_by}
use Rattle.lmn_web_cells.specs.Runs.{link_in}
use Rattle.lmn_web_cells.proofs.CellRows.{if_yes}
use Rattle.lmn_web.specs.Classes.{AreAtoms, ClassTree, Bare, Fork, ClassPlace, Hung, lasts, top, IsTree, IsSorted, rest_at, is_odd, is_key, key_in, class_place, place_in, lowest, lowest_below}
use Rattle.lmn_web_cells.specs.Links.{EVEN, ODD, LEADERS}
use Rattle.lmn_web.specs.declared.kind.CellKind.TheVariants.{Atom}
use Rattle.lmn_web.specs.Kinds.{kind_by}
use Rattle.lmn_web.specs.Webs.{number_in}
use Rattle.lmn_web_cells.specs.Numbers.{KIND}
use Rattle.lmn_store_heap.proofs.ListLemmas.{in_left, in_right}
use Rattle.lmn_web.proofs.ClassTrees.{sorted_once}

-- How many cells a tree has

abbrev pub size : ClassTree → ℕ
size Bare = 0
size (Fork l a b) = suc (size a + size b)

-- how many hang there, down to a depth
abbrev pub bulk : (ℕ → Option HeldCell) → ℕ → Option ℕ → ℕ
bulk f zero o = 0
bulk f (suc n) None = 0
bulk f (suc n) (Some a) = suc (bulk f n (link_in f a EVEN) + bulk f n (link_in f a ODD))

-- that is how many the tree has
pub bulk_is : (f : ℕ → Option HeldCell) (n : ℕ) (first : Option ℕ) (t : ClassTree) → IsTree f first t → size t ≤ n → bulk f n first ≡ size t
bulk_is f n first Bare q l = subst (λ o. bulk f n o ≡ 0) (sym q) (none n)
  where
    none : (k : ℕ) → bulk f k None ≡ 0
    none zero = refl
    none (suc k) = refl
bulk_is f zero first (Fork x a b) q l = absurd (omega (arith, l))
bulk_is f (suc n) first (Fork x a b) q l =
    subst (λ o. bulk f (suc n) o ≡ suc (size a + size b)) (sym q.0) (λ i. suc (bulk_is f n (link_in f x EVEN) a q.2 (omega (arith, l)) i + bulk_is f n (link_in f x ODD) b q.3 (omega (arith, l)) i))

size_lasts : (t : ClassTree) → length (lasts t) ≡ size t
size_lasts Bare = refl
size_lasts (Fork l a b) = ap suc (length-append (lasts a) (lasts b) ∙ (λ i. size_lasts a i + size_lasts b i))

-- its cells are there
tree_alive : (f : ℕ → Option HeldCell) (first : Option ℕ) (t : ClassTree) → IsTree f first t → (l : ℕ) → In l (lasts t) → IsSome (f l)
tree_alive f first Bare q l i = absurd i
tree_alive f first (Fork x a b) q l (inl e) = subst (λ z. IsSome (f z)) e q.1
tree_alive f first (Fork x a b) q l (inr i) = elim (in_either l (lasts a) (lasts b) i) [ inl j ↦ tree_alive f (link_in f x EVEN) a q.2 l j | inr j ↦ tree_alive f (link_in f x ODD) b q.3 l j ]

-- a cell that is there has a row
row_in : (rows : List Row) (b : ℕ) → IsSome (cells_by rows b) → In b (map (λ (r : Row). r.at) rows)
row_in [] b s = absurd cc
row_in (r ∷ rows) b s = by (r.at == b) refl (λ q. row_in rows b q) s
  where
    by : (t : Bool) → (r.at == b) ≡ t → (IsSome (cells_by rows b) → In b (map (λ (r : Row). r.at) rows)) → IsSome (cell_by (if t then r.items else items_in rows b)) → In b (r.at ∷ map (λ (r : Row). r.at) rows)
    by true e rest q = inl (eqb-true r.at b e)
    by false e rest q = inr (rest q)

-- so there are no more than rows
pub tree_small : (rows : List Row) (first : Option ℕ) (d : ℕ) (t : ClassTree) → IsTree (cells_by rows) first t → IsSorted (cells_by rows) d t → size t ≤ length rows
tree_small rows first d t q s =
    let few = not_longer (lasts t) (map (λ (r : Row). r.at) rows) (sorted_once (cells_by rows) d t s) (λ l i. row_in rows l (tree_alive (cells_by rows) first t q l i)) in
    let long = length-map rows (λ (r : Row). r.at) in let all = size_lasts t in omega (arith, few, long, all)

-- one tree hangs at a link
pub same_trees : (f : ℕ → Option HeldCell) (first : Option ℕ) (t u : ClassTree) → IsTree f first t → IsTree f first u → t ≡ u
same_trees f first Bare Bare q r = refl
same_trees f first Bare (Fork l a b) q r = absurd (let e : None ≡ Some l = sym q ∙ r.0 in cc)
same_trees f first (Fork l a b) Bare q r = absurd (let e : None ≡ Some l = sym r ∙ q.0 in cc)
same_trees f first (Fork l a b) (Fork k x y) q r =
    let e : Some l ≡ Some k = sym q.0 ∙ r.0 in let s : l ≡ k = cc in
    (λ i. Fork (s i) (same_trees f (link_in f k EVEN) a x (subst (λ z. IsTree f (link_in f z EVEN) a) s q.2) r.2 i) (same_trees f (link_in f k ODD) b y (subst (λ z. IsTree f (link_in f z ODD) b) s q.3) r.3 i))

-- and begins with what hangs there
pub top_is : (f : ℕ → Option HeldCell) (first : Option ℕ) (t : ClassTree) → IsTree f first t → first ≡ top t
top_is f first Bare q = q
top_is f first (Fork l a b) q = q.0

-- Looking for a class

-- What is left of a search: from here on it gives what it gives from the start.
pub record Left (f : ℕ → Option HeldCell) (p : ℕ × ℕ) (m n holder link rest : ℕ) (at : Option ℕ) : Type 0 where
  pub depth : ℕ
  pub tree : ClassTree
  pub hangs : IsTree f at tree
  pub atoms : AreAtoms f (lasts tree)
  pub short : size tree ≤ n
  pub digits : rest ≡ rest_at p.0 depth
  pub same : (t : ClassTree) → IsTree f (link_in f m LEADERS) t → class_place f p holder link depth tree ≡ place_in f p m t

-- at the start
pub left_all : (f : ℕ → Option HeldCell) (p : ℕ × ℕ) (m n : ℕ) (t : ClassTree) → IsTree f (link_in f m LEADERS) t → AreAtoms f (lasts t) → size t ≤ n → Left f p m n m LEADERS p.0 (link_in f m LEADERS)
left_all f p m n t q k l = record { depth = 0; tree = t; hangs = q; atoms = k; short = l; digits = refl; same = λ u r. ap (place_in f p m) (same_trees f (link_in f m LEADERS) t u q r) }

-- the side on which a search goes on
abbrev pub side_of : ℕ → ℕ
side_of rest = if is_odd rest then ODD else EVEN

-- it is one of the first links
pub side_small : (rest k : ℕ) → k ≡ side_of rest → k < 7
side_small rest k e = by (is_odd rest) e
  where
    by : (b : Bool) → k ≡ (if b then ODD else EVEN) → k < 7
    by true s = omega (arith, s)
    by false s = omega (arith, s)

-- a cell that is passed
pub left_next : (f : ℕ → Option HeldCell) (p : ℕ × ℕ) (m n holder link rest c : ℕ) → Left f p m n holder link rest (Some c) → is_key (key_in f c) p ≡ false
    → Left f p m n c (side_of rest) (rest / 2) (link_in f c (side_of rest)) × (bulk f n (link_in f c (side_of rest)) < bulk f n (Some c))
left_next f p m n holder link rest c left other_class = by left.tree left.hangs left.atoms left.short left.same
  where
    by : (t : ClassTree) → IsTree f (Some c) t → AreAtoms f (lasts t) → size t ≤ n → ((u : ClassTree) → IsTree f (link_in f m LEADERS) u → class_place f p holder link left.depth t ≡ place_in f p m u)
        → Left f p m n c (side_of rest) (rest / 2) (link_in f c (side_of rest)) × (bulk f n (link_in f c (side_of rest)) < bulk f n (Some c))
    by Bare q atoms short same = absurd (let e : ◌≡◌ {A = Option ℕ} (Some c) None = q in cc)
    by (Fork x a b) q atoms short same = go (is_odd rest) refl
      where
        s : x ≡ c
        s = let e : ◌≡◌ {A = Option ℕ} (Some c) (Some x) = q.0 in cc

        here : is_key (key_in f x) p ≡ false
        here = ap (λ z. is_key (key_in f z) p) s ∙ other_class

        whole : bulk f n (Some c) ≡ suc (size a + size b)
        whole = bulk_is f n (Some c) (Fork x a b) q short

        even : IsTree f (link_in f c EVEN) a
        even = subst (λ z. IsTree f (link_in f z EVEN) a) s q.2

        odd : IsTree f (link_in f c ODD) b
        odd = subst (λ z. IsTree f (link_in f z ODD) b) s q.3

        side : (o : Bool) → is_odd rest ≡ o → is_odd (rest_at p.0 left.depth) ≡ o
        side o e = ap is_odd (sym left.digits) ∙ e

        on : (o : Bool) → is_odd rest ≡ o → (u : ClassTree) → IsTree f (link_in f m LEADERS) u → (if o then class_place f p c ODD (suc left.depth) b else class_place f p c EVEN (suc left.depth) a) ≡ place_in f p m u
        on o e u r =
            subst (λ z. (if o then class_place f p z ODD (suc left.depth) b else class_place f p z EVEN (suc left.depth) a) ≡ place_in f p m u) s
            (subst (λ y. (if y then class_place f p x ODD (suc left.depth) b else class_place f p x EVEN (suc left.depth) a) ≡ place_in f p m u) (side o e)
            (sym (if_no (is_key (key_in f x) p) (record { holder = holder; link = link; depth = left.depth; tree = Fork x a b }) (if is_odd (rest_at p.0 left.depth) then class_place f p x ODD (suc left.depth) b else class_place f p x EVEN (suc left.depth) a) here) ∙ same u r))

        go : (o : Bool) → is_odd rest ≡ o → Left f p m n c (side_of rest) (rest / 2) (link_in f c (side_of rest)) × (bulk f n (link_in f c (side_of rest)) < bulk f n (Some c))
        go true e = subst (λ y. Left f p m n c (if y then ODD else EVEN) (rest / 2) (link_in f c (if y then ODD else EVEN)) × (bulk f n (link_in f c (if y then ODD else EVEN)) < bulk f n (Some c))) (sym e) (
          record { depth = suc left.depth; tree = b; hangs = odd; atoms = λ l i. atoms l (inr (in_right l (lasts a) (lasts b) i)); short = omega (arith, short); digits = ap (λ z. z / 2) left.digits; same = on true e },
          (let part = bulk_is f n (link_in f c ODD) b odd (omega (arith, short)) in omega (arith, part, whole)),
        )
        go false e = subst (λ y. Left f p m n c (if y then ODD else EVEN) (rest / 2) (link_in f c (if y then ODD else EVEN)) × (bulk f n (link_in f c (if y then ODD else EVEN)) < bulk f n (Some c))) (sym e) (
          record { depth = suc left.depth; tree = a; hangs = even; atoms = λ l i. atoms l (inr (in_left l (lasts a) (lasts b) i)); short = omega (arith, short); digits = ap (λ z. z / 2) left.digits; same = on false e },
          (let part = bulk_is f n (link_in f c EVEN) a even (omega (arith, short)) in omega (arith, part, whole)),
        )

-- where a search ends
abbrev pub EndsAt : (ℕ → Option HeldCell) → ℕ × ℕ → ℕ → ℕ → ℕ → Option ℕ → Type 0
EndsAt f p m holder link at = (t : ClassTree) → IsTree f (link_in f m LEADERS) t → let w = place_in f p m t in (holder ≡ w.holder) × (link ≡ w.link) × (at ≡ top w.tree)

-- one that is found
pub left_found : (f : ℕ → Option HeldCell) (p : ℕ × ℕ) (m n holder link rest c : ℕ) → Left f p m n holder link rest (Some c) → is_key (key_in f c) p ≡ true → EndsAt f p m holder link (Some c)
left_found f p m n holder link rest c left this_class u r = by left.tree left.hangs (left.same u r)
  where
    by : (t : ClassTree) → IsTree f (Some c) t → class_place f p holder link left.depth t ≡ place_in f p m u → (holder ≡ (place_in f p m u).holder) × (link ≡ (place_in f p m u).link) × (Some c ≡ top (place_in f p m u).tree)
    by Bare q same = absurd (let e : ◌≡◌ {A = Option ℕ} (Some c) None = q in cc)
    by (Fork x a b) q same =
        let e : ◌≡◌ {A = Option ℕ} (Some c) (Some x) = q.0 in let z : x ≡ c = cc in
        let w : record { holder = holder; link = link; depth = left.depth; tree = Fork x a b } ≡ place_in f p m u =
        sym (if_yes (is_key (key_in f x) p) (record { holder = holder; link = link; depth = left.depth; tree = Fork x a b }) (if is_odd (rest_at p.0 left.depth) then class_place f p x ODD (suc left.depth) b else class_place f p x EVEN (suc left.depth) a) (ap (λ y. is_key (key_in f y) p) z ∙ this_class)) ∙ same in
        (ap (λ (y : ClassPlace). y.holder) w, ap (λ (y : ClassPlace). y.link) w, e ∙ ap (λ (y : ClassPlace). top y.tree) w)

-- none is
pub left_none : (f : ℕ → Option HeldCell) (p : ℕ × ℕ) (m n holder link rest : ℕ) → Left f p m n holder link rest None → EndsAt f p m holder link None
left_none f p m n holder link rest left u r = by left.tree left.hangs (left.same u r)
  where
    by : (t : ClassTree) → IsTree f None t → class_place f p holder link left.depth t ≡ place_in f p m u → (holder ≡ (place_in f p m u).holder) × (link ≡ (place_in f p m u).link) × (None ≡ top (place_in f p m u).tree)
    by Bare q same = (ap (λ (y : ClassPlace). y.holder) same, ap (λ (y : ClassPlace). y.link) same, ap (λ (y : ClassPlace). top y.tree) same)
    by (Fork x a b) q same = absurd (let e : ◌≡◌ {A = Option ℕ} None (Some x) = q.0 in cc)

-- what hangs somewhere is there
pub hung_there : (f : ℕ → Option HeldCell) (c : ℕ) (t : ClassTree) → IsTree f (Some c) t → IsSome (f c)
hung_there f c Bare q = absurd (let e : ◌≡◌ {A = Option ℕ} (Some c) None = q in cc)
hung_there f c (Fork x a b) q = let e : ◌≡◌ {A = Option ℕ} (Some c) (Some x) = q.0 in let z : x ≡ c = cc in subst (λ u. IsSome (f u)) z q.1

-- the next to be looked at is there
pub left_there : (f : ℕ → Option HeldCell) (p : ℕ × ℕ) (m n holder link rest c : ℕ) → Left f p m n holder link rest (Some c) → IsSome (f c)
left_there f p m n holder link rest c left = hung_there f c left.tree left.hangs

-- and an atom
pub left_atom : (f : ℕ → Option HeldCell) (p : ℕ × ℕ) (m n holder link rest c : ℕ) → Left f p m n holder link rest (Some c) → kind_by (number_in f c KIND) ≡ Atom
left_atom f p m n holder link rest c left = by left.tree left.hangs left.atoms
  where
    by : (t : ClassTree) → IsTree f (Some c) t → AreAtoms f (lasts t) → kind_by (number_in f c KIND) ≡ Atom
    by Bare q atoms = absurd (let e : ◌≡◌ {A = Option ℕ} (Some c) None = q in cc)
    by (Fork x a b) q atoms = let e : ◌≡◌ {A = Option ℕ} (Some c) (Some x) = q.0 in let z : x ≡ c = cc in atoms c (inl z)

-- Looking for one with none below it

-- the first of two trees that has a cell, and its side
abbrev pub nearer : ClassTree → ClassTree → ClassTree
nearer Bare b = b
nearer (Fork l x y) b = Fork l x y

abbrev pub near_side : ClassTree → ℕ
near_side Bare = ODD
near_side (Fork l x y) = EVEN

-- what is found from there on, behind what was found so far
abbrev pub found_in : Hung → ℕ → ℕ → ClassTree → Hung
found_in last h k Bare = last
found_in last h k (Fork l x y) = lowest h k (Fork l x y)

-- what hangs on it is found
nearer_hangs : (f : ℕ → Option HeldCell) (c : ℕ) (a b : ClassTree) → IsTree f (link_in f c EVEN) a → IsTree f (link_in f c ODD) b → IsTree f (link_in f c (near_side a)) (nearer a b) × (near_side a ≡ (if is_some (link_in f c EVEN) then EVEN else ODD))
nearer_hangs f c Bare b q r = (r, ap (λ (o : Option ℕ). if is_some o then EVEN else ODD) (sym q))
nearer_hangs f c (Fork l x y) b q r = (q, ap (λ (o : Option ℕ). if is_some o then EVEN else ODD) (sym q.0))

nearer_size : (a b : ClassTree) → size (nearer a b) ≤ size a + size b
nearer_size Bare b = omega arith
nearer_size (Fork l x y) b = omega arith

-- a step down
lowest_step : (h k l : ℕ) (a b : ClassTree) → lowest h k (Fork l a b) ≡ found_in (record { holder = h; link = k; last = Some l }) l (near_side a) (nearer a b)
lowest_step h k l Bare Bare = refl
lowest_step h k l Bare (Fork r x y) = refl
lowest_step h k l (Fork r x y) b = refl

-- the first one
lowest_first : (c : ℕ) (a b : ClassTree) → found_in (record { holder = c; link = near_side a; last = top (nearer a b) }) c (near_side a) (nearer a b) ≡ lowest_below c a b
lowest_first c Bare Bare = refl
lowest_first c Bare (Fork r x y) = refl
lowest_first c (Fork r x y) b = refl

-- it is there, and so is what holds it
hung_lowest : (f : ℕ → Option HeldCell) (h k : ℕ) (t : ClassTree) → IsTree f (link_in f h k) t → IsSome (f h) → k < 7 → (l : ℕ) → (lowest h k t).last ≡ Some l → IsSome (f l) × IsSome (f (lowest h k t).holder) × ((lowest h k t).link < 7)
hung_lowest f h k Bare q s small l e = absurd cc
hung_lowest f h k (Fork r Bare Bare) q s small l e = (subst (λ z. IsSome (f z)) (let w : r ≡ l = cc in w) q.1, s, small)
hung_lowest f h k (Fork r Bare (Fork x y z)) q s small l e = hung_lowest f r ODD (Fork x y z) q.3 q.1 (omega arith) l e
hung_lowest f h k (Fork r (Fork x y z) b) q s small l e = hung_lowest f r EVEN (Fork x y z) q.2 q.1 (omega arith) l e

pub lowest_there : (f : ℕ → Option HeldCell) (c : ℕ) (a b : ClassTree) → IsTree f (link_in f c EVEN) a → IsTree f (link_in f c ODD) b → IsSome (f c) → (l : ℕ) → (lowest_below c a b).last ≡ Some l → IsSome (f l) × IsSome (f (lowest_below c a b).holder) × ((lowest_below c a b).link < 7)
lowest_there f c Bare b q r s l e = hung_lowest f c ODD b r s (omega arith) l e
lowest_there f c (Fork x y z) b q r s l e = hung_lowest f c EVEN (Fork x y z) q s (omega arith) l e

-- What is left of it: from here on it gives what it gives from the start.
pub record Down (f : ℕ → Option HeldCell) (c n : ℕ) (last next : Hung) : Type 0 where
  pub tree : ClassTree
  pub hangs : IsTree f next.last tree
  pub short : size tree ≤ n
  pub same : (a b : ClassTree) → IsTree f (link_in f c EVEN) a → IsTree f (link_in f c ODD) b → found_in last next.holder next.link tree ≡ lowest_below c a b

-- what hangs below a cell, as it is read
pub record Below (f : ℕ → Option HeldCell) (c : ℕ) (w : Hung) : Type 0 where
  pub holder : w.holder ≡ c
  pub link : w.link ≡ (if is_some (link_in f c EVEN) then EVEN else ODD)
  pub last : w.last ≡ link_in f c w.link

-- it is the nearer one
below_is : (f : ℕ → Option HeldCell) (c : ℕ) (w : Hung) (a b : ClassTree) → Below f c w → IsTree f (link_in f c EVEN) a → IsTree f (link_in f c ODD) b → w ≡ record { holder = c; link = near_side a; last = top (nearer a b) }
below_is f c w a b r q s =
    let n = nearer_hangs f c a b q s in let side : w.link ≡ near_side a = r.link ∙ sym n.1 in
    λ i. record { holder = r.holder i; link = side i; last = (r.last ∙ ap (link_in f c) side ∙ top_is f (link_in f c (near_side a)) (nearer a b) n.0) i }

-- at the start
pub down_all : (f : ℕ → Option HeldCell) (c n : ℕ) (a b : ClassTree) → IsTree f (link_in f c EVEN) a → IsTree f (link_in f c ODD) b → size a ≤ n → size b ≤ n → (w : Hung) → Below f c w → Down f c n w w
down_all f c n a b q r la lb w below =
    subst (λ (y : Hung). Down f c n y y) (sym (below_is f c w a b below q r)) record {
      tree = nearer a b;
      hangs = subst (λ o. IsTree f o (nearer a b)) (top_is f (link_in f c (near_side a)) (nearer a b) (nearer_hangs f c a b q r).0) (nearer_hangs f c a b q r).0;
      short = by a la;
      same = λ x y s t. lowest_first c a b ∙ (λ i. lowest_below c (same_trees f (link_in f c EVEN) a x q s i) (same_trees f (link_in f c ODD) b y r t i));
    }
  where
    by : (x : ClassTree) → size x ≤ n → size (nearer x b) ≤ n
    by Bare l = lb
    by (Fork l x y) k = k

-- a step
pub down_next : (f : ℕ → Option HeldCell) (c n d : ℕ) (last next w : Hung) → Down f c n last next → next.last ≡ Some d → Below f d w → Down f c n next w × (bulk f n w.last < bulk f n next.last)
down_next f c n d last next w down is below = by down.tree (subst (λ o. IsTree f o down.tree) is down.hangs) down.short down.same
  where
    by : (t : ClassTree) → IsTree f (Some d) t → size t ≤ n → ((a b : ClassTree) → IsTree f (link_in f c EVEN) a → IsTree f (link_in f c ODD) b → found_in last next.holder next.link t ≡ lowest_below c a b) → Down f c n next w × (bulk f n w.last < bulk f n next.last)
    by Bare q short same = absurd (let e : ◌≡◌ {A = Option ℕ} (Some d) None = q in cc)
    by (Fork x a b) q short same =
        let e : ◌≡◌ {A = Option ℕ} (Some d) (Some x) = q.0 in let s : x ≡ d = cc in
        let even : IsTree f (link_in f d EVEN) a = subst (λ z. IsTree f (link_in f z EVEN) a) s q.2 in
        let odd : IsTree f (link_in f d ODD) b = subst (λ z. IsTree f (link_in f z ODD) b) s q.3 in
        let hangs = nearer_hangs f d a b even odd in
        let top_there : IsTree f (top (nearer a b)) (nearer a b) = subst (λ o. IsTree f o (nearer a b)) (top_is f (link_in f d (near_side a)) (nearer a b) hangs.0) hangs.0 in
        let few = nearer_size a b in
        let whole : bulk f n next.last ≡ suc (size a + size b) = ap (bulk f n) is ∙ bulk_is f n (Some d) (Fork x a b) q short in
        let part : bulk f n (top (nearer a b)) ≡ size (nearer a b) = bulk_is f n (top (nearer a b)) (nearer a b) top_there (omega (arith, few, short)) in
        let now : next ≡ record { holder = next.holder; link = next.link; last = Some x } = (λ i. record { holder = next.holder; link = next.link; last = (is ∙ e) i }) in
        subst (λ (y : Hung). Down f c n next y × (bulk f n y.last < bulk f n next.last)) (sym (below_is f d w a b below even odd)) (
          record {
            tree = nearer a b;
            hangs = top_there;
            short = omega (arith, few, short);
            same = λ y z u v. (λ i. found_in (now i) (sym s i) (near_side a) (nearer a b)) ∙ sym (lowest_step next.holder next.link x a b) ∙ same y z u v;
          },
          omega (arith, few, part, whole),
        )

-- its end
pub down_none : (f : ℕ → Option HeldCell) (c n : ℕ) (last next : Hung) → Down f c n last next → next.last ≡ None → (a b : ClassTree) → IsTree f (link_in f c EVEN) a → IsTree f (link_in f c ODD) b → last ≡ lowest_below c a b
down_none f c n last next down is a b q r = by down.tree (subst (λ o. IsTree f o down.tree) is down.hangs) (down.same a b q r)
  where
    by : (t : ClassTree) → IsTree f None t → found_in last next.holder next.link t ≡ lowest_below c a b → last ≡ lowest_below c a b
    by Bare s same = same
    by (Fork x y z) s same = absurd (let e : ◌≡◌ {A = Option ℕ} None (Some x) = s.0 in cc)

-- the next to be looked at is there
pub down_there : (f : ℕ → Option HeldCell) (c n d : ℕ) (last next : Hung) → Down f c n last next → next.last ≡ Some d → IsSome (f d)
down_there f c n d last next down is = hung_there f d down.tree (subst (λ o. IsTree f o down.tree) is down.hangs)
