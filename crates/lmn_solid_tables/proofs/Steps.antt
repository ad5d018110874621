-- One round of each loop that builds the tables.
use Rattle.std.proofs.Common.{ℕ, zero, suc, true, false, ◌≡◌, ◌≢◌, ◌+◌, ◌-◌, ◌*◌, ◌<◌, ◌≤◌, ◌⊎◌, inl, inr, List, [], ◌∷◌, ◌++◌, length, map, take, drop, refl, sym, ap, subst, ◌∙◌, arith}
use Rattle.std.proofs.lemmas.Option.{get_or_from_slice_get, slice_get-get_or}
use Rattle.std.specs.Prelude.{Option, Some, None, ◌==◌, if◌then◌else◌, slice_get, slice_index_or, slice_set}
use Rattle.std.specs.List.{range_with_len}
use Rattle.std.specs.Option.{option_map}
use Rattle.std.proofs.lemmas.List.{append_assoc, length-append, length-map, length-set}
use Rattle.lmn_base.specs.Links.{Numbers, no_more, known, new}
use Rattle.lmn_base.specs.declared.solid.SolidAtom.{SolidAtom}
use Rattle.lmn_base.specs.declared.solid.Region.{Region}
use Rattle.lmn_base.specs.declared.solid.Region.TheFolds.{fold_out-Region}
use Rattle.lmn_base.specs.declared.solid.Region.TheViews.{out-Region}
use Rattle.lmn_base.proofs.Common.{numbers_head}
use Rattle.lmn_base.proofs.Lists.{drop_get, get_below, map_append, plus_nothing, get_set, get_set_away}
use Rattle.lmn_base.proofs.Numbers.{equal_itself, same_or_not, unequal}
use Rattle.lmn_solid_tables.specs.declared.tables.FlatAtom.{FlatAtom}
use Rattle.lmn_solid_tables.specs.declared.tables.FlatMembrane.{FlatMembrane}
use Rattle.lmn_solid_tables.specs.declared.tables.Port.{Port}
use Rattle.lmn_solid_tables.specs.Tables.{Rises, no_port}
use Rattle.lmn_solid_tables.specs.Building.{Trees, none, tree, in_front, trees_of, trees_step, size, Tables, added, visited, visited_waiting, waiting_size, entered, at_home, parent_by, child, children, with_inner, port_added, ports_added, all_ports_added, links_of_atoms, GoesOn}

-- ---- regions

-- a region in front of others, by its lists
pub trees_apart : (r : Region) (rest : Trees) → trees_of r rest ≡ tree (out-Region r).atoms (out-Region r).rules (in_front (map trees_of (out-Region r).membranes) none) rest
trees_apart r rest = ap (λ (f : Trees → Trees). f rest) (fold_out-Region (Trees → Trees) trees_step r)

visited_both : (ws vs : List (Region × ℕ)) (t : Tables) → visited_waiting (ws ++ vs) t ≡ visited_waiting ws (visited_waiting vs t)
visited_both [] vs t = refl
visited_both (w ∷ ws) vs t = ap (visited (trees_of w.0 none) w.1) (visited_both ws vs t)

-- one region and then others are those side by side
visited_next : (r : Region) (rest : Trees) (p : ℕ) (t : Tables) → visited (trees_of r rest) p t ≡ visited rest p (visited (trees_of r none) p t)
visited_next r rest p t =
    ap (λ ts. visited ts p t) (trees_apart r rest) ∙ sym (ap (λ ts. visited rest p (visited ts p t)) (trees_apart r none))

visited_inner : (n : ℕ) (rs : List Region) (t : Tables) → visited_waiting (entered n rs) t ≡ visited (in_front (map trees_of rs) none) n t
visited_inner n [] t = refl
visited_inner n (r ∷ rs) t =
    visited_both (entered n rs) ((r, n) ∷ []) t
    ∙ visited_inner n rs (visited (trees_of r none) n t)
    ∙ sym (visited_next r (in_front (map trees_of rs) none) n t)

-- a region that was waiting is added, and its membranes wait
pub visit_step : (ws : List (Region × ℕ)) (r : Region) (p : ℕ) (t : Tables) →
    visited_waiting (ws ++ entered (length t.membranes) (out-Region r).membranes) (added (out-Region r).atoms (out-Region r).rules p t) ≡ visited_waiting (ws ++ (r, p) ∷ []) t
visit_step ws r p t =
    let here = added (out-Region r).atoms (out-Region r).rules p t in
    visited_both ws (entered (length t.membranes) (out-Region r).membranes) here
    ∙ ap (visited_waiting ws) (visited_inner (length t.membranes) (out-Region r).membranes here ∙ sym (ap (λ ts. visited ts p t) (trees_apart r none)))
    ∙ sym (visited_both ws ((r, p) ∷ []) t)

size_both : (ws vs : List (Region × ℕ)) → waiting_size (ws ++ vs) ≡ waiting_size ws + waiting_size vs
size_both [] vs = omega arith
size_both (w ∷ ws) vs = omega (arith, size_both ws vs)

size_next : (r : Region) (rest : Trees) → size (trees_of r rest) ≡ size (trees_of r none) + size rest
size_next r rest =
    let a = ap size (trees_apart r rest) in
    let b = ap size (trees_apart r none) in
    omega (arith, a, b)

size_inner : (n : ℕ) (rs : List Region) → waiting_size (entered n rs) ≡ size (in_front (map trees_of rs) none)
size_inner n [] = refl
size_inner n (r ∷ rs) =
    let a = size_both (entered n rs) ((r, n) ∷ []) in
    let b = size_inner n rs in
    let c = size_next r (in_front (map trees_of rs) none) in
    omega (arith, a, b, c)

-- then fewer regions are left
pub size_step : (ws : List (Region × ℕ)) (r : Region) (p n : ℕ) → waiting_size (ws ++ entered n (out-Region r).membranes) < waiting_size (ws ++ (r, p) ∷ [])
size_step ws r p n =
    let a = size_both ws (entered n (out-Region r).membranes) in
    let b = size_both ws ((r, p) ∷ []) in
    let c = size_inner n (out-Region r).membranes in
    let d = ap size (trees_apart r none) in
    omega (arith, a, b, c, d)

-- the membranes from one on, the last one first, and then this one
pub entered_next : (n : ℕ) (rs : List Region) (i : ℕ) (r : Region) → slice_get rs i ≡ Some r → entered n (drop i rs) ≡ entered n (drop (i + 1) rs) ++ (r, n) ∷ []
entered_next n rs i r e = ap (entered n) (drop_get i rs r e)

-- ---- membranes in membranes

-- an item of the list once its inner lists are filled
pub filled_at : (start now : List FlatMembrane) (n m : ℕ) → ((m : ℕ) → slice_get now m ≡ option_map (with_inner (children start n m)) (slice_get start m)) → (x : FlatMembrane) → slice_get start m ≡ Some x → slice_get now m ≡ Some (with_inner (children start n m) x)
filled_at start now n m h x e = h m ∙ ap (option_map (with_inner (children start n m))) e

-- and what it was before
pub filled_from : (start now : List FlatMembrane) (n m : ℕ) → ((m : ℕ) → slice_get now m ≡ option_map (with_inner (children start n m)) (slice_get start m)) → (z : FlatMembrane) → slice_get now m ≡ Some z → (x : FlatMembrane) × (slice_get start m ≡ Some x) × (z ≡ with_inner (children start n m) x)
filled_from start now n m h z e = by_option (slice_get start m) refl (sym e ∙ h m)
  where
    by_option : (o : Option FlatMembrane) → slice_get start m ≡ o → Some z ≡ option_map (with_inner (children start n m)) o → (x : FlatMembrane) × (slice_get start m ≡ Some x) × (z ≡ with_inner (children start n m) x)
    by_option None d g = absurd (cc g)
    by_option (Some x) d g = (x, d, cc g)

module _ (start now : List FlatMembrane) (k : ℕ) (y : FlatMembrane) (below : suc k < length start) (rises : Rises start)
    (filled : (m : ℕ) → slice_get now m ≡ option_map (with_inner (children start (suc k) m)) (slice_get start m)) (is : y ≡ slice_index_or now (suc k) y) where
  there : (x : FlatMembrane) × (slice_get start (suc k) ≡ Some x)
  there = (slice_index_or start (suc k) y, slice_get-get_or start (suc k) y below)

  here : slice_get now (suc k) ≡ Some (with_inner (children start (suc k) (suc k)) there.0)
  here = filled_at start now (suc k) (suc k) filled there.0 there.1

  y_is : y ≡ with_inner (children start (suc k) (suc k)) there.0
  y_is = is ∙ get_or_from_slice_get now (suc k) _ y here

  parent_is : y.parent ≡ there.0.parent
  parent_is = ap (λ (x : FlatMembrane). x.parent) y_is

  pub parent_there : y.parent < length now
  parent_there =
      let p = rises k there.0 there.1 in
      let l = get_below now (suc k) _ here in
      omega (arith, p, l, parent_is)

  told : parent_by (slice_get start (suc k)) ≡ y.parent
  told = ap parent_by there.1 ∙ sym parent_is

  module _ (z : FlatMembrane) (inner : List ℕ) (z_is : z ≡ slice_index_or now y.parent z) (more : inner ≡ z.membranes ++ suc k ∷ []) where
    found : slice_get now y.parent ≡ Some z
    found = slice_get-get_or now y.parent z parent_there ∙ ap Some (sym z_is)

    abbrev pub changed : FlatMembrane
    changed = record { parent = z.parent; atoms = z.atoms; membranes = inner; rules = z.rules }

    before : (x : FlatMembrane) × (slice_get start y.parent ≡ Some x) × (z ≡ with_inner (children start (suc k) y.parent) x)
    before = filled_from start now (suc k) y.parent filled z found

    in_it : child start y.parent (suc k) ≡ suc k ∷ []
    in_it = ap (λ p. if p == y.parent then suc k ∷ [] else []) told ∙ ap (λ b. if b then suc k ∷ [] else []) (equal_itself y.parent)

    at_parent : slice_get (slice_set now y.parent changed) y.parent ≡ option_map (with_inner (children start (suc (suc k)) y.parent)) (slice_get start y.parent)
    at_parent =
        let e = more ∙ ap (λ (x : FlatMembrane). x.membranes ++ suc k ∷ []) before.2 ∙ ap (λ c. children start (suc k) y.parent ++ c) (sym in_it) in
        get_set now y.parent changed parent_there
        ∙ (λ i. Some (record { parent = (before.2 i).parent; atoms = (before.2 i).atoms; membranes = e i; rules = (before.2 i).rules }))
        ∙ sym (ap (option_map (with_inner (children start (suc (suc k)) y.parent))) before.1)

    not_in_it : (m : ℕ) → m ≢ y.parent → child start m (suc k) ≡ []
    not_in_it m n = ap (λ p. if p == m then suc k ∷ [] else []) told ∙ ap (λ b. if b then suc k ∷ [] else []) (unequal y.parent m (λ e. n (sym e)))

    elsewhere : (m : ℕ) → m ≢ y.parent → slice_get (slice_set now y.parent changed) m ≡ option_map (with_inner (children start (suc (suc k)) m)) (slice_get start m)
    elsewhere m n =
        get_set_away now y.parent changed m n
        ∙ filled m
        ∙ ap (λ c. option_map (with_inner c) (slice_get start m)) (sym (plus_nothing (children start (suc k) m)) ∙ ap (λ c. children start (suc k) m ++ c) (sym (not_in_it m n)))

    pub filled_next : (m : ℕ) → slice_get (slice_set now y.parent changed) m ≡ option_map (with_inner (children start (suc (suc k)) m)) (slice_get start m)
    filled_next m = by_place (same_or_not m y.parent)
      where
        by_place : (m ≡ y.parent) ⊎ (m ≢ y.parent) → slice_get (slice_set now y.parent changed) m ≡ option_map (with_inner (children start (suc (suc k)) m)) (slice_get start m)
        by_place (inl e) = subst (λ n. slice_get (slice_set now y.parent changed) n ≡ option_map (with_inner (children start (suc (suc k)) n)) (slice_get start n)) (sym e) at_parent
        by_place (inr n) = elsewhere m n

-- each membrane of the table has those of the first ones that stand in it
abbrev pub Filled : List FlatMembrane → List FlatMembrane → ℕ → Type 0
Filled start now n = (m : ℕ) → slice_get now m ≡ option_map (with_inner (children start n m)) (slice_get start m)

-- the membranes round membranes stay
pub rises_filled : (start now : List FlatMembrane) (n : ℕ) → Rises start → Filled start now n → Rises now
rises_filled start now n r f m x e = let g = filled_from start now n (suc m) f x e in subst (λ (y : FlatMembrane). y.parent < suc m) (sym g.2) (r m g.0 g.1)

-- the membrane round a membrane stands in the table
pub parent_inside : (start now : List FlatMembrane) (n : ℕ) (y : FlatMembrane) → 1 ≤ n → n < length start → Rises start → Filled start now n → y ≡ slice_index_or now n y → y.parent < length now
parent_inside start now zero y pos l r f is = absurd (omega (arith, pos))
parent_inside start now (suc k) y pos l r f is = parent_there start now k y l r f is

-- a membrane is put into the list of the one round it
pub inner_next : (start now : List FlatMembrane) (n : ℕ) (y z : FlatMembrane) (inner : List ℕ) → 1 ≤ n → n < length start → Rises start → Filled start now n → y ≡ slice_index_or now n y →
    z ≡ slice_index_or now y.parent z → inner ≡ z.membranes ++ n ∷ [] → Filled start (slice_set now y.parent (record { parent = z.parent; atoms = z.atoms; membranes = inner; rules = z.rules })) (n + 1)
inner_next start now zero y z inner pos l r f is there more = absurd (omega (arith, pos))
inner_next start now (suc k) y z inner pos l r f is there more =
    let s : suc (suc k) ≡ suc k + 1 = omega arith in
    subst (Filled start (slice_set now y.parent (record { parent = z.parent; atoms = z.atoms; membranes = inner; rules = z.rules }))) s (filled_next start now k y l r f is z inner there more)

-- ---- atoms

pub take_next : {A : Type 0} (xs : List A) (i : ℕ) (x : A) → slice_get xs i ≡ Some x → take (suc i) xs ≡ take i xs ++ x ∷ []
take_next [] i x e = absurd (cc e)
take_next (y ∷ xs) zero x e = ap (λ z. z ∷ []) (cc e)
take_next (y ∷ xs) (suc i) x e = ap (λ l. y ∷ l) (take_next xs i x e)

-- the atoms so far and one more
pub atoms_more : (h i : ℕ) (start now : List FlatAtom) (xs : List SolidAtom) (x : SolidAtom) (links : List ℕ) → i < length xs → x ≡ slice_index_or xs i x → links ≡ x.links →
    now ≡ start ++ map (at_home h) (take i xs) → now ++ record { functor = x.functor; links = links; home = h } ∷ [] ≡ start ++ map (at_home h) (take (i + 1) xs)
atoms_more h i start now xs x links l is e d =
    let t = take_next xs i x (slice_get-get_or xs i x l ∙ ap Some (sym is)) in
    let s : suc i ≡ i + 1 = omega arith in
    ap (λ ys. ys ++ record { functor = x.functor; links = links; home = h } ∷ []) d
    ∙ ap (λ ls. (start ++ map (at_home h) (take i xs)) ++ record { functor = x.functor; links = ls; home = h } ∷ []) e
    ∙ append_assoc start (map (at_home h) (take i xs)) (at_home h x ∷ [])
    ∙ ap (λ ys. start ++ ys) (sym (map_append (at_home h) (take i xs) (x ∷ [])))
    ∙ ap (λ ys. start ++ map (at_home h) ys) (sym t)
    ∙ ap (λ j. start ++ map (at_home h) (take j xs)) s

pub range_more : (a n : ℕ) → range_with_len a (suc n) ≡ range_with_len a n ++ (a + n) ∷ []
range_more a zero = let e : a ≡ a + 0 = omega arith in ap (λ b. b ∷ []) e
range_more a (suc n) = let e : a + 1 + n ≡ a + suc n = omega arith in ap (λ l. a ∷ l) (range_more (a + 1) n ∙ ap (λ b. range_with_len (a + 1) n ++ b ∷ []) e)

length_front : {A : Type 0} (i : ℕ) (xs : List A) → i < length xs → length (take i xs) ≡ i
length_front zero xs l = refl
length_front (suc i) [] l = absurd (omega (arith, l))
length_front (suc i) (x ∷ xs) l = ap suc (length_front i xs (omega (arith, l)))

-- the numbers of the atoms so far and one more
pub numbers_more : (h i n : ℕ) (start now : List FlatAtom) (xs : List SolidAtom) (ns : List ℕ) → i < length xs → now ≡ start ++ map (at_home h) (take i xs) → n ≡ length now →
    ns ≡ range_with_len (length start) i → ns ++ n ∷ [] ≡ range_with_len (length start) (i + 1)
numbers_more h i n start now xs ns l d e f =
    let c = ap length d ∙ length-append start (map (at_home h) (take i xs)) in
    let m = length-map (take i xs) (at_home h) in
    let t = length_front i xs l in
    let s : n ≡ length start + i = omega (arith, e, c, m, t) in
    let next : suc i ≡ i + 1 = omega arith in
    ap (λ ys. ys ++ n ∷ []) f
    ∙ ap (λ b. range_with_len (length start) i ++ b ∷ []) s
    ∙ sym (range_more (length start) i)
    ∙ ap (range_with_len (length start)) next

-- ---- what waits

module _ {B : Type 0} (f : B → Region × ℕ) where
  map_last : (xs : List B) (e : B) → map f (xs ++ e ∷ []) ≡ map f xs ++ f e ∷ []
  map_last xs e = map_append f xs (e ∷ [])

  -- a membrane more on the stack
  pub pushed : (former now start : List B) (e : B) (n i : ℕ) (ms : List Region) (r : Region) → now ≡ former ++ e ∷ [] → f e ≡ (r, n) → 0 < i → slice_get ms (i - 1) ≡ Some r →
      map f former ≡ map f start ++ entered n (drop i ms) → map f now ≡ map f start ++ entered n (drop (i - 1) ms)
  pushed former now start e n i ms r is of_e pos got d =
      let s : i - 1 + 1 ≡ i = omega (arith, pos) in
      ap (map f) is
      ∙ map_last former e
      ∙ ap (λ ys. ys ++ f e ∷ []) d
      ∙ ap (λ y. (map f start ++ entered n (drop i ms)) ++ y ∷ []) of_e
      ∙ append_assoc (map f start) (entered n (drop i ms)) ((r, n) ∷ [])
      ∙ ap (λ ys. map f start ++ ys) (ap (λ j. entered n (drop j ms) ++ (r, n) ∷ []) (sym s) ∙ sym (entered_next n ms (i - 1) r got))

  -- a round of the worklist gives the same tables
  pub visit_round : (former popped now : List B) (e : B) (r : Region) (p n : ℕ) (t u : Tables) → former ≡ popped ++ e ∷ [] → f e ≡ (r, p) → map f now ≡ map f popped ++ entered n (out-Region r).membranes → n ≡ length t.membranes →
      u ≡ added (out-Region r).atoms (out-Region r).rules p t → visited_waiting (map f now) u ≡ visited_waiting (map f former) t
  visit_round former popped now e r p n t u is of_e d c a =
      let before = ap (map f) is ∙ map_last popped e ∙ ap (λ y. map f popped ++ y ∷ []) of_e in
      ap (visited_waiting (map f now)) a
      ∙ ap (λ ws. visited_waiting ws (added (out-Region r).atoms (out-Region r).rules p t)) (d ∙ ap (λ m. map f popped ++ entered m (out-Region r).membranes) c)
      ∙ visit_step (map f popped) r p t
      ∙ sym (ap (λ ws. visited_waiting ws t) before)

  -- and leaves fewer regions
  pub smaller_round : (former popped now : List B) (e : B) (r : Region) (p n : ℕ) → former ≡ popped ++ e ∷ [] → f e ≡ (r, p) → map f now ≡ map f popped ++ entered n (out-Region r).membranes → waiting_size (map f now) < waiting_size (map f former)
  smaller_round former popped now e r p n is of_e d =
      let before = ap (map f) is ∙ map_last popped e ∙ ap (λ y. map f popped ++ y ∷ []) of_e in
      let a = ap waiting_size d in
      let b = ap waiting_size before in
      let c = size_step (map f popped) r p n in
      omega (arith, a, b, c)

-- ---- ports

pub length_two : {A : Type 0} (xs : List A) (x y : A) → length (xs ++ x ∷ y ∷ []) ≡ length xs + 2
length_two [] x y = refl
length_two (z ∷ xs) x y = omega (arith, length_two xs x y)

-- links go on behind a port
pub goes_next : (ports : List Port) (p : Port) (x : ℕ) (xs : List ℕ) → GoesOn ports (x ∷ xs) → GoesOn (port_added ports x p) xs
goes_next ports p x xs g = by_head (numbers_head g.3)
  where
    by_head : ((x < g.0) × Numbers g.0 xs g.1) ⊎ ((x ≡ g.0) × Numbers (suc g.0) xs g.1) → GoesOn (port_added ports x p) xs
    by_head (inl h) =
        let t : (2 * x == length ports) ≡ false = unequal (2 * x) (length ports) (λ e. omega (arith, e, h.0, g.2)) in
        (g.0, g.1, ap length (ap (λ b. if b then ports ++ p ∷ no_port ∷ [] else slice_set ports (2 * x + 1) p) t) ∙ length-set ports (2 * x + 1) p ∙ g.2, h.1)
    by_head (inr h) =
        let e : 2 * x ≡ length ports = omega (arith, h.0, g.2) in
        let t : (2 * x == length ports) ≡ true = ap (λ n. n == length ports) e ∙ equal_itself (length ports) in
        (suc g.0, g.1, ap length (ap (λ b. if b then ports ++ p ∷ no_port ∷ [] else slice_set ports (2 * x + 1) p) t) ∙ length_two ports p no_port ∙ omega (arith, g.2), h.1)

-- the first link that is left isn't beyond the next one
pub goes_at : (ports : List Port) (links : List ℕ) (i : ℕ) → i < length links → GoesOn ports (drop i links) → (n : ℕ) × (length ports ≡ 2 * n) × (slice_index_or links i 0 ≤ n)
goes_at ports links i l g =
    let e = drop_get i links (slice_index_or links i 0) (slice_get-get_or links i 0 l) in
    by_head (numbers_head (subst (λ xs. Numbers g.0 xs g.1) e g.3))
  where
    by_head : ((slice_index_or links i 0 < g.0) × Numbers g.0 (drop (i + 1) links) g.1) ⊎ ((slice_index_or links i 0 ≡ g.0) × Numbers (suc g.0) (drop (i + 1) links) g.1) → (n : ℕ) × (length ports ≡ 2 * n) × (slice_index_or links i 0 ≤ n)
    by_head (inl h) = (g.0, g.2, omega (arith, h.0))
    by_head (inr h) = (g.0, g.2, omega (arith, h.0))

module _ (ports ports' : List Port) (links : List ℕ) (a i x : ℕ) (l : i < length links) (is : x ≡ slice_index_or links i 0) (more : ports' ≡ port_added ports x (record { atom = a; index = i })) where
  left : drop i links ≡ x ∷ drop (i + 1) links
  left = drop_get i links x (slice_get-get_or links i 0 l ∙ ap Some (sym is))

  -- a port more
  pub ports_next : (all : List Port) → ports_added ports a i (drop i links) ≡ all → ports_added ports' a (i + 1) (drop (i + 1) links) ≡ all
  ports_next all e =
      let s : i + 1 ≡ suc i = omega arith in
      ap (λ ps. ports_added ps a (i + 1) (drop (i + 1) links)) more
      ∙ ap (λ j. ports_added (port_added ports x (record { atom = a; index = i })) a j (drop (i + 1) links)) s
      ∙ sym (ap (ports_added ports a i) left)
      ∙ e

  pub goes_on_next : GoesOn ports (drop i links) → GoesOn ports' (drop (i + 1) links)
  goes_on_next g = subst (λ ps. GoesOn ps (drop (i + 1) links)) (sym more) (goes_next ports (record { atom = a; index = i }) x (drop (i + 1) links) (subst (GoesOn ports) left g))

-- links go on behind those of an atom
goes_behind : (ports : List Port) (a i : ℕ) (xs ys : List ℕ) → GoesOn ports (xs ++ ys) → GoesOn (ports_added ports a i xs) ys
goes_behind ports a i [] ys g = g
goes_behind ports a i (x ∷ xs) ys g = goes_behind (port_added ports x (record { atom = a; index = i })) a (suc i) xs ys (goes_next ports (record { atom = a; index = i }) x (xs ++ ys) g)

numbers_front : {n m : ℕ} (xs ys : List ℕ) → Numbers n (xs ++ ys) m → (k : ℕ) × Numbers n xs k
numbers_front {n} [] ys h = (n, no_more)
numbers_front (x ∷ xs) ys (known l h) = let r = numbers_front xs ys h in (r.0, known l r.1)
numbers_front (x ∷ xs) ys (new h) = let r = numbers_front xs ys h in (r.0, new r.1)

module _ (ports ports' : List Port) (atoms : List FlatAtom) (i : ℕ) (x : FlatAtom) (links : List ℕ) (l : i < length atoms) (is : x ≡ slice_index_or atoms i x) (of_x : links ≡ x.links) where
  atoms_left : drop i atoms ≡ x ∷ drop (i + 1) atoms
  atoms_left = drop_get i atoms x (slice_get-get_or atoms i x l ∙ ap Some (sym is))

  goes_here : GoesOn ports (links_of_atoms (drop i atoms)) → GoesOn ports (links ++ links_of_atoms (drop (i + 1) atoms))
  goes_here g = subst (λ ls. GoesOn ports (ls ++ links_of_atoms (drop (i + 1) atoms))) (sym of_x) (subst (λ xs. GoesOn ports (links_of_atoms xs)) atoms_left g)

  -- the links of an atom go on with the next numbers
  pub goes_in : GoesOn ports (links_of_atoms (drop i atoms)) → GoesOn ports links
  goes_in g = let h = goes_here g in let r = numbers_front links (links_of_atoms (drop (i + 1) atoms)) h.3 in (h.0, r.0, h.2, r.1)

  module _ (more : ports' ≡ ports_added ports i 0 links) where
    -- the ports of one atom more
    pub atoms_next : (all : List Port) → all_ports_added ports i (drop i atoms) ≡ all → all_ports_added ports' (i + 1) (drop (i + 1) atoms) ≡ all
    atoms_next all e =
        let s : i + 1 ≡ suc i = omega arith in
        ap (λ ps. all_ports_added ps (i + 1) (drop (i + 1) atoms)) (more ∙ ap (ports_added ports i 0) of_x)
        ∙ ap (λ j. all_ports_added (ports_added ports i 0 x.links) j (drop (i + 1) atoms)) s
        ∙ sym (ap (all_ports_added ports i) atoms_left)
        ∙ e

    pub goes_on_atoms : GoesOn ports (links_of_atoms (drop i atoms)) → GoesOn ports' (links_of_atoms (drop (i + 1) atoms))
    goes_on_atoms g = subst (λ ps. GoesOn ps (links_of_atoms (drop (i + 1) atoms))) (sym more) (goes_behind ports i 0 links (links_of_atoms (drop (i + 1) atoms)) (goes_here g))
