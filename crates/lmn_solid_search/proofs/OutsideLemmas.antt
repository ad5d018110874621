-- Links that lead out, and membranes that hold no more than what is written.
use Rattle.std.proofs.Common.{◌≡◌, ◌≢◌, ◌∙◌, ◌⊎◌, ◌↔◌, ℕ, zero, suc, ◌+◌, ◌-◌, ◌<◌, ◌≤◌, if◌then◌else◌, Bool, true, false, IsTrue, not, nat_eq, List, [], ◌∷◌, length, map, take, drop, get_or, slice_get, slice_set, slice_index_or, Option, Some, None, is_some, refl, sym, ap, subst, inl, inr, arith}
use Rattle.std.specs.Option.{option_map, IsSome}
use Rattle.std.proofs.lemmas.Option.{same_Some, slice_get-get_or}
use Rattle.std.proofs.lemmas.Bool.{cases_eq}
use Rattle.lmn_base.specs.Lists.{In}
use Rattle.lmn_base.specs.Graphs.{Port}
use Rattle.lmn_base.proofs.Lists.{drop_get, get_there, get_below, get_index, get_set as get_set_here, get_set_away}
use Rattle.lmn_base.proofs.Numbers.{unequal}
use Rattle.lmn_store_heap.specs.Heap.{Heap, HeapAtom, IsAtom, IsMem, atoms_in, home_of, link_of, within}
use Rattle.lmn_store_heap.specs.Conditions.{Above}
use Rattle.lmn_store_heap.specs.Sound.{Valid}
use Rattle.lmn_store_heap.proofs.Common.{holds_mem}
use Rattle.lmn_store_heap.proofs.Listing.{home_place}
use Rattle.lmn_solid_heads.specs.Heads.{times}
use Rattle.lmn_solid_heads.specs.Embeddings.{StandsWithin}
use Rattle.lmn_solid_heads.proofs.Common.{times_append}
use Rattle.lmn_solid_search.specs.Walking.{IsMarked, AreBelow, IsBelow}
use Rattle.lmn_solid_search.specs.Placing.{links_in, times_in, inside_in, outermost_in, outermost_from, membrane_at, ArePlaced, LeadsOut, AtomLeadsOut}
use Rattle.lmn_solid_search.specs.declared.head.AtomItem.{AtomItem}
use Rattle.lmn_solid_search.specs.declared.head.MembraneItem.{MembraneItem}
use Rattle.lmn_solid_search.specs.declared.head.Head.{Head}
use Rattle.lmn_solid_search.specs.declared.placed.Placed.{Placed}
use Rattle.lmn_solid_search.proofs.WholeLemmas.{in_longer}
use Rattle.lmn_adequacy_heaps.proofs.OutOf.{index_in as item_in}

-- ---- counting

pub counted : (x found i : ℕ) (atoms : List AtomItem) (a d : AtomItem) (links : List ℕ) → i < length atoms → a ≡ get_or atoms i d → links ≡ a.links → found + times x (links_in (drop i atoms)) ≡ times x (links_in atoms)
    → (found + times x links) + times x (links_in (drop (i + 1) atoms)) ≡ times x (links_in atoms)
counted x found i atoms a d links l e is h =
    let front = drop_get i atoms (get_or atoms i d) (slice_get-get_or atoms i d l) in
    let all : times x (links_in (drop i atoms)) ≡ times x (get_or atoms i d).links + times x (links_in (drop (i + 1) atoms)) =
    ap (λ ys. times x (links_in ys)) front ∙ times_append x (get_or atoms i d).links (links_in (drop (i + 1) atoms)) in
    let same : times x links ≡ times x (get_or atoms i d).links = ap (times x) (is ∙ ap (λ (b : AtomItem). b.links) e) in
    omega (arith, all, same, h)

pub times_both : (x : ℕ) (head : Head) → times_in x head ≡ times x (links_in head.atoms) + times x (map (λ t. t.link) head.typed)
times_both x head = times_append x (links_in head.atoms) (map (λ t. t.link) head.typed)

-- ---- membranes

-- the membrane round a membrane
inner_there : (ns : List MembraneItem) (j : ℕ) (d : MembraneItem) → j < length ns → (get_or ns j d).inside ≡ slice_index_or (map (λ m. m.inside) ns) j 0
inner_there [] j d low = absurd (omega (arith, low))
inner_there (m ∷ ns) zero d low = refl
inner_there (m ∷ ns) (suc j) d low = inner_there ns j d (omega (arith, low))

pub inside_there : (ms : List MembraneItem) (k j : ℕ) (d : MembraneItem) → k ≢ 0 → j ≡ k - 1 → j < length ms → (get_or ms j d).inside ≡ inside_in ms k
inside_there ms zero j d n e l = absurd (n refl)
inside_there ms (suc k) j d n e l = let same : j ≡ k = omega (arith, e) in inner_there ms j d l ∙ ap (λ i. inside_in ms (suc i)) same

pub outer_more : (ms : List MembraneItem) (fuel rest k around top : ℕ) → fuel ≡ rest + 1 → around ≡ inside_in ms k → around ≢ 0 → outermost_from fuel ms k ≡ top → outermost_from rest ms around ≡ top
outer_more ms zero rest k around top e is n h = absurd (omega (arith, e))
outer_more ms (suc fuel) rest k around top e is n h =
    let same : rest ≡ fuel = omega (arith, e) in
    ap (λ r. outermost_from r ms around) same ∙ ap (outermost_from fuel ms) is ∙ sym (ap (λ (b : Bool). if b then k else outermost_from fuel ms (inside_in ms k)) (unequal (inside_in ms k) 0 (λ z. n (is ∙ z)))) ∙ h

-- ---- ports

-- a membrane that is marked is below
pub home_marked : (h : Heap) (outer : ℕ) (marks : List (Option ℕ)) (xs : List ℕ) (a n : ℕ) (has : Bool) → home_of h a ≡ Some n → n < length marks → ((m : Option ℕ) → slice_get marks n ≡ Some m → has ≡ is_some m)
    → AreBelow h (outer ∷ []) marks xs → (IsTrue has ↔ StandsWithin h a outer)
home_marked h outer marks xs a n has e low is b = (
  (λ z. from (by (get_there marks n low) z)),
  λ w. (let k : IsMarked marks n = b.tells.marked n (b.all n (into w)) in is (Some k.0) k.1),
)
  where
    by : ((m : Option ℕ) × (slice_get marks n ≡ Some m)) → has ≡ true → IsMarked marks n
    by (Some m, g) z = (m, g)
    by (None, g) z = let y = is None g in absurd (cc)

    from : IsMarked marks n → StandsWithin h a outer
    from k = let r = b.right n (b.tells.listed n k) in (n, r.1, e, one r.0 r.1 r.2 r.3)
      where
        one : (c j : ℕ) → In c (outer ∷ []) → Above h j c n → Above h j outer n
        one c j (inl same) up = subst (λ (z : ℕ). Above h j z n) (sym same) up
        one c j (inr none) up = absurd none

    into : StandsWithin h a outer → IsBelow h (outer ∷ []) n
    into (m, k, g, up) = (outer, k, inl refl, subst (λ (z : ℕ). Above h k outer z) (same_Some _ _ (sym g ∙ e)) up)

-- a port that is joined to no such atom
pub leads_out : (h : Heap) (a i : ℕ) (p : Port) (outer : ℕ) (has : Bool) → link_of h a i ≡ Some p → (IsTrue has ↔ StandsWithin h p.0 outer) → IsTrue (not has) ↔ ((q : Port) → link_of h a i ≡ Some q → StandsWithin h q.0 outer → ⊥)
leads_out h a i p outer true e w = ((λ z. absurd (cc)), λ f. absurd (f p e (w.0 refl)))
leads_out h a i p outer false e w = (
  (λ z q g s. (let same : q ≡ p = same_Some _ _ (sym g ∙ e) in let t : false ≡ true = w.1 (subst (λ (r : Port). StandsWithin h r.0 outer) same s) in absurd (cc))),
  λ f. refl,
)

-- one link more leads out,
module _ (P : ℕ → ℕ → Type 0) (links : List ℕ) (k : ℕ) (low : k < length links) where
  pub lead_more : P k (slice_index_or links k 0) → ((i x : ℕ) → i < k → slice_get links i ≡ Some x → P i x) → (i x : ℕ) → i < k + 1 → slice_get links i ≡ Some x → P i x
  lead_more here before i x l e = elim (cases_eq i k) [
    | inr apart ↦ before i x (omega (arith, l, apart)) e
    | inl same ↦ (
        let f : x ≡ slice_index_or links k 0 = same_Some _ _ (sym e ∙ ap (slice_get links) same ∙ get_index links k low) in
        subst (λ (z : ℕ). P z x) (sym same) (subst (P k) (sym f) here))
  ]

  -- or doesn't
  pub lead_in : ((i x : ℕ) → slice_get links i ≡ Some x → P i x) → P k (slice_index_or links k 0)
  lead_in f = f k (slice_index_or links k 0) (get_index links k low)

pub lead_all : (P : ℕ → ℕ → Type 0) (links : List ℕ) (k : ℕ) → length links ≤ k → ((i x : ℕ) → i < k → slice_get links i ≡ Some x → P i x) → (i x : ℕ) → slice_get links i ≡ Some x → P i x
lead_all P links k l f i x e = f i x (let b = get_below links i x e in omega (arith, b, l)) e

-- the same of the items of any list
module _ {A : Type 0} (P : ℕ → A → Type 0) (xs : List A) (k : ℕ) (a : A) (at : slice_get xs k ≡ Some a) where
  pub each_more : P k a → ((n : ℕ) (b : A) → n < k → slice_get xs n ≡ Some b → P n b) → (n : ℕ) (b : A) → n < k + 1 → slice_get xs n ≡ Some b → P n b
  each_more here before n b l e = elim (cases_eq n k) [
    | inr apart ↦ before n b (omega (arith, l, apart)) e
    | inl same ↦ (
        let f : b ≡ a = same_Some _ _ (sym e ∙ ap (slice_get xs) same ∙ at) in
        subst (λ (z : ℕ). P z b) (sym same) (subst (P k) (sym f) here))
  ]

pub each_all : {A : Type 0} (P : ℕ → A → Type 0) (xs : List A) (k : ℕ) → length xs ≤ k → ((n : ℕ) (b : A) → n < k → slice_get xs n ≡ Some b → P n b) → (n : ℕ) (b : A) → slice_get xs n ≡ Some b → P n b
each_all P xs k l f n b e = f n b (let m = get_below xs n b e in omega (arith, m, l)) e

-- ---- marks

pub is_marked : (marks : List (Option ℕ)) (n : ℕ) (has : Bool) → n < length marks → ((m : Option ℕ) → slice_get marks n ≡ Some m → has ≡ is_some m) → (IsTrue has ↔ IsMarked marks n)
is_marked marks n has low is = (
  (λ z. by (get_there marks n low) z),
  λ k. is (Some k.0) k.1,
)
  where
    by : ((m : Option ℕ) × (slice_get marks n ≡ Some m)) → has ≡ true → IsMarked marks n
    by (Some m, g) z = (m, g)
    by (None, g) z = let y = is None g in absurd (cc)

pub mark_more : (marks marks' marks'' : List (Option ℕ)) (xs : List ℕ) (i : ℕ) → i < length xs → slice_index_or xs i 0 < length marks' → marks'' ≡ slice_set marks' (slice_index_or xs i 0) (Some 0)
    → ((a : ℕ) → (IsMarked marks' a → IsMarked marks a ⊎ In a (take i xs)) × ((IsMarked marks a ⊎ In a (take i xs)) → IsMarked marks' a))
    → (a : ℕ) → (IsMarked marks'' a → IsMarked marks a ⊎ In a (take (i + 1) xs)) × ((IsMarked marks a ⊎ In a (take (i + 1) xs)) → IsMarked marks'' a)
mark_more marks marks' marks'' xs i low place is h a = (
  (λ k. elim (cases_eq a (slice_index_or xs i 0)) [
    | inl same ↦ inr (subst (λ (z : ℕ). In z (take (i + 1) xs)) (sym same) (here xs i low))
    | inr apart ↦ elim ((h a).0 (k.0, sym (get_set_away marks' (slice_index_or xs i 0) (Some 0) a apart) ∙ ap (λ ms. slice_get ms a) (sym is) ∙ k.1)) [ inl old ↦ inl old | inr j ↦ inr (further xs i j) ]
  ]),
  λ j. elim (cases_eq a (slice_index_or xs i 0)) [
    | inl same ↦ (0, ap (λ ms. slice_get ms a) is ∙ subst (λ (z : ℕ). slice_get (slice_set marks' (slice_index_or xs i 0) (Some 0)) z ≡ Some (Some 0)) (sym same) (get_set_here marks' (slice_index_or xs i 0) (Some 0) place))
    | inr apart ↦ (let k = (h a).1 (before apart j) in (k.0, ap (λ ms. slice_get ms a) is ∙ get_set_away marks' (slice_index_or xs i 0) (Some 0) a apart ∙ k.1))
  ],
)
  where
    here : (qs : List ℕ) (j : ℕ) → j < length qs → In (slice_index_or qs j 0) (take (j + 1) qs)
    here [] j l = absurd (omega (arith, l))
    here (q ∷ qs) zero l = inl refl
    here (q ∷ qs) (suc j) l = let e : suc (j + 1) ≡ suc j + 1 = omega arith in subst (λ (n : ℕ). In (slice_index_or qs j 0) (take n (q ∷ qs))) e (inr (here qs j (omega (arith, l))))

    further : (qs : List ℕ) (j : ℕ) → In a (take j qs) → In a (take (j + 1) qs)
    further [] zero k = absurd k
    further [] (suc j) k = absurd k
    further (q ∷ qs) zero k = absurd k
    further (q ∷ qs) (suc j) (inl e) = let e' : suc (j + 1) ≡ suc j + 1 = omega arith in subst (λ (n : ℕ). In a (take n (q ∷ qs))) e' (inl e)
    further (q ∷ qs) (suc j) (inr k) = let e' : suc (j + 1) ≡ suc j + 1 = omega arith in subst (λ (n : ℕ). In a (take n (q ∷ qs))) e' (inr (further qs j k))

    before : a ≢ slice_index_or xs i 0 → (IsMarked marks a ⊎ In a (take (i + 1) xs)) → IsMarked marks a ⊎ In a (take i xs)
    before apart (inl old) = inl old
    before apart (inr k) = elim (in_longer a xs i low k) [ inl j ↦ inr j | inr e ↦ absurd (apart (sym e)) ]

-- what stands in a membrane is an atom
pub atom_listed : (h : Heap) (m a : ℕ) → Valid h → In a (atoms_in h m) → IsAtom h a
atom_listed h m a v i = by (h.atoms a) ((v.sound.listed.atoms m a).0 i)
  where
    by : (o : Option HeapAtom) → option_map (λ x. x.place) o ≡ Some (within m) → IsSome o
    by None e = absurd (cc)
    by (Some x) e = refl

-- an atom stands in a membrane that is there
pub home_there : (h : Heap) (a n : ℕ) → Valid h → home_of h a ≡ Some n → IsMem h n
home_there h a n v e = holds_mem (h.mems n) a ((v.sound.listed.atoms n a).1 (home_place (h.atoms a) n e))

-- both counts together
pub once_both : (x : ℕ) (head : Head) (m n : ℕ) → m ≡ times x (links_in head.atoms) → n ≡ times x (map (λ t. t.link) head.typed) → (IsTrue (nat_eq (m + n) 1) → times_in x head ≡ 1) × (times_in x head ≡ 1 → IsTrue (nat_eq (m + n) 1))
once_both x head m n e g =
    let both = times_both x head in
    let all : m + n ≡ times_in x head = omega (arith, both, e, g) in
    ((λ z. by z (cases_eq (m + n) 1) all), λ z. ap (λ k. nat_eq k 1) (all ∙ z))
  where
    by : IsTrue (nat_eq (m + n) 1) → ((m + n ≡ 1) ⊎ (m + n ≢ 1)) → m + n ≡ times_in x head → times_in x head ≡ 1
    by z (inl same) all = sym all ∙ same
    by z (inr apart) all = let u = unequal (m + n) 1 apart in absurd (cc)

-- a link that stands once
pub once_leads : {A P : Type 0} {b : Bool} → A → (IsTrue b ↔ P) → (IsTrue b → A → P) × ((A → P) → IsTrue b)
once_leads a e = ((λ z _. e.0 z), λ f. e.1 (f a))

-- the image of a membrane is a membrane
pub image_there : (h : Heap) (p : Placed) (k outer m : ℕ) → ArePlaced h p → k ≤ length p.membranes → outer ≡ membrane_at p.home p.membranes k → In m (outer ∷ []) → IsMem h m
image_there h p k outer m are l e (inr none) = absurd none
image_there h p zero outer m are l e (inl same) = subst (IsMem h) (sym e ∙ same) are.home
image_there h p (suc k) outer m are l e (inl same) = subst (IsMem h) (sym e ∙ same) (are.membranes (slice_index_or p.membranes k 0) (item_in p.membranes k (omega (arith, l))))

-- an atom inside head membranes
pub atom_leads : (h : Heap) (head : Head) (a : AtomItem) (image : ℕ) (p : Placed) (k outer : ℕ) (b : Bool) (links : List ℕ) → k ≡ outermost_in head.membranes a.inside → outer ≡ membrane_at p.home p.membranes k → links ≡ a.links → a.inside ≢ 0
    → (IsTrue b ↔ LeadsOut h head links image outer) → (IsTrue b → AtomLeadsOut h head a image p) × (AtomLeadsOut h head a image p → IsTrue b)
atom_leads h head a image p k outer b links e is ls inside leads =
    let at : outer ≡ membrane_at p.home p.membranes (outermost_in head.membranes a.inside) = is ∙ ap (membrane_at p.home p.membranes) e in (
      (λ z _. subst (λ (xs : List ℕ). LeadsOut h head xs image (membrane_at p.home p.membranes (outermost_in head.membranes a.inside))) ls (subst (LeadsOut h head links image) at (leads.0 z))),
      λ f. leads.1 (subst (LeadsOut h head links image) (sym at) (subst (λ (xs : List ℕ). LeadsOut h head xs image (membrane_at p.home p.membranes (outermost_in head.membranes a.inside))) (sym ls) (f inside))),
    )
