-- Lemmas that several crates above cite.
use Rattle.lmn_base.specs.Lists.{In}
use Rattle.lmn_base.specs.declared.functor.Functor.{Functor}
use Rattle.lmn_store_heap.proofs.Listing.{alter_keeps}
use Rattle.lmn_store_heap.specs.Heap.{Heap, HeapAtom, home_by, home_of, place_of, within, IsAtom, arity_of, partners_of, IsInPlace, HeapMem, IsMem, IsMemInPlace, IsTopOrWithin, Place, gone, top, waiting, atoms_by, linked, cleared, marks_of, with_link, rules_by, alter, mem_with_atoms, link_of, functor_of, atoms_in, after, from, taken, taken_all, mems_in}
use Rattle.lmn_store_heap.specs.Lists.{without, without_all}
use Rattle.lmn_store_heap.specs.Solid.{links_from}
use Rattle.lmn_store_heap.specs.Sound.{Valid, Listed}
use Rattle.std.proofs.Common.{None, Option, Some, ap, ℕ, ◌≡◌, IsSome, arith, length, refl, ◌<◌, inl, inr, subst, sym, ◌⊎◌, List, [], ◌∷◌, slice_get, suc, zero, Bool, cond, false, true, ◌==◌, ◌+◌, map, replicate, ◌≢◌, ◌++◌, ◌∙◌}
use Rattle.std.proofs.lemmas.Bool.{cases_eq, eq-eqb}
use Rattle.std.proofs.lemmas.List.{length-set}
use Rattle.std.proofs.lemmas.Option.{none-some, same_Some}
use Rattle.std.specs.Option.{option_and_then, option_map}
use Rattle.std.specs.Prelude.{slice_index_or}

-- what stands in a membrane has that for its home
pub place_home : (s : Heap) (a m : ℕ) → place_of s a ≡ Some (within m) → home_of s a ≡ Some m
place_home s a m e = by (s.atoms a) e
  where
    by : (o : Option HeapAtom) → option_map (λ x. x.place) o ≡ Some (within m) → option_and_then (λ x. home_by x.place) o ≡ Some m
    by None e = absurd (cc)
    by (Some x) e = let w : x.place ≡ within m = (cc) in ap home_by w

-- where there is a port there is an atom
pub is_atom_at : (s : Heap) (a i : ℕ) → i < arity_of s a → IsAtom s a
is_atom_at s a i l = by (s.atoms a) l
  where
    by : (o : Option HeapAtom) → i < length (partners_of o) → IsSome o
    by None l = absurd (omega arith)
    by (Some x) l = refl

-- an atom in place is one
pub in_place_atom : (s : Heap) (a : ℕ) → IsInPlace s a → IsAtom s a
in_place_atom s a i = by (s.atoms a) i
  where
    by : (o : Option HeapAtom) → IsSome (option_and_then (λ x. home_by x.place) o) → IsSome o
    by None i = absurd (cc)
    by (Some x) i = refl

-- a heap is the same where its atoms are, number by number
pub same_atoms : (s : Heap) (f g : ℕ → Option HeapAtom) → ((a : ℕ) → f a ≡ g a) → record s { atoms = f } ≡ record s { atoms = g }
same_atoms s f g h = ap (λ (k : ℕ → Option HeapAtom). let t : Heap = record s { atoms = k } in t) (λ i a. h a i)

-- in a valid heap each membrane is in place
pub mem_stands : (h : Heap) → Valid h → (m : ℕ) → IsMem h m → IsMemInPlace h m
mem_stands h v m i = by (h.mems m) (v.settled.mems m i)
  where
    home : (p : Place) → IsSome (home_by p) → IsTopOrWithin (Some p)
    home top s = absurd (cc)
    home (within k) s = tt
    home waiting s = absurd (cc)
    home gone s = absurd (cc)

    by : (o : Option HeapMem) → (option_map (λ x. x.place) o ≡ Some top) ⊎ IsSome (option_and_then (λ x. home_by x.place) o) → IsTopOrWithin (option_map (λ x. x.place) o)
    by None (inl e) = absurd (cc)
    by None (inr s) = absurd (cc)
    by (Some x) (inl e) = subst IsTopOrWithin (sym e) tt
    by (Some x) (inr s) = home x.place s

-- a list in which no number stands is empty
pub nothing_in : (xs : List ℕ) → ((b : ℕ) → In b xs → ⊥) → xs ≡ []
nothing_in [] h = refl
nothing_in (x ∷ xs) h = absurd (h x (inl refl))

-- what stands at a place of a list stands in the list
pub in_at : (xs : List ℕ) (q a : ℕ) → slice_get xs q ≡ Some a → In a xs
in_at [] q a e = absurd (none-some a e)
in_at (x ∷ xs) zero a e = inl (same_Some x a e)
in_at (x ∷ xs) (suc q) a e = inr (in_at xs q a e)

-- what stands in a membrane, if it is there, has that for its home
pub home_placed : (o : Option HeapAtom) (m : ℕ) → option_map (λ x. x.place) o ≡ Some (within m) → option_and_then (λ x. home_by x.place) o ≡ Some m
home_placed None m e = absurd (cc)
home_placed (Some x) m e = let t : x.place ≡ within m = cc in ap home_by t

-- what has a partner or room for one is an atom
pub atom_with_links : (o : Option HeapAtom) (i : ℕ) → i < length (partners_of o) → IsSome o
atom_with_links None i l = absurd (omega (arith, l))
atom_with_links (Some x) i l = refl

-- what lists an atom is a membrane
pub holds_mem : (o : Option HeapMem) (a : ℕ) → In a (atoms_by o) → IsSome o
holds_mem None a p = absurd p
holds_mem (Some x) a p = refl

-- a number stands in a list or it doesn't
pub decide_in : (a : ℕ) (xs : List ℕ) → In a xs ⊎ (In a xs → ⊥)
decide_in a [] = inr (λ i. i)
decide_in a (x ∷ xs) = elim (cases_eq x a) [
  | inl e ↦ inl (inl e)
  | inr d ↦ elim (decide_in a xs) [ inl i ↦ inl (inr i) | inr o ↦ inr (λ j. elim j [ inl e ↦ d e | inr i ↦ o i ]) ]
]

-- what is left of a list without a number stood in it
pub in_of_without : (a b : ℕ) (xs : List ℕ) → In b (without a xs) → In b xs
in_of_without a b [] k = k
in_of_without a b (x ∷ xs) k = by (x == a) (in_of_without a b xs) k
  where
    by : (t : Bool) → (In b (without a xs) → In b xs) → In b (cond t xs (x ∷ without a xs)) → In b (x ∷ xs)
    by true later k = inr k
    by false later (inl e) = inl e
    by false later (inr k) = inr (later k)

-- of n ports from k on the one with number i has the name of its port
pub numbered_get : (name : ℕ → ℕ → ℕ) (a k n i : ℕ) → i < n → slice_get (links_from name a k n) i ≡ Some (name a (k + i))
numbered_get name a k zero i l = absurd (omega (arith, l))
numbered_get name a k (suc n) zero l = let z : k + 0 ≡ k = omega arith in rw z refl
numbered_get name a k (suc n) (suc i) l = let z : k + suc i ≡ (k + 1) + i = omega arith in rw z (numbered_get name a (k + 1) n i (omega (arith, l)))

-- as many names as ports
pub length_numbered : (name : ℕ → ℕ → ℕ) (a i n : ℕ) → length (links_from name a i n) ≡ n
length_numbered name a i zero = refl
length_numbered name a i (suc n) = ap suc (length_numbered name a (i + 1) n)

-- an atom keeps its marks when it is linked
pub linked_marks : (f : ℕ → Option HeapAtom) (a i : ℕ) (p : Option (ℕ × ℕ)) (b : ℕ) → marks_of (linked f a i p b) ≡ marks_of (f b)
linked_marks f a i p b = alter_keeps f a (option_map (with_link i p)) marks_of by b
  where
    by : (x : Option HeapAtom) → marks_of (option_map (with_link i p) x) ≡ marks_of x
    by None = refl
    by (Some x) = refl

-- and when a port loses its partner
pub cleared_marks : (f : ℕ → Option HeapAtom) (p : Option (ℕ × ℕ)) (b : ℕ) → marks_of (cleared f p b) ≡ marks_of (f b)
cleared_marks f None b = refl
cleared_marks f (Some p) b = linked_marks f p.0 p.1 None b

-- a membrane keeps its rules when its list of atoms changes
pub list_rules : (f : ℕ → Option HeapMem) (m : ℕ) (g : List ℕ → List ℕ) (k : ℕ) → rules_by (alter f m (option_map (mem_with_atoms g)) k) ≡ rules_by (f k)
list_rules f m g k = alter_keeps f m (option_map (mem_with_atoms g)) rules_by by k
  where
    by : (o : Option HeapMem) → rules_by (option_map (mem_with_atoms g) o) ≡ rules_by o
    by None = refl
    by (Some y) = refl

-- two ports that a link leads to are one
pub same_port : {b j c k : ℕ} → ◌≡◌ {A = Option (ℕ × ℕ)} (Some (b, j)) (Some (c, k)) → (b ≡ c) × (j ≡ k)
same_port e = (ap (λ o. (or_port o).0) e, ap (λ o. (or_port o).1) e)
  where
    or_port : Option (ℕ × ℕ) → ℕ × ℕ
    or_port None = (0, 0)
    or_port (Some p) = p

-- what has a partner is an atom
pub linked_atom : (h : Heap) (a i : ℕ) {p : ℕ × ℕ} → link_of h a i ≡ Some p → IsAtom h a
linked_atom h a i e = by (h.atoms a) e
  where
    by : (o : Option HeapAtom) {p : ℕ × ℕ} → slice_index_or (partners_of o) i None ≡ Some p → IsSome o
    by None e = absurd (cc)
    by (Some x) e = refl

-- the image of a number of a list is one of the images
pub in_map : (f : ℕ → ℕ) (x : ℕ) (xs : List ℕ) → In x xs → In (f x) (map f xs)
in_map f x [] i = absurd i
in_map f x (y ∷ ys) (inl e) = inl (ap f e)
in_map f x (y ∷ ys) (inr i) = inr (in_map f x ys i)

-- no partner
abbrev pub no_port : Option (ℕ × ℕ)
no_port = None

-- none of n ports without partners has one
pub no_links : (n i : ℕ) → slice_index_or (replicate n no_port) i None ≡ None
no_links zero i = refl
no_links (suc n) zero = refl
no_links (suc n) (suc i) = no_links n i

-- an element of a list has a position
pub position : (xs : List ℕ) (a : ℕ) → In a xs → (q : ℕ) × (slice_get xs q ≡ Some a)
position [] a h = absurd h
position (x ∷ xs) a (inl e) = (zero, ap Some e)
position (x ∷ xs) a (inr h) = let q = position xs a h in (suc q.0, q.1)

-- an atom that is there isn't one that isn't
pub is_not : (s : Heap) (a b : ℕ) → IsAtom s a → s.atoms b ≡ None → a ≢ b
is_not s a b is none e = by (s.atoms b) (subst (λ (z : ℕ). IsAtom s z) e is) none
  where
    by : (o : Option HeapAtom) → IsSome o → o ≡ None → ⊥
    by None i f = absurd (cc)
    by (Some h) i f = absurd (cc)

-- an atom that is there has a functor
pub has_functor : (s : Heap) (x : ℕ) → IsAtom s x → (f : Functor) × (functor_of s x ≡ Some f)
has_functor s x is = by (s.atoms x) is
  where
    by : (o : Option HeapAtom) → IsSome o → (f : Functor) × (option_map (λ (h : HeapAtom). h.functor) o ≡ Some f)
    by None i = absurd (cc)
    by (Some h) i = (h.functor, refl)

-- what stands in a list of atoms is an atom
pub listed_atom : (s : Heap) → Listed s → (m a : ℕ) → In a (atoms_in s m) → IsAtom s a
listed_atom s listed m a i = by (s.atoms a) ((listed.atoms m a).0 i)
  where
    by : (o : Option HeapAtom) → option_map (λ x. x.place) o ≡ Some (within m) → IsSome o
    by None e = absurd (cc)
    by (Some x) e = refl

-- taking out two lists is taking out one after the other
pub all_more : (bs cs xs : List ℕ) → without_all (bs ++ cs) xs ≡ without_all cs (without_all bs xs)
all_more [] cs xs = refl
all_more (b ∷ bs) cs xs = all_more bs cs (without b xs)

-- without one that stands in it a list is one shorter
pub shorter_without : (a : ℕ) (xs : List ℕ) → In a xs → suc (length (without a xs)) ≡ length xs
shorter_without a [] i = absurd i
shorter_without a (x ∷ xs) i = by (x == a) refl i (shorter_without a xs)
  where
    by : (t : Bool) → (x == a) ≡ t → In a (x ∷ xs) → (In a xs → suc (length (without a xs)) ≡ length xs) → suc (length (cond t xs (x ∷ without a xs))) ≡ suc (length xs)
    by true e j later = refl
    by false e (inl same) later = absurd (let v : true ≡ false = sym (eq-eqb x a same) ∙ e in cc)
    by false e (inr j) later = ap suc (later j)

-- behind the first of a list stands the rest
pub after_first : (a : ℕ) (xs : List ℕ) → after a (a ∷ xs) ≡ xs
after_first a xs = rw (eq-eqb a a refl) refl

-- from its first on a list is whole
pub from_here : (x : ℕ) (xs : List ℕ) → from (Some x) (x ∷ xs) ≡ x ∷ xs
from_here x xs = rw (eq-eqb x x refl) refl

-- a link that is set leaves the arity
pub arity_linked : (i : ℕ) (p : Option (ℕ × ℕ)) (o : Option HeapAtom) → length (partners_of (option_map (with_link i p) o)) ≡ length (partners_of o)
arity_linked i p None = refl
arity_linked i p (Some x) = length-set x.links i p

-- what holds of a number and a heap holds of equal ones
pub moved : (P : ℕ → Heap → Type 0) {n n' : ℕ} {h h' : Heap} → n' ≡ n → h' ≡ h → P n h → P n' h'
moved P {n} {n'} {h} {h'} e d p = subst (λ k. P n' k) (sym d) (subst (λ k. P k h) (sym e) p)

pub taken_root : (ns : List ℕ) (s : Heap) → (taken_all s ns).root ≡ s.root
taken_root [] s = refl
taken_root (a ∷ ns) s = taken_root ns (taken s a)

pub placed_is_mem : (o : Option HeapMem) → IsSome (option_and_then (λ x. home_by x.place) o) → IsSome o
placed_is_mem None i = absurd (let u : IsSome {T = ℕ} None = i in cc)
placed_is_mem (Some x) i = refl

pub in_after : (x w : ℕ) (xs : List ℕ) → In w (after x xs) → In w xs
in_after x w [] i = i
in_after x w (y ∷ ys) i = by (y == x) (λ j. in_after x w ys j) i
  where
    by : (b : Bool) → (In w (after x ys) → In w ys) → In w (cond b ys (after x ys)) → In w (y ∷ ys)
    by true rest j = inr j
    by false rest j = inr (rest j)

pub listed_mem : (s : Heap) → Listed s → (m n : ℕ) → In n (mems_in s m) → IsMem s n
listed_mem s listed m n i = by (s.mems n) ((listed.mems m n).0 i)
  where
    by : (o : Option HeapMem) → option_map (λ x. x.place) o ≡ Some (within m) → IsSome o
    by None e = absurd (cc)
    by (Some x) e = refl
