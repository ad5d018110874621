-- The solid atoms of a membrane, by the positions of its atoms in its list.
use Rattle.std.proofs.Common.{◌≡◌, ℕ, zero, suc, ◌+◌, ◌-◌, ◌<◌, List, [], ◌∷◌, ◌++◌, map, length, slice_get, Option, Some, None, IsSome, refl, sym, ap, ◌∙◌, inl, inr, arith}
use Rattle.std.specs.Option.{option_map}
use Rattle.std.proofs.lemmas.Option.{none-some, same_Some, slice_get-map}
use Rattle.lmn_base.specs.declared.functor.Functor.{Functor}
use Rattle.lmn_base.specs.declared.solid.SolidAtom.{SolidAtom as Written}
use Rattle.lmn_congruence.specs.Regions.{SolidAtom}
use Rattle.lmn_congruence.specs.Rules.{Label, Name, named}
use Rattle.lmn_congruence.specs.Translation.{label_of, solid_atom_of}
use Rattle.lmn_store_heap.specs.Heap.{Heap, HeapAtom, IsAtom, partners_of, arity_of, functor_of}
use Rattle.lmn_store_heap.specs.Lists.{Distinct}
use Rattle.lmn_store_heap.specs.Solid.{IsNaming, links_from, solid_atom_at, solid_atoms_at}
use Rattle.lmn_store_heap.specs.Sound.{Sound}
use Rattle.lmn_print_folded.proofs.Places.{count, AtMostTwice}
use Rattle.lmn_print_folding.proofs.TwoPlaces.{times, at_most_twice}
use Rattle.lmn_store_heap.proofs.Common.{numbered_get as number_from}
use Rattle.lmn_base.specs.Lists.{In}
use Rattle.lmn_base.proofs.Lists.{ends_in_one_way, never_nil}

abbrev label_by : List Name → Option HeapAtom → Label
label_by names None = named []
label_by names (Some x) = label_of names x.functor.label

-- an atom with numbers for its links
abbrev pub atom_with : List Name → Heap → (ℕ → ℕ → ℕ) → ℕ → SolidAtom
atom_with names s name a = record { label = label_by names (s.atoms a); links = links_from name a 0 (arity_of s a) }

-- its functor, by which it has its label
pub functor_is : (names : List Name) (s : Heap) (name : ℕ → ℕ → ℕ) (a : ℕ) → IsAtom s a
    → (f : Functor) × (functor_of s a ≡ Some f) × ((atom_with names s name a).label ≡ label_of names f.label)
functor_is names s name a i = by (s.atoms a) i
  where
    by : (o : Option HeapAtom) → IsSome o → (f : Functor) × (option_map (λ (x : HeapAtom). x.functor) o ≡ Some f) × (label_by names o ≡ label_of names f.label)
    by None i = absurd (cc i)
    by (Some x) i = (x.functor, refl, refl)

module _ (names : List Name) (s : Heap) (sound : Sound s) (name : ℕ → ℕ → ℕ) where
  one_atom : (a : ℕ) (o : Option HeapAtom) (rest : List Written) → IsSome o → ((f : Functor) → option_map (λ (x : HeapAtom). x.functor) o ≡ Some f → length (partners_of o) ≡ f.arity)
      → map (solid_atom_of names) (solid_atom_at name a o ++ rest) ≡ record { label = label_by names o; links = links_from name a 0 (length (partners_of o)) } ∷ map (solid_atom_of names) rest
  one_atom a None rest i h = absurd (cc i)
  one_atom a (Some x) rest i h =
      let first : ℕ → SolidAtom = λ n. record { label = label_of names x.functor.label; links = links_from name a 0 n } in
      ap (λ n. first n ∷ map (solid_atom_of names) rest) (sym (h x.functor refl))

  pub atoms_are : (xs : List ℕ) → ((a : ℕ) → In a xs → IsAtom s a) → map (solid_atom_of names) (solid_atoms_at s name xs) ≡ map (atom_with names s name) xs
  atoms_are [] h = refl
  atoms_are (a ∷ xs) h =
      one_atom a (s.atoms a) (solid_atoms_at s name xs) (h a (inl refl)) (sound.shaped.ports a) ∙ ap (λ ys. atom_with names s name a ∷ ys) (atoms_are xs (λ b i. h b (inr i)))

-- the atom at a position
pub atom_at : (names : List Name) (s : Heap) (name : ℕ → ℕ → ℕ) (xs : List ℕ) (q a : ℕ) → slice_get xs q ≡ Some a
    → slice_get (map (atom_with names s name) xs) q ≡ Some (atom_with names s name a)
atom_at names s name xs q a e = slice_get-map (atom_with names s name) xs q ∙ ap (option_map (atom_with names s name)) e

-- and the other way
pub atom_behind : (names : List Name) (s : Heap) (name : ℕ → ℕ → ℕ) (xs : List ℕ) (q : ℕ) (x : SolidAtom) → slice_get (map (atom_with names s name) xs) q ≡ Some x
    → (a : ℕ) × (slice_get xs q ≡ Some a) × (x ≡ atom_with names s name a)
atom_behind names s name xs q x e = by (slice_get xs q) refl
  where
    by : (o : Option ℕ) → slice_get xs q ≡ o → (a : ℕ) × (slice_get xs q ≡ Some a) × (x ≡ atom_with names s name a)
    by None f = absurd (none-some x (sym (slice_get-map (atom_with names s name) xs q ∙ ap (option_map (atom_with names s name)) f) ∙ e))
    by (Some a) f = (a, f, same_Some x (atom_with names s name a) (sym e ∙ atom_at names s name xs q a f))

-- how often a link stands there
count_is : (names : List Name) (s : Heap) (name : ℕ → ℕ → ℕ) (x : ℕ) (xs : List ℕ) → count x (map (atom_with names s name) xs) ≡ times s name x xs
count_is names s name x [] = refl
count_is names s name x (a ∷ xs) = let e = count_is names s name x xs in omega (arith, e)

-- no link stands in more than two places of the atoms of a membrane
pub few_places : (names : List Name) (s : Heap) (name : ℕ → ℕ → ℕ) → IsNaming s name → (xs : List ℕ) → Distinct xs → AtMostTwice (map (atom_with names s name) xs)
few_places names s name naming xs distinct x =
    let e = count_is names s name x xs in
    let l = at_most_twice s name naming x xs distinct in
    omega (arith, e, l)

-- The numbers of an atom's links.

at_next : (name : ℕ → ℕ → ℕ) (a i k : ℕ) → name a ((i + 1) + k) ≡ name a (i + suc k)
at_next name a i k = ap (name a) (omega arith)

-- the link of a port below the arity
pub number_at : (name : ℕ → ℕ → ℕ) (a n k : ℕ) → k < n → slice_get (links_from name a 0 n) k ≡ Some (name a k)
number_at name a n k l = number_from name a 0 n k l ∙ ap (λ j. Some (name a j)) (let e : 0 + k ≡ k = omega arith in e)

number_within : (name : ℕ → ℕ → ℕ) (a i n k x : ℕ) → slice_get (links_from name a i n) k ≡ Some x → k < n
number_within name a i zero k x e = absurd (none-some x e)
number_within name a i (suc n) zero x e = omega arith
number_within name a i (suc n) (suc k) x e = let l = number_within name a (i + 1) n k x e in omega (arith, l)

-- and what is listed is that of a port
pub number_is : (name : ℕ → ℕ → ℕ) (a n k x : ℕ) → slice_get (links_from name a 0 n) k ≡ Some x → (k < n) × (name a k ≡ x)
number_is name a n k x e =
    let l = number_within name a 0 n k x e in
    (l, same_Some (name a k) x (sym (number_at name a n k l) ∙ e))

one_more : (name : ℕ → ℕ → ℕ) (a i n : ℕ) → links_from name a i (suc n) ≡ links_from name a i n ++ name a (i + n) ∷ []
one_more name a i zero = ap (λ j. name a j ∷ []) (let e : i ≡ i + 0 = omega arith in e)
one_more name a i (suc n) =
    ap (λ xs. name a i ∷ xs) (one_more name a (i + 1) n) ∙ ap (λ x. name a i ∷ (links_from name a (i + 1) n ++ x ∷ [])) (at_next name a i n)

-- the last one stands apart
pub last_number : (name : ℕ → ℕ → ℕ) (a n : ℕ) → 0 < n → links_from name a 0 n ≡ links_from name a 0 (n - 1) ++ name a (n - 1) ∷ []
last_number name a n l =
    let up : n ≡ suc (n - 1) = omega (arith, l) in
    let down : 0 + (n - 1) ≡ n - 1 = omega arith in
    ap (links_from name a 0) up ∙ one_more name a 0 (n - 1) ∙ ap (λ j. links_from name a 0 (n - 1) ++ name a j ∷ []) down

-- the last link of an atom is that of its last port
pub numbers_end : (name : ℕ → ℕ → ℕ) (a n : ℕ) (xs : List ℕ) (x : ℕ) → links_from name a 0 n ≡ xs ++ x ∷ [] → (0 < n) × (xs ≡ links_from name a 0 (n - 1)) × (x ≡ name a (n - 1))
numbers_end name a zero xs x e = absurd (never_nil xs x e)
numbers_end name a (suc n) xs x e =
    let l : 0 < suc n = omega arith in
    let same = ends_in_one_way xs (links_from name a 0 (suc n - 1)) x (name a (suc n - 1)) (sym e ∙ last_number name a (suc n) l) in
    (l, same.0, same.1)
