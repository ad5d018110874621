-- Atoms taken out of a list, by their numbers and as atoms of a solid.
use Rattle.std.proofs.Common.{ℕ, suc, ◌≡◌, ◌≢◌, ◌==◌, Bool, true, false, cond, List, [], ◌∷◌, map, Option, Some, None, IsSome, refl, sym, ap, subst, ◌∙◌, inl, inr}
use Rattle.std.proofs.lemmas.Bool.{eq-eqb, eqb-true}
use Rattle.lmn_store_heap.specs.Heap.{Heap, HeapAtom, IsAtom}
use Rattle.lmn_store_heap.specs.Lists.{Distinct, without}
use Rattle.lmn_store_heap.specs.Solid.{links_from}
use Rattle.lmn_store_heap.proofs.ListLemmas.{each_in}
use Rattle.lmn_solid_heads.specs.Embeddings.{index_of}
use Rattle.lmn_congruence.specs.Rules.{named}
use Rattle.lmn_congruence.specs.Regions.{SolidAtom}
use Rattle.lmn_congruence.specs.Translation.{label_of}
use Rattle.lmn_adequacy.specs.Embedding.{Taken, taken_first, taken_later}
use Rattle.lmn_adequacy_heaps.specs.HeapRegions.{HeapReading, atoms_at}
use Rattle.lmn_base.proofs.Numbers.{not_equal as apart_test}
use Rattle.lmn_base.specs.Lists.{In}
use Rattle.std.specs.List.{AllByRecursion}

-- an atom of the solid, by its number
abbrev pub atom_by : HeapReading → ℕ → Option HeapAtom → SolidAtom
atom_by r a None = record { label = named []; links = [] }
atom_by r a (Some x) = record { label = label_of r.names x.functor.label; links = links_from r.name a 0 x.functor.arity }

-- the atom with a number, as it stands in a region
abbrev pub atom_at : Heap → HeapReading → ℕ → SolidAtom
atom_at h r a = atom_by r a (h.atoms a)

-- the atoms of a list stand one by one
pub atoms_each : (h : Heap) (r : HeapReading) (xs : List ℕ) → AllByRecursion (IsAtom h) xs → atoms_at h r xs ≡ map (atom_at h r) xs
atoms_each h r [] e = refl
atoms_each h r (a ∷ xs) e = by (h.atoms a) refl e.0 (atoms_each h r xs e.1)
  where
    by : (o : Option HeapAtom) → h.atoms a ≡ o → IsSome o → atoms_at h r xs ≡ map (atom_at h r) xs → atoms_at h r (a ∷ xs) ≡ map (atom_at h r) (a ∷ xs)
    by None q s rest = absurd (cc)
    by (Some x) q s rest = rw q (ap (λ ys. atom_by r a (Some x) ∷ ys) rest)

-- The numbers of what is taken out of a list, one after another.
abbrev pub numbers : List ℕ → List ℕ → List ℕ
numbers [] xs = []
numbers (b ∷ bs) xs = index_of b xs ∷ numbers bs (without b xs)

-- what is in a list can be taken out of it
pub taken_in : {A : Type 0} (g : ℕ → A) (b : ℕ) (xs : List ℕ) → In b xs → Taken (index_of b xs) (g b) (map g xs) (map g (without b xs))
taken_in g b [] i = absurd i
taken_in g b (x ∷ xs) i = by (x == b) refl i (taken_in g b xs)
  where
    by : (t : Bool) → (x == b) ≡ t → In b (x ∷ xs) → (In b xs → Taken (index_of b xs) (g b) (map g xs) (map g (without b xs))) → Taken (cond t 0 (suc (index_of b xs))) (g b) (map g (x ∷ xs)) (map g (cond t xs (x ∷ without b xs)))
    by true e j later = let w : x ≡ b = eqb-true x b e in subst (λ z. Taken 0 (g b) (g z ∷ map g xs) (map g xs)) (sym w) taken_first
    by false e (inl same) later = absurd (let v : true ≡ false = sym (eq-eqb x b same) ∙ e in cc)
    by false e (inr j) later = taken_later (later j)

-- what was taken
pub record TakenOut {A : Type 0} (g : ℕ → A) (xs : List ℕ) (n : ℕ) (y : A) (rest : List A) : Type 0 where
  pub number : ℕ
  pub is : g number ≡ y
  pub among : In number xs
  pub place : n ≡ index_of number xs
  pub others : rest ≡ map g (without number xs)

-- what is taken out of images has a number
pub taken_out : {A : Type 0} (g : ℕ → A) (xs : List ℕ) {n : ℕ} {y : A} {zs rest : List A} → Distinct xs → Taken n y zs rest → zs ≡ map g xs → TakenOut g xs n y rest
taken_out g [] d taken_first e = absurd (cc)
taken_out g [] d (taken_later t) e = absurd (cc)
taken_out g (x ∷ xs) d (taken_first {y = y} {ys = ys}) e =
    let h : y ≡ g x = cc in
    let k : ys ≡ map g xs = cc in
    record { number = x; is = sym h; among = inl refl; place = rw (eq-eqb x x refl) refl; others = rw (eq-eqb x x refl) k }
taken_out g (x ∷ xs) d (taken_later {z = z} {zs = zs} t) e =
    let h : z ≡ g x = cc in
    let k : zs ≡ map g xs = cc in
    let u = taken_out g xs d.1 t k in
    let v : (x == u.number) ≡ false = apart_test x u.number (each_in (λ w. x ≢ w) xs u.number d.0 u.among) in
    record {
      number = u.number;
      is = u.is;
      among = inr u.among;
      place = rw v (ap suc u.place);
      others = rw v (λ i. h i ∷ u.others i);
    }
