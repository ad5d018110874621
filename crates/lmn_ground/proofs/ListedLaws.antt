-- Lists of a part's atoms.
use Rattle.std.proofs.Common.{◌≡◌, ◌≢◌, ◌∙◌, ◌<◌, ◌≤◌, ℕ, zero, suc, List, [], ◌∷◌, length, map, Option, Some, IsSome, sym, ap, subst, inl, inr, arith}
use Rattle.std.specs.Prelude.{IfSome, slice_get}
use Rattle.std.proofs.lemmas.Bool.{cases_eq}
use Rattle.lmn_base.specs.Lists.{In}
use Rattle.lmn_store_heap.specs.Heap.{Heap, HeapAtom, Distinct, IsAtom, partners_of}
use Rattle.lmn_store_heap.specs.Sound.{Sound}
use Rattle.lmn_store_heap.specs.Splice.{IsPort}
use Rattle.lmn_store_heap.proofs.ListLemmas.{each_in}
use Rattle.lmn_ground_parts.specs.Walks.{IsPartInDepth, net}
use Rattle.lmn_ground.specs.Listed.{IsListed, ListsPart}
use Rattle.lmn_ground.specs.declared.listing.PartList.{PartList}
use Rattle.lmn_ground.proofs.CopyLaws.{member}
use Rattle.lmn_ground.proofs.NumberLaws.{begins}
use Rattle.lmn_ground.proofs.TrailLaws.{part_kept, part_there}

-- the first atom of a part is that of the root
pub first_if : {A : Type 0} (id : A → ℕ) (s : Heap) (root : ℕ × ℕ) (xs : List A) → IsPartInDepth s root (map id xs) → IfSome (slice_get xs 0) (λ a. id a ≡ root.0)
first_if id s root [] part = tt
first_if id s root (x ∷ xs) part =
    let r = begins (net s).arity _ part in
    let e : id x ∷ map id xs ≡ root.0 ∷ r.0 = r.1 in
    cc

first_is : {A : Type 0} (id : A → ℕ) (s : Heap) (root : ℕ × ℕ) (xs : List A) (a : A) → IsPartInDepth s root (map id xs) → slice_get xs 0 ≡ Some a → id a ≡ root.0
first_is id s root xs a part get = subst (λ o. IfSome o (λ b. id b ≡ root.0)) get (first_if id s root xs part)

-- a list with an atom of this number has a first one
pub some_listed : {A : Type 0} (id : A → ℕ) (xs : List A) (n : ℕ) → In n (map id xs) → 0 < length xs
some_listed id [] n i = absurd i
some_listed id (x ∷ xs) n i = omega arith

-- those behind the first one are other atoms
pub others_differ : {A : Type 0} (id : A → ℕ) (xs : List A) (k : ℕ) (a : A) (n : ℕ) → Distinct (map id xs) → IfSome (slice_get xs 0) (λ b. id b ≡ n) → 1 ≤ k → slice_get xs k ≡ Some a → id a ≢ n
others_differ id [] k a n once first l get = absurd (cc)
others_differ id (x ∷ xs) zero a n once first l get = absurd (omega (arith, l))
others_differ id (x ∷ xs) (suc k) a n once first l get = λ e. each_in (λ y. id x ≢ y) (map id xs) (id a) once.0 (member id xs k a get) (first ∙ sym e)

module _ {A : Type 0} (atom : A → ℕ) (s : Heap) (list : PartList A) where
  -- a list with no atom says nothing
  pub listed_none : list.atoms ≡ [] → IsListed atom s list
  listed_none e a get = absurd (let z : slice_get [] 0 ≡ Some a = subst (λ xs. slice_get xs 0 ≡ Some a) e get in cc)

  -- a part that was walked is listed
  pub listed_part : Sound s → (root : ℕ × ℕ) → IsPort s root.0 root.1 → list.port ≡ root.1 → IsPartInDepth s root (map atom list.atoms) → IsListed atom s list
  listed_part sound root port same part a get =
      let first : atom a ≡ root.0 = first_is atom s root list.atoms a part get in
      let is : ◌≡◌ {A = ℕ × ℕ} root (atom a, list.port) = λ i. (sym first i, sym same i) in
      record {
        port = subst (λ (q : ℕ × ℕ). IsPort s q.0 q.1) is port;
        there = part_there s root (map atom list.atoms) sound port.1 part;
        part = subst (λ q. IsPartInDepth s q (map atom list.atoms)) is part;
      }

  -- A walk is listed where it listed as many as it found.
  pub listed_walked : Sound s → (root : ℕ × ℕ) → IsPort s root.0 root.1 → (xs : List A) (count : ℕ) → (length xs ≡ count → list ≡ record { port = root.1; atoms = xs }) → ((length xs ≡ count → ⊥) → list.atoms ≡ [])
      → (length xs ≡ count → IsPartInDepth s root (map atom xs)) → IsListed atom s list
  listed_walked sound root port xs count whole other part = elim (cases_eq (length xs) count) [
    | inl e ↦
        let is = whole e in
        listed_part sound root port (ap (λ (l : PartList A). l.port) is) (subst (λ (zs : List A). IsPartInDepth s root (map atom zs)) (sym (ap (λ (l : PartList A). l.atoms) is)) (part e))
    | inr n ↦ listed_none (other n)
  ]

  -- the port of the first atom is the root that is asked for
  pub listed_root : IsListed atom s list → (a : A) (root : A × ℕ) → slice_get list.atoms 0 ≡ Some a → (atom a ≡ atom root.0) × (list.port ≡ root.1) → ListsPart atom s list.atoms root
  listed_root listed a root get same =
      let w = listed a get in
      let is : ◌≡◌ {A = ℕ × ℕ} (atom a, list.port) (atom root.0, root.1) = λ i. (same.0 i, same.1 i) in
      record {
        port = subst (λ (q : ℕ × ℕ). IsPort s q.0 q.1) is w.port;
        there = w.there;
        part = subst (λ q. IsPartInDepth s q (map atom list.atoms)) is w.part;
      }

  -- A list stays right where atoms stay and are joined as before.
  pub listed_on : (t : Heap) → ((a : ℕ) → IsAtom s a → IsAtom t a × (partners_of (t.atoms a) ≡ partners_of (s.atoms a))) → IsListed atom s list → IsListed atom t list
  listed_on t same listed a get =
      let w = listed a get in
      let arity = ap length (same (atom a) w.port.0).1 in
      record {
        port = ((same (atom a) w.port.0).0, subst (λ n. list.port < n) (sym arity) w.port.1);
        there = λ x k. (same x (w.there x k)).0;
        part = part_kept s t (atom a, list.port) (map atom list.atoms) (λ x k. (same x (w.there x k)).1) w.part;
      }

  -- so where atoms are as they were
  pub listed_kept : (t : Heap) → ((a : ℕ) → IsAtom s a → t.atoms a ≡ s.atoms a) → IsListed atom s list → IsListed atom t list
  listed_kept t same = listed_on t (λ a i. (subst (λ (o : Option HeapAtom). IsSome o) (sym (same a i)) i, ap partners_of (same a i)))
