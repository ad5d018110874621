-- The lists of a store agree with the places of its items, when all that stood in one membrane stands in another.
use Rattle.std.proofs.Common.{◌≡◌, ◌≢◌, ◌⊎◌, ℕ, ◌==◌, ◌↔◌, Bool, true, false, cond, List, [], ◌++◌, Option, Some, None, IsSome, refl, sym, ap, subst, ◌∙◌, inl, inr}
use Rattle.std.proofs.lemmas.Bool.{cases_eq, eq-eqb}
use Rattle.std.specs.Option.{option_map}
use Rattle.lmn_store_heap.specs.Lists.{Distinct}
use Rattle.lmn_store_heap.specs.Heap.{Heap, HeapAtom, HeapMem, Place, top, within, waiting, gone, alter, place_of, mem_place_of, atoms_in, mems_in, atoms_by, mems_by, sent, atom_sent, mem_sent, emptied, filled, moved_all}
use Rattle.lmn_store_heap.specs.Sound.{Listed}
use Rattle.lmn_store_heap.proofs.ListLemmas.{in_left, in_right}
use Rattle.lmn_store_heap.proofs.Listing.{alter_at, alter_away, alter_keeps, within_same as within_one}
use Rattle.lmn_store_heap.proofs.Depths.{both_distinct}
use Rattle.lmn_base.proofs.Numbers.{not_equal as apart_test}
use Rattle.lmn_base.specs.Lists.{In}
use Rattle.lmn_base.proofs.Lists.{in_either}

pub sent_m : (m n : ℕ) → sent m n (within m) ≡ within n
sent_m m n = rw (eq-eqb m m refl) refl

sent_off : (m n k : ℕ) → k ≢ m → sent m n (within k) ≡ within k
sent_off m n k d = rw (apart_test k m d) refl

-- where an item that is sent comes from
sent_from : (m n : ℕ) (P : Place) (k : ℕ) → sent m n P ≡ within k → ((P ≡ within m) × (k ≡ n)) ⊎ ((P ≡ within k) × (k ≢ m))
sent_from m n top k e = absurd (cc)
sent_from m n waiting k e = absurd (cc)
sent_from m n gone k e = absurd (cc)
sent_from m n (within j) k e = elim (cases_eq j m) [
  | inl same ↦ (let w : within n ≡ within k = sym (sent_m m n) ∙ ap (λ z. sent m n (within z)) (sym same) ∙ e in inl (ap within same, sym (let v : n ≡ k = (cc) in v)))
  | inr d ↦ (let w : within j ≡ within k = sym (sent_off m n j d) ∙ e in let v : j ≡ k = (cc) in inr (w, λ z. d (v ∙ z)))
]

map_from : (m n : ℕ) (o : Option Place) (k : ℕ) → option_map (sent m n) o ≡ Some (within k) → ((o ≡ Some (within m)) × (k ≡ n)) ⊎ ((o ≡ Some (within k)) × (k ≢ m))
map_from m n None k e = absurd (cc)
map_from m n (Some P) k e = elim (sent_from m n P k (cc)) [ inl w ↦ inl (ap (λ z. Some z) w.0, w.1) | inr w ↦ inr (ap (λ z. Some z) w.0, w.1) ]

-- lists of what is within each membrane, before and after
module _ (m n : ℕ) (differ : m ≢ n) (N N1 : ℕ → List ℕ) (P P1 : ℕ → Option Place) (filed : (k x : ℕ) → In x (N k) ↔ (P x ≡ Some (within k))) (once : (k : ℕ) → Distinct (N k))
    (places : (x : ℕ) → P1 x ≡ option_map (sent m n) (P x)) (at_n : N1 n ≡ N n ++ N m) (at_m : N1 m ≡ []) (off : (k : ℕ) → k ≢ m → k ≢ n → N1 k ≡ N k) where
  moved : (k x : ℕ) → P x ≡ Some (within k) → k ≢ m → P1 x ≡ Some (within k)
  moved k x e d = places x ∙ ap (option_map (sent m n)) e ∙ ap (λ z. Some z) (sent_off m n k d)

  moved_m : (x : ℕ) → P x ≡ Some (within m) → P1 x ≡ Some (within n)
  moved_m x e = places x ∙ ap (option_map (sent m n)) e ∙ ap (λ z. Some z) (sent_m m n)

  pub merged_filed : (k x : ℕ) → In x (N1 k) ↔ (P1 x ≡ Some (within k))
  merged_filed k x = elim (cases_eq k n) [
    | inl e ↦ subst (λ z. In x (N1 z) ↔ (P1 x ≡ Some (within z))) (sym e) (rw at_n (
      λ i. elim (in_either x (N n) (N m) i) [
        | inl j ↦ moved n x ((filed n x).0 j) (λ z. differ (sym z))
        | inr j ↦ moved_m x ((filed m x).0 j)
      ],
      λ p. elim (map_from m n (P x) n (sym (places x) ∙ p)) [
        | inl w ↦ in_right x (N n) (N m) ((filed m x).1 w.0)
        | inr w ↦ in_left x (N n) (N m) ((filed n x).1 w.0)
      ],
    ))
    | inr c ↦ elim (cases_eq k m) [
      | inl e ↦ subst (λ z. In x (N1 z) ↔ (P1 x ≡ Some (within z))) (sym e) (rw at_m (
        λ i. absurd i,
        λ p. elim (map_from m n (P x) m (sym (places x) ∙ p)) [ inl w ↦ absurd (differ w.1) | inr w ↦ absurd (w.1 refl) ],
      ))
      | inr d ↦ rw (off k d c) (
        λ i. moved k x ((filed k x).0 i) d,
        λ p. elim (map_from m n (P x) k (sym (places x) ∙ p)) [ inl w ↦ absurd (c w.1) | inr w ↦ (filed k x).1 w.0 ],
      )
    ]
  ]

  pub merged_once : (k : ℕ) → Distinct (N1 k)
  merged_once k = elim (cases_eq k n) [
    | inl e ↦ subst (λ z. Distinct (N1 z)) (sym e) (rw at_n (both_distinct (N n) (N m) (once n) (once m) (λ a i j.
        differ (within_one m n (let w : Some (within m) ≡ Some (within n) = sym ((filed m a).0 j) ∙ (filed n a).0 i in cc)))))
    | inr c ↦ elim (cases_eq k m) [
      | inl e ↦ subst (λ z. Distinct (N1 z)) (sym e) (rw at_m tt)
      | inr d ↦ rw (off k d c) (once k)
    ]
  ]

-- places that don't move
sent_top : (m n : ℕ) (o : Option Place) (Q : Place) → ((k : ℕ) → Q ≡ within k → ⊥) → (option_map (sent m n) o ≡ Some Q) ↔ (o ≡ Some Q)
sent_top m n None Q d = (λ e. absurd (cc), λ e. absurd (cc))
sent_top m n (Some P) Q d = (
  λ e. ap (λ z. Some z) (back P (cc)),
  λ e. ap (λ z. Some z) (on P (cc)),
)
  where
    back : (P : Place) → sent m n P ≡ Q → P ≡ Q
    back top e = e
    back (within j) e = by (j == m) e
      where
        by : (b : Bool) → cond b (within n) (within j) ≡ Q → within j ≡ Q
        by true e = absurd (d n (sym e))
        by false e = e
    back waiting e = e
    back gone e = e

    on : (P : Place) → P ≡ Q → sent m n P ≡ Q
    on top e = e
    on (within j) e = absurd (d j (sym e))
    on waiting e = e
    on gone e = e

-- `move_all`
module _ (s : Heap) (m n : ℕ) (differ : m ≢ n) (is : IsSome (s.mems n)) (here : mem_place_of s n ≡ Some waiting → ⊥) (h : Listed s) where
  abbrev t : Heap
  t = moved_all s m n

  abbrev E : ℕ → Option HeapMem
  E = alter s.mems m (option_map emptied)

  abbrev fill : HeapMem → HeapMem
  fill = filled (atoms_in s m) (mems_in s m)

  abbrev F : ℕ → Option HeapMem
  F = alter E n (option_map fill)

  at_place : (o : Option HeapAtom) → option_map (λ x. x.place) (option_map (atom_sent m n) o) ≡ option_map (sent m n) (option_map (λ x. x.place) o)
  at_place None = refl
  at_place (Some x) = refl

  at_mem_place : (o : Option HeapMem) → option_map (λ x. x.place) (option_map (mem_sent m n) o) ≡ option_map (sent m n) (option_map (λ x. x.place) o)
  at_mem_place None = refl
  at_mem_place (Some x) = refl

  E_place : (k : ℕ) → option_map (λ x. x.place) (E k) ≡ option_map (λ x. x.place) (s.mems k)
  E_place k = alter_keeps s.mems m (option_map emptied) (λ (o : Option HeapMem). option_map (λ x. x.place) o) by k
    where
      by : (o : Option HeapMem) → option_map (λ x. x.place) (option_map emptied o) ≡ option_map (λ x. x.place) o
      by None = refl
      by (Some x) = refl

  F_place : (k : ℕ) → option_map (λ x. x.place) (F k) ≡ option_map (λ x. x.place) (s.mems k)
  F_place k = alter_keeps E n (option_map fill) (λ (o : Option HeapMem). option_map (λ x. x.place) o) by k ∙ E_place k
    where
      by : (o : Option HeapMem) → option_map (λ x. x.place) (option_map fill o) ≡ option_map (λ x. x.place) o
      by None = refl
      by (Some x) = refl

  mem_place : (k : ℕ) → mem_place_of t k ≡ option_map (sent m n) (mem_place_of s k)
  mem_place k = at_mem_place (F k) ∙ ap (option_map (sent m n)) (F_place k)

  -- a part of a membrane, read behind the move
  module _ (v : Option HeapMem → List ℕ) (w : HeapMem → List ℕ) (none : v None ≡ []) (some : (x : HeapMem) → v (Some x) ≡ w x) (same : (x : HeapMem) → w (mem_sent m n x) ≡ w x) where
    read : (o : Option HeapMem) → v (option_map (mem_sent m n) o) ≡ v o
    read None = refl
    read (Some x) = some (mem_sent m n x) ∙ same x ∙ sym (some x)

    read_off : (k : ℕ) → k ≢ m → k ≢ n → v (t.mems k) ≡ v (s.mems k)
    read_off k d c = read (F k) ∙ ap v (alter_away E n (option_map fill) k c ∙ alter_away s.mems m (option_map emptied) k d)

    read_m : ((x : HeapMem) → w (emptied x) ≡ []) → v (t.mems m) ≡ []
    read_m e = read (F m) ∙ ap v (alter_away E n (option_map fill) m differ ∙ alter_at s.mems m (option_map emptied)) ∙ by (s.mems m)
      where
        by : (o : Option HeapMem) → v (option_map emptied o) ≡ []
        by None = none
        by (Some x) = some (emptied x) ∙ e x

    read_n : ((x : HeapMem) → w (fill x) ≡ w x ++ v (s.mems m)) → v (t.mems n) ≡ v (s.mems n) ++ v (s.mems m)
    read_n e = read (F n) ∙ ap v (alter_at E n (option_map fill) ∙ ap (option_map fill) (alter_away s.mems m (option_map emptied) n (λ z. differ (sym z)))) ∙ by (s.mems n) is
      where
        by : (o : Option HeapMem) → IsSome o → v (option_map fill o) ≡ v o ++ v (s.mems m)
        by None i = absurd (cc)
        by (Some x) i = some (fill x) ∙ e x ∙ ap (λ xs. xs ++ v (s.mems m)) (sym (some x))

  atoms_off : (k : ℕ) → k ≢ m → k ≢ n → atoms_in t k ≡ atoms_in s k
  atoms_off = read_off atoms_by (λ x. x.atoms) refl (λ x. refl) (λ x. refl)

  mems_off : (k : ℕ) → k ≢ m → k ≢ n → mems_in t k ≡ mems_in s k
  mems_off = read_off mems_by (λ x. x.mems) refl (λ x. refl) (λ x. refl)

  atoms_m : atoms_in t m ≡ []
  atoms_m = read_m atoms_by (λ x. x.atoms) refl (λ x. refl) (λ x. refl) (λ x. refl)

  mems_m : mems_in t m ≡ []
  mems_m = read_m mems_by (λ x. x.mems) refl (λ x. refl) (λ x. refl) (λ x. refl)

  atoms_n : atoms_in t n ≡ atoms_in s n ++ atoms_in s m
  atoms_n = read_n atoms_by (λ x. x.atoms) refl (λ x. refl) (λ x. refl) (λ x. refl)

  mems_n : mems_in t n ≡ mems_in s n ++ mems_in s m
  mems_n = read_n mems_by (λ x. x.mems) refl (λ x. refl) (λ x. refl) (λ x. refl)

  atom_place : (a : ℕ) → place_of t a ≡ option_map (sent m n) (place_of s a)
  atom_place a = at_place (s.atoms a)

  waiting_no : (k : ℕ) → waiting ≡ within k → ⊥
  waiting_no k e = absurd (cc)

  top_no : (k : ℕ) → top ≡ within k → ⊥
  top_no k e = absurd (cc)

  pub moved_all_listed : Listed t
  moved_all_listed = record {
    atoms = merged_filed m n differ (atoms_in s) (atoms_in t) (place_of s) (place_of t) h.atoms h.atoms_once atom_place atoms_n atoms_m atoms_off;
    atoms_once = merged_once m n differ (atoms_in s) (atoms_in t) (place_of s) (place_of t) h.atoms h.atoms_once atom_place atoms_n atoms_m atoms_off;
    mems = merged_filed m n differ (mems_in s) (mems_in t) (mem_place_of s) (mem_place_of t) h.mems h.mems_once mem_place mems_n mems_m mems_off;
    mems_once = merged_once m n differ (mems_in s) (mems_in t) (mem_place_of s) (mem_place_of t) h.mems h.mems_once mem_place mems_n mems_m mems_off;
    new_atoms = λ a. let w = sent_top m n (place_of s a) waiting waiting_no in (
      λ i. atom_place a ∙ w.1 ((h.new_atoms a).0 i),
      λ e. (h.new_atoms a).1 (w.0 (sym (atom_place a) ∙ e)),
    );
    new_atoms_once = h.new_atoms_once;
    new_mems = λ k. let w = sent_top m n (mem_place_of s k) waiting waiting_no in (
      λ i. mem_place k ∙ w.1 ((h.new_mems k).0 i),
      λ e. (h.new_mems k).1 (w.0 (sym (mem_place k) ∙ e)),
    );
    new_mems_once = h.new_mems_once;
    root = λ k. let w = sent_top m n (mem_place_of s k) top top_no in (
      λ e. (h.root k).0 (w.0 (sym (mem_place k) ∙ e)),
      λ z. mem_place k ∙ w.1 ((h.root k).1 z),
    );
    no_top = λ a e. h.no_top a ((sent_top m n (place_of s a) top top_no).0 (sym (atom_place a) ∙ e));
    new_empty = λ k e.
        let old = (sent_top m n (mem_place_of s k) waiting waiting_no).0 (sym (mem_place k) ∙ e) in
        let b = h.new_empty k old in
        let c : k ≢ n = λ z. here (ap (mem_place_of s) (sym z) ∙ old) in
        elim (cases_eq k m) [
          | inl z ↦ (subst (λ j. atoms_in t j ≡ []) (sym z) atoms_m, subst (λ j. mems_in t j ≡ []) (sym z) mems_m)
          | inr d ↦ (atoms_off k d c ∙ b.0, mems_off k d c ∙ b.1)
        ];
  }
