-- The calls on membranes keep lists and places together.
use Rattle.std.proofs.Common.{ℕ, ◌≡◌, ◌≢◌, ◌==◌, Bool, true, false, cond, [], ◌∷◌, ◌++◌, Option, Some, None, refl, sym, ap, ◌∙◌, inl, inr}
use Rattle.std.proofs.lemmas.Bool.{cases_eq}
use Rattle.std.specs.Option.{option_map}
use Rattle.lmn_store_heap.specs.Heap.{Heap, HeapMem, Place, top, within, waiting, gone, alter, sent, mem_sent, emptied, filled, mem_with_place, mem_place_of, atoms_in, mems_in, atoms_by, mems_by, placed_mem, moved_all}
use Rattle.lmn_store_heap.specs.Heap as heap
use Rattle.lmn_store_heap.specs.Sound.{Listed}
use Rattle.lmn_store_heap.proofs.Listing.{same_listed, alter_at}
use Rattle.lmn_store_heap.proofs.ListOps.{change_away, change_keeps, place_by}

-- what waits after a membrane is placed waited before, and is another
pub place_after : (s : Heap) (m n : ℕ) (x : ℕ) → mem_place_of (placed_mem s m n) x ≡ Some waiting → (mem_place_of s x ≡ Some waiting) × (x ≢ n)
place_after s m n x e = elim (cases_eq x n) [
  | inl q ↦ absurd (never (s.mems n) (sym (change_keeps place_by f1 m (heap.mem_with_mems (λ xs. xs ++ n ∷ [])) (λ y. refl) n ∙ ap place_by (alter_at s.mems n (option_map (mem_with_place (within m)))))
      ∙ ap (mem_place_of (placed_mem s m n)) (sym q) ∙ e))
  | inr d ↦ (sym (change_keeps place_by f1 m (heap.mem_with_mems (λ xs. xs ++ n ∷ [])) (λ y. refl) x ∙ change_away place_by s.mems n (mem_with_place (within m)) x d) ∙ e, d)
]
  where
    f1 : ℕ → Option HeapMem
    f1 = alter s.mems n (option_map (mem_with_place (within m)))

    never : (o : Option HeapMem) → place_by (option_map (mem_with_place (within m)) o) ≡ Some waiting → ⊥
    never None e = absurd (cc)
    never (Some x) e = absurd (cc)

-- `move_all`
abbrev pub sent_at : ℕ → ℕ → Option Place → Option Place
sent_at m n o = option_map (sent m n) o

-- places that aren't in a list stay
sent_back : (m n : ℕ) (P : Place) → ((k : ℕ) → P ≡ within k → ⊥) → (o : Option Place) → sent_at m n o ≡ Some P → o ≡ Some P
sent_back m n P d None e = absurd (cc)
sent_back m n P d (Some top) e = e
sent_back m n P d (Some waiting) e = e
sent_back m n P d (Some gone) e = e
sent_back m n P d (Some (within j)) e = by (j == m) e
  where
    by : (t : Bool) → Some (cond t (within n) (within j)) ≡ Some P → Some (within j) ≡ Some P
    by true f = absurd (d n (let g : within n ≡ P = (cc) in sym g))
    by false f = f

-- the places of membranes after the content of one has moved
pub moved_place : (s : Heap) (m n k : ℕ) → mem_place_of (moved_all s m n) k ≡ sent_at m n (mem_place_of s k)
moved_place s m n k = by (alter (alter s.mems m (option_map emptied)) n (option_map (filled (atoms_in s m) (mems_in s m))) k)
    ∙ ap (sent_at m n) (change_keeps place_by (alter s.mems m (option_map emptied)) n (filled (atoms_in s m) (mems_in s m)) (λ y. refl) k ∙ change_keeps place_by s.mems m emptied (λ y. refl) k)
  where
    by : (o : Option HeapMem) → option_map (λ x. x.place) (option_map (mem_sent m n) o) ≡ sent_at m n (option_map (λ x. x.place) o)
    by None = refl
    by (Some x) = refl

-- what waits then waited before
pub waits_before : (s : Heap) (m n k : ℕ) → mem_place_of (moved_all s m n) k ≡ Some waiting → mem_place_of s k ≡ Some waiting
waits_before s m n k e = sent_back m n waiting (λ j q. absurd (cc)) (mem_place_of s k) (sym (moved_place s m n k) ∙ e)

-- rules and spares
pub same_lists_listed : (s : Heap) (m : ℕ) (g : HeapMem → HeapMem) → ((x : HeapMem) → ((g x).place ≡ x.place) × ((g x).atoms ≡ x.atoms) × ((g x).mems ≡ x.mems)) → Listed s
    → Listed (record s { mems = alter s.mems m (option_map g) })
same_lists_listed s m g e h = same_listed s (record s { mems = alter s.mems m (option_map g) }) h (λ a. refl)
    (change_keeps place_by s.mems m g (λ x. ap (λ z. Some z) (e x).0)) (change_keeps atoms_by s.mems m g (λ x. (e x).1)) (change_keeps mems_by s.mems m g (λ x. (e x).2)) refl refl refl
