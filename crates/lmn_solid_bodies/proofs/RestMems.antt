-- The membranes of copies of rests.
use Rattle.std.proofs.Common.{ℕ, ◌≡◌, ◌≢◌, List, [], ◌∷◌, map, length, Option, Some, None, refl, sym, ap, subst, ◌∙◌, inl, inr, arith}
use Rattle.std.specs.Option.{option_map}
use Rattle.lmn_base.specs.declared.functor.Functor.{Functor}
use Rattle.lmn_store_heap.specs.Heap.{Heap, HeapAtom, HeapMem, new_atom, new_mem, mem_with_spare, atoms_by, mems_by, functor_of, made_mem, reserved}
use Rattle.lmn_store_heap.specs.Sound.{Listed}
use Rattle.lmn_store_heap.proofs.ListLemmas.{each_in}
use Rattle.lmn_store_heap.proofs.Listing.{alter_away, made_listed, same_listed}
use Rattle.lmn_store_heap.proofs.MemListing.{made_mem_listed}
use Rattle.lmn_ground_parts.specs.Copies.{AreNew, answer, made_as, made_like, ports_of}
use Rattle.lmn_ground_parts.specs.Rests.{AreNewMembranes, AreRoomsFor, RestCopied, all_joined_as, made_roomy}
use Rattle.lmn_solid_bodies.proofs.MemListing.{same_lists_listed}
use Rattle.lmn_solid_bodies.proofs.MemsMade.{MemsMade, none_made, mems_made_after, made_one_mem, reserved_mems, mems_same}
use Rattle.lmn_solid_bodies.proofs.RestJoins.{all_view, place_linked}
use Rattle.lmn_solid_bodies.proofs.RestsMade.{joined_lines}
use Rattle.lmn_base.proofs.Lists.{plus_nothing}

abbrev numbers : List (ℕ × ℕ) → List ℕ
numbers rooms = map (λ e. e.0) rooms

-- the others are still new when one membrane is made
pub new_on : (s : Heap) (e : ℕ × ℕ) (ns : List ℕ) → AreNewMembranes s (e.0 ∷ ns) → AreNewMembranes (reserved (made_mem s e.0) e.0 e.1) ns
new_on s e ns w = (
  w.0.1,
  λ n i. let d : n ≢ e.0 = λ q. each_in (λ z. e.0 ≢ z) ns n w.0.0 i (sym q) in
      alter_away (made_mem s e.0).mems e.0 (option_map (mem_with_spare e.1)) n d ∙ alter_away s.mems e.0 (λ _. Some new_mem) n d ∙ w.1 n (inr i),
)

-- membranes are made, each with room
pub roomy_mems : (rooms : List (ℕ × ℕ)) (s : Heap) → AreNewMembranes s (map (λ e. e.0) rooms) → MemsMade s (made_roomy s rooms) (map (λ e. e.0) rooms)
roomy_mems [] s w = none_made s
roomy_mems (e ∷ es) s w =
    let s1 = made_mem s e.0 in
    let t = reserved s1 e.0 e.1 in
    mems_made_after s t (made_roomy t es) (e.0 ∷ []) (numbers es) (mems_made_after s s1 t (e.0 ∷ []) [] (made_one_mem s e.0 (w.1 e.0 (inl refl))) (reserved_mems s1 e.0 e.1)) (roomy_mems es t (new_on s e (numbers es) w))

-- copies of atoms change no membrane
pub like_mems : (xs ys : List ℕ) (s : Heap) → ((made_like s xs ys).mems ≡ s.mems) × ((made_like s xs ys).new_mems ≡ s.new_mems) × ((made_like s xs ys).root ≡ s.root)
like_mems [] ys s = (refl, refl, refl)
like_mems (x ∷ xs) [] s = (refl, refl, refl)
like_mems (x ∷ xs) (y ∷ ys) s = let w = like_mems xs ys (made_as s y (functor_of s x)) in let v = one (functor_of s x) in (w.0 ∙ v.0, w.1 ∙ v.1, w.2 ∙ v.2)
  where
    one : (o : Option Functor) → ((made_as s y o).mems ≡ s.mems) × ((made_as s y o).new_mems ≡ s.new_mems) × ((made_as s y o).root ≡ s.root)
    one None = (refl, refl, refl)
    one (Some f) = (refl, refl, refl)

one_listed : (s : Heap) (y : ℕ) (o : Option Functor) (ys : List ℕ) → Listed s → AreNew s (y ∷ ys) → Listed (made_as s y o) × AreNew (made_as s y o) ys
one_listed s y None ys h w = (h, (w.0.1, λ z i. w.1 z (inr i)))
one_listed s y (Some f) ys h w = (made_listed s y f h (w.1 y (inl refl)), (w.0.1, λ z i. alter_away s.atoms y (λ _. Some (new_atom f)) z (λ q. each_in (λ v. y ≢ v) ys z w.0.0 i (sym q)) ∙ w.1 z (inr i)))

-- copies of atoms that are made keep lists and places together
like_listed : (xs ys : List ℕ) (s : Heap) → Listed s → AreNew s ys → Listed (made_like s xs ys)
like_listed [] ys s h w = h
like_listed (x ∷ xs) [] s h w = h
like_listed (x ∷ xs) (y ∷ ys) s h w = let v = one_listed s y (functor_of s x) ys h w in like_listed xs ys (made_as s y (functor_of s x)) v.0 v.1

module _ (s t : Heap) (xs ms ys : List ℕ) (rooms : List (ℕ × ℕ)) (c : RestCopied s t xs ms ys rooms) where
  abbrev s1 : Heap
  s1 = made_roomy s rooms

  abbrev u : Heap
  u = made_like s1 xs ys

  -- Only its membranes are made, with their room.
  pub rest_same_mems : t.mems ≡ s1.mems
  rest_same_mems = ap (λ (z : Heap). z.mems) c.is ∙ (joined_lines (answer xs ys) u (ports_of u xs)).1 ∙ (like_mems xs ys s1).0

  -- The membranes of the copy are made.
  pub rest_mems : MemsMade s t (map (λ e. e.0) rooms)
  rest_mems = subst (MemsMade s t) (plus_nothing (numbers rooms)) (mems_made_after s s1 t (numbers rooms) [] (roomy_mems rooms s c.new_membranes)
      (mems_same s1 t rest_same_mems
      (ap (λ (z : Heap). z.new_mems) c.is ∙ (joined_lines (answer xs ys) u (ports_of u xs)).2 ∙ (like_mems xs ys s1).1)
      (ap (λ (z : Heap). z.root) c.is ∙ (joined_lines (answer xs ys) u (ports_of u xs)).3 ∙ (like_mems xs ys s1).2)))

  -- It has as many as the rest.
  pub rest_long : (length ys ≡ length xs) × (length (map (λ (e : ℕ × ℕ). e.0) rooms) ≡ length ms)
  rest_long = (c.long, rooms_long ms rooms c.roomy)
    where
      rooms_long : (ms : List ℕ) (es : List (ℕ × ℕ)) → AreRoomsFor s ms es → length (map (λ (e : ℕ × ℕ). e.0) es) ≡ length ms
      rooms_long [] es w = ap (λ (zs : List (ℕ × ℕ)). length (map (λ (e : ℕ × ℕ). e.0) zs)) w
      rooms_long (m ∷ ms) [] w = absurd w
      rooms_long (m ∷ ms) (e ∷ es) w = let r = rooms_long ms es w.1 in omega (arith, r)

  -- Lists and places stay together.
  pub rest_listed : Listed s → Listed t
  rest_listed h = subst Listed (sym c.is) (same_listed u (all_joined_as (answer xs ys) u (ports_of u xs)) (like_listed xs ys s1 (roomy_listed rooms s h c.new_membranes) (c.new_atoms.0, λ y i. ap (λ (g : ℕ → Option HeapAtom). g y) (roomy_same s rooms) ∙ c.new_atoms.1 y i))
      (all_view (option_map (λ (x : HeapAtom). x.place)) place_linked (answer xs ys) u (ports_of u xs))
      (λ m. ap (λ (g : ℕ → Option HeapMem). option_map (λ x. x.place) (g m)) (joined_lines (answer xs ys) u (ports_of u xs)).1) (λ m. ap (λ (g : ℕ → Option HeapMem). atoms_by (g m)) (joined_lines (answer xs ys) u (ports_of u xs)).1) (λ m. ap (λ (g : ℕ → Option HeapMem). mems_by (g m)) (joined_lines (answer xs ys) u (ports_of u xs)).1)
      (joined_lines (answer xs ys) u (ports_of u xs)).3 (joined_lines (answer xs ys) u (ports_of u xs)).0 (joined_lines (answer xs ys) u (ports_of u xs)).2)
    where
      roomy_same : (s : Heap) (rooms : List (ℕ × ℕ)) → (made_roomy s rooms).atoms ≡ s.atoms
      roomy_same s [] = refl
      roomy_same s (e ∷ es) = roomy_same (reserved (made_mem s e.0) e.0 e.1) es

      roomy_listed : (rooms : List (ℕ × ℕ)) (s : Heap) → Listed s → AreNewMembranes s (map (λ e. e.0) rooms) → Listed (made_roomy s rooms)
      roomy_listed [] s h w = h
      roomy_listed (e ∷ es) s h w = roomy_listed es (reserved (made_mem s e.0) e.0 e.1)
          (same_lists_listed (made_mem s e.0) e.0 (mem_with_spare e.1) (λ x. (refl, refl, refl)) (made_mem_listed s e.0 h (w.1 e.0 (inl refl)))) (new_on s e (numbers es) w)
