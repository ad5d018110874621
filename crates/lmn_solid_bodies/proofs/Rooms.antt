-- The membranes of a copy of a rest have room for its rules.
use Rattle.std.proofs.Common.{ℕ, zero, suc, true, false, ◌+◌, ◌≤◌, ◌≡◌, ◌≢◌, ◌⊎◌, List, [], ◌∷◌, ◌++◌, map, length, Option, Some, None, IsSome, refl, sym, ap, subst, ◌∙◌, inl, inr}
use Rattle.std.proofs.lemmas.Bool.{eq-eqb}
use Rattle.std.proofs.lemmas.List.{append_assoc}
use Rattle.std.specs.Prelude.{slice_get}
use Rattle.lmn_store_heap.specs.Heap.{Heap, HeapMem, new_mem, mem_with_spare, rules_in, spare_of, spare_by, alter, made_mem, reserved}
use Rattle.lmn_store_heap.proofs.ListLemmas.{each_in, in_left, in_right}
use Rattle.lmn_store_heap.proofs.Listing.{alter_away}
use Rattle.lmn_ground_parts.specs.Rests.{AreNewMembranes, AreRoomsFor, RestCopied, made_roomy}
use Rattle.lmn_solid_bodies.specs.declared.items.BodyItem.{BodyItem}
use Rattle.lmn_solid_bodies.specs.declared.items.BodyItem.TheVariants.{Atom, Connector, Copy, Bound, Membrane, Rest, Rule, Rules}
use Rattle.lmn_solid_bodies.specs.Code.{making}
use Rattle.lmn_solid_bodies.specs.Running.{Registers, Prepares}
use Rattle.lmn_solid_bodies.specs.Added.{made_mems}
use Rattle.lmn_solid_bodies.specs.RestCopies.{RestCopies, later}
use Rattle.lmn_solid_bodies.specs.Rules.{Nests}
use Rattle.lmn_store_heap.proofs.ListOps.{change_at, change_away, change_keeps, there_by}
use Rattle.lmn_solid_bodies.proofs.Growing.{some_there}
use Rattle.lmn_solid_bodies.proofs.RestMems.{new_on, rest_same_mems}
use Rattle.lmn_base.specs.Lists.{In}
use Rattle.lmn_base.proofs.Lists.{in_either}
use Rattle.lmn_store_heap.proofs.Common.{in_at as get_in}

-- the membranes that get rules by name
abbrev pub rule_targets : Registers → List BodyItem → List ℕ
rule_targets r [] = []
rule_targets r (Atom functor links inside ∷ xs) = rule_targets r xs
rule_targets r (Connector left right ∷ xs) = rule_targets r xs
rule_targets r (Copy part link inside ∷ xs) = rule_targets r xs
rule_targets r (Bound integer link inside ∷ xs) = rule_targets r xs
rule_targets r (Membrane inside ∷ xs) = rule_targets r xs
rule_targets r (Rest of closed inside ∷ xs) = rule_targets r xs
rule_targets r (Rule rule inside ∷ xs) = r.head.images.membrane inside ∷ rule_targets r xs
rule_targets r (Rules of inside ∷ xs) = r.head.images.membrane inside ∷ rule_targets r xs

-- Each membrane of a copy has room for the rules of its original, unless rules go to it by name.
abbrev pub HasRoom : Registers → RestCopies → List BodyItem → Heap → Heap → Type 0
HasRoom r q [] s t = Unit {0}
HasRoom r q (Atom functor links inside ∷ xs) s t = HasRoom r q xs s t
HasRoom r q (Connector left right ∷ xs) s t = HasRoom r q xs s t
HasRoom r q (Copy part link inside ∷ xs) s t = HasRoom r q xs s t
HasRoom r q (Bound integer link inside ∷ xs) s t = HasRoom r q xs s t
HasRoom r q (Membrane inside ∷ xs) s t = HasRoom r q xs s t
HasRoom r q (Rest of false inside ∷ xs) s t = HasRoom r q xs s t
HasRoom r q (Rest of true inside ∷ xs) s t =
    ((k x y : ℕ) → slice_get (r.left_membranes of) k ≡ Some x → slice_get (q 0).membranes k ≡ Some y → (In y (rule_targets r xs) → ⊥) → length (rules_in s x) ≤ spare_of t y) × HasRoom r (later q) xs s t
HasRoom r q (Rule rule inside ∷ xs) s t = HasRoom r q xs s t
HasRoom r q (Rules of inside ∷ xs) s t = HasRoom r q xs s t

pub room_as : (r : Registers) (q : RestCopies) (body : List BodyItem) (s s' t : Heap) → ((x : ℕ) → rules_in s' x ≡ rules_in s x) → HasRoom r q body s' t → HasRoom r q body s t
room_as r q [] s s' t e w = tt
room_as r q (Atom functor links inside ∷ xs) s s' t e w = room_as r q xs s s' t e w
room_as r q (Connector left right ∷ xs) s s' t e w = room_as r q xs s s' t e w
room_as r q (Copy part link inside ∷ xs) s s' t e w = room_as r q xs s s' t e w
room_as r q (Bound integer link inside ∷ xs) s s' t e w = room_as r q xs s s' t e w
room_as r q (Membrane inside ∷ xs) s s' t e w = room_as r q xs s s' t e w
room_as r q (Rest of false inside ∷ xs) s s' t e w = room_as r q xs s s' t e w
room_as r q (Rest of true inside ∷ xs) s s' t e w = (λ k x y f g o. subst (λ (zs : List ℕ). length zs ≤ spare_of t y) (e x) (w.0 k x y f g o), room_as r (later q) xs s s' t e w.1)
room_as r q (Rule rule inside ∷ xs) s s' t e w = room_as r q xs s s' t e w
room_as r q (Rules of inside ∷ xs) s s' t e w = room_as r q xs s s' t e w

-- room of one membrane is as it was when others are made
one_room : (s : Heap) (e : ℕ × ℕ) (y : ℕ) → y ≢ e.0 → spare_of (reserved (made_mem s e.0) e.0 e.1) y ≡ spare_of s y
one_room s e y d = change_away spare_by (made_mem s e.0).mems e.0 (mem_with_spare e.1) y d ∙ ap spare_by (alter_away s.mems e.0 (λ _. Some new_mem) y d)

rooms_away : (rooms : List (ℕ × ℕ)) (s : Heap) (y : ℕ) → (In y (map (λ e. e.0) rooms) → ⊥) → spare_of (made_roomy s rooms) y ≡ spare_of s y
rooms_away [] s y o = refl
rooms_away (e ∷ es) s y o = rooms_away es (reserved (made_mem s e.0) e.0 e.1) y (λ i. o (inr i)) ∙ one_room s e y (λ q. o (inl (sym q)))

made_there : (s : Heap) (m : ℕ) → IsSome ((made_mem s m).mems m)
made_there s m = subst (λ (o : Option HeapMem). IsSome o) (sym (at s.mems m)) refl
  where
    at : (f : ℕ → Option HeapMem) (m : ℕ) → alter f m (λ _. Some new_mem) m ≡ Some new_mem
    at f m = rw (eq-eqb m m refl) refl

-- each membrane that is made has its room
rooms_at : (rooms : List (ℕ × ℕ)) (ms : List ℕ) (s0 s : Heap) → AreNewMembranes s (map (λ e. e.0) rooms) → AreRoomsFor s0 ms rooms → (k x y : ℕ) → slice_get ms k ≡ Some x → slice_get (map (λ e. e.0) rooms) k ≡ Some y
    → length (rules_in s0 x) ≤ spare_of (made_roomy s rooms) y
rooms_at rooms [] s0 s n w k x y f g = absurd (get_in [] k x f)
rooms_at [] (m ∷ ms) s0 s n w k x y f g = absurd w
rooms_at (e ∷ es) (m ∷ ms) s0 s n w zero x y f g =
    let a : m ≡ x = (cc) in
    let b : e.0 ≡ y = (cc) in
    let u = made_mem s e.0 in
    let v = reserved u e.0 e.1 in
    let room : spare_of (made_roomy v es) e.0 ≡ e.1 = rooms_away es v e.0 (λ i. each_in (λ z. e.0 ≢ z) (map (λ e. e.0) es) e.0 n.0.0 i refl) ∙ change_at spare_by u.mems e.0 (mem_with_spare e.1) (λ k. e.1) (λ z. refl) (made_there s e.0) in
    subst (λ z. length (rules_in s0 z) ≤ spare_of (made_roomy v es) y) a (subst (λ z. length (rules_in s0 m) ≤ spare_of (made_roomy v es) z) b (subst (λ z. length (rules_in s0 m) ≤ z) (sym room) w.0))
rooms_at (e ∷ es) (m ∷ ms) s0 s n w (suc k) x y f g = rooms_at es ms s0 (reserved (made_mem s e.0) e.0 e.1) (new_on s e (map (λ e. e.0) es) n) w.1 k x y f g

-- a membrane that is there keeps its room, unless rules go to it by name
abbrev Keeps : Heap → Heap → ℕ → Type 0
Keeps s t y = IsSome (t.mems y) × (spare_of t y ≡ spare_of s y)

keeps_same : (s t : Heap) (y : ℕ) → t.mems ≡ s.mems → IsSome (s.mems y) → Keeps s t y
keeps_same s t y e is = (subst (λ (f : ℕ → Option HeapMem). IsSome (f y)) (sym e) is, ap (λ (f : ℕ → Option HeapMem). spare_by (f y)) e)

keeps_made : (s : Heap) (z y : ℕ) → s.mems z ≡ None → IsSome (s.mems y) → Keeps s (made_mem s z) y
keeps_made s z y free is =
    let d : y ≢ z = λ e. let g : IsSome {T = HeapMem} None = subst (λ (o : Option HeapMem). IsSome o) (ap s.mems e ∙ free) is in absurd (cc) in
    let same = alter_away s.mems z (λ _. Some new_mem) y d in
    (subst (λ (o : Option HeapMem). IsSome o) (sym same) is, ap spare_by same)

keeps_reserved : (s : Heap) (z n y : ℕ) → y ≢ z → IsSome (s.mems y) → Keeps s (reserved s z n) y
keeps_reserved s z n y d is = (some_there (s.mems y) ((reserved s z n).mems y) (change_keeps there_by s.mems z (mem_with_spare n) (λ x. refl) y) is, change_away spare_by s.mems z (mem_with_spare n) y d)

keeps_rooms : (rooms : List (ℕ × ℕ)) (s : Heap) (y : ℕ) → AreNewMembranes s (map (λ e. e.0) rooms) → IsSome (s.mems y) → Keeps s (made_roomy s rooms) y
keeps_rooms [] s y n is = (is, refl)
keeps_rooms (e ∷ es) s y n is =
    let u = made_mem s e.0 in
    let v = reserved u e.0 e.1 in
    let free = n.1 e.0 (inl refl) in
    let d : y ≢ e.0 = λ q. let g : IsSome {T = HeapMem} None = subst (λ (o : Option HeapMem). IsSome o) (ap s.mems q ∙ free) is in absurd (cc) in
    let a = keeps_made s e.0 y free is in
    let b = keeps_reserved u e.0 e.1 y d a.0 in
    let c = keeps_rooms es v y (new_on s e (map (λ e. e.0) es) n) b.0 in
    (c.0, c.1 ∙ b.1 ∙ a.1)

pub spare_after : (r : Registers) (a m k : ℕ) (body : List BodyItem) (s t : Heap) → Prepares r (making a m k body) s t → (y : ℕ) → IsSome (s.mems y) → (In y (rule_targets r body) → ⊥) → spare_of t y ≡ spare_of s y
spare_after r a m k [] s t w y is o = ap (λ (z : Heap). spare_of z y) w
spare_after r a m k (Atom functor links inside ∷ xs) s t w y is o = let v = keeps_same s w.0 y (ap (λ (z : Heap). z.mems) w.1.1) is in spare_after r (a + 1) m k xs w.0 t w.2 y v.0 o ∙ v.1
spare_after r a m k (Bound integer link inside ∷ xs) s t w y is o = let v = keeps_same s w.0 y (ap (λ (z : Heap). z.mems) w.1.1) is in spare_after r (a + 1) m k xs w.0 t w.2 y v.0 o ∙ v.1
spare_after r a m k (Connector left right ∷ xs) s t w y is o = spare_after r a m k xs s t w y is o
spare_after r a m k (Copy part link inside ∷ xs) s t w y is o = let v = keeps_same s w.0 y w.1.0.beside.mems is in spare_after r a m (k + 1) xs w.0 t w.2 y v.0 o ∙ v.1
spare_after r a m k (Membrane inside ∷ xs) s t w y is o =
    let v = subst (λ z. Keeps s z y) (sym w.1.1) (keeps_made s (r.head.images.membrane m) y w.1.0 is) in
    spare_after r a (m + 1) k xs w.0 t w.2 y v.0 o ∙ v.1
spare_after r a m k (Rest of false inside ∷ xs) s t w y is o = let v = keeps_same s w.0 y (ap (λ (z : Heap). z.mems) w.1) is in spare_after r a m k xs w.0 t w.2 y v.0 o ∙ v.1
spare_after r a m k (Rest of true inside ∷ xs) s t w y is o =
    let u = keeps_rooms w.1.1 s y w.1.2.new_membranes is in
    let v = keeps_same (made_roomy s w.1.1) w.0 y (rest_same_mems s w.0 (r.left_atoms of) (r.left_membranes of) w.1.0 w.1.1 w.1.2) u.0 in
    spare_after r a m k xs w.0 t w.2 y v.0 o ∙ v.1 ∙ u.1
spare_after r a m k (Rule rule inside ∷ xs) s t w y is o =
    let v = subst (λ z. Keeps s z y) (sym w.1.1) (keeps_reserved s (r.head.images.membrane inside) w.1.0 y (λ e. o (inl (sym e))) is) in
    spare_after r a m k xs w.0 t w.2 y v.0 (λ i. o (inr i)) ∙ v.1
spare_after r a m k (Rules of inside ∷ xs) s t w y is o =
    let v = subst (λ z. Keeps s z y) (sym w.1.1) (keeps_reserved s (r.head.images.membrane inside) w.1.0 y (λ e. o (inl (sym e))) is) in
    spare_after r a m k xs w.0 t w.2 y v.0 (λ i. o (inr i)) ∙ v.1

-- each membrane of a copy that is made has room
pub rest_room : (s u : Heap) (xs ms ys : List ℕ) (rooms : List (ℕ × ℕ)) → RestCopied s u xs ms ys rooms → (k x y : ℕ) → slice_get ms k ≡ Some x → slice_get (map (λ (e : ℕ × ℕ). e.0) rooms) k ≡ Some y → length (rules_in s x) ≤ spare_of u y
rest_room s u xs ms ys rooms c k x y f g =
    subst (λ (z : ℕ → Option HeapMem). length (rules_in s x) ≤ spare_by (z y)) (sym (rest_same_mems s u xs ms ys rooms c)) (rooms_at rooms ms s s c.new_membranes c.roomy k x y f g)

-- a membrane that gets rules by name is that of the rule or a made one
pub targets_within : (r : Registers) (q : RestCopies) (home : ℕ) (done : List ℕ) (m : ℕ) (body : List BodyItem) (y : ℕ) → Nests r home done m body → In y (rule_targets r body) → (y ≡ home) ⊎ In y (done ++ made_mems r q m body)
targets_within r q home done m [] y w i = absurd i
targets_within r q home done m (Atom functor links inside ∷ xs) y w i = targets_within r q home done m xs y w.1 i
targets_within r q home done m (Connector left right ∷ xs) y w i = targets_within r q home done m xs y w i
targets_within r q home done m (Copy part link inside ∷ xs) y w i = targets_within r q home done m xs y w.1 i
targets_within r q home done m (Bound integer link inside ∷ xs) y w i = targets_within r q home done m xs y w.1 i
targets_within r q home done m (Membrane inside ∷ xs) y w i =
    elim (targets_within r q home (done ++ r.head.images.membrane m ∷ []) (m + 1) xs y w.1 i) [ inl e ↦ inl e | inr j ↦ inr (subst (In y) (append_assoc done (r.head.images.membrane m ∷ []) (made_mems r q (m + 1) xs)) j) ]
targets_within r q home done m (Rest of false inside ∷ xs) y w i = targets_within r q home done m xs y w.1 i
targets_within r q home done m (Rest of true inside ∷ xs) y w i = elim (targets_within r (later q) home done m xs y w.1 i) [
  | inl e ↦ inl e
  | inr j ↦ inr (elim (in_either y done (made_mems r (later q) m xs) j) [
    | inl l ↦ in_left y done ((q 0).membranes ++ made_mems r (later q) m xs) l
    | inr l ↦ in_right y done ((q 0).membranes ++ made_mems r (later q) m xs) (in_right y (q 0).membranes (made_mems r (later q) m xs) l)
  ])
]
targets_within r q home done m (Rule rule inside ∷ xs) y w i = elim i [
  | inl e ↦ elim w.0 [ inl f ↦ inl (sym e ∙ f) | inr j ↦ inr (in_left y done (made_mems r q m xs) (subst (λ z. In z done) e j)) ]
  | inr j ↦ targets_within r q home done m xs y w.1 j
]
targets_within r q home done m (Rules of inside ∷ xs) y w i = elim i [
  | inl e ↦ elim w.0 [ inl f ↦ inl (sym e ∙ f) | inr j ↦ inr (in_left y done (made_mems r q m xs) (subst (λ z. In z done) e j)) ]
  | inr j ↦ targets_within r q home done m xs y w.1 j
]
