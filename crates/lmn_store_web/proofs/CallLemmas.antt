-- What the calls that read answer, by what the calls of the web answer.
use Rattle.std.proofs.Common.{◌≡◌, ◌≢◌, ◌⊎◌, ◌==◌, Bool, false, ℕ, ◌<◌, List, Option, Some, None, IsSome, IfSome, refl, sym, ap, subst, ◌∙◌, inl, inr}
use Rattle.std.specs.Prelude.{◌↔◌, IsTrue}
use Rattle.std.specs.Option.{option_map, option_and_then}
use Rattle.std.proofs.lemmas.Bool.{eq-eqb, eqb-true}
use Rattle.lmn_base.specs.Lists.{In}
use Rattle.lmn_store_heap.specs.Lists.{from, after}
use Rattle.lmn_store_heap.specs.Heap.{Heap, HeapAtom, home_by, arity_of, link_of, home_of, parent_of, atoms_in, mems_in, IsAtom, IsMem, IsInPlace, IsPlacedMem}
use Rattle.lmn_store_heap.proofs.Trees.{next_in}
use Rattle.lmn_store_counts.specs.RuleLists.{RuleList}
use Rattle.lmn_web.specs.declared.kind.CellKind.TheVariants.{Atom, Membrane}
use Rattle.lmn_web.specs.Webs as web
use Rattle.lmn_web.specs.Webs.{WebCell, kind_at, home_at, partner_at, cells_in, cells_of, StandOnce, IsPaired}
use Rattle.lmn_web.proofs.ListedLemmas.{from_in, if_some}
use Rattle.lmn_store_web.specs.WebHeaps.{Posts, place_at, atoms_of, mems_of, heap_by}
use Rattle.lmn_store_web.specs.WebStores.{IsStored}
use Rattle.lmn_store_web.proofs.ReadLemmas.{stands_in, named_back, no_post, atom_there, mem_there, mem_is, home_is, parent_is, atoms_is, mems_is, some_home}
use Rattle.lmn_store_web.proofs.SoundLemmas.{Formed, link_is, arity_same, linked_there, lists_are}
use Rattle.lmn_store_heap.proofs.Common.{placed_is_mem as parent_some}

-- what is read of an item with a home is read of an item
home_some : (o : Option HeapAtom) → IsSome (option_and_then (λ x. home_by x.place) o) → IsSome o
home_some None s = absurd (cc)
home_some (Some x) s = refl

module _ (p : Posts) (t : List (Option RuleList)) (w : ℕ → Option WebCell) (k : IsStored p t w) (l : StandOnce w) where
  abbrev H : Heap
  H = heap_by p t w

  -- a home is there
  pub home_there : {X : Type 0} (id : X → ℕ) (o : Option X) (a : ℕ) → home_at w a ≡ option_map id o → IfSome o (λ m. IsSome (w (id m)))
  home_there id o a e = if_some id o (λ m. IsSome (w m)) (λ m q. by (w m) (l.listed m a (e ∙ q)))
    where
      by : (o : Option WebCell) → In a (cells_of o (kind_at w a)) → IsSome o
      by None i = absurd i
      by (Some x) i = refl

  pub some_cell : (a m : ℕ) → home_at w a ≡ Some m → IsSome (w a)
  some_cell a m e = by (w a) e
    where
      by : (o : Option WebCell) → web.home_of o ≡ Some m → IsSome o
      by None e = absurd (cc)
      by (Some x) e = refl

  -- An atom in a list of a membrane of the heap.
  pub homes_in : (m a : ℕ) → m ≢ p.waiting → m ≢ p.gone → In a (cells_in w m Atom) → home_of H a ≡ Some m
  homes_in m a d g i = let h = l.homes m a Atom i in
      home_is p t w a h.1 (some_cell a m h.0) ∙ ap (λ o. home_by (place_at p o)) h.0 ∙ ap home_by (stands_in p m d g)

  parents_in : (m n : ℕ) → m ≢ p.waiting → m ≢ p.gone → In n (cells_in w m Membrane) → parent_of H n ≡ Some m
  parents_in m n d g i = let h = l.homes m n Membrane i in
      parent_is p t w n h.1 (no_line_at n m h.0) (no_end_at n m h.0) (some_cell n m h.0) ∙ ap (λ o. home_by (place_at p o)) h.0 ∙ ap home_by (stands_in p m d g)
    where
      no_line_at : (a m : ℕ) → home_at w a ≡ Some m → a ≢ p.waiting
      no_line_at a m e q = let n = (k.homeless a (some_cell a m e)).1 (inr (inl q)) in let u : None ≡ Some m = sym n ∙ e in absurd (cc)

      no_end_at : (a m : ℕ) → home_at w a ≡ Some m → a ≢ p.gone
      no_end_at a m e q = let n = (k.homeless a (some_cell a m e)).1 (inr (inr q)) in let u : None ≡ Some m = sym n ∙ e in absurd (cc)

  -- A membrane with a home is one of the heap.
  pub homed_mem : (n m : ℕ) → home_at w n ≡ Some m → kind_at w n ≡ Membrane → IsMem H n
  homed_mem n m e f = mem_is p t w n f (λ q. no_home (inr (inl q))) (λ q. no_home (inr (inr q))) (some_cell n m e)
    where
      no_home : (n ≡ p.root) ⊎ (n ≡ p.waiting) ⊎ (n ≡ p.gone) → ⊥
      no_home q = let u : None ≡ Some m = sym ((k.homeless n (some_cell n m e)).1 q) ∙ e in absurd (cc)

  -- the home of an atom that stands
  pub in_place : (a m : ℕ) → home_of H a ≡ Some m → (kind_at w a ≡ Atom) × (home_at w a ≡ Some m) × (m ≢ p.waiting) × (m ≢ p.gone)
  in_place a m e =
      let i = atom_there p t w a (home_some (atoms_of p w a) (some_home (home_of H a) m e)) in
      let n = named_back p (home_at w a) m (sym (home_is p t w a i.1 i.0) ∙ e) in (i.1, n.0, n.1, n.2)

  pub mem_in_place : (n m : ℕ) → parent_of H n ≡ Some m → (kind_at w n ≡ Membrane) × (home_at w n ≡ Some m) × (m ≢ p.waiting) × (m ≢ p.gone)
  mem_in_place n m e =
      let i = mem_there p t w n (parent_some (mems_of p t w n) (some_home (parent_of H n) m e)) in
      let q = named_back p (home_at w n) m (sym (parent_is p t w n i.1 i.2 i.3 i.0) ∙ e) in (i.1, q.0, q.1, q.2)

  -- Homes

  pub home_answer : {X : Type 0} (id : X → ℕ) (o q : Option X) (a : ℕ) → IsAtom H a → home_at w a ≡ option_map id o → home_by (place_at p (option_map id o)) ≡ option_map id q → home_of H a ≡ option_map id q
  home_answer id o q a s e f = let i = atom_there p t w a s in home_is p t w a i.1 i.0 ∙ ap (λ o. home_by (place_at p o)) e ∙ f

  pub parent_answer : {X : Type 0} (id : X → ℕ) (o q : Option X) (m : ℕ) → IsMem H m → home_at w m ≡ option_map id o → home_by (place_at p (option_map id o)) ≡ option_map id q → parent_of H m ≡ option_map id q
  parent_answer id o q m s e f = let i = mem_there p t w m s in parent_is p t w m i.1 i.2 i.3 i.0 ∙ ap (λ o. home_by (place_at p o)) e ∙ f

  -- Whether an atom stands in a membrane of the heap

  pub stands_by : (b : Bool) (a n m : ℕ) → IsAtom H a → IsMem H m → home_at w a ≡ Some n → b ≡ (n == m) → IsTrue b ↔ (home_of H a ≡ Some m)
  stands_by b a n m s u e q =
      let i = atom_there p t w a s in
      let j = mem_there p t w m u in (
        λ y. home_is p t w a i.1 i.0 ∙ ap (λ o. home_by (place_at p o)) (e ∙ ap Some (eqb-true n m (sym q ∙ y))) ∙ ap home_by (stands_in p m j.2 j.3),
        λ h. let v : Some n ≡ Some m = sym e ∙ (in_place a m h).1 in q ∙ eq-eqb n m (cc),
      )

  -- what stands nowhere doesn't
  pub stands_nowhere : (a m : ℕ) → IsAtom H a → home_at w a ≡ None → IsTrue false ↔ (home_of H a ≡ Some m)
  stands_nowhere a m s e = (λ y. absurd (cc), λ h. let v : None ≡ Some m = sym e ∙ (in_place a m h).1 in absurd (cc))

  -- The first of a list

  module _ {X : Type 0} (id : X → ℕ) (o : Option X) (m : ℕ) (s : IsMem H m) where
    pub first_atom_list : from (option_map id o) (cells_in w m Atom) ≡ cells_in w m Atom → from (option_map id o) (atoms_in H m) ≡ atoms_in H m
    first_atom_list e = let i = mem_there p t w m s in subst (λ xs. from (option_map id o) xs ≡ xs) (sym (atoms_is p t w m i.1 i.2 i.3)) e

    pub first_atom_home : from (option_map id o) (cells_in w m Atom) ≡ cells_in w m Atom → IfSome o (λ a. home_of H (id a) ≡ Some m)
    first_atom_home e = let i = mem_there p t w m s in
        if_some id o (λ a. home_of H a ≡ Some m) (λ q f. homes_in m q i.2 i.3 (from_in (option_map id o) (cells_in w m Atom) e q f))

    pub first_mem_list : from (option_map id o) (cells_in w m Membrane) ≡ cells_in w m Membrane → from (option_map id o) (mems_in H m) ≡ mems_in H m
    first_mem_list e = let i = mem_there p t w m s in subst (λ xs. from (option_map id o) xs ≡ xs) (sym (mems_is p t w m i.1 i.2 i.3)) e

    pub first_mem_parent : from (option_map id o) (cells_in w m Membrane) ≡ cells_in w m Membrane → IfSome o (λ n. parent_of H (id n) ≡ Some m)
    first_mem_parent e = let i = mem_there p t w m s in
        if_some id o (λ n. parent_of H n ≡ Some m) (λ q f. parents_in m q i.2 i.3 (from_in (option_map id o) (cells_in w m Membrane) e q f))

  -- The next of a list

  pub has_home : (a : ℕ) → IsInPlace H a → IsSome (home_at w a)
  has_home a s = by (home_of H a) refl s
    where
      by : (o : Option ℕ) → home_of H a ≡ o → IsSome o → IsSome (home_at w a)
      by None e s = absurd (cc)
      by (Some m) e s = some_home (home_at w a) m (in_place a m e).1

  pub mem_has_home : (n : ℕ) → IsPlacedMem H n → IsSome (home_at w n)
  mem_has_home n s = by (parent_of H n) refl s
    where
      by : (o : Option ℕ) → parent_of H n ≡ o → IsSome o → IsSome (home_at w n)
      by None e s = absurd (cc)
      by (Some m) e s = some_home (home_at w n) m (mem_in_place n m e).1

  module _ (r : IsPaired w) (c : Formed w) where
    pub next_atom_list : (o : Option ℕ) (a : ℕ) → ((m : ℕ) → home_at w a ≡ Some m → from o (cells_in w m (kind_at w a)) ≡ after a (cells_in w m (kind_at w a)))
        → (m : ℕ) → home_of H a ≡ Some m → from o (atoms_in H m) ≡ after a (atoms_in H m)
    next_atom_list o a h m e = let i = in_place a m e in
        subst (λ xs. from o xs ≡ after a xs) (sym (lists_are p t w k l r c m (no_post p m i.2 i.3)).0) (subst (λ j. from o (cells_in w m j) ≡ after a (cells_in w m j)) i.0 (h m i.1))

    pub next_atom_home : {X : Type 0} (id : X → ℕ) (o : Option X) (a : ℕ) → IsInPlace H a
        → ((m : ℕ) → home_at w a ≡ Some m → from (option_map id o) (cells_in w m (kind_at w a)) ≡ after a (cells_in w m (kind_at w a))) → IfSome o (λ b. home_of H (id b) ≡ home_of H a)
    next_atom_home id o a s h = by (home_of H a) refl s
      where
        by : (u : Option ℕ) → home_of H a ≡ u → IsSome u → IfSome o (λ b. home_of H (id b) ≡ home_of H a)
        by None e s = absurd (cc)
        by (Some m) e s = let i = in_place a m e in
            if_some id o (λ b. home_of H b ≡ home_of H a) (λ q f.
            homes_in m q i.2 i.3 (next_in a q (cells_in w m Atom) (subst (λ z. from z (cells_in w m Atom) ≡ after a (cells_in w m Atom)) f (subst (λ j. from (option_map id o) (cells_in w m j) ≡ after a (cells_in w m j)) i.0 (h m i.1)))) ∙ sym e)

    pub next_mem_list : (o : Option ℕ) (a : ℕ) → ((m : ℕ) → home_at w a ≡ Some m → from o (cells_in w m (kind_at w a)) ≡ after a (cells_in w m (kind_at w a)))
        → (m : ℕ) → parent_of H a ≡ Some m → from o (mems_in H m) ≡ after a (mems_in H m)
    next_mem_list o a h m e = let i = mem_in_place a m e in
        subst (λ xs. from o xs ≡ after a xs) (sym (lists_are p t w k l r c m (no_post p m i.2 i.3)).1) (subst (λ j. from o (cells_in w m j) ≡ after a (cells_in w m j)) i.0 (h m i.1))

    pub next_mem_parent : {X : Type 0} (id : X → ℕ) (o : Option X) (a : ℕ) → IsPlacedMem H a
        → ((m : ℕ) → home_at w a ≡ Some m → from (option_map id o) (cells_in w m (kind_at w a)) ≡ after a (cells_in w m (kind_at w a))) → IfSome o (λ b. parent_of H (id b) ≡ parent_of H a)
    next_mem_parent id o a s h = by (parent_of H a) refl s
      where
        by : (u : Option ℕ) → parent_of H a ≡ u → IsSome u → IfSome o (λ b. parent_of H (id b) ≡ parent_of H a)
        by None e s = absurd (cc)
        by (Some m) e s = let i = mem_in_place a m e in
            if_some id o (λ b. parent_of H b ≡ parent_of H a) (λ q f.
            parents_in m q i.2 i.3 (next_in a q (cells_in w m Membrane) (subst (λ z. from z (cells_in w m Membrane) ≡ after a (cells_in w m Membrane)) f (subst (λ j. from (option_map id o) (cells_in w m j) ≡ after a (cells_in w m j)) i.0 (h m i.1)))) ∙ sym e)

    -- Partners

    pub partner_link : (o : Option (ℕ × ℕ)) (a i : ℕ) → partner_at w a i ≡ o → link_of H a i ≡ o
    partner_link o a i e = link_is p t w k l r c a i ∙ e

    pub partner_there : {X : Type 0} (id : X → ℕ) (o : Option (X × ℕ)) (a i : ℕ) → partner_at w a i ≡ option_map (λ (q : X × ℕ). (id q.0, q.1)) o
        → IfSome o (λ q. IsAtom H (id q.0) × (q.1 < arity_of H (id q.0)))
    partner_there id None a i e = tt
    partner_there id (Some q) a i e =
        (linked_there p t w k l r c (id q.0) q.1 (a, i) (r.back a i (id q.0) q.1 e), subst (λ n. q.1 < n) (sym (arity_same p t w k l r c (id q.0))) (r.reaches a i (id q.0) q.1 e))

    pub partner_back : {X : Type 0} (id : X → ℕ) (o : Option (X × ℕ)) (a i : ℕ) → partner_at w a i ≡ option_map (λ (q : X × ℕ). (id q.0, q.1)) o
        → IfSome o (λ q. link_of H (id q.0) q.1 ≡ Some (a, i))
    partner_back id None a i e = tt
    partner_back id (Some q) a i e = link_is p t w k l r c (id q.0) q.1 ∙ r.back a i (id q.0) q.1 e
