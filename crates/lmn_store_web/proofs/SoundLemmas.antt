-- What holds of the heap of a store over a web at every moment.
use Rattle.std.proofs.Common.{◌≡◌, ◌≢◌, ◌⊎◌, ℕ, ◌+◌, ◌<◌, ◌==◌, Bool, true, false, cond, List, [], ◌∷◌, length, Option, Some, None, IsSome, refl, sym, ap, subst, ◌∙◌, inl, inr, arith}
use Rattle.std.proofs.lemmas.List.{length-map}
use Rattle.std.specs.Prelude.{slice_index_or}
use Rattle.std.specs.Option.{option_map, option_and_then}
use Rattle.lmn_base.specs.Lists.{In}
use Rattle.lmn_base.specs.declared.functor.Functor.{Functor}
use Rattle.lmn_store_heap.specs.Heap as heap
use Rattle.lmn_store_heap.specs.Heap.{Heap, HeapAtom, HeapMem, Place, top, within, waiting, gone, arity_of, link_of, place_of, mem_place_of, home_of, atoms_in, mems_in, atoms_by, mems_by, IsAtom, IsMem, Distinct}
use Rattle.lmn_store_heap.specs.Sound.{Paired, Listed, Shaped, Sound}
use Rattle.lmn_store_counts.specs.RuleLists.{RuleList}
use Rattle.lmn_web_cells.specs.Cells.{HeldPort, HeldCell}
use Rattle.lmn_web_cells.specs.Ports.{partner_by}
use Rattle.lmn_web_cells.specs.Cells.{cells_by}
use Rattle.lmn_web_cells.specs.Rows.{Row}
use Rattle.lmn_web_merging.specs.Keepers.{keeper, seen_marks, seen_cell, merged_by}
use Rattle.lmn_web_merging.proofs.Seen.{seen_there, seen_kind, is_seen, atom_marks, atom_partners}
use Rattle.lmn_web.specs.declared.kind.CellKind.{CellKind}
use Rattle.lmn_web.specs.declared.kind.CellKind.TheVariants.{Atom, Membrane}
use Rattle.lmn_web.specs.Webs as web
use Rattle.lmn_web.specs.Webs.{WebCell, web_kind, kind_at, home_at, arity_at, partner_at, cells_in, web_of, web_cell, list_in, StandOnce, IsPaired}
use Rattle.lmn_store_web.specs.WebHeaps.{Posts, place_at, atom_by, if_atom, if_membrane, atoms_of, mem_by, is_post, mems_of, heap_by}
use Rattle.lmn_store_web.specs.WebStores.{IsStored}
use Rattle.lmn_web_merging.proofs.Sending.{kind_there}
use Rattle.lmn_store_web.proofs.ReadLemmas.{stands_in, waits_in, stands_back, waits_back, top_back, no_post, is_none, atom_there, mem_there, place_is, atoms_is, mems_is, mem_is, mem_place_is}

-- an atom has one mark more than ports, and each cell has a mark
abbrev pub Formed : (ℕ → Option WebCell) → Type 0
Formed w = (a : ℕ) → IsSome (w a) → (kind_at w a ≡ Atom → length (web.marks_of (w a)) ≡ length (web.partners_of (w a)) + 1) × (0 < length (web.marks_of (w a)))

-- the cells of a raw web have one mark more than ports
web_formed : (f : ℕ → Option HeldCell) (a : ℕ) → IsSome (web_of f a) → length (web.marks_of (web_of f a)) ≡ length (web.partners_of (web_of f a)) + 1
web_formed f a s = by (f a) s
  where
    by : (o : Option HeldCell) → IsSome (option_map (web_cell (list_in f a)) o) → length (web.marks_of (option_map (web_cell (list_in f a)) o)) ≡ length (web.partners_of (option_map (web_cell (list_in f a)) o)) + 1
    by None s = absurd (cc)
    by (Some c) s =
        let b = length-map c.ports (λ (p : HeldPort). p.mark) in
        let d = length-map c.ports partner_by in omega (arith, b, d)

-- so are those that are seen
pub merged_formed : (rows : List Row) → Formed (merged_by rows)
merged_formed rows a s = let w = web.web_by rows in let there = seen_there w a s in let raw = web_formed (cells_by rows) a there.0 in (
  λ e. let k = sym (seen_kind w a there.1) ∙ e in ap (λ (us : List ℕ). length us) (atom_marks w a k) ∙ raw ∙ ap (λ (ps : List (Option (ℕ × ℕ))). length ps + 1) (sym (atom_partners w a k)),
  subst (λ (o : Option WebCell). 0 < length (web.marks_of o)) (sym (is_seen w a there.1)) (by (w a) there.0 raw),
)
  where
    marked : (k : CellKind) (us : List ℕ) → 0 < length us → 0 < length (seen_marks k us)
    marked Atom us l = l
    marked Membrane us l = at (slice_index_or us 1 0 == 0)
      where
        at : (b : Bool) → 0 < length (cond b (slice_index_or us 0 0 ∷ []) us)
        at true = omega arith
        at false = l

    by : (o : Option WebCell) → IsSome o → length (web.marks_of o) ≡ length (web.partners_of o) + 1
        → 0 < length (web.marks_of (option_map (seen_cell (keeper (web.web_by rows)) (cells_in (web.web_by rows) (keeper (web.web_by rows) a) Atom) (cells_in (web.web_by rows) (keeper (web.web_by rows) a) Membrane)) o))
    by None i e = absurd (cc)
    by (Some c) i e = marked c.kind c.marks (omega (arith, e))

-- a port with a partner is a port
pub port_some : (xs : List (Option (ℕ × ℕ))) (i : ℕ) (q : ℕ × ℕ) → slice_index_or xs i None ≡ Some q → length xs ≡ 0 → ⊥
port_some [] i q e z = absurd (cc)
port_some (x ∷ xs) i q e z = omega (arith, z)

module _ (p : Posts) (t : List (Option RuleList)) (w : ℕ → Option WebCell) (k : IsStored p t w) (l : StandOnce w) (r : IsPaired w) (c : Formed w) where
  abbrev H : Heap
  H = heap_by p t w

  home_there : (a m : ℕ) → home_at w a ≡ Some m → IsSome (w a)
  home_there a m e = by (w a) e
    where
      by : (o : Option WebCell) → web.home_of o ≡ Some m → IsSome o
      by None e = absurd (cc)
      by (Some c) e = refl

  -- what has a home is no post
  pub no_line : (a m : ℕ) → home_at w a ≡ Some m → a ≢ p.waiting
  no_line a m e q = let n = (k.homeless a (home_there a m e)).1 (inr (inl q)) in let u : None ≡ Some m = sym n ∙ e in absurd (cc)

  pub no_end : (a m : ℕ) → home_at w a ≡ Some m → a ≢ p.gone
  no_end a m e q = let n = (k.homeless a (home_there a m e)).1 (inr (inr q)) in let u : None ≡ Some m = sym n ∙ e in absurd (cc)

  -- Links

  partners_are : (a : ℕ) → heap.partners_of (atoms_of p w a) ≡ web.partners_of (w a)
  partners_are a = by (w a) (k.portless a)
    where
      kinds : (j : CellKind) (x : WebCell) → (j ≡ Membrane → length x.partners ≡ 0) → heap.partners_of (if_atom j (atom_by p x)) ≡ x.partners
      kinds Atom x h = refl
      kinds Membrane x h = none x.partners (h refl)
        where
          none : (xs : List (Option (ℕ × ℕ))) → length xs ≡ 0 → [] ≡ xs
          none [] e = refl
          none (x ∷ xs) e = absurd (omega (arith, e))

      by : (o : Option WebCell) → (web_kind o ≡ Membrane → length (web.partners_of o) ≡ 0) → heap.partners_of (option_and_then (λ (c : WebCell). if_atom c.kind (atom_by p c)) o) ≡ web.partners_of o
      by None h = refl
      by (Some x) h = kinds x.kind x h

  pub link_is : (a i : ℕ) → link_of H a i ≡ partner_at w a i
  link_is a i = ap (λ xs. slice_index_or xs i None) (partners_are a)

  pub arity_same : (a : ℕ) → arity_of H a ≡ arity_at w a
  arity_same a = ap length (partners_are a)

  -- a port with a partner is one of an atom
  pub linked_there : (a i : ℕ) (q : ℕ × ℕ) → partner_at w a i ≡ Some q → IsAtom H a
  linked_there a i q e = by (w a) (k.portless a) e
    where
      kinds : (j : CellKind) (x : WebCell) → (j ≡ Membrane → length x.partners ≡ 0) → slice_index_or x.partners i None ≡ Some q → IsSome (if_atom j (atom_by p x))
      kinds Atom x h e = refl
      kinds Membrane x h e = absurd (port_some x.partners i q e (h refl))

      by : (o : Option WebCell) → (web_kind o ≡ Membrane → length (web.partners_of o) ≡ 0) → slice_index_or (web.partners_of o) i None ≡ Some q → IsSome (option_and_then (λ (c : WebCell). if_atom c.kind (atom_by p c)) o)
      by None h e = absurd (cc)
      by (Some x) h e = kinds x.kind x h e

  pub heap_paired : Paired H
  heap_paired = record {
    back = λ a i b j e. link_is b j ∙ r.back a i b j (sym (link_is a i) ∙ e);
    apart = λ a i e. r.apart a i (sym (link_is a i) ∙ e);
  }

  -- Lists

  pub in_post : (m : ℕ) → is_post p m ≡ true → (atoms_in H m ≡ []) × (mems_in H m ≡ [])
  in_post m e = (ap (λ b. atoms_by (cond b None (option_and_then (λ (c : WebCell). if_membrane c.kind (mem_by p t c)) (w m)))) e, ap (λ b. mems_by (cond b None (option_and_then (λ (c : WebCell). if_membrane c.kind (mem_by p t c)) (w m)))) e)

  -- what is in the lists of a membrane of the heap, and that of a number that is none
  pub lists_are : (m : ℕ) → is_post p m ≡ false → (atoms_in H m ≡ cells_in w m Atom) × (mems_in H m ≡ cells_in w m Membrane)
  lists_are m e = by (kind_at w m) refl
    where
      atom : (o : Option WebCell) → web_kind o ≡ Atom → option_and_then (λ (c : WebCell). if_membrane c.kind (mem_by p t c)) o ≡ None
      atom None e = refl
      atom (Some x) e = ap (λ j. if_membrane j (mem_by p t x)) e

      by : (j : CellKind) → kind_at w m ≡ j → (atoms_in H m ≡ cells_in w m Atom) × (mems_in H m ≡ cells_in w m Membrane)
      by Membrane j = let d = is_none p m e in (atoms_is p t w m j d.0 d.1, mems_is p t w m j d.0 d.1)
      by Atom j =
          let n = ap (λ b. cond b None (option_and_then (λ (c : WebCell). if_membrane c.kind (mem_by p t c)) (w m))) e ∙ atom (w m) j in
          (ap (λ (o : Option HeapMem). atoms_by o) n ∙ sym (l.bare m Atom j), ap (λ (o : Option HeapMem). mems_by o) n ∙ sym (l.bare m Membrane j))

  in_atoms : (m a : ℕ) → In a (atoms_in H m) → (is_post p m ≡ false) × In a (cells_in w m Atom)
  in_atoms m a i = by (is_post p m) refl
    where
      by : (b : Bool) → is_post p m ≡ b → (is_post p m ≡ false) × In a (cells_in w m Atom)
      by true e = absurd (subst (λ xs. In a xs) (in_post m e).0 i)
      by false e = (e, subst (λ xs. In a xs) (lists_are m e).0 i)

  in_mems : (m a : ℕ) → In a (mems_in H m) → (is_post p m ≡ false) × In a (cells_in w m Membrane)
  in_mems m a i = by (is_post p m) refl
    where
      by : (b : Bool) → is_post p m ≡ b → (is_post p m ≡ false) × In a (cells_in w m Membrane)
      by true e = absurd (subst (λ xs. In a xs) (in_post m e).1 i)
      by false e = (e, subst (λ xs. In a xs) (lists_are m e).1 i)

  atom_placed : (a : ℕ) (P : Place) → place_of H a ≡ Some P → (kind_at w a ≡ Atom) × IsSome (w a) × (place_at p (home_at w a) ≡ P)
  atom_placed a P e =
      let i = atom_there p t w a (some (atoms_of p w a) e) in
      let q : Some (place_at p (home_at w a)) ≡ Some P = sym (place_is p t w a i.1 i.0) ∙ e in
      (i.1, i.0, (cc))
    where
      some : (o : Option HeapAtom) → option_map (λ x. x.place) o ≡ Some P → IsSome o
      some None e = absurd (cc)
      some (Some x) e = refl

  mem_placed : (m : ℕ) (P : Place) → mem_place_of H m ≡ Some P → (kind_at w m ≡ Membrane) × IsSome (w m) × (m ≢ p.waiting) × (m ≢ p.gone) × (place_at p (home_at w m) ≡ P)
  mem_placed m P e =
      let i = mem_there p t w m (some (mems_of p t w m) e) in
      let q : Some (place_at p (home_at w m)) ≡ Some P = sym (mem_place_is p t w m i.1 i.2 i.3 i.0) ∙ e in
      (i.1, i.0, i.2, i.3, (cc))
    where
      some : (o : Option HeapMem) → option_map (λ x. x.place) o ≡ Some P → IsSome o
      some None e = absurd (cc)
      some (Some x) e = refl

  pub heap_listed : Listed H
  heap_listed = record {
    atoms = λ m a. (
      λ i. let j = in_atoms m a i in let h = l.homes m a Atom j.1 in let d = is_none p m j.0 in
          place_is p t w a h.1 (home_there a m h.0) ∙ ap (λ o. Some (place_at p o)) h.0 ∙ ap (λ P. Some P) (stands_in p m d.0 d.1),
      λ e. let q = atom_placed a (within m) e in let b = stands_back p (home_at w a) m q.2 in
          subst (λ xs. In a xs) (sym (lists_are m (no_post p m b.1 b.2)).0) (subst (λ j. In a (cells_in w m j)) q.0 (l.listed m a b.0)),
    );
    atoms_once = λ m. once_atoms m (is_post p m) refl;
    mems = λ m n. (
      λ i. let j = in_mems m n i in let h = l.homes m n Membrane j.1 in let d = is_none p m j.0 in
          mem_place_is p t w n h.1 (no_line n m h.0) (no_end n m h.0) (home_there n m h.0) ∙ ap (λ o. Some (place_at p o)) h.0 ∙ ap (λ P. Some P) (stands_in p m d.0 d.1),
      λ e. let q = mem_placed n (within m) e in let b = stands_back p (home_at w n) m q.4 in
          subst (λ xs. In n xs) (sym (lists_are m (no_post p m b.1 b.2)).1) (subst (λ j. In n (cells_in w m j)) q.0 (l.listed m n b.0)),
    );
    mems_once = λ m. once_mems m (is_post p m) refl;
    new_atoms = λ a. (
      λ i. let h = l.homes p.waiting a Atom i in place_is p t w a h.1 (home_there a p.waiting h.0) ∙ ap (λ o. Some (place_at p o)) h.0 ∙ ap (λ P. Some P) (waits_in p),
      λ e. let q = atom_placed a waiting e in subst (λ j. In a (cells_in w p.waiting j)) q.0 (l.listed p.waiting a (waits_back p (home_at w a) q.2)),
    );
    new_atoms_once = l.once p.waiting Atom;
    new_mems = λ n. (
      λ i. let h = l.homes p.waiting n Membrane i in
          mem_place_is p t w n h.1 (no_line n p.waiting h.0) (no_end n p.waiting h.0) (home_there n p.waiting h.0) ∙ ap (λ o. Some (place_at p o)) h.0 ∙ ap (λ P. Some P) (waits_in p),
      λ e. let q = mem_placed n waiting e in subst (λ j. In n (cells_in w p.waiting j)) q.0 (l.listed p.waiting n (waits_back p (home_at w n) q.4)),
    );
    new_mems_once = l.once p.waiting Membrane;
    root = λ m. (
      λ e. let q = mem_placed m top e in is_root m q.2 q.3 ((k.homeless m q.1).0 (top_back p (home_at w m) q.4)),
      λ e. let s = kind_there (w p.root) k.root in
          subst (λ z. mem_place_of H z ≡ Some top) (sym e) (mem_place_is p t w p.root k.root k.root_waits k.root_goes s ∙ ap (λ o. Some (place_at p o)) ((k.homeless p.root s).1 (inl refl))),
    );
    no_top = λ a e. let q = atom_placed a top e in no_atom a q.0 ((k.homeless a q.1).0 (top_back p (home_at w a) q.2));
    new_empty = λ m e. let q = mem_placed m waiting e in let h = waits_back p (home_at w m) q.4 in let f = lists_are m (no_post p m q.2 q.3) in
        (f.0 ∙ k.bare m Atom h, f.1 ∙ k.bare m Membrane h);
  }
    where
      once_atoms : (m : ℕ) (b : Bool) → is_post p m ≡ b → Distinct (atoms_in H m)
      once_atoms m true e = subst Distinct (sym (in_post m e).0) tt
      once_atoms m false e = subst Distinct (sym (lists_are m e).0) (l.once m Atom)

      once_mems : (m : ℕ) (b : Bool) → is_post p m ≡ b → Distinct (mems_in H m)
      once_mems m true e = subst Distinct (sym (in_post m e).1) tt
      once_mems m false e = subst Distinct (sym (lists_are m e).1) (l.once m Membrane)

      is_root : (m : ℕ) → m ≢ p.waiting → m ≢ p.gone → (m ≡ p.root) ⊎ (m ≡ p.waiting) ⊎ (m ≡ p.gone) → m ≡ p.root
      is_root m d g (inl e) = e
      is_root m d g (inr (inl e)) = absurd (d e)
      is_root m d g (inr (inr e)) = absurd (g e)

      differ : (a b : ℕ) → kind_at w a ≡ Atom → kind_at w b ≡ Membrane → a ≡ b → ⊥
      differ a b x y e = let u : Atom ≡ Membrane = sym x ∙ ap (kind_at w) e ∙ y in absurd (cc)

      no_atom : (a : ℕ) → kind_at w a ≡ Atom → (a ≡ p.root) ⊎ (a ≡ p.waiting) ⊎ (a ≡ p.gone) → ⊥
      no_atom a x (inl e) = differ a p.root x k.root e
      no_atom a x (inr (inl e)) = differ a p.waiting x k.waiting e
      no_atom a x (inr (inr e)) = differ a p.gone x k.gone e

  pub heap_shaped : Shaped H
  heap_shaped = record {
    ports = λ a f e. by (atoms_of p w a) f e (whole a);
    marks = marks_are;
  }
    where
      whole : (a : ℕ) → (x : HeapAtom) → atoms_of p w a ≡ Some x → length x.links ≡ x.functor.arity
      whole a x e = at (w a) x e
        where
          kinds : (j : CellKind) (c : WebCell) (x : HeapAtom) → if_atom j (atom_by p c) ≡ Some x → length x.links ≡ x.functor.arity
          kinds Atom c x e = let s : atom_by p c ≡ x = (cc) in subst (λ (z : HeapAtom). length z.links ≡ z.functor.arity) s refl
          kinds Membrane c x e = absurd (cc)

          at : (o : Option WebCell) (x : HeapAtom) → option_and_then (λ (c : WebCell). if_atom c.kind (atom_by p c)) o ≡ Some x → length x.links ≡ x.functor.arity
          at None x e = absurd (cc)
          at (Some c) x e = kinds c.kind c x e

      by : (o : Option HeapAtom) (f : Functor) → option_map (λ x. x.functor) o ≡ Some f → ((x : HeapAtom) → o ≡ Some x → length x.links ≡ x.functor.arity) → length (heap.partners_of o) ≡ f.arity
      by None f e h = absurd (cc)
      by (Some x) f e h = let s : x.functor ≡ f = (cc) in h x refl ∙ ap (λ (g : Functor). g.arity) s

      marks_are : (a : ℕ) → IsSome (atoms_of p w a) → length (heap.marks_of (atoms_of p w a)) ≡ length (heap.partners_of (atoms_of p w a)) + 1
      marks_are a s = at (w a) s (λ i. (c a i).0)
        where
          kinds : (j : CellKind) (x : WebCell) → IsSome (if_atom j (atom_by p x)) → (j ≡ Atom → length x.marks ≡ length x.partners + 1) → length (heap.marks_of (if_atom j (atom_by p x))) ≡ length (heap.partners_of (if_atom j (atom_by p x))) + 1
          kinds Atom x s e = e refl
          kinds Membrane x s e = absurd (cc)

          at : (o : Option WebCell) → IsSome (option_and_then (λ (c : WebCell). if_atom c.kind (atom_by p c)) o) → (IsSome o → web_kind o ≡ Atom → length (web.marks_of o) ≡ length (web.partners_of o) + 1)
              → length (heap.marks_of (option_and_then (λ (c : WebCell). if_atom c.kind (atom_by p c)) o)) ≡ length (heap.partners_of (option_and_then (λ (c : WebCell). if_atom c.kind (atom_by p c)) o)) + 1
          at None s h = absurd (cc)
          at (Some x) s h = kinds x.kind x s (h refl)

  pub heap_sound : Sound H
  heap_sound = record { paired = heap_paired; listed = heap_listed; shaped = heap_shaped }

  -- the root is a membrane of the heap
  pub root_there : IsMem H p.root
  root_there = mem_is p t w p.root k.root k.root_waits k.root_goes (kind_there (w p.root) k.root)
