-- What a heap over a web has, read off the web.
use Rattle.std.proofs.Common.{◌≡◌, ◌≢◌, ℕ, ◌==◌, Bool, true, false, cond, List, length, Option, Some, None, IsSome, refl, sym, ap, subst, ◌∙◌}
use Rattle.std.proofs.lemmas.Bool.{eq-eqb, eqb-true}
use Rattle.std.specs.Prelude.{slice_index_or, ◌||◌}
use Rattle.std.specs.Option.{option_map, option_and_then}
use Rattle.lmn_base.proofs.Numbers.{not_equal}
use Rattle.lmn_base.specs.declared.functor.Functor.{Functor}
use Rattle.lmn_store_heap.specs.Heap as heap
use Rattle.lmn_store_heap.specs.Heap.{Heap, HeapAtom, HeapMem, Place, top, within, waiting, gone, home_by, functor_of, arity_of, mark_of, mem_mark_of, mem_mark_by, place_of, mem_place_of, home_of, parent_of, atoms_in, mems_in, atoms_by, mems_by}
use Rattle.lmn_store_counts.specs.RuleLists.{RuleList}
use Rattle.lmn_web.specs.declared.kind.CellKind.{CellKind}
use Rattle.lmn_web.specs.declared.kind.CellKind.TheVariants.{Atom, Membrane}
use Rattle.lmn_web.specs.Webs as web
use Rattle.lmn_web.specs.Webs.{WebCell, web_kind, kind_at, home_at, arity_at, cells_in, cells_of, web_label}
use Rattle.lmn_store_web.specs.Labels.{label_by}
use Rattle.lmn_store_web.specs.WebHeaps.{Posts, place_at, atom_by, if_atom, if_membrane, atoms_of, mem_by, is_post, mems_of, heap_by}
use Rattle.lmn_base.proofs.Truth.{never_both}

-- Where an item with a home is, and what that says of the home.
pub data Stand (p : Posts) (h : Option ℕ) (P : Place) : Type 0 where
  at_top : h ≡ None → P ≡ top → Stand p h P
  at_line : h ≡ Some p.waiting → P ≡ waiting → Stand p h P
  at_gone : h ≡ Some p.gone → P ≡ gone → Stand p h P
  at_mem : (b : ℕ) → h ≡ Some b → P ≡ within b → b ≢ p.waiting → b ≢ p.gone → Stand p h P

-- a home that is one is there
pub some_home : (h : Option ℕ) (m : ℕ) → h ≡ Some m → IsSome h
some_home h m e = subst (λ (o : Option ℕ). IsSome o) (sym e) refl

module _ (p : Posts) where
  pub stand : (h : Option ℕ) → Stand p h (place_at p h)
  stand None = at_top refl refl
  stand (Some b) = by (b == p.waiting) (b == p.gone) refl refl
    where
      by : (u v : Bool) → (b == p.waiting) ≡ u → (b == p.gone) ≡ v → Stand p (Some b) (cond u waiting (cond v gone (within b)))
      by true v e f = at_line (ap Some (eqb-true b p.waiting e)) refl
      by false true e f = at_gone (ap Some (eqb-true b p.gone f)) refl
      by false false e f = at_mem b refl refl (λ q. never_both (b == p.waiting) (eq-eqb b p.waiting q) e) (λ q. never_both (b == p.gone) (eq-eqb b p.gone q) f)

  -- a membrane of the heap as a place
  pub stands_in : (m : ℕ) → m ≢ p.waiting → m ≢ p.gone → place_at p (Some m) ≡ within m
  stands_in m d e = by (m == p.waiting) (m == p.gone) (not_equal m p.waiting d) (not_equal m p.gone e)
    where
      by : (u v : Bool) → u ≡ false → v ≡ false → cond u waiting (cond v gone (within m)) ≡ within m
      by true v e f = absurd (cc)
      by false true e f = absurd (cc)
      by false false e f = refl

  pub waits_in : place_at p (Some p.waiting) ≡ waiting
  waits_in = ap (λ b. cond b waiting (cond (p.waiting == p.gone) gone (within p.waiting))) (eq-eqb p.waiting p.waiting refl)

  -- the home of what stands in a membrane of the heap
  pub stands_back : (h : Option ℕ) (m : ℕ) → place_at p h ≡ within m → (h ≡ Some m) × (m ≢ p.waiting) × (m ≢ p.gone)
  stands_back h m e = by (stand h)
    where
      by : Stand p h (place_at p h) → (h ≡ Some m) × (m ≢ p.waiting) × (m ≢ p.gone)
      by (at_top a b) = let w : top ≡ within m = sym b ∙ e in absurd (cc)
      by (at_line a b) = let w : waiting ≡ within m = sym b ∙ e in absurd (cc)
      by (at_gone a b) = let w : gone ≡ within m = sym b ∙ e in absurd (cc)
      by (at_mem k a b c d) = let w : within k ≡ within m = sym b ∙ e in let s : k ≡ m = (cc) in
          (a ∙ ap Some s, λ q. c (s ∙ q), λ q. d (s ∙ q))

  pub waits_back : (h : Option ℕ) → place_at p h ≡ waiting → h ≡ Some p.waiting
  waits_back h e = by (stand h)
    where
      by : Stand p h (place_at p h) → h ≡ Some p.waiting
      by (at_top a b) = let w : top ≡ waiting = sym b ∙ e in absurd (cc)
      by (at_line a b) = a
      by (at_gone a b) = let w : gone ≡ waiting = sym b ∙ e in absurd (cc)
      by (at_mem k a b c d) = let w : within k ≡ waiting = sym b ∙ e in absurd (cc)

  pub gone_back : (h : Option ℕ) → place_at p h ≡ gone → h ≡ Some p.gone
  gone_back h e = by (stand h)
    where
      by : Stand p h (place_at p h) → h ≡ Some p.gone
      by (at_top a b) = let w : top ≡ gone = sym b ∙ e in absurd (cc)
      by (at_line a b) = let w : waiting ≡ gone = sym b ∙ e in absurd (cc)
      by (at_gone a b) = a
      by (at_mem k a b c d) = let w : within k ≡ gone = sym b ∙ e in absurd (cc)

  pub top_back : (h : Option ℕ) → place_at p h ≡ top → h ≡ None
  top_back h e = by (stand h)
    where
      by : Stand p h (place_at p h) → h ≡ None
      by (at_top a b) = a
      by (at_line a b) = let w : waiting ≡ top = sym b ∙ e in absurd (cc)
      by (at_gone a b) = let w : gone ≡ top = sym b ∙ e in absurd (cc)
      by (at_mem k a b c d) = let w : within k ≡ top = sym b ∙ e in absurd (cc)

  -- by the membrane that a place names
  pub named_back : (h : Option ℕ) (m : ℕ) → home_by (place_at p h) ≡ Some m → (h ≡ Some m) × (m ≢ p.waiting) × (m ≢ p.gone)
  named_back h m e = by (stand h)
    where
      by : Stand p h (place_at p h) → (h ≡ Some m) × (m ≢ p.waiting) × (m ≢ p.gone)
      by (at_top a b) = let w = sym (ap home_by b) ∙ e in absurd (cc)
      by (at_line a b) = let w = sym (ap home_by b) ∙ e in absurd (cc)
      by (at_gone a b) = let w = sym (ap home_by b) ∙ e in absurd (cc)
      by (at_mem k a b c d) = let w : Some k ≡ Some m = sym (ap home_by b) ∙ e in let s : k ≡ m = (cc) in
          (a ∙ ap Some s, λ q. c (s ∙ q), λ q. d (s ∙ q))

  pub no_post : (m : ℕ) → m ≢ p.waiting → m ≢ p.gone → is_post p m ≡ false
  no_post m d e = by (m == p.waiting) (m == p.gone) (not_equal m p.waiting d) (not_equal m p.gone e)
    where
      by : (u v : Bool) → u ≡ false → v ≡ false → (u || v) ≡ false
      by true v e f = absurd (cc)
      by false true e f = absurd (cc)
      by false false e f = refl

  pub is_none : (m : ℕ) → is_post p m ≡ false → (m ≢ p.waiting) × (m ≢ p.gone)
  is_none m e = by (m == p.waiting) (m == p.gone) refl refl e
    where
      by : (u v : Bool) → (m == p.waiting) ≡ u → (m == p.gone) ≡ v → (u || v) ≡ false → (m ≢ p.waiting) × (m ≢ p.gone)
      by true v a b n = absurd (cc)
      by false true a b n = absurd (cc)
      by false false a b n = (λ q. never_both (m == p.waiting) (eq-eqb m p.waiting q) a, λ q. never_both (m == p.gone) (eq-eqb m p.gone q) b)

module _ (p : Posts) (t : List (Option RuleList)) (w : ℕ → Option WebCell) where
  abbrev H : Heap
  H = heap_by p t w

  -- an atom of the heap is a cell that is one
  pub atom_there : (a : ℕ) → IsSome (atoms_of p w a) → IsSome (w a) × (kind_at w a ≡ Atom)
  atom_there a i = by (w a) i
    where
      kind : (k : CellKind) (x : HeapAtom) → IsSome (if_atom k x) → k ≡ Atom
      kind Atom x i = refl
      kind Membrane x i = absurd (cc)

      by : (o : Option WebCell) → IsSome (option_and_then (λ (c : WebCell). if_atom c.kind (atom_by p c)) o) → IsSome o × (web_kind o ≡ Atom)
      by None i = absurd (cc)
      by (Some c) i = (refl, kind c.kind (atom_by p c) i)

  -- a membrane of the heap is a cell that is one, and no post
  pub mem_there : (m : ℕ) → IsSome (mems_of p t w m) → IsSome (w m) × (kind_at w m ≡ Membrane) × (m ≢ p.waiting) × (m ≢ p.gone)
  mem_there m i = post (is_post p m) refl i
    where
      kind : (k : CellKind) (x : HeapMem) → IsSome (if_membrane k x) → k ≡ Membrane
      kind Atom x i = absurd (cc)
      kind Membrane x i = refl

      by : (o : Option WebCell) → IsSome (option_and_then (λ (c : WebCell). if_membrane c.kind (mem_by p t c)) o) → IsSome o × (web_kind o ≡ Membrane)
      by None i = absurd (cc)
      by (Some c) i = (refl, kind c.kind (mem_by p t c) i)

      post : (b : Bool) → is_post p m ≡ b → IsSome (cond b None (option_and_then (λ (c : WebCell). if_membrane c.kind (mem_by p t c)) (w m))) → IsSome (w m) × (kind_at w m ≡ Membrane) × (m ≢ p.waiting) × (m ≢ p.gone)
      post true e i = absurd (cc)
      post false e i = let u = by (w m) i in let v = is_none p m e in (u.0, u.1, v.0, v.1)

  atoms_are : (a : ℕ) → kind_at w a ≡ Atom → atoms_of p w a ≡ option_map (atom_by p) (w a)
  atoms_are a e = by (w a) e
    where
      by : (o : Option WebCell) → web_kind o ≡ Atom → option_and_then (λ (c : WebCell). if_atom c.kind (atom_by p c)) o ≡ option_map (atom_by p) o
      by None e = refl
      by (Some c) e = ap (λ k. if_atom k (atom_by p c)) e

  pub mems_are : (m : ℕ) → kind_at w m ≡ Membrane → m ≢ p.waiting → m ≢ p.gone → mems_of p t w m ≡ option_map (mem_by p t) (w m)
  mems_are m e d g = ap (λ b. cond b None (option_and_then (λ (c : WebCell). if_membrane c.kind (mem_by p t c)) (w m))) (no_post p m d g) ∙ by (w m) e
    where
      by : (o : Option WebCell) → web_kind o ≡ Membrane → option_and_then (λ (c : WebCell). if_membrane c.kind (mem_by p t c)) o ≡ option_map (mem_by p t) o
      by None e = refl
      by (Some c) e = ap (λ k. if_membrane k (mem_by p t c)) e

  module _ (a : ℕ) (atom : kind_at w a ≡ Atom) where
    pub arity_is : arity_of H a ≡ arity_at w a
    arity_is = ap (λ (o : Option HeapAtom). length (heap.partners_of o)) (atoms_are a atom) ∙ by (w a)
      where
        by : (o : Option WebCell) → length (heap.partners_of (option_map (atom_by p) o)) ≡ length (web.partners_of o)
        by None = refl
        by (Some c) = refl

    pub mark_is : (i : ℕ) → mark_of H a i ≡ slice_index_or (web.marks_of (w a)) i 0
    mark_is i = ap (λ (o : Option HeapAtom). slice_index_or (heap.marks_of o) i 0) (atoms_are a atom) ∙ by (w a)
      where
        by : (o : Option WebCell) → slice_index_or (heap.marks_of (option_map (atom_by p) o)) i 0 ≡ slice_index_or (web.marks_of o) i 0
        by None = refl
        by (Some c) = refl

    pub functor_is : (l n : ℕ) (f : Functor) → web_label w a ≡ Some l → n ≡ arity_at w a → f ≡ record { label = label_by l; arity = n } → functor_of H a ≡ Some f
    functor_is l n f e g is = ap (λ (o : Option HeapAtom). option_map (λ x. x.functor) o) (atoms_are a atom) ∙ by (w a) e g
      where
        by : (o : Option WebCell) → option_map (λ c. c.label) o ≡ Some l → n ≡ length (web.partners_of o) → option_map (λ x. x.functor) (option_map (atom_by p) o) ≡ Some f
        by None e g = absurd (cc)
        by (Some c) e g = let s : c.label ≡ l = (cc) in
            let u : Functor = record { label = label_by c.label; arity = length c.partners } in
            let v : u ≡ f = (λ i. record { label = label_by (s i); arity = sym g i }) ∙ sym is in ap Some v

    pub place_is : IsSome (w a) → place_of H a ≡ Some (place_at p (home_at w a))
    place_is s = ap (λ (o : Option HeapAtom). option_map (λ x. x.place) o) (atoms_are a atom) ∙ by (w a) s
      where
        by : (o : Option WebCell) → IsSome o → option_map (λ x. x.place) (option_map (atom_by p) o) ≡ Some (place_at p (web.home_of o))
        by None s = absurd (cc)
        by (Some c) s = refl

    pub home_is : IsSome (w a) → home_of H a ≡ home_by (place_at p (home_at w a))
    home_is s = ap (λ (o : Option HeapAtom). option_and_then (λ x. home_by x.place) o) (atoms_are a atom) ∙ by (w a) s
      where
        by : (o : Option WebCell) → IsSome o → option_and_then (λ x. home_by x.place) (option_map (atom_by p) o) ≡ home_by (place_at p (web.home_of o))
        by None s = absurd (cc)
        by (Some c) s = refl

  module _ (m : ℕ) (membrane : kind_at w m ≡ Membrane) (no_line : m ≢ p.waiting) (no_end : m ≢ p.gone) where
    pub mem_is : IsSome (w m) → IsSome (mems_of p t w m)
    mem_is s = subst (λ (o : Option HeapMem). IsSome o) (sym (mems_are m membrane no_line no_end)) (by (w m) s)
      where
        by : (o : Option WebCell) → IsSome o → IsSome (option_map (mem_by p t) o)
        by None s = absurd (cc)
        by (Some c) s = refl

    pub atoms_is : atoms_in H m ≡ cells_in w m Atom
    atoms_is = ap (λ (o : Option HeapMem). atoms_by o) (mems_are m membrane no_line no_end) ∙ by (w m)
      where
        by : (o : Option WebCell) → atoms_by (option_map (mem_by p t) o) ≡ cells_of o Atom
        by None = refl
        by (Some c) = refl

    pub mems_is : mems_in H m ≡ cells_in w m Membrane
    mems_is = ap (λ (o : Option HeapMem). mems_by o) (mems_are m membrane no_line no_end) ∙ by (w m)
      where
        by : (o : Option WebCell) → mems_by (option_map (mem_by p t) o) ≡ cells_of o Membrane
        by None = refl
        by (Some c) = refl

    pub mem_mark_is : mem_mark_of H m ≡ slice_index_or (web.marks_of (w m)) 0 0
    mem_mark_is = ap (λ (o : Option HeapMem). mem_mark_by o) (mems_are m membrane no_line no_end) ∙ by (w m)
      where
        by : (o : Option WebCell) → mem_mark_by (option_map (mem_by p t) o) ≡ slice_index_or (web.marks_of o) 0 0
        by None = refl
        by (Some c) = refl

    pub mem_place_is : IsSome (w m) → mem_place_of H m ≡ Some (place_at p (home_at w m))
    mem_place_is s = ap (λ (o : Option HeapMem). option_map (λ x. x.place) o) (mems_are m membrane no_line no_end) ∙ by (w m) s
      where
        by : (o : Option WebCell) → IsSome o → option_map (λ x. x.place) (option_map (mem_by p t) o) ≡ Some (place_at p (web.home_of o))
        by None s = absurd (cc)
        by (Some c) s = refl

    pub parent_is : IsSome (w m) → parent_of H m ≡ home_by (place_at p (home_at w m))
    parent_is s = ap (λ (o : Option HeapMem). option_and_then (λ x. home_by x.place) o) (mems_are m membrane no_line no_end) ∙ by (w m) s
      where
        by : (o : Option WebCell) → IsSome o → option_and_then (λ x. home_by x.place) (option_map (mem_by p t) o) ≡ home_by (place_at p (web.home_of o))
        by None s = absurd (cc)
        by (Some c) s = refl
