-- The heap after a cell has gone from one list to another: placed, or taken.
use Rattle.std.proofs.Common.{◌≡◌, ◌≢◌, ℕ, ◌==◌, Bool, true, false, cond, List, [], ◌∷◌, ◌++◌, Option, Some, None, IsSome, refl, sym, ap, subst, ◌∙◌, inl, inr}
use Rattle.std.proofs.lemmas.Bool.{cases_eq, eq-eqb, eqb-true}
use Rattle.std.specs.Option.{option_map}
use Rattle.lmn_base.proofs.Numbers.{not_equal}
use Rattle.lmn_store_heap.specs.Heap.{HeapAtom, HeapMem, Place, within, waiting, gone, alter, with_place, mem_with_place, mem_with_atoms, mem_with_mems, home_of, parent_of, IsTopOrWithin, IsMemInPlace, atom_out, mem_out, placed, placed_mem, taken, taken_mem}
use Rattle.lmn_store_heap.specs.Lists.{without, after, from}
use Rattle.lmn_store_heap.proofs.Listing.{alter_at, alter_away, without_first}
use Rattle.lmn_store_counts.specs.RuleLists.{RuleList}
use Rattle.lmn_web.specs.declared.kind.CellKind.{CellKind}
use Rattle.lmn_web.specs.declared.kind.CellKind.TheVariants.{Atom, Membrane}
use Rattle.lmn_web.specs.Webs.{WebCell, kind_at, home_at, cells_in, cells_of, with_home, with_list, StandOnce}
use Rattle.lmn_web.proofs.ListedLemmas.{from_in}
use Rattle.lmn_store_web.specs.Sends.{Sends}
use Rattle.lmn_store_web.specs.WebHeaps.{Posts, place_at, atom_by, if_atom, if_membrane, atoms_of, mem_by, is_post, mems_of, heap_by}
use Rattle.lmn_store_web.specs.WebStores.{IsStored}
use Rattle.lmn_web_merging.proofs.Sending.{kind_there}
use Rattle.lmn_store_web.proofs.ReadLemmas.{stands_in, mem_there, mem_place_is}
use Rattle.lmn_store_web.proofs.SendLemmas.{atom_of, mem_of, list_atom, frame_away, source_list, lists_away}
use Rattle.lmn_store_web.proofs.TableLemmas.{atoms_none, mems_none, mems_post, post_waits, post_goes}

-- a change that changes nothing
pub alter_same : {X : Type 0} (f : ℕ → X) (k : ℕ) (g : X → X) → g (f k) ≡ f k → alter f k g ≡ f
alter_same f k g e = λ i y. at y i
  where
    at : (y : ℕ) → alter f k g y ≡ f y
    at y = elim (cases_eq y k) [
      | inl q ↦ subst (λ z. alter f k g z ≡ f z) (sym q) (alter_at f k g ∙ e)
      | inr d ↦ alter_away f k g y d
    ]

-- a change of what isn't there
alter_none : {X : Type 0} (f : ℕ → Option X) (k : ℕ) (g : X → X) → f k ≡ None → alter f k (option_map g) ≡ f
alter_none f k g e = alter_same f k (option_map g) (ap (option_map g) e ∙ sym e)

-- two changes at two places
alter_swap : {X : Type 0} (f : ℕ → X) (a b : ℕ) (g h : X → X) → a ≢ b → alter (alter f a g) b h ≡ alter (alter f b h) a g
alter_swap f a b g h d = λ i y. at y i
  where
    at : (y : ℕ) → alter (alter f a g) b h y ≡ alter (alter f b h) a g y
    at y = elim (cases_eq y a) [
      | inl e ↦ subst (λ z. alter (alter f a g) b h z ≡ alter (alter f b h) a g z) (sym e)
          (alter_away (alter f a g) b h a d ∙ alter_at f a g ∙ sym (alter_at (alter f b h) a g ∙ ap g (alter_away f b h a d)))
      | inr n ↦ elim (cases_eq y b) [
        | inl e ↦ subst (λ z. alter (alter f a g) b h z ≡ alter (alter f b h) a g z) (sym e)
            (alter_at (alter f a g) b h ∙ ap h (alter_away f a g b (λ q. d (sym q))) ∙ sym (alter_away (alter f b h) a g b (λ q. d (sym q)) ∙ alter_at f b h))
        | inr m ↦ alter_away (alter f a g) b h y m ∙ alter_away f a g y n ∙ sym (alter_away (alter f b h) a g y n ∙ alter_away f b h y m)
      ]
    ]

-- a membrane with its list of a kind changed
abbrev pub mem_with_list : CellKind → (List ℕ → List ℕ) → HeapMem → HeapMem
mem_with_list Atom f = mem_with_atoms f
mem_with_list Membrane f = mem_with_mems f

-- with x at the end
abbrev pub more : ℕ → List ℕ → List ℕ
more x us = us ++ x ∷ []

-- the first of a list has its home and its kind
pub first_is : (w : ℕ → Option WebCell) → StandOnce w → (m x : ℕ) (j : CellKind) → from (Some x) (cells_in w m j) ≡ cells_in w m j → (home_at w x ≡ Some m) × (kind_at w x ≡ j) × (x ≢ m)
first_is w l m x j e = l.homes m x j (from_in (Some x) (cells_in w m j) e x refl)

module _ (p : Posts) (t : List (Option RuleList)) where
  -- what has as its home the cell in whose lists stands what is gone is gone
  pub gone_place : p.waiting ≢ p.gone → place_at p (Some p.gone) ≡ gone
  gone_place d = by (p.gone == p.waiting) (p.gone == p.gone) refl (eq-eqb p.gone p.gone refl)
    where
      by : (u v : Bool) → (p.gone == p.waiting) ≡ u → v ≡ true → cond u waiting (cond v gone (within p.gone)) ≡ gone
      by true v e f = absurd (d (sym (eqb-true p.gone p.waiting e)))
      by false true e f = refl
      by false false e f = absurd (cc)

  module _ (w : ℕ → Option WebCell) where
    some : (o : Option HeapMem) → IsTopOrWithin (option_map (λ x. x.place) o) → IsSome o
    some None i = absurd i
    some (Some x) i = refl

    -- where a membrane in place is, by its cell
    standing : (y : ℕ) → IsMemInPlace (heap_by p t w) y → IsTopOrWithin (Some (place_at p (home_at w y)))
    standing y i = let q = mem_there p t w y (some (mems_of p t w y) i) in subst (λ (o : Option Place). IsTopOrWithin o) (mem_place_is p t w y q.1 q.2 q.3 q.0) i

    -- a membrane in place, by its cell
    pub in_place_mem : (y : ℕ) → IsMemInPlace (heap_by p t w) y → (kind_at w y ≡ Membrane) × (y ≢ p.waiting) × (y ≢ p.gone) × (home_at w y ≢ Some p.waiting)
    in_place_mem y i =
        let q = mem_there p t w y (some (mems_of p t w y) i) in
        (q.1, q.2, q.3, λ e. not_waiting (place_at p (home_at w y)) (ap (place_at p) e ∙ ap (λ b. cond b waiting (cond (p.waiting == p.gone) gone (within p.waiting))) (eq-eqb p.waiting p.waiting refl)) (standing y i))
      where
        not_waiting : (P : Place) → P ≡ waiting → IsTopOrWithin (Some P) → ⊥
        not_waiting P e i = subst (λ P. IsTopOrWithin (Some P)) e i

    -- it is not gone
    pub in_place_stays : (y : ℕ) → p.waiting ≢ p.gone → IsMemInPlace (heap_by p t w) y → home_at w y ≢ Some p.gone
    in_place_stays y apart i e =
        not_gone (place_at p (home_at w y)) (ap (place_at p) e ∙ ap (λ b. cond b waiting (cond (p.gone == p.gone) gone (within p.gone))) (not_equal p.gone p.waiting (λ z. apart (sym z))) ∙ ap (λ b. cond b gone (within p.gone)) (eq-eqb p.gone p.gone refl)) (standing y i)
      where
        not_gone : (P : Place) → P ≡ gone → IsTopOrWithin (Some P) → ⊥
        not_gone P e i = subst (λ P. IsTopOrWithin (Some P)) e i

module _ (p : Posts) (t : List (Option RuleList)) (w v : ℕ → Option WebCell) (m n x : ℕ) (s : Sends w v m n x) where
  abbrev k : CellKind
  k = kind_at w x

  abbrev A : ℕ → Option HeapAtom
  A = atoms_of p w

  abbrev B : ℕ → Option HeapMem
  B = mems_of p t w

  -- the atoms of the heap
  pub atoms_sent : atoms_of p v ≡ alter A x (option_map (with_place (place_at p (Some n))))
  atoms_sent = λ i y. at y i
    where
      kinds : (j : CellKind) (c : WebCell) → if_atom j (atom_by p (with_home (Some n) c)) ≡ option_map (with_place (place_at p (Some n))) (if_atom j (atom_by p c))
      kinds Atom c = refl
      kinds Membrane c = refl

      by : (o : Option WebCell) → atom_of p t (option_map (with_home (Some n)) o) ≡ option_map (with_place (place_at p (Some n))) (atom_of p t o)
      by None = refl
      by (Some c) = kinds c.kind c

      at : (y : ℕ) → atoms_of p v y ≡ alter A x (option_map (with_place (place_at p (Some n)))) y
      at y = elim (cases_eq y x) [
        | inl e ↦ subst (λ z. atoms_of p v z ≡ alter A x (option_map (with_place (place_at p (Some n)))) z) (sym e)
            (ap (atom_of p t) s.moved ∙ by (w x) ∙ sym (alter_at A x (option_map (with_place (place_at p (Some n))))))
        | inr d ↦ frame_away w v m n x s (atom_of p t) (list_atom p t) y d ∙ sym (alter_away A x (option_map (with_place (place_at p (Some n)))) y d)
      ]

  abbrev Bx : ℕ → Option HeapMem
  Bx = alter B x (option_map (mem_with_place (place_at p (Some n))))

  abbrev Bm : ℕ → Option HeapMem
  Bm = alter Bx m (option_map (mem_with_list k (without x)))

  -- and its membranes
  pub mems_sent : mems_of p t v ≡ alter Bm n (option_map (mem_with_list k (more x)))
  mems_sent = λ i y. at y i
    where
      home_kinds : (j : CellKind) (c : WebCell) → if_membrane j (mem_by p t (with_home (Some n) c)) ≡ option_map (mem_with_place (place_at p (Some n))) (if_membrane j (mem_by p t c))
      home_kinds Atom c = refl
      home_kinds Membrane c = refl

      homes : (b : Bool) (o : Option WebCell) → cond b None (mem_of p t (option_map (with_home (Some n)) o)) ≡ option_map (mem_with_place (place_at p (Some n))) (cond b None (mem_of p t o))
      homes true o = refl
      homes false None = refl
      homes false (Some c) = home_kinds c.kind c

      atom_kinds : (f : List ℕ → List ℕ) (i : CellKind) (c : WebCell) → if_membrane i (mem_by p t (with_list Atom (f c.atoms) c)) ≡ option_map (mem_with_atoms f) (if_membrane i (mem_by p t c))
      atom_kinds f Atom c = refl
      atom_kinds f Membrane c = refl

      mem_kinds : (f : List ℕ → List ℕ) (i : CellKind) (c : WebCell) → if_membrane i (mem_by p t (with_list Membrane (f c.membranes) c)) ≡ option_map (mem_with_mems f) (if_membrane i (mem_by p t c))
      mem_kinds f Atom c = refl
      mem_kinds f Membrane c = refl

      lists : (b : Bool) (j : CellKind) (f : List ℕ → List ℕ) (o : Option WebCell) → cond b None (mem_of p t (option_map (with_list j (f (cells_of o j))) o)) ≡ option_map (mem_with_list j f) (cond b None (mem_of p t o))
      lists true j f o = refl
      lists false j f None = refl
      lists false Atom f (Some c) = atom_kinds f c.kind c
      lists false Membrane f (Some c) = mem_kinds f c.kind c

      at : (y : ℕ) → mems_of p t v y ≡ alter Bm n (option_map (mem_with_list k (more x))) y
      at y = elim (cases_eq y x) [
        | inl e ↦ subst (λ z. mems_of p t v z ≡ alter Bm n (option_map (mem_with_list k (more x))) z) (sym e)
            (ap (λ (o : Option WebCell). cond (is_post p x) None (mem_of p t o)) s.moved ∙ homes (is_post p x) (w x)
            ∙ sym (alter_away Bm n (option_map (mem_with_list k (more x))) x s.came ∙ alter_away Bx m (option_map (mem_with_list k (without x))) x s.left ∙ alter_at B x (option_map (mem_with_place (place_at p (Some n))))))
        | inr d ↦ elim (cases_eq y m) [
          | inl e ↦ subst (λ z. mems_of p t v z ≡ alter Bm n (option_map (mem_with_list k (more x))) z) (sym e)
              (ap (λ (o : Option WebCell). cond (is_post p m) None (mem_of p t o)) s.source ∙ lists (is_post p m) k (without x) (w m)
              ∙ sym (alter_away Bm n (option_map (mem_with_list k (more x))) m s.apart ∙ alter_at Bx m (option_map (mem_with_list k (without x)))
              ∙ ap (option_map (mem_with_list k (without x))) (alter_away B x (option_map (mem_with_place (place_at p (Some n)))) m (λ q. s.left (sym q)))))
          | inr g ↦ elim (cases_eq y n) [
            | inl e ↦ subst (λ z. mems_of p t v z ≡ alter Bm n (option_map (mem_with_list k (more x))) z) (sym e)
                (ap (λ (o : Option WebCell). cond (is_post p n) None (mem_of p t o)) s.target ∙ lists (is_post p n) k (more x) (w n)
                ∙ sym (alter_at Bm n (option_map (mem_with_list k (more x)))
                ∙ ap (option_map (mem_with_list k (more x))) (alter_away Bx m (option_map (mem_with_list k (without x))) n (λ q. s.apart (sym q)) ∙ alter_away B x (option_map (mem_with_place (place_at p (Some n)))) n (λ q. s.came (sym q)))))
            | inr h ↦ ap (λ (o : Option WebCell). cond (is_post p y) None (mem_of p t o)) (s.others y d g h)
                ∙ sym (alter_away Bm n (option_map (mem_with_list k (more x))) y h ∙ alter_away Bx m (option_map (mem_with_list k (without x))) y g ∙ alter_away B x (option_map (mem_with_place (place_at p (Some n)))) y d)
          ]
        ]
      ]

other_kind : (j : CellKind) → Membrane ≡ j → j ≡ Atom → ⊥
other_kind j e f = let z : Membrane ≡ Atom = e ∙ f in absurd (cc)

-- An atom that waited, and stands in n now
module _ (p : Posts) (t : List (Option RuleList)) (w v : ℕ → Option WebCell) (n x : ℕ) (s : Sends w v p.waiting n x) (line : kind_at w p.waiting ≡ Membrane) (a : n ≢ p.waiting) (b : n ≢ p.gone) where
  abbrev Aw : ℕ → Option HeapAtom
  Aw = atoms_of p w

  abbrev Bw : ℕ → Option HeapMem
  Bw = mems_of p t w

  abbrev Bxw : ℕ → Option HeapMem
  Bxw = alter Bw x (option_map (mem_with_place (place_at p (Some n))))

  -- the line isn't seen among the membranes
  line_stays : (j : CellKind) → alter Bxw p.waiting (option_map (mem_with_list j (without x))) ≡ Bxw
  line_stays j = alter_none Bxw p.waiting (mem_with_list j (without x)) (alter_away Bw x (option_map (mem_with_place (place_at p (Some n)))) p.waiting (λ q. s.left (sym q)) ∙ mems_post p t w p.waiting (post_waits p p.waiting refl))

  in_n : place_at p (Some n) ≡ within n
  in_n = stands_in p n a b

  -- an atom is placed
  pub placed_heap : kind_at w x ≡ Atom → from (Some x) (cells_in w p.waiting Atom) ≡ cells_in w p.waiting Atom → heap_by p t v ≡ placed (heap_by p t w) n x
  placed_heap atom first = λ i. record { root = p.root; atoms = atoms_are i; mems = mems_are i; new_atoms = line_is i; new_mems = other_line i }
    where
      atoms_are : atoms_of p v ≡ alter Aw x (option_map (with_place (within n)))
      atoms_are = atoms_sent p t w v p.waiting n x s ∙ ap (λ P. alter Aw x (option_map (with_place P))) in_n

      mems_are : mems_of p t v ≡ alter Bw n (option_map (mem_with_atoms (more x)))
      mems_are = mems_sent p t w v p.waiting n x s ∙ ap (λ (f : ℕ → Option HeapMem). alter f n (option_map (mem_with_list (kind_at w x) (more x)))) (line_stays (kind_at w x) ∙ alter_none Bw x (mem_with_place (place_at p (Some n))) (mems_none p t w x atom))
          ∙ ap (λ j. alter Bw n (option_map (mem_with_list j (more x)))) atom

      line_is : cells_in v p.waiting Atom ≡ after x (cells_in w p.waiting Atom)
      line_is = subst (λ j. cells_in v p.waiting j ≡ without x (cells_in w p.waiting j)) atom (source_list w v p.waiting n x s (kind_there (w p.waiting) line)) ∙ without_first x (cells_in w p.waiting Atom) first

      other_line : cells_in v p.waiting Membrane ≡ cells_in w p.waiting Membrane
      other_line = lists_away w v p.waiting n x s p.waiting Membrane (λ _ e. other_kind (kind_at w x) e atom) (λ e _. a (sym e))

  -- a membrane is placed
  pub placed_mem_heap : kind_at w x ≡ Membrane → from (Some x) (cells_in w p.waiting Membrane) ≡ cells_in w p.waiting Membrane → heap_by p t v ≡ placed_mem (heap_by p t w) n x
  placed_mem_heap membrane first = λ i. record { root = p.root; atoms = atoms_are i; mems = mems_are i; new_atoms = other_line i; new_mems = line_is i }
    where
      atoms_are : atoms_of p v ≡ Aw
      atoms_are = atoms_sent p t w v p.waiting n x s ∙ alter_none Aw x (with_place (place_at p (Some n))) (atoms_none p w x membrane)

      mems_are : mems_of p t v ≡ alter (alter Bw x (option_map (mem_with_place (within n)))) n (option_map (mem_with_mems (more x)))
      mems_are = mems_sent p t w v p.waiting n x s ∙ ap (λ (f : ℕ → Option HeapMem). alter f n (option_map (mem_with_list (kind_at w x) (more x)))) (line_stays (kind_at w x))
          ∙ (λ i. alter (alter Bw x (option_map (mem_with_place (in_n i)))) n (option_map (mem_with_list (membrane i) (more x))))

      line_is : cells_in v p.waiting Membrane ≡ after x (cells_in w p.waiting Membrane)
      line_is = subst (λ j. cells_in v p.waiting j ≡ without x (cells_in w p.waiting j)) membrane (source_list w v p.waiting n x s (kind_there (w p.waiting) line)) ∙ without_first x (cells_in w p.waiting Membrane) first

      other_line : cells_in v p.waiting Atom ≡ cells_in w p.waiting Atom
      other_line = lists_away w v p.waiting n x s p.waiting Atom (λ _ e. other_kind Atom (sym membrane ∙ sym e) refl) (λ e _. a (sym e))

-- What stood in m, and is gone now
module _ (p : Posts) (t : List (Option RuleList)) (w v : ℕ → Option WebCell) (m x : ℕ) (s : Sends w v m p.gone x) (apart : p.waiting ≢ p.gone) (a : m ≢ p.waiting) where
  abbrev Ag : ℕ → Option HeapAtom
  Ag = atoms_of p w

  abbrev Bg : ℕ → Option HeapMem
  Bg = mems_of p t w

  abbrev Bxg : ℕ → Option HeapMem
  Bxg = alter Bg x (option_map (mem_with_place (place_at p (Some p.gone))))

  end_stays : (j : CellKind) → alter (alter Bxg m (option_map (mem_with_list j (without x)))) p.gone (option_map (mem_with_list j (more x))) ≡ alter Bxg m (option_map (mem_with_list j (without x)))
  end_stays j = alter_none (alter Bxg m (option_map (mem_with_list j (without x)))) p.gone (mem_with_list j (more x))
      (alter_away Bxg m (option_map (mem_with_list j (without x))) p.gone (λ q. s.apart (sym q)) ∙ alter_away Bg x (option_map (mem_with_place (place_at p (Some p.gone)))) p.gone (λ q. s.came (sym q)) ∙ mems_post p t w p.gone (post_goes p p.gone refl))

  gone_is : place_at p (Some p.gone) ≡ gone
  gone_is = gone_place p t apart

  lines : (j : CellKind) → cells_in v p.waiting j ≡ cells_in w p.waiting j
  lines j = lists_away w v m p.gone x s p.waiting j (λ e _. a (sym e)) (λ e _. apart e)

  -- an atom is taken
  pub taken_heap : kind_at w x ≡ Atom → home_of (heap_by p t w) x ≡ Some m → heap_by p t v ≡ taken (heap_by p t w) x
  taken_heap atom home = λ i. record { root = p.root; atoms = atoms_are i; mems = mems_are i; new_atoms = lines Atom i; new_mems = lines Membrane i }
    where
      atoms_are : atoms_of p v ≡ alter Ag x (option_map (with_place gone))
      atoms_are = atoms_sent p t w v m p.gone x s ∙ ap (λ P. alter Ag x (option_map (with_place P))) gone_is

      mems_are : mems_of p t v ≡ atom_out Bg (home_of (heap_by p t w) x) x
      mems_are = mems_sent p t w v m p.gone x s ∙ end_stays (kind_at w x) ∙ ap (λ (f : ℕ → Option HeapMem). alter f m (option_map (mem_with_list (kind_at w x) (without x)))) (alter_none Bg x (mem_with_place (place_at p (Some p.gone))) (mems_none p t w x atom))
          ∙ ap (λ j. alter Bg m (option_map (mem_with_list j (without x)))) atom ∙ ap (λ o. atom_out Bg o x) (sym home)

  -- a membrane is taken
  pub taken_mem_heap : kind_at w x ≡ Membrane → parent_of (heap_by p t w) x ≡ Some m → heap_by p t v ≡ taken_mem (heap_by p t w) x
  taken_mem_heap membrane home = λ i. record { root = p.root; atoms = atoms_are i; mems = mems_are i; new_atoms = lines Atom i; new_mems = lines Membrane i }
    where
      atoms_are : atoms_of p v ≡ Ag
      atoms_are = atoms_sent p t w v m p.gone x s ∙ alter_none Ag x (with_place (place_at p (Some p.gone))) (atoms_none p w x membrane)

      mems_are : mems_of p t v ≡ alter (mem_out Bg (parent_of (heap_by p t w) x) x) x (option_map (mem_with_place gone))
      mems_are = mems_sent p t w v m p.gone x s ∙ end_stays (kind_at w x) ∙ (λ i. alter (alter Bg x (option_map (mem_with_place (gone_is i)))) m (option_map (mem_with_list (membrane i) (without x))))
          ∙ alter_swap Bg x m (option_map (mem_with_place gone)) (option_map (mem_with_mems (without x))) s.left ∙ ap (λ o. alter (mem_out Bg o x) x (option_map (mem_with_place gone))) (sym home)

-- a list that isn't empty has a first
pub first_some : {X : Type 0} (id : X → ℕ) (o : Option X) (us : List ℕ) → from (option_map id o) us ≡ us → us ≢ [] → IsSome o
first_some id None us e n = absurd (n (sym e))
first_some id (Some x) us e n = refl

-- what holds of the first x of what waits, and of the membrane n to which it goes
pub record Placing (p : Posts) (w : ℕ → Option WebCell) (j : CellKind) (x n : ℕ) : Type 0 where
  pub home : home_at w x ≡ Some p.waiting
  pub kind : kind_at w x ≡ j
  pub membrane : kind_at w n ≡ Membrane
  pub no_line : n ≢ p.waiting
  pub no_end : n ≢ p.gone
  pub fits : home_at w n ≢ Some p.waiting
  pub differ : x ≢ n
  pub elsewhere : home_at w x ≢ Some n

-- what holds of x, which stands in m and is taken
pub record Taking (p : Posts) (w : ℕ → Option WebCell) (x m : ℕ) : Type 0 where
  pub home : home_at w x ≡ Some m
  pub no_line : m ≢ p.waiting
  pub fits : home_at w p.gone ≢ Some p.waiting
  pub differ : x ≢ p.gone
  pub elsewhere : home_at w x ≢ Some p.gone

module _ (p : Posts) (t : List (Option RuleList)) (w : ℕ → Option WebCell) (h : IsStored p t w) (l : StandOnce w) where
  -- so what waits may be placed
  pub placing : (j : CellKind) (x n : ℕ) → from (Some x) (cells_in w p.waiting j) ≡ cells_in w p.waiting j → IsMemInPlace (heap_by p t w) n → Placing p w j x n
  placing j x n e i = let f = first_is w l p.waiting x j e in let q = in_place_mem p t w n i in record {
    home = f.0;
    kind = f.1;
    membrane = q.0;
    no_line = q.1;
    no_end = q.2;
    fits = q.3;
    differ = λ e. q.3 (ap (home_at w) (sym e) ∙ f.0);
    elsewhere = λ e. q.1 (let z : Some n ≡ Some p.waiting = sym e ∙ f.0 in cc);
  }

  gone_home : home_at w p.gone ≡ None
  gone_home = (h.homeless p.gone (kind_there (w p.gone) h.gone)).1 (inr (inr refl))

  -- so it may be taken
  pub taking : (x m : ℕ) → home_at w x ≡ Some m → m ≢ p.waiting → m ≢ p.gone → Taking p w x m
  taking x m e a b = record {
    home = e;
    no_line = a;
    fits = λ f. let z : None ≡ Some p.waiting = sym gone_home ∙ f in absurd (cc);
    differ = λ f. let z : Some m ≡ None = sym e ∙ ap (home_at w) f ∙ gone_home in absurd (cc);
    elsewhere = λ f. b (let z : Some m ≡ Some p.gone = sym e ∙ f in cc);
  }
