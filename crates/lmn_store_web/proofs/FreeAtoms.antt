-- All atoms of a line are freed at once: what is left, and that it may be freed further.
use Rattle.std.proofs.Common.{◌≡◌, ◌≢◌, ℕ, ◌-◌, ◌<◌, ◌≤◌, true, cond, List, [], ◌∷◌, length, Option, Some, None, IsSome, is_some, refl, sym, ap, subst, ◌∙◌, inl, inr, arith}
use Rattle.std.specs.Prelude.{slice_index_or}
use Rattle.std.proofs.lemmas.Bool.{cases_eq}
use Rattle.std.specs.Option.{option_map, option_and_then}
use Rattle.lmn_base.specs.Lists.{In}
use Rattle.lmn_base.proofs.Lists.{some_is}
use Rattle.lmn_store_heap.specs.Heap.{HeapAtom, HeapMem, alter}
use Rattle.lmn_store_heap.specs.Lists.{Distinct}
use Rattle.lmn_store_heap.proofs.Common.{decide_in}
use Rattle.lmn_store_heap.proofs.ListLemmas.{each_in}
use Rattle.lmn_store_heap.proofs.Listing.{alter_at, alter_away}
use Rattle.lmn_store_counts.specs.RuleLists.{RuleList}
use Rattle.lmn_store_counts.specs.Census.{Census}
use Rattle.lmn_store_counts.specs.Counts.{HasCounts, one}
use Rattle.lmn_store_counts.proofs.CensusLemmas.{census_drop, census_less}
use Rattle.lmn_web_merging.proofs.Relisting.{list_marks}
use Rattle.lmn_web.specs.declared.kind.CellKind.{CellKind}
use Rattle.lmn_web.specs.declared.kind.CellKind.TheVariants.{Atom, Membrane}
use Rattle.lmn_web.specs.Webs as web
use Rattle.lmn_web.specs.Webs.{WebCell, WithoutAtoms, web_kind, kind_at, home_at, arity_at, partner_at, cells_in, cells_of, web_label, with_list, IsPaired, StandOnce}
use Rattle.lmn_store_web.specs.Frees.{CanFree, Frees}
use Rattle.lmn_store_web.specs.WebHeaps.{Posts, place_at, atoms_of, is_post, mems_of}
use Rattle.lmn_store_web.specs.WebStores.{IsStored}
use Rattle.lmn_store_web.proofs.ReadLemmas.{mem_there}
use Rattle.lmn_web_merging.proofs.Sending.{list_label, list_kind, list_ports, list_there, list_home, list_at_kind, home_some, kind_there}
use Rattle.lmn_store_web.proofs.SendLemmas.{atom_of, mem_of, list_atom}
use Rattle.lmn_store_web.proofs.FreeLemmas.{freed_none, atom_place}
use Rattle.lmn_store_web.proofs.TableLemmas.{labelled_there, post_waits, post_goes, mems_none, mems_post}

-- Items are dropped

abbrev all_dropped : (ℕ → Option HeapAtom) → List ℕ → ℕ → Option HeapAtom
all_dropped h [] = h
all_dropped h (x ∷ xs) = all_dropped (alter h x (λ _. None)) xs

dropped_out : (h : ℕ → Option HeapAtom) (xs : List ℕ) (y : ℕ) → (In y xs → ⊥) → all_dropped h xs y ≡ h y
dropped_out h [] y n = refl
dropped_out h (x ∷ xs) y n = dropped_out (alter h x (λ _. None)) xs y (λ i. n (inr i)) ∙ alter_away h x (λ _. None) y (λ e. n (inl (sym e)))

dropped_in : (h : ℕ → Option HeapAtom) (xs : List ℕ) (y : ℕ) → In y xs → all_dropped h xs y ≡ None
dropped_in h [] y i = absurd i
dropped_in h (x ∷ xs) y (inr i) = dropped_in (alter h x (λ _. None)) xs y i
dropped_in h (x ∷ xs) y (inl e) = elim (decide_in y xs) [
  | inl i ↦ dropped_in (alter h x (λ _. None)) xs y i
  | inr n ↦ dropped_out (alter h x (λ _. None)) xs y n ∙ ap (alter h x (λ _. None)) (sym e) ∙ alter_at h x (λ _. None)
]

-- each of them was counted
census_all : (h : ℕ → Option HeapAtom) (n : ℕ) (xs : List ℕ) → Distinct xs → ((x : ℕ) → In x xs → IsSome (h x)) → Census one h n → (length xs ≤ n) × Census one (all_dropped h xs) (n - length xs)
census_all h n [] d t c = (omega arith, subst (λ k. Census one h k) (let e : n ≡ n - 0 = omega arith in e) c)
census_all h n (x ∷ xs) d t c =
    let a = some_is (h x) (t x (inl refl)) in let less : 1 ≤ n = census_less one h n x a.0 a.1 c in let g : ℕ → Option HeapAtom = alter h x (λ _. None) in
    let r = census_all g (n - 1) xs d.1 (λ y i. subst (λ (o : Option HeapAtom). IsSome o) (sym (alter_away h x (λ _. None) y (λ e. each_in (λ z. x ≢ z) xs y d.0 i (sym e)))) (t y (inr i))) (census_drop one h n x a.0 a.1 c) in
    let low = r.0 in (omega (arith, less, low), subst (λ k. Census one (all_dropped g xs) k) (let e : n - 1 - length xs ≡ n - length (x ∷ xs) = omega arith in e) r.1)

module _ (p : Posts) (l : ℕ) (t : List (Option RuleList)) (w : ℕ → Option WebCell) (n m s : ℕ) (c : CanFree p l t w n m s) (o : StandOnce w) (q : IsPaired w) where
  abbrev xs : List ℕ
  xs = cells_in w l Atom

  home_is : (x : ℕ) → In x xs → home_at w x ≡ Some l
  home_is x i = (o.homes l x Atom i).0

  kind_is : (x : ℕ) → In x xs → kind_at w x ≡ Atom
  kind_is x i = (o.homes l x Atom i).1

  port_atom : (b j : ℕ) → j < arity_at w b → kind_at w b ≡ Atom
  port_atom b j low = by (kind_at w b) refl
    where
      by : (k : CellKind) → kind_at w b ≡ k → kind_at w b ≡ Atom
      by Atom e = e
      by Membrane e = absurd (let z = c.stored.portless b e in omega (arith, z, low))

  -- the atoms of the line are joined to one another alone
  pub line_closed : (a i b j : ℕ) → In a xs → partner_at w a i ≡ Some (b, j) → In b xs
  line_closed a i b j k e = subst (λ z. In b (cells_in w l z)) (port_atom b j (q.reaches a i b j e)) (o.listed l b (c.closed a i b j (home_is a k) e))

  counted : (length xs ≤ n) × Census one (all_dropped (atoms_of p w) xs) (n - length xs)
  counted = census_all (atoms_of p w) n xs (o.once l Atom) there c.counts.atom_census
    where
      by : (z : Option WebCell) → web_kind z ≡ Atom → IsSome z → IsSome (atom_of p t z)
      by None k i = absurd (cc)
      by (Some d) k i = subst (λ (j : CellKind). IsSome (atom_of p t (Some record d { kind = j }))) (sym k) refl

      there : (x : ℕ) → In x xs → IsSome (atoms_of p w x)
      there x i = by (w x) (kind_is x i) (home_some (w x) (subst (λ (h : Option ℕ). IsSome h) (sym (home_is x i)) refl))

  -- they are counted
  pub line_counted : length xs ≤ n
  line_counted = counted.0

  no_mem : (y : ℕ) → kind_at w y ≡ Membrane → In y xs → ⊥
  no_mem y e i = let z : Atom ≡ Membrane = sym (kind_is y i) ∙ e in absurd (cc)

  line_there : kind_at w l ≡ Membrane
  line_there = elim c.line [ inl e ↦ ap (kind_at w) e ∙ c.stored.waiting | inr e ↦ ap (kind_at w) e ∙ c.stored.gone ]

  line_post : is_post p l ≡ true
  line_post = elim c.line [ inl e ↦ post_waits p l e | inr e ↦ post_goes p l e ]

  line_home : home_at w l ≡ None
  line_home = (c.stored.homeless l (kind_there (w l) line_there)).1 (elim c.line [ inl e ↦ inr (inl e) | inr e ↦ inr (inr e) ])

  homed_not_line : (y h : ℕ) → home_at w y ≡ Some h → y ≢ l
  homed_not_line y h e z = let f : Some h ≡ None = sym e ∙ ap (home_at w) z ∙ line_home in absurd (cc)

  module _ (v : ℕ → Option WebCell) (d : WithoutAtoms w v l) where
    rest : {X : Type 0} (f : Option WebCell → X) → ((j : CellKind) (us : List ℕ) (z : Option WebCell) → f (option_map (with_list j us) z) ≡ f z) → (y : ℕ) → (In y xs → ⊥) → f (v y) ≡ f (w y)
    rest f b y a = elim (cases_eq y l) [
      | inl e ↦ subst (λ z. f (v z) ≡ f (w z)) (sym e) (ap f d.home ∙ b Atom [] (w l))
      | inr g ↦ ap f (d.others y a g)
    ]

    home_rest : (y : ℕ) → (In y xs → ⊥) → home_at v y ≡ home_at w y
    home_rest = rest web.home_of list_home

    there_rest : (y : ℕ) → (In y xs → ⊥) → is_some (v y) ≡ is_some (w y)
    there_rest = rest (λ (z : Option WebCell). is_some z) list_there

    label_rest : (y : ℕ) → (In y xs → ⊥) → web_label v y ≡ web_label w y
    label_rest = rest (λ (z : Option WebCell). option_map (λ (k : WebCell). k.label) z) list_label

    ports_rest : (y : ℕ) → (In y xs → ⊥) → web.partners_of (v y) ≡ web.partners_of (w y)
    ports_rest = rest web.partners_of list_ports

    mark_rest : (y : ℕ) → (In y xs → ⊥) → slice_index_or (web.marks_of (v y)) 1 0 ≡ slice_index_or (web.marks_of (w y)) 1 0
    mark_rest = rest (λ (o : Option WebCell). slice_index_or (web.marks_of o) 1 0) (λ j us o. ap (λ (ms : List ℕ). slice_index_or ms 1 0) (list_marks j us o))

    cells_rest : (y : ℕ) (j : CellKind) → (In y xs → ⊥) → y ≢ l → cells_in v y j ≡ cells_in w y j
    cells_rest y j a g = ap (λ (z : Option WebCell). cells_of z j) (d.others y a g)

    kind_all : (y : ℕ) → kind_at v y ≡ kind_at w y
    kind_all y = elim (decide_in y xs) [
      | inl i ↦ ap web_kind (d.gone y i) ∙ sym (kind_is y i)
      | inr a ↦ rest web_kind list_kind y a
    ]

    -- what is there stayed
    not_gone : (y : ℕ) → IsSome (v y) → In y xs → ⊥
    not_gone y i j = let h : IsSome {T = WebCell} None = subst (λ (z : Option WebCell). IsSome z) (d.gone y j) i in absurd (cc)

    home_not_gone : (y h : ℕ) → home_at v y ≡ Some h → In y xs → ⊥
    home_not_gone y h e = not_gone y (home_some (v y) (subst (λ (z : Option ℕ). IsSome z) (sym e) refl))

    mem_not_gone : (y : ℕ) → kind_at v y ≡ Membrane → In y xs → ⊥
    mem_not_gone y e = no_mem y (sym (kind_all y) ∙ e)

    -- the atoms of the heap
    atoms_is : atoms_of p v ≡ all_dropped (atoms_of p w) xs
    atoms_is = λ i y. at y i
      where
        at : (y : ℕ) → atoms_of p v y ≡ all_dropped (atoms_of p w) xs y
        at y = elim (decide_in y xs) [
          | inl i ↦ ap (atom_of p t) (d.gone y i) ∙ sym (dropped_in (atoms_of p w) xs y i)
          | inr a ↦ rest (atom_of p t) (list_atom p t) y a ∙ sym (dropped_out (atoms_of p w) xs y a)
        ]

    -- and the membranes
    mems_is : mems_of p t v ≡ mems_of p t w
    mems_is = λ i y. at y i
      where
        at : (y : ℕ) → mems_of p t v y ≡ mems_of p t w y
        at y = elim (decide_in y xs) [
          | inl i ↦ mems_none p t v y (kind_all y ∙ kind_is y i) ∙ sym (mems_none p t w y (kind_is y i))
          | inr a ↦ elim (cases_eq y l) [
            | inl e ↦ subst (λ z. mems_of p t v z ≡ mems_of p t w z) (sym e) (mems_post p t v l line_post ∙ sym (mems_post p t w l line_post))
            | inr f ↦ ap (λ (z : Option WebCell). cond (is_post p y) None (mem_of p t z)) (d.others y a f)
          ]
        ]

    mem_was : (y : ℕ) → IsSome (mems_of p t v y) → IsSome (mems_of p t w y)
    mem_was y i = subst (λ (f : ℕ → Option HeapMem). IsSome (f y)) mems_is i

    line_stored : IsStored p t v
    line_stored = record {
      root = kind_all p.root ∙ c.stored.root;
      waiting = kind_all p.waiting ∙ c.stored.waiting;
      gone = kind_all p.gone ∙ c.stored.gone;
      root_waits = c.stored.root_waits;
      root_goes = c.stored.root_goes;
      apart = c.stored.apart;
      homeless = λ y i. let k = not_gone y i in let h = c.stored.homeless y (sym (there_rest y k) ∙ i) in (λ z. h.0 (sym (home_rest y k) ∙ z), λ z. home_rest y k ∙ h.1 z);
      portless = λ y e. ap (λ (ps : List (Option (ℕ × ℕ))). length ps) (ports_rest y (mem_not_gone y e)) ∙ c.stored.portless y (sym (kind_all y) ∙ e);
      labels = λ y i e z. c.stored.labels y i (sym (kind_all y) ∙ e) (sym (label_rest y (not_gone y (labelled_there (v y) i z))) ∙ z);
      rules = λ y e a b. let r = c.stored.rules y (sym (kind_all y) ∙ e) a b in (r.0, (label_rest y (mem_not_gone y e) ∙ r.1.0, r.1.1));
      own_rules = λ y z i a b e f. c.stored.own_rules y z i (mem_was y a) (mem_was z b) (sym (label_rest y (not_gone y (mem_there p t v y a).0)) ∙ e) (sym (label_rest z (not_gone z (mem_there p t v z b).0)) ∙ f);
      used = λ i z. let r = c.stored.used i z in
          (r.0, subst (λ (f : ℕ → Option HeapMem). IsSome (f r.0)) (sym mems_is) r.1, label_rest r.0 (no_mem r.0 (mem_there p t w r.0 r.1).1) ∙ r.2);
      files = λ y f i e. c.stored.files y f i (sym (label_rest y (not_gone y (labelled_there (v y) i e))) ∙ e);
      bare = λ y j e. let k = home_not_gone y p.waiting e in let h = sym (home_rest y k) ∙ e in cells_rest y j k (homed_not_line y p.waiting h) ∙ c.stored.bare y j h;
      lent = λ y e f. let k = mem_not_gone y e in home_rest y k ∙ c.stored.lent y (sym (kind_all y) ∙ e) (sym (mark_rest y k) ∙ f);
      plain = λ y e f. let k = mem_not_gone y e in mark_rest y k ∙ c.stored.plain y (sym (kind_all y) ∙ e) (elim f [ inl g ↦ inl g | inr g ↦ elim g [ inl h ↦ inr (inl h) | inr h ↦ inr (inr (sym (home_rest y k) ∙ h)) ] ]);
    }

    -- what is left may be freed
    pub line_free : CanFree p l t v (n - length xs) m s
    line_free = record {
      line = c.line;
      stored = line_stored;
      counts = subst (λ f. HasCounts f (mems_of p t v) (n - length xs) m s) (sym atoms_is) (subst (λ f. HasCounts (all_dropped (atoms_of p w) xs) f (n - length xs) m s) (sym mems_is) record {
        atom_census = counted.1;
        mem_census = c.counts.mem_census;
        spare_census = c.counts.spare_census;
        bound = (let b = c.counts.bound in omega (arith, b));
      });
      closed = λ y i b j e z.
          let k = home_not_gone y l e in let f = sym (ap (λ (ps : List (Option (ℕ × ℕ))). slice_index_or ps i None) (ports_rest y k)) ∙ z in
          home_rest b (λ g. k (line_closed b j y i g (q.back y i b j f))) ∙ c.closed y i b j (sym (home_rest y k) ∙ e) f;
      empty = λ y j e. let k = home_not_gone y l e in let h = sym (home_rest y k) ∙ e in cells_rest y j k (homed_not_line y l h) ∙ c.empty y j h;
    }

    -- and all else is as it was
    pub line_frees : Frees p l t w t v
    line_frees = record {
      atoms = λ u r y. elim (decide_in y xs) [
        | inl i ↦ ap (λ (z : Option WebCell). option_and_then u (atom_of p t z)) (d.gone y i)
            ∙ sym (freed_none (λ (z : HeapAtom). z.place) u (place_at p (Some l)) r (atoms_of p w y) (λ z e. atom_place p t (w y) z e ∙ ap (place_at p) (home_is y i)))
        | inr a ↦ ap (option_and_then u) (rest (atom_of p t) (list_atom p t) y a)
      ];
      mems = λ u r y. ap (λ (f : ℕ → Option HeapMem). option_and_then u (f y)) mems_is;
      others = λ j z. cells_rest p.waiting j (no_mem p.waiting c.stored.waiting) (λ e. z (sym e));
      labels = λ y i e. sym (label_rest y (not_gone y (labelled_there (v y) i e))) ∙ e;
    }

    -- the line is empty
    pub line_none : cells_in v l Atom ≡ []
    line_none = ap (λ (z : Option WebCell). cells_of z Atom) d.home ∙ list_at_kind Atom [] (w l) (kind_there (w l) line_there)
