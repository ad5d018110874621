-- What stands in a line is freed, cell by cell: what is left, and that it may be freed further.
use Rattle.std.proofs.Common.{◌≡◌, ◌≢◌, ◌⊎◌, ℕ, ◌-◌, Bool, true, false, cond, List, [], length, Option, Some, None, IsSome, is_some, refl, sym, ap, subst, ◌∙◌, inl, inr, arith}
use Rattle.std.specs.Prelude.{slice_index_or, unwrap_or}
use Rattle.std.proofs.lemmas.Bool.{cases_eq}
use Rattle.std.specs.Option.{option_map, option_and_then}
use Rattle.lmn_store_heap.specs.Heap.{HeapAtom, HeapMem, Place, alter}
use Rattle.lmn_store_heap.specs.Lists.{without}
use Rattle.lmn_store_heap.proofs.Listing.{alter_at, alter_away}
use Rattle.lmn_store_counts.specs.RuleLists.{RuleList}
use Rattle.lmn_store_counts.specs.Counts.{HasCounts, Removes, with_rules}
use Rattle.lmn_store_counts.proofs.CensusLemmas.{census_drop}
use Rattle.lmn_web_merging.proofs.Relisting.{list_marks}
use Rattle.lmn_web.specs.declared.kind.CellKind.{CellKind}
use Rattle.lmn_web.specs.declared.kind.CellKind.TheVariants.{Atom, Membrane}
use Rattle.lmn_web.specs.Webs as web
use Rattle.lmn_web.specs.Webs.{WebCell, web_kind, kind_at, home_at, partner_at, cells_in, cells_of, web_label, with_list, unlinked, IsLoose}
use Rattle.lmn_store_web.specs.Frees.{Drops, CanFree, Frees}
use Rattle.lmn_store_web.specs.WebHeaps.{Posts, place_at, no_rules, atom_by, if_atom, if_membrane, atoms_of, mem_by, is_post, mems_of}
use Rattle.lmn_store_web.specs.WebStores.{IsStored}
use Rattle.lmn_store_web.proofs.ReadLemmas.{is_none, mem_there, mem_is}
use Rattle.lmn_web_merging.proofs.Sending.{list_label, list_kind, list_ports, list_there, list_home, list_at_kind, list_at_other, home_ports, home_cells, home_some, kind_there, out_self, out_there, out_homeless, out_source, out_kept}
use Rattle.lmn_store_web.proofs.SendLemmas.{atom_of, mem_of, list_atom}
use Rattle.lmn_store_web.proofs.PlaceLemmas.{alter_same}
use Rattle.lmn_store_web.proofs.TableLemmas.{labelled_there, post_waits, post_goes, mems_post}

-- nothing is freed
pub frees_none : (p : Posts) (l : ℕ) (t : List (Option RuleList)) (w : ℕ → Option WebCell) → Frees p l t w t w
frees_none p l t w = record { atoms = λ u r y. refl; mems = λ u r y. refl; others = λ k d. refl; labels = λ y i e. e }

-- some and then some more
pub frees_both : (p : Posts) (l : ℕ) (t : List (Option RuleList)) (w : ℕ → Option WebCell) (g : List (Option RuleList)) (v : ℕ → Option WebCell) (h : List (Option RuleList)) (u : ℕ → Option WebCell)
    → Frees p l t w g v → Frees p l g v h u → Frees p l t w h u
frees_both p l t w g v h u a b = record { atoms = λ f r y. b.atoms f r y ∙ a.atoms f r y; mems = λ f r y. b.mems f r y ∙ a.mems f r y; others = λ k d. b.others k d ∙ a.others k d; labels = λ y i e. a.labels y i (b.labels y i e) }

-- what stands where all is removed
pub freed_none : {X : Type 0} (place : X → Place) (u : X → Option X) (P : Place) → Removes place u P → (o : Option X) → ((x : X) → o ≡ Some x → place x ≡ P) → option_and_then u o ≡ None
freed_none place u P r None h = refl
freed_none place u P r (Some x) h = (r x).0 (h x refl)

module _ (p : Posts) (t : List (Option RuleList)) where
  -- where an atom stands, by its cell
  pub atom_place : (o : Option WebCell) (x : HeapAtom) → atom_of p t o ≡ Some x → x.place ≡ place_at p (web.home_of o)
  atom_place None x e = absurd (cc)
  atom_place (Some c) x e = kinds c.kind e
    where
      kinds : (j : CellKind) → if_atom j (atom_by p c) ≡ Some x → x.place ≡ place_at p c.home
      kinds Atom e = let s : atom_by p c ≡ x = (cc) in subst (λ (z : HeapAtom). z.place ≡ place_at p c.home) s refl
      kinds Membrane e = absurd (cc)

  -- and a membrane
  pub mem_place : (b : Bool) (o : Option WebCell) (x : HeapMem) → cond b None (mem_of p t o) ≡ Some x → x.place ≡ place_at p (web.home_of o)
  mem_place true o x e = absurd (cc)
  mem_place false None x e = absurd (cc)
  mem_place false (Some c) x e = kinds c.kind e
    where
      kinds : (j : CellKind) → if_membrane j (mem_by p t c) ≡ Some x → x.place ≡ place_at p c.home
      kinds Atom e = absurd (cc)
      kinds Membrane e = let s : mem_by p t c ≡ x = (cc) in subst (λ (z : HeapMem). z.place ≡ place_at p c.home) s refl

-- A cell goes

-- a cell out of its list and then freed
pub drops : (w : ℕ → Option WebCell) (m x : ℕ) → x ≢ m → (v : ℕ → Option WebCell) → v ≡ alter (unlinked w m x) x (λ _. None) → Drops w v m x
drops w m x left v e = subst (λ (f : ℕ → Option WebCell). Drops w f m x) (sym e) record {
  left = left;
  freed = alter_at (unlinked w m x) x (λ _. None);
  source = alter_away (unlinked w m x) x (λ _. None) m (λ q. left (sym q)) ∙ out_source w m 0 x left;
  others = λ y d n. alter_away (unlinked w m x) x (λ _. None) y d ∙ out_kept w m 0 x left y d n;
}

-- a port with a partner isn't one without
pub some_none : (z : ℕ × ℕ) → Some z ≡ None → ⊥
some_none z e = absurd (cc)

-- out of its list a cell with no partner and nothing in it may be freed
pub loose : (w : ℕ → Option WebCell) (m x : ℕ) → x ≢ m → IsSome (w x) → ((i : ℕ) → partner_at w x i ≡ None) → ((k : CellKind) → cells_in w x k ≡ []) → IsLoose (unlinked w m x) x
loose w m x left there alone empty = record {
  there = out_there w m 0 x left there;
  alone = λ i. ap (λ (ps : List (Option (ℕ × ℕ))). slice_index_or ps i None) (ap web.partners_of (out_self w m 0 x left) ∙ home_ports None (w x)) ∙ alone i;
  homeless = out_homeless w m 0 x left;
  empty = λ k. ap (λ (o : Option WebCell). cells_of o k) (out_self w m 0 x left) ∙ home_cells None (w x) k ∙ empty k;
}

module _ (w v : ℕ → Option WebCell) (l x : ℕ) (d : Drops w v l x) where
  rest : {X : Type 0} (f : Option WebCell → X) → ((j : CellKind) (xs : List ℕ) (o : Option WebCell) → f (option_map (with_list j xs) o) ≡ f o) → (y : ℕ) → y ≢ x → f (v y) ≡ f (w y)
  rest f b y n = elim (cases_eq y l) [
    | inl e ↦ subst (λ z. f (v z) ≡ f (w z)) (sym e) (ap f d.source ∙ b (kind_at w x) (without x (cells_in w l (kind_at w x))) (w l))
    | inr g ↦ ap f (d.others y n g)
  ]

  home_rest : (y : ℕ) → y ≢ x → home_at v y ≡ home_at w y
  home_rest = rest web.home_of list_home

  kind_rest : (y : ℕ) → y ≢ x → kind_at v y ≡ kind_at w y
  kind_rest = rest web_kind list_kind

  there_rest : (y : ℕ) → y ≢ x → is_some (v y) ≡ is_some (w y)
  there_rest = rest (λ (o : Option WebCell). is_some o) list_there

  label_rest : (y : ℕ) → y ≢ x → web_label v y ≡ web_label w y
  label_rest = rest (λ (o : Option WebCell). option_map (λ (c : WebCell). c.label) o) list_label

  ports_rest : (y : ℕ) → y ≢ x → web.partners_of (v y) ≡ web.partners_of (w y)
  ports_rest = rest web.partners_of list_ports

  mark_rest : (y : ℕ) → y ≢ x → slice_index_or (web.marks_of (v y)) 1 0 ≡ slice_index_or (web.marks_of (w y)) 1 0
  mark_rest = rest (λ (o : Option WebCell). slice_index_or (web.marks_of o) 1 0) (λ j us o. ap (λ (ms : List ℕ). slice_index_or ms 1 0) (list_marks j us o))

  cells_rest : (y : ℕ) (j : CellKind) → y ≢ x → y ≢ l → cells_in v y j ≡ cells_in w y j
  cells_rest y j n g = ap (λ (o : Option WebCell). cells_of o j) (d.others y n g)

  -- what is there isn't x
  not_x : (y : ℕ) → IsSome (v y) → y ≢ x
  not_x y i e = let h : IsSome {T = WebCell} None = subst (λ (o : Option WebCell). IsSome o) (ap v e ∙ d.freed) i in absurd (cc)

  home_not_x : (y h : ℕ) → home_at v y ≡ Some h → y ≢ x
  home_not_x y h e = not_x y (home_some (v y) (subst (λ (o : Option ℕ). IsSome o) (sym e) refl))

  mem_not_x : (y : ℕ) → kind_at v y ≡ Membrane → y ≢ x
  mem_not_x y e q = let h : Atom ≡ Membrane = sym (ap (λ z. kind_at v z) q ∙ ap web_kind d.freed) ∙ e in absurd (cc)

  -- the list that x leaves
  pub list_rest : IsSome (w l) → cells_in v l (kind_at w x) ≡ without x (cells_in w l (kind_at w x))
  list_rest i = ap (λ (o : Option WebCell). cells_of o (kind_at w x)) d.source ∙ list_at_kind (kind_at w x) (without x (cells_in w l (kind_at w x))) (w l) i

  -- and the other one
  pub other_rest : (j : CellKind) → (j ≡ kind_at w x → ⊥) → cells_in v l j ≡ cells_in w l j
  other_rest j n = ap (λ (o : Option WebCell). cells_of o j) d.source ∙ list_at_other (kind_at w x) (without x (cells_in w l (kind_at w x))) (w l) j n

  module _ (p : Posts) (t g : List (Option RuleList)) (n m s : ℕ) (c : CanFree p l t w n m s) (home : home_at w x ≡ Some l) (strange : (a i b j : ℕ) → partner_at w a i ≡ Some (b, j) → b ≢ x)
      (rows : (y i : ℕ) → y ≢ x → IsSome (mems_of p t w y) → web_label w y ≡ Some i → slice_index_or g i None ≡ slice_index_or t i None)
      (used : (i : ℕ) → IsSome (slice_index_or g i None) → IsSome (slice_index_or t i None) × (kind_at w x ≡ Membrane → web_label w x ≡ Some i → ⊥)) where
    line_post : is_post p l ≡ true
    line_post = elim c.line [ inl e ↦ post_waits p l e | inr e ↦ post_goes p l e ]

    x_there : IsSome (w x)
    x_there = home_some (w x) (subst (λ (o : Option ℕ). IsSome o) (sym home) refl)

    -- x is no post
    no_post_x : (y : ℕ) → (y ≡ p.root) ⊎ (y ≡ p.waiting) ⊎ (y ≡ p.gone) → y ≢ x
    no_post_x y h e = let f : Some l ≡ None = sym (ap (home_at w) e ∙ home) ∙ (c.stored.homeless y (subst (λ z. IsSome (w z)) (sym e) x_there)).1 h in absurd (cc)

    line_there : kind_at w l ≡ Membrane
    line_there = elim c.line [ inl e ↦ ap (kind_at w) e ∙ c.stored.waiting | inr e ↦ ap (kind_at w) e ∙ c.stored.gone ]

    line_home : home_at w l ≡ None
    line_home = (c.stored.homeless l (some (w l) line_there)).1 (elim c.line [ inl e ↦ inr (inl e) | inr e ↦ inr (inr e) ])
      where
        some : (o : Option WebCell) → web_kind o ≡ Membrane → IsSome o
        some None e = absurd (cc)
        some (Some c) e = refl

    homed_not_line : (y h : ℕ) → home_at w y ≡ Some h → y ≢ l
    homed_not_line y h e q = let f : Some h ≡ None = sym e ∙ ap (home_at w) q ∙ line_home in absurd (cc)

    -- the atoms of the heap
    pub atoms_dropped : atoms_of p v ≡ alter (atoms_of p w) x (λ _. None)
    atoms_dropped = λ i y. at y i
      where
        at : (y : ℕ) → atoms_of p v y ≡ alter (atoms_of p w) x (λ _. None) y
        at y = elim (cases_eq y x) [
          | inl e ↦ subst (λ z. atoms_of p v z ≡ alter (atoms_of p w) x (λ _. None) z) (sym e) (ap (atom_of p t) d.freed ∙ sym (alter_at (atoms_of p w) x (λ _. None)))
          | inr q ↦ rest (atom_of p t) (list_atom p t) y q ∙ sym (alter_away (atoms_of p w) x (λ _. None) y q)
        ]

    -- and the membranes
    pub mems_dropped : mems_of p g v ≡ alter (mems_of p t w) x (λ _. None)
    mems_dropped = λ i y. at y i
      where
        none : (b : Bool) (o : Option WebCell) → o ≡ None → cond b None (mem_of p g o) ≡ None
        none b o e = ap (λ (o : Option WebCell). cond b None (mem_of p g o)) e ∙ by b
          where
            by : (b : Bool) → cond b None (mem_of p g None) ≡ None
            by true = refl
            by false = refl

        same_rules : (y : ℕ) → y ≢ x → (b : Bool) → is_post p y ≡ b → (o : Option WebCell) → w y ≡ o → cond b None (mem_of p g o) ≡ cond b None (mem_of p t o)
        same_rules y q true e o f = refl
        same_rules y q false e None f = refl
        same_rules y q false e (Some k) f = kinds k.kind refl
          where
            row : k.kind ≡ Membrane → slice_index_or g k.label None ≡ slice_index_or t k.label None
            row h = let o = is_none p y e in
                rows y k.label q (mem_is p t w y (ap web_kind f ∙ h) o.0 o.1 (subst (λ (o : Option WebCell). IsSome o) (sym f) refl)) (ap (λ (o : Option WebCell). option_map (λ (c : WebCell). c.label) o) f)

            kinds : (j : CellKind) → k.kind ≡ j → if_membrane j (mem_by p g k) ≡ if_membrane j (mem_by p t k)
            kinds Atom h = refl
            kinds Membrane h = ap (λ (o : Option RuleList). Some (record (mem_by p t k) { rules = (unwrap_or o no_rules).numbers; spare = (unwrap_or o no_rules).spare })) (row h)

        at : (y : ℕ) → mems_of p g v y ≡ alter (mems_of p t w) x (λ _. None) y
        at y = elim (cases_eq y x) [
          | inl e ↦ subst (λ z. mems_of p g v z ≡ alter (mems_of p t w) x (λ _. None) z) (sym e) (none (is_post p x) (v x) d.freed ∙ sym (alter_at (mems_of p t w) x (λ _. None)))
          | inr q ↦ elim (cases_eq y l) [
            | inl e ↦ subst (λ z. mems_of p g v z ≡ alter (mems_of p t w) x (λ _. None) z) (sym e) (mems_post p g v l line_post ∙ sym (mems_post p t w l line_post) ∙ sym (alter_away (mems_of p t w) x (λ _. None) l (λ z. d.left (sym z))))
            | inr f ↦ ap (λ (o : Option WebCell). cond (is_post p y) None (mem_of p g o)) (d.others y q f) ∙ same_rules y q (is_post p y) refl (w y) refl ∙ sym (alter_away (mems_of p t w) x (λ _. None) y q)
          ]
        ]

    mem_was : (y : ℕ) → IsSome (mems_of p g v y) → IsSome (mems_of p t w y)
    mem_was y i = let q = mem_there p g v y i in let k = not_x y q.0 in mem_is p t w y (sym (kind_rest y k) ∙ q.1) q.2 q.3 (sym (there_rest y k) ∙ q.0)

    dropped_stored : IsStored p g v
    dropped_stored = record {
      root = kind_rest p.root (no_post_x p.root (inl refl)) ∙ c.stored.root;
      waiting = kind_rest p.waiting (no_post_x p.waiting (inr (inl refl))) ∙ c.stored.waiting;
      gone = kind_rest p.gone (no_post_x p.gone (inr (inr refl))) ∙ c.stored.gone;
      root_waits = c.stored.root_waits;
      root_goes = c.stored.root_goes;
      apart = c.stored.apart;
      homeless = λ y i. let k = not_x y i in let h = c.stored.homeless y (sym (there_rest y k) ∙ i) in (λ q. h.0 (sym (home_rest y k) ∙ q), λ q. home_rest y k ∙ h.1 q);
      portless = λ y e. let k = mem_not_x y e in ap (λ (ps : List (Option (ℕ × ℕ))). length ps) (ports_rest y k) ∙ c.stored.portless y (sym (kind_rest y k) ∙ e);
      labels = λ y i e q. let k = labelled y i q in c.stored.labels y i (sym (kind_rest y k) ∙ e) (sym (label_rest y k) ∙ q);
      rules = λ y e a b. let k = mem_not_x y e in let f = sym (kind_rest y k) ∙ e in let r = c.stored.rules y f a b in
          (r.0, (label_rest y k ∙ r.1.0, subst (λ (o : Option RuleList). IsSome o) (sym (rows y r.0 k (mem_is p t w y f a b (kind_there (w y) f)) r.1.0)) r.1.1));
      own_rules = λ y z i a b e f. c.stored.own_rules y z i (mem_was y a) (mem_was z b) (sym (label_rest y (mem_not_x y (mem_there p g v y a).1)) ∙ e) (sym (label_rest z (mem_not_x z (mem_there p g v z b).1)) ∙ f);
      used = λ i q. let u = used i q in let r = c.stored.used i u.0 in let o = mem_there p t w r.0 r.1 in
          let k : r.0 ≢ x = (λ e. u.1 (ap (kind_at w) (sym e) ∙ o.1) (ap (web_label w) (sym e) ∙ r.2)) in
          (r.0, mem_is p g v r.0 (kind_rest r.0 k ∙ o.1) o.2 o.3 (there_rest r.0 k ∙ o.0), label_rest r.0 k ∙ r.2);
      files = λ y f i e. c.stored.files y f i (sym (label_rest y (labelled y i e)) ∙ e);
      bare = λ y j e. let k = home_not_x y p.waiting e in let h = sym (home_rest y k) ∙ e in cells_rest y j k (homed_not_line y p.waiting h) ∙ c.stored.bare y j h;
      lent = λ y e f. let k = mem_not_x y e in home_rest y k ∙ c.stored.lent y (sym (kind_rest y k) ∙ e) (sym (mark_rest y k) ∙ f);
      plain = λ y e f. let k = mem_not_x y e in mark_rest y k ∙ c.stored.plain y (sym (kind_rest y k) ∙ e) (elim f [ inl g ↦ inl g | inr g ↦ elim g [ inl h ↦ inr (inl h) | inr h ↦ inr (inr (sym (home_rest y k) ∙ h)) ] ]);
    }
      where
        labelled : (y i : ℕ) → web_label v y ≡ Some i → y ≢ x
        labelled y i e = not_x y (by (v y) e)
          where
            by : (o : Option WebCell) → option_map (λ (c : WebCell). c.label) o ≡ Some i → IsSome o
            by None e = absurd (cc)
            by (Some c) e = refl

    dropped_free : (n1 m1 s1 : ℕ) → HasCounts (atoms_of p v) (mems_of p g v) n1 m1 s1 → CanFree p l g v n1 m1 s1
    dropped_free n1 m1 s1 h = record {
      line = c.line;
      stored = dropped_stored;
      counts = h;
      closed = λ y i b j e q. let k = home_not_x y l e in let f = sym (ap (λ (ps : List (Option (ℕ × ℕ))). slice_index_or ps i None) (ports_rest y k)) ∙ q in
          home_rest b (strange y i b j f) ∙ c.closed y i b j (sym (home_rest y k) ∙ e) f;
      empty = λ y j e. let k = home_not_x y l e in let h = sym (home_rest y k) ∙ e in cells_rest y j k (homed_not_line y l h) ∙ c.empty y j h;
    }

    -- what is left
    pub dropped_frees : Frees p l t w g v
    dropped_frees = record {
      atoms = λ u r y. ap (λ (f : ℕ → Option HeapAtom). option_and_then u (f y)) atoms_dropped ∙ elim (cases_eq y x) [
        | inl e ↦ subst (λ z. option_and_then u (alter (atoms_of p w) x (λ _. None) z) ≡ option_and_then u (atoms_of p w z)) (sym e)
            (ap (option_and_then u) (alter_at (atoms_of p w) x (λ _. None)) ∙ sym (freed_none (λ (z : HeapAtom). z.place) u (place_at p (Some l)) r (atoms_of p w x) (λ z q. atom_place p t (w x) z q ∙ ap (place_at p) home)))
        | inr q ↦ ap (option_and_then u) (alter_away (atoms_of p w) x (λ _. None) y q)
      ];
      mems = λ u r y. ap (λ (f : ℕ → Option HeapMem). option_and_then u (f y)) mems_dropped ∙ elim (cases_eq y x) [
        | inl e ↦ subst (λ z. option_and_then u (alter (mems_of p t w) x (λ _. None) z) ≡ option_and_then u (mems_of p t w z)) (sym e)
            (ap (option_and_then u) (alter_at (mems_of p t w) x (λ _. None)) ∙ sym (freed_none (λ (z : HeapMem). z.place) u (place_at p (Some l)) r (mems_of p t w x) (λ z q. mem_place p t (is_post p x) (w x) z q ∙ ap (place_at p) home)))
        | inr q ↦ ap (option_and_then u) (alter_away (mems_of p t w) x (λ _. None) y q)
      ];
      others = λ j q. cells_rest p.waiting j (no_post_x p.waiting (inr (inl refl))) (λ e. q (sym e));
      labels = λ y i e. sym (label_rest y (not_x y (labelled_there (v y) i e))) ∙ e;
    }

    -- a membrane less, with its rules
    pub mem_freed : (b : HeapMem) → mems_of p t w x ≡ Some b → atoms_of p w x ≡ None → CanFree p l g v n (m - with_rules b) (s - b.spare)
    mem_freed b e none =
        dropped_free n (m - with_rules b) (s - b.spare) (subst (λ f. HasCounts f (mems_of p g v) n (m - with_rules b) (s - b.spare)) (sym (atoms_dropped ∙ alter_same (atoms_of p w) x (λ _. None) (sym none))) (subst (λ f. HasCounts (atoms_of p w) f n (m - with_rules b) (s - b.spare)) (sym mems_dropped) (record {
          atom_census = c.counts.atom_census;
          mem_census = census_drop with_rules (mems_of p t w) m x b e c.counts.mem_census;
          spare_census = census_drop (λ (z : HeapMem). z.spare) (mems_of p t w) s x b e c.counts.spare_census;
          bound = (let b = c.counts.bound in omega (arith, b));
        })))
