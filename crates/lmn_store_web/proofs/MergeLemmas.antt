-- What stands in one membrane goes to another: the heap, and what holds of the store then.
use Rattle.std.proofs.Common.{◌≡◌, ◌≢◌, ◌⊎◌, ◌↔◌, ℕ, Bool, true, false, cond, List, [], ◌++◌, length, Option, Some, None, IsSome, is_some, refl, sym, ap, subst, ◌∙◌, inl, inr}
use Rattle.std.proofs.lemmas.Bool.{cases_eq, eq-eqb}
use Rattle.std.specs.Prelude.{slice_index_or}
use Rattle.std.specs.Option.{option_map}
use Rattle.lmn_store_heap.specs.Heap as heap
use Rattle.lmn_store_heap.specs.Heap.{Heap, HeapAtom, HeapMem, Place, within, alter, with_place, atoms_in, mems_in, sent, atom_sent, mem_sent, emptied, filled, moved_all}
use Rattle.lmn_store_counts.specs.RuleLists.{RuleList}
use Rattle.lmn_store_counts.specs.Census.{weight}
use Rattle.lmn_store_counts.specs.Counts.{HasCounts, one, with_rules}
use Rattle.lmn_store_counts.proofs.CensusLemmas.{census_same}
use Rattle.lmn_web.specs.declared.kind.CellKind.{CellKind}
use Rattle.lmn_web.specs.declared.kind.CellKind.TheVariants.{Atom, Membrane}
use Rattle.lmn_web.specs.Webs as web
use Rattle.lmn_web.specs.Webs.{WebCell, web_kind, kind_at, home_at, arity_at, cells_in, cells_of, web_label, with_home, StandOnce}
use Rattle.lmn_web_merging.specs.Keepers.{port_mark, relisted_both, MovesAll}
use Rattle.lmn_web_merging.proofs.Sending.{home_kind, home_label, home_ports, home_cells, home_there, kind_there}
use Rattle.lmn_web_merging.proofs.Relisting.{home_marks}
use Rattle.lmn_store_web.specs.Sends.{CanSend}
use Rattle.lmn_store_web.specs.WebHeaps.{Posts, place_at, atom_by, if_atom, if_membrane, atoms_of, mem_by, is_post, mems_of, heap_by}
use Rattle.lmn_store_web.specs.WebStores.{IsStored}
use Rattle.lmn_store_web.proofs.ReadLemmas.{stands_in, stands_back, mem_there, mem_is, atoms_is, mems_is, mem_place_is, gone_back, no_post}
use Rattle.lmn_store_web.proofs.SendLemmas.{atom_of, mem_of}
use Rattle.lmn_store_web.proofs.MoveLemmas.{at_second, at_first, at_none, atom_stays, mem_stays}
use Rattle.lmn_store_web.proofs.FreeLemmas.{atom_place, mem_place}

-- What other lists and marks leave of a cell
both_kind : (es xs ys : List ℕ) (o : Option WebCell) → web_kind (option_map (relisted_both es xs ys) o) ≡ web_kind o
both_kind es xs ys None = refl
both_kind es xs ys (Some c) = refl

both_label : (es xs ys : List ℕ) (o : Option WebCell) → option_map (λ (c : WebCell). c.label) (option_map (relisted_both es xs ys) o) ≡ option_map (λ (c : WebCell). c.label) o
both_label es xs ys None = refl
both_label es xs ys (Some c) = refl

both_ports : (es xs ys : List ℕ) (o : Option WebCell) → web.partners_of (option_map (relisted_both es xs ys) o) ≡ web.partners_of o
both_ports es xs ys None = refl
both_ports es xs ys (Some c) = refl

both_there : (es xs ys : List ℕ) (o : Option WebCell) → is_some (option_map (relisted_both es xs ys) o) ≡ is_some o
both_there es xs ys None = refl
both_there es xs ys (Some c) = refl

both_home : (es xs ys : List ℕ) (o : Option WebCell) → web.home_of (option_map (relisted_both es xs ys) o) ≡ web.home_of o
both_home es xs ys None = refl
both_home es xs ys (Some c) = refl

-- and of its items
module _ (p : Posts) (t : List (Option RuleList)) where
  if_there : (k : CellKind) (x y : HeapAtom) → (is_some (if_atom k x) ≡ is_some (if_atom k y)) × (weight one (if_atom k x) ≡ weight one (if_atom k y))
  if_there Atom x y = (refl, refl)
  if_there Membrane x y = (refl, refl)

  if_weighs : (f : HeapMem → ℕ) (k : CellKind) (x y : HeapMem) → f x ≡ f y → (is_some (if_membrane k x) ≡ is_some (if_membrane k y)) × (weight f (if_membrane k x) ≡ weight f (if_membrane k y))
  if_weighs f Atom x y e = (refl, refl)
  if_weighs f Membrane x y e = (refl, e)

  home_atom : (h : Option ℕ) (o : Option WebCell) → (is_some (atom_of p t (option_map (with_home h) o)) ≡ is_some (atom_of p t o)) × (weight one (atom_of p t (option_map (with_home h) o)) ≡ weight one (atom_of p t o))
  home_atom h None = (refl, refl)
  home_atom h (Some c) = if_there c.kind (atom_by p (with_home h c)) (atom_by p c)

  both_atom : (es xs ys : List ℕ) (o : Option WebCell) → (is_some (atom_of p t (option_map (relisted_both es xs ys) o)) ≡ is_some (atom_of p t o)) × (weight one (atom_of p t (option_map (relisted_both es xs ys) o)) ≡ weight one (atom_of p t o))
  both_atom es xs ys None = (refl, refl)
  both_atom es xs ys (Some c) = if_there c.kind (atom_by p (relisted_both es xs ys c)) (atom_by p c)

  home_mem : (f : HeapMem → ℕ) → ((h : Option ℕ) (c : WebCell) → f (mem_by p t (with_home h c)) ≡ f (mem_by p t c)) → (h : Option ℕ) (o : Option WebCell)
      → (is_some (mem_of p t (option_map (with_home h) o)) ≡ is_some (mem_of p t o)) × (weight f (mem_of p t (option_map (with_home h) o)) ≡ weight f (mem_of p t o))
  home_mem f e h None = (refl, refl)
  home_mem f e h (Some c) = if_weighs f c.kind (mem_by p t (with_home h c)) (mem_by p t c) (e h c)

  both_mem : (f : HeapMem → ℕ) → ((es xs ys : List ℕ) (c : WebCell) → f (mem_by p t (relisted_both es xs ys c)) ≡ f (mem_by p t c)) → (es xs ys : List ℕ) (o : Option WebCell)
      → (is_some (mem_of p t (option_map (relisted_both es xs ys) o)) ≡ is_some (mem_of p t o)) × (weight f (mem_of p t (option_map (relisted_both es xs ys) o)) ≡ weight f (mem_of p t o))
  both_mem f e es xs ys None = (refl, refl)
  both_mem f e es xs ys (Some c) = if_weighs f c.kind (mem_by p t (relisted_both es xs ys c)) (mem_by p t c) (e es xs ys c)

module _ (p : Posts) (t : List (Option RuleList)) (w v : ℕ → Option WebCell) (m n a b c : ℕ) (q : CanSend p t w m n a b c) (l : StandOnce w) (s : MovesAll w v m n) where
  goes : (y : ℕ) → (home_at w y ≡ Some m) ⊎ (home_at w y ≢ Some m)
  goes y = by (home_at w y)
    where
      by : (o : Option ℕ) → (o ≡ Some m) ⊎ (o ≢ Some m)
      by None = inr (λ e. absurd (cc))
      by (Some h) = elim (cases_eq h m) [ inl e ↦ inl (ap (λ z. Some z) e) | inr d ↦ inr (λ e. d (let z : Some h ≡ Some m = e in cc)) ]

  m_stays : home_at w m ≢ Some m
  m_stays e = (l.homes m m (kind_at w m) (l.listed m m e)).2 refl

  -- what neither homes nor lists nor marks change
  frame : {X : Type 0} (f : Option WebCell → X) → ((h : Option ℕ) (o : Option WebCell) → f (option_map (with_home h) o) ≡ f o) → ((es xs ys : List ℕ) (o : Option WebCell) → f (option_map (relisted_both es xs ys) o) ≡ f o) → (y : ℕ) → f (v y) ≡ f (w y)
  frame f g h y = elim (goes y) [
    | inl e ↦ ap f (s.moved y e) ∙ g (Some n) (w y)
    | inr d ↦ elim (cases_eq y m) [
      | inl e ↦ subst (λ z. f (v z) ≡ f (w z)) (sym e) (ap f s.source ∙ h s.source_marks [] [] (w m))
      | inr d1 ↦ elim (cases_eq y n) [
        | inl e ↦ subst (λ z. f (v z) ≡ f (w z)) (sym e) (ap f s.target ∙ h s.target_marks (cells_in w n Atom ++ cells_in w m Atom) (cells_in w n Membrane ++ cells_in w m Membrane) (w n))
        | inr d2 ↦ ap f (s.others y d1 d2 d)
      ]
    ]
  ]

  kind_same : (y : ℕ) → kind_at v y ≡ kind_at w y
  kind_same = frame web_kind home_kind both_kind

  -- labels stay
  pub labels_stay : (y : ℕ) → web_label v y ≡ web_label w y
  labels_stay = frame (λ (o : Option WebCell). option_map (λ (c : WebCell). c.label) o) home_label both_label

  arity_same : (y : ℕ) → arity_at v y ≡ arity_at w y
  arity_same y = ap (λ (us : List (Option (ℕ × ℕ))). length us) (frame web.partners_of home_ports both_ports y)

  there_same : (y : ℕ) → is_some (v y) ≡ is_some (w y)
  there_same = frame (λ (o : Option WebCell). is_some o) home_there both_there

  home_now : (y : ℕ) → home_at w y ≡ Some m → home_at v y ≡ Some n
  home_now y e = ap web.home_of (s.moved y e) ∙ by (w y) e
    where
      by : (o : Option WebCell) → web.home_of o ≡ Some m → web.home_of (option_map (with_home (Some n)) o) ≡ Some n
      by None e = absurd (let z : None ≡ Some m = e in cc)
      by (Some c) e = refl

  home_away : (y : ℕ) → home_at w y ≢ Some m → home_at v y ≡ home_at w y
  home_away y d = elim (cases_eq y m) [
    | inl e ↦ subst (λ z. home_at v z ≡ home_at w z) (sym e) (ap web.home_of s.source ∙ both_home s.source_marks [] [] (w m))
    | inr d1 ↦ elim (cases_eq y n) [
      | inl e ↦ subst (λ z. home_at v z ≡ home_at w z) (sym e) (ap web.home_of s.target ∙ both_home s.target_marks (cells_in w n Atom ++ cells_in w m Atom) (cells_in w n Membrane ++ cells_in w m Membrane) (w n))
      | inr d2 ↦ ap web.home_of (s.others y d1 d2 d)
    ]
  ]

  -- what has this home now, other than n, had it
  home_was : (y h : ℕ) → h ≢ n → home_at v y ≡ Some h → home_at w y ≡ Some h
  home_was y h d e = elim (goes y) [
    | inl g ↦ absurd (d (let z : Some h ≡ Some n = sym e ∙ home_now y g in cc))
    | inr g ↦ sym (home_away y g) ∙ e
  ]

  cells_away : (y : ℕ) (k : CellKind) → y ≢ m → y ≢ n → cells_in v y k ≡ cells_in w y k
  cells_away y k d1 d2 = elim (goes y) [
    | inl e ↦ ap (λ (o : Option WebCell). cells_of o k) (s.moved y e) ∙ home_cells (Some n) (w y) k
    | inr d ↦ ap (λ (o : Option WebCell). cells_of o k) (s.others y d1 d2 d)
  ]

  -- the counts stay
  pub merged_counts : HasCounts (atoms_of p v) (mems_of p t v) a b c
  merged_counts = record {
    atom_census = census_same one (atoms_of p w) (atoms_of p v) a (λ y. both_ways (atoms_of p v y) (atoms_of p w y) (frame (λ (o : Option WebCell). is_some (atom_of p t o)) (λ h o. (home_atom p t h o).0) (λ es xs ys o. (both_atom p t es xs ys o).0) y))
        (frame (λ (o : Option WebCell). weight one (atom_of p t o)) (λ h o. (home_atom p t h o).1) (λ es xs ys o. (both_atom p t es xs ys o).1)) q.counts.atom_census;
    mem_census = census_same with_rules (mems_of p t w) (mems_of p t v) b mem_there_same (mem_weighs with_rules (λ h c. refl) (λ es xs ys c. refl)) q.counts.mem_census;
    spare_census = census_same (λ (x : HeapMem). x.spare) (mems_of p t w) (mems_of p t v) c mem_there_same (mem_weighs (λ (x : HeapMem). x.spare) (λ h c. refl) (λ es xs ys c. refl)) q.counts.spare_census;
    bound = q.counts.bound;
  }
    where
      both_ways : {X Y : Type 0} (o : Option X) (q : Option Y) → is_some o ≡ is_some q → IsSome o ↔ IsSome q
      both_ways o q e = (λ i. sym e ∙ i, λ i. e ∙ i)

      mem_there_same : (y : ℕ) → IsSome (mems_of p t v y) ↔ IsSome (mems_of p t w y)
      mem_there_same y = both_ways (mems_of p t v y) (mems_of p t w y) (at (is_post p y))
        where
          at : (b : Bool) → is_some (cond b None (mem_of p t (v y))) ≡ is_some (cond b None (mem_of p t (w y)))
          at true = refl
          at false = frame (λ (o : Option WebCell). is_some (mem_of p t o)) (λ h o. (home_mem p t with_rules (λ h c. refl) h o).0) (λ es xs ys o. (both_mem p t with_rules (λ es xs ys c. refl) es xs ys o).0) y

      mem_weighs : (f : HeapMem → ℕ) → ((h : Option ℕ) (c : WebCell) → f (mem_by p t (with_home h c)) ≡ f (mem_by p t c)) → ((es xs ys : List ℕ) (c : WebCell) → f (mem_by p t (relisted_both es xs ys c)) ≡ f (mem_by p t c)) → (y : ℕ) → weight f (mems_of p t v y) ≡ weight f (mems_of p t w y)
      mem_weighs f g h y = at (is_post p y)
        where
          at : (q : Bool) → weight f (cond q None (mem_of p t (v y))) ≡ weight f (cond q None (mem_of p t (w y)))
          at true = refl
          at false = frame (λ (o : Option WebCell). weight f (mem_of p t o)) (λ h o. (home_mem p t f g h o).1) (λ es xs ys o. (both_mem p t f h es xs ys o).1) y

  -- what holds of the store holds, where m is gone
  pub merged_stored : home_at w m ≡ Some p.gone → IsStored p t v
  merged_stored at = let h = q.stored in let waits = not_waiting at in record {
    root = kind_same p.root ∙ h.root;
    waiting = kind_same p.waiting ∙ h.waiting;
    gone = kind_same p.gone ∙ h.gone;
    root_waits = h.root_waits;
    root_goes = h.root_goes;
    apart = h.apart;
    homeless = λ y i. elim (goes y) [
      | inl e ↦ (
        λ z. absurd (let f : Some n ≡ None = sym (home_now y e) ∙ z in cc),
        λ z. absurd (let f : Some m ≡ None = sym e ∙ (h.homeless y (sym (there_same y) ∙ i)).1 z in cc),
      )
      | inr d ↦ (λ z. (h.homeless y (sym (there_same y) ∙ i)).0 (sym (home_away y d) ∙ z), λ z. home_away y d ∙ (h.homeless y (sym (there_same y) ∙ i)).1 z)
    ];
    portless = λ y e. arity_same y ∙ h.portless y (sym (kind_same y) ∙ e);
    labels = λ y k e f. h.labels y k (sym (kind_same y) ∙ e) (sym (labels_stay y) ∙ f);
    rules = λ y e f g. let r = h.rules y (sym (kind_same y) ∙ e) f g in (r.0, (labels_stay y ∙ r.1.0, r.1.1));
    own_rules = λ y z i f g d e. h.own_rules y z i (mem_was y f) (mem_was z g) (sym (labels_stay y) ∙ d) (sym (labels_stay z) ∙ e);
    used = λ i f. let r = h.used i f in let o = mem_there p t w r.0 r.1 in (r.0, mem_is p t v r.0 (kind_same r.0 ∙ o.1) o.2 o.3 (there_same r.0 ∙ o.0), labels_stay r.0 ∙ r.2);
    files = λ y f l e. h.files y f l (sym (labels_stay y) ∙ e);
    bare = λ y k e. let was = home_was y p.waiting (λ z. q.target_waits (sym z)) e in
        cells_away y k (λ z. waits (ap (home_at w) (sym z) ∙ was)) (λ z. q.fits (ap (home_at w) (sym z) ∙ was)) ∙ h.bare y k was;
    plain = λ y k e. marks_away y (not_m at y e) (not_n y e) ∙ h.plain y (sym (kind_same y) ∙ k) (waits_was y e);
    lent = λ y k e. elim (cases_eq y m) [
      | inl z ↦ subst (λ x. home_at v x ≡ Some p.gone) (sym z) (home_away m m_stays ∙ at)
      | inr d1 ↦ elim (cases_eq y n) [
        | inl z ↦ (let was = h.lent n q.target (s.target_own (sym target_told ∙ ap (port_mark v) (sym z) ∙ e)) in subst (λ x. home_at v x ≡ Some p.gone) (sym z) (home_away n q.outside ∙ was))
        | inr d2 ↦ (let was = h.lent y (sym (kind_same y) ∙ k) (sym (marks_away y d1 d2) ∙ e) in
            home_away y (λ z. q.source_goes (let f : Some m ≡ Some p.gone = sym z ∙ was in cc)) ∙ was)
      ]
    ];
  }
    where
      not_waiting : home_at w m ≡ Some p.gone → home_at w m ≢ Some p.waiting
      not_waiting at e = q.stored.apart (let z : Some p.waiting ≡ Some p.gone = sym e ∙ at in cc)

      target_told : port_mark v n ≡ slice_index_or s.target_marks 1 0
      target_told = ap (λ (o : Option WebCell). slice_index_or (web.marks_of o) 1 0) s.target ∙ by (w n) (kind_there (w n) q.target)
        where
          by : (o : Option WebCell) → IsSome o → slice_index_or (web.marks_of (option_map (relisted_both s.target_marks (cells_in w n Atom ++ cells_in w m Atom) (cells_in w n Membrane ++ cells_in w m Membrane)) o)) 1 0 ≡ slice_index_or s.target_marks 1 0
          by None i = absurd (cc)
          by (Some c) i = refl

      mem_was : (y : ℕ) → IsSome (mems_of p t v y) → IsSome (mems_of p t w y)
      mem_was y i = let o = mem_there p t v y i in mem_is p t w y (sym (kind_same y) ∙ o.1) o.2 o.3 (sym (there_same y) ∙ o.0)

      marks_away : (y : ℕ) → y ≢ m → y ≢ n → port_mark v y ≡ port_mark w y
      marks_away y d1 d2 = elim (goes y) [
        | inl e ↦ ap (λ (o : Option WebCell). slice_index_or (web.marks_of o) 1 0) (s.moved y e) ∙ ap (λ (us : List ℕ). slice_index_or us 1 0) (home_marks (Some n) (w y))
        | inr d ↦ ap (λ (o : Option WebCell). slice_index_or (web.marks_of o) 1 0) (s.others y d1 d2 d)
      ]

      waits_was : (y : ℕ) → (y ≡ p.waiting) ⊎ (y ≡ p.gone) ⊎ (home_at v y ≡ Some p.waiting) → (y ≡ p.waiting) ⊎ (y ≡ p.gone) ⊎ (home_at w y ≡ Some p.waiting)
      waits_was y (inl e) = inl e
      waits_was y (inr (inl e)) = inr (inl e)
      waits_was y (inr (inr e)) = inr (inr (home_was y p.waiting (λ z. q.target_waits (sym z)) e))

      not_m : home_at w m ≡ Some p.gone → (y : ℕ) → (y ≡ p.waiting) ⊎ (y ≡ p.gone) ⊎ (home_at v y ≡ Some p.waiting) → y ≢ m
      not_m at y (inl e) z = q.source_waits (sym z ∙ e)
      not_m at y (inr (inl e)) z = q.source_goes (sym z ∙ e)
      not_m at y (inr (inr e)) z = not_waiting at (ap (home_at w) (sym z) ∙ home_was y p.waiting (λ f. q.target_waits (sym f)) e)

      not_n : (y : ℕ) → (y ≡ p.waiting) ⊎ (y ≡ p.gone) ⊎ (home_at v y ≡ Some p.waiting) → y ≢ n
      not_n y (inl e) z = q.target_waits (sym z ∙ e)
      not_n y (inr (inl e)) z = q.target_goes (sym z ∙ e)
      not_n y (inr (inr e)) z = q.fits (ap (home_at w) (sym z) ∙ home_was y p.waiting (λ f. q.target_waits (sym f)) e)

  -- The heap is the one in which all has moved.
  in_m : (y : ℕ) → home_at w y ≡ Some m → place_at p (home_at w y) ≡ within m
  in_m y e = ap (place_at p) e ∙ stands_in p m q.source_waits q.source_goes

  in_n : place_at p (Some n) ≡ within n
  in_n = stands_in p n q.target_waits q.target_goes

  home_atom_is : (h : Option ℕ) (o : Option WebCell) → atom_of p t (option_map (with_home h) o) ≡ option_map (with_place (place_at p h)) (atom_of p t o)
  home_atom_is h None = refl
  home_atom_is h (Some c) = by c.kind
    where
      by : (k : CellKind) → if_atom k (atom_by p (with_home h c)) ≡ option_map (with_place (place_at p h)) (if_atom k (atom_by p c))
      by Atom = refl
      by Membrane = refl

  home_mem_is : (h : Option ℕ) (o : Option WebCell) → mem_of p t (option_map (with_home h) o) ≡ option_map (heap.mem_with_place (place_at p h)) (mem_of p t o)
  home_mem_is h None = refl
  home_mem_is h (Some c) = by c.kind
    where
      by : (k : CellKind) → if_membrane k (mem_by p t (with_home h c)) ≡ option_map (heap.mem_with_place (place_at p h)) (if_membrane k (mem_by p t c))
      by Atom = refl
      by Membrane = refl

  both_atom_is : (es xs ys : List ℕ) (o : Option WebCell) → web_kind o ≡ Membrane → atom_of p t (option_map (relisted_both es xs ys) o) ≡ atom_of p t o
  both_atom_is es xs ys None e = refl
  both_atom_is es xs ys (Some c) e = (λ i. if_atom (e i) (atom_by p (relisted_both es xs ys c))) ∙ (λ i. if_atom (sym e i) (atom_by p c))

  atoms_are : (y : ℕ) → atoms_of p v y ≡ option_map (atom_sent m n) (atoms_of p w y)
  atoms_are y = elim (goes y) [
    | inl e ↦ ap (atom_of p t) (s.moved y e) ∙ home_atom_is (Some n) (w y) ∙ ap (λ P. option_map (with_place P) (atoms_of p w y)) in_n ∙ here y e
    | inr d ↦ stays y d ∙ sym (atom_stays m n (atoms_of p w y) (λ z f g. d (stands_back p (home_at w y) m (sym (atom_place p t (w y) z f) ∙ g)).0))
  ]
    where
      stays : (y : ℕ) → home_at w y ≢ Some m → atoms_of p v y ≡ atoms_of p w y
      stays y d = elim (cases_eq y m) [
        | inl e ↦ subst (λ z. atoms_of p v z ≡ atoms_of p w z) (sym e) (ap (atom_of p t) s.source ∙ both_atom_is s.source_marks [] [] (w m) q.source)
        | inr d1 ↦ elim (cases_eq y n) [
          | inl e ↦ subst (λ z. atoms_of p v z ≡ atoms_of p w z) (sym e) (ap (atom_of p t) s.target ∙ both_atom_is s.target_marks (cells_in w n Atom ++ cells_in w m Atom) (cells_in w n Membrane ++ cells_in w m Membrane) (w n) q.target)
          | inr d2 ↦ ap (atom_of p t) (s.others y d1 d2 d)
        ]
      ]

      gone_to : (o : Option HeapAtom) → ((z : HeapAtom) → o ≡ Some z → z.place ≡ within m) → option_map (with_place (within n)) o ≡ option_map (atom_sent m n) o
      gone_to None h = refl
      gone_to (Some z) h = λ i. Some (record z { place = (sent_here (h z refl)) i })
        where
          sent_here : z.place ≡ within m → within n ≡ sent m n z.place
          sent_here e = sym (ap (sent m n) e ∙ sent_first)
            where
              sent_first : sent m n (within m) ≡ within n
              sent_first = rw (eq-eqb m m refl) refl

      here : (y : ℕ) → home_at w y ≡ Some m → option_map (with_place (within n)) (atoms_of p w y) ≡ option_map (atom_sent m n) (atoms_of p w y)
      here y e = gone_to (atoms_of p w y) (λ z f. atom_place p t (w y) z f ∙ in_m y e)

  both_mem_is : (es xs ys : List ℕ) (o : Option WebCell) → web_kind o ≡ Membrane → slice_index_or es 0 0 ≡ slice_index_or (web.marks_of o) 0 0 → mem_of p t (option_map (relisted_both es xs ys) o) ≡ option_map (λ (x : HeapMem). record x { atoms = xs; mems = ys }) (mem_of p t o)
  both_mem_is es xs ys None e f = absurd (cc)
  both_mem_is es xs ys (Some c) e f =
      (λ i. if_membrane (e i) (mem_by p t (relisted_both es xs ys c))) ∙ (λ i. Some (record (mem_by p t c) { atoms = xs; mems = ys; mark = f i }))
      ∙ (λ i. option_map (λ (x : HeapMem). record x { atoms = xs; mems = ys }) (if_membrane (sym e i) (mem_by p t c)))

  abbrev H : Heap
  H = heap_by p t w

  atoms_m : atoms_in H m ≡ cells_in w m Atom
  atoms_m = atoms_is p t w m q.source q.source_waits q.source_goes

  mems_m : mems_in H m ≡ cells_in w m Membrane
  mems_m = mems_is p t w m q.source q.source_waits q.source_goes

  atoms_n : atoms_in H n ≡ cells_in w n Atom
  atoms_n = atoms_is p t w n q.target q.target_waits q.target_goes

  mems_n : mems_in H n ≡ cells_in w n Membrane
  mems_n = mems_is p t w n q.target q.target_waits q.target_goes

  -- of a membrane that doesn't stand in m
  fills : (o : Option HeapMem) → heap.atoms_by o ≡ cells_in w n Atom → heap.mems_by o ≡ cells_in w n Membrane → ((z : HeapMem) → o ≡ Some z → z.place ≡ within m → ⊥)
      → option_map (λ (x : HeapMem). record x { atoms = cells_in w n Atom ++ cells_in w m Atom; mems = cells_in w n Membrane ++ cells_in w m Membrane }) o ≡ option_map (mem_sent m n) (option_map (filled (atoms_in H m) (mems_in H m)) o)
  fills None e f g = refl
  fills (Some z) e f g =
      (λ i. Some (record z { atoms = sym e i ++ sym atoms_m i; mems = sym f i ++ sym mems_m i }))
      ∙ sym (mem_stays m n (Some (filled (atoms_in H m) (mems_in H m) z)) (λ x is at. g z refl ((λ i. (head is i).place) ∙ at)))
    where
      head : {x : HeapMem} → Some (filled (atoms_in H m) (mems_in H m) z) ≡ Some x → filled (atoms_in H m) (mems_in H m) z ≡ x
      head {x} is = cc

  empties : (o : Option HeapMem) → ((z : HeapMem) → o ≡ Some z → z.place ≡ within m → ⊥) → option_map (λ (x : HeapMem). record x { atoms = []; mems = [] }) o ≡ option_map (mem_sent m n) (option_map emptied o)
  empties None g = refl
  empties (Some z) g = sym (mem_stays m n (Some (emptied z)) (λ x is at. g z refl ((λ i. (head is i).place) ∙ at)))
    where
      head : {x : HeapMem} → Some (emptied z) ≡ Some x → emptied z ≡ x
      head {x} is = cc

  place_not : (y : ℕ) → home_at w y ≢ Some m → (z : HeapMem) → mems_of p t w y ≡ Some z → z.place ≡ within m → ⊥
  place_not y d z f g = d (stands_back p (home_at w y) m (sym (mem_place p t (is_post p y) (w y) z f) ∙ g)).0

  abbrev filling : ℕ → Option HeapMem
  filling = alter (alter (mems_of p t w) m (option_map emptied)) n (option_map (filled (atoms_in H m) (mems_in H m)))

  member : (f : ℕ → Option WebCell) (y : ℕ) → y ≢ p.waiting → y ≢ p.gone → mems_of p t f y ≡ mem_of p t (f y)
  member f y d e = ap (λ b. cond b None (mem_of p t (f y))) (no_post p y d e)

  mems_are : (y : ℕ) → mems_of p t v y ≡ option_map (mem_sent m n) (filling y)
  mems_are y = elim (cases_eq y n) [
    | inl e ↦ subst (λ z. mems_of p t v z ≡ option_map (mem_sent m n) (filling z)) (sym e)
        (member v n q.target_waits q.target_goes ∙ ap (mem_of p t) s.target ∙ both_mem_is s.target_marks (cells_in w n Atom ++ cells_in w m Atom) (cells_in w n Membrane ++ cells_in w m Membrane) (w n) q.target s.target_mark
        ∙ ap (option_map (λ (x : HeapMem). record x { atoms = cells_in w n Atom ++ cells_in w m Atom; mems = cells_in w n Membrane ++ cells_in w m Membrane })) (sym (member w n q.target_waits q.target_goes))
        ∙ fills (mems_of p t w n) atoms_n mems_n (place_not n q.outside)
        ∙ ap (option_map (mem_sent m n)) (sym (at_second (mems_of p t w) m n (option_map emptied) (option_map (filled (atoms_in H m) (mems_in H m))) q.apart)))
    | inr d1 ↦ elim (cases_eq y m) [
      | inl e ↦ subst (λ z. mems_of p t v z ≡ option_map (mem_sent m n) (filling z)) (sym e)
          (member v m q.source_waits q.source_goes ∙ ap (mem_of p t) s.source ∙ both_mem_is s.source_marks [] [] (w m) q.source s.source_mark
          ∙ ap (option_map (λ (x : HeapMem). record x { atoms = []; mems = [] })) (sym (member w m q.source_waits q.source_goes))
          ∙ empties (mems_of p t w m) (place_not m m_stays)
          ∙ ap (option_map (mem_sent m n)) (sym (at_first (mems_of p t w) m n (option_map emptied) (option_map (filled (atoms_in H m) (mems_in H m))) q.apart)))
      | inr d2 ↦ others y d2 d1 ∙ ap (option_map (mem_sent m n)) (sym (at_none (mems_of p t w) m n (option_map emptied) (option_map (filled (atoms_in H m) (mems_in H m))) q.apart y d2 d1))
    ]
  ]
    where
      gone_to : (o : Option HeapMem) → ((z : HeapMem) → o ≡ Some z → z.place ≡ within m) → option_map (heap.mem_with_place (within n)) o ≡ option_map (mem_sent m n) o
      gone_to None h = refl
      gone_to (Some z) h = λ i. Some (record z { place = (sym (ap (sent m n) (h z refl) ∙ sent_first)) i })
        where
          sent_first : sent m n (within m) ≡ within n
          sent_first = rw (eq-eqb m m refl) refl

      others : (y : ℕ) → y ≢ m → y ≢ n → mems_of p t v y ≡ option_map (mem_sent m n) (mems_of p t w y)
      others y d2 d1 = elim (goes y) [
        | inl e ↦ by (is_post p y) e ∙ gone_to (mems_of p t w y) (λ z f. mem_place p t (is_post p y) (w y) z f ∙ in_m y e)
        | inr d ↦ ap (λ (o : Option WebCell). cond (is_post p y) None (mem_of p t o)) (s.others y d2 d1 d) ∙ sym (mem_stays m n (mems_of p t w y) (place_not y d))
      ]
        where
          by : (b : Bool) → home_at w y ≡ Some m → cond b None (mem_of p t (v y)) ≡ option_map (heap.mem_with_place (within n)) (cond b None (mem_of p t (w y)))
          by true e = refl
          by false e = ap (mem_of p t) (s.moved y e) ∙ home_mem_is (Some n) (w y) ∙ ap (λ P. option_map (heap.mem_with_place P) (mem_of p t (w y))) in_n

  lines : (k : CellKind) → cells_in v p.waiting k ≡ cells_in w p.waiting k
  lines k = cells_away p.waiting k (λ e. q.source_waits (sym e)) (λ e. q.target_waits (sym e))

  -- the heap in which all has moved
  pub merged_heap : heap_by p t v ≡ moved_all (heap_by p t w) m n
  merged_heap = λ i. record { root = p.root; atoms = λ y. atoms_are y i; mems = λ y. mems_are y i; new_atoms = lines Atom i; new_mems = lines Membrane i }

-- what is gone stands in the line of that
pub gone_at : (p : Posts) (t : List (Option RuleList)) (w : ℕ → Option WebCell) (m : ℕ) → heap.mem_place_of (heap_by p t w) m ≡ Some heap.gone → home_at w m ≡ Some p.gone
gone_at p t w m e =
    let i = mem_there p t w m (some (mems_of p t w m) e) in
    gone_back p (home_at w m) (let z : Some (place_at p (home_at w m)) ≡ Some heap.gone = sym (mem_place_is p t w m i.1 i.2 i.3 i.0) ∙ e in cc)
  where
    some : (o : Option HeapMem) → option_map (λ x. x.place) o ≡ Some heap.gone → IsSome o
    some None e = absurd (cc)
    some (Some x) e = refl
