-- A cell goes from one list to another: what stays, and what holds of the store then.
use Rattle.std.proofs.Common.{◌≡◌, ◌≢◌, ◌↔◌, ◌⊎◌, ℕ, Bool, true, false, cond, List, [], ◌∷◌, ◌++◌, length, Option, Some, None, IsSome, is_some, refl, sym, ap, subst, ◌∙◌, inl, inr}
use Rattle.std.proofs.lemmas.Bool.{cases_eq}
use Rattle.std.specs.Prelude.{slice_index_or}
use Rattle.std.specs.Option.{option_map, option_and_then}
use Rattle.lmn_store_heap.specs.Heap.{HeapAtom, HeapMem, alter}
use Rattle.lmn_store_heap.specs.Lists.{without}
use Rattle.lmn_store_heap.proofs.Listing.{alter_at, alter_away, alter_keeps}
use Rattle.lmn_store_counts.specs.RuleLists.{RuleList}
use Rattle.lmn_store_counts.specs.Census.{weight}
use Rattle.lmn_store_counts.specs.Counts.{HasCounts, one, with_rules}
use Rattle.lmn_store_counts.proofs.CensusLemmas.{census_same}
use Rattle.lmn_web.specs.declared.kind.CellKind.{CellKind}
use Rattle.lmn_web.specs.declared.kind.CellKind.TheVariants.{Atom, Membrane}
use Rattle.lmn_web.specs.Webs as web
use Rattle.lmn_web.specs.Webs.{WebCell, web_kind, kind_at, home_at, arity_at, cells_in, cells_of, web_label, with_home, with_list, unlinked, added_last}
use Rattle.lmn_web.proofs.ListedLemmas.{kind_cases}
use Rattle.lmn_web_merging.specs.Keepers.{port_mark}
use Rattle.lmn_web_merging.proofs.Sending.{home_cells, home_kind, home_label, home_ports, home_some, home_there, list_at_kind, list_at_other, list_home, list_kind, list_label, list_ports, list_there, out_self, out_source, out_kind, out_kept, list_u}
use Rattle.lmn_web_merging.proofs.Relisting.{home_marks, list_marks}
use Rattle.lmn_store_web.specs.Sends.{Sends}
use Rattle.lmn_store_web.specs.WebHeaps.{Posts, atom_by, if_atom, if_membrane, atoms_of, mem_by, is_post, mems_of}
use Rattle.lmn_store_web.specs.WebStores.{IsStored}
use Rattle.lmn_store_web.proofs.ReadLemmas.{mem_there, mem_is, some_home}

-- a cell out of its list and then at the end of another has gone there
module _ (w : ℕ → Option WebCell) (m n x : ℕ) (left : x ≢ m) where
  abbrev u : ℕ → Option WebCell
  u = unlinked w m x

  module _ (came : x ≢ n) (apart : m ≢ n) where
    abbrev ku : CellKind
    ku = kind_at u x

    abbrev came_list : List ℕ
    came_list = cells_in u n ku ++ x ∷ []

    abbrev v1 : ℕ → Option WebCell
    v1 = alter u x (option_map (with_home (Some n)))

    home_twice : (o : Option WebCell) → option_map (with_home (Some n)) (option_map (with_home None) o) ≡ option_map (with_home (Some n)) o
    home_twice None = refl
    home_twice (Some c) = refl

    -- so it is sent
    pub sends : (v : ℕ → Option WebCell) → v ≡ added_last u n x → Sends w v m n x
    sends v e = subst (λ (f : ℕ → Option WebCell). Sends w f m n x) (sym e) record {
      left = left;
      came = came;
      apart = apart;
      moved = alter_away v1 n (option_map (with_list ku came_list)) x came ∙ alter_at u x (option_map (with_home (Some n))) ∙ ap (option_map (with_home (Some n))) (out_self w m n x left) ∙ home_twice (w x);
      source = alter_away v1 n (option_map (with_list ku came_list)) m apart ∙ alter_away u x (option_map (with_home (Some n))) m (λ q. left (sym q)) ∙ out_source w m n x left;
      target = alter_at v1 n (option_map (with_list ku came_list)) ∙ ap (option_map (with_list ku came_list)) (alter_away u x (option_map (with_home (Some n))) n (λ q. came (sym q)) ∙ out_kept w m n x left n (λ q. came (sym q)) (λ q. apart (sym q)))
          ∙ (λ i. option_map (with_list (out_kind w m n x left i) (list_u w m n x left came apart (out_kind w m n x left i) i ++ x ∷ [])) (w n));
      others = λ y d a b. alter_away v1 n (option_map (with_list ku came_list)) y b ∙ alter_away u x (option_map (with_home (Some n))) y d ∙ out_kept w m n x left y d a;
    }

-- so do the marks of ports
pub out_marks : (w : ℕ → Option WebCell) (m x y : ℕ) → port_mark (unlinked w m x) y ≡ port_mark w y
out_marks w m x y =
    alter_keeps (alter w x (option_map (with_home None))) m (option_map (with_list (kind_at w x) (without x (cells_in w m (kind_at w x))))) (λ (o : Option WebCell). slice_index_or (web.marks_of o) 1 0)
    (λ o. ap (λ (us : List ℕ). slice_index_or us 1 0) (list_marks (kind_at w x) (without x (cells_in w m (kind_at w x))) o)) y
    ∙ alter_keeps w x (option_map (with_home None)) (λ (o : Option WebCell). slice_index_or (web.marks_of o) 1 0) (λ o. ap (λ (us : List ℕ). slice_index_or us 1 0) (home_marks None o)) y

-- and the labels
pub out_labels : (w : ℕ → Option WebCell) (m x y : ℕ) → web_label (unlinked w m x) y ≡ web_label w y
out_labels w m x y =
    alter_keeps (alter w x (option_map (with_home None))) m (option_map (with_list (kind_at w x) (without x (cells_in w m (kind_at w x))))) (λ (o : Option WebCell). option_map (λ (c : WebCell). c.label) o)
    (list_label (kind_at w x) (without x (cells_in w m (kind_at w x)))) y
    ∙ alter_keeps w x (option_map (with_home None)) (λ (o : Option WebCell). option_map (λ (c : WebCell). c.label) o) (home_label None) y

-- weights of items that are read off a cell
module _ (p : Posts) (t : List (Option RuleList)) where
  -- the atom that a cell is, if it is one
  abbrev pub atom_of : Option WebCell → Option HeapAtom
  atom_of o = option_and_then (λ (c : WebCell). if_atom c.kind (atom_by p c)) o

  -- the membrane that a cell is
  abbrev pub mem_of : Option WebCell → Option HeapMem
  mem_of o = option_and_then (λ (c : WebCell). if_membrane c.kind (mem_by p t c)) o

  atom_weighs : (k : CellKind) (x y : HeapAtom) → (is_some (if_atom k x) ≡ is_some (if_atom k y)) × (weight one (if_atom k x) ≡ weight one (if_atom k y))
  atom_weighs Atom x y = (refl, refl)
  atom_weighs Membrane x y = (refl, refl)

  mem_weighs : (f : HeapMem → ℕ) (k : CellKind) (x y : HeapMem) → f x ≡ f y → (is_some (if_membrane k x) ≡ is_some (if_membrane k y)) × (weight f (if_membrane k x) ≡ weight f (if_membrane k y))
  mem_weighs f Atom x y e = (refl, refl)
  mem_weighs f Membrane x y e = (refl, e)

  home_atom_weighs : (h : Option ℕ) (o : Option WebCell) → (is_some (atom_of (option_map (with_home h) o)) ≡ is_some (atom_of o)) × (weight one (atom_of (option_map (with_home h) o)) ≡ weight one (atom_of o))
  home_atom_weighs h None = (refl, refl)
  home_atom_weighs h (Some c) = atom_weighs c.kind (atom_by p (with_home h c)) (atom_by p c)

  -- an atom doesn't see the lists of its cell
  pub list_atom : (k : CellKind) (xs : List ℕ) (o : Option WebCell) → atom_of (option_map (with_list k xs) o) ≡ atom_of o
  list_atom k xs None = refl
  list_atom Atom xs (Some c) = refl
  list_atom Membrane xs (Some c) = refl

  home_mem_weighs : (f : HeapMem → ℕ) → ((h : Option ℕ) (c : WebCell) → f (mem_by p t (with_home h c)) ≡ f (mem_by p t c)) → (h : Option ℕ) (o : Option WebCell)
      → (is_some (mem_of (option_map (with_home h) o)) ≡ is_some (mem_of o)) × (weight f (mem_of (option_map (with_home h) o)) ≡ weight f (mem_of o))
  home_mem_weighs f e h None = (refl, refl)
  home_mem_weighs f e h (Some c) = mem_weighs f c.kind (mem_by p t (with_home h c)) (mem_by p t c) (e h c)

  list_mem_weighs : (f : HeapMem → ℕ) → ((k : CellKind) (xs : List ℕ) (c : WebCell) → f (mem_by p t (with_list k xs c)) ≡ f (mem_by p t c)) → (k : CellKind) (xs : List ℕ) (o : Option WebCell)
      → (is_some (mem_of (option_map (with_list k xs) o)) ≡ is_some (mem_of o)) × (weight f (mem_of (option_map (with_list k xs) o)) ≡ weight f (mem_of o))
  list_mem_weighs f e k xs None = (refl, refl)
  list_mem_weighs f e Atom xs (Some c) = mem_weighs f c.kind (mem_by p t (with_list Atom xs c)) (mem_by p t c) (e Atom xs c)
  list_mem_weighs f e Membrane xs (Some c) = mem_weighs f c.kind (mem_by p t (with_list Membrane xs c)) (mem_by p t c) (e Membrane xs c)

module _ (w v : ℕ → Option WebCell) (m n x : ℕ) (s : Sends w v m n x) where
  abbrev k : CellKind
  k = kind_at w x

  -- what lists don't change, elsewhere than at x
  pub frame_away : {X : Type 0} (f : Option WebCell → X) → ((j : CellKind) (xs : List ℕ) (o : Option WebCell) → f (option_map (with_list j xs) o) ≡ f o) → (y : ℕ) → y ≢ x → f (v y) ≡ f (w y)
  frame_away f b y d = elim (cases_eq y m) [
    | inl e ↦ subst (λ z. f (v z) ≡ f (w z)) (sym e) (ap f s.source ∙ b k (without x (cells_in w m k)) (w m))
    | inr g ↦ elim (cases_eq y n) [
      | inl e ↦ subst (λ z. f (v z) ≡ f (w z)) (sym e) (ap f s.target ∙ b k (cells_in w n k ++ x ∷ []) (w n))
      | inr h ↦ ap f (s.others y d g h)
    ]
  ]

  -- what neither homes nor lists change
  frame : {X : Type 0} (f : Option WebCell → X) → ((h : Option ℕ) (o : Option WebCell) → f (option_map (with_home h) o) ≡ f o) → ((j : CellKind) (xs : List ℕ) (o : Option WebCell) → f (option_map (with_list j xs) o) ≡ f o)
      → (y : ℕ) → f (v y) ≡ f (w y)
  frame f a b y = elim (cases_eq y x) [
    | inl e ↦ subst (λ z. f (v z) ≡ f (w z)) (sym e) (ap f s.moved ∙ a (Some n) (w x))
    | inr d ↦ frame_away f b y d
  ]

  -- kinds stay
  pub kind_same : (y : ℕ) → kind_at v y ≡ kind_at w y
  kind_same = frame web_kind home_kind list_kind

  -- labels stay
  pub label_same : (y : ℕ) → web_label v y ≡ web_label w y
  label_same = frame (λ (o : Option WebCell). option_map (λ (c : WebCell). c.label) o) home_label list_label

  arity_same : (y : ℕ) → arity_at v y ≡ arity_at w y
  arity_same y = ap (λ (us : List (Option (ℕ × ℕ))). length us) (frame web.partners_of home_ports list_ports y)

  there_same : (y : ℕ) → is_some (v y) ≡ is_some (w y)
  there_same = frame (λ (o : Option WebCell). is_some o) home_there list_there

  -- homes of the others
  pub home_away : (y : ℕ) → y ≢ x → home_at v y ≡ home_at w y
  home_away = frame_away web.home_of list_home

  -- and its own home
  pub home_now : IsSome (w x) → home_at v x ≡ Some n
  home_now i = ap web.home_of s.moved ∙ by (w x) i
    where
      by : (o : Option WebCell) → IsSome o → web.home_of (option_map (with_home (Some n)) o) ≡ Some n
      by None i = absurd (cc)
      by (Some c) i = refl

  -- the list that x leaves
  pub source_list : IsSome (w m) → cells_in v m k ≡ without x (cells_in w m k)
  source_list i = ap (λ (o : Option WebCell). cells_of o k) s.source ∙ list_at_kind k (without x (cells_in w m k)) (w m) i

  -- all others
  pub lists_away : (y : ℕ) (j : CellKind) → (y ≡ m → j ≡ k → ⊥) → (y ≡ n → j ≡ k → ⊥) → cells_in v y j ≡ cells_in w y j
  lists_away y j a b = elim (cases_eq y x) [
    | inl e ↦ subst (λ z. cells_in v z j ≡ cells_in w z j) (sym e) (ap (λ (o : Option WebCell). cells_of o j) s.moved ∙ home_cells (Some n) (w x) j)
    | inr d ↦ elim (cases_eq y m) [
      | inl e ↦ subst (λ z. cells_in v z j ≡ cells_in w z j) (sym e) (ap (λ (o : Option WebCell). cells_of o j) s.source ∙ list_at_other k (without x (cells_in w m k)) (w m) j (a e))
      | inr g ↦ elim (cases_eq y n) [
        | inl e ↦ subst (λ z. cells_in v z j ≡ cells_in w z j) (sym e) (ap (λ (o : Option WebCell). cells_of o j) s.target ∙ list_at_other k (cells_in w n k ++ x ∷ []) (w n) j (b e))
        | inr h ↦ ap (λ (o : Option WebCell). cells_of o j) (s.others y d g h)
      ]
    ]
  ]

  module _ (p : Posts) (t : List (Option RuleList)) where
    -- the counts stay
    pub sent_counts : (a b c : ℕ) → HasCounts (atoms_of p w) (mems_of p t w) a b c → HasCounts (atoms_of p v) (mems_of p t v) a b c
    sent_counts a b c h = record {
      atom_census = census_same one (atoms_of p w) (atoms_of p v) a atom_there atom_weighs_same h.atom_census;
      mem_census = census_same with_rules (mems_of p t w) (mems_of p t v) b mem_there_same (mem_weighs_same with_rules (λ h c. refl) rules_stay) h.mem_census;
      spare_census = census_same (λ (x : HeapMem). x.spare) (mems_of p t w) (mems_of p t v) c mem_there_same (mem_weighs_same (λ (x : HeapMem). x.spare) (λ h c. refl) spares_stay) h.spare_census;
      bound = h.bound;
    }
      where
        both_ways : {X Y : Type 0} (o : Option X) (q : Option Y) → is_some o ≡ is_some q → IsSome o ↔ IsSome q
        both_ways o q e = (λ i. sym e ∙ i, λ i. e ∙ i)

        atom_there : (y : ℕ) → IsSome (atoms_of p v y) ↔ IsSome (atoms_of p w y)
        atom_there y = both_ways (atoms_of p v y) (atoms_of p w y) (frame (λ (o : Option WebCell). is_some (atom_of p t o)) (λ h o. (home_atom_weighs p t h o).0) (λ j xs o. ap (λ (a : Option HeapAtom). is_some a) (list_atom p t j xs o)) y)

        atom_weighs_same : (y : ℕ) → weight one (atoms_of p v y) ≡ weight one (atoms_of p w y)
        atom_weighs_same = frame (λ (o : Option WebCell). weight one (atom_of p t o)) (λ h o. (home_atom_weighs p t h o).1) (λ j xs o. ap (weight one) (list_atom p t j xs o))

        rules_stay : (j : CellKind) (xs : List ℕ) (c : WebCell) → with_rules (mem_by p t (with_list j xs c)) ≡ with_rules (mem_by p t c)
        rules_stay Atom xs c = refl
        rules_stay Membrane xs c = refl

        spares_stay : (j : CellKind) (xs : List ℕ) (c : WebCell) → (mem_by p t (with_list j xs c)).spare ≡ (mem_by p t c).spare
        spares_stay Atom xs c = refl
        spares_stay Membrane xs c = refl

        mem_there_same : (y : ℕ) → IsSome (mems_of p t v y) ↔ IsSome (mems_of p t w y)
        mem_there_same y = both_ways (mems_of p t v y) (mems_of p t w y) (at (is_post p y))
          where
            at : (b : Bool) → is_some (cond b None (mem_of p t (v y))) ≡ is_some (cond b None (mem_of p t (w y)))
            at true = refl
            at false = frame (λ (o : Option WebCell). is_some (mem_of p t o)) (λ h o. (home_mem_weighs p t with_rules (λ h c. refl) h o).0) (λ j xs o. (list_mem_weighs p t with_rules rules_stay j xs o).0) y

        mem_weighs_same : (f : HeapMem → ℕ) → ((h : Option ℕ) (c : WebCell) → f (mem_by p t (with_home h c)) ≡ f (mem_by p t c)) → ((j : CellKind) (xs : List ℕ) (c : WebCell) → f (mem_by p t (with_list j xs c)) ≡ f (mem_by p t c))
            → (y : ℕ) → weight f (mems_of p t v y) ≡ weight f (mems_of p t w y)
        mem_weighs_same f a b y = at (is_post p y)
          where
            at : (q : Bool) → weight f (cond q None (mem_of p t (v y))) ≡ weight f (cond q None (mem_of p t (w y)))
            at true = refl
            at false = frame (λ (o : Option WebCell). weight f (mem_of p t o)) (λ h o. (home_mem_weighs p t f a h o).1) (λ j xs o. (list_mem_weighs p t f b j xs o).1) y

    -- what holds of the store stays, where nothing comes into what waits, or from what is gone
    module _ (h : IsStored p t w) (home : home_at w x ≡ Some m) (to : n ≢ p.waiting) (fits : home_at w n ≢ Some p.waiting) (from : m ≢ p.gone) where
      x_there : IsSome (w x)
      x_there = home_some (w x) (some_home (home_at w x) m home)

      -- what holds of a store holds
      pub sent_stored : IsStored p t v
      sent_stored = record {
        root = kind_same p.root ∙ h.root;
        waiting = kind_same p.waiting ∙ h.waiting;
        gone = kind_same p.gone ∙ h.gone;
        root_waits = h.root_waits;
        root_goes = h.root_goes;
        apart = h.apart;
        homeless = λ y i. elim (cases_eq y x) [
          | inl e ↦ (
            λ q. absurd (let z : Some n ≡ None = sym (home_now x_there) ∙ ap (home_at v) (sym e) ∙ q in cc),
            λ q. absurd (let z : Some m ≡ None = sym home ∙ ap (home_at w) (sym e) ∙ (h.homeless y (subst (λ z. IsSome (w z)) (sym e) x_there)).1 q in cc),
          )
          | inr d ↦ (λ q. (h.homeless y (sym (there_same y) ∙ i)).0 (sym (home_away y d) ∙ q), λ q. home_away y d ∙ (h.homeless y (sym (there_same y) ∙ i)).1 q)
        ];
        portless = λ y e. arity_same y ∙ h.portless y (sym (kind_same y) ∙ e);
        labels = λ y l e q. h.labels y l (sym (kind_same y) ∙ e) (sym (label_same y) ∙ q);
        rules = λ y e a b. let r = h.rules y (sym (kind_same y) ∙ e) a b in (r.0, (label_same y ∙ r.1.0, r.1.1));
        own_rules = λ y z i a b c d. h.own_rules y z i (mem_was y a) (mem_was z b) (sym (label_same y) ∙ c) (sym (label_same z) ∙ d);
        used = λ i q. let r = h.used i q in let o = mem_there p t w r.0 r.1 in (r.0, mem_is p t v r.0 (kind_same r.0 ∙ o.1) o.2 o.3 (there_same r.0 ∙ o.0), label_same r.0 ∙ r.2);
        files = λ y f l e. h.files y f l (sym (label_same y) ∙ e);
        bare = bare_now;
        plain = λ y e f. mark_same y ∙ h.plain y (sym (kind_same y) ∙ e) (waits_was y f);
        lent = λ y e f. let was = h.lent y (sym (kind_same y) ∙ e) (sym (mark_same y) ∙ f) in elim (cases_eq y x) [
          | inl q ↦ absurd (from (let z : Some m ≡ Some p.gone = sym home ∙ ap (home_at w) (sym q) ∙ was in cc))
          | inr d ↦ home_away y d ∙ was
        ];
      }
        where
          mem_was : (y : ℕ) → IsSome (mems_of p t v y) → IsSome (mems_of p t w y)
          mem_was y i = let q = mem_there p t v y i in mem_is p t w y (sym (kind_same y) ∙ q.1) q.2 q.3 (sym (there_same y) ∙ q.0)

          mark_same : (y : ℕ) → port_mark v y ≡ port_mark w y
          mark_same = frame (λ (o : Option WebCell). slice_index_or (web.marks_of o) 1 0) (λ g o. ap (λ (us : List ℕ). slice_index_or us 1 0) (home_marks g o)) (λ j us o. ap (λ (ms : List ℕ). slice_index_or ms 1 0) (list_marks j us o))

          waits_was : (y : ℕ) → (y ≡ p.waiting) ⊎ (y ≡ p.gone) ⊎ (home_at v y ≡ Some p.waiting) → (y ≡ p.waiting) ⊎ (y ≡ p.gone) ⊎ (home_at w y ≡ Some p.waiting)
          waits_was y (inl e) = inl e
          waits_was y (inr (inl e)) = inr (inl e)
          waits_was y (inr (inr e)) = inr (inr (elim (cases_eq y x) [
            | inl q ↦ absurd (let z : Some n ≡ Some p.waiting = sym (home_now x_there) ∙ ap (home_at v) (sym q) ∙ e in to (cc))
            | inr d ↦ sym (home_away y d) ∙ e
          ]))

          without_none : (us : List ℕ) → us ≡ [] → without x us ≡ []
          without_none us e = ap (without x) e

          bare_now : (y : ℕ) (j : CellKind) → home_at v y ≡ Some p.waiting → cells_in v y j ≡ []
          bare_now y j e = elim (cases_eq y x) [
            | inl q ↦ absurd (let z : Some n ≡ Some p.waiting = sym (home_now x_there) ∙ ap (home_at v) (sym q) ∙ e in to (cc))
            | inr d ↦ (let was = sym (home_away y d) ∙ e in elim (cases_eq y m) [
              | inl q ↦ elim (kind_cases j k) [
                | inl r ↦ subst (λ z. cells_in v z j ≡ []) (sym q) (subst (λ i. cells_in v m i ≡ []) (sym r)
                    (source_list (home_some (w m) (some_home (home_at w m) p.waiting (ap (home_at w) (sym q) ∙ was))) ∙ without_none (cells_in w m k) (h.bare m k (ap (home_at w) (sym q) ∙ was))))
                | inr f ↦ lists_away y j (λ _. f) (λ _. f) ∙ h.bare y j was
              ]
              | inr g ↦ elim (cases_eq y n) [
                | inl q ↦ absurd (fits (ap (home_at w) (sym q) ∙ was))
                | inr f ↦ lists_away y j (λ z _. g z) (λ z _. f z) ∙ h.bare y j was
              ]
            ])
          ]
