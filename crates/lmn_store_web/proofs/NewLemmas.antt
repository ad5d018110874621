-- A store with the root alone.
use Rattle.std.proofs.Common.{◌≡◌, ◌≢◌, ◌⊎◌, ◌/◌, ◌^◌, ℕ, Bool, List, [], Option, Some, None, IsSome, refl, sym, ap, subst, ◌∙◌, inl, inr, arith, length}
use Rattle.std.specs.Prelude.{slice_index_or, unwrap_or}
use Rattle.std.specs.Option.{option_map, option_and_then}
use Rattle.std.proofs.lemmas.Bool.{cases_eq}
use Rattle.std.proofs.lemmas.Option.{same_Some}
use Rattle.lmn_store_heap.specs.Heap.{HeapMem, alter, top, new_mem, mem_with_place}
use Rattle.lmn_store_heap.proofs.Listing.{alter_at, alter_away}
use Rattle.lmn_store_counts.specs.RuleLists.{RuleList}
use Rattle.lmn_store_counts.specs.Census.{Census}
use Rattle.lmn_store_counts.specs.Counts.{HasCounts, one, with_rules}
use Rattle.lmn_store_counts.proofs.CensusLemmas.{census_add}
use Rattle.lmn_web.specs.declared.kind.CellKind.{CellKind}
use Rattle.lmn_web.specs.declared.kind.CellKind.TheVariants.{Atom, Membrane}
use Rattle.lmn_web.specs.Webs as web
use Rattle.lmn_web_merging.specs.Keepers.{LENT}
use Rattle.lmn_web.specs.Webs.{WebCell, FilesNone, label_class, web_kind, kind_at, home_at, arity_at, cells_in, cells_of, web_label, new_cell}
use Rattle.lmn_store_web.specs.WebHeaps.{Posts, no_rules, atom_by, if_atom, atoms_of, mem_by, mems_of, heap_by, alone}
use Rattle.lmn_store_web.specs.WebStores.{IsStored}
use Rattle.lmn_web_merging.proofs.Sending.{kind_there}
use Rattle.lmn_store_web.proofs.ReadLemmas.{mem_there, mem_is, mems_are}

-- the label of the cells of what waits and of what is gone
abbrev pub LINE : ℕ
LINE = 2 ^ 64

none_census : {X : Type 0} (w : X → ℕ) → Census w (λ (k : ℕ). None) 0
none_census {X} w = record { keys = []; once = tt; all = λ k. (λ i. absurd i, λ i. absurd (let u : IsSome {T = X} None = i in cc)); weighs = refl }

module _ (by_value : Bool) (a b r key : ℕ) (t : List (Option RuleList)) (ba : b ≢ a) (ra : r ≢ a) (rb : r ≢ b) (row : slice_index_or t key None ≡ Some no_rules) (no_others : (i : ℕ) → i ≢ key → slice_index_or t i None ≡ None) where
  abbrev p : Posts
  p = record { root = r; waiting = a; gone = b; by_value = by_value }

  abbrev one_post : ℕ → Option WebCell
  one_post = alter (λ _. None) a (λ _. Some (new_cell LINE 0 Membrane))

  abbrev two_posts : ℕ → Option WebCell
  two_posts = alter one_post b (λ _. Some (new_cell LINE 0 Membrane))

  abbrev w : ℕ → Option WebCell
  w = alter two_posts r (λ _. Some (new_cell key 0 Membrane))

  at_root : w r ≡ Some (new_cell key 0 Membrane)
  at_root = alter_at two_posts r (λ _. Some (new_cell key 0 Membrane))

  at_gone : w b ≡ Some (new_cell LINE 0 Membrane)
  at_gone = alter_away two_posts r (λ _. Some (new_cell key 0 Membrane)) b (λ e. rb (sym e)) ∙ alter_at one_post b (λ _. Some (new_cell LINE 0 Membrane))

  at_waiting : w a ≡ Some (new_cell LINE 0 Membrane)
  at_waiting = alter_away two_posts r (λ _. Some (new_cell key 0 Membrane)) a (λ e. ra (sym e)) ∙ alter_away one_post b (λ _. Some (new_cell LINE 0 Membrane)) a (λ e. ba (sym e))
      ∙ alter_at (λ _. None) a (λ _. Some (new_cell LINE 0 Membrane))

  -- each cell is a post
  data Seen (x : ℕ) : Type 0 where
    is_cell : (l : ℕ) → ((x ≡ r) ⊎ (x ≡ a) ⊎ (x ≡ b)) → w x ≡ Some (new_cell l 0 Membrane) → Seen x
    is_no : x ≢ r → w x ≡ None → Seen x

  seen : (x : ℕ) → Seen x
  seen x = elim (cases_eq x r) [
    | inl e ↦ is_cell key (inl e) (ap w e ∙ at_root)
    | inr d ↦ elim (cases_eq x a) [
      | inl e ↦ is_cell LINE (inr (inl e)) (ap w e ∙ at_waiting)
      | inr f ↦ elim (cases_eq x b) [
        | inl e ↦ is_cell LINE (inr (inr e)) (ap w e ∙ at_gone)
        | inr g ↦ is_no d (alter_away two_posts r (λ _. Some (new_cell key 0 Membrane)) x d ∙ alter_away one_post b (λ _. Some (new_cell LINE 0 Membrane)) x g ∙ alter_away (λ _. None) a (λ _. Some (new_cell LINE 0 Membrane)) x f)
      ]
    ]
  ]

  no_cell : (x : ℕ) → IsSome (w x) → w x ≡ None → ⊥
  no_cell x s e = let u : IsSome {T = WebCell} None = subst (λ (o : Option WebCell). IsSome o) e s in absurd (cc)

  no_home : (x : ℕ) → home_at w x ≡ None
  no_home x = by (seen x)
    where
      by : Seen x → home_at w x ≡ None
      by (is_cell l c e) = ap web.home_of e
      by (is_no d e) = ap web.home_of e

  no_list : (x : ℕ) (k : CellKind) → cells_in w x k ≡ []
  no_list x k = by (seen x) k
    where
      by : Seen x → (k : CellKind) → cells_in w x k ≡ []
      by (is_cell l c e) Atom = ap (λ (o : Option WebCell). cells_of o Atom) e
      by (is_cell l c e) Membrane = ap (λ (o : Option WebCell). cells_of o Membrane) e
      by (is_no d e) k = ap (λ (o : Option WebCell). cells_of o k) e

  mem_root : (m : ℕ) → IsSome (w m) → m ≢ a → m ≢ b → m ≡ r
  mem_root m s d g = by (seen m)
    where
      by : Seen m → m ≡ r
      by (is_cell l (inl c) e) = c
      by (is_cell l (inr (inl c)) e) = absurd (d c)
      by (is_cell l (inr (inr c)) e) = absurd (g c)
      by (is_no f e) = absurd (no_cell m s e)

  pub new_stored : IsStored p t w
  new_stored = record {
    root = ap web_kind at_root;
    waiting = ap web_kind at_waiting;
    gone = ap web_kind at_gone;
    root_waits = ra;
    root_goes = rb;
    apart = λ e. ba (sym e);
    homeless = λ x s. (λ e. which x s (seen x), λ e. no_home x);
    portless = λ m e. ports m (seen m);
    labels = λ x l e f. absurd (no_atom x l (seen x) e f);
    rules = λ m e d g. let q = mem_root m (kind_there (w m) e) d g in (key, (ap (web_label w) q ∙ ap (λ (o : Option WebCell). option_map (λ c. c.label) o) at_root, subst (λ (o : Option RuleList). IsSome o) (sym row) refl));
    own_rules = λ m n i s u e f. let x = mem_there p t w m s in let y = mem_there p t w n u in mem_root m x.0 x.2 x.3 ∙ sym (mem_root n y.0 y.2 y.3);
    used = λ i s. elim (cases_eq i key) [
      | inl e ↦ (r, mem_is p t w r (ap web_kind at_root) ra rb (subst (λ (o : Option WebCell). IsSome o) (sym at_root) refl), ap (λ (o : Option WebCell). option_map (λ c. c.label) o) at_root ∙ ap Some (sym e))
      | inr d ↦ absurd (let u : IsSome {T = RuleList} None = subst (λ (o : Option RuleList). IsSome o) (no_others i d) s in cc)
    ];
    files = λ m g. elim g [ inl e ↦ line_files m (ap w e ∙ at_waiting) | inr e ↦ line_files m (ap w e ∙ at_gone) ];
    bare = λ m k e. no_list m k;
    plain = λ m k e. unmarked m (seen m);
    lent = λ m k e. absurd (let z : 0 ≡ LENT = sym (unmarked m (seen m)) ∙ e in cc);
  }
    where
      line_files : (m : ℕ) → w m ≡ Some (new_cell LINE 0 Membrane) → FilesNone w m
      line_files m e l f z = let q = same_Some LINE l (sym (ap (λ (o : Option WebCell). option_map (λ (c : WebCell). c.label) o) e) ∙ f) in not_zero (subst (λ n. label_class n ≡ 0) (sym q) z)
        where
          not_zero : LINE / 2 ^ 64 ≡ 0 → ⊥
          not_zero z = absurd (omega (arith, z))

      which : (x : ℕ) → IsSome (w x) → Seen x → (x ≡ r) ⊎ (x ≡ a) ⊎ (x ≡ b)
      which x s (is_cell l c e) = c
      which x s (is_no d e) = absurd (no_cell x s e)

      ports : (m : ℕ) → Seen m → arity_at w m ≡ 0
      ports m (is_cell l c e) = ap (λ (o : Option WebCell). length (web.partners_of o)) e
      ports m (is_no d e) = ap (λ (o : Option WebCell). length (web.partners_of o)) e

      unmarked : (m : ℕ) → Seen m → slice_index_or (web.marks_of (w m)) 1 0 ≡ 0
      unmarked m (is_cell l c e) = ap (λ (o : Option WebCell). slice_index_or (web.marks_of o) 1 0) e
      unmarked m (is_no d e) = ap (λ (o : Option WebCell). slice_index_or (web.marks_of o) 1 0) e

      no_atom : (x l : ℕ) → Seen x → kind_at w x ≡ Atom → web_label w x ≡ Some l → ⊥
      no_atom x l (is_cell k c e) f g = let u : Membrane ≡ Atom = sym (ap web_kind e) ∙ f in absurd (cc)
      no_atom x l (is_no d e) f g = let u : None ≡ Some l = sym (ap (λ (o : Option WebCell). option_map (λ c. c.label) o) e) ∙ g in absurd (cc)

  new_atoms : atoms_of p w ≡ (λ _. None)
  new_atoms = λ j x. each x (seen x) j
    where
      each : (x : ℕ) → Seen x → atoms_of p w x ≡ None
      each x (is_cell l c e) = ap (λ (o : Option WebCell). option_and_then (λ (c : WebCell). if_atom c.kind (atom_by p c)) o) e
      each x (is_no d e) = ap (λ (o : Option WebCell). option_and_then (λ (c : WebCell). if_atom c.kind (atom_by p c)) o) e

  abbrev root_mem : HeapMem
  root_mem = mem_with_place top new_mem

  new_mems : mems_of p t w ≡ alter (λ _. None) r (λ _. Some root_mem)
  new_mems = λ j x. each x j
    where
      root_is : mem_by p t (new_cell key 0 Membrane) ≡ root_mem
      root_is = ap (λ (o : Option RuleList). record root_mem { rules = (unwrap_or o no_rules).numbers; spare = (unwrap_or o no_rules).spare }) row

      none : (x : ℕ) (o : Option HeapMem) → mems_of p t w x ≡ o → x ≢ r → o ≡ None
      none x None e d = refl
      none x (Some y) e d = let i = mem_there p t w x (subst (λ (o : Option HeapMem). IsSome o) (sym e) refl) in absurd (d (mem_root x i.0 i.2 i.3))

      each : (x : ℕ) → mems_of p t w x ≡ alter (λ _. None) r (λ _. Some root_mem) x
      each x = elim (cases_eq x r) [
        | inl e ↦ subst (λ z. mems_of p t w z ≡ alter (λ _. None) r (λ _. Some root_mem) z) (sym e)
            (mems_are p t w r (ap web_kind at_root) ra rb ∙ ap (λ (o : Option WebCell). option_map (mem_by p t) o) at_root ∙ ap Some root_is ∙ sym (alter_at (λ _. None) r (λ _. Some root_mem)))
        | inr d ↦ none x (mems_of p t w x) refl d ∙ sym (alter_away (λ _. None) r (λ _. Some root_mem) x d)
      ]

  pub new_heap : heap_by p t w ≡ alone r
  new_heap = λ j. record { root = r; atoms = new_atoms j; mems = new_mems j; new_atoms = no_list a Atom j; new_mems = no_list a Membrane j }

  pub new_counts : HasCounts (atoms_of p w) (mems_of p t w) 0 1 0
  new_counts = subst (λ f. HasCounts f (mems_of p t w) 0 1 0) (sym new_atoms) (subst (λ f. HasCounts (λ _. None) f 0 1 0) (sym new_mems)
      (record {
        atom_census = none_census one;
        mem_census = census_add with_rules (λ _. None) 0 r root_mem refl (none_census with_rules);
        spare_census = census_add (λ (x : HeapMem). x.spare) (λ _. None) 0 r root_mem refl (none_census (λ (x : HeapMem). x.spare));
        bound = omega arith;
      }))

-- a cell lies where none was
apart_one : (f g : ℕ → Option WebCell) (a b : ℕ) (c : WebCell) → f ≡ alter g a (λ _. Some c) → f b ≡ None → b ≢ a
apart_one f g a b c e n = λ q. let u : None ≡ Some c = sym n ∙ ap f q ∙ (λ j. e j a) ∙ alter_at g a (λ _. Some c) in absurd (cc)

apart_two : (f g h : ℕ → Option WebCell) (a b r : ℕ) (c d : WebCell) → g ≡ alter h a (λ _. Some c) → f ≡ alter g b (λ _. Some d) → b ≢ a → f r ≡ None → r ≢ a
apart_two f g h a b r c d e k ba n = λ q.
    let u : None ≡ Some c = sym n ∙ ap f q ∙ (λ j. k j a) ∙ alter_away g b (λ _. Some d) a (λ z. ba (sym z)) ∙ (λ j. e j a) ∙ alter_at h a (λ _. Some c) in absurd (cc)

-- three cells that were made are a store with the root alone
pub new_all : (by_value : Bool) (f0 f1 f2 f3 : ℕ → Option WebCell) (a b r key : ℕ) (t : List (Option RuleList)) → f0 ≡ (λ _. None) → f1 ≡ alter f0 a (λ _. Some (new_cell LINE 0 Membrane)) → f1 b ≡ None
    → f2 ≡ alter f1 b (λ _. Some (new_cell LINE 0 Membrane)) → f2 r ≡ None → f3 ≡ alter f2 r (λ _. Some (new_cell key 0 Membrane)) → slice_index_or t key None ≡ Some no_rules → ((i : ℕ) → i ≢ key → slice_index_or t i None ≡ None)
    → IsStored (record { root = r; waiting = a; gone = b; by_value = by_value }) t f3 × HasCounts (atoms_of (record { root = r; waiting = a; gone = b; by_value = by_value }) f3) (mems_of (record { root = r; waiting = a; gone = b; by_value = by_value }) t f3) 0 1 0
    × (heap_by (record { root = r; waiting = a; gone = b; by_value = by_value }) t f3 ≡ alone r)
new_all by_value f0 f1 f2 f3 a b r key t e0 e1 n1 e2 n2 e3 row others =
    let q : Posts = record { root = r; waiting = a; gone = b; by_value = by_value } in
    let ba = apart_one f1 f0 a b (new_cell LINE 0 Membrane) e1 n1 in
    let rb = apart_one f2 f1 b r (new_cell LINE 0 Membrane) e2 n2 in
    let ra = apart_two f2 f1 f0 a b r (new_cell LINE 0 Membrane) (new_cell LINE 0 Membrane) e1 e2 ba n2 in
    let is : f3 ≡ w by_value a b r key t ba ra rb row others = e3 ∙ ap (λ (f : ℕ → Option WebCell). alter f r (λ _. Some (new_cell key 0 Membrane))) (e2 ∙ ap (λ (f : ℕ → Option WebCell). alter f b (λ _. Some (new_cell LINE 0 Membrane)))
    (e1 ∙ ap (λ (f : ℕ → Option WebCell). alter f a (λ _. Some (new_cell LINE 0 Membrane))) e0)) in (
      subst (λ f. IsStored q t f) (sym is) (new_stored by_value a b r key t ba ra rb row others),
      subst (λ f. HasCounts (atoms_of q f) (mems_of q t f) 0 1 0) (sym is) (new_counts by_value a b r key t ba ra rb row others),
      ap (λ (f : ℕ → Option WebCell). heap_by q t f) is ∙ new_heap by_value a b r key t ba ra rb row others,
    )
