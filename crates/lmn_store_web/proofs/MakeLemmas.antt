-- A cell that is made and put into the line of what waits.
use Rattle.std.proofs.Common.{◌≡◌, ◌≢◌, ◌⊎◌, ℕ, zero, suc, ◌+◌, ◌<◌, List, [], ◌∷◌, ◌++◌, length, Option, Some, None, IsSome, is_some, refl, sym, ap, subst, ◌∙◌, inl, inr, arith}
use Rattle.std.specs.Prelude.{slice_index_or, replicate, cond, unwrap_or}
use Rattle.std.specs.Option.{option_map, option_and_then}
use Rattle.std.proofs.lemmas.Bool.{cases_eq}
use Rattle.lmn_base.specs.declared.functor.Functor.{Functor}
use Rattle.lmn_store_heap.specs.Heap.{HeapMem, alter, new_atom, new_mem, made_atom, made_mem}
use Rattle.lmn_store_heap.proofs.Listing.{alter_at, alter_away}
use Rattle.lmn_store_counts.specs.RuleLists.{RuleList}
use Rattle.lmn_store_counts.specs.Census.{Census}
use Rattle.lmn_store_counts.specs.Counts.{HasCounts, BOUND, one, with_rules}
use Rattle.lmn_store_counts.proofs.CensusLemmas.{census_add}
use Rattle.lmn_web_merging.proofs.Relisting.{list_marks}
use Rattle.lmn_web.specs.declared.kind.CellKind.{CellKind}
use Rattle.lmn_web.specs.declared.kind.CellKind.TheVariants.{Atom, Membrane}
use Rattle.lmn_web.specs.Webs as web
use Rattle.lmn_web_merging.specs.Keepers.{LENT}
use Rattle.lmn_web.specs.Webs.{WebCell, FilesNone, web_kind, kind_at, home_at, arity_at, cells_in, cells_of, web_label, new_cell, with_home, with_list, added_last}
use Rattle.lmn_store_web.specs.Labels.{IsLabelNumber, label_by}
use Rattle.lmn_store_web.specs.WebHeaps.{Posts, no_rules, rules_at, atom_by, if_atom, if_membrane, atoms_of, mem_by, is_post, mems_of, heap_by}
use Rattle.lmn_store_web.specs.WebStores.{IsStored}
use Rattle.lmn_store_web.specs.Indexes.{key_of}
use Rattle.lmn_store_web.proofs.ReadLemmas.{waits_in, mem_there, mem_is, mems_are}
use Rattle.lmn_store_web.proofs.TableLemmas.{atoms_none, mems_none, mems_post, mems_with, post_waits}
use Rattle.lmn_web_merging.proofs.Sending.{list_kind, list_home, list_ports, list_label, list_there, list_at_kind, list_at_other, kind_there}

-- w is v with one cell more, which stands last in the line of what waits
pub record Made (p : Posts) (v w : ℕ → Option WebCell) (c : ℕ) (K : CellKind) (l n : ℕ) : Type 0 where
  pub fresh : v c ≡ None
  pub here : w c ≡ Some (with_home (Some p.waiting) (new_cell l n K))
  pub line : w p.waiting ≡ option_map (with_list K (cells_in v p.waiting K ++ c ∷ [])) (v p.waiting)
  pub others : (x : ℕ) → x ≢ c → x ≢ p.waiting → w x ≡ v x

-- membranes that were there keep their keys
pub made_key : (p : Posts) (v w : ℕ → Option WebCell) (c : ℕ) (K : CellKind) (l n : ℕ) → Made p v w c K l n → (t : List (Option RuleList)) (m : ℕ) → IsSome (mems_of p t v m) → key_of w m ≡ key_of v m
made_key p v w c K l n d t m i =
    let j = mem_there p t v m i in
    ap (λ (o : Option WebCell). unwrap_or (option_map (λ x. x.label) o) 0) (d.others m (λ e. (let z : IsSome {T = WebCell} None = subst (λ (o : Option WebCell). IsSome o) (ap v e ∙ d.fresh) j.0 in absurd (cc))) j.2)

-- `make` and then `add_last` make one
pub made_line : (p : Posts) (v u w : ℕ → Option WebCell) (c : ℕ) (K : CellKind) (l n : ℕ) → v c ≡ None → p.waiting ≢ c → u ≡ alter v c (λ _. Some (new_cell l n K)) → w ≡ added_last u p.waiting c → Made p v w c K l n
made_line p v u w c K l n none d make add = record {
  fresh = none;
  here = (λ j. add j c) ∙ alter_away homed p.waiting (option_map (with_list (kind_at u c) (last (kind_at u c)))) c (λ e. d (sym e))
      ∙ alter_at u c (option_map (with_home (Some p.waiting))) ∙ ap (λ (o : Option WebCell). option_map (with_home (Some p.waiting)) o) at_new;
  line = (λ j. add j p.waiting) ∙ alter_at homed p.waiting (option_map (with_list (kind_at u c) (last (kind_at u c))))
      ∙ ap (λ (o : Option WebCell). option_map (with_list (kind_at u c) (last (kind_at u c))) o) (alter_away u c (option_map (with_home (Some p.waiting))) p.waiting d ∙ at_line)
      ∙ ap (λ j. option_map (with_list j (last j)) (v p.waiting)) (ap web_kind at_new)
      ∙ ap (λ (o : Option WebCell). option_map (with_list K (cells_of o K ++ c ∷ [])) (v p.waiting)) at_line;
  others = λ x e f. (λ j. add j x) ∙ alter_away homed p.waiting (option_map (with_list (kind_at u c) (last (kind_at u c)))) x f
      ∙ alter_away u c (option_map (with_home (Some p.waiting))) x e ∙ (λ j. make j x) ∙ alter_away v c (λ _. Some (new_cell l n K)) x e;
}
  where
    homed : ℕ → Option WebCell
    homed = alter u c (option_map (with_home (Some p.waiting)))

    last : CellKind → List ℕ
    last j = cells_in u p.waiting j ++ c ∷ []

    at_new : u c ≡ Some (new_cell l n K)
    at_new = (λ j. make j c) ∙ alter_at v c (λ _. Some (new_cell l n K))

    at_line : u p.waiting ≡ v p.waiting
    at_line = (λ j. make j p.waiting) ∙ alter_away v c (λ _. Some (new_cell l n K)) p.waiting d

-- A cell that was just made is there, in no list, and none of those that were there
module _ (v u : ℕ → Option WebCell) (c l n : ℕ) (K : CellKind) (none : v c ≡ None) (make : u ≡ alter v c (λ _. Some (new_cell l n K))) where
  new_at : u c ≡ Some (new_cell l n K)
  new_at = (λ j. make j c) ∙ alter_at v c (λ _. Some (new_cell l n K))

  pub new_there : IsSome (u c)
  new_there = subst (λ (o : Option WebCell). IsSome o) (sym new_at) refl

  pub new_homeless : home_at u c ≡ None
  new_homeless = ap web.home_of new_at

  pub new_kind : kind_at u c ≡ K
  new_kind = ap web_kind new_at

  pub new_apart : (x : ℕ) → kind_at v x ≡ Membrane → c ≢ x
  new_apart x e q = let s : IsSome {T = WebCell} None = subst (λ (o : Option WebCell). IsSome o) (ap v (sym q) ∙ none) (kind_there (v x) e) in absurd (cc)

  pub old_kind : (x : ℕ) → kind_at v x ≡ Membrane → kind_at u x ≡ Membrane
  old_kind x e = (λ j. web_kind (make j x)) ∙ ap web_kind (alter_away v c (λ _. Some (new_cell l n K)) x (λ q. new_apart x e (sym q))) ∙ e

  -- and its mark
  pub old_mark : (x : ℕ) → kind_at v x ≡ Membrane → slice_index_or (web.marks_of (u x)) 1 0 ≡ slice_index_or (web.marks_of (v x)) 1 0
  old_mark x e = (λ j. slice_index_or (web.marks_of (make j x)) 1 0) ∙ ap (λ (o : Option WebCell). slice_index_or (web.marks_of o) 1 0) (alter_away v c (λ _. Some (new_cell l n K)) x (λ q. new_apart x e (sym q)))

  -- and a membrane that files no atoms files none
  pub old_files : (x : ℕ) → kind_at v x ≡ Membrane → FilesNone v x → FilesNone u x
  old_files x e h i f =
      h i (sym ((λ j. option_map (λ (q : WebCell). q.label) (make j x)) ∙ ap (λ (o : Option WebCell). option_map (λ (q : WebCell). q.label) o) (alter_away v c (λ _. Some (new_cell l n K)) x (λ q. new_apart x e (sym q)))) ∙ f)

new_cells : (h : Option ℕ) (l n : ℕ) (K k : CellKind) → cells_of (Some (with_home h (new_cell l n K))) k ≡ []
new_cells h l n K Atom = refl
new_cells h l n K Membrane = refl

no_ports : (n : ℕ) → n ≡ 0 → length (replicate {A = Option (ℕ × ℕ)} n None) ≡ 0
no_ports n e = rw e refl

module _ (p : Posts) (v w : ℕ → Option WebCell) (c : ℕ) (K : CellKind) (l n : ℕ) (d : Made p v w c K l n) where
  abbrev xs : List ℕ
  xs = cells_in v p.waiting K ++ c ∷ []

  -- what is read of any other cell, if it isn't the list
  beside : {X : Type 0} (g : Option WebCell → X) → ((o : Option WebCell) → g (option_map (with_list K xs) o) ≡ g o) → (x : ℕ) → x ≢ c → g (w x) ≡ g (v x)
  beside g h x q = elim (cases_eq x p.waiting) [
    | inl e ↦ subst (λ z. g (w z) ≡ g (v z)) (sym e) (ap g d.line ∙ h (v p.waiting))
    | inr r ↦ ap g (d.others x q r)
  ]

  kind_beside : (x : ℕ) → x ≢ c → kind_at w x ≡ kind_at v x
  kind_beside = beside web_kind (list_kind K xs)

  home_beside : (x : ℕ) → x ≢ c → home_at w x ≡ home_at v x
  home_beside = beside web.home_of (list_home K xs)

  arity_beside : (x : ℕ) → x ≢ c → arity_at w x ≡ arity_at v x
  arity_beside = beside (λ o. length (web.partners_of o)) (λ o. ap length (list_ports K xs o))

  mark_beside : (x : ℕ) → x ≢ c → slice_index_or (web.marks_of (w x)) 1 0 ≡ slice_index_or (web.marks_of (v x)) 1 0
  mark_beside = beside (λ o. slice_index_or (web.marks_of o) 1 0) (λ o. ap (λ (us : List ℕ). slice_index_or us 1 0) (list_marks K xs o))

  label_beside : (x : ℕ) → x ≢ c → web_label w x ≡ web_label v x
  label_beside = beside (λ o. option_map (λ c. c.label) o) (list_label K xs)

  some_beside : (x : ℕ) → x ≢ c → is_some (w x) ≡ is_some (v x)
  some_beside = beside (λ o. is_some o) (list_there K xs)

  kind_here : kind_at w c ≡ K
  kind_here = ap web_kind d.here

  home_here : home_at w c ≡ Some p.waiting
  home_here = ap web.home_of d.here

  label_here : web_label w c ≡ Some l
  label_here = ap (λ (o : Option WebCell). option_map (λ c. c.label) o) d.here

  some_here : IsSome (w c)
  some_here = subst (λ (o : Option WebCell). IsSome o) (sym d.here) refl

  -- what was there is another one
  other : (x : ℕ) → IsSome (v x) → x ≢ c
  other x s e = let u : IsSome {T = WebCell} None = subst (λ (o : Option WebCell). IsSome o) (ap v e ∙ d.fresh) s in absurd (cc)

  module _ (t t1 : List (Option RuleList)) (k : IsStored p t v)
      (ports : K ≡ Membrane → n ≡ 0) (label : K ≡ Atom → IsLabelNumber p.by_value l)
      (own : K ≡ Membrane → IsSome (slice_index_or t1 l None) × (slice_index_or t l None ≡ None))
      (stay : (i : ℕ) → IsSome (slice_index_or t i None) → IsSome (slice_index_or t1 i None))
      (only : (i : ℕ) → IsSome (slice_index_or t1 i None) → IsSome (slice_index_or t i None) ⊎ ((K ≡ Membrane) × (i ≡ l))) where
    post : (x : ℕ) → (x ≡ p.root) ⊎ (x ≡ p.waiting) ⊎ (x ≡ p.gone) → IsSome (v x)
    post x (inl e) = kind_there (v x) (ap (kind_at v) e ∙ k.root)
    post x (inr (inl e)) = kind_there (v x) (ap (kind_at v) e ∙ k.waiting)
    post x (inr (inr e)) = kind_there (v x) (ap (kind_at v) e ∙ k.gone)

    apart_root : p.root ≢ c
    apart_root = other p.root (post p.root (inl refl))

    pub apart_waiting : p.waiting ≢ c
    apart_waiting = other p.waiting (post p.waiting (inr (inl refl)))

    apart_gone : p.gone ≢ c
    apart_gone = other p.gone (post p.gone (inr (inr refl)))

    -- a membrane that was there
    mem_was : (m : ℕ) → m ≢ c → IsSome (mems_of p t1 w m) → IsSome (mems_of p t v m)
    mem_was m q s = let i = mem_there p t1 w m s in mem_is p t v m (sym (kind_beside m q) ∙ i.1) i.2 i.3 (sym (some_beside m q) ∙ i.0)

    mem_stays : (m : ℕ) → IsSome (mems_of p t v m) → (m ≢ c) × IsSome (mems_of p t1 w m)
    mem_stays m s = let i = mem_there p t v m s in let q = other m i.0 in (q, mem_is p t1 w m (kind_beside m q ∙ i.1) i.2 i.3 (some_beside m q ∙ i.0))

    kind_of_new : (x : ℕ) → x ≡ c → (j : CellKind) → kind_at w x ≡ j → K ≡ j
    kind_of_new x q j e = sym kind_here ∙ ap (kind_at w) (sym q) ∙ e

    -- no other membrane has the rules of the new one
    no_rules_yet : (m : ℕ) → m ≢ c → K ≡ Membrane → IsSome (mems_of p t1 w m) → web_label w m ≡ Some l → ⊥
    no_rules_yet m q e s f =
        let i = mem_there p t v m (mem_was m q s) in
        let r = k.rules m i.1 i.2 i.3 in
        let same : Some r.0 ≡ Some l = sym r.1.0 ∙ sym (label_beside m q) ∙ f in
        let j : r.0 ≡ l = (cc) in
        let u : IsSome {T = RuleList} None = subst (λ (o : Option RuleList). IsSome o) (ap (λ z. slice_index_or t z None) j ∙ (own e).1) r.1.1 in absurd (cc)

    pub made_stored : IsStored p t1 w
    made_stored = record {
      root = kind_beside p.root apart_root ∙ k.root;
      waiting = kind_beside p.waiting apart_waiting ∙ k.waiting;
      gone = kind_beside p.gone apart_gone ∙ k.gone;
      root_waits = k.root_waits;
      root_goes = k.root_goes;
      apart = k.apart;
      homeless = λ x s. elim (cases_eq x c) [
        | inl q ↦ (λ e. let u : None ≡ Some p.waiting = sym e ∙ ap (home_at w) q ∙ home_here in absurd (cc), λ e. absurd (other x (post x e) q))
        | inr q ↦ (let h = k.homeless x (sym (some_beside x q) ∙ s) in (λ e. h.0 (sym (home_beside x q) ∙ e), λ e. home_beside x q ∙ h.1 e))
      ];
      portless = λ m e. elim (cases_eq m c) [
        | inl q ↦ ap (arity_at w) q ∙ ap (λ (o : Option WebCell). length (web.partners_of o)) d.here ∙ no_ports n (ports (kind_of_new m q Membrane e))
        | inr q ↦ arity_beside m q ∙ k.portless m (sym (kind_beside m q) ∙ e)
      ];
      labels = λ a j e f. elim (cases_eq a c) [
        | inl q ↦ (let s : Some l ≡ Some j = sym label_here ∙ ap (web_label w) (sym q) ∙ f in let r : l ≡ j = (cc) in subst (IsLabelNumber p.by_value) r (label (kind_of_new a q Atom e)))
        | inr q ↦ k.labels a j (sym (kind_beside a q) ∙ e) (sym (label_beside a q) ∙ f)
      ];
      rules = λ m e x g. elim (cases_eq m c) [
        | inl q ↦ (l, (ap (web_label w) q ∙ label_here, (own (kind_of_new m q Membrane e)).0))
        | inr q ↦ (let r = k.rules m (sym (kind_beside m q) ∙ e) x g in (r.0, (label_beside m q ∙ r.1.0, stay r.0 r.1.1)))
      ];
      own_rules = λ m j i s u e f. alone m j i s u e f (cases_eq m c) (cases_eq j c);
      used = λ i s. elim (only i s) [
        | inl h ↦ (let u = k.used i h in let x = mem_stays u.0 u.1 in (u.0, x.1, label_beside u.0 x.0 ∙ u.2))
        | inr h ↦ (c, mem_is p t1 w c (kind_here ∙ h.0) (λ e. apart_waiting (sym e)) (λ e. apart_gone (sym e)) some_here, label_here ∙ ap Some (sym h.1))
      ];
      files = λ m g j e. k.files m g j (sym (label_beside m (other m (post m (inr g)))) ∙ e);
      bare = λ m j e. elim (cases_eq m c) [
        | inl q ↦ ap (λ z. cells_in w z j) q ∙ ap (λ (o : Option WebCell). cells_of o j) d.here ∙ new_cells (Some p.waiting) l n K j
        | inr q ↦ (let h = sym (home_beside m q) ∙ e in ap (λ (o : Option WebCell). cells_of o j) (d.others m q (no_line m h)) ∙ k.bare m j h)
      ];
      lent = λ m e g. elim (cases_eq m c) [
        | inl q ↦ absurd (let z : 0 ≡ LENT = sym (ap (λ z. slice_index_or (web.marks_of (w z)) 1 0) q ∙ ap (λ (o : Option WebCell). slice_index_or (web.marks_of o) 1 0) d.here ∙ ap (λ i. slice_index_or (replicate i 0 ++ 0 ∷ []) 1 0) (ports (kind_of_new m q Membrane e))) ∙ g in cc)
        | inr q ↦ home_beside m q ∙ k.lent m (sym (kind_beside m q) ∙ e) (sym (mark_beside m q) ∙ g)
      ];
      plain = λ m e g. elim (cases_eq m c) [
        | inl q ↦ ap (λ z. slice_index_or (web.marks_of (w z)) 1 0) q ∙ ap (λ (o : Option WebCell). slice_index_or (web.marks_of o) 1 0) d.here ∙ ap (λ i. slice_index_or (replicate i 0 ++ 0 ∷ []) 1 0) (ports (kind_of_new m q Membrane e))
        | inr q ↦ mark_beside m q ∙ k.plain m (sym (kind_beside m q) ∙ e) (elim g [ inl f ↦ inl f | inr f ↦ elim f [ inl h ↦ inr (inl h) | inr h ↦ inr (inr (sym (home_beside m q) ∙ h)) ] ])
      ];
    }
      where
        alone : (m j i : ℕ) → IsSome (mems_of p t1 w m) → IsSome (mems_of p t1 w j) → web_label w m ≡ Some i → web_label w j ≡ Some i → (m ≡ c) ⊎ (m ≢ c) → (j ≡ c) ⊎ (j ≢ c) → m ≡ j
        alone m j i s u e f (inl q) (inl r) = q ∙ sym r
        alone m j i s u e f (inl q) (inr r) = absurd (no_rules_yet j r (kind_of_new m q Membrane (mem_there p t1 w m s).1) u (f ∙ sym e ∙ ap (web_label w) q ∙ label_here))
        alone m j i s u e f (inr q) (inl r) = absurd (no_rules_yet m q (kind_of_new j r Membrane (mem_there p t1 w j u).1) s (e ∙ sym f ∙ ap (web_label w) r ∙ label_here))
        alone m j i s u e f (inr q) (inr r) = k.own_rules m j i (mem_was m q s) (mem_was j r u) (sym (label_beside m q) ∙ e) (sym (label_beside j r) ∙ f)

        no_line : (m : ℕ) → home_at v m ≡ Some p.waiting → m ≢ p.waiting
        no_line m h e = let n = (k.homeless p.waiting (post p.waiting (inr (inl refl)))).1 (inr (inl refl)) in let u : None ≡ Some p.waiting = sym n ∙ ap (home_at v) (sym e) ∙ h in absurd (cc)

-- A new atom

module _ (p : Posts) (t : List (Option RuleList)) (v w : ℕ → Option WebCell) (c l n : ℕ) (d : Made p v w c Atom l n) (k : IsStored p t v) (range : IsLabelNumber p.by_value l) where
  pub atom_stored : IsStored p t w
  atom_stored = made_stored p v w c Atom l n d t t k (λ e. absurd (cc)) (λ e. range) (λ e. absurd (cc)) (λ i s. s) (λ i s. inl s)

  line_there : IsSome (v p.waiting)
  line_there = kind_there (v p.waiting) k.waiting

  line_kind : kind_at w p.waiting ≡ Membrane
  line_kind = ap web_kind d.line ∙ list_kind Atom (cells_in v p.waiting Atom ++ c ∷ []) (v p.waiting) ∙ k.waiting

  mems_stay : mems_of p t w ≡ mems_of p t v
  mems_stay = λ j x. each x j
    where
      each : (x : ℕ) → mems_of p t w x ≡ mems_of p t v x
      each x = elim (cases_eq x c) [
        | inl e ↦ mems_none p t w x (ap (kind_at w) e ∙ ap web_kind d.here) ∙ sym (mems_none p t v x (ap (kind_at v) e ∙ ap web_kind d.fresh))
        | inr q ↦ elim (cases_eq x p.waiting) [
          | inl e ↦ mems_post p t w x (post_waits p x e) ∙ sym (mems_post p t v x (post_waits p x e))
          | inr r ↦ ap (λ (o : Option WebCell). cond (is_post p x) None (option_and_then (λ (c : WebCell). if_membrane c.kind (mem_by p t c)) o)) (d.others x q r)
        ]
      ]

  module _ (f : Functor) (label : label_by l ≡ f.label) (arity : n ≡ f.arity) where
    atoms_more : atoms_of p w ≡ alter (atoms_of p v) c (λ _. Some (new_atom f))
    atoms_more = λ j x. each x j
      where
        zeros : (n : ℕ) → ◌≡◌ {A = List ℕ} (replicate n 0 ++ 0 ∷ []) (replicate (n + 1) 0)
        zeros zero = refl
        zeros (suc n) = ap (λ (xs : List ℕ). 0 ∷ xs) (zeros n) ∙ ap (λ k. replicate {A = ℕ} k 0) (let e : suc (n + 1) ≡ suc n + 1 = omega arith in e)

        long : (n : ℕ) → length (replicate {A = Option (ℕ × ℕ)} n None) ≡ n
        long zero = refl
        long (suc n) = ap suc (long n)

        is_new : atom_by p (with_home (Some p.waiting) (new_cell l n Atom)) ≡ new_atom f
        is_new = λ j. record {
          functor = record { label = label j; arity = (long n ∙ arity) j };
          links = replicate (arity j) None;
          marks = (zeros n ∙ ap (λ k. replicate {A = ℕ} (k + 1) 0) arity) j;
          place = waits_in p j;
        }

        each : (x : ℕ) → atoms_of p w x ≡ alter (atoms_of p v) c (λ _. Some (new_atom f)) x
        each x = elim (cases_eq x c) [
          | inl e ↦ subst (λ z. atoms_of p w z ≡ alter (atoms_of p v) c (λ _. Some (new_atom f)) z) (sym e)
              (ap (λ (o : Option WebCell). option_and_then (λ (c : WebCell). if_atom c.kind (atom_by p c)) o) d.here ∙ ap Some is_new ∙ sym (alter_at (atoms_of p v) c (λ _. Some (new_atom f))))
          | inr q ↦ elim (cases_eq x p.waiting) [
            | inl e ↦ atoms_none p w x (ap (kind_at w) e ∙ line_kind) ∙ sym (atoms_none p v x (ap (kind_at v) e ∙ k.waiting))
            | inr r ↦ ap (λ (o : Option WebCell). option_and_then (λ (c : WebCell). if_atom c.kind (atom_by p c)) o) (d.others x q r)
          ] ∙ sym (alter_away (atoms_of p v) c (λ _. Some (new_atom f)) x q)
        ]

    pub made_atom_heap : heap_by p t w ≡ made_atom (heap_by p t v) c f
    made_atom_heap = λ j. record {
      root = p.root;
      atoms = atoms_more j;
      mems = mems_stay j;
      new_atoms = (ap (λ (o : Option WebCell). cells_of o Atom) d.line ∙ list_at_kind Atom (cells_in v p.waiting Atom ++ c ∷ []) (v p.waiting) line_there) j;
      new_mems = (ap (λ (o : Option WebCell). cells_of o Membrane) d.line ∙ list_at_other Atom (cells_in v p.waiting Atom ++ c ∷ []) (v p.waiting) Membrane (λ e. absurd (cc))) j;
    }

    fresh_atom : atoms_of p v c ≡ None
    fresh_atom = ap (λ (o : Option WebCell). option_and_then (λ (c : WebCell). if_atom c.kind (atom_by p c)) o) d.fresh

    pub made_atom_counts : (x y z : ℕ) → x + y + z < BOUND → HasCounts (atoms_of p v) (mems_of p t v) x y z → HasCounts (atoms_of p w) (mems_of p t w) (x + 1) y z
    made_atom_counts x y z low h = subst (λ f. HasCounts f (mems_of p t w) (x + 1) y z) (sym atoms_more) (subst (λ g. HasCounts (alter (atoms_of p v) c (λ _. Some (new_atom f))) g (x + 1) y z) (sym mems_stay)
        (record { atom_census = census_add one (atoms_of p v) x c (new_atom f) fresh_atom h.atom_census; mem_census = h.mem_census; spare_census = h.spare_census; bound = omega (arith, low) }))

-- A new membrane

module _ (p : Posts) (t t1 : List (Option RuleList)) (v w : ℕ → Option WebCell) (c l : ℕ) (d : Made p v w c Membrane l 0) (k : IsStored p t v)
    (vacant : slice_index_or t l None ≡ None) (row : slice_index_or t1 l None ≡ Some no_rules) (others : (i : ℕ) → i ≢ l → slice_index_or t1 i None ≡ slice_index_or t i None) where
  some_row : IsSome (slice_index_or t1 l None)
  some_row = subst (λ (o : Option RuleList). IsSome o) (sym row) refl

  stays : (i : ℕ) → IsSome (slice_index_or t i None) → IsSome (slice_index_or t1 i None)
  stays i s = subst (λ (o : Option RuleList). IsSome o) (sym (others i (taken i s))) s
    where
      taken : (i : ℕ) → IsSome (slice_index_or t i None) → i ≢ l
      taken i s e = let u : IsSome {T = RuleList} None = subst (λ (o : Option RuleList). IsSome o) (ap (λ z. slice_index_or t z None) e ∙ vacant) s in absurd (cc)

  was : (i : ℕ) → IsSome (slice_index_or t1 i None) → IsSome (slice_index_or t i None) ⊎ ((Membrane ≡ Membrane) × (i ≡ l))
  was i s = elim (cases_eq i l) [
    | inl e ↦ inr (refl, e)
    | inr q ↦ inl (subst (λ (o : Option RuleList). IsSome o) (others i q) s)
  ]

  pub mem_stored : IsStored p t1 w
  mem_stored = made_stored p v w c Membrane l 0 d t t1 k (λ e. refl) (λ e. absurd (cc)) (λ e. (some_row, vacant)) stays was

  mem_line_there : IsSome (v p.waiting)
  mem_line_there = kind_there (v p.waiting) k.waiting

  mem_line_kind : kind_at w p.waiting ≡ Membrane
  mem_line_kind = ap web_kind d.line ∙ list_kind Membrane (cells_in v p.waiting Membrane ++ c ∷ []) (v p.waiting) ∙ k.waiting

  no_post_here : (c ≢ p.waiting) × (c ≢ p.gone)
  no_post_here = (
    λ e. gone (ap (λ z. is_some (v z)) e ∙ kind_there (v p.waiting) k.waiting),
    λ e. gone (ap (λ z. is_some (v z)) e ∙ kind_there (v p.gone) k.gone),
  )
    where
      gone : IsSome (v c) → ⊥
      gone s = let u : IsSome {T = WebCell} None = subst (λ (o : Option WebCell). IsSome o) d.fresh s in absurd (cc)

  atoms_stay : atoms_of p w ≡ atoms_of p v
  atoms_stay = λ j x. each x j
    where
      each : (x : ℕ) → atoms_of p w x ≡ atoms_of p v x
      each x = elim (cases_eq x c) [
        | inl e ↦ ap (λ z. atoms_of p w z) e ∙ atoms_none p w c (ap web_kind d.here) ∙ sym (ap (λ z. atoms_of p v z) e ∙ ap (λ (o : Option WebCell). option_and_then (λ (c : WebCell). if_atom c.kind (atom_by p c)) o) d.fresh)
        | inr q ↦ elim (cases_eq x p.waiting) [
          | inl e ↦ atoms_none p w x (ap (kind_at w) e ∙ mem_line_kind) ∙ sym (atoms_none p v x (ap (kind_at v) e ∙ k.waiting))
          | inr r ↦ ap (λ (o : Option WebCell). option_and_then (λ (c : WebCell). if_atom c.kind (atom_by p c)) o) (d.others x q r)
        ]
      ]

  mems_more : mems_of p t1 w ≡ alter (mems_of p t v) c (λ _. Some new_mem)
  mems_more = λ j x. each x j
    where
      is_new : mem_by p t1 (with_home (Some p.waiting) (new_cell l 0 Membrane)) ≡ new_mem
      is_new = λ j. record { atoms = []; mems = []; rules = (rules_is j).numbers; spare = (rules_is j).spare; mark = 0; place = waits_in p j }
        where
          rules_is : rules_at t1 l ≡ no_rules
          rules_is = ap (λ (o : Option RuleList). unwrap_or o no_rules) row

      -- the rules of another membrane are as they were
      rules_same : (x : ℕ) (y : WebCell) → v x ≡ Some y → IsSome (mems_of p t v x) → rules_at t1 y.label ≡ rules_at t y.label
      rules_same x y e s =
          let i = mem_there p t v x s in
          let r = k.rules x i.1 i.2 i.3 in
          let same : Some r.0 ≡ Some y.label = sym r.1.0 ∙ ap (λ (o : Option WebCell). option_map (λ c. c.label) o) e in
          let j : r.0 ≡ y.label = (cc) in
          ap (λ (o : Option RuleList). unwrap_or o no_rules) (others y.label (λ q. taken r.0 r.1.1 (j ∙ q)))
        where
          taken : (i : ℕ) → IsSome (slice_index_or t i None) → i ≢ l
          taken i s e = let u : IsSome {T = RuleList} None = subst (λ (o : Option RuleList). IsSome o) (ap (λ z. slice_index_or t z None) e ∙ vacant) s in absurd (cc)

      each : (x : ℕ) → mems_of p t1 w x ≡ alter (mems_of p t v) c (λ _. Some new_mem) x
      each x = elim (cases_eq x c) [
        | inl e ↦ subst (λ z. mems_of p t1 w z ≡ alter (mems_of p t v) c (λ _. Some new_mem) z) (sym e)
            (mems_are p t1 w c (ap web_kind d.here) no_post_here.0 no_post_here.1 ∙ ap (λ (o : Option WebCell). option_map (mem_by p t1) o) d.here ∙ ap Some is_new ∙ sym (alter_at (mems_of p t v) c (λ _. Some new_mem)))
        | inr q ↦ elim (cases_eq x p.waiting) [
          | inl e ↦ mems_post p t1 w x (post_waits p x e) ∙ sym (mems_post p t v x (post_waits p x e))
          | inr r ↦ ap (λ (o : Option WebCell). cond (is_post p x) None (option_and_then (λ (c : WebCell). if_membrane c.kind (mem_by p t1 c)) o)) (d.others x q r) ∙ mems_with p t t1 v x (rules_same x)
        ] ∙ sym (alter_away (mems_of p t v) c (λ _. Some new_mem) x q)
      ]

  pub made_mem_heap : heap_by p t1 w ≡ made_mem (heap_by p t v) c
  made_mem_heap = λ j. record {
    root = p.root;
    atoms = atoms_stay j;
    mems = mems_more j;
    new_atoms = (ap (λ (o : Option WebCell). cells_of o Atom) d.line ∙ list_at_other Membrane (cells_in v p.waiting Membrane ++ c ∷ []) (v p.waiting) Atom (λ e. absurd (cc))) j;
    new_mems = (ap (λ (o : Option WebCell). cells_of o Membrane) d.line ∙ list_at_kind Membrane (cells_in v p.waiting Membrane ++ c ∷ []) (v p.waiting) mem_line_there) j;
  }

  fresh_mem : mems_of p t v c ≡ None
  fresh_mem = mems_none p t v c (ap web_kind d.fresh)

  pub made_mem_counts : (x y z : ℕ) → x + y + z < BOUND → HasCounts (atoms_of p v) (mems_of p t v) x y z → HasCounts (atoms_of p w) (mems_of p t1 w) x (y + 1) z
  made_mem_counts x y z low h = subst (λ f. HasCounts f (mems_of p t1 w) x (y + 1) z) (sym atoms_stay) (subst (λ g. HasCounts (atoms_of p v) g x (y + 1) z) (sym mems_more)
      (record {
        atom_census = h.atom_census;
        mem_census = census_add with_rules (mems_of p t v) y c new_mem fresh_mem h.mem_census;
        spare_census = subst (λ u. Census (λ (x : HeapMem). x.spare) (alter (mems_of p t v) c (λ _. Some new_mem)) u) (let e : z + 0 ≡ z = omega arith in e) (census_add (λ (x : HeapMem). x.spare) (mems_of p t v) z c new_mem fresh_mem h.spare_census);
        bound = omega (arith, low);
      }))
