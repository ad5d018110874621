-- A cell comes or goes that is joined to nothing, stands nowhere and holds nothing.
use Rattle.std.proofs.Common.{◌≡◌, ◌≢◌, ℕ, zero, suc, true, false, List, [], length, replicate, Option, Some, None, IsSome, Result, Ok, Err, MatchResult, refl, sym, ap, subst, ◌∙◌, inl, inr}
use Rattle.std.proofs.lemmas.Bool.{cases_eq}
use Rattle.std.specs.Prelude.{slice_index_or}
use Rattle.lmn_store_heap.specs.Heap.{alter}
use Rattle.lmn_store_heap.proofs.Listing.{alter_at, alter_away}
use Rattle.lmn_web.specs.declared.kind.CellKind.{CellKind}
use Rattle.lmn_web.specs.declared.kind.CellKind.TheVariants.{Atom, Membrane}
use Rattle.lmn_web.specs.Webs.{WebCell, web_kind, kind_at, home_of, home_at, partners_of, partner_at, arity_at, marks_of, cells_of, cells_in, new_cell, IsPaired, IsLoose}
use Rattle.lmn_web_merging.specs.Keepers.{led_from, keeper, port_mark, is_retired, looked_at, seen}
use Rattle.lmn_web_merging.specs.Moves.{AreKept}
use Rattle.lmn_web_merging.proofs.Seen.{own_keeper, keepers_differ, seen_there, seen_cells, atom_partners, no_home_under}

-- a cell that is joined to nothing, stands nowhere and holds nothing, or none
pub record Plain (o : Option WebCell) : Type 0 where
  pub alone : (i : ℕ) → slice_index_or (partners_of o) i None ≡ None
  pub bare : (k : CellKind) → cells_of o k ≡ []
  pub homeless : home_of o ≡ None
  pub there : is_retired o ≡ false
  pub ports : web_kind o ≡ Membrane → length (partners_of o) ≡ 1
  pub marks : web_kind o ≡ Membrane → length (marks_of o) ≡ 2

-- none is
pub plain_none : Plain None
plain_none = record { alone = λ i. refl; bare = λ k. refl; homeless = refl; there = refl; ports = λ e. absurd (cc); marks = λ e. absurd (cc) }

none_joined : (n i : ℕ) → ◌≡◌ {A = Option (ℕ × ℕ)} (slice_index_or (replicate n None) i None) None
none_joined zero i = refl
none_joined (suc n) zero = refl
none_joined (suc n) (suc i) = none_joined n i

-- a new atom is,
pub plain_atom : (label n : ℕ) → Plain (Some (new_cell label n Atom))
plain_atom label n = record {
  alone = none_joined n;
  bare = λ k. by k;
  homeless = refl;
  there = refl;
  ports = λ e. absurd (let z : Atom ≡ Membrane = e in cc);
  marks = λ e. absurd (let z : Atom ≡ Membrane = e in cc);
}
  where
    by : (k : CellKind) → cells_of (Some (new_cell label n Atom)) k ≡ []
    by Atom = refl
    by Membrane = refl

-- and a new membrane
pub plain_membrane : (label : ℕ) → Plain (Some (new_cell label 1 Membrane))
plain_membrane label = record {
  alone = none_joined 1;
  bare = λ k. by k;
  homeless = refl;
  there = refl;
  ports = λ e. refl;
  marks = λ e. refl;
}
  where
    by : (k : CellKind) → cells_of (Some (new_cell label 1 Membrane)) k ≡ []
    by Atom = refl
    by Membrane = refl

module _ (w v : ℕ → Option WebCell) (c : ℕ) (same : (y : ℕ) → y ≢ c → v y ≡ w y) (p : Plain (w c)) (q : Plain (v c)) where
  keepers_at : (y : ℕ) → keeper v y ≡ keeper w y
  keepers_at y = elim (cases_eq y c) [
    | inl e ↦ subst (λ z. keeper v z ≡ keeper w z) (sym e) (own_keeper v c (q.alone 0) ∙ sym (own_keeper w c (p.alone 0)))
    | inr d ↦ ap (λ (o : Option WebCell). led_from (web_kind o) y (slice_index_or (partners_of o) 0 None)) (same y d)
  ]

  keepers_stay : keeper v ≡ keeper w
  keepers_stay = λ i y. keepers_at y i

  cells_stay : (y : ℕ) (k : CellKind) → cells_in v y k ≡ cells_in w y k
  cells_stay y k = elim (cases_eq y c) [
    | inl e ↦ subst (λ z. cells_in v z k ≡ cells_in w z k) (sym e) (q.bare k ∙ sym (p.bare k))
    | inr d ↦ ap (λ (o : Option WebCell). cells_of o k) (same y d)
  ]

  seen_at : (y : ℕ) → seen v y ≡ looked_at (keeper w) (cells_in w (keeper w y) Atom) (cells_in w (keeper w y) Membrane) (v y)
  seen_at y = (λ i. looked_at (keepers_stay i) (cells_in v (keepers_stay i y) Atom) (cells_in v (keepers_stay i y) Membrane) (v y))
      ∙ (λ i. looked_at (keeper w) (cells_stay (keeper w y) Atom i) (cells_stay (keeper w y) Membrane i) (v y))

  c_list : (k : CellKind) → cells_in w (keeper w c) k ≡ []
  c_list k = ap (λ z. cells_in w z k) (own_keeper w c (p.alone 0)) ∙ p.bare k

  -- one cell is seen otherwise
  pub seen_single : seen v ≡ alter (seen w) c (λ _. looked_at (keeper w) [] [] (v c))
  seen_single = λ i y. point y i
    where
      point : (y : ℕ) → seen v y ≡ alter (seen w) c (λ _. looked_at (keeper w) [] [] (v c)) y
      point y = elim (cases_eq y c) [
        | inl e ↦ subst (λ z. seen v z ≡ alter (seen w) c (λ _. looked_at (keeper w) [] [] (v c)) z) (sym e)
            (seen_at c ∙ (λ i. looked_at (keeper w) (c_list Atom i) (c_list Membrane i) (v c)) ∙ sym (alter_at (seen w) c (λ _. looked_at (keeper w) [] [] (v c))))
        | inr d ↦ seen_at y ∙ ap (looked_at (keeper w) (cells_in w (keeper w y) Atom) (cells_in w (keeper w y) Membrane)) (same y d) ∙ sym (alter_away (seen w) c (λ _. looked_at (keeper w) [] [] (v c)) y d)
      ]

  -- and keepers are kept
  pub single_kept : IsPaired w → AreKept w → AreKept v
  single_kept r a = record {
    joined = λ m i b j e f. elim (cases_eq m c) [
      | inl t ↦ absurd (let z : None ≡ Some (b, j) = sym (q.alone i) ∙ ap (λ y. partner_at v y i) (sym t) ∙ f in cc)
      | inr d ↦ (
          let f0 : partner_at w m i ≡ Some (b, j) = ap (λ (o : Option WebCell). slice_index_or (partners_of o) i None) (sym (same m d)) ∙ f in
          let z = a.joined m i b j (ap web_kind (sym (same m d)) ∙ e) f0 in
          let n : b ≢ c = λ t. let x : ◌≡◌ {A = Option (ℕ × ℕ)} None (Some (m, i)) = sym (p.alone j) ∙ ap (λ y. partner_at w y j) (sym t) ∙ r.back m i b j f0 in absurd (cc) in
          (z.0, z.1, ap web_kind (same b n) ∙ z.2)
          )
    ];
    ports = λ m e. elim (cases_eq m c) [
      | inl t ↦ ap (arity_at v) t ∙ q.ports (ap (kind_at v) (sym t) ∙ e)
      | inr d ↦ ap (λ (o : Option WebCell). length (partners_of o)) (same m d) ∙ a.ports m (ap web_kind (sym (same m d)) ∙ e)
    ];
    marks = λ m e. elim (cases_eq m c) [
      | inl t ↦ ap (λ y. length (marks_of (v y))) t ∙ q.marks (ap (kind_at v) (sym t) ∙ e)
      | inr d ↦ ap (λ (o : Option WebCell). length (marks_of o)) (same m d) ∙ a.marks m (ap web_kind (sym (same m d)) ∙ e)
    ];
    told = λ m d e z. elim (cases_eq m c) [
      | inl t ↦ d (ap (keeper v) t ∙ own_keeper v c (q.alone 0) ∙ sym t)
      | inr n ↦ a.told m (λ f. d (keepers_at m ∙ f)) (ap web_kind (sym (same m n)) ∙ e) (ap (λ (o : Option WebCell). slice_index_or (marks_of o) 1 0) (sym (same m n)) ∙ z)
    ];
    lent = λ m d k t u. elim (cases_eq m c) [
      | inl e ↦ absurd (d (ap (keeper v) e ∙ own_keeper v c (q.alone 0) ∙ sym e))
      | inr n ↦ (
          let far : keeper w m ≢ c = λ e. n (keepers_differ w r a m c (e ∙ sym (own_keeper w c (p.alone 0)))) in
          let z = a.lent m (λ f. d (keepers_at m ∙ f)) (ap web_kind (sym (same m n)) ∙ k) (ap is_retired (sym (same m n)) ∙ t) (ap is_retired (sym (same (keeper w m) far)) ∙ ap (λ x. is_retired (v x)) (sym (keepers_at m)) ∙ u) in
          elim z [
            | inl e ↦ inl (ap (λ (o : Option WebCell). slice_index_or (marks_of o) 1 0) (same m n) ∙ e)
            | inr e ↦ inr (ap (port_mark v) (keepers_at m) ∙ ap (λ (o : Option WebCell). slice_index_or (marks_of o) 1 0) (same (keeper w m) far) ∙ e)
          ]
          )
    ];
    homeless = λ m t. elim (cases_eq m c) [
      | inl e ↦ absurd (gone m t e)
      | inr n ↦ ap home_of (same m n) ∙ a.homeless m (ap is_retired (sym (same m n)) ∙ t)
    ];
    bare = λ m k t. elim (cases_eq m c) [
      | inl e ↦ absurd (gone m t e)
      | inr n ↦ ap (λ z. cells_in v z k) (keepers_at m) ∙ cells_stay (keeper w m) k ∙ a.bare m k (ap is_retired (sym (same m n)) ∙ t)
    ];
    apart = λ m e. elim (cases_eq m c) [
      | inl t ↦ absurd (let z : None ≡ Some (keeper v m) = sym q.homeless ∙ ap (home_at v) (sym t) ∙ e in cc)
      | inr n ↦ a.apart m (ap home_of (sym (same m n)) ∙ e ∙ ap (λ z. Some z) (keepers_at m))
    ];
  }
    where
      gone : (m : ℕ) → is_retired (v m) ≡ true → m ≡ c → ⊥
      gone m t e = absurd (let z : true ≡ false = sym t ∙ ap (λ y. is_retired (v y)) e ∙ q.there in cc)

-- A new cell
module _ (w : ℕ → Option WebCell) (r : IsPaired w) (a : AreKept w) (c : ℕ) (free : w c ≡ None) where
  was : Plain (w c)
  was = subst Plain (sym free) plain_none

  module _ (new : WebCell) (q : Plain (Some new)) where
    abbrev made : ℕ → Option WebCell
    made = alter w c (λ _. Some new)

    now : Plain (made c)
    now = subst Plain (sym (alter_at w c (λ _. Some new))) q

    others : (y : ℕ) → y ≢ c → made y ≡ w y
    others y d = alter_away w c (λ _. Some new) y d

    -- keepers are kept,
    pub made_kept : AreKept made
    made_kept = single_kept w made c others was now r a

    -- and it is seen
    pub seen_made : (shown : WebCell) → looked_at (keeper w) [] [] (Some new) ≡ Some shown → seen made ≡ alter (seen w) c (λ _. Some shown)
    seen_made shown e = seen_single w made c others was now ∙ (λ i. alter (seen w) c (λ _. looked_at (keeper w) [] [] (alter_at w c (λ _. Some new) i))) ∙ (λ i. alter (seen w) c (λ _. e i))

  -- nothing was seen there
  pub free_seen : seen w c ≡ None
  free_seen = λ i. looked_at (keeper w) (cells_in w (keeper w c) Atom) (cells_in w (keeper w c) Membrane) (free i)

-- A cell that is freed
module _ (w : ℕ → Option WebCell) (r : IsPaired w) (a : AreKept w) (c : ℕ) (loose : IsLoose (seen w) c) where
  -- it is there
  pub loose_there : IsSome (w c) × (is_retired (w c) ≡ false)
  loose_there = seen_there w c loose.there

  -- it stands nowhere
  pub loose_home : home_at w c ≡ None
  loose_home = no_home_under w r a c loose.homeless

  -- its keeper holds nothing
  pub loose_bare : (k : CellKind) → cells_in w (keeper w c) k ≡ []
  loose_bare k = sym (seen_cells w r a c k) ∙ loose.empty k

  -- an atom is joined to nothing
  pub loose_atom : kind_at w c ≡ Atom → (i : ℕ) → partner_at w c i ≡ None
  loose_atom e i = ap (λ (ps : List (Option (ℕ × ℕ))). slice_index_or ps i None) (sym (atom_partners w c e)) ∙ loose.alone i

  -- a membrane whose port isn't joined is joined to nothing
  pub loose_membrane : kind_at w c ≡ Membrane → partner_at w c 0 ≡ None → (i : ℕ) → partner_at w c i ≡ None
  loose_membrane e z i = by (partner_at w c i) refl
    where
      by : (o : Option (ℕ × ℕ)) → partner_at w c i ≡ o → o ≡ None
      by None h = refl
      by (Some p) h = absurd (let j = (a.joined c i p.0 p.1 e h).0 in let x : None ≡ Some p = sym z ∙ ap (partner_at w c) (sym j) ∙ h in cc)

  module _ (alone : (i : ℕ) → partner_at w c i ≡ None) where
    -- what has no partner may be freed as it is
    pub loose_raw : IsLoose w c
    loose_raw = record {
      there = loose_there.0;
      alone = alone;
      homeless = loose_home;
      empty = λ k. ap (λ z. cells_in w z k) (sym (own_keeper w c (alone 0))) ∙ loose_bare k;
    }

    loose_plain : Plain (w c)
    loose_plain = record {
      alone = alone;
      bare = loose_raw.empty;
      homeless = loose_home;
      there = loose_there.1;
      ports = a.ports c;
      marks = a.marks c;
    }

    abbrev freed : ℕ → Option WebCell
    freed = alter w c (λ _. None)

    plain_freed : Plain (freed c)
    plain_freed = subst Plain (sym (alter_at w c (λ _. None))) plain_none

    away_freed : (y : ℕ) → y ≢ c → freed y ≡ w y
    away_freed y d = alter_away w c (λ _. None) y d

    -- keepers are kept,
    pub freed_kept : AreKept freed
    freed_kept = single_kept w freed c away_freed loose_plain plain_freed r a

    -- and it is seen no more
    pub seen_freed : seen freed ≡ alter (seen w) c (λ _. None)
    seen_freed = seen_single w freed c away_freed loose_plain plain_freed ∙ (λ i. alter (seen w) c (λ _. looked_at (keeper w) [] [] (alter_at w c (λ _. None) i)))

-- No cell, and a new one, as calls tell it

-- no cell
pub none_kept : AreKept (λ _. None)
none_kept = record {
  joined = λ m i b j e q. absurd (let z : Atom ≡ Membrane = e in cc);
  ports = λ m e. absurd (let z : Atom ≡ Membrane = e in cc);
  marks = λ m e. absurd (let z : Atom ≡ Membrane = e in cc);
  told = λ m d e z. d refl;
  lent = λ m d k t u. absurd (d refl);
  homeless = λ m t. refl;
  bare = λ m k t. refl;
  apart = λ m e. absurd (let z : ◌≡◌ {A = Option ℕ} None (Some m) = e in cc);
}

pub seen_none : seen (λ _. None) ≡ (λ _. None)
seen_none = refl

module _ (w : ℕ → Option WebCell) (r : IsPaired w) (a : AreKept w) {X E : Type 0} (id : X → ℕ) (label : ℕ) where
  abbrev Made : WebCell → Result X E → (ℕ → Option WebCell) → (ℕ → Option WebCell) → Type 0
  Made new o f v = MatchResult o (λ x. (f (id x) ≡ None) × (v ≡ alter f (id x) (λ _. Some new))) (λ _. v ≡ f)

  made_by : (new shown : WebCell) → Plain (Some new) → ((keep : ℕ → ℕ) → looked_at keep [] [] (Some new) ≡ Some shown) → (o : Result X E) (v : ℕ → Option WebCell) → Made new o w v → AreKept v × Made shown o (seen w) (seen v)
  made_by new shown q e (Ok x) v m = (subst AreKept (sym m.1) (made_kept w r a (id x) m.0 new q), (free_seen w r a (id x) m.0, ap seen m.1 ∙ seen_made w r a (id x) m.0 new q shown (e (keeper w))))
  made_by new shown q e (Err x) v m = (subst AreKept (sym m) a, ap seen m)

  -- an atom,
  pub made_atom : (n : ℕ) (o : Result X E) (v : ℕ → Option WebCell) → Made (new_cell label n Atom) o w v → AreKept v × Made (new_cell label n Atom) o (seen w) (seen v)
  made_atom n o v m = made_by (new_cell label n Atom) (new_cell label n Atom) (plain_atom label n) (λ keep. refl) o v m

  -- or a membrane
  pub made_membrane : (o : Result X E) (v : ℕ → Option WebCell) → Made (new_cell label 1 Membrane) o w v → AreKept v × Made (new_cell label 0 Membrane) o (seen w) (seen v)
  made_membrane o v m = made_by (new_cell label 1 Membrane) (new_cell label 0 Membrane) (plain_membrane label) (λ keep. refl) o v m
