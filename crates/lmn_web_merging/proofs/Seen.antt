-- What is seen of a web: how it is read off the web, and what holds of it.
use Rattle.std.proofs.Common.{◌≡◌, ℕ, ◌==◌, ◌<◌, Bool, true, false, cond, List, [], ◌∷◌, length, Option, Some, None, IsSome, refl, sym, ap, subst, ◌∙◌, inl, inr, arith}
use Rattle.std.specs.Prelude.{slice_index_or}
use Rattle.std.specs.Option.{option_map}
use Rattle.lmn_base.specs.Lists.{In}
use Rattle.lmn_base.proofs.Truth.{bool_cases}
use Rattle.lmn_base.proofs.Numbers.{equal_when}
use Rattle.lmn_store_heap.specs.Lists.{Distinct}
use Rattle.lmn_web.specs.declared.kind.CellKind.{CellKind}
use Rattle.lmn_web.specs.declared.kind.CellKind.TheVariants.{Atom, Membrane}
use Rattle.lmn_web.specs.Webs.{WebCell, web_kind, kind_at, home_of, home_at, partners_of, partner_at, arity_at, marks_of, cells_of, cells_in, web_label, StandOnce, IsPaired}
use Rattle.lmn_web.proofs.ListedLemmas.{kind_cases}
use Rattle.lmn_web_merging.specs.Keepers.{led_from, keeper, port_mark, retires, is_retired, seen_partners, seen_marks, seen_cell, looked_at, seen}
use Rattle.lmn_web_merging.specs.Moves.{AreKept}

-- what is no atom is a membrane
pub not_atom : (k : CellKind) → (k ≡ Atom → ⊥) → k ≡ Membrane
not_atom Atom d = absurd (d refl)
not_atom Membrane d = refl

-- One cell

-- its home
look_home : (keep : ℕ → ℕ) (xs ys : List ℕ) (o : Option WebCell) → (is_retired o ≡ true → home_of o ≡ None) → home_of (looked_at keep xs ys o) ≡ option_map keep (home_of o)
look_home keep xs ys None h = refl
look_home keep xs ys (Some c) h = at (retires c.kind c.marks) refl
  where
    at : (b : Bool) → retires c.kind c.marks ≡ b → home_of (cond b None (Some (seen_cell keep xs ys c))) ≡ option_map keep c.home
    at true e = ap (option_map keep) (sym (h e))
    at false e = refl

abbrev pick : CellKind → List ℕ → List ℕ → List ℕ
pick Atom xs ys = xs
pick Membrane xs ys = ys

-- its lists
look_cells : (keep : ℕ → ℕ) (xs ys : List ℕ) (o : Option WebCell) (k : CellKind) → (o ≡ None → pick k xs ys ≡ []) → (is_retired o ≡ true → pick k xs ys ≡ []) → cells_of (looked_at keep xs ys o) k ≡ pick k xs ys
look_cells keep xs ys None k n h = sym (n refl)
look_cells keep xs ys (Some c) k n h = at (retires c.kind c.marks) refl k h
  where
    at : (b : Bool) → retires c.kind c.marks ≡ b → (j : CellKind) → (retires c.kind c.marks ≡ true → pick j xs ys ≡ []) → cells_of (cond b None (Some (seen_cell keep xs ys c))) j ≡ pick j xs ys
    at true e j q = sym (q e)
    at false e Atom q = refl
    at false e Membrane q = refl

-- one that is there no more isn't seen
pub look_retired : (keep : ℕ → ℕ) (xs ys : List ℕ) (o : Option WebCell) → is_retired o ≡ true → looked_at keep xs ys o ≡ None
look_retired keep xs ys o e = λ i. cond (e i) None (option_map (seen_cell keep xs ys) o)

-- and all else is
pub look_there : (keep : ℕ → ℕ) (xs ys : List ℕ) (o : Option WebCell) → is_retired o ≡ false → looked_at keep xs ys o ≡ option_map (seen_cell keep xs ys) o
look_there keep xs ys o e = λ i. cond (e i) None (option_map (seen_cell keep xs ys) o)

-- what is seen is there, and not there no more
pub look_some : (keep : ℕ → ℕ) (xs ys : List ℕ) (o : Option WebCell) → IsSome (looked_at keep xs ys o) → IsSome o × (is_retired o ≡ false)
look_some keep xs ys None s = absurd (cc)
look_some keep xs ys (Some c) s = at (retires c.kind c.marks) refl s
  where
    at : (b : Bool) → retires c.kind c.marks ≡ b → IsSome (cond b None (Some (seen_cell keep xs ys c))) → IsSome (Some c) × (retires c.kind c.marks ≡ false)
    at true e s = absurd (cc)
    at false e s = (refl, e)

-- an atom is always there
pub atom_stays : (o : Option WebCell) → web_kind o ≡ Atom → is_retired o ≡ false
atom_stays None e = refl
atom_stays (Some c) e = ap (λ k. retires k c.marks) e

map_kind : (keep : ℕ → ℕ) (xs ys : List ℕ) (o : Option WebCell) → web_kind (option_map (seen_cell keep xs ys) o) ≡ web_kind o
map_kind keep xs ys None = refl
map_kind keep xs ys (Some c) = refl

map_label : (keep : ℕ → ℕ) (xs ys : List ℕ) (o : Option WebCell) → option_map (λ (c : WebCell). c.label) (option_map (seen_cell keep xs ys) o) ≡ option_map (λ (c : WebCell). c.label) o
map_label keep xs ys None = refl
map_label keep xs ys (Some c) = refl

map_partners : (keep : ℕ → ℕ) (xs ys : List ℕ) (o : Option WebCell) → partners_of (option_map (seen_cell keep xs ys) o) ≡ seen_partners (web_kind o) (partners_of o)
map_partners keep xs ys None = refl
map_partners keep xs ys (Some c) = refl

map_marks : (keep : ℕ → ℕ) (xs ys : List ℕ) (o : Option WebCell) → web_kind o ≡ Atom → marks_of (option_map (seen_cell keep xs ys) o) ≡ marks_of o
map_marks keep xs ys None e = refl
map_marks keep xs ys (Some c) e = ap (λ k. seen_marks k c.marks) e

-- the first mark is seen as it is
pub first_mark : (k : CellKind) (ms : List ℕ) → slice_index_or (seen_marks k ms) 0 0 ≡ slice_index_or ms 0 0
first_mark Atom ms = refl
first_mark Membrane ms = at (slice_index_or ms 1 0 == 0)
  where
    at : (b : Bool) → slice_index_or (cond b (slice_index_or ms 0 0 ∷ []) ms) 0 0 ≡ slice_index_or ms 0 0
    at true = refl
    at false = refl

-- and that of the port of a membrane
pub second_mark : (ms : List ℕ) → slice_index_or (seen_marks Membrane ms) 1 0 ≡ slice_index_or ms 1 0
second_mark ms = elim (bool_cases (slice_index_or ms 1 0 == 0)) [
  | inl e ↦ (λ i. slice_index_or (cond (e i) (slice_index_or ms 0 0 ∷ []) ms) 1 0) ∙ sym (equal_when (slice_index_or ms 1 0) 0 e)
  | inr e ↦ (λ i. slice_index_or (cond (e i) (slice_index_or ms 0 0 ∷ []) ms) 1 0)
]

map_first : (keep : ℕ → ℕ) (xs ys : List ℕ) (o : Option WebCell) → slice_index_or (marks_of (option_map (seen_cell keep xs ys) o)) 0 0 ≡ slice_index_or (marks_of o) 0 0
map_first keep xs ys None = refl
map_first keep xs ys (Some c) = first_mark c.kind c.marks

map_second : (keep : ℕ → ℕ) (xs ys : List ℕ) (o : Option WebCell) → web_kind o ≡ Membrane → slice_index_or (marks_of (option_map (seen_cell keep xs ys) o)) 1 0 ≡ slice_index_or (marks_of o) 1 0
map_second keep xs ys None e = refl
map_second keep xs ys (Some c) e = (λ i. slice_index_or (seen_marks (e i) c.marks) 1 0) ∙ second_mark c.marks

none_is_atom : (o : Option WebCell) → o ≡ None → web_kind o ≡ Atom
none_is_atom o e = ap web_kind e

-- A web

module _ (w : ℕ → Option WebCell) where
  -- an atom keeps its own
  pub atom_keeper : (x : ℕ) → kind_at w x ≡ Atom → keeper w x ≡ x
  atom_keeper x e = ap (λ k. led_from k x (partner_at w x 0)) e

  -- so does a membrane whose port isn't joined
  pub own_keeper : (x : ℕ) → partner_at w x 0 ≡ None → keeper w x ≡ x
  own_keeper x e = by (kind_at w x)
    where
      by : (k : CellKind) → led_from k x (partner_at w x 0) ≡ x
      by Atom = refl
      by Membrane = ap (led_from Membrane x) e

  -- and another has the keeper to which it is joined
  pub led_keeper : (x : ℕ) (p : ℕ × ℕ) → kind_at w x ≡ Membrane → partner_at w x 0 ≡ Some p → keeper w x ≡ p.0
  led_keeper x p e q = λ i. led_from (e i) x (q i)

  -- what is seen is there
  pub seen_there : (x : ℕ) → IsSome (seen w x) → IsSome (w x) × (is_retired (w x) ≡ false)
  seen_there x s = look_some (keeper w) (cells_in w (keeper w x) Atom) (cells_in w (keeper w x) Membrane) (w x) s

  -- all is seen but what is there no more
  pub is_seen : (x : ℕ) → is_retired (w x) ≡ false → seen w x ≡ option_map (seen_cell (keeper w) (cells_in w (keeper w x) Atom) (cells_in w (keeper w x) Membrane)) (w x)
  is_seen x e = look_there (keeper w) (cells_in w (keeper w x) Atom) (cells_in w (keeper w x) Membrane) (w x) e

  pub not_seen : (x : ℕ) → is_retired (w x) ≡ true → seen w x ≡ None
  not_seen x e = look_retired (keeper w) (cells_in w (keeper w x) Atom) (cells_in w (keeper w x) Membrane) (w x) e

  pub there_seen : (x : ℕ) → IsSome (w x) → is_retired (w x) ≡ false → IsSome (seen w x)
  there_seen x s e = subst (λ (o : Option WebCell). IsSome o) (sym (is_seen x e)) (by (w x) s)
    where
      by : (o : Option WebCell) → IsSome o → IsSome (option_map (seen_cell (keeper w) (cells_in w (keeper w x) Atom) (cells_in w (keeper w x) Membrane)) o)
      by None s = absurd (cc)
      by (Some c) s = refl

  -- its kind
  pub seen_kind : (x : ℕ) → is_retired (w x) ≡ false → kind_at (seen w) x ≡ kind_at w x
  seen_kind x e = ap web_kind (is_seen x e) ∙ map_kind (keeper w) (cells_in w (keeper w x) Atom) (cells_in w (keeper w x) Membrane) (w x)

  -- what is seen as a membrane is one
  pub seen_membrane : (x : ℕ) → kind_at (seen w) x ≡ Membrane → (kind_at w x ≡ Membrane) × (is_retired (w x) ≡ false)
  seen_membrane x e = elim (bool_cases (is_retired (w x))) [
    | inl t ↦ absurd (let z : Atom ≡ Membrane = sym (ap web_kind (not_seen x t)) ∙ e in cc)
    | inr f ↦ (sym (seen_kind x f) ∙ e, f)
  ]

  -- an atom is seen as one
  pub seen_atom : (x : ℕ) → kind_at w x ≡ Atom → is_retired (w x) ≡ false
  seen_atom x e = atom_stays (w x) e

  -- its label
  pub seen_label : (x : ℕ) → is_retired (w x) ≡ false → web_label (seen w) x ≡ web_label w x
  seen_label x e = ap (λ (o : Option WebCell). option_map (λ (c : WebCell). c.label) o) (is_seen x e) ∙ map_label (keeper w) (cells_in w (keeper w x) Atom) (cells_in w (keeper w x) Membrane) (w x)

  -- the ports of an atom
  pub atom_partners : (x : ℕ) → kind_at w x ≡ Atom → partners_of (seen w x) ≡ partners_of (w x)
  atom_partners x e = ap partners_of (is_seen x (seen_atom x e)) ∙ map_partners (keeper w) (cells_in w (keeper w x) Atom) (cells_in w (keeper w x) Membrane) (w x) ∙ ap (λ k. seen_partners k (partners_of (w x))) e

  -- and of a membrane
  pub no_partners : (x : ℕ) → kind_at w x ≡ Membrane → partners_of (seen w x) ≡ []
  no_partners x e = elim (bool_cases (is_retired (w x))) [
    | inl t ↦ ap partners_of (not_seen x t)
    | inr f ↦ ap partners_of (is_seen x f) ∙ map_partners (keeper w) (cells_in w (keeper w x) Atom) (cells_in w (keeper w x) Membrane) (w x) ∙ ap (λ k. seen_partners k (partners_of (w x))) e
  ]

  pub atom_marks : (x : ℕ) → kind_at w x ≡ Atom → marks_of (seen w x) ≡ marks_of (w x)
  atom_marks x e = ap marks_of (is_seen x (seen_atom x e)) ∙ map_marks (keeper w) (cells_in w (keeper w x) Atom) (cells_in w (keeper w x) Membrane) (w x) e

  -- the first mark
  pub seen_first : (x : ℕ) → is_retired (w x) ≡ false → slice_index_or (marks_of (seen w x)) 0 0 ≡ slice_index_or (marks_of (w x)) 0 0
  seen_first x e = ap (λ (o : Option WebCell). slice_index_or (marks_of o) 0 0) (is_seen x e) ∙ map_first (keeper w) (cells_in w (keeper w x) Atom) (cells_in w (keeper w x) Membrane) (w x)

  -- the mark of the port of a membrane
  pub seen_port_mark : (x : ℕ) → kind_at w x ≡ Membrane → is_retired (w x) ≡ false → port_mark (seen w) x ≡ port_mark w x
  seen_port_mark x k e = ap (λ (o : Option WebCell). slice_index_or (marks_of o) 1 0) (is_seen x e) ∙ map_second (keeper w) (cells_in w (keeper w x) Atom) (cells_in w (keeper w x) Membrane) (w x) k

  -- a partner that is seen is one of two atoms
  pub seen_partner : (x i : ℕ) (q : ℕ × ℕ) → partner_at (seen w) x i ≡ Some q → (kind_at w x ≡ Atom) × (partner_at w x i ≡ Some q)
  seen_partner x i q e = elim (kind_cases (kind_at w x) Atom) [
    | inl a ↦ (a, ap (λ (ps : List (Option (ℕ × ℕ))). slice_index_or ps i None) (sym (atom_partners x a)) ∙ e)
    | inr d ↦ absurd (let z : None ≡ Some q = sym (ap (λ (ps : List (Option (ℕ × ℕ))). slice_index_or ps i None) (no_partners x (not_atom (kind_at w x) d))) ∙ e in cc)
  ]

  -- what has a port that is seen is an atom
  pub atom_by_port : (x i : ℕ) → i < arity_at (seen w) x → kind_at w x ≡ Atom
  atom_by_port x i low = elim (kind_cases (kind_at w x) Atom) [
    | inl e ↦ e
    | inr d ↦ absurd (let none = ap (λ (ps : List (Option (ℕ × ℕ))). length ps) (no_partners x (not_atom (kind_at w x) d)) in omega (arith, low, none))
  ]

  module _ (r : IsPaired w) (a : AreKept w) where
    -- The cell that keeps the lists of a cell that keeps those of a membrane is the membrane.
    pub back : (x : ℕ) → keeper w (keeper w x) ≡ x
    back x = by (kind_at w x) refl (partner_at w x 0) refl
      where
        by : (k : CellKind) → kind_at w x ≡ k → (p : Option (ℕ × ℕ)) → partner_at w x 0 ≡ p → keeper w (led_from k x p) ≡ x
        by Atom e p q = atom_keeper x e
        by Membrane e None q = own_keeper x q
        by Membrane e (Some p) q =
            let j = a.joined x 0 p.0 p.1 e q in
            let at : partner_at w p.0 0 ≡ Some (x, 0) = ap (partner_at w p.0) (sym j.1) ∙ r.back x 0 p.0 p.1 q in
            led_keeper p.0 (x, 0) j.2 at

    -- no two have one keeper
    pub keepers_differ : (x y : ℕ) → keeper w x ≡ keeper w y → x ≡ y
    keepers_differ x y e = sym (back x) ∙ ap (keeper w) e ∙ back y

    -- that of a membrane is one
    pub keeper_kind : (x : ℕ) → kind_at w x ≡ Membrane → kind_at w (keeper w x) ≡ Membrane
    keeper_kind x e = by (partner_at w x 0) refl
      where
        by : (p : Option (ℕ × ℕ)) → partner_at w x 0 ≡ p → kind_at w (keeper w x) ≡ Membrane
        by None q = ap (kind_at w) (own_keeper x q) ∙ e
        by (Some p) q = ap (kind_at w) (led_keeper x p e q) ∙ (a.joined x 0 p.0 p.1 e q).2

    -- what stands somewhere is there
    pub homed : (x h : ℕ) → home_at w x ≡ Some h → is_retired (w x) ≡ false
    homed x h e = elim (bool_cases (is_retired (w x))) [
      | inl t ↦ absurd (let z : None ≡ Some h = sym (a.homeless x t) ∙ e in cc)
      | inr f ↦ f
    ]

    -- a home is seen through the keeper
    pub seen_home : (x : ℕ) → home_at (seen w) x ≡ option_map (keeper w) (home_at w x)
    seen_home x = look_home (keeper w) (cells_in w (keeper w x) Atom) (cells_in w (keeper w x) Membrane) (w x) (a.homeless x)

    -- so are lists
    pub seen_cells : (x : ℕ) (k : CellKind) → cells_in (seen w) x k ≡ cells_in w (keeper w x) k
    seen_cells x k = look_cells (keeper w) (cells_in w (keeper w x) Atom) (cells_in w (keeper w x) Membrane) (w x) k
        (λ n. picked k ∙ (λ i. cells_of (w (atom_keeper x (none_is_atom (w x) n) i)) k) ∙ none k n) (λ t. picked k ∙ a.bare x k t) ∙ picked k
      where
        picked : (j : CellKind) → pick j (cells_in w (keeper w x) Atom) (cells_in w (keeper w x) Membrane) ≡ cells_in w (keeper w x) j
        picked Atom = refl
        picked Membrane = refl

        none : (j : CellKind) → w x ≡ None → cells_of (w x) j ≡ []
        none j n = ap (λ (o : Option WebCell). cells_of o j) n

    -- the home of what has one
    pub home_seen : (x h : ℕ) → home_at w x ≡ Some h → home_at (seen w) x ≡ Some (keeper w h)
    home_seen x h e = seen_home x ∙ ap (option_map (keeper w)) e

    -- and the other way
    pub home_under : (x m : ℕ) → home_at (seen w) x ≡ Some m → home_at w x ≡ Some (keeper w m)
    home_under x m e = by (home_at w x) (sym (seen_home x) ∙ e)
      where
        by : (o : Option ℕ) → option_map (keeper w) o ≡ Some m → o ≡ Some (keeper w m)
        by None q = absurd (cc)
        by (Some h) q = (let z : keeper w h ≡ m = cc in ap (λ y. Some y) (sym (back h) ∙ ap (keeper w) z))

    pub no_home_under : (x : ℕ) → home_at (seen w) x ≡ None → home_at w x ≡ None
    no_home_under x e = by (home_at w x) (sym (seen_home x) ∙ e)
      where
        by : (o : Option ℕ) → option_map (keeper w) o ≡ None → o ≡ None
        by None q = refl
        by (Some h) q = absurd (cc)

    -- each cell that is seen stands once
    pub seen_once : StandOnce w → StandOnce (seen w)
    seen_once l = record {
      once = λ m k. subst Distinct (sym (seen_cells m k)) (l.once (keeper w m) k);
      homes = λ m x k i. let h = l.homes (keeper w m) x k (subst (λ us. In x us) (seen_cells m k) i) in
          (home_seen x (keeper w m) h.0 ∙ ap (λ y. Some y) (back m), seen_kind x (homed x (keeper w m) h.0) ∙ h.1, λ e. a.apart x (h.0 ∙ ap (λ z. Some (keeper w z)) (sym e)));
      listed = λ m x e. let h = home_under x m e in
          subst (λ us. In x us) (sym (seen_cells m (kind_at (seen w) x))) (subst (λ k. In x (cells_in w (keeper w m) k)) (sym (seen_kind x (homed x (keeper w m) h))) (l.listed (keeper w m) x h));
      bare = λ m k e. seen_cells m k ∙ elim (bool_cases (is_retired (w m))) [
        | inl t ↦ a.bare m k t
        | inr f ↦ (let e0 = sym (seen_kind m f) ∙ e in ap (λ z. cells_in w z k) (atom_keeper m e0) ∙ l.bare m k e0)
      ];
    }

    -- a partner of an atom is one
    pub partner_kind : (x i b j : ℕ) → kind_at w x ≡ Atom → partner_at w x i ≡ Some (b, j) → kind_at w b ≡ Atom
    partner_kind x i b j e q = elim (kind_cases (kind_at w b) Atom) [
      | inl k ↦ k
      | inr d ↦ absurd (let z : Atom ≡ Membrane = sym e ∙ (a.joined b j x i (not_atom (kind_at w b) d) (r.back x i b j q)).2 in cc)
    ]

    under : (x i : ℕ) → kind_at w x ≡ Atom → partner_at (seen w) x i ≡ partner_at w x i
    under x i e = ap (λ (ps : List (Option (ℕ × ℕ))). slice_index_or ps i None) (atom_partners x e)

    -- ports that are seen are joined two by two
    pub seen_paired : IsPaired (seen w)
    seen_paired = record {
      reaches = λ x i b j e. let s = seen_partner x i (b, j) e in
          subst (λ (ps : List (Option (ℕ × ℕ))). j < length ps) (sym (atom_partners b (partner_kind x i b j s.0 s.1))) (r.reaches x i b j s.1);
      back = λ x i b j e. let s = seen_partner x i (b, j) e in under b j (partner_kind x i b j s.0 s.1) ∙ r.back x i b j s.1;
      apart = λ x i e. r.apart x i (seen_partner x i (x, i) e).1;
    }
