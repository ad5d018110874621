-- Homes and lists change: what is seen of that.
use Rattle.std.proofs.Common.{◌≡◌, ◌≢◌, ◌⊎◌, ℕ, Bool, true, false, cond, List, [], ◌++◌, length, Option, Some, None, IsSome, refl, sym, ap, subst, ◌∙◌, inl, inr}
use Rattle.std.proofs.lemmas.Bool.{cases_eq}
use Rattle.std.specs.Prelude.{slice_index_or}
use Rattle.std.specs.Option.{option_map}
use Rattle.lmn_store_heap.specs.Heap.{alter}
use Rattle.lmn_store_heap.proofs.Listing.{alter_at, alter_away, alter_keeps}
use Rattle.lmn_web.specs.declared.kind.CellKind.{CellKind}
use Rattle.lmn_web.specs.declared.kind.CellKind.TheVariants.{Atom, Membrane}
use Rattle.lmn_web.specs.Webs.{WebCell, web_kind, kind_at, home_of, home_at, partners_of, partner_at, marks_of, cells_of, cells_in, with_home, with_list, relisted, StandOnce, IsPaired}
use Rattle.lmn_web_merging.specs.Keepers.{led_from, keeper, port_mark, retires, is_retired, seen_cell, looked_at, seen, relisted_both, MovesAll}
use Rattle.lmn_web_merging.specs.Moves.{AreKept, with_lists, Relists}
use Rattle.lmn_web_merging.proofs.Seen.{back, keepers_differ, seen_kind, home_seen, home_under}
use Rattle.lmn_web_merging.proofs.Sending.{home_kind, list_kind, home_ports, list_ports, list_home, home_cells, list_at_kind, list_at_other, kind_there}

-- One cell

-- whether a cell is there no more, by its kind and its marks
pub retired_by : (o : Option WebCell) → is_retired o ≡ retires (web_kind o) (marks_of o)
retired_by None = refl
retired_by (Some c) = refl

-- another home
pub look_at_home : (keep : ℕ → ℕ) (xs ys : List ℕ) (h : Option ℕ) (o : Option WebCell) → looked_at keep xs ys (option_map (with_home h) o) ≡ option_map (with_home (option_map keep h)) (looked_at keep xs ys o)
look_at_home keep xs ys h None = refl
look_at_home keep xs ys h (Some c) = at (retires c.kind c.marks)
  where
    at : (b : Bool) → cond b None (Some (seen_cell keep xs ys (with_home h c))) ≡ option_map (with_home (option_map keep h)) (cond b None (Some (seen_cell keep xs ys c)))
    at true = refl
    at false = refl

-- Its own lists aren't seen,
pub look_at_list : (keep : ℕ → ℕ) (xs ys : List ℕ) (k : CellKind) (zs : List ℕ) (o : Option WebCell) → looked_at keep xs ys (option_map (with_list k zs) o) ≡ looked_at keep xs ys o
look_at_list keep xs ys k zs None = refl
look_at_list keep xs ys Atom zs (Some c) = refl
look_at_list keep xs ys Membrane zs (Some c) = refl

pub look_at_lists : (keep : ℕ → ℕ) (xs ys zs us : List ℕ) (o : Option WebCell) → looked_at keep xs ys (option_map (with_lists zs us) o) ≡ looked_at keep xs ys o
look_at_lists keep xs ys zs us None = refl
look_at_lists keep xs ys zs us (Some c) = refl

-- but those that it is looked at with.
pub look_with : (keep : ℕ → ℕ) (xs ys zs us : List ℕ) (o : Option WebCell) → looked_at keep zs us o ≡ option_map (with_lists zs us) (looked_at keep xs ys o)
look_with keep xs ys zs us None = refl
look_with keep xs ys zs us (Some c) = at (retires c.kind c.marks)
  where
    at : (b : Bool) → cond b None (Some (seen_cell keep zs us c)) ≡ option_map (with_lists zs us) (cond b None (Some (seen_cell keep xs ys c)))
    at true = refl
    at false = refl

-- an atom list that is looked at with
pub look_with_atoms : (keep : ℕ → ℕ) (xs ys zs : List ℕ) (o : Option WebCell) → looked_at keep zs ys o ≡ option_map (with_list Atom zs) (looked_at keep xs ys o)
look_with_atoms keep xs ys zs None = refl
look_with_atoms keep xs ys zs (Some c) = at (retires c.kind c.marks)
  where
    at : (b : Bool) → cond b None (Some (seen_cell keep zs ys c)) ≡ option_map (with_list Atom zs) (cond b None (Some (seen_cell keep xs ys c)))
    at true = refl
    at false = refl

look_with_mems : (keep : ℕ → ℕ) (xs ys zs : List ℕ) (o : Option WebCell) → looked_at keep xs zs o ≡ option_map (with_list Membrane zs) (looked_at keep xs ys o)
look_with_mems keep xs ys zs None = refl
look_with_mems keep xs ys zs (Some c) = at (retires c.kind c.marks)
  where
    at : (b : Bool) → cond b None (Some (seen_cell keep xs zs c)) ≡ option_map (with_list Membrane zs) (cond b None (Some (seen_cell keep xs ys c)))
    at true = refl
    at false = refl

-- marks stay
pub home_marks : (h : Option ℕ) (o : Option WebCell) → marks_of (option_map (with_home h) o) ≡ marks_of o
home_marks h None = refl
home_marks h (Some c) = refl

-- also where a list is another
pub list_marks : (k : CellKind) (xs : List ℕ) (o : Option WebCell) → marks_of (option_map (with_list k xs) o) ≡ marks_of o
list_marks k xs None = refl
list_marks Atom xs (Some c) = refl
list_marks Membrane xs (Some c) = refl

-- Kinds, ports and marks stay

-- kinds, ports and marks of the cells are the same
pub record StandsAs (w v : ℕ → Option WebCell) : Type 0 where
  pub kinds : (x : ℕ) → kind_at v x ≡ kind_at w x
  pub partners : (x : ℕ) → partners_of (v x) ≡ partners_of (w x)
  pub marks : (x : ℕ) → marks_of (v x) ≡ marks_of (w x)

module _ (w v : ℕ → Option WebCell) (s : StandsAs w v) where
  pub partner_same : (x i : ℕ) → partner_at v x i ≡ partner_at w x i
  partner_same x i = ap (λ (ps : List (Option (ℕ × ℕ))). slice_index_or ps i None) (s.partners x)

  -- then keepers are the same,
  pub keeper_same : (x : ℕ) → keeper v x ≡ keeper w x
  keeper_same x = λ i. led_from (s.kinds x i) x (partner_same x 0 i)

  pub keepers_same : keeper v ≡ keeper w
  keepers_same = λ i x. keeper_same x i

  -- and what is there no more
  pub retired_same : (x : ℕ) → is_retired (v x) ≡ is_retired (w x)
  retired_same x = retired_by (v x) ∙ (λ i. retires (s.kinds x i) (s.marks x i)) ∙ sym (retired_by (w x))

  port_mark_same : (x : ℕ) → port_mark v x ≡ port_mark w x
  port_mark_same x = ap (λ (ms : List ℕ). slice_index_or ms 1 0) (s.marks x)

  -- what is seen with other lists
  pub seen_as : (x : ℕ) (es ms : List ℕ) → cells_in v (keeper w x) Atom ≡ es → cells_in v (keeper w x) Membrane ≡ ms → seen v x ≡ looked_at (keeper w) es ms (v x)
  seen_as x es ms p q = (λ i. looked_at (keepers_same i) (cells_in v (keepers_same i x) Atom) (cells_in v (keepers_same i x) Membrane) (v x)) ∙ (λ i. looked_at (keeper w) (p i) (q i) (v x))

  -- keepers are kept, where homes and lists are as they should be
  pub kept_as : AreKept w → ((x : ℕ) → is_retired (w x) ≡ true → home_at v x ≡ None) → ((x : ℕ) (k : CellKind) → is_retired (w x) ≡ true → cells_in v (keeper w x) k ≡ [])
      → ((x : ℕ) → home_at v x ≢ Some (keeper w x)) → AreKept v
  kept_as a homes lists apart = record {
    joined = λ m i b j e q. let z = a.joined m i b j (sym (s.kinds m) ∙ e) (sym (partner_same m i) ∙ q) in (z.0, z.1, s.kinds b ∙ z.2);
    ports = λ m e. ap (λ (ps : List (Option (ℕ × ℕ))). length ps) (s.partners m) ∙ a.ports m (sym (s.kinds m) ∙ e);
    marks = λ m e. ap (λ (ms : List ℕ). length ms) (s.marks m) ∙ a.marks m (sym (s.kinds m) ∙ e);
    told = λ m d e z. a.told m (λ q. d (keeper_same m ∙ q)) (sym (s.kinds m) ∙ e) (sym (port_mark_same m) ∙ z);
    lent = λ m d e t u.
        let z = a.lent m (λ q. d (keeper_same m ∙ q)) (sym (s.kinds m) ∙ e) (sym (retired_same m) ∙ t) (sym (retired_same (keeper w m)) ∙ ap (λ x. is_retired (v x)) (sym (keeper_same m)) ∙ u) in
        elim z [ inl e ↦ inl (port_mark_same m ∙ e) | inr e ↦ inr (ap (port_mark v) (keeper_same m) ∙ port_mark_same (keeper w m) ∙ e) ];
    homeless = λ m t. homes m (sym (retired_same m) ∙ t);
    bare = λ m k t. ap (λ z. cells_in v z k) (keeper_same m) ∙ lists m k (sym (retired_same m) ∙ t);
    apart = λ m e. apart m (e ∙ ap (λ z. Some z) (keeper_same m));
  }

-- One cell has another home, and one list is another

module _ (w : ℕ → Option WebCell) (r : IsPaired w) (a : AreKept w) (m x : ℕ) (h : Option ℕ) (xs : List ℕ) (apart : x ≢ m) (there : is_retired (w x) ≡ false) (membrane : IsSome (w (keeper w m))) where
  abbrev M : ℕ
  M = keeper w m

  abbrev k : CellKind
  k = kind_at w x

  abbrev u : ℕ → Option WebCell
  u = alter w x (option_map (with_home h))

  abbrev v : ℕ → Option WebCell
  v = relisted w M x h xs

  -- what neither homes nor lists change
  frame : {X : Type 0} (f : Option WebCell → X) → ((g : Option ℕ) (o : Option WebCell) → f (option_map (with_home g) o) ≡ f o) → ((j : CellKind) (zs : List ℕ) (o : Option WebCell) → f (option_map (with_list j zs) o) ≡ f o) → (y : ℕ) → f (v y) ≡ f (w y)
  frame f p q y = alter_keeps u M (option_map (with_list k xs)) f (q k xs) y ∙ alter_keeps w x (option_map (with_home h)) f (p h) y

  pub relisted_stands : StandsAs w v
  relisted_stands = record {
    kinds = frame web_kind home_kind list_kind;
    partners = frame partners_of home_ports list_ports;
    marks = frame marks_of home_marks list_marks;
  }

  lists_away : (z : ℕ) (j : CellKind) → (z ≡ M → j ≡ k → ⊥) → cells_in v z j ≡ cells_in w z j
  lists_away z j d = elim (cases_eq z M) [
    | inl e ↦ subst (λ y. cells_in v y j ≡ cells_in w y j) (sym e) (ap (λ (o : Option WebCell). cells_of o j) (alter_at u M (option_map (with_list k xs))) ∙ list_at_other k xs (u M) j (d e) ∙ at M)
    | inr n ↦ ap (λ (o : Option WebCell). cells_of o j) (alter_away u M (option_map (with_list k xs)) z n) ∙ at z
  ]
    where
      at : (y : ℕ) → cells_in u y j ≡ cells_in w y j
      at y = alter_keeps w x (option_map (with_home h)) (λ (o : Option WebCell). cells_of o j) (λ o. home_cells h o j) y

  u_there : IsSome (u M)
  u_there = elim (cases_eq M x) [
    | inl e ↦ subst (λ z. IsSome (u z)) (sym e) (subst (λ (q : Option WebCell). IsSome q) (sym (alter_at w x (option_map (with_home h)))) (some (w x) (subst (λ z. IsSome (w z)) e membrane)))
    | inr d ↦ subst (λ (q : Option WebCell). IsSome q) (sym (alter_away w x (option_map (with_home h)) M d)) membrane
  ]
    where
      some : (o : Option WebCell) → IsSome o → IsSome (option_map (with_home h) o)
      some None s = absurd (cc)
      some (Some c) s = refl

  list_here : cells_in v M k ≡ xs
  list_here = ap (λ (o : Option WebCell). cells_of o k) (alter_at u M (option_map (with_list k xs))) ∙ list_at_kind k xs (u M) u_there

  look : (es ms : List ℕ) (y : ℕ) → looked_at (keeper w) es ms (v y) ≡ looked_at (keeper w) es ms (u y)
  look es ms y = alter_keeps u M (option_map (with_list k xs)) (looked_at (keeper w) es ms) (look_at_list (keeper w) es ms k xs) y

  -- a cell other than m has the lists that it had
  away : (y : ℕ) → y ≢ m → seen v y ≡ looked_at (keeper w) (cells_in w (keeper w y) Atom) (cells_in w (keeper w y) Membrane) (u y)
  away y d =
      let n : keeper w y ≢ M = λ e. d (keepers_differ w r a y m e) in
      seen_as w v relisted_stands y (cells_in w (keeper w y) Atom) (cells_in w (keeper w y) Membrane) (lists_away (keeper w y) Atom (λ e _. n e)) (lists_away (keeper w y) Membrane (λ e _. n e)) ∙ look (cells_in w (keeper w y) Atom) (cells_in w (keeper w y) Membrane) y

  abbrev S : ℕ → Option WebCell
  S = seen w

  abbrev g : Option ℕ
  g = option_map (keeper w) h

  abbrev T : ℕ → Option WebCell
  T = alter S x (option_map (with_home g))

  at_m : seen v m ≡ option_map (with_list k xs) (S m)
  at_m = by k refl
    where
      u_m : u m ≡ w m
      u_m = alter_away w x (option_map (with_home h)) m (λ e. apart (sym e))

      by : (j : CellKind) → k ≡ j → seen v m ≡ option_map (with_list j xs) (S m)
      by Atom e =
          seen_as w v relisted_stands m xs (cells_in w M Membrane) (ap (λ i. cells_in v M i) (sym e) ∙ list_here) (lists_away M Membrane (λ _ q. let z : Membrane ≡ Atom = q ∙ e in absurd (cc)))
          ∙ look xs (cells_in w M Membrane) m ∙ ap (looked_at (keeper w) xs (cells_in w M Membrane)) u_m ∙ look_with_atoms (keeper w) (cells_in w M Atom) (cells_in w M Membrane) xs (w m)
      by Membrane e =
          seen_as w v relisted_stands m (cells_in w M Atom) xs (lists_away M Atom (λ _ q. let z : Atom ≡ Membrane = q ∙ e in absurd (cc))) (ap (λ i. cells_in v M i) (sym e) ∙ list_here)
          ∙ look (cells_in w M Atom) xs m ∙ ap (looked_at (keeper w) (cells_in w M Atom) xs) u_m ∙ look_with_mems (keeper w) (cells_in w M Atom) (cells_in w M Membrane) xs (w m)

  -- the same is seen to change
  pub seen_relisted : seen v ≡ relisted (seen w) m x (option_map (keeper w) h) xs
  seen_relisted = λ i y. point y i
    where
      R : (y : ℕ) → y ≢ m → relisted S m x g xs y ≡ T y
      R y d = alter_away T m (option_map (with_list (kind_at S x) xs)) y d

      point : (y : ℕ) → seen v y ≡ relisted S m x g xs y
      point y = elim (cases_eq y m) [
        | inl e ↦ subst (λ z. seen v z ≡ relisted S m x g xs z) (sym e)
            (at_m ∙ (λ i. option_map (with_list (sym (seen_kind w x there) i) xs) (S m)) ∙ sym (alter_at T m (option_map (with_list (kind_at S x) xs)) ∙ ap (option_map (with_list (kind_at S x) xs)) (alter_away S x (option_map (with_home g)) m (λ q. apart (sym q)))))
        | inr d ↦ elim (cases_eq y x) [
          | inl e ↦ subst (λ z. seen v z ≡ relisted S m x g xs z) (sym e)
              (away x apart ∙ ap (looked_at (keeper w) (cells_in w (keeper w x) Atom) (cells_in w (keeper w x) Membrane)) (alter_at w x (option_map (with_home h)))
              ∙ look_at_home (keeper w) (cells_in w (keeper w x) Atom) (cells_in w (keeper w x) Membrane) h (w x) ∙ sym (R x apart ∙ alter_at S x (option_map (with_home g))))
          | inr n ↦ away y d ∙ ap (looked_at (keeper w) (cells_in w (keeper w y) Atom) (cells_in w (keeper w y) Membrane)) (alter_away w x (option_map (with_home h)) y n) ∙ sym (R y d ∙ alter_away S x (option_map (with_home g)) y n)
        ]
      ]

  -- and keepers are kept
  pub relisted_kept : is_retired (w m) ≡ false → h ≢ Some (keeper w x) → AreKept v
  relisted_kept seen_m new = kept_as w v relisted_stands a
      (λ y t. elim (cases_eq y x) [ inl e ↦ absurd (let z : true ≡ false = sym (subst (λ z. is_retired (w z) ≡ true) e t) ∙ there in cc) | inr d ↦ home_away y d ∙ a.homeless y t ])
      (λ y j t. lists_away (keeper w y) j (λ e _. let q = keepers_differ w r a y m e in let z : true ≡ false = sym (subst (λ z. is_retired (w z) ≡ true) q t) ∙ seen_m in absurd (cc)) ∙ a.bare y j t)
      (λ y e. elim (cases_eq y x) [ inl q ↦ new (home_here (keeper w x) (ap (home_at v) (sym q) ∙ e ∙ ap (λ z. Some (keeper w z)) q)) | inr d ↦ a.apart y (sym (home_away y d) ∙ e) ])
    where
      lists_homes : (y : ℕ) → home_at v y ≡ home_at u y
      lists_homes y = alter_keeps u M (option_map (with_list k xs)) home_of (list_home k xs) y

      home_away : (y : ℕ) → y ≢ x → home_at v y ≡ home_at w y
      home_away y d = lists_homes y ∙ ap home_of (alter_away w x (option_map (with_home h)) y d)

      home_here : (z : ℕ) → home_at v x ≡ Some z → h ≡ Some z
      home_here z e = by (w x) (sym (lists_homes x ∙ ap home_of (alter_at w x (option_map (with_home h)))) ∙ e)
        where
          by : (o : Option WebCell) → home_of (option_map (with_home h) o) ≡ Some z → h ≡ Some z
          by None q = absurd (let f : None ≡ Some z = q in cc)
          by (Some c) q = q

-- All that stands in one membrane stands in another

module _ (w v : ℕ → Option WebCell) (l : StandOnce w) (r : IsPaired w) (a : AreKept w) (m n : ℕ) (xs ys : List ℕ) (outside : home_at w n ≢ Some (keeper w m)) (target : kind_at w (keeper w n) ≡ Membrane)
    (s : Relists w v (keeper w m) (keeper w n) xs ys) where
  abbrev B : ℕ
  B = keeper w m

  abbrev D : ℕ
  D = keeper w n

  lists_home : (zs us : List ℕ) (o : Option WebCell) → home_of (option_map (with_lists zs us) o) ≡ home_of o
  lists_home zs us None = refl
  lists_home zs us (Some c) = refl

  lists_kind : (zs us : List ℕ) (o : Option WebCell) → web_kind (option_map (with_lists zs us) o) ≡ web_kind o
  lists_kind zs us None = refl
  lists_kind zs us (Some c) = refl

  lists_ports : (zs us : List ℕ) (o : Option WebCell) → partners_of (option_map (with_lists zs us) o) ≡ partners_of o
  lists_ports zs us None = refl
  lists_ports zs us (Some c) = refl

  lists_marks : (zs us : List ℕ) (o : Option WebCell) → marks_of (option_map (with_lists zs us) o) ≡ marks_of o
  lists_marks zs us None = refl
  lists_marks zs us (Some c) = refl

  stands_there : (x : ℕ) → (home_at w x ≡ Some B) ⊎ (home_at w x ≢ Some B)
  stands_there x = by (home_at w x)
    where
      by : (o : Option ℕ) → (o ≡ Some B) ⊎ (o ≢ Some B)
      by None = inr (λ e. absurd (cc))
      by (Some h) = elim (cases_eq h B) [ inl e ↦ inl (ap (λ z. Some z) e) | inr d ↦ inr (λ e. d (let z : Some h ≡ Some B = e in cc)) ]

  both_frame : {X : Type 0} (f : Option WebCell → X) → ((h : Option ℕ) (o : Option WebCell) → f (option_map (with_home h) o) ≡ f o) → ((zs us : List ℕ) (o : Option WebCell) → f (option_map (with_lists zs us) o) ≡ f o) → (x : ℕ) → f (v x) ≡ f (w x)
  both_frame f p q x = elim (stands_there x) [
    | inl e ↦ ap f (s.moved x e) ∙ p (Some D) (w x)
    | inr d ↦ elim (cases_eq x B) [
      | inl e ↦ subst (λ z. f (v z) ≡ f (w z)) (sym e) (ap f s.source ∙ q [] [] (w B))
      | inr d1 ↦ elim (cases_eq x D) [
        | inl e ↦ subst (λ z. f (v z) ≡ f (w z)) (sym e) (ap f s.target ∙ q xs ys (w D))
        | inr d2 ↦ ap f (s.others x d1 d2 d)
      ]
    ]
  ]

  pub both_stand : StandsAs w v
  both_stand = record {
    kinds = both_frame web_kind home_kind lists_kind;
    partners = both_frame partners_of home_ports lists_ports;
    marks = both_frame marks_of home_marks lists_marks;
  }

  -- what doesn't go has the home that it had
  pub homes_same : (x : ℕ) → home_at w x ≢ Some B → home_at v x ≡ home_at w x
  homes_same x d = elim (cases_eq x B) [
    | inl e ↦ subst (λ z. home_at v z ≡ home_at w z) (sym e) (ap home_of s.source ∙ lists_home [] [] (w B))
    | inr d1 ↦ elim (cases_eq x D) [
      | inl e ↦ subst (λ z. home_at v z ≡ home_at w z) (sym e) (ap home_of s.target ∙ lists_home xs ys (w D))
      | inr d2 ↦ ap home_of (s.others x d1 d2 d)
    ]
  ]

  cells_same : (x : ℕ) (k : CellKind) → x ≢ B → x ≢ D → cells_in v x k ≡ cells_in w x k
  cells_same x k d1 d2 = elim (stands_there x) [
    | inl e ↦ ap (λ (o : Option WebCell). cells_of o k) (s.moved x e) ∙ home_cells (Some D) (w x) k
    | inr d ↦ ap (λ (o : Option WebCell). cells_of o k) (s.others x d1 d2 d)
  ]

  -- nothing is left
  pub none_left : (k : CellKind) → cells_in v B k ≡ []
  none_left k = ap (λ (o : Option WebCell). cells_of o k) s.source ∙ by (w B) k
    where
      by : (o : Option WebCell) (j : CellKind) → cells_of (option_map (with_lists [] []) o) j ≡ []
      by None j = refl
      by (Some c) Atom = refl
      by (Some c) Membrane = refl

  atoms_there : cells_in v D Atom ≡ xs
  atoms_there = ap (λ (o : Option WebCell). cells_of o Atom) s.target ∙ by (w D) (kind_there (w D) target)
    where
      by : (o : Option WebCell) → IsSome o → cells_of (option_map (with_lists xs ys) o) Atom ≡ xs
      by None i = absurd (cc)
      by (Some c) i = refl

  mems_there : cells_in v D Membrane ≡ ys
  mems_there = ap (λ (o : Option WebCell). cells_of o Membrane) s.target ∙ by (w D) (kind_there (w D) target)
    where
      by : (o : Option WebCell) → IsSome o → cells_of (option_map (with_lists xs ys) o) Membrane ≡ ys
      by None i = absurd (cc)
      by (Some c) i = refl

  -- a cell that doesn't go is looked at as before
  look_same : (es ms : List ℕ) (x : ℕ) → home_at w x ≢ Some B → looked_at (keeper w) es ms (v x) ≡ looked_at (keeper w) es ms (w x)
  look_same es ms x d = elim (cases_eq x B) [
    | inl e ↦ subst (λ z. looked_at (keeper w) es ms (v z) ≡ looked_at (keeper w) es ms (w z)) (sym e) (ap (looked_at (keeper w) es ms) s.source ∙ look_at_lists (keeper w) es ms [] [] (w B))
    | inr d1 ↦ elim (cases_eq x D) [
      | inl e ↦ subst (λ z. looked_at (keeper w) es ms (v z) ≡ looked_at (keeper w) es ms (w z)) (sym e) (ap (looked_at (keeper w) es ms) s.target ∙ look_at_lists (keeper w) es ms xs ys (w D))
      | inr d2 ↦ ap (looked_at (keeper w) es ms) (s.others x d1 d2 d)
    ]
  ]

  -- one that is neither m nor n has the lists that it had
  seen_away : (x : ℕ) → x ≢ m → x ≢ n → seen v x ≡ looked_at (keeper w) (cells_in w (keeper w x) Atom) (cells_in w (keeper w x) Membrane) (v x)
  seen_away x d1 d2 =
      let e1 : keeper w x ≢ B = λ e. d1 (keepers_differ w r a x m e) in
      let e2 : keeper w x ≢ D = λ e. d2 (keepers_differ w r a x n e) in
      seen_as w v both_stand x (cells_in w (keeper w x) Atom) (cells_in w (keeper w x) Membrane) (cells_same (keeper w x) Atom e1 e2) (cells_same (keeper w x) Membrane e1 e2)

  not_m : home_at w m ≢ Some B
  not_m = a.apart m

  -- so it is seen to go from the one membrane to the other
  pub seen_relists : Relists (seen w) (seen v) m n xs ys
  seen_relists = record {
    source = seen_as w v both_stand m [] [] (none_left Atom) (none_left Membrane) ∙ look_same [] [] m not_m ∙ look_with (keeper w) (cells_in w B Atom) (cells_in w B Membrane) [] [] (w m);
    target = seen_as w v both_stand n xs ys atoms_there mems_there ∙ look_same xs ys n outside ∙ look_with (keeper w) (cells_in w D Atom) (cells_in w D Membrane) xs ys (w n);
    moved = λ x e.
        let h : home_at w x ≡ Some B = home_under w r a x m e in
        seen_away x (λ q. not_m (ap (home_at w) (sym q) ∙ h)) (λ q. outside (ap (home_at w) (sym q) ∙ h))
        ∙ ap (looked_at (keeper w) (cells_in w (keeper w x) Atom) (cells_in w (keeper w x) Membrane)) (s.moved x h)
        ∙ look_at_home (keeper w) (cells_in w (keeper w x) Atom) (cells_in w (keeper w x) Membrane) (Some D) (w x)
        ∙ ap (λ z. option_map (with_home (Some z)) (seen w x)) (back w r a n);
    others = λ x d1 d2 d. seen_away x d1 d2 ∙ look_same (cells_in w (keeper w x) Atom) (cells_in w (keeper w x) Membrane) x (λ h. d (home_seen w r a x B h ∙ ap (λ z. Some z) (back w r a m)));
  }

  -- and keepers are kept
  pub relists_kept : is_retired (w m) ≡ false → is_retired (w n) ≡ false → AreKept v
  relists_kept tm tn = kept_as w v both_stand a
      (λ x t. homes_same x (λ h. let z : None ≡ Some B = sym (a.homeless x t) ∙ h in absurd (cc)) ∙ a.homeless x t)
      (λ x k t. cells_same (keeper w x) k (not_one x t m tm) (not_one x t n tn) ∙ a.bare x k t)
      (λ x e. elim (stands_there x) [
        | inl h ↦ outside (ap (home_at w) (sym (keepers_differ w r a x n (goes_to x h e))) ∙ h)
        | inr d ↦ a.apart x (sym (homes_same x d) ∙ e)
      ])
    where
      not_one : (x : ℕ) → is_retired (w x) ≡ true → (y : ℕ) → is_retired (w y) ≡ false → keeper w x ≢ keeper w y
      not_one x t y f e = let q = keepers_differ w r a x y e in let z : true ≡ false = sym (subst (λ z. is_retired (w z) ≡ true) q t) ∙ f in absurd (cc)

      goes_to : (x : ℕ) → home_at w x ≡ Some B → home_at v x ≡ Some (keeper w x) → keeper w x ≡ D
      goes_to x h e = by (w x) h (sym (ap home_of (s.moved x h)) ∙ e)
        where
          by : (o : Option WebCell) → home_of o ≡ Some B → home_of (option_map (with_home (Some D)) o) ≡ Some (keeper w x) → keeper w x ≡ D
          by None h e = absurd (let z : None ≡ Some B = h in cc)
          by (Some c) h e = (let z : Some D ≡ Some (keeper w x) = e in cc)

-- All that was seen to go is seen to have moved.
module _ (w v : ℕ → Option WebCell) (m n : ℕ) where
  same_marks : (xs ys : List ℕ) (o : Option WebCell) → option_map (with_lists xs ys) o ≡ option_map (relisted_both (marks_of o) xs ys) o
  same_marks xs ys None = refl
  same_marks xs ys (Some c) = refl

  pub moves_all : Relists w v m n (cells_in w n Atom ++ cells_in w m Atom) (cells_in w n Membrane ++ cells_in w m Membrane) → MovesAll w v m n
  moves_all s = record {
    source_marks = marks_of (w m);
    source_mark = refl;
    source = s.source ∙ same_marks [] [] (w m);
    target_marks = marks_of (w n);
    target_mark = refl;
    target_own = λ e. e;
    target = s.target ∙ same_marks (cells_in w n Atom ++ cells_in w m Atom) (cells_in w n Membrane ++ cells_in w m Membrane) (w n);
    moved = s.moved;
    others = s.others;
  }
