-- The lists of one membrane go over to another.
use Rattle.std.proofs.Common.{◌≡◌, ◌≢◌, ℕ, ◌==◌, Bool, true, false, cond, List, [], ◌++◌, Option, Some, None, refl, sym, ap, subst, ◌∙◌, inl, inr, arith}
use Rattle.std.proofs.lemmas.Bool.{cases_eq}
use Rattle.std.specs.Prelude.{slice_index_or, slice_set}
use Rattle.std.specs.Option.{option_map}
use Rattle.lmn_base.specs.Lists.{In}
use Rattle.lmn_base.proofs.Lists.{link_within}
use Rattle.lmn_store_heap.specs.Heap.{alter}
use Rattle.lmn_store_heap.proofs.Listing.{alter_at, alter_away}
use Rattle.lmn_web.specs.declared.kind.CellKind.{CellKind}
use Rattle.lmn_web.specs.declared.kind.CellKind.TheVariants.{Atom, Membrane}
use Rattle.lmn_web.specs.Webs.{WebCell, web_kind, kind_at, home_of, home_at, partners_of, partner_at, marks_of, cells_of, cells_in, with_home, with_partner, with_mark, linked, IsPaired}
use Rattle.lmn_web_merging.specs.Keepers.{led_from, keeper, port_mark, retires, is_retired, LENT, RETIRED, seen_partners, seen_cell, looked_at, seen, relisted_both, MovesAll}
use Rattle.lmn_web_merging.specs.Moves.{AreKept, Trades, Traded, Like, redone}
use Rattle.lmn_web_merging.proofs.Seen.{back, keepers_differ, keeper_kind, own_keeper, led_keeper, seen_cells, home_under, home_seen, not_seen, seen_first, seen_port_mark}
use Rattle.lmn_web_merging.proofs.Relisting.{retired_by}

-- each is like itself,
pub like_same : (o : Option WebCell) → Like o o
like_same None = ([], [], refl)
like_same (Some c) = (c.partners, c.marks, refl)

-- and what is like what is like a third is like that
pub like_twice : (o q s : Option WebCell) → Like o q → Like q s → Like o s
like_twice o q s a b = (a.0, a.1, a.2 ∙ ap (option_map (redone a.0 a.1)) b.2 ∙ by s)
  where
    by : (z : Option WebCell) → option_map (redone a.0 a.1) (option_map (redone b.0 b.1) z) ≡ option_map (redone a.0 a.1) z
    by None = refl
    by (Some c) = refl

-- a port with another partner
pub like_linked : (w : ℕ → Option WebCell) (q i : ℕ) (p : Option (ℕ × ℕ)) (y : ℕ) → Like (linked w q i p y) (w y)
like_linked w q i p y = elim (cases_eq y q) [
  | inl e ↦ subst (λ z. Like (linked w q i p z) (w z)) (sym e) (subst (λ (o : Option WebCell). Like o (w q)) (sym (alter_at w q (option_map (with_partner i p)))) (by (w q)))
  | inr d ↦ subst (λ (o : Option WebCell). Like o (w y)) (sym (alter_away w q (option_map (with_partner i p)) y d)) (like_same (w y))
]
  where
    by : (o : Option WebCell) → Like (option_map (with_partner i p) o) o
    by None = ([], [], refl)
    by (Some c) = (slice_set c.partners i p, c.marks, refl)

-- a cell with another mark
pub like_marked : (w : ℕ → Option WebCell) (q i n : ℕ) (y : ℕ) → Like (alter w q (option_map (with_mark i n)) y) (w y)
like_marked w q i n y = elim (cases_eq y q) [
  | inl e ↦ subst (λ z. Like (alter w q (option_map (with_mark i n)) z) (w z)) (sym e) (subst (λ (o : Option WebCell). Like o (w q)) (sym (alter_at w q (option_map (with_mark i n)))) (by (w q)))
  | inr d ↦ subst (λ (o : Option WebCell). Like o (w y)) (sym (alter_away w q (option_map (with_mark i n)) y d)) (like_same (w y))
]
  where
    by : (o : Option WebCell) → Like (option_map (with_mark i n) o) o
    by None = ([], [], refl)
    by (Some c) = (c.partners, slice_set c.marks i n, refl)

-- What is like has the same kind,
pub like_kind : (o q : Option WebCell) → Like o q → web_kind o ≡ web_kind q
like_kind o q a = ap web_kind a.2 ∙ by q
  where
    by : (z : Option WebCell) → web_kind (option_map (redone a.0 a.1) z) ≡ web_kind z
    by None = refl
    by (Some c) = refl

-- home
pub like_home : (o q : Option WebCell) → Like o q → home_of o ≡ home_of q
like_home o q a = ap home_of a.2 ∙ by q
  where
    by : (z : Option WebCell) → home_of (option_map (redone a.0 a.1) z) ≡ home_of z
    by None = refl
    by (Some c) = refl

-- and lists
pub like_cells : (o q : Option WebCell) → Like o q → (k : CellKind) → cells_of o k ≡ cells_of q k
like_cells o q a k = ap (λ (z : Option WebCell). cells_of z k) a.2 ∙ by q k
  where
    by : (z : Option WebCell) (j : CellKind) → cells_of (option_map (redone a.0 a.1) z) j ≡ cells_of z j
    by None j = refl
    by (Some c) Atom = refl
    by (Some c) Membrane = refl

-- Looked at with another map, a cell differs by its home.
look_kept : (keep old : ℕ → ℕ) (es ms : List ℕ) (o : Option WebCell) (h : Option ℕ) → option_map keep (home_of o) ≡ h → looked_at keep es ms o ≡ option_map (with_home h) (looked_at old es ms o)
look_kept keep old es ms None h e = refl
look_kept keep old es ms (Some c) h e = at (retires c.kind c.marks)
  where
    at : (b : Bool) → cond b None (Some (seen_cell keep es ms c)) ≡ option_map (with_home h) (cond b None (Some (seen_cell old es ms c)))
    at true = refl
    at false = λ i. Some (record (seen_cell keep es ms c) { home = e i })

-- one that has the same home with both is the same
look_alike : (keep old : ℕ → ℕ) (es ms : List ℕ) (o : Option WebCell) → option_map keep (home_of o) ≡ option_map old (home_of o) → looked_at keep es ms o ≡ looked_at old es ms o
look_alike keep old es ms None e = refl
look_alike keep old es ms (Some c) e = at (retires c.kind c.marks)
  where
    at : (b : Bool) → cond b None (Some (seen_cell keep es ms c)) ≡ cond b None (Some (seen_cell old es ms c))
    at true = refl
    at false = λ i. Some (record (seen_cell keep es ms c) { home = e i })

-- what is like, both there, with other lists and marks
look_both : (keep old : ℕ → ℕ) (es ms bs ns : List ℕ) (o q : Option WebCell) → Like q o → is_retired q ≡ false → is_retired o ≡ false → option_map keep (home_of o) ≡ option_map old (home_of o) → web_kind o ≡ Membrane
    → looked_at keep es ms q ≡ option_map (relisted_both (marks_of (looked_at keep es ms q)) es ms) (looked_at old bs ns o)
look_both keep old es ms bs ns o q a tq to e k = by o q a.0 a.1 a.2 tq to e k
  where
    by : (o q : Option WebCell) (ps : List (Option (ℕ × ℕ))) (us : List ℕ) → q ≡ option_map (redone ps us) o → is_retired q ≡ false → is_retired o ≡ false → option_map keep (home_of o) ≡ option_map old (home_of o) → web_kind o ≡ Membrane
        → looked_at keep es ms q ≡ option_map (relisted_both (marks_of (looked_at keep es ms q)) es ms) (looked_at old bs ns o)
    by None q ps us is tq to e k = absurd (cc)
    by (Some c) q ps us is tq to e k =
        let Q : Option WebCell = Some (redone ps us c) in
        let tQ : is_retired Q ≡ false = ap is_retired (sym is) ∙ tq in
        subst (λ (z : Option WebCell). looked_at keep es ms z ≡ option_map (relisted_both (marks_of (looked_at keep es ms z)) es ms) (looked_at old bs ns (Some c))) (sym is)
        (at (is_retired Q) (is_retired (Some c)) tQ to)
      where
        at : (t u : Bool) → t ≡ false → u ≡ false → cond t None (Some (seen_cell keep es ms (redone ps us c))) ≡ option_map (relisted_both (marks_of (cond t None (Some (seen_cell keep es ms (redone ps us c))))) es ms) (cond u None (Some (seen_cell old bs ns c)))
        at true u p r = absurd (cc)
        at false true p r = absurd (cc)
        at false false p r = λ i. Some (record (seen_cell keep es ms (redone ps us c)) { home = e i; partners = unseen i })
          where
            unseen : seen_partners c.kind ps ≡ seen_partners c.kind c.partners
            unseen = (λ i. seen_partners (k i) ps) ∙ sym (λ i. seen_partners (k i) c.partners)

-- whether a membrane is there no more, by the mark of its port
pub retired_mark : (o : Option WebCell) → web_kind o ≡ Membrane → is_retired o ≡ (slice_index_or (marks_of o) 1 0 == RETIRED)
retired_mark o e = retired_by o ∙ ap (λ k. retires k (marks_of o)) e

module _ (w : ℕ → Option WebCell) (r : IsPaired w) (v : ℕ → Option WebCell) (m n : ℕ) (t : Trades w m n) (s : Traded w v m n (keeper w m)) where
  abbrev b : ℕ
  b = keeper w m

  abbrev a : AreKept w
  a = t.kept

  kind_same : (y : ℕ) → kind_at v y ≡ kind_at w y
  kind_same y = like_kind (v y) (w y) (s.like y)

  home_same : (y : ℕ) → home_at v y ≡ home_at w y
  home_same y = like_home (v y) (w y) (s.like y)

  cells_same : (y : ℕ) (k : CellKind) → cells_in v y k ≡ cells_in w y k
  cells_same y k = like_cells (v y) (w y) (s.like y) k

  b_kind : kind_at w b ≡ Membrane
  b_kind = keeper_kind w r a m t.source

  n_not_b : n ≢ b
  n_not_b e = t.apart (sym (back w r a m) ∙ ap (keeper w) (sym e) ∙ own_keeper w n t.alone)

  keeper_n : keeper v n ≡ b
  keeper_n = led_keeper v n (b, 0) (kind_same n ∙ t.target) s.target

  keeper_b : keeper v b ≡ n
  keeper_b = led_keeper v b (n, 0) (kind_same b ∙ b_kind) s.kept

  keeper_m : m ≢ b → keeper v m ≡ m
  keeper_m d = own_keeper v m (s.source d)

  keeper_away : (y : ℕ) → y ≢ m → y ≢ n → y ≢ b → keeper v y ≡ keeper w y
  keeper_away y d1 d2 d3 = ap (λ (o : Option WebCell). led_from (web_kind o) y (slice_index_or (partners_of o) 0 None)) (s.others y d1 d2 d3)

  -- where the keeper of m is another cell, m was freed there
  b_retired : m ≢ b → is_retired (w b) ≡ true
  b_retired d = by (partner_at w m 0) refl
    where
      by : (o : Option (ℕ × ℕ)) → partner_at w m 0 ≡ o → is_retired (w b) ≡ true
      by None e = absurd (d (sym (own_keeper w m e)))
      by (Some p) e =
          let j = (a.joined m 0 p.0 p.1 t.source e).1 in
          let q : p.0 ≡ b = sym (led_keeper w m p t.source e) in
          t.given b (e ∙ (λ i. Some (q i, j i)))

  retired_n : is_retired (v n) ≡ false
  retired_n = retired_mark (v n) (kind_same n ∙ t.target) ∙ ap (λ z. z == RETIRED) s.target_told

  retired_m : is_retired (v m) ≡ false
  retired_m = elim (cases_eq m b) [
    | inl e ↦ retired_mark (v m) (kind_same m ∙ t.source) ∙ ap (λ z. z == RETIRED) (s.source_told e)
    | inr d ↦ retired_mark (v m) (kind_same m ∙ t.source) ∙ ap (λ z. z == RETIRED) (s.source_same d) ∙ sym (retired_mark (w m) t.source) ∙ t.source_there
  ]

  -- the same cells are there no more
  retired_same : (y : ℕ) → is_retired (v y) ≡ is_retired (w y)
  retired_same y = elim (cases_eq y m) [
    | inl e ↦ subst (λ z. is_retired (v z) ≡ is_retired (w z)) (sym e) (retired_m ∙ sym t.source_there)
    | inr d1 ↦ elim (cases_eq y n) [
      | inl e ↦ subst (λ z. is_retired (v z) ≡ is_retired (w z)) (sym e) (retired_n ∙ sym t.target_there)
      | inr d2 ↦ elim (cases_eq y b) [
        | inl e ↦ subst (λ z. is_retired (v z) ≡ is_retired (w z)) (sym e)
            (let d : m ≢ b = λ q. d1 (e ∙ sym q) in retired_mark (v b) (kind_same b ∙ b_kind) ∙ ap (λ z. z == RETIRED) (s.kept_told d) ∙ sym (b_retired d))
        | inr d3 ↦ ap is_retired (s.others y d1 d2 d3)
      ]
    ]
  ]

  -- nothing stands in the cell n, nor in m where that isn't the keeper
  none_in_n : (y : ℕ) → home_at w y ≢ Some n
  none_in_n y e = subst (λ us. In y us) (t.empty (kind_at w y)) (t.once.listed n y e)

  bare_m : m ≢ b → (k : CellKind) → cells_in w m k ≡ []
  bare_m d k = ap (λ z. cells_in w z k) (sym (back w r a m)) ∙ a.bare b k (b_retired d)

  none_in_m : m ≢ b → (y : ℕ) → home_at w y ≢ Some m
  none_in_m d y e = subst (λ us. In y us) (bare_m d (kind_at w y)) (t.once.listed m y e)

  -- homes but the keeper of m are seen as they were
  home_kept : (y : ℕ) → home_at w y ≢ Some b → option_map (keeper v) (home_at w y) ≡ option_map (keeper w) (home_at w y)
  home_kept y d = by (home_at w y) refl
    where
      by : (o : Option ℕ) → home_at w y ≡ o → option_map (keeper v) o ≡ option_map (keeper w) o
      by None e = refl
      by (Some h) e =
          let not_b : h ≢ b = λ q. d (e ∙ ap (λ z. Some z) q) in
          let not_m : h ≢ m = λ q. elim (cases_eq m b) [ inl f ↦ not_b (q ∙ f) | inr f ↦ none_in_m f y (e ∙ ap (λ z. Some z) q) ] in
          ap (λ z. Some z) (keeper_away h not_m (λ q. none_in_n y (e ∙ ap (λ z. Some z) q)) not_b)

  m_home : home_at w m ≢ Some b
  m_home = a.apart m

  one_port : (y i : ℕ) (q : ℕ × ℕ) → kind_at v y ≡ Membrane → partner_at v y i ≡ Some q → i ≡ 0
  one_port y i q e f =
      let z = link_within (partners_of (v y)) i q f in
      let one = s.arity y ∙ a.ports y (sym (kind_same y) ∙ e) in
      omega (arith, z, one)

  -- keepers are kept
  pub traded_kept : AreKept v
  traded_kept = record {
    joined = λ y i c j e q. let zero = one_port y i (c, j) e q in let q0 : partner_at v y 0 ≡ Some (c, j) = ap (partner_at v y) (sym zero) ∙ q in elim (cases_eq y n) [
      | inl f ↦ (let x : Some (b, 0) ≡ Some (c, j) = sym s.target ∙ ap (λ z. partner_at v z 0) (sym f) ∙ q0 in let pair = same_pair x in (zero, sym pair.1, ap (kind_at v) (sym pair.0) ∙ kind_same b ∙ b_kind))
      | inr d2 ↦ elim (cases_eq y b) [
        | inl f ↦ (let x : Some (n, 0) ≡ Some (c, j) = sym s.kept ∙ ap (λ z. partner_at v z 0) (sym f) ∙ q0 in let pair = same_pair x in (zero, sym pair.1, ap (kind_at v) (sym pair.0) ∙ kind_same n ∙ t.target))
        | inr d3 ↦ elim (cases_eq y m) [
          | inl f ↦ absurd (let x : None ≡ Some (c, j) = sym (s.source (λ g. d3 (f ∙ g))) ∙ ap (λ z. partner_at v z 0) (sym f) ∙ q0 in cc)
          | inr d1 ↦ (let z = a.joined y i c j (sym (kind_same y) ∙ e) (ap (λ (o : Option WebCell). slice_index_or (partners_of o) i None) (sym (s.others y d1 d2 d3)) ∙ q) in (z.0, z.1, kind_same c ∙ z.2))
        ]
      ]
    ];
    ports = λ y e. s.arity y ∙ a.ports y (sym (kind_same y) ∙ e);
    marks = λ y e. s.marks y ∙ a.marks y (sym (kind_same y) ∙ e);
    told = λ y d e z. elim (cases_eq y n) [
      | inl f ↦ absurd (let x = sym s.target_told ∙ ap (port_mark v) (sym f) ∙ z in omega (arith, x))
      | inr d2 ↦ elim (cases_eq y b) [
        | inl f ↦ elim (cases_eq m b) [
          | inl g ↦ absurd (let x : LENT ≡ 0 = sym (s.source_told g) ∙ ap (port_mark v) (g ∙ sym f) ∙ z in omega (arith, x))
          | inr g ↦ absurd (let x : RETIRED ≡ 0 = sym (s.kept_told g) ∙ ap (port_mark v) (sym f) ∙ z in omega (arith, x))
        ]
        | inr d3 ↦ elim (cases_eq y m) [
          | inl f ↦ absurd (d (ap (keeper v) f ∙ keeper_m (λ g. d3 (f ∙ g)) ∙ sym f))
          | inr d1 ↦ a.told y (λ g. d (keeper_away y d1 d2 d3 ∙ g)) (sym (kind_same y) ∙ e) (ap (λ (o : Option WebCell). slice_index_or (marks_of o) 1 0) (sym (s.others y d1 d2 d3)) ∙ z)
        ]
      ]
    ];
    lent = λ y d e t u. elim (cases_eq y n) [
      | inl f ↦ elim (cases_eq m b) [
        | inl g ↦ inr (ap (λ z. port_mark v (keeper v z)) f ∙ ap (port_mark v) (keeper_n ∙ sym g) ∙ s.source_told g)
        | inr g ↦ absurd (let z : true ≡ false = sym (b_retired g) ∙ sym (retired_same b) ∙ ap (λ x. is_retired (v x)) (sym keeper_n) ∙ ap (λ x. is_retired (v (keeper v x))) (sym f) ∙ u in cc)
      ]
      | inr d2 ↦ elim (cases_eq y b) [
        | inl f ↦ elim (cases_eq m b) [
          | inl g ↦ inl (ap (port_mark v) (f ∙ sym g) ∙ s.source_told g)
          | inr g ↦ absurd (let z : true ≡ false = sym (b_retired g) ∙ sym (retired_same b) ∙ ap (λ x. is_retired (v x)) (sym f) ∙ t in cc)
        ]
        | inr d3 ↦ elim (cases_eq y m) [
          | inl f ↦ absurd (d (ap (keeper v) f ∙ keeper_m (λ g. d3 (f ∙ g)) ∙ sym f))
          | inr d1 ↦ (let k = keeper_away y d1 d2 d3 in
              let q = a.lent y (λ g. d (k ∙ g)) (sym (kind_same y) ∙ e) (sym (retired_same y) ∙ t) (sym (retired_same (keeper w y)) ∙ ap (λ x. is_retired (v x)) (sym k) ∙ u) in
              elim q [
                | inl z ↦ inl (ap (λ (o : Option WebCell). slice_index_or (marks_of o) 1 0) (s.others y d1 d2 d3) ∙ z)
                | inr z ↦ (let far = other_keeper y d1 d2 d3 in inr (ap (port_mark v) k ∙ ap (λ (o : Option WebCell). slice_index_or (marks_of o) 1 0) (s.others (keeper w y) far.0 far.1 far.2) ∙ z))
              ])
        ]
      ]
    ];
    homeless = λ y u. home_same y ∙ a.homeless y (sym (retired_same y) ∙ u);
    bare = λ y k u. elim (cases_eq y b) [
      | inl f ↦ ap (λ z. cells_in v (keeper v z) k) f ∙ ap (λ z. cells_in v z k) keeper_b ∙ cells_same n k ∙ t.empty k
      | inr d3 ↦ ap (λ z. cells_in v z k) (away y u d3) ∙ cells_same (keeper w y) k ∙ a.bare y k (sym (retired_same y) ∙ u)
    ];
    apart = λ y e. let h : home_at w y ≡ Some (keeper v y) = sym (home_same y) ∙ e in elim (cases_eq y n) [
      | inl f ↦ t.outside (ap (home_at w) (sym f) ∙ h ∙ ap (λ z. Some z) (ap (keeper v) f ∙ keeper_n))
      | inr d2 ↦ elim (cases_eq y b) [
        | inl f ↦ none_in_n y (h ∙ ap (λ z. Some z) (ap (keeper v) f ∙ keeper_b))
        | inr d3 ↦ elim (cases_eq y m) [
          | inl f ↦ none_in_m (λ g. d3 (f ∙ g)) y (h ∙ ap (λ z. Some z) (ap (keeper v) f ∙ keeper_m (λ g. d3 (f ∙ g))))
          | inr d1 ↦ a.apart y (h ∙ ap (λ z. Some z) (keeper_away y d1 d2 d3))
        ]
      ]
    ];
  }
    where
      same_pair : {x y i j : ℕ} → ◌≡◌ {A = Option (ℕ × ℕ)} (Some (x, i)) (Some (y, j)) → (x ≡ y) × (i ≡ j)
      same_pair {x} {y} {i} {j} e = let pair : ◌≡◌ {A = ℕ × ℕ} (x, i) (y, j) = cc in (ap (λ z. z.0) pair, ap (λ z. z.1) pair)

      other_keeper : (y : ℕ) → y ≢ m → y ≢ n → y ≢ b → (keeper w y ≢ m) × (keeper w y ≢ n) × (keeper w y ≢ b)
      other_keeper y d1 d2 d3 = (
        λ g. d3 (keepers_differ w r a y b (g ∙ sym (back w r a m))),
        λ g. d2 (keepers_differ w r a y n (g ∙ sym (own_keeper w n t.alone))),
        λ g. d1 (keepers_differ w r a y m g),
      )

      away : (y : ℕ) → is_retired (v y) ≡ true → y ≢ b → keeper v y ≡ keeper w y
      away y u d3 = keeper_away y (λ f. let z : true ≡ false = sym u ∙ ap (λ x. is_retired (v x)) f ∙ retired_m in absurd (cc)) (λ f. let z : true ≡ false = sym u ∙ ap (λ x. is_retired (v x)) f ∙ retired_n in absurd (cc)) d3

  -- the lists of what m had, and of what n has
  lists_m : (k : CellKind) → cells_in v (keeper v m) k ≡ []
  lists_m k = elim (cases_eq m b) [
    | inl e ↦ ap (λ z. cells_in v (keeper v z) k) e ∙ ap (λ z. cells_in v z k) keeper_b ∙ cells_same n k ∙ t.empty k
    | inr d ↦ ap (λ z. cells_in v z k) (keeper_m d) ∙ cells_same m k ∙ bare_m d k
  ]

  lists_n : (k : CellKind) → cells_in v (keeper v n) k ≡ cells_in (seen w) n k ++ cells_in (seen w) m k
  lists_n k =
      let none : cells_in (seen w) n k ≡ [] = seen_cells w r a n k ∙ ap (λ z. cells_in w z k) (own_keeper w n t.alone) ∙ t.empty k in
      ap (λ z. cells_in v z k) keeper_n ∙ cells_same b k ∙ sym (seen_cells w r a m k) ∙ ap (λ us. us ++ cells_in (seen w) m k) (sym none)

  first_seen : (y : ℕ) → is_retired (v y) ≡ false → is_retired (w y) ≡ false → slice_index_or (marks_of (seen v y)) 0 0 ≡ slice_index_or (marks_of (seen w y)) 0 0
  first_seen y p q = seen_first v y p ∙ s.first y ∙ sym (seen_first w y q)

  -- a membrane with these lists
  seen_with : (y : ℕ) (es ms : List ℕ) → cells_in v (keeper v y) Atom ≡ es → cells_in v (keeper v y) Membrane ≡ ms → is_retired (v y) ≡ false → is_retired (w y) ≡ false → home_at w y ≢ Some b → kind_at w y ≡ Membrane
      → seen v y ≡ option_map (relisted_both (marks_of (seen v y)) es ms) (seen w y)
  seen_with y es ms p q tv tw d k =
      let is : seen v y ≡ looked_at (keeper v) es ms (v y) = λ i. looked_at (keeper v) (p i) (q i) (v y) in
      is ∙ look_both (keeper v) (keeper w) es ms (cells_in w (keeper w y) Atom) (cells_in w (keeper w y) Membrane) (w y) (v y) (s.like y) tv tw (home_kept y d) k
      ∙ (λ i. option_map (relisted_both (marks_of (sym is i)) es ms) (seen w y))

  -- What is neither m nor n nor the keeper is as it was, but for its home.
  away_seen : (y : ℕ) → y ≢ m → y ≢ n → y ≢ b → seen v y ≡ looked_at (keeper v) (cells_in w (keeper w y) Atom) (cells_in w (keeper w y) Membrane) (w y)
  away_seen y d1 d2 d3 =
      let k = keeper_away y d1 d2 d3 in
      (λ i. looked_at (keeper v) (cells_in v (k i) Atom) (cells_in v (k i) Membrane) (s.others y d1 d2 d3 i))
      ∙ (λ i. looked_at (keeper v) (cells_same (keeper w y) Atom i) (cells_same (keeper w y) Membrane i) (w y))

  -- so what stood in m is seen in n
  pub traded_seen : MovesAll (seen w) (seen v) m n
  traded_seen = record {
    source_marks = marks_of (seen v m);
    source_mark = first_seen m retired_m t.source_there;
    source = seen_with m [] [] (lists_m Atom) (lists_m Membrane) retired_m t.source_there m_home t.source;
    target_marks = marks_of (seen v n);
    target_mark = first_seen n retired_n t.target_there;
    target_own = λ e. absurd (let z : 1 ≡ LENT = sym s.target_told ∙ sym (seen_port_mark v n (kind_same n ∙ t.target) retired_n) ∙ e in cc);
    target = seen_with n (cells_in (seen w) n Atom ++ cells_in (seen w) m Atom) (cells_in (seen w) n Membrane ++ cells_in (seen w) m Membrane) (lists_n Atom) (lists_n Membrane) retired_n t.target_there t.outside t.target;
    moved = λ y e.
        let h : home_at w y ≡ Some b = home_under w r a y m e in
        let d1 : y ≢ m = λ f. m_home (ap (home_at w) (sym f) ∙ h) in
        let d2 : y ≢ n = λ f. t.outside (ap (home_at w) (sym f) ∙ h) in
        let d3 : y ≢ b = λ f. elim (cases_eq m b) [ inl g ↦ d1 (f ∙ sym g) | inr g ↦ absurd (let z : None ≡ Some b = sym (a.homeless b (b_retired g)) ∙ ap (home_at w) (sym f) ∙ h in cc) ] in
        away_seen y d1 d2 d3 ∙ look_kept (keeper v) (keeper w) (cells_in w (keeper w y) Atom) (cells_in w (keeper w y) Membrane) (w y) (Some n) (ap (option_map (keeper v)) h ∙ ap (λ z. Some z) keeper_b);
    others = λ y d1 d2 d. elim (cases_eq y b) [
      | inl f ↦ (let g : m ≢ b = λ q. d1 (f ∙ sym q) in
          subst (λ z. seen v z ≡ seen w z) (sym f) (not_seen v b (retired_same b ∙ b_retired g) ∙ sym (not_seen w b (b_retired g))))
      | inr d3 ↦ away_seen y d1 d2 d3 ∙ look_alike (keeper v) (keeper w) (cells_in w (keeper w y) Atom) (cells_in w (keeper w y) Membrane) (w y) (home_kept y (λ h. d (home_seen w r a y b h ∙ ap (λ z. Some z) (back w r a m))))
    ];
  }
