-- Membranes that have keepers are freed, and the atoms of a membrane.
use Rattle.std.proofs.Common.{◌≡◌, ◌≢◌, ℕ, zero, suc, ◌==◌, Bool, true, false, cond, List, [], length, Option, Some, None, IsSome, refl, sym, ap, subst, ◌∙◌, inl, inr, arith, length-set, get_or-set_same}
use Rattle.std.proofs.lemmas.Bool.{cases_eq}
use Rattle.std.specs.Prelude.{slice_index_or}
use Rattle.std.specs.Option.{option_map}
use Rattle.lmn_base.specs.Lists.{In}
use Rattle.lmn_base.proofs.Lists.{link_within}
use Rattle.lmn_store_heap.specs.Heap.{alter}
use Rattle.lmn_store_heap.proofs.Listing.{alter_at, alter_away, alter_keeps}
use Rattle.lmn_store_heap.proofs.Common.{decide_in}
use Rattle.lmn_web.specs.declared.kind.CellKind.{CellKind}
use Rattle.lmn_web.specs.declared.kind.CellKind.TheVariants.{Atom, Membrane}
use Rattle.lmn_web.specs.Webs.{WebCell, web_kind, kind_at, home_of, home_at, partners_of, partner_at, arity_at, marks_of, cells_of, cells_in, with_partner, with_mark, with_list, linked, cleared, parted, StandOnce, IsPaired, IsLoose, WithoutAtoms}
use Rattle.lmn_web_merging.specs.Keepers.{led_from, keeper, port_mark, retires, is_retired, seen_cell, looked_at, seen, RETIRED}
use Rattle.lmn_web_merging.specs.Moves.{AreKept, Like}
use Rattle.lmn_web_merging.proofs.Seen.{keepers_differ, keeper_kind, led_keeper, atom_keeper, seen_cells, not_seen, look_retired}
use Rattle.lmn_web_merging.proofs.Relisting.{retired_by, look_at_list, look_with_atoms}
use Rattle.lmn_web_merging.proofs.Sending.{list_kind, list_ports, list_home, list_at_kind, list_at_other}
use Rattle.lmn_web_merging.proofs.Single.{loose_there, loose_home, loose_bare}
use Rattle.lmn_web_merging.proofs.Writing.{keeps_mark, changed_kept, seen_at}
use Rattle.lmn_web_merging.proofs.Trading.{like_twice, like_linked, like_kind, like_home, like_cells}

mark_ports : (i n : ℕ) (o : Option WebCell) → partners_of (option_map (with_mark i n) o) ≡ partners_of o
mark_ports i n None = refl
mark_ports i n (Some c) = refl

mark_length : (i n : ℕ) (o : Option WebCell) → length (marks_of (option_map (with_mark i n) o)) ≡ length (marks_of o)
mark_length i n None = refl
mark_length i n (Some c) = length-set c.marks i n

-- the mark of a port that was set
pub second_set : (n : ℕ) (o : Option WebCell) → length (marks_of o) ≡ 2 → slice_index_or (marks_of (option_map (with_mark 1 n) o)) 1 0 ≡ n
second_set n None e = absurd (omega (arith, e))
second_set n (Some c) e = get_or-set_same c.marks 1 n 0 (omega (arith, e))

-- A membrane that keeps the lists of another is there no more.
module _ (w : ℕ → Option WebCell) (r : IsPaired w) (a : AreKept w) (c k : ℕ) (e : kind_at w c ≡ Membrane) (p : partner_at w c 0 ≡ Some (k, 0)) (there : is_retired (w k) ≡ false) (loose : IsLoose (seen w) c) where
  abbrev g : WebCell → WebCell
  g = with_mark 1 RETIRED

  abbrev left : ℕ → Option WebCell
  left = alter w c (option_map g)

  told : slice_index_or (marks_of (option_map g (w c))) 1 0 ≡ RETIRED
  told = second_set RETIRED (w c) (a.marks c e)

  told_not : kind_at w c ≡ Membrane → port_mark w c ≢ 0 → slice_index_or (marks_of (option_map g (w c))) 1 0 ≢ 0
  told_not _ _ z = let x : RETIRED ≡ 0 = sym told ∙ z in omega (arith, x)

  told_gone : is_retired (option_map g (w c)) ≡ true
  told_gone = retired_by (option_map g (w c)) ∙ ap (λ j. retires j (marks_of (option_map g (w c)))) ((keeps_mark 1 RETIRED).kind (w c) ∙ e) ∙ ap (λ z. z == RETIRED) told

  -- keepers are kept,
  pub retired_kept : AreKept left
  retired_kept = changed_kept w c g (keeps_mark 1 RETIRED) (λ _. mark_ports 1 RETIRED (w c)) (λ _. mark_length 1 RETIRED (w c)) told_not a (λ y t. elim (cases_eq y c) [
    | inl q ↦ subst (λ z. (home_at w z ≡ None) × ((j : CellKind) → cells_in w (keeper w z) j ≡ [])) (sym q) (loose_home w r a c loose, loose_bare w r a c loose)
    | inr d ↦ (let u = ap is_retired (sym (alter_away w c (option_map g) y d)) ∙ t in (a.homeless y u, λ j. a.bare y j u))
  ]) (λ y t. elim (cases_eq y c) [
    | inl q ↦ absurd (let z : true ≡ false = sym told_gone ∙ ap is_retired (sym (alter_at w c (option_map g))) ∙ ap (λ x. is_retired (left x)) (sym q) ∙ t in cc)
    | inr d ↦ (ap is_retired (sym (alter_away w c (option_map g) y d)) ∙ t, λ _ z. ap (λ (o : Option WebCell). slice_index_or (marks_of o) 1 0) (alter_away w c (option_map g) y d) ∙ z)
  ])

  -- and it is seen no more
  pub seen_retired : seen left ≡ alter (seen w) c (λ _. None)
  seen_retired = λ i y. point y i
    where
      at : (y : ℕ) → seen left y ≡ looked_at (keeper w) (cells_in w (keeper w y) Atom) (cells_in w (keeper w y) Membrane) (left y)
      at y = seen_at w c g (keeps_mark 1 RETIRED) (λ _. mark_ports 1 RETIRED (w c)) (λ _. mark_length 1 RETIRED (w c)) told_not y

      point : (y : ℕ) → seen left y ≡ alter (seen w) c (λ _. None) y
      point y = elim (cases_eq y c) [
        | inl q ↦ subst (λ z. seen left z ≡ alter (seen w) c (λ _. None) z) (sym q)
            (at c ∙ ap (looked_at (keeper w) (cells_in w (keeper w c) Atom) (cells_in w (keeper w c) Membrane)) (alter_at w c (option_map g))
            ∙ look_retired (keeper w) (cells_in w (keeper w c) Atom) (cells_in w (keeper w c) Membrane) (option_map g (w c)) told_gone ∙ sym (alter_at (seen w) c (λ _. None)))
        | inr d ↦ at y ∙ ap (looked_at (keeper w) (cells_in w (keeper w y) Atom) (cells_in w (keeper w y) Membrane)) (alter_away w c (option_map g) y d) ∙ sym (alter_away (seen w) c (λ _. None) y d)
      ]

-- A membrane is freed with its keeper, which is there no more.
module _ (w : ℕ → Option WebCell) (r : IsPaired w) (a : AreKept w) (c k : ℕ) (e : kind_at w c ≡ Membrane) (p : partner_at w c 0 ≡ Some (k, 0)) (gone : is_retired (w k) ≡ true) (loose : IsLoose (seen w) c) where
  keeper_is : keeper w c ≡ k
  keeper_is = led_keeper w c (k, 0) e p

  k_kind : kind_at w k ≡ Membrane
  k_kind = (a.joined c 0 k 0 e p).2

  k_partner : partner_at w k 0 ≡ Some (c, 0)
  k_partner = r.back c 0 k 0 p

  k_keeper : keeper w k ≡ c
  k_keeper = led_keeper w k (c, 0) k_kind k_partner

  -- they are two
  pub two : k ≢ c
  two q = let x : true ≡ false = sym gone ∙ ap (λ z. is_retired (w z)) q ∙ (loose_there w r a c loose).1 in absurd (cc)

  abbrev u : ℕ → Option WebCell
  u = parted w c 0

  abbrev w1 : ℕ → Option WebCell
  w1 = linked w k 0 None

  u_is : u ≡ linked w1 c 0 None
  u_is = ap (λ o. linked (cleared w o) c 0 None) p

  like_u : (y : ℕ) → Like (u y) (w y)
  like_u y = subst (λ (f : ℕ → Option WebCell). Like (f y) (w y)) (sym u_is) (like_twice (linked w1 c 0 None y) (w1 y) (w y) (like_linked w1 c 0 None y) (like_linked w k 0 None y))

  one : (y i : ℕ) → kind_at w y ≡ Membrane → partner_at u y 0 ≡ None → partner_at u y i ≡ None
  one y zero e z = z
  one y (suc i) e z = by (partner_at u y (suc i)) refl
    where
      ports : (f : ℕ → Option WebCell) (q j : ℕ) (o : Option (ℕ × ℕ)) (x : ℕ) → arity_at (linked f q j o) x ≡ arity_at f x
      ports f q j o x = alter_keeps f q (option_map (with_partner j o)) (λ (s : Option WebCell). length (partners_of s)) at x
        where
          at : (s : Option WebCell) → length (partners_of (option_map (with_partner j o) s)) ≡ length (partners_of s)
          at None = refl
          at (Some s) = length-set s.partners j o

      arity : arity_at u y ≡ 1
      arity = ap (λ (f : ℕ → Option WebCell). arity_at f y) u_is ∙ ports w1 c 0 None y ∙ ports w k 0 None y ∙ a.ports y e

      by : (o : Option (ℕ × ℕ)) → partner_at u y (suc i) ≡ o → o ≡ None
      by None h = refl
      by (Some q) h = absurd (let x = link_within (partners_of (u y)) (suc i) q h in omega (arith, x, arity))

  set_at : (f : ℕ → Option WebCell) (q : ℕ) → arity_at f q ≡ 1 → partner_at (linked f q 0 None) q 0 ≡ None
  set_at f q z = ap (λ (s : Option WebCell). slice_index_or (partners_of s) 0 None) (alter_at f q (option_map (with_partner 0 None))) ∙ by (f q) z
    where
      by : (s : Option WebCell) → length (partners_of s) ≡ 1 → slice_index_or (partners_of (option_map (with_partner 0 None) s)) 0 None ≡ None
      by None z = refl
      by (Some s) z = get_or-set_same s.partners 0 None None (omega (arith, z))

  c_alone : partner_at u c 0 ≡ None
  c_alone = ap (λ (f : ℕ → Option WebCell). partner_at f c 0) u_is ∙ set_at w1 c (ap (λ (s : Option WebCell). length (partners_of s)) (alter_away w k (option_map (with_partner 0 None)) c (λ q. two (sym q))) ∙ a.ports c e)

  k_alone : partner_at u k 0 ≡ None
  k_alone = ap (λ (f : ℕ → Option WebCell). partner_at f k 0) u_is ∙ ap (λ (s : Option WebCell). slice_index_or (partners_of s) 0 None) (alter_away w1 c (option_map (with_partner 0 None)) k two) ∙ set_at w k (a.ports k k_kind)

  there_by : (o : Option WebCell) → web_kind o ≡ Membrane → IsSome o
  there_by None z = absurd (cc)
  there_by (Some q) z = refl

  -- the keeper may be freed,
  pub keeper_loose : IsLoose u k
  keeper_loose = record {
    there = there_by (u k) (like_kind (u k) (w k) (like_u k) ∙ k_kind);
    alone = λ i. one k i k_kind k_alone;
    homeless = like_home (u k) (w k) (like_u k) ∙ a.homeless k gone;
    empty = λ j. like_cells (u k) (w k) (like_u k) j ∙ ap (λ z. cells_in w z j) (sym keeper_is) ∙ loose_bare w r a c loose j;
  }

  abbrev u2 : ℕ → Option WebCell
  u2 = alter u k (λ _. None)

  c_there : u2 c ≡ u c
  c_there = alter_away u k (λ _. None) c (λ q. two (sym q))

  -- then the membrane
  pub other_loose : IsLoose u2 c
  other_loose = record {
    there = subst (λ (o : Option WebCell). IsSome o) (sym c_there) (there_by (u c) (like_kind (u c) (w c) (like_u c) ∙ e));
    alone = λ i. ap (λ (s : Option WebCell). slice_index_or (partners_of s) i None) c_there ∙ one c i e c_alone;
    homeless = ap home_of c_there ∙ like_home (u c) (w c) (like_u c) ∙ loose_home w r a c loose;
    empty = λ j. ap (λ (s : Option WebCell). cells_of s j) c_there ∙ like_cells (u c) (w c) (like_u c) j ∙ ap (λ z. cells_in w z j) (sym k_keeper) ∙ a.bare k j gone;
  }

  abbrev rest : ℕ → Option WebCell
  rest = alter u2 c (λ _. None)

  v_c : rest c ≡ None
  v_c = alter_at u2 c (λ _. None)

  v_k : rest k ≡ None
  v_k = alter_away u2 c (λ _. None) k two ∙ alter_at u k (λ _. None)

  v_away : (y : ℕ) → y ≢ c → y ≢ k → rest y ≡ w y
  v_away y d1 d2 = alter_away u2 c (λ _. None) y d1 ∙ alter_away u k (λ _. None) y d2 ∙ ap (λ (f : ℕ → Option WebCell). f y) u_is ∙ alter_away w1 c (option_map (with_partner 0 None)) y d1 ∙ alter_away w k (option_map (with_partner 0 None)) y d2

  none_keeper : (y : ℕ) → rest y ≡ None → keeper rest y ≡ y
  none_keeper y z = atom_keeper rest y (ap web_kind z)

  keeper_away : (y : ℕ) → y ≢ c → y ≢ k → keeper rest y ≡ keeper w y
  keeper_away y d1 d2 = ap (λ (o : Option WebCell). led_from (web_kind o) y (slice_index_or (partners_of o) 0 None)) (v_away y d1 d2)

  -- nothing stood in either
  lists_same : (y : ℕ) (j : CellKind) → cells_in rest y j ≡ cells_in w y j
  lists_same y j = elim (cases_eq y c) [
    | inl q ↦ subst (λ z. cells_in rest z j ≡ cells_in w z j) (sym q) (ap (λ (o : Option WebCell). cells_of o j) v_c ∙ sym (ap (λ z. cells_in w z j) (sym k_keeper) ∙ a.bare k j gone))
    | inr d1 ↦ elim (cases_eq y k) [
      | inl q ↦ subst (λ z. cells_in rest z j ≡ cells_in w z j) (sym q) (ap (λ (o : Option WebCell). cells_of o j) v_k ∙ sym (ap (λ z. cells_in w z j) (sym keeper_is) ∙ loose_bare w r a c loose j))
      | inr d2 ↦ ap (λ (o : Option WebCell). cells_of o j) (v_away y d1 d2)
    ]
  ]

  far : (y : ℕ) → y ≢ c → y ≢ k → (keeper w y ≢ c) × (keeper w y ≢ k)
  far y d1 d2 = (λ q. d2 (keepers_differ w r a y k (q ∙ sym k_keeper)), λ q. d1 (keepers_differ w r a y c (q ∙ sym keeper_is)))

  -- a home is neither of them
  home_away : StandOnce w → (y h : ℕ) → home_at w y ≡ Some h → (h ≢ c) × (h ≢ k)
  home_away l y h z = (
    λ q. subst (λ us. In y us) (ap (λ x. cells_in w x (kind_at w y)) (sym k_keeper) ∙ a.bare k (kind_at w y) gone) (l.listed c y (z ∙ ap (λ x. Some x) q)),
    λ q. subst (λ us. In y us) (ap (λ x. cells_in w x (kind_at w y)) (sym keeper_is) ∙ loose_bare w r a c loose (kind_at w y)) (l.listed k y (z ∙ ap (λ x. Some x) q)),
  )

  -- keepers are kept,
  pub both_kept : AreKept rest
  both_kept = record {
    joined = λ m i b j f q. let d = here m f in
        let q0 : partner_at w m i ≡ Some (b, j) = ap (λ (o : Option WebCell). slice_index_or (partners_of o) i None) (sym (v_away m d.0 d.1)) ∙ q in
        let z = a.joined m i b j (ap web_kind (sym (v_away m d.0 d.1)) ∙ f) q0 in
        let m0 : partner_at w m 0 ≡ Some (b, 0) = ap (partner_at w m) (sym z.0) ∙ q0 ∙ ap (λ x. Some (b, x)) z.1 in
        let at : keeper w m ≡ b = led_keeper w m (b, 0) (ap web_kind (sym (v_away m d.0 d.1)) ∙ f) m0 in
        let n = far m d.0 d.1 in
        (z.0, z.1, ap web_kind (v_away b (λ x. n.0 (at ∙ x)) (λ x. n.1 (at ∙ x))) ∙ z.2);
    ports = λ m f. let d = here m f in ap (λ (o : Option WebCell). length (partners_of o)) (v_away m d.0 d.1) ∙ a.ports m (ap web_kind (sym (v_away m d.0 d.1)) ∙ f);
    marks = λ m f. let d = here m f in ap (λ (o : Option WebCell). length (marks_of o)) (v_away m d.0 d.1) ∙ a.marks m (ap web_kind (sym (v_away m d.0 d.1)) ∙ f);
    told = λ m n f z. let d = here m f in a.told m (λ x. n (keeper_away m d.0 d.1 ∙ x)) (ap web_kind (sym (v_away m d.0 d.1)) ∙ f) (ap (λ (o : Option WebCell). slice_index_or (marks_of o) 1 0) (sym (v_away m d.0 d.1)) ∙ z);
    lent = λ m n f t u. let d = here m f in let e0 = far m d.0 d.1 in let same = v_away (keeper w m) e0.0 e0.1 in
        elim (a.lent m (λ x. n (keeper_away m d.0 d.1 ∙ x)) (ap web_kind (sym (v_away m d.0 d.1)) ∙ f) (ap is_retired (sym (v_away m d.0 d.1)) ∙ t) (ap is_retired (sym same) ∙ ap (λ z. is_retired (rest z)) (sym (keeper_away m d.0 d.1)) ∙ u)) [
          | inl e ↦ inl (ap (λ (o : Option WebCell). slice_index_or (marks_of o) 1 0) (v_away m d.0 d.1) ∙ e)
          | inr e ↦ inr (ap (port_mark rest) (keeper_away m d.0 d.1) ∙ ap (λ (o : Option WebCell). slice_index_or (marks_of o) 1 0) same ∙ e)
        ];
    homeless = λ m t. let d = there m t in ap home_of (v_away m d.0 d.1) ∙ a.homeless m (ap is_retired (sym (v_away m d.0 d.1)) ∙ t);
    bare = λ m j t. let d = there m t in ap (λ z. cells_in rest z j) (keeper_away m d.0 d.1) ∙ lists_same (keeper w m) j ∙ a.bare m j (ap is_retired (sym (v_away m d.0 d.1)) ∙ t);
    apart = λ m f. elim (cases_eq m c) [
      | inl q ↦ absurd (let x : None ≡ Some (keeper rest m) = sym (ap home_of v_c) ∙ ap (home_at rest) (sym q) ∙ f in cc)
      | inr d1 ↦ elim (cases_eq m k) [
        | inl q ↦ absurd (let x : None ≡ Some (keeper rest m) = sym (ap home_of v_k) ∙ ap (home_at rest) (sym q) ∙ f in cc)
        | inr d2 ↦ a.apart m (ap home_of (sym (v_away m d1 d2)) ∙ f ∙ ap (λ z. Some z) (keeper_away m d1 d2))
      ]
    ];
  }
    where
      here : (m : ℕ) → kind_at rest m ≡ Membrane → (m ≢ c) × (m ≢ k)
      here m f = (λ q. absurd (let x : Atom ≡ Membrane = sym (ap web_kind v_c) ∙ ap (kind_at rest) (sym q) ∙ f in cc), λ q. absurd (let x : Atom ≡ Membrane = sym (ap web_kind v_k) ∙ ap (kind_at rest) (sym q) ∙ f in cc))

      there : (m : ℕ) → is_retired (rest m) ≡ true → (m ≢ c) × (m ≢ k)
      there m t = (λ q. absurd (let x : false ≡ true = sym (ap is_retired v_c) ∙ ap (λ z. is_retired (rest z)) (sym q) ∙ t in cc), λ q. absurd (let x : false ≡ true = sym (ap is_retired v_k) ∙ ap (λ z. is_retired (rest z)) (sym q) ∙ t in cc))

  -- and it is seen no more
  pub seen_both : StandOnce w → seen rest ≡ alter (seen w) c (λ _. None)
  seen_both l = λ i y. point y i
    where
      homes : (y : ℕ) → option_map (keeper rest) (home_at w y) ≡ option_map (keeper w) (home_at w y)
      homes y = by (home_at w y) refl
        where
          by : (o : Option ℕ) → home_at w y ≡ o → option_map (keeper rest) o ≡ option_map (keeper w) o
          by None z = refl
          by (Some h) z = let d = home_away l y h z in ap (λ x. Some x) (keeper_away h d.0 d.1)

      alike : (es ms : List ℕ) (o : Option WebCell) → option_map (keeper rest) (home_of o) ≡ option_map (keeper w) (home_of o) → looked_at (keeper rest) es ms o ≡ looked_at (keeper w) es ms o
      alike es ms None z = refl
      alike es ms (Some q) z = at (retires q.kind q.marks)
        where
          at : (b : Bool) → cond b None (Some (seen_cell (keeper rest) es ms q)) ≡ cond b None (Some (seen_cell (keeper w) es ms q))
          at true = refl
          at false = λ i. Some (record (seen_cell (keeper rest) es ms q) { home = z i })

      point : (y : ℕ) → seen rest y ≡ alter (seen w) c (λ _. None) y
      point y = elim (cases_eq y c) [
        | inl q ↦ subst (λ z. seen rest z ≡ alter (seen w) c (λ _. None) z) (sym q) (ap (looked_at (keeper rest) (cells_in rest (keeper rest c) Atom) (cells_in rest (keeper rest c) Membrane)) v_c ∙ sym (alter_at (seen w) c (λ _. None)))
        | inr d1 ↦ elim (cases_eq y k) [
          | inl q ↦ subst (λ z. seen rest z ≡ alter (seen w) c (λ _. None) z) (sym q)
              (ap (looked_at (keeper rest) (cells_in rest (keeper rest k) Atom) (cells_in rest (keeper rest k) Membrane)) v_k ∙ sym (not_seen w k gone) ∙ sym (alter_away (seen w) c (λ _. None) k two))
          | inr d2 ↦ (λ i. looked_at (keeper rest) (cells_in rest (keeper_away y d1 d2 i) Atom) (cells_in rest (keeper_away y d1 d2 i) Membrane) (v_away y d1 d2 i))
              ∙ (λ i. looked_at (keeper rest) (lists_same (keeper w y) Atom i) (lists_same (keeper w y) Membrane i) (w y))
              ∙ alike (cells_in w (keeper w y) Atom) (cells_in w (keeper w y) Membrane) (w y) (homes y) ∙ sym (alter_away (seen w) c (λ _. None) y d1)
        ]
      ]

-- The atoms of a membrane are freed.
module _ (w v : ℕ → Option WebCell) (l : StandOnce w) (r : IsPaired w) (a : AreKept w) (m : ℕ) (e : kind_at w m ≡ Membrane) (s : WithoutAtoms w v (keeper w m)) where
  abbrev M : ℕ
  M = keeper w m

  abbrev own : List ℕ
  own = cells_in w M Atom

  M_kind : kind_at w M ≡ Membrane
  M_kind = keeper_kind w r a m e

  own_atom : (y : ℕ) → In y own → kind_at w y ≡ Atom
  own_atom y i = (l.homes M y Atom i).1

  membrane_stays : (y : ℕ) → kind_at w y ≡ Membrane → In y own → ⊥
  membrane_stays y f i = absurd (let z : Atom ≡ Membrane = sym (own_atom y i) ∙ f in cc)

  -- what stays is as it was, but for a list
  stays : {X : Type 0} (f : Option WebCell → X) → ((o : Option WebCell) → f (option_map (with_list Atom []) o) ≡ f o) → (y : ℕ) → (In y own → ⊥) → f (v y) ≡ f (w y)
  stays f h y d = elim (cases_eq y M) [
    | inl q ↦ subst (λ z. f (v z) ≡ f (w z)) (sym q) (ap f s.home ∙ h (w M))
    | inr n ↦ ap f (s.others y d n)
  ]

  keeper_at : (y : ℕ) → keeper v y ≡ keeper w y
  keeper_at y = elim (decide_in y own) [
    | inl i ↦ atom_keeper v y (ap web_kind (s.gone y i)) ∙ sym (atom_keeper w y (own_atom y i))
    | inr d ↦ (λ i. led_from (stays web_kind (list_kind Atom []) y d i) y (stays (λ (o : Option WebCell). slice_index_or (partners_of o) 0 None) (λ o. ap (λ (ps : List (Option (ℕ × ℕ))). slice_index_or ps 0 None) (list_ports Atom [] o)) y d i))
  ]

  keepers_stay : keeper v ≡ keeper w
  keepers_stay = λ i y. keeper_at y i

  cells_away : (y : ℕ) (j : CellKind) → (y ≡ M → j ≡ Atom → ⊥) → cells_in v y j ≡ cells_in w y j
  cells_away y j n = elim (decide_in y own) [
    | inl i ↦ ap (λ (o : Option WebCell). cells_of o j) (s.gone y i) ∙ sym (l.bare y j (own_atom y i))
    | inr d ↦ elim (cases_eq y M) [
      | inl q ↦ subst (λ z. cells_in v z j ≡ cells_in w z j) (sym q) (ap (λ (o : Option WebCell). cells_of o j) s.home ∙ list_at_other Atom [] (w M) j (n q))
      | inr x ↦ ap (λ (o : Option WebCell). cells_of o j) (s.others y d x)
    ]
  ]

  some : (o : Option WebCell) → web_kind o ≡ Membrane → IsSome o
  some None z = absurd (cc)
  some (Some q) z = refl

  none_left : cells_in v M Atom ≡ []
  none_left = ap (λ (o : Option WebCell). cells_of o Atom) s.home ∙ list_at_kind Atom [] (w M) (some (w M) M_kind)

  seen_at_lists : (y : ℕ) (es ms : List ℕ) → cells_in v (keeper w y) Atom ≡ es → cells_in v (keeper w y) Membrane ≡ ms → seen v y ≡ looked_at (keeper w) es ms (v y)
  seen_at_lists y es ms p q = (λ i. looked_at (keepers_stay i) (cells_in v (keepers_stay i y) Atom) (cells_in v (keepers_stay i y) Membrane) (v y)) ∙ (λ i. looked_at (keeper w) (p i) (q i) (v y))

  other_kind : (j : CellKind) → Membrane ≡ Atom → ⊥
  other_kind j q = absurd (cc)

  retires_list : (o : Option WebCell) → is_retired (option_map (with_list Atom []) o) ≡ is_retired o
  retires_list None = refl
  retires_list (Some q) = refl

  retired_stays : (y : ℕ) → is_retired (v y) ≡ true → (In y own → ⊥) × (is_retired (w y) ≡ true)
  retired_stays y t =
      let d : In y own → ⊥ = λ i. absurd (let z : false ≡ true = sym (ap is_retired (s.gone y i)) ∙ t in cc) in
      (d, sym (stays is_retired retires_list y d) ∙ t)

  there_stays : (y : ℕ) → kind_at v y ≡ Membrane → (In y own → ⊥) × (kind_at w y ≡ Membrane)
  there_stays y f =
      let d : In y own → ⊥ = λ i. absurd (let z : Atom ≡ Membrane = sym (ap web_kind (s.gone y i)) ∙ f in cc) in
      (d, sym (stays web_kind (list_kind Atom []) y d) ∙ f)

  list_marks : (o : Option WebCell) → marks_of (option_map (with_list Atom []) o) ≡ marks_of o
  list_marks None = refl
  list_marks (Some q) = refl

  module _ (there : is_retired (w m) ≡ false) where
    -- keepers are kept,
    pub atoms_freed_kept : AreKept v
    atoms_freed_kept = record {
      joined = λ y i b j f q. let d = there_stays y f in
          let q0 : partner_at w y i ≡ Some (b, j) = sym (stays (λ (o : Option WebCell). slice_index_or (partners_of o) i None) (λ o. ap (λ (ps : List (Option (ℕ × ℕ))). slice_index_or ps i None) (list_ports Atom [] o)) y d.0) ∙ q in
          let z = a.joined y i b j d.1 q0 in (z.0, z.1, stays web_kind (list_kind Atom []) b (membrane_stays b z.2) ∙ z.2);
      ports = λ y f. let d = there_stays y f in stays (λ (o : Option WebCell). length (partners_of o)) (λ o. ap (λ (ps : List (Option (ℕ × ℕ))). length ps) (list_ports Atom [] o)) y d.0 ∙ a.ports y d.1;
      marks = λ y f. let d = there_stays y f in stays (λ (o : Option WebCell). length (marks_of o)) (λ o. ap (λ (ms : List ℕ). length ms) (list_marks o)) y d.0 ∙ a.marks y d.1;
      told = λ y n f z. let d = there_stays y f in a.told y (λ q. n (keeper_at y ∙ q)) d.1 (sym (stays (λ (o : Option WebCell). slice_index_or (marks_of o) 1 0) (λ o. ap (λ (ms : List ℕ). slice_index_or ms 1 0) (list_marks o)) y d.0) ∙ z);
      lent = λ y n f t u. let d = there_stays y f in let kk = keeper_kind w r a y d.1 in let e0 = membrane_stays (keeper w y) kk in
          elim (a.lent y (λ q. n (keeper_at y ∙ q)) d.1 (sym (stays is_retired retires_list y d.0) ∙ t) (sym (stays is_retired retires_list (keeper w y) e0) ∙ ap (λ z. is_retired (v z)) (sym (keeper_at y)) ∙ u)) [
            | inl e ↦ inl (stays (λ (o : Option WebCell). slice_index_or (marks_of o) 1 0) (λ o. ap (λ (ms : List ℕ). slice_index_or ms 1 0) (list_marks o)) y d.0 ∙ e)
            | inr e ↦ inr (ap (port_mark v) (keeper_at y) ∙ stays (λ (o : Option WebCell). slice_index_or (marks_of o) 1 0) (λ o. ap (λ (ms : List ℕ). slice_index_or ms 1 0) (list_marks o)) (keeper w y) e0 ∙ e)
          ];
      homeless = λ y t. let d = retired_stays y t in stays home_of (list_home Atom []) y d.0 ∙ a.homeless y d.1;
      bare = λ y j t. let d = retired_stays y t in
          ap (λ z. cells_in v z j) (keeper_at y) ∙ cells_away (keeper w y) j (λ q _. let x = keepers_differ w r a y m q in let z : true ≡ false = sym d.1 ∙ ap (λ z. is_retired (w z)) x ∙ there in absurd (cc)) ∙ a.bare y j d.1;
      apart = λ y f. elim (decide_in y own) [
        | inl i ↦ absurd (let z : None ≡ Some (keeper v y) = sym (ap home_of (s.gone y i)) ∙ f in cc)
        | inr d ↦ a.apart y (sym (stays home_of (list_home Atom []) y d) ∙ f ∙ ap (λ z. Some z) (keeper_at y))
      ];
    }

  -- and they are seen no more
  pub seen_atoms_freed : WithoutAtoms (seen w) (seen v) m
  seen_atoms_freed = record {
    gone = λ y i. let j : In y own = subst (λ us. In y us) (seen_cells w r a m Atom) i in
        ap (looked_at (keeper v) (cells_in v (keeper v y) Atom) (cells_in v (keeper v y) Membrane)) (s.gone y j);
    others = λ y d n.
        let d0 : In y own → ⊥ = λ i. d (subst (λ us. In y us) (sym (seen_cells w r a m Atom)) i) in
        let far : keeper w y ≢ M = λ q. n (keepers_differ w r a y m q) in
        seen_at_lists y (cells_in w (keeper w y) Atom) (cells_in w (keeper w y) Membrane) (cells_away (keeper w y) Atom (λ q _. far q)) (cells_away (keeper w y) Membrane (λ q _. far q))
        ∙ stays (looked_at (keeper w) (cells_in w (keeper w y) Atom) (cells_in w (keeper w y) Membrane)) (look_at_list (keeper w) (cells_in w (keeper w y) Atom) (cells_in w (keeper w y) Membrane) Atom []) y d0;
    home = seen_at_lists m [] (cells_in w M Membrane) none_left (cells_away M Membrane (λ _. other_kind Atom))
        ∙ stays (looked_at (keeper w) [] (cells_in w M Membrane)) (look_at_list (keeper w) [] (cells_in w M Membrane) Atom []) m (membrane_stays m e) ∙ look_with_atoms (keeper w) (cells_in w M Atom) (cells_in w M Membrane) [] (w m);
  }
