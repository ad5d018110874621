-- All that stands in one membrane goes to another: both lists, either way.
use Rattle.std.proofs.Common.{◌≡◌, ◌≢◌, ◌⊎◌, ℕ, true, false, List, [], ◌++◌, Option, Some, None, IsSome, refl, sym, ap, subst, ◌∙◌, inl, inr}
use Rattle.std.proofs.lemmas.Bool.{cases_eq}
use Rattle.std.specs.Prelude.{slice_index_or}
use Rattle.std.specs.Option.{option_map}
use Rattle.lmn_base.specs.Lists.{In}
use Rattle.lmn_web.specs.declared.kind.CellKind.{CellKind}
use Rattle.lmn_web.specs.declared.kind.CellKind.TheVariants.{Atom, Membrane}
use Rattle.lmn_web.specs.Webs.{WebCell, kind_at, home_of, home_at, partner_at, marks_of, cells_in, cells_of, with_home, with_list, StandOnce, IsPaired}
use Rattle.lmn_web_merging.specs.Keepers.{keeper, port_mark, is_retired, LENT, seen, relisted_both, MovesAll}
use Rattle.lmn_web_merging.specs.Moves.{AreKept, Moves, Relists, with_lists, MayTrade}
use Rattle.lmn_web_merging.proofs.Seen.{back, keepers_differ, keeper_kind, own_keeper, home_seen, homed, seen_kind, seen_port_mark, led_keeper}
use Rattle.lmn_web_merging.proofs.Sending.{list_at_other}
use Rattle.lmn_web_merging.proofs.Relisting.{both_stand, keeper_same, retired_same, partner_same, homes_same, none_left, seen_relists, relists_kept}

-- both lists, one after the other
module _ (w : ℕ → Option WebCell) (l : StandOnce w) (m n : ℕ) (apart : m ≢ n) (outside : home_at w n ≢ Some m) (source : kind_at w m ≡ Membrane) (target : kind_at w n ≡ Membrane)
    (v u : ℕ → Option WebCell) (xs ys : List ℕ) (first : Moves w v m n Atom (cells_in w m Atom) [] xs) where
  -- the membranes of both are as they were
  pub mems_source : cells_in v m Membrane ≡ cells_in w m Membrane
  mems_source = ap (λ (o : Option WebCell). cells_of o Membrane) first.source ∙ list_at_other Atom [] (w m) Membrane (λ e. absurd (cc))

  pub mems_target : cells_in v n Membrane ≡ cells_in w n Membrane
  mems_target = ap (λ (o : Option WebCell). cells_of o Membrane) first.target ∙ list_at_other Atom xs (w n) Membrane (λ e. absurd (cc))

  two_lists : (zs us : List ℕ) (o : Option WebCell) → option_map (with_list Membrane us) (option_map (with_list Atom zs) o) ≡ option_map (with_lists zs us) o
  two_lists zs us None = refl
  two_lists zs us (Some c) = refl

  -- so all has gone
  pub relists_both : Moves v u m n Membrane (cells_in v m Membrane) [] ys → Relists w u m n xs ys
  relists_both second = record {
    source = second.source ∙ ap (option_map (with_list Membrane [])) first.source ∙ two_lists [] [] (w m);
    target = second.target ∙ ap (option_map (with_list Membrane ys)) first.target ∙ two_lists xs ys (w n);
    moved = λ x e. by x e (kind_at w x) refl;
    others = λ x d1 d2 d. second.others x d1 d2 (λ i. d (l.homes m x Membrane (subst (λ us. In x us) mems_source i)).0) ∙ first.others x d1 d2 (λ i. d (l.homes m x Atom i).0);
  }
    where
      differs : (x : ℕ) → home_at w x ≡ Some m → (x ≢ m) × (x ≢ n)
      differs x e = ((l.homes m x (kind_at w x) (l.listed m x e)).2, λ q. outside (ap (home_at w) (sym q) ∙ e))

      by : (x : ℕ) → home_at w x ≡ Some m → (k : CellKind) → kind_at w x ≡ k → u x ≡ option_map (with_home (Some n)) (w x)
      by x e Atom k =
          let i : In x (cells_in w m Atom) = subst (λ j. In x (cells_in w m j)) k (l.listed m x e) in
          let d = differs x e in
          second.others x d.0 d.1 (λ j. absurd (let z : Atom ≡ Membrane = sym k ∙ (l.homes m x Membrane (subst (λ us. In x us) mems_source j)).1 in cc)) ∙ first.moved x i
      by x e Membrane k =
          let i : In x (cells_in w m Membrane) = subst (λ j. In x (cells_in w m j)) k (l.listed m x e) in
          let d = differs x e in
          second.moved x (subst (λ us. In x us) (sym mems_source) i)
          ∙ ap (option_map (with_home (Some n))) (first.others x d.0 d.1 (λ j. absurd (let z : Atom ≡ Membrane = sym (l.homes m x Atom j).1 ∙ k in cc)))

-- What stood in n goes before what stands in m, and then all of that to n.
module _ (w v u : ℕ → Option WebCell) (m n : ℕ) (l : StandOnce w) (outside : home_at w n ≢ Some m) (inside : home_at w m ≢ Some n) (there : IsSome (w n))
    (a : Relists w v n m (cells_in w n Atom ++ cells_in w m Atom) (cells_in w n Membrane ++ cells_in w m Membrane)) (b : MovesAll v u m n) (apart : m ≢ n) where
  marks_lists : (zs us : List ℕ) (o : Option WebCell) → marks_of (option_map (with_lists zs us) o) ≡ marks_of o
  marks_lists zs us None = refl
  marks_lists zs us (Some c) = refl

  relisted_twice : (es zs us ys vs : List ℕ) (o : Option WebCell) → option_map (relisted_both es zs us) (option_map (with_lists ys vs) o) ≡ option_map (relisted_both es zs us) o
  relisted_twice es zs us ys vs None = refl
  relisted_twice es zs us ys vs (Some c) = refl

  home_lists : (zs us : List ℕ) (o : Option WebCell) → home_of (option_map (with_lists zs us) o) ≡ home_of o
  home_lists zs us None = refl
  home_lists zs us (Some c) = refl

  home_twice : (g h : Option ℕ) (o : Option WebCell) → option_map (with_home h) (option_map (with_home g) o) ≡ option_map (with_home h) o
  home_twice g h None = refl
  home_twice g h (Some c) = refl

  same_home : (h : Option ℕ) (o : Option WebCell) → home_of o ≡ h → option_map (with_home h) o ≡ o
  same_home h None e = refl
  same_home h (Some c) e = λ i. Some (record c { home = sym e i })

  no_atoms : (k : CellKind) → cells_in v n k ≡ []
  no_atoms k = ap (λ (o : Option WebCell). cells_of o k) a.source ∙ by (w n) k
    where
      by : (o : Option WebCell) (j : CellKind) → cells_of (option_map (with_lists [] []) o) j ≡ []
      by None j = refl
      by (Some c) Atom = refl
      by (Some c) Membrane = refl

  all_there : (o : Option WebCell) → IsSome o → (xs ys : List ℕ) → (cells_of (option_map (with_lists xs ys) o) Atom ≡ xs) × (cells_of (option_map (with_lists xs ys) o) Membrane ≡ ys)
  all_there None i xs ys = absurd (cc)
  all_there (Some c) i xs ys = (refl, refl)

  -- the home of a cell in v
  stays : (x : ℕ) → home_at w x ≢ Some n → home_at v x ≡ home_at w x
  stays x d = elim (cases_eq x n) [
    | inl e ↦ subst (λ z. home_at v z ≡ home_at w z) (sym e) (ap home_of a.source ∙ home_lists [] [] (w n))
    | inr d1 ↦ elim (cases_eq x m) [
      | inl e ↦ subst (λ z. home_at v z ≡ home_at w z) (sym e) (ap home_of a.target ∙ home_lists (cells_in w n Atom ++ cells_in w m Atom) (cells_in w n Membrane ++ cells_in w m Membrane) (w m))
      | inr d2 ↦ ap home_of (a.others x d1 d2 d)
    ]
  ]

  comes : (x : ℕ) → home_at w x ≡ Some n → home_at v x ≡ Some m
  comes x e = ap home_of (a.moved x e) ∙ by (w x) e
    where
      by : (o : Option WebCell) → home_of o ≡ Some n → home_of (option_map (with_home (Some m)) o) ≡ Some m
      by None e = absurd (let z : None ≡ Some n = e in cc)
      by (Some c) e = refl

  -- it is as if all of m had gone to the ends
  pub merged_all : IsSome (w m) → MovesAll w u m n
  merged_all some =
      let at = all_there (w m) some (cells_in w n Atom ++ cells_in w m Atom) (cells_in w n Membrane ++ cells_in w m Membrane) in
      let atoms : cells_in v n Atom ++ cells_in v m Atom ≡ cells_in w n Atom ++ cells_in w m Atom = (λ i. no_atoms Atom i ++ cells_in v m Atom) ∙ ap (λ (o : Option WebCell). cells_of o Atom) a.target ∙ at.0 in
      let mems : cells_in v n Membrane ++ cells_in v m Membrane ≡ cells_in w n Membrane ++ cells_in w m Membrane = (λ i. no_atoms Membrane i ++ cells_in v m Membrane) ∙ ap (λ (o : Option WebCell). cells_of o Membrane) a.target ∙ at.1 in
      record {
        source_marks = b.source_marks;
        source_mark = b.source_mark ∙ ap (λ (o : Option WebCell). slice_index_or (marks_of o) 0 0) a.target ∙ ap (λ (us : List ℕ). slice_index_or us 0 0) (marks_lists (cells_in w n Atom ++ cells_in w m Atom) (cells_in w n Membrane ++ cells_in w m Membrane) (w m));
        source = b.source ∙ ap (option_map (relisted_both b.source_marks [] [])) a.target ∙ relisted_twice b.source_marks [] [] (cells_in w n Atom ++ cells_in w m Atom) (cells_in w n Membrane ++ cells_in w m Membrane) (w m);
        target_marks = b.target_marks;
        target_mark = b.target_mark ∙ ap (λ (o : Option WebCell). slice_index_or (marks_of o) 0 0) a.source ∙ ap (λ (us : List ℕ). slice_index_or us 0 0) (marks_lists [] [] (w n));
        target_own = λ e. sym (ap (λ (o : Option WebCell). slice_index_or (marks_of o) 1 0) a.source ∙ ap (λ (us : List ℕ). slice_index_or us 1 0) (marks_lists [] [] (w n))) ∙ b.target_own e;
        target = b.target ∙ (λ i. option_map (relisted_both b.target_marks (atoms i) (mems i)) (v n)) ∙ ap (option_map (relisted_both b.target_marks (cells_in w n Atom ++ cells_in w m Atom) (cells_in w n Membrane ++ cells_in w m Membrane))) a.source
            ∙ relisted_twice b.target_marks (cells_in w n Atom ++ cells_in w m Atom) (cells_in w n Membrane ++ cells_in w m Membrane) [] [] (w n);
        moved = λ x e.
            let d : home_at w x ≢ Some n = λ q. apart (let z : Some m ≡ Some n = sym e ∙ q in cc) in
            let x_n : x ≢ n = λ q. outside (ap (home_at w) (sym q) ∙ e) in
            let x_m : x ≢ m = λ q. (l.homes m m (kind_at w m) (l.listed m m (ap (home_at w) (sym q) ∙ e))).2 refl in
            b.moved x (stays x d ∙ e) ∙ ap (option_map (with_home (Some n))) (a.others x x_n x_m d);
        others = λ x d1 d2 d. elim (stands_there x) [
          | inl e ↦ b.moved x (comes x e) ∙ ap (option_map (with_home (Some n))) (a.moved x e) ∙ home_twice (Some m) (Some n) (w x) ∙ same_home (Some n) (w x) e
          | inr e ↦ b.others x d1 d2 (λ q. d (sym (stays x e) ∙ q)) ∙ a.others x d2 d1 e
        ];
      }
    where
      stands_there : (x : ℕ) → (home_at w x ≡ Some n) ⊎ (home_at w x ≢ Some n)
      stands_there x = by (home_at w x)
        where
          by : (o : Option ℕ) → (o ≡ Some n) ⊎ (o ≢ Some n)
          by None = inr (λ e. absurd (cc))
          by (Some h) = elim (cases_eq h n) [ inl e ↦ inl (ap (λ z. Some z) e) | inr d ↦ inr (λ e. d (let z : Some h ≡ Some n = e in cc)) ]

-- what a merge asks
module _ (w : ℕ → Option WebCell) (r : IsPaired w) (a : AreKept w) (m n : ℕ) (km : kind_at w m ≡ Membrane) (tm : is_retired (w m) ≡ false) (kn : kind_at w n ≡ Membrane) (tn : is_retired (w n) ≡ false) (apart : m ≢ n)
    (inside : home_at (seen w) m ≢ Some n) (outside : home_at (seen w) n ≢ Some m) where
  abbrev S : ℕ
  S = keeper w m

  abbrev D : ℕ
  D = keeper w n

  -- the two that keep the lists are two,
  pub keepers_two : S ≢ D
  keepers_two e = apart (keepers_differ w r a m n e)

  -- n doesn't stand in that of m
  pub n_out : home_at w n ≢ Some S
  n_out e = outside (home_seen w r a n S e ∙ ap (λ z. Some z) (back w r a m))

  m_out : home_at w m ≢ Some D
  m_out e = inside (home_seen w r a m D e ∙ ap (λ z. Some z) (back w r a n))

  -- and that of n doesn't stand in that of m
  pub target_out : port_mark (seen w) n ≢ LENT → ((x : ℕ) → home_at (seen w) x ≡ Some m → kind_at (seen w) x ≡ Membrane → port_mark (seen w) x ≢ LENT) → home_at w D ≢ Some S
  target_out own owned e = elim (cases_eq D n) [
    | inl q ↦ n_out (ap (home_at w) (sym q) ∙ e)
    | inr d ↦ (let there = homed w r a D S e in let kd = keeper_kind w r a n kn in elim (a.lent n d kn tn there) [
      | inl z ↦ own (seen_port_mark w n kn tn ∙ z)
      | inr z ↦ owned D (home_seen w r a D S e ∙ ap (λ y. Some y) (back w r a m)) (seen_kind w D there ∙ kd) (seen_port_mark w D kd there ∙ z)
    ])
  ]

  module _ (idle : (keeper w n ≡ n) ⊎ ((k : CellKind) → cells_in w n k ≡ [])) (given : (k : ℕ) → partner_at w m 0 ≡ Some (k, 0) → is_retired (w k) ≡ true) where
    -- the other way round
    pub source_out : home_at w S ≢ Some D
    source_out e = by (partner_at w m 0) refl
      where
        by : (o : Option (ℕ × ℕ)) → partner_at w m 0 ≡ o → ⊥
        by None q = m_out (ap (home_at w) (sym (own_keeper w m q)) ∙ e)
        by (Some p) q =
            let j = (a.joined m 0 p.0 p.1 km q).1 in
            let gone = given p.0 (q ∙ ap (λ i. Some (p.0, i)) j) in
            absurd (let z : None ≡ Some D = sym (a.homeless p.0 gone) ∙ ap (home_at w) (sym (led_keeper w m p km q)) ∙ e in cc)

    module _ (l : StandOnce w) (v : ℕ → Option WebCell) (xs ys : List ℕ) (s : Relists w v D S xs ys) where
      kS : kind_at w S ≡ Membrane
      kS = keeper_kind w r a m km

      -- what stood in n is seen before what stands in m,
      pub fronted : Relists (seen w) (seen v) n m xs ys
      fronted = seen_relists w v l r a n m xs ys m_out kS s

      -- n isn't what keeps the lists of m
      n_not_S : n ≢ S
      n_not_S e = by (partner_at w m 0) refl
        where
          by : (o : Option (ℕ × ℕ)) → partner_at w m 0 ≡ o → ⊥
          by None q = apart (sym (own_keeper w m q) ∙ sym e)
          by (Some p) q =
              let j = (a.joined m 0 p.0 p.1 km q).1 in let at : n ≡ p.0 = e ∙ led_keeper w m p km q in
              absurd (let z : false ≡ true = sym tn ∙ ap (λ y. is_retired (w y)) at ∙ given p.0 (q ∙ ap (λ i. Some (p.0, i)) j) in cc)

      -- its cell keeps nothing then
      nothing : (k : CellKind) → cells_in v n k ≡ []
      nothing k = elim (cases_eq D n) [
        | inl q ↦ ap (λ z. cells_in v z k) (sym q) ∙ none_left w v l r a n m xs ys m_out kS s k
        | inr d ↦ elim idle [
          | inl q ↦ absurd (d q)
          | inr none ↦ ap (λ (o : Option WebCell). cells_of o k) (s.others n (λ q. d (sym q)) n_not_S (a.apart n)) ∙ none k
        ]
      ]

      -- and then the lists may go over
      pub may_go : MayTrade v m n
      may_go =
          let same = both_stand w v l r a n m xs ys m_out kS s in
          record {
            kept = relists_kept w v l r a n m xs ys m_out kS s tn tm;
            source = same.kinds m ∙ km;
            source_there = retired_same w v same m ∙ tm;
            target = same.kinds n ∙ kn;
            target_there = retired_same w v same n ∙ tn;
            apart = apart;
            given = λ k e. retired_same w v same k ∙ given k (sym (partner_same w v same m 0) ∙ e);
            empty = λ k. ap (λ z. cells_in v z k) (keeper_same w v same n) ∙ none_left w v l r a n m xs ys m_out kS s k;
            idle = nothing;
            outside = λ e. n_out (sym (homes_same w v l r a n m xs ys m_out kS s n (a.apart n)) ∙ e ∙ ap (λ z. Some z) (keeper_same w v same m));
          }
