-- A merge whole: what goes one by one, and what goes over.
use Rattle.std.proofs.Common.{◌≡◌, ◌≢◌, ◌⊎◌, ℕ, true, false, List, [], ◌++◌, Option, Some, sym, ap, subst, ◌∙◌}
use Rattle.lmn_web.specs.declared.kind.CellKind.{CellKind}
use Rattle.lmn_web.specs.declared.kind.CellKind.TheVariants.{Atom, Membrane}
use Rattle.lmn_web.specs.Webs.{WebCell, kind_at, home_at, partner_at, cells_in, StandOnce, IsPaired}
use Rattle.lmn_web_merging.specs.Keepers.{keeper, port_mark, is_retired, LENT, seen, MovesAll}
use Rattle.lmn_web_merging.specs.Moves.{AreKept, Moves, Relists, MayTrade}
use Rattle.lmn_web_merging.proofs.Seen.{keeper_kind, seen_cells, seen_once, there_seen}
use Rattle.lmn_web_merging.proofs.Sending.{kind_there}
use Rattle.lmn_web_merging.proofs.Relisting.{seen_relists, relists_kept, moves_all}
use Rattle.lmn_web_merging.proofs.Whole.{mems_source, mems_target, relists_both, merged_all, keepers_two, n_out, target_out, source_out, fronted, may_go}

module _ (w : ℕ → Option WebCell) (l : StandOnce w) (r : IsPaired w) (a : AreKept w) (m n : ℕ) (km : kind_at w m ≡ Membrane) (tm : is_retired (w m) ≡ false) (kn : kind_at w n ≡ Membrane) (tn : is_retired (w n) ≡ false) (apart : m ≢ n)
    (inside : home_at (seen w) m ≢ Some n) (outside : home_at (seen w) n ≢ Some m) (S D : ℕ) (qs : S ≡ keeper w m) (qt : D ≡ keeper w n) where
  -- what keeps the lists of m,
  pub kind_s : kind_at w S ≡ Membrane
  kind_s = ap (kind_at w) qs ∙ keeper_kind w r a m km

  -- and what keeps those of n
  pub kind_d : kind_at w D ≡ Membrane
  kind_d = ap (kind_at w) qt ∙ keeper_kind w r a n kn

  -- they are two
  pub differ : S ≢ D
  differ e = keepers_two w r a m n km tm kn tn apart inside outside (sym qs ∙ e ∙ qt)

  abbrev xs : List ℕ
  xs = cells_in w (keeper w n) Atom ++ cells_in w (keeper w m) Atom

  abbrev ys : List ℕ
  ys = cells_in w (keeper w n) Membrane ++ cells_in w (keeper w m) Membrane

  seen_lists : (X : List ℕ → List ℕ → Type 0) → X xs ys → X (cells_in (seen w) n Atom ++ cells_in (seen w) m Atom) (cells_in (seen w) n Membrane ++ cells_in (seen w) m Membrane)
  seen_lists X x =
      let p : xs ≡ cells_in (seen w) n Atom ++ cells_in (seen w) m Atom = λ i. sym (seen_cells w r a n Atom) i ++ sym (seen_cells w r a m Atom) i in
      let q : ys ≡ cells_in (seen w) n Membrane ++ cells_in (seen w) m Membrane = λ i. sym (seen_cells w r a n Membrane) i ++ sym (seen_cells w r a m Membrane) i in
      subst (λ us. X us (cells_in (seen w) n Membrane ++ cells_in (seen w) m Membrane)) p (subst (λ us. X xs us) q x)

  module _ (own : port_mark (seen w) n ≢ LENT) (owned : (x : ℕ) → home_at (seen w) x ≡ Some m → kind_at (seen w) x ≡ Membrane → port_mark (seen w) x ≢ LENT) where
    -- all may go to the ends,
    pub last_out : home_at w D ≢ Some S
    last_out e = target_out w r a m n km tm kn tn apart inside outside own owned (ap (home_at w) (sym qt) ∙ e ∙ ap (λ z. Some z) qs)

    module _ (v u : ℕ → Option WebCell) (f : Moves w v S D Atom (cells_in w S Atom) [] (cells_in w D Atom ++ cells_in w S Atom)) (g : Moves v u S D Membrane (cells_in v S Membrane) [] (cells_in v D Membrane ++ cells_in v S Membrane)) where
      went : Relists w u (keeper w m) (keeper w n) xs ys
      went =
          let one = relists_both w l S D differ last_out kind_s kind_d v u (cells_in w D Atom ++ cells_in w S Atom) (cells_in v D Membrane ++ cells_in v S Membrane) f g in
          let lists : cells_in v D Membrane ++ cells_in v S Membrane ≡ cells_in w D Membrane ++ cells_in w S Membrane = λ i.
          mems_target w l S D differ last_out kind_s kind_d v u (cells_in w D Atom ++ cells_in w S Atom) (cells_in v D Membrane ++ cells_in v S Membrane) f i
          ++ mems_source w l S D differ last_out kind_s kind_d v u (cells_in w D Atom ++ cells_in w S Atom) (cells_in v D Membrane ++ cells_in v S Membrane) f i in
          subst (λ (p : ℕ × ℕ). Relists w u p.0 p.1 (cells_in w p.1 Atom ++ cells_in w p.0 Atom) (cells_in w p.1 Membrane ++ cells_in w p.0 Membrane)) (λ i. (qs i, qt i))
          (subst (λ us. Relists w u S D (cells_in w D Atom ++ cells_in w S Atom) us) lists one)

      -- and has then moved
      pub went_kept : AreKept u
      went_kept = relists_kept w u l r a m n xs ys (n_out w r a m n km tm kn tn apart inside outside) (keeper_kind w r a n kn) went tm tn

      pub went_all : MovesAll (seen w) (seen u) m n
      went_all = moves_all (seen w) (seen u) m n (seen_lists (λ us vs. Relists (seen w) (seen u) m n us vs) (seen_relists w u l r a m n xs ys (n_out w r a m n km tm kn tn apart inside outside) (keeper_kind w r a n kn) went))

  module _ (idle : (keeper w n ≡ n) ⊎ ((k : CellKind) → cells_in w n k ≡ [])) (given : (k : ℕ) → partner_at w m 0 ≡ Some (k, 0) → is_retired (w k) ≡ true) where
    -- all of n may go before,
    pub first_out : home_at w S ≢ Some D
    first_out e = source_out w r a m n km tm kn tn apart inside outside idle given (ap (home_at w) (sym qs) ∙ e ∙ ap (λ z. Some z) qt)

    pub differ_back : D ≢ S
    differ_back e = differ (sym e)

    module _ (v u : ℕ → Option WebCell) (f : Moves w v D S Atom (cells_in w D Atom) [] (cells_in w D Atom ++ cells_in w S Atom)) (g : Moves v u D S Membrane (cells_in v D Membrane) [] (cells_in v D Membrane ++ cells_in v S Membrane)) where
      came : Relists w u (keeper w n) (keeper w m) xs ys
      came =
          let one = relists_both w l D S differ_back first_out kind_d kind_s v u (cells_in w D Atom ++ cells_in w S Atom) (cells_in v D Membrane ++ cells_in v S Membrane) f g in
          let lists : cells_in v D Membrane ++ cells_in v S Membrane ≡ cells_in w D Membrane ++ cells_in w S Membrane = λ i.
          mems_source w l D S differ_back first_out kind_d kind_s v u (cells_in w D Atom ++ cells_in w S Atom) (cells_in v D Membrane ++ cells_in v S Membrane) f i
          ++ mems_target w l D S differ_back first_out kind_d kind_s v u (cells_in w D Atom ++ cells_in w S Atom) (cells_in v D Membrane ++ cells_in v S Membrane) f i in
          subst (λ (p : ℕ × ℕ). Relists w u p.1 p.0 (cells_in w p.1 Atom ++ cells_in w p.0 Atom) (cells_in w p.1 Membrane ++ cells_in w p.0 Membrane)) (λ i. (qs i, qt i))
          (subst (λ us. Relists w u D S (cells_in w D Atom ++ cells_in w S Atom) us) lists one)

      -- then the lists may go over,
      pub trades : MayTrade u m n
      trades = may_go w r a m n km tm kn tn apart inside outside idle given l u xs ys came

      -- and all has moved
      pub traded_all : (t : ℕ → Option WebCell) → MovesAll (seen u) (seen t) m n → MovesAll (seen w) (seen t) m n
      traded_all t b =
          let before = fronted w r a m n km tm kn tn apart inside outside idle given l u xs ys came in
          let before2 = seen_lists (λ us vs. Relists (seen w) (seen u) n m us vs) before in
          merged_all (seen w) (seen u) (seen t) m n (seen_once w r a l) outside inside (there_seen w n (kind_there (w n) kn) tn) before2 b apart (there_seen w m (kind_there (w m) km) tm)
