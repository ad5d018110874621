-- A membrane in which nothing is left keeps its own lists again.
use Rattle.std.proofs.Common.{◌≡◌, ◌≢◌, ◌⊎◌, ℕ, zero, suc, Bool, true, false, cond, List, [], length, Option, Some, None, IsSome, refl, sym, ap, subst, ◌∙◌, inl, inr, arith}
use Rattle.std.proofs.lemmas.Bool.{cases_eq}
use Rattle.std.specs.Prelude.{slice_index_or, slice_set}
use Rattle.std.specs.Option.{option_map}
use Rattle.lmn_base.specs.Lists.{In}
use Rattle.lmn_base.proofs.Lists.{link_within}
use Rattle.lmn_store_heap.specs.Heap.{alter}
use Rattle.lmn_store_heap.proofs.Listing.{alter_at, alter_away}
use Rattle.lmn_web.specs.declared.kind.CellKind.{CellKind}
use Rattle.lmn_web.specs.declared.kind.CellKind.TheVariants.{Atom, Membrane}
use Rattle.lmn_web.specs.Webs.{WebCell, web_kind, kind_at, home_of, home_at, partners_of, partner_at, marks_of, cells_of, cells_in, with_partner, linked, cleared, parted, StandOnce, IsPaired, IsLoose}
use Rattle.lmn_web_merging.specs.Keepers.{led_from, keeper, port_mark, retires, is_retired, seen_partners, seen_cell, looked_at, seen}
use Rattle.lmn_web_merging.specs.Moves.{AreKept, LetsGo, MayTrade, Trades}
use Rattle.lmn_web_merging.proofs.Seen.{keepers_differ, own_keeper, led_keeper, not_seen}
use Rattle.lmn_web_merging.proofs.Sending.{kind_there}
use Rattle.lmn_web_merging.proofs.Writing.{keeps_partner}
use Rattle.lmn_web_merging.proofs.Joining.{ported_marks, ported_arity, ported_at}

-- a cell whose port has no partner any more
abbrev unported : Option WebCell → Option WebCell
unported = option_map (with_partner 0 None)

-- what a cell of the two is then: it keeps its own lists, or is there no more
abbrev pub OwnAgain : Option WebCell → Option WebCell → Type 0
OwnAgain o q = ((o ≡ unported q) × (is_retired q ≡ false)) ⊎ ((o ≡ None) × (is_retired q ≡ true))

unported_retired : (o : Option WebCell) → is_retired (unported o) ≡ is_retired o
unported_retired None = refl
unported_retired (Some c) = refl

-- a membrane whose lists another cell kept
module _ (w : ℕ → Option WebCell) (r : IsPaired w) (a : AreKept w) (n d : ℕ) (e : kind_at w n ≡ Membrane) (there : is_retired (w n) ≡ false) (p : partner_at w n 0 ≡ Some (d, 0)) where
  pub other_kind : kind_at w d ≡ Membrane
  other_kind = (a.joined n 0 d 0 e p).2

  other_partner : partner_at w d 0 ≡ Some (n, 0)
  other_partner = r.back n 0 d 0 p

  pub keeper_is : keeper w n ≡ d
  keeper_is = led_keeper w n (d, 0) e p

  other_keeper : keeper w d ≡ n
  other_keeper = led_keeper w d (n, 0) other_kind other_partner

  -- they are two
  pub two : d ≢ n
  two q = r.apart n 0 (p ∙ ap (λ z. Some (z, 0)) q)

  abbrev w1 : ℕ → Option WebCell
  w1 = linked w d 0 None

  u_is : parted w n 0 ≡ linked w1 n 0 None
  u_is = ap (λ o. linked (cleared w o) n 0 None) p

  -- what the two are once they are parted, and all else
  pub parted_n : parted w n 0 n ≡ unported (w n)
  parted_n = ap (λ (f : ℕ → Option WebCell). f n) u_is ∙ alter_at w1 n unported ∙ ap unported (alter_away w d unported n (λ q. two (sym q)))

  pub parted_d : parted w n 0 d ≡ unported (w d)
  parted_d = ap (λ (f : ℕ → Option WebCell). f d) u_is ∙ alter_away w1 n unported d two ∙ alter_at w d unported

  pub parted_away : (y : ℕ) → y ≢ n → y ≢ d → parted w n 0 y ≡ w y
  parted_away y d1 d2 = ap (λ (f : ℕ → Option WebCell). f y) u_is ∙ alter_away w1 n unported y d1 ∙ alter_away w d unported y d2

  -- no port of it has a partner
  pub no_port : (o : Option WebCell) (i : ℕ) → length (partners_of o) ≡ 1 → slice_index_or (partners_of (unported o)) i None ≡ None
  no_port o zero h = ported_at None o h
  no_port o (suc i) h = by (slice_index_or (partners_of (unported o)) (suc i) None) refl
    where
      by : (q : Option (ℕ × ℕ)) → slice_index_or (partners_of (unported o)) (suc i) None ≡ q → q ≡ None
      by None z = refl
      by (Some q) z = absurd (let x = link_within (partners_of (unported o)) (suc i) q z in let y = ported_arity None o in omega (arith, x, y, h))

  -- the other one may be freed, where it is there no more
  pub other_loose : ((j : CellKind) → cells_in w d j ≡ []) → is_retired (w d) ≡ true → IsLoose (parted w n 0) d
  other_loose none gone = record {
    there = subst (λ (o : Option WebCell). IsSome o) (sym parted_d) (some (w d) (kind_there (w d) other_kind));
    alone = λ i. ap (λ (o : Option WebCell). slice_index_or (partners_of o) i None) parted_d ∙ no_port (w d) i (a.ports d other_kind);
    homeless = ap home_of parted_d ∙ (keeps_partner 0 None).home (w d) ∙ a.homeless d gone;
    empty = λ j. ap (λ (o : Option WebCell). cells_of o j) parted_d ∙ (keeps_partner 0 None).cells (w d) j ∙ none j;
  }
    where
      some : (o : Option WebCell) → IsSome o → IsSome (unported o)
      some None i = i
      some (Some c) i = refl

  module _ (l : StandOnce w) (none_d : (j : CellKind) → cells_in w d j ≡ []) (none_n : (j : CellKind) → cells_in w n j ≡ [])
      (v : ℕ → Option WebCell) (at_n : v n ≡ unported (w n)) (at_d : OwnAgain (v d) (w d)) (away : (y : ℕ) → y ≢ n → y ≢ d → v y ≡ w y) where
    which : (y : ℕ) → ((y ≡ n) ⊎ (y ≡ d)) ⊎ ((y ≢ n) × (y ≢ d))
    which y = elim (cases_eq y n) [ inl q ↦ inl (inl q) | inr d1 ↦ elim (cases_eq y d) [ inl q ↦ inl (inr q) | inr d2 ↦ inr (d1, d2) ] ]

    -- each of the two
    own : (y : ℕ) → (y ≡ n) ⊎ (y ≡ d) → OwnAgain (v y) (w y)
    own y (inl q) = subst (λ z. OwnAgain (v z) (w z)) (sym q) (inl (at_n, there))
    own y (inr q) = subst (λ z. OwnAgain (v z) (w z)) (sym q) at_d

    membrane : (y : ℕ) → (y ≡ n) ⊎ (y ≡ d) → kind_at w y ≡ Membrane
    membrane y (inl q) = ap (kind_at w) q ∙ e
    membrane y (inr q) = ap (kind_at w) q ∙ other_kind

    none : (y : ℕ) → (y ≡ n) ⊎ (y ≡ d) → (j : CellKind) → cells_in w y j ≡ []
    none y (inl q) j = ap (λ z. cells_in w z j) q ∙ none_n j
    none y (inr q) j = ap (λ z. cells_in w z j) q ∙ none_d j

    kept_none : (y : ℕ) → (y ≡ n) ⊎ (y ≡ d) → (j : CellKind) → cells_in w (keeper w y) j ≡ []
    kept_none y (inl q) j = ap (λ z. cells_in w (keeper w z) j) q ∙ ap (λ z. cells_in w z j) keeper_is ∙ none_d j
    kept_none y (inr q) j = ap (λ z. cells_in w (keeper w z) j) q ∙ ap (λ z. cells_in w z j) other_keeper ∙ none_n j

    -- it has no partner now,
    alone_at : (y : ℕ) → (y ≡ n) ⊎ (y ≡ d) → (i : ℕ) → partner_at v y i ≡ None
    alone_at y x i = elim (own y x) [
      | inl z ↦ ap (λ (o : Option WebCell). slice_index_or (partners_of o) i None) z.0 ∙ no_port (w y) i (a.ports y (membrane y x))
      | inr z ↦ ap (λ (o : Option WebCell). slice_index_or (partners_of o) i None) z.0
    ]

    -- keeps its own lists,
    self : (y : ℕ) → (y ≡ n) ⊎ (y ≡ d) → keeper v y ≡ y
    self y x = own_keeper v y (alone_at y x 0)

    -- in which nothing is,
    empty_at : (y : ℕ) → (y ≡ n) ⊎ (y ≡ d) → (j : CellKind) → cells_in v y j ≡ []
    empty_at y x j = elim (own y x) [
      | inl z ↦ ap (λ (o : Option WebCell). cells_of o j) z.0 ∙ (keeps_partner 0 None).cells (w y) j ∙ none y x j
      | inr z ↦ ap (λ (o : Option WebCell). cells_of o j) z.0
    ]

    -- and isn't retired
    stays : (y : ℕ) → (y ≡ n) ⊎ (y ≡ d) → is_retired (v y) ≡ false
    stays y x = elim (own y x) [
      | inl z ↦ ap is_retired z.0 ∙ unported_retired (w y) ∙ z.1
      | inr z ↦ ap is_retired z.0
    ]

    home_stays : (y : ℕ) → (y ≡ n) ⊎ (y ≡ d) → home_at v y ≡ home_at w y
    home_stays y x = elim (own y x) [
      | inl z ↦ ap home_of z.0 ∙ (keeps_partner 0 None).home (w y)
      | inr z ↦ ap home_of z.0 ∙ sym (a.homeless y z.1)
    ]

    -- where it is a membrane it is there
    as_membrane : (y : ℕ) → (y ≡ n) ⊎ (y ≡ d) → kind_at v y ≡ Membrane → v y ≡ unported (w y)
    as_membrane y x f = elim (own y x) [
      | inl z ↦ z.0
      | inr z ↦ absurd (let q : Atom ≡ Membrane = sym (ap web_kind z.0) ∙ f in cc)
    ]

    -- all else has another keeper, which is as it was
    far : (y : ℕ) → y ≢ n → y ≢ d → (keeper w y ≢ n) × (keeper w y ≢ d)
    far y d1 d2 = (λ q. d2 (keepers_differ w r a y d (q ∙ sym other_keeper)), λ q. d1 (keepers_differ w r a y n (q ∙ sym keeper_is)))

    keeper_away : (y : ℕ) → y ≢ n → y ≢ d → keeper v y ≡ keeper w y
    keeper_away y d1 d2 = ap (λ (o : Option WebCell). led_from (web_kind o) y (slice_index_or (partners_of o) 0 None)) (away y d1 d2)

    -- neither is a home
    no_home : (y h : ℕ) → home_at w y ≡ Some h → (h ≢ n) × (h ≢ d)
    no_home y h z = (
      λ q. subst (λ us. In y us) (none_n (kind_at w y)) (l.listed n y (z ∙ ap (λ x. Some x) q)),
      λ q. subst (λ us. In y us) (none_d (kind_at w y)) (l.listed d y (z ∙ ap (λ x. Some x) q)),
    )

    homes_all : (y : ℕ) → home_at v y ≡ home_at w y
    homes_all y = elim (which y) [ inl x ↦ home_stays y x | inr z ↦ ap home_of (away y z.0 z.1) ]

    not_own : (y : ℕ) → home_at w y ≢ Some (keeper v y)
    not_own y f = elim (which y) [
      | inl x ↦ elim x [
        | inl q ↦ (no_home y (keeper v y) f).0 (self y (inl q) ∙ q)
        | inr q ↦ (no_home y (keeper v y) f).1 (self y (inr q) ∙ q)
      ]
      | inr z ↦ a.apart y (f ∙ ap (λ x. Some x) (keeper_away y z.0 z.1))
    ]

    -- keepers are kept,
    kept : AreKept v
    kept = record {
      joined = λ m i b j f q. elim (which m) [
        | inl x ↦ absurd (let z : None ≡ Some (b, j) = sym (alone_at m x i) ∙ q in cc)
        | inr z ↦ (let k0 = ap web_kind (sym (away m z.0 z.1)) ∙ f in
            let q0 : partner_at w m i ≡ Some (b, j) = ap (λ (o : Option WebCell). slice_index_or (partners_of o) i None) (sym (away m z.0 z.1)) ∙ q in
            let s = a.joined m i b j k0 q0 in
            let m0 : partner_at w m 0 ≡ Some (b, 0) = ap (partner_at w m) (sym s.0) ∙ q0 ∙ ap (λ x. Some (b, x)) s.1 in
            let at : keeper w m ≡ b = led_keeper w m (b, 0) k0 m0 in
            let f0 = far m z.0 z.1 in
            (s.0, s.1, ap web_kind (away b (λ x. f0.0 (at ∙ x)) (λ x. f0.1 (at ∙ x))) ∙ s.2))
      ];
      ports = λ m f. elim (which m) [
        | inl x ↦ ap (λ (o : Option WebCell). length (partners_of o)) (as_membrane m x f) ∙ ported_arity None (w m) ∙ a.ports m (membrane m x)
        | inr z ↦ ap (λ (o : Option WebCell). length (partners_of o)) (away m z.0 z.1) ∙ a.ports m (ap web_kind (sym (away m z.0 z.1)) ∙ f)
      ];
      marks = λ m f. elim (which m) [
        | inl x ↦ ap (λ (o : Option WebCell). length (marks_of o)) (as_membrane m x f) ∙ ap (λ (us : List ℕ). length us) (ported_marks None (w m)) ∙ a.marks m (membrane m x)
        | inr z ↦ ap (λ (o : Option WebCell). length (marks_of o)) (away m z.0 z.1) ∙ a.marks m (ap web_kind (sym (away m z.0 z.1)) ∙ f)
      ];
      told = λ m s f z. elim (which m) [
        | inl x ↦ s (self m x)
        | inr q ↦ a.told m (λ x. s (keeper_away m q.0 q.1 ∙ x)) (ap web_kind (sym (away m q.0 q.1)) ∙ f) (ap (λ (o : Option WebCell). slice_index_or (marks_of o) 1 0) (sym (away m q.0 q.1)) ∙ z)
      ];
      lent = λ m s f t u. elim (which m) [
        | inl x ↦ absurd (s (self m x))
        | inr q ↦ (let f0 = far m q.0 q.1 in let same = away (keeper w m) f0.0 f0.1 in
            elim (a.lent m (λ x. s (keeper_away m q.0 q.1 ∙ x)) (ap web_kind (sym (away m q.0 q.1)) ∙ f) (ap is_retired (sym (away m q.0 q.1)) ∙ t) (ap is_retired (sym same) ∙ ap (λ z. is_retired (v z)) (sym (keeper_away m q.0 q.1)) ∙ u)) [
              | inl z ↦ inl (ap (λ (o : Option WebCell). slice_index_or (marks_of o) 1 0) (away m q.0 q.1) ∙ z)
              | inr z ↦ inr (ap (port_mark v) (keeper_away m q.0 q.1) ∙ ap (λ (o : Option WebCell). slice_index_or (marks_of o) 1 0) same ∙ z)
            ])
      ];
      homeless = λ m t. elim (which m) [
        | inl x ↦ absurd (let z : false ≡ true = sym (stays m x) ∙ t in cc)
        | inr q ↦ homes_all m ∙ a.homeless m (ap is_retired (sym (away m q.0 q.1)) ∙ t)
      ];
      bare = λ m j t. elim (which m) [
        | inl x ↦ absurd (let z : false ≡ true = sym (stays m x) ∙ t in cc)
        | inr q ↦ (let f0 = far m q.0 q.1 in
            ap (λ z. cells_in v z j) (keeper_away m q.0 q.1) ∙ ap (λ (o : Option WebCell). cells_of o j) (away (keeper w m) f0.0 f0.1) ∙ a.bare m j (ap is_retired (sym (away m q.0 q.1)) ∙ t))
      ];
      apart = λ m f. not_own m (sym (homes_all m) ∙ f);
    }

    -- what is seen is what was seen
    homes : (y : ℕ) → option_map (keeper v) (home_at w y) ≡ option_map (keeper w) (home_at w y)
    homes y = by (home_at w y) refl
      where
        by : (o : Option ℕ) → home_at w y ≡ o → option_map (keeper v) o ≡ option_map (keeper w) o
        by None z = refl
        by (Some h) z = let f = no_home y h z in ap (λ x. Some x) (keeper_away h f.0 f.1)

    alike : (es ms : List ℕ) (o : Option WebCell) → option_map (keeper v) (home_of o) ≡ option_map (keeper w) (home_of o) → looked_at (keeper v) es ms o ≡ looked_at (keeper w) es ms o
    alike es ms None z = refl
    alike es ms (Some q) z = at (retires q.kind q.marks)
      where
        at : (b : Bool) → cond b None (Some (seen_cell (keeper v) es ms q)) ≡ cond b None (Some (seen_cell (keeper w) es ms q))
        at true = refl
        at false = λ i. Some (record (seen_cell (keeper v) es ms q) { home = z i })

    -- the partner of a membrane isn't seen
    unseen : (es ms : List ℕ) (o : Option WebCell) → web_kind o ≡ Membrane → looked_at (keeper v) es ms (unported o) ≡ looked_at (keeper v) es ms o
    unseen es ms None k = refl
    unseen es ms (Some q) k = at (retires q.kind q.marks)
      where
        ports : seen_partners q.kind (slice_set q.partners 0 None) ≡ seen_partners q.kind q.partners
        ports = ap (λ j. seen_partners j (slice_set q.partners 0 None)) k ∙ ap (λ j. seen_partners j q.partners) (sym k)

        at : (b : Bool) → cond b None (Some (record (seen_cell (keeper v) es ms q) { partners = seen_partners q.kind (slice_set q.partners 0 None) })) ≡ cond b None (Some (seen_cell (keeper v) es ms q))
        at true = refl
        at false = λ i. Some (record (seen_cell (keeper v) es ms q) { partners = ports i })

    seen_at : (y : ℕ) (es ms : List ℕ) → cells_in v (keeper v y) Atom ≡ es → cells_in v (keeper v y) Membrane ≡ ms → seen v y ≡ looked_at (keeper v) es ms (v y)
    seen_at y es ms x z = λ i. looked_at (keeper v) (x i) (z i) (v y)

    was_at : (y : ℕ) (es ms : List ℕ) → cells_in w (keeper w y) Atom ≡ es → cells_in w (keeper w y) Membrane ≡ ms → seen w y ≡ looked_at (keeper w) es ms (w y)
    was_at y es ms x z = λ i. looked_at (keeper w) (x i) (z i) (w y)

    self_none : (y : ℕ) (x : (y ≡ n) ⊎ (y ≡ d)) (j : CellKind) → cells_in v (keeper v y) j ≡ []
    self_none y x j = ap (λ z. cells_in v z j) (self y x) ∙ empty_at y x j

    seen_same : (y : ℕ) → seen v y ≡ seen w y
    seen_same y = elim (which y) [
      | inl x ↦ elim (own y x) [
        | inl z ↦ seen_at y [] [] (self_none y x Atom) (self_none y x Membrane) ∙ ap (looked_at (keeper v) [] []) z.0
            ∙ unseen [] [] (w y) (membrane y x) ∙ alike [] [] (w y) (homes y) ∙ sym (was_at y [] [] (kept_none y x Atom) (kept_none y x Membrane))
        | inr z ↦ ap (looked_at (keeper v) (cells_in v (keeper v y) Atom) (cells_in v (keeper v y) Membrane)) z.0 ∙ sym (not_seen w y z.1)
      ]
      | inr z ↦ (let f = far y z.0 z.1 in let list : (j : CellKind) → cells_in v (keeper v y) j ≡ cells_in w (keeper w y) j = λ j.
          ap (λ x. cells_in v x j) (keeper_away y z.0 z.1) ∙ ap (λ (o : Option WebCell). cells_of o j) (away (keeper w y) f.0 f.1) in
          seen_at y (cells_in w (keeper w y) Atom) (cells_in w (keeper w y) Membrane) (list Atom) (list Membrane)
          ∙ ap (looked_at (keeper v) (cells_in w (keeper w y) Atom) (cells_in w (keeper w y) Membrane)) (away y z.0 z.1) ∙ alike (cells_in w (keeper w y) Atom) (cells_in w (keeper w y) Membrane) (w y) (homes y))
    ]

    -- so it has let go
    pub has_let_go : LetsGo w v n
    has_let_go = record {
      kept = kept;
      seen_same = λ i y. seen_same y i;
      alone = alone_at n (inl refl) 0;
      kind = ap web_kind at_n ∙ (keeps_partner 0 None).kind (w n) ∙ e;
      there = stays n (inl refl);
      empty = empty_at n (inl refl);
      homes = homes_all;
      others = λ y d1 d2. away y d1 (λ q. d2 (q ∙ sym keeper_is));
    }

  -- what keeps the lists of n is freed, where it is there no more,
  pub let_go_freed : StandOnce w → ((j : CellKind) → cells_in w (keeper w n) j ≡ []) → ((j : CellKind) → cells_in w n j ≡ []) → is_retired (w d) ≡ true → LetsGo w (alter (parted w n 0) d (λ _. None)) n
  let_go_freed l none idle gone = has_let_go l (λ j. ap (λ z. cells_in w z j) (sym keeper_is) ∙ none j) idle (alter (parted w n 0) d (λ _. None))
      (alter_away (parted w n 0) d (λ _. None) n (λ q. two (sym q)) ∙ parted_n) (inr (alter_at (parted w n 0) d (λ _. None), gone))
      (λ y d1 d2. alter_away (parted w n 0) d (λ _. None) y d2 ∙ parted_away y d1 d2)

  -- and else parted from it
  pub let_go_parted : StandOnce w → ((j : CellKind) → cells_in w (keeper w n) j ≡ []) → ((j : CellKind) → cells_in w n j ≡ []) → is_retired (w d) ≡ false → LetsGo w (parted w n 0) n
  let_go_parted l none idle stays = has_let_go l (λ j. ap (λ z. cells_in w z j) (sym keeper_is) ∙ none j) idle (parted w n 0) parted_n (inl (parted_d, stays)) parted_away

-- a membrane that has no partner needn't
pub lets_nothing_go : (w : ℕ → Option WebCell) (n : ℕ) → AreKept w → kind_at w n ≡ Membrane → is_retired (w n) ≡ false → ((j : CellKind) → cells_in w (keeper w n) j ≡ []) → partner_at w n 0 ≡ None → LetsGo w w n
lets_nothing_go w n a e there none alone = record {
  kept = a;
  seen_same = refl;
  alone = alone;
  kind = e;
  there = there;
  empty = λ j. ap (λ z. cells_in w z j) (sym (own_keeper w n alone)) ∙ none j;
  homes = λ y. refl;
  others = λ y d1 d2. refl;
}

-- Then the lists of m may go over.
pub may_trade : (w v : ℕ → Option WebCell) (m n : ℕ) → IsPaired w → MayTrade w m n → LetsGo w v n → StandOnce v → Trades v m n
may_trade w v m n r t g once = record {
  kept = g.kept;
  once = once;
  source = ap web_kind here ∙ t.source;
  source_there = ap is_retired here ∙ t.source_there;
  target = g.kind;
  target_there = g.there;
  apart = t.apart;
  alone = g.alone;
  given = λ k e.
      let p : partner_at w m 0 ≡ Some (k, 0) = ap (λ (o : Option WebCell). slice_index_or (partners_of o) 0 None) (sym here) ∙ e in
      let gone = t.given k p in let at : keeper w m ≡ k = led_keeper w m (k, 0) t.source p in
      ap is_retired (g.others k (λ q. not_both (sym (ap (λ z. is_retired (w z)) q) ∙ gone) t.target_there) (λ q. t.apart (keepers_differ w r t.kept m n (at ∙ q)))) ∙ gone;
  empty = g.empty;
  inside = λ e. no_home n g.empty m e;
  outside = λ e. t.outside (sym (g.homes n) ∙ e ∙ ap (λ z. Some z) keeper_m);
}
  where
    not_both : {b : Bool} → b ≡ true → b ≡ false → ⊥
    not_both e f = let z : true ≡ false = sym e ∙ f in absurd (cc)

    -- m isn't what keeps the lists of n
    m_away : m ≢ keeper w n
    m_away q = by (partner_at w n 0) refl
      where
        by : (o : Option (ℕ × ℕ)) → partner_at w n 0 ≡ o → ⊥
        by None z = t.apart (q ∙ own_keeper w n z)
        by (Some p) z =
            let j = (t.kept.joined n 0 p.0 p.1 t.target z).1 in
            let at : m ≡ p.0 = q ∙ led_keeper w n p t.target z in
            let back_to : partner_at w m 0 ≡ Some (n, 0) = ap (λ y. partner_at w y 0) at ∙ ap (partner_at w p.0) (sym j) ∙ r.back n 0 p.0 p.1 z in
            not_both (t.given n back_to) t.target_there

    here : v m ≡ w m
    here = g.others m t.apart m_away

    keeper_m : keeper v m ≡ keeper w m
    keeper_m = ap (λ (o : Option WebCell). led_from (web_kind o) m (slice_index_or (partners_of o) 0 None)) here

    no_home : (h : ℕ) → ((j : CellKind) → cells_in v h j ≡ []) → (y : ℕ) → home_at v y ≡ Some h → ⊥
    no_home h none y z = subst (λ us. In y us) (none (kind_at v y)) (once.listed h y z)
