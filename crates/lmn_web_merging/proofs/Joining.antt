-- The ports of a membrane and of a keeper are joined, and told.
use Rattle.std.proofs.Common.{◌≡◌, ◌≢◌, ℕ, true, false, List, [], length, Option, Some, None, refl, sym, ap, subst, ◌∙◌, inl, inr, arith, length-set, get_or-set_same, get_or-set_other}
use Rattle.std.proofs.lemmas.Bool.{cases_eq}
use Rattle.std.specs.Prelude.{slice_index_or, slice_set}
use Rattle.std.specs.Option.{option_map}
use Rattle.lmn_store_heap.specs.Heap.{alter}
use Rattle.lmn_store_heap.proofs.Listing.{alter_at, alter_away, alter_keeps}
use Rattle.lmn_web.specs.declared.kind.CellKind.TheVariants.{Membrane}
use Rattle.lmn_web.specs.Webs.{WebCell, web_kind, kind_at, partners_of, partner_at, arity_at, marks_of, with_partner, with_mark, linked, cleared, joined, IsPaired}
use Rattle.lmn_web_merging.specs.Keepers.{port_mark, is_retired, LENT, RETIRED}
use Rattle.lmn_web_merging.specs.Moves.{AreKept, Traded, Like}
use Rattle.lmn_web_merging.proofs.Trading.{like_same, like_twice, retired_mark}
use Rattle.lmn_base.proofs.Numbers.{equal_when}

-- a cell with another partner at its first port
abbrev ported : Option (ℕ × ℕ) → Option WebCell → Option WebCell
ported p o = option_map (with_partner 0 p) o

-- and another mark there
abbrev told : ℕ → Option WebCell → Option WebCell
told n o = option_map (with_mark 1 n) o

like_ported : (p : Option (ℕ × ℕ)) (o : Option WebCell) → Like (ported p o) o
like_ported p None = ([], [], refl)
like_ported p (Some c) = (slice_set c.partners 0 p, c.marks, refl)

like_told : (n : ℕ) (o : Option WebCell) → Like (told n o) o
like_told n None = ([], [], refl)
like_told n (Some c) = (c.partners, slice_set c.marks 1 n, refl)

pub ported_arity : (p : Option (ℕ × ℕ)) (o : Option WebCell) → length (partners_of (ported p o)) ≡ length (partners_of o)
ported_arity p None = refl
ported_arity p (Some c) = length-set c.partners 0 p

told_arity : (n : ℕ) (o : Option WebCell) → partners_of (told n o) ≡ partners_of o
told_arity n None = refl
told_arity n (Some c) = refl

pub ported_marks : (p : Option (ℕ × ℕ)) (o : Option WebCell) → marks_of (ported p o) ≡ marks_of o
ported_marks p None = refl
ported_marks p (Some c) = refl

told_marks : (n : ℕ) (o : Option WebCell) → length (marks_of (told n o)) ≡ length (marks_of o)
told_marks n None = refl
told_marks n (Some c) = length-set c.marks 1 n

told_first : (n : ℕ) (o : Option WebCell) → slice_index_or (marks_of (told n o)) 0 0 ≡ slice_index_or (marks_of o) 0 0
told_first n None = refl
told_first n (Some c) = get_or-set_other c.marks 1 0 n 0 (λ e. omega (arith, e))

pub ported_at : (p : Option (ℕ × ℕ)) (o : Option WebCell) → length (partners_of o) ≡ 1 → slice_index_or (partners_of (ported p o)) 0 None ≡ p
ported_at p None e = absurd (omega (arith, e))
ported_at p (Some c) e = get_or-set_same c.partners 0 p None (omega (arith, e))

told_at : (n : ℕ) (o : Option WebCell) → length (marks_of o) ≡ 2 → slice_index_or (marks_of (told n o)) 1 0 ≡ n
told_at n None e = absurd (omega (arith, e))
told_at n (Some c) e = get_or-set_same c.marks 1 n 0 (omega (arith, e))

-- how many ports a cell has, and its kind, when ports are joined
pub link_arity : (w : ℕ → Option WebCell) (q i : ℕ) (p : Option (ℕ × ℕ)) (y : ℕ) → arity_at (linked w q i p) y ≡ arity_at w y
link_arity w q i p y = alter_keeps w q (option_map (with_partner i p)) (λ (o : Option WebCell). length (partners_of o)) by y
  where
    by : (o : Option WebCell) → length (partners_of (option_map (with_partner i p) o)) ≡ length (partners_of o)
    by None = refl
    by (Some c) = length-set c.partners i p

pub link_kind : (w : ℕ → Option WebCell) (q i : ℕ) (p : Option (ℕ × ℕ)) (y : ℕ) → kind_at (linked w q i p) y ≡ kind_at w y
link_kind w q i p y = alter_keeps w q (option_map (with_partner i p)) web_kind by y
  where
    by : (o : Option WebCell) → web_kind (option_map (with_partner i p) o) ≡ web_kind o
    by None = refl
    by (Some c) = refl

clear_arity : (w : ℕ → Option WebCell) (p : Option (ℕ × ℕ)) (y : ℕ) → arity_at (cleared w p) y ≡ arity_at w y
clear_arity w None y = refl
clear_arity w (Some p) y = link_arity w p.0 p.1 None y

clear_kind : (w : ℕ → Option WebCell) (p : Option (ℕ × ℕ)) (y : ℕ) → kind_at (cleared w p) y ≡ kind_at w y
clear_kind w None y = refl
clear_kind w (Some p) y = link_kind w p.0 p.1 None y

pub join_arity : (w : ℕ → Option WebCell) (x i y j z : ℕ) → arity_at (joined w x i y j) z ≡ arity_at w z
join_arity w x i y j z =
    link_arity (linked (cleared (cleared w (partner_at w x i)) (partner_at w y j)) x i (Some (y, j))) y j (Some (x, i)) z
    ∙ link_arity (cleared (cleared w (partner_at w x i)) (partner_at w y j)) x i (Some (y, j)) z ∙ clear_arity (cleared w (partner_at w x i)) (partner_at w y j) z ∙ clear_arity w (partner_at w x i) z

pub join_kind : (w : ℕ → Option WebCell) (x i y j z : ℕ) → kind_at (joined w x i y j) z ≡ kind_at w z
join_kind w x i y j z =
    link_kind (linked (cleared (cleared w (partner_at w x i)) (partner_at w y j)) x i (Some (y, j))) y j (Some (x, i)) z
    ∙ link_kind (cleared (cleared w (partner_at w x i)) (partner_at w y j)) x i (Some (y, j)) z ∙ clear_kind (cleared w (partner_at w x i)) (partner_at w y j) z ∙ clear_kind w (partner_at w x i) z

-- and when a mark is set
pub mark_arity : (w : ℕ → Option WebCell) (q i n y : ℕ) → arity_at (alter w q (option_map (with_mark i n))) y ≡ arity_at w y
mark_arity w q i n y = alter_keeps w q (option_map (with_mark i n)) (λ (o : Option WebCell). length (partners_of o)) by y
  where
    by : (o : Option WebCell) → length (partners_of (option_map (with_mark i n) o)) ≡ length (partners_of o)
    by None = refl
    by (Some c) = refl

pub mark_kind : (w : ℕ → Option WebCell) (q i n y : ℕ) → kind_at (alter w q (option_map (with_mark i n))) y ≡ kind_at w y
mark_kind w q i n y = alter_keeps w q (option_map (with_mark i n)) web_kind by y
  where
    by : (o : Option WebCell) → web_kind (option_map (with_mark i n) o) ≡ web_kind o
    by None = refl
    by (Some c) = refl

-- what is told of each cell by what it is now
module _ (w v : ℕ → Option WebCell) (m n b : ℕ) (others : (y : ℕ) → y ≢ m → y ≢ n → y ≢ b → v y ≡ w y) where
  each : (P : ℕ → Type 0) → ((y : ℕ) → v y ≡ w y → P y) → P m → P n → P b → (y : ℕ) → P y
  each P h pm pn pb y = elim (cases_eq y m) [
    | inl e ↦ subst P (sym e) pm
    | inr d1 ↦ elim (cases_eq y n) [
      | inl e ↦ subst P (sym e) pn
      | inr d2 ↦ elim (cases_eq y b) [ inl e ↦ subst P (sym e) pb | inr d3 ↦ h y (others y d1 d2 d3) ]
    ]
  ]

  same_like : (y : ℕ) → v y ≡ w y → Like (v y) (w y)
  same_like y e = subst (λ (o : Option WebCell). Like o (w y)) (sym e) (like_same (w y))

module _ (w : ℕ → Option WebCell) (a : AreKept w) (m n : ℕ) (km : kind_at w m ≡ Membrane) (kn : kind_at w n ≡ Membrane) (apart : m ≢ n) (alone : partner_at w n 0 ≡ None) where
  -- m keeps its own lists
  module _ (own : partner_at w m 0 ≡ None) where
    abbrev pub own_joined : ℕ → Option WebCell
    own_joined = alter (alter (joined w n 0 m 0) m (option_map (with_mark 1 LENT))) n (option_map (with_mark 1 1))

    j_is : joined w n 0 m 0 ≡ linked (linked w n 0 (Some (m, 0))) m 0 (Some (n, 0))
    j_is = λ i. linked (linked (cleared (cleared w (alone i)) (own i)) n 0 (Some (m, 0))) m 0 (Some (n, 0))

    own_n : own_joined n ≡ told 1 (ported (Some (m, 0)) (w n))
    own_n = alter_at (alter (joined w n 0 m 0) m (option_map (with_mark 1 LENT))) n (option_map (with_mark 1 1))
        ∙ ap (told 1) (alter_away (joined w n 0 m 0) m (option_map (with_mark 1 LENT)) n (λ e. apart (sym e)) ∙ ap (λ (f : ℕ → Option WebCell). f n) j_is
        ∙ alter_away (linked w n 0 (Some (m, 0))) m (option_map (with_partner 0 (Some (n, 0)))) n (λ e. apart (sym e)) ∙ alter_at w n (option_map (with_partner 0 (Some (m, 0)))))

    own_m : own_joined m ≡ told LENT (ported (Some (n, 0)) (w m))
    own_m = alter_away (alter (joined w n 0 m 0) m (option_map (with_mark 1 LENT))) n (option_map (with_mark 1 1)) m apart
        ∙ alter_at (joined w n 0 m 0) m (option_map (with_mark 1 LENT))
        ∙ ap (told LENT) (ap (λ (f : ℕ → Option WebCell). f m) j_is ∙ alter_at (linked w n 0 (Some (m, 0))) m (option_map (with_partner 0 (Some (n, 0))))
        ∙ ap (ported (Some (n, 0))) (alter_away w n (option_map (with_partner 0 (Some (m, 0)))) m apart))

    own_others : (y : ℕ) → y ≢ m → y ≢ n → y ≢ m → own_joined y ≡ w y
    own_others y d1 d2 _ = alter_away (alter (joined w n 0 m 0) m (option_map (with_mark 1 LENT))) n (option_map (with_mark 1 1)) y d2
        ∙ alter_away (joined w n 0 m 0) m (option_map (with_mark 1 LENT)) y d1 ∙ ap (λ (f : ℕ → Option WebCell). f y) j_is
        ∙ alter_away (linked w n 0 (Some (m, 0))) m (option_map (with_partner 0 (Some (n, 0)))) y d1 ∙ alter_away w n (option_map (with_partner 0 (Some (m, 0)))) y d2

    like_n : Like (own_joined n) (w n)
    like_n = subst (λ (o : Option WebCell). Like o (w n)) (sym own_n) (like_twice (told 1 (ported (Some (m, 0)) (w n))) (ported (Some (m, 0)) (w n)) (w n) (like_told 1 (ported (Some (m, 0)) (w n))) (like_ported (Some (m, 0)) (w n)))

    like_m : Like (own_joined m) (w m)
    like_m = subst (λ (o : Option WebCell). Like o (w m)) (sym own_m) (like_twice (told LENT (ported (Some (n, 0)) (w m))) (ported (Some (n, 0)) (w m)) (w m) (like_told LENT (ported (Some (n, 0)) (w m))) (like_ported (Some (n, 0)) (w m)))

    two_marks : (p : Option (ℕ × ℕ)) (y : ℕ) → kind_at w y ≡ Membrane → length (marks_of (ported p (w y))) ≡ 2
    two_marks p y k = ap (λ (us : List ℕ). length us) (ported_marks p (w y)) ∙ a.marks y k

    pub own_traded : Traded w own_joined m n m
    own_traded = record {
      like = each w own_joined m n m own_others (λ y. Like (own_joined y) (w y)) (same_like w own_joined m n m own_others) like_m like_n like_m;
      others = own_others;
      arity = each w own_joined m n m own_others (λ y. arity_at own_joined y ≡ arity_at w y) (λ y e. ap (λ (o : Option WebCell). length (partners_of o)) e) arity_m arity_n arity_m;
      marks = each w own_joined m n m own_others (λ y. length (marks_of (own_joined y)) ≡ length (marks_of (w y))) (λ y e. ap (λ (o : Option WebCell). length (marks_of o)) e) marks_m marks_n marks_m;
      first = each w own_joined m n m own_others (λ y. slice_index_or (marks_of (own_joined y)) 0 0 ≡ slice_index_or (marks_of (w y)) 0 0) (λ y e. ap (λ (o : Option WebCell). slice_index_or (marks_of o) 0 0) e) first_m first_n first_m;
      target = ap (λ (o : Option WebCell). slice_index_or (partners_of o) 0 None) own_n ∙ ap (λ (ps : List (Option (ℕ × ℕ))). slice_index_or ps 0 None) (told_arity 1 (ported (Some (m, 0)) (w n))) ∙ ported_at (Some (m, 0)) (w n) (a.ports n kn);
      kept = ap (λ (o : Option WebCell). slice_index_or (partners_of o) 0 None) own_m ∙ ap (λ (ps : List (Option (ℕ × ℕ))). slice_index_or ps 0 None) (told_arity LENT (ported (Some (n, 0)) (w m))) ∙ ported_at (Some (n, 0)) (w m) (a.ports m km);
      source = λ d. absurd (d refl);
      target_told = ap (λ (o : Option WebCell). slice_index_or (marks_of o) 1 0) own_n ∙ told_at 1 (ported (Some (m, 0)) (w n)) (two_marks (Some (m, 0)) n kn);
      source_told = λ _. ap (λ (o : Option WebCell). slice_index_or (marks_of o) 1 0) own_m ∙ told_at LENT (ported (Some (n, 0)) (w m)) (two_marks (Some (n, 0)) m km);
      kept_told = λ d. absurd (d refl);
      source_same = λ d. absurd (d refl);
    }
      where
        arity_n : arity_at own_joined n ≡ arity_at w n
        arity_n = ap (λ (o : Option WebCell). length (partners_of o)) own_n ∙ ap (λ (ps : List (Option (ℕ × ℕ))). length ps) (told_arity 1 (ported (Some (m, 0)) (w n))) ∙ ported_arity (Some (m, 0)) (w n)

        arity_m : arity_at own_joined m ≡ arity_at w m
        arity_m = ap (λ (o : Option WebCell). length (partners_of o)) own_m ∙ ap (λ (ps : List (Option (ℕ × ℕ))). length ps) (told_arity LENT (ported (Some (n, 0)) (w m))) ∙ ported_arity (Some (n, 0)) (w m)

        marks_n : length (marks_of (own_joined n)) ≡ length (marks_of (w n))
        marks_n = ap (λ (o : Option WebCell). length (marks_of o)) own_n ∙ told_marks 1 (ported (Some (m, 0)) (w n)) ∙ ap (λ (us : List ℕ). length us) (ported_marks (Some (m, 0)) (w n))

        marks_m : length (marks_of (own_joined m)) ≡ length (marks_of (w m))
        marks_m = ap (λ (o : Option WebCell). length (marks_of o)) own_m ∙ told_marks LENT (ported (Some (n, 0)) (w m)) ∙ ap (λ (us : List ℕ). length us) (ported_marks (Some (n, 0)) (w m))

        first_n : slice_index_or (marks_of (own_joined n)) 0 0 ≡ slice_index_or (marks_of (w n)) 0 0
        first_n = ap (λ (o : Option WebCell). slice_index_or (marks_of o) 0 0) own_n ∙ told_first 1 (ported (Some (m, 0)) (w n)) ∙ ap (λ (us : List ℕ). slice_index_or us 0 0) (ported_marks (Some (m, 0)) (w n))

        first_m : slice_index_or (marks_of (own_joined m)) 0 0 ≡ slice_index_or (marks_of (w m)) 0 0
        first_m = ap (λ (o : Option WebCell). slice_index_or (marks_of o) 0 0) own_m ∙ told_first LENT (ported (Some (n, 0)) (w m)) ∙ ap (λ (us : List ℕ). slice_index_or us 0 0) (ported_marks (Some (n, 0)) (w m))

  -- k keeps the lists of m
  module _ (k : ℕ) (p : partner_at w m 0 ≡ Some (k, 0)) (r : IsPaired w) (gone : is_retired (w k) ≡ true) (there : is_retired (w m) ≡ false) where
    kk : kind_at w k ≡ Membrane
    kk = (a.joined m 0 k 0 km p).2

    k_partner : partner_at w k 0 ≡ Some (m, 0)
    k_partner = r.back m 0 k 0 p

    m_not_k : m ≢ k
    m_not_k e = absurd (let z : false ≡ true = sym there ∙ ap (λ y. is_retired (w y)) e ∙ gone in cc)

    -- it isn't n
    pub n_not_k : n ≢ k
    n_not_k e = let z : ◌≡◌ {A = Option (ℕ × ℕ)} None (Some (m, 0)) = sym alone ∙ ap (λ y. partner_at w y 0) e ∙ k_partner in absurd (cc)

    abbrev pub kept_joined : ℕ → Option WebCell
    kept_joined = alter (joined w n 0 k 0) n (option_map (with_mark 1 1))

    abbrev w1 : ℕ → Option WebCell
    w1 = linked w m 0 None

    abbrev w2 : ℕ → Option WebCell
    w2 = linked w1 n 0 (Some (k, 0))

    k_is : joined w n 0 k 0 ≡ linked w2 k 0 (Some (n, 0))
    k_is = λ i. linked (linked (cleared (cleared w (alone i)) (k_partner i)) n 0 (Some (k, 0))) k 0 (Some (n, 0))

    kept_n : kept_joined n ≡ told 1 (ported (Some (k, 0)) (w n))
    kept_n = alter_at (joined w n 0 k 0) n (option_map (with_mark 1 1)) ∙ ap (told 1) (ap (λ (f : ℕ → Option WebCell). f n) k_is
        ∙ alter_away w2 k (option_map (with_partner 0 (Some (n, 0)))) n n_not_k ∙ alter_at w1 n (option_map (with_partner 0 (Some (k, 0))))
        ∙ ap (ported (Some (k, 0))) (alter_away w m (option_map (with_partner 0 None)) n (λ e. apart (sym e))))

    kept_k : kept_joined k ≡ ported (Some (n, 0)) (w k)
    kept_k = alter_away (joined w n 0 k 0) n (option_map (with_mark 1 1)) k (λ e. n_not_k (sym e)) ∙ ap (λ (f : ℕ → Option WebCell). f k) k_is
        ∙ alter_at w2 k (option_map (with_partner 0 (Some (n, 0)))) ∙ ap (ported (Some (n, 0))) (alter_away w1 n (option_map (with_partner 0 (Some (k, 0)))) k (λ e. n_not_k (sym e))
        ∙ alter_away w m (option_map (with_partner 0 None)) k (λ e. m_not_k (sym e)))

    kept_m : kept_joined m ≡ ported None (w m)
    kept_m = alter_away (joined w n 0 k 0) n (option_map (with_mark 1 1)) m apart ∙ ap (λ (f : ℕ → Option WebCell). f m) k_is
        ∙ alter_away w2 k (option_map (with_partner 0 (Some (n, 0)))) m m_not_k ∙ alter_away w1 n (option_map (with_partner 0 (Some (k, 0)))) m apart ∙ alter_at w m (option_map (with_partner 0 None))

    kept_others : (y : ℕ) → y ≢ m → y ≢ n → y ≢ k → kept_joined y ≡ w y
    kept_others y d1 d2 d3 = alter_away (joined w n 0 k 0) n (option_map (with_mark 1 1)) y d2 ∙ ap (λ (f : ℕ → Option WebCell). f y) k_is
        ∙ alter_away w2 k (option_map (with_partner 0 (Some (n, 0)))) y d3 ∙ alter_away w1 n (option_map (with_partner 0 (Some (k, 0)))) y d2 ∙ alter_away w m (option_map (with_partner 0 None)) y d1

    pub kept_traded : Traded w kept_joined m n k
    kept_traded = record {
      like = each w kept_joined m n k kept_others (λ y. Like (kept_joined y) (w y)) (same_like w kept_joined m n k kept_others)
          (subst (λ (o : Option WebCell). Like o (w m)) (sym kept_m) (like_ported None (w m)))
          (subst (λ (o : Option WebCell). Like o (w n)) (sym kept_n) (like_twice (told 1 (ported (Some (k, 0)) (w n))) (ported (Some (k, 0)) (w n)) (w n) (like_told 1 (ported (Some (k, 0)) (w n))) (like_ported (Some (k, 0)) (w n))))
          (subst (λ (o : Option WebCell). Like o (w k)) (sym kept_k) (like_ported (Some (n, 0)) (w k)));
      others = kept_others;
      arity = each w kept_joined m n k kept_others (λ y. arity_at kept_joined y ≡ arity_at w y) (λ y e. ap (λ (o : Option WebCell). length (partners_of o)) e)
          (ap (λ (o : Option WebCell). length (partners_of o)) kept_m ∙ ported_arity None (w m))
          (ap (λ (o : Option WebCell). length (partners_of o)) kept_n ∙ ap (λ (ps : List (Option (ℕ × ℕ))). length ps) (told_arity 1 (ported (Some (k, 0)) (w n))) ∙ ported_arity (Some (k, 0)) (w n))
          (ap (λ (o : Option WebCell). length (partners_of o)) kept_k ∙ ported_arity (Some (n, 0)) (w k));
      marks = each w kept_joined m n k kept_others (λ y. length (marks_of (kept_joined y)) ≡ length (marks_of (w y))) (λ y e. ap (λ (o : Option WebCell). length (marks_of o)) e)
          (ap (λ (o : Option WebCell). length (marks_of o)) kept_m ∙ ap (λ (us : List ℕ). length us) (ported_marks None (w m)))
          (ap (λ (o : Option WebCell). length (marks_of o)) kept_n ∙ told_marks 1 (ported (Some (k, 0)) (w n)) ∙ ap (λ (us : List ℕ). length us) (ported_marks (Some (k, 0)) (w n)))
          (ap (λ (o : Option WebCell). length (marks_of o)) kept_k ∙ ap (λ (us : List ℕ). length us) (ported_marks (Some (n, 0)) (w k)));
      first = each w kept_joined m n k kept_others (λ y. slice_index_or (marks_of (kept_joined y)) 0 0 ≡ slice_index_or (marks_of (w y)) 0 0) (λ y e. ap (λ (o : Option WebCell). slice_index_or (marks_of o) 0 0) e)
          (ap (λ (o : Option WebCell). slice_index_or (marks_of o) 0 0) kept_m ∙ ap (λ (us : List ℕ). slice_index_or us 0 0) (ported_marks None (w m)))
          (ap (λ (o : Option WebCell). slice_index_or (marks_of o) 0 0) kept_n ∙ told_first 1 (ported (Some (k, 0)) (w n)) ∙ ap (λ (us : List ℕ). slice_index_or us 0 0) (ported_marks (Some (k, 0)) (w n)))
          (ap (λ (o : Option WebCell). slice_index_or (marks_of o) 0 0) kept_k ∙ ap (λ (us : List ℕ). slice_index_or us 0 0) (ported_marks (Some (n, 0)) (w k)));
      target = ap (λ (o : Option WebCell). slice_index_or (partners_of o) 0 None) kept_n ∙ ap (λ (ps : List (Option (ℕ × ℕ))). slice_index_or ps 0 None) (told_arity 1 (ported (Some (k, 0)) (w n))) ∙ ported_at (Some (k, 0)) (w n) (a.ports n kn);
      kept = ap (λ (o : Option WebCell). slice_index_or (partners_of o) 0 None) kept_k ∙ ported_at (Some (n, 0)) (w k) (a.ports k kk);
      source = λ _. ap (λ (o : Option WebCell). slice_index_or (partners_of o) 0 None) kept_m ∙ ported_at None (w m) (a.ports m km);
      target_told = ap (λ (o : Option WebCell). slice_index_or (marks_of o) 1 0) kept_n ∙ told_at 1 (ported (Some (k, 0)) (w n)) (ap (λ (us : List ℕ). length us) (ported_marks (Some (k, 0)) (w n)) ∙ a.marks n kn);
      source_told = λ e. absurd (m_not_k e);
      kept_told = λ _. ap (λ (o : Option WebCell). slice_index_or (marks_of o) 1 0) kept_k ∙ ap (λ (us : List ℕ). slice_index_or us 1 0) (ported_marks (Some (n, 0)) (w k)) ∙ equal_when (port_mark w k) RETIRED (sym (retired_mark (w k) kk) ∙ gone);
      source_same = λ _. ap (λ (o : Option WebCell). slice_index_or (marks_of o) 1 0) kept_m ∙ ap (λ (us : List ℕ). slice_index_or us 1 0) (ported_marks None (w m));
    }
