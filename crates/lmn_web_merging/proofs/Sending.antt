-- Cells go from one list to another, one after the other.
use Rattle.std.proofs.Common.{◌≡◌, ◌≢◌, ◌⊎◌, ℕ, ◌<◌, List, [], ◌∷◌, ◌++◌, length, Option, Some, None, IsSome, IfSome, is_some, refl, sym, ap, subst, ◌∙◌, inl, inr, arith}
use Rattle.std.proofs.lemmas.Bool.{eq-eqb}
use Rattle.std.proofs.lemmas.List.{append_assoc, append-nil, length-append}
use Rattle.std.specs.Option.{option_map}
use Rattle.lmn_base.specs.Lists.{In}
use Rattle.lmn_base.proofs.Lists.{in_snoc}
use Rattle.lmn_store_heap.specs.Heap.{alter}
use Rattle.lmn_store_heap.specs.Lists.{Distinct, from, after, without}
use Rattle.lmn_store_heap.proofs.ListLemmas.{in_left, in_right, without_at}
use Rattle.lmn_store_heap.proofs.Listing.{alter_at, alter_away, alter_keeps, without_first}
use Rattle.lmn_web_cells.specs.Runs.{put_before}
use Rattle.lmn_web.specs.declared.kind.CellKind.{CellKind}
use Rattle.lmn_web.specs.declared.kind.CellKind.TheVariants.{Atom, Membrane}
use Rattle.lmn_web.specs.Webs as web
use Rattle.lmn_web.specs.Webs.{WebCell, web_kind, kind_at, home_at, arity_at, cells_in, cells_of, web_label, with_home, with_list, relisted, unlinked, StandOnce}
use Rattle.lmn_web.proofs.ListedLemmas.{from_in}
use Rattle.lmn_web_merging.specs.Moves.{Goes, Moves, SendsLast, SendsFirst}

-- a cell with a home is there
pub home_some : (o : Option WebCell) → IsSome (web.home_of o) → IsSome o
home_some None s = s
home_some (Some c) s = refl

-- a cell out of its list and then at the end of another has gone there
module _ (w : ℕ → Option WebCell) (m n x : ℕ) (left : x ≢ m) where
  abbrev kx : CellKind
  kx = kind_at w x

  abbrev left_list : List ℕ
  left_list = without x (cells_in w m kx)

  abbrev u : ℕ → Option WebCell
  u = unlinked w m x

  abbrev u1 : ℕ → Option WebCell
  u1 = alter w x (option_map (with_home None))

  -- what it is itself
  pub out_self : u x ≡ option_map (with_home None) (w x)
  out_self = alter_away u1 m (option_map (with_list kx left_list)) x left ∙ alter_at w x (option_map (with_home None))

  -- the list that it leaves
  pub out_source : u m ≡ option_map (with_list kx left_list) (w m)
  out_source = alter_at u1 m (option_map (with_list kx left_list)) ∙ ap (option_map (with_list kx left_list)) (alter_away w x (option_map (with_home None)) m (λ e. left (sym e)))

  u_y : (y : ℕ) → y ≢ x → y ≢ m → u y ≡ w y
  u_y y d e = alter_away u1 m (option_map (with_list kx left_list)) y e ∙ alter_away w x (option_map (with_home None)) y d

  -- its kind
  pub out_kind : kind_at u x ≡ kx
  out_kind = ap web_kind out_self ∙ by (w x)
    where
      by : (o : Option WebCell) → web_kind (option_map (with_home None) o) ≡ web_kind o
      by None = refl
      by (Some c) = refl

  -- it is there
  pub out_there : IsSome (w x) → IsSome (u x)
  out_there s = subst (λ (o : Option WebCell). IsSome o) (sym out_self) (by (w x) s)
    where
      by : (o : Option WebCell) → IsSome o → IsSome (option_map (with_home None) o)
      by None s = s
      by (Some c) s = refl

  -- it has no home
  pub out_homeless : home_at u x ≡ None
  out_homeless = ap web.home_of out_self ∙ by (w x)
    where
      by : (o : Option WebCell) → web.home_of (option_map (with_home None) o) ≡ None
      by None = refl
      by (Some c) = refl

  -- all others are as they were
  pub out_kept : (y : ℕ) → y ≢ x → y ≢ m → u y ≡ w y
  out_kept = u_y

  module _ (came : x ≢ n) (apart : m ≢ n) where
    pub list_u : (ku : CellKind) → cells_in u n ku ≡ cells_in w n ku
    list_u ku = ap (λ (o : Option WebCell). cells_of o ku) (u_y n (λ e. came (sym e)) (λ e. apart (sym e)))

    abbrev ku : CellKind
    ku = kind_at u x

    abbrev v1 : ℕ → Option WebCell
    v1 = alter u x (option_map (with_home (Some n)))

    home_twice : (o : Option WebCell) → option_map (with_home (Some n)) (option_map (with_home None) o) ≡ option_map (with_home (Some n)) o
    home_twice None = refl
    home_twice (Some c) = refl

    -- so it goes there
    pub goes : (all : List ℕ) (v : ℕ → Option WebCell) → v ≡ relisted u n x (Some n) all → Goes w v m n x all
    goes all v e = subst (λ (f : ℕ → Option WebCell). Goes w f m n x all) (sym e) record {
      left = left;
      came = came;
      apart = apart;
      moved = alter_away v1 n (option_map (with_list ku all)) x came ∙ alter_at u x (option_map (with_home (Some n))) ∙ ap (option_map (with_home (Some n))) out_self ∙ home_twice (w x);
      source = alter_away v1 n (option_map (with_list ku all)) m apart ∙ alter_away u x (option_map (with_home (Some n))) m (λ q. left (sym q)) ∙ out_source;
      target = alter_at v1 n (option_map (with_list ku all)) ∙ ap (option_map (with_list ku all)) (alter_away u x (option_map (with_home (Some n))) n (λ q. came (sym q)) ∙ u_y n (λ q. came (sym q)) (λ q. apart (sym q)))
          ∙ (λ i. option_map (with_list (out_kind i) all) (w n));
      others = λ y d a b. alter_away v1 n (option_map (with_list ku all)) y b ∙ alter_away u x (option_map (with_home (Some n))) y d ∙ u_y y d a;
    }

-- What another home or another list leaves of a cell: its label,
pub home_label : (h : Option ℕ) (o : Option WebCell) → option_map (λ (c : WebCell). c.label) (option_map (with_home h) o) ≡ option_map (λ (c : WebCell). c.label) o
home_label h None = refl
home_label h (Some c) = refl

-- also where a list is another,
pub list_label : (k : CellKind) (xs : List ℕ) (o : Option WebCell) → option_map (λ (c : WebCell). c.label) (option_map (with_list k xs) o) ≡ option_map (λ (c : WebCell). c.label) o
list_label k xs None = refl
list_label Atom xs (Some c) = refl
list_label Membrane xs (Some c) = refl

-- its kind
pub home_kind : (h : Option ℕ) (o : Option WebCell) → web_kind (option_map (with_home h) o) ≡ web_kind o
home_kind h None = refl
home_kind h (Some c) = refl

-- its kind,
pub list_kind : (k : CellKind) (xs : List ℕ) (o : Option WebCell) → web_kind (option_map (with_list k xs) o) ≡ web_kind o
list_kind k xs None = refl
list_kind Atom xs (Some c) = refl
list_kind Membrane xs (Some c) = refl

-- its partners,
pub home_ports : (h : Option ℕ) (o : Option WebCell) → web.partners_of (option_map (with_home h) o) ≡ web.partners_of o
home_ports h None = refl
home_ports h (Some c) = refl

-- also where a list is another,
pub list_ports : (k : CellKind) (xs : List ℕ) (o : Option WebCell) → web.partners_of (option_map (with_list k xs) o) ≡ web.partners_of o
list_ports k xs None = refl
list_ports Atom xs (Some c) = refl
list_ports Membrane xs (Some c) = refl

-- that it is there,
pub home_there : (h : Option ℕ) (o : Option WebCell) → is_some (option_map (with_home h) o) ≡ is_some o
home_there h None = refl
home_there h (Some c) = refl

-- also where a list is another,
pub list_there : (k : CellKind) (xs : List ℕ) (o : Option WebCell) → is_some (option_map (with_list k xs) o) ≡ is_some o
list_there k xs None = refl
list_there k xs (Some c) = refl

-- its home,
pub list_home : (k : CellKind) (xs : List ℕ) (o : Option WebCell) → web.home_of (option_map (with_list k xs) o) ≡ web.home_of o
list_home k xs None = refl
list_home Atom xs (Some c) = refl
list_home Membrane xs (Some c) = refl

-- and its lists
pub home_cells : (h : Option ℕ) (o : Option WebCell) (j : CellKind) → cells_of (option_map (with_home h) o) j ≡ cells_of o j
home_cells h None j = refl
home_cells h (Some c) Atom = refl
home_cells h (Some c) Membrane = refl

-- the list of a kind that is another
pub list_at_kind : (k : CellKind) (xs : List ℕ) (o : Option WebCell) → IsSome o → cells_of (option_map (with_list k xs) o) k ≡ xs
list_at_kind k xs None s = absurd (cc)
list_at_kind Atom xs (Some c) s = refl
list_at_kind Membrane xs (Some c) s = refl

-- and that of the other kind
pub list_at_other : (k : CellKind) (xs : List ℕ) (o : Option WebCell) (j : CellKind) → (j ≡ k → ⊥) → cells_of (option_map (with_list k xs) o) j ≡ cells_of o j
list_at_other k xs None j d = refl
list_at_other Atom xs (Some c) Atom d = absurd (d refl)
list_at_other Atom xs (Some c) Membrane d = refl
list_at_other Membrane xs (Some c) Atom d = refl
list_at_other Membrane xs (Some c) Membrane d = absurd (d refl)

-- kinds stay where a cell leaves a list
pub out_kinds : (w : ℕ → Option WebCell) (m n x y : ℕ) → kind_at (unlinked w m x) y ≡ kind_at w y
out_kinds w m n x y =
    alter_keeps (alter w x (option_map (with_home None))) m (option_map (with_list (kind_at w x) (without x (cells_in w m (kind_at w x))))) web_kind (list_kind (kind_at w x) (without x (cells_in w m (kind_at w x)))) y
    ∙ alter_keeps w x (option_map (with_home None)) web_kind (home_kind None) y

-- two lists of a kind, one after the other
pub list_twice : (k : CellKind) (xs ys : List ℕ) (o : Option WebCell) → option_map (with_list k ys) (option_map (with_list k xs) o) ≡ option_map (with_list k ys) o
list_twice k xs ys None = refl
list_twice Atom xs ys (Some c) = refl
list_twice Membrane xs ys (Some c) = refl

-- what is a membrane is there
pub kind_there : (o : Option WebCell) → web_kind o ≡ Membrane → IsSome o
kind_there None e = absurd (cc)
kind_there (Some c) e = refl

-- what stands somewhere stands in a membrane
pub home_is_membrane : (w : ℕ → Option WebCell) → StandOnce w → (x h : ℕ) → home_at w x ≡ Some h → kind_at w h ≡ Membrane
home_is_membrane w l x h e = by (kind_at w h) refl
  where
    by : (k : CellKind) → kind_at w h ≡ k → kind_at w h ≡ Membrane
    by Atom q = absurd (subst (λ us. In x us) (l.bare h (kind_at w x) q) (l.listed h x e))
    by Membrane q = q

-- what holds of a cell that was found
pub home_of_first : {X : Type 0} (id : X → ℕ) (o : Option X) (P Q : ℕ → Type 0) → ((q : ℕ) → P q → Q q) → IfSome o (λ x. P (id x)) → IfSome o (λ x. Q (id x))
home_of_first id None P Q h i = tt
home_of_first id (Some x) P Q h i = h (id x) i

-- what a cell that has gone has as its home
gone_home : (n m : ℕ) (o q : Option WebCell) → q ≡ option_map (with_home (Some n)) o → web.home_of q ≡ Some m → n ≡ m
gone_home n m None q e h = absurd (let z : None ≡ Some m = sym (ap web.home_of e) ∙ h in cc)
gone_home n m (Some c) q e h = (let z : Some n ≡ Some m = sym (ap web.home_of e) ∙ h in cc)

-- a cell before the first of a list
pub put_first : (x a : ℕ) (xs : List ℕ) → from (Some a) xs ≡ xs → put_before x a xs ≡ x ∷ xs
put_first x a xs e = subst (λ us. put_before x a us ≡ x ∷ us) e (rw (eq-eqb a a refl) refl)

module _ (w : ℕ → Option WebCell) (l : StandOnce w) (m n : ℕ) (k : CellKind) (apart : m ≢ n) (outside : home_at w n ≢ Some m) (source : kind_at w m ≡ Membrane) (target : kind_at w n ≡ Membrane) where
  own_home : (y : ℕ) → In y (cells_in w m k) → (y ≢ m) × (y ≢ n)
  own_home y i = let h = l.homes m y k i in (h.2, λ e. outside (ap (home_at w) (sym e) ∙ h.0))

  -- what stays while cells go
  module _ (v : ℕ → Option WebCell) (gone rest all : List ℕ) (mv : Moves w v m n k gone rest all) where
    -- the kinds of both
    pub source_kind : kind_at v m ≡ Membrane
    source_kind = ap web_kind mv.source ∙ list_kind k rest (w m) ∙ source

    pub target_kind : kind_at v n ≡ Membrane
    target_kind = ap web_kind mv.target ∙ list_kind k all (w n) ∙ target

    -- where the second one stands
    pub target_home : home_at v n ≢ Some m
    target_home e = outside (sym (ap web.home_of mv.target ∙ list_home k all (w n)) ∙ e)

    -- their lists
    pub source_list : cells_in v m k ≡ rest
    source_list = ap (λ (o : Option WebCell). cells_of o k) mv.source ∙ list_at_kind k rest (w m) (kind_there (w m) source)

    pub target_list : cells_in v n k ≡ all
    target_list = ap (λ (o : Option WebCell). cells_of o k) mv.target ∙ list_at_kind k all (w n) (kind_there (w n) target)

    -- what stands in the first one isn't the second
    pub next_differs : (x : ℕ) → home_at v x ≡ Some m → x ≢ n
    next_differs x h e = target_home (ap (home_at v) (sym e) ∙ h)

    pub next_elsewhere : (x : ℕ) → home_at v x ≡ Some m → home_at v x ≢ Some n
    next_elsewhere x h e = apart (let z : Some m ≡ Some n = sym h ∙ e in cc)

    -- one more goes
    moves_on : (x : ℕ) → home_at v x ≡ Some m → kind_at v x ≡ k → (v2 : ℕ → Option WebCell) (all2 : List ℕ) → Goes v v2 m n x all2 → (gone2 rest2 : List ℕ) → without x rest ≡ rest2
        → ((y : ℕ) → In y gone2 → (y ≡ x) ⊎ In y gone) → ((y : ℕ) → In y gone → In y gone2) → In x gone2 → ((y : ℕ) → In y gone2 → In y (cells_in w m k))
        → Moves w v2 m n k gone2 rest2 all2
    moves_on x h e v2 all2 s gone2 rest2 r either more here own =
        let fresh : In x gone → ⊥ = λ i. apart (sym (gone_home n m (w x) (v x) (mv.moved x i) h)) in
        let same : v x ≡ w x = mv.others x s.left s.came fresh in
        record {
          source = s.source ∙ (λ i. option_map (with_list (e i) (without x (cells_in v m (e i)))) (v m)) ∙ ap (λ us. option_map (with_list k (without x us)) (v m)) source_list ∙ ap (λ us. option_map (with_list k us) (v m)) r
              ∙ ap (option_map (with_list k rest2)) mv.source ∙ list_twice k rest rest2 (w m);
          target = s.target ∙ (λ i. option_map (with_list (e i) all2) (v n)) ∙ ap (option_map (with_list k all2)) mv.target ∙ list_twice k all all2 (w n);
          moved = λ y i. elim (either y i) [
            | inl q ↦ subst (λ z. v2 z ≡ option_map (with_home (Some n)) (w z)) (sym q) (s.moved ∙ ap (option_map (with_home (Some n))) same)
            | inr j ↦ (let d = own_home y (own y i) in s.others y (λ q. fresh (subst (λ z. In z gone) q j)) d.0 d.1 ∙ mv.moved y j)
          ];
          others = λ y a b c. s.others y (λ q. c (subst (λ z. In z gone2) (sym q) here)) a b ∙ mv.others y a b (λ i. c (more y i));
        }

  module _ (v : ℕ → Option WebCell) (lv : StandOnce v) where
    -- The first one goes to the end.
    module _ (s : SendsLast w v m n k) (x : ℕ) (first : from (Some x) (cells_in v m k) ≡ cells_in v m k) where
      in_list : In x (cells_in v m k)
      in_list = from_in (Some x) (cells_in v m k) first x refl

      pub first_home : home_at v x ≡ Some m
      first_home = (lv.homes m x k in_list).0

      pub first_kind : kind_at v x ≡ k
      first_kind = (lv.homes m x k in_list).1

      abbrev behind : List ℕ
      behind = after x s.rest

      rest_is : s.rest ≡ x ∷ behind
      rest_is = sym (subst (λ us. from (Some x) us ≡ us) (source_list v s.gone s.rest (cells_in w n k ++ s.gone) s.moves) first)

      pub sent_last : (v2 : ℕ → Option WebCell) → Goes v v2 m n x (cells_in v n k ++ x ∷ []) → SendsLast w v2 m n k
      sent_last v2 g =
          let o : cells_in w m k ≡ (s.gone ++ x ∷ []) ++ behind = s.own ∙ ap (λ us. s.gone ++ us) rest_is ∙ sym (append_assoc s.gone (x ∷ []) behind) in
          let all : cells_in v n k ++ x ∷ [] ≡ cells_in w n k ++ (s.gone ++ x ∷ []) = ap (λ us. us ++ x ∷ []) (target_list v s.gone s.rest (cells_in w n k ++ s.gone) s.moves) ∙ append_assoc (cells_in w n k) s.gone (x ∷ []) in
          let first_of : from (Some x) s.rest ≡ s.rest = subst (λ us. from (Some x) us ≡ us) (source_list v s.gone s.rest (cells_in w n k ++ s.gone) s.moves) first in
          record {
            gone = s.gone ++ x ∷ [];
            rest = behind;
            own = o;
            moves = subst (λ us. Moves w v2 m n k (s.gone ++ x ∷ []) behind us) all
                (moves_on v s.gone s.rest (cells_in w n k ++ s.gone) s.moves x first_home first_kind v2 (cells_in v n k ++ x ∷ []) g (s.gone ++ x ∷ []) behind (without_first x s.rest first_of)
                (λ y i. elim (in_snoc y x s.gone i) [ inl j ↦ inr j | inr e ↦ inl e ]) (λ y i. in_left y s.gone (x ∷ []) i) (in_right x s.gone (x ∷ []) (inl refl))
                (λ y i. subst (λ us. In y us) (sym o) (in_left y (s.gone ++ x ∷ []) behind i)));
          }

      pub last_fewer : (v2 : ℕ → Option WebCell) → Goes v v2 m n x (cells_in v n k ++ x ∷ []) → length (cells_in v2 m k) < length (cells_in v m k)
      unfolding sent_last
      last_fewer v2 g =
          let p = sent_last v2 g in
          let a = source_list v2 p.gone p.rest (cells_in w n k ++ p.gone) p.moves in
          let b = source_list v s.gone s.rest (cells_in w n k ++ s.gone) s.moves in
          subst (λ us. length us < length (cells_in v m k)) (sym a) (subst (λ us. length behind < length us) (sym (b ∙ rest_is)) (omega arith))

    -- The last one goes to the front.
    module _ (s : SendsFirst w v m n k) (x : ℕ) (us : List ℕ) (last : cells_in v m k ≡ us ++ x ∷ []) where
      last_in : In x (cells_in v m k)
      last_in = subst (λ zs. In x zs) (sym last) (in_right x us (x ∷ []) (inl refl))

      pub last_home : home_at v x ≡ Some m
      last_home = (lv.homes m x k last_in).0

      pub last_kind : kind_at v x ≡ k
      last_kind = (lv.homes m x k last_in).1

      before_is : s.rest ≡ us ++ x ∷ []
      before_is = sym (source_list v s.gone s.rest (s.gone ++ cells_in w n k) s.moves) ∙ last

      pub sent_first : (v2 : ℕ → Option WebCell) → Goes v v2 m n x (x ∷ cells_in v n k) → SendsFirst w v2 m n k
      sent_first v2 g =
          let o : cells_in w m k ≡ us ++ (x ∷ s.gone) = s.own ∙ ap (λ zs. zs ++ s.gone) before_is ∙ append_assoc us (x ∷ []) s.gone in
          let all : x ∷ cells_in v n k ≡ (x ∷ s.gone) ++ cells_in w n k = ap (λ zs. x ∷ zs) (target_list v s.gone s.rest (s.gone ++ cells_in w n k) s.moves) in
          let left : without x s.rest ≡ us = ap (without x) before_is ∙ without_at us x [] (subst Distinct last (lv.once m k)) ∙ append-nil us in
          record {
            gone = x ∷ s.gone;
            rest = us;
            own = o;
            moves = subst (λ zs. Moves w v2 m n k (x ∷ s.gone) us zs) all
                (moves_on v s.gone s.rest (s.gone ++ cells_in w n k) s.moves x last_home last_kind v2 (x ∷ cells_in v n k) g (x ∷ s.gone) us left
                (λ y i. elim i [ inl e ↦ inl (sym e) | inr j ↦ inr j ]) (λ y i. inr i) (inl refl)
                (λ y i. subst (λ zs. In y zs) (sym o) (in_right y us (x ∷ s.gone) i)));
          }

      pub first_fewer : (v2 : ℕ → Option WebCell) → Goes v v2 m n x (x ∷ cells_in v n k) → length (cells_in v2 m k) < length (cells_in v m k)
      unfolding sent_first
      first_fewer v2 g =
          let p = sent_first v2 g in
          let a = source_list v2 p.gone p.rest (p.gone ++ cells_in w n k) p.moves in
          let len = length-append us (x ∷ []) in
          subst (λ zs. length zs < length (cells_in v m k)) (sym a) (subst (λ zs. length us < length zs) (sym last) (omega (arith, len)))

  same_self : (xs : List ℕ) → cells_in w m k ≡ xs → w m ≡ option_map (with_list k xs) (w m)
  same_self xs e = by (w m) k e
    where
      by : (o : Option WebCell) (j : CellKind) → cells_of o j ≡ xs → o ≡ option_map (with_list j xs) o
      by None j e = refl
      by (Some c) Atom e = λ i. Some (record c { atoms = e i })
      by (Some c) Membrane e = λ i. Some (record c { membranes = e i })

  same_other : (xs : List ℕ) → cells_in w n k ≡ xs → w n ≡ option_map (with_list k xs) (w n)
  same_other xs e = by (w n) k e
    where
      by : (o : Option WebCell) (j : CellKind) → cells_of o j ≡ xs → o ≡ option_map (with_list j xs) o
      by None j e = refl
      by (Some c) Atom e = λ i. Some (record c { atoms = e i })
      by (Some c) Membrane e = λ i. Some (record c { membranes = e i })

  -- At first none has gone.
  pub none_last : SendsLast w w m n k
  none_last = record {
    gone = [];
    rest = cells_in w m k;
    own = refl;
    moves = record { source = same_self (cells_in w m k) refl; target = same_other (cells_in w n k ++ []) (sym (append-nil (cells_in w n k))); moved = λ x i. absurd i; others = λ x a b c. refl };
  }

  pub none_first : SendsFirst w w m n k
  none_first = record {
    gone = [];
    rest = cells_in w m k;
    own = sym (append-nil (cells_in w m k));
    moves = record { source = same_self (cells_in w m k) refl; target = same_other (cells_in w n k) refl; moved = λ x i. absurd i; others = λ x a b c. refl };
  }

  -- At last all have.
  pub all_last : (v : ℕ → Option WebCell) → SendsLast w v m n k → cells_in v m k ≡ [] → Moves w v m n k (cells_in w m k) [] (cells_in w n k ++ cells_in w m k)
  all_last v s e =
      let r : s.rest ≡ [] = sym (source_list v s.gone s.rest (cells_in w n k ++ s.gone) s.moves) ∙ e in
      let g : s.gone ≡ cells_in w m k = sym (append-nil s.gone) ∙ ap (λ us. s.gone ++ us) (sym r) ∙ sym s.own in
      subst (λ us. Moves w v m n k us [] (cells_in w n k ++ us)) g (subst (λ us. Moves w v m n k s.gone us (cells_in w n k ++ s.gone)) r s.moves)

  pub all_first : (v : ℕ → Option WebCell) → SendsFirst w v m n k → cells_in v m k ≡ [] → Moves w v m n k (cells_in w m k) [] (cells_in w m k ++ cells_in w n k)
  all_first v s e =
      let r : s.rest ≡ [] = sym (source_list v s.gone s.rest (s.gone ++ cells_in w n k) s.moves) ∙ e in
      let g : s.gone ≡ cells_in w m k = ap (λ us. us ++ s.gone) (sym r) ∙ sym s.own in
      subst (λ us. Moves w v m n k us [] (us ++ cells_in w n k)) g (subst (λ us. Moves w v m n k s.gone us (s.gone ++ cells_in w n k)) r s.moves)
