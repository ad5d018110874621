-- The calls that file an atom by its class.
use Rattle.std.proofs.Common.{◌≡◌, ◌⊎◌, ◌<◌, ℕ, suc, true, false, List, [], ◌∷◌, ◌++◌, length, Option, Some, None, IsSome, refl, sym, ap, subst, ◌∙◌, inl, inr, arith}
use Rattle.lmn_base.specs.Lists.{In}
use Rattle.std.proofs.lemmas.Option.{same_Some}
use Rattle.lmn_base.proofs.Lists.{last_one, plus_nothing}
use Rattle.lmn_store_heap.specs.Lists.{Distinct, without}
use Rattle.lmn_store_heap.proofs.ListLemmas.{apart, in_split, without_at}
use Rattle.lmn_web_cells.specs.Cells.{HeldCell, HaveLinks, IsLinkWord, link_of, numbers_of}
use Rattle.lmn_web_cells.specs.Runs.{link_in, put_before}
use Rattle.lmn_web_cells.proofs.InsertLemmas.{put_at}
use Rattle.lmn_web.specs.Classes.{ClassTree, Bare, Fork, Hung, lasts, top, IsTree, IsSorted, lowest_below, class_node, key_in, is_key, of_class, ends_class, Linked, IsRing, place_in, begun, lengthened, put_inside, closed, shortened, dropped, MayFile, ClassBecomes, Refiled}
use Rattle.lmn_web_cells.specs.Links.{CLASS_NEXT, CLASS_PREV, EVEN, ODD, LEADERS}
use Rattle.lmn_web.proofs.Reclassing.{key_same, key_true}
use Rattle.lmn_web.proofs.Rings.{linked_prev, linked_next, linked_some, ring_last, ring_first, ring_some, ring_prev, ring_next, ring_next_some, ring_end}
use Rattle.lmn_web.proofs.ClassEnds.{last_ends, ends_last, even_alive}
use Rattle.lmn_web.proofs.ClassTrees.{beside_not, some_lowest, sorted_apart}
use Rattle.lmn_web.proofs.ClassPlaces.{at, fork_of, holds_there, holds_atoms, last_in, class_none}
use Rattle.lmn_web.proofs.ClassRuns.{inside_classed, inside_touches, closed_classed, closed_touches, shorter_classed, shorter_touches, bare_classed, bare_touches, side_filed, begun_classed, begun_touches, longer_classed, longer_touches}
use Rattle.lmn_store_heap.proofs.Filters.{in_filter, filter_in, distinct_filter}

-- the last one of a class that is found, with the ring of the class
pub record LastFound (f : ℕ → Option HeldCell) (xs : List ℕ) (t : ClassTree) (p : ℕ × ℕ) (l : ℕ) : Type 0 where
  pub inside : In l (lasts t)
  pub key : is_key (key_in f l) p ≡ true
  pub alive : IsSome (f l)
  pub ring : IsRing f l (of_class f p xs)

pub last_found : (f : ℕ → Option HeldCell) (m c : ℕ) (xs : List ℕ) (t : ClassTree) → MayFile f m c xs t → (p : ℕ × ℕ) (l : ℕ) → top (place_in f p m t).tree ≡ Some l → LastFound f xs t p l
last_found f m c xs t a p l e = let w = last_in f m xs t a.classed a.no_m p l e in record {
  inside = w.0;
  key = w.1;
  alive = a.alive l (a.classed.inside l w.0);
  ring = subst (λ q. IsRing f l (of_class f q xs)) (key_true (key_in f l) p w.1) (a.classed.rings l w.0);
}

-- its first one is there
pub first_alive : (f : ℕ → Option HeldCell) (m c : ℕ) (xs : List ℕ) (t : ClassTree) → MayFile f m c xs t → (p : ℕ × ℕ) (l : ℕ) → top (place_in f p m t).tree ≡ Some l → (d : ℕ) → link_in f l CLASS_NEXT ≡ Some d → IsSome (f d)
first_alive f m c xs t a p l e d s =
    let w = last_found f m c xs t a p l e in
    a.alive d (in_filter (λ z. is_key (key_in f z) p) d xs (ring_first (class_node f) l (of_class f p xs) w.ring.1 w.ring.2 w.ring.0 d s).0).0

-- and there is one
pub first_some : (f : ℕ → Option HeldCell) (m c : ℕ) (xs : List ℕ) (t : ClassTree) → MayFile f m c xs t → (p : ℕ × ℕ) (l : ℕ) → top (place_in f p m t).tree ≡ Some l → link_in f l CLASS_NEXT ≡ None → ⊥
first_some f m c xs t a p l e s =
    let w = last_found f m c xs t a p l e in let r = ring_some (class_node f) l (of_class f p xs) w.ring.1 w.ring.2 w.ring.0 in
    let z : ◌≡◌ {A = Option ℕ} None (Some r.0) = sym s ∙ r.1 in cc

-- an atom begins a class
pub filed_begun : (f : ℕ → Option HeldCell) → HaveLinks f → (m c : ℕ) (xs : List ℕ) (t : ClassTree) (xs' : List ℕ) → MayFile f m c xs t → (In c xs → ⊥) → ClassBecomes f (key_in f c) xs (of_class f (key_in f c) xs ++ c ∷ []) xs' → top (place_in f (key_in f c) m t).tree ≡ None
    → Refiled f (begun f (place_in f (key_in f c) m t).holder (place_in f (key_in f c) m t).link c) m (c ∷ xs) (key_in f c) xs'
filed_begun f have m c xs t xs' a fresh one none =
    let alone : of_class f (key_in f c) xs' ≡ c ∷ [] = one.own ∙ ap (λ (us : List ℕ). us ++ c ∷ []) (class_none f m xs t a.classed a.no_m (key_in f c) none) in
    record {
      touches = begun_touches f m c xs t have a.classed a.alive a.once a.there_m a.there_c a.no_m a.not_m xs' one.others alone fresh none;
      tree = _;
      classed = begun_classed f m c xs t have a.classed a.alive a.once a.there_m a.there_c a.no_m a.not_m xs' one.others alone fresh none;
    }

-- or is the last one of it
pub filed_longer : (f : ℕ → Option HeldCell) → HaveLinks f → (m c : ℕ) (xs : List ℕ) (t : ClassTree) (xs' : List ℕ) → MayFile f m c xs t → (In c xs → ⊥) → ClassBecomes f (key_in f c) xs (of_class f (key_in f c) xs ++ c ∷ []) xs' → (l d : ℕ) → top (place_in f (key_in f c) m t).tree ≡ Some l
    → link_in f l CLASS_NEXT ≡ Some d → Refiled f (lengthened f m (place_in f (key_in f c) m t).holder (place_in f (key_in f c) m t).link l d c) m (c ∷ xs) (key_in f c) xs'
filed_longer f have m c xs t xs' a fresh one l d e s =
    let y = fork_of (place_in f (key_in f c) m t).tree l e in
    record {
      touches = longer_touches f m c xs t have a.classed a.alive a.once a.there_m a.there_c a.no_m a.not_m xs' l d one.others one.own fresh y.0 y.1 y.2 s;
      tree = _;
      classed = longer_classed f m c xs t have a.classed a.alive a.once a.there_m a.there_c a.no_m a.not_m xs' l d one.others one.own fresh y.0 y.1 y.2 s;
    }

-- An atom that is filed

-- its class has a last one
pub last_there : (f : ℕ → Option HeldCell) (m c : ℕ) (xs : List ℕ) (t : ClassTree) → MayFile f m c xs t → In c xs → (l : ℕ) × (top (place_in f (key_in f c) m t).tree ≡ Some l)
last_there f m c xs t a i = by (top (place_in f (key_in f c) m t).tree) refl
  where
    by : (o : Option ℕ) → top (place_in f (key_in f c) m t).tree ≡ o → (l : ℕ) × (top (place_in f (key_in f c) m t).tree ≡ Some l)
    by None e = absurd (subst (λ us. In c us) (class_none f m xs t a.classed a.no_m (key_in f c) e) (filter_in (λ z. is_key (key_in f z) (key_in f c)) c xs i (key_same (key_in f c))))
    by (Some l) e = (l, e)

-- where it hangs

-- at a cell that is there
pub holder_alive : (f : ℕ → Option HeldCell) (m c : ℕ) (xs : List ℕ) (t : ClassTree) → MayFile f m c xs t → (p : ℕ × ℕ) → IsSome (f (place_in f p m t).holder)
holder_alive f m c xs t a p = holds_there f m xs (place_in f p m t).holder (place_in f p m t).link (holds_atoms f m xs t a.classed a.no_m p) a.there_m a.alive

-- in a word of one of its links
pub holder_word : (f : ℕ → Option HeldCell) (m c : ℕ) (xs : List ℕ) (t : ClassTree) → MayFile f m c xs t → (p : ℕ × ℕ) (word : ℕ) → (word < 7) ⊎ (word ≡ 14) → link_of word ≡ (place_in f p m t).link → IsLinkWord (f (place_in f p m t).holder) word
holder_word f m c xs t a p word (inl low) e = inl low
holder_word f m c xs t a p word (inr last) e =
    let head : (place_in f p m t).link ≡ LEADERS = sym e ∙ ap link_of last in
    inr (
      last,
      elim (holds_atoms f m xs t a.classed a.no_m p) [
        | inl s ↦ subst (λ z. length (numbers_of (f z)) ≡ 8) (sym s.0) a.membrane
        | inr i ↦ elim i.1 [ inl s ↦ absurd (omega (arith, head, s)) | inr s ↦ absurd (omega (arith, head, s)) ]
      ],
    )

-- where it stands in its class
pub record Among (f : ℕ → Option HeldCell) (m : ℕ) (xs : List ℕ) (t : ClassTree) (c : ℕ) : Type 0 where
  pub us : List ℕ
  pub vs : List ℕ
  pub is : of_class f (key_in f c) xs ≡ us ++ (c ∷ vs)
  pub once : Distinct (us ++ (c ∷ vs))
  pub l : ℕ
  pub hung : top (place_in f (key_in f c) m t).tree ≡ Some l
  pub last_found : LastFound f xs t (key_in f c) l
  pub ring : IsRing f l (us ++ (c ∷ vs))

pub among : (f : ℕ → Option HeldCell) (m c : ℕ) (xs : List ℕ) (t : ClassTree) → MayFile f m c xs t → In c xs → Among f m xs t c
among f m c xs t a i =
    let s = in_split c (of_class f (key_in f c) xs) (filter_in (λ z. is_key (key_in f z) (key_in f c)) c xs i (key_same (key_in f c))) in
    let l = last_there f m c xs t a i in
    let w = last_found f m c xs t a (key_in f c) l.0 l.1 in
    record {
      us = s.0;
      vs = s.1;
      is = s.2;
      once = subst Distinct s.2 (distinct_filter (λ z. is_key (key_in f z) (key_in f c)) xs a.once);
      l = l.0;
      hung = l.1;
      last_found = w;
      ring = subst (λ us. IsRing f l.0 us) s.2 w.ring;
    }

-- an atom of its class is there
pub class_alive : (f : ℕ → Option HeldCell) (m c : ℕ) (xs : List ℕ) (t : ClassTree) → MayFile f m c xs t → (w : Among f m xs t c) → (z : ℕ) → In z (w.us ++ (c ∷ w.vs)) → IsSome (f z)
class_alive f m c xs t a w z i = a.alive z (in_filter (λ y. is_key (key_in f y) (key_in f c)) z xs (subst (λ us. In z us) (sym w.is) i)).0

-- what stands before it is there
pub prev_alive : (f : ℕ → Option HeldCell) (m c : ℕ) (xs : List ℕ) (t : ClassTree) → MayFile f m c xs t → In c xs → (q : ℕ) → link_in f c CLASS_PREV ≡ Some q → IsSome (f q)
prev_alive f m c xs t a i q e = let w = among f m c xs t a i in class_alive f m c xs t a w q (ring_prev (class_node f) w.l w.us c w.vs w.ring.1 w.ring.0 w.ring.2 q e)

-- and is filed too
pub prev_inside : (f : ℕ → Option HeldCell) (m c : ℕ) (xs : List ℕ) (t : ClassTree) → MayFile f m c xs t → In c xs → (q : ℕ) → link_in f c CLASS_PREV ≡ Some q → In q xs × (is_key (key_in f q) (key_in f c) ≡ true)
prev_inside f m c xs t a i q e =
    let w = among f m c xs t a i in
    in_filter (λ y. is_key (key_in f y) (key_in f c)) q xs (subst (λ us. In q us) (sym w.is) (ring_prev (class_node f) w.l w.us c w.vs w.ring.1 w.ring.0 w.ring.2 q e))

-- what stands behind it is there
pub next_alive : (f : ℕ → Option HeldCell) (m c : ℕ) (xs : List ℕ) (t : ClassTree) → MayFile f m c xs t → In c xs → (q : ℕ) → link_in f c CLASS_NEXT ≡ Some q → IsSome (f q)
next_alive f m c xs t a i q e = let w = among f m c xs t a i in class_alive f m c xs t a w q (ring_next (class_node f) w.l w.us c w.vs w.ring.1 w.ring.0 w.ring.2 q e)

-- something stands before it
pub prev_some : (f : ℕ → Option HeldCell) (m c : ℕ) (xs : List ℕ) (t : ClassTree) → MayFile f m c xs t → In c xs → link_in f c CLASS_PREV ≡ None → ⊥
prev_some f m c xs t a i e =
    let w = among f m c xs t a i in let r = linked_some (class_node f) w.l w.us c w.vs w.ring.0 in
    let z : ◌≡◌ {A = Option ℕ} None (Some r.0) = sym e ∙ r.1 in cc

-- and behind it
pub next_some : (f : ℕ → Option HeldCell) (m c : ℕ) (xs : List ℕ) (t : ClassTree) → MayFile f m c xs t → In c xs → link_in f c CLASS_NEXT ≡ None → ⊥
next_some f m c xs t a i e =
    let w = among f m c xs t a i in let r = ring_next_some (class_node f) w.l w.us c w.vs w.ring.1 w.ring.0 w.ring.2 in
    let z : ◌≡◌ {A = Option ℕ} None (Some r.0) = sym e ∙ r.1 in cc

-- what is read to tell whether it is the last one is there
pub even_there : (f : ℕ → Option HeldCell) (m c : ℕ) (xs : List ℕ) (t : ClassTree) → MayFile f m c xs t → In c xs → (d : ℕ) → link_in f c EVEN ≡ Some d → IsSome (f d)
even_there f m c xs t a i d e = even_alive f m xs t a.classed a.kinds a.home a.there_m a.alive c i d e

-- the last one of its class is found
pub last_is : (f : ℕ → Option HeldCell) (m c : ℕ) (xs : List ℕ) (t : ClassTree) → MayFile f m c xs t → (w : Among f m xs t c) → (z : ℕ) → In z xs → is_key (key_in f z) (key_in f c) ≡ true → ends_class f z ≡ true → w.l ≡ z
last_is f m c xs t a w z i e n =
    sorted_apart f 0 t a.classed.sorted w.l z w.last_found.inside (ends_last f m xs t a.classed a.kinds a.home z i n) (key_true (key_in f w.l) (key_in f c) w.last_found.key ∙ sym (key_true (key_in f z) (key_in f c) e))

-- it leaves, and isn't the last
pub filed_closed : (f : ℕ → Option HeldCell) → HaveLinks f → (m c : ℕ) (xs : List ℕ) (t : ClassTree) (xs' : List ℕ) → MayFile f m c xs t → In c xs → ClassBecomes f (key_in f c) xs (without c (of_class f (key_in f c) xs)) xs' → (pr nx : ℕ) → link_in f c CLASS_PREV ≡ Some pr → link_in f c CLASS_NEXT ≡ Some nx → ends_class f c ≡ false
    → Refiled f (closed f pr nx) m xs (key_in f c) xs'
filed_closed f have m c xs t xs' a i one pr nx prev next inner =
    let w = among f m c xs t a i in
    let behind : (ws : List ℕ) × (w.vs ≡ nx ∷ ws) = elim (linked_next (class_node f) w.l w.us c w.vs w.ring.0 nx next) [
      | inl s ↦ absurd (
          let same : w.us ++ c ∷ [] ≡ w.ring.1 ++ w.l ∷ [] = ap (λ ws. w.us ++ (c ∷ ws)) (sym s) ∙ w.ring.2 in
          let is_c : w.l ≡ c = sym (last_one w.us w.ring.1 c w.l same).1 in
          let z : true ≡ false = sym (last_ends f m xs t a.classed a.kinds a.home w.l w.last_found.inside) ∙ ap (ends_class f) is_c ∙ inner in cc
          )
      | inr s ↦ s
    ] in
    let cut : of_class f (key_in f c) xs ≡ w.us ++ (c ∷ nx ∷ behind.0) = w.is ∙ ap (λ ws. w.us ++ (c ∷ ws)) behind.1 in
    let inside : of_class f (key_in f c) xs' ≡ w.us ++ (nx ∷ behind.0) = one.own ∙ ap (without c) cut ∙ without_at w.us c (nx ∷ behind.0) (subst (λ ws. Distinct (w.us ++ (c ∷ ws))) behind.1 w.once) in
    let pr_in : In pr (of_class f (key_in f c) xs) = subst (λ us. In pr us) (sym w.is) (ring_prev (class_node f) w.l w.us c w.vs w.ring.1 w.ring.0 w.ring.2 pr prev) in
    let nx_in : In nx (of_class f (key_in f c) xs) = subst (λ us. In nx us) (sym w.is) (ring_next (class_node f) w.l w.us c w.vs w.ring.1 w.ring.0 w.ring.2 nx next) in
    record {
      touches = closed_touches f m c xs t have a.classed a.alive a.once a.there_m a.there_c a.no_m a.not_m pr nx pr_in nx_in;
      tree = t;
      classed = closed_classed f m c xs t have a.classed a.alive a.once a.there_m a.there_c a.no_m a.not_m pr nx pr_in nx_in xs' w.us behind.0 w.l one.others cut inside w.last_found.inside w.last_found.key prev;
    }

-- The last one leaves

-- none stands behind it
last_behind : (f : ℕ → Option HeldCell) (m c : ℕ) (xs : List ℕ) (t : ClassTree) → MayFile f m c xs t → In c xs → ends_class f c ≡ true → (w : Among f m xs t c) → (w.l ≡ c) × (w.vs ≡ [])
last_behind f m c xs t a i last w =
    let same : w.l ≡ c = last_is f m c xs t a w c i (key_same (key_in f c)) last in
    (same, ring_end c w.us w.vs w.ring.1 (w.ring.2 ∙ ap (λ z. w.ring.1 ++ z ∷ []) same) w.once)

-- it is found
pub hung_itself : (f : ℕ → Option HeldCell) (m c : ℕ) (xs : List ℕ) (t : ClassTree) → MayFile f m c xs t → In c xs → ends_class f c ≡ true → top (place_in f (key_in f c) m t).tree ≡ Some c
hung_itself f m c xs t a i last = let w = among f m c xs t a i in w.hung ∙ ap Some (last_behind f m c xs t a i last w).0

-- it leaves, and the one before it is the last
pub filed_shorter : (f : ℕ → Option HeldCell) → HaveLinks f → (m c : ℕ) (xs : List ℕ) (t : ClassTree) (xs' : List ℕ) → MayFile f m c xs t → In c xs → ClassBecomes f (key_in f c) xs (without c (of_class f (key_in f c) xs)) xs' → (pr nx : ℕ) → ends_class f c ≡ true → link_in f c CLASS_PREV ≡ Some pr → link_in f c CLASS_NEXT ≡ Some nx
    → ends_class f pr ≡ false → Refiled f (shortened f (place_in f (key_in f c) m t).holder (place_in f (key_in f c) m t).link c pr nx) m xs (key_in f c) xs'
filed_shorter f have m c xs t xs' a i one pr nx last prev next inner =
    let w = among f m c xs t a i in let b = last_behind f m c xs t a i last w in
    let front : (ws : List ℕ) × (w.us ≡ nx ∷ ws) = by w.l w.us w.vs b.0 w.ring.0 in
    let alone : w.us ++ (c ∷ w.vs) ≡ nx ∷ (front.0 ++ c ∷ []) = (λ u. front.1 u ++ (c ∷ b.1 u)) in
    let cut : of_class f (key_in f c) xs ≡ nx ∷ (front.0 ++ c ∷ []) = w.is ∙ alone in
    let inside : of_class f (key_in f c) xs' ≡ nx ∷ front.0 = one.own ∙ ap (without c) cut ∙ without_at (nx ∷ front.0) c [] (subst Distinct alone w.once) ∙ plus_nothing (nx ∷ front.0) in
    let k = fork_of (place_in f (key_in f c) m t).tree c (hung_itself f m c xs t a i last) in
    record {
      touches = shorter_touches f m c xs t have a.classed a.alive a.once a.there_m a.there_c a.no_m a.not_m xs' front.0 pr nx one.others cut inside k.0 k.1 k.2 prev;
      tree = _;
      classed = shorter_classed f m c xs t have a.classed a.alive a.once a.there_m a.there_c a.no_m a.not_m xs' front.0 pr nx one.others cut inside k.0 k.1 k.2 prev;
    }
  where
    by : (l : ℕ) (us vs : List ℕ) → l ≡ c → Linked (class_node f) l (us ++ (c ∷ vs)) → (ws : List ℕ) × (us ≡ nx ∷ ws)
    by l [] vs s k =
        let e : l ≡ pr = same_Some l pr (sym k.1 ∙ prev) in
        absurd (let z : true ≡ false = sym last ∙ ap (ends_class f) (sym s ∙ e) ∙ inner in cc)
    by l (u ∷ us) vs s k = (us, ap (λ z. z ∷ us) (same_Some u nx (sym k.0 ∙ ap (λ z. link_in f z CLASS_NEXT) s ∙ next)))

-- the tree from there on
pub begins_tree : (f : ℕ → Option HeldCell) (m c : ℕ) (xs : List ℕ) (t : ClassTree) → MayFile f m c xs t → In c xs → ends_class f c ≡ true → (a : ClassTree) × (b : ClassTree) × ((place_in f (key_in f c) m t).tree ≡ Fork c a b)
begins_tree f m c xs t a i last = fork_of (place_in f (key_in f c) m t).tree c (hung_itself f m c xs t a i last)

-- below it
pub below_is : (f : ℕ → Option HeldCell) (m c : ℕ) (xs : List ℕ) (t : ClassTree) → MayFile f m c xs t → (x : ℕ) (a b : ClassTree) → (place_in f (key_in f c) m t).tree ≡ Fork x a b → IsTree f (link_in f x EVEN) a × IsTree f (link_in f x ODD) b × (d : ℕ) × IsSorted f d a × IsSorted f d b
below_is f m c xs t may x a b is =
    let w = place_in f (key_in f c) m t in let h = (at f m xs t may.classed may.no_m (key_in f c)).hole in
    let n : IsTree f (link_in f w.holder w.link) (Fork x a b) = subst (λ u. IsTree f (link_in f w.holder w.link) u) is (h.part may.classed.tree) in
    let s : IsSorted f w.depth (Fork x a b) = subst (λ u. IsSorted f w.depth u) is h.sorted in
    (n.2, n.3, suc w.depth, s.2, s.3)

-- or its class is gone, and one from below it, if there is one, takes its place
pub filed_dropped : (f : ℕ → Option HeldCell) → HaveLinks f → (m c : ℕ) (xs : List ℕ) (t : ClassTree) (xs' : List ℕ) → MayFile f m c xs t → In c xs → ClassBecomes f (key_in f c) xs (without c (of_class f (key_in f c) xs)) xs' → (pr : ℕ) → ends_class f c ≡ true → link_in f c CLASS_PREV ≡ Some pr → ends_class f pr ≡ true
    → (l r : ClassTree) → (place_in f (key_in f c) m t).tree ≡ Fork c l r
    → Refiled f (dropped f (place_in f (key_in f c) m t).holder (place_in f (key_in f c) m t).link c (lowest_below c l r).holder (lowest_below c l r).link (lowest_below c l r).last) m xs (key_in f c) xs'
filed_dropped f have m c xs t xs' a i one pr last prev alone l r is = by l r is
  where
    inside : of_class f (key_in f c) xs' ≡ []
    inside =
        let w = among f m c xs t a i in let b = last_behind f m c xs t a i last w in
        let q = prev_inside f m c xs t a i pr prev in
        let same : c ≡ pr = sym b.0 ∙ last_is f m c xs t a w pr q.0 q.1 alone in
        let none : w.us ≡ [] = elim (linked_prev (class_node f) w.l w.us c w.vs w.ring.0 pr prev).1 [
          | inl s ↦ s.0
          | inr s ↦ absurd (apart w.us (c ∷ w.vs) pr c w.once (ring_last pr w.us s.0 s.1) (inl refl) (sym same))
        ] in
        let cut : of_class f (key_in f c) xs ≡ c ∷ [] = w.is ∙ (λ u. none u ++ (c ∷ b.1 u)) in
        one.own ∙ ap (without c) cut ∙ without_at [] c [] (subst Distinct (sym w.is ∙ cut) w.once)

    by : (l r : ClassTree) → (place_in f (key_in f c) m t).tree ≡ Fork c l r
        → Refiled f (dropped f (place_in f (key_in f c) m t).holder (place_in f (key_in f c) m t).link c (lowest_below c l r).holder (lowest_below c l r).link (lowest_below c l r).last) m xs (key_in f c) xs'
    by Bare Bare is = record {
      touches = bare_touches f m c xs t have a.classed a.alive a.once a.there_m a.there_c a.no_m a.not_m xs' one.others inside Bare Bare is refl;
      tree = _;
      classed = bare_classed f m c xs t have a.classed a.alive a.once a.there_m a.there_c a.no_m a.not_m xs' one.others inside Bare Bare is refl;
    }
    by Bare (Fork q u v) is =
        let d = (place_in f (key_in f c) m t).depth in
        let s : IsSorted f d (Fork c Bare (Fork q u v)) = subst (λ y. IsSorted f d y) is (at f m xs t a.classed a.no_m (key_in f c)).hole.sorted in
        let w = some_lowest f c ODD (suc d) (Fork q u v) s.3 (beside_not f c d true (lasts (Fork q u v)) s.1) q refl in
        let filed = side_filed f m c xs t have a.classed a.alive a.once a.there_m a.there_c a.no_m a.not_m xs' one.others inside true (Fork q u v) Bare is w.0 w.1.place w.1.hole w.1.alone in
        subst (λ (y : Hung). Refiled f (dropped f (place_in f (key_in f c) m t).holder (place_in f (key_in f c) m t).link c y.holder y.link y.last) m xs (key_in f c) xs') (sym w.1.is) record { touches = filed.0; tree = filed.1; classed = filed.2 }
    by (Fork q u v) r is =
        let d = (place_in f (key_in f c) m t).depth in
        let s : IsSorted f d (Fork c (Fork q u v) r) = subst (λ y. IsSorted f d y) is (at f m xs t a.classed a.no_m (key_in f c)).hole.sorted in
        let w = some_lowest f c EVEN (suc d) (Fork q u v) s.2 (beside_not f c d false (lasts (Fork q u v)) s.0) q refl in
        let filed = side_filed f m c xs t have a.classed a.alive a.once a.there_m a.there_c a.no_m a.not_m xs' one.others inside false (Fork q u v) r is w.0 w.1.place w.1.hole w.1.alone in
        subst (λ (y : Hung). Refiled f (dropped f (place_in f (key_in f c) m t).holder (place_in f (key_in f c) m t).link c y.holder y.link y.last) m xs (key_in f c) xs') (sym w.1.is) record { touches = filed.0; tree = filed.1; classed = filed.2 }

-- An atom comes before another of its class

-- the other one may be asked for too
pub may_other : (f : ℕ → Option HeldCell) (m c : ℕ) (xs : List ℕ) (t : ClassTree) → MayFile f m c xs t → (d : ℕ) → In d xs → MayFile f m d xs t
may_other f m c xs t a d i = record { classed = a.classed; once = a.once; alive = a.alive; there_m = a.there_m; membrane = a.membrane; there_c = a.alive d i; no_m = a.no_m; not_m = λ e. a.no_m (subst (λ u. In u xs) e i); kinds = a.kinds; home = a.home }

-- what stands before the other is there
pub prev_other : (f : ℕ → Option HeldCell) (m c : ℕ) (xs : List ℕ) (t : ClassTree) → MayFile f m c xs t → (d : ℕ) → In d xs → (q : ℕ) → link_in f d CLASS_PREV ≡ Some q → IsSome (f q)
prev_other f m c xs t a d i q e = prev_alive f m d xs t (may_other f m c xs t a d i) i q e

-- something does
pub prev_other_some : (f : ℕ → Option HeldCell) (m c : ℕ) (xs : List ℕ) (t : ClassTree) → MayFile f m c xs t → (d : ℕ) → In d xs → link_in f d CLASS_PREV ≡ None → ⊥
prev_other_some f m c xs t a d i e = prev_some f m d xs t (may_other f m c xs t a d i) i e

-- it comes
pub filed_inside : (f : ℕ → Option HeldCell) → HaveLinks f → (m c : ℕ) (xs : List ℕ) (t : ClassTree) (xs' : List ℕ) → MayFile f m c xs t → (In c xs → ⊥) → (d : ℕ) → In d xs → key_in f d ≡ key_in f c → ClassBecomes f (key_in f c) xs (put_before c d (of_class f (key_in f c) xs)) xs'
    → (pr : ℕ) → link_in f d CLASS_PREV ≡ Some pr → Refiled f (put_inside f m pr d c) m (c ∷ xs) (key_in f c) xs'
filed_inside f have m c xs t xs' a fresh d i k one pr prev =
    let w = among f m d xs t (may_other f m c xs t a d i) i in
    let cut : of_class f (key_in f c) xs ≡ w.us ++ (d ∷ w.vs) = ap (λ p. of_class f p xs) (sym k) ∙ w.is in
    let inside : of_class f (key_in f c) xs' ≡ w.us ++ (c ∷ d ∷ w.vs) = one.own ∙ ap (put_before c d) cut ∙ put_at c w.us d w.vs w.once in
    let key_l : is_key (key_in f w.l) (key_in f c) ≡ true = subst (λ p. is_key (key_in f w.l) p ≡ true) k w.last_found.key in
    record {
      touches = inside_touches f m c xs t have a.classed a.alive a.once a.there_m a.there_c a.no_m a.not_m xs' w.us w.vs w.l pr d one.others cut inside fresh w.last_found.inside key_l prev;
      tree = t;
      classed = inside_classed f m c xs t have a.classed a.alive a.once a.there_m a.there_c a.no_m a.not_m xs' w.us w.vs w.l pr d one.others cut inside fresh w.last_found.inside key_l prev;
    }
