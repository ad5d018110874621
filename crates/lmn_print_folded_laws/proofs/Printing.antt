-- The positions of atoms in the order in which they are printed: each stands there once.
use Rattle.std.proofs.Common.{◌≡◌, ◌≢◌, ℕ, suc, zero, ◌+◌, ◌<◌, ◌≤◌, ◌⊎◌, inl, inr, List, [], ◌∷◌, ◌++◌, length, slice_get, Some, refl, sym, ap, ◌∙◌, subst, arith}
use Rattle.std.proofs.lemmas.List.{append_assoc, length-append}
use Rattle.std.proofs.lemmas.Option.{same_Some}
use Rattle.lmn_congruence.specs.Orders.{Among, at_head, further, EachOnce}
use Rattle.lmn_congruence.specs.Regions.{SolidAtom}
use Rattle.lmn_print_folded.specs.Terms.{FoldedTerm, FoldedTerms, FoldedItem}
use Rattle.lmn_print_folded.specs.Folding.{IsChild, Descends, itself, NoChildren, Further, AreItems, atom_positions, Shows, as_link, as_term, ShowsAll, ShowsItems}
use Rattle.lmn_print_folded.proofs.Places.{AtMostTwice, one_child, one_parent, one_link, last_place, parent_place, three_places, Place}
use Rattle.lmn_print_folded.proofs.Choosing.{among}
use Rattle.lmn_print_folded.proofs.SomeFolded.{Path, start, below, new_one, kept_below}
use Rattle.lmn_print_folded_laws.proofs.Lists.{all_different}
use Rattle.lmn_print_folded_laws.proofs.Once.{range_once}
use Rattle.lmn_base.proofs.Lists.{get_below as within, same_step, not_behind_itself}
use Rattle.lmn_base.proofs.Numbers.{same_or_not as same_or_apart}
use Rattle.lmn_congruence.proofs.Common.{among_apart, among_left, among_right}
use Rattle.lmn_base.proofs.Truth.{Decided}
use Rattle.lmn_print_folded.specs.Folding as folding

-- ways

same_end : (u v : List ℕ) (b c : ℕ) → u ++ b ∷ [] ≡ v ++ c ∷ [] → b ≡ c
same_end u v b c e = same_step u v b c [] e

module _ (atoms : List SolidAtom) (few : AtMostTwice atoms) (items : List ℕ) where
  abbrev mutual
    pub shown_order : {p k x : ℕ} {t : FoldedTerm} → Shows (λ x. x) atoms items p k x t → List ℕ
    shown_order (as_link h) = []
    shown_order (as_term {q = q} c n s) = q ∷ all_order s

    pub all_order : {p k : ℕ} {xs : List ℕ} {ts : FoldedTerms} → ShowsAll (λ x. x) atoms items p k xs ts → List ℕ
    all_order folding.none = []
    all_order (folding.more h hs) = shown_order h ++ all_order hs

  abbrev pub items_order : {ps : List ℕ} {is : List FoldedItem} → ShowsItems (λ x. x) atoms items ps is → List ℕ
  items_order folding.none = []
  items_order (folding.more {p = p} a e s next) = p ∷ (all_order s ++ items_order next)

  -- One way leads down to an atom.
  path_moved : {p r : ℕ} {above : List ℕ} → p ≡ r → Path atoms items p above → Path atoms items r above
  path_moved {above = above} e h = let P : ℕ → Type 0 = λ z. Path atoms items z above in subst P e h

  two : (p r : ℕ) (xs ys : List ℕ) → p ≡ r → xs ≡ ys → p ∷ xs ≡ r ∷ ys
  two p r xs ys e f = cc

  path_same : {q : ℕ} {xs ys : List ℕ} → Path atoms items q xs → Path atoms items q ys → xs ≡ ys
  path_same (start a) (start b) = refl
  path_same (start a) (below h c m n) = absurd (m a)
  path_same (below h c m n) (start a) = absurd (m a)
  path_same {q} (below {p = p} {k = k} {above = above} h c m n) (below {p = r} {k = j} {above = others} h' c' m' n') =
      let e = one_parent atoms q p k r j few c c' in
      two p r above others e.0 (path_same h (path_moved (sym e.0) h'))

  -- an atom that is printed under port k of the atom p, to which a way leads
  record Reached (p k : ℕ) (way : List ℕ) (q : ℕ) : Type 0 where
    top : ℕ
    ahead : List ℕ
    above : List ℕ
    is_child : IsChild atoms top p k
    path : Path atoms items q above
    is : q ∷ above ≡ ahead ++ top ∷ way
    no_item : ¬ (Among q items)

  abbrev ReachedFrom : ℕ → ℕ → List ℕ → ℕ → Type 0
  ReachedFrom p k way q = (j : ℕ) × (k ≤ j) × Reached p j way q

  down : {p k : ℕ} {above : List ℕ} {q : ℕ} → Path atoms items p above → (c : IsChild atoms q p k) → ¬ (Among q items) → Path atoms items q (p ∷ above)
  down h c n = below h c n (λ a. new_one atoms few h c n a)

  mutual
    reach_one : {p k x : ℕ} {t : FoldedTerm} {above : List ℕ} → (s : Shows (λ x. x) atoms items p k x t) → Path atoms items p above → (q : ℕ) → Among q (shown_order s) → Reached p k (p ∷ above) q
    reach_one (as_link h) path q a = elim a [ ]
    reach_one {p} {k} {above = above} (as_term {q = c} ch n s) path q a = go q a (λ q b. reach_all s (down path ch n) q b)
      where
        go : (q : ℕ) → Among q (c ∷ all_order s) → ((q : ℕ) → Among q (all_order s) → ReachedFrom c 0 (c ∷ p ∷ above) q) → Reached p k (p ∷ above) q
        go q at_head more = record { top = c; ahead = []; above = p ∷ above; is_child = ch; path = down path ch n; is = refl; no_item = n }
        go q (further b) more =
            let r = more q b in
            let it = r.2 in
            record {
              top = c;
              ahead = it.ahead ++ it.top ∷ [];
              above = it.above;
              is_child = ch;
              path = it.path;
              is = it.is ∙ sym (append_assoc it.ahead (it.top ∷ []) (c ∷ p ∷ above));
              no_item = it.no_item;
            }

    reach_all : {p k : ℕ} {xs : List ℕ} {ts : FoldedTerms} {above : List ℕ} → (s : ShowsAll (λ x. x) atoms items p k xs ts) → Path atoms items p above → (q : ℕ) → Among q (all_order s) → ReachedFrom p k (p ∷ above) q
    reach_all folding.none path q a = elim a [ ]
    reach_all {p} {k} {above = above} (folding.more h hs) path q a =
        go (among_apart (shown_order h) (all_order hs) a) (λ b. reach_one h path q b) (λ b. reach_all hs path q b)
      where
        go : Among q (shown_order h) ⊎ Among q (all_order hs) → (Among q (shown_order h) → Reached p k (p ∷ above) q) → (Among q (all_order hs) → ReachedFrom p (suc k) (p ∷ above) q)
            → ReachedFrom p k (p ∷ above) q
        go (inl b) one more = (k, omega arith, one b)
        go (inr b) one more = let r = more b in let l = r.1 in (r.0, omega (arith, l), r.2)

  -- two ports have no atom in common
  ports_apart : {p k j : ℕ} {way : List ℕ} {q : ℕ} → Reached p k way q → Reached p j way q → k ≡ j
  ports_apart {p} {k} {j} {way} {q} a b =
      let same = same_step a.ahead b.ahead a.top b.top way (sym a.is ∙ ap (λ xs. q ∷ xs) (path_same a.path b.path) ∙ b.is) in
      let P : ℕ → Type 0 = λ c. IsChild atoms c p k in
      let e = one_parent atoms b.top p k p j few (subst P same a.is_child) b.is_child in e.1

  mutual
    once_one : {p k x : ℕ} {t : FoldedTerm} {above : List ℕ} → (s : Shows (λ x. x) atoms items p k x t) → Path atoms items p above → EachOnce (shown_order s)
    once_one (as_link h) path = tt
    once_one {p} {above = above} (as_term {q = c} ch n s) path = (not_below, once_all s (down path ch n))
      where
        not_below : Among c (all_order s) → ⊥
        not_below a =
            let r = reach_all s (down path ch n) c a in
            let it = r.2 in
            not_behind_itself it.ahead it.top (c ∷ p ∷ above) (ap (λ xs. c ∷ xs) (path_same (down path ch n) it.path) ∙ it.is)

    once_all : {p k : ℕ} {xs : List ℕ} {ts : FoldedTerms} {above : List ℕ} → (s : ShowsAll (λ x. x) atoms items p k xs ts) → Path atoms items p above → EachOnce (all_order s)
    once_all folding.none path = tt
    once_all {p} {k} (folding.more h hs) path = all_different (shown_order h) (all_order hs) (once_one h path) (once_all hs path) apart
      where
        apart : (q : ℕ) → Among q (shown_order h) → Among q (all_order hs) → ⊥
        apart q a b =
            let it = reach_one h path q a in
            let r = reach_all hs path q b in
            let e = ports_apart it r.2 in
            let l = r.1 in omega (arith, e, l)

  -- what is printed with the items of a list
  abbrev OfItems : List ℕ → ℕ → Type 0
  OfItems ps q = (i : ℕ) × (Among i ps × ((q ≡ i) ⊎ ((j : ℕ) × Reached i j (i ∷ []) q)))

  of_items : {ps : List ℕ} {is : List FoldedItem} → (s : ShowsItems (λ x. x) atoms items ps is) → ((v : ℕ) → Among v ps → Among v items) → (q : ℕ) → Among q (items_order s) → OfItems ps q
  of_items folding.none f q a = elim a [ ]
  of_items (folding.more {p = p} {ps = ps} a e s next) f q b = go q b (λ q c. of_items next (λ v d. f v (further d)) q c)
    where
      go : (q : ℕ) → Among q (p ∷ (all_order s ++ items_order next)) → ((q : ℕ) → Among q (items_order next) → OfItems ps q) → OfItems (p ∷ ps) q
      go q at_head rest = (p, (at_head, inl refl))
      go q (further b) rest = side (among_apart (all_order s) (items_order next) b)
        where
          side : Among q (all_order s) ⊎ Among q (items_order next) → OfItems (p ∷ ps) q
          side (inl c) = let r = reach_all s (start (f p at_head)) q c in (p, (at_head, inr (r.0, r.2)))
          side (inr c) = let r = rest q c in (r.0, (further r.1.0, r.1.1))

  pub once_items : {ps : List ℕ} {is : List FoldedItem} → (s : ShowsItems (λ x. x) atoms items ps is) → EachOnce ps → ((v : ℕ) → Among v ps → Among v items) → EachOnce (items_order s)
  once_items folding.none once f = tt
  once_items (folding.more {p = p} {ps = ps} a e s next) once f =
      (itself_once, all_different (all_order s) (items_order next) (once_all s path) (once_items next once.1 (λ v d. f v (further d))) apart)
    where
      path : Path atoms items p []
      path = start (f p at_head)

      same_item : (i : ℕ) → p ≡ i → Among i ps → ⊥
      same_item i e a = let P : ℕ → Type 0 = λ z. Among z ps in once.0 (subst P (sym e) a)

      later : (q : ℕ) → Among q (items_order next) → OfItems ps q
      later q a = of_items next (λ v d. f v (further d)) q a

      in_terms : Among p (all_order s) → ⊥
      in_terms a = let r = reach_all s path p a in let it = r.2 in it.no_item (f p at_head)

      itself_once : Among p (all_order s ++ items_order next) → ⊥
      itself_once a = go (among_apart (all_order s) (items_order next) a)
        where
          behind : OfItems ps p → ⊥
          behind r = by r.1.1
            where
              by : (p ≡ r.0) ⊎ ((j : ℕ) × Reached r.0 j (r.0 ∷ []) p) → ⊥
              by (inl g) = same_item r.0 g r.1.0
              by (inr g) = let it = g.1 in it.no_item (f p at_head)

          go : Among p (all_order s) ⊎ Among p (items_order next) → ⊥
          go (inl b) = in_terms b
          go (inr b) = behind (later p b)

      apart : (q : ℕ) → Among q (all_order s) → Among q (items_order next) → ⊥
      apart q b c = by (later q c)
        where
          mine : ReachedFrom p 0 (p ∷ []) q
          mine = reach_all s path q b

          by : OfItems ps q → ⊥
          by r = go r.1.1
            where
              go : (q ≡ r.0) ⊎ ((j : ℕ) × Reached r.0 j (r.0 ∷ []) q) → ⊥
              go (inl g) =
                  let it = mine.2 in
                  let P : ℕ → Type 0 = λ z. Among z items in
                  it.no_item (subst P (sym g) (f r.0 (further r.1.0)))
              go (inr g) =
                  let it = mine.2 in
                  let other = g.1 in
                  let same = sym it.is ∙ ap (λ xs. q ∷ xs) (path_same it.path other.path) ∙ other.is in
                  same_item r.0
                  (same_end (it.ahead ++ it.top ∷ []) (other.ahead ++ other.top ∷ []) p r.0
                  (append_assoc it.ahead (it.top ∷ []) (p ∷ []) ∙ same ∙ sym (append_assoc other.ahead (other.top ∷ []) (r.0 ∷ [])))) r.1.0

  -- Each atom is printed.

  no_last : {c p k r j : ℕ} (ch : IsChild atoms c p k) → IsChild atoms r c j → j ≢ length ch.first_links
  no_last {c} {p} {k} {r} {j} ch d e = go (same_or_apart r p)
    where
      at_last : Place atoms c j ch.last_link
      at_last = let P : ℕ → Type 0 = λ z. Place atoms c z ch.last_link in subst P (sym e) (last_place ch)

      same : d.last_link ≡ ch.last_link
      same = one_link (parent_place d) at_last

      r_last : Place atoms r (length d.first_links) ch.last_link
      r_last = let P : ℕ → Type 0 = λ z. Place atoms r (length d.first_links) z in subst P same (last_place d)

      go : (r ≡ p) ⊎ (r ≢ p) → ⊥
      go (inr n) = three_places atoms ch.last_link c j r (length d.first_links) p k few at_last r_last (parent_place ch) (inl (λ f. d.other (sym f))) (inl ch.other) (inl n)
      go (inl f) = ends (same_or_apart (length d.first_links) k)
        where
          same_child : d.child ≡ ch.parent
          same_child = let P : ℕ → Type 0 = λ z. slice_get atoms z ≡ Some d.child in same_Some _ _ (sym (subst P f d.child_at) ∙ ch.parent_at)

          same_parent : d.parent ≡ ch.child
          same_parent = same_Some _ _ (sym d.parent_at ∙ ch.child_at)

          ends : (length d.first_links ≡ k) ⊎ (length d.first_links ≢ k) → ⊥
          ends (inr n) =
              let P : ℕ → Type 0 = λ z. Place atoms z (length d.first_links) ch.last_link in
              three_places atoms ch.last_link c j p (length d.first_links) p k few at_last (subst P f r_last) (parent_place ch) (inl ch.other) (inl ch.other) (inr n)
          ends (inl g) = both d.before ch.before
            where
              c_size : length d.parent.links ≡ suc j
              c_size =
                  let size = length-append ch.first_links (ch.last_link ∷ []) in
                  let links = ap length ch.links in
                  let parent = ap (λ (a : SolidAtom). length a.links) same_parent in omega (arith, size, links, parent, e)

              p_size : length ch.parent.links ≡ suc k
              p_size =
                  let size = length-append d.first_links (d.last_link ∷ []) in
                  let links = ap length d.links in
                  let parent = ap (λ (a : SolidAtom). length a.links) same_child in omega (arith, size, links, parent, g)

              both : (suc j ≢ length d.parent.links) ⊎ (c < r) → (suc k ≢ length ch.parent.links) ⊎ (p < c) → ⊥
              both (inl n) m = n (sym c_size)
              both (inr l) (inl m) = m (sym p_size)
              both (inr l) (inr m) = omega (arith, l, m, f)

  -- where the ports of a printed atom are
  record Holds (order : List ℕ) (q : ℕ) : Type 0 where
    xs : List ℕ
    ts : FoldedTerms
    shows : ShowsAll (λ x. x) atoms items q 0 xs ts
    inside : (v : ℕ) → Among v (all_order shows) → Among v order
    ports : (r k : ℕ) → IsChild atoms r q k → k < length xs

  wider : {order orders : List ℕ} {q : ℕ} → ((v : ℕ) → Among v order → Among v orders) → Holds order q → Holds orders q
  wider f h = record { xs = h.xs; ts = h.ts; shows = h.shows; inside = λ v a. f v (h.inside v a); ports = h.ports }

  child_ports : {c p k : ℕ} (ch : IsChild atoms c p k) (r j : ℕ) → IsChild atoms r c j → j < length ch.first_links
  child_ports ch r j d =
      let n = no_last ch d in
      let same = ap (λ (a : SolidAtom). length a.links) (same_Some d.parent ch.child (sym d.parent_at ∙ ch.child_at)) in
      let l = within d.parent.links j d.last_link d.joined in
      let size = length-append ch.first_links (ch.last_link ∷ []) in
      let links = ap length ch.links in omega (arith, n, same, l, size, links)

  mutual
    holds_one : {p k x : ℕ} {t : FoldedTerm} (s : Shows (λ x. x) atoms items p k x t) (q : ℕ) → Among q (shown_order s) → Holds (shown_order s) q
    holds_one (as_link h) q a = elim a [ ]
    holds_one (as_term {q = c} {ts = ts} ch n s) q a = go q a (λ q b. holds_all s q b)
      where
        go : (q : ℕ) → Among q (c ∷ all_order s) → ((q : ℕ) → Among q (all_order s) → Holds (all_order s) q) → Holds (c ∷ all_order s) q
        go q at_head more = record { xs = ch.first_links; ts = ts; shows = s; inside = λ v b. further b; ports = λ r k d. child_ports ch r k d }
        go q (further b) more = wider (λ v c. further c) (more q b)

    holds_all : {p k : ℕ} {xs : List ℕ} {ts : FoldedTerms} (s : ShowsAll (λ x. x) atoms items p k xs ts) (q : ℕ) → Among q (all_order s) → Holds (all_order s) q
    holds_all folding.none q a = elim a [ ]
    holds_all (folding.more h hs) q a = go (among_apart (shown_order h) (all_order hs) a) (λ b. holds_one h q b) (λ b. holds_all hs q b)
      where
        go : Among q (shown_order h) ⊎ Among q (all_order hs) → (Among q (shown_order h) → Holds (shown_order h) q) → (Among q (all_order hs) → Holds (all_order hs) q)
            → Holds (shown_order h ++ all_order hs) q
        go (inl b) one more = wider (λ v c. among_left (all_order hs) c) (one b)
        go (inr b) one more = wider (λ v c. among_right (shown_order h) c) (more b)

  holds_items : {ps : List ℕ} {is : List FoldedItem} (s : ShowsItems (λ x. x) atoms items ps is) (q : ℕ) → Among q (items_order s) → Holds (items_order s) q
  holds_items folding.none q a = elim a [ ]
  holds_items (folding.more {p = p} {ts = ts} a e s next) q b = go q b (λ q c. holds_items next q c)
    where
      ports : (r k : ℕ) → IsChild atoms r p k → k < length a.links
      ports r k d =
          let same = ap (λ (c : SolidAtom). length c.links) (same_Some d.parent a (sym d.parent_at ∙ e)) in
          let l = within d.parent.links k d.last_link d.joined in omega (arith, same, l)

      go : (q : ℕ) → Among q (p ∷ (all_order s ++ items_order next)) → ((q : ℕ) → Among q (items_order next) → Holds (items_order next) q) → Holds (p ∷ (all_order s ++ items_order next)) q
      go q at_head rest = record { xs = a.links; ts = ts; shows = s; inside = λ v c. further (among_left (items_order next) c); ports = ports }
      go q (further c) rest = side (among_apart (all_order s) (items_order next) c)
        where
          side : Among q (all_order s) ⊎ Among q (items_order next) → Holds (p ∷ (all_order s ++ items_order next)) q
          side (inl d) = wider (λ v i. further (among_left (items_order next) i)) (holds_all s q d)
          side (inr d) = wider (λ v i. further (among_right (all_order s) i)) (rest q d)

  -- a child that is no item is printed at its port
  port_shown : {p k x : ℕ} {t : FoldedTerm} (s : Shows (λ x. x) atoms items p k x t) (r : ℕ) → IsChild atoms r p k → ¬ (Among r items) → Among r (shown_order s)
  port_shown (as_link h) r d n = absurd (n (h r d))
  port_shown {p} {k} (as_term {q = c} ch m s) r d n = let P : ℕ → Type 0 = λ z. Among r (z ∷ all_order s) in subst P (one_child atoms r c p k few d ch) at_head

  ports_shown : {p k : ℕ} {xs : List ℕ} {ts : FoldedTerms} (s : ShowsAll (λ x. x) atoms items p k xs ts) (j r : ℕ) → j < length xs → IsChild atoms r p (k + j) → ¬ (Among r items) → Among r (all_order s)
  ports_shown folding.none j r l d n = absurd (omega (arith, l))
  ports_shown {p} {k} (folding.more h hs) zero r l d n =
      let P : ℕ → Type 0 = λ z. IsChild atoms r p z in
      let e : k + 0 ≡ k = omega arith in among_left (all_order hs) (port_shown h r (subst P e d) n)
  ports_shown {p} {k} (folding.more h hs) (suc j) r l d n =
      let P : ℕ → Type 0 = λ z. IsChild atoms r p z in
      let e : k + suc j ≡ suc k + j = omega arith in among_right (shown_order h) (ports_shown hs j r (omega (arith, l)) (subst P e d) n)

  item_there : {ps : List ℕ} {is : List FoldedItem} (s : ShowsItems (λ x. x) atoms items ps is) (q : ℕ) → Among q ps → Among q (items_order s)
  item_there folding.none q a = elim a [ ]
  item_there (folding.more {p = p} {ps = ps} a e s next) q b = go q b (λ c. item_there next q c)
    where
      go : (q : ℕ) → Among q (p ∷ ps) → (Among q ps → Among q (items_order next)) → Among q (p ∷ (all_order s ++ items_order next))
      go q at_head rest = at_head
      go q (further c) rest = further (among_right (all_order s) (rest c))

  pub all_printed : {is : List FoldedItem} (s : ShowsItems (λ x. x) atoms items items is) {i q : ℕ} → Among i items → Descends atoms i q → Among q (items_order s)
  all_printed s a itself = item_there s _ a
  all_printed s a (folding.child {q = p} {r = r} {k = k} d c) = go (among r items) (holds_items s p (all_printed s a d))
    where
      go : Decided (Among r items) → Holds (items_order s) p → Among r (items_order s)
      go (inl b) h = item_there s r b
      go (inr n) h =
          let P : ℕ → Type 0 = λ z. IsChild atoms r p z in
          let e : k ≡ 0 + k = omega arith in h.inside r (ports_shown h.shows k r (h.ports r k c) (subst P e c) n)

  -- an atom that is printed is one of the list
  pub printed_below : {ps : List ℕ} {is : List FoldedItem} (s : ShowsItems (λ x. x) atoms items ps is) → ((v : ℕ) → Among v ps → Among v items) → ((v : ℕ) → Among v items → v < length atoms)
      → (q : ℕ) → Among q (items_order s) → q < length atoms
  printed_below {ps} s f g q a = by (of_items s f q a)
    where
      bottom : {q : ℕ} {above : List ℕ} → Path atoms items q above → q < length atoms
      bottom (start b) = g _ b
      bottom (below {q = r} h c m n) = within atoms r c.child c.child_at

      by : OfItems ps q → q < length atoms
      by r = go r.1.1
        where
          go : (q ≡ r.0) ⊎ ((j : ℕ) × Reached r.0 j (r.0 ∷ []) q) → q < length atoms
          go (inl e) = let P : ℕ → Type 0 = λ z. z < length atoms in subst P (sym e) (g r.0 (f r.0 r.1.0))
          go (inr h) = let it = h.1 in bottom it.path

-- Items stand once each, and each atom descends from one of them.

firsts_among : {atoms : List SolidAtom} {qs is : List ℕ} → NoChildren atoms qs is → (v : ℕ) → Among v is → Among v qs
firsts_among {qs = qs} h = kept_below (λ v. Among v qs) h (λ v a. a)

firsts_once : {atoms : List SolidAtom} {qs is : List ℕ} → NoChildren atoms qs is → EachOnce qs → EachOnce is
firsts_once folding.none once = tt
firsts_once (folding.kept {q = q} n h) once = (λ a. once.0 (firsts_among h q a), firsts_once h once.1)
firsts_once (folding.left p k c h) once = firsts_once h once.1

further_once : {atoms : List SolidAtom} {is qs all : List ℕ} → Further atoms is qs all → EachOnce is → EachOnce all
further_once folding.none once = once
further_once (folding.printed i a d h) once = further_once h once
further_once (folding.item {q = q} {so_far = is} n h) once = further_once h (all_different is (q ∷ []) once ((λ a. elim a [ ]), tt) apart)
  where
    apart : (v : ℕ) → Among v is → Among v (q ∷ []) → ⊥
    apart v a at_head = n q a itself
    apart v a (further b) = elim b [ ]

grows : {atoms : List SolidAtom} {is qs all : List ℕ} → Further atoms is qs all → (v : ℕ) → Among v is → Among v all
grows folding.none v a = a
grows (folding.printed i b d h) v a = grows h v a
grows (folding.item {q = q} {so_far = is} n h) v a = grows h v (among_left (q ∷ []) a)

from_items : {atoms : List SolidAtom} {is qs all : List ℕ} → Further atoms is qs all → (q : ℕ) → Among q qs → (i : ℕ) × (Among i all × Descends atoms i q)
from_items folding.none q a = elim a [ ]
from_items {atoms} (folding.printed {q = p} {qs = qs} {all = all} i b d h) q a = go q a (λ c. from_items h q c)
  where
    go : (q : ℕ) → Among q (p ∷ qs) → (Among q qs → (i : ℕ) × (Among i all × Descends atoms i q)) → (i : ℕ) × (Among i all × Descends atoms i q)
    go q at_head more = (i, (grows h i b, d))
    go q (further c) more = more c
from_items {atoms} (folding.item {q = p} {so_far = is} {qs = qs} {all = all} n h) q a = go q a (λ c. from_items h q c)
  where
    go : (q : ℕ) → Among q (p ∷ qs) → (Among q qs → (i : ℕ) × (Among i all × Descends atoms i q)) → (i : ℕ) × (Among i all × Descends atoms i q)
    go q at_head more = (p, (grows h p (among_right is at_head), itself))
    go q (further c) more = more c

-- no atom is an item twice
pub items_once : (atoms : List SolidAtom) (items : List ℕ) → AreItems atoms items → EachOnce items
items_once atoms items h = further_once h.further (firsts_once h.no_children (range_once 0 (length atoms)))

-- each atom descends from an item
pub each_from_item : (atoms : List SolidAtom) (items : List ℕ) → AreItems atoms items → (q : ℕ) → Among q (atom_positions atoms) → (i : ℕ) × (Among i items × Descends atoms i q)
each_from_item atoms items h q a = from_items h.further q a
