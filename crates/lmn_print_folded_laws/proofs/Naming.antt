-- The links of a folded process taken apart are those of its region, under other names.
use Rattle.std.proofs.Common.{◌≡◌, ◌≢◌, ℕ, ◌+◌, ◌*◌, ◌≤◌, ◌⊎◌, ◌==◌, inl, inr, Bool, true, false, if◌then◌else◌, List, [], ◌∷◌, ◌++◌, map, refl, sym, ap, ◌∙◌, subst, arith}
use Rattle.std.proofs.lemmas.List.{map-append}
use Rattle.std.specs.List.{AllZip}
use Rattle.lmn_congruence.specs.Links.{one_if_same, places}
use Rattle.lmn_congruence.specs.Orders.{Among, at_head, further, EachOnce}
use Rattle.lmn_congruence.specs.Process.{Fresh, Local, occurrences, together}
use Rattle.lmn_congruence.specs.Regions.{SolidAtom, Region, Regions, region_process, regions_processes}
use Rattle.lmn_congruence.proofs.Counts.{one_if_equal, none_if_apart}
use Rattle.lmn_flatten_plain.specs.Links.{Link, written, made}
use Rattle.lmn_flatten_plain.specs.Expanded.{ExpandedLeaf, ExpandedLevel, level, ExpandedLevels, no_level, level_and, ExpandedRule}
use Rattle.lmn_flatten_plain.specs.Agreement.{link_by_number}
use Rattle.lmn_flatten_plain.specs.Words.{link_name}
use Rattle.lmn_flatten_plain.proofs.ReadBack.{name_same as link_same}
use Rattle.lmn_print_folded.specs.Terms.{FoldedTerm, FoldedTerms, FoldedItem, Folded, FoldedMembranes, term_links, terms_links, items_links, folded_links, membranes_links, renamed_term, renamed_terms, renamed_item, renamed_folded, renamed_membranes}
use Rattle.lmn_print_folded.proofs.Places.{count}
use Rattle.lmn_print_folded_laws.specs.Apart as apart
use Rattle.lmn_print_folded_laws.specs.Apart.{TermApart, link_apart, atom_apart, TermsApart, none_apart, more_apart, ItemsApart, items_apart, FoldedApart, MembranesApart}
use Rattle.lmn_print_folded_laws.specs.Whole as whole
use Rattle.lmn_print_folded_laws.specs.Whole.{TermWhole, link_whole, atom_whole, TermsWhole, none_whole, more_whole, ItemsWhole, items_whole, FoldedWhole, folded_whole, MembranesWhole, no_membranes, membranes_whole}
use Rattle.lmn_print_folded_laws.specs.Named.{AtomNamed, RegionNamed, RegionsNamed, OneToOneNames, FoldedLinksAreNamed}
use Rattle.lmn_base.proofs.Numbers.{equal_itself, not_equal as apart_false, same_or_not as same_or_apart}
use Rattle.lmn_congruence.proofs.TranslatedLinks.{no_link_in_rules as no_rule_links, places_append}
use Rattle.lmn_congruence.proofs.Common.{among_left, among_right, places_among, among_places}
use Rattle.lmn_base.specs.declared.refusal.Pos.{Pos}
use Rattle.lmn_lexer.specs.Laying.{Word}

-- Tables of links and their names.

abbrev Table : Type 0
Table = List (ℕ × Link)

abbrev firsts : Table → List ℕ
firsts t = map (λ e. e.0) t

abbrev seconds : Table → List Link
seconds t = map (λ e. e.1) t

abbrev look_up : Table → ℕ → Link → Link
look_up [] x d = d
look_up (e ∷ t) x d = if x == e.0 then e.1 else look_up t x d

firsts_append : (y : ℕ) (s t : Table) → places y (firsts (s ++ t)) ≡ places y (firsts s) + places y (firsts t)
firsts_append y s t = ap (places y) (map-append (λ (e : ℕ × Link). e.0) s t) ∙ places_append y (firsts s) (firsts t)

if_true : (b : Bool) (a c : Link) → b ≡ true → (if b then a else c) ≡ a
if_true true a c e = refl
if_true false a c e = absurd (cc)

if_false : (b : Bool) (a c : Link) → b ≡ false → (if b then a else c) ≡ c
if_false true a c e = absurd (cc)
if_false false a c e = refl

look_none : (t : Table) (x : ℕ) (d : Link) → places x (firsts t) ≡ 0 → look_up t x d ≡ d
look_none [] x d e = refl
look_none (f ∷ t) x d e = go (same_or_apart x f.0) (look_none t x d)
  where
    go : (x ≡ f.0) ⊎ (x ≢ f.0) → (places x (firsts t) ≡ 0 → look_up t x d ≡ d) → look_up (f ∷ t) x d ≡ d
    go (inl g) others = let h = one_if_equal x f.0 g in absurd (omega (arith, e, h))
    go (inr n) others = if_false (x == f.0) f.1 (look_up t x d) (apart_false x f.0 n) ∙ others (omega (arith, e))

stands_once : (t : Table) (e : ℕ × Link) → Among e t → 1 ≤ places e.0 (firsts t)
stands_once (f ∷ t) e at_head = let h = one_if_equal e.0 e.0 refl in omega (arith, h)
stands_once (f ∷ t) e (further a) = let h = stands_once t e a in omega (arith, h)
stands_once [] e a = elim a [ ]

look_there : (t : Table) (e : ℕ × Link) (d : Link) → Among e t → places e.0 (firsts t) ≤ 1 → look_up t e.0 d ≡ e.1
look_there [] e d a l = elim a [ ]
look_there (f ∷ t) e d at_head l = if_true (e.0 == e.0) e.1 (look_up t e.0 d) (equal_itself e.0)
look_there (f ∷ t) e d (further a) l = go (same_or_apart e.0 f.0) (look_there t e d a)
  where
    go : (e.0 ≡ f.0) ⊎ (e.0 ≢ f.0) → (places e.0 (firsts t) ≤ 1 → look_up t e.0 d ≡ e.1) → look_up (f ∷ t) e.0 d ≡ e.1
    go (inl g) others = let h = one_if_equal e.0 f.0 g in let s = stands_once t e a in absurd (omega (arith, l, h, s))
    go (inr n) others = if_false (e.0 == f.0) f.1 (look_up t e.0 d) (apart_false e.0 f.0 n) ∙ others (omega (arith, l))

in_table : (t : Table) (x : ℕ) → places x (firsts t) ≢ 0 → (e : ℕ × Link) × Among e t × (e.0 ≡ x)
in_table [] x n = absurd (n refl)
in_table (f ∷ t) x n = go (same_or_apart x f.0) (in_table t x)
  where
    go : (x ≡ f.0) ⊎ (x ≢ f.0) → (places x (firsts t) ≢ 0 → (e : ℕ × Link) × Among e t × (e.0 ≡ x)) → (e : ℕ × Link) × Among e (f ∷ t) × (e.0 ≡ x)
    go (inl g) others = (f, at_head, sym g)
    go (inr d) others =
        let h = none_if_apart x f.0 d in
        let more = others (λ z. n (omega (arith, h, z))) in (more.0, further more.1, more.2)

second_among : (t : Table) (e : ℕ × Link) → Among e t → Among e.1 (seconds t)
second_among (f ∷ t) e at_head = at_head
second_among (f ∷ t) e (further a) = further (second_among t e a)
second_among [] e a = elim a [ ]

-- different names stand once
same_first : (t : Table) (e f : ℕ × Link) → EachOnce (seconds t) → Among e t → Among f t → e.1 ≡ f.1 → e.0 ≡ f.0
same_first [] e f d a b g = elim a [ ]
same_first (h ∷ t) e f d at_head at_head g = refl
same_first (h ∷ t) e f d at_head (further b) g = let P : Link → Type 0 = λ z. Among z (seconds t) in absurd (d.0 (subst P (sym g) (second_among t f b)))
same_first (h ∷ t) e f d (further a) at_head g = let P : Link → Type 0 = λ z. Among z (seconds t) in absurd (d.0 (subst P g (second_among t e a)))
same_first (h ∷ t) e f d (further a) (further b) g = same_first t e f d.1 a b g

-- The table of a folded process: the link that stands for each term, in the region and in the text.

module _ (to : ℕ → ℕ) where
  abbrev mutual
    term_table : {t : FoldedTerm} {x : ℕ} {as' : List SolidAtom} {a : Link} {ls : List ExpandedLeaf} {ms : List Link} → TermWhole t x as' → TermApart (renamed_term to t) a ls ms → Table
    term_table link_whole (link_apart e) = []
    term_table (atom_whole {x = x} w) (atom_apart {a = a} e f s) = (x, a) ∷ terms_table w s

    terms_table : {ts : FoldedTerms} {xs : List ℕ} {as' : List SolidAtom} {bs : List Link} {ls : List ExpandedLeaf} {ms : List Link} → TermsWhole ts xs as' → TermsApart (renamed_terms to ts) bs ls ms → Table
    terms_table none_whole none_apart = []
    terms_table (more_whole w ws) (more_apart s ss) = term_table w s ++ terms_table ws ss

  abbrev items_table : {is : List FoldedItem} {as' : List SolidAtom} {ls : List ExpandedLeaf} {ms : List Link} → ItemsWhole is as' → ItemsApart (map (renamed_item to) is) ls ms → Table
  items_table whole.no_items apart.no_items = []
  items_table (items_whole w ws) (items_apart e s ss) = terms_table w s ++ items_table ws ss

  mutual
    term_seconds : {t : FoldedTerm} {x : ℕ} {as' : List SolidAtom} {a : Link} {ls : List ExpandedLeaf} {ms : List Link} (w : TermWhole t x as') (s : TermApart (renamed_term to t) a ls ms) → seconds (term_table w s) ≡ ms
    term_seconds link_whole (link_apart e) = refl
    term_seconds (atom_whole w) (atom_apart {a = a} e f s) = ap (λ zs. a ∷ zs) (terms_seconds w s)

    terms_seconds : {ts : FoldedTerms} {xs : List ℕ} {as' : List SolidAtom} {bs : List Link} {ls : List ExpandedLeaf} {ms : List Link} (w : TermsWhole ts xs as') (s : TermsApart (renamed_terms to ts) bs ls ms) → seconds (terms_table w s) ≡ ms
    terms_seconds none_whole none_apart = refl
    terms_seconds (more_whole w ws) (more_apart {made = ms} {more = ns} s ss) =
        map-append (λ (e : ℕ × Link). e.1) (term_table w s) (terms_table ws ss) ∙ ap (λ zs. zs ++ seconds (terms_table ws ss)) (term_seconds w s) ∙ ap (λ zs. ms ++ zs) (terms_seconds ws ss)

  items_seconds : {is : List FoldedItem} {as' : List SolidAtom} {ls : List ExpandedLeaf} {ms : List Link} (w : ItemsWhole is as') (s : ItemsApart (map (renamed_item to) is) ls ms) → seconds (items_table w s) ≡ ms
  items_seconds whole.no_items apart.no_items = refl
  items_seconds (items_whole w ws) (items_apart {made = ms} {more = ns} e s ss) =
      map-append (λ (e : ℕ × Link). e.1) (terms_table w s) (items_table ws ss) ∙ ap (λ zs. zs ++ seconds (items_table ws ss)) (terms_seconds w s) ∙ ap (λ zs. ms ++ zs) (items_seconds ws ss)

  -- counts
  count_append : (y : ℕ) (as' bs : List SolidAtom) → count y (as' ++ bs) ≡ count y as' + count y bs
  count_append y [] bs = omega arith
  count_append y (a ∷ as') bs = let more = count_append y as' bs in omega (arith, more)

  mutual
    term_count : (y : ℕ) {t : FoldedTerm} {x : ℕ} {as' : List SolidAtom} {a : Link} {ls : List ExpandedLeaf} {ms : List Link} (w : TermWhole t x as') (s : TermApart (renamed_term to t) a ls ms)
        → one_if_same y x + count y as' ≡ places y (term_links t) + 2 * places y (firsts (term_table w s))
    term_count y link_whole (link_apart e) = omega arith
    term_count y (atom_whole {x = x} {links = xs} w) (atom_apart e f s) =
        let inside = terms_count y w s in let links = places_append y xs (x ∷ []) in omega (arith, inside, links)

    terms_count : (y : ℕ) {ts : FoldedTerms} {xs : List ℕ} {as' : List SolidAtom} {bs : List Link} {ls : List ExpandedLeaf} {ms : List Link} (w : TermsWhole ts xs as') (s : TermsApart (renamed_terms to ts) bs ls ms)
        → places y xs + count y as' ≡ places y (terms_links ts) + 2 * places y (firsts (terms_table w s))
    terms_count y none_whole none_apart = omega arith
    terms_count y (more_whole {t = t} {ts = ts} {atoms = as'} {others = bs} w ws) (more_apart s ss) =
        let one = term_count y w s in
        let others = terms_count y ws ss in
        let atoms = count_append y as' bs in
        let links = places_append y (term_links t) (terms_links ts) in
        let table = firsts_append y (term_table w s) (terms_table ws ss) in omega (arith, one, others, atoms, links, table)

  items_count : (y : ℕ) {is : List FoldedItem} {as' : List SolidAtom} {ls : List ExpandedLeaf} {ms : List Link} (w : ItemsWhole is as') (s : ItemsApart (map (renamed_item to) is) ls ms)
      → count y as' ≡ places y (items_links is) + 2 * places y (firsts (items_table w s))
  items_count y whole.no_items apart.no_items = omega arith
  items_count y (items_whole {i = i} {is = is} {atoms = as'} {others = bs} w ws) (items_apart e s ss) =
      let one = terms_count y w s in
      let others = items_count y ws ss in
      let atoms = count_append y as' bs in
      let links = places_append y (terms_links i.arguments) (items_links is) in
      let table = firsts_append y (terms_table w s) (items_table ws ss) in omega (arith, one, others, atoms, links, table)

  -- names
  each_append : (name : ℕ → Link) (as' bs : List SolidAtom) (ls ks : List ExpandedLeaf) → AllZip (AtomNamed name) as' ls → AllZip (AtomNamed name) bs ks → AllZip (AtomNamed name) (as' ++ bs) (ls ++ ks)
  each_append name [] bs [] ks h k = k
  each_append name [] bs (l ∷ ls) ks h k = absurd h
  each_append name (a ∷ as') bs [] ks h k = absurd h
  each_append name (a ∷ as') bs (l ∷ ls) ks h k = (h.0, each_append name as' bs ls ks h.1 k)

  abbrev Right : (ℕ → Link) → Table → List ℕ → Type 0
  Right name t xs = ((e : ℕ × Link) → Among e t → name e.0 ≡ e.1) × ((x : ℕ) → Among x xs → name x ≡ link_by_number (to x))

  right_left : (name : ℕ → Link) (s t : Table) (xs ys : List ℕ) → Right name (s ++ t) (xs ++ ys) → Right name s xs
  right_left name s t xs ys h = (λ e a. h.0 e (among_left t a), λ x a. h.1 x (among_left ys a))

  right_right : (name : ℕ → Link) (s t : Table) (xs ys : List ℕ) → Right name (s ++ t) (xs ++ ys) → Right name t ys
  right_right name s t xs ys h = (λ e a. h.0 e (among_right s a), λ x a. h.1 x (among_right xs a))

  two_links : (a b : Link) (as' bs : List Link) → a ≡ b → as' ≡ bs → a ∷ as' ≡ b ∷ bs
  two_links a b as' bs e f = cc

  mutual
    term_named : (name : ℕ → Link) {t : FoldedTerm} {x : ℕ} {as' : List SolidAtom} {a : Link} {ls : List ExpandedLeaf} {ms : List Link} (w : TermWhole t x as') (s : TermApart (renamed_term to t) a ls ms)
        → Right name (term_table w s) (term_links t) → (a ≡ name x) × AllZip (AtomNamed name) as' ls
    term_named name (link_whole {x = x}) (link_apart e) h = (e ∙ sym (h.1 x at_head), tt)
    term_named name (atom_whole {x = x} {links = xs} w) (atom_apart {a = a} {links = bs} e f s) h =
        let inside = terms_named name w s (λ g i. h.0 g (further i), h.1) in
        let own = sym (h.0 (x, a) at_head) in
        (own, ((e, f ∙ ap (λ zs. zs ++ a ∷ []) inside.0 ∙ ap (λ z. map name xs ++ z ∷ []) own ∙ sym (map-append name xs (x ∷ []))), inside.1))

    terms_named : (name : ℕ → Link) {ts : FoldedTerms} {xs : List ℕ} {as' : List SolidAtom} {bs : List Link} {ls : List ExpandedLeaf} {ms : List Link} (w : TermsWhole ts xs as') (s : TermsApart (renamed_terms to ts) bs ls ms)
        → Right name (terms_table w s) (terms_links ts) → (bs ≡ map name xs) × AllZip (AtomNamed name) as' ls
    terms_named name none_whole none_apart h = (refl, tt)
    terms_named name (more_whole {t = t} {ts = ts} {atoms = as'} {others = bs} w ws) (more_apart {leaves = ls} {others = ks} s ss) h =
        let one = term_named name w s (right_left name (term_table w s) (terms_table ws ss) (term_links t) (terms_links ts) h) in
        let others = terms_named name ws ss (right_right name (term_table w s) (terms_table ws ss) (term_links t) (terms_links ts) h) in
        (two_links _ _ _ _ one.0 others.0, each_append name as' bs ls ks one.1 others.1)

  items_named : (name : ℕ → Link) {is : List FoldedItem} {as' : List SolidAtom} {ls : List ExpandedLeaf} {ms : List Link} (w : ItemsWhole is as') (s : ItemsApart (map (renamed_item to) is) ls ms)
      → Right name (items_table w s) (items_links is) → AllZip (AtomNamed name) as' ls
  items_named name whole.no_items apart.no_items h = tt
  items_named name (items_whole {i = i} {is = is} {atoms = as'} {others = bs} w ws) (items_apart {leaves = ls} {others = ks} e s ss) h =
      let one = terms_named name w s (right_left name (terms_table w s) (items_table ws ss) (terms_links i.arguments) (items_links is) h) in
      let others = items_named name ws ss (right_right name (terms_table w s) (items_table ws ss) (terms_links i.arguments) (items_links is) h) in
      ((e, one.0), each_append name as' bs ls ks one.1 others)

  -- Whole processes: a table, with what is said of it.
  module _ (words : List Word) (places_of : List Pos) (table : List ExpandedRule) where
    record Tabled (f : Folded) (T : Region) (l : ExpandedLevel) (own : List Link) : Type 0 where
      links : Table
      names : seconds links ≡ own
      counts : (y : ℕ) → occurrences y (region_process T) ≡ places y (folded_links f) + 2 * places y (firsts links)
      named : (name : ℕ → Link) → Right name links (folded_links f) → RegionNamed name T l

    record AllTabled (fs : FoldedMembranes) (Ts : Regions) (ls : ExpandedLevels) (own : List Link) : Type 0 where
      links : Table
      names : seconds links ≡ own
      counts : (y : ℕ) → occurrences y (together (regions_processes Ts)) ≡ places y (membranes_links fs) + 2 * places y (firsts links)
      named : (name : ℕ → Link) → Right name links (membranes_links fs) → RegionsNamed name Ts ls

    seconds_both : (s t : Table) (own first more : List Link) → seconds s ≡ first → seconds t ≡ more → own ≡ first ++ more → seconds (s ++ t) ≡ own
    seconds_both s t own first more e f g = map-append (λ (e : ℕ × Link). e.1) s t ∙ ap (λ zs. zs ++ seconds t) e ∙ ap (λ zs. first ++ zs) f ∙ sym g

    mutual
      tabled : {f : Folded} {T : Region} (l : ExpandedLevel) (own : List Link) → FoldedWhole f T → FoldedApart words places_of table (renamed_folded to f) l own → Tabled f T l own
      tabled (level leaves inside cs rcs ks) own (folded_whole {items = is} {fs = fs} {rs = rs} w ws) h =
          let s = items_table w h.3 in
          let below = all_tabled inside h.1 ws h.4 in
          let t = below.links in
          record {
            links = s ++ t;
            names = seconds_both s t own h.0 h.1 (items_seconds w h.3) below.names h.2;
            counts = λ y.
                let a = items_count y w h.3 in
                let b = below.counts y in
                let c = places_append y (items_links is) (membranes_links fs) in
                let d = firsts_append y s t in
                let r = no_rule_links y rs in omega (arith, a, b, c, d, r);
            named = λ name g. (items_named name w h.3 (right_left name s t (items_links is) (membranes_links fs) g), below.named name (right_right name s t (items_links is) (membranes_links fs) g));
          }

      all_tabled : {fs : FoldedMembranes} {Ts : Regions} (ls : ExpandedLevels) (own : List Link) → MembranesWhole fs Ts → MembranesApart words places_of table (renamed_membranes to fs) ls own → AllTabled fs Ts ls own
      all_tabled no_level own no_membranes h = record { links = []; names = sym h; counts = λ y. omega arith; named = λ name g. tt }
      all_tabled (level_and l ls) own no_membranes h = absurd h
      all_tabled no_level own (membranes_whole w ws) h = absurd h
      all_tabled (level_and l ls) own (membranes_whole {f = f} {fs = fs} w ws) h =
          let one = tabled l h.0 w h.3 in
          let others = all_tabled ls h.1 ws h.4 in
          let s = one.links in
          let t = others.links in
          record {
            links = s ++ t;
            names = seconds_both s t own h.0 h.1 one.names others.names h.2;
            counts = λ y.
                let a = one.counts y in
                let b = others.counts y in
                let c = places_append y (folded_links f) (membranes_links fs) in
                let d = firsts_append y s t in omega (arith, a, b, c, d);
            named = λ name g. (one.named name (right_left name s t (folded_links f) (membranes_links fs) g), others.named name (right_right name s t (folded_links f) (membranes_links fs) g));
          }

-- A link that is printed stands for no term.

zero_or_not : (n : ℕ) → (n ≡ 0) ⊎ (n ≢ 0)
zero_or_not n = same_or_apart n 0

no_made : (m way : List ℕ) → written m ≡ made way → ⊥
no_made m way e = cc

-- a folded form that is taken apart in a text has the atoms of its region, with other names for the links
pub folded_links_are_named : FoldedLinksAreNamed
folded_links_are_named words places_of table given numbered T l own closed w n a different none_written =
    (name, one, it.named name (by_table, by_number))
  where
    to : ℕ → ℕ
    to = n.to

    it : Tabled n.to words places_of table given T l own
    it = let P : Folded → Type 0 = λ f. FoldedApart words places_of table f l own in tabled n.to words places_of table l own w (subst P n.is a)

    at_most : (y : ℕ) → occurrences y (region_process T) ≤ 2
    at_most y = go (closed y)
      where
        go : Fresh y (region_process T) ⊎ Local y (region_process T) → occurrences y (region_process T) ≤ 2
        go (inl e) = omega (arith, e)
        go (inr e) = omega (arith, e)

    name : ℕ → Link
    name x = look_up it.links x (link_by_number (n.to x))

    by_table : (e : ℕ × Link) → Among e it.links → name e.0 ≡ e.1
    by_table e i = let c = it.counts e.0 in let m = at_most e.0 in look_there it.links e (link_by_number (n.to e.0)) i (omega (arith, c, m))

    by_number : (x : ℕ) → Among x (folded_links given) → name x ≡ link_by_number (n.to x)
    by_number x i = let c = it.counts x in let m = at_most x in let p = among_places i in look_none it.links x (link_by_number (n.to x)) (omega (arith, c, m, p))

    printed : (x : ℕ) → occurrences x (region_process T) ≢ 0 → places x (firsts it.links) ≡ 0 → Among x (folded_links given)
    printed x o e = let c = it.counts x in places_among x (folded_links given) (λ z. o (omega (arith, c, e, z)))

    own_name : (e : ℕ × Link) → Among e it.links → (way : List ℕ) × (e.1 ≡ made way)
    own_name e i = let P : List Link → Type 0 = λ zs. Among e.1 zs in none_written e.1 (subst P it.names (second_among it.links e i))

    mixed : (x y : ℕ) → Among x (folded_links given) → places y (firsts it.links) ≢ 0 → name x ≡ name y → ⊥
    mixed x y i m e =
        let h = in_table it.links y m in
        let g = own_name h.0 h.1 in
        no_made (link_name (n.to x)) g.0 (sym (by_number x i) ∙ e ∙ ap name (sym h.2) ∙ by_table h.0 h.1 ∙ g.1)

    one : OneToOneNames name T
    one x y o p e = go (zero_or_not (places x (firsts it.links))) (zero_or_not (places y (firsts it.links)))
      where
        go : (places x (firsts it.links) ≡ 0) ⊎ (places x (firsts it.links) ≢ 0) → (places y (firsts it.links) ≡ 0) ⊎ (places y (firsts it.links) ≢ 0) → x ≡ y
        go (inl z) (inl v) =
            let i = printed x o z in
            let j = printed y p v in
            n.one_to_one x y i j (link_same (n.to x) (n.to y) (sym (by_number x i) ∙ e ∙ by_number y j))
        go (inl z) (inr m) = absurd (mixed x y (printed x o z) m e)
        go (inr m) (inl v) = absurd (mixed y x (printed y p v) m (sym e))
        go (inr m) (inr k) =
            let h = in_table it.links x m in
            let g = in_table it.links y k in
            let P : List Link → Type 0 = EachOnce in
            let names = sym (by_table h.0 h.1) ∙ ap name h.2 ∙ e ∙ ap name (sym g.2) ∙ by_table g.0 g.1 in
            sym h.2 ∙ same_first it.links h.0 g.0 (subst P (sym it.names) different) h.1 g.1 names ∙ g.2
