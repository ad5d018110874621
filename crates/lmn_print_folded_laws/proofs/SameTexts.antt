-- What a text gives of a folded region is this region up to the order of atoms and the numbers of links.
use Rattle.std.proofs.Common.{◌≡◌, ◌≢◌, ℕ, ◌+◌, ◌⊎◌, inl, inr, List, [], ◌∷◌, ◌++◌, map, refl, sym, ap, ◌∙◌, subst, arith}
use Rattle.std.specs.Prelude.{Contains}
use Rattle.std.proofs.lemmas.List.{map-id}
use Rattle.std.proofs.lemmas.List.Elements.{Contains-append_left, Contains-append_right}
use Rattle.std.specs.List.{AllZip}
use Rattle.lmn_base.specs.declared.refusal.Pos.{Pos}
use Rattle.lmn_congruence.specs.Links.{places}
use Rattle.lmn_congruence.specs.Orders.{Put, here, there, Shuffle, none, more}
use Rattle.lmn_congruence.specs.Process.{Process, nothing, connector, atom, pair, membrane, rule, Closed, Fresh, Local, OneToOneOn, occurrences, together, renamed}
use Rattle.lmn_congruence.specs.Regions.{SolidAtom, Region, region, Regions, no_region, region_and, atom_process, region_process, regions_processes}
use Rattle.lmn_congruence.specs.Rules.{Rule as RuleTree}
use Rattle.lmn_congruence.specs.Same.{renamed_atom, renamed_region, renamed_regions, PutRegion, first, later, SameRegion, same_region, SameRegions, none_left, one_more}
use Rattle.lmn_congruence.proofs.Counts.{one_if_equal, none_if_apart}
use Rattle.lmn_congruence.proofs.Renaming.{renamed_id, occurrences_image}
use Rattle.lmn_lexer.specs.Laying.{Word}
use Rattle.lmn_flatten_plain.specs.Links.{Link}
use Rattle.lmn_flatten_plain.specs.Expanded.{ExpandedLeaf, atom_leaf, typed_leaf, ExpandedLevel, level, ExpandedLevels, no_level, level_and, ExpandedRule, use_links, expanded_leaves_links, expanded_links, expanded_links_in}
use Rattle.lmn_print_folded.specs.Terms.{Folded, FoldedMembranes, renamed_folded, renamed_membranes}
use Rattle.lmn_print_folded.proofs.Places.{count}
use Rattle.lmn_print_folded_laws.specs.Apart.{FoldedApart, MembranesApart}
use Rattle.lmn_print_folded_laws.specs.Reordered.{AtomsReordered, atoms_reordered, EachReordered, none_reordered, more_reordered}
use Rattle.lmn_print_folded_laws.proofs.Reordering.{as_same}
use Rattle.lmn_print_folded_laws.specs.Whole.{FoldedWhole, folded_whole, MembranesWhole, no_membranes, membranes_whole}
use Rattle.lmn_print_folded_laws.proofs.WholeForms.{folded_forms_are_whole}
use Rattle.lmn_print_folded_laws.specs.Named.{AtomNamed, RegionNamed, RegionsNamed}
use Rattle.lmn_print_folded_laws.proofs.Naming.{folded_links_are_named}
use Rattle.lmn_print_folded_laws.specs.Numbered.{AtomNumbered, RegionNumbered, RegionsNumbered, FoldedTextsAreSame}
use Rattle.lmn_base.proofs.Lists.{contains_first as contains_here}
use Rattle.lmn_base.proofs.Numbers.{one_not_zero as one_or_other, same_or_not as same_or_apart}
use Rattle.lmn_congruence.proofs.TranslatedLinks.{no_link_in_rules as no_rule_links}

-- Two regions that are the same have the same links, renamed.

put_count : (y : ℕ) {a : SolidAtom} {xs ys : List SolidAtom} → Put a xs ys → count y ys ≡ places y a.links + count y xs
put_count y here = refl
put_count y (there p) = let h = put_count y p in omega (arith, h)

abbrev renamed_count : (ℕ → ℕ) → ℕ → List SolidAtom → ℕ
renamed_count f y xs = occurrences y (renamed f (together (map atom_process xs)))

atoms_count : (f : ℕ → ℕ) (y : ℕ) {xs ys : List SolidAtom} → Shuffle (λ a b. renamed_atom f a ≡ b) xs ys → renamed_count f y xs ≡ count y ys
atoms_count f y none = refl
atoms_count f y (more e s p) =
    let others = atoms_count f y s in
    let put = put_count y p in
    let same = ap (λ (a : SolidAtom). places y a.links) e in omega (arith, others, put, same)

put_region_count : (y : ℕ) {m : Region} {ms ns : Regions} → PutRegion m ms ns
    → occurrences y (together (regions_processes ns)) ≡ occurrences y (region_process m) + occurrences y (together (regions_processes ms))
put_region_count y first = refl
put_region_count y (later p) = let h = put_region_count y p in omega (arith, h)

no_renamed_links : (f : ℕ → ℕ) (y : ℕ) (rs : List RuleTree) → occurrences y (renamed f (together (map rule rs))) ≡ 0
no_renamed_links f y [] = refl
no_renamed_links f y (r ∷ rs) = let h = no_renamed_links f y rs in omega (arith, h)

mutual
  same_count : (f : ℕ → ℕ) (y : ℕ) {S T : Region} → SameRegion f S T → occurrences y (renamed f (region_process S)) ≡ occurrences y (region_process T)
  same_count f y (same_region {rs = rs} {ss = ss} a m r) =
      let atoms = atoms_count f y a in
      let inside = same_counts f y m in
      let here_none = no_renamed_links f y rs in
      let there_none = no_rule_links y ss in omega (arith, atoms, inside, here_none, there_none)

  same_counts : (f : ℕ → ℕ) (y : ℕ) {ms ns : Regions} → SameRegions f ms ns → occurrences y (renamed f (together (regions_processes ms))) ≡ occurrences y (together (regions_processes ns))
  same_counts f y none_left = refl
  same_counts f y (one_more r rs p) =
      let one = same_count f y r in
      let others = same_counts f y rs in
      let put = put_region_count y p in omega (arith, one, others, put)

counted : {S T : Region} (y : ℕ) → AtomsReordered (λ x. x) S T → occurrences y (region_process S) ≡ occurrences y (region_process T)
counted {S} y h = sym (ap (occurrences y) (renamed_id (region_process S))) ∙ same_count (λ x. x) y (as_same (λ x. x) h)

-- The same with other numbers.

module _ (f : ℕ → ℕ) where
  put_renamed : {a : SolidAtom} {xs ys : List SolidAtom} → Put a xs ys → Put (renamed_atom f a) (map (renamed_atom f) xs) (map (renamed_atom f) ys)
  put_renamed here = here
  put_renamed (there p) = there (put_renamed p)

  atom_renamed : (a b : SolidAtom) → renamed_atom (λ x. x) a ≡ b → renamed_atom f a ≡ renamed_atom f b
  atom_renamed a b e = ap (λ ls. record { label = a.label; links = map f ls }) (sym (map-id a.links)) ∙ ap (renamed_atom f) e

  atoms_renamed : {xs ys : List SolidAtom} → Shuffle (λ a b. renamed_atom (λ x. x) a ≡ b) xs ys → Shuffle (λ a b. renamed_atom f a ≡ b) xs (map (renamed_atom f) ys)
  atoms_renamed none = none
  atoms_renamed (more e s p) = more (atom_renamed _ _ e) (atoms_renamed s) (put_renamed p)

  mutual
    also_renamed : {S T : Region} → AtomsReordered (λ x. x) S T → AtomsReordered f S (renamed_region f T)
    also_renamed (atoms_reordered a m) = atoms_reordered (atoms_renamed a) (all_renamed m)

    all_renamed : {ms ns : Regions} → EachReordered (λ x. x) ms ns → EachReordered f ms (renamed_regions f ns)
    all_renamed none_reordered = none_reordered
    all_renamed (more_reordered r rs) = more_reordered (also_renamed r) (all_renamed rs)

-- A link that occurs in the region has its name among those of the level.

module _ (name : ℕ → Link) where
  name_in_links : (x : ℕ) (xs : List ℕ) → places x xs ≢ 0 → Contains (map name xs) (name x)
  name_in_links x [] n = absurd (n refl)
  name_in_links x (y ∷ xs) n = go (same_or_apart x y) (name_in_links x xs)
    where
      go : (x ≡ y) ⊎ (x ≢ y) → (places x xs ≢ 0 → Contains (map name xs) (name x)) → Contains (map name (y ∷ xs)) (name x)
      go (inl e) others = let P : ℕ → Type 0 = λ z. Contains (name z ∷ map name xs) (name x) in subst P e (contains_here (name x) (map name xs))
      go (inr d) others = let h = none_if_apart x y d in Contains-append_right (name y ∷ []) (map name xs) (name x) (others (λ z. n (omega (arith, h, z))))

  name_in_atoms : (x : ℕ) (xs : List SolidAtom) (ls : List ExpandedLeaf) → AllZip (AtomNamed name) xs ls → count x xs ≢ 0 → Contains (expanded_leaves_links ls) (name x)
  name_in_atoms x [] ls h n = absurd (n refl)
  name_in_atoms x (a ∷ xs) [] h n = absurd h
  name_in_atoms x (a ∷ xs) (typed_leaf m u pos ∷ ls) h n = absurd h.0
  name_in_atoms x (a ∷ xs) (atom_leaf l us pos ∷ ls) h n = go (one_or_other (places x a.links) (count x xs) n) (name_in_atoms x xs ls h.1)
    where
      go : (places x a.links ≢ 0) ⊎ (count x xs ≢ 0) → (count x xs ≢ 0 → Contains (expanded_leaves_links ls) (name x)) → Contains (use_links us ++ expanded_leaves_links ls) (name x)
      go (inl m) others = let P : List Link → Type 0 = λ zs. Contains zs (name x) in Contains-append_left (use_links us) (expanded_leaves_links ls) (name x) (subst P (sym h.0.1) (name_in_links x a.links m))
      go (inr m) others = Contains-append_right (use_links us) (expanded_leaves_links ls) (name x) (others m)

  in_level : (x : ℕ) (xs : List SolidAtom) (ms : Regions) (rs : List RuleTree) (ls : List ExpandedLeaf) (ns : ExpandedLevels) → AllZip (AtomNamed name) xs ls
      → (occurrences x (together (regions_processes ms)) ≢ 0 → Contains (expanded_links_in ns) (name x)) → occurrences x (region_process (region xs ms rs)) ≢ 0 → Contains (expanded_leaves_links ls ++ expanded_links_in ns) (name x)
  in_level x xs ms rs ls ns h inside n = go (one_or_other (count x xs) (occurrences x (together (regions_processes ms))) (λ e. let r = no_rule_links x rs in n (omega (arith, e, r))))
    where
      go : (count x xs ≢ 0) ⊎ (occurrences x (together (regions_processes ms)) ≢ 0) → Contains (expanded_leaves_links ls ++ expanded_links_in ns) (name x)
      go (inl m) = Contains-append_left (expanded_leaves_links ls) (expanded_links_in ns) (name x) (name_in_atoms x xs ls h m)
      go (inr m) = Contains-append_right (expanded_leaves_links ls) (expanded_links_in ns) (name x) (inside m)

  in_levels : (x : ℕ) (r : Region) (rs : Regions) (l : ExpandedLevel) (ls : ExpandedLevels) → (occurrences x (region_process r) ≢ 0 → Contains (expanded_links l) (name x))
      → (occurrences x (together (regions_processes rs)) ≢ 0 → Contains (expanded_links_in ls) (name x)) → occurrences x (together (regions_processes (region_and r rs))) ≢ 0 → Contains (expanded_links l ++ expanded_links_in ls) (name x)
  in_levels x r rs l ls one others n = go (one_or_other (occurrences x (region_process r)) (occurrences x (together (regions_processes rs))) n)
    where
      go : (occurrences x (region_process r) ≢ 0) ⊎ (occurrences x (together (regions_processes rs)) ≢ 0) → Contains (expanded_links l ++ expanded_links_in ls) (name x)
      go (inl m) = Contains-append_left (expanded_links l) (expanded_links_in ls) (name x) (one m)
      go (inr m) = Contains-append_right (expanded_links l) (expanded_links_in ls) (name x) (others m)

  mutual
    name_in_region : (x : ℕ) (T : Region) (l : ExpandedLevel) → RegionNamed name T l → occurrences x (region_process T) ≢ 0 → Contains (expanded_links l) (name x)
    name_in_region x (region xs ms rs) (level ls ns cs os ks) h n = in_level x xs ms rs ls ns h.0 (λ m. name_in_regions x ms ns h.1 m) n

    name_in_regions : (x : ℕ) (Ts : Regions) (ls : ExpandedLevels) → RegionsNamed name Ts ls → occurrences x (together (regions_processes Ts)) ≢ 0 → Contains (expanded_links_in ls) (name x)
    name_in_regions x no_region ls h n = absurd (n refl)
    name_in_regions x (region_and r rs) no_level h n = absurd h
    name_in_regions x (region_and r rs) (level_and l ls) h n = in_levels x r rs l ls (λ m. name_in_region x r l h.0 m) (λ m. name_in_regions x rs ls h.1 m) n

-- The level with numbers.

map_twice : (number : Link → ℕ) (name : ℕ → Link) (xs : List ℕ) → map number (map name xs) ≡ map (λ x. number (name x)) xs
map_twice number name [] = refl
map_twice number name (x ∷ xs) = ap (λ ys. number (name x) ∷ ys) (map_twice number name xs)

module _ (words : List Word) (places_of : List Pos) (table : List ExpandedRule) (number : Link → ℕ) (name : ℕ → Link) (to : ℕ → ℕ) where
  abbrev new : ℕ → ℕ
  new x = number (name x)

  atoms_numbered : (xs : List SolidAtom) (ls : List ExpandedLeaf) → AllZip (AtomNamed name) xs ls → AllZip (AtomNumbered words places_of table number) (map (renamed_atom new) xs) ls
  atoms_numbered [] [] h = tt
  atoms_numbered [] (l ∷ ls) h = absurd h
  atoms_numbered (a ∷ xs) [] h = absurd h
  atoms_numbered (a ∷ xs) (typed_leaf n u pos ∷ ls) h = absurd h.0
  atoms_numbered (a ∷ xs) (atom_leaf l us pos ∷ ls) h = ((h.0.0, ap (map number) h.0.1 ∙ map_twice number name a.links), atoms_numbered xs ls h.1)

  mutual
    region_numbered : {f : Folded} {T : Region} (l : ExpandedLevel) (own : List Link) → FoldedWhole f T → FoldedApart words places_of table (renamed_folded to f) l own → RegionNamed name T l
        → RegionNumbered words places_of table number (renamed_region new T) l
    region_numbered (level ls ns cs os ks) own (folded_whole {atoms = xs} w ws) h named =
        (atoms_numbered xs ls named.0, regions_numbered ns h.1 ws h.4 named.1, h.5, h.6, h.7)

    regions_numbered : {fs : FoldedMembranes} {Ts : Regions} (ls : ExpandedLevels) (own : List Link) → MembranesWhole fs Ts → MembranesApart words places_of table (renamed_membranes to fs) ls own → RegionsNamed name Ts ls
        → RegionsNumbered words places_of table number (renamed_regions new Ts) ls
    regions_numbered no_level own no_membranes h named = tt
    regions_numbered (level_and l ls) own no_membranes h named = absurd h
    regions_numbered no_level own (membranes_whole w ws) h named = absurd h
    regions_numbered (level_and l ls) own (membranes_whole w ws) h named = (region_numbered l h.0 w h.3 named.0, regions_numbered ls h.1 ws h.4 named.1)

-- a link of a renamed process is the image of one
image_place : (f : ℕ → ℕ) (y : ℕ) (xs : List ℕ) → places y (map f xs) ≢ 0 → (x : ℕ) × (places x xs ≢ 0) × (f x ≡ y)
image_place f y [] n = absurd (n refl)
image_place f y (x ∷ xs) n = go (same_or_apart y (f x)) (image_place f y xs)
  where
    go : (y ≡ f x) ⊎ (y ≢ f x) → (places y (map f xs) ≢ 0 → (z : ℕ) × (places z xs ≢ 0) × (f z ≡ y)) → (z : ℕ) × (places z (x ∷ xs) ≢ 0) × (f z ≡ y)
    go (inl e) others = (x, (λ z. let h = one_if_equal x x refl in omega (arith, h, z)), sym e)
    go (inr d) others =
        let h = none_if_apart y (f x) d in
        let r = others (λ z. n (omega (arith, h, z))) in (r.0, (λ z. r.1 (omega (arith, z))), r.2)

image_of : (f : ℕ → ℕ) (y : ℕ) (P : Process) → occurrences y (renamed f P) ≢ 0 → (x : ℕ) × (occurrences x P ≢ 0) × (f x ≡ y)
image_of f y nothing n = absurd (n refl)
image_of f y (connector u v) n =
    let r = image_place f y (u ∷ v ∷ []) (λ z. n (omega (arith, z))) in (r.0, (λ z. r.1 (omega (arith, z))), r.2)
image_of f y (atom a xs) n = image_place f y xs n
image_of f y (pair P Q) n = go (one_or_other _ _ n) (image_of f y P) (image_of f y Q)
  where
    go : (occurrences y (renamed f P) ≢ 0) ⊎ (occurrences y (renamed f Q) ≢ 0) → (occurrences y (renamed f P) ≢ 0 → (x : ℕ) × (occurrences x P ≢ 0) × (f x ≡ y))
        → (occurrences y (renamed f Q) ≢ 0 → (x : ℕ) × (occurrences x Q ≢ 0) × (f x ≡ y)) → (x : ℕ) × (occurrences x (pair P Q) ≢ 0) × (f x ≡ y)
    go (inl m) one other = let r = one m in (r.0, (λ z. r.1 (omega (arith, z))), r.2)
    go (inr m) one other = let r = other m in (r.0, (λ z. r.1 (omega (arith, z))), r.2)
image_of f y (membrane P) n = image_of f y P n
image_of f y (rule r) n = absurd (n refl)

-- closed again
still_closed : (f : ℕ → ℕ) (P Q : Process) → Closed P → OneToOneOn f P → ((y : ℕ) → occurrences y (renamed f P) ≡ occurrences y Q) → Closed Q
still_closed f P Q closed one counts y = go (same_or_apart (occurrences y Q) 0)
  where
    go : (occurrences y Q ≡ 0) ⊎ (occurrences y Q ≢ 0) → Fresh y Q ⊎ Local y Q
    go (inl e) = inl e
    go (inr n) =
        let c = counts y in
        let x = image_of f y P (λ z. n (omega (arith, c, z))) in
        by x.0 x.1 x.2 (occurrences_image f x.0 P (λ z o e. one z x.0 o x.1 e)) (closed x.0)
      where
        by : (x : ℕ) → occurrences x P ≢ 0 → f x ≡ y → occurrences (f x) (renamed f P) ≡ occurrences x P → Fresh x P ⊎ Local x P → Fresh y Q ⊎ Local y Q
        by x o e image (inl z) = absurd (o z)
        by x o e image (inr z) =
            let c = counts y in
            let s = ap (λ z. occurrences z (renamed f P)) e in inr (omega (arith, c, s, image, z))

-- a folded form that is taken apart in a text is the region that was folded
pub folded_texts_are_same : FoldedTextsAreSame
folded_texts_are_same words places_of table number S given numbered l own closed form n a different none_written apart_numbers =
    let whole = folded_forms_are_whole S given closed form in
    let T = whole.0 in
    let id_closed : Closed (region_process T) = λ y. closed_too y (counted y whole.2) (closed y) in
    let names = folded_links_are_named words places_of table given numbered T l own id_closed whole.1 n a different none_written in
    let name = names.0 in
    let new : ℕ → ℕ = λ x. number (name x) in
    let same = also_renamed new whole.2 in
    let there_too : (x : ℕ) → occurrences x (region_process S) ≢ 0 → occurrences x (region_process T) ≢ 0 = λ x o e. let c = counted x whole.2 in o (omega (arith, c, e)) in
    let one : OneToOneOn new (region_process S) = λ x y o p e.
    names.1 x y (there_too x o) (there_too y p)
    (apart_numbers (name x) (name y) (name_in_region name x T l names.2 (there_too x o)) (name_in_region name y T l names.2 (there_too y p)) e) in
    let P : Folded → Type 0 = λ f. FoldedApart words places_of table f l own in (
      renamed_region new T,
      record { to = new; one_to_one = one; same = same },
      still_closed new (region_process S) (region_process (renamed_region new T)) closed one (λ y. same_count new y (as_same new same)),
      region_numbered words places_of table number name n.to l own whole.1 (subst P n.is a) names.2,
    )
  where
    closed_too : (y : ℕ) {m k : ℕ} → m ≡ k → (m ≡ 0) ⊎ (m ≡ 2) → (k ≡ 0) ⊎ (k ≡ 2)
    closed_too y e (inl z) = inl (sym e ∙ z)
    closed_too y e (inr z) = inr (sym e ∙ z)
