-- Parts of a region, and copies of them: one up to the numbers of links.
use Rattle.std.proofs.Common.{ℕ, List, map, refl, sym, ap, subst, inl, inr, arith, ◌≡◌, ◌≢◌, ◌+◌, ◌≤◌, ◌⊎◌, [], ◌∷◌, ◌∙◌}
use Rattle.std.proofs.lemmas.List.{map-id}
use Rattle.lmn_congruence.specs.Links.{places}
use Rattle.lmn_congruence.specs.Orders.{Among, Shuffle, at_head, further, more, none}
use Rattle.lmn_congruence.specs.Process.{OneToOneOn, Process, atom, connector, membrane, nothing, occurrences, pair, renamed, rule, together}
use Rattle.lmn_congruence.specs.Regions.{SolidAtom, atom_process}
use Rattle.lmn_congruence.specs.Rules.{Label}
use Rattle.lmn_reduction.specs.Parts.{IsGround, ReachesLink, Rooted, EqualParts, across, atoms_at_top, the_root}
use Rattle.lmn_congruence.proofs.Counts.{Occurs}
use Rattle.lmn_congruence.proofs.Renaming.{occurrences_image, occurrences_none}
use Rattle.lmn_congruence.proofs.Reordered.{reordered_count}
use Rattle.lmn_congruence.proofs.Shuffles.{shuffle_chain, shuffle_flip}
use Rattle.lmn_adequacy.specs.Embedding.{IsPart, Merged, from_first, from_second, merged_none}
use Rattle.lmn_adequacy.specs.Next.{links_at}
use Rattle.lmn_adequacy.proofs.Depth.{at_append, at_cons, at_same}
use Rattle.lmn_adequacy.proofs.Embedding.{part_atom, part_order}
use Rattle.lmn_adequacy.proofs.Exposing.{Source, found, missing, source}
use Rattle.lmn_adequacy.proofs.Images.{positive}
use Rattle.lmn_adequacy.proofs.Orders.{among_others, among_put, either, merged_shuffle}
use Rattle.lmn_base.proofs.Numbers.{same_or_not, left_not_zero, right_not_zero, not_zero_if_one}
use Rattle.lmn_congruence.proofs.Common.{among_apart as among_append, among_map, among_places, map_known}
use Rattle.lmn_base.proofs.Lists.{map_twice}

-- ---- atoms and their links

-- a link of an atom at the top occurs in the process
pub atoms_occur : (P : Process) {a : Label × List ℕ} {x : ℕ} → Among a (atoms_at_top P) → Among x a.1 → Occurs x P
atoms_occur nothing k l = elim k [ ]
atoms_occur (connector y z) k l = elim k [ ]
atoms_occur (atom b ys) at_head l = positive (places _ ys) (among_places l)
atoms_occur (atom b ys) (further k) l = elim k [ ]
atoms_occur (pair P Q) {a} {x} k l = either (among_append (atoms_at_top P) (atoms_at_top Q) k) (λ i. left_not_zero (occurrences x P) (occurrences x Q) (atoms_occur P i l)) (λ i. right_not_zero (occurrences x P) (occurrences x Q) (atoms_occur Q i l))
atoms_occur (membrane P) k l = elim k [ ]
atoms_occur (rule r) k l = elim k [ ]

-- lists that match do so with what is known of each element
pub shuffle_known : {A B : Type 0} {R : A → B → Type 0} (P : A → Type 0) (Q : B → Type 0) {xs : List A} {ys : List B} → ((a : A) → Among a xs → P a) → ((b : B) → Among b ys → Q b) → Shuffle R xs ys → Shuffle (λ a b. R a b × P a × Q b) xs ys
shuffle_known P Q p q none = none
shuffle_known P Q p q (more {x = x} {y = y} r s k) = more (r, p x at_head, q y (among_put k)) (shuffle_known P Q (λ a i. p a (further i)) (λ b i. q b (among_others k i)) s) k

-- a link occurs in the process of atoms as often as it has places in them
pub atoms_places : (z : ℕ) (xs : List SolidAtom) → occurrences z (together (map atom_process xs)) ≡ places z (links_at xs)
atoms_places z [] = refl
atoms_places z (x ∷ xs) = omega (arith, atoms_places z xs, at_cons z x xs)

-- a link has as many places in a part as in the process whose image it is
pub part_count : {g : Rooted} {x : ℕ} {part : List SolidAtom} (i : IsPart g x part) (z : ℕ) → places z (links_at part) ≡ occurrences z (renamed i.to g.process)
part_count {g} {x} {part} i z = sym (reordered_count (part_order i.to g.process part i.only_atoms i.atoms) z ∙ atoms_places z part)

-- the image of a link has as many places in the part as the link has in the process
pub part_image : {g : Rooted} {x : ℕ} {part : List SolidAtom} (i : IsPart g x part) (y : ℕ) → Occurs y g.process → places (i.to y) (links_at part) ≡ occurrences y g.process
part_image {g} i y o = part_count i (i.to y) ∙ occurrences_image i.to y g.process (λ z o' q. i.one_to_one z y o' o q)

-- ---- a map and the other way

-- each link of the atom occurs in the process
abbrev pub Knows : Rooted → Label × List ℕ → Type 0
Knows g a = (x : ℕ) → Among x a.1 → Occurs x g.process

-- so it is for the atoms at its top
pub knows : (g : Rooted) (a : Label × List ℕ) → Among a (atoms_at_top g.process) → Knows g a
knows g a k x l = atoms_occur g.process k l

-- the link with a given image, or another where there is none
abbrev pub found_or : (w : ℕ → ℕ) (P : Process) (z d : ℕ) → Source w P z → ℕ
found_or w P z d (found x o e) = x
found_or w P z d (missing h) = d

-- the link with the image z
abbrev backward : (w : ℕ → ℕ) (P : Process) → ℕ → ℕ
backward w P z = found_or w P z 0 (source w P z)

backward_is : (w : ℕ → ℕ) (P : Process) → OneToOneOn w P → (x : ℕ) → Occurs x P → backward w P (w x) ≡ x
backward_is w P one x o = go (source w P (w x))
  where
    go : (s : Source w P (w x)) → found_or w P (w x) 0 s ≡ x
    go (found y o' e) = one y x o' o e
    go (missing h) = absurd (h x o refl)

pair_is : {A B : Type 0} (a : A) (b : B) (c : A × B) → a ≡ c.0 → b ≡ c.1 → (a, b) ≡ c
pair_is a b c e f = let k : ◌≡◌ (a, b) (c.0, c.1) = cc (e, f) in k

-- two processes of one part are equal as rooted graphs
pub one_graph : {g h : Rooted} {x : ℕ} {part : List SolidAtom} → IsPart g x part → IsPart h x part → Occurs g.root g.process → Occurs h.root h.process → EqualParts g h
one_graph {g} {h} {x} {part} i j o o' =
    let s = shuffle_known (Knows g) (λ b. Unit {0}) (λ a k. knows g a k) (λ b k. tt) i.atoms in
    let t = shuffle_known (Knows h) (λ b. Unit {0}) (λ a k. knows h a k) (λ b k. tt) j.atoms in
    let w : ℕ → ℕ = λ z. backward j.to h.process (i.to z) in
    let u : Shuffle (λ a b. (a.0, map w a.1) ≡ b) (atoms_at_top g.process) (atoms_at_top h.process) = shuffle_chain (λ a b c p q. joined_atom a b c p.0 q.0 q.1) s (atoms_at_top h.process) (shuffle_flip t) in
    record {
      to = w;
      one_to_one = λ y z p q e. i.one_to_one y z p q (same_image y z p q e);
      roots = ap (backward j.to h.process) (i.root ∙ sym j.root) ∙ backward_is j.to h.process j.one_to_one h.root o';
      atoms = u;
    }
  where
    joined_atom : (a : Label × List ℕ) (b : SolidAtom) (c : Label × List ℕ) → part_atom i.to a ≡ b → part_atom j.to c ≡ b → Knows h c → (a.0, map (λ z. backward j.to h.process (i.to z)) a.1) ≡ c
    joined_atom a b c p q k =
        let e : map i.to a.1 ≡ map j.to c.1 = ap (λ m. m.links) (p ∙ sym q) in
        let f : map (λ z. backward j.to h.process (i.to z)) a.1 ≡ c.1 =
        sym (map_twice (backward j.to h.process) i.to a.1) ∙ ap (map (backward j.to h.process)) e ∙ map_twice (backward j.to h.process) j.to c.1
        ∙ map_known c.1 (λ y l. backward_is j.to h.process j.one_to_one y (k y l)) ∙ map-id c.1 in
        pair_is a.0 (map (λ z. backward j.to h.process (i.to z)) a.1) c (ap (λ m. m.label) (p ∙ sym q)) f

    -- each link of g has an image that j reaches
    reached_by : (y : ℕ) → Occurs y g.process → (z : ℕ) × (Occurs z h.process) × (j.to z ≡ i.to y)
    reached_by y p = go (source j.to h.process (i.to y))
      where
        go : Source j.to h.process (i.to y) → (z : ℕ) × (Occurs z h.process) × (j.to z ≡ i.to y)
        go (found z q e) = (z, q, e)
        go (missing k) = absurd (p (sym (part_image i y p) ∙ part_count j (i.to y) ∙ occurrences_none j.to (i.to y) h.process k))

    same_image : (y z : ℕ) → Occurs y g.process → Occurs z g.process → backward j.to h.process (i.to y) ≡ backward j.to h.process (i.to z) → i.to y ≡ i.to z
    same_image y z p q e =
        let u = reached_by y p in
        let v = reached_by z q in
        let f : u.0 ≡ v.0 = sym (backward_is j.to h.process j.one_to_one u.0 u.1) ∙ ap (backward j.to h.process) u.2 ∙ e ∙ ap (backward j.to h.process) (sym v.2) ∙ backward_is j.to h.process j.one_to_one v.0 v.1 in
        sym u.2 ∙ ap j.to f ∙ v.2

-- ---- the part at a link is one

-- each element of the left list has its match in the right one
pub shuffle_among : {A B : Type 0} {R : A → B → Type 0} {xs : List A} {ys : List B} {a : A} → Shuffle R xs ys → Among a xs → (b : B) × (Among b ys) × R a b
shuffle_among none k = elim k [ ]
shuffle_among (more {y = y} r s p) at_head = (y, among_put p, r)
shuffle_among (more r s p) (further k) = let u = shuffle_among s k in (u.0, among_others p u.1, u.2)

merged_among : {A : Type 0} {a : A} {ps qs xs : List A} → Merged ps qs xs → Among a xs → Among a ps ⊎ Among a qs
merged_among merged_none k = elim k [ ]
merged_among (from_first m) at_head = inl at_head
merged_among (from_second m) at_head = inr at_head
merged_among (from_first m) (further k) = either (merged_among m k) (λ i. inl (further i)) (λ i. inr i)
merged_among (from_second m) (further k) = either (merged_among m k) (λ i. inl i) (λ i. inr (further i))

among_first : {A : Type 0} {a : A} {ps qs xs : List A} → Merged ps qs xs → Among a ps → Among a xs
among_first merged_none k = elim k [ ]
among_first (from_first m) at_head = at_head
among_first (from_first m) (further k) = further (among_first m k)
among_first (from_second m) k = further (among_first m k)

merged_apart : {A : Type 0} {ps qs ps' qs' xs : List A} → Merged ps qs xs → Merged ps' qs' xs → ((a : A) → Among a ps → ¬ (Among a qs')) → ((a : A) → Among a ps' → ¬ (Among a qs)) → (ps ≡ ps') × (qs ≡ qs')
merged_apart merged_none merged_none h h' = (refl, refl)
merged_apart (from_first {x = x} m) (from_first n) h h' = let i = merged_apart m n (λ a k l. h a (further k) l) (λ a k l. h' a (further k) l) in (ap (λ w. x ∷ w) i.0, i.1)
merged_apart (from_second {x = x} m) (from_second n) h h' = let i = merged_apart m n (λ a k l. h a k (further l)) (λ a k l. h' a k (further l)) in (i.0, ap (λ w. x ∷ w) i.1)
merged_apart (from_first {x = x} m) (from_second n) h h' = absurd (h x at_head at_head)
merged_apart (from_second {x = x} m) (from_first n) h h' = absurd (h' x at_head at_head)

-- a link has in a list the places that it has in the two of which it is made
pub merged_count : {ps qs xs : List SolidAtom} → Merged ps qs xs → (z : ℕ) → places z (links_at xs) ≡ places z (links_at ps) + places z (links_at qs)
merged_count {ps} {qs} m z = sym (at_same z (merged_shuffle m)) ∙ at_append z ps qs

-- a link of an atom has a place in the list of atoms
pub at_among : {y : ℕ} {a : SolidAtom} {xs : List SolidAtom} → Among a xs → Among y a.links → 1 ≤ places y (links_at xs)
at_among {y} {a} (at_head {ys = xs}) k = omega (arith, at_cons y a xs, among_places k)
at_among {y} (further {y = b} {ys = xs} i) k = omega (arith, at_cons y b xs, at_among i k)

-- no atom that is left has a link of the part
none_left : {g : Rooted} {L : ℕ} {part rest xs : List SolidAtom} → IsGround g → IsPart g L part → Merged part rest xs → ((z : ℕ) → places z (links_at xs) ≤ 2) → places L (links_at xs) ≤ 1
    → {a : SolidAtom} {y : ℕ} → Among a rest → Among y a.links → places y (links_at part) ≢ 0 → ⊥
none_left {g} {L} {part} {rest} {xs} ground i m two one {a} {y} k l d = go (source i.to g.process y)
  where
    one_more : (p q : ℕ) → 1 ≤ q → p ≢ 1 → p ≢ 0 → ¬ (p + q ≤ 2)
    one_more p q b e f h = absurd (grind arith)

    too_many : (p q : ℕ) → p ≡ 1 → 1 ≤ q → ¬ (p + q ≤ 1)
    too_many p q e b h = absurd (omega arith)

    count : (z : ℕ) → places z (links_at xs) ≡ places z (links_at part) + places z (links_at rest)
    count z = merged_count m z

    at_root : (z : ℕ) → Occurs z g.process → i.to z ≡ y → z ≡ g.root → ⊥
    at_root z o e r =
        let q : y ≡ L = sym e ∙ ap i.to r ∙ i.root in
        let c : places L (links_at part) ≡ 1 = ap (λ w. places w (links_at part)) (sym i.root) ∙ part_image i g.root (not_zero_if_one (occurrences g.root g.process) ground.root_is_free) ∙ ground.root_is_free in
        too_many (places L (links_at part)) (places L (links_at rest)) c (subst (λ w. 1 ≤ places w (links_at rest)) q (at_among k l)) (omega (arith, count L, one))

    go : Source i.to g.process y → ⊥
    go (found z o e) = by_root (same_or_not (occurrences z g.process) 1)
      where
        c : places y (links_at part) ≡ occurrences z g.process
        c = ap (λ w. places w (links_at part)) (sym e) ∙ part_image i z o

        by_root : (occurrences z g.process ≡ 1) ⊎ (occurrences z g.process ≢ 1) → ⊥
        by_root (inl f) = at_root z o e (ground.nothing_else_free z f)
        by_root (inr f) = one_more (places y (links_at part)) (places y (links_at rest)) (at_among k l) (λ q. f (sym c ∙ q)) d (omega (arith, count y, two y))
    go (missing h) = d (part_count i y ∙ occurrences_none i.to y g.process h)

module _ {g h : Rooted} {L : ℕ} {part rest part' rest' xs : List SolidAtom} (i : IsPart g L part) (m : Merged part rest xs) (ground : IsGround h) (j : IsPart h L part') (n : Merged part' rest' xs)
    (two : (z : ℕ) → places z (links_at xs) ≤ 2) (one : places L (links_at xs) ≤ 1) where
  -- each link of the one part is one of the other
  links_shared : {y : ℕ} → ReachesLink g y → places (i.to y) (links_at part') ≢ 0
  links_shared the_root =
      let c : places (i.to g.root) (links_at part') ≡ 1 = ap (λ w. places w (links_at part')) (i.root ∙ sym j.root) ∙ part_image j h.root (not_zero_if_one (occurrences h.root h.process) ground.root_is_free) ∙ ground.root_is_free in
      not_zero_if_one (places (i.to g.root) (links_at part')) c
  links_shared (across {a = a} {xs = ys} {x = x} {y = y} k l l' r) =
      let u = shuffle_among i.atoms k in
      let e : part_atom i.to (a, ys) ≡ u.0 = u.2 in
      either (merged_among n (among_first m u.1))
      (λ w. positive (places (i.to y) (links_at part')) (at_among w (subst (λ b. Among (i.to y) b.links) e (among_map i.to l'))))
      (λ w. absurd (none_left ground j n two one w (subst (λ b. Among (i.to x) b.links) e (among_map i.to l)) (links_shared r)))

  part_apart : IsGround g → (a : SolidAtom) → Among a part → ¬ (Among a rest')
  part_apart ground_g a k l =
      let u = shuffle_among (shuffle_flip i.atoms) k in
      let c = ground_g.connected u.1 in
      none_left ground j n two one l (subst (λ b. Among (i.to c.0) b.links) u.2 (among_map i.to c.1)) (links_shared c.2)

-- from one link one ground part is taken
pub one_part : {g h : Rooted} {L : ℕ} {part rest part' rest' xs : List SolidAtom} → IsGround g → IsPart g L part → Merged part rest xs → IsGround h → IsPart h L part' → Merged part' rest' xs
    → ((z : ℕ) → places z (links_at xs) ≤ 2) → places L (links_at xs) ≤ 1 → (part ≡ part') × (rest ≡ rest')
one_part x i m y j n two one = merged_apart m n (part_apart i m y j n two one x) (part_apart j n x i m two one y)
