-- Two copies of one ground process, each in depth-first order, differ by a map of links.
use Rattle.std.proofs.Common.{ℕ, List, map, refl, sym, ap, subst, inl, inr, arith, ◌≡◌, ◌≢◌, ◌+◌, ◌≤◌, ◌⊎◌, [], ◌∷◌, ◌++◌, ◌∙◌}
use Rattle.lmn_congruence.specs.Links.{places}
use Rattle.lmn_congruence.specs.Orders.{Among, Shuffle, at_head, further, more, none}
use Rattle.lmn_congruence.specs.Plains.{leaf_process}
use Rattle.lmn_congruence.specs.Process.{Free, Process, atom, connector, membrane, nothing, occurrences, pair, renamed, rule, together}
use Rattle.lmn_congruence.specs.Regions.{SolidAtom}
use Rattle.lmn_congruence.specs.Rules.{Label}
use Rattle.lmn_congruence.specs.Same.{renamed_atom}
use Rattle.lmn_reduction.specs.Parts.{OnlyAtoms, Rooted, EqualParts, atoms_at_top}
use Rattle.lmn_congruence.proofs.Counts.{Occurs, none_if_apart, one_bound}
use Rattle.lmn_congruence.proofs.Renaming.{occurrences_none}
use Rattle.lmn_congruence.proofs.Shuffles.{shuffle_chain, shuffle_flip}
use Rattle.lmn_adequacy.specs.Embedding.{IsPart}
use Rattle.lmn_adequacy.specs.Next.{DepthFirst, ReachesAtoms, links_at, part_leaves}
use Rattle.lmn_adequacy.proofs.Bodies.{Whole}
use Rattle.lmn_adequacy.proofs.Depth.{SameAtoms, at_cons, at_same, depth_first_one, order_kept}
use Rattle.lmn_adequacy.proofs.Embedding.{part_atom}
use Rattle.lmn_adequacy.proofs.Exposing.{Source, found, missing, source}
use Rattle.lmn_adequacy.proofs.Images.{not_one, positive}
use Rattle.lmn_adequacy.proofs.Moved.{MovedList}
use Rattle.lmn_adequacy.proofs.SameParts.{Knows, atoms_occur, knows, part_count, part_image, shuffle_among, shuffle_known}
use Rattle.lmn_base.proofs.Numbers.{same_or_not, not_zero_if_one}
use Rattle.lmn_congruence.proofs.Common.{among_left, among_right, among_map, places_among, among_places, map_known}
use Rattle.lmn_base.proofs.Lists.{map_twice}

occurs_atoms : (P : Process) → OnlyAtoms P → {x : ℕ} → Occurs x P → (a : Label × List ℕ) × (Among a (atoms_at_top P)) × Among x a.1
occurs_atoms nothing o d = absurd o
occurs_atoms (connector y z) o d = absurd o
occurs_atoms (atom b ys) o {x} d = ((b, ys), at_head, places_among x ys d)
occurs_atoms (pair P Q) o {x} d = go (same_or_not (occurrences x P) 0) (λ n. occurs_atoms P o.0 n) (λ n. occurs_atoms Q o.1 n)
  where
    in_other : (m n : ℕ) → m ≡ 0 → m + n ≢ 0 → n ≢ 0
    in_other m n e d = grind arith

    go : (occurrences x P ≡ 0) ⊎ (occurrences x P ≢ 0) → (Occurs x P → (a : Label × List ℕ) × (Among a (atoms_at_top P)) × Among x a.1) → (Occurs x Q → (a : Label × List ℕ) × (Among a (atoms_at_top Q)) × Among x a.1) → (a : Label × List ℕ) × (Among a (atoms_at_top P ++ atoms_at_top Q)) × Among x a.1
    go (inl e) p q = let u = q (in_other (occurrences x P) (occurrences x Q) e d) in (u.0, among_right (atoms_at_top P) u.1, u.2)
    go (inr n) p q = let u = p n in (u.0, among_left (atoms_at_top Q) u.1, u.2)
occurs_atoms (membrane P) o d = absurd o
occurs_atoms (rule r) o d = absurd o

remap : {A B : Type 0} (f : A → B) {xs : List A} {ys : List B} → Shuffle (λ a b. f a ≡ b) xs ys → Shuffle (λ a b. a ≡ b) (map f xs) ys
remap f none = none
remap f (more r s p) = more r (remap f s) p

atoms_listed : (f : ℕ → ℕ) (xs : List SolidAtom) → map leaf_process (part_leaves (map (renamed_atom f) xs)) ≡ map (renamed f) (map leaf_process (part_leaves xs))
atoms_listed f [] = refl
atoms_listed f (x ∷ xs) = ap (λ k. atom x.label (map f x.links) ∷ k) (atoms_listed f xs)

-- a link occurs in the atoms of a part as often as it has places in them
pub made_places : (z : ℕ) (xs : List SolidAtom) → occurrences z (together (map leaf_process (part_leaves xs))) ≡ places z (links_at xs)
made_places z [] = refl
made_places z (x ∷ xs) = omega (arith, made_places z xs, at_cons z x xs)

module _ {g h : Rooted} {y : ℕ} {part part' : List SolidAtom} (whole : Whole g) (free : Free g.root g.process) (free' : Free h.root h.process) (i : IsPart g y part) (j : IsPart h y part') (s : EqualParts g h) where
  abbrev carry : (z : ℕ) → Source i.to g.process z → ℕ
  carry z (found x o e) = j.to (s.to x)
  carry z (missing k) = z

  abbrev across_to : ℕ → ℕ
  across_to z = carry z (source i.to g.process z)

  across_is : (x : ℕ) → Occurs x g.process → across_to (i.to x) ≡ j.to (s.to x)
  across_is x o = go (source i.to g.process (i.to x))
    where
      go : (k : Source i.to g.process (i.to x)) → carry (i.to x) k ≡ j.to (s.to x)
      go (found z o' e) = ap (λ w. j.to (s.to w)) (i.one_to_one z x o' o e)
      go (missing k) = absurd (k x o refl)

  abbrev Here : ℕ → Type 0
  Here z = places z (links_at part) ≢ 0

  origin : (z : ℕ) → Here z → (x : ℕ) × (Occurs x g.process) × (i.to x ≡ z)
  origin z d = go (source i.to g.process z)
    where
      go : Source i.to g.process z → (x : ℕ) × (Occurs x g.process) × (i.to x ≡ z)
      go (found x o e) = (x, o, e)
      go (missing k) = absurd (d (part_count i z ∙ occurrences_none i.to z g.process k))

  carried : (x : ℕ) → Occurs x g.process → Occurs (s.to x) h.process
  carried x o =
      let u = occurs_atoms g.process i.only_atoms o in
      let v = shuffle_among s.atoms u.1 in
      atoms_occur h.process (subst (λ a. Among a (atoms_at_top h.process)) (sym v.2) v.1) (among_map s.to u.2)

  across_differs : (x z : ℕ) → Here x → Here z → across_to x ≡ across_to z → x ≡ z
  across_differs x z d d' e =
      let u = origin x d in
      let v = origin z d' in
      let f : j.to (s.to u.0) ≡ j.to (s.to v.0) = sym (across_is u.0 u.1) ∙ ap across_to u.2 ∙ e ∙ ap across_to (sym v.2) ∙ across_is v.0 v.1 in
      sym u.2 ∙ ap i.to (s.one_to_one u.0 v.0 u.1 v.1 (j.one_to_one (s.to u.0) (s.to v.0) (carried u.0 u.1) (carried v.0 v.1) f)) ∙ v.2

  root_across : across_to y ≡ y
  root_across = ap across_to (sym i.root) ∙ across_is g.root (not_zero_if_one (occurrences g.root g.process) free) ∙ ap j.to s.roots ∙ j.root

  atom_across : (a : Label × List ℕ) (b : SolidAtom) (c : Label × List ℕ) (d : SolidAtom) → part_atom i.to a ≡ b → Knows g a → (a.0, map s.to a.1) ≡ c → part_atom j.to c ≡ d → renamed_atom across_to b ≡ d
  atom_across a b c d p k q r =
      let e : map across_to (map i.to a.1) ≡ map j.to (map s.to a.1) = map_twice across_to i.to a.1 ∙ map_known a.1 (λ x l. across_is x (k x l)) ∙ sym (map_twice j.to s.to a.1) in
      let f : renamed_atom across_to (part_atom i.to a) ≡ part_atom j.to (a.0, map s.to a.1) = ap (λ w. record { label = a.0; links = w }) e in
      ap (renamed_atom across_to) (sym p) ∙ f ∙ ap (part_atom j.to) q ∙ r

  atoms_across : Shuffle (λ b d. renamed_atom across_to b ≡ d) part part'
  atoms_across =
      let u = shuffle_known (Knows g) (λ b. Unit {0}) (λ a k. knows g a k) (λ b k. tt) i.atoms in
      let v : Shuffle (λ b c. (a : Label × List ℕ) × (part_atom i.to a ≡ b) × (Knows g a) × ((a.0, map s.to a.1) ≡ c)) part (atoms_at_top h.process) = shuffle_chain (λ b a c p q. (a, p.0, p.1, q)) (shuffle_flip u) (atoms_at_top h.process) s.atoms in
      shuffle_chain (λ b c d p q. atom_across p.0 b c d p.1 p.2 p.3 q) v part' j.atoms

  pub copies_moved : DepthFirst y part → DepthFirst y part' → ((z : ℕ) → places z (links_at part') ≤ 2) → MovedList (map leaf_process (part_leaves part)) (map leaf_process (part_leaves part'))
  copies_moved d d' two =
      let f : ℕ → ℕ = across_to in
      let t : SameAtoms (map (renamed_atom f) part) part' = remap (renamed_atom f) atoms_across in
      let k : ReachesAtoms (f y ∷ []) (f y ∷ []) (map (renamed_atom f) part) = order_kept f Here across_differs d (λ z a. root_here z a) (λ z a. root_here z a) (λ z a. positive (places z (links_at part)) (among_places a)) in
      let k' : DepthFirst y (map (renamed_atom f) part) = subst (λ w. ReachesAtoms (w ∷ []) (w ∷ []) (map (renamed_atom f) part)) root_across k in
      let e : map (renamed_atom f) part ≡ part' = depth_first_one y (map (renamed_atom f) part) part' k' d' t (λ z. room z (at_same z t)) in
      record { to = f; is = ap (λ w. map leaf_process (part_leaves w)) (sym e) ∙ atoms_listed f part; stays = λ z a. stays z (sym (made_places z part) ∙ a) }
    where
      root_places : places y (links_at part) ≡ 1
      root_places = ap (λ w. places w (links_at part)) (sym i.root) ∙ part_image i g.root (not_zero_if_one (occurrences g.root g.process) free) ∙ free

      root_places' : places y (links_at part') ≡ 1
      root_places' = ap (λ w. places w (links_at part')) (sym j.root) ∙ part_image j h.root (not_zero_if_one (occurrences h.root h.process) free') ∙ free'

      root_here : (z : ℕ) → Among z (y ∷ []) → Here z
      root_here z at_head = not_zero_if_one (places y (links_at part)) root_places
      root_here z (further a) = elim a [ ]

      room : (z : ℕ) → places z (links_at (map (renamed_atom across_to) part)) ≡ places z (links_at part') → places z (y ∷ []) + places z (links_at (map (renamed_atom across_to) part)) ≤ 2
      room z e = go (same_or_not z y)
        where
          go : (z ≡ y) ⊎ (z ≢ y) → places z (y ∷ []) + places z (links_at (map (renamed_atom across_to) part)) ≤ 2
          go (inl q) = omega (arith, e, ap (λ w. places w (links_at part')) q, root_places', one_bound z y)
          go (inr n) = omega (arith, e, two z, none_if_apart z y n)

      stays : (z : ℕ) → places z (links_at part) ≡ 1 → across_to z ≡ z
      stays z e =
          let u = origin z (not_zero_if_one (places z (links_at part)) e) in
          let c : occurrences u.0 g.process ≡ 1 = sym (part_image i u.0 u.1) ∙ ap (λ w. places w (links_at part)) u.2 ∙ e in
          go u.0 u.2 c (same_or_not u.0 g.root)
        where
          go : (x : ℕ) → i.to x ≡ z → occurrences x g.process ≡ 1 → (x ≡ g.root) ⊎ (x ≢ g.root) → across_to z ≡ z
          go x p c (inl q) = let r : z ≡ y = sym p ∙ ap i.to q ∙ i.root in ap across_to r ∙ root_across ∙ sym r
          go x p c (inr n) = absurd (not_one (occurrences x g.process) c (whole x n))
