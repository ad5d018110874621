-- From an instance of a head to where the head lies in the region.
use Rattle.std.proofs.Common.{ℕ, ℤ, zero, suc, List, map, refl, sym, ap, subst, inl, inr, arith, Some, ◌≡◌, ◌≢◌, ◌+◌, ◌≤◌, ◌⊎◌, [], ◌∷◌, ◌++◌, ◌∙◌}
use Rattle.std.proofs.lemmas.List.{append-nil, append_assoc}
use Rattle.lmn_congruence.specs.Congruence.{back}
use Rattle.lmn_congruence.specs.Fused.{Joins, fused}
use Rattle.lmn_congruence.specs.LinkedRules.{leaves_occurrences, level_occurrences, levels_occurrences}
use Rattle.lmn_congruence.specs.Links.{one_if_same, places}
use Rattle.lmn_congruence.specs.Orders.{Put, Shuffle, here, more, none, OneByOne, no_pairs, pair_and}
use Rattle.lmn_congruence.specs.Process.{Closed, Free, Linked, OneToOneOn, Process, atom, connector, membrane, nothing, occurrences, pair, renamed, rule, together}
use Rattle.lmn_congruence.specs.Regions.{Region, Regions, SolidAtom, atom_process, region, region_process}
use Rattle.lmn_congruence.specs.Rules.{Condition, Context, Expression, Label, Leaf, Level, Levels, Name, Rule, Rules, atom_leaf, closed_context, head_of, level, level_and, open_context, rules_list}
use Rattle.lmn_congruence.specs.UpToOrder.{Reordered, r_chain, r_same}
use Rattle.lmn_reduction.specs.Assignments.{Assignment, NoRuleAtTop, Proper}
use Rattle.lmn_reduction.specs.Firing.{typed_contexts}
use Rattle.lmn_reduction.specs.Guards.{GuardHolds, Holds, alike, binds, condition_and, in_order, no_condition, of_kind, unlike}
use Rattle.lmn_reduction.specs.Instances.{of_atom, of_connector, of_typed, rules_of_contexts, LeafInstance}
use Rattle.lmn_reduction.proofs.Copies.{IsRootedCopy, rooted}
use Rattle.lmn_reduction.specs.Parts.{IsGround, OnlyAtoms, Rooted, atoms_at_top}
use Rattle.lmn_reduction.specs.Redexes.{HasRedex, at_top, in_membrane}
use Rattle.lmn_reduction.specs.Steps.{Step}
use Rattle.lmn_guards.specs.Values.{of_context, of_number, of_operation}
use Rattle.lmn_reduction.specs.Values.{Value}
use Rattle.lmn_congruence.proofs.Counts.{linked_as, linked_both, linked_inside, linked_left, linked_right}
use Rattle.lmn_congruence.proofs.LinkMaps.{closed_linked, congruent_reads, fused_is_renamed, fused_plain, two_occurrences}
use Rattle.lmn_reduction.proofs.Redexes.{step_shows}
use Rattle.lmn_congruence.proofs.Renaming.{occurrences_image, occurrences_none, renamed_id}
use Rattle.lmn_congruence.proofs.Reordered.{SamePiece, content, itself, pieces, reordered_count, reordered_pieces, same_piece_chain}
use Rattle.lmn_congruence.proofs.Shuffles.{find_right, put_back, put_between, shuffle_append, shuffle_chain, shuffle_same, shuffle_swap}
use Rattle.lmn_congruence.proofs.Solids.{PutOnto, as_rule, picks, present, put_picks, region_plain, region_rules, same_rules, shuffle_picks, stay}
use Rattle.lmn_adequacy.specs.Embedding.{AllRules, AllRulesIn, AtomImages, IsPart, KeepsLinks, Merged, Taken, TakenRegion, TypedParts, image_and, no_image, no_part, no_part_of_atom, part_and, typed_later}
use Rattle.lmn_adequacy.specs.Loose.{LevelImages, MembraneImages, Plain, filling, level_images, membrane_image_and, no_membrane_image, EmbedsLoosely, HasLooseEmbedding, embeds_loosely_here, embeds_loosely_below}
use Rattle.lmn_adequacy.proofs.Ends.{EndsOutside, ends_outside}
use Rattle.lmn_adequacy.proofs.Exposing.{Source, found, missing, source}
use Rattle.lmn_adequacy.proofs.Heads.{HeadAllowed, HeadLeaves, HeadLevel, HeadLevels, region_there, rule_there}
use Rattle.lmn_adequacy.proofs.Images.{atoms_plain, fused_renamed, image_at_least, no_link_rule_contexts, places_least}
use Rattle.lmn_adequacy.proofs.LiteralHeads.{HeadInstance, HeadInstances, head_and, head_instance, literal, no_head, standing, standing_proper}
use Rattle.lmn_adequacy.proofs.Orders.{all_second, merged_taken, pieces_reordered, put_taken, shuffled_atoms, together_pieces}
use Rattle.lmn_adequacy.proofs.RegionPieces.{pieces_of, region_pieces, take_atom, take_region}
use Rattle.lmn_base.proofs.Numbers.{not_one_if_even, same_or_not}
use Rattle.lmn_congruence.proofs.TranslatedLinks.{no_link_in_rules as no_link_rules}
use Rattle.lmn_base.proofs.Lists.{map_twice}

-- ---- copies of rooted processes

fused_atoms : (v f : ℕ → ℕ) (P : Process) → OnlyAtoms P → fused v (renamed f P) ≡ renamed (λ z. v (f z)) P
fused_atoms v f P o = fused_renamed v f P ∙ fused_is_renamed (λ z. v (f z)) P (atoms_plain P o)

-- an atom of a part with its links renamed, as one of the solid
abbrev pub part_atom : (ℕ → ℕ) → Label × List ℕ → SolidAtom
part_atom f a = record { label = a.0; links = map f a.1 }

-- the pieces of a renamed process of atoms are its atoms renamed
pub part_pieces : (f : ℕ → ℕ) (P : Process) → OnlyAtoms P → pieces (renamed f P) ≡ map atom_process (map (part_atom f) (atoms_at_top P))
part_pieces f nothing o = absurd o
part_pieces f (connector x y) o = absurd o
part_pieces f (atom a xs) o = refl
part_pieces f (pair P Q) o = cc (part_pieces f P o.0, part_pieces f Q o.1) ∙ sym (both_maps (atoms_at_top P) (atoms_at_top Q))
  where
    both_maps : (xs ys : List (Label × List ℕ)) → map atom_process (map (part_atom f) (xs ++ ys)) ≡ map atom_process (map (part_atom f) xs) ++ map atom_process (map (part_atom f) ys)
    both_maps [] ys = refl
    both_maps (x ∷ xs) ys = ap (λ k. atom_process (part_atom f x) ∷ k) (both_maps xs ys)
part_pieces f (membrane P) o = absurd o
part_pieces f (rule r) o = absurd o

-- the atoms of a part side by side
pub part_order : (f : ℕ → ℕ) (P : Process) (part : List SolidAtom) → OnlyAtoms P → Shuffle (λ a b. part_atom f a ≡ b) (atoms_at_top P) part → Reordered (renamed f P) (together (map atom_process part))
part_order f P part o s =
    r_chain (together_pieces (renamed f P)) (r_chain (r_same (ap together (part_pieces f P o ∙ twice (atoms_at_top P)))) (shuffled_atoms (part_atom f) s))
  where
    twice : (xs : List (Label × List ℕ)) → map atom_process (map (part_atom f) xs) ≡ map (λ a. atom_process (part_atom f a)) xs
    twice [] = refl
    twice (x ∷ xs) = ap (λ k. atom_process (part_atom f x) ∷ k) (twice xs)

-- atoms match themselves renamed
pub part_shuffled : (f : ℕ → ℕ) (xs : List (Label × List ℕ)) → Shuffle (λ a b. part_atom f a ≡ b) xs (map (part_atom f) xs)
part_shuffled f [] = none
part_shuffled f (x ∷ xs) = more refl (part_shuffled f xs) here

-- a map with a linked image is one to one on a ground process
ground_one_to_one : (f : ℕ → ℕ) (g : Rooted) → IsGround g → Linked (renamed f g.process) → OneToOneOn f g.process
ground_one_to_one f g i l = λ x y o o' e. go x y o o' e (same_or_not x y)
  where
    one_or_more : (n : ℕ) → n ≢ 0 → (n ≡ 1) ⊎ (2 ≤ n)
    one_or_more n d = grind arith

    too_many : (m n k : ℕ) → 2 ≤ m → n ≢ 0 → m + n ≤ k → ¬ (k ≤ 2)
    too_many m n k b d s = omega arith

    too_many' : (m n k : ℕ) → 2 ≤ n → m ≢ 0 → m + n ≤ k → ¬ (k ≤ 2)
    too_many' m n k b d s = omega arith

    cases : (x y : ℕ) → occurrences x g.process ≢ 0 → occurrences y g.process ≢ 0 → x ≢ y → f x ≡ f y → (occurrences x g.process ≡ 1) ⊎ (2 ≤ occurrences x g.process) → (occurrences y g.process ≡ 1) ⊎ (2 ≤ occurrences y g.process) → x ≡ y
    cases x y o o' d e (inl p) (inl q) = i.nothing_else_free x p ∙ sym (i.nothing_else_free y q)
    cases x y o o' d e (inl p) (inr b) = absurd (too_many' (occurrences x g.process) (occurrences y g.process) (occurrences (f x) (renamed f g.process)) b o (two_occurrences f x y g.process d e) (l.at_most_twice (f x)))
    cases x y o o' d e (inr b) q = absurd (too_many (occurrences x g.process) (occurrences y g.process) (occurrences (f x) (renamed f g.process)) b o' (two_occurrences f x y g.process d e) (l.at_most_twice (f x)))

    go : (x y : ℕ) → occurrences x g.process ≢ 0 → occurrences y g.process ≢ 0 → f x ≡ f y → (x ≡ y) ⊎ (x ≢ y) → x ≡ y
    go x y o o' e (inl p) = p
    go x y o o' e (inr d) = cases x y o o' d e (one_or_more (occurrences x g.process) o) (one_or_more (occurrences y g.process) o')

-- ---- the assignment in the solid, condition_and how often its links occur

module _ (t : Assignment) (v : ℕ → ℕ) where
  abbrev pub read_assignment : Assignment
  read_assignment = record { link_of = λ x. v (t.link_of x); context_of = λ p. fused v (t.context_of p); rules_of = t.rules_of; typed_of = t.typed_of }

  fused_contexts : (ps : List Context) → fused v (together (map t.context_of ps)) ≡ together (map (λ p. fused v (t.context_of p)) ps)
  fused_contexts [] = refl
  fused_contexts (p ∷ ps) = ap (pair (fused v (t.context_of p))) (fused_contexts ps)

  fused_rules : (rs : List Rule) → fused v (together (map rule rs)) ≡ together (map rule rs)
  fused_rules [] = refl
  fused_rules (r ∷ rs) = ap (pair (rule r)) (fused_rules rs)

  fused_rule_contexts : (rs : List Name) → fused v (together (rules_of_contexts t rs)) ≡ together (rules_of_contexts read_assignment rs)
  fused_rule_contexts [] = refl
  fused_rule_contexts (r ∷ rs) = cc (fused_rules (t.rules_of r), fused_rule_contexts rs)

  pub fused_filling : (ps : List Context) (qs : List Name) (rs : Rules) → fused v (filling t ps qs rs) ≡ filling read_assignment ps qs rs
  fused_filling ps qs rs = cc (fused_contexts ps, fused_rule_contexts qs, fused_rules (rules_list rs))

  typed_at_least : (x y : ℕ) (g : Rooted) (P : Process) → IsGround g → IsRootedCopy g (t.link_of y) P → (x ≡ y) ⊎ (x ≢ y) → one_if_same x y ≤ occurrences (v (t.link_of x)) (fused v P)
  typed_at_least x y g P i c (inl e) =
      let F : ℕ → ℕ = λ z. v (c.to z) in
      let b = image_at_least F g.root g.process in
      let q : fused v P ≡ renamed F g.process = ap (fused v) c.is ∙ fused_atoms v c.to g.process i.only_atoms in
      let r : F g.root ≡ v (t.link_of x) = ap v (c.root ∙ ap t.link_of (sym e)) in
      let b' : occurrences g.root g.process ≤ occurrences (v (t.link_of x)) (fused v P) = subst (λ k. occurrences g.root g.process ≤ occurrences (v (t.link_of x)) k) (sym q) (subst (λ k. occurrences g.root g.process ≤ occurrences k (renamed F g.process)) r b) in
      omega (arith, b', i.root_is_free, at_most x y)
    where
      at_most : (x y : ℕ) → one_if_same x y ≤ 1
      at_most x y = grind arith
  typed_at_least x y g P i c (inr d) = other x y (occurrences (v (t.link_of x)) (fused v P)) d
    where
      other : (x y m : ℕ) → x ≢ y → one_if_same x y ≤ m
      other x y m d = grind arith

  -- each port of a head atom has its link in the solid
  places_twice : (x : ℕ) (ys : List ℕ) → places x ys ≤ places (v (t.link_of x)) (map v (map t.link_of ys))
  places_twice x ys = subst (λ k. places x ys ≤ places (v (t.link_of x)) k) (sym (map_twice v t.link_of ys)) (places_least (λ z. v (t.link_of z)) x ys)

  leaves_at_least : (x : ℕ) {ls : List Leaf} {Ps : List Process} → OneByOne (LeafInstance t) ls Ps → HeadLeaves t ls → leaves_occurrences x ls ≤ occurrences (v (t.link_of x)) (fused v (together Ps))
  leaves_at_least x no_pairs a = omega arith
  leaves_at_least x (pair_and (of_atom {xs = ys}) j) a = omega (arith, places_twice x ys, leaves_at_least x j a)
  leaves_at_least x (pair_and of_connector j) a = absurd a
  leaves_at_least x (pair_and (of_typed {p = q} {x = y} {P = P} c root) j) a = omega (arith, typed_at_least x y (t.typed_of q) P a.0 (rooted (t.typed_of q) (t.link_of y) P c root) (same_or_not x y), leaves_at_least x j a.1)

  mutual
    level_at_least : (x : ℕ) {l : Level} {C : Process} → HeadInstance t l C → HeadLevel t l → level_occurrences x l ≤ occurrences (v (t.link_of x)) (fused v C)
    level_at_least x (head_instance i j) a = omega (arith, leaves_at_least x i a.0, levels_at_least x j a.1)

    levels_at_least : (x : ℕ) {ls : Levels} {Qs : List Process} → HeadInstances t ls Qs → HeadLevels t ls → levels_occurrences x ls ≤ occurrences (v (t.link_of x)) (fused v (together Qs))
    levels_at_least x no_head a = omega arith
    levels_at_least x (head_and i j) a = omega (arith, level_at_least x i a.0, levels_at_least x j a.1)

-- ---- beside the ports of the head a link of the rule stands an even number of times

-- a number is another and twice some number more
pub record EvenMore (m n : ℕ) : Type 0 where
  pub half : ℕ
  pub is : m ≡ n + (half + half)

-- a number up to two that is not one is even
pub not_one_even : (n : ℕ) → n ≢ 1 → n ≤ 2 → (k : ℕ) × (n ≡ k + k)
not_one_even zero d b = (0, refl)
not_one_even (suc zero) d b = absurd (d refl)
not_one_even (suc (suc n)) d b = (1, omega arith)

module _ (t : Assignment) (p : Proper t) where
  pub places_image : (x : ℕ) (ys : List ℕ) → places (t.link_of x) (map t.link_of ys) ≡ places x ys
  places_image x [] = refl
  places_image x (y ∷ ys) = omega (arith, one_image x y (same_or_not x y), places_image x ys)
    where
      same_link : (m n : ℕ) → m ≡ n → one_if_same m n ≡ 1
      same_link m n e = grind arith

      other : (m n : ℕ) → m ≢ n → one_if_same m n ≡ 0
      other m n d = grind arith

      one_image : (x y : ℕ) → (x ≡ y) ⊎ (x ≢ y) → one_if_same (t.link_of x) (t.link_of y) ≡ one_if_same x y
      one_image x y (inl e) = same_link (t.link_of x) (t.link_of y) (ap t.link_of e) ∙ sym (same_link x y e)
      one_image x y (inr d) = other (t.link_of x) (t.link_of y) (λ e. d (p.links_differ x y e)) ∙ sym (other x y d)

  -- in a copy a link of the rule occurs as its root, or an even number of times
  even_copy : (x y : ℕ) (g : Rooted) (P : Process) → IsGround g → IsRootedCopy g (t.link_of y) P → Linked P → (x ≡ y) ⊎ (x ≢ y) → EvenMore (occurrences (t.link_of x) P) (one_if_same x y)
  even_copy x y g P i c l (inl e) =
      let n : occurrences (c.to g.root) (renamed c.to g.process) ≡ occurrences g.root g.process = occurrences_image c.to g.root g.process (λ z o q. c.one_to_one z g.root o (one_occurs (occurrences g.root g.process) i.root_is_free) q) in
      let m : occurrences (t.link_of x) P ≡ 1 = ap (occurrences (t.link_of x)) c.is ∙ ap (λ k. occurrences k (renamed c.to g.process)) (ap t.link_of e ∙ sym c.root) ∙ n ∙ i.root_is_free in
      record { half = 0; is = m ∙ sym (same_link x y e) }
    where
      one_occurs : (n : ℕ) → n ≡ 1 → n ≢ 0
      one_occurs n p = grind arith

      same_link : (m n : ℕ) → m ≡ n → one_if_same m n + 0 ≡ 1
      same_link m n e = grind arith
  even_copy x y g P i c l (inr d) = by_source (source c.to g.process (t.link_of x))
    where
      other : (m n : ℕ) → m ≢ n → one_if_same m n ≡ 0
      other m n d = grind arith

      one_occurs : (n : ℕ) → n ≡ 1 → n ≢ 0
      one_occurs n p = grind arith

      by_source : Source c.to g.process (t.link_of x) → EvenMore (occurrences (t.link_of x) P) (one_if_same x y)
      by_source (found z o e) =
          let n : occurrences (c.to z) (renamed c.to g.process) ≡ occurrences z g.process = occurrences_image c.to z g.process (λ z' o' q. c.one_to_one z' z o' o q) in
          let m : occurrences (t.link_of x) P ≡ occurrences z g.process = ap (occurrences (t.link_of x)) c.is ∙ ap (λ k. occurrences k (renamed c.to g.process)) (sym e) ∙ n in
          let not_free : occurrences (t.link_of x) P ≢ 1 = λ f. d (p.links_differ x y (sym e ∙ ap c.to (i.nothing_else_free z (sym m ∙ f)) ∙ c.root)) in
          let h = not_one_even (occurrences (t.link_of x) P) not_free (l.at_most_twice (t.link_of x)) in
          record { half = h.0; is = omega (arith, h.1, other x y d) }
      by_source (missing h) =
          let m : occurrences (t.link_of x) P ≡ 0 = ap (occurrences (t.link_of x)) c.is ∙ occurrences_none c.to (t.link_of x) g.process h in
          record { half = 0; is = omega (arith, m, other x y d) }

  even_leaves : (x : ℕ) {ls : List Leaf} {Ps : List Process} → OneByOne (LeafInstance t) ls Ps → HeadLeaves t ls → Linked (together Ps) → EvenMore (occurrences (t.link_of x) (together Ps)) (leaves_occurrences x ls)
  even_leaves x no_pairs a l = record { half = 0; is = refl }
  even_leaves x (pair_and (of_atom {xs = ys}) j) a l = let i = even_leaves x j a (linked_right l) in record { half = i.half; is = omega (arith, places_image x ys, i.is) }
  even_leaves x (pair_and of_connector j) a l = absurd a
  even_leaves x (pair_and (of_typed {p = q} {x = y} {P = P} c root) j) a l =
      let i = even_leaves x j a.1 (linked_right l) in
      let k = even_copy x y (t.typed_of q) P a.0 (rooted (t.typed_of q) (t.link_of y) P c root) (linked_left l) (same_or_not x y) in
      record { half = k.half + i.half; is = omega (arith, k.is, i.is) }

  -- a link of the rule is free in no context, and stands twice in a closed one or not at all
  not_free : (x : ℕ) (q : Context) → occurrences (t.link_of x) (t.context_of q) ≢ 1
  not_free x (open_context q) = p.links_apart q x
  not_free x (closed_context q) = not_one_if_even (occurrences (t.link_of x) (t.context_of (closed_context q))) (p.closed q (t.link_of x))

  even_contexts : (x : ℕ) (ps : List Context) → Linked (together (map t.context_of ps)) → (k : ℕ) × (occurrences (t.link_of x) (together (map t.context_of ps)) ≡ k + k)
  even_contexts x [] l = (0, refl)
  even_contexts x (q ∷ qs) l =
      let i = not_one_even (occurrences (t.link_of x) (t.context_of q)) (not_free x q) ((linked_left l).at_most_twice (t.link_of x)) in
      let j = even_contexts x qs (linked_right l) in
      (i.0 + j.0, omega (arith, i.1, j.1))

  mutual
    even_level : (x : ℕ) {l : Level} {C : Process} → HeadInstance t l C → HeadLevel t l → Linked C → EvenMore (occurrences (t.link_of x) C) (level_occurrences x l)
    even_level x (head_instance {contexts = ps} {rule_contexts = qs} {rules = rs} i j) a l =
        let m = even_leaves x i a.0 (linked_left l) in
        let n = even_levels x j a.1 (linked_left (linked_right l)) in
        let k = even_contexts x ps (linked_left (linked_right (linked_right l))) in
        record { half = m.half + n.half + k.0; is = omega (arith, m.is, n.is, k.1, no_link_rule_contexts t (t.link_of x) qs, no_link_rules (t.link_of x) (rules_list rs)) }

    even_levels : (x : ℕ) {ls : Levels} {Qs : List Process} → HeadInstances t ls Qs → HeadLevels t ls → Linked (together Qs) → EvenMore (occurrences (t.link_of x) (together Qs)) (levels_occurrences x ls)
    even_levels x no_head a l = record { half = 0; is = refl }
    even_levels x (head_and i j) a l =
        let m = even_level x i a.0 (linked_inside (linked_left l)) in
        let n = even_levels x j a.1 (linked_right l) in
        record { half = m.half + n.half; is = omega (arith, m.is, n.is) }

-- ---- the images

module _ (t : Assignment) (p : Proper t) (v : ℕ → ℕ) where
  abbrev T : Assignment
  T = read_assignment t v

  pub record LeavesMatched (ls : List Leaf) (W : List Process) (xs : List SolidAtom) (ms : Regions) (rs : List Rule) : Type 0 where
    pub at : List ℕ
    pub rest : List SolidAtom
    pub images : AtomImages T ls at xs rest
    pub left : Shuffle SamePiece W (pieces_of (region rest ms rs))

  match_atom : (a : Label) (ys : List ℕ) (ls : List Leaf) (Ws W : List Process) (xs : List SolidAtom) (ms : Regions) (rs : List Rule)
      → ((xs' : List SolidAtom) → Shuffle SamePiece Ws (pieces_of (region xs' ms rs)) → LeavesMatched ls W xs' ms rs)
      → Shuffle SamePiece (atom a (map T.link_of ys) ∷ Ws) (pieces_of (region xs ms rs)) → LeavesMatched (atom_leaf a ys ∷ ls) W xs ms rs
  match_atom a ys ls Ws W xs ms rs h (more itself s q) =
      let u = take_atom xs ms rs q in
      let k = h u.rest (subst (Shuffle SamePiece Ws) u.others s) in
      record { at = u.place ∷ k.at; rest = k.rest; images = image_and u.taken k.images; left = k.left }

  -- the pieces of the copies of typed contexts
  abbrev parts_of : {ls : List Leaf} {Ps : List Process} → OneByOne (LeafInstance t) ls Ps → List Process
  parts_of no_pairs = []
  parts_of (pair_and of_atom j) = parts_of j
  parts_of (pair_and of_connector j) = parts_of j
  parts_of (pair_and (of_typed {P = P} c root) j) = pieces (fused v P) ++ parts_of j

  later : (xs ys zs : List Process) → Shuffle SamePiece ((xs ++ ys) ++ zs) (ys ++ (xs ++ zs))
  later xs ys zs = subst (Shuffle SamePiece ((xs ++ ys) ++ zs)) (append_assoc ys xs zs) (shuffle_append (shuffle_swap (λ P. itself) xs ys) (shuffle_same (λ P. itself) zs))

  sooner : (xs ys zs : List Process) → Shuffle SamePiece (ys ++ (xs ++ zs)) ((xs ++ ys) ++ zs)
  sooner xs ys zs = subst (λ k. Shuffle SamePiece k ((xs ++ ys) ++ zs)) (append_assoc ys xs zs) (shuffle_append (shuffle_swap (λ P. itself) ys xs) (shuffle_same (λ P. itself) zs))

  match_leaves : {ls : List Leaf} {Ps : List Process} (i : OneByOne (LeafInstance t) ls Ps) → HeadLeaves t ls → (W : List Process) (xs : List SolidAtom) (ms : Regions) (rs : List Rule)
      → Shuffle SamePiece (pieces (fused v (together Ps)) ++ W) (pieces_of (region xs ms rs)) → LeavesMatched ls (parts_of i ++ W) xs ms rs
  match_leaves no_pairs a W xs ms rs s = record { at = []; rest = xs; images = no_image; left = s }
  match_leaves (pair_and {xs = ls} {ys = Ps} (of_atom {a = b} {xs = ys}) j) a W xs ms rs s =
      match_atom b ys ls (pieces (fused v (together Ps)) ++ W) (parts_of j ++ W) xs ms rs (λ xs' k. match_leaves j a W xs' ms rs k)
      (subst (λ k. Shuffle SamePiece (atom b k ∷ (pieces (fused v (together Ps)) ++ W)) (pieces_of (region xs ms rs))) (map_twice v t.link_of ys) s)
  match_leaves (pair_and of_connector j) a W xs ms rs s = absurd a
  match_leaves (pair_and {xs = ls} {ys = Ps} (of_typed {P = P} c root) j) a W xs ms rs s =
      let A = pieces (fused v P) in
      let B = pieces (fused v (together Ps)) in
      let i = match_leaves j a.1 (A ++ W) xs ms rs (shuffle_chain same_piece_chain (sooner A B W) (pieces_of (region xs ms rs)) s) in
      record { at = i.at; rest = i.rest; images = typed_later i.images; left = shuffle_chain same_piece_chain (later A (parts_of j) W) (pieces_of (region i.rest ms rs)) i.left }

  -- ---- the parts

  record PartTaken (part : List SolidAtom) (W : List Process) (xs : List SolidAtom) (ms : Regions) (rs : List Rule) : Type 0 where
    pub rest : List SolidAtom
    pub taken : List SolidAtom
    pub same : Shuffle (λ a b. a ≡ b) part taken
    pub merged : Merged taken rest xs
    pub left : Shuffle SamePiece W (pieces_of (region rest ms rs))

  take_part : (part : List SolidAtom) (W : List Process) (xs : List SolidAtom) (ms : Regions) (rs : List Rule) → Shuffle SamePiece (map atom_process part ++ W) (pieces_of (region xs ms rs)) → PartTaken part W xs ms rs
  take_part [] W xs ms rs s = record { rest = xs; taken = []; same = none; merged = all_second xs; left = s }
  take_part (a ∷ part) W xs ms rs (more itself s q) =
      let u = take_atom xs ms rs q in
      let i = take_part part W u.rest ms rs (subst (Shuffle SamePiece (map atom_process part ++ W)) u.others s) in
      let m = merged_taken u.taken i.merged in
      record { rest = i.rest; taken = m.0; same = more refl i.same m.1; merged = m.2; left = i.left }

  record PartsMatched (ls : List Leaf) (W : List Process) (xs : List SolidAtom) (ms : Regions) (rs : List Rule) : Type 0 where
    pub rest : List SolidAtom
    pub parts : TypedParts T ls xs rest
    pub left : Shuffle SamePiece W (pieces_of (region rest ms rs))

  match_parts : {ls : List Leaf} {Ps : List Process} (i : OneByOne (LeafInstance t) ls Ps) → HeadLeaves t ls → Linked (fused v (together Ps)) → (W : List Process) (xs : List SolidAtom) (ms : Regions) (rs : List Rule)
      → Shuffle SamePiece (parts_of i ++ W) (pieces_of (region xs ms rs)) → PartsMatched ls W xs ms rs
  match_parts no_pairs a l W xs ms rs s = record { rest = xs; parts = no_part; left = s }
  match_parts (pair_and of_atom j) a l W xs ms rs s = let k = match_parts j a (linked_right l) W xs ms rs s in record { rest = k.rest; parts = no_part_of_atom k.parts; left = k.left }
  match_parts (pair_and of_connector j) a l W xs ms rs s = absurd a
  match_parts (pair_and (of_typed {p = q} {x = x} {P = P} c root) j) a l W xs ms rs s =
      let g = t.typed_of q in
      let F : ℕ → ℕ = λ z. v (c.to z) in
      let part = map (part_atom F) (atoms_at_top g.process) in
      let e : fused v P ≡ renamed F g.process = ap (fused v) c.is ∙ fused_atoms v c.to g.process a.0.only_atoms in
      let e' : pieces (fused v P) ≡ map atom_process part = ap pieces e ∙ part_pieces F g.process a.0.only_atoms in
      let lp : Linked (fused v P) = linked_left l in
      let lg : Linked (renamed F g.process) = subst Linked e lp in
      let s' : Shuffle SamePiece (map atom_process part ++ (parts_of j ++ W)) (pieces_of (region xs ms rs)) =
      subst (λ k. Shuffle SamePiece (k ++ (parts_of j ++ W)) (pieces_of (region xs ms rs))) e' (subst (λ k. Shuffle SamePiece k (pieces_of (region xs ms rs))) (append_assoc (pieces (fused v P)) (parts_of j) W) s) in
      let u = take_part part (parts_of j ++ W) xs ms rs s' in
      let k = match_parts j a.1 (linked_right l) W u.rest ms rs u.left in
      let y : IsPart g (v (t.link_of x)) u.taken = record { only_atoms = a.0.only_atoms; to = F; one_to_one = ground_one_to_one F g a.0 lg; root = ap v root; atoms = shuffle_chain (λ a b c e f. e ∙ f) (part_shuffled F (atoms_at_top g.process)) u.taken u.same } in
      record { rest = k.rest; parts = part_and a.0 y u.merged k.parts; left = k.left }

  -- Each link has as many places in the image of a head membrane as in the head membrane.
  keeps_links : {l : Level} {C : Process} (m : Region) → HeadInstance t l C → HeadLevel t l → Linked C → Linked (fused v C)
      → ((y : ℕ) → Free y C → Free (v y) (fused v C)) → Reordered (fused v C) (region_process m) → KeepsLinks T l m
  keeps_links {l} {C} m i a k k' f o = record { as_often = λ x d. sym (reordered_count o (v (t.link_of x))) ∙ go x d (even_level t p x i a k) }
    where
      go : (x : ℕ) → level_occurrences x l ≢ 0 → EvenMore (occurrences (t.link_of x) C) (level_occurrences x l) → occurrences (v (t.link_of x)) (fused v C) ≡ level_occurrences x l
      go x d e =
          let b = k.at_most_twice (t.link_of x) in
          let b' = k'.at_most_twice (v (t.link_of x)) in
          let c = level_at_least t v x i a in
          cases (occurrences (t.link_of x) C) (level_occurrences x l) (occurrences (v (t.link_of x)) (fused v C)) e.half d e.is b b' c (λ q. f (t.link_of x) q)
        where
          cases : (n m k h : ℕ) → m ≢ 0 → n ≡ m + (h + h) → n ≤ 2 → k ≤ 2 → m ≤ k → (n ≡ 1 → k ≡ 1) → k ≡ m
          cases n zero k h d e b b' c g = absurd (d refl)
          cases n (suc zero) k h d e b b' c g = g (omega (arith, e, b))
          cases n (suc (suc m)) k h d e b b' c g = omega (arith, e, b, b', c)

  pub record LevelMatched (l : Level) (W : List Process) (F : Process) (m : Region) : Type 0 where
    pub at : List ℕ
    pub rest : Region
    pub images : LevelImages T l at m rest
    pub left : Shuffle SamePiece (pieces F ++ W) (pieces_of rest)

  pub record LevelsMatched (ls : Levels) (W : List Process) (xs : List SolidAtom) (ms : Regions) (rs : List Rule) : Type 0 where
    pub at : List ℕ
    pub rest : Regions
    pub images : MembraneImages T ls at ms rest
    pub left : Shuffle SamePiece W (pieces_of (region xs rest rs))

  abbrev filling_of : Level → Process
  filling_of (level leaves membranes contexts rule_contexts rules) = filling T contexts rule_contexts rules

  shuffle_left : {xs ys : List Process} (m : Region) → xs ≡ ys → Shuffle SamePiece xs (pieces_of m) → Shuffle SamePiece ys (pieces_of m)
  shuffle_left m e s = subst (λ k. Shuffle SamePiece k (pieces_of m)) e s

  take_membrane : (leaves : List Leaf) (membranes : Levels) (contexts : List Context) (rule_contexts : List Name) (rules : Rules) (ls : Levels) (C D : Process) (Ws W : List Process) (xs : List SolidAtom) (ms : Regions) (rs : List Rule)
      → ((m : Region) → Shuffle SamePiece (pieces (fused v C) ++ []) (pieces_of m) → LevelMatched (level leaves membranes contexts rule_contexts rules) [] (filling T contexts rule_contexts rules) m)
      → ((m : Region) → Reordered (fused v C) (region_process m) → KeepsLinks T (level leaves membranes contexts rule_contexts rules) m)
      → ((ms' : Regions) → Shuffle SamePiece Ws (pieces_of (region xs ms' rs)) → LevelsMatched ls W xs ms' rs)
      → Reordered (fused v C) D → {ys : List Process} → Shuffle SamePiece Ws ys → Put (membrane D) ys (pieces_of (region xs ms rs)) → LevelsMatched (level_and (level leaves membranes contexts rule_contexts rules) ls) W xs ms rs
  take_membrane leaves membranes contexts rule_contexts rules ls C D Ws W xs ms rs inner keeps h o s q =
      let u = take_region xs ms rs q in
      let d : Reordered (fused v C) (region_process u.region_there) = r_chain o (r_same u.is) in
      let e = subst (λ k. Shuffle SamePiece k (pieces_of u.region_there)) (sym (append-nil (pieces (fused v C)))) (subst (Shuffle SamePiece (pieces (fused v C))) (region_pieces u.region_there) (reordered_pieces d)) in
      let i = inner u.region_there e in
      let k = h u.rest (subst (Shuffle SamePiece Ws) u.others s) in
      let F = filling T contexts rule_contexts rules in
      let b = subst (λ z. Shuffle SamePiece z (pieces_of i.rest)) (append-nil (pieces F)) i.left in
      let w : Reordered F (region_process i.rest) = pieces_reordered F (region_process i.rest) (subst (Shuffle SamePiece (pieces F)) (sym (region_pieces i.rest)) b) in
      record { at = u.place ∷ (i.at ++ k.at); rest = k.rest; images = membrane_image_and u.taken i.images (keeps u.region_there d) w k.images; left = k.left }

  match_membrane : (l : Level) (ls : Levels) (C : Process) (Ws W : List Process) (xs : List SolidAtom) (ms : Regions) (rs : List Rule)
      → ((m : Region) → Shuffle SamePiece (pieces (fused v C) ++ []) (pieces_of m) → LevelMatched l [] (filling_of l) m)
      → ((m : Region) → Reordered (fused v C) (region_process m) → KeepsLinks T l m)
      → ((ms' : Regions) → Shuffle SamePiece Ws (pieces_of (region xs ms' rs)) → LevelsMatched ls W xs ms' rs)
      → Shuffle SamePiece (membrane (fused v C) ∷ Ws) (pieces_of (region xs ms rs)) → LevelsMatched (level_and l ls) W xs ms rs
  match_membrane (level leaves membranes contexts rule_contexts rules) ls C Ws W xs ms rs inner keeps h (more itself s q) =
      take_membrane leaves membranes contexts rule_contexts rules ls C (fused v C) Ws W xs ms rs inner keeps h (r_same refl) s q
  match_membrane (level leaves membranes contexts rule_contexts rules) ls C Ws W xs ms rs inner keeps h (more (content {Q = D} d) s q) =
      take_membrane leaves membranes contexts rule_contexts rules ls C D Ws W xs ms rs inner keeps h d s q

  mutual
    pub match_level : {l : Level} {C : Process} → HeadInstance t l C → HeadLevel t l → Linked C → Linked (fused v C) → EndsOutside v C → (W : List Process) (m : Region)
        → Shuffle SamePiece (pieces (fused v C) ++ W) (pieces_of m) → LevelMatched l W (filling_of l) m
    match_level (head_instance {leaves = leaves} {membranes = membranes} {contexts = ps} {rule_contexts = qs} {rules = rules} {Ps = Ps} {Qs = Qs} i j) a k k' f W (region xs ms rs) s =
        let F = filling t ps qs rules in
        let X = pieces (fused v (together Ps)) in
        let Y = pieces (fused v (together Qs)) in
        let Z = pieces (fused v F) in
        let u = match_leaves i a.0 (Y ++ (Z ++ W)) xs ms rs (shuffle_left (region xs ms rs) (append_assoc X (Y ++ Z) W ∙ ap (λ z. X ++ z) (append_assoc Y Z W)) s) in
        let y = match_parts i a.0 (linked_left k') (Y ++ (Z ++ W)) u.rest ms rs u.left in
        let w = match_membranes j a.1 (linked_left (linked_right k)) (linked_left (linked_right k')) f.1.0 (Z ++ W) y.rest ms rs y.left in
        record {
          at = u.at ++ w.at;
          rest = region y.rest w.rest rs;
          images = level_images u.images y.parts w.images;
          left = subst (λ z. Shuffle SamePiece (pieces z ++ W) (pieces_of (region y.rest w.rest rs))) (fused_filling t v ps qs rules) w.left;
        }

    match_membranes : {ls : Levels} {Qs : List Process} → HeadInstances t ls Qs → HeadLevels t ls → Linked (together Qs) → Linked (fused v (together Qs)) → EndsOutside v (together Qs) → (W : List Process)
        (xs : List SolidAtom) (ms : Regions) (rs : List Rule) → Shuffle SamePiece (pieces (fused v (together Qs)) ++ W) (pieces_of (region xs ms rs)) → LevelsMatched ls W xs ms rs
    match_membranes no_head a k k' f W xs ms rs s = record { at = []; rest = ms; images = no_membrane_image; left = s }
    match_membranes (head_and {l = l} {ls = ls} {P = C} {Ps = Qs} i j) a k k' f W xs ms rs s =
        match_membrane l ls C (pieces (fused v (together Qs)) ++ W) W xs ms rs
        (λ m e. match_level i a.0 (linked_inside (linked_left k)) (linked_inside (linked_left k')) f.0.1 [] m e)
        (λ m o. keeps_links m i a.0 (linked_inside (linked_left k)) (linked_inside (linked_left k')) f.0.0 o)
        (λ ms' e. match_membranes j a.1 (linked_right k) (linked_right k') f.1 W xs ms' rs e)
        s

-- ---- the guard sees only the typed contexts

module _ (f : ℕ → ℕ) (c : Context → Process) (k : Name → List Rule) where
  abbrev pub with_same_typed : Assignment → Assignment
  with_same_typed t = record { link_of = f; context_of = c; rules_of = k; typed_of = t.typed_of }

  same_value : (t : Assignment) {e : Expression} {n : ℤ} → Value t e n → Value (with_same_typed t) e n
  same_value t of_number = of_number
  same_value t (of_context i) = of_context i
  same_value t (of_operation a b d r) = of_operation (same_value t a) (same_value t b) d r

  same_holds : (hs : List Name) (t : Assignment) {c : Condition} → Holds hs t c → Holds hs (with_same_typed t) c
  same_holds hs t (of_kind k) = of_kind k
  same_holds hs t (in_order a b s) = in_order (same_value t a) (same_value t b) s
  same_holds hs t (binds n a i) = binds n (same_value t a) i
  same_holds hs t (alike a b g h s) = alike a b g h s
  same_holds hs t (unlike a b g h s) = unlike a b g h s

  pub same_guard : (hs : List Name) (t : Assignment) {cs : List Condition} → GuardHolds hs t cs → GuardHolds hs (with_same_typed t) cs
  same_guard hs t no_condition = no_condition
  same_guard hs t (condition_and h k) = condition_and (same_holds hs t h) (same_guard hs t k)

-- ---- the law of embedding

no_rule_fused : (v : ℕ → ℕ) (P : Process) → NoRuleAtTop P → NoRuleAtTop (fused v P)
no_rule_fused v nothing n = tt
no_rule_fused v (connector x y) n = tt
no_rule_fused v (atom a xs) n = tt
no_rule_fused v (pair P Q) n = (no_rule_fused v P n.0, no_rule_fused v Q n.1)
no_rule_fused v (membrane P) n = tt
no_rule_fused v (rule r) n = n

read_plain : (t : Assignment) (v : ℕ → ℕ) → Proper t → ((q : Name) → Closed (fused v (t.context_of (closed_context q)))) → Plain (read_assignment t v)
read_plain t v p c = record { closed = c; no_connector = λ q. fused_plain v (t.context_of q); no_rule = λ q. no_rule_fused v (t.context_of q) (p.no_rule q); root_is_free = p.root_is_free }

redex_rule : (v : ℕ → ℕ) (r : Rule) (A P : Process) (xs : List SolidAtom) (ms : Regions) (rs : List Rule) → Reordered (fused v (pair (pair A (rule r)) P)) (region_process (region xs ms rs)) → (rest : List Rule) × Put r rest rs
redex_rule v r A P xs ms rs d =
    let k = reordered_pieces (r_chain d (r_same (sym (renamed_id (region_process (region xs ms rs)))))) in
    let s = subst (Shuffle (λ a b. a ≡ b) (picks as_rule (pieces (fused v (pair (pair A (rule r)) P))))) (region_rules stay xs ms rs) (shuffle_picks (λ a b. a ≡ b) as_rule as_rule same_rules k) in
    let here_it : Put (rule r) ((pieces (fused v A) ++ []) ++ pieces (fused v P)) ((pieces (fused v A) ++ rule r ∷ []) ++ pieces (fused v P)) = put_back (put_between (rule r) (pieces (fused v A)) []) (pieces (fused v P)) in
    let u = find_right (chosen (put_picks as_rule here_it)) rs s in
    (u.rest, subst (λ k. Put k u.rest rs) (sym u.related) u.put)
  where
    chosen : {B : Type 0} {b : B} {xs zs : List B} → PutOnto (Some b) xs zs → Put b xs zs
    chosen (present p) = p

in_itself : {k : ℕ} {r : Rule} {f : List ℕ} {xs : List SolidAtom} {ms : Regions} {rs rs' : List Rule} → Taken k r rs rs' → EmbedsLoosely r f (region xs ms rs) → HasLooseEmbedding (region xs ms rs)
in_itself k e = record { path = []; number = _; positions = _; embeds = embeds_loosely_here k e }

-- where a rule embeds in a membrane of a region it embeds in the region
in_a_membrane : {n : ℕ} {m : Region} {xs : List SolidAtom} {ms ms' : Regions} {rs : List Rule} → TakenRegion n m ms ms' → HasLooseEmbedding m → HasLooseEmbedding (region xs ms rs)
in_a_membrane k e = record { path = _; number = e.number; positions = e.positions; embeds = embeds_loosely_below k e.embeds }

-- An instance in a process that is read against a solid shows a place where the head lies in the solid.
pub redex_embeds : (v : ℕ → ℕ) {P : Process} (d : HasRedex P) → Joins v P → Linked P → Linked (fused v P) → EndsOutside v P → (S : Region) → AllRules HeadAllowed S → Reordered (fused v P) (region_process S) → HasLooseEmbedding S
redex_embeds v (at_top {r = r} {A = A} {P = P} m) j l l' f (region xs ms rs) h o =
    let c = redex_rule v r A P xs ms rs o in
    let allowed = rule_there HeadAllowed h.0 c.1 in
    let a = literal m.assignment m.proper v m.head allowed.0 (linked_left (linked_left l')) j.0.0 in
    let t = standing m.assignment a.stands in
    let proper = standing_proper m.assignment m.proper v a.stands a.may in
    let guard = same_guard m.assignment.link_of a.stands m.assignment.rules_of (typed_contexts (head_of r)) m.assignment m.guard in
    let X = pieces (fused v A) in
    let Z = pieces (fused v P) in
    let s : Shuffle SamePiece (X ++ (rule r ∷ Z)) (pieces_of (region xs ms rs)) =
    subst (λ k. Shuffle SamePiece k (pieces_of (region xs ms rs))) (append_assoc X (rule r ∷ []) Z)
    (subst (Shuffle SamePiece ((X ++ (rule r ∷ [])) ++ Z)) (region_pieces (region xs ms rs)) (reordered_pieces o)) in
    let u = match_level t proper v a.is (allowed.1 t guard) (linked_left (linked_left l)) (linked_left (linked_left l')) f.0.0 (rule r ∷ Z) (region xs ms rs) s in
    let k = put_taken c.1 in
    in_itself k.1 (record {
      assignment = read_assignment t v;
      rest = u.rest;
      plain = read_plain t v proper (λ q. (a.may (closed_context q)).2);
      images = u.images;
      guard = same_guard (λ x. v (t.link_of x)) (λ p. fused v (t.context_of p)) t.rules_of (typed_contexts (head_of r)) t guard;
    })
redex_embeds v (in_membrane {P = P} {Q = Q} d) j l l' f (region xs ms rs) h o =
    below v P (pieces (fused v Q)) xs ms rs h.1 (λ n g e. redex_embeds v d j.0 (linked_inside (linked_left l)) (linked_inside (linked_left l')) f.0.1 n g e)
    (subst (Shuffle SamePiece (membrane (fused v P) ∷ pieces (fused v Q))) (region_pieces (region xs ms rs)) (reordered_pieces o))
  where
    below : (v : ℕ → ℕ) (P : Process) (Ws : List Process) (xs : List SolidAtom) (ms : Regions) (rs : List Rule) → AllRulesIn HeadAllowed ms → ((n : Region) → AllRules HeadAllowed n → Reordered (fused v P) (region_process n) → HasLooseEmbedding n)
        → Shuffle SamePiece (membrane (fused v P) ∷ Ws) (pieces_of (region xs ms rs)) → HasLooseEmbedding (region xs ms rs)
    below v P Ws xs ms rs g h (more itself s q) = let u = take_region xs ms rs q in in_a_membrane u.taken (h u.region_there (region_there HeadAllowed g u.taken) (r_same u.is))
    below v P Ws xs ms rs g h (more (content d) s q) = let u = take_region xs ms rs q in in_a_membrane u.taken (h u.region_there (region_there HeadAllowed g u.taken) (r_chain d (r_same u.is)))

-- Where a step is possible from a solid, some rule embeds in it.
pub step_embeds : (S : Region) (Q : Process) → Closed (region_process S) → AllRules HeadAllowed S → Step (region_process S) Q → HasLooseEmbedding S
step_embeds S Q c h s =
    let k = step_shows s in
    let r = congruent_reads k.process (region_process S) (region_plain S) (back k.congruent) in
    let l = (linked_both k.congruent).1 in
    let n : Linked (region_process S) = closed_linked c in
    redex_embeds r.to k.redex r.joins l (linked_as (λ z. sym (reordered_count r.order z)) n) (ends_outside r.to k.process r.joins l r.crossings) S h r.order
