-- A closed plain has one solid by numbers.
use Rattle.std.proofs.Common.{ℕ, zero, suc, ◌≡◌, ◌≢◌, Bool, true, false, List, [], ◌∷◌, ◌++◌, map, length, All, refl, sym, ◌∙◌, ap, subst, arith}
use Rattle.std.specs.List.{flat_map}
use Rattle.std.specs.Prelude.{cond}
use Rattle.std.proofs.lemmas.Grind.{flat_map-append}
use Rattle.std.proofs.lemmas.List.{length-map}
use Rattle.lmn_base.specs.declared.functor.Functor.{Functor}
use Rattle.lmn_base.specs.declared.functor.Label.{Label}
use Rattle.lmn_base.specs.declared.functor.Label.TheVariants.{Name, Int}
use Rattle.lmn_base.specs.declared.level.Leaf.{Leaf}
use Rattle.lmn_base.specs.declared.level.Leaf.TheVariants.{Atom, Typed}
use Rattle.lmn_base.specs.declared.level.Level.{Level}
use Rattle.lmn_base.specs.declared.level.Level.TheFolds.{fold-roll-Level, ind-Level}
use Rattle.lmn_base.specs.declared.level.Occ.{Occ}
use Rattle.lmn_base.specs.declared.refusal.Pos.{Pos}
use Rattle.lmn_base.specs.declared.solid.Region.{Region}
use Rattle.lmn_base.specs.declared.solid.Region.TheFolds.{fold-Region, fold-roll-Region, ind-Region}
use Rattle.lmn_base.specs.declared.solid.Solid.{Solid}
use Rattle.lmn_base.specs.declared.solid.SolidAtom.{SolidAtom}
use Rattle.lmn_base.specs.Levels.{leaves_of}
use Rattle.lmn_base.specs.Links.{NumbersLinks}
use Rattle.lmn_base.specs.Solids.{atoms_of_region, atoms_step, connector, is_connector}
use Rattle.lmn_base.specs.WellMade.{FitsArity}
use Rattle.lmn_congruence.specs.Fused.{Joins}
use Rattle.lmn_congruence.specs.Plains.{SolidOf, fused_leaves, fused_level, fused_levels, leaf_process, level_process, levels_processes}
use Rattle.lmn_congruence.specs.Process.{Closed, together}
use Rattle.lmn_congruence.specs.SolidsOfPlains.{JoinsLeaf, fused_leaf, fused_region, fused_step}
use Rattle.lmn_congruence.specs.Translation.{leaf_of, level_of, level_step, levels, numbered_rule, region_of, region_step, regions, solid_atom_of, top_of, numbered_region}
use Rattle.lmn_congruence.proofs.SolidsOfPlains.{fused, solids_of_plains, twice_mapped}
use Rattle.lmn_congruence.proofs.TranslatedLinks.{plains_closed, solid_links_kept}
use Rattle.lmn_reduction.proofs.OneSolid.{solid_is_one}
use Rattle.lmn_reduction.proofs.Plains.{plain_has_solid}
use Rattle.lmn_adequacy.specs.Laws.{SolidOfPlainIsOne, SolidsOfPlainsExist}
use Rattle.lmn_adequacy.specs.Next.{links_at}
use Rattle.lmn_adequacy.specs.Numbered.{IsNumbered, printed_links, printed_links_in}
use Rattle.lmn_adequacy.proofs.Numbering.{numbered_one, numbering, renamed_solid}
use Rattle.lmn_adequacy.proofs.OneEmbedding.{atoms_in as its_atoms, membranes_in as its_membranes}
use Rattle.lmn_base.proofs.Lists.{head_is, tail_is, all_of_left, all_of_right}
use Rattle.lmn_base.proofs.Common.{inner_leaves, inner_atoms}
use Rattle.lmn_congruence.specs.Regions as solid
use Rattle.lmn_congruence.specs.Rules as tree
use Rattle.std.proofs.lemmas.List.Elements.{All-append, All-nil}

-- ---- lists

all_of_one : {A : Type 0} (P : A → Type 0) (x : A) → P x → All P (x ∷ [])
all_of_one P x p zero d l = p
all_of_one P x p (suc n) d l = absurd (omega (arith, l))

-- ---- what joins the connectors of the top as a tree joins those of the top

module _ (names : List tree.Name) (number : ℕ → tree.Rule) (v : ℕ → ℕ) where
  cases_back : (l : Label) (n : ℕ) (os : List Occ) (p : Pos) → Joins v (leaf_process (leaf_of names (Atom (record { label = l; arity = n }) os p))) → JoinsLeaf v (Atom (record { label = l; arity = n }) os p)
  cases_back l n [] p h = tt
  cases_back l n (a ∷ []) p h = tt
  cases_back (Int z) n (a ∷ b ∷ []) p h = λ e. absurd (cc e)
  cases_back (Name (suc m)) n (a ∷ b ∷ []) p h = λ e. absurd (cc e)
  cases_back (Name zero) n (a ∷ b ∷ []) p h = λ e. h
  cases_back l n (a ∷ b ∷ c ∷ os) p h = tt

  leaf_back : (l : Leaf) → Joins v (leaf_process (leaf_of names l)) → JoinsLeaf v l
  leaf_back (Typed n o p) h = tt
  leaf_back (Atom f os p) h = cases_back f.label f.arity os p h

  leaves_back : (ls : List Leaf) → Joins v (together (map leaf_process (map (leaf_of names) ls))) → All (JoinsLeaf v) ls
  leaves_back [] h = All-nil (JoinsLeaf v)
  leaves_back (l ∷ ls) h = All-append (JoinsLeaf v) (l ∷ []) ls (all_of_one (JoinsLeaf v) l (leaf_back l h.0)) (leaves_back ls h.1)

  abbrev Back : Level → Type 0
  Back l = Joins v (level_process (level_of names number l)) → All (JoinsLeaf v) (leaves_of l)

  inner_back : (ls : List ((l : Level) × Back l)) → Joins v (together (levels_processes (levels (map (level_of names number) (map (λ e. e.0) ls))))) → All (JoinsLeaf v) (inner_leaves (map (λ e. e.0) ls))
  inner_back [] h = All-nil (JoinsLeaf v)
  inner_back (e ∷ ls) h = All-append (JoinsLeaf v) (leaves_of e.0) (inner_leaves (map (λ e. e.0) ls)) (e.1 h.0) (inner_back ls h.1)

  joined_back : (l : Level) → Back l
  joined_back = ind-Level Back (λ y z is h.
      let parts = subst (λ L. Joins v (level_process L)) (fold-roll-Level tree.Level (level_step names number) y) h in
      let inside = subst (λ l. Joins v (together (levels_processes (levels (map (level_of names number) l.membranes)))) → All (JoinsLeaf v) (inner_leaves l.membranes)) is (inner_back z.membranes) in
      rw (fold-roll-Level (List Leaf) (λ l. l.leaves ++ flat_map (λ inner. inner) l.membranes) y)
      (All-append (JoinsLeaf v) y.leaves (inner_leaves y.membranes) (leaves_back y.leaves parts.0) (inside parts.1.0)))

-- ---- the atoms of the fused top have their arities, and none is a connector

record IsSolidAtom (a : SolidAtom) : Type 0 where
  pub arity : length a.links ≡ a.functor.arity
  pub no_connector : a.functor ≢ connector

module _ (v : ℕ → ℕ) where
  leaf_atom : (f : Functor) (os : List Occ) (p : Pos) → length os ≡ f.arity → All IsSolidAtom (fused_leaf v (Atom f os p))
  leaf_atom f os p h = by (is_connector f) refl
    where
      by : (b : Bool) → is_connector f ≡ b → All IsSolidAtom (cond b [] (record { functor = f; links = map (λ o. v o.link) os } ∷ []))
      by true e = All-nil IsSolidAtom
      by false e = all_of_one IsSolidAtom _ (record { arity = length-map os (λ o. v o.link) ∙ h; no_connector = λ q. cc (sym e ∙ ap is_connector q) })

  leaf_solid : (l : Leaf) → FitsArity l → All IsSolidAtom (fused_leaf v l)
  leaf_solid (Typed n o p) h = All-nil IsSolidAtom
  leaf_solid (Atom f os p) h = leaf_atom f os p h

  leaves_solid : (ls : List Leaf) → All FitsArity ls → All IsSolidAtom (flat_map (fused_leaf v) ls)
  leaves_solid [] h = All-nil IsSolidAtom
  leaves_solid (l ∷ ls) h = All-append IsSolidAtom (fused_leaf v l) (flat_map (fused_leaf v) ls) (leaf_solid l (h zero l (omega arith))) (leaves_solid ls (all_of_right FitsArity (l ∷ []) ls h))

  abbrev Solidly : Level → Type 0
  Solidly l = All FitsArity (leaves_of l) → All IsSolidAtom (atoms_of_region (fused_region v l))

  inner_solid : (ls : List ((l : Level) × Solidly l)) → All FitsArity (inner_leaves (map (λ e. e.0) ls)) → All IsSolidAtom (inner_atoms (map (fused_region v) (map (λ e. e.0) ls)))
  inner_solid [] h = All-nil IsSolidAtom
  inner_solid (e ∷ ls) h =
      let behind = inner_leaves (map (λ e. e.0) ls) in
      All-append IsSolidAtom (atoms_of_region (fused_region v e.0)) (inner_atoms (map (fused_region v) (map (λ e. e.0) ls))) (e.1 (all_of_left FitsArity (leaves_of e.0) behind h)) (inner_solid ls (all_of_right FitsArity (leaves_of e.0) behind h))

  solidly : (l : Level) → Solidly l
  solidly = ind-Level Solidly (λ y z is h.
      let split = fold-roll-Level (List Leaf) (λ l. l.leaves ++ flat_map (λ inner. inner) l.membranes) y in
      let here = subst (All FitsArity) split h in
      let inside = subst (λ l. All FitsArity (inner_leaves l.membranes) → All IsSolidAtom (inner_atoms (map (fused_region v) l.membranes))) is (inner_solid z.membranes) in
      rw (fold-roll-Level Region (fused_step v) y, fold-roll-Region (List SolidAtom) atoms_step _)
      (All-append IsSolidAtom (flat_map (fused_leaf v) y.leaves) (inner_atoms (map (fused_region v) y.membranes)) (leaves_solid y.leaves (all_of_left FitsArity y.leaves (inner_leaves y.membranes) here)) (inside (all_of_right FitsArity y.leaves (inner_leaves y.membranes) here))))

-- ---- the printed links of a region

-- the links of atoms as the calculus has them
pub links_read : (names : List tree.Name) (ks : List SolidAtom) → links_at (map (solid_atom_of names) ks) ≡ flat_map (λ a. a.links) ks
links_read names [] = refl
links_read names (a ∷ ks) = ap (λ ls. a.links ++ ls) (links_read names ks)

module _ (names : List tree.Name) (number : ℕ → tree.Rule) where
  abbrev Printed : Region → Type 0
  Printed r = printed_links (numbered_region names number r) ≡ flat_map (λ a. a.links) (atoms_of_region r)

  both_links : (ks ls : List SolidAtom) {xs ys : List ℕ} → xs ≡ flat_map (λ a. a.links) ks → ys ≡ flat_map (λ a. a.links) ls → xs ++ ys ≡ flat_map (λ a. a.links) (ks ++ ls)
  both_links ks ls e d = rw (flat_map-append (λ a. a.links) ks ls, e, d) refl

  inner_printed : (rs : List ((r : Region) × Printed r)) → printed_links_in (regions (map (numbered_region names number) (map (λ e. e.0) rs))) ≡ flat_map (λ a. a.links) (inner_atoms (map (λ e. e.0) rs))
  inner_printed [] = refl
  inner_printed (e ∷ rs) = both_links (atoms_of_region e.0) (inner_atoms (map (λ e. e.0) rs)) e.1 (inner_printed rs)

  -- the links of a region in printed order
  pub printed : (r : Region) → Printed r
  printed = ind-Region Printed (λ y z is.
      let inside = subst (λ r. printed_links_in (regions (map (numbered_region names number) r.membranes)) ≡ flat_map (λ a. a.links) (inner_atoms r.membranes)) is (inner_printed z.membranes) in
      rw (fold-roll-Region solid.Region (region_step names number) y, fold-roll-Region (List SolidAtom) atoms_step y)
      (both_links y.atoms (inner_atoms y.membranes) (links_read names y.atoms) inside))

-- ---- the law

-- each closed plain that is well made has a solid with its links numbered in printed order
pub solids_of_plains_exist : SolidsOfPlainsExist
solids_of_plains_exist p w e =
    let top = top_of [] p in
    let number = numbered_rule [] p.rules in
    let read = plain_has_solid top ((plains_closed [] p w).0 e) in
    let new = numbering read.0 in
    let of_top : SolidOf top new.0 = renamed_solid read.1 new.1 in
    let s : Solid = record { root = fused_region of_top.to p.top } in
    let is : region_of [] p.rules s ≡ new.0 = fused [] number of_top.to p.top w.arities ∙ sym of_top.is in
    let atoms = solidly of_top.to p.top w.arities in (
      s,
      record {
        closed = e;
        to = of_top.to;
        joins = joined_back [] number of_top.to p.top of_top.joins;
        is = refl;
        is_solid = record {
          arities = λ k d l. (atoms k d l).arity;
          no_connector = λ k d l. (atoms k d l).no_connector;
          closed = λ x. rw (← solid_links_kept [] p.rules s x) (subst (λ R. Closed (solid.region_process R)) (sym is) of_top.closed x);
          numbered = (new.2.0, subst (λ ls. NumbersLinks ls new.2.0) (ap printed_links (sym is) ∙ printed [] number s.root) new.2.1);
        };
      },
    )

-- ---- the solid is one

-- the first of some regions, or another where there is none
abbrev pub first_or : solid.Region → solid.Regions → solid.Region
first_or d solid.no_region = d
first_or d (solid.region_and m ms) = m

-- all regions but the first
abbrev pub others : solid.Regions → solid.Regions
others solid.no_region = solid.no_region
others (solid.region_and m ms) = ms

module _ (names : List tree.Name) (number : ℕ → tree.Rule) (v w : ℕ → ℕ) where
  -- an atom of the fused top by its links
  abbrev made_leaf : Functor → List ℕ → List SolidAtom
  made_leaf f ls = cond (is_connector f) [] (record { functor = f; links = ls } ∷ [])

  same_images : (os : List Occ) → map v (map (λ o. o.link) os) ≡ map w (map (λ o. o.link) os) → map (λ o. v o.link) os ≡ map (λ o. w o.link) os
  same_images os e = twice_mapped v os ∙ e ∙ sym (twice_mapped w os)

  one_atom : (l : Label) (n : ℕ) (os : List Occ) (p : Pos) → length os ≡ n → (ls : List tree.Leaf) →
      fused_leaves v (leaf_of names (Atom (record { label = l; arity = n }) os p) ∷ ls) ≡ fused_leaves w (leaf_of names (Atom (record { label = l; arity = n }) os p) ∷ ls) →
      (fused_leaf v (Atom (record { label = l; arity = n }) os p) ≡ fused_leaf w (Atom (record { label = l; arity = n }) os p)) × (fused_leaves v ls ≡ fused_leaves w ls)
  one_atom (Int z) n os p h ls e = (ap (made_leaf (record { label = Int z; arity = n })) (same_images os (ap (λ a. a.links) (head_is e))), tail_is e)
  one_atom (Name (suc m)) n os p h ls e = (ap (made_leaf (record { label = Name (suc m); arity = n })) (same_images os (ap (λ a. a.links) (head_is e))), tail_is e)
  one_atom (Name zero) n [] p h ls e = (refl, tail_is e)
  one_atom (Name zero) n (a ∷ []) p h ls e = (ap (made_leaf (record { label = Name zero; arity = n })) (same_images (a ∷ []) (ap (λ a. a.links) (head_is e))), tail_is e)
  one_atom (Name zero) n (a ∷ b ∷ []) p h ls e = (rw (sym h) refl, e)
  one_atom (Name zero) n (a ∷ b ∷ c ∷ os) p h ls e = (ap (made_leaf (record { label = Name zero; arity = n })) (same_images (a ∷ b ∷ c ∷ os) (ap (λ a. a.links) (head_is e))), tail_is e)

  one_leaf : (l : Leaf) → FitsArity l → (ls : List tree.Leaf) → fused_leaves v (leaf_of names l ∷ ls) ≡ fused_leaves w (leaf_of names l ∷ ls) → (fused_leaf v l ≡ fused_leaf w l) × (fused_leaves v ls ≡ fused_leaves w ls)
  one_leaf (Typed n o p) h ls e = (refl, e)
  one_leaf (Atom f os p) h ls e = one_atom f.label f.arity os p h ls e

  one_leaves : (ls : List Leaf) → All FitsArity ls → fused_leaves v (map (leaf_of names) ls) ≡ fused_leaves w (map (leaf_of names) ls) → flat_map (fused_leaf v) ls ≡ flat_map (fused_leaf w) ls
  one_leaves [] h e = refl
  one_leaves (l ∷ ls) h e =
      let u = one_leaf l (h zero l (omega arith)) (map (leaf_of names) ls) e in
      let k = one_leaves ls (all_of_right FitsArity (l ∷ []) ls h) u.1 in
      rw (u.0, k) refl

  abbrev leaves_inside : List Level → List Leaf
  leaves_inside ls = flat_map (λ inner. inner) (map leaves_of ls)

  abbrev tree_of : Level → tree.Level
  tree_of = level_of names number

  abbrev One : Level → Type 0
  One l = All FitsArity (leaves_of l) → fused_level v (tree_of l) ≡ fused_level w (tree_of l) → fused_region v l ≡ fused_region w l

  inner_one : (ls : List ((l : Level) × One l)) → All FitsArity (leaves_inside (map (λ e. e.0) ls)) →
      fused_levels v (levels (map tree_of (map (λ e. e.0) ls))) ≡ fused_levels w (levels (map tree_of (map (λ e. e.0) ls))) → map (fused_region v) (map (λ e. e.0) ls) ≡ map (fused_region w) (map (λ e. e.0) ls)
  inner_one [] h e = refl
  inner_one (l ∷ ls) h e =
      let behind = leaves_inside (map (λ e. e.0) ls) in
      let first = l.1 (all_of_left FitsArity (leaves_of l.0) behind h) (ap (first_or (fused_level v (tree_of l.0))) e) in
      let rest = inner_one ls (all_of_right FitsArity (leaves_of l.0) behind h) (ap others e) in
      rw (first, rest) refl

  one_region : (l : Level) → One l
  one_region = ind-Level One (λ y z is h e.
      let split = fold-roll-Level (List Leaf) (λ l. l.leaves ++ flat_map (λ inner. inner) l.membranes) y in
      let here = subst (All FitsArity) split h in
      let parts = subst (λ L. fused_level v L ≡ fused_level w L) (fold-roll-Level tree.Level (level_step names number) y) e in
      let inside = subst (λ l. All FitsArity (leaves_inside l.membranes) → fused_levels v (levels (map tree_of l.membranes)) ≡ fused_levels w (levels (map tree_of l.membranes)) → map (fused_region v) l.membranes ≡ map (fused_region w) l.membranes) is (inner_one z.membranes) in
      let first = one_leaves y.leaves (all_of_left FitsArity y.leaves (leaves_inside y.membranes) here) (ap its_atoms parts) in
      let rest = inside (all_of_right FitsArity y.leaves (leaves_inside y.membranes) here) (ap its_membranes parts) in
      rw (fold-roll-Level Region (fused_step v) y, fold-roll-Level Region (fused_step w) y, first, rest) refl)

-- a well made plain has one solid at most with its links numbered in printed order
pub solid_of_plain_is_one : SolidOfPlainIsOne
solid_of_plain_is_one p s s' w i i' =
    let number = numbered_rule [] p.rules in
    let a : SolidOf (top_of [] p) (region_of [] p.rules s) = solids_of_plains [] p s w i in
    let b : SolidOf (top_of [] p) (region_of [] p.rules s') = solids_of_plains [] p s' w i' in
    let k : IsNumbered (region_of [] p.rules s) = (i.is_solid.numbered.0, subst (λ ls. NumbersLinks ls i.is_solid.numbered.0) (sym (printed [] number s.root)) i.is_solid.numbered.1) in
    let k' : IsNumbered (region_of [] p.rules s') = (i'.is_solid.numbered.0, subst (λ ls. NumbersLinks ls i'.is_solid.numbered.0) (sym (printed [] number s'.root)) i'.is_solid.numbered.1) in
    let e : region_of [] p.rules s ≡ region_of [] p.rules s' = numbered_one (region_of [] p.rules s) (region_of [] p.rules s') (solid_is_one (top_of [] p) (region_of [] p.rules s) (region_of [] p.rules s') a b) k k' in
    let left : region_of [] p.rules s ≡ fused_level i.to (top_of [] p) = ap (fold-Region solid.Region (region_step [] number)) i.is ∙ fused [] number i.to p.top w.arities in
    let right : region_of [] p.rules s' ≡ fused_level i'.to (top_of [] p) = ap (fold-Region solid.Region (region_step [] number)) i'.is ∙ fused [] number i'.to p.top w.arities in
    let roots : s.root ≡ s'.root = i.is ∙ one_region [] number i.to i'.to p.top w.arities (sym left ∙ e ∙ right) ∙ sym i'.is in
    ap (λ r. record { root = r }) roots
