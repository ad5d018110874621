-- The solid after a firing, with every list in its order: a raw level, and one fusion of its connectors.
use Rattle.std.specs.Prelude.{ℕ, zero, suc, cond, List, map, flat_map, set, ◌≡◌, ◌≤◌, [], ◌∷◌, ◌++◌, ◌==◌}
use Rattle.lmn_congruence.specs.Process.{IsCopy}
use Rattle.lmn_congruence.specs.LinkedRules.{level_occurrences}
use Rattle.lmn_congruence.specs.Links.{places}
use Rattle.lmn_congruence.specs.Orders.{Among}
use Rattle.lmn_congruence.specs.Plains.{SolidOf}
use Rattle.lmn_congruence.specs.Regions.{Region, Regions, SolidAtom, no_region, region, region_and, region_process}
use Rattle.lmn_congruence.specs.Rules.{Context, Label, Leaf, Level, Levels, Name, Rule, Rules, atom_leaf, body_of, closed_context, connector_leaf, head_of, level, level_and, no_level, open_context, rules_list, typed_leaf}
use Rattle.lmn_congruence.specs.Translation.{levels, rules as listed_rules}
use Rattle.lmn_adequacy.specs.Embedding.{Contents, EmbedsAt, IsPart, Taken, TakenRegion, region_of}
use Rattle.lmn_congruence_splice.specs.Splice.{of_rule, of_solid}

-- ---- what stays

-- atoms, membranes and rules of the solid in a raw level
abbrev pub kept_atoms : List SolidAtom → List Leaf
kept_atoms xs = map (λ a. atom_leaf a.label (map of_solid a.links)) xs

abbrev mutual
  pub kept_level : Region → Level
  kept_level (region xs ms rs) = level (kept_atoms xs) (levels (kept_membranes ms)) [] [] (listed_rules rs)

  pub kept_membranes : Regions → List Level
  kept_membranes no_region = []
  kept_membranes (region_and m ms) = kept_level m ∷ kept_membranes ms

-- ---- what the body makes

-- The atoms that are reached over the links of the first list, one link after another, depth first. In the second list
-- stand the links at the ports of all atoms that have been listed. A link that stands there twice leads to such an
-- atom. One that stands there once leads to a new one: this is listed, then what its own links reach, by rising index.
pub data ReachesAtoms : List ℕ → List ℕ → List SolidAtom → Type 0 where
  reaches_none : {seen : List ℕ} → ReachesAtoms [] seen []
  reaches_listed : {y : ℕ} {ys seen : List ℕ} {bs : List SolidAtom} →
      places y seen ≡ 2 → ReachesAtoms ys seen bs → ReachesAtoms (y ∷ ys) seen bs
  reaches_new : {y : ℕ} {ys seen : List ℕ} {b : SolidAtom} {bs cs : List SolidAtom} →
      places y seen ≡ 1 → Among y b.links → ReachesAtoms b.links (seen ++ b.links) bs →
      ReachesAtoms ys (seen ++ (b.links ++ flat_map (λ (a : SolidAtom). a.links) bs)) cs → ReachesAtoms (y ∷ ys) seen (b ∷ (bs ++ cs))

-- The leaves of a body. Each typed context is a copy, whose atoms are listed depth first from the link that holds it.
pub data MadeLeaves (c : Contents) : List Leaf → List Leaf → Type 0 where
  no_made_leaf : MadeLeaves c [] []
  made_atom : {a : Label} {xs : List ℕ} {ls outs : List Leaf} →
      MadeLeaves c ls outs → MadeLeaves c (atom_leaf a xs ∷ ls) (atom_leaf a (map of_rule xs) ∷ outs)
  made_connector : {x y : ℕ} {ls outs : List Leaf} →
      MadeLeaves c ls outs → MadeLeaves c (connector_leaf x y ∷ ls) (connector_leaf (of_rule x) (of_rule y) ∷ outs)
  made_copy : {p : Name} {x : ℕ} {part : List SolidAtom} {ls outs : List Leaf} →
      IsPart (c.typed_of p) (of_rule x) part → ReachesAtoms (of_rule x ∷ []) (of_rule x ∷ []) part → MadeLeaves c ls outs →
      MadeLeaves c (typed_leaf p x ∷ ls) (map (λ a. atom_leaf a.label a.links) part ++ outs)

-- What an untyped context of a body makes: an open one its region, and a closed one a copy of its region, with every list
-- in its order and its links renamed.
pub data MadeContext (c : Contents) : Context → Region → Type 0 where
  made_open : {p : Name} → MadeContext c (open_context p) (region_of c (open_context p))
  made_closed : {p : Name} {m : Region} → IsCopy (region_process (region_of c (closed_context p))) (region_process m) → MadeContext c (closed_context p) m

-- context by context, the atoms and the membranes
pub data MadeContexts (c : Contents) : List Context → List SolidAtom → List Level → Type 0 where
  no_made_context : MadeContexts c [] [] []
  made_context : {p : Context} {ps : List Context} {xs ys : List SolidAtom} {ms : Regions} {ks : List Level} →
      MadeContext c p (region xs ms []) → MadeContexts c ps ys ks →
      MadeContexts c (p ∷ ps) (xs ++ ys) (kept_membranes ms ++ ks)

-- What a level of a body makes: the leaves as written, then the atoms of each untyped context; the membranes as written,
-- then those of each untyped context; the rules as written, then those of each `@r`.
mutual
  pub data MadeLevel (c : Contents) : Level → List Leaf → List Level → List Rule → Type 0 where
    made_level : {leaves outs : List Leaf} {membranes : Levels} {made ks : List Level} {contexts : List Context}
        {rule_contexts : List Name} {rules : Rules} {xs : List SolidAtom} →
        MadeLeaves c leaves outs → MadeMembranes c membranes made → MadeContexts c contexts xs ks →
        MadeLevel c (level leaves membranes contexts rule_contexts rules)
        (outs ++ kept_atoms xs) (made ++ ks)
        (rules_list rules ++ flat_map c.rules_of rule_contexts)

  pub data MadeMembranes (c : Contents) : Levels → List Level → Type 0 where
    no_made_membrane : MadeMembranes c no_level []
    made_membrane : {l : Level} {ls : Levels} {outs : List Leaf} {inner made : List Level} {rs : List Rule} →
        MadeLevel c l outs inner rs → MadeMembranes c ls made →
        MadeMembranes c (level_and l ls) (level outs (levels inner) [] [] (listed_rules rs) ∷ made)

-- a connector from each link below n that has one place in the head to the link f of the solid at this place
abbrev pub wire_leaves : (ℕ → ℕ) → Level → ℕ → List Leaf
wire_leaves f l zero = []
wire_leaves f l (suc n) =
    cond (level_occurrences n l == 1) (connector_leaf (of_rule n) (of_solid (f n)) ∷ wire_leaves f l n)
    (wire_leaves f l n)

-- ---- firing

-- what stays of a region, and behind it what the body makes
abbrev pub raw_level : Region → List Leaf → List Leaf → List Level → List Rule → Level
raw_level (region xs ms rs) wires outs made new_rules =
    level (kept_atoms xs ++ (wires ++ outs)) (levels (kept_membranes ms ++ made)) [] [] (listed_rules (rs ++ new_rules))

-- the rule fires at an embedding; all links of the head are below `bound`
pub record FiresInOrder (r : Rule) (f : List ℕ) (m : Region) (L : Level) : Type 0 where
  pub at : EmbedsAt r f m
  pub outs : List Leaf
  pub made_membranes : List Level
  pub made_rules : List Rule
  pub makes : MadeLevel at.contents (body_of r) outs made_membranes made_rules
  pub bound : ℕ
  pub bounded : (x : ℕ) → bound ≤ x → level_occurrences x (head_of r) ≡ 0
  pub is : L ≡ raw_level at.rest (wire_leaves at.contents.link_of (head_of r) bound) outs made_membranes made_rules

-- rule number k of the membrane at the end of the path fires at the positions f; all else stays
pub data RawAt : List ℕ → ℕ → List ℕ → Region → Level → Type 0 where
  fires_here : {k : ℕ} {r : Rule} {f : List ℕ} {xs : List SolidAtom} {ms : Regions} {rs rs' : List Rule} {L : Level} →
      Taken k r rs rs' → FiresInOrder r f (region xs ms rs) L → RawAt [] k f (region xs ms rs) L
  fires_below : {n k : ℕ} {path f : List ℕ} {m : Region} {xs : List SolidAtom} {ms ms' : Regions} {rs : List Rule}
      {L : Level} →
      TakenRegion n m ms ms' → RawAt path k f m L →
      RawAt (n ∷ path) k f (region xs ms rs)
      (level (kept_atoms xs) (levels (set (kept_membranes ms) n L)) [] [] (listed_rules rs))

-- S' is the solid after this firing, up to the numbers of links. Two ports are joined in it exactly where a chain of
-- links and connectors joins them in the raw level, and a loop vanishes.
pub record NextAt (path : List ℕ) (k : ℕ) (f : List ℕ) (S S' : Region) : Type 0 where
  pub raw : Level
  pub fires : RawAt path k f S raw
  pub fuses : SolidOf raw S'

-- after some firing
pub record Next (S S' : Region) : Type 0 where
  pub path : List ℕ
  pub number : ℕ
  pub positions : List ℕ
  pub next : NextAt path number positions S S'

-- ---- words for lemmas

-- the links at atoms, in order
abbrev pub links_at : List SolidAtom → List ℕ
links_at xs = flat_map (λ (a : SolidAtom). a.links) xs

-- the atoms are listed depth first from the link x, which holds them
abbrev pub DepthFirst : ℕ → List SolidAtom → Type 0
DepthFirst x bs = ReachesAtoms (x ∷ []) (x ∷ []) bs

-- the atoms of a part as leaves of a level
abbrev pub part_leaves : List SolidAtom → List Leaf
part_leaves xs = map (λ a. atom_leaf a.label a.links) xs

-- the rules for which the rule contexts of a level stand
abbrev pub context_rules : Contents → List Name → List Rule
context_rules c ps = flat_map c.rules_of ps

-- a level in the place of number n of a list
abbrev pub replaced : ℕ → Level → List Level → List Level
replaced n L ks = set ks n L
