-- Where the head of a rule lies in a region. Everything here is on lists; nothing is searched.
use Rattle.std.specs.Prelude.{ℕ, suc, List, map, ◌≡◌, ◌≢◌, [], ◌∷◌, ◌++◌}
use Rattle.lmn_congruence.specs.LinkedRules.{level_occurrences}
use Rattle.lmn_congruence.specs.Orders.{Shuffle}
use Rattle.lmn_congruence.specs.Process.{Closed, Free, OneToOneOn, occurrences}
use Rattle.lmn_congruence.specs.Regions.{Region, Regions, SolidAtom, no_region, region, region_and, region_process}
use Rattle.lmn_congruence.specs.Rules.{Context, Label, Leaf, Level, Levels, Name, Rule, Rules, atom_leaf, closed_context, guard_of, head_of, level, level_and, no_level, no_rule, typed_leaf}
use Rattle.lmn_reduction.specs.Assignments.{Assignment}
use Rattle.lmn_reduction.specs.Firing.{typed_contexts}
use Rattle.lmn_reduction.specs.Guards.{GuardHolds}
use Rattle.lmn_reduction.specs.Parts.{IsGround, OnlyAtoms, Rooted, atoms_at_top}

-- What the parts of a rule stand for where it embeds: as `Assignment`, with the lists of atoms and membranes that an
-- untyped context stands for. A link of the rule stands for the link of the solid at its ports; this needn't be one to
-- one, since two links that each occur once in the head may be joined in the solid.
pub record Contents : Type 0 where
  pub link_of : ℕ → ℕ
  pub atoms_of : Context → List SolidAtom
  pub membranes_of : Context → Regions
  pub rules_of : Name → List Rule
  pub typed_of : Name → Rooted

-- the region for which an untyped context stands
abbrev pub region_of : Contents → Context → Region
region_of c p = region (c.atoms_of p) (c.membranes_of p) []

-- the assignment: the untyped contexts as processes
abbrev pub assignment_of : Contents → Assignment
assignment_of c = record {
  link_of = c.link_of;
  context_of = λ p. region_process (region_of c p);
  rules_of = c.rules_of;
  typed_of = c.typed_of;
}

-- y is item number n of zs, and ys are the others in their order
pub data Taken {A : Type 0} : ℕ → A → List A → List A → Type 0 where
  taken_first : {y : A} {ys : List A} → Taken 0 y (y ∷ ys) ys
  taken_later : {n : ℕ} {y z : A} {zs ys : List A} → Taken n y zs ys → Taken (suc n) y (z ∷ zs) (z ∷ ys)

-- the last list is made of the other two, each in its order
pub data Merged {A : Type 0} : List A → List A → List A → Type 0 where
  merged_none : Merged [] [] []
  from_first : {x : A} {ys zs xs : List A} → Merged ys zs xs → Merged (x ∷ ys) zs (x ∷ xs)
  from_second : {x : A} {ys zs xs : List A} → Merged ys zs xs → Merged ys (x ∷ zs) (x ∷ xs)

-- m is region number n of a list, and the last list has the others in their order
pub data TakenRegion : ℕ → Region → Regions → Regions → Type 0 where
  region_first : {m : Region} {ms : Regions} → TakenRegion 0 m (region_and m ms) ms
  region_later : {n : ℕ} {m k : Region} {ms ns : Regions} →
      TakenRegion n m ms ns → TakenRegion (suc n) m (region_and k ms) (region_and k ns)

-- The atoms of a level, in order, have images: distinct atoms of their label and arity, with the links of the
-- rule at their ports; `rest` is what is left. A number counts the atoms that earlier ones have left. The order of
-- two lists of such numbers is that of the positions.
pub data AtomImages (t : Assignment) : List Leaf → List ℕ → List SolidAtom → List SolidAtom → Type 0 where
  no_image : {xs : List SolidAtom} → AtomImages t [] [] xs xs
  image_and : {a : Label} {ys : List ℕ} {ls : List Leaf} {n : ℕ} {ns : List ℕ} {xs xs' rest : List SolidAtom} →
      Taken n (record { label = a; links = map t.link_of ys }) xs xs' → AtomImages t ls ns xs' rest →
      AtomImages t (atom_leaf a ys ∷ ls) (n ∷ ns) xs rest
  typed_later : {p : Name} {x : ℕ} {ls : List Leaf} {ns : List ℕ} {xs rest : List SolidAtom} →
      AtomImages t ls ns xs rest → AtomImages t (typed_leaf p x ∷ ls) ns xs rest

-- the atoms are, in some order, those of a process of atoms with a root, its links renamed one to one, the root to x
pub record IsPart (g : Rooted) (x : ℕ) (part : List SolidAtom) : Type 0 where
  pub only_atoms : OnlyAtoms g.process
  pub to : ℕ → ℕ
  pub one_to_one : OneToOneOn to g.process
  pub root : to g.root ≡ x
  pub atoms : Shuffle (λ a b. record { label = a.0; links = map to a.1 } ≡ b) (atoms_at_top g.process) part

-- The parts of the typed contexts of a level, taken out of the atoms that all images have left; the others stay in
-- their order. A part is ground: it is connected and has no free link but its root, so it is what is reached through
-- the link that holds it.
pub data TypedParts (t : Assignment) : List Leaf → List SolidAtom → List SolidAtom → Type 0 where
  no_part : {xs : List SolidAtom} → TypedParts t [] xs xs
  no_part_of_atom : {a : Label} {ys : List ℕ} {ls : List Leaf} {xs rest : List SolidAtom} →
      TypedParts t ls xs rest → TypedParts t (atom_leaf a ys ∷ ls) xs rest
  part_and : {p : Name} {x : ℕ} {ls : List Leaf} {part xs xs' rest : List SolidAtom} →
      IsGround (t.typed_of p) → IsPart (t.typed_of p) (t.link_of x) part →
      Merged part xs' xs → TypedParts t ls xs' rest →
      TypedParts t (typed_leaf p x ∷ ls) xs rest

-- In the image of a head membrane each link of it has as many places as in the head membrane. So one that has one
-- place there has its other end outside.
pub record KeepsLinks (t : Assignment) (l : Level) (m : Region) : Type 0 where
  pub as_often : (x : ℕ) → level_occurrences x l ≢ 0 →
      occurrences (t.link_of x) (region_process m) ≡ level_occurrences x l

-- What the images and the typed parts leave of the image of a head membrane: its atoms and membranes are what its
-- untyped context stands for, none where it has no context; so are its rules with its rule context.
pub data LeftToContext (c : Contents) : List Context → List SolidAtom → Regions → Type 0 where
  no_context : LeftToContext c [] [] no_region
  one_context : {p : Context} → LeftToContext c (p ∷ []) (c.atoms_of p) (c.membranes_of p)

pub data LeftToRuleContext (c : Contents) : List Name → List Rule → Type 0 where
  no_rule_context : LeftToRuleContext c [] []
  one_rule_context : {p : Name} → LeftToRuleContext c (p ∷ []) (c.rules_of p)

-- A level lies in a region: `rest` is what its images and the typed parts leave of it. What is left of the image of a
-- head membrane is what its contexts stand for; no rule is written in one. The numbers are in the order of head items:
-- leaves, then each membrane followed by its own items.
mutual
  pub data LevelLies (c : Contents) : Level → List ℕ → Region → Region → Type 0 where
    level_lies : {leaves : List Leaf} {membranes : Levels} {contexts : List Context} {rule_contexts : List Name} {rules : Rules}
        {ns ns' : List ℕ} {xs xs' xs'' : List SolidAtom} {ms ms' : Regions} {rs : List Rule} →
        AtomImages (assignment_of c) leaves ns xs xs' → TypedParts (assignment_of c) leaves xs' xs'' →
        MembranesLie c membranes ns' ms ms' →
        LevelLies c (level leaves membranes contexts rule_contexts rules) (ns ++ ns')
        (region xs ms rs) (region xs'' ms' rs)

  pub data MembranesLie (c : Contents) : Levels → List ℕ → Regions → Regions → Type 0 where
    no_membrane_lies : {ms : Regions} → MembranesLie c no_level [] ms ms
    membrane_lies : {leaves : List Leaf} {membranes ls : Levels} {contexts : List Context} {rule_contexts : List Name}
        {n : ℕ} {ns ns' : List ℕ} {m : Region} {ms ms' ms'' rest_membranes : Regions} {rest_atoms : List SolidAtom} {rest_rules : List Rule} →
        TakenRegion n m ms ms' → LevelLies c (level leaves membranes contexts rule_contexts no_rule) ns m (region rest_atoms rest_membranes rest_rules) →
        KeepsLinks (assignment_of c) (level leaves membranes contexts rule_contexts no_rule) m →
        LeftToContext c contexts rest_atoms rest_membranes × LeftToRuleContext c rule_contexts rest_rules → MembranesLie c ls ns' ms' ms'' →
        MembranesLie c (level_and (level leaves membranes contexts rule_contexts no_rule) ls) (n ∷ (ns ++ ns')) ms ms''

-- A rule of a region embeds in it at the positions f: its head lies there, and its guard holds. No link leaves what a
-- closed context stands for: each occurs twice in it. The root of a typed context is free in it.
pub record EmbedsAt (r : Rule) (f : List ℕ) (m : Region) : Type 0 where
  pub contents : Contents
  pub rest : Region
  pub closed : (p : Name) → Closed (region_process (region_of contents (closed_context p)))
  pub root_is_free : (p : Name) → Free (contents.typed_of p).root (contents.typed_of p).process
  pub lies : LevelLies contents (head_of r) f m rest
  pub guard : GuardHolds (typed_contexts (head_of r)) (assignment_of contents) (guard_of r)

-- Rule number k of the membrane at the end of the path embeds at the positions f. The path has the number of a
-- membrane in each list that it goes through.
pub data EmbedsIn : List ℕ → ℕ → List ℕ → Region → Type 0 where
  embeds_here : {k : ℕ} {r : Rule} {f : List ℕ} {xs : List SolidAtom} {ms : Regions} {rs rs' : List Rule} →
      Taken k r rs rs' → EmbedsAt r f (region xs ms rs) → EmbedsIn [] k f (region xs ms rs)
  embeds_below : {n k : ℕ} {path f : List ℕ} {m : Region} {xs : List SolidAtom} {ms ms' : Regions} {rs : List Rule} →
      TakenRegion n m ms ms' → EmbedsIn path k f m → EmbedsIn (n ∷ path) k f (region xs ms rs)

-- some rule of some membrane of the region embeds
pub record HasEmbedding (S : Region) : Type 0 where
  pub path : List ℕ
  pub number : ℕ
  pub positions : List ℕ
  pub embeds : EmbedsIn path number positions S

-- what holds of each rule that stands in a region, at any depth
abbrev pub EachRule : (Rule → Type 0) → List Rule → Type 0
EachRule H [] = Unit {0}
EachRule H (r ∷ rs) = H r × EachRule H rs

abbrev mutual
  pub AllRules : (Rule → Type 0) → Region → Type 0
  AllRules H (region xs ms rs) = EachRule H rs × AllRulesIn H ms

  pub AllRulesIn : (Rule → Type 0) → Regions → Type 0
  AllRulesIn H no_region = Unit {0}
  AllRulesIn H (region_and m ms) = AllRules H m × AllRulesIn H ms

-- what an image has left is what its contexts stand for, as lemmas tell it
abbrev pub LeftTo : Contents → List Context → List Name → Region → Type 0
LeftTo c contexts rule_contexts (region xs ms rs) =
    LeftToContext c contexts xs ms × LeftToRuleContext c rule_contexts rs
