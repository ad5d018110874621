-- A head that lies in the region of a heap, with what its contexts stand for, by numbers.
use Rattle.std.proofs.Common.{ℕ, ◌≡◌, ◌⊎◌, List, [], ◌∷◌, ◌++◌, map, refl, sym, ap, subst, ◌∙◌, inl, inr}
use Rattle.lmn_store_heap.specs.Heap.{Heap, atoms_in, rules_in}
use Rattle.lmn_store_heap.specs.Lists.{Distinct, without_all}
use Rattle.lmn_store_heap.specs.Sound.{Forest, bare, mem, Forms, Valid}
use Rattle.lmn_store_heap.proofs.ListLemmas.{in_left, in_right}
use Rattle.lmn_congruence.specs.Orders.{Among, at_head, further}
use Rattle.lmn_congruence.specs.Regions.{SolidAtom, Region, Regions, region, region_process}
use Rattle.lmn_congruence.specs.Rules.{Context, Leaf, Level, Levels, Name, Rule, level}
use Rattle.lmn_congruence.specs.UpToOrder.{Reordered}
use Rattle.lmn_reduction.specs.Assignments.{Assignment}
use Rattle.lmn_reduction.specs.Parts.{Rooted}
use Rattle.lmn_adequacy.specs.Accepted.{own_contexts, own_rule_contexts}
use Rattle.lmn_adequacy.specs.Embedding.{KeepsLinks, Contents, assignment_of, LeftTo, LeftToContext, LeftToRuleContext, no_context, one_context, no_rule_context, one_rule_context}
use Rattle.lmn_adequacy.specs.Loose.{LevelImages, level_images, MembraneImages, no_membrane_image, membrane_image_and, filling, EachLeft, EachLeftIn}
use Rattle.lmn_adequacy_heaps.specs.HeapRegions.{HeapReading, regions_at}
use Rattle.lmn_adequacy_heaps.proofs.Counting.{list_atoms}
use Rattle.lmn_adequacy_heaps.proofs.Forests.{tops, Grown}
use Rattle.lmn_adequacy_heaps.proofs.Lying.{Kept, Lies, lies, LiesIn, lies_none, lies_and, rest_at}
use Rattle.lmn_adequacy_heaps.proofs.PartsOut.{PartsOut, parts_none, parts_atom, parts_typed, find_parts, flattened, merged_either}
use Rattle.lmn_adequacy_heaps.proofs.Pieces.{atom_at, atoms_each}
use Rattle.lmn_adequacy_heaps.proofs.Read.{find_leaves, find_tree}
use Rattle.lmn_adequacy_turns.proofs.Sublists.{Sublist, sub_itself, sub_then, sub_merged, sub_tree}
use Rattle.lmn_base.specs.Lists.{In}

module _ (h : Heap) (v : Valid h) (r : HeapReading) (c : Contents) where
  abbrev t : Assignment
  t = assignment_of c

  -- what the calculus asks of a membrane, and what its contexts stand for
  abbrev pub Held : Level → ℕ → List ℕ → Forest → Forest → Type 0
  Held l m xs i i' = Kept h r (assignment_of c) l m xs i i' × LeftTo c (own_contexts l) (own_rule_contexts l) (rest_at h r m xs i')

  -- a level in a region lies in lists of the heap
  pub record HeldLevel (l : Level) (ns xs : List ℕ) (f : Forest) (rs : List Rule) (rest : Region) : Type 0 where
    pub atoms : List ℕ
    pub parts : List (List ℕ)
    pub membranes : List ℕ
    pub left_atoms : List ℕ
    pub left_forest : Forest
    pub lying : Lies h r c.link_of c.typed_of Held l atoms parts membranes ns xs left_atoms f left_forest
    pub is : rest ≡ region (map (atom_at h r) left_atoms) (regions_at h r left_forest) rs

  -- membranes in a region lie in a forest of the heap
  pub record HeldMembranes (ls : Levels) (ns : List ℕ) (f : Forest) (rest : Regions) : Type 0 where
    pub atoms : List ℕ
    pub parts : List (List ℕ)
    pub membranes : List ℕ
    pub left_forest : Forest
    pub lying : LiesIn h r c.link_of c.typed_of Held ls atoms parts membranes ns f left_forest
    pub is : rest ≡ regions_at h r left_forest

  abbrev atoms_by : Region → List SolidAtom
  atoms_by (region xs ms rs) = xs

  abbrev membranes_by : Region → Regions
  membranes_by (region xs ms rs) = ms

  abbrev rules_by : Region → List Rule
  rules_by (region xs ms rs) = rs

  mutual
    -- what lies in the region of a heap lies in its lists
    pub held_level : {l : Level} {ns : List ℕ} {M rest : Region} (xs : List ℕ) (f : Forest) (rs : List Rule) → Distinct xs → (i : LevelImages (assignment_of c) l ns M rest) → EachLeft c i →
        M ≡ region (map (atom_at h r) xs) (regions_at h r f) rs → HeldLevel l ns xs f rs rest
    held_level xs f rs d (level_images {leaves = leaves} {membranes = membranes} {contexts = contexts} {rule_contexts = rule_contexts} {rules = rules} {ns' = ns'} i j k) left e =
        let u = find_leaves (atom_at h r) t xs d i (ap atoms_by e) in
        let w = find_parts (atom_at h r) t (without_all u.images xs) j u.others in
        let z = held_membranes f k left (ap membranes_by e) in
        record {
          atoms = u.images ++ z.atoms;
          parts = w.parts ++ z.parts;
          membranes = z.membranes;
          left_atoms = w.left_over;
          left_forest = z.left_forest;
          lying = subst (λ ms. Lies h r c.link_of c.typed_of Held (level leaves membranes contexts rule_contexts rules) (u.images ++ z.atoms) (w.parts ++ z.parts) z.membranes (ms ++ ns') xs w.left_over f z.left_forest)
              (sym u.places) (lies u.fit u.distinct u.among w.out z.lying);
          is = λ j. region (w.is j) (z.is j) (ap rules_by e j);
        }

    held_membranes : {ls : Levels} {ns : List ℕ} {ms rest : Regions} (f : Forest) → (i : MembraneImages (assignment_of c) ls ns ms rest) → EachLeftIn c i → ms ≡ regions_at h r f → HeldMembranes ls ns f rest
    held_membranes f no_membrane_image left e = record { atoms = []; parts = []; membranes = []; left_forest = f; lying = lies_none; is = e }
    held_membranes f (membrane_image_and {leaves = leaves} {membranes = membranes} {contexts = contexts} {rule_contexts = rule_contexts} {rules = rules} k d keeps fill more') left e =
        let u = find_tree h r f k e in
        let at = u.is ∙ (λ j. region (atoms_each h r (atoms_in h u.number) (list_atoms h v u.number) j) (regions_at h r u.inner) (map r.rule (rules_in h u.number))) in
        let w = held_level (atoms_in h u.number) u.inner (map r.rule (rules_in h u.number)) (v.sound.listed.atoms_once u.number) d left.1 at in
        let z = held_membranes u.others more' left.2 u.is_rest in
        record {
          atoms = w.atoms ++ z.atoms;
          parts = w.parts ++ z.parts;
          membranes = u.number ∷ (w.membranes ++ z.membranes);
          left_forest = z.left_forest;
          lying = lies_and u.taken w.lying (
            (
              subst (KeepsLinks t (level leaves membranes contexts rule_contexts rules)) u.is keeps,
              subst (λ R. Reordered (filling t contexts rule_contexts rules) (region_process R)) w.is fill,
            ),
            subst (LeftTo c contexts rule_contexts) w.is left.0,
          ) z.lying;
          is = z.is;
        }

  mutual
    -- without what contexts stand for
    pub lies_kept : {l : Level} {bs ms ns xs rest : List ℕ} {ps : List (List ℕ)} {f f' : Forest} → Lies h r c.link_of c.typed_of Held l bs ps ms ns xs rest f f' → Lies h r c.link_of c.typed_of (Kept h r (assignment_of c)) l bs ps ms ns xs rest f f'
    lies_kept (lies fit d e out k) = lies fit d e out (lies_kept_in k)

    lies_kept_in : {ls : Levels} {bs ms ns : List ℕ} {ps : List (List ℕ)} {f f' : Forest} → LiesIn h r c.link_of c.typed_of Held ls bs ps ms ns f f' → LiesIn h r c.link_of c.typed_of (Kept h r (assignment_of c)) ls bs ps ms ns f f'
    lies_kept_in lies_none = lies_none
    lies_kept_in (lies_and k d q later) = lies_and k (lies_kept d) q.0 (lies_kept_in later)

-- ---- what contexts stand for

-- what is left to a context is what it stands for
pub context_is : (c : Contents) {ps : List Context} {xs : List SolidAtom} {ms : Regions} → LeftToContext c ps xs ms → {p : Context} → Among p ps → (c.atoms_of p ≡ xs) × (c.membranes_of p ≡ ms)
context_is c no_context k = elim k [ ]
context_is c one_context at_head = (refl, refl)
context_is c one_context (further k) = elim k [ ]

-- and so are the rules of a rule context
pub rule_context_is : (c : Contents) {ps : List Name} {rs : List Rule} → LeftToRuleContext c ps rs → {p : Name} → Among p ps → c.rules_of p ≡ rs
rule_context_is c no_rule_context k = elim k [ ]
rule_context_is c one_rule_context at_head = refl
rule_context_is c one_rule_context (further k) = elim k [ ]

-- ---- what is left, in its order

-- what parts leave is part of the list, in its order
pub parts_sub : {g : ℕ → SolidAtom} {link_of : ℕ → ℕ} {typed_of : Name → Rooted} {ls : List Leaf} {parts : List (List ℕ)} {xs rest : List ℕ} → PartsOut g link_of typed_of ls parts xs rest → Sublist rest xs
parts_sub (parts_none {xs = xs}) = sub_itself xs
parts_sub (parts_atom p) = parts_sub p
parts_sub (parts_typed ground is m p) = sub_then (parts_sub p) (sub_merged m)

-- an atom is in a part or left
pub parts_or_left : {g : ℕ → SolidAtom} {link_of : ℕ → ℕ} {typed_of : Name → Rooted} {ls : List Leaf} {parts : List (List ℕ)} {xs rest : List ℕ} → PartsOut g link_of typed_of ls parts xs rest → (a : ℕ) → In a xs → In a (flattened parts) ⊎ In a rest
parts_or_left parts_none a i = inr i
parts_or_left (parts_atom p) a i = parts_or_left p a i
parts_or_left (parts_typed {parts = parts} {part = part} ground is m p) a i = elim (merged_either m a i) [
  | inl j ↦ inl (in_left a part (flattened parts) j)
  | inr j ↦ elim (parts_or_left p a j) [ inl k ↦ inl (in_right a part (flattened parts) k) | inr k ↦ inr k ]
]

-- what images leave of a forest is part of it, in its order
pub tops_sub : {h : Heap} {r : HeapReading} {link_of : ℕ → ℕ} {typed_of : Name → Rooted} {Q : Level → ℕ → List ℕ → Forest → Forest → Type 0} {ls : Levels} {bs ms ns : List ℕ} {ps : List (List ℕ)} {f f' : Forest} → LiesIn h r link_of typed_of Q ls bs ps ms ns f f' → Sublist (tops f') (tops f)
tops_sub (lies_none {f = f}) = sub_itself (tops f)
tops_sub (lies_and k d q later) = sub_then (tops_sub later) (sub_tree k)

-- a grown forest is that of its first membranes
pub grown_forms : (h : Heap) (f : Forest) → Grown h f → Forms h f (tops f)
grown_forms h bare g = refl
grown_forms h (mem m i f) g = (tops f, refl, subst (Forms h i) g.0.0 (grown_forms h i g.0.1), grown_forms h f g.1)
