-- The text that the walk writes is the line of the region.
use Rattle.std.proofs.Common.{◌≡◌, ℕ, Bool, true, false, if◌then◌else◌, List, [], ◌∷◌, ◌++◌, map, Option, Some, None, IsSome, refl, sym, ap, ◌∙◌, inl, inr}
use Rattle.std.specs.Prelude.{codes}
use Rattle.std.proofs.lemmas.List.{map-append, append-nil, append_assoc}
use Rattle.lmn_base.specs.declared.rule.RuleTree.{RuleTree}
use Rattle.lmn_base.specs.declared.solid.Region.{Region}
use Rattle.lmn_base.specs.declared.solid.Region.TheFolds.{fold-Region, fold-roll-Region}
use Rattle.lmn_base.specs.declared.solid.Region.TheOpen.{Region-F}
use Rattle.lmn_base.specs.declared.solid.Region.TheViews.{roll-Region}
use Rattle.lmn_base.specs.declared.solid.SolidAtom.{SolidAtom}
use Rattle.lmn_base.specs.declared.solid.Solid.{Solid}
use Rattle.lmn_congruence.specs.Regions as solid
use Rattle.lmn_congruence.specs.Rules as tree
use Rattle.lmn_congruence.specs.Translation.{numbered_rule, region_step, regions, solid_atom_of, rules}
use Rattle.lmn_store_heap.specs.Heap.{Heap, HeapAtom, IsAtom, atoms_in, rules_in}
use Rattle.lmn_store_heap.specs.Solid.{solid_atom_at, solid_atoms_at, regions_of}
use Rattle.lmn_store_heap.specs.Sound.{Forest, bare, mem}
use Rattle.lmn_flatten_plain.specs.SolidLines.{as_level, as_levels, atom_as_leaf, solid_line}
use Rattle.lmn_flatten_plain.specs.Words.{Piece, text_of, with_commas, with_full_stops, leaf_pieces, level_pieces, levels_pieces, rule_pieces, rules_pieces}
use Rattle.lmn_print_plain.specs.Rows.{in_row, any_behind}
use Rattle.lmn_print_plain.specs.Stored.{number_by_mark, solid_atom_text, stored_text, atom_text, atom_texts, rule_texts}
use Rattle.lmn_print_plain.specs.Walks.{Texts, items_text, members, has_atoms, tree_text}
use Rattle.lmn_print_plain.proofs.RowLemmas.{row_append, any_map, comma_row}
use Rattle.lmn_flatten_plain.proofs.LaidLines.{text_append}
use Rattle.lmn_base.specs.Lists.{In}

-- items with full stops are a row, and a full stop behind it where there is one
abbrev pub stop_if : Bool → List ℕ
stop_if any = if any then codes "." else []

rejoin : (t u : List ℕ) (r : List ℕ) → (t ++ (46 ∷ [])) ++ (32 ∷ ((u ++ r) ++ (46 ∷ []))) ≡ (t ++ (46 ∷ (32 ∷ (u ++ r)))) ++ (46 ∷ [])
rejoin t u r = append_assoc t (46 ∷ []) (32 ∷ ((u ++ r) ++ (46 ∷ []))) ∙ sym (append_assoc t (46 ∷ (32 ∷ (u ++ r))) (46 ∷ []))

-- the text of items with full stops is their texts in a row
pub stops_row : (ps : List (List Piece)) → text_of (with_full_stops ps) ≡ in_row (codes ". ") false (map text_of ps) ++ stop_if (any_behind false ps)
stops_row [] = refl
stops_row (p ∷ []) = text_append p _ ∙ ap (λ z. z ++ (46 ∷ [])) (sym (append-nil (text_of p)))
stops_row (p ∷ q ∷ ps) =
    text_append (p ++ _) _
    ∙ ap (λ z. z ++ (32 ∷ text_of (with_full_stops (q ∷ ps)))) (text_append p _)
    ∙ ap (λ z. (text_of p ++ (46 ∷ [])) ++ (32 ∷ z)) (stops_row (q ∷ ps))
    ∙ rejoin (text_of p) (text_of q) (in_row (codes ". ") true (map text_of ps))

-- the texts of the rules of a membrane, by their numbers
pub rules_texts : (names : List tree.Name) (table : List RuleTree) (ks : List ℕ) → map text_of (rules_pieces (rules (map (numbered_rule names table) ks))) ≡ map (λ k. text_of (rule_pieces (numbered_rule names table k))) ks
rules_texts names table [] = refl
rules_texts names table (k ∷ ks) = ap (λ ts. text_of (rule_pieces (numbered_rule names table k)) ∷ ts) (rules_texts names table ks)

-- the items of a membrane in a row are its text
pub row_is : (t : Texts) (b : List ℕ) (m : ℕ) (inside : List (List ℕ)) → in_row b false (t.atoms m ++ (inside ++ t.rules m)) ≡ items_text t b m inside
row_is t b m inside =
    row_append b false (t.atoms m) (inside ++ t.rules m)
    ∙ ap (λ x. in_row b false (t.atoms m) ++ x) (row_append b (has_atoms t m) inside (t.rules m))

module _ (names : List tree.Name) (table : List RuleTree) (s : Heap) (all : (m a : ℕ) → In a (atoms_in s m) → IsAtom s a) where
  abbrev texts : Texts
  texts = record { atoms = atom_texts names s; rules = rule_texts names table s }

  abbrev name : ℕ → ℕ → ℕ
  name = number_by_mark s

  abbrev rule : ℕ → tree.Rule
  rule = numbered_rule names table

  abbrev reg : Region → solid.Region
  reg = fold-Region solid.Region (region_step names rule)

  -- the atoms of a list
  one_text : (a : ℕ) (o : Option HeapAtom) (rest : List SolidAtom) → IsSome o → map (solid_atom_text names) (solid_atom_at name a o ++ rest) ≡ stored_text names name a o ∷ map (solid_atom_text names) rest
  one_text a None rest i = absurd (cc i)
  one_text a (Some x) rest i = refl

  list_texts : (xs : List ℕ) → ((a : ℕ) → In a xs → IsAtom s a) → map (solid_atom_text names) (solid_atoms_at s name xs) ≡ map (atom_text names s) xs
  list_texts [] h = refl
  list_texts (a ∷ xs) h =
      one_text a (s.atoms a) (solid_atoms_at s name xs) (h a (inl refl)) ∙ ap (λ ts. atom_text names s a ∷ ts) (list_texts xs (λ b i. h b (inr i)))

  leaves_texts : (xs : List SolidAtom) → map text_of (map leaf_pieces (map atom_as_leaf (map (solid_atom_of names) xs))) ≡ map (solid_atom_text names) xs
  leaves_texts [] = refl
  leaves_texts (x ∷ xs) = ap (λ ts. solid_atom_text names x ∷ ts) (leaves_texts xs)

  -- what stands in a membrane, list by list
  level_texts : (m : ℕ) (rs : List Region) (inside : List (List ℕ)) → map text_of (levels_pieces (as_levels (regions (map reg rs)))) ≡ inside
      → map text_of (level_pieces (as_level (reg (roll-Region (record { atoms = solid_atoms_at s name (atoms_in s m); membranes = rs; rules = rules_in s m })))))
      ≡ texts.atoms m ++ (inside ++ texts.rules m)
  level_texts m rs inside e =
      let z : Region-F Region = record { atoms = solid_atoms_at s name (atoms_in s m); membranes = rs; rules = rules_in s m } in
      let ls = map leaf_pieces (map atom_as_leaf (map (solid_atom_of names) z.atoms)) in
      let ms = levels_pieces (as_levels (regions (map reg rs))) in
      let ks = rules_pieces (rules (map rule z.rules)) in
      ap (λ r. map text_of (level_pieces (as_level r))) (fold-roll-Region solid.Region (region_step names rule) z)
      ∙ map-append text_of ls (ms ++ ks)
      ∙ ap (λ x. x ++ map text_of (ms ++ ks)) (leaves_texts z.atoms ∙ list_texts (atoms_in s m) (all m))
      ∙ ap (λ x. texts.atoms m ++ x) (map-append text_of ms ks ∙ ap (λ x. x ++ map text_of ks) e ∙ ap (λ x. inside ++ x) (rules_texts names table z.rules))

  -- the membranes of a forest
  forest_texts : (f : Forest) → map text_of (levels_pieces (as_levels (regions (map reg (regions_of s name f))))) ≡ members texts f
  forest_texts bare = refl
  forest_texts (mem m i r) =
      let here = reg (roll-Region (record { atoms = solid_atoms_at s name (atoms_in s m); membranes = regions_of s name i; rules = rules_in s m })) in
      let ps = level_pieces (as_level here) in
      let inside : text_of (with_commas ps) ≡ items_text texts (codes ", ") m (members texts i) =
      comma_row ps ∙ ap (in_row (codes ", ") false) (level_texts m (regions_of s name i) (members texts i) (forest_texts i)) ∙ row_is texts (codes ", ") m (members texts i) in
      ap (λ t. (123 ∷ t) ∷ map text_of (levels_pieces (as_levels (regions (map reg (regions_of s name r)))))) (text_append (with_commas ps) _ ∙ ap (λ t. t ++ (125 ∷ [])) inside)
      ∙ ap (λ ts. (codes "{" ++ (items_text texts (codes ", ") m (members texts i) ++ codes "}")) ∷ ts) (forest_texts r)

  any_texts : (ps : List (List Piece)) → any_behind false (map text_of ps) ≡ any_behind false ps
  any_texts ps = any_map text_of false ps

  -- the line of the solid, where the tree of the root is known
  pub line_is : (x : Solid) (m : ℕ) (i : Forest) → regions_of s name (mem m i bare) ≡ x.root ∷ []
      → solid_line names table x ≡ (tree_text texts (mem m i bare) ++ stop_if (any_behind false (texts.atoms m ++ (members texts i ++ texts.rules m)))) ++ codes "\n"
  line_is x m i e =
      let z = roll-Region (record { atoms = solid_atoms_at s name (atoms_in s m); membranes = regions_of s name i; rules = rules_in s m }) in
      let is : z ≡ x.root = (let w : z ∷ [] ≡ x.root ∷ [] = e in cc) in
      let ps = level_pieces (as_level (reg z)) in
      let ts = level_texts m (regions_of s name i) (members texts i) (forest_texts i) in
      ap (λ r. text_of (with_full_stops (level_pieces (as_level (reg r)))) ++ codes "\n") (sym is)
      ∙ ap (λ t. t ++ codes "\n") (stops_row ps
      ∙ ap (λ z. in_row (codes ". ") false (map text_of ps) ++ stop_if z) (sym (any_texts ps))
      ∙ ap (λ us. in_row (codes ". ") false us ++ stop_if (any_behind false us)) ts
      ∙ ap (λ t. t ++ stop_if (any_behind false (texts.atoms m ++ (members texts i ++ texts.rules m)))) (row_is texts (codes ". ") m (members texts i)))
