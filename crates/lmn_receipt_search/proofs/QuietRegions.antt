-- Solids whose labels and rules are written without a line feed: their lines have one, the last byte.
use Rattle.std.proofs.Common.{ℕ, ◌≡◌, ◌≢◌, ◌∙◌, ◌+◌, ◌≤◌, inl, inr, List, [], ◌∷◌, ◌++◌, map, length, codes, refl, sym, ap, subst, arith, append_assoc, length-append}
use Rattle.std.specs.List.{AllByRecursion}
use Rattle.std.proofs.lemmas.Bool.{cases_lt}
use Rattle.std.proofs.lemmas.List.{get_or_past}
use Rattle.std.proofs.lemmas.Option.{slice_get-get_or}
use Rattle.lmn_base.specs.declared.functor.Label.{Label}
use Rattle.lmn_base.specs.declared.functor.Label.TheVariants as label
use Rattle.lmn_base.specs.declared.rule.RuleTree.{RuleTree}
use Rattle.lmn_base.specs.declared.solid.Region as base_region
use Rattle.lmn_base.specs.declared.solid.Region.TheFolds.{fold-roll-Region, ind-Region}
use Rattle.lmn_base.specs.declared.solid.SolidAtom as base_atom
use Rattle.lmn_base.proofs.Lists.{all_append}
use Rattle.lmn_congruence.specs.Plains.{SolidOf, fused_leaves, fused_level, fused_levels}
use Rattle.lmn_congruence.specs.Regions.{Region, Regions, SolidAtom, item_count_of_region, no_region, region, region_and}
use Rattle.lmn_congruence.specs.Rules.{Leaf, Level, Levels, Name, Rule, atom_leaf, connector_leaf, level, level_and, no_level, typed_leaf}
use Rattle.lmn_congruence.specs.Same.{renamed_atom, renamed_region, renamed_regions}
use Rattle.lmn_congruence.specs.Translation.{label_of, name_of, numbered_region, numbered_rule, region_step, regions, rules as listed_rules, solid_atom_of}
use Rattle.lmn_lexer.specs.declared.token.Kind.TheVariants as kind
use Rattle.lmn_flatten_plain.specs.SolidLines.{as_level, as_levels, atom_as_leaf}
use Rattle.lmn_flatten_plain.specs.Words.{Piece, label_piece, leaf_pieces, level_pieces, levels_pieces, links_pieces, piece_text, rule_pieces, rules_pieces, space, text_of, top_pieces, with_commas, word}
use Rattle.lmn_solid_firing.specs.Spelled.{Spells}
use Rattle.lmn_solid_settle.specs.Raw.{RawRegion, settled}
use Rattle.lmn_receipt_chain.specs.Bytes.{NoFeed}
use Rattle.lmn_receipt_chain.specs.Chains.{line_of_solid}
use Rattle.lmn_receipt_chain.proofs.LineItems.{items_in_line}
use Rattle.lmn_receipt_search.specs.Feeds.{AreQuiet, IsQuiet, NamesWithout}
use Rattle.lmn_receipt_search.proofs.QuietPieces.{Quiet, both, commas, integer_quiet, joined, links_quiet, name_quiet, unfed, word_first}

-- its label is written without one
abbrev Atom : SolidAtom → Type 0
Atom x = NoFeed (piece_text (label_piece x.label))

-- ---- a renaming changes neither labels nor rules

renamed_atoms : (f : ℕ → ℕ) (xs : List SolidAtom) → AllByRecursion Atom xs → AllByRecursion Atom (map (renamed_atom f) xs)
renamed_atoms f [] h = tt
renamed_atoms f (x ∷ xs) h = (h.0, renamed_atoms f xs h.1)

mutual
  pub renamed_quiet : (f : ℕ → ℕ) (S : Region) → IsQuiet S → IsQuiet (renamed_region f S)
  renamed_quiet f (region xs ms rs) h = (renamed_atoms f xs h.0, renamed_quiet_in f ms h.1, h.2)

  renamed_quiet_in : (f : ℕ → ℕ) (ms : Regions) → AreQuiet ms → AreQuiet (renamed_regions f ms)
  renamed_quiet_in f no_region h = tt
  renamed_quiet_in f (region_and m ms) h = (renamed_quiet f m h.0, renamed_quiet_in f ms h.1)

-- nor do links at their images
fused_atoms : (f g : ℕ → ℕ) (ls : List Leaf) → AllByRecursion Atom (fused_leaves f ls) → AllByRecursion Atom (fused_leaves g ls)
fused_atoms f g [] h = tt
fused_atoms f g (atom_leaf a xs ∷ ls) h = (h.0, fused_atoms f g ls h.1)
fused_atoms f g (connector_leaf x y ∷ ls) h = fused_atoms f g ls h
fused_atoms f g (typed_leaf p x ∷ ls) h = fused_atoms f g ls h

mutual
  fused_quiet : (f g : ℕ → ℕ) (L : Level) → IsQuiet (fused_level f L) → IsQuiet (fused_level g L)
  fused_quiet f g (level leaves membranes contexts rule_contexts rules) h = (fused_atoms f g leaves h.0, fused_quiet_in f g membranes h.1, h.2)

  fused_quiet_in : (f g : ℕ → ℕ) (ls : Levels) → AreQuiet (fused_levels f ls) → AreQuiet (fused_levels g ls)
  fused_quiet_in f g no_level h = tt
  fused_quiet_in f g (level_and l ls) h = (fused_quiet f g l h.0, fused_quiet_in f g ls h.1)

-- ---- what is written by numbers

module _ (names : List Name) (table : List RuleTree) (without : NamesWithout names) (rules : (k : ℕ) → Quiet (rule_pieces (numbered_rule names table k))) where
  -- a number that no name has stands for the empty name
  name_without : (n : ℕ) → NoFeed (name_of names n)
  name_without n = elim (cases_lt n (length names)) [
    | inl l ↦ without n (name_of names n) (slice_get-get_or names n [] l)
    | inr g ↦ subst NoFeed (sym (get_or_past names n [] g)) tt
  ]

  label_quiet : (l : Label) → NoFeed (piece_text (label_piece (label_of names l)))
  label_quiet (label.Name n) = name_quiet (name_of names n) (name_without n)
  label_quiet (label.Int z) = integer_quiet z

  atoms_quiet : (xs : List base_atom.SolidAtom) → AllByRecursion Atom (map (solid_atom_of names) xs)
  atoms_quiet [] = tt
  atoms_quiet (x ∷ xs) = (label_quiet x.functor.label, atoms_quiet xs)

  numbers_quiet : (ks : List ℕ) → AllByRecursion (λ (r : Rule). Quiet (rule_pieces r)) (map (numbered_rule names table) ks)
  numbers_quiet [] = tt
  numbers_quiet (k ∷ ks) = (rules k, numbers_quiet ks)

  abbrev One : base_region.Region → Type 0
  One r = IsQuiet (numbered_region names (numbered_rule names table) r)

  inner_quiet : (rs : List ((r : base_region.Region) × One r)) → AreQuiet (regions (map (numbered_region names (numbered_rule names table)) (map (λ e. e.0) rs)))
  inner_quiet [] = tt
  inner_quiet (e ∷ rs) = (e.1, inner_quiet rs)

  region_quiet : (r : base_region.Region) → One r
  region_quiet = ind-Region One (λ y z is.
      let inside = subst (λ r. AreQuiet (regions (map (numbered_region names (numbered_rule names table)) r.membranes))) is (inner_quiet z.membranes) in
      rw (fold-roll-Region Region (region_step names (numbered_rule names table)) y) (atoms_quiet y.atoms, inside, numbers_quiet y.rules))

  -- so the solid of a level that numbers spell
  pub spelled_quiet : (L : Level) (r : RawRegion) (pairs : List (ℕ × ℕ)) (n : ℕ) → Spells names table L r pairs n → (S : Region) → SolidOf L S → IsQuiet S
  spelled_quiet L r pairs n spells S of =
      subst IsQuiet (sym of.is) (fused_quiet (λ x. x) of.to L (subst IsQuiet spells.level (region_quiet (settled spells.from r))))

-- ---- lines

leaf_written : (x : SolidAtom) → Atom x → Quiet (leaf_pieces (atom_as_leaf x))
leaf_written x h = all_append (λ b. b ≢ 10) (piece_text (label_piece x.label)) (text_of (links_pieces x.links)) h (links_quiet x.links)

leaves_written : (xs : List SolidAtom) → AllByRecursion Atom xs → AllByRecursion Quiet (map leaf_pieces (map atom_as_leaf xs))
leaves_written [] h = tt
leaves_written (x ∷ xs) h = (leaf_written x h.0, leaves_written xs h.1)

rules_written : (rs : List Rule) → AllByRecursion (λ (r : Rule). Quiet (rule_pieces r)) rs → AllByRecursion Quiet (rules_pieces (listed_rules rs))
rules_written [] h = tt
rules_written (r ∷ rs) h = (h.0, rules_written rs h.1)

mutual
  items_written : (S : Region) → IsQuiet S → AllByRecursion Quiet (level_pieces (as_level S))
  items_written (region xs ms rs) h =
      all_append Quiet (map leaf_pieces (map atom_as_leaf xs)) (levels_pieces (as_levels ms) ++ rules_pieces (listed_rules rs)) (leaves_written xs h.0)
      (all_append Quiet (levels_pieces (as_levels ms)) (rules_pieces (listed_rules rs)) (membranes_written ms h.1) (rules_written rs h.2))

  membranes_written : (ms : Regions) → AreQuiet ms → AllByRecursion Quiet (levels_pieces (as_levels ms))
  membranes_written no_region h = tt
  membranes_written (region_and m ms) h = (
    word_first kind.LBrace (codes "{") (with_commas (level_pieces (as_level m)) ++ word kind.RBrace (codes "}") ∷ []) (unfed (codes "{") refl)
        (both (with_commas (level_pieces (as_level m))) (word kind.RBrace (codes "}") ∷ []) (commas (level_pieces (as_level m)) (items_written m h.0)) (word_first kind.RBrace (codes "}") [] (unfed (codes "}") refl) tt)),
    membranes_written ms h.1,
  )

stops : (pss : List (List Piece)) → AllByRecursion Quiet pss → AllByRecursion Quiet (map (λ i. i ++ word kind.Dot (codes ".") ∷ []) pss)
stops [] h = tt
stops (p ∷ ps) h = (both p (word kind.Dot (codes ".") ∷ []) h.0 (word_first kind.Dot (codes ".") [] (unfed (codes ".") refl) tt), stops ps h.1)

-- the line of such a solid has a line feed at its end alone
pub line_written : (S : Region) → IsQuiet S → NoFeed (text_of (top_pieces (as_level S)))
line_written S h = joined (space ∷ []) (unfed (codes " ") refl) (map (λ i. i ++ word kind.Dot (codes ".") ∷ []) (level_pieces (as_level S))) (stops (level_pieces (as_level S)) (items_written S h))

-- So where a text begins with it the first line of the text is it, and it has no more items than that line has bytes.
pub items_in_first_line : (S : Region) → IsQuiet S → (text more : List ℕ) → text ≡ line_of_solid S ++ more → (len : ℕ) → ((line rest : List ℕ) → NoFeed line → text ≡ line ++ (10 ∷ rest) → len ≡ length line + 1) → item_count_of_region S ≤ len
items_in_first_line S h text more is len first =
    let line = text_of (top_pieces (as_level S)) in
    let l = first line more (line_written S h) (is ∙ append_assoc line (codes "\n") more) in
    omega (arith, l, items_in_line S, length-append line (codes "\n"))

-- it has no more items than the text has bytes
pub items_in_text : (S : Region) (text more : List ℕ) → text ≡ line_of_solid S ++ more → item_count_of_region S ≤ length text
items_in_text S text more is = omega (arith, items_in_line S, ap length is ∙ length-append (line_of_solid S) more)
