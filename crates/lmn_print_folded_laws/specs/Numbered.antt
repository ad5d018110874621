-- What a text gives of a folded region, with numbers for its links.
use Rattle.std.specs.Prelude.{ℕ, ◌≡◌, ⊤, List, [], map}
use Rattle.std.specs.List.{AllZip}
use Rattle.lmn_base.specs.declared.refusal.Pos.{Pos}
use Rattle.lmn_congruence.specs.Orders.{Among, EachOnce}
use Rattle.lmn_congruence.specs.Process.{Closed}
use Rattle.lmn_congruence.specs.Regions.{SolidAtom, Region, region, Regions, no_region, region_and, region_process}
use Rattle.lmn_print_folded_laws.specs.Reordered.{SameUpToAtomOrder}
use Rattle.lmn_lexer.specs.Laying.{Word}
use Rattle.lmn_flatten_plain.specs.Agreement.{RulesAre}
use Rattle.lmn_flatten_plain.specs.Links.{Link, made}
use Rattle.lmn_flatten_plain.specs.Expanded.{ExpandedLeaf, atom_leaf, typed_leaf, ExpandedLevel, level, ExpandedLevels, no_level, level_and, ExpandedRule, use_links, expanded_links}
use Rattle.lmn_flatten_plain.specs.Plains.{OneToOne}
use Rattle.lmn_print_folded.specs.Terms.{Folded}
use Rattle.lmn_print_folded.specs.Folding.{Folds}
use Rattle.lmn_print_folded.specs.Lines.{IsNumberedForm}
use Rattle.lmn_print_folded_laws.specs.Apart.{FoldedApart}
use Rattle.lmn_congruence.specs.Translation.{rules}

module _ (words : List Word) (places : List Pos) (table : List ExpandedRule) (number : Link → ℕ) where
  abbrev pub AtomNumbered : SolidAtom → ExpandedLeaf → Type 0
  AtomNumbered a (atom_leaf l us pos) = (l ≡ a.label) × (map number (use_links us) ≡ a.links)
  AtomNumbered a (typed_leaf n u pos) = ⊥

  -- The level has the atoms, membranes and rules of the region in their order, and nothing else. A rule is known by its number in
  -- the table.
  abbrev mutual
    pub RegionNumbered : Region → ExpandedLevel → Type 0
    RegionNumbered (region atoms membranes rs) (level leaves inside contexts rule_contexts ks) =
        AllZip AtomNumbered atoms leaves × RegionsNumbered membranes inside × (contexts ≡ []) × (rule_contexts ≡ []) × RulesAre words places table ks (rules rs)

    pub RegionsNumbered : Regions → ExpandedLevels → Type 0
    RegionsNumbered no_region no_level = ⊤
    RegionsNumbered (region_and r rs) (level_and l ls) = RegionNumbered r l × RegionsNumbered rs ls
    RegionsNumbered _ _ = ⊥

-- The folded form of a region, with numbers for its printed links, is taken apart in a text, each term with a link that was made for
-- it. With a number for each link of the text, different ones for different links, this is the region that was folded, up to the
-- order of atoms and the numbers of links.
abbrev pub FoldedTextsAreSame : Type 0
FoldedTextsAreSame = (words : List Word) (places : List Pos) (table : List ExpandedRule) (number : Link → ℕ) (S : Region) (given numbered : Folded) (l : ExpandedLevel) (own : List Link)
    → Closed (region_process S) → Folds (λ x. x) S given → IsNumberedForm given numbered
    → FoldedApart words places table numbered l own → EachOnce own → ((a : Link) → Among a own → (way : List ℕ) × (a ≡ made way))
    → OneToOne number (expanded_links l)
    → (T : Region) × SameUpToAtomOrder S T × Closed (region_process T) × RegionNumbered words places table number T l
