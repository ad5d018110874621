-- What a text gives of a folded process, beside the region that was folded: the same atoms, with other names for the links.
use Rattle.std.specs.Prelude.{ℕ, ◌≡◌, ◌≢◌, ⊤, List, map}
use Rattle.std.specs.List.{AllZip}
use Rattle.lmn_base.specs.declared.refusal.Pos.{Pos}
use Rattle.lmn_congruence.specs.Orders.{Among, EachOnce}
use Rattle.lmn_congruence.specs.Process.{Closed, occurrences}
use Rattle.lmn_congruence.specs.Regions.{SolidAtom, Region, region, Regions, no_region, region_and, region_process}
use Rattle.lmn_lexer.specs.Laying.{Word}
use Rattle.lmn_flatten_plain.specs.Links.{Link, made}
use Rattle.lmn_flatten_plain.specs.Expanded.{ExpandedLeaf, atom_leaf, typed_leaf, ExpandedLevel, level, ExpandedLevels, no_level, level_and, ExpandedRule, use_links}
use Rattle.lmn_print_folded.specs.Terms.{Folded}
use Rattle.lmn_print_folded.specs.Lines.{IsNumberedForm}
use Rattle.lmn_print_folded_laws.specs.Apart.{FoldedApart}
use Rattle.lmn_print_folded_laws.specs.Whole.{FoldedWhole}

module _ (name : ℕ → Link) where
  abbrev pub AtomNamed : SolidAtom → ExpandedLeaf → Type 0
  AtomNamed a (atom_leaf l us pos) = (l ≡ a.label) × (use_links us ≡ map name a.links)
  AtomNamed a (typed_leaf n u pos) = ⊥

  -- the same atoms in each membrane, with these names for the links
  abbrev mutual
    pub RegionNamed : Region → ExpandedLevel → Type 0
    RegionNamed (region atoms membranes rs) (level leaves inside contexts rule_contexts ks) = AllZip AtomNamed atoms leaves × RegionsNamed membranes inside

    pub RegionsNamed : Regions → ExpandedLevels → Type 0
    RegionsNamed no_region no_level = ⊤
    RegionsNamed (region_and r rs) (level_and l ls) = RegionNamed r l × RegionsNamed rs ls
    RegionsNamed _ _ = ⊥

-- different links of the region have different names
abbrev pub OneToOneNames : (ℕ → Link) → Region → Type 0
OneToOneNames name T = (x y : ℕ) → occurrences x (region_process T) ≢ 0 → occurrences y (region_process T) ≢ 0 → name x ≡ name y → x ≡ y

-- A folded form taken apart is a region, and with numbers for its printed links it is taken apart in a text too, each term with a
-- link that was made for it. Then the text has the atoms of that region, with other names for the links.
abbrev pub FoldedLinksAreNamed : Type 0
FoldedLinksAreNamed = (words : List Word) (places : List Pos) (table : List ExpandedRule) (given numbered : Folded) (T : Region) (l : ExpandedLevel) (own : List Link)
    → Closed (region_process T) → FoldedWhole given T → IsNumberedForm given numbered
    → FoldedApart words places table numbered l own → EachOnce own → ((a : Link) → Among a own → (way : List ℕ) × (a ≡ made way))
    → (name : ℕ → Link) × OneToOneNames name T × RegionNamed name T l
