-- The regions of solids, their processes and their items.
use Rattle.std.specs.Prelude.{ℕ, ◌+◌, List, [], ◌∷◌, map, length}
use Rattle.lmn_congruence.specs.Process.{Process, atom, pair, membrane, rule, together}
use Rattle.lmn_congruence.specs.Rules.{Label, Rule}

-- The content of a membrane of a solid, or of its root: atoms with their links, membranes and rules, in order.
-- A solid has each link in exactly two places: `Closed` of its process. It has no connector, and no atom that
-- is named `=` and has two links: the type allows such an atom, and no text and no firing makes one.
pub record SolidAtom : Type 0 where
  pub label : Label
  pub links : List ℕ

mutual
  pub data Region : Type 0 where
    region : List SolidAtom → Regions → List Rule → Region

  pub data Regions : Type 0 where
    no_region : Regions
    region_and : Region → Regions → Regions

-- the process of a region: the parallel pair of its items
abbrev mutual
  pub region_process : Region → Process
  region_process (region atoms membranes rules) =
      pair (together (map (λ (a : SolidAtom). atom a.label a.links) atoms))
      (pair (together (regions_processes membranes)) (together (map rule rules)))

  pub regions_processes : Regions → List Process
  regions_processes no_region = []
  regions_processes (region_and r rs) = membrane (region_process r) ∷ regions_processes rs

-- The items of a region: its atoms, membranes and rules, at every depth. At the root, which isn't counted
-- itself, these are the items of the whole solid.
abbrev mutual
  -- How many items a region has: its atoms, membranes and rules, at every depth. Of the root, which isn't counted
  -- itself, these are the items of the whole solid. # it stands above the mutual block
  pub item_count_of_region : Region → ℕ
  item_count_of_region (region atoms membranes rules) = length atoms + item_count_of_regions membranes + length rules

  pub item_count_of_regions : Regions → ℕ
  item_count_of_regions no_region = 0
  item_count_of_regions (region_and r rs) = 1 + item_count_of_region r + item_count_of_regions rs

-- an atom with this label and these links
abbrev pub solid_atom_with : Label → List ℕ → SolidAtom
solid_atom_with l xs = record { label = l; links = xs }

-- an atom of a region as a process, as lemmas tell it
abbrev pub atom_process : SolidAtom → Process
atom_process a = atom a.label a.links
