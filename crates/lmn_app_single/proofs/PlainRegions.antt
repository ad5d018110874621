-- The solids of a plain's top are the region of the plain's solid by numbers, up to the numbers of links.
use Rattle.std.proofs.Common.{ℕ, ◌≡◌, List, sym, ap, ◌∙◌, subst, arith}
use Rattle.std.proofs.lemmas.List.{length-map}
use Rattle.lmn_base.specs.declared.rule.Plain.{Plain}
use Rattle.lmn_base.specs.declared.solid.Solid.{Solid}
use Rattle.lmn_base.specs.Links.{NumbersLinks}
use Rattle.lmn_base.specs.Solids.{item_count}
use Rattle.lmn_base.specs.WellMade.{IsWellMade}
use Rattle.lmn_congruence.specs.Plains.{SolidOf}
use Rattle.lmn_congruence.specs.Regions.{Region, Regions, item_count_of_region, item_count_of_regions, no_region, region, region_and}
use Rattle.lmn_congruence.specs.Rules.{Name}
use Rattle.lmn_congruence.specs.Same.{IsRenamed, renamed_atom, renamed_region, renamed_regions}
use Rattle.lmn_congruence.specs.SolidsOfPlains.{IsSolidOf}
use Rattle.lmn_congruence.specs.Translation.{numbered_rule, top_of}
use Rattle.lmn_congruence.proofs.SolidsOfPlains.{solids_of_plains}
use Rattle.lmn_congruence.proofs.TranslatedItems.{items_kept}
use Rattle.lmn_congruence.proofs.TranslatedLinks.{plains_closed}
use Rattle.lmn_reduction.proofs.OneSolid.{solid_is_one}
use Rattle.lmn_adequacy.specs.Numbered.{IsNumbered}
use Rattle.lmn_adequacy.proofs.Numbering.{numbered_one}
use Rattle.lmn_adequacy.proofs.PlainSolids.{printed, solids_of_plains_exist}
use Rattle.lmn_app_runs.specs.Laws.{solid_of}

-- a renaming of links keeps the number of items
mutual
  renamed_items : (f : ℕ → ℕ) (m : Region) → item_count_of_region (renamed_region f m) ≡ item_count_of_region m
  renamed_items f (region xs ms rs) = omega (arith, length-map xs (renamed_atom f), renamed_items_in f ms)

  renamed_items_in : (f : ℕ → ℕ) (ms : Regions) → item_count_of_regions (renamed_regions f ms) ≡ item_count_of_regions ms
  renamed_items_in f no_region = omega arith
  renamed_items_in f (region_and m ms) = omega (arith, renamed_items f m, renamed_items_in f ms)

module _ (names : List Name) (p : Plain) (well : IsWellMade p) where
  -- a solid of the top is a renaming of the region of a solid by numbers
  by_numbers : (S : Region) → SolidOf (top_of names p) S → (s : Solid) × IsSolidOf p s × IsRenamed (solid_of names p s) S
  by_numbers S of =
      let s = solids_of_plains_exist p well ((plains_closed names p well).1 of.closed_top) in
      (s.0, s.1, solid_is_one (top_of names p) (solid_of names p s.0) S (solids_of_plains names p s.0 well s.1) of)

  -- so it has as many items
  pub solid_with_items : (S : Region) → SolidOf (top_of names p) S → (s : Solid) × IsSolidOf p s × (item_count s ≡ item_count_of_region S)
  solid_with_items S of =
      let s = by_numbers S of in
      (s.0, s.1, sym (items_kept names p.rules s.0) ∙ sym (renamed_items s.2.to (solid_of names p s.0)) ∙ ap item_count_of_region (sym s.2.is))

  -- the links of the region of a solid by numbers are numbered in printed order
  pub region_is_numbered : (s : Solid) → IsSolidOf p s → IsNumbered (solid_of names p s)
  region_is_numbered s i =
      let n = i.is_solid.numbered in
      (n.0, subst (λ ls. NumbersLinks ls n.0) (sym (printed names (numbered_rule names p.rules) s.root)) n.1)

  -- a solid of the top with its links so numbered is the region of a solid by numbers
  pub solid_with_region : (S : Region) → SolidOf (top_of names p) S → IsNumbered S → (s : Solid) × IsSolidOf p s × (S ≡ solid_of names p s)
  solid_with_region S of numbered =
      let s = by_numbers S of in
      (s.0, s.1, sym (numbered_one (solid_of names p s.0) S s.2 (region_is_numbered s.0 s.1) numbered))
