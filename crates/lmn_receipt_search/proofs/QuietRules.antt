-- The rules of a plain, by numbers, are written without a line feed where no name has one.
use Rattle.std.proofs.Common.{ℕ, ◌≡◌, ◌<◌, ◌+◌, inl, inr, List, [], ◌∷◌, All, length, refl, sym, subst, arith}
use Rattle.std.specs.List.{flat_map}
use Rattle.std.proofs.lemmas.Bool.{cases_lt}
use Rattle.std.proofs.lemmas.List.Elements.{All-from_recursion}
use Rattle.lmn_base.specs.declared.rule.Plain.{Plain}
use Rattle.lmn_base.specs.declared.rule.RuleTree.{RuleTree}
use Rattle.lmn_base.specs.declared.solid.Solid.{Solid}
use Rattle.lmn_base.specs.declared.solid.SolidAtom as base_atom
use Rattle.lmn_base.specs.declared.solid.Region as base_region
use Rattle.lmn_base.specs.declared.solid.Region.TheFolds.{fold-roll-Region}
use Rattle.lmn_base.specs.declared.solid.Region.TheViews.{roll-Region}
use Rattle.lmn_base.specs.Names.{HasNames, NamesSolid, label_names}
use Rattle.lmn_base.specs.Solids.{HasEachRule, atoms_step, rules_step}
use Rattle.lmn_base.specs.WellMade.{IsWellMade}
use Rattle.std.proofs.lemmas.List.{get_or_past}
use Rattle.lmn_congruence.specs.Regions.{Region, no_region, region}
use Rattle.lmn_congruence.specs.Rules.{Name}
use Rattle.lmn_congruence.specs.Translation.{no_such_rule, numbered_rule, region_of, region_step, rules_from}
use Rattle.lmn_flatten_plain.specs.NamesHeld.{LevelHeld, RuleHeld}
use Rattle.lmn_flatten_plain.specs.SolidLines.{as_level}
use Rattle.lmn_flatten_plain.proofs.SolidNames.{solid_held}
use Rattle.lmn_receipt_search.specs.Feeds.{NamesWithout}
use Rattle.lmn_receipt_search.proofs.QuietPieces as pieces
use Rattle.lmn_receipt_search.proofs.QuietPieces.{Quiet, held_quiet}
use Rattle.lmn_flatten_plain.specs.Words.{rule_pieces}

module _ (names : List Name) (p : Plain) (s : Solid) (made : IsWellMade p) (named : NamesSolid names p.rules s) where
  -- the solid of one rule alone
  abbrev lone_root : ℕ → base_region.Region
  lone_root k = roll-Region (record { atoms = []; membranes = []; rules = k ∷ [] })

  abbrev lone : ℕ → Solid
  lone k = record { root = lone_root k }

  lone_region : (k : ℕ) → region_of names p.rules (lone k) ≡ region [] no_region (numbered_rule names p.rules k ∷ [])
  lone_region k = fold-roll-Region Region (region_step names (numbered_rule names p.rules)) _

  lone_has : (k : ℕ) → k < length p.rules → HasEachRule p.rules (lone k)
  lone_has k l =
      let P : List ℕ → Type 0 = All (λ j. j < length p.rules) in
      subst P (sym (fold-roll-Region (List ℕ) rules_step _)) (All-from_recursion (λ j. j < length p.rules) (k ∷ []) (l, tt))

  lone_named : (k : ℕ) → NamesSolid names p.rules (lone k)
  lone_named k =
      let P : List base_atom.SolidAtom → Type 0 = λ xs. HasNames names (flat_map (λ a. label_names a.functor.label) xs) in
      (named.0, named.1, subst P (sym (fold-roll-Region (List base_atom.SolidAtom) atoms_step _)) (λ i d l. absurd (omega (arith, l))))

  rule_held : (k : ℕ) → k < length p.rules → RuleHeld names (numbered_rule names p.rules k)
  rule_held k l =
      let P : Region → Type 0 = λ r. LevelHeld names (as_level r) in
      (subst P (lone_region k) (solid_held names p (lone k) made (lone_has k l) (lone_named k))).4.0

  -- a number that no rule has stands for a rule that holds nothing
  many : (k : ℕ) (rs : List RuleTree) → length (rules_from names k rs) ≡ length rs
  many k [] = refl
  many k (r ∷ rs) = let m = many (k + 1) rs in omega (arith, m)

  pub rule_quiet : NamesWithout names → (k : ℕ) → Quiet (rule_pieces (numbered_rule names p.rules k))
  rule_quiet without k = elim (cases_lt k (length p.rules)) [
    | inl l ↦ pieces.rule_quiet names (held_quiet names without) (numbered_rule names p.rules k) (rule_held k l)
    | inr g ↦ (
        let past : numbered_rule names p.rules k ≡ no_such_rule = get_or_past (rules_from names 0 p.rules) k no_such_rule (let m = many 0 p.rules in omega (arith, m, g)) in
        pieces.rule_quiet names (held_quiet names without) (numbered_rule names p.rules k) (subst (RuleHeld names) (sym past) ((tt, tt, tt, tt, tt), tt, (tt, tt, tt, tt, tt)))
        )
  ]
