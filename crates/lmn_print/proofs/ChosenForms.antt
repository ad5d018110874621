-- Where the items of each membrane are chosen, what is printed is the folded form of the solid.
use Rattle.std.proofs.Common.{◌≡◌, ℕ, List, map, inl, inr, refl, sym, ap, subst}
use Rattle.std.proofs.lemmas.List.{append-nil}
use Rattle.lmn_base.specs.Links.{NumbersLinks}
use Rattle.lmn_base.specs.declared.rule.RuleTree.{RuleTree}
use Rattle.lmn_base.specs.declared.solid.Region.{Region}
use Rattle.lmn_base.specs.declared.solid.Region.TheFolds.{fold-Region, fold-roll-Region}
use Rattle.lmn_base.specs.declared.solid.Region.TheOpen.{Region-F}
use Rattle.lmn_base.specs.declared.solid.Solid.{Solid}
use Rattle.lmn_congruence.specs.Orders.{Among}
use Rattle.lmn_congruence.specs.Regions as solid
use Rattle.lmn_congruence.specs.Rules.{Name}
use Rattle.lmn_congruence.specs.Translation.{numbered_rule, region_of, region_step, regions}
use Rattle.lmn_congruence.proofs.TranslatedLinks.{solids_closed}
use Rattle.lmn_print_folded.specs.Folding as folding
use Rattle.lmn_print_folded.specs.Folding.{Folds, folds, FoldsAll}
use Rattle.lmn_print_folded.specs.Lines.{IsFoldedLine}
use Rattle.lmn_print_folded.specs.Terms.{Folded, folded, FoldedMembranes, no_membrane, membrane_and, folded_links, membranes_links, renamed_folded}
use Rattle.lmn_print_folded.specs.Words.{line_of_folded}
use Rattle.lmn_print_folded.proofs.FoldedLines.{folded_line, one_folded_line}
use Rattle.lmn_store_heap.specs.Heap.{Heap, IsMem, atoms_in, rules_in}
use Rattle.lmn_store_heap.specs.Solid.{IsNaming, HasSolid, solid_atoms_at, regions_of}
use Rattle.lmn_store_heap.specs.Sound.{Forest, bare, mem, flat, Valid}
use Rattle.lmn_store_heap.proofs.ListLemmas.{in_left, in_right}
use Rattle.lmn_store_heap.proofs.Trees.{is_mem}
use Rattle.lmn_print_folding.specs.Chosen.{AreChosen}
use Rattle.lmn_print_plain.specs.Stored.{number_by_mark}
use Rattle.lmn_print_plain.proofs.SolidShapes.{heap_solids_are_solids}
use Rattle.lmn_print.specs.Printed.{PrintsForest, none, more, IsNumberedBy}
use Rattle.lmn_base.specs.Lists.{In}

module _ (names : List Name) (table : List RuleTree) (s : Heap) (chosen : AreChosen s) (name : ℕ → ℕ → ℕ) (naming : IsNaming s name) where
  abbrev reg : Region → solid.Region
  reg = fold-Region solid.Region (region_step names (numbered_rule names table))

  -- what is printed of a forest, and that it is the folded form of its regions
  pub given_of : (f : Forest) → ((k : ℕ) → In k (flat f) → IsMem s k) → (given : FoldedMembranes) × PrintsForest names table s name f given × FoldsAll (λ x. x) (regions (map reg (regions_of s name f))) given
  given_of bare there = (no_membrane, none, folding.none)
  given_of (mem m inner rest) there =
      let here = chosen names name naming m (there m (inl refl)) in
      let inside = given_of inner (λ k i. there k (inr (in_left k (flat inner) (flat rest) i))) in
      let others = given_of rest (λ k i. there k (inr (in_right k (flat inner) (flat rest) i))) in
      let z : Region-F Region = record { atoms = solid_atoms_at s name (atoms_in s m); membranes = regions_of s name inner; rules = rules_in s m } in
      let shown : Folded = folded here.shown inside.0 (map (numbered_rule names table) (rules_in s m)) in
      let folds_here : Folds (λ x. x) (region_step names (numbered_rule names table) (record { atoms = z.atoms; membranes = map reg z.membranes; rules = z.rules })) shown = folds here.items here.are here.shows inside.2 in (
        membrane_and shown others.0,
        more here.prints inside.1 others.1,
        folding.more (subst (λ r. Folds (λ x. x) r shown) (sym (fold-roll-Region solid.Region (region_step names (numbered_rule names table)) z)) folds_here) others.2,
      )

-- one region has one form
one_form : (r : solid.Region) (given : FoldedMembranes) → FoldsAll (λ x. x) (solid.region_and r solid.no_region) given → (root : Folded) × Folds (λ x. x) r root × (given ≡ membrane_and root no_membrane)
one_form r _ (folding.more {f = f} p q) = (f, p, ap (membrane_and f) (last _ q))
  where
    last : (fs : FoldedMembranes) → FoldsAll (λ x. x) solid.no_region fs → fs ≡ no_membrane
    last _ folding.none = refl

-- With numbers by first occurrence it is the folded line of the solid.
numbered_line : (names : List Name) (table : List RuleTree) (t : Heap) (f : Forest) (S : solid.Region) (given : FoldedMembranes) (root : Folded) → Folds (λ x. x) S root → given ≡ membrane_and root no_membrane
    → IsNumberedBy names table t f given → (shown : Folded) × PrintsForest names table t (number_by_mark t) f (membrane_and shown no_membrane) × IsFoldedLine S (line_of_folded shown)
numbered_line names table t f S given root form e by =
    let n : IsNumberedBy names table t f (membrane_and root no_membrane) = subst (IsNumberedBy names table t f) e by in
    let links : (r : Folded) → membranes_links (membrane_and r no_membrane) ≡ folded_links r = λ r. append-nil (folded_links r) in
    let shown = renamed_folded n.to root in (
      shown,
      n.prints,
      folded_line {given = root} form (record {
        to = n.to;
        one_to_one = λ x y a b. n.one_to_one x y (subst (Among x) (sym (links root)) a) (subst (Among y) (sym (links root)) b);
        is = refl;
        count = n.count;
        by_first_occurrence = subst (λ ls. NumbersLinks ls n.count) (links shown) n.by_first_occurrence;
      }) refl,
    )

-- where the items are chosen and numbered the line is the folded one
pub chosen_line : (names : List Name) (table : List RuleTree) (s t : Heap) (x : Solid) (of : HasSolid s x) → Valid s → AreChosen s
    → ((given : FoldedMembranes) → PrintsForest names table s of.name of.forest given → IsNumberedBy names table t of.forest given)
    → (shown : Folded) × PrintsForest names table t (number_by_mark t) of.forest (membrane_and shown no_membrane) × IsFoldedLine (region_of names table x) (line_of_folded shown)
chosen_line names table s t x of valid chosen numbered =
    let given = given_of names table s chosen of.name of.naming of.forest (is_mem s valid.sound of.forest of.tree) in
    let all : FoldsAll (λ x. x) (solid.region_and (region_of names table x) solid.no_region) given.0 =
    subst (λ rs. FoldsAll (λ x. x) (regions (map (fold-Region solid.Region (region_step names (numbered_rule names table))) rs)) given.0) of.root given.2 in
    let form = one_form (region_of names table x) given.0 all in
    numbered_line names table t of.forest (region_of names table x) given.0 form.0 form.1 form.2 (numbered given.0 given.1)

-- A line of the solid is that one.
pub line_is : (names : List Name) (table : List RuleTree) (s : Heap) (x : Solid) → HasSolid s x → Valid s → (text line : List ℕ) → IsFoldedLine (region_of names table x) text → IsFoldedLine (region_of names table x) line → text ≡ line
line_is names table s x of valid text line p q = one_folded_line (region_of names table x) text line (solids_closed names table x (heap_solids_are_solids s x valid of)) p q
