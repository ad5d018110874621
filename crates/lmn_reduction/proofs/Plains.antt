-- The process of a plain settles to the process of its solid.
use Rattle.std.proofs.Common.{ℕ, ◌≡◌, List, [], ◌∷◌, map, refl, sym, ap, subst}
use Rattle.lmn_congruence.proofs.Counts.{linked_as}
use Rattle.lmn_congruence.proofs.Reordered.{r_right, reordered_congruent, reordered_count}
use Rattle.lmn_congruence.proofs.LinkMaps.{closed_leaves, closed_linked}
use Rattle.lmn_congruence.proofs.Solids.{region_plain}
use Rattle.lmn_reduction.proofs.SettledProcesses.{no_connector_settled, towards_joined, towards_closed}
use Rattle.lmn_reduction.proofs.SettledForms.{settles_fused, closed_form, read_back}
use Rattle.lmn_congruence.specs.UpToOrder.{Reordered, r_unit, r_beside, r_inside, r_same, r_chain}
use Rattle.lmn_congruence.specs.Process.{pair, rule, Linked, together}
use Rattle.lmn_congruence.specs.Rules.{Rule, Leaf, atom_leaf, connector_leaf, typed_leaf, Level, level, Levels, no_level, level_and, rules_list}
use Rattle.lmn_congruence.specs.Fused.{fused}
use Rattle.lmn_reduction.specs.Laws.{SolidsSettled, PlainHasSolid}
use Rattle.lmn_reduction.specs.Commits.{Settles, already}
use Rattle.lmn_congruence.specs.Regions.{Region, region_process, atom_process, regions_processes}
use Rattle.lmn_congruence.specs.Plains.{leaf_process, level_process, levels_processes, fused_leaves, fused_level, fused_levels, SolidOf}

leaves_reordered : (v : ℕ → ℕ) (ls : List Leaf) → Reordered (fused v (together (map leaf_process ls))) (together (map atom_process (fused_leaves v ls)))
leaves_reordered v [] = r_same refl
leaves_reordered v (atom_leaf a xs ∷ ls) = r_right (leaves_reordered v ls)
leaves_reordered v (connector_leaf x y ∷ ls) = r_chain r_unit (leaves_reordered v ls)
leaves_reordered v (typed_leaf p x ∷ ls) = r_chain r_unit (leaves_reordered v ls)

rules_kept : (v : ℕ → ℕ) (rs : List Rule) → fused v (together (map rule rs)) ≡ together (map rule rs)
rules_kept v [] = refl
rules_kept v (r ∷ rs) = ap (pair (rule r)) (rules_kept v rs)

mutual
  pub level_reordered : (v : ℕ → ℕ) (l : Level) → Reordered (fused v (level_process l)) (region_process (fused_level v l))
  level_reordered v (level leaves membranes contexts rule_contexts rules) =
      r_chain (r_beside (leaves_reordered v leaves)) (r_right (r_chain (r_beside (levels_reordered v membranes)) (r_right (r_same (rules_kept v (rules_list rules))))))

  levels_reordered : (v : ℕ → ℕ) (ls : Levels) → Reordered (fused v (together (levels_processes ls))) (together (regions_processes (fused_levels v ls)))
  levels_reordered v no_level = r_same refl
  levels_reordered v (level_and l ls) = r_chain (r_beside (r_inside (level_reordered v l))) (r_right (levels_reordered v ls))

-- the process of a solid is settled
pub solids_settled : SolidsSettled
solids_settled S = no_connector_settled (region_process S) (region_plain S)

-- the process of a plain's top settles to that of its solid
pub plain_settles : (top : Level) (S : Region) → SolidOf top S → Settles (level_process top) (region_process S)
plain_settles top S s =
    let P = level_process top in
    let o : Reordered (fused s.to P) (region_process S) = subst (λ k. Reordered (fused s.to P) (region_process k)) (sym s.is) (level_reordered s.to top) in
    let l : Linked (region_process S) = closed_linked s.closed in
    let k : Linked (fused s.to P) = linked_as (λ z. sym (reordered_count o z)) l in
    let t = settles_fused s.to P (closed_linked s.closed_top) s.joins (closed_leaves s.to P s.closed_top) k in
    record { settled = solids_settled S; towards = towards_joined t.towards (already (reordered_congruent o k)) }

-- ---- the solid of a plain

-- a plain with a closed top has a solid
pub plain_has_solid : PlainHasSolid
plain_has_solid top c =
    let P = level_process top in
    let f = closed_form P c in
    let v = read_back P f.form f.plain f.towards in
    let k = towards_closed f.towards c in (
      fused_level v.0 top,
      record {
        closed_top = c;
        to = v.0;
        joins = v.1;
        is = refl;
        closed = λ z. rw (← reordered_count (level_reordered v.0 top) z, reordered_count v.2 z) (k z);
      },
    )
