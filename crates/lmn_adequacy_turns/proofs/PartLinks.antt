-- How often links stand at the atoms of a part.
use Rattle.std.proofs.Common.{ℕ, ◌≡◌, ◌≢◌, ◌⊎◌, List, sym, ap, subst, inl, ◌∙◌}
use Rattle.lmn_congruence.specs.Links.{places}
use Rattle.lmn_congruence.specs.Process.{Free, occurrences}
use Rattle.lmn_congruence.specs.Regions.{SolidAtom}
use Rattle.lmn_congruence.proofs.Renaming.{occurrences_none}
use Rattle.lmn_reduction.specs.Parts.{Rooted}
use Rattle.lmn_adequacy.specs.Embedding.{IsPart}
use Rattle.lmn_adequacy.specs.Next.{links_at}
use Rattle.lmn_adequacy.proofs.Bodies.{Whole}
use Rattle.lmn_adequacy.proofs.Exposing.{Source, found, missing, source}
use Rattle.lmn_adequacy.proofs.SameParts.{part_count, part_image}
use Rattle.lmn_base.proofs.Numbers.{not_zero_if_one}

module _ {g : Rooted} {x : ℕ} {bs : List SolidAtom} (i : IsPart g x bs) (free : Free g.root g.process) where
  -- the root's link stands once
  pub part_root_once : places x (links_at bs) ≡ 1
  part_root_once = ap (λ w. places w (links_at bs)) (sym i.root) ∙ part_image i g.root (not_zero_if_one (occurrences g.root g.process) free) ∙ free

  -- each other link twice, or not at all
  pub part_links_twice : Whole g → (z : ℕ) → z ≢ x → (places z (links_at bs) ≡ 0) ⊎ (places z (links_at bs) ≡ 2)
  part_links_twice whole z d = by (source i.to g.process z)
    where
      by : Source i.to g.process z → (places z (links_at bs) ≡ 0) ⊎ (places z (links_at bs) ≡ 2)
      by (missing k) = inl (part_count i z ∙ occurrences_none i.to z g.process k)
      by (found y o e) =
          let same : places z (links_at bs) ≡ occurrences y g.process = ap (λ w. places w (links_at bs)) (sym e) ∙ part_image i y o in
          subst (λ n. (n ≡ 0) ⊎ (n ≡ 2)) (sym same) (whole y (λ q. d (sym e ∙ ap i.to q ∙ i.root)))
