-- Which list of the atoms that a head takes it is doesn't matter.
use Rattle.std.proofs.Common.{ℕ, ◌≡◌, ◌≢◌, ◌∙◌, ◌↔◌, ◌++◌, List, [], ◌∷◌, refl, sym, ap, inl, inr}
use Rattle.lmn_base.specs.Lists.{In}
use Rattle.lmn_store_heap.specs.Lists.{Distinct, without_all}
use Rattle.lmn_store_heap.proofs.Common.{decide_in}
use Rattle.lmn_store_heap.proofs.ListLemmas.{each_in, withouts_nothing}
use Rattle.lmn_verify_solids.specs.Firing.{added_atoms}
use Rattle.lmn_verify_solids.specs.Laws.{TakenByMembers}
use Rattle.lmn_solid_bodies.proofs.Contents.{without_all_here, without_all_there}

-- of a list without repeats lists with the same members leave the same
pub by_members : (xs ys : List ℕ) → ((a : ℕ) → In a xs ↔ In a ys) → (zs : List ℕ) → Distinct zs → without_all xs zs ≡ without_all ys zs
by_members xs ys m [] d = withouts_nothing xs ∙ sym (withouts_nothing ys)
by_members xs ys m (z ∷ zs) d =
    let rest = by_members xs ys m zs d.1 in
    let once : In z zs → ⊥ = λ i. each_in (λ y. z ≢ y) zs z d.0 i refl in
    elim (decide_in z xs) [
      | inl i ↦ without_all_here xs z zs once i ∙ rest ∙ sym (without_all_here ys z zs once ((m z).0 i))
      | inr o ↦ without_all_there xs z zs o ∙ ap (λ ls. z ∷ ls) rest ∙ sym (without_all_there ys z zs (λ j. o ((m z).1 j)))
    ]

-- a commit that takes the atoms of one list takes those of another with the same members
pub taken_by_members : TakenByMembers
taken_by_members g S is code r xs ys g' m f =
    let same : (k : ℕ) → without_all xs (g.atoms k) ≡ without_all ys (g.atoms k) = λ k. by_members xs ys m (g.atoms k) (is.atoms_once k) in
    record {
      number = f.number;
      old = f.old;
      new = f.new;
      apart = f.apart;
      each = f.each;
      copies = f.copies;
      rests = f.rests;
      functors = λ a i o d. f.functors a i (λ j. o ((m a).0 j)) d;
      atoms_new = f.atoms_new;
      atoms_once = f.atoms_once;
      membranes_new = f.membranes_new;
      membranes_once = f.membranes_once;
      atoms = λ x o. f.atoms x o ∙ (λ i. same x i ++ added_atoms r (λ k. same k i) f.copies code.body x);
      membranes = f.membranes;
      rules = f.rules;
      root = f.root;
    }
