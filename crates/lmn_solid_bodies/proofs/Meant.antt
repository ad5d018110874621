-- The code of a small body on a small heap.
use Rattle.std.proofs.Common.{ℕ, ◌≡◌, List, [], ◌∷◌, refl, ap, ◌∙◌}
use Rattle.lmn_store_heap.specs.Heap.{Heap, atoms_in, finished, made_atom, placed, taken}
use Rattle.lmn_solid_heads.specs.Examples.{b_of_arity}
use Rattle.lmn_solid_bodies.specs.Running.{RunsBody}
use Rattle.lmn_solid_bodies.specs.Meant.{BodyCodeIsMeant, by_number, two_atoms, two_to_one}

-- what a run leaves
abbrev after_run : Heap
after_run = finished (placed (taken (taken (made_atom two_atoms 2 (b_of_arity 0)) 0) 1) 0 2)

runs : RunsBody by_number two_to_one two_atoms after_run
runs = (
  made_atom two_atoms 2 (b_of_arity 0),
  (two_atoms, refl, (two_atoms, refl, (made_atom two_atoms 2 (b_of_arity 0), (refl, refl), (made_atom two_atoms 2 (b_of_arity 0), refl, refl)))),
  (
    taken (made_atom two_atoms 2 (b_of_arity 0)) 0,
    refl,
    (
      taken (taken (made_atom two_atoms 2 (b_of_arity 0)) 0) 1,
      refl,
      (placed (taken (taken (made_atom two_atoms 2 (b_of_arity 0)) 0) 1) 0 2, (refl, refl), (after_run, refl, refl)),
    ),
  ),
)

-- each run leaves it
leaves : (h : Heap) → RunsBody by_number two_to_one two_atoms h → h ≡ after_run
leaves h (t, (t1, e1, (t2, e2, (t3, e3, (t4, e4, e5)))), (u1, f1, (u2, f2, (u3, f3, (u4, f4, f5))))) =
    let made : t ≡ made_atom two_atoms 2 (b_of_arity 0) = e5 ∙ e4 ∙ e3.1 ∙ ap (λ s. made_atom s 2 (b_of_arity 0)) (e2 ∙ e1) in
    f5 ∙ f4 ∙ ap finished (f3.1 ∙ ap (λ s. placed s 0 2) (f2 ∙ ap (λ s. taken s 1) (f1 ∙ ap (λ s. taken s 0) made)))

pub body_code_is_meant : BodyCodeIsMeant
body_code_is_meant = record {
  runs = (after_run, runs);
  one = λ h w. rw (leaves h w) (refl, refl);
  freed = λ h w. rw (leaves h w) (refl, refl);
  not_idle = λ w. two_not_one (ap (λ h. atoms_in h 0) (leaves two_atoms w));
}
  where
    two_not_one : ◌≡◌ {A = List ℕ} (0 ∷ 1 ∷ []) (2 ∷ []) → ⊥
    two_not_one e = cc e
