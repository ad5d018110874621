-- Marks of membranes that are set.
use Rattle.std.proofs.Common.{◌≡◌, ◌<◌, ℕ, ◌==◌, Bool, true, false, cond, List, [], ◌∷◌, length, Option, Some, None, IsSome, inr, refl, sym, ap, subst, ◌∙◌, arith}
use Rattle.std.specs.Prelude.{slice_index_or, slice_set}
use Rattle.std.specs.Option.{option_map, option_and_then}
use Rattle.std.proofs.lemmas.Bool.{eqb-true}
use Rattle.lmn_store_heap.specs.Heap.{HeapMem, alter, mem_marked, mem_with_mark}
use Rattle.lmn_store_counts.specs.RuleLists.{RuleList}
use Rattle.lmn_store_counts.specs.Counts.{HasCounts, with_rules}
use Rattle.lmn_store_counts.proofs.CensusLemmas.{census_alter}
use Rattle.lmn_web.specs.declared.kind.CellKind.{CellKind}
use Rattle.lmn_web.specs.declared.kind.CellKind.TheVariants.{Atom, Membrane}
use Rattle.lmn_web.specs.Webs as web
use Rattle.lmn_web.specs.Webs.{WebCell, web_kind, kind_at, with_mark}
use Rattle.lmn_store_web.specs.WebHeaps.{Posts, atom_by, if_atom, if_membrane, atoms_of, mem_by, is_post, mems_of, heap_by}
use Rattle.lmn_store_web.proofs.SoundLemmas.{Formed}
use Rattle.lmn_store_web.proofs.CoreLemmas.{cells_same}
use Rattle.lmn_store_web.proofs.MarkLemmas.{core_same}

module _ (p : Posts) (t : List (Option RuleList)) (v : ℕ → Option WebCell) (a n : ℕ) (membrane : kind_at v a ≡ Membrane) (formed : Formed v) where
  abbrev w : ℕ → Option WebCell
  w = alter v a (option_map (with_mark 0 n))

  atoms_stay : atoms_of p w ≡ atoms_of p v
  atoms_stay = λ j x. at x (x == a) refl j
    where
      by : (o : Option WebCell) → web_kind o ≡ Membrane → option_and_then (λ (c : WebCell). if_atom c.kind (atom_by p c)) (option_map (with_mark 0 n) o) ≡ option_and_then (λ (c : WebCell). if_atom c.kind (atom_by p c)) o
      by None e = refl
      by (Some c) e = ap (λ k. if_atom k (atom_by p (with_mark 0 n c))) e ∙ sym (ap (λ k. if_atom k (atom_by p c)) e)

      at : (x : ℕ) (b : Bool) → (x == a) ≡ b → option_and_then (λ (c : WebCell). if_atom c.kind (atom_by p c)) (cond b (option_map (with_mark 0 n) (v x)) (v x)) ≡ option_and_then (λ (c : WebCell). if_atom c.kind (atom_by p c)) (v x)
      at x true e = by (v x) (ap (kind_at v) (eqb-true x a e) ∙ membrane)
      at x false e = refl

  mems_marked : mems_of p t w ≡ alter (mems_of p t v) a (option_map (mem_with_mark n))
  mems_marked = λ j x. at x (x == a) (is_post p x) j
    where
      first : (xs : List ℕ) → 0 < length xs → slice_index_or (slice_set xs 0 n) 0 0 ≡ n
      first [] e = absurd (omega (arith, e))
      first (x ∷ xs) e = refl

      kinds : (k : CellKind) (c : WebCell) → 0 < length c.marks → if_membrane k (mem_by p t (with_mark 0 n c)) ≡ option_map (mem_with_mark n) (if_membrane k (mem_by p t c))
      kinds Atom c e = refl
      kinds Membrane c e = λ j. Some (record (mem_by p t c) { mark = first c.marks e j })

      by : (o : Option WebCell) → (IsSome o → 0 < length (web.marks_of o))
          → option_and_then (λ (c : WebCell). if_membrane c.kind (mem_by p t c)) (option_map (with_mark 0 n) o) ≡ option_map (mem_with_mark n) (option_and_then (λ (c : WebCell). if_membrane c.kind (mem_by p t c)) o)
      by None h = refl
      by (Some c) h = kinds c.kind c (h refl)

      at : (x : ℕ) (b q : Bool) → cond q None (option_and_then (λ (c : WebCell). if_membrane c.kind (mem_by p t c)) (cond b (option_map (with_mark 0 n) (v x)) (v x)))
          ≡ cond b (option_map (mem_with_mark n) (cond q None (option_and_then (λ (c : WebCell). if_membrane c.kind (mem_by p t c)) (v x)))) (cond q None (option_and_then (λ (c : WebCell). if_membrane c.kind (mem_by p t c)) (v x)))
      at x true true = refl
      at x true false = by (v x) (λ i. (formed x i).1)
      at x false q = refl

  pub mem_marked_heap : heap_by p t w ≡ mem_marked (heap_by p t v) a n
  mem_marked_heap = λ j. record { root = p.root; atoms = atoms_stay j; mems = mems_marked j; new_atoms = cells_same v w (core_same p t v a 0 n (inr refl)) p.waiting Atom j; new_mems = cells_same v w (core_same p t v a 0 n (inr refl)) p.waiting Membrane j }

  pub mem_marked_counts : (x y z : ℕ) → HasCounts (atoms_of p v) (mems_of p t v) x y z → HasCounts (atoms_of p w) (mems_of p t w) x y z
  mem_marked_counts x y z h =
      subst (λ f. HasCounts f (mems_of p t w) x y z) (sym atoms_stay) (subst (λ f. HasCounts (atoms_of p v) f x y z) (sym mems_marked)
      (record {
        atom_census = h.atom_census;
        mem_census = census_alter with_rules (mems_of p t v) y a (mem_with_mark n) (λ c. refl) h.mem_census;
        spare_census = census_alter (λ (x : HeapMem). x.spare) (mems_of p t v) z a (mem_with_mark n) (λ c. refl) h.spare_census;
        bound = h.bound;
      }))
