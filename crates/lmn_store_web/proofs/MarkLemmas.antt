-- Marks that are set.
use Rattle.std.proofs.Common.{◌≡◌, ℕ, ◌==◌, Bool, true, false, cond, List, [], ◌∷◌, ◌⊎◌, Option, Some, None, inl, inr, refl, sym, ap, subst, ◌∙◌}
use Rattle.std.specs.Option.{option_map, option_and_then}
use Rattle.std.proofs.lemmas.Bool.{cases_eq, eqb-true}
use Rattle.std.specs.Prelude.{slice_set}
use Rattle.lmn_store_heap.specs.Heap as heap
use Rattle.lmn_store_heap.specs.Heap.{HeapMem, alter, marked}
use Rattle.lmn_store_heap.proofs.Listing.{alter_at, alter_away}
use Rattle.lmn_store_counts.specs.RuleLists.{RuleList}
use Rattle.lmn_store_counts.specs.Counts.{HasCounts, one}
use Rattle.lmn_store_counts.proofs.CensusLemmas.{census_alter}
use Rattle.lmn_web.specs.declared.kind.CellKind.{CellKind}
use Rattle.lmn_web.specs.declared.kind.CellKind.TheVariants.{Atom, Membrane}
use Rattle.lmn_web.specs.Webs as web
use Rattle.lmn_web.specs.Webs.{WebCell, web_kind, kind_at}
use Rattle.lmn_store_web.specs.WebHeaps.{Posts, atom_by, if_atom, if_membrane, atoms_of, mem_by, is_post, mems_of, heap_by}
use Rattle.lmn_store_web.proofs.CoreLemmas.{core, told_by, cells_same}

module _ (p : Posts) (t : List (Option RuleList)) (v : ℕ → Option WebCell) (a i n : ℕ) (ok : (kind_at v a ≡ Atom) ⊎ (i ≡ 0)) where
  abbrev w : ℕ → Option WebCell
  w = alter v a (option_map (web.with_mark i n))

  pub core_same : (x : ℕ) → option_map core (w x) ≡ option_map core (v x)
  core_same x = elim (cases_eq x a) [
    | inl e ↦ subst (λ z. option_map core (w z) ≡ option_map core (v z)) (sym e) (ap (λ (o : Option WebCell). option_map core o) (alter_at v a (option_map (web.with_mark i n))) ∙ by (v a) ok)
    | inr d ↦ ap (λ (o : Option WebCell). option_map core o) (alter_away v a (option_map (web.with_mark i n)) x d)
  ]
    where
      behind : (k : CellKind) (us : List ℕ) → told_by k (slice_set us 0 n) ≡ told_by k us
      behind Atom us = refl
      behind Membrane [] = refl
      behind Membrane (u ∷ us) = refl

      by : (o : Option WebCell) → (web_kind o ≡ Atom) ⊎ (i ≡ 0) → option_map core (option_map (web.with_mark i n) o) ≡ option_map core o
      by None e = refl
      by (Some c) (inl e) = (λ j. Some (record (core c) { told = told_by (e j) (slice_set c.marks i n) })) ∙ (λ j. Some (record (core c) { told = told_by (sym e j) c.marks }))
      by (Some c) (inr e) = (λ j. Some (record (core c) { told = told_by c.kind (slice_set c.marks (e j) n) })) ∙ (λ j. Some (record (core c) { told = behind c.kind c.marks j }))

  module _ (atom : kind_at v a ≡ Atom) where
    atoms_marked : atoms_of p w ≡ alter (atoms_of p v) a (option_map (heap.with_mark i n))
    atoms_marked = λ j x. each x j
      where
        kinds : (k : CellKind) (c : WebCell) → if_atom k (atom_by p (web.with_mark i n c)) ≡ option_map (heap.with_mark i n) (if_atom k (atom_by p c))
        kinds Atom c = refl
        kinds Membrane c = refl

        by : (o : Option WebCell) → option_and_then (λ (c : WebCell). if_atom c.kind (atom_by p c)) (option_map (web.with_mark i n) o) ≡ option_map (heap.with_mark i n) (option_and_then (λ (c : WebCell). if_atom c.kind (atom_by p c)) o)
        by None = refl
        by (Some c) = kinds c.kind c

        each : (x : ℕ) → atoms_of p w x ≡ alter (atoms_of p v) a (option_map (heap.with_mark i n)) x
        each x = at (x == a)
          where
            at : (b : Bool) → option_and_then (λ (c : WebCell). if_atom c.kind (atom_by p c)) (cond b (option_map (web.with_mark i n) (v x)) (v x)) ≡ cond b (option_map (heap.with_mark i n) (atoms_of p v x)) (atoms_of p v x)
            at true = by (v x)
            at false = refl

    mems_stay : mems_of p t w ≡ mems_of p t v
    mems_stay = λ j x. each x j
      where
        by : (o : Option WebCell) → web_kind o ≡ Atom → option_and_then (λ (c : WebCell). if_membrane c.kind (mem_by p t c)) (option_map (web.with_mark i n) o) ≡ option_and_then (λ (c : WebCell). if_membrane c.kind (mem_by p t c)) o
        by None e = refl
        by (Some c) e = ap (λ k. if_membrane k (mem_by p t (web.with_mark i n c))) e ∙ sym (ap (λ k. if_membrane k (mem_by p t c)) e)

        each : (x : ℕ) → mems_of p t w x ≡ mems_of p t v x
        each x = ap (λ (o : Option HeapMem). cond (is_post p x) None o) (at (x == a) refl)
          where
            at : (b : Bool) → (x == a) ≡ b → option_and_then (λ (c : WebCell). if_membrane c.kind (mem_by p t c)) (cond b (option_map (web.with_mark i n) (v x)) (v x)) ≡ option_and_then (λ (c : WebCell). if_membrane c.kind (mem_by p t c)) (v x)
            at true e = by (v x) (ap (kind_at v) (eqb-true x a e) ∙ atom)
            at false e = refl

    pub marked_heap : heap_by p t w ≡ marked (heap_by p t v) a i n
    marked_heap = λ j. record { root = p.root; atoms = atoms_marked j; mems = mems_stay j; new_atoms = cells_same v w core_same p.waiting Atom j; new_mems = cells_same v w core_same p.waiting Membrane j }

    pub marked_counts : (x y z : ℕ) → HasCounts (atoms_of p v) (mems_of p t v) x y z → HasCounts (atoms_of p w) (mems_of p t w) x y z
    marked_counts x y z h =
        subst (λ f. HasCounts f (mems_of p t w) x y z) (sym atoms_marked) (subst (λ f. HasCounts (alter (atoms_of p v) a (option_map (heap.with_mark i n))) f x y z) (sym mems_stay)
        (record { atom_census = census_alter one (atoms_of p v) x a (heap.with_mark i n) (λ c. refl) h.atom_census; mem_census = h.mem_census; spare_census = h.spare_census; bound = h.bound }))
