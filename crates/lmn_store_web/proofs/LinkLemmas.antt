-- Ports that are joined, and marks of membranes.
use Rattle.std.proofs.Common.{◌≡◌, ℕ, ◌==◌, Bool, true, false, cond, List, Option, Some, None, refl, sym, ap, subst, ◌∙◌, length-set}
use Rattle.std.specs.Option.{option_map, option_and_then}
use Rattle.lmn_store_heap.specs.Heap as heap
use Rattle.lmn_store_heap.specs.Heap.{with_link}
use Rattle.lmn_store_heap.proofs.Listing.{alter_keeps}
use Rattle.lmn_store_counts.specs.RuleLists.{RuleList}
use Rattle.lmn_store_counts.specs.Counts.{HasCounts, one}
use Rattle.lmn_store_counts.proofs.CensusLemmas.{census_alter}
use Rattle.lmn_web.specs.declared.kind.CellKind.{CellKind}
use Rattle.lmn_web.specs.declared.kind.CellKind.TheVariants.{Atom, Membrane}
use Rattle.lmn_web.specs.Webs as web
use Rattle.lmn_web.specs.Webs.{WebCell, partner_at, with_partner, StandOnce, IsPaired}
use Rattle.lmn_store_web.specs.WebHeaps.{Posts, atom_by, if_atom, if_membrane, atoms_of, mem_by, is_post, mems_of, heap_by}
use Rattle.lmn_store_web.specs.WebStores.{IsStored}
use Rattle.lmn_store_web.proofs.SoundLemmas.{Formed, link_is}
use Rattle.lmn_store_web.proofs.CoreLemmas.{core, cells_same}

-- what a change of links leaves, beside the links
pub record Links (p : Posts) (t : List (Option RuleList)) (v w : ℕ → Option WebCell) : Type 0 where
  pub cores : (x : ℕ) → option_map core (w x) ≡ option_map core (v x)
  pub mems : mems_of p t w ≡ mems_of p t v
  pub counts : (x y z : ℕ) → HasCounts (atoms_of p v) (mems_of p t v) x y z → HasCounts (atoms_of p w) (mems_of p t w) x y z

module _ (p : Posts) (t : List (Option RuleList)) where
  pub same_links : (v : ℕ → Option WebCell) → Links p t v v
  same_links v = record { cores = λ x. refl; mems = refl; counts = λ x y z h. h }

  pub both_links : (u v w : ℕ → Option WebCell) → Links p t u v → Links p t v w → Links p t u w
  both_links u v w a b = record { cores = λ x. b.cores x ∙ a.cores x; mems = b.mems ∙ a.mems; counts = λ x y z h. b.counts x y z (a.counts x y z h) }

  module _ (v : ℕ → Option WebCell) (a i : ℕ) (q : Option (ℕ × ℕ)) where
    pub atoms_linked : atoms_of p (web.linked v a i q) ≡ heap.linked (atoms_of p v) a i q
    atoms_linked = λ j x. at x (x == a) j
      where
        kinds : (k : CellKind) (c : WebCell) → if_atom k (atom_by p (with_partner i q c)) ≡ option_map (with_link i q) (if_atom k (atom_by p c))
        kinds Atom c = λ j. Some (record (with_link i q (atom_by p c)) { functor = record { label = (atom_by p c).functor.label; arity = length-set c.partners i q j } })
        kinds Membrane c = refl

        by : (o : Option WebCell) → option_and_then (λ (c : WebCell). if_atom c.kind (atom_by p c)) (option_map (with_partner i q) o) ≡ option_map (with_link i q) (option_and_then (λ (c : WebCell). if_atom c.kind (atom_by p c)) o)
        by None = refl
        by (Some c) = kinds c.kind c

        at : (x : ℕ) (b : Bool) → option_and_then (λ (c : WebCell). if_atom c.kind (atom_by p c)) (cond b (option_map (with_partner i q) (v x)) (v x)) ≡ cond b (option_map (with_link i q) (atoms_of p v x)) (atoms_of p v x)
        at x true = by (v x)
        at x false = refl

    mems_linked : mems_of p t (web.linked v a i q) ≡ mems_of p t v
    mems_linked = λ j x. cond (is_post p x) None (at x (x == a) j)
      where
        kinds : (k : CellKind) (c : WebCell) → if_membrane k (mem_by p t (with_partner i q c)) ≡ if_membrane k (mem_by p t c)
        kinds Atom c = refl
        kinds Membrane c = refl

        by : (o : Option WebCell) → option_and_then (λ (c : WebCell). if_membrane c.kind (mem_by p t c)) (option_map (with_partner i q) o) ≡ option_and_then (λ (c : WebCell). if_membrane c.kind (mem_by p t c)) o
        by None = refl
        by (Some c) = kinds c.kind c

        at : (x : ℕ) (b : Bool) → option_and_then (λ (c : WebCell). if_membrane c.kind (mem_by p t c)) (cond b (option_map (with_partner i q) (v x)) (v x)) ≡ option_and_then (λ (c : WebCell). if_membrane c.kind (mem_by p t c)) (v x)
        at x true = by (v x)
        at x false = refl

    pub linked_links : Links p t v (web.linked v a i q)
    linked_links = record {
      cores = alter_keeps v a (option_map (with_partner i q)) (λ (o : Option WebCell). option_map core o) by;
      mems = mems_linked;
      counts = λ x y z h. subst (λ f. HasCounts f (mems_of p t (web.linked v a i q)) x y z) (sym atoms_linked) (subst (λ f. HasCounts (heap.linked (atoms_of p v) a i q) f x y z) (sym mems_linked)
          (record { atom_census = census_alter one (atoms_of p v) x a (with_link i q) (λ c. refl) h.atom_census; mem_census = h.mem_census; spare_census = h.spare_census; bound = h.bound }));
    }
      where
        by : (o : Option WebCell) → option_map core (option_map (with_partner i q) o) ≡ option_map core o
        by None = refl
        by (Some c) = λ j. Some (record (core c) { arity = length-set c.partners i q j })

  cleared_atoms : (v : ℕ → Option WebCell) (o : Option (ℕ × ℕ)) → atoms_of p (web.cleared v o) ≡ heap.cleared (atoms_of p v) o
  cleared_atoms v None = refl
  cleared_atoms v (Some q) = atoms_linked v q.0 q.1 None

  pub cleared_links : (v : ℕ → Option WebCell) (o : Option (ℕ × ℕ)) → Links p t v (web.cleared v o)
  cleared_links v None = same_links v
  cleared_links v (Some q) = linked_links v q.0 q.1 None

  module _ (v : ℕ → Option WebCell) (a i b j : ℕ) where
    abbrev one_cleared : ℕ → Option WebCell
    one_cleared = web.cleared v (partner_at v a i)

    abbrev two_cleared : ℕ → Option WebCell
    two_cleared = web.cleared one_cleared (partner_at v b j)

    abbrev one_linked : ℕ → Option WebCell
    one_linked = web.linked two_cleared a i (Some (b, j))

    pub joined_links : Links p t v (web.joined v a i b j)
    joined_links = both_links v one_cleared (web.joined v a i b j) (cleared_links v (partner_at v a i))
        (both_links one_cleared two_cleared (web.joined v a i b j) (cleared_links one_cleared (partner_at v b j))
        (both_links two_cleared one_linked (web.joined v a i b j) (linked_links two_cleared a i (Some (b, j))) (linked_links one_linked b j (Some (a, i)))))

    joined_atoms : (x y : Option (ℕ × ℕ)) → x ≡ partner_at v a i → y ≡ partner_at v b j
        → atoms_of p (web.joined v a i b j) ≡ heap.linked (heap.linked (heap.cleared (heap.cleared (atoms_of p v) x) y) a i (Some (b, j))) b j (Some (a, i))
    joined_atoms x y e f =
        atoms_linked one_linked b j (Some (a, i)) ∙ ap (λ g. heap.linked g b j (Some (a, i))) (atoms_linked two_cleared a i (Some (b, j))
        ∙ ap (λ g. heap.linked g a i (Some (b, j))) (cleared_atoms one_cleared (partner_at v b j) ∙ ap (λ g. heap.cleared g (partner_at v b j)) (cleared_atoms v (partner_at v a i))
        ∙ (λ k. heap.cleared (heap.cleared (atoms_of p v) (sym e k)) (sym f k))))

    pub joined_heap : IsStored p t v → StandOnce v → IsPaired v → Formed v → heap_by p t (web.joined v a i b j) ≡ heap.joined (heap_by p t v) a i b j
    joined_heap k l r c =
        let links = joined_links in
        let atoms = joined_atoms _ _ (link_is p t v k l r c a i) (link_is p t v k l r c b j) in
        λ z. record {
          root = p.root;
          atoms = atoms z;
          mems = links.mems z;
          new_atoms = cells_same v (web.joined v a i b j) links.cores p.waiting Atom z;
          new_mems = cells_same v (web.joined v a i b j) links.cores p.waiting Membrane z;
        }
