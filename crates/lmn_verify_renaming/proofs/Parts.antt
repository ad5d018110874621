-- Parts and the way up in a renamed heap.
use Rattle.std.proofs.Common.{◌≡◌, ◌≢◌, ◌∙◌, ℕ, zero, suc, Option, Some, None, IsSome, refl, sym, ap, subst}
use Rattle.std.specs.Option.{option_map}
use Rattle.lmn_base.specs.Graphs.{Port, Reached, SameGraph, StandsWhole, across, at_root}
use Rattle.lmn_store_heap.specs.Conditions.{Above}
use Rattle.lmn_store_heap.specs.Graphs.{atom_map}
use Rattle.lmn_store_heap.specs.Heap.{Heap, home_of, link_of}
use Rattle.lmn_solid_heads.specs.Embeddings.{StandsWithin}
use Rattle.lmn_verify_renaming.specs.Renamed.{Renaming, renamed, renamed_port}
use Rattle.lmn_verify_renaming.proofs.Numbers.{one_to_one}
use Rattle.lmn_verify_renaming.proofs.Reading.{functor_back, functor_there, home_back, home_kept, link_back, link_kept, parent_back, parent_there}

module _ (r : Renaming) (s : Heap) where
  abbrev A : ℕ → ℕ
  A = r.atoms.to

  abbrev B : ℕ → ℕ
  B = r.atoms.back

  abbrev M : ℕ → ℕ
  M = r.mems.to

  abbrev K : Heap
  K = renamed r s

  -- a port with the other number isn't another one's
  not_root : (a i : ℕ) (root : Port) → ◌≢◌ {A = ℕ × ℕ} (a, i) root → ◌≢◌ {A = ℕ × ℕ} (A a, i) (renamed_port A root)
  not_root a i root ne e = ne (λ k. ((one_to_one r.atoms a root.0 (ap (λ (q : ℕ × ℕ). q.0) e)) k, (ap (λ (q : ℕ × ℕ). q.1) e) k))

  not_root_back : (a i : ℕ) (root : Port) → ◌≢◌ {A = ℕ × ℕ} (a, i) (renamed_port A root) → ◌≢◌ {A = ℕ × ℕ} (B a, i) root
  not_root_back a i root ne e = ne (λ k. ((sym (r.atoms.again a) ∙ ap (λ (q : ℕ × ℕ). A q.0) e) k, (ap (λ (q : ℕ × ℕ). q.1) e) k))

  -- ---- parts

  pub reached_there : (root : Port) (b : ℕ) → Reached (atom_map s) root b → Reached (atom_map K) (renamed_port A root) (A b)
  reached_there root b at_root = at_root
  reached_there root c (across {a = a} {b = b} {i = i} {j = j} w ne e) = across (reached_there root a w) (not_root a i root ne) (link_kept r s a i b j e)

  pub reached_back : (root : Port) (b : ℕ) → Reached (atom_map K) (renamed_port A root) b → Reached (atom_map s) root (B b)
  reached_back root b at_root = subst (Reached (atom_map s) root) (sym (r.atoms.there root.0)) at_root
  reached_back root c (across {a = a} {b = b} {i = i} {j = j} w ne e) = across (reached_back root a w) (not_root_back a i root ne) (link_back r s a i b j e)

  pub whole_there : (root : Port) (home : ℕ) → StandsWhole (atom_map s) root home → StandsWhole (atom_map K) (renamed_port A root) (M home)
  whole_there root home w = record {
    at_home = λ a c. ap (home_of K) (sym (r.atoms.again a)) ∙ home_kept r s (B a) home (w.at_home (B a) (reached_back root a c));
    no_other_end = λ a i f c e l ne. ended a i (w.no_other_end (B a) i f (reached_back root a c) (sym (functor_back r s a) ∙ e) l (not_root_back a i root ne));
  }
    where
      ended : (a i : ℕ) → IsSome (link_of s (B a) i) → IsSome (link_of K a i)
      ended a i h = by (link_of s (B a) i) refl h
        where
          by : (o : Option (ℕ × ℕ)) → link_of s (B a) i ≡ o → IsSome o → IsSome (link_of K a i)
          by None e h = absurd (cc h)
          by (Some p) e h = subst (λ (o : Option (ℕ × ℕ)). IsSome o) (sym (ap (λ x. link_of K x i) (sym (r.atoms.again a)) ∙ link_kept r s (B a) i p.0 p.1 e)) refl

  pub graph_there : (x y : Port) → SameGraph (atom_map s) x (atom_map s) y → SameGraph (atom_map K) (renamed_port A x) (atom_map K) (renamed_port A y)
  graph_there x y g = record {
    to = λ b. A (g.to (B b));
    into = λ a c. reached_there y (g.to (B a)) (g.into (B a) (reached_back x a c));
    onto = λ b c. (let w = g.onto (B b) (reached_back y b c) in (A w.0, reached_there x w.0 w.1, ap (λ z. A (g.to z)) (r.atoms.there w.0) ∙ ap A w.2 ∙ r.atoms.again b));
    one_to_one = λ a b c d e. sym (r.atoms.again a) ∙ ap A (g.one_to_one (B a) (B b) (reached_back x a c) (reached_back x b d) (one_to_one r.atoms (g.to (B a)) (g.to (B b)) e)) ∙ r.atoms.again b;
    functors = λ a c. functor_there r s (g.to (B a)) ∙ g.functors (B a) (reached_back x a c) ∙ sym (functor_back r s a);
    joined = λ a b i j c d. (
      (λ e. link_kept r s (g.to (B a)) i (g.to (B b)) j ((g.joined (B a) (B b) i j (reached_back x a c) (reached_back x b d)).0 (link_back r s a i b j e))),
      (λ e. (let l = link_back r s (A (g.to (B a))) i (A (g.to (B b))) j e in
          let m : link_of s (g.to (B a)) i ≡ Some (g.to (B b), j) = ap (λ z. link_of s z i) (sym (r.atoms.there (g.to (B a)))) ∙ l ∙ ap (λ z. Some (z, j)) (r.atoms.there (g.to (B b))) in
          let k = link_kept r s (B a) i (B b) j ((g.joined (B a) (B b) i j (reached_back x a c) (reached_back x b d)).1 m) in
          ap (λ z. link_of K z i) (sym (r.atoms.again a)) ∙ k ∙ ap (λ z. Some (z, j)) (r.atoms.again b))),
    );
    root = λ k. ((ap (λ z. A (g.to z)) (r.atoms.there x.0) ∙ ap (λ (q : ℕ × ℕ). A q.0) g.root) k, (ap (λ (q : ℕ × ℕ). q.1) g.root) k);
  }

  -- ---- the way up

  pub above_there : (k m n : ℕ) → Above s k m n → Above K k (M m) (M n)
  above_there zero m n e = ap M e
  above_there (suc k) m n w = (M w.0, parent_there r s n ∙ ap (option_map M) w.1, above_there k m w.0 w.2)

  pub above_back : (k m n : ℕ) → Above K k (M m) n → Above s k m (r.mems.back n)
  above_back zero m n e = ap r.mems.back e ∙ r.mems.there m
  above_back (suc k) m n w = (r.mems.back w.0, parent_back r s n w.0 w.1, above_back k m w.0 w.2)

  pub within_there : (a m : ℕ) → StandsWithin s a m → StandsWithin K (A a) (M m)
  within_there a m w = (M w.0, w.1, home_kept r s a w.0 w.2, above_there w.1 m w.0 w.3)

  pub within_back : (a m : ℕ) → StandsWithin K a (M m) → StandsWithin s (B a) m
  within_back a m w = (r.mems.back w.0, w.1, home_back r s a w.0 w.2, above_back w.1 m w.0 w.3)
