-- What a search answers is the least embedding, or that nothing embeds.
use Rattle.std.proofs.Common.{◌≡◌, ◌∙◌, ◌≤◌, ℕ, suc, List, [], ◌∷◌, length, map, slice_index_or, refl, sym, ap, subst, arith}
use Rattle.lmn_base.specs.declared.guard.Cond.{Cond}
use Rattle.lmn_compile_head.specs.Heads.{IsHead}
use Rattle.lmn_solid_tables.specs.declared.tables.Port.{Port as Place}
use Rattle.lmn_guards.specs.Values.{value_beside}
use Rattle.lmn_store_heap.specs.Heap.{Heap, IsMem}
use Rattle.lmn_store_heap.specs.Sound.{Valid}
use Rattle.lmn_solid_heads.specs.declared.items.HeadItem.{HeadItem}
use Rattle.lmn_solid_heads.specs.Heads.{atoms_of, membranes_of, typed_contexts_of}
use Rattle.lmn_solid_heads.specs.Embeddings.{Embeds, Images, IsLeast, ListNotAfter, meaning}
use Rattle.lmn_solid_heads.specs.Guards.{Meaning, integer_named}
use Rattle.lmn_solid_search.specs.Binding.{after_all}
use Rattle.lmn_solid_search.specs.Choosing.{Answers, IsSearchable, Sits, at_home}
use Rattle.lmn_solid_search.specs.Finding.{images, port_at}
use Rattle.lmn_solid_search.specs.Placing.{membrane_at, outermost_in}
use Rattle.lmn_solid_search.specs.Taking.{IsTakenApart, StandsAt, kept_atom, kept_membrane, kept_typed}
use Rattle.lmn_solid_search.specs.declared.head.AtomItem.{AtomItem}
use Rattle.lmn_solid_search.specs.declared.head.Head.{Head}
use Rattle.lmn_solid_search.specs.declared.head.MembraneItem.{MembraneItem}
use Rattle.lmn_solid_search.specs.declared.head.TypedItem.{TypedItem}
use Rattle.lmn_solid_search.specs.declared.embedding.Found.{Found as Made}
use Rattle.lmn_solid_search.specs.declared.meeting.Fulfilled.{Fulfilled}
use Rattle.lmn_solid_search.specs.declared.placed.Placed.{Placed}
use Rattle.lmn_solid_search.specs.declared.reasons.Reasons.{Reasons}
use Rattle.lmn_solid_search.specs.declared.search.Sought.{Sought}
use Rattle.lmn_solid_search.specs.declared.search.Sought.TheVariants.{Failed, Found}
use Rattle.lmn_solid_search.proofs.BackLemmas.{can_be, choice, choice_places, outer_within, placement}
use Rattle.lmn_solid_search.proofs.EmbeddingLemmas.{images_by, keeps_on, mapped, places_are, unmapped}
use Rattle.lmn_solid_search.proofs.FulfillingLemmas.{entries, ports_are}
use Rattle.lmn_solid_search.proofs.LyingLemmas.{embeds, meaning_same, outermost_same, times_same}
use Rattle.lmn_solid_search.proofs.ReasoningLemmas.{agrees_itself}
use Rattle.lmn_compile_head.proofs.Nesting.{atoms_inside as atoms_within}
use Rattle.lmn_compile_head.proofs.Common.{typed_inside as typed_within}

-- ---- at the start

mapped_long : {A B : Type 0} (f : A → B) (xs : List A) → length (map f xs) ≡ length xs
mapped_long f [] = refl
mapped_long f (x ∷ xs) = ap suc (mapped_long f xs)

module _ (items : List HeadItem) (head : Head) (kept : IsTakenApart items head) (is : IsHead items) where
  atoms_all : length head.atoms ≡ length (atoms_of items)
  atoms_all = ap (λ (xs : List AtomItem). length xs) kept.atoms ∙ mapped_long kept_atom (atoms_of items)

  membranes_all : length head.membranes ≡ length (membranes_of items)
  membranes_all = ap (λ (xs : List MembraneItem). length xs) kept.membranes ∙ mapped_long kept_membrane (membranes_of items)

  pub searchable : IsSearchable head
  searchable = record {
    outermost = λ n a g. (let u = unmapped kept_atom (atoms_of items) head.atoms n a kept.atoms g in
        let l = atoms_within 0 items is.inside n u.0 u.1 in
        let o = outer_within items is.inside u.0.inside in
        let w = membranes_all in
        let same : outermost_in head.membranes u.0.inside ≡ _ = outermost_same items head u.0.inside kept in
        subst (λ (z : AtomItem). outermost_in head.membranes z.inside ≤ length head.membranes) u.2 (omega (arith, l, o, w, same)));
    few = λ x. subst (λ k. k ≤ 2) (times_same x items head kept) (is.at_most_twice x);
    inside = λ n t g. (let u = unmapped kept_typed (typed_contexts_of items) head.typed n t kept.typed g in
        let l = typed_within 0 items is.inside n u.0 u.1 in
        let w = membranes_all in
        subst (λ (z : TypedItem). z.inside ≤ length head.membranes) u.2 (omega (arith, l, w)));
    held = λ n t g. (let u = unmapped kept_typed (typed_contexts_of items) head.typed n t kept.typed g in
        let p = is.held n u.0 u.1 in
        (p.0, subst (λ (z : TypedItem). StandsAt head.atoms z.link p.0) u.2 (kept_atom p.1.0, mapped kept_atom (atoms_of items) head.atoms p.0.0 p.1.0 kept.atoms p.1.1, p.1.2)));
  }

  pub sits_first : (h : Heap) (m : ℕ) → IsMem h m → Sits h head items (at_home m)
  sits_first h m there = record {
    placed = record { home = there; atoms = λ a i. absurd i; membranes = λ a i. absurd i };
    atoms = (let l = atoms_all in omega (arith, l));
    membranes = (let l = membranes_all in omega (arith, l));
    inside = is.inside;
  }

pub started : (m : ℕ) (atoms membranes : List ℕ) → atoms ≡ [] → membranes ≡ [] → ◌≡◌ {A = Placed} (record { home = m; atoms = atoms; membranes = membranes }) (at_home m)
started m atoms membranes e g = λ i. record { home = m; atoms = e i; membranes = g i }

-- ---- at the end

both_ways : (xs ys us vs : List ℕ) → xs ≡ us → ys ≡ vs → ListNotAfter xs ys → ListNotAfter us vs
both_ways xs ys us vs e g n = subst (ListNotAfter us) g (subst (λ zs. ListNotAfter zs ys) e n)

module _ (h : Heap) (v : Valid h) (items : List HeadItem) (head : Head) (kept : IsTakenApart items head) (is : IsHead items) (guard : List Cond) (m : ℕ) (q : Placed) where
  pub nothing : (o : Sought) (d : Reasons) → o ≡ Failed d → Answers h head guard items (at_home m) q o → (f : Images) → Embeds h items guard m f → ⊥
  nothing o d e w f g = (subst (Answers h head guard items (at_home m) q) e w).1 (at_home m) (placement h v items head kept is guard m f g) (agrees_itself d (at_home m)) (choice h v items head kept is guard m f g) (can_be h v items head kept is guard m f g)

  module _ (o : Sought) (found : Fulfilled) (made : Made) (some : o ≡ Found found) (answers : Answers h head guard items (at_home m) q o)
      (atoms : made.atoms ≡ q.atoms) (membranes : made.membranes ≡ q.membranes) (parts : made.parts ≡ map (λ r. r.entry) found.parts) where
    w : Answers h head guard items (at_home m) q (Found found)
    w = subst (Answers h head guard items (at_home m) q) some answers

    images_are : images_by q (entries found.parts) ≡ images m made
    images_are =
        let home : q.home ≡ m = (keeps_on h head items (at_home m) q w.0).home in
        let port : (n : ℕ) → entries found.parts n ≡ port_at made.parts n = λ n. sym (ap (λ (ps : List Place). port_at ps n) parts ∙ ports_are found.parts n) in
        λ i. record { atom = λ n. slice_index_or (sym atoms i) n 0; membrane = membrane_at (home i) (sym membranes i); part = λ n. port n i }

    pub is_least : IsLeast h items guard m (images m made)
    is_least = subst (IsLeast h items guard m) images_are (record {
      embeds = embeds h v items head kept is guard m q w.0 found.parts w.1.0 w.1.1;
      least = λ g e. both_ways _ _ _ _ (places_are h head (entries found.parts) items (at_home m) q is.inside w.0 0 1 refl refl) (choice_places h v items head kept is guard m g e)
          (w.2 (placement h v items head kept is guard m g e) (choice h v items head kept is guard m g e) (can_be h v items head kept is guard m g e));
    })

    pub integers : made.names ≡ found.known.names → made.values ≡ found.known.values → (x : ℕ) → integer_named h (after_all h (meaning items (images m made)) guard) x ≡ value_beside made.names.items made.values.items x
    integers names values x =
        ap (λ (f : Images). integer_named h (after_all h (meaning items f) guard) x) (sym images_are)
        ∙ ap (λ (s : Meaning). integer_named h (after_all h s guard) x) (sym (meaning_same h v items head kept is guard m q w.0 found.parts w.1.0 w.1.1))
        ∙ w.1.2.integer x
        ∙ (λ i. value_beside (sym names i).items (sym values i).items x)
