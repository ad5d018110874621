-- Atoms with a functor are cells with its label and as many ports.
use Rattle.std.proofs.Common.{◌≡◌, ℕ, ◌==◌, ◌&&◌, Bool, true, false, cond, List, [], ◌∷◌, Option, Some, None, IsSome, IfSome, refl, sym, ap, subst, ◌∙◌, inl, inr}
use Rattle.std.specs.Prelude.{unwrap_or}
use Rattle.std.specs.List.{filter}
use Rattle.std.specs.Option.{option_map}
use Rattle.lmn_base.specs.Lists.{In}
use Rattle.lmn_base.specs.declared.functor.Functor.{Functor}
use Rattle.lmn_base.proofs.Lists.{some_is}
use Rattle.lmn_base.proofs.Numbers.{equal_when, equal_itself}
use Rattle.lmn_base.proofs.Truth.{and_true, test_same}
use Rattle.lmn_store_heap.specs.Lists.{from, after}
use Rattle.lmn_store_heap.specs.Heap.{Heap, functor_of, home_of, atoms_in, IsMem, IsInPlace}
use Rattle.lmn_store_heap.specs.Functors.{with_functor, is_of, same_functor}
use Rattle.lmn_store_heap.proofs.Trees.{next_in}
use Rattle.lmn_store_heap.proofs.WithFunctor.{functor_is as same_is, is_of_here}
use Rattle.lmn_store_counts.specs.RuleLists.{RuleList}
use Rattle.lmn_web.specs.declared.kind.CellKind.TheVariants.{Atom}
use Rattle.lmn_web.specs.Webs.{WebCell, kind_at, home_at, arity_at, cells_in, web_label, is_labelled, with_label, StandOnce, IsPaired}
use Rattle.lmn_web.proofs.ListedLemmas.{from_in, if_some}
use Rattle.lmn_store_web.specs.Labels.{label_number, label_by}
use Rattle.lmn_store_web.specs.WebHeaps.{Posts, heap_by}
use Rattle.lmn_store_web.specs.WebStores.{IsStored}
use Rattle.lmn_store_web.proofs.LabelLemmas.{number_back}
use Rattle.lmn_store_web.proofs.ReadLemmas.{mem_there, functor_is, atoms_is, no_post}
use Rattle.lmn_store_web.proofs.SoundLemmas.{Formed, lists_are}
use Rattle.lmn_store_web.proofs.CallLemmas.{homes_in, in_place, some_cell}

-- what is left of a list passes the test, and stood in it
in_filter : (test : ℕ → Bool) (a : ℕ) (xs : List ℕ) → In a (filter test xs) → (test a ≡ true) × In a xs
in_filter test a [] i = absurd i
in_filter test a (x ∷ xs) i = by (test x) refl i (in_filter test a xs)
  where
    by : (b : Bool) → test x ≡ b → In a (cond b (x ∷ filter test xs) (filter test xs)) → (In a (filter test xs) → (test a ≡ true) × In a xs) → (test a ≡ true) × In a (x ∷ xs)
    by true e (inl s) rest = (subst (λ z. test z ≡ true) s e, inl s)
    by true e (inr i) rest = let r = rest i in (r.0, inr r.1)
    by false e i rest = let r = rest i in (r.0, inr r.1)

label_some : (o : Option WebCell) → IsSome o → IsSome (option_map (λ c. c.label) o)
label_some None s = absurd (cc)
label_some (Some c) s = refl

module _ (p : Posts) (t : List (Option RuleList)) (w : ℕ → Option WebCell) (k : IsStored p t w) (l : StandOnce w) where
  abbrev H : Heap
  H = heap_by p t w

  -- the functor of an atom, by its label and its ports
  functor_by : (a n : ℕ) → kind_at w a ≡ Atom → web_label w a ≡ Some n → functor_of H a ≡ Some (record { label = label_by n; arity = arity_at w a })
  functor_by a n e h = functor_is p t w a e n (arity_at w a) (record { label = label_by n; arity = arity_at w a }) h refl refl

  module _ (f : Functor) (back : label_by (label_number p.by_value f.label) ≡ f.label) where
    -- the two tests are one
    labelled_is : (a n : ℕ) → kind_at w a ≡ Atom → web_label w a ≡ Some n → is_labelled w (label_number p.by_value f.label) f.arity a ≡ is_of (functor_of H a) f
    labelled_is a n e h =
        (λ j. unwrap_or (option_map (λ z. z == label_number p.by_value f.label) (h j)) false && (arity_at w a == f.arity))
        ∙ test_same ((n == label_number p.by_value f.label) && (arity_at w a == f.arity)) (same_functor g f)
        (λ u. let b = and_true (n == label_number p.by_value f.label) (arity_at w a == f.arity) u in
        let s : g ≡ f = (λ j. record { label = (ap label_by (equal_when n (label_number p.by_value f.label) b.0) ∙ back) j; arity = equal_when (arity_at w a) f.arity b.1 j }) in is_of_here (Some g) f (ap Some s))
        (λ u. let s = same_is g f u in
        let x : n ≡ label_number p.by_value f.label = sym (number_back p.by_value n (k.labels a n e h)) ∙ ap (λ (z : Functor). label_number p.by_value z.label) s in
        let y : arity_at w a ≡ f.arity = ap (λ (z : Functor). z.arity) s in
        rw (x, y, equal_itself (label_number p.by_value f.label), equal_itself f.arity) refl)
        ∙ ap (λ o. is_of o f) (sym (functor_by a n e h))
      where
        g : Functor
        g = record { label = label_by n; arity = arity_at w a }

    with_is : (xs : List ℕ) → ((a : ℕ) → In a xs → (kind_at w a ≡ Atom) × IsSome (w a)) → with_label w (label_number p.by_value f.label) f.arity xs ≡ with_functor H f xs
    with_is [] h = refl
    with_is (x ∷ xs) h =
        let i = h x (inl refl) in
        let n = some_is (web_label w x) (label_some (w x) i.1) in
        let r = with_is xs (λ a j. h a (inr j)) in
        λ j. cond (labelled_is x n.0 i.0 n.1 j) (x ∷ r j) (r j)

    -- what passes has the functor
    passes : (a : ℕ) → kind_at w a ≡ Atom → IsSome (w a) → is_labelled w (label_number p.by_value f.label) f.arity a ≡ true → functor_of H a ≡ Some f
    passes a e s u =
        let n = some_is (web_label w a) (label_some (w a) s) in
        let g : Functor = record { label = label_by n.0; arity = arity_at w a } in
        let q : same_functor g f ≡ true = ap (λ o. is_of o f) (sym (functor_by a n.0 e n.1)) ∙ sym (labelled_is a n.0 e n.1) ∙ u in
        functor_by a n.0 e n.1 ∙ ap Some (same_is g f q)

    atoms_of_list : (m a : ℕ) → In a (cells_in w m Atom) → (kind_at w a ≡ Atom) × IsSome (w a)
    atoms_of_list m a i = let h = l.homes m a Atom i in (h.1, some_cell p t w k l a m h.0)

    module _ {X : Type 0} (id : X → ℕ) (o : Option X) (m : ℕ) (s : IsMem H m) where
      pub first_with_list : (let all = with_label w (label_number p.by_value f.label) f.arity (cells_in w m Atom) in from (option_map id o) all ≡ all)
          → (let all = with_functor H f (atoms_in H m) in from (option_map id o) all ≡ all)
      first_with_list e = let i = mem_there p t w m s in
          subst (λ xs. from (option_map id o) (with_functor H f xs) ≡ with_functor H f xs) (sym (atoms_is p t w m i.1 i.2 i.3))
          (subst (λ xs. from (option_map id o) xs ≡ xs) (with_is (cells_in w m Atom) (atoms_of_list m)) e)

      pub first_with_functor : (let all = with_label w (label_number p.by_value f.label) f.arity (cells_in w m Atom) in from (option_map id o) all ≡ all) → IfSome o (λ a. functor_of H (id a) ≡ Some f)
      first_with_functor e = if_some id o (λ a. functor_of H a ≡ Some f) (λ a q.
          let j = in_filter (is_labelled w (label_number p.by_value f.label) f.arity) a (cells_in w m Atom) (from_in (option_map id o) (with_label w (label_number p.by_value f.label) f.arity (cells_in w m Atom)) e a q) in
          let i = atoms_of_list m a j.1 in passes a i.0 i.1 j.0)

      pub first_with_home : (let all = with_label w (label_number p.by_value f.label) f.arity (cells_in w m Atom) in from (option_map id o) all ≡ all) → IfSome o (λ a. home_of H (id a) ≡ Some m)
      first_with_home e = let i = mem_there p t w m s in if_some id o (λ a. home_of H a ≡ Some m) (λ a q.
          let j = in_filter (is_labelled w (label_number p.by_value f.label) f.arity) a (cells_in w m Atom) (from_in (option_map id o) (with_label w (label_number p.by_value f.label) f.arity (cells_in w m Atom)) e a q) in
          homes_in p t w k l m a i.2 i.3 j.1)

  -- what the web says of the next atom with the same label
  abbrev pub Follows : {X : Type 0} → (X → ℕ) → Option X → ℕ → Type 0
  Follows id o a = (m n : ℕ) → home_at w a ≡ Some m → web_label w a ≡ Some n → (let all = with_label w n (arity_at w a) (cells_in w m Atom) in from (option_map id o) all ≡ after a all)

  pub in_place_kind : (a : ℕ) → IsInPlace H a → kind_at w a ≡ Atom
  in_place_kind a s = let m = some_is (home_of H a) s in (in_place p t w k l a m.0 m.1).0

  module _ (r : IsPaired w) (c : Formed w) {X : Type 0} (id : X → ℕ) (o : Option X) (a : ℕ) (next : Follows id o a) where
    -- the label of an atom in place, and its functor
    own : (m : ℕ) → home_of H a ≡ Some m → (n : ℕ) × (web_label w a ≡ Some n) × (label_by (label_number p.by_value (label_by n)) ≡ label_by n)
    own m e = let i = in_place p t w k l a m e in let n = some_is (web_label w a) (label_some (w a) (some_cell p t w k l a m i.1)) in
        (n.0, n.1, ap label_by (number_back p.by_value n.0 (k.labels a n.0 i.0 n.1)))

    found : (m n : ℕ) → home_of H a ≡ Some m → web_label w a ≡ Some n → (q : ℕ) → option_map id o ≡ Some q → (is_labelled w n (arity_at w a) q ≡ true) × In q (cells_in w m Atom)
    found m n e h q u = let i = in_place p t w k l a m e in
        in_filter (is_labelled w n (arity_at w a)) q (cells_in w m Atom) (next_in a q (with_label w n (arity_at w a) (cells_in w m Atom))
        (subst (λ z. from z (with_label w n (arity_at w a) (cells_in w m Atom)) ≡ after a (with_label w n (arity_at w a) (cells_in w m Atom))) u (next m n i.1 h)))

    pub next_with_list : (m : ℕ) (f : Functor) → home_of H a ≡ Some m → functor_of H a ≡ Some f → (let all = with_functor H f (atoms_in H m) in from (option_map id o) all ≡ after a all)
    next_with_list m f e g =
        let i = in_place p t w k l a m e in
        let n = own m e in
        let mine : Functor = record { label = label_by n.0; arity = arity_at w a } in
        let same : Some mine ≡ Some f = sym (functor_by a n.0 i.0 n.1) ∙ g in
        let is : mine ≡ f = (cc) in
        let all = with_is mine n.2 (cells_in w m Atom) (atoms_of_list mine n.2 m) in
        let number = number_back p.by_value n.0 (k.labels a n.0 i.0 n.1) in
        subst (λ (h : Functor). from (option_map id o) (with_functor H h (atoms_in H m)) ≡ after a (with_functor H h (atoms_in H m))) is
        (subst (λ xs. from (option_map id o) (with_functor H mine xs) ≡ after a (with_functor H mine xs)) (sym (lists_are p t w k l r c m (no_post p m i.2 i.3)).0)
        (subst (λ xs. from (option_map id o) xs ≡ after a xs) all
        (subst (λ z. from (option_map id o) (with_label w z (arity_at w a) (cells_in w m Atom)) ≡ after a (with_label w z (arity_at w a) (cells_in w m Atom))) (sym number) (next m n.0 i.1 n.1))))

    pub next_with_functor : IsInPlace H a → IfSome o (λ b. functor_of H (id b) ≡ functor_of H a)
    next_with_functor s =
        let m = some_is (home_of H a) s in
        let i = in_place p t w k l a m.0 m.1 in
        let n = own m.0 m.1 in
        let mine : Functor = record { label = label_by n.0; arity = arity_at w a } in
        if_some id o (λ b. functor_of H b ≡ functor_of H a) (λ q u.
        let j = found m.0 n.0 m.1 n.1 q u in
        let b = atoms_of_list mine n.2 m.0 q j.1 in
        passes mine n.2 q b.0 b.1 (ap (λ z. is_labelled w z (arity_at w a) q) (number_back p.by_value n.0 (k.labels a n.0 i.0 n.1)) ∙ j.0) ∙ sym (functor_by a n.0 i.0 n.1))

    pub next_with_home : IsInPlace H a → IfSome o (λ b. home_of H (id b) ≡ home_of H a)
    next_with_home s =
        let m = some_is (home_of H a) s in
        let i = in_place p t w k l a m.0 m.1 in
        let n = own m.0 m.1 in
        if_some id o (λ b. home_of H b ≡ home_of H a) (λ q u. homes_in p t w k l m.0 q i.2 i.3 (found m.0 n.0 m.1 n.1 q u).1 ∙ sym m.1)
