-- The atoms and the rules of a membrane, one by one.
use Rattle.std.proofs.Common.{◌≡◌, ℕ, zero, suc, ◌+◌, ◌-◌, ◌<◌, ◌≤◌, Bool, true, false, List, [], ◌∷◌, ◌++◌, map, length, Option, Some, None, IsSome, IfSome, refl, sym, ap, ◌∙◌, subst, arith}
use Rattle.std.specs.Prelude.{codes}
use Rattle.std.specs.Option.{option_map, option_and_then}
use Rattle.lmn_base.specs.declared.functor.Functor.{Functor}
use Rattle.lmn_congruence.specs.Rules.{Name}
use Rattle.lmn_congruence.specs.Translation.{label_of}
use Rattle.lmn_store_heap.specs.Heap.{Heap, HeapAtom, IsAtom, IsInPlace, functor_of, home_of, home_by}
use Rattle.lmn_store_heap.specs.Lists.{from, after}
use Rattle.lmn_store_heap.specs.Solid.{links_from}
use Rattle.lmn_io.specs.Gathering.{SinkState, Adds}
use Rattle.lmn_flatten_plain.specs.Words.{text_of, with_commas, link_name, link_piece, links_pieces}
use Rattle.lmn_flatten_plain.specs.Labels.{label_text}
use Rattle.lmn_print_plain.specs.Rows.{between_if, in_row}
use Rattle.lmn_print_plain.specs.Stored.{number_by_mark, stored_text, atom_text}
use Rattle.lmn_print_plain.proofs.DueLemmas.{Due, due_first, due_next, due_as, due_last, row_step, fewer_left}
use Rattle.lmn_print_plain.proofs.LeafLemmas.{label_is, links_row}
use Rattle.lmn_print_plain.proofs.RowLemmas.{comma_row}
use Rattle.lmn_flatten_plain.proofs.LaidLines.{text_append}

-- Atoms by `first` and `next`.

-- at first all atoms of a membrane are due
pub atoms_first : (s : List ℕ) (f : ℕ → List ℕ) (next : Option ℕ) (xs : List ℕ) (o : SinkState) → from next xs ≡ xs → Due (in_row s false (map f xs)) (in_row s false (map f (from next xs))) o o
atoms_first s f next xs o e = due_as (in_row s false (map f xs)) (in_row s false (map f xs)) (in_row s false (map f (from next xs))) o o (ap (λ ys. in_row s false (map f ys)) (sym e)) (due_first (in_row s false (map f xs)) o)

-- then one is written
pub atoms_next : {A : Type 0} (id : A → ℕ) (s : List ℕ) (any : Bool) (f : ℕ → List ℕ) (a : A) (now next : Option A) (xs whole : List ℕ) (before o1 o2 o3 : SinkState)
    → now ≡ Some a → from (option_map id next) xs ≡ after (id a) xs → Due whole (in_row s any (map f (from (option_map id now) xs))) before o1 → Adds (between_if s any) o1 o2 → Adds (f (id a)) o2 o3
    → Due whole (in_row s true (map f (from (option_map id next) xs))) before o3
atoms_next id s any f a now next xs whole before o1 o2 o3 is e d h k =
    row_step s any f (id a) (option_map id next) xs whole before o1 o2 o3 e (subst (λ o. Due whole (in_row s any (map f (from (option_map id o) xs))) before o1) is d) h k

-- from the next atom on there are fewer than from this one
pub atoms_fewer : {A : Type 0} (id : A → ℕ) (a : A) (now next : Option A) (xs : List ℕ) → now ≡ Some a → from (option_map id next) xs ≡ after (id a) xs
    → length (from (option_map id next) xs) < length (from (option_map id now) xs)
atoms_fewer id a now next xs is e =
    subst (λ o. length (from (option_map id next) xs) < length (from (option_map id o) xs)) (sym is) (fewer_left (id a) (option_map id next) xs e)

-- behind the last atom all are written
pub atoms_end : {A : Type 0} (id : A → ℕ) (s : List ℕ) (any : Bool) (f : ℕ → List ℕ) (now : Option A) (xs whole : List ℕ) (before o : SinkState)
    → ((a : A) → now ≡ Some a → ⊥) → Due whole (in_row s any (map f (from (option_map id now) xs))) before o → Adds whole before o
atoms_end id s any f None xs whole before o none d = due_last whole before o d
atoms_end id s any f (Some a) xs whole before o none d = absurd (none a refl)

-- an atom with a home is one
pub atom_at_home : (h : Heap) (a m : ℕ) → home_of h a ≡ Some m → IsAtom h a
atom_at_home h a m e = by (h.atoms a) e
  where
    by : (o : Option HeapAtom) → option_and_then (λ x. home_by x.place) o ≡ Some m → IsSome o
    by None e = absurd (cc e)
    by (Some x) e = refl

-- what has a home is in place
pub placed_at_home : (h : Heap) (a m : ℕ) → home_of h a ≡ Some m → IsInPlace h a
placed_at_home h a m e = subst IsSome (sym e) refl

-- the next one of a list has the same home
pub same_home : {A : Type 0} (id : A → ℕ) (h : Heap) (a : A) (m : ℕ) (next : Option A) → home_of h (id a) ≡ Some m → IfSome next (λ b. home_of h (id b) ≡ home_of h (id a)) → IfSome next (λ b. home_of h (id b) ≡ Some m)
same_home id h a m None e i = tt
same_home id h a m (Some b) e i = i ∙ e

-- Ports.

numbered_at : (name : ℕ → ℕ → ℕ) (a i n k : ℕ) → n ≡ suc k → links_from name a i n ≡ name a i ∷ links_from name a (i + 1) k
numbered_at name a i n k e = ap (links_from name a i) e

-- at first all links of an atom are due
pub ports_first : (s : List ℕ) (f : ℕ → List ℕ) (name : ℕ → ℕ → ℕ) (a n : ℕ) (o : SinkState) → Due (in_row s false (map f (links_from name a 0 n))) (in_row s false (map f (links_from name a 0 (n - 0)))) o o
ports_first s f name a n o =
    due_as (in_row s false (map f (links_from name a 0 n))) (in_row s false (map f (links_from name a 0 n))) (in_row s false (map f (links_from name a 0 (n - 0)))) o o
    (ap (λ k. in_row s false (map f (links_from name a 0 k))) (let e : n ≡ n - 0 = omega arith in e)) (due_first (in_row s false (map f (links_from name a 0 n))) o)

-- then one is written
pub ports_next : (s : List ℕ) (any : Bool) (f : ℕ → List ℕ) (name : ℕ → ℕ → ℕ) (a i n link : ℕ) (whole : List ℕ) (before o1 o2 o3 : SinkState) → i < n → link ≡ name a i
    → Due whole (in_row s any (map f (links_from name a i (n - i)))) before o1 → Adds (between_if s any) o1 o2 → Adds (f link) o2 o3
    → Due whole (in_row s true (map f (links_from name a (i + 1) (n - (i + 1))))) before o3
ports_next s any f name a i n link whole before o1 o2 o3 l e d h k =
    let rest = in_row s true (map f (links_from name a (i + 1) (n - (i + 1)))) in
    let at : in_row s any (map f (links_from name a i (n - i))) ≡ between_if s any ++ (f link ++ rest) =
    ap (λ ys. in_row s any (map f ys)) (numbered_at name a i (n - i) (n - (i + 1)) (omega (arith, l)) ∙ ap (λ x. x ∷ links_from name a (i + 1) (n - (i + 1))) (sym e)) in
    due_next whole (f link ++ rest) (f link) rest before o2 o3 refl (due_next whole (in_row s any (map f (links_from name a i (n - i)))) (between_if s any) (f link ++ rest) before o1 o2 at d h) k

-- behind the last all are
pub ports_end : (s : List ℕ) (any : Bool) (f : ℕ → List ℕ) (name : ℕ → ℕ → ℕ) (a i n : ℕ) (whole : List ℕ) (before o : SinkState) → n ≤ i
    → Due whole (in_row s any (map f (links_from name a i (n - i)))) before o → Adds whole before o
ports_end s any f name a i n whole before o l d =
    due_last whole before o (due_as whole (in_row s any (map f (links_from name a i (n - i)))) [] before o (ap (λ k. in_row s any (map f (links_from name a i k))) (let e : n - i ≡ 0 = omega (arith, l) in e)) d)

-- the links of an atom in parentheses
pub ports_text : (name : ℕ → ℕ → ℕ) (a n : ℕ) → 0 < n
    → codes "(" ++ (in_row (codes ", ") false (map link_name (links_from name a 0 n)) ++ codes ")") ≡ text_of (links_pieces (links_from name a 0 n))
ports_text name a zero h = absurd (omega (arith, h))
ports_text name a (suc n) h =
    let ps = map (λ y. link_piece y ∷ []) (links_from name a 0 (suc n)) in
    sym (ap (λ t. 40 ∷ t) (text_append (with_commas ps) _ ∙ ap (λ t. t ++ (41 ∷ [])) (comma_row ps ∙ ap (in_row (codes ", ") false) (links_row (links_from name a 0 (suc n))))))

-- an atom by its label and its links
pub atom_is_written : (names : List Name) (h : Heap) (a : ℕ) (f : Functor) → functor_of h a ≡ Some f
    → label_text (label_of names f.label) ++ text_of (links_pieces (links_from (number_by_mark h) a 0 f.arity)) ≡ atom_text names h a
atom_is_written names h a f e = by (h.atoms a) e
  where
    by : (o : Option HeapAtom) → option_map (λ x. x.functor) o ≡ Some f
        → label_text (label_of names f.label) ++ text_of (links_pieces (links_from (number_by_mark h) a 0 f.arity)) ≡ stored_text names (number_by_mark h) a o
    by None e = absurd (cc e)
    by (Some x) e =
        let same : x.functor ≡ f = cc e in
        ap (λ t. t ++ text_of (links_pieces (links_from (number_by_mark h) a 0 f.arity))) (label_is (label_of names f.label))
        ∙ ap (λ g. stored_text names (number_by_mark h) a (Some (record x { functor = g }))) (sym same)
