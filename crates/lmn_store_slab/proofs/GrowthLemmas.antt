-- A table with one more list, or one more number.
use Rattle.std.proofs.Common.{◌≡◌, ℕ, zero, suc, ◌+◌, ◌<◌, ◌≤◌, List, [], ◌∷◌, ◌++◌, length, map, get_or, Some, None, refl, sym, ap, subst, ◌∙◌, inl, inr, arith, length-append}
use Rattle.std.proofs.lemmas.Bool.{cases_eq}
use Rattle.std.proofs.lemmas.List.{length-map}
use Rattle.lmn_store_slab.specs.declared.node.Node.{Node}
use Rattle.lmn_store_slab.specs.declared.node.Ends.{Ends}
use Rattle.lmn_store_slab.specs.Lines.{free_node, no_ends, node, ends_of_list, RunsThrough, walk, numbers_of_list, Line, WellLinked, HeldLists, view_of}
use Rattle.lmn_store_slab.proofs.SoundLemmas.{line_is}
use Rattle.lmn_store_heap.proofs.ListLemmas.{each_of, each_in}

-- the default at the end changes nothing that is read
pub read_more : {X : Type 0} (xs : List X) (d : X) (i : ℕ) → get_or (xs ++ d ∷ []) i d ≡ get_or xs i d
read_more [] d zero = refl
read_more [] d (suc i) = refl
read_more (x ∷ xs) d zero = refl
read_more (x ∷ xs) d (suc i) = read_more xs d i

same_nodes : (ns : List Node) → node (ns ++ free_node ∷ []) ≡ node ns
same_nodes ns = λ i z. read_more ns free_node z i

more : (ns : List Node) → length (ns ++ free_node ∷ []) ≡ length ns + 1
more ns = length-append ns (free_node ∷ [])

more_line : (ns : List Node) (l : ℕ) (e : Ends) (xs : List ℕ) → Line ns l e xs → Line (ns ++ free_node ∷ []) l e xs
more_line ns l e xs h = record {
  runs = subst (λ f. RunsThrough f None e.first xs e.last None) (sym (same_nodes ns)) h.runs;
  each = each_of _ xs (λ z i.
      let was = each_in (λ u. (u < length ns) × ((node ns u).home ≡ Some l)) xs z h.each i in
      (let k = more ns in omega (arith, was.0), ap (λ (u : Node). u.home) (read_more ns free_node z) ∙ was.1));
  distinct = h.distinct;
}

module _ (ns : List Node) (es : List Ends) (s : WellLinked ns es) where
  more_lists : (k : ℕ) → k < length es → numbers_of_list (ns ++ free_node ∷ []) (ends_of_list es k) ≡ numbers_of_list ns (ends_of_list es k)
  more_lists k w = line_is (ns ++ free_node ∷ []) k (ends_of_list es k) _ (more_line ns k (ends_of_list es k) _ (s.line k w))

  pub number_sound : WellLinked (ns ++ free_node ∷ []) es
  number_sound = record {
    line = λ l w. rw (more_lists l w) (more_line ns l (ends_of_list es l) (numbers_of_list ns (ends_of_list es l)) (s.line l w));
    homes = λ x l h. let was = s.homes x l (sym (ap (λ (u : Node). u.home) (read_more ns free_node x)) ∙ h) in (was.0, rw (more_lists l was.0) was.1);
  }

  map_as : (g h : Ends → List ℕ) (us : List Ends) → ((k : ℕ) → k < length us → g (ends_of_list us k) ≡ h (ends_of_list us k)) → map g us ≡ map h us
  map_as g h [] a = refl
  map_as g h (u ∷ us) a = let e : g u ≡ h u = a 0 (omega arith) in rw e (ap (λ w. h u ∷ w) (map_as g h us (λ k w. a (suc k) (omega arith))))

  pub number_view : view_of (ns ++ free_node ∷ []) es ≡ record (view_of ns es) { size = length ns + 1 }
  number_view = λ i. record { lists = map_as (numbers_of_list (ns ++ free_node ∷ [])) (numbers_of_list ns) es more_lists i; size = more ns i }

  no_line : numbers_of_list ns no_ends ≡ []
  no_line = by (length ns)
    where
      by : (n : ℕ) → walk (node ns) n None ≡ []
      by zero = refl
      by (suc n) = refl

  pub list_sound : WellLinked ns (es ++ no_ends ∷ [])
  list_sound = record {
    line = λ l w. rw (read_more es no_ends l) (elim (cases_eq l (length es)) [
      | inl same ↦ let past : ends_of_list es l ≡ no_ends = past_end es l (omega arith) in rw (past, no_line) (record { runs = (refl, refl); each = tt; distinct = tt })
      | inr other ↦ s.line l (let k = length-append es (no_ends ∷ []) in omega arith)
    ]);
    homes = λ x l h. let was = s.homes x l h in (let k = length-append es (no_ends ∷ []) in omega (arith, was.0), rw (read_more es no_ends l) was.1);
  }
    where
      past_end : (us : List Ends) (l : ℕ) → length us ≤ l → ends_of_list us l ≡ no_ends
      past_end [] l w = refl
      past_end (u ∷ us) zero w = absurd (omega arith)
      past_end (u ∷ us) (suc l) w = past_end us l (omega arith)

  map_more : (us : List Ends) → map (numbers_of_list ns) (us ++ no_ends ∷ []) ≡ map (numbers_of_list ns) us ++ [] ∷ []
  map_more [] = ap (λ u. u ∷ []) no_line
  map_more (u ∷ us) = ap (λ w. numbers_of_list ns u ∷ w) (map_more us)

  pub list_view : view_of ns (es ++ no_ends ∷ []) ≡ record (view_of ns es) { lists = map (numbers_of_list ns) es ++ [] ∷ [] }
  list_view = λ i. record { lists = map_more es i; size = length ns }

-- the same of the value that a table has
module _ (ns : List Node) (es : List Ends) (h : HeldLists) (v : view_of ns es ≡ h) (s : WellLinked ns es) where
  pub list_count : length es ≡ length h.lists
  list_count = sym (length-map es (numbers_of_list ns)) ∙ ap (λ (u : HeldLists). length u.lists) v

  pub list_added : view_of ns (es ++ no_ends ∷ []) ≡ record h { lists = h.lists ++ [] ∷ [] }
  list_added = list_view ns es s ∙ (λ i. record { lists = (v i).lists ++ [] ∷ []; size = (v i).size })

  pub number_count : length ns ≡ h.size
  number_count = ap (λ (u : HeldLists). u.size) v

  pub number_added : view_of (ns ++ free_node ∷ []) es ≡ record h { size = h.size + 1 }
  number_added = number_view ns es s ∙ (λ i. record { lists = (v i).lists; size = (v i).size + 1 })
