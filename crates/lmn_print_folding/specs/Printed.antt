-- What is printed of an atom, where own marks tell the items.
use Rattle.std.specs.Prelude.{ℕ, suc, ◌≡◌, ◌+◌, ◌-◌, List, Some, None}
use Rattle.lmn_base.specs.declared.functor.Functor.{Functor}
use Rattle.lmn_congruence.specs.Rules.{Name}
use Rattle.lmn_congruence.specs.Translation.{label_of}
use Rattle.lmn_print_folded.specs.Terms.{FoldedTerm, link, labelled, FoldedTerms, no_term, term_and, FoldedItem}
use Rattle.lmn_store_heap.specs.Heap.{Heap, arity_of, functor_of}
use Rattle.lmn_print_folding.specs.Marks.{term_at}

-- `name a i` is the number of the link at the port i of the atom a.
mutual
  -- The argument at port i of the atom a: the term of another atom without its last argument, or a link.
  pub data PrintsArgument (names : List Name) (s : Heap) (name : ℕ → ℕ → ℕ) : ℕ → ℕ → FoldedTerm → Type 0 where
    as_link : {a i : ℕ} → term_at s a i ≡ None → PrintsArgument names s name a i (link (name a i))
    as_term : {a i : ℕ} {ts : FoldedTerms} (c : ℕ) (f : Functor) → term_at s a i ≡ Some c → functor_of s c ≡ Some f
        → PrintsAll names s name c 0 (arity_of s c - 1) ts → PrintsArgument names s name a i (labelled (label_of names f.label) ts)

  -- so many arguments from port i on
  pub data PrintsAll (names : List Name) (s : Heap) (name : ℕ → ℕ → ℕ) : ℕ → ℕ → ℕ → FoldedTerms → Type 0 where
    none : {a i : ℕ} → PrintsAll names s name a i 0 no_term
    more : {a i n : ℕ} {t : FoldedTerm} {ts : FoldedTerms} → PrintsArgument names s name a i t → PrintsAll names s name a (i + 1) n ts
        → PrintsAll names s name a i (suc n) (term_and t ts)

-- an atom as an item, with all its arguments
pub record PrintsItem (names : List Name) (s : Heap) (name : ℕ → ℕ → ℕ) (a : ℕ) (i : FoldedItem) : Type 0 where
  pub functor : Functor
  pub is : functor_of s a ≡ Some functor
  pub label : i.label ≡ label_of names functor.label
  pub arguments : PrintsAll names s name a 0 (arity_of s a) i.arguments
