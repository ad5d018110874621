-- What head code does on a heap it does on the graph of the heap.
use Rattle.std.proofs.Common.{ℕ, zero, suc, ◌≡◌, List, [], ◌∷◌, refl, sym, ap, subst, inl, inr}
use Rattle.lmn_store_heap.specs.Conditions.{Above as AboveInHeap}
use Rattle.lmn_store_heap.specs.Heap.{Heap, atoms_in, mems_in}
use Rattle.lmn_solid_heads.specs.Embeddings.{ListNotAfter, StandsWithin as WithinInHeap, index_of}
use Rattle.lmn_instr_code.specs.declared.instr.Instr.{Instr}
use Rattle.lmn_instr_code.specs.declared.instr.Instr.TheVariants.{FindAtom, NotIn, AnyMem, IsInt, IsUnary, IsGround, NAtoms, IsClosed}
use Rattle.lmn_instr_code.specs.Running as heap
use Rattle.lmn_instr_code.specs.Running.{HasOthers, HeadRegisters, HeadSize, size_of_head}
use Rattle.lmn_verify_solids.specs.Graphs.{Above, Graph, StandsWithin}
use Rattle.lmn_verify_solids.specs.Heads.{AllHold, InstructionHolds, IsFirstSuccess, IsInSome, IsLeftIn, Succeeds, choices}
use Rattle.lmn_verify_solids.specs.Heaps.{graph_of}

module _ (h : Heap) where
  abbrev G : Graph
  G = graph_of h

  above_there : (k m n : ℕ) → AboveInHeap h k m n → Above G k m n
  above_there zero m n w = w
  above_there (suc k) m n w = (w.0, w.1, above_there k m w.0 w.2)

  above_back : (k m n : ℕ) → Above G k m n → AboveInHeap h k m n
  above_back zero m n w = w
  above_back (suc k) m n w = (w.0, w.1, above_back k m w.0 w.2)

  within_there : (a m : ℕ) → WithinInHeap h a m → StandsWithin G a m
  within_there a m w = (w.0, w.1, w.2, above_there w.1 m w.0 w.3)

  within_back : (a m : ℕ) → StandsWithin G a m → WithinInHeap h a m
  within_back a m w = (w.0, w.1, w.2, above_back w.1 m w.0 w.3)

  module _ (r : HeadRegisters) where
    some_there : (xs : List ℕ) (b : ℕ) → heap.IsInSome h r xs b → IsInSome G r xs b
    some_there [] b w = w
    some_there (x ∷ xs) b (inl w) = inl w
    some_there (x ∷ xs) b (inr w) = inr (some_there xs b w)

    some_back : (xs : List ℕ) (b : ℕ) → IsInSome G r xs b → heap.IsInSome h r xs b
    some_back [] b w = w
    some_back (x ∷ xs) b (inl w) = inl w
    some_back (x ∷ xs) b (inr w) = inr (some_back xs b w)

    others : (P Q : ℕ → Type 0) → ((b : ℕ) → P b → Q b) → ((b : ℕ) → Q b → P b) → (n : ℕ) (xs : List ℕ) → HasOthers P n xs → HasOthers Q n xs
    others P Q there back n xs w = record {
      others = w.others;
      differ = w.differ;
      count = w.count;
      there = w.there;
      apart = λ b i s. w.apart b i (back b s);
      rest = λ b i. elim (w.rest b i) [ inl o ↦ inl o | inr s ↦ inr (there b s) ];
    }

    module _ (n : HeadSize) where
      left_there : (m : ℕ) (xs : List ℕ) (b : ℕ) → heap.IsLeftIn h n r m xs b → IsLeftIn G n r m xs b
      left_there m xs b (inl w) = inl (w.0, w.1, (λ s. w.2 (some_back xs b s)))
      left_there m xs b (inr w) = inr (w.0, w.1, w.2, within_there b w.0 w.3)

      left_back : (m : ℕ) (xs : List ℕ) (b : ℕ) → IsLeftIn G n r m xs b → heap.IsLeftIn h n r m xs b
      left_back m xs b (inl w) = inl (w.0, w.1, (λ s. w.2 (some_there xs b s)))
      left_back m xs b (inr w) = inr (w.0, w.1, w.2, within_back b w.0 w.3)

      holds_there : (i : Instr) → heap.InstructionHolds h n r i → InstructionHolds G n r i
      holds_there (NotIn p m) w = λ q e s. w q e (within_back q.0 (r.images.membrane m) s)
      holds_there (IsInt x p m) w = (w.held, w.of_kind, w.whole, w.apart)
      holds_there (IsUnary x p m) w = (w.held, w.of_kind, w.whole, w.apart)
      holds_there (IsGround x p m) w = (w.held, w.of_kind, w.whole, w.apart)
      holds_there (NAtoms m c xs) w = others (heap.IsInSome h r xs) (IsInSome G r xs) (some_there xs) (some_back xs) c (atoms_in h (r.images.membrane m)) w
      holds_there (IsClosed m xs) w = λ b i p s e. left_there m xs p.0 (w b i p (left_back m xs b s) e)
      holds_there _ w = w

      holds_back : (i : Instr) → InstructionHolds G n r i → heap.InstructionHolds h n r i
      holds_back (NotIn p m) w = λ q e s. w q e (within_there q.0 (r.images.membrane m) s)
      holds_back (IsInt x p m) w = record { held = w.0; of_kind = w.1; whole = w.2; apart = w.3 }
      holds_back (IsUnary x p m) w = record { held = w.0; of_kind = w.1; whole = w.2; apart = w.3 }
      holds_back (IsGround x p m) w = record { held = w.0; of_kind = w.1; whole = w.2; apart = w.3 }
      holds_back (NAtoms m c xs) w = others (IsInSome G r xs) (heap.IsInSome h r xs) (some_back xs) (some_there xs) c (atoms_in h (r.images.membrane m)) w
      holds_back (IsClosed m xs) w = λ b i p s e. left_back m xs p.0 (w b i p (left_there m xs b s) e)
      holds_back _ w = w

      all_there : (code : List Instr) → heap.AllHold h n r code → AllHold G n r code
      all_there [] w = w
      all_there (i ∷ is) w = (holds_there i w.0, all_there is w.1)

      all_back : (code : List Instr) → AllHold G n r code → heap.AllHold h n r code
      all_back [] w = w
      all_back (i ∷ is) w = (holds_back i w.0, all_back is w.1)

    choices_same : (code : List Instr) → choices G r code ≡ heap.choices h r code
    choices_same [] = refl
    choices_same (FindAtom a m f ∷ is) = ap (λ xs. index_of (r.images.atom a) (atoms_in h (r.images.membrane m)) ∷ xs) (choices_same is)
    choices_same (AnyMem m k ∷ is) = ap (λ xs. index_of (r.images.membrane m) (mems_in h (r.images.membrane k)) ∷ xs) (choices_same is)
    choices_same (_ ∷ is) = choices_same is

  -- code succeeds on both,
  pub succeeds_there : (code : List Instr) (m : ℕ) (r : HeadRegisters) → heap.Succeeds h code m r → Succeeds G code m r
  succeeds_there code m r w = (w.here, all_there r (size_of_head code) code w.all)

  pub succeeds_back : (code : List Instr) (m : ℕ) (r : HeadRegisters) → Succeeds G code m r → heap.Succeeds h code m r
  succeeds_back code m r w = record { here = w.0; all = all_back r (size_of_head code) code w.1 }

  -- and first with the same registers
  pub first_there : (code : List Instr) (m : ℕ) (r : HeadRegisters) → heap.IsFirstSuccess h code m r → IsFirstSuccess G code m r
  first_there code m r w = (
    succeeds_there code m r w.succeeds,
    (λ s t. subst (λ xs. ListNotAfter xs (choices G s code)) (sym (choices_same r code))
        (subst (ListNotAfter (heap.choices h r code)) (sym (choices_same s code)) (w.first s (succeeds_back code m s t)))),
  )

  pub first_back : (code : List Instr) (m : ℕ) (r : HeadRegisters) → IsFirstSuccess G code m r → heap.IsFirstSuccess h code m r
  first_back code m r w = record {
    succeeds = succeeds_back code m r w.0;
    first = λ s t. subst (λ xs. ListNotAfter xs (heap.choices h s code)) (choices_same r code)
        (subst (ListNotAfter (choices G r code)) (choices_same s code) (w.1 s (succeeds_there code m s t)));
  }
