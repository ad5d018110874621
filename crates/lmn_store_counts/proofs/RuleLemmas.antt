-- Rules go to the end of a membrane's, one by one.
use Rattle.std.proofs.Common.{◌≡◌, ◌≢◌, ℕ, zero, suc, ◌+◌, ◌-◌, ◌<◌, ◌≤◌, List, [], ◌∷◌, ◌++◌, length, take, Option, Some, None, refl, sym, ap, subst, ◌∙◌, inl, inr, arith, length-append}
use Rattle.std.proofs.lemmas.Bool.{cases_eq}
use Rattle.std.proofs.lemmas.List.{append_assoc}
use Rattle.std.specs.Option.{option_map}
use Rattle.std.specs.Prelude.{slice_index_or}
use Rattle.lmn_store_heap.specs.Heap.{HeapMem, alter, mem_with_rules}
use Rattle.lmn_store_heap.proofs.Listing.{alter_at, alter_away}
use Rattle.lmn_base.proofs.Lists.{length_taken as length-take_below}

with_two : (ks js : List ℕ) (x : HeapMem) → mem_with_rules js (mem_with_rules ks x) ≡ mem_with_rules (ks ++ js) x
with_two ks js x = λ i. record {
  atoms = x.atoms;
  mems = x.mems;
  rules = append_assoc x.rules ks js i;
  spare = (let n = length-append ks js in let e : x.spare - length ks - length js ≡ x.spare - length (ks ++ js) = omega arith in e) i;
  mark = x.mark;
  place = x.place;
}

map_two : (ks js : List ℕ) (o : Option HeapMem) → option_map (mem_with_rules js) (option_map (mem_with_rules ks) o) ≡ option_map (mem_with_rules (ks ++ js)) o
map_two ks js None = refl
map_two ks js (Some x) = ap (λ (z : HeapMem). Some z) (with_two ks js x)

rules_two : (f : ℕ → Option HeapMem) (n : ℕ) (ks js : List ℕ) → alter (alter f n (option_map (mem_with_rules ks))) n (option_map (mem_with_rules js)) ≡ alter f n (option_map (mem_with_rules (ks ++ js)))
rules_two f n ks js = λ i k. at k i
  where
    g : ℕ → Option HeapMem
    g = alter f n (option_map (mem_with_rules ks))

    at : (k : ℕ) → alter g n (option_map (mem_with_rules js)) k ≡ alter f n (option_map (mem_with_rules (ks ++ js))) k
    at k = elim (cases_eq k n) [
      | inl e ↦ subst (λ z. alter g n (option_map (mem_with_rules js)) z ≡ alter f n (option_map (mem_with_rules (ks ++ js))) z) (sym e)
          (alter_at g n (option_map (mem_with_rules js)) ∙ ap (option_map (mem_with_rules js)) (alter_at f n (option_map (mem_with_rules ks))) ∙ map_two ks js (f n)
          ∙ sym (alter_at f n (option_map (mem_with_rules (ks ++ js)))))
      | inr d ↦ alter_away g n (option_map (mem_with_rules js)) k d ∙ alter_away f n (option_map (mem_with_rules ks)) k d ∙ sym (alter_away f n (option_map (mem_with_rules (ks ++ js))) k d)
    ]

take_next : (rs : List ℕ) (i k : ℕ) → i < length rs → slice_index_or rs i 0 ≡ k → take i rs ++ k ∷ [] ≡ take (suc i) rs
take_next [] i k h e = absurd (omega arith)
take_next (r ∷ rs) zero k h e = ap (λ z. z ∷ []) (sym e)
take_next (r ∷ rs) (suc i) k h e = ap (λ xs. r ∷ xs) (take_next rs i k (omega arith) e)

-- all rules are taken
pub take_all : (rs : List ℕ) (i : ℕ) → i ≡ length rs → take i rs ≡ rs
take_all rs i e = rw e (by rs)
  where
    by : (rs : List ℕ) → take (length rs) rs ≡ rs
    by [] = refl
    by (r ∷ rs) = ap (λ xs. r ∷ xs) (by rs)

module _ (f g : ℕ → Option HeapMem) (n m i : ℕ) (rs : List ℕ) (now : g ≡ alter f n (option_map (mem_with_rules (take i rs)))) (below : i < length rs) where
  pub rules_next : (g1 : ℕ → Option HeapMem) (k : ℕ) → slice_index_or rs i 0 ≡ k → g1 ≡ alter g n (option_map (mem_with_rules (k ∷ []))) → g1 ≡ alter f n (option_map (mem_with_rules (take (i + 1) rs)))
  rules_next g1 k at e =
      e ∙ ap (λ z. alter z n (option_map (mem_with_rules (k ∷ [])))) now ∙ rules_two f n (take i rs) (k ∷ [])
      ∙ ap (λ ks. alter f n (option_map (mem_with_rules ks))) (take_next rs i k below at ∙ ap (λ j. take j rs) (let s : suc i ≡ i + 1 = omega arith in s))

  pub rules_same : n ≢ m → g m ≡ f m
  rules_same d = ap (λ (z : ℕ → Option HeapMem). z m) now ∙ alter_away f n (option_map (mem_with_rules (take i rs))) m (λ e. d (sym e))

  pub rules_spare : ((x : HeapMem) → f n ≡ Some x → length rs ≤ x.spare) → (x : HeapMem) → g n ≡ Some x → 1 ≤ x.spare
  rules_spare h x e = by (f n) refl (sym (alter_at f n (option_map (mem_with_rules (take i rs)))) ∙ sym (ap (λ (z : ℕ → Option HeapMem). z n) now) ∙ e)
    where
      by : (o : Option HeapMem) → f n ≡ o → option_map (mem_with_rules (take i rs)) o ≡ Some x → 1 ≤ x.spare
      by None u v = absurd (cc)
      by (Some y) u v =
          let w : mem_with_rules (take i rs) y ≡ x = (cc) in
          let room = h y u in
          let short = length-take_below rs i (omega arith) in
          let same : y.spare - length (take i rs) ≡ x.spare = ap (λ (z : HeapMem). z.spare) w in
          omega (arith, room)
