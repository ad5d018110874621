-- Instructions and codes by their numbers in a pool.
use Rattle.std.proofs.Common.{ℕ, zero, suc, ◌≡◌, ◌<◌, List, [], ◌∷◌, ◌++◌, Some, refl, ap, sym, subst, length, ◌∙◌}
use Rattle.std.specs.Prelude.{slice_get, option_to_list}
use Rattle.lmn_base.proofs.Lists.{get_there, get_below}
use Rattle.lmn_instr_code.specs.declared.instr.Instr.{Instr}
use Rattle.lmn_instr_pool.specs.declared.codes.Numbered.{Numbered}
use Rattle.lmn_instr_pool.specs.Pools.{AreThere, Keeps, Selects, picked}
use Rattle.lmn_instr_pool.specs.Extents.{EndsAt, HasExtent}
use Rattle.lmn_instr_pool.specs.Stored.{AreStored, stored_codes}

-- the instructions that the numbers of a pool are those of
pub selected : (pool : List Instr) (ns : List ℕ) (xs : List Instr) → Selects pool ns xs → picked pool ns ≡ xs
selected pool [] [] s = refl
selected pool [] (x ∷ xs) s = absurd s
selected pool (n ∷ ns) [] s = absurd s
selected pool (n ∷ ns) (x ∷ xs) s = ap (λ o. option_to_list o ++ picked pool ns) s.0 ∙ ap (λ ys. x ∷ ys) (selected pool ns xs s.1)

-- numbers of instructions are numbers of the pool
pub selected_there : (pool : List Instr) (ns : List ℕ) (xs : List Instr) → Selects pool ns xs → AreThere pool ns
selected_there pool [] [] s = tt
selected_there pool [] (x ∷ xs) s = absurd s
selected_there pool (n ∷ ns) [] s = absurd s
selected_there pool (n ∷ ns) (x ∷ xs) s = (get_below pool n x s.0, selected_there pool ns xs s.1)

-- numbers of the pool are those of the instructions that are picked by them
pub there_selected : (pool : List Instr) (ns : List ℕ) → AreThere pool ns → Selects pool ns (picked pool ns)
there_selected pool [] t = tt
there_selected pool (n ∷ ns) t =
    let x = get_there pool n t.0 in
    subst (λ o. Selects pool (n ∷ ns) (option_to_list o ++ picked pool ns)) (sym x.1) (x.1, there_selected pool ns t.1)

-- numbers stay those of the instructions where each means what it meant
pub keeps_selected : (p q : List Instr) → Keeps p q → (ns : List ℕ) (xs : List Instr) → Selects p ns xs → Selects q ns xs
keeps_selected p q k [] [] s = tt
keeps_selected p q k [] (x ∷ xs) s = absurd s
keeps_selected p q k (n ∷ ns) [] s = absurd s
keeps_selected p q k (n ∷ ns) (x ∷ xs) s = (k n x s.0, keeps_selected p q k ns xs s.1)

-- one number more is that of one instruction more
pub selects_more : (pool : List Instr) (ns : List ℕ) (xs : List Instr) (n : ℕ) (x : Instr) → Selects pool ns xs → slice_get pool n ≡ Some x → Selects pool (ns ++ n ∷ []) (xs ++ x ∷ [])
selects_more pool [] [] n x s e = (e, tt)
selects_more pool [] (y ∷ xs) n x s e = absurd s
selects_more pool (m ∷ ns) [] n x s e = absurd s
selects_more pool (m ∷ ns) (y ∷ xs) n x s e = (s.0, selects_more pool ns xs n x s.1 e)

selected_length : (pool : List Instr) (ns : List ℕ) (xs : List Instr) → Selects pool ns xs → length ns ≡ length xs
selected_length pool [] [] s = refl
selected_length pool [] (x ∷ xs) s = absurd s
selected_length pool (n ∷ ns) [] s = absurd s
selected_length pool (n ∷ ns) (x ∷ xs) s = ap (λ m. suc m) (selected_length pool ns xs s.1)

-- as many instructions are picked as there are numbers
pub picked_length : (pool : List Instr) (ns : List ℕ) → AreThere pool ns → length ns ≡ length (picked pool ns)
picked_length pool ns t = selected_length pool ns (picked pool ns) (there_selected pool ns t)

selected_at : (pool : List Instr) (ns : List ℕ) (xs : List Instr) (i n : ℕ) (x : Instr) → Selects pool ns xs → slice_get ns i ≡ Some n → slice_get pool n ≡ Some x → slice_get xs i ≡ Some x
selected_at pool [] xs i n x s e f = absurd (cc)
selected_at pool (m ∷ ns) [] i n x s e f = absurd s
selected_at pool (m ∷ ns) (y ∷ xs) zero n x s e f =
    let same : m ≡ n = cc in sym s.0 ∙ ap (λ k. slice_get pool k) same ∙ f
selected_at pool (m ∷ ns) (y ∷ xs) (suc i) n x s e f = selected_at pool ns xs i n x s.1 e f

-- what is picked at a place is what stands at the number there
pub picked_at : (pool : List Instr) (ns : List ℕ) (i n : ℕ) (x : Instr) → AreThere pool ns → slice_get ns i ≡ Some n → slice_get pool n ≡ Some x → slice_get (picked pool ns) i ≡ Some x
picked_at pool ns i n x t e f = selected_at pool ns (picked pool ns) i n x (there_selected pool ns t) e f

-- the number at a place is one of the pool
pub there_at : (pool : List Instr) (ns : List ℕ) (i n : ℕ) → AreThere pool ns → slice_get ns i ≡ Some n → n < length pool
there_at pool [] i n t e = absurd (cc)
there_at pool (m ∷ ns) zero n t e = let same : m ≡ n = cc in subst (λ k. k < length pool) same t.0
there_at pool (m ∷ ns) (suc i) n t e = there_at pool ns i n t.1 e

-- two puts keep what each keeps
pub keeps_on : (p q r : List Instr) → Keeps p q → Keeps q r → Keeps p r
keeps_on p q r k l = λ n x e. l n x (k n x e)

keeps_picked : (p q : List Instr) → Keeps p q → (ns : List ℕ) → AreThere p ns → (picked q ns ≡ picked p ns) × AreThere q ns
keeps_picked p q k ns t =
    let s = keeps_selected p q k ns (picked p ns) (there_selected p ns t) in
    (selected q ns (picked p ns) s, selected_there q ns (picked p ns) s)

-- codes are there, and are what they were, where each number means what it meant
pub keeps_stored : (p q : List Instr) → Keeps p q → (cs : List Numbered) → AreStored p cs → (stored_codes q cs ≡ stored_codes p cs) × AreStored q cs
keeps_stored p q k [] t = (refl, tt)
keeps_stored p q k (c ∷ cs) t =
    let h = keeps_picked p q k c.head t.0.0 in
    let more = keeps_stored p q k cs t.1 in
    (λ i. record { head = h.0 i; body = c.body } ∷ more.0 i, ((h.1, subst (λ xs. EndsAt c.acts xs) (sym h.0) t.0.1, t.0.2), more.1))

-- one code more
pub stored_more : (p : List Instr) (cs : List Numbered) (c : Numbered) (h : List Instr) → AreStored p cs → Selects p c.head h → EndsAt c.acts h → HasExtent c.extent c.body →
    (stored_codes p (cs ++ c ∷ []) ≡ stored_codes p cs ++ record { head = h; body = c.body } ∷ []) × AreStored p (cs ++ c ∷ [])
stored_more p [] c h t s n u =
    let e = selected p c.head h s in
    (λ i. record { head = e i; body = c.body } ∷ [], ((selected_there p c.head h s, subst (λ xs. EndsAt c.acts xs) (sym e) n, u), tt))
stored_more p (d ∷ cs) c h t s n u =
    let more = stored_more p cs c h t.1 s n u in
    (ap (λ xs. record { head = picked p d.head; body = d.body } ∷ xs) more.0, (t.0, more.1))

-- there are as many codes as rows of numbers
pub stored_length : (p : List Instr) (cs : List Numbered) → length cs ≡ length (stored_codes p cs)
stored_length p [] = refl
stored_length p (c ∷ cs) = ap (λ n. suc n) (stored_length p cs)

-- the code at a place has the head with the numbers there, the pool has the instructions of it, which are COMMIT from a place on, and the
-- extent is that of its body
pub stored_at : (p : List Instr) (cs : List Numbered) (i : ℕ) (c : Numbered) → AreStored p cs → slice_get cs i ≡ Some c →
    (slice_get (stored_codes p cs) i ≡ Some (record { head = picked p c.head; body = c.body })) × AreThere p c.head × EndsAt c.acts (picked p c.head) × HasExtent c.extent c.body
stored_at p [] i c t e = absurd (cc)
stored_at p (d ∷ cs) zero c t e =
    let same : d ≡ c = cc in
    (ap (λ x. Some (record { head = picked p x.head; body = x.body })) same, subst (λ x. AreThere p x.head) same t.0.0, subst (λ x. EndsAt x.acts (picked p x.head)) same t.0.1, subst (λ x. HasExtent x.extent x.body) same t.0.2)
stored_at p (d ∷ cs) (suc i) c t e = stored_at p cs i c t.1 e
