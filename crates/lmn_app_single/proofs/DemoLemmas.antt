-- The texts that `demo` runs.
use Rattle.std.proofs.Common.{◌≡◌, ℕ, zero, suc, ◌+◌, ◌*◌, ◌≤◌, List, ◌++◌, length, codes, append_assoc, append-nil, sym, ap, ◌∙◌, arith, length-append}
use Rattle.std.specs.Prelude.{decimal}
use Rattle.std.specs.List.{flat_map, range_with_len}
use Rattle.std.specs.Fmt.{digits}
use Rattle.std.proofs.lemmas.Fmt.{length-decimal-le}
use Rattle.lmn_app_single.specs.Demos.{demo_atom, demo_text}
use Rattle.lmn_app_single.specs.Texts.{text_bytes}

-- one number more
suc_more : (f : ℕ → List ℕ) (a n j : ℕ) → a + n ≡ j → flat_map f (range_with_len a (suc n)) ≡ flat_map f (range_with_len a n) ++ f j
suc_more f a zero j e = append-nil (f a) ∙ ap f (omega (arith, e))
suc_more f a (suc n) j e =
    ap (λ xs. f a ++ xs) (suc_more f (a + 1) n j (omega (arith, e)))
    ∙ sym (append_assoc (f a) (flat_map f (range_with_len (a + 1) n)) (f j))

-- one atom more of the text of `demo`
pub atoms_more : (n : ℕ) → flat_map demo_atom (range_with_len 1 (n + 1)) ≡ flat_map demo_atom (range_with_len 1 n) ++ demo_atom (n + 1)
atoms_more n =
    let next : n + 1 ≡ suc n = omega arith in
    ap (λ k. flat_map demo_atom (range_with_len 1 k)) next ∙ suc_more demo_atom 1 n (n + 1) (omega arith)

-- ---- how long the texts are

atom_short : (i : ℕ) → i ≤ 100000 → length (demo_atom i) ≤ 11
atom_short i h =
    let digits : length (decimal i) ≤ 6 = length-decimal-le 6 i (omega arith) (omega (arith, h)) (omega (arith, h)) in
    omega (arith, digits, length-append (codes "p(") (decimal i ++ codes "). "), length-append (decimal i) (codes "). "))

atoms_short : (a n : ℕ) → a + n ≤ 100001 → length (flat_map demo_atom (range_with_len a n)) ≤ 11 * n
atoms_short a zero h = omega arith
atoms_short a (suc n) h =
    let first = atom_short a (omega (arith, h)) in
    let rest = atoms_short (a + 1) n (omega (arith, h)) in
    omega (arith, first, rest, length-append (demo_atom a) (flat_map demo_atom (range_with_len (a + 1) n)))

-- the text of `demo` is not too long
pub demo_short : (n : ℕ) → n ≤ 100000 → length (demo_text n) ≤ text_bytes
demo_short n h =
    let atoms = atoms_short 1 n (omega (arith, h)) in
    omega (arith, atoms, h, length-append (flat_map demo_atom (range_with_len 1 n)) (codes "p($x), p($y) :- $z = $x + $y | p($z)."))
