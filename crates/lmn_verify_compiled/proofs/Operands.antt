-- An operand of a kind has a text that no other has.
use Rattle.std.proofs.Common.{◌≡◌, ◌≢◌, ◌<◌, ◌^◌, ◌⊎◌, inl, inr, ℕ, ℤ, List, [], ◌∷◌, ◌++◌, AllPairs, refl, sym, ap, ◌∙◌, subst, arith, true≢false}
use Rattle.std.specs.Prelude.{Option, Some, None}
use Rattle.std.specs.Fmt.{decimal}
use Rattle.std.proofs.lemmas.Fmt.{decimal_injective, signed_decimal_injective}
use Rattle.std.proofs.lemmas.List.{append-nil}
use Rattle.lmn_base.specs.declared.functor.Functor.{Functor}
use Rattle.lmn_base.proofs.Lists.{head_is, tail_is}
use Rattle.lmn_instr_code.specs.declared.instr.AtomPort.{AtomPort}
use Rattle.lmn_instr_reading.specs.Reading.{IsIn64Bits}
use Rattle.lmn_verify_compiled.proofs.FunctorTexts.{HasText, one_functor}
use Rattle.lmn_instr_code.specs.declared.words.Operand.{Operand}
use Rattle.lmn_instr_code.specs.declared.words.Operand.TheVariants as operand
use Rattle.lmn_instr_code.specs.declared.opcode.Kind.{Kind}
use Rattle.lmn_instr_code.specs.declared.opcode.Kind.TheVariants as kind
use Rattle.lmn_instr_code.specs.Listings.{operand_text, HasOperand}
use Rattle.lmn_verify_listing.specs.Forms.{FitsKind, FitsLabel, FitsSome, some_operand}
use Rattle.lmn_verify_listing.specs.Lines.{HasNo, IsShortOperand}
use Rattle.lmn_verify_listing.specs.Taking.{IsBehind, FollowsKind, Follows, some_text, HasSome, ShortSome, parts_text, AllSmall}
use Rattle.lmn_verify_listing.proofs.Places.{has_no_decimal}
use Rattle.lmn_verify_listing.proofs.OpcodeLemmas.{is_functor}
use Rattle.lmn_verify_listing.proofs.OperandLemmas.{operand_no_space, no_parts, parts_behind}
use Rattle.lmn_instr_reading.proofs.Common.{size_of}

-- nothing stands behind, or this byte first
abbrev pub Behind : ℕ → List ℕ → Type 0
Behind byte rest = (rest ≡ []) ⊎ ((more : List ℕ) × (rest ≡ byte ∷ more))

not_behind : (byte c : ℕ) (r s : List ℕ) → c ≢ byte → Behind byte r → r ≡ c ∷ s → ⊥
not_behind byte c r s n (inl e) f = absurd (let z = sym e ∙ f in cc)
not_behind byte c r s n (inr (more, e)) f = n (sym (head_is (sym e ∙ f)))

-- a text is cut at the first of a byte in one way
pub one_cut : (byte : ℕ) (x y r s : List ℕ) → HasNo byte x → HasNo byte y → Behind byte r → Behind byte s → x ++ r ≡ y ++ s → (x ≡ y) × (r ≡ s)
one_cut byte [] [] r s h g b c e = (refl, e)
one_cut byte [] (y ∷ ys) r s h g b c e = absurd (not_behind byte y r (ys ++ s) g.0 b e)
one_cut byte (x ∷ xs) [] r s h g b c e = absurd (not_behind byte x s (xs ++ r) h.0 c (sym e))
one_cut byte (x ∷ xs) (y ∷ ys) r s h g b c e =
    let more = one_cut byte xs ys r s h.1 g.1 b c (tail_is e) in
    ((λ i. head_is e i ∷ more.0 i), more.1)

-- ---- an operand of each kind

is_atom : (o : Operand) → FitsKind kind.Atom o → (a : ℕ) × (a < 2 ^ 64) × (o ≡ operand.Atom a)
is_atom (operand.Atom a) h = (a, omega (arith, h), refl)
is_atom _ h = absurd h

is_membrane : (o : Operand) → FitsKind kind.Membrane o → (a : ℕ) × (a < 2 ^ 64) × (o ≡ operand.Membrane a)
is_membrane (operand.Membrane a) h = (a, omega (arith, h), refl)
is_membrane _ h = absurd h

is_part : (o : Operand) → FitsKind kind.Part o → (a : ℕ) × (a < 2 ^ 64) × (o ≡ operand.Part a)
is_part (operand.Part a) h = (a, omega (arith, h), refl)
is_part _ h = absurd h

is_integer : (o : Operand) → FitsKind kind.Integer o → (a : ℕ) × (a < 2 ^ 64) × (o ≡ operand.Integer a)
is_integer (operand.Integer a) h = (a, omega (arith, h), refl)
is_integer _ h = absurd h

is_copy : (o : Operand) → FitsKind kind.Copy o → (a : ℕ) × (a < 2 ^ 64) × (o ≡ operand.Copy a)
is_copy (operand.Copy a) h = (a, omega (arith, h), refl)
is_copy _ h = absurd h

is_index : (o : Operand) → FitsKind kind.Index o → (a : ℕ) × (a < 2 ^ 64) × (o ≡ operand.Number a)
is_index (operand.Number a) h = (a, omega (arith, h), refl)
is_index _ h = absurd h

is_count : (o : Operand) → FitsKind kind.Count o → (a : ℕ) × (a < 2 ^ 64) × (o ≡ operand.Number a)
is_count (operand.Number a) h = (a, h, refl)
is_count _ h = absurd h

is_rule : (o : Operand) → FitsKind kind.Rule o → (a : ℕ) × (a < 2 ^ 64) × (o ≡ operand.Number a)
is_rule (operand.Number a) h = (a, omega (arith, h), refl)
is_rule _ h = absurd h

abbrev IsPort : Operand → Type 0
IsPort o = (p : AtomPort) × (p.atom < 2 ^ 64) × (p.port < 2 ^ 64) × (o ≡ operand.Port p)

is_port : (o : Operand) → FitsKind kind.Port o → IsPort o
is_port (operand.Port p) h = (p, omega (arith, h.0), omega (arith, h.1), refl)
is_port _ h = absurd h

is_new_port : (o : Operand) → FitsKind kind.NewPort o → IsPort o ⊎ ((a : ℕ) × (a < 2 ^ 64) × (o ≡ operand.Copy a))
is_new_port (operand.Port p) h = inl (p, omega (arith, h.0), omega (arith, h.1), refl)
is_new_port (operand.Copy c) h = inr (c, omega (arith, h), refl)
is_new_port _ h = absurd h

-- the functor of an operand
pub is_functor_of : (o : Operand) → FitsKind kind.Functor o → (f : Functor) × FitsLabel f.label × (f.arity < 2 ^ 8) × (o ≡ operand.Functor f)
is_functor_of (operand.Functor f) h = (f, h.0, h.1, refl)
is_functor_of _ h = absurd h

is_constant : (o : Operand) → FitsKind kind.Constant o → (z : ℤ) × IsIn64Bits z × (o ≡ operand.Constant z)
is_constant (operand.Constant z) h = (z, h, refl)
is_constant _ h = absurd h

-- ---- operands one behind the other

-- behind a functor nothing stands, and behind any other a space
pub sort : (k : Kind) → (k ≡ kind.Functor) ⊎ ((k ≢ kind.Functor) × ((r : List ℕ) → FollowsKind k r → IsBehind r))
sort kind.Functor = inl refl
sort _ = inr ((λ e. true≢false (sym (ap (λ k. is_functor (Some k)) e))), λ r b. b)

-- so the text of an operand is told apart from what stands behind it, whatever the lists of names
pub one_behind : (ns ms : List (List ℕ)) (k : Kind) (o p : Operand) (r s : List ℕ) → FitsKind k o → FitsKind k p → FollowsKind k r → FollowsKind k s → operand_text ns o ++ r ≡ operand_text ms p ++ s
    → (operand_text ns o ≡ operand_text ms p) × (r ≡ s)
one_behind ns ms k o p r s h g b c e = go (sort k)
  where
    go : (k ≡ kind.Functor) ⊎ ((k ≢ kind.Functor) × ((r : List ℕ) → FollowsKind k r → IsBehind r)) → (operand_text ns o ≡ operand_text ms p) × (r ≡ s)
    go (inl f) =
        let none : r ≡ [] = subst (λ j. FollowsKind j r) f b in
        let nothing : s ≡ [] = subst (λ j. FollowsKind j s) f c in
        (sym (append-nil (operand_text ns o)) ∙ ap (λ t. operand_text ns o ++ t) (sym none) ∙ e ∙ ap (λ t. operand_text ms p ++ t) nothing ∙ append-nil (operand_text ms p), none ∙ sym nothing)
    go (inr (n, f)) = one_cut 32 (operand_text ns o) (operand_text ms p) r s (operand_no_space k o ns n h) (operand_no_space k p ms n g) (f r b) (f s c) e

module _ (names : List (List ℕ)) (once : AllPairs (λ m n. m ≢ n) names) where
  -- operands that are told by a number
  by_number : (make : ℕ → Operand) → ((m n : ℕ) → m < 2 ^ 64 → n < 2 ^ 64 → operand_text names (make m) ≡ operand_text names (make n) → m ≡ n)
      → (o p : Operand) → (a : ℕ) × (a < 2 ^ 64) × (o ≡ make a) → (a : ℕ) × (a < 2 ^ 64) × (p ≡ make a) → operand_text names o ≡ operand_text names p → o ≡ p
  by_number make only o p x y e =
      x.2 ∙ ap make (only x.0 y.0 x.1 y.1 (sym (ap (operand_text names) x.2) ∙ e ∙ ap (operand_text names) y.2)) ∙ sym y.2

  one_port : (o p : Operand) → IsPort o → IsPort p → operand_text names o ≡ operand_text names p → o ≡ p
  one_port o p x y e =
      let same : 65 ∷ (decimal x.0.atom ++ 46 ∷ decimal x.0.port) ≡ 65 ∷ (decimal y.0.atom ++ 46 ∷ decimal y.0.port) = sym (ap (operand_text names) x.3) ∙ e ∙ ap (operand_text names) y.3 in
      let cut = one_cut 46 (decimal x.0.atom) (decimal y.0.atom) (46 ∷ decimal x.0.port) (46 ∷ decimal y.0.port) (has_no_decimal 46 x.0.atom (omega arith) x.1) (has_no_decimal 46 y.0.atom (omega arith) y.1)
      (inr (decimal x.0.port, refl)) (inr (decimal y.0.port, refl)) (tail_is same) in
      let atoms = decimal_injective x.0.atom y.0.atom x.1 y.1 cut.0 in
      let ports = decimal_injective x.0.port y.0.port x.2 y.2 (tail_is cut.1) in
      x.3 ∙ (λ i. operand.Port (record { atom = atoms i; port = ports i })) ∙ sym y.3

  port_no_copy : (o p : Operand) → IsPort o → (a : ℕ) × (a < 2 ^ 64) × (p ≡ operand.Copy a) → operand_text names o ≡ operand_text names p → ⊥
  port_no_copy o p x y e =
      let same : 65 ∷ (decimal x.0.atom ++ 46 ∷ decimal x.0.port) ≡ 67 ∷ decimal y.0 = sym (ap (operand_text names) x.3) ∙ e ∙ ap (operand_text names) y.2 in
      let first = head_is same in
      omega (arith, first)

  one_new_port : (o p : Operand) → IsPort o ⊎ ((a : ℕ) × (a < 2 ^ 64) × (o ≡ operand.Copy a)) → IsPort p ⊎ ((a : ℕ) × (a < 2 ^ 64) × (p ≡ operand.Copy a)) → operand_text names o ≡ operand_text names p → o ≡ p
  one_new_port o p (inl x) (inl y) e = one_port o p x y e
  one_new_port o p (inl x) (inr y) e = absurd (port_no_copy o p x y e)
  one_new_port o p (inr x) (inl y) e = absurd (port_no_copy p o y x (sym e))
  one_new_port o p (inr x) (inr y) e = by_number operand.Copy (λ m n l k f. decimal_injective m n l k (tail_is f)) o p x y e

  one_functor_operand : (o p : Operand) → HasOperand names o → HasOperand names p → IsShortOperand names o → IsShortOperand names p
      → (f : Functor) × FitsLabel f.label × (f.arity < 2 ^ 8) × (o ≡ operand.Functor f) → (f : Functor) × FitsLabel f.label × (f.arity < 2 ^ 8) × (p ≡ operand.Functor f)
      → operand_text names o ≡ operand_text names p → o ≡ p
  one_functor_operand o p ho hp so sp x y e =
      let held : HasText names x.0 = record { held = subst (HasOperand names) x.3 ho; narrow = (x.1, x.2) } in
      let kept : HasText names y.0 = record { held = subst (HasOperand names) y.3 hp; narrow = (y.1, y.2) } in
      x.3 ∙ ap operand.Functor (one_functor names once x.0 y.0 held kept (sym (ap (operand_text names) x.3) ∙ e ∙ ap (operand_text names) y.3)) ∙ sym y.3

  -- a text is that of one operand of a kind
  pub one_operand : (k : Kind) (o p : Operand) → FitsKind k o → FitsKind k p → HasOperand names o → HasOperand names p → IsShortOperand names o → IsShortOperand names p
      → operand_text names o ≡ operand_text names p → o ≡ p
  one_operand kind.Atom o p h g ho hp so sp e = by_number operand.Atom (λ m n l k f. decimal_injective m n l k (tail_is f)) o p (is_atom o h) (is_atom p g) e
  one_operand kind.Membrane o p h g ho hp so sp e = by_number operand.Membrane (λ m n l k f. decimal_injective m n l k (tail_is f)) o p (is_membrane o h) (is_membrane p g) e
  one_operand kind.Part o p h g ho hp so sp e = by_number operand.Part (λ m n l k f. decimal_injective m n l k (tail_is f)) o p (is_part o h) (is_part p g) e
  one_operand kind.Integer o p h g ho hp so sp e = by_number operand.Integer (λ m n l k f. decimal_injective m n l k (tail_is f)) o p (is_integer o h) (is_integer p g) e
  one_operand kind.Copy o p h g ho hp so sp e = by_number operand.Copy (λ m n l k f. decimal_injective m n l k (tail_is f)) o p (is_copy o h) (is_copy p g) e
  one_operand kind.Port o p h g ho hp so sp e = one_port o p (is_port o h) (is_port p g) e
  one_operand kind.NewPort o p h g ho hp so sp e = one_new_port o p (is_new_port o h) (is_new_port p g) e
  one_operand kind.Functor o p h g ho hp so sp e = one_functor_operand o p ho hp so sp (is_functor_of o h) (is_functor_of p g) e
  one_operand kind.Index o p h g ho hp so sp e = by_number operand.Number decimal_injective o p (is_index o h) (is_index p g) e
  one_operand kind.Count o p h g ho hp so sp e = by_number operand.Number decimal_injective o p (is_count o h) (is_count p g) e
  one_operand kind.Rule o p h g ho hp so sp e = by_number operand.Number decimal_injective o p (is_rule o h) (is_rule p g) e
  one_operand kind.Constant o p h g ho hp so sp e =
      let x = is_constant o h in
      let y = is_constant p g in
      x.2 ∙ ap operand.Constant (signed_decimal_injective x.0 y.0 (size_of x.0 x.1) (size_of y.0 y.1) (sym (ap (operand_text names) x.2) ∙ e ∙ ap (operand_text names) y.2)) ∙ sym y.2

  pub one_some : (k : Option Kind) (o p : Operand) (r s : List ℕ) → FitsSome k o → FitsSome k p → HasSome names k o → HasSome names k p → ShortSome names k o → ShortSome names k p → Follows k r → Follows k s
      → some_text names k o ++ r ≡ some_text names k p ++ s → (some_operand k o ≡ some_operand k p) × (r ≡ s)
  one_some None o p r s h g ho hp so sp b c e = (refl, e)
  one_some (Some k) o p r s h g ho hp so sp b c e =
      let cut = one_behind names names k o p r s h g b c (tail_is e) in
      (ap (λ x. x ∷ []) (one_operand k o p h g ho hp so sp cut.0), cut.1)

-- registers of typed contexts, each behind a space
pub one_parts : (gs hs : List ℕ) → AllSmall gs → AllSmall hs → parts_text gs ≡ parts_text hs → gs ≡ hs
one_parts [] hs a b e = sym (no_parts hs (sym e))
one_parts (g ∷ gs) [] a b e = no_parts (g ∷ gs) e
one_parts (g ∷ gs) (h ∷ hs) a b e =
    let low = a.0 in
    let few = b.0 in
    let cut = one_cut 32 (decimal g) (decimal h) (parts_text gs) (parts_text hs) (has_no_decimal 32 g (omega arith) (omega (arith, low))) (has_no_decimal 32 h (omega arith) (omega (arith, few))) (parts_behind gs) (parts_behind hs) (tail_is (tail_is e)) in
    let one = decimal_injective g h (omega (arith, low)) (omega (arith, few)) cut.0 in
    let more = one_parts gs hs a.1 b.1 cut.1 in
    λ i. one i ∷ more i
