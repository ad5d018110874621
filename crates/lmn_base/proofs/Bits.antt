-- General lemmas on the bits of two numbers together.
use Rattle.std.proofs.Common.{ℕ, max, ◌≡◌, sym, ap, ◌∙◌, arith}
use Rattle.std.specs.Int.{bit_at}
use Rattle.std.specs.Int.Bits.{bit_or, or_self}
use Rattle.std.proofs.lemmas.Nat.{or_comm}
use Rattle.std.proofs.lemmas.Nat.Bits.{bit_at_or, same_from_bits}

max_assoc : (a b c : ℕ) → max (max a b) c ≡ max a (max b c)
max_assoc a b c = omega arith

-- three together, in either order
pub or_assoc : (a b c : ℕ) → bit_or (bit_or a b) c ≡ bit_or a (bit_or b c)
or_assoc a b c = same_from_bits (bit_or (bit_or a b) c) (bit_or a (bit_or b c)) (λ i.
    bit_at_or (bit_or a b) c i ∙ (ap (λ x. max x (bit_at c i)) (bit_at_or a b i) ∙ (max_assoc (bit_at a i) (bit_at b i) (bit_at c i) ∙ (ap (λ x. max (bit_at a i) x) (sym (bit_at_or b c i)) ∙ sym (bit_at_or a (bit_or b c) i)))))

-- bits that are added once more
pub or_again : (a b : ℕ) → bit_or a (bit_or a b) ≡ bit_or a b
or_again a b = sym (or_assoc a a b) ∙ ap (λ x. bit_or x b) (or_self a)

-- and those on the other side
pub or_again_behind : (a b : ℕ) → bit_or b (bit_or a b) ≡ bit_or a b
or_again_behind a b = ap (λ x. bit_or b x) (or_comm a b) ∙ (or_again b a ∙ or_comm b a)
