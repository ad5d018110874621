-- Conditions on a count.
use Rattle.std.specs.Prelude.{ℕ, ◌≡◌, ◌≢◌, ◌<◌, ◌≤◌, ◌^◌, ◌↔◌, Bool, IsTrue}
use Rattle.lmn_base.specs.declared.guard.Cmp.{Cmp}
use Rattle.lmn_base.specs.declared.guard.Cmp.TheVariants.{Lt, Le, Gt, Ge, Eq, Ne}

-- the count k stands so to n
abbrev pub StandsSo : Cmp → ℕ → ℕ → Type 0
StandsSo Lt k n = k < n
StandsSo Le k n = k ≤ n
StandsSo Gt k n = n < k
StandsSo Ge k n = n ≤ k
StandsSo Eq k n = k ≡ n
StandsSo Ne k n = k ≢ n

-- The closure f may be asked at each count of 64 bits, and answers whether the count stands so to n.
pub record AnswersSo {G : Type 0} (pre : G → ℕ → Type 0) (post : G → ℕ → Bool → Type 0) (f : G) (op : Cmp) (n : ℕ) : Type 0 where
  pub callable : (k : ℕ) → k < 2 ^ 64 → pre f k
  pub answers : (k : ℕ) (b : Bool) → k < 2 ^ 64 → post f k b → IsTrue b ↔ StandsSo op k n
