-- Words of private functions: what a cell leaves that goes from one list to another, and when all of a list may go.
use Rattle.std.specs.Prelude.{◌≡◌, ◌≢◌, ℕ, List, [], ◌∷◌, ◌++◌, Option, Some}
use Rattle.std.specs.Option.{option_map}
use Rattle.lmn_store_heap.specs.Lists.{without}
use Rattle.lmn_store_counts.specs.RuleLists.{RuleList}
use Rattle.lmn_store_counts.specs.Counts.{HasCounts}
use Rattle.lmn_web.specs.declared.kind.CellKind.TheVariants.{Membrane}
use Rattle.lmn_web.specs.Webs.{WebCell, kind_at, home_at, cells_in, with_home, with_list}
use Rattle.lmn_store_web.specs.WebHeaps.{Posts, atoms_of, mems_of}
use Rattle.lmn_store_web.specs.WebStores.{IsStored}

-- v is w where x, which stood in a list of m, stands at the end of the list of n for its kind
pub record Sends (w v : ℕ → Option WebCell) (m n x : ℕ) : Type 0 where
  pub left : x ≢ m
  pub came : x ≢ n
  pub apart : m ≢ n
  pub moved : v x ≡ option_map (with_home (Some n)) (w x)
  pub source : v m ≡ option_map (with_list (kind_at w x) (without x (cells_in w m (kind_at w x)))) (w m)
  pub target : v n ≡ option_map (with_list (kind_at w x) (cells_in w n (kind_at w x) ++ x ∷ [])) (w n)
  pub others : (y : ℕ) → y ≢ x → y ≢ m → y ≢ n → v y ≡ w y

-- What stands in the membrane m may go to the membrane n, which doesn't stand in m.
pub record CanSend (p : Posts) (t : List (Option RuleList)) (w : ℕ → Option WebCell) (m n a b c : ℕ) : Type 0 where
  pub stored : IsStored p t w
  pub counts : HasCounts (atoms_of p w) (mems_of p t w) a b c
  pub source : kind_at w m ≡ Membrane
  pub source_waits : m ≢ p.waiting
  pub source_goes : m ≢ p.gone
  pub target : kind_at w n ≡ Membrane
  pub target_waits : n ≢ p.waiting
  pub target_goes : n ≢ p.gone
  pub fits : home_at w n ≢ Some p.waiting
  pub apart : m ≢ n
  pub outside : home_at w n ≢ Some m
