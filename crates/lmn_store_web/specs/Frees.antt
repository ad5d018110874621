-- Words of private functions: what stands in the line of what waits, or of what is gone, is freed.
use Rattle.std.specs.Prelude.{◌≡◌, ◌≢◌, ◌⊎◌, ℕ, ◌+◌, List, [], Option, Some, None}
use Rattle.std.specs.Option.{option_map, option_and_then}
use Rattle.lmn_store_heap.specs.Heap.{HeapAtom, HeapMem}
use Rattle.lmn_store_heap.specs.Lists.{without}
use Rattle.lmn_store_counts.specs.RuleLists.{RuleList}
use Rattle.lmn_store_counts.specs.Counts.{HasCounts, Removes}
use Rattle.lmn_web.specs.declared.kind.CellKind.{CellKind}
use Rattle.lmn_web.specs.Webs.{WebCell, kind_at, home_at, partner_at, cells_in, web_label, with_list}
use Rattle.lmn_store_web.specs.WebHeaps.{Posts, place_at, atoms_of, mems_of}
use Rattle.lmn_store_web.specs.WebStores.{IsStored}

-- v is w without x, which stood in a list of m
pub record Drops (w v : ℕ → Option WebCell) (m x : ℕ) : Type 0 where
  pub left : x ≢ m
  pub freed : v x ≡ None
  pub source : v m ≡ option_map (with_list (kind_at w x) (without x (cells_in w m (kind_at w x)))) (w m)
  pub others : (y : ℕ) → y ≢ x → y ≢ m → v y ≡ w y

-- What stands in the line l may be freed: it is joined to nothing outside of the line, and nothing stands in it.
pub record CanFree (p : Posts) (l : ℕ) (t : List (Option RuleList)) (w : ℕ → Option WebCell) (n m s : ℕ) : Type 0 where
  pub line : (l ≡ p.waiting) ⊎ (l ≡ p.gone)
  pub stored : IsStored p t w
  pub counts : HasCounts (atoms_of p w) (mems_of p t w) n m s
  pub closed : (a i b j : ℕ) → home_at w a ≡ Some l → partner_at w a i ≡ Some (b, j) → home_at w b ≡ Some l
  pub empty : (a : ℕ) (k : CellKind) → home_at w a ≡ Some l → cells_in w a k ≡ []

-- and so many atoms, membranes, rules and spares are counted, of which so many are spares
pub record MayFree (p : Posts) (l : ℕ) (t : List (Option RuleList)) (w : ℕ → Option WebCell) (count s : ℕ) : Type 0 where
  pub atoms : ℕ
  pub mems : ℕ
  pub can : CanFree p l t w atoms mems s
  pub sum : atoms + mems + s ≡ count

-- v with the table g is w with the table t, without some of what stood in the line l
pub record Frees (p : Posts) (l : ℕ) (t : List (Option RuleList)) (w : ℕ → Option WebCell) (g : List (Option RuleList)) (v : ℕ → Option WebCell) : Type 0 where
  pub atoms : (u : HeapAtom → Option HeapAtom) → Removes (λ (x : HeapAtom). x.place) u (place_at p (Some l)) → (y : ℕ) → option_and_then u (atoms_of p v y) ≡ option_and_then u (atoms_of p w y)
  pub mems : (u : HeapMem → Option HeapMem) → Removes (λ (x : HeapMem). x.place) u (place_at p (Some l)) → (y : ℕ) → option_and_then u (mems_of p g v y) ≡ option_and_then u (mems_of p t w y)
  pub others : (k : CellKind) → l ≢ p.waiting → cells_in v p.waiting k ≡ cells_in w p.waiting k
  pub labels : (y i : ℕ) → web_label v y ≡ Some i → web_label w y ≡ Some i
