-- The laws of heaps, each the contract of a function with an empty body.
use Rattle.std.specs.Prelude.{◌≡◌, ◌≢◌, ◌<◌, ℕ, suc, [], ◌∷◌, Some, None}
use Rattle.lmn_base.specs.declared.functor.Functor.{Functor}
use Rattle.lmn_base.specs.declared.solid.Solid.{Solid}
use Rattle.lmn_base.specs.Solids.{connector, item_count}
use Rattle.lmn_store_heap.specs.Lists.{from}
use Rattle.lmn_store_heap.specs.Heap.{Heap, gone, IsMem, IsInPlace, IsPlacedMem, IsMemInPlace, functor_of, arity_of, mem_place_of, marked, mem_marked, made_atom, made_mem, reserved, discarded, finished, placed, placed_mem, taken, taken_mem, moved_all, rule_added, rules_copied, joined}
use Rattle.lmn_store_heap.specs.Sound.{Sound, Valid, Forest, flat, Forms, IsTree, item_count_in}
use Rattle.lmn_store_heap.specs.Conditions.{Above, IsOutside, Alone, Ready}
use Rattle.lmn_store_heap.specs.Solid.{HasSolid}
use Rattle.lmn_base.specs.Lists.{In}

-- What each call makes of this heap is sound.
pub record KeepsSound (s : Heap) : Type 0 where
  pub set_mark : (a slot v : ℕ) → Sound (marked s a slot v)
  pub set_mem_mark : (m v : ℕ) → Sound (mem_marked s m v)
  pub make_atom : (a : ℕ) (f : Functor) → s.atoms a ≡ None → Sound (made_atom s a f)
  pub make_mem : (m : ℕ) → s.mems m ≡ None → Sound (made_mem s m)
  pub reserve_rules : (m n : ℕ) → Sound (reserved s m n)
  pub discard : Alone s → Sound (discarded s)
  pub place_atom : (m a : ℕ) → IsMemInPlace s m → from (Some a) s.new_atoms ≡ s.new_atoms → Sound (placed s m a)
  pub place_mem : (m n : ℕ) → IsMemInPlace s m → from (Some n) s.new_mems ≡ s.new_mems → Sound (placed_mem s m n)
  pub take_atom : (a : ℕ) → IsInPlace s a → Sound (taken s a)
  pub take_mem : (m : ℕ) → IsPlacedMem s m → Sound (taken_mem s m)
  pub move_all : (m n : ℕ) → IsMemInPlace s n → IsOutside s n m → Sound (moved_all s m n)
  pub add_rule : (m k : ℕ) → Sound (rule_added s m k)
  pub copy_rules : (m n : ℕ) → Sound (rules_copied s m n)
  pub join : (a i b j : ℕ) → i < arity_of s a → j < arity_of s b → ◌≢◌ {A = ℕ × ℕ} (a, i) (b, j) → Sound (joined s a i b j)
  pub finish : Ready s → Sound (finished s)

-- Each call keeps what holds at every moment.
abbrev pub CallsKeepSound : Type 0
CallsKeepSound = (s : Heap) → Sound s → KeepsSound s

-- After `finish` a heap is valid, where each membrane that isn't taken is in the tree of the root and no atom in
-- place is a connector.
abbrev pub FinishedIsValid : Type 0
FinishedIsValid =
    (s : Heap) (f : Forest) → Sound s → Ready s → Forms s f (s.root ∷ [])
    → ((m : ℕ) → IsMem s m → mem_place_of s m ≢ Some gone → In m (flat f))
    → ((a : ℕ) → IsInPlace s a → functor_of s a ≢ Some connector)
    → Valid (finished s)

-- A heap has one tree, and no membrane of a valid one is inside itself.
abbrev pub OneTree : Type 0
OneTree = (s : Heap) (f g : Forest) → IsTree s f → IsTree s g → f ≡ g

abbrev pub NoneInsideItself : Type 0
NoneInsideItself = (s : Heap) → Valid s → (m k : ℕ) → Above s (suc k) m m → ⊥

-- The items of the tree's membranes, with the root, are one more than those of the solid.
abbrev pub ItemsOfSolid : Type 0
ItemsOfSolid = (s : Heap) (x : Solid) → Valid s → (of : HasSolid s x) → item_count_in s (flat of.forest) ≡ suc (item_count x)
