-- Functors by a rising order. Contracts of this crate's own functions alone cite these words.
use Rattle.std.specs.Prelude.{ℕ, ℤ, pos, ◌≡◌, Bool, true, false, List, length, slice_index_or}
use Rattle.std.specs.List.{range_with_len}
use Rattle.std.specs.List.Sorted.{IsPartitionPoint, IsPermutation, IsSortedByKey}
use Rattle.std.specs.Ordering.{bool_cmp, int_cmp, is_lt, nat_cmp, ordering_then}
use Rattle.std.specs.declared.cmp.Ordering.{Ordering}
use Rattle.lmn_base.specs.declared.functor.Functor.{Functor}
use Rattle.lmn_base.specs.declared.functor.Label.{Label}
use Rattle.lmn_base.specs.declared.functor.Label.TheVariants.{Int, Name}
use Rattle.lmn_store_heap.specs.Functors.{same_functor}
use Rattle.lmn_weight.specs.declared.index.Entry.{Entry}
use Rattle.lmn_weight.specs.Plains.{is_integer_label}

-- the integer, or the number of the name
abbrev pub label_number : Label → ℤ
label_number (Name n) = pos n
label_number (Int z) = z

-- a functor at a place
abbrev pub entry_of : Functor → ℕ → Entry
entry_of f place = record { is_integer = is_integer_label f.label; number = label_number f.label; arity = f.arity; place = place }

-- what stands at a place of a list: where no functor does, the integer 0 with no links
abbrev pub entry_at : List Functor → ℕ → Entry
entry_at functors place = entry_of (slice_index_or functors place (record { label = Int (pos 0); arity = 0 })) place

-- names before integers, by their numbers, then by the arity, and then by the place
abbrev pub entry_cmp : Entry → Entry → Ordering
entry_cmp d e =
    ordering_then (bool_cmp d.is_integer e.is_integer) (ordering_then (int_cmp d.number e.number) (ordering_then (nat_cmp d.arity e.arity) (nat_cmp d.place e.place)))

-- what stands at these places of a list rises
abbrev pub IsRising : List Functor → List ℕ → Type 0
IsRising functors = IsSortedByKey (entry_at functors) entry_cmp

-- the places of these functors, by that order
pub record IsIndexOf (functors : List Functor) (places : List ℕ) : Type 0 where
  pub of : IsPermutation (range_with_len 0 (length functors)) places
  pub rising : IsRising functors places

-- the functor stands at a place
abbrev pub is_at : List Functor → ℕ → Functor → Bool
is_at functors place f = same_functor (slice_index_or functors place f) f

-- before this one of the places what stands at each is below the entries of a functor, and from it on nothing is
abbrev pub IsFirstPlace : List Functor → List ℕ → Functor → ℕ → Type 0
IsFirstPlace functors places f first =
    IsPartitionPoint (λ k. is_lt (entry_cmp (entry_at functors k) (entry_of f 0)) ≡ true) (λ k. is_lt (entry_cmp (entry_at functors k) (entry_of f 0)) ≡ false) places first
