-- Walks: the atoms that are found from a port, depth first and by rising ports.
use Rattle.std.specs.Prelude.{ℕ, zero, suc, ◌≡◌, ◌⊎◌, ◌+◌, ◌-◌, ◌==◌, ◌&&◌, Bool, true, false, List, [], ◌∷◌, ◌++◌, Option, Some, None, if◌then◌else◌}
use Rattle.std.specs.Option.{option_and_then}
use Rattle.lmn_store_heap.specs.Heap.{Heap, arity_of, link_of}
use Rattle.lmn_base.specs.Lists.{In}

-- how many ports each atom has, and what is at the other end of each
pub record Net : Type 0 where
  pub arity : ℕ → ℕ
  pub link : ℕ → ℕ → Option (ℕ × ℕ)

abbrev pub net : Heap → Net
net s = record { arity = arity_of s; link = link_of s }

-- n ports of the atom a, from i on
abbrev pub port_range : ℕ → ℕ → ℕ → List (ℕ × ℕ)
port_range a i zero = []
port_range a i (suc n) = (a, i) ∷ port_range a (i + 1) n

-- the ports of the atom a from i on
abbrev pub ports_from : Net → ℕ → ℕ → List (ℕ × ℕ)
ports_from n a i = port_range a i (n.arity a - i)

-- a port of a list
abbrev pub HasPort : ℕ × ℕ → List (ℕ × ℕ) → Type 0
HasPort p [] = ⊥
HasPort p (q ∷ ps) = (q ≡ p) ⊎ HasPort p ps

abbrev pub is_port : ℕ × ℕ → ℕ × ℕ → Bool
is_port p q = (p.0 == q.0) && (p.1 == q.1)

abbrev pub is_in : List ℕ → ℕ → Bool
is_in [] a = false
is_in (x ∷ xs) a = if x == a then true else is_in xs a

abbrev pub kept : (ℕ → Bool) → ℕ × ℕ → Option ℕ
kept inside p = if inside p.0 then Some p.0 else None

-- the atom at the other end of a port, where it is one of those inside; none at the root, by which nothing is left
abbrev pub neighbour : Net → ℕ × ℕ → (ℕ → Bool) → ℕ × ℕ → Option ℕ
neighbour n root inside p = if is_port p root then None else option_and_then (kept inside) (n.link p.0 p.1)

-- From the atoms `seen` and the ports that are still to be gone through, in this order, all these atoms are found:
-- an atom when it is first reached, then what its ports lead to, by rising index.
pub data Walk (arity : ℕ → ℕ) (to : ℕ × ℕ → Option ℕ) : List ℕ → List (ℕ × ℕ) → List ℕ → Type 0 where
  ends : {seen : List ℕ} → Walk arity to seen [] seen
  passes : {seen all : List ℕ} {ps : List (ℕ × ℕ)} {p : ℕ × ℕ} →
      ((b : ℕ) → to p ≡ Some b → In b seen) → Walk arity to seen ps all → Walk arity to seen (p ∷ ps) all
  finds : {seen all : List ℕ} {ps : List (ℕ × ℕ)} {p : ℕ × ℕ} {b : ℕ} →
      to p ≡ Some b → (In b seen → ⊥) → Walk arity to (seen ++ b ∷ []) (port_range b 0 (arity b) ++ ps) all → Walk arity to seen (p ∷ ps) all

-- the atoms inside that are found from the root, in depth-first order
abbrev pub FoundInside : Net → ℕ × ℕ → (ℕ → Bool) → List ℕ → Type 0
FoundInside n root inside all = Walk n.arity (neighbour n root inside) (root.0 ∷ []) (port_range root.0 0 (n.arity root.0)) all

-- all atoms of the part with this root, in depth-first order
abbrev pub IsPartInDepth : Heap → ℕ × ℕ → List ℕ → Type 0
IsPartInDepth s root all = FoundInside (net s) root (λ _. true) all
