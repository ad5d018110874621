-- Maps of links that join the links of connectors, and processes fused by them.
use Rattle.std.specs.Prelude.{ℕ, ◌≡◌, map}
use Rattle.lmn_congruence.specs.Process.{Process, nothing, connector, atom, pair, membrane, rule}

-- no connector stands in a process, at any depth
abbrev pub NoConnector : Process → Type 0
NoConnector (connector x y) = ⊥
NoConnector (pair P Q) = NoConnector P × NoConnector Q
NoConnector (membrane P) = NoConnector P
NoConnector P = Unit {0}

-- a map of links takes the two links of each connector to one link
abbrev pub Joins : (ℕ → ℕ) → Process → Type 0
Joins v (connector x y) = v x ≡ v y
Joins v (pair P Q) = Joins v P × Joins v Q
Joins v (membrane P) = Joins v P
Joins v P = Unit {0}

-- each link at its image, and no connector
abbrev pub fused : (ℕ → ℕ) → Process → Process
fused v nothing = nothing
fused v (connector x y) = nothing
fused v (atom a xs) = atom a (map v xs)
fused v (pair P Q) = pair (fused v P) (fused v Q)
fused v (membrane P) = membrane (fused v P)
fused v (rule r) = rule r
