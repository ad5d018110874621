-- Ports that are joined two by two.
use Rattle.std.specs.Prelude.{◌≡◌, ℕ, ◌<◌, Option, Some, None, length}
use Rattle.std.specs.Option.{option_map}
use Rattle.lmn_web_cells.specs.Cells.{HeldPort, HeldCell, ports_of, port_of, with_to, with_port}
use Rattle.lmn_store_heap.specs.Heap.{alter}

abbrev pub partner_by : HeldPort → Option (ℕ × ℕ)
partner_by p = option_map (λ b. (b, p.port)) p.to

-- the other end of a port
abbrev pub partner_in : (ℕ → Option HeldCell) → ℕ → ℕ → Option (ℕ × ℕ)
partner_in f a i = partner_by (port_of (f a) i)

-- a cell with a partner at a port, or none
abbrev pub with_partner : ℕ → Option (ℕ × ℕ) → HeldCell → HeldCell
with_partner i None c = with_to i None c
with_partner i (Some p) c = with_port i p.1 (with_to i (Some p.0) c)

-- a port with this partner
abbrev pub linked : (ℕ → Option HeldCell) → ℕ → ℕ → Option (ℕ × ℕ) → ℕ → Option HeldCell
linked f a i p = alter f a (option_map (with_partner i p))

-- the former partner of a port has none
abbrev pub cleared : (ℕ → Option HeldCell) → Option (ℕ × ℕ) → ℕ → Option HeldCell
cleared f None = f
cleared f (Some p) = linked f p.0 p.1 None

-- The ports (a, i) and (b, j) become partners; a former partner of either has none.
abbrev pub joined : (ℕ → Option HeldCell) → ℕ → ℕ → ℕ → ℕ → ℕ → Option HeldCell
joined f a i b j = linked (linked (cleared (cleared f (partner_in f a i)) (partner_in f b j)) a i (Some (b, j))) b j (Some (a, i))

-- a port and its partner have none
abbrev pub parted : (ℕ → Option HeldCell) → ℕ → ℕ → ℕ → Option HeldCell
parted f a i = linked (cleared f (partner_in f a i)) a i None

-- there is such a port
abbrev pub IsPort : (ℕ → Option HeldCell) → ℕ → ℕ → Type 0
IsPort f a i = i < length (ports_of (f a))

-- the other end of each port is a port
abbrev pub Reaches : (ℕ → Option HeldCell) → Type 0
Reaches f = (a i b j : ℕ) → partner_in f a i ≡ Some (b, j) → IsPort f b j

-- each port that has a partner is that partner's partner, and not its own
pub record Paired (f : ℕ → Option HeldCell) : Type 0 where
  pub back : (a i b j : ℕ) → partner_in f a i ≡ Some (b, j) → partner_in f b j ≡ Some (a, i)
  pub apart : (a i : ℕ) → partner_in f a i ≡ Some (a, i) → ⊥

-- two ports are one
abbrev pub IsSamePort : ℕ → ℕ → ℕ → ℕ → Type 0
IsSamePort a i b j = (a ≡ b) × (i ≡ j)
