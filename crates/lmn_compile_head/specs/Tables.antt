-- Tables that the making of code keeps, by numbers of links.
use Rattle.std.specs.Prelude.{ℕ, ◌≡◌, ◌<◌, ◌≤◌, min, List, [], ◌∷◌, Option, None, length, slice_index_or}
use Rattle.std.specs.Option.{option_map}
use Rattle.lmn_base.specs.Limits.{most_links}
use Rattle.lmn_solid_heads.specs.declared.items.HeadItem.{HeadItem}
use Rattle.lmn_solid_heads.specs.declared.items.HeadItem.TheVariants.{Atom, Typed, Membrane}
use Rattle.lmn_base.specs.declared.functor.Functor.{Functor}
use Rattle.lmn_base.specs.declared.level.Leaf.{Leaf}
use Rattle.lmn_base.specs.declared.level.Leaf.TheVariants as leaf
use Rattle.lmn_solid_heads.specs.Heads.{HeadAtom, Occurrence, links_of_head, times}
use Rattle.lmn_instr_code.specs.declared.instr.AtomPort.{AtomPort}
use Rattle.lmn_instr_code.specs.HeadCode.{find_port, operand}

-- every number of a list is below another one
abbrev pub AllBelow : ℕ → List ℕ → Type 0
AllBelow n [] = Unit {0}
AllBelow n (x ∷ xs) = (x < n) × AllBelow n xs

-- items whose links are below a number, and whose atoms haven't too many
abbrev pub HeadFits : ℕ → List HeadItem → Type 0
HeadFits n [] = Unit {0}
HeadFits n (Atom functor links inside ∷ xs) = (length links ≤ most_links) × AllBelow n links × HeadFits n xs
HeadFits n (Typed name kind link inside ∷ xs) = (link < n) × HeadFits n xs
HeadFits n (Membrane inside has_context has_closed_context has_rule_context ∷ xs) = HeadFits n xs

-- a table of how often links occur, where what is more than twice counts as twice
abbrev pub Counts : List ℕ → List HeadItem → Type 0
Counts table items = (x : ℕ) → x < length table → min 2 (slice_index_or table x 0) ≡ min 2 (times x (links_of_head items))

-- a table of the ports at which links stand first
pub record FirstPorts (table : List (Option AtomPort)) (os : List Occurrence) : Type 0 where
  pub at : (x : ℕ) → x < length table → slice_index_or table x None ≡ option_map operand (find_port x os)

-- an atom of a head
abbrev pub head_atom : Functor → List ℕ → ℕ → HeadAtom
head_atom functor links inside = record { functor = functor; links = links; inside = inside }

-- an atom has no more links than its arity can count
abbrev pub HasFewLinks : Leaf → Type 0
HasFewLinks (leaf.Atom functor links pos) = length links ≤ most_links
HasFewLinks (leaf.Typed name link pos) = Unit {0}
