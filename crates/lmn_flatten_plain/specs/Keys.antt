-- Lists of links, in which each link has a key: the number of its first place.
use Rattle.std.specs.Prelude.{ℕ, suc, ◌≡◌, ◌⊎◌, if◌then◌else◌, List, [], ◌∷◌}
use Rattle.lmn_flatten_plain.specs.Links.{Link, same_link}

-- the link stands in the list
abbrev pub IsLinkIn : Link → List Link → Type 0
IsLinkIn a [] = ⊥
IsLinkIn a (b ∷ bs) = (a ≡ b) ⊎ IsLinkIn a bs

-- the number of the first place where the link stands; the length of the list where it doesn't
abbrev pub link_index : Link → List Link → ℕ
link_index a [] = 0
link_index a (b ∷ bs) = if same_link a b then 0 else suc (link_index a bs)

-- the link stands in the list, and this is its key
abbrev pub IsKey : List Link → Link → ℕ → Type 0
IsKey links a key = IsLinkIn a links × (link_index a links ≡ key)
