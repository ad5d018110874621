-- What the calls on ports do to cells.
use Rattle.std.proofs.Common.{◌≡◌, ℕ, ◌<◌, length, set, Option, Some, None, IsSome, refl, sym, subst, ap, ◌∙◌, inl, inr, arith, length-set, IfSome}
use Rattle.std.proofs.lemmas.Bool.{cases_eq}
use Rattle.std.specs.Option.{option_map}
use Rattle.lmn_web_cells.specs.Cells.{HeldCell, ports_of, with_to, with_port}
use Rattle.lmn_store_heap.specs.Heap.{alter}
use Rattle.lmn_web_cells.specs.Ports.{partner_in, with_partner, linked, cleared, joined, IsPort, Reaches}
use Rattle.lmn_store_heap.proofs.Listing.{alter_at, alter_away}

-- a port is at a cell
pub port_there : (f : ℕ → Option HeldCell) (a i : ℕ) → IsPort f a i → IsSome (f a)
port_there f a i l = by (f a) l
  where
    by : (o : Option HeldCell) → i < length (ports_of o) → IsSome o
    by None l = absurd (omega (arith, l))
    by (Some x) l = refl

-- two changes of one cell
map_twice : {X : Type 0} (g h : X → X) (o : Option X) → option_map h (option_map g o) ≡ option_map (λ x. h (g x)) o
map_twice g h None = refl
map_twice g h (Some x) = refl

alter_twice : {X : Type 0} (f : ℕ → Option X) (a : ℕ) (g h : X → X) (k : ℕ) → alter (alter f a (option_map g)) a (option_map h) k ≡ alter f a (option_map (λ x. h (g x))) k
alter_twice f a g h k = elim (cases_eq k a) [
  | inl e ↦ ap (alter (alter f a (option_map g)) a (option_map h)) e ∙ alter_at (alter f a (option_map g)) a (option_map h) ∙ ap (option_map h) (alter_at f a (option_map g)) ∙ map_twice g h (f a)
      ∙ sym (ap (alter f a (option_map (λ x. h (g x)))) e ∙ alter_at f a (option_map (λ x. h (g x))))
  | inr d ↦ alter_away (alter f a (option_map g)) a (option_map h) k d ∙ alter_away f a (option_map g) k d ∙ sym (alter_away f a (option_map (λ x. h (g x))) k d)
]

-- a partner is written in two steps
pub two_steps : (f : ℕ → Option HeldCell) (a i b j : ℕ) → alter (alter f a (option_map (with_to i (Some b)))) a (option_map (with_port i j)) ≡ linked f a i (Some (b, j))
two_steps f a i b j = λ t k. alter_twice f a (with_to i (Some b)) (with_port i j) k t

-- no call changes how many ports a cell has
count_to : (i : ℕ) (x : Option ℕ) (o : Option HeldCell) → length (ports_of (option_map (with_to i x) o)) ≡ length (ports_of o)
count_to i x None = refl
count_to i x (Some c) = length-set c.ports i _

count_partner : (i : ℕ) (p : Option (ℕ × ℕ)) (o : Option HeldCell) → length (ports_of (option_map (with_partner i p) o)) ≡ length (ports_of o)
count_partner i p None = refl
count_partner i None (Some c) = length-set c.ports i _
count_partner i (Some p) (Some c) = length-set (set c.ports i _) i _ ∙ length-set c.ports i _

count_alter : (f : ℕ → Option HeldCell) (a : ℕ) (g : Option HeldCell → Option HeldCell) → ((o : Option HeldCell) → length (ports_of (g o)) ≡ length (ports_of o)) → (k : ℕ) → length (ports_of (alter f a g k)) ≡ length (ports_of (f k))
count_alter f a g h k = elim (cases_eq k a) [
  | inl e ↦ ap (λ m. length (ports_of (alter f a g m))) e ∙ ap (λ o. length (ports_of o)) (alter_at f a g) ∙ h (f a) ∙ ap (λ m. length (ports_of (f m))) (sym e)
  | inr d ↦ ap (λ o. length (ports_of o)) (alter_away f a g k d)
]

-- a port that leads elsewhere leaves each port a port
pub to_ports : (f : ℕ → Option HeldCell) (a i : ℕ) (x : Option ℕ) (k j : ℕ) → IsPort f k j → IsPort (alter f a (option_map (with_to i x))) k j
to_ports f a i x k j l = subst (λ n. j < n) (sym (count_alter f a (option_map (with_to i x)) (count_to i x) k)) l

-- a partner leaves each port a port
pub linked_ports : (f : ℕ → Option HeldCell) (a i : ℕ) (p : Option (ℕ × ℕ)) (k j : ℕ) → IsPort f k j → IsPort (linked f a i p) k j
linked_ports f a i p k j l = subst (λ n. j < n) (sym (count_alter f a (option_map (with_partner i p)) (count_partner i p) k)) l

-- a partner that is cleared leaves each port a port
pub cleared_ports : (f : ℕ → Option HeldCell) (p : Option (ℕ × ℕ)) (k j : ℕ) → IsPort f k j → IsPort (cleared f p) k j
cleared_ports f None k j l = l
cleared_ports f (Some p) k j l = linked_ports f p.0 p.1 None k j l

-- the partner of a port is a port
pub partner_port : {X : Type 0} (f : ℕ → Option HeldCell) (a i : ℕ) (id : X → ℕ × ℕ) (r : Option X) → Reaches f → partner_in f a i ≡ option_map id r → IfSome r (λ p. IsPort f (id p).0 (id p).1)
partner_port f a i id None h e = tt
partner_port f a i id (Some x) h e = h a i (id x).0 (id x).1 e

-- a port that is one, or none, stays one where ports stay
pub all_ports : {X : Type 0} (f g : ℕ → Option HeldCell) (id : X → ℕ × ℕ) (r : Option X) → ((k j : ℕ) → IsPort f k j → IsPort g k j) → IfSome r (λ p. IsPort f (id p).0 (id p).1) → IfSome r (λ p. IsPort g (id p).0 (id p).1)
all_ports f g id None h t = tt
all_ports f g id (Some x) h t = h (id x).0 (id x).1 t

-- the same as the calls say it

-- after a change of where a port leads each port is one
pub to_after : (g f : ℕ → Option HeldCell) (a i : ℕ) (x : Option ℕ) (k j : ℕ) → g ≡ alter f a (option_map (with_to i x)) → IsPort f k j → IsPort g k j
to_after g f a i x k j e l = subst (λ (h : ℕ → Option HeldCell). IsPort h k j) (sym e) (to_ports f a i x k j l)

-- after a change of a partner each port is one
pub linked_after : (g f : ℕ → Option HeldCell) (a i : ℕ) (p : Option (ℕ × ℕ)) (k j : ℕ) → g ≡ linked f a i p → IsPort f k j → IsPort g k j
linked_after g f a i p k j e l = subst (λ (h : ℕ → Option HeldCell). IsPort h k j) (sym e) (linked_ports f a i p k j l)

-- after a partner was cleared each port is one
pub cleared_after : (g f : ℕ → Option HeldCell) (p : Option (ℕ × ℕ)) (k j : ℕ) → g ≡ cleared f p → IsPort f k j → IsPort g k j
cleared_after g f p k j e l = subst (λ (h : ℕ → Option HeldCell). IsPort h k j) (sym e) (cleared_ports f p k j l)

-- after two partners were cleared each port is one
pub both_after : (g f : ℕ → Option HeldCell) (p q : Option (ℕ × ℕ)) (k j : ℕ) → g ≡ cleared (cleared f p) q → IsPort f k j → IsPort g k j
both_after g f p q k j e l = cleared_after g (cleared f p) q k j e (cleared_ports f p k j l)

-- the five steps of a join
pub join_is : (old two three four : ℕ → Option HeldCell) (a i b j : ℕ) (ps : Option (ℕ × ℕ) × Option (ℕ × ℕ)) → partner_in old a i ≡ ps.0 → partner_in old b j ≡ ps.1
    → two ≡ cleared (cleared old ps.0) ps.1 → three ≡ linked two a i (Some (b, j)) → four ≡ linked three b j (Some (a, i)) → four ≡ joined old a i b j
join_is old two three four a i b j ps p q e f g =
    g ∙ ap (λ (h : ℕ → Option HeldCell). linked h b j (Some (a, i))) (f ∙ ap (λ (h : ℕ → Option HeldCell). linked h a i (Some (b, j))) (e ∙ ap (λ o. cleared (cleared old o) ps.1) (sym p)
    ∙ ap (cleared (cleared old (partner_in old a i))) (sym q)))
