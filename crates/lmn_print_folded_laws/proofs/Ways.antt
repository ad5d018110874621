-- Links that are made for the parts of a tree are different, since the ways to the parts are.
use Rattle.std.proofs.Common.{◌≡◌, ℕ, ◌⊎◌, inl, inr, List, [], ◌∷◌, ◌++◌, refl, sym, ap, ◌∙◌, arith}
use Rattle.std.proofs.lemmas.List.{append_assoc}
use Rattle.lmn_congruence.specs.Orders.{Among, at_head, further, EachOnce}
use Rattle.lmn_flatten_plain.specs.Links.{Link, made}
use Rattle.lmn_print_folded_laws.proofs.Lists.{all_different}
use Rattle.lmn_congruence.proofs.Common.{among_apart}
use Rattle.lmn_base.proofs.Lists.{same_step, not_behind_itself}

-- a link made at a way or further down
abbrev pub Under : List ℕ → Link → Type 0
Under way a = (v : List ℕ) × (a ≡ made (v ++ way))

-- a link made further down
abbrev pub Inside : List ℕ → Link → Type 0
Inside way a = (v : List ℕ) × (c : ℕ) × (a ≡ made (v ++ c ∷ way))

-- links made for a part at a way or for parts of it
pub record Names (way : List ℕ) (ms : List Link) : Type 0 where
  pub under : (a : Link) → Among a ms → Under way a
  pub different : EachOnce ms

-- links made for parts of it alone
pub record Inner (way : List ℕ) (ms : List Link) : Type 0 where
  pub inside : (a : Link) → Among a ms → Inside way a
  pub different : EachOnce ms

made_same : (v w : List ℕ) → made v ≡ made w → v ≡ w
made_same v w e = cc

-- no links are such
pub none_named : (way : List ℕ) → Inner way []
none_named way = record { inside = λ a h. elim h [ ]; different = tt }

-- links made further down are made at the way or further down
pub weaker : {way : List ℕ} {ms : List Link} → Inner way ms → Names way ms
weaker {way} h = record {
  under = λ a i. let g = h.inside a i in (g.0 ++ g.1 ∷ [], g.2 ∙ ap made (sym (append_assoc g.0 (g.1 ∷ []) way)));
  different = h.different;
}

-- and so are those of a step
pub deeper : {c : ℕ} {way : List ℕ} {ms : List Link} → Names (c ∷ way) ms → Inner way ms
deeper {c} h = record { inside = λ a i. let g = h.under a i in (g.0, c, g.1); different = h.different }

-- the link of the way itself comes first
pub own : {way : List ℕ} {ms : List Link} → Inner way ms → Names way (made way ∷ ms)
own {way} {ms} h = record { under = under; different = (λ i. let g = h.inside (made way) i in not_behind_itself g.0 g.1 way (made_same _ _ g.2), h.different) }
  where
    under : (a : Link) → Among a (made way ∷ ms) → Under way a
    under a at_head = ([], refl)
    under a (further i) = let w = weaker h in w.under a i

not_one : ◌≡◌ {A = ℕ} 0 1 → ⊥
not_one e = omega (arith, e)

-- the parts on two sides
pub side : {way : List ℕ} {ms ns : List Link} → Names (0 ∷ way) ms → Names (1 ∷ way) ns → Inner way (ms ++ ns)
side {way} {ms} {ns} h k = record {
  inside = λ a i. go a (among_apart ms ns i);
  different = all_different ms ns h.different k.different
      (λ a i j. let f = h.under a i in let g = k.under a j in not_one (same_step f.0 g.0 0 1 way (made_same _ _ (sym f.1 ∙ g.1))));
}
  where
    go : (a : Link) → Among a ms ⊎ Among a ns → Inside way a
    go a (inl i) = let g = deeper h in g.inside a i
    go a (inr i) = let g = deeper k in g.inside a i
