-- How a walk goes on from port to port.
use Rattle.std.proofs.Common.{◌≡◌, ◌≢◌, ◌⊎◌, ℕ, zero, suc, ◌+◌, ◌-◌, ◌<◌, ◌≤◌, ◌==◌, ◌&&◌, Bool, true, false, cond, List, [], ◌∷◌, ◌++◌, length, Option, Some, None, IsSome, refl, sym, ap, subst, ◌∙◌, inl, inr, arith, length-append, add-one}
use Rattle.std.proofs.lemmas.Bool.{eq-eqb, eqb-true}
use Rattle.std.specs.Option.{option_and_then}
use Rattle.lmn_ground.specs.Marks.{way, back, entry_port, or_zero, ports_behind, Halts, OnWay, Sought}
pub use Rattle.lmn_ground.specs.Marks.{weight}
use Rattle.lmn_ground_parts.specs.Walks.{port_range, neighbour, HasPort, Net, ports_from, kept, is_port, Walk, passes}
use Rattle.lmn_base.proofs.Numbers.{not_equal as apart_test}
use Rattle.lmn_base.specs.Lists.{In}

-- of the ports from i on i is the first
pub port_left : (n : Net) (a i : ℕ) → i < n.arity a → ports_from n a i ≡ (a, i) ∷ ports_from n a (i + 1)
port_left n a i l = by (n.arity a - i) refl
  where
    by : (m : ℕ) → n.arity a - i ≡ m → port_range a i (n.arity a - i) ≡ (a, i) ∷ port_range a (i + 1) (n.arity a - (i + 1))
    by zero e = absurd (omega arith)
    by (suc m) e = let f : n.arity a - (i + 1) ≡ m = omega arith in rw (e, f) refl

-- and behind the last port there is none
pub no_port_left : (n : Net) (a i : ℕ) → i ≡ n.arity a → ports_from n a i ≡ []
no_port_left n a i e = ap (λ (m : ℕ). port_range a i m) (let z : n.arity a - i ≡ 0 = omega arith in z)

-- as many ports as are asked for
pub length-ports : (a i m : ℕ) → length (port_range a i m) ≡ m
length-ports a i zero = refl
length-ports a i (suc m) = let h = length-ports a (i + 1) m in omega (arith, h)

-- ports that pass the test are one
pub same_port : (b j : ℕ) (root : ℕ × ℕ) → is_port (b, j) root ≡ true → ◌≡◌ {A = ℕ × ℕ} (b, j) root
same_port b j root e = by (b == root.0) (j == root.1) refl refl e
  where
    by : (s t : Bool) → (b == root.0) ≡ s → (j == root.1) ≡ t → (s && t) ≡ true → ◌≡◌ {A = ℕ × ℕ} (b, j) root
    by true true e f h = let e' : b ≡ root.0 = eqb-true b root.0 e in let f' : j ≡ root.1 = eqb-true j root.1 f in λ i. (e' i, f' i)
    by true false e f h = absurd (cc)
    by false t e f h = absurd (cc)

-- no atom is sought behind the root
pub next_root : (n : Net) (root : ℕ × ℕ) (inside : ℕ → Bool) (p : ℕ × ℕ) → is_port p root ≡ true → neighbour n root inside p ≡ None
next_root n root inside p e = rw e refl

-- a port with a neighbour isn't the root
pub not_root_next : (n : Net) (root : ℕ × ℕ) (inside : ℕ → Bool) (p : ℕ × ℕ) (x : ℕ) → neighbour n root inside p ≡ Some x → is_port p root ≡ false
not_root_next n root inside p x h = by (is_port p root) h
  where
    by : (t : Bool) → cond t None (option_and_then (kept inside) (n.link p.0 p.1)) ≡ Some x → t ≡ false
    by true e = absurd (cc)
    by false e = refl

-- an atom is on its own way back
pub top_in : (n : Net) (v : ℕ → ℕ) (d a : ℕ) → In a (way n v d a)
top_in n v zero a = inl refl
top_in n v (suc d) a = inl refl

-- no atom stands behind a port without a partner
pub next_none : (n : Net) (root : ℕ × ℕ) (inside : ℕ → Bool) (a i : ℕ) → n.link a i ≡ None → neighbour n root inside (a, i) ≡ None
next_none n root inside a i e = by (is_port (a, i) root)
  where
    by : (t : Bool) → cond t None (option_and_then (kept inside) (n.link a i)) ≡ None
    by true = refl
    by false = ap (option_and_then (kept inside)) e

-- the atom behind a port is that of its partner
pub next_link : (n : Net) (root : ℕ × ℕ) (inside : ℕ → Bool) (a i b c j : ℕ) → n.link a i ≡ Some (b, j) → neighbour n root inside (a, i) ≡ Some c → b ≡ c
next_link n root inside a i b c j e h = by (is_port (a, i) root) h
  where
    of : (t : Bool) → cond t (Some b) None ≡ Some c → b ≡ c
    of true f = (cc)
    of false f = absurd (cc)

    by : (t : Bool) → cond t None (option_and_then (kept inside) (n.link a i)) ≡ Some c → b ≡ c
    by true f = absurd (cc)
    by false f = of (inside b) (sym (ap (option_and_then (kept inside)) e) ∙ f)

module _ (n : Net) (marks : ℕ → ℕ) (root : ℕ × ℕ) (depth a i : ℕ) where
  pub sought_none : OnWay n marks root depth a → Sought n marks root depth a i depth a i
  sought_none w = record { on_way = w; higher = omega arith; within = λ x k. k; once = λ d. d; passed = λ p k. inl k; walks = λ inside seen all u m w. w }

  -- past a port behind which there is nothing new
  pub sought_past : (deep b j : ℕ) → Sought n marks root depth a i deep b j → j < n.arity b
      → (◌≡◌ {A = ℕ × ℕ} (b, j) root) ⊎ IsSome (n.link b j)
      → ((inside : ℕ → Bool) (seen : List ℕ) → ((x : ℕ) → In x (way n marks depth a) → In x seen)
      → ((c k x l : ℕ) → In c seen → is_port (c, k) root ≡ false → n.link c k ≡ Some (x, l) → marks x ≢ 0 → In x seen) → (x : ℕ) → neighbour n root inside (b, j) ≡ Some x → In x seen)
      → Sought n marks root depth a i deep b (j + 1)
  sought_past deep b j s l o h = record {
    on_way = s.on_way;
    higher = s.higher;
    within = s.within;
    once = s.once;
    passed = λ p k. elim (s.passed p k) [
      | inl m ↦ elim (subst (λ (ps : List (ℕ × ℕ)). HasPort p (ps ++ ports_behind n marks deep b)) (port_left n b j l) m) [
        | inl e ↦ inr (subst (λ (q : ℕ × ℕ). (q ≡ root) ⊎ IsSome (n.link q.0 q.1)) e o)
        | inr m' ↦ inl m'
      ]
      | inr m ↦ inr m
    ];
    walks = λ inside seen all u m w. s.walks inside seen all u m
        (subst (λ (ps : List (ℕ × ℕ)). Walk n.arity (neighbour n root inside) seen (ps ++ ports_behind n marks deep b) all) (sym (port_left n b j l)) (passes (h inside seen u m) w));
  }

  pub sought_root : (deep b j : ℕ) → Sought n marks root depth a i deep b j → j < n.arity b → is_port (b, j) root ≡ true → Sought n marks root depth a i deep b (j + 1)
  sought_root deep b j s l e = sought_past deep b j s l (inl (same_port b j root e)) (λ inside seen u m x h. let f = next_root n root inside (b, j) e in absurd (cc))

  pub sought_marked : (deep b j c k : ℕ) → Sought n marks root depth a i deep b j → j < n.arity b → n.link b j ≡ Some (c, k) → k < n.arity c → marks c ≢ 0
      → Sought n marks root depth a i deep b (j + 1)
  sought_marked deep b j c k s l e p v = sought_past deep b j s l (inr (by (n.link b j) e)) (λ inside seen u m x h.
      subst (λ (z : ℕ). In z seen) (next_link n root inside b j c x k e h) (m b j c k (u b (s.within b (top_in n marks deep b))) (not_root_next n root inside (b, j) x h) e v))
    where
      by : (o : Option (ℕ × ℕ)) → o ≡ Some (c, k) → IsSome o
      by None e = absurd (cc)
      by (Some q) e = refl

  -- back from an atom that has no more ports
  pub sought_back : (deep d b j : ℕ) → deep ≡ suc d → Sought n marks root depth a i deep b j → j ≡ n.arity b
      → Sought n marks root depth a i d (back n marks b).0 ((back n marks b).1 + 1)
  sought_back deep d b j e s l =
      let t : Sought n marks root depth a i (suc d) b j = subst (λ (z : ℕ). Sought n marks root depth a i z b j) e s in
      record {
        on_way = t.on_way.4;
        higher = (let h = t.higher in omega (arith, h));
        within = λ x k. t.within x (inr k);
        once = λ o. (t.once o).1;
        passed = λ p k. elim (t.passed p k) [
          | inl m ↦ inl (subst (λ (ps : List (ℕ × ℕ)). HasPort p (ps ++ ports_behind n marks (suc d) b)) (no_port_left n b j l) m)
          | inr m ↦ inr m
        ];
        walks = λ inside seen all u m w. t.walks inside seen all u m
            (subst (λ (ps : List (ℕ × ℕ)). Walk n.arity (neighbour n root inside) seen (ps ++ ports_behind n marks (suc d) b) all) (sym (no_port_left n b j l)) w);
      }

  pub backs : (d : ℕ) → depth ≡ suc d → OnWay n marks root depth a → (back n marks a).1 < n.arity (back n marks a).0
  backs d e w = let v = subst (λ (z : ℕ). OnWay n marks root z a) e w in v.2

-- an atom with one port is gone through when it is entered
pub sought_leaf : (n : Net) (marks : ℕ → ℕ) (root : ℕ × ℕ) (depth deep b a i : ℕ) → deep ≡ depth + 1 → OnWay n marks root deep b → n.arity b ≡ 1 → back n marks b ≡ (a, i) → marks a ≢ 0
    → Sought n marks root deep b 0 depth a (i + 1)
sought_leaf n marks root depth deep b a i e w one is high =
    subst (λ (z : ℕ). Sought n marks root z b 0 depth a (i + 1)) (sym (e ∙ add-one depth)) (by (subst (λ (z : ℕ). OnWay n marks root z b) (e ∙ add-one depth) w))
  where
    at_first : (k : ℕ) (p : ℕ × ℕ) → k < 1 → n.link b k ≡ Some p → n.link b 0 ≡ Some p
    at_first zero p l f = f
    at_first (suc k) p l f = absurd (omega (arith, l))

    by : OnWay n marks root (suc depth) b → Sought n marks root (suc depth) b 0 depth a (i + 1)
    by v =
        let link : n.link b 0 ≡ Some (back n marks b) = at_first (entry_port (marks b)) (back n marks b) (subst (λ (z : ℕ). entry_port (marks b) < z) one v.1) v.0 in
        let low : 0 < n.arity b = subst (λ (z : ℕ). 0 < z) (sym one) (omega arith) in
        let on = sought_marked n marks root (suc depth) b 0 (suc depth) b 0 (back n marks b).0 (back n marks b).1 (sought_none n marks root (suc depth) b 0 v) low link v.2
        (subst (λ (p : ℕ × ℕ). marks p.0 ≢ 0) (sym is) high) in
        subst (λ (p : ℕ × ℕ). Sought n marks root (suc depth) b 0 depth p.0 (p.1 + 1)) is
        (sought_back n marks root (suc depth) b 0 (suc depth) depth b 1 refl on (sym one))

-- one port further leaves less to go through
pub weight_past : (n : Net) (marks : ℕ → ℕ) (depth a i : ℕ) → i < n.arity a → weight n marks depth a (i + 1) < weight n marks depth a i
weight_past n marks depth a i l = omega arith

-- a step back leaves less to go through
pub weight_back : (n : Net) (marks : ℕ → ℕ) (depth d a i : ℕ) → depth ≡ suc d → weight n marks d (back n marks a).0 ((back n marks a).1 + 1) < weight n marks depth a i
weight_back n marks depth d a i e = rw e (by (length-append (ports_from n (back n marks a).0 ((back n marks a).1 + 1)) (ports_behind n marks d (back n marks a).0)))
  where
    x : ℕ × ℕ
    x = back n marks a

    by : length (ports_from n (back n marks a).0 ((back n marks a).1 + 1) ++ ports_behind n marks d (back n marks a).0) ≡ length (ports_from n (back n marks a).0 ((back n marks a).1 + 1)) + length (ports_behind n marks d (back n marks a).0)
        → weight n marks d (back n marks a).0 ((back n marks a).1 + 1) < weight n marks (suc d) a i
    by h = let m = length-ports (back n marks a).0 ((back n marks a).1 + 1) (n.arity (back n marks a).0 - ((back n marks a).1 + 1)) in omega (arith, h, m)

-- back at its port the walk is at the root
pub root_port : (n : Net) (marks : ℕ → ℕ) (root : ℕ × ℕ) (depth a i : ℕ) → OnWay n marks root depth a → depth ≡ 0 → i ≡ root.1 → is_port (a, i) root ≡ true
root_port n marks root depth a i w e p =
    let v : a ≡ root.0 = subst (λ (z : ℕ). OnWay n marks root z a) e w in
    rw (eq-eqb a root.0 v, eq-eqb i root.1 p) refl

-- and at no other port
pub other_port : (n : Net) (marks : ℕ → ℕ) (root : ℕ × ℕ) (depth a i : ℕ) → OnWay n marks root depth a → ((depth ≡ 0) × (i ≡ root.1) → ⊥) → is_port (a, i) root ≡ false
other_port n marks root zero a i w d = rw (apart_test i root.1 (λ e. d (refl, e))) (by (a == root.0))
  where
    by : (t : Bool) → (t && false) ≡ false
    by true = refl
    by false = refl
other_port n marks root (suc depth) a i w d = rw (apart_test a root.0 w.3) refl

-- a walk halts at a port that isn't the root and leads to no marked atom
pub halts_at : (n : Net) (marks : ℕ → ℕ) (root : ℕ × ℕ) (depth a i : ℕ) → OnWay n marks root depth a → i ≤ n.arity a → (i ≡ n.arity a → ⊥) → ((depth ≡ 0) × (i ≡ root.1) → ⊥)
    → ((b j : ℕ) → n.link a i ≡ Some (b, j) → marks b ≡ 0) → Halts n marks root depth a i
halts_at n marks root depth a i way l d other f = record {
  inside = l;
  end = λ e. absurd (d e);
  apart = λ _. other_port n marks root depth a i way other;
  fresh = f;
}

-- and at the end of the root's ports
pub halts_end : (n : Net) (marks : ℕ → ℕ) (root : ℕ × ℕ) (depth a i : ℕ) → depth ≡ 0 → i ≡ n.arity a → ((b j : ℕ) → n.link a i ≡ Some (b, j) → i < n.arity a) → Halts n marks root depth a i
halts_end n marks root depth a i z e f = record {
  inside = omega (arith, e);
  end = λ _. z;
  apart = λ l. absurd (omega (arith, l, e));
  fresh = λ b j g. absurd (let l = f b j g in omega (arith, l, e));
}

-- a port has one other end
pub one_end : (marks : ℕ → ℕ) {o : Option (ℕ × ℕ)} {p : ℕ × ℕ} → o ≡ Some p → marks p.0 ≡ 0 → (b j : ℕ) → o ≡ Some (b, j) → marks b ≡ 0
one_end marks e m b j f = subst (λ (x : ℕ). marks x ≡ 0) (ap (λ (o : Option (ℕ × ℕ)). (or_zero o).0) (sym e ∙ f)) m

-- or none
pub no_end : {o : Option (ℕ × ℕ)} {p : ℕ × ℕ} → o ≡ None → o ≡ Some p → ⊥
no_end e f = let g = sym e ∙ f in cc
