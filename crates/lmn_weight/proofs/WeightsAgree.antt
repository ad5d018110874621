-- The weights of plains are those of their trees, by one weighing for a list of names.
use Rattle.std.proofs.Common.{ℕ, zero, suc, ◌≡◌, ◌<◌, ◌+◌, ◌*◌, Bool, true, false, List, [], ◌∷◌, ◌++◌, map, length, get_or, sum, refl, ap, subst, ◌∙◌, arith, if◌then◌else◌}
use Rattle.std.specs.Prelude.{bytes_eq, ◌==◌}
use Rattle.std.specs.List.{AllByRecursion, flat_map}
use Rattle.std.proofs.lemmas.List.{length-map}
use Rattle.std.proofs.lemmas.Slice.Eq.{bytes_eq-Decides}
use Rattle.lmn_base.proofs.Lists.{all_left, all_right, sum_cons}
use Rattle.lmn_base.specs.declared.functor.Label.{Label}
use Rattle.lmn_base.specs.declared.functor.Label.TheVariants.{Int, Name}
use Rattle.lmn_base.specs.declared.level.Leaf.{Leaf}
use Rattle.lmn_base.specs.declared.level.Leaf.TheVariants as leaf
use Rattle.lmn_base.specs.declared.level.Level.{Level}
use Rattle.lmn_base.specs.declared.level.Level.TheFolds.{fold-roll-Level, ind-Level}
use Rattle.lmn_base.specs.Levels.{leaves_of}
use Rattle.lmn_base.specs.Names.{IsNames, label_names, leaf_names}
use Rattle.lmn_base.specs.WellMade.{FitsArity}
use Rattle.lmn_congruence.specs.Plains.{leaf_process, level_process, levels_processes}
use Rattle.lmn_congruence.specs.Process.{rule, together}
use Rattle.lmn_congruence.specs.Rules as tree
use Rattle.lmn_congruence.specs.Translation.{atom_or_connector, label_of, leaf_of, level_of, level_step, levels, name_of}
use Rattle.lmn_guards.specs.declared.plan.TypedUse.{TypedUse}
use Rattle.lmn_app_reading.proofs.NamedPlains.{AllBelow}
use Rattle.lmn_app_accepted.proofs.Listed.{one_number}
use Rattle.lmn_weight.specs.declared.weights.Weights.{Weights}
use Rattle.lmn_weight.specs.Plains as plain
use Rattle.lmn_weight.specs.Weights.{Weighing, atom_weight, leaf_weight, leaves_weight, level_weight, membranes_weight, weight}

-- ---- the number of a name

-- the place of a name in a list, or the length of the list where it isn't there
abbrev pub number_in : List tree.Name → tree.Name → ℕ
number_in [] p = zero
number_in (q ∷ qs) p = if bytes_eq q p then zero else suc (number_in qs p)

-- a name that stands there has a number below the length
pub number_there : (names : List tree.Name) (n : ℕ) → n < length names → number_in names (get_or names n []) < length names
number_there [] n l = absurd (omega (arith, l))
number_there (q ∷ qs) zero l = go (bytes_eq q q) (bytes_eq-Decides q q).1
  where
    go : (b : Bool) → (q ≡ q → b ≡ true) → (if b then zero else suc (number_in qs q)) < length (q ∷ qs)
    go true h = omega arith
    go false h = absurd (let no = h refl in cc)
number_there (q ∷ qs) (suc n) l = go (bytes_eq q (get_or qs n [])) (number_there qs n (omega (arith, l)))
  where
    go : (b : Bool) → number_in qs (get_or qs n []) < length qs → (if b then zero else suc (number_in qs (get_or qs n []))) < length (q ∷ qs)
    go true h = omega arith
    go false h = omega (arith, h)

-- and the name with this number is the name
pub number_is : (names : List tree.Name) (p : tree.Name) → number_in names p < length names → get_or names (number_in names p) [] ≡ p
number_is [] p l = absurd (omega (arith, l))
number_is (q ∷ qs) p l = go (bytes_eq q p) (bytes_eq-Decides q p).0 l (number_is qs p)
  where
    go : (b : Bool) → (b ≡ true → q ≡ p) → (if b then zero else suc (number_in qs p)) < length (q ∷ qs) → (number_in qs p < length qs → get_or qs (number_in qs p) [] ≡ p)
        → get_or (q ∷ qs) (if b then zero else suc (number_in qs p)) [] ≡ p
    go true is l rest = is refl
    go false is l rest = rest (omega (arith, l))

-- so a number below the length is that of its name
pub number_named : (names : List tree.Name) → IsNames names → (n : ℕ) → n < length names → number_in names (name_of names n) ≡ n
number_named names is n l = let there = number_there names n l in one_number names is (number_in names (name_of names n)) n there l (number_is names (name_of names n) there)

-- a leaf whose names are known and that has as many links as its arity
abbrev pub IsFit : List tree.Name → Leaf → Type 0
IsFit names l = AllBelow names (leaf_names l) × FitsArity l

-- ---- the weighing

abbrev pub label_in : List tree.Name → tree.Label → Label
label_in names (tree.named p) = Name (number_in names p)
label_in names (tree.integer z) = Int z

-- what weights by numbers of names tell of names
abbrev pub weighing : List tree.Name → Weights → Weighing
weighing names w = record {
  of_functor = λ l k. plain.functor_weight w (record { label = label_in names l; arity = k });
  of_integer = w.int;
  of_membrane = w.membrane;
}

module _ (names : List tree.Name) (is : IsNames names) (w : Weights) where
  abbrev v : Weighing
  v = weighing names w

  -- an atom weighs what its functor does
  atom_agrees : (l : Label) (k : ℕ) → AllBelow names (label_names l) → atom_weight v (label_of names l) k ≡ plain.functor_weight w (record { label = l; arity = k })
  atom_agrees (Name n) k h = ap (λ m. plain.functor_weight w (record { label = Name m; arity = k })) (number_named names is n h.0)
  atom_agrees (Int z) k h = go (k == 1)
    where
      go : (b : Bool) → (if b then w.int else (if b then w.int else plain.listed_weight w.functors w.values (record { label = Int z; arity = k }))) ≡ (if b then w.int else plain.listed_weight w.functors w.values (record { label = Int z; arity = k }))
      go true = refl
      go false = refl

  module _ (is_int : tree.Name → Bool) (kinds : List TypedUse) (bound : List ℕ) (alike : (n : ℕ) → n < length names → is_int (name_of names n) ≡ plain.stands_for_int kinds bound n) where
    connector_or_atom : (l : Label) (xs : List ℕ) → AllBelow names (label_names l) → leaf_weight v is_int (atom_or_connector names l xs) ≡ plain.functor_weight w (record { label = l; arity = length xs })
    connector_or_atom (Name zero) [] h = atom_agrees (Name zero) 0 h
    connector_or_atom (Name zero) (x ∷ []) h = atom_agrees (Name zero) 1 h
    connector_or_atom (Name zero) (x ∷ (y ∷ [])) h = refl
    connector_or_atom (Name zero) (x ∷ (y ∷ (z ∷ xs))) h = atom_agrees (Name zero) (length (x ∷ (y ∷ (z ∷ xs)))) h
    connector_or_atom (Name (suc n)) xs h = atom_agrees (Name (suc n)) (length xs) h
    connector_or_atom (Int z) xs h = atom_agrees (Int z) (length xs) h

    leaf_agrees : (l : Leaf) → IsFit names l → leaf_weight v is_int (leaf_of names l) ≡ plain.leaf_weight w kinds bound l
    leaf_agrees (leaf.Atom f os p) h =
        connector_or_atom f.label (map (λ o. o.link) os) h.0 ∙ ap (λ k. plain.functor_weight w (record { label = f.label; arity = k })) (length-map os (λ o. o.link) ∙ h.1)
    leaf_agrees (leaf.Typed n o p) h = ap (λ b. if b then w.int else 0) (alike n h.0.0)

    leaves_agree : (ls : List Leaf) → AllByRecursion (IsFit names) ls → leaves_weight v is_int (map (leaf_of names) ls) ≡ sum (map (plain.leaf_weight w kinds bound) ls)
    leaves_agree [] h = refl
    leaves_agree (l ∷ ls) h = let e = leaf_agrees l h.0 in let f = leaves_agree ls h.1 in let g = sum_cons (plain.leaf_weight w kinds bound) l ls in omega (arith, e, f, g)

    module _ (rule : ℕ → tree.Rule) where
      abbrev Agrees : Level → Type 0
      Agrees l = AllByRecursion (IsFit names) (leaves_of l) → level_weight v is_int (level_of names rule l) ≡ plain.level_weight w kinds bound l

      abbrev inside : List Level → List Leaf
      inside ms = flat_map (λ ls. ls) (map leaves_of ms)

      membranes_agree : (ms : List ((l : Level) × Agrees l)) → AllByRecursion (IsFit names) (inside (map (λ e. e.0) ms))
          → membranes_weight v is_int (levels (map (level_of names rule) (map (λ e. e.0) ms))) ≡ length (map (λ e. e.0) ms) * w.membrane + sum (map (plain.level_weight w kinds bound) (map (λ e. e.0) ms))
      membranes_agree [] h = let k : 0 * w.membrane ≡ 0 = grind arith in omega (arith, k)
      membranes_agree (e ∷ ms) h =
          let rest = map (λ (e : (l : Level) × Agrees l). e.0) ms in
          let one = e.1 (all_left (IsFit names) (leaves_of e.0) (inside rest) h) in
          let more = membranes_agree ms (all_right (IsFit names) (leaves_of e.0) (inside rest) h) in
          let g = sum_cons (plain.level_weight w kinds bound) e.0 rest in
          let k : length (e.0 ∷ rest) * w.membrane ≡ w.membrane + length rest * w.membrane = grind arith in
          omega (arith, one, more, g, k)

      -- a level of a plain weighs what its tree does
      pub level_agrees : (l : Level) → Agrees l
      level_agrees = ind-Level Agrees (λ y z is h.
          let here = subst (AllByRecursion (IsFit names)) (fold-roll-Level (List Leaf) (λ l. l.leaves ++ flat_map (λ ls. ls) l.membranes) y) h in
          let own = leaves_agree y.leaves (all_left (IsFit names) y.leaves (inside y.membranes) here) in
          let below = subst (λ l. AllByRecursion (IsFit names) (inside l.membranes) → membranes_weight v is_int (levels (map (level_of names rule) l.membranes)) ≡ length l.membranes * w.membrane + sum (map (plain.level_weight w kinds bound) l.membranes)) is (membranes_agree z.membranes) in
          let walls = below (all_right (IsFit names) y.leaves (inside y.membranes) here) in
          let both : leaves_weight v is_int (map (leaf_of names) y.leaves) + membranes_weight v is_int (levels (map (level_of names rule) y.membranes)) ≡ sum (map (plain.leaf_weight w kinds bound) y.leaves) + (length (map (plain.level_weight w kinds bound) y.membranes) * w.membrane + sum (map (plain.level_weight w kinds bound) y.membranes)) = (let n = ap (λ k. k * w.membrane) (length-map y.membranes (plain.level_weight w kinds bound)) in omega (arith, own, walls, n)) in
          rw (fold-roll-Level tree.Level (level_step names rule) y, fold-roll-Level ℕ (plain.weight_step w kinds bound) y) both)

-- ---- processes

module _ (v : Weighing) where
  leaf_weighs : (l : tree.Leaf) → weight v (leaf_process l) ≡ leaf_weight v (λ p. false) l
  leaf_weighs (tree.atom_leaf a xs) = refl
  leaf_weighs (tree.connector_leaf x y) = refl
  leaf_weighs (tree.typed_leaf p x) = refl

  leaves_weigh : (ls : List tree.Leaf) → weight v (together (map leaf_process ls)) ≡ leaves_weight v (λ p. false) ls
  leaves_weigh [] = refl
  leaves_weigh (l ∷ ls) = let e = leaf_weighs l in let f = leaves_weigh ls in omega (arith, e, f)

  rules_weigh : (rs : List tree.Rule) → weight v (together (map rule rs)) ≡ 0
  rules_weigh [] = refl
  rules_weigh (r ∷ rs) = let e = rules_weigh rs in omega (arith, e)

  mutual
    -- the process of a top weighs what its level does
    pub process_weighs : (l : tree.Level) → weight v (level_process l) ≡ level_weight v (λ p. false) l
    process_weighs (tree.level leaves membranes contexts rule_contexts rules) =
        let e = leaves_weigh leaves in let f = processes_weigh membranes in let g = rules_weigh (tree.rules_list rules) in omega (arith, e, f, g)

    processes_weigh : (ls : tree.Levels) → weight v (together (levels_processes ls)) ≡ membranes_weight v (λ p. false) ls
    processes_weigh tree.no_level = refl
    processes_weigh (tree.level_and l ls) = let e = process_weighs l in let f = processes_weigh ls in omega (arith, e, f)
