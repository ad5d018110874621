-- What the head leaves of its membranes, and what its contexts stand for, are what is left on the heap.
use Rattle.std.proofs.Common.{ℕ, ◌≡◌, ◌+◌, ◌≤◌, ◌⊎◌, List, [], ◌∷◌, ◌++◌, map, length, refl, sym, ap, subst, ◌∙◌, inl, inr, arith}
use Rattle.lmn_base.specs.declared.level.CtxUse.{CtxUse}
use Rattle.lmn_store_heap.specs.Heap.{Heap, IsAtom, atoms_in, mems_in, rules_in}
use Rattle.lmn_store_heap.specs.Lists.{without_all}
use Rattle.lmn_store_heap.specs.Sound.{Forest, flat, Forms, Valid}
use Rattle.lmn_store_heap.proofs.ListLemmas.{in_left, each_in, each_of}
use Rattle.std.proofs.lemmas.Bool.{cases_eq}
use Rattle.lmn_solid_bodies.proofs.Committing.{in_withouts_of}
use Rattle.lmn_congruence_splice.specs.Splice as splice
use Rattle.lmn_congruence.specs.Links.{one_if_same}
use Rattle.lmn_congruence.specs.Orders.{Among, at_head, further}
use Rattle.lmn_congruence.specs.Regions.{region}
use Rattle.lmn_congruence.specs.Rules.{Level, Name, level}
use Rattle.lmn_congruence.specs.Translation.{context_tree, name_of, names_of}
use Rattle.lmn_adequacy.specs.Accepted.{NoConnectorLeaf, EachOf, own_leaves}
use Rattle.lmn_adequacy.specs.Embedding.{Contents}
use Rattle.lmn_solid_heads.proofs.HeadTrees.{Heads, head, no_head, head_and, sizes}
use Rattle.lmn_solid_bodies.specs.Flattening.{names_inside}
use Rattle.lmn_adequacy_heaps.specs.HeapRegions.{HeapReading, atoms_at}
use Rattle.lmn_adequacy_heaps.proofs.Back.{Reads, reads_split}
use Rattle.lmn_adequacy_heaps.proofs.Rests.{tops_taken as tops_or_left}
use Rattle.lmn_adequacy_heaps.proofs.Counting.{weigh_same, list_atoms, forest_atoms}
use Rattle.lmn_adequacy_heaps.proofs.Forests.{tops, Grown, taken_grown, some_of, find_in, tops_flat}
use Rattle.lmn_adequacy_heaps.proofs.HeadTrees.{tree_of, trees_of}
use Rattle.lmn_adequacy_heaps.proofs.Lengths.{level_length}
use Rattle.lmn_adequacy_heaps.proofs.Lying.{Lies, lies, LiesIn, lies_none, lies_and}
use Rattle.lmn_adequacy_heaps.proofs.PartsOut.{flattened, parts_both, flattened_left}
use Rattle.lmn_adequacy_heaps.proofs.Pieces.{atom_at, atoms_each, numbers}
use Rattle.lmn_adequacy_heaps.proofs.Walking.{flat_size}
use Rattle.lmn_adequacy_heaps.proofs.Weighing.{heavy_taken, level_weighs, membranes_weigh, weigh_nothing, weigh_out, forest_left_grown as left_grown}
use Rattle.lmn_compile_body.proofs.HeadContexts.{head_contexts, heads_contexts, heads_names, untyped, of_rules}
use Rattle.lmn_adequacy_turns.specs.Turning.{IsLeft}
use Rattle.lmn_adequacy_turns.proofs.Held.{Held, context_is, rule_context_is, parts_sub, parts_or_left, tops_sub, grown_forms}
use Rattle.lmn_adequacy_turns.proofs.Sublists.{Sublist, sub_then, sub_without_all, gone_or_left, sub_is}
use Rattle.lmn_base.proofs.Lists.{weigh, weigh_append}
use Rattle.lmn_congruence_splice.proofs.Common.{in_append, in_back, in_front}
use Rattle.lmn_guards.specs.declared.plan.TypeKind.{TypeKind}
use Rattle.lmn_base.specs.Lists.{In}

in_some : (b : ℕ) (xs : List ℕ) → In b xs → 1 ≤ weigh (one_if_same b) xs
in_some b xs p = omega (arith, weigh_same b xs, some_of b xs p)

some_in : (b : ℕ) (xs : List ℕ) → 1 ≤ weigh (one_if_same b) xs → In b xs
some_in b xs p = find_in b xs (omega (arith, weigh_same b xs, p))

-- a name of some contexts is among those of the calculus
pub name_among : (names : List Name) (inside : ℕ) (us : List CtxUse) (e : ℕ × ℕ) → splice.IsOneOf e (names_inside inside us) → Among (name_of names e.0) (names_of names us) × (e.1 ≡ inside)
name_among names inside [] e i = absurd i
name_among names inside (u ∷ us) e (inl q) =
    (subst (λ x. Among (name_of names x) (name_of names u.name ∷ names_of names us)) (ap (λ (p : ℕ × ℕ). p.0) q) at_head, sym (ap (λ (p : ℕ × ℕ). p.1) q))
name_among names inside (u ∷ us) e (inr i) = let w = name_among names inside us e i in (further w.0, w.1)

-- and it is that of a context of the calculus
pub context_among : (names : List Name) (inside : ℕ) (us : List CtxUse) (e : ℕ × ℕ) → splice.IsOneOf e (names_inside inside us) →
    (u : CtxUse) × splice.IsOneOf u us × (u.name ≡ e.0) × Among (context_tree names u) (map (context_tree names) us) × (e.1 ≡ inside)
context_among names inside [] e i = absurd i
context_among names inside (u ∷ us) e (inl q) = (u, inl refl, ap (λ (p : ℕ × ℕ). p.0) q, at_head, sym (ap (λ (p : ℕ × ℕ). p.1) q))
context_among names inside (u ∷ us) e (inr i) = let w = context_among names inside us e i in (w.0, inr w.1, w.2, further w.3, w.4)

module _ (h : Heap) (v : Valid h) (r : HeapReading) (c : Contents) (all_as all_ps all_ms taken ks : List ℕ)
    (takes_as : (b : ℕ) → In b all_as → In b taken) (takes_ps : (b : ℕ) → In b all_ps → In b taken) (takes_only : (b : ℕ) → In b taken → In b all_as ⊎ In b all_ps)
    (ms_are : (b : ℕ) → In b all_ms → In b ks) (ks_are : (b : ℕ) → In b ks → In b all_ms) where
  -- what stands elsewhere in the head, beside what is held in a list and a forest
  pub record Room (ea em : ℕ → ℕ) (xs : List ℕ) (F : Forest) (bs : List ℕ) (ps : List (List ℕ)) (ms : List ℕ) : Type 0 where
    pub atom_room : (b : ℕ) → (ea b + weigh (one_if_same b) xs) + weigh (one_if_same b) (forest_atoms h F) ≤ 1
    pub membrane_room : (b : ℕ) → em b + weigh (one_if_same b) (flat F) ≤ 1
    pub all_atoms_are : (b : ℕ) → ea b + (weigh (one_if_same b) bs + weigh (one_if_same b) (flattened ps)) ≡ weigh (one_if_same b) all_as + weigh (one_if_same b) all_ps
    pub all_membranes_are : (b : ℕ) → em b + weigh (one_if_same b) ms ≡ weigh (one_if_same b) all_ms

  -- what is left of a membrane is what is left on the heap
  pub record LeftThere (m : ℕ) (xs : List ℕ) (i' : Forest) : Type 0 where
    pub atoms : xs ≡ without_all taken (atoms_in h m)
    pub forms : Forms h i' (without_all ks (mems_in h m))

  pub left_there : (ea em : ℕ → ℕ) (l : Level) (m : ℕ) {bs ms ns xs : List ℕ} {ps : List (List ℕ)} {i i' : Forest} → Lies h r c.link_of c.typed_of (Held h v r c) l bs ps ms ns (atoms_in h m) xs i i' →
      Room ea em (atoms_in h m) i bs ps ms → tops i ≡ mems_in h m → Grown h i → LeftThere m xs i'
  left_there ea em l m {xs = xs} {i = i} {i' = i'} (lies {leaves = leaves} {membranes = membranes} {contexts = contexts} {rule_contexts = rule_contexts} {rules = rules} {bs = bs} {as' = as'} {ms = ms} {ns = ns} {parts = parts} {ps = ps} fit d among out k) room grown g =
      let X = atoms_in h m in
      let D : Lies h r c.link_of c.typed_of (Held h v r c) (level leaves membranes contexts rule_contexts rules) (bs ++ as') (parts ++ ps) ms (numbers bs (atoms_in h m) ++ ns) (atoms_in h m) xs i i' = lies fit d among out k in
      let gone : (b : ℕ) → In b X → In b taken ⊎ In b xs = λ b j. elim (gone_or_left bs X b j) [
        | inl w ↦ inl (is_taken b (inl (in_left b bs as' w)))
        | inr w ↦ elim (parts_or_left out b w) [ inl y ↦ inl (is_taken b (inr (in_part b y))) | inr y ↦ inr y ]
      ] in
      let apart : (b : ℕ) → In b xs → In b taken → ⊥ = λ b p q.
      (let heavy = level_weighs h (one_if_same b) (λ b. 0) D in
      let z1 = weigh_nothing ms in
      let z2 = weigh_nothing (flat i) in
      elim (takes_only b q) [
        | inl j ↦ omega (arith, in_some b xs p, in_some b all_as j, heavy, z1, z2, room.atom_room b, room.all_atoms_are b)
        | inr j ↦ omega (arith, in_some b xs p, in_some b all_ps j, heavy, z1, z2, room.atom_room b, room.all_atoms_are b)
      ]) in
      let apart_ms : (b : ℕ) → In b (tops i') → In b ks → ⊥ = λ b p q.
      (let heavy = level_weighs h (λ b. 0) (one_if_same b) D in
      let all = in_some b all_ms (ks_are b q) in
      omega (arith, in_some b (flat i') (tops_flat i' b p), all, heavy, weigh_nothing (bs ++ as'), weigh_nothing (forest_atoms h i), weigh_nothing xs, weigh_nothing X, weigh_nothing (flattened (parts ++ ps)), room.membrane_room b, room.all_membranes_are b)) in
      let gone_ms : (b : ℕ) → In b (mems_in h m) → In b ks ⊎ In b (tops i') = λ b j. elim (tops_or_left k b (subst (In b) (sym grown) j)) [
        | inl w ↦ inl (ms_are b (some_in b all_ms (let u = room.all_membranes_are b in omega (arith, u, in_some b ms w))))
        | inr w ↦ inr w
      ] in
      let mems : tops i' ≡ without_all ks (mems_in h m) = sub_is ks (subst (Sublist (tops i')) grown (tops_sub k)) (v.sound.listed.mems_once m) gone_ms apart_ms in
      record {
        atoms = sub_is taken (sub_then (parts_sub out) (sub_without_all bs X)) (v.sound.listed.atoms_once m) gone apart;
        forms = subst (Forms h i') mems (grown_forms h i' (left_grown k g));
      }
    where
      in_part : (b : ℕ) → In b (flattened parts) → In b (flattened (parts ++ ps))
      in_part b j = flattened_left b parts ps j

      is_taken : (b : ℕ) → In b (bs ++ as') ⊎ In b (flattened (parts ++ ps)) → In b taken
      is_taken b w =
          let u = room.all_atoms_are b in
          let some : 1 ≤ weigh (one_if_same b) (bs ++ as') + weigh (one_if_same b) (flattened (parts ++ ps)) = elim w [ inl j ↦ omega (arith, in_some b (bs ++ as') j) | inr j ↦ omega (arith, in_some b (flattened (parts ++ ps)) j) ] in
          elim (cases_eq (weigh (one_if_same b) all_as) 0) [
            | inl z ↦ takes_ps b (some_in b all_ps (omega (arith, u, some, z)))
            | inr z ↦ takes_as b (some_in b all_as (omega (arith, z)))
          ]

  -- a list of numbers as it is read
  pub each_read : (m : ℕ) (xs : List ℕ) → xs ≡ without_all taken (atoms_in h m) → map (atom_at h r) xs ≡ atoms_at h r (without_all taken (atoms_in h m))
  each_read m xs e = subst (λ ys. map (atom_at h r) xs ≡ atoms_at h r ys) e (sym (atoms_each h r xs (each_of (IsAtom h) xs (λ a i. each_in (IsAtom h) (atoms_in h m) a (list_atoms h v m) (within a (subst (In a) e i))))))
    where
      within : (a : ℕ) → In a (without_all taken (atoms_in h m)) → In a (atoms_in h m)
      within a i = (in_withouts_of taken (atoms_in h m) a (v.sound.listed.atoms_once m) i).0

  module _ (kind : ℕ → TypeKind) (at : ℕ → ℕ) where
    -- what the contexts of the membranes of a head stand for
    pub record ContextsThere (next : ℕ) (hs : Heads) : Type 0 where
      pub contexts : (e : ℕ × ℕ) → splice.IsOneOf e (heads_names untyped next hs) → (u : CtxUse) × splice.IsOneOf u (heads_contexts untyped hs) × (u.name ≡ e.0)
          × IsLeft h r taken ks (at e.1) (region (c.atoms_of (context_tree r.names u)) (c.membranes_of (context_tree r.names u)) (map r.rule (rules_in h (at e.1))))
      pub rules : (e : ℕ × ℕ) → splice.IsOneOf e (heads_names of_rules next hs) → c.rules_of (name_of r.names e.0) ≡ map r.rule (rules_in h (at e.1))

    pub contexts_there : (hs : Heads) (next : ℕ) (ea em : ℕ → ℕ) {bs ms ns : List ℕ} {ps : List (List ℕ)} {F F' : Forest} → EachOf (λ l. NoConnectorLeaf (own_leaves l)) (trees_of r.names r.rule hs) →
        LiesIn h r c.link_of c.typed_of (Held h v r c) (trees_of r.names r.rule hs) bs ps ms ns F F' → Room ea em [] F bs ps ms → Reads at next ms → Grown h F → ContextsThere next hs
    contexts_there no_head next ea em o lies_none room gm g = record { contexts = λ e i. absurd i; rules = λ e i. absurd i }
    contexts_there (head_and (head leaves hs' cs rcs rs) hs) next ea em o
        (lies_and {m = m} {bs = bs} {qs = qs} {ks = ks'} {f = F} {f' = F'} {f'' = F''} {i = i} {i' = i'} k (lies {bs = bs'} {as' = as'} {ms = ms} {ns = ns'} {rest = xs} {parts = parts} {ps = ps} fit dist among out inner) q more) room gm g =
        let hd = head leaves hs' cs rcs rs in
        let d : Lies h r c.link_of c.typed_of (Held h v r c) (tree_of r.names r.rule (head leaves hs' cs rcs rs)) (bs' ++ as') (parts ++ ps) ms (numbers bs' (atoms_in h m) ++ ns') (atoms_in h m) xs i i' = lies fit dist among out inner in
        let all_bs = bs' ++ as' in
        let all_ps = parts ++ ps in
        let grown = taken_grown h k g in
        let here : Room (λ b. ea b + (weigh (one_if_same b) bs + weigh (one_if_same b) (flattened qs))) (λ b. (em b + one_if_same b m) + weigh (one_if_same b) ks') (atoms_in h m) i all_bs all_ps ms = record {
          atom_room = λ b.
              let u = room.atom_room b in
              let w = heavy_taken h (one_if_same b) (λ b. 0) k in
              let y = membranes_weigh h (one_if_same b) (λ b. 0) more in
              omega (arith, u, w, y, weigh_nothing ms, weigh_nothing ks', weigh_nothing (flat F), weigh_nothing (flat F'), weigh_nothing (flat F''), weigh_nothing (flat i));
          membrane_room = λ b.
              let u = room.membrane_room b in
              let w = heavy_taken h (λ b. 0) (one_if_same b) k in
              let y = membranes_weigh h (λ b. 0) (one_if_same b) more in
              omega (arith, u, w, y, weigh_nothing bs, weigh_nothing (flattened qs), weigh_nothing (forest_atoms h F), weigh_nothing (forest_atoms h F'), weigh_nothing (forest_atoms h F''), weigh_nothing (forest_atoms h i), weigh_nothing (atoms_in h m));
          all_atoms_are = λ b. let u = room.all_atoms_are b in omega (arith, u, weigh_append (one_if_same b) all_bs bs, parts_both (one_if_same b) all_ps qs);
          all_membranes_are = λ b. let u = room.all_membranes_are b in omega (arith, u, weigh_append (one_if_same b) ms ks');
        } in
        let there : Room (λ b. ea b + (weigh (one_if_same b) all_bs + weigh (one_if_same b) (flattened all_ps))) (λ b. (em b + one_if_same b m) + weigh (one_if_same b) ms) [] F' bs qs ks' = record {
          atom_room = λ b.
              let u = room.atom_room b in
              let w = heavy_taken h (one_if_same b) (λ b. 0) k in
              let y = level_weighs h (one_if_same b) (λ b. 0) d in
              omega (arith, u, w, y, weigh_nothing ms, weigh_nothing ks', weigh_nothing (flat F), weigh_nothing (flat F'), weigh_nothing (flat i), weigh_nothing (flat i'));
          membrane_room = λ b.
              let u = room.membrane_room b in
              let w = heavy_taken h (λ b. 0) (one_if_same b) k in
              let y = level_weighs h (λ b. 0) (one_if_same b) d in
              omega (arith, u, w, y, weigh_nothing all_bs, weigh_nothing (flattened all_ps), weigh_nothing xs, weigh_nothing (forest_atoms h F), weigh_nothing (forest_atoms h F'), weigh_nothing (forest_atoms h i), weigh_nothing (forest_atoms h i'), weigh_nothing (atoms_in h m));
          all_atoms_are = λ b. let u = room.all_atoms_are b in omega (arith, u, weigh_append (one_if_same b) all_bs bs, parts_both (one_if_same b) all_ps qs);
          all_membranes_are = λ b. let u = room.all_membranes_are b in omega (arith, u, weigh_append (one_if_same b) ms ks');
        } in
        let deeper : Room (λ b. (ea b + (weigh (one_if_same b) bs + weigh (one_if_same b) (flattened qs))) + (weigh (one_if_same b) bs' + weigh (one_if_same b) (flattened parts))) (λ b. (em b + one_if_same b m) + weigh (one_if_same b) ks') [] i as' ps ms = record {
          atom_room = λ b. let u = here.atom_room b in omega (arith, u, weigh_out (one_if_same b) bs' (atoms_in h m) dist among out);
          membrane_room = here.membrane_room;
          all_atoms_are = λ b. let u = here.all_atoms_are b in omega (arith, u, weigh_append (one_if_same b) bs' as', parts_both (one_if_same b) parts ps);
          all_membranes_are = here.all_membranes_are;
        } in
        let left = left_there (λ b. ea b + (weigh (one_if_same b) bs + weigh (one_if_same b) (flattened qs))) (λ b. (em b + one_if_same b m) + weigh (one_if_same b) ks') (tree_of r.names r.rule hd) m d here grown.0.0 grown.0.1 in
        let under = reads_split at (next + 1) ms ks' gm.1 in
        let len = level_length h r c.link_of c.typed_of (Held h v r c) kind next (next + 1) hd o.0 d in
        let y : (next + 1) + length ms ≡ next + 1 + sizes hs' = let s = len.1 in omega (arith, s, flat_size kind next (next + 1) hd) in
        let below = contexts_there hs' (next + 1) (λ b. (ea b + (weigh (one_if_same b) bs + weigh (one_if_same b) (flattened qs))) + (weigh (one_if_same b) bs' + weigh (one_if_same b) (flattened parts))) (λ b. (em b + one_if_same b m) + weigh (one_if_same b) ks')
        o.0.1 inner deeper under.0 grown.0.1 in
        let behind = contexts_there hs (next + 1 + sizes hs') (λ b. ea b + (weigh (one_if_same b) all_bs + weigh (one_if_same b) (flattened all_ps))) (λ b. (em b + one_if_same b m) + weigh (one_if_same b) ms)
        o.1 more there (subst (λ z. Reads at z ks') y under.1) grown.1 in
        record {
          contexts = λ e w. elim (in_append e (names_inside next cs ++ heads_names untyped (next + 1) hs') (heads_names untyped (next + 1 + sizes hs') hs) w) [
            | inl a ↦ elim (in_append e (names_inside next cs) (heads_names untyped (next + 1) hs') a) [
              | inl b ↦ (let n = context_among r.names next cs e b in
                  let held = context_is c q.1.0 n.3 in
                  let there : at e.1 ≡ m = ap at n.4 ∙ gm.0 in (
                    n.0,
                    in_front n.0 (head_contexts untyped hd) (heads_contexts untyped hs) (in_front n.0 cs (heads_contexts untyped hs') n.1),
                    n.2,
                    record {
                      forest = i';
                      forms = subst (λ z. Forms h i' (without_all ks (mems_in h z))) (sym there) left.forms;
                      is = λ j. region ((held.0 ∙ each_read m xs left.atoms ∙ ap (λ z. atoms_at h r (without_all taken (atoms_in h z))) (sym there)) j) (held.1 j) (map r.rule (rules_in h (at e.1)));
                    },
                  ))
              | inr b ↦ (let w = below.contexts e b in (w.0, in_front w.0 (head_contexts untyped hd) (heads_contexts untyped hs) (in_back w.0 cs (heads_contexts untyped hs') w.1), w.2, w.3))
            ]
            | inr a ↦ (let w = behind.contexts e a in (w.0, in_back w.0 (head_contexts untyped hd) (heads_contexts untyped hs) w.1, w.2, w.3))
          ];
          rules = λ e w. elim (in_append e (names_inside next rcs ++ heads_names of_rules (next + 1) hs') (heads_names of_rules (next + 1 + sizes hs') hs) w) [
            | inl a ↦ elim (in_append e (names_inside next rcs) (heads_names of_rules (next + 1) hs') a) [
              | inl b ↦ (let n = name_among r.names next rcs e b in rule_context_is c q.1.1 n.0 ∙ ap (λ z. map r.rule (rules_in h z)) (sym (ap at n.1 ∙ gm.0)))
              | inr b ↦ below.rules e b
            ]
            | inr a ↦ behind.rules e a
          ];
        }
