-- The walk over membranes, step by step.
use Rattle.std.proofs.Common.{◌≡◌, ℕ, suc, ◌+◌, ◌-◌, ◌<◌, ◌≤◌, ◌^◌, Bool, true, false, List, [], ◌∷◌, ◌++◌, length, Option, Some, None, refl, sym, ap, ◌∙◌, subst, length-append, arith}
use Rattle.std.specs.Prelude.{codes, MatchOption}
use Rattle.std.proofs.lemmas.List.{append-nil, append_assoc}
use Rattle.lmn_store_heap.specs.Heap.{Heap, top as at_top, within, Distinct, IsMem, from, after, mems_in, parent_of}
use Rattle.lmn_store_heap.specs.Sound.{Forest, bare, mem, flat, Forms, IsTree, Sound, AtMost}
use Rattle.lmn_store_heap.proofs.Heights.{mem_of_place, parent_is}
use Rattle.lmn_store_heap.proofs.Pigeonholes.{not_longer}
use Rattle.lmn_store_heap.proofs.Trees.{after_split, in_here, is_mem, parent_by}
use Rattle.lmn_io.specs.Gathering.{SinkState, Adds}
use Rattle.lmn_io.proofs.TakingLemmas.{adds_as, adds_more}
use Rattle.lmn_print_plain.specs.Rows.{between_if, in_row}
use Rattle.lmn_print_plain.specs.Walks.{Texts, Way, top, inside, membranes_round, between, StandsBeside, size, membranes_behind, Position, Leaving, members, items_text, has_atoms, has_atoms_or_membranes, closing, from_atoms, from_membranes, from_rules, membranes_ahead, left_behind, WalksOn, tree_text}
use Rattle.lmn_print_plain.proofs.DueLemmas.{Due, due_first, due_next, due_as, due_end}
use Rattle.lmn_base.specs.Lists.{In}

-- a membrane in braces, and what follows
regroup : (x inner more rest : List ℕ) → (x ++ ((123 ∷ (inner ++ (125 ∷ []))) ++ more)) ++ rest ≡ (x ++ (123 ∷ [])) ++ (inner ++ (125 ∷ (more ++ rest)))
regroup x inner more rest =
    append_assoc x ((123 ∷ (inner ++ (125 ∷ []))) ++ more) rest
    ∙ ap (λ z. x ++ (123 ∷ z)) (append_assoc (inner ++ (125 ∷ [])) more rest ∙ append_assoc inner (125 ∷ []) (more ++ rest))
    ∙ sym (append_assoc x (123 ∷ []) (inner ++ (125 ∷ (more ++ rest))))

-- The beginning.
pub starts : (s : Heap) (sound : Sound s) (f : Forest) → IsTree s f → AtMost (2 ^ 48) s → (t : Texts)
    → (p : Position s s.root 0) × (from_atoms t p ≡ tree_text t f) × (1 + membranes_ahead p ≤ 2 ^ 48)
starts s sound f tree few t = by f tree.forms bound
  where
    all : length few.atoms + length few.mems ≤ 2 ^ 48
    all = let h = few.few in omega (arith, h)

    bound : length (flat f) ≤ 2 ^ 48
    bound = let l = not_longer (flat f) few.mems tree.once (λ b i. few.all_mems b (is_mem s sound f tree b i)) in let h = all in omega (arith, l, h)

    by : (g : Forest) → Forms s g (s.root ∷ []) → length (flat g) ≤ 2 ^ 48 → (p : Position s s.root 0) × (from_atoms t p ≡ tree_text t g) × (1 + membranes_ahead p ≤ 2 ^ 48)
    by bare F b = absurd (cc F)
    by (mem k i r) F b =
        let whole : s.root ∷ [] ≡ k ∷ F.0 = F.1 in
        let same : k ≡ s.root = cc in
        let none : F.0 ≡ [] = cc in
        let last : r ≡ bare = nothing r (subst (Forms s r) none F.3) in
        let count : size i + 1 ≤ 2 ^ 48 = let l = length-append (flat i) (flat r) in omega (arith, b, l) in
        let p : Position s s.root 0 = record { inner = i; beside = bare; way = top; forms = subst (λ m. Forms s i (mems_in s m)) same F.2; stands = (refl, refl); deep = refl; few = omega (arith, count) } in
        (p, append-nil (items_text t (codes ". ") s.root (members t i)) ∙ ap (λ m. items_text t (codes ". ") m (members t i)) (sym same), omega (arith, count))
      where
        nothing : (g : Forest) → Forms s g [] → g ≡ bare
        nothing bare F = refl
        nothing (mem k i b) F = absurd (let w : [] ≡ k ∷ F.0 = F.1 in cc w)

-- The walk stands in membranes of the store.

position_by : (s : Heap) (sound : Sound s) (m : ℕ) (beside : Forest) (way : Way) → StandsBeside s m beside way → IsMem s m
position_by s sound m beside top st = mem_of_place s m at_top ((sound.listed.root m).1 st.0)
position_by s sound m beside (inside p b way) st =
    mem_of_place s m (within p) ((sound.listed.mems p m).0 (subst (In m) (sym st.2) (in_here m st.0 st.1)))

-- where the writer stands is a membrane
pub stands_in : (s : Heap) (sound : Sound s) (m depth : ℕ) → Position s m depth → IsMem s m
stands_in s sound m depth p = position_by s sound m p.beside p.way p.stands

-- and so is what it leaves
pub leaves_in : (s : Heap) (sound : Sound s) (m depth : ℕ) → Leaving s m depth → IsMem s m
leaves_in s sound m depth p = position_by s sound m p.beside p.way p.stands

-- behind the atoms the membranes and the rules are left
pub atoms_written : (t : Texts) (s : Heap) (m depth : ℕ) (p : Position s m depth) (whole : List ℕ) (before o1 o2 : SinkState)
    → Due whole (from_atoms t p) before o1 → Adds (in_row (between p.way) false (t.atoms m)) o1 o2 → Due whole (from_membranes t p) before o2
atoms_written t s m depth p whole before o1 o2 d h =
    let a = in_row (between p.way) false (t.atoms m) in
    let b = in_row (between p.way) (has_atoms t m) (members t p.inner) in
    let c = in_row (between p.way) (has_atoms_or_membranes t m (members t p.inner)) (t.rules m) in
    let e : from_atoms t p ≡ a ++ from_membranes t p =
    append_assoc a (b ++ c) (closing t p.way p.beside) ∙ ap (λ z. a ++ z) (append_assoc b c (closing t p.way p.beside)) in
    due_next whole (from_atoms t p) a (from_membranes t p) before o1 o2 e d h

-- Into the first membrane.

enters : (t : Texts) (s : Heap) (m depth n : ℕ) (i b : Forest) (way : Way) (inner : Forest) (ms : List ℕ) → Forms s inner ms → ms ≡ mems_in s m → from (Some n) ms ≡ ms → StandsBeside s m b way
    → depth ≡ membranes_round way → membranes_round way + 1 + (size inner + size b + membranes_behind way) ≤ 2 ^ 48 → (o1 o2 o3 : SinkState)
    → Adds (between_if (between way) (has_atoms t m)) o1 o2 → Adds (codes "{") o2 o3
    → WalksOn t s (in_row (between way) (has_atoms t m) (members t inner) ++ (in_row (between way) (has_atoms_or_membranes t m (members t inner)) (t.rules m) ++ closing t way b))
    (size inner + size b + membranes_behind way) n (depth + 1) o1 o3
enters t s m depth n i b way bare ms F is e st d few o1 o2 o3 h k = absurd (let w : n ∷ after n ms ≡ [] = e ∙ F in cc w)
enters t s m depth n i b way (mem k inner rest) ms F is e st d few o1 o2 o3 h l =
    let whole : n ∷ after n ms ≡ k ∷ F.0 = e ∙ F.1 in
    let same : k ≡ n = cc in
    let size_is : size (mem k inner rest) ≡ suc (size inner + size rest) = ap suc (length-append (flat inner) (flat rest)) in
    let p : Position s n (depth + 1) = record {
      inner = inner;
      beside = rest;
      way = inside m b way;
      forms = subst (λ x. Forms s inner (mems_in s x)) same F.2;
      stands = ([], F.0, sym is ∙ F.1 ∙ ap (λ x. x ∷ F.0) same, F.3, st);
      deep = ap (λ x. x + 1) d;
      few = omega (arith, few, size_is);
    } in
    let any = has_atoms t m in
    let x = between_if (between way) any in
    let inner_text = items_text t (codes ", ") k (members t inner) in
    let more = in_row (between way) true (members t rest) in
    let end = in_row (between way) true (t.rules m) ++ closing t way b in
    record {
      position = p;
      written = x ++ codes "{";
      adds = adds_more x (codes "{") o1 o2 o3 h l;
      rest = regroup x inner_text more end ∙ ap (λ y. (x ++ (123 ∷ [])) ++ (items_text t (codes ", ") y (members t inner) ++ (125 ∷ (more ++ end)))) same;
      fewer = omega (arith, size_is);
    }

-- it goes into the first membrane
pub goes_in : (t : Texts) (s : Heap) (m depth n : ℕ) (p : Position s m depth) → from (Some n) (mems_in s m) ≡ mems_in s m → (o1 o2 o3 : SinkState)
    → Adds (between_if (between p.way) (has_atoms t m)) o1 o2 → Adds (codes "{") o2 o3 → WalksOn t s (from_membranes t p) (membranes_ahead p) n (depth + 1) o1 o3
goes_in t s m depth n p e o1 o2 o3 h k = enters t s m depth n bare p.beside p.way p.inner (mems_in s m) p.forms refl e p.stands p.deep p.few o1 o2 o3 h k

-- Where there is no membrane only the rules are left.

no_forest : (s : Heap) (g : Forest) (ms : List ℕ) → Forms s g ms → ms ≡ [] → g ≡ bare
no_forest s bare ms F e = refl
no_forest s (mem k i b) ms F e = absurd (let w : k ∷ F.0 ≡ [] = sym F.1 ∙ e in cc w)

-- where there is none it turns
abbrev pub turn : (s : Heap) (m depth : ℕ) → Position s m depth → Leaving s m depth
turn s m depth p = record { beside = p.beside; way = p.way; stands = p.stands; deep = p.deep; few = let f = p.few in omega (arith, f) }

-- and its rules are due
pub turned : (t : Texts) (s : Heap) (m depth : ℕ) (p : Position s m depth) → from None (mems_in s m) ≡ mems_in s m → from_rules t (has_atoms t m) (turn s m depth p) ≡ from_membranes t p
turned t s m depth p e =
    let none : p.inner ≡ bare = no_forest s p.inner (mems_in s m) p.forms (sym e) in
    ap (λ (g : Forest). in_row (between p.way) (has_atoms t m) (members t g) ++ (in_row (between p.way) (has_atoms_or_membranes t m (members t g)) (t.rules m) ++ closing t p.way p.beside)) (sym none)

-- Out of a membrane.

root_has_none : (s : Heap) (sound : Sound s) (m : ℕ) → m ≡ s.root → parent_of s m ≡ None
root_has_none s sound m e = parent_by s m at_top ((sound.listed.root m).1 e)

-- Behind the rules of the root nothing is left.
ends_by : (t : Texts) (s : Heap) (sound : Sound s) (m : ℕ) (beside : Forest) (way : Way) → StandsBeside s m beside way → parent_of s m ≡ None → closing t way beside ≡ []
ends_by t s sound m beside top st e = refl
ends_by t s sound m beside (inside p b way) st e =
    let w : parent_of s m ≡ Some p = parent_is s sound.listed m p (subst (In m) (sym st.2) (in_here m st.0 st.1)) in
    absurd (let u : None ≡ Some p = sym e ∙ w in cc u)

-- behind the root all is written
pub ends : (t : Texts) (s : Heap) (sound : Sound s) (m depth : ℕ) (any : Bool) (p : Leaving s m depth) (whole : List ℕ) (before o1 o2 : SinkState) → parent_of s m ≡ None
    → Due whole (from_rules t any p) before o1 → Adds (in_row (between p.way) any (t.rules m)) o1 o2 → Adds whole before o2
ends t s sound m depth any p whole before o1 o2 e d h =
    let row = in_row (between p.way) any (t.rules m) in
    let left : from_rules t any p ≡ row = ap (λ z. row ++ z) (ends_by t s sound m p.beside p.way p.stands e) ∙ append-nil row in
    due_end whole row before o1 o2 (due_as whole (from_rules t any p) row before o1 left d) h

-- what is round a membrane that has a parent
pub record Round (s : Heap) (m depth q : ℕ) (p : Leaving s m depth) : Type 0 where
  pub beside : Forest
  pub way : Way
  pub is : p.way ≡ inside q beside way

round_by : (s : Heap) (sound : Sound s) (m depth q : ℕ) (b : Forest) (way : Way) → StandsBeside s m b way → parent_of s m ≡ Some q → (beside : Forest) × (w : Way) × (way ≡ inside q beside w)
round_by s sound m depth q b top st e = absurd (let u : None ≡ Some q = sym (root_has_none s sound m st.0) ∙ e in cc u)
round_by s sound m depth q b (inside p b' way) st e =
    let w : parent_of s m ≡ Some p = parent_is s sound.listed m p (subst (In m) (sym st.2) (in_here m st.0 st.1)) in
    let same : p ≡ q = (let u : Some p ≡ Some q = sym w ∙ e in cc u) in
    (b', way, ap (λ x. inside x b' way) same)

-- what is round the membrane that it leaves
pub round : (s : Heap) (sound : Sound s) (m depth q : ℕ) (p : Leaving s m depth) → parent_of s m ≡ Some q → Round s m depth q p
round s sound m depth q p e = let r = round_by s sound m depth q p.beside p.way p.stands e in record { beside = r.0; way = r.1; is = r.2 }

-- it isn't at the root
pub below : (s : Heap) (m depth q : ℕ) (p : Leaving s m depth) → Round s m depth q p → 0 < depth
below s m depth q p r = let d : depth ≡ membranes_round r.way + 1 = p.deep ∙ ap membranes_round r.is in omega (arith, d)

module _ (t : Texts) (s : Heap) (sound : Sound s) (m depth q : ℕ) (any : Bool) (p : Leaving s m depth) (r : Round s m depth q p) where
  -- the places of both
  pub placed : StandsBeside s m p.beside (inside q r.beside r.way)
  placed = subst (StandsBeside s m p.beside) r.is p.stands

  rest_of : after m (mems_in s q) ≡ placed.1
  rest_of = ap (after m) placed.2 ∙ after_split m placed.0 placed.1 (subst Distinct placed.2 (sound.listed.mems_once q))

  text_is : from_rules t any p ≡ in_row (codes ", ") any (t.rules m) ++ closing t (inside q r.beside r.way) p.beside
  text_is = ap (λ w. in_row (between w) any (t.rules m) ++ closing t w p.beside) r.is

  left_is : left_behind p ≡ size p.beside + (size r.beside + membranes_behind r.way)
  left_is = ap (λ w. size p.beside + membranes_behind w) r.is

  pub few_is : membranes_round r.way + 1 + 1 + (size p.beside + (size r.beside + membranes_behind r.way)) ≤ 2 ^ 48
  few_is = subst (λ w. membranes_round w + 1 + (size p.beside + membranes_behind w) ≤ 2 ^ 48) r.is p.few

  pub deep_is : depth ≡ membranes_round r.way + 1
  deep_is = p.deep ∙ ap membranes_round r.is

  -- Up to the membrane round it, where none is behind it.
  abbrev pub up : Leaving s q (depth - 1)
  up = record { beside = r.beside; way = r.way; stands = placed.4; deep = let d = deep_is in omega (arith, d); few = let f = few_is in omega (arith, f) }

  pub goes_up : (whole : List ℕ) (before o1 o2 o3 : SinkState) → from None (mems_in s q) ≡ after m (mems_in s q)
      → Due whole (from_rules t any p) before o1 → Adds (in_row (codes ", ") any (t.rules m)) o1 o2 → Adds (codes "}") o2 o3
      → Due whole (from_rules t true up) before o3
  goes_up whole before o1 o2 o3 e d h k =
      let none : p.beside ≡ bare = no_forest s p.beside placed.1 placed.3 (sym rest_of ∙ sym e) in
      let row = in_row (codes ", ") any (t.rules m) in
      let left : from_rules t any p ≡ row ++ (codes "}" ++ from_rules t true up) = text_is ∙ ap (λ g. row ++ closing t (inside q r.beside r.way) g) none in
      due_next whole (codes "}" ++ from_rules t true up) (codes "}") (from_rules t true up) before o2 o3 refl
      (due_next whole (from_rules t any p) row (codes "}" ++ from_rules t true up) before o1 o2 left d h) k

  pub less_left : left_behind up ≤ left_behind p
  less_left = let l = left_is in omega (arith, l)

-- Into the membrane behind it.

goes_beside : (t : Texts) (s : Heap) (m depth n q : ℕ) (any : Bool) (b b' : Forest) (way : Way) (before ls : List ℕ) → mems_in s q ≡ before ++ (m ∷ ls) → Forms s b ls → StandsBeside s q b' way
    → ls ≡ n ∷ after n (mems_in s q) → depth ≡ membranes_round way + 1 → membranes_round way + 1 + 1 + (size b + (size b' + membranes_behind way)) ≤ 2 ^ 48
    → (whole : List ℕ) (most : ℕ) (start o1 o2 o3 o4 o5 : SinkState) → Due whole (in_row (codes ", ") any (t.rules m) ++ closing t (inside q b' way) b) start o1 → size b + (size b' + membranes_behind way) ≤ most
    → Adds (in_row (codes ", ") any (t.rules m)) o1 o2 → Adds (codes "}") o2 o3 → Adds (between way) o3 o4 → Adds (codes "{") o4 o5
    → WalksOn t s whole most n depth start o5
goes_beside t s m depth n q any bare b' way before ls list F st e d few whole most start o1 o2 o3 o4 o5 due fits h1 h2 h3 h4 =
    absurd (let w : [] ≡ n ∷ after n (mems_in s q) = sym F ∙ e in cc w)
goes_beside t s m depth n q any (mem k i b) b' way before ls list F st e d few whole most start o1 o2 o3 o4 o5 due fits h1 h2 h3 h4 =
    let at : k ∷ F.0 ≡ n ∷ after n (mems_in s q) = sym F.1 ∙ e in
    let same : k ≡ n = cc in
    let size_is : size (mem k i b) ≡ suc (size i + size b) = ap suc (length-append (flat i) (flat b)) in
    let p : Position s n depth = record {
      inner = i;
      beside = b;
      way = inside q b' way;
      forms = subst (λ x. Forms s i (mems_in s x)) same F.2;
      stands = (before ++ (m ∷ []), F.0, list ∙ ap (λ z. before ++ (m ∷ z)) (F.1 ∙ ap (λ x. x ∷ F.0) same) ∙ sym (append_assoc before (m ∷ []) (n ∷ F.0)), F.3, st);
      deep = d;
      few = omega (arith, few, size_is);
    } in
    let row = in_row (codes ", ") any (t.rules m) in
    let inner_text = items_text t (codes ", ") k (members t i) in
    let more = in_row (between way) true (members t b) in
    let end = in_row (between way) true (t.rules q) ++ closing t way b' in
    let next = inner_text ++ (125 ∷ (more ++ end)) in
    let left : closing t (inside q b' way) (mem k i b) ≡ codes "}" ++ (between way ++ (codes "{" ++ next)) =
    ap (λ z. 125 ∷ z) (regroup (between way) inner_text more end ∙ append_assoc (between way) (123 ∷ []) next) in
    let d1 = due_next whole (row ++ closing t (inside q b' way) (mem k i b)) row (codes "}" ++ (between way ++ (codes "{" ++ next))) start o1 o2 (ap (λ z. row ++ z) left) due h1 in
    let d2 = due_next whole (codes "}" ++ (between way ++ (codes "{" ++ next))) (codes "}") (between way ++ (codes "{" ++ next)) start o2 o3 refl d1 h2 in
    let d3 = due_next whole (between way ++ (codes "{" ++ next)) (between way) (codes "{" ++ next) start o3 o4 refl d2 h3 in
    let d4 = due_next whole (codes "{" ++ next) (codes "{") next start o4 o5 refl d3 h4 in
    let d5 = due_as whole next (from_atoms t p) start o5 (ap (λ y. items_text t (codes ", ") y (members t i) ++ (125 ∷ (more ++ end))) same) d4 in
    record { position = p; written = d5.written; adds = d5.adds; rest = d5.rest; fewer = omega (arith, size_is, fits) }

-- it goes on to the next membrane
pub goes_on : (t : Texts) (s : Heap) (sound : Sound s) (m depth n q : ℕ) (any : Bool) (p : Leaving s m depth) (r : Round s m depth q p)
    → from (Some n) (mems_in s q) ≡ after m (mems_in s q)
    → (whole : List ℕ) (most : ℕ) (start o1 o2 o3 o4 o5 : SinkState) → Due whole (from_rules t any p) start o1 → left_behind p ≤ most
    → Adds (in_row (codes ", ") any (t.rules m)) o1 o2 → Adds (codes "}") o2 o3 → Adds (between r.way) o3 o4 → Adds (codes "{") o4 o5
    → WalksOn t s whole most n depth start o5
goes_on t s sound m depth n q any p r e whole most start o1 o2 o3 o4 o5 due fits h1 h2 h3 h4 =
    let st = placed t s sound m depth q any p r in
    let row = in_row (codes ", ") any (t.rules m) in
    let l = left_is t s sound m depth q any p r in
    goes_beside t s m depth n q any p.beside r.beside r.way st.0 st.1 st.2 st.3 st.4 (sym (rest_of t s sound m depth q any p r) ∙ sym e) (deep_is t s sound m depth q any p r) (few_is t s sound m depth q any p r)
    whole most start o1 o2 o3 o4 o5 (due_as whole (from_rules t any p) (row ++ closing t (inside q r.beside r.way) p.beside) start o1 (text_is t s sound m depth q any p r) due)
    (omega (arith, l, fits)) h1 h2 h3 h4

-- What a call answers, in other words.

-- what is said of an option holds by wider words
pub weaker : {A : Type 0} (o : Option A) (B B' : Type 0) (P P' : A → Type 0) → MatchOption o B P → (B → B') → ((x : A) → P x → P' x) → MatchOption o B' P'
weaker None B B' P P' m f k = f m
weaker (Some x) B B' P P' m f k = k x m

-- the same is due, and no more membranes are ahead
pub goes_same : (t : Texts) (s : Heap) (left left' : List ℕ) (more more' m depth : ℕ) (old new : SinkState) → left ≡ left' → more ≤ more' → WalksOn t s left more m depth old new → WalksOn t s left' more' m depth old new
goes_same t s left left' more more' m depth old new e l h =
    let f = h.fewer in record { position = h.position; written = h.written; adds = h.adds; rest = sym e ∙ h.rest; fewer = omega (arith, f, l) }

-- The same as the calls say it: what stands between two items is known for each way of the depth.

-- behind the atoms the membranes are due
pub atoms_done : (t : Texts) (s : Heap) (m depth : ℕ) (p : Position s m depth) (b : List ℕ) → ((way : Way) → depth ≡ membranes_round way → b ≡ between way) → (whole : List ℕ) (before o1 o2 : SinkState)
    → Due whole (from_atoms t p) before o1 → Adds (in_row b false (t.atoms m)) o1 o2 → Due whole (from_membranes t p) before o2
atoms_done t s m depth p b bs whole before o1 o2 d h = atoms_written t s m depth p whole before o1 o2 d (subst (λ z. Adds (in_row z false (t.atoms m)) o1 o2) (bs p.way p.deep) h)

-- the writer goes into a membrane
pub goes_inside : (t : Texts) (s : Heap) (m depth n : ℕ) (p : Position s m depth) (b : List ℕ) (any : Bool) → ((way : Way) → depth ≡ membranes_round way → b ≡ between way) → any ≡ has_atoms t m → from (Some n) (mems_in s m) ≡ mems_in s m → (o1 o2 o3 : SinkState)
    → Adds (between_if b any) o1 o2 → Adds (codes "{") o2 o3 → WalksOn t s (from_membranes t p) (membranes_ahead p) n (depth + 1) o1 o3
goes_inside t s m depth n p b any bs is e o1 o2 o3 h k =
    goes_in t s m depth n p e o1 o2 o3 (subst (λ z. Adds (between_if (between p.way) z) o1 o2) is (subst (λ z. Adds (between_if z any) o1 o2) (bs p.way p.deep) h)) k

-- it leaves to the membrane round it
pub leave_up : (t : Texts) (s : Heap) (sound : Sound s) (m depth q : ℕ) (any : Bool) (p : Leaving s m depth) → parent_of s m ≡ Some q → (b : List ℕ) → ((way : Way) → depth ≡ membranes_round way → b ≡ between way)
    → (whole : List ℕ) (most : ℕ) (start o1 o2 o3 : SinkState) → from None (mems_in s q) ≡ after m (mems_in s q) → Due whole (from_rules t any p) start o1 → left_behind p ≤ most
    → Adds (in_row b any (t.rules m)) o1 o2 → Adds (codes "}") o2 o3 → (next : Leaving s q (depth - 1)) × Due whole (from_rules t true next) start o3 × (left_behind next ≤ most)
leave_up t s sound m depth q any p e b bs whole most start o1 o2 o3 none d fits h k =
    let r = round s sound m depth q p e in
    let same : b ≡ codes ", " = bs p.way p.deep ∙ ap between r.is in
    let l = less_left t s sound m depth q any p r in (
      up t s sound m depth q any p r,
      goes_up t s sound m depth q any p r whole start o1 o2 o3 none d (subst (λ z. Adds (in_row z any (t.rules m)) o1 o2) same h) k,
      omega (arith, l, fits),
    )

-- or to the next one beside
pub leave_on : (t : Texts) (s : Heap) (sound : Sound s) (m depth n q : ℕ) (any : Bool) (p : Leaving s m depth) → parent_of s m ≡ Some q → (b b' : List ℕ) → ((way : Way) → depth ≡ membranes_round way → b ≡ between way)
    → ((way : Way) → depth - 1 ≡ membranes_round way → b' ≡ between way) → (whole : List ℕ) (most : ℕ) (start o1 o2 o3 o4 o5 : SinkState) → from (Some n) (mems_in s q) ≡ after m (mems_in s q) → Due whole (from_rules t any p) start o1 → left_behind p ≤ most
    → Adds (in_row b any (t.rules m)) o1 o2 → Adds (codes "}") o2 o3 → Adds b' o3 o4 → Adds (codes "{") o4 o5 → WalksOn t s whole most n depth start o5
leave_on t s sound m depth n q any p e b b' bs bs' whole most start o1 o2 o3 o4 o5 next d fits h1 h2 h3 h4 =
    let r = round s sound m depth q p e in
    let same : b ≡ codes ", " = bs p.way p.deep ∙ ap between r.is in
    let deep = deep_is t s sound m depth q any p r in
    let outer : b' ≡ between r.way = bs' r.way (omega (arith, deep)) in
    goes_on t s sound m depth n q any p r next whole most start o1 o2 o3 o4 o5 d fits (subst (λ z. Adds (in_row z any (t.rules m)) o1 o2) same h1) h2 (adds_as outer h3) h4

-- or ends at the root
pub leave_end : (t : Texts) (s : Heap) (sound : Sound s) (m depth : ℕ) (any : Bool) (p : Leaving s m depth) (b : List ℕ) → ((way : Way) → depth ≡ membranes_round way → b ≡ between way) → (whole : List ℕ) (start o1 o2 : SinkState) → parent_of s m ≡ None
    → Due whole (from_rules t any p) start o1 → Adds (in_row b any (t.rules m)) o1 o2 → Adds whole start o2
leave_end t s sound m depth any p b bs whole start o1 o2 e d h = ends t s sound m depth any p whole start o1 o2 e d (subst (λ z. Adds (in_row z any (t.rules m)) o1 o2) (bs p.way p.deep) h)

-- what has a membrane round it is not the root
pub leave_deep : (s : Heap) (sound : Sound s) (m depth q : ℕ) (p : Leaving s m depth) → parent_of s m ≡ Some q → 0 < depth
leave_deep s sound m depth q p e = below s m depth q p (round s sound m depth q p e)

-- at first the writer stands at the root, and all is due
pub starts_at : (s : Heap) (sound : Sound s) (f : Forest) → IsTree s f → AtMost (2 ^ 48) s → (t : Texts) (m : ℕ) → m ≡ s.root → (o : SinkState)
    → (p : Position s m 0) × Due (tree_text t f) (from_atoms t p) o o × (1 + membranes_ahead p ≤ 2 ^ 48)
starts_at s sound f tree few t m e o =
    subst (λ k. (p : Position s k 0) × Due (tree_text t f) (from_atoms t p) o o × (1 + membranes_ahead p ≤ 2 ^ 48)) (sym e)
    (let w = starts s sound f tree few t in (w.0, due_as (tree_text t f) (tree_text t f) (from_atoms t w.0) o o (sym w.1) (due_first (tree_text t f) o), w.2))

-- Where there is no membrane, what leaving answers is what is left behind the atoms.
pub turns_back : {A : Type 0} (o : Option A) (number depth_of : A → ℕ) (t : Texts) (s : Heap) (m depth : ℕ) (p : Position s m depth) (any : Bool) → any ≡ has_atoms t m → from None (mems_in s m) ≡ mems_in s m → (old new : SinkState)
    → MatchOption o (Adds (from_rules t any (turn s m depth p)) old new) (λ n. WalksOn t s (from_rules t any (turn s m depth p)) (left_behind (turn s m depth p)) (number n) (depth_of n) old new)
    → MatchOption o (Adds (from_membranes t p) old new) (λ n. WalksOn t s (from_membranes t p) (membranes_ahead p) (number n) (depth_of n) old new)
turns_back o number depth_of t s m depth p any is none old new h =
    let e : from_rules t any (turn s m depth p) ≡ from_membranes t p = ap (λ z. from_rules t z (turn s m depth p)) is ∙ turned t s m depth p none in
    weaker o (Adds (from_rules t any (turn s m depth p)) old new) (Adds (from_membranes t p) old new)
    (λ n. WalksOn t s (from_rules t any (turn s m depth p)) (left_behind (turn s m depth p)) (number n) (depth_of n) old new) (λ n. WalksOn t s (from_membranes t p) (membranes_ahead p) (number n) (depth_of n) old new)
    h (λ k. adds_as e k)
    (λ n k. goes_same t s (from_rules t any (turn s m depth p)) (from_membranes t p) (left_behind (turn s m depth p)) (membranes_ahead p) (number n) (depth_of n) old new e (omega arith) k)
