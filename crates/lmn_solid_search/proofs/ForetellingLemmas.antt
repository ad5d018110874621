-- What is known of integers before a placement is whole.
use Rattle.std.proofs.Common.{◌≡◌, ◌≢◌, ◌∙◌, ◌⊎◌, ◌==◌, option_and_then, ℕ, ℤ, zero, suc, ◌+◌, ◌<◌, Bool, true, false, if◌then◌else◌, List, [], ◌∷◌, drop, length, slice_get, slice_index_or, Option, Some, None, Result, Ok, Err, OnOk, is_some, refl, sym, ap, subst, inl, inr, arith, rules}
use Rattle.std.specs.Prelude.{position}
use Rattle.std.proofs.lemmas.Bool.{cases_eq}
use Rattle.std.proofs.lemmas.Option.{same_Some}
use Rattle.lmn_base.specs.declared.guard.Cmp.{Cmp}
use Rattle.lmn_base.specs.declared.guard.Cond.{Cond}
use Rattle.lmn_base.specs.declared.guard.Cond.TheVariants.{Kind, Compare, Equal, Differ}
use Rattle.lmn_base.specs.declared.guard.Expr.{Expr}
use Rattle.lmn_base.specs.declared.guard.Expr.TheVariants.{Int, Ctx, Op'}
use Rattle.lmn_base.specs.declared.level.CtxUse.{CtxUse}
use Rattle.lmn_base.specs.declared.refusal.Pos.{Pos}
use Rattle.lmn_base.specs.Graphs.{Port}
use Rattle.lmn_base.proofs.Lists.{drop_get, get_there, read_or, get_index}
use Rattle.lmn_base.proofs.Numbers.{equal_itself, unequal}
use Rattle.lmn_guards.specs.Values.{Stand, both, result_of, value, value_beside}
use Rattle.lmn_store_heap.specs.Heap.{Heap, functor_of, link_of}
use Rattle.lmn_solid_heads.specs.Guards.{Meaning, HoldsOnHeap, IsOfKindAt, integer_named, integer_of_functor, integer_or}
use Rattle.lmn_solid_tables.specs.Flats.{port_by}
use Rattle.lmn_solid_search.specs.Binding.{after, bound_unless}
use Rattle.lmn_solid_search.specs.Choosing.{Refuses}
use Rattle.lmn_solid_search.specs.Foretelling.{AsksOn, Foretells, ForetellsBehind, ForetellsEqual, ForetellsParts, NamesParts, RefusesCondition, RefusesGuard, RefusesParts, RestsOn, is_name, on_name, rests_beside}
use Rattle.lmn_solid_search.specs.Knowing.{Compares, Holds}
use Rattle.lmn_solid_search.specs.Meeting.{Meets, named_meaning}
use Rattle.lmn_solid_search.specs.Parting.{AreTaken, LeadsTo, first_named}
use Rattle.lmn_solid_search.specs.Reasoning.{IsAmong, SameImages, Within}
use Rattle.lmn_solid_search.specs.declared.early.Early.{Early}
use Rattle.lmn_solid_search.specs.declared.head.AtomItem.{AtomItem}
use Rattle.lmn_solid_search.specs.declared.head.Head.{Head}
use Rattle.lmn_solid_search.specs.declared.head.TypedItem.{TypedItem}
use Rattle.lmn_solid_search.specs.declared.numbers.Numbers.{Numbers}
use Rattle.lmn_solid_search.specs.declared.parts.Part.{Part}
use Rattle.lmn_solid_search.specs.declared.placed.Placed.{Placed}
use Rattle.lmn_solid_search.proofs.KnowingLemmas.{first_holds}
use Rattle.lmn_solid_search.proofs.NamingLemmas.{beside_away, beside_here}
use Rattle.lmn_solid_search.proofs.ReasoningLemmas.{same_fewer, within_on}

-- ---- tables

rests_here : (x : ℕ) (e : Numbers) (ns : List ℕ) (rs : List Numbers) → rests_beside (x ∷ ns) (e ∷ rs) x ≡ e
rests_here x e ns rs = search rules

rests_away : (x y : ℕ) (e : Numbers) (ns : List ℕ) (rs : List Numbers) → x ≢ y → rests_beside (y ∷ ns) (e ∷ rs) x ≡ rests_beside ns rs x
rests_away x y e ns rs d = search rules

-- a table with one name more foretells as much, where the integer of that name is told
module _ (k k' : Early) (x : ℕ) (z : ℤ) (e : Numbers) (names : k'.names.items ≡ x ∷ k.names.items) (values : k'.values.items ≡ z ∷ k.values.items) (rests : k'.rests.items ≡ e ∷ k.rests.items) where
  pub table_more : (images others : List ℕ) (given : ℕ → Option ℤ)
      → ((y : ℕ) (u : ℤ) → y ≢ x → value_beside k.names.items k.values.items y ≡ Some u → SameImages (on_name k y) images others → given y ≡ Some u) → (SameImages e images others → given x ≡ Some z) → Foretells k' images others given
  table_more images others given old new y u at same = by (cases_eq y x)
    where
      by : ((y ≡ x) ⊎ (y ≢ x)) → given y ≡ Some u
      by (inl is) =
          let value_is : value_beside k'.names.items k'.values.items x ≡ Some z = (λ i. value_beside (names i) (values i) x) ∙ beside_here x z k.names.items k.values.items in
          let rest_is : on_name k' x ≡ e = (λ i. rests_beside (names i) (rests i) x) ∙ rests_here x e k.names.items k.rests.items in
          ap given is ∙ new (subst (λ d. SameImages d images others) (ap (on_name k') is ∙ rest_is) same) ∙ sym value_is ∙ ap (value_beside k'.names.items k'.values.items) (sym is) ∙ at
      by (inr apart) =
          let value_is : value_beside k'.names.items k'.values.items y ≡ value_beside k.names.items k.values.items y = (λ i. value_beside (names i) (values i) y) ∙ beside_away y x z k.names.items k.values.items apart in
          let rest_is : on_name k' y ≡ on_name k y = (λ i. rests_beside (names i) (rests i) y) ∙ rests_away y x e k.names.items k.rests.items apart in
          old y u apart (sym value_is ∙ at) (subst (λ d. SameImages d images others) rest_is same)

-- ---- expressions

-- they rest on more
pub rests_more : (on : ℕ → Numbers) (expr : Expr) (d e : Numbers) → Within d e → RestsOn on expr d → RestsOn on expr e
rests_more on (Int z) d e w r = tt
rests_more on (Ctx u) d e w r = within_on (on u.name) d e r w
rests_more on (Op' op p left q right) d e w r = (rests_more on left d e w r.0, rests_more on right d e w r.1)

-- a value is the same where the integers of names are on which it rests
value_rests : (f g : ℕ → Option ℤ) (on : ℕ → Numbers) (e : Numbers) → ((x : ℕ) (z : ℤ) → Within (on x) e → f x ≡ Some z → g x ≡ Some z) → (expr : Expr) → RestsOn on expr e → (z : ℤ) → value f expr ≡ Some z → value g expr ≡ Some z
value_rests f g on e h (Int n) r z is = is
value_rests f g on e h (Ctx u) r z is = h u.name z r is
value_rests f g on e h (Op' op p left q right) r z is = by (value f left) (value f right) refl refl is (value_rests f g on e h left r.0) (value_rests f g on e h right r.1)
  where
    by : (a b : Option ℤ) → value f left ≡ a → value f right ≡ b → both (result_of op) a b ≡ Some z → ((m : ℤ) → value f left ≡ Some m → value g left ≡ Some m) → ((n : ℤ) → value f right ≡ Some n → value g right ≡ Some n)
        → both (result_of op) (value g left) (value g right) ≡ Some z
    by None b s t w l k = absurd (cc)
    by (Some m) None s t w l k = absurd (cc)
    by (Some m) (Some n) s t w l k = (λ i. both (result_of op) (l m s i) (k n t i)) ∙ w

-- so a value is foretold
value_foretold : (k : Early) (images others : List ℕ) (given : ℕ → Option ℤ) (e : Numbers) → Foretells k images others given → SameImages e images others
    → (expr : Expr) → RestsOn (on_name k) expr e → (z : ℤ) → value (value_beside k.names.items k.values.items) expr ≡ Some z → value given expr ≡ Some z
value_foretold k images others given e foretells same = value_rests (value_beside k.names.items k.values.items) given (on_name k) e (λ x z w is. foretells x z is (same_fewer (on_name k x) e images others w same))

-- ---- conditions

-- a comparison that doesn't hold
pub compare_refused : (k : Early) (typed : List TypedItem) (op : Cmp) (left right : Expr) (pos : Pos) (c : Cond) (e : Numbers) → c ≡ Compare op left right pos
    → ((m n : ℤ) × (value (value_beside k.names.items k.values.items) left ≡ Some m) × (value (value_beside k.names.items k.values.items) right ≡ Some n) × (Stand op m n → ⊥) × RestsOn (on_name k) left e × RestsOn (on_name k) right e)
    → RefusesCondition k typed c e
compare_refused k typed op left right pos c e is (m, n, l, r, apart, on, on') h s images others names foretells same holds = by (subst (Holds h s) is holds)
  where
    by : Compares (integer_named h s) op left right → ⊥
    by (m', n', l', r', stand) =
        let one : m' ≡ m = same_Some _ _ (sym l' ∙ value_foretold k images others (integer_named h s) e foretells same left on m l) in
        let other : n' ≡ n = same_Some _ _ (sym r' ∙ value_foretold k images others (integer_named h s) e foretells same right on' n r) in
        apart (subst (λ z. Stand op z n) one (subst (λ z. Stand op m' z) other stand))

-- of equal integers
pub stand_apart : (op : Cmp) (m m' n n' : ℤ) → m' ≡ m → n' ≡ n → (Stand op m' n' → ⊥) → Stand op m n → ⊥
stand_apart op m m' n n' e g apart stand = apart (subst (λ z. Stand op z n') (sym e) (subst (λ z. Stand op m z) (sym g) stand))

-- conditions that bind nothing
pub behind_kind : (k : Early) (typed : List TypedItem) (c : Cond) (n : ℕ) (args : List CtxUse) (pos : Pos) → c ≡ Kind n args pos → ForetellsBehind k k typed c
behind_kind k typed c n args pos is h s images others names foretells holds = subst (λ (d : Cond). Foretells k images others (integer_named h (after h s d))) (sym is) foretells

pub behind_compare : (k : Early) (typed : List TypedItem) (c : Cond) (op : Cmp) (left right : Expr) (pos : Pos) → c ≡ Compare op left right pos → ForetellsBehind k k typed c
behind_compare k typed c op left right pos is h s images others names foretells holds = subst (λ (d : Cond). Foretells k images others (integer_named h (after h s d))) (sym is) foretells

pub behind_differ : (k : Early) (typed : List TypedItem) (c : Cond) (left right : CtxUse) (pos : Pos) → c ≡ Differ left right pos → ForetellsBehind k k typed c
behind_differ k typed c left right pos is h s images others names foretells holds = subst (λ (d : Cond). Foretells k images others (integer_named h (after h s d))) (sym is) foretells

-- `$x = E`
pub behind_equal : (k k' : Early) (typed : List TypedItem) (c : Cond) (left : CtxUse) (right : Expr) (pos : Pos) → c ≡ Equal left right pos → ForetellsEqual k k' typed left.name right → ForetellsBehind k k' typed c
behind_equal k k' typed c left right pos is equal h s images others names foretells holds =
    subst (λ (d : Cond). Foretells k' images others (integer_named h (after h s d))) (sym is) (equal h s images others names foretells (subst (Holds h s) is holds))

-- of a name that stands for a part it binds nothing
pub equal_named : (k : Early) (typed : List TypedItem) (x : ℕ) (right : Expr) (b : Bool) → b ≡ is_name typed x → b ≡ true → ForetellsEqual k k typed x right
equal_named k typed x right b e is h s images others names foretells holds = by (s.part_of x) (names x ∙ sym e ∙ is)
  where
    by : (o : Option Port) → is_some o ≡ true → Foretells k images others (integer_named h (bound_unless s o x (value (integer_named h s) right)))
    by None t = absurd (cc)
    by (Some p) t = foretells

no_part : (o : Option Port) → is_some o ≡ false → o ≡ None
no_part None e = refl
no_part (Some p) e = absurd (cc)

-- what is bound to another name
bound_away : (h : Heap) (s : Meaning) (o : Option Port) (x y : ℕ) (v : Option ℤ) → x ≢ y → integer_named h (bound_unless s o x v) y ≡ integer_named h s y
bound_away h s (Some p) x y v d = refl
bound_away h s None x y None d = refl
bound_away h s None x y (Some z) d = ap (λ b. integer_or h (s.part_of y) (if b then Some z else s.bound_to y)) (unequal y x (λ e. d (sym e)))

-- and to this one
bound_here : (h : Heap) (s : Meaning) (x : ℕ) (v : Option ℤ) (z : ℤ) → s.part_of x ≡ None → v ≡ Some z → integer_named h (bound_unless s (s.part_of x) x v) x ≡ Some z
bound_here h s x v z e is =
    (λ i. integer_named h (bound_unless s (e i) x (is i)) x)
    ∙ (λ i. integer_or h (e i) (if equal_itself x i then Some z else s.bound_to x))

-- a name is bound to a value that is known
pub equal_bound : (k k' : Early) (typed : List TypedItem) (x : ℕ) (right : Expr) (z : ℤ) (e : Numbers) (b : Bool) → b ≡ is_name typed x → b ≡ false → value (value_beside k.names.items k.values.items) right ≡ Some z → RestsOn (on_name k) right e
    → k'.names.items ≡ x ∷ k.names.items → k'.values.items ≡ z ∷ k.values.items → k'.rests.items ≡ e ∷ k.rests.items → ForetellsEqual k k' typed x right
equal_bound k k' typed x right z e b g is at on ns vs rs h s images others names foretells holds =
    table_more k k' x z e ns vs rs images others (integer_named h (bound_unless s (s.part_of x) x (value (integer_named h s) right)))
    (λ y u apart there same. bound_away h s (s.part_of x) x y (value (integer_named h s) right) (λ i. apart (sym i)) ∙ foretells y u there same)
    (λ same. bound_here h s x (value (integer_named h s) right) z (no_part (s.part_of x) (names x ∙ sym g ∙ is)) (value_foretold k images others (integer_named h s) e foretells same right on z at))

-- or to one that isn't
pub equal_forgotten : (k k' : Early) (typed : List TypedItem) (x : ℕ) (right : Expr)
    → ((y : ℕ) (z : ℤ) → value_beside k'.names.items k'.values.items y ≡ Some z → ((x ≡ y) → ⊥) × (value_beside k.names.items k.values.items y ≡ Some z) × (on_name k' y ≡ on_name k y)) → ForetellsEqual k k' typed x right
equal_forgotten k k' typed x right forgets h s images others names foretells holds y u at same =
    let t = forgets y u at in
    bound_away h s (s.part_of x) x y (value (integer_named h s) right) t.0 ∙ foretells y u t.1 (subst (λ d. SameImages d images others) t.2 same)

-- ---- guards

-- which names have parts is the same behind a condition
part_after : (h : Heap) (s : Meaning) (c : Cond) (x : ℕ) → (after h s c).part_of x ≡ s.part_of x
part_after h s (Kind n args pos) x = refl
part_after h s (Compare op left right pos) x = refl
part_after h s (Differ left right pos) x = refl
part_after h s (Equal left right pos) x = by (s.part_of left.name) (value (integer_named h s) right)
  where
    by : (o : Option Port) (v : Option ℤ) → (bound_unless s o left.name v).part_of x ≡ s.part_of x
    by (Some p) v = refl
    by None None = refl
    by None (Some z) = refl

pub asks_first : (k : Early) (typed : List TypedItem) (guard : List Cond) → AsksOn k k typed guard guard
asks_first k typed guard h s images others names foretells holds = record { now = s; names = names; foretold = foretells; holds = holds }

module _ (k now : Early) (typed : List TypedItem) (guard : List Cond) (i : ℕ) (c : Cond) (at : slice_get guard i ≡ Some c) (so : AsksOn k now typed guard (drop i guard)) where
  -- a condition more was asked,
  pub asks_next : (k' : Early) → ForetellsBehind now k' typed c → AsksOn k k' typed guard (drop (i + 1) guard)
  asks_next k' behind h s images others names foretells holds =
      let w = so h s images others names foretells holds in
      let cut = (first_holds h w.now c (drop (i + 1) guard)).0 (subst (HoldsOnHeap h w.now) (drop_get i guard c at) w.holds) in
      record {
        now = after h w.now c;
        names = λ x. ap is_some (part_after h w.now c x) ∙ w.names x;
        foretold = behind h w.now images others w.names w.foretold cut.0;
        holds = cut.1;
      }

  -- or it doesn't hold
  pub guard_refused : (e : Numbers) → RefusesCondition now typed c e → RefusesGuard k typed guard e
  guard_refused e refused h s images others names foretells same holds =
      let w = so h s images others names foretells holds in
      let cut = (first_holds h w.now c (drop (i + 1) guard)).0 (subst (HoldsOnHeap h w.now) (drop_get i guard c at) w.holds) in
      refused h w.now images others w.names w.foretold same cut.0

-- ---- parts

-- the first typed context with a name tells its part
first_part : (typed : List TypedItem) (parts : List Part) (n : ℕ) (t : TypedItem) (part : Part) → slice_get typed n ≡ Some t → slice_get parts n ≡ Some part → ((k : ℕ) (u : TypedItem) → k < n → slice_get typed k ≡ Some u → u.name ≢ t.name)
    → first_named typed parts t.name ≡ Some (port_by part.entry)
first_part [] parts n t part at at' first = absurd (cc)
first_part (u ∷ typed) [] n t part at at' first = absurd (cc)
first_part (u ∷ typed) (q ∷ parts) zero t part at at' first =
    let e : u ≡ t = same_Some _ _ at in
    let g : q ≡ part = same_Some _ _ at' in
    (λ i. if (e i).name == t.name then Some (port_by (g i).entry) else first_named typed parts t.name)
    ∙ ap (λ b. if b then Some (port_by part.entry) else first_named typed parts t.name) (equal_itself t.name)
first_part (u ∷ typed) (q ∷ parts) (suc n) t part at at' first =
    ap (λ b. if b then Some (port_by q.entry) else first_named typed parts t.name) (unequal u.name t.name (first 0 u (omega arith) refl))
    ∙ first_part typed parts n t part at at' (λ k v l e. first (suc k) v (omega (arith, l)) e)

-- the names of typed contexts have parts
pub names_parts : (typed : List TypedItem) (parts : List Part) → length parts ≡ length typed → NamesParts typed (named_meaning typed parts)
names_parts [] parts l x = refl
names_parts (t ∷ typed) [] l x = absurd (omega (arith, l))
names_parts (t ∷ typed) (q ∷ parts) l x = by (t.name == x) (names_parts typed parts (omega (arith, l)) x)
  where
    by : (b : Bool) → is_some (first_named typed parts x) ≡ is_name typed x → is_some (if b then Some (port_by q.entry) else first_named typed parts x) ≡ (if b then true else is_name typed x)
    by true rest = refl
    by false rest = rest

-- a typed context with the port at which its part is entered, from an atom with an image
module _ (h : Heap) (head : Head) (images : List ℕ) (n m : ℕ) (t : TypedItem) (a : AtomItem) (q : Port) (e : Numbers) (at : slice_get head.typed n ≡ Some t) (low : n < length head.typed) (there : slice_get head.atoms m ≡ Some a)
    (placed : m < length images) (leads : LeadsTo h a.links t.link (slice_index_or images m 0) q) (among : IsAmong m e) where
  module _ (r : Placed) (parts : List Part) (same : SameImages e images r.atoms) (taken : AreTaken h head.atoms r head.typed parts (length head.typed)) where
    part_there : (part : Part) × (slice_get parts n ≡ Some part)
    part_there = get_there parts n (let l = taken.long in omega (arith, l, low))

    entered : port_by part_there.0.entry ≡ q
    entered =
        let holds = (taken.each n t part_there.0 at part_there.1).0.0.0 m a there leads.0 t.link leads.1 refl in
        let image : slice_index_or r.atoms m 0 ≡ slice_index_or images m 0 = read_or r.atoms m (slice_index_or images m 0) (same m (slice_index_or images m 0) (get_index images m placed) among) in
        same_Some _ _ (sym holds ∙ ap (λ z. link_of h z leads.0) image ∙ leads.2)

  -- where it isn't of the kind, there are no parts
  pub kind_refused : (IsOfKindAt h t.kind q → ⊥) → RefusesParts h head images e
  kind_refused apart r parts same taken =
      apart (subst (IsOfKindAt h t.kind) (entered r parts same taken) (taken.each n t (part_there r parts same taken).0 at (part_there r parts same taken).1).0.0.1)

  -- its integer is foretold
  pub parts_more : (k k' : Early) (z : ℤ) → ((i : ℕ) (t' u : TypedItem) → i < n → slice_get head.typed i ≡ Some u → slice_get head.typed n ≡ Some t' → u.name ≢ t'.name) → integer_of_functor (functor_of h q.0) ≡ Some z
      → k'.names.items ≡ t.name ∷ k.names.items → k'.values.items ≡ z ∷ k.values.items → k'.rests.items ≡ e ∷ k.rests.items → ForetellsParts k h head images → ForetellsParts k' h head images
  parts_more k k' z first is ns vs rs told r parts taken =
      table_more k k' t.name z e ns vs rs images r.atoms (integer_named h (named_meaning head.typed parts))
      (λ y u apart known same. told r parts taken y u known same)
      (λ same.
      ap (λ o. integer_or h o None) (first_part head.typed parts n t (part_there r parts same taken).0 at (part_there r parts same taken).1 (λ i u l g. first i t u l g at) ∙ ap Some (entered r parts same taken))
      ∙ is)

-- ---- placements

pub no_parts : (h : Heap) (head : Head) (guard : List Cond) (images : List ℕ) (e : Numbers) → RefusesParts h head images e → Refuses h head guard images e
no_parts h head guard images e refused r same can = refused r can.0 same can.1

pub guard_fails : (h : Heap) (head : Head) (guard : List Cond) (images : List ℕ) (k : Early) (typed : List TypedItem) (e : Numbers) → typed ≡ head.typed → ForetellsParts k h head images → RefusesGuard k typed guard e → Refuses h head guard images e
guard_fails h head guard images k typed e is told refused r same can =
    let meets : Meets h head guard r can.0 = can.2 in
    let refuses : RefusesGuard k head.typed guard e = subst (λ (ts : List TypedItem). RefusesGuard k ts guard e) is refused in
    refuses h (named_meaning head.typed can.0) images r.atoms (names_parts head.typed can.0 can.1.long) (told r can.0 can.1) same meets.2

-- at the start nothing is
pub nothing_foretold : (k : Early) (h : Heap) (head : Head) (images : List ℕ) → k.names.items ≡ [] → ForetellsParts k h head images
nothing_foretold k h head images e r parts taken x z at same = absurd (let n : value_beside [] k.values.items x ≡ Some z = subst (λ ns. value_beside ns k.values.items x ≡ Some z) e at in cc)

-- three facts on success
pub three_ok : {T E P Q R S : Type 0} (r : Result T E) → (P → Q → R → S) → OnOk r P → OnOk r Q → OnOk r R → OnOk r S
three_ok (Ok x) f p q s = f p q s
three_ok (Err x) f p q s = tt

-- where a name has no place in a table, another one is told
pub name_apart : (names : List ℕ) (values : List ℤ) (x y : ℕ) (z : ℤ) → position (λ m. m == x) names ≡ None → value_beside names values y ≡ Some z → x ≡ y → ⊥
name_apart names values x y z none at e = absurd (
    let there : value_beside names values x ≡ Some z = subst (λ w. value_beside names values w ≡ Some z) (sym e) at in
    let never : option_and_then (slice_get values) None ≡ Some z = subst (λ o. option_and_then (slice_get values) o ≡ Some z) none there in
    cc)

-- an empty table tells nothing
pub none_told : (names : List ℕ) (values : List ℤ) (x : ℕ) (z : ℤ) → names ≡ [] → value_beside names values x ≡ Some z → ⊥
none_told names values x z e at = let never : value_beside [] values x ≡ Some z = subst (λ ns. value_beside ns values x ≡ Some z) e at in absurd (cc)

-- a name that was looked for in vain
pub unplaced : (names ys : List ℕ) (x : ℕ) (o : Option ℕ) (b : Bool) → ys ≡ names → o ≡ position (λ m. m == x) ys → b ≡ is_some o → b ≡ false → position (λ m. m == x) names ≡ None
unplaced names ys x o b same is e g = ap (position (λ m. m == x)) (sym same) ∙ sym is ∙ no_place o (sym e ∙ g)
  where
    no_place : (o : Option ℕ) → is_some o ≡ false → o ≡ None
    no_place None e = refl
    no_place (Some k) e = absurd (cc)

-- ---- typed contexts before one

pub names_more : (typed : List TypedItem) (other : ℕ) (t : TypedItem) (x : ℕ) → slice_get typed other ≡ Some t → t.name ≢ x → ((k : ℕ) (u : TypedItem) → k < other → slice_get typed k ≡ Some u → u.name ≢ x)
    → (k : ℕ) (u : TypedItem) → k < other + 1 → slice_get typed k ≡ Some u → u.name ≢ x
names_more typed other t x at apart before k u l e g = elim (cases_eq k other) [
  | inl same ↦ apart (ap (λ (v : TypedItem). v.name) (same_Some _ _ (sym at ∙ ap (slice_get typed) (sym same) ∙ e)) ∙ g)
  | inr less ↦ before k u (omega (arith, l, less)) e g
]
