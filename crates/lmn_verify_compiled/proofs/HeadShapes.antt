-- The code of a head has instructions of a head, and COMMIT behind them.
use Rattle.std.proofs.Common.{◌≡◌, ◌+◌, ◌==◌, ◌&&◌, ◌||◌, not, ℕ, Bool, true, false, if◌then◌else◌, List, [], ◌∷◌, ◌++◌, refl, sym, ap, ◌∙◌, true≢false}
use Rattle.std.specs.Prelude.{Option, Some, None, take}
use Rattle.lmn_base.specs.Graphs.{Port}
use Rattle.lmn_base.specs.declared.guard.Arith.{Arith}
use Rattle.lmn_base.specs.declared.guard.Arith.TheVariants as arith
use Rattle.lmn_base.specs.declared.guard.Cmp.{Cmp}
use Rattle.lmn_base.specs.declared.guard.Cmp.TheVariants as cmp
use Rattle.lmn_base.specs.declared.guard.Cond.{Cond}
use Rattle.lmn_base.specs.declared.guard.Cond.TheVariants.{Kind, Compare, Equal, Differ}
use Rattle.lmn_base.specs.declared.guard.Expr.{Expr}
use Rattle.lmn_base.specs.declared.guard.Expr.TheVariants as expr
use Rattle.std.specs.List.{list_any}
use Rattle.std.proofs.lemmas.Bool.{and_parts}
use Rattle.std.proofs.lemmas.Bool.Decides.{Decides-eqb}
use Rattle.std.proofs.lemmas.List.{append_assoc}
use Rattle.lmn_store_heap.specs.Functors.{same_functor}
use Rattle.lmn_guards.specs.declared.plan.TypeKind.{TypeKind}
use Rattle.lmn_guards.specs.declared.plan.TypeKind.TheVariants as kind
use Rattle.lmn_solid_heads.specs.declared.items.HeadItem.{HeadItem}
use Rattle.lmn_solid_heads.specs.declared.items.HeadItem.TheVariants.{Atom, Typed, Membrane}
use Rattle.lmn_solid_heads.specs.Heads.{HeadAtom, HeadTyped, HeadMembrane, atoms_of, typed_contexts_of, membranes_of, at_atoms, links_of_head, times}
use Rattle.lmn_solid_heads.specs.Guards.{typed_number, context_alone}
use Rattle.lmn_instr_code.specs.declared.instr.AtomPort.{AtomPort}
use Rattle.lmn_instr_code.specs.declared.instr.Instr.{Instr}
use Rattle.lmn_instr_code.specs.declared.instr.Instr.TheVariants.{Deref, NeqAtom, Joined, NotIn, AnyMem, NeqMem, IsInt, IsUnary, IsGround, NAtoms, NMems, NoRules, IsClosed, EqGround, NeqGround, GetInt, Const, Add, Sub, Mul, Div, Mod, Lt, Le, Gt, Ge, Eq, Ne, Commit}
use Rattle.lmn_instr_code.specs.HeadCode.{Entry, Computed, find_port, occurrences_before, entry, is_entry, found_code, differ_code, open_code, joined_code, port_code, ports_code, atom_code, differ_membrane_code, membrane_code, items_code, test_of, part_code, parts_code, filled_code, all_filled_code, operator_instruction, named_code, value_code, comparison, part_named, equal_code, differ_parts_code, bind_register, guard_code, head_code}
use Rattle.lmn_verify_code.specs.Verified.{is_commit, is_empty, is_head, is_of_head, finds, is_looked_at, all_looked_at, surveys, finds_first}
use Rattle.lmn_verify_compiled.specs.HeadCodes.{HeadCodeIsHead, HeadCodeLooks, HeadCodeFindsFirst}

-- NEQATOM, JOINED, NOTIN and NEQMEM
abbrev pub compares : Instr → Bool
compares (NeqAtom _ _) = true
compares (Joined _ _) = true
compares (NotIn _ _) = true
compares (NeqMem _ _) = true
compares _ = false

-- and ANYMEM
abbrev pub is_check : Instr → Bool
is_check (NeqAtom _ _) = true
is_check (Joined _ _) = true
is_check (NotIn _ _) = true
is_check (AnyMem _ _) = true
is_check (NeqMem _ _) = true
is_check _ = false

-- an instruction of a head that finds nothing, other than COMMIT
abbrev pub is_test : Instr → Bool
is_test i = is_of_head i && not (finds i)

either : (Q : List Instr → Type 0) (b : Bool) (xs ys : List Instr) → Q xs → Q ys → Q (if b then xs else ys)
either Q true xs ys h g = h
either Q false xs ys h g = g

compares_checks : (i : Instr) → compares i ≡ true → is_check i ≡ true
compares_checks (NeqAtom _ _) h = refl
compares_checks (Joined _ _) h = refl
compares_checks (NotIn _ _) h = refl
compares_checks (NeqMem _ _) h = refl
compares_checks _ h = absurd (true≢false (sym h))

-- What holds of no code, of two parts behind each other, and of each instruction that compares holds of all by which an atom or a
-- membrane is told from others.
module _ (Q : List Instr → Type 0) (none : Q []) (both : (xs ys : List Instr) → Q xs → Q ys → Q (xs ++ ys)) (one : (i : Instr) → compares i ≡ true → Q (i ∷ [])) where
  pub differ : (n : ℕ) (a : HeadAtom) (k : ℕ) (bs : List HeadAtom) → Q (differ_code n a k bs)
  differ n a k [] = none
  differ n a k (b ∷ bs) = both _ _ (either Q ((b.inside == a.inside) && same_functor b.functor a.functor) (NeqAtom n k ∷ []) [] (one _ refl) none) (differ n a (k + 1) bs)

  opened : (items : List HeadItem) (n : ℕ) (a : HeadAtom) (i x : ℕ) → Q (open_code items n a i x)
  opened items n a i x = either Q (a.inside == 0) [] _ none (either Q (times x (links_of_head items) == 1) (_ ∷ []) [] (one _ refl) none)

  joined : (items : List HeadItem) (n : ℕ) (a : HeadAtom) (i x : ℕ) (p : Option Port) → Q (joined_code items n a i x p)
  joined items n a i x None = opened items n a i x
  joined items n a i x (Some p) = one _ refl

  pub ports : (items : List HeadItem) (n : ℕ) (a : HeadAtom) (i : ℕ) (xs : List ℕ) → Q (ports_code items n a i xs)
  ports items n a i [] = none
  ports items n a i (x ∷ xs) =
      both (port_code items n a i x) (ports_code items n a (i + 1) xs)
      (either Q (is_entry i (entry items n a)) [] (joined_code items n a i x (find_port x (occurrences_before items n a i))) none (joined items n a i x (find_port x (occurrences_before items n a i))))
      (ports items n a (i + 1) xs)

  pub differ_membrane : (k : ℕ) (b : HeadMembrane) (j : ℕ) (cs : List HeadMembrane) → Q (differ_membrane_code k b j cs)
  differ_membrane k b j [] = none
  differ_membrane k b j (c ∷ cs) = both _ _ (either Q (c.inside == b.inside) (NeqMem k j ∷ []) [] (one _ refl) none) (differ_membrane k b (j + 1) cs)

-- And where it holds of how an atom is found it holds of atoms and membranes.
module _ (Q : List Instr → Type 0) (none : Q []) (both : (xs ys : List Instr) → Q xs → Q ys → Q (xs ++ ys)) (found : (n : ℕ) (a : HeadAtom) (e : Option Entry) → Q (found_code n a e)) (one : (i : Instr) → is_check i ≡ true → Q (i ∷ [])) where
  atom : (items : List HeadItem) (n : ℕ) (a : HeadAtom) → Q (atom_code items n a)
  atom items n a =
      both (found_code n a (entry items n a)) _ (found n a (entry items n a))
      (both (differ_code n a 0 (take n (atoms_of items))) _ (differ Q none both (λ i h. one i (compares_checks i h)) n a 0 (take n (atoms_of items))) (ports Q none both (λ i h. one i (compares_checks i h)) items n a 0 a.links))

  pub all_items : (items : List HeadItem) (n i : ℕ) (xs : List HeadItem) → Q (items_code items n i xs)
  all_items items n i [] = none
  all_items items n i (Atom functor links inside ∷ xs) = both _ _ (atom items n (record { functor = functor; links = links; inside = inside })) (all_items items (n + 1) i xs)
  all_items items n i (Typed name kind link inside ∷ xs) = all_items items n i xs
  all_items items n i (Membrane inside c d r ∷ xs) =
      both (membrane_code items i (record { inside = inside; has_context = c; has_closed_context = d; has_rule_context = r })) (items_code items n (i + 1) xs)
      (both (AnyMem (i + 1) inside ∷ []) _ (one _ refl) (differ_membrane Q none both (λ i h. one i (compares_checks i h)) (i + 1) (record { inside = inside; has_context = c; has_closed_context = d; has_rule_context = r }) 1 (take i (membranes_of items))))
      (all_items items n (i + 1) xs)

-- ISINT, ISUNARY and ISGROUND
abbrev pub looks_at_part : Instr → Bool
looks_at_part (IsInt _ _ _) = true
looks_at_part (IsUnary _ _ _) = true
looks_at_part (IsGround _ _ _) = true
looks_at_part _ = false

-- what is asked of a membrane as a whole
abbrev pub asks_membrane : Instr → Bool
asks_membrane (NAtoms _ _ _) = true
asks_membrane (NMems _ _) = true
asks_membrane (NoRules _) = true
asks_membrane (IsClosed _ _) = true
asks_membrane _ = false

-- what a guard asks and computes
abbrev pub is_of_guard : Instr → Bool
is_of_guard (EqGround _ _) = true
is_of_guard (NeqGround _ _) = true
is_of_guard (GetInt _ _) = true
is_of_guard (Const _ _) = true
is_of_guard (Add _ _ _) = true
is_of_guard (Sub _ _ _) = true
is_of_guard (Mul _ _ _) = true
is_of_guard (Div _ _ _) = true
is_of_guard (Mod _ _ _) = true
is_of_guard (Lt _ _) = true
is_of_guard (Le _ _) = true
is_of_guard (Gt _ _) = true
is_of_guard (Ge _ _) = true
is_of_guard (Eq _ _) = true
is_of_guard (Ne _ _) = true
is_of_guard _ = false

pub part_is_test : (i : Instr) → looks_at_part i ≡ true → is_test i ≡ true
part_is_test (IsInt _ _ _) h = refl
part_is_test (IsUnary _ _ _) h = refl
part_is_test (IsGround _ _ _) h = refl
part_is_test _ h = absurd (true≢false (sym h))

pub membrane_is_test : (i : Instr) → asks_membrane i ≡ true → is_test i ≡ true
membrane_is_test (NAtoms _ _ _) h = refl
membrane_is_test (NMems _ _) h = refl
membrane_is_test (NoRules _) h = refl
membrane_is_test (IsClosed _ _) h = refl
membrane_is_test _ h = absurd (true≢false (sym h))

pub guard_is_test : (i : Instr) → is_of_guard i ≡ true → is_test i ≡ true
guard_is_test (EqGround _ _) h = refl
guard_is_test (NeqGround _ _) h = refl
guard_is_test (GetInt _ _) h = refl
guard_is_test (Const _ _) h = refl
guard_is_test (Add _ _ _) h = refl
guard_is_test (Sub _ _ _) h = refl
guard_is_test (Mul _ _ _) h = refl
guard_is_test (Div _ _ _) h = refl
guard_is_test (Mod _ _ _) h = refl
guard_is_test (Lt _ _) h = refl
guard_is_test (Le _ _) h = refl
guard_is_test (Gt _ _) h = refl
guard_is_test (Ge _ _) h = refl
guard_is_test (Eq _ _) h = refl
guard_is_test (Ne _ _) h = refl
guard_is_test _ h = absurd (true≢false (sym h))

-- And what holds of each test holds of the tests: of typed contexts,
module _ (Q : List Instr → Type 0) (none : Q []) (both : (xs ys : List Instr) → Q xs → Q ys → Q (xs ++ ys)) (one : (i : Instr) → looks_at_part i ≡ true → Q (i ∷ [])) where
  test : (k : TypeKind) (g : ℕ) (p : AtomPort) (m : ℕ) → looks_at_part (test_of k g p m) ≡ true
  test kind.Int g p m = refl
  test kind.Unary g p m = refl
  test kind.Ground g p m = refl

  part : (g : ℕ) (t : HeadTyped) (p : Option Port) → Q (part_code g t p)
  part g t None = none
  part g t (Some p) = one _ (test t.kind g _ t.inside)

  pub parts : (items : List HeadItem) (g : ℕ) (ts : List HeadTyped) → Q (parts_code items g ts)
  parts items g [] = none
  parts items g (t ∷ ts) = both (part_code g t (find_port t.link (at_atoms 0 (atoms_of items)))) (parts_code items (g + 1) ts) (part g t (find_port t.link (at_atoms 0 (atoms_of items)))) (parts items (g + 1) ts)

-- of membranes,
module _ (Q : List Instr → Type 0) (none : Q []) (both : (xs ys : List Instr) → Q xs → Q ys → Q (xs ++ ys)) (one : (i : Instr) → asks_membrane i ≡ true → Q (i ∷ [])) where
  filled : (items : List HeadItem) (k : ℕ) (b : HeadMembrane) → Q (filled_code items k b)
  filled items k b =
      both _ _ (either Q b.has_context [] (_ ∷ (_ ∷ [])) none (both (_ ∷ []) (_ ∷ []) (one _ refl) (one _ refl)))
      (both _ _ (either Q b.has_rule_context [] (NoRules k ∷ []) none (one _ refl)) (either Q b.has_closed_context (IsClosed k _ ∷ []) [] (one _ refl) none))

  pub all_filled : (items : List HeadItem) (k : ℕ) (bs : List HeadMembrane) → Q (all_filled_code items k bs)
  all_filled items k [] = none
  all_filled items k (b ∷ bs) = both (filled_code items k b) (all_filled_code items (k + 1) bs) (filled items k b) (all_filled items (k + 1) bs)

-- and of a guard.
module _ (Q : List Instr → Type 0) (none : Q []) (both : (xs ys : List Instr) → Q xs → Q ys → Q (xs ++ ys)) (one : (i : Instr) → is_of_guard i ≡ true → Q (i ∷ [])) where
  operator : (o : Arith) (v w x : ℕ) → is_of_guard (operator_instruction o v w x) ≡ true
  operator arith.Add v w x = refl
  operator arith.Sub v w x = refl
  operator arith.Mul v w x = refl
  operator arith.Div v w x = refl
  operator arith.Mod v w x = refl

  named : (g : Option ℕ) (bound v : ℕ) → Q (named_code g bound v).code
  named None bound v = none
  named (Some g) bound v = one _ refl

  value : (part : ℕ → Option ℕ) (bound : ℕ → ℕ) (e : Expr) (v : ℕ) → Q (value_code part bound e v).code
  value part bound (expr.Int z) v = one _ refl
  value part bound (expr.Ctx u) v = named (part u.name) (bound u.name) v
  value part bound (expr.Op' o p left q right) v =
      let a = value_code part bound left v in
      let b = value_code part bound right a.next in
      both a.code _ (value part bound left v) (both b.code (operator_instruction o b.next a.at b.at ∷ []) (value part bound right a.next) (one _ (operator o b.next a.at b.at)))

  compared : (c : Cmp) (v w : ℕ) → is_of_guard (comparison c v w) ≡ true
  compared cmp.Lt v w = refl
  compared cmp.Le v w = refl
  compared cmp.Gt v w = refl
  compared cmp.Ge v w = refl
  compared cmp.Eq v w = refl
  compared cmp.Ne v w = refl

  equal : (left right : Option ℕ) (c : Computed) (xs ys : List Instr) → Q c.code → Q xs → Q ys → Q (equal_code left right c xs ys)
  equal None right c xs ys h g k = both c.code xs h g
  equal (Some l) None c xs ys h g k = k
  equal (Some l) (Some r) c xs ys h g k = both (_ ∷ []) ys (one _ refl) k

  differ_parts : (left right : Option ℕ) → Q (differ_parts_code left right)
  differ_parts None right = none
  differ_parts (Some g) None = none
  differ_parts (Some g) (Some k) = one _ refl

  pub guards : (part : ℕ → Option ℕ) (bound : ℕ → ℕ) (v : ℕ) (cs : List Cond) → Q (guard_code part bound v cs)
  guards part bound v [] = none
  guards part bound v (Kind n args place ∷ cs) = guards part bound v cs
  guards part bound v (Compare op left right place ∷ cs) =
      let a = value_code part bound left v in
      let b = value_code part bound right a.next in
      both a.code _ (value part bound left v) (both b.code _ (value part bound right a.next) (both (_ ∷ []) _ (one _ (compared op a.at b.at)) (guards part bound b.next cs)))
  guards part bound v (Equal left right place ∷ cs) =
      let c = value_code part bound right v in
      equal (part left.name) (part_named part (context_alone right)) c _ _ (value part bound right v) (guards part (bind_register bound left.name c.at) c.next cs) (guards part bound v cs)
  guards part bound v (Differ left right place ∷ cs) = both (differ_parts_code (part left.name) (part right.name)) _ (differ_parts (part left.name) (part right.name)) (guards part bound v cs)

-- ---- what a head's code may end with

-- Code behind which a test may follow, for a test of code.
abbrev Leads : (List Instr → Bool) → List Instr → Type 0
Leads test xs = (ys : List Instr) → test ys ≡ true → test (xs ++ ys) ≡ true

leads_none : (test : List Instr → Bool) → Leads test []
leads_none test ys h = h

leads_both : (test : List Instr → Bool) (xs ys : List Instr) → Leads test xs → Leads test ys → Leads test (xs ++ ys)
leads_both test xs ys h g zs k = ap test (append_assoc xs ys zs) ∙ h (ys ++ zs) (g zs k)

-- A test that how atoms are found and checks lead to passes of the whole, where it follows from one that tests lead to and that passes
-- of COMMIT.
whole : (test late : List Instr → Bool) → ((ys : List Instr) → late ys ≡ true → test ys ≡ true) → ((n : ℕ) (a : HeadAtom) (e : Option Entry) → Leads test (found_code n a e)) → ((i : Instr) → is_check i ≡ true → Leads test (i ∷ [])) → ((i : Instr) → is_test i ≡ true → Leads late (i ∷ []))
    → late (Commit ∷ []) ≡ true → (items : List HeadItem) (guard : List Cond) → test (head_code items guard) ≡ true
whole test late into found check tested last items guard =
    all_items (Leads test) (leads_none test) (leads_both test) found check items 0 0 items _ (into _
    (parts (Leads late) (leads_none late) (leads_both late) (λ i h. tested i (part_is_test i h)) items 0 (typed_contexts_of items) _
    (all_filled (Leads late) (leads_none late) (leads_both late) (λ i h. tested i (membrane_is_test i h)) items 1 (membranes_of items) _
    (guards (Leads late) (leads_none late) (leads_both late) (λ i h. tested i (guard_is_test i h)) (typed_number (typed_contexts_of items) 0) (λ x. 0) 0 guard (Commit ∷ []) last))))

-- ---- instructions of a head, and COMMIT

not_commit : (i : Instr) → is_of_head i ≡ true → is_commit i ≡ false
not_commit Commit h = absurd (true≢false (sym h))
not_commit _ h = refl

of_check : (i : Instr) → is_check i ≡ true → is_of_head i ≡ true
of_check (NeqAtom _ _) h = refl
of_check (Joined _ _) h = refl
of_check (NotIn _ _) h = refl
of_check (AnyMem _ _) h = refl
of_check (NeqMem _ _) h = refl
of_check _ h = absurd (true≢false (sym h))

one_of_head : (i : Instr) → is_of_head i ≡ true → Leads is_head (i ∷ [])
one_of_head i h ys g = λ j. if not_commit i h j then is_empty ys else (h j && g j)

found_of_head : (n : ℕ) (a : HeadAtom) (e : Option Entry) → Leads is_head (found_code n a e)
found_of_head n a None ys g = g
found_of_head n a (Some e) ys g = g

pub head_code_is_head : HeadCodeIsHead
head_code_is_head = whole is_head is_head (λ ys h. h) found_of_head (λ i h. one_of_head i (of_check i h)) (λ i h. one_of_head i (and_parts _ _ h).0) refl

-- ---- DEREF with FUNC and INMEM behind it

looked_check : (i : Instr) (ys : List Instr) → is_check i ≡ true → is_looked_at i ys ≡ true
looked_check (NeqAtom _ _) ys h = refl
looked_check (Joined _ _) ys h = refl
looked_check (NotIn _ _) ys h = refl
looked_check (AnyMem _ _) ys h = refl
looked_check (NeqMem _ _) ys h = refl
looked_check _ ys h = absurd (true≢false (sym h))

looked_test : (i : Instr) (ys : List Instr) → is_test i ≡ true → is_looked_at i ys ≡ true
looked_test (Deref _ _ _) ys h = absurd (true≢false (sym h))
looked_test _ ys h = refl

found_looked : (n : ℕ) (a : HeadAtom) (e : Option Entry) → Leads all_looked_at (found_code n a e)
found_looked n a None ys g = g
found_looked n a (Some e) ys g = λ j. ((Decides-eqb n n).1 refl j && (Decides-eqb n n).1 refl j) && g j

pub head_code_looks : HeadCodeLooks
head_code_looks = whole all_looked_at all_looked_at (λ ys h. h) found_looked (λ i h ys g. (λ j. looked_check i ys h j && g j)) (λ i h ys g. (λ j. looked_test i ys h j && g j)) refl

-- ---- what finds before what surveys

quiet_check : (i : Instr) → is_check i ≡ true → surveys i ≡ false
quiet_check (NeqAtom _ _) h = refl
quiet_check (Joined _ _) h = refl
quiet_check (NotIn _ _) h = refl
quiet_check (AnyMem _ _) h = refl
quiet_check (NeqMem _ _) h = refl
quiet_check _ h = absurd (true≢false (sym h))

-- it passes, and nothing is found
abbrev finds_no_more : List Instr → Bool
finds_no_more is = finds_first is && not (list_any finds is)

found_first_of_all : (n : ℕ) (a : HeadAtom) (e : Option Entry) → Leads finds_first (found_code n a e)
found_first_of_all n a None ys g = g
found_first_of_all n a (Some e) ys g = g

check_first : (i : Instr) → is_check i ≡ true → Leads finds_first (i ∷ [])
check_first i h ys g = λ j. (not (quiet_check i h j) || not (list_any finds ys)) && g j

test_late : (i : Instr) → is_test i ≡ true → Leads finds_no_more (i ∷ [])
test_late i h ys g = (λ j. ((not (surveys i) || rest.1 j) && rest.0 j) && not (none j || any j)) ∙ last (surveys i)
  where
    rest : (finds_first ys ≡ true) × (not (list_any finds ys) ≡ true)
    rest = and_parts (finds_first ys) (not (list_any finds ys)) g

    by : (b : Bool) → not b ≡ true → b ≡ false
    by true e = absurd (true≢false (sym e))
    by false e = refl

    none : finds i ≡ false
    none = by (finds i) (and_parts (is_of_head i) (not (finds i)) h).1

    any : list_any finds ys ≡ false
    any = by (list_any finds ys) rest.1

    last : (s : Bool) → (((not s || true) && true) && true) ≡ true
    last true = refl
    last false = refl

pub head_code_finds_first : HeadCodeFindsFirst
head_code_finds_first = whole finds_first finds_no_more (λ ys h. (and_parts (finds_first ys) (not (list_any finds ys)) h).0) found_first_of_all check_first test_late refl
