-- The code of a body: what it takes out, how much it makes.
use Rattle.std.proofs.Common.{◌≡◌, ◌≤◌, ◌+◌, ◌&&◌, ℕ, suc, Bool, true, false, if◌then◌else◌, List, [], ◌∷◌, ◌++◌, length, map, refl, sym, ap, ◌∙◌, arith, true≢false}
use Rattle.std.proofs.lemmas.List.{append_assoc}
use Rattle.lmn_base.proofs.Numbers.{equal_itself}
use Rattle.lmn_solid_heads.specs.declared.items.HeadItem.{HeadItem}
use Rattle.lmn_solid_heads.specs.Heads.{HeadMembrane, atoms_of, typed_contexts_of, membranes_of}
use Rattle.lmn_congruence_splice.specs.Classes.{class_of, ends_of_class, rising}
use Rattle.lmn_instr_code.specs.declared.instr.AtomPort.{AtomPort}
use Rattle.lmn_instr_code.specs.declared.instr.NewPort.{NewPort}
use Rattle.lmn_instr_code.specs.declared.instr.Instr.{Instr}
use Rattle.lmn_instr_code.specs.declared.instr.Instr.TheVariants.{RemoveAtom, RemovePart, RemoveMem, NewAtom, NewInt, NewMem, CopyGround, DropCells, NewLink, Relink, Unify, Proceed}
use Rattle.lmn_solid_bodies.specs.declared.items.BodyItem.{BodyItem}
use Rattle.lmn_solid_bodies.specs.declared.items.BodyItem.TheVariants.{Atom, Connector, Copy, Bound, Membrane, Rest, Rule, Rules}
use Rattle.lmn_solid_bodies.specs.Code.{removals, making, drops, link_code, links_code, body_code}
use Rattle.lmn_solid_bodies.specs.Items.{new_ports, old_ports, connectors}
use Rattle.lmn_machine_commit.specs.Preparing.{atoms_made, membranes_made, copies_made}
use Rattle.lmn_instr_code.specs.declared.words.Operand.{Operand}
use Rattle.lmn_instr_code.specs.declared.words.Operand.TheVariants as operand
use Rattle.lmn_verify_code.specs.Verified.{takes_out, registers_held}
use Rattle.lmn_verify_compiled.proofs.InOrder.{total}

-- ---- what is taken out

-- where each instruction takes out what its register holds, code does that begins with these
takes_more : (register : ℕ → Operand) (remove : ℕ → Instr) → ((k : ℕ) (os : List Operand) (is : List Instr) → takes_out os is ≡ true → takes_out (register k ∷ os) (remove k ∷ is) ≡ true)
    → (ks : List ℕ) (os : List Operand) (is : List Instr) → takes_out os is ≡ true → takes_out (map register ks ++ os) (map remove ks ++ is) ≡ true
takes_more register remove one [] os is h = h
takes_more register remove one (k ∷ ks) os is h = one k (map register ks ++ os) (map remove ks ++ is) (takes_more register remove one ks os is h)

last_taken : (register : ℕ → Operand) (remove : ℕ → Instr) → ((k : ℕ) (os : List Operand) (is : List Instr) → takes_out os is ≡ true → takes_out (register k ∷ os) (remove k ∷ is) ≡ true)
    → (ks : List ℕ) (is : List Instr) → takes_out (map register ks) (map remove ks ++ is) ≡ true
last_taken register remove one [] is = refl
last_taken register remove one (k ∷ ks) is = one k (map register ks) (map remove ks ++ is) (last_taken register remove one ks is)

-- The code of a body begins by taking out what its head holds.
pub removals_take : (items : List HeadItem) (is : List Instr)
    → takes_out (registers_held (length (atoms_of items)) (length (typed_contexts_of items)) (length (membranes_of items))) (removals items ++ is) ≡ true
removals_take items is =
    let as' = rising 0 (length (atoms_of items)) in
    let gs = rising 0 (length (typed_contexts_of items)) in
    let ms = rising 1 (length (membranes_of items)) in
    let held = registers_held (length (atoms_of items)) (length (typed_contexts_of items)) (length (membranes_of items)) in
    ap (takes_out held) (append_assoc (map RemoveAtom as') (map RemovePart gs ++ map RemoveMem ms) is ∙ ap (λ t. map RemoveAtom as' ++ t) (append_assoc (map RemovePart gs) (map RemoveMem ms) is))
    ∙ takes_more operand.Atom RemoveAtom (λ k os zs h i. equal_itself k i && h i) as' (map operand.Part gs ++ map operand.Membrane ms) (map RemovePart gs ++ (map RemoveMem ms ++ is))
    (takes_more operand.Part RemovePart (λ k os zs h i. equal_itself k i && h i) gs (map operand.Membrane ms) (map RemoveMem ms ++ is)
    (last_taken operand.Membrane RemoveMem (λ k os zs h i. equal_itself k i && h i) ms is))

-- ---- how much is made

-- the instructions of a body that make nothing, move nothing and copy nothing
abbrev pub makes_none : Instr → Bool
makes_none (RemoveAtom _) = true
makes_none (RemovePart _) = true
makes_none (RemoveMem _) = true
makes_none (DropCells _) = true
makes_none (NewLink _ _) = true
makes_none (Relink _ _) = true
makes_none (Unify _ _) = true
makes_none Proceed = true
makes_none _ = false

-- What holds of no code, of two parts behind each other, and of each of these instructions holds of what stands round what a body
-- makes.
module _ (Q : List Instr → Type 0) (none : Q []) (both : (xs ys : List Instr) → Q xs → Q ys → Q (xs ++ ys)) (one : (i : Instr) → makes_none i ≡ true → Q (i ∷ [])) where
  each_of : (f : ℕ → Instr) → ((k : ℕ) → makes_none (f k) ≡ true) → (ks : List ℕ) → Q (map f ks)
  each_of f h [] = none
  each_of f h (k ∷ ks) = both (f k ∷ []) (map f ks) (one (f k) (h k)) (each_of f h ks)

  pub removed : (items : List HeadItem) → Q (removals items)
  removed items =
      both _ _ (each_of RemoveAtom (λ k. refl) (rising 0 (length (atoms_of items))))
      (both _ _ (each_of RemovePart (λ k. refl) (rising 0 (length (typed_contexts_of items)))) (each_of RemoveMem (λ k. refl) (rising 1 (length (membranes_of items)))))

  dropped_if : (b : Bool) (k : ℕ) → Q (if b then DropCells k ∷ [] else [])
  dropped_if true k = one (DropCells k) refl
  dropped_if false k = none

  pub dropped : (k : ℕ) (bs : List HeadMembrane) → Q (drops k bs)
  dropped k [] = none
  dropped k (b ∷ bs) = both (if b.has_closed_context then DropCells k ∷ [] else []) (drops (k + 1) bs) (dropped_if b.has_closed_context k) (dropped (k + 1) bs)

  tie : (ps : List NewPort) (hs : List AtomPort) → Q (link_code ps hs)
  tie [] [] = none
  tie [] (a ∷ []) = none
  tie [] (a ∷ b ∷ []) = one (Unify a b) refl
  tie [] (a ∷ b ∷ c ∷ hs) = none
  tie (p ∷ []) [] = none
  tie (p ∷ []) (a ∷ []) = one (Relink p a) refl
  tie (p ∷ []) (a ∷ b ∷ hs) = none
  tie (p ∷ q ∷ []) [] = one (NewLink p q) refl
  tie (p ∷ q ∷ []) (a ∷ hs) = none
  tie (p ∷ q ∷ s ∷ ps) hs = none

  pub tied : (m : ℕ → ℕ) (news : List (NewPort × ℕ)) (olds : List (AtomPort × ℕ)) (zs : List ℕ) → Q (links_code m news olds zs)
  tied m news olds [] = none
  tied m news olds (z ∷ zs) = both (link_code (ends_of_class m z news) (ends_of_class m z olds)) (links_code m news olds zs) (tie (ends_of_class m z news) (ends_of_class m z olds)) (tied m news olds zs)

pub total_append : (f : Instr → ℕ) (xs ys : List Instr) → total f (xs ++ ys) ≡ total f xs + total f ys
total_append f [] ys = omega arith
total_append f (x ∷ xs) ys = let h = total_append f xs ys in omega (arith, h)

-- an amount that one instruction has at most once, and only where it makes something
pub record IsAmount (f : Instr → ℕ) : Type 0 where
  pub few : (i : Instr) → f i ≤ 1
  pub none : (i : Instr) → makes_none i ≡ true → f i ≡ 0

atoms_few : (i : Instr) → atoms_made i ≤ 1
atoms_few (NewAtom x y f) = omega arith
atoms_few (NewInt x y f) = omega arith
atoms_few _ = omega arith

membranes_few : (i : Instr) → membranes_made i ≤ 1
membranes_few (NewMem x y) = omega arith
membranes_few _ = omega arith

copies_few : (i : Instr) → copies_made i ≤ 1
copies_few (CopyGround x y z) = omega arith
copies_few _ = omega arith

no_atoms : (i : Instr) → makes_none i ≡ true → atoms_made i ≡ 0
no_atoms (NewAtom x y f) h = absurd (true≢false (sym h))
no_atoms (NewInt x y f) h = absurd (true≢false (sym h))
no_atoms _ h = refl

no_membranes : (i : Instr) → makes_none i ≡ true → membranes_made i ≡ 0
no_membranes (NewMem x y) h = absurd (true≢false (sym h))
no_membranes _ h = refl

no_copies : (i : Instr) → makes_none i ≡ true → copies_made i ≡ 0
no_copies (CopyGround x y z) h = absurd (true≢false (sym h))
no_copies _ h = refl

pub atoms_amount : IsAmount atoms_made
atoms_amount = record { few = atoms_few; none = no_atoms }

pub membranes_amount : IsAmount membranes_made
membranes_amount = record { few = membranes_few; none = no_membranes }

pub copies_amount : IsAmount copies_made
copies_amount = record { few = copies_few; none = no_copies }

sums : (w r t m u d v l e n : ℕ) → w ≡ r + t → t ≡ m + u → u ≡ d + v → v ≡ l + e → r ≡ 0 → m ≤ n → d ≡ 0 → l ≡ 0 → e ≡ 0 → w ≤ n
sums w r t m u d v l e n s1 s2 s3 s4 e1 e2 e3 e4 e5 = omega arith

module _ (f : Instr → ℕ) (amount : IsAmount f) where
  none_both : (xs ys : List Instr) → total f xs ≡ 0 → total f ys ≡ 0 → total f (xs ++ ys) ≡ 0
  none_both xs ys h g = let e = total_append f xs ys in omega (arith, e, h, g)

  none_one : (i : Instr) → makes_none i ≡ true → total f (i ∷ []) ≡ 0
  none_one i h = let e = amount.none i h in omega (arith, e)

  one_more : (i : Instr) (is : List Instr) (n : ℕ) → total f is ≤ n → f i + total f is ≤ suc n
  one_more i is n r = let e = amount.few i in omega (arith, e, r)

  -- what a body makes is no more than its items
  making_few : (a m c : ℕ) (xs : List BodyItem) → total f (making a m c xs) ≤ length xs
  making_few a m c [] = omega arith
  making_few a m c (Atom functor links inside ∷ xs) = one_more _ (making (a + 1) m c xs) (length xs) (making_few (a + 1) m c xs)
  making_few a m c (Connector left right ∷ xs) = let r = making_few a m c xs in omega (arith, r)
  making_few a m c (Copy part link inside ∷ xs) = one_more _ (making a m (c + 1) xs) (length xs) (making_few a m (c + 1) xs)
  making_few a m c (Bound integer link inside ∷ xs) = one_more _ (making (a + 1) m c xs) (length xs) (making_few (a + 1) m c xs)
  making_few a m c (Membrane inside ∷ xs) = one_more _ (making a (m + 1) c xs) (length xs) (making_few a (m + 1) c xs)
  making_few a m c (Rest of closed inside ∷ xs) = one_more _ (making a m c xs) (length xs) (making_few a m c xs)
  making_few a m c (Rule rule inside ∷ xs) = one_more _ (making a m c xs) (length xs) (making_few a m c xs)
  making_few a m c (Rules of inside ∷ xs) = one_more _ (making a m c xs) (length xs) (making_few a m c xs)

  -- The code of a body makes no more than the body has items.
  pub body_makes_few : (head : List HeadItem) (body : List BodyItem) (n : ℕ) → total f (body_code head body n) ≤ length body
  body_makes_few head body n =
      let a = length (atoms_of head) in
      let k = 1 + length (membranes_of head) in
      let rs = removals head in
      let made = making a k 0 body in
      let ds = drops 1 (membranes_of head) in
      let ls = links_code (class_of (connectors body)) (new_ports a 0 body) (old_ports head) (rising 0 n) in
      let Q : List Instr → Type 0 = λ xs. total f xs ≡ 0 in
      let e1 = removed Q refl none_both none_one head in
      let e2 = making_few a k 0 body in
      let e3 = dropped Q refl none_both none_one 1 (membranes_of head) in
      let e4 = tied Q refl none_both none_one (class_of (connectors body)) (new_ports a 0 body) (old_ports head) (rising 0 n) in
      let e5 = none_one Proceed refl in
      let s1 = total_append f rs (made ++ (ds ++ (ls ++ (Proceed ∷ [])))) in
      let s2 = total_append f made (ds ++ (ls ++ (Proceed ∷ []))) in
      let s3 = total_append f ds (ls ++ (Proceed ∷ [])) in
      let s4 = total_append f ls (Proceed ∷ []) in
      sums _ _ _ _ _ _ _ _ _ _ s1 s2 s3 s4 e1 e2 e3 e4 e5
