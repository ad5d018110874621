-- A cost is told by registers of the head, and by what they hold of rests.
use Rattle.std.proofs.Common.{ℕ, ◌≡◌, ◌+◌, ◌<◌, Bool, true, false, List, [], ◌∷◌, ◌++◌, map, length, refl, sym, subst, ◌∙◌, inl, inr, arith}
use Rattle.std.specs.Prelude.{if◌then◌else◌, sum}
use Rattle.lmn_store_heap.specs.Heap.{Heap, rules_in}
use Rattle.lmn_solid_heads.specs.declared.items.HeadItem.{HeadItem}
use Rattle.lmn_solid_heads.specs.Heads.{HeadMembrane, atoms_of, membranes_of, typed_contexts_of}
use Rattle.lmn_congruence_splice.specs.Classes.{class_of, ends_of_class, rising}
use Rattle.lmn_congruence_splice.specs.Splice as splice
use Rattle.lmn_instr_code.specs.declared.instr.AtomPort.{AtomPort}
use Rattle.lmn_instr_code.specs.declared.instr.NewPort.{NewPort}
use Rattle.lmn_instr_code.specs.declared.instr.Instr.{Instr}
use Rattle.lmn_instr_code.specs.declared.instr.Instr.TheVariants.{RemoveAtom, RemovePart, RemoveMem, CopyGround, CopyCells, CopyRules, DropCells, Proceed}
use Rattle.lmn_solid_bodies.specs.declared.items.BodyItem.{BodyItem}
use Rattle.lmn_solid_bodies.specs.declared.items.BodyItem.TheVariants.{Atom, Connector, Copy, Bound, Membrane, Rest, Rule, Rules}
use Rattle.lmn_solid_bodies.specs.Code.{body_code, drops, link_code, links_code, making, removals}
use Rattle.lmn_solid_bodies.specs.Items.{connectors, new_ports, old_ports}
use Rattle.lmn_solid_bodies.specs.Rules.{WellPlaced}
use Rattle.lmn_solid_bodies.specs.Running.{Registers as BodyRegisters, Prepares}
use Rattle.lmn_solid_bodies.proofs.Firing.{rising_below}
use Rattle.lmn_machine.specs.Costs.{AddsItems, InAll, IsRestSize, IsSize, Leaves, TakesItems}
use Rattle.lmn_solid_bodies.proofs.Coding.{prepares_join}

-- ---- instructions that make nothing

quiet_atoms : (r : BodyRegisters) (s : Heap) (xs : List ℕ) → Prepares r (map RemoveAtom xs) s s
quiet_atoms r s [] = refl
quiet_atoms r s (x ∷ xs) = (s, refl, quiet_atoms r s xs)

quiet_parts : (r : BodyRegisters) (s : Heap) (xs : List ℕ) → Prepares r (map RemovePart xs) s s
quiet_parts r s [] = refl
quiet_parts r s (x ∷ xs) = (s, refl, quiet_parts r s xs)

quiet_mems : (r : BodyRegisters) (s : Heap) (xs : List ℕ) → Prepares r (map RemoveMem xs) s s
quiet_mems r s [] = refl
quiet_mems r s (x ∷ xs) = (s, refl, quiet_mems r s xs)

-- removals make nothing
pub quiet_removals : (r : BodyRegisters) (s : Heap) (head : List HeadItem) → Prepares r (removals head) s s
quiet_removals r s head =
    let ps = map RemovePart (rising 0 (length (typed_contexts_of head))) in
    let ms = map RemoveMem (rising 1 (length (membranes_of head))) in
    prepares_join r (map RemoveAtom (rising 0 (length (atoms_of head)))) (ps ++ ms) s s s (quiet_atoms r s (rising 0 (length (atoms_of head))))
    (prepares_join r ps ms s s s (quiet_parts r s (rising 0 (length (typed_contexts_of head)))) (quiet_mems r s (rising 1 (length (membranes_of head)))))

quiet_link : (r : BodyRegisters) (s : Heap) (ps : List NewPort) (hs : List AtomPort) → Prepares r (link_code ps hs) s s
quiet_link r s [] [] = refl
quiet_link r s [] (g ∷ []) = refl
quiet_link r s [] (g ∷ (k ∷ [])) = (s, refl, refl)
quiet_link r s [] (g ∷ (k ∷ (l ∷ hs))) = refl
quiet_link r s (p ∷ []) [] = refl
quiet_link r s (p ∷ []) (g ∷ []) = (s, refl, refl)
quiet_link r s (p ∷ []) (g ∷ (k ∷ hs)) = refl
quiet_link r s (p ∷ (q ∷ [])) [] = (s, refl, refl)
quiet_link r s (p ∷ (q ∷ [])) (g ∷ hs) = refl
quiet_link r s (p ∷ (q ∷ (z ∷ ps))) hs = refl

-- nor do links
pub quiet_links : (r : BodyRegisters) (s : Heap) (m : ℕ → ℕ) (news : List (NewPort × ℕ)) (olds : List (AtomPort × ℕ)) (zs : List ℕ) → Prepares r (links_code m news olds zs) s s
quiet_links r s m news olds [] = refl
quiet_links r s m news olds (z ∷ zs) =
    prepares_join r (link_code (ends_of_class m z news) (ends_of_class m z olds)) (links_code m news olds zs) s s s (quiet_link r s (ends_of_class m z news) (ends_of_class m z olds)) (quiet_links r s m news olds zs)

-- nor does what is dropped
pub quiet_drops : (r : BodyRegisters) (s : Heap) (k : ℕ) (bs : List HeadMembrane) → Prepares r (drops k bs) s s
quiet_drops r s k [] = refl
quiet_drops r s k (b ∷ bs) = by b.has_closed_context (quiet_drops r s (k + 1) bs)
  where
    by : (t : Bool) → Prepares r (drops (k + 1) bs) s s → Prepares r ((if t then DropCells k ∷ [] else []) ++ drops (k + 1) bs) s s
    by true rest = (s, refl, rest)
    by false rest = rest

-- ---- what is read to tell a cost

-- the membranes that are read are below m
abbrev Reads : ℕ → Instr → Type 0
Reads m (RemoveMem x) = x < m
Reads m (CopyRules x y) = x < m
Reads m _ = Unit {0}

-- each instruction reads registers that are set
abbrev pub AllRead : ℕ → List Instr → Type 0
AllRead m [] = Unit {0}
AllRead m (i ∷ is) = Reads m i × AllRead m is

read_both : (m : ℕ) (xs ys : List Instr) → AllRead m xs → AllRead m ys → AllRead m (xs ++ ys)
read_both m [] ys a b = b
read_both m (x ∷ xs) ys a b = (a.0, read_both m xs ys a.1 b)

read_atoms : (m : ℕ) (xs : List ℕ) → AllRead m (map RemoveAtom xs)
read_atoms m [] = tt
read_atoms m (x ∷ xs) = (tt, read_atoms m xs)

read_parts : (m : ℕ) (xs : List ℕ) → AllRead m (map RemovePart xs)
read_parts m [] = tt
read_parts m (x ∷ xs) = (tt, read_parts m xs)

read_mems : (m : ℕ) (xs : List ℕ) → ((x : ℕ) → splice.IsOneOf x xs → x < m) → AllRead m (map RemoveMem xs)
read_mems m [] l = tt
read_mems m (x ∷ xs) l = (l x (inl refl), read_mems m xs (λ y i. l y (inr i)))

read_making : (K a m c : ℕ) (body : List BodyItem) → WellPlaced K m body → AllRead (1 + K) (making a m c body)
read_making K a m c [] p = tt
read_making K a m c (Atom functor links inside ∷ xs) p = (tt, read_making K (a + 1) m c xs p.1)
read_making K a m c (Connector left right ∷ xs) p = read_making K a m c xs p
read_making K a m c (Copy part link inside ∷ xs) p = (tt, read_making K a m (c + 1) xs p.1)
read_making K a m c (Bound integer link inside ∷ xs) p = (tt, read_making K (a + 1) m c xs p.1)
read_making K a m c (Membrane inside ∷ xs) p = (tt, read_making K a (m + 1) c xs p.1)
read_making K a m c (Rest of false inside ∷ xs) p = (tt, read_making K a m c xs p.3)
read_making K a m c (Rest of true inside ∷ xs) p = (tt, read_making K a m c xs p.2)
read_making K a m c (Rule rule inside ∷ xs) p = (tt, read_making K a m c xs p.1)
read_making K a m c (Rules of inside ∷ xs) p = (let e = p.0.1 in let l = p.0.2 in omega (arith, e, l), read_making K a m c xs p.2)

read_drops : (m k : ℕ) (bs : List HeadMembrane) → AllRead m (drops k bs)
read_drops m k [] = tt
read_drops m k (b ∷ bs) = by b.has_closed_context (read_drops m (k + 1) bs)
  where
    by : (t : Bool) → AllRead m (drops (k + 1) bs) → AllRead m ((if t then DropCells k ∷ [] else []) ++ drops (k + 1) bs)
    by true rest = (tt, rest)
    by false rest = rest

read_link : (m : ℕ) (ps : List NewPort) (hs : List AtomPort) → AllRead m (link_code ps hs)
read_link m [] [] = tt
read_link m [] (g ∷ []) = tt
read_link m [] (g ∷ (k ∷ [])) = (tt, tt)
read_link m [] (g ∷ (k ∷ (l ∷ hs))) = tt
read_link m (p ∷ []) [] = tt
read_link m (p ∷ []) (g ∷ []) = (tt, tt)
read_link m (p ∷ []) (g ∷ (k ∷ hs)) = tt
read_link m (p ∷ (q ∷ [])) [] = (tt, tt)
read_link m (p ∷ (q ∷ [])) (g ∷ hs) = tt
read_link m (p ∷ (q ∷ (z ∷ ps))) hs = tt

read_links : (k : ℕ) (m : ℕ → ℕ) (news : List (NewPort × ℕ)) (olds : List (AtomPort × ℕ)) (zs : List ℕ) → AllRead k (links_code m news olds zs)
read_links k m news olds [] = tt
read_links k m news olds (z ∷ zs) = read_both k (link_code (ends_of_class m z news) (ends_of_class m z olds)) (links_code m news olds zs) (read_link k (ends_of_class m z news) (ends_of_class m z olds)) (read_links k m news olds zs)

-- the code of a body reads membranes of the head alone
pub body_reads : (head : List HeadItem) (body : List BodyItem) (n : ℕ) → WellPlaced (length (membranes_of head)) (1 + length (membranes_of head)) body → AllRead (1 + length (membranes_of head)) (body_code head body n)
body_reads head body n p =
    let N = length (atoms_of head) in
    let K = length (membranes_of head) in
    let T = length (typed_contexts_of head) in
    let make = making N (1 + K) 0 body in
    let drop = drops 1 (membranes_of head) in
    let links = links_code (class_of (connectors body)) (new_ports N 0 body) (old_ports head) (rising 0 n) in
    read_both (1 + K) (removals head) (make ++ (drop ++ (links ++ (Proceed ∷ []))))
    (read_both (1 + K) (map RemoveAtom (rising 0 N)) (map RemovePart (rising 0 T) ++ map RemoveMem (rising 1 K)) (read_atoms (1 + K) (rising 0 N))
    (read_both (1 + K) (map RemovePart (rising 0 T)) (map RemoveMem (rising 1 K)) (read_parts (1 + K) (rising 0 T))
    (read_mems (1 + K) (rising 1 K) (λ x i. let l = (rising_below K 1 x i).1 in omega (arith, l)))))
    (read_both (1 + K) make (drop ++ (links ++ (Proceed ∷ []))) (read_making K N (1 + K) 0 body p)
    (read_both (1 + K) drop (links ++ (Proceed ∷ [])) (read_drops (1 + K) 1 (membranes_of head))
    (read_both (1 + K) links (Proceed ∷ []) (read_links (1 + K) (class_of (connectors body)) (new_ports N 0 body) (old_ports head) (rising 0 n)) (tt, tt))))

-- ---- registers that agree there

module _ (h : Heap) (s t : BodyRegisters) (m : ℕ) (same_part : (g : ℕ) → t.head.images.part g ≡ s.head.images.part g) (same_mem : (k : ℕ) → k < m → t.head.images.membrane k ≡ s.head.images.membrane k)
    (same_atoms : (k : ℕ) → t.left_atoms k ≡ s.left_atoms k) (same_mems : (k : ℕ) → t.left_membranes k ≡ s.left_membranes k) where
  rest_size_so : (k n : ℕ) → IsRestSize h s k n → IsRestSize h t k n
  rest_size_so k n a = let p = sym (same_atoms k) in let q = sym (same_mems k) in a ∙ (λ i. length (p i) + sum (map (λ x. 1 + length (rules_in h x)) (q i)))

  adds_so : (i : Instr) (n : ℕ) → Reads m i → AddsItems h s i n → AddsItems h t i n
  adds_so (CopyGround c k g) n l a = subst (λ z. IsSize h z n) (sym (same_part g)) a
  adds_so (CopyCells k y) n l a = rest_size_so k n a
  adds_so (CopyRules k y) n l a = subst (λ z. n ≡ length (rules_in h z)) (sym (same_mem k l)) a
  adds_so i n l a = a

  takes_so : (i : Instr) (n : ℕ) → Reads m i → TakesItems h s i n → TakesItems h t i n
  takes_so (RemovePart g) n l a = subst (λ z. IsSize h z n) (sym (same_part g)) a
  takes_so (RemoveMem k) n l a = subst (λ z. n ≡ 1 + length (rules_in h z)) (sym (same_mem k l)) a
  takes_so (DropCells k) n l a = rest_size_so k n a
  takes_so i n l a = a

  in_all_so : (P Q : Instr → ℕ → Type 0) → ((i : Instr) (n : ℕ) → Reads m i → P i n → Q i n) → (is : List Instr) (n : ℕ) → AllRead m is → InAll P is n → InAll Q is n
  in_all_so P Q f [] n l a = a
  in_all_so P Q f (i ∷ is) n l a = (a.0, a.1, (f i a.0 l.0 a.2.0, in_all_so P Q f is a.1 l.1 a.2.1, a.2.2))

  pub leaves_so : (is : List Instr) (n : ℕ) → AllRead m is → Leaves h s is n → Leaves h t is n
  leaves_so is n l a = record {
    added = a.added;
    taken = a.taken;
    adds = in_all_so (AddsItems h s) (AddsItems h t) adds_so is a.added l a.adds;
    takes = in_all_so (TakesItems h s) (TakesItems h t) takes_so is a.taken l a.takes;
    count = a.count;
  }
