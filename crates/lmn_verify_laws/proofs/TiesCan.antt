-- What ties in the code of a body can be run behind what it takes, makes and drops, whatever room its membranes have for rules.
use Rattle.std.proofs.Common.{◌≡◌, ◌<◌, ◌+◌, ℕ, true, false, List, [], ◌++◌, length, Option, Some, None, IsSome, refl, sym, ap, subst, ◌∙◌, arith}
use Rattle.std.specs.Option.{option_map}
use Rattle.lmn_base.specs.Graphs.{Port}
use Rattle.lmn_base.specs.Lists.{In}
use Rattle.lmn_store_heap.specs.Heap.{Heap, HeapAtom, IsInPlace, IsMemInPlace, arity_of, partners_of}
use Rattle.lmn_store_heap.specs.Sound.{Listed, Valid}
use Rattle.lmn_store_heap.proofs.Listing.{same_paired}
use Rattle.lmn_solid_heads.specs.declared.items.HeadItem.{HeadItem}
use Rattle.lmn_solid_heads.specs.Heads.{HeadMembrane, atoms_of, membranes_of}
use Rattle.lmn_solid_heads.specs.Embeddings.{Lies, HasMembrane}
use Rattle.lmn_congruence_splice.specs.Classes.{class_of, rising, body_ties}
use Rattle.lmn_congruence_splice.specs.Splice.{IsOneOf, Splice, ports, links}
use Rattle.lmn_congruence_splice.proofs.Fusions.{d as colour, before, fits, is_old}
use Rattle.lmn_solid_bodies.specs.declared.items.BodyItem.{BodyItem}
use Rattle.lmn_solid_bodies.specs.Added.{moved_mems}
use Rattle.lmn_solid_bodies.specs.Code.{making, drops, links_code}
use Rattle.lmn_solid_bodies.specs.Conditions.{StandsAsPort, CanRun}
use Rattle.lmn_solid_bodies.specs.Items.{new_ports, old_ports}
use Rattle.lmn_solid_bodies.specs.Names.{Names}
use Rattle.lmn_solid_bodies.specs.RestCopies.{RestCopies}
use Rattle.lmn_solid_bodies.specs.Rules.{AtomRule, Goes, Exists, Nests, PartAtoms}
use Rattle.lmn_solid_bodies.specs.Running.{Registers, DoesAll}
use Rattle.lmn_solid_bodies.specs.Tied.{partners}
use Rattle.lmn_solid_bodies.specs.Within.{removed_mems, dropped_atoms}
use Rattle.lmn_solid_bodies.proofs.Firing.{links_below, old_port_stands, arity_old}
use Rattle.lmn_solid_bodies.proofs.Held.{Held}
use Rattle.lmn_solid_bodies.proofs.LinksCan.{all_can, links_can}
use Rattle.lmn_solid_bodies.proofs.Nesting as nesting
use Rattle.lmn_solid_bodies.proofs.Preparing.{AllPrepared}

module _ (h : Heap) (valid : Valid h) (head : List HeadItem) (body : List BodyItem) (n m : ℕ) (r : Registers) (qs : RestCopies) (rule : AtomRule head body n)
    (em : Lies h head m r.head.images) (stand : IsMemInPlace h m) (c : Port → ℕ) (names : Names h c)
    (goes : Goes r (removed_mems r head) (Exists h r qs head body) body)
    (contexts : (k : ℕ) (b : HeadMembrane) → HasMembrane head k b → b.has_context ≡ true → b.has_closed_context ≡ false → In (r.head.images.membrane k) (moved_mems r body))
    (ps : List ℕ) (parts : PartAtoms h head r.head.images ps) (hs : Held h valid head body m r ps)
    (s : Heap) (pr : AllPrepared c h s r qs (length (atoms_of head)) (1 + length (membranes_of head)) body)
    (nests : Nests r m [] (1 + length (membranes_of head)) body) (listed_s : Listed s)
    (t3 : Heap) (run : DoesAll r (making (length (atoms_of head)) (1 + length (membranes_of head)) 0 body) (nesting.t2 h valid head body n m r qs rule em stand c names goes contexts ps parts hs s pr nests listed_s) t3)
    (t4 : Heap) (drop_run : DoesAll r (drops 1 (membranes_of head)) t3 t4) where
  abbrev news : List (Port × ℕ)
  news = nesting.news h valid head body n m r qs rule em stand c names goes contexts ps parts hs s pr nests listed_s

  abbrev olds : List (Port × ℕ)
  olds = nesting.olds h valid head body n m r qs rule em stand c names goes contexts ps parts hs s pr nests listed_s

  abbrev wires : List (ℕ × ℕ)
  wires = nesting.wires h valid head body n m r qs rule em stand c names goes contexts ps parts hs s pr nests listed_s

  abbrev F : Port → Type 0
  F = nesting.F h valid head body n m r qs rule em stand c names goes contexts ps parts hs s pr nests listed_s t3 run t4 drop_run

  splice : Splice F c (partners t4) news olds wires
  splice = subst (λ k. Splice F c k news olds wires) (sym (nesting.same_partners h valid head body n m r qs rule em stand c names goes contexts ps parts hs s pr nests listed_s t3 run t4 drop_run))
      (nesting.sp_s h valid head body n m r qs rule em stand c names goes contexts ps parts hs s pr nests listed_s t3 run t4 drop_run)

  below : (x : ℕ) → IsOneOf x (links news ++ links olds) → x < n
  below = links_below h valid head body n m r qs rule em stand c names pr.free ps parts (dropped_atoms r head) hs.rests

  -- a port of the heap where all waits is one before what ties
  stands_there : (p : Port) → p.1 < arity_of s p.0 → StandsAsPort t4 p
  stands_there p l = (
    some (s.atoms p.0) (t4.atoms p.0) (nesting.functors_t4 h valid head body n m r qs rule em stand c names goes contexts ps parts hs s pr nests listed_s t3 run t4 drop_run p.0) (has_ports (s.atoms p.0) l),
    subst (λ k. p.1 < k) (sym (nesting.arities_t4 h valid head body n m r qs rule em stand c names goes contexts ps parts hs s pr nests listed_s t3 run t4 drop_run p.0)) l,
  )
    where
      has_ports : (o : Option HeapAtom) → p.1 < length (partners_of o) → IsSome o
      has_ports None l = absurd (off l)
        where
          off : p.1 < 0 → ⊥
          off l = omega arith
      has_ports (Some x) l = refl

      some : (o q : Option HeapAtom) → option_map (λ x. x.functor) q ≡ option_map (λ x. x.functor) o → IsSome o → IsSome q
      some None q e i = absurd (cc)
      some (Some x) None e i = absurd (cc)
      some (Some x) (Some y) e i = refl

  old_stands : (p : Port) → IsOneOf p (ports olds) → StandsAsPort t4 p
  old_stands p i =
      let w = old_port_stands h valid head body n m r qs rule em stand c names pr.free ps parts (dropped_atoms r head) hs.rests p i in
      stands_there p (subst (λ k. p.1 < k) (sym (old_arity p.0 w.0)) w.1)
    where
      old_arity : (a : ℕ) → IsInPlace h a → arity_of s a ≡ arity_of h a
      old_arity a i = ap (λ (f : ℕ → Option HeapAtom). length (partners_of (f a))) pr.atoms.atoms ∙ arity_old h valid head body n m r qs rule em stand c names pr.free ps parts (dropped_atoms r head) hs.rests a i

  -- what ties can be run
  pub ties_can : CanRun r (links_code (class_of wires) (new_ports (length (atoms_of head)) 0 body) (old_ports head) (rising 0 n)) t4
  ties_can = links_can r (class_of wires) (new_ports (length (atoms_of head)) 0 body) (old_ports head) (rising 0 n) t4
      (all_can F (colour F c (partners t4) news olds wires n splice below) (body_ties news olds wires n) t4
      (same_paired s t4 (nesting.links_t4 h valid head body n m r qs rule em stand c names goes contexts ps parts hs s pr nests listed_s t3 run t4 drop_run) (nesting.paired_s h valid head body n m r qs rule em stand c names goes contexts ps parts hs s pr nests listed_s))
      (λ p f. stands_there p f.0) (λ p o. old_stands p (is_old F c (partners t4) news olds wires n splice below p o))
      (fits F c (partners t4) news olds wires n splice below) (before F c (partners t4) news olds wires n splice below))
