-- What turns of verified codes do on a heap they do on its solid.
use Rattle.std.proofs.Common.{ℕ, ◌≡◌, ◌∙◌, ◌<◌, ◌≤◌, ◌++◌, List, Option, Some, None, IsSome, length, refl, sym, subst}
use Rattle.std.specs.Prelude.{slice_get}
use Rattle.lmn_base.specs.declared.solid.Solid.{Solid}
use Rattle.lmn_base.specs.Lists.{In}
use Rattle.lmn_base.proofs.Lists.{plus_nothing}
use Rattle.lmn_store_heap.specs.Heap.{Heap, HeapMem, IsMemInPlace, rules_by, rules_in}
use Rattle.lmn_store_heap.specs.Solid.{HasSolid}
use Rattle.lmn_store_heap.specs.Sound.{Forest, IsTree, Valid, flat}
use Rattle.lmn_store_heap.proofs.Common.{mem_stands}
use Rattle.lmn_print_plain.specs.HeapLaws.{HeapsHaveSolids}
use Rattle.lmn_instr_code.specs.declared.instr.Code.{Code}
use Rattle.lmn_solid_heads.specs.Embeddings.{Lies}
use Rattle.lmn_solid_bodies.specs.Fired.{images_of}
use Rattle.lmn_solid_bodies.specs.Rules.{PartAtoms}
use Rattle.lmn_schedule_strategy.specs.Choosing as choosing
use Rattle.lmn_schedule_strategy.specs.Choosing.{asked}
use Rattle.lmn_schedule_strategy.specs.Turns.{Chooses, IsTurn}
use Rattle.lmn_schedule_strategy.specs.declared.turning.Turn.{Turn}
use Rattle.lmn_schedule_strategy.specs.declared.turning.Turn.TheVariants.{Committed, Irreducible, Full, NoMemory}
use Rattle.lmn_verify_code.specs.Verified.{IsVerified}
use Rattle.lmn_verify_laws.specs.Flat.{flat_body, flat_head}
use Rattle.lmn_verify_laws.specs.Laws.{RestsThere, VerifiedFires, VerifiedHeadsLie, VerifiedIsFlat}
use Rattle.lmn_verify_solids.specs.Graphs.{IsGraphOf}
use Rattle.lmn_verify_solids.specs.Heads.{IsChosen, NoneIn}
use Rattle.lmn_verify_solids.specs.Heaps.{graph_of}
use Rattle.lmn_verify_solids.specs.Laws.{FlatRulesFire, HeadsAreAlike, HeapsAreGraphs, ItemsAreOne, OnePreorder}
use Rattle.lmn_verify_solids.specs.Turns.{Choice, CodeNext, NoneSucceeds}
use Rattle.lmn_verify_turns.specs.Laws.{AreVerified, IsAnswerOn, SuccessesAreSome, TurnsAreChoices}
use Rattle.lmn_verify_turns.proofs.Gathered.{image_stands, part_atoms}
use Rattle.lmn_verify_turns.proofs.OnGraphs.{chosen_there, leaves_there, none_there}
use Rattle.lmn_verify_turns.proofs.SameBut.{marks_apart, solid_same}

-- A membrane of which a rule is asked stands in its place.
pub rule_stands : (h : Heap) (m place n : ℕ) → Valid h → slice_get (rules_in h m) place ≡ Some n → IsMemInPlace h m
rule_stands h m place n v e = mem_stands h v m (by (h.mems m) e)
  where
    by : (o : Option HeapMem) → slice_get (rules_by o) place ≡ Some n → IsSome o
    by None f = absurd (cc f)
    by (Some x) f = refl

-- The laws that it takes.
pub record Grounds : Type 0 where
  pub graphs : HeapsAreGraphs
  pub preorder : OnePreorder
  pub items : ItemsAreOne
  pub alike : HeadsAreAlike
  pub committed : FlatRulesFire
  pub fires : VerifiedFires
  pub lies : VerifiedHeadsLie
  pub flat : VerifiedIsFlat
  pub left : RestsThere
  pub solids : HeapsHaveSolids

module _ (on : Grounds) (codes : List Code) (verified : AreVerified codes) (h : Heap) (S : Solid) (f : Forest) (valid : Valid h) (has : HasSolid h S) (tree : IsTree h f) where
  abbrev is : IsGraphOf (graph_of h) S
  is = on.graphs h S valid has

  module _ (size : ℕ) (a : Turn) (h' : Heap) (t : Chooses h codes (asked 0 f) size a h') where
    abbrev code_verified : IsVerified t.code (length codes)
    code_verified = verified t.rule t.code t.is

    placed : IsMemInPlace h t.membrane
    placed = rule_stands h t.membrane t.place t.rule valid t.chosen.rule.stands

    lies : Lies h (flat_head t.code) t.membrane t.registers.head.images
    lies = on.lies t.code (length codes) code_verified h t.membrane t.registers.head valid placed t.first.succeeds

    chosen : IsChosen (graph_of h) codes (is).all t.code t.membrane t.registers.head
    chosen =
        let ms : asked 0 f ≡ (is).all = plus_nothing (flat f) ∙ sym (on.preorder h S is f tree) in
        subst (λ z. IsChosen (graph_of h) codes z t.code t.membrane t.registers.head) ms
        (chosen_there h on.alike codes (asked 0 f) t.membrane t.place t.rule t.code t.registers.head t.chosen t.is t.first)

    -- what is chosen on the heap is chosen on the solid
    abbrev choice : (parts : List ℕ) → PartAtoms h (flat_head t.code) t.registers.head.images parts → Choice codes S
    choice parts are = record {
      graph = graph_of h;
      is_graph = is;
      code = t.code;
      membrane = t.membrane;
      registers = t.registers;
      chosen = chosen;
      taken = images_of t.registers (flat_head t.code) ++ parts;
      rests = on.left t.code (length codes) code_verified h valid t.registers t.rests parts are;
      left = t.left;
      leaves = leaves_there h t.registers on.items S valid has t.code.body t.left f tree t.leaves;
    }

    some_choice : (c : Choice codes S) × (c.left ≡ t.left)
    some_choice = let ps = part_atoms h valid (flat_head t.code) t.membrane t.registers.head.images lies in (choice ps.0 ps.1, refl)

  -- what is committed on the heap leads to the next solid
  next : (size : ℕ) (h' : Heap) → Chooses h codes (asked 0 f) size Committed h' → (S' : Solid) × HasSolid h' S' × CodeNext codes size S S'
  next size h' t =
      let v = verified t.rule t.code t.is in
      let w = on.fires t.code (length codes) v h t.membrane t.registers valid (placed size Committed h' t) t.first t.rests h' t.answered.1 in
      let stands = image_stands h valid (flat_head t.code) t.membrane t.registers.head.images (lies size Committed h' t) in
      let fired = on.committed (flat_head t.code) (flat_body t.code) t.code (on.flat t.code (length codes) v).0 h w.0 valid w.2 t.registers stands w.3 in
      let x = on.solids w.0 w.2 in (
        x.0,
        solid_same w.0 h' (marks_apart w.0 h' w.1) x.0 x.1,
        (choice size Committed h' t w.3.parts w.3.are, t.answered.0, graph_of w.0, on.graphs w.0 x.0 w.2 x.1, fired),
      )

  none : choosing.NoneIn h codes (flat f) → NoneSucceeds codes S
  none w = (graph_of h, is, subst (NoneIn (graph_of h) codes) (sym (on.preorder h S is f tree)) (none_there h on.alike codes (flat f) w))

  answers : (size : ℕ) (a : Turn) (h' : Heap) → IsTurn h codes f 0 size a h' → IsAnswerOn codes size S a h'
  answers size Committed h' t = next size h' t
  answers size Irreducible h' t = none t.0
  answers size Full h' t = let c = some_choice size Full h' t in (c.0, subst (λ n. size < n) (sym c.1) t.answered.0)
  answers size NoMemory h' t = let c = some_choice size NoMemory h' t in (c.0, subst (λ n. n ≤ size) (sym c.1) t.answered.0)

-- What verified codes choose and commit on a heap they do on its solid.
pub turns_are_choices : Grounds → TurnsAreChoices
turns_are_choices on codes verified size h S f valid has tree a h' t = answers on codes verified h S f valid has tree size a h' t

-- Where the code of a rule succeeds in a membrane of a heap, some code succeeds on its solid.
pub successes_are_some : HeapsAreGraphs → OnePreorder → HeadsAreAlike → SuccessesAreSome
successes_are_some graphs preorder alike codes h S f valid has tree m n i j c =
    let is = graphs h S valid has in record {
      graph = graph_of h;
      is_graph = is;
      membrane = m;
      among = subst (In m) (sym (preorder h S is f tree)) i;
      rule = n;
      stands = j;
      code = c.code;
      is = c.is;
      registers = c.registers;
      succeeds = (alike h c.code.head m c.registers).0.0 c.succeeds;
    }
