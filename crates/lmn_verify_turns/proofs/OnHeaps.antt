-- What codes choose on a solid they choose on a heap that has it.
use Rattle.std.proofs.Common.{ℕ, ◌≡◌, ◌∙◌, ◌≤◌, ◌+◌, List, sym, subst}
use Rattle.lmn_base.specs.declared.solid.Solid.{Solid}
use Rattle.lmn_base.specs.Lists.{In}
use Rattle.lmn_base.specs.Solids.{item_count}
use Rattle.lmn_base.proofs.Lists.{plus_nothing}
use Rattle.lmn_store_heap.specs.Heap.{Heap, Unmarked}
use Rattle.lmn_store_heap.specs.Solid.{HasSolid}
use Rattle.lmn_store_heap.specs.Sound.{Forest, IsTree, Valid, flat}
use Rattle.lmn_store_heap.proofs.Common.{in_at}
use Rattle.lmn_store_heap.proofs.Trees.{in_here}
use Rattle.lmn_instr_code.specs.declared.instr.Code.{Code}
use Rattle.lmn_machine.specs.Costs.{Leaves}
use Rattle.lmn_schedule_strategy.specs.Choosing.{asked}
use Rattle.lmn_schedule_strategy.specs.Choosing as choosing
use Rattle.lmn_schedule_strategy.specs.Turns.{Chooses, HoldsRestsOf}
use Rattle.lmn_schedule_strategy.specs.declared.turning.Turn.TheVariants.{NoMemory}
use Rattle.lmn_verify_laws.specs.Laws.{RestsBack}
use Rattle.lmn_verify_solids.specs.Firing.{LeavesRests}
use Rattle.lmn_verify_solids.specs.Graphs.{Graph, IsGraphOf}
use Rattle.lmn_verify_solids.specs.Heads.{IsChosen, NoneIn, Succeeds}
use Rattle.lmn_verify_solids.specs.Heaps.{graph_of}
use Rattle.lmn_verify_solids.specs.Laws.{GraphsHaveHeaps, HeadsAreAlike, ItemsAreOne, OnePreorder}
use Rattle.lmn_verify_solids.specs.Turns.{AddsItems, Choice, InAll, NoneSucceeds, SomeSucceeds, TakesItems}
use Rattle.lmn_verify_turns.proofs.Chosen.{cleared, kept}
use Rattle.lmn_verify_turns.proofs.OnGraphs.{chosen_back, first_back, leaves_back, none_back}

-- A heap between commits, of which the graph is that of the choice.
pub record OnHeap (codes : List Code) (S : Solid) (c : Choice codes S) : Type 0 where
  pub heap : Heap
  pub is : graph_of heap ≡ c.graph
  pub valid : Valid heap
  pub unmarked : Unmarked heap
  pub solid : HasSolid heap S
  pub is_graph : IsGraphOf (graph_of heap) S
  pub chosen : (f : Forest) → IsTree heap f → IsChosen (graph_of heap) codes (asked 0 f) c.code c.membrane c.registers.head
  pub leaves_rests : LeavesRests (graph_of heap) c.code.head c.registers c.taken
  pub rests : HoldsRestsOf heap c.code.head c.registers
  pub leaves : Leaves heap c.registers c.code.body c.left

-- The laws that it takes.
pub record Grounds : Type 0 where
  pub heaps : GraphsHaveHeaps
  pub preorder : OnePreorder
  pub items : ItemsAreOne
  pub alike : HeadsAreAlike
  pub back : RestsBack

module _ (on : Grounds) (codes : List Code) (S : Solid) where
  -- There is one,
  pub on_heap : (c : Choice codes S) → OnHeap codes S c
  on_heap c =
      let x = on.heaps c.graph S c.is_graph in
      let r = c.registers in
      let P : Graph → Type 0 = λ g. ((i : IsGraphOf g S) × IsChosen g codes i.all c.code c.membrane r.head × LeavesRests g c.code.head r c.taken
      × ((added : ℕ) × (gone : ℕ) × InAll (AddsItems g r) c.code.body added × InAll (TakesItems g r) c.code.body gone × (c.left + gone ≡ item_count S + added))) in
      let w : P (graph_of x.heap) = subst P (sym x.is) (c.is_graph, c.chosen, c.rests, c.leaves) in
      let l = w.3 in record {
        heap = x.heap;
        is = x.is;
        valid = x.valid;
        unmarked = x.unmarked;
        solid = x.solid;
        is_graph = w.0;
        chosen = λ f tree. subst (λ ms. IsChosen (graph_of x.heap) codes ms c.code c.membrane r.head) (on.preorder x.heap S w.0 f tree ∙ sym (plus_nothing (flat f))) w.1;
        leaves_rests = w.2;
        rests = on.back x.heap x.valid c.code.head r c.taken w.2;
        leaves = leaves_back x.heap r on.items S x.valid x.solid c.code.body c.left l.0 l.1 l.2 l.3 l.4;
      }

  -- on which the same is chosen.
  abbrev pub chooses : (c : Choice codes S) (o : OnHeap codes S c) (f : Forest) → IsTree o.heap f → (size : ℕ) → c.left ≤ size → Chooses o.heap codes (asked 0 f) size NoMemory (cleared o.heap)
  chooses c o f tree size fits =
      let w = o.chosen f tree in record {
        membrane = c.membrane;
        place = w.place;
        rule = w.rule;
        chosen = chosen_back o.heap on.alike codes (asked 0 f) c.code c.membrane c.registers.head w;
        code = c.code;
        is = w.is;
        registers = c.registers;
        first = first_back o.heap on.alike codes (asked 0 f) c.code c.membrane c.registers.head w;
        rests = o.rests;
        left = c.left;
        leaves = o.leaves;
        answered = (fits, kept o.heap);
      }

  -- Where none succeeds on a solid, none does on a heap that has it.
  pub record NoneOnHeap : Type 0 where
    pub heap : Heap
    pub valid : Valid heap
    pub unmarked : Unmarked heap
    pub solid : HasSolid heap S
    pub none : (f : Forest) → IsTree heap f → choosing.NoneIn heap codes (flat f)

  pub none_on_heap : NoneSucceeds codes S → NoneOnHeap
  none_on_heap c =
      let x = on.heaps c.0 S c.1 in
      let P : Graph → Type 0 = λ g. ((i : IsGraphOf g S) × NoneIn g codes i.all) in
      let w : P (graph_of x.heap) = subst P (sym x.is) (c.1, c.2) in record {
        heap = x.heap;
        valid = x.valid;
        unmarked = x.unmarked;
        solid = x.solid;
        none = λ f tree. subst (choosing.NoneIn x.heap codes) (on.preorder x.heap S w.0 f tree) (none_back x.heap on.alike codes w.0.all w.1);
      }

  -- And where some succeeds, some does.
  pub record SomeOnHeap : Type 0 where
    pub heap : Heap
    pub valid : Valid heap
    pub unmarked : Unmarked heap
    pub solid : HasSolid heap S
    pub some : (f : Forest) → IsTree heap f → choosing.NoneIn heap codes (flat f) → ⊥

  pub some_on_heap : SomeSucceeds codes S → SomeOnHeap
  some_on_heap s =
      let x = on.heaps s.graph S s.is_graph in
      let P : Graph → Type 0 = λ g. ((i : IsGraphOf g S) × In s.membrane i.all × In s.rule (g.rules s.membrane) × Succeeds g s.code.head s.membrane s.registers) in
      let w : P (graph_of x.heap) = subst P (sym x.is) (s.is_graph, s.among, s.stands, s.succeeds) in record {
        heap = x.heap;
        valid = x.valid;
        unmarked = x.unmarked;
        solid = x.solid;
        some = λ f tree none. none s.membrane (subst (In s.membrane) (on.preorder x.heap S w.0 f tree) w.1) s.rule w.2
            (record { code = s.code; is = s.is; registers = s.registers; succeeds = (on.alike x.heap s.code.head s.membrane s.registers).0.1 w.3 });
      }

-- Where something is chosen on a solid, some code succeeds.
pub chosen_succeeds : (codes : List Code) (S : Solid) → Choice codes S → SomeSucceeds codes S
chosen_succeeds codes S c =
    let w = c.chosen in record {
      graph = c.graph;
      is_graph = c.is_graph;
      membrane = c.membrane;
      among = subst (In c.membrane) (sym w.order) (in_here c.membrane w.earlier w.later);
      rule = w.rule;
      stands = in_at (c.graph.rules c.membrane) w.place w.rule w.stands;
      code = c.code;
      is = w.is;
      registers = c.registers.head;
      succeeds = w.first.0;
    }
