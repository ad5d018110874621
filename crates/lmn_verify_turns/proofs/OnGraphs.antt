-- What codes choose on a heap they choose on its graph, at the same cost.
use Rattle.std.proofs.Common.{ℕ, ◌≡◌, ◌+◌, List, [], ◌∷◌, Some, arith}
use Rattle.std.specs.Prelude.{slice_get, sum, take}
use Rattle.lmn_base.specs.declared.solid.Solid.{Solid}
use Rattle.lmn_base.specs.Graphs.{Port}
use Rattle.lmn_base.specs.Solids.{item_count}
use Rattle.lmn_store_heap.specs.Heap.{Heap, rules_in}
use Rattle.lmn_store_heap.specs.Solid.{HasSolid}
use Rattle.lmn_store_heap.specs.Sound.{Forest, IsTree, Valid}
use Rattle.lmn_instr_code.specs.declared.instr.Code.{Code}
use Rattle.lmn_instr_code.specs.declared.instr.Instr.{Instr}
use Rattle.lmn_instr_code.specs.declared.instr.Instr.TheVariants.{CopyGround, RemovePart}
use Rattle.lmn_instr_code.specs.Running as heap
use Rattle.lmn_instr_code.specs.Running.{HeadRegisters}
use Rattle.lmn_solid_bodies.specs.Running.{Registers}
use Rattle.lmn_machine.specs.Costs as cost
use Rattle.lmn_schedule_strategy.specs.Choosing as choosing
use Rattle.lmn_schedule_strategy.specs.Choosing.{IsFirstIn}
use Rattle.lmn_verify_solids.specs.Graphs.{Graph}
use Rattle.lmn_verify_solids.specs.Heads.{IsChosen, NoneIn, NoneOf}
use Rattle.lmn_verify_solids.specs.Heaps.{graph_of}
use Rattle.lmn_verify_solids.specs.Laws.{HeadsAreAlike, ItemsAreOne}
use Rattle.lmn_verify_solids.specs.Turns.{AddsItems, InAll, IsSize, TakesItems}

module _ (h : Heap) where
  abbrev G : Graph
  G = graph_of h

  -- ---- what is chosen

  module _ (alike : HeadsAreAlike) (codes : List Code) where
    none_of_there : (m : ℕ) (rules : List ℕ) → choosing.NoneOf h codes m rules → NoneOf G codes m rules
    none_of_there m rules none n i code r e s = none n i (record { code = code; is = e; registers = r; succeeds = (alike h code.head m r).0.1 s })

    none_of_back : (m : ℕ) (rules : List ℕ) → NoneOf G codes m rules → choosing.NoneOf h codes m rules
    none_of_back m rules none n i c = none n i c.code c.registers c.is ((alike h c.code.head m c.registers).0.0 c.succeeds)

    pub none_there : (ms : List ℕ) → choosing.NoneIn h codes ms → NoneIn G codes ms
    none_there ms none m i = none_of_there m (rules_in h m) (none m i)

    pub none_back : (ms : List ℕ) → NoneIn G codes ms → choosing.NoneIn h codes ms
    none_back ms none m i = none_of_back m (rules_in h m) (none m i)

    pub chosen_there : (ms : List ℕ) (m place n : ℕ) (code : Code) (r : HeadRegisters) → IsFirstIn h codes ms m place n → slice_get codes n ≡ Some code → heap.IsFirstSuccess h code.head m r → IsChosen G codes ms code m r
    chosen_there ms m place n code r w is first = record {
      earlier = w.earlier;
      later = w.later;
      order = w.order;
      none = none_there w.earlier w.none;
      place = place;
      rule = n;
      stands = w.rule.stands;
      none_before = none_of_there m (take place (rules_in h m)) w.rule.earlier;
      is = is;
      first = (alike h code.head m r).1.0 first;
    }

    pub first_back : (ms : List ℕ) (code : Code) (m : ℕ) (r : HeadRegisters) → IsChosen G codes ms code m r → heap.IsFirstSuccess h code.head m r
    first_back ms code m r w = (alike h code.head m r).1.1 w.first

    pub chosen_back : (ms : List ℕ) (code : Code) (m : ℕ) (r : HeadRegisters) → (w : IsChosen G codes ms code m r) → IsFirstIn h codes ms m w.place w.rule
    chosen_back ms code m r w = record {
      earlier = w.earlier;
      later = w.later;
      order = w.order;
      none = none_back w.earlier w.none;
      rule = record {
        stands = w.stands;
        succeeds = record { code = code; is = w.is; registers = r; succeeds = (first_back ms code m r w).succeeds };
        earlier = none_of_back m (take w.place (rules_in h m)) w.none_before;
      };
    }

  -- ---- costs

  size_there : (p : Port) (n : ℕ) → cost.IsSize h p n → IsSize G p n
  size_there p n w = (w.0, w.1.0, w.1.1, w.2)

  size_back : (p : Port) (n : ℕ) → IsSize G p n → cost.IsSize h p n
  size_back p n w = (w.0, (w.1, w.2), w.3)

  module _ (r : Registers) where
    adds_there : (i : Instr) (n : ℕ) → cost.AddsItems h r i n → AddsItems G r i n
    adds_there (CopyGround c m x) n w = size_there (r.head.images.part x) n w
    adds_there _ n w = w

    adds_back : (i : Instr) (n : ℕ) → AddsItems G r i n → cost.AddsItems h r i n
    adds_back (CopyGround c m x) n w = size_back (r.head.images.part x) n w
    adds_back _ n w = w

    takes_there : (i : Instr) (n : ℕ) → cost.TakesItems h r i n → TakesItems G r i n
    takes_there (RemovePart x) n w = size_there (r.head.images.part x) n w
    takes_there _ n w = w

    takes_back : (i : Instr) (n : ℕ) → TakesItems G r i n → cost.TakesItems h r i n
    takes_back (RemovePart x) n w = size_back (r.head.images.part x) n w
    takes_back _ n w = w

    all_there : (P Q : Instr → ℕ → Type 0) → ((i : Instr) (n : ℕ) → P i n → Q i n) → (is : List Instr) (n : ℕ) → cost.InAll P is n → InAll Q is n
    all_there P Q one [] n w = w
    all_there P Q one (i ∷ is) n w = (w.0, w.1, (one i w.0 w.2.0, all_there P Q one is w.1 w.2.1, w.2.2))

    all_back : (P Q : Instr → ℕ → Type 0) → ((i : Instr) (n : ℕ) → P i n → Q i n) → (is : List Instr) (n : ℕ) → InAll P is n → cost.InAll Q is n
    all_back P Q one [] n w = w
    all_back P Q one (i ∷ is) n w = (w.0, w.1, (one i w.0 w.2.0, all_back P Q one is w.1 w.2.1, w.2.2))

    module _ (items : ItemsAreOne) (S : Solid) (valid : Valid h) (has : HasSolid h S) (body : List Instr) (left : ℕ) where
      pub leaves_there : (f : Forest) → IsTree h f → cost.Leaves h r body left →
          (added : ℕ) × (gone : ℕ) × InAll (AddsItems G r) body added × InAll (TakesItems G r) body gone × (left + gone ≡ item_count S + added)
      leaves_there f tree w =
          let count = w.count f tree in
          let all = items h S f valid has tree in (
            w.added,
            w.taken,
            all_there (cost.AddsItems h r) (AddsItems G r) adds_there body w.added w.adds,
            all_there (cost.TakesItems h r) (TakesItems G r) takes_there body w.taken w.takes,
            omega (arith, count, all),
          )

      pub leaves_back : (added gone : ℕ) → InAll (AddsItems G r) body added → InAll (TakesItems G r) body gone → left + gone ≡ item_count S + added → cost.Leaves h r body left
      leaves_back added gone adds takes sum = record {
        added = added;
        taken = gone;
        adds = all_back (AddsItems G r) (cost.AddsItems h r) adds_back body added adds;
        takes = all_back (TakesItems G r) (cost.TakesItems h r) takes_back body gone takes;
        count = λ f tree. (let all = items h S f valid has tree in omega (arith, sum, all));
      }
