-- A run has one way to stop.
use Rattle.std.proofs.Common.{◌≡◌, ℕ, refl, ap, arith}
use Rattle.lmn_congruence.specs.Regions.{Region}
use Rattle.lmn_adequacy.specs.Runs.{Chooser, End, Ends, budget_done, full, irreducible, none_allowed, nothing_embeds, too_many}
use Rattle.lmn_adequacy.proofs.Runs.{embeds_in}
use Rattle.lmn_app_runs.specs.Laws.{SomeStop, StopIsOne}
use Rattle.lmn_app_runs.specs.Runs.{EndsAt, Given, StopsSo, at_end}
use Rattle.lmn_app_runs.specs.declared.stop.Stop.TheVariants as stop

module _ (chooser : Chooser) (budget size n : ℕ) (S : Region) where
  one_end : {e d : End} → Ends chooser budget size n S e → Ends chooser budget size n S d → e ≡ d
  one_end (nothing_embeds h) (nothing_embeds k) = refl
  one_end (nothing_embeds h) (none_allowed m a) = absurd (h m)
  one_end (nothing_embeds h) (too_many l t m) = absurd (h (embeds_in t.next))
  one_end (none_allowed m a) (nothing_embeds h) = absurd (h m)
  one_end (none_allowed m a) (none_allowed k b) = refl
  one_end (none_allowed k a) (too_many l t m) = absurd (omega (arith, a, l))
  one_end (too_many l t m) (nothing_embeds h) = absurd (h (embeds_in t.next))
  one_end (too_many l t m) (none_allowed k a) = absurd (omega (arith, a, l))
  one_end (too_many l t m) (too_many k u o) = refl

-- where a trace ends it stops so,
pub stops_at_end : (g : Given) (n : ℕ) (S : Region) (e : End) → EndsAt g n S e → StopsSo g n S (at_end e)
stops_at_end g n S irreducible ends = ends
stops_at_end g n S budget_done ends = ends
stops_at_end g n S full ends = ends

-- and where it stops so it ends
pub ends_at_stop : (g : Given) (n : ℕ) (S : Region) (e : End) → StopsSo g n S (at_end e) → EndsAt g n S e
ends_at_stop g n S irreducible ends = ends
ends_at_stop g n S budget_done ends = ends
ends_at_stop g n S full ends = ends

-- no run stops in two ways,
pub stop_is_one : StopIsOne
stop_is_one g n S stop.Irreducible stop.Irreducible a b = ap at_end (one_end g.chooser g.budget g.size n S a b)
stop_is_one g n S stop.Irreducible stop.Budget a b = ap at_end (one_end g.chooser g.budget g.size n S a b)
stop_is_one g n S stop.Irreducible stop.Full a b = ap at_end (one_end g.chooser g.budget g.size n S a b)
stop_is_one g n S stop.Irreducible stop.NoMemory a b = absurd (b _ a)
stop_is_one g n S stop.Budget stop.Irreducible a b = ap at_end (one_end g.chooser g.budget g.size n S a b)
stop_is_one g n S stop.Budget stop.Budget a b = ap at_end (one_end g.chooser g.budget g.size n S a b)
stop_is_one g n S stop.Budget stop.Full a b = ap at_end (one_end g.chooser g.budget g.size n S a b)
stop_is_one g n S stop.Budget stop.NoMemory a b = absurd (b _ a)
stop_is_one g n S stop.Full stop.Irreducible a b = ap at_end (one_end g.chooser g.budget g.size n S a b)
stop_is_one g n S stop.Full stop.Budget a b = ap at_end (one_end g.chooser g.budget g.size n S a b)
stop_is_one g n S stop.Full stop.Full a b = ap at_end (one_end g.chooser g.budget g.size n S a b)
stop_is_one g n S stop.Full stop.NoMemory a b = absurd (b _ a)
stop_is_one g n S stop.NoMemory stop.Irreducible a b = absurd (a _ b)
stop_is_one g n S stop.NoMemory stop.Budget a b = absurd (a _ b)
stop_is_one g n S stop.NoMemory stop.Full a b = absurd (a _ b)
stop_is_one g n S stop.NoMemory stop.NoMemory a b = refl

-- nor in none
pub some_stop : SomeStop
some_stop g n S none = none stop.NoMemory (λ e ends. none (at_end e) (stops_at_end g n S e ends))
