-- What stands in one membrane goes to another, one by one: the heap in which the rest has gone stays the same.
use Rattle.std.proofs.Common.{◌≡◌, ◌≢◌, ℕ, List, Option, Some, None, IsSome, refl, sym, ap, ◌∙◌}
use Rattle.std.specs.Option.{option_map}
use Rattle.lmn_store_heap.specs.Heap.{HeapAtom, HeapMem, within, gone, alter, mem_place_of, home_by, IsMemInPlace, atom_sent, mem_sent}
use Rattle.lmn_store_heap.specs.Conditions.{IsOutside}
use Rattle.lmn_store_heap.proofs.Listing.{alter_at, alter_away}
use Rattle.lmn_store_counts.specs.RuleLists.{RuleList}
use Rattle.lmn_store_counts.specs.Counts.{HasCounts}
use Rattle.lmn_web.specs.Webs.{WebCell}
use Rattle.lmn_store_web.specs.Sends.{CanSend}
use Rattle.lmn_store_web.specs.WebHeaps.{Posts, place_at, atoms_of, mems_of, heap_by}
use Rattle.lmn_store_web.specs.WebStores.{IsStored}
use Rattle.lmn_web_merging.proofs.Sending.{kind_there}
use Rattle.lmn_store_web.proofs.ReadLemmas.{stands_in, mem_there, parent_is}
use Rattle.lmn_store_web.proofs.PlaceLemmas.{in_place_mem}
use Rattle.lmn_store_counts.proofs.PlaceLemmas.{sent_keeps}

pub atom_stays : (m n : ℕ) (o : Option HeapAtom) → ((y : HeapAtom) → o ≡ Some y → y.place ≡ within m → ⊥) → option_map (atom_sent m n) o ≡ o
atom_stays m n None h = refl
atom_stays m n (Some y) h = let e = sent_keeps m n y.place (h y refl) in λ i. Some (record y { place = e i })

pub mem_stays : (m n : ℕ) (o : Option HeapMem) → ((y : HeapMem) → o ≡ Some y → y.place ≡ within m → ⊥) → option_map (mem_sent m n) o ≡ o
mem_stays m n None h = refl
mem_stays m n (Some y) h = let e = sent_keeps m n y.place (h y refl) in λ i. Some (record y { place = e i })

-- two changes at two places, read
module _ {X : Type 0} (f : ℕ → X) (m n : ℕ) (g h : X → X) (d : m ≢ n) where
  pub at_second : alter (alter f m g) n h n ≡ h (f n)
  at_second = alter_at (alter f m g) n h ∙ ap h (alter_away f m g n (λ e. d (sym e)))

  pub at_first : alter (alter f m g) n h m ≡ g (f m)
  at_first = alter_away (alter f m g) n h m d ∙ alter_at f m g

  pub at_none : (y : ℕ) → y ≢ m → y ≢ n → alter (alter f m g) n h y ≡ f y
  at_none y a b = alter_away (alter f m g) n h y b ∙ alter_away f m g y a

-- when all of m may go to n
pub can_send : (p : Posts) (t : List (Option RuleList)) (w : ℕ → Option WebCell) (m n a b c : ℕ) → IsStored p t w → HasCounts (atoms_of p w) (mems_of p t w) a b c
    → mem_place_of (heap_by p t w) m ≡ Some gone → IsMemInPlace (heap_by p t w) n → IsOutside (heap_by p t w) n m → CanSend p t w m n a b c
can_send p t w m n a b c k h taken there outside =
    let i = mem_there p t w m (some (mems_of p t w m) taken) in
    let q = in_place_mem p t w n there in
    record {
      stored = k;
      counts = h;
      source = i.1;
      source_waits = i.2;
      source_goes = i.3;
      target = q.0;
      target_waits = q.1;
      target_goes = q.2;
      fits = q.3;
      apart = λ e. outside 0 (sym e);
      outside = λ e. outside 1 (m, parent_is p t w n q.0 q.1 q.2 (kind_there (w n) q.0) ∙ ap (λ o. home_by (place_at p o)) e ∙ ap home_by (stands_in p m i.2 i.3), refl);
    }
  where
    some : (o : Option HeapMem) → option_map (λ x. x.place) o ≡ Some gone → IsSome o
    some None e = absurd (cc)
    some (Some x) e = refl
