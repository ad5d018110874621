-- What is removed from a place, and what stays where it is while others are sent.
use Rattle.std.proofs.Common.{◌≡◌, ℕ, Some, None, refl, sym, ap, ◌∙◌}
use Rattle.lmn_base.proofs.Numbers.{not_equal as apart_test}
use Rattle.lmn_store_heap.specs.Heap.{HeapAtom, HeapMem, Place, top, within, waiting, gone, sent, unless_gone, unless_waiting, mem_unless_gone, mem_unless_waiting}
use Rattle.lmn_store_counts.specs.Counts.{Removes}

-- what is gone is removed
pub removes_gone : Removes (λ (x : HeapAtom). x.place) unless_gone gone
removes_gone x = by x.place refl
  where
    by : (p : Place) → x.place ≡ p → (x.place ≡ gone → unless_gone x ≡ None) × ((x.place ≡ gone → ⊥) → unless_gone x ≡ Some x)
    by top e = (λ g. absurd (let w : top ≡ gone = sym e ∙ g in cc), λ d. rw e refl)
    by (within m) e = (λ g. absurd (let w : within m ≡ gone = sym e ∙ g in cc), λ d. rw e refl)
    by waiting e = (λ g. absurd (let w : waiting ≡ gone = sym e ∙ g in cc), λ d. rw e refl)
    by gone e = (λ g. rw e refl, λ d. absurd (d e))

-- and what waits
pub removes_waiting : Removes (λ (x : HeapAtom). x.place) unless_waiting waiting
removes_waiting x = by x.place refl
  where
    by : (p : Place) → x.place ≡ p → (x.place ≡ waiting → unless_waiting x ≡ None) × ((x.place ≡ waiting → ⊥) → unless_waiting x ≡ Some x)
    by top e = (λ g. absurd (let w : top ≡ waiting = sym e ∙ g in cc), λ d. rw e refl)
    by (within m) e = (λ g. absurd (let w : within m ≡ waiting = sym e ∙ g in cc), λ d. rw e refl)
    by waiting e = (λ g. rw e refl, λ d. absurd (d e))
    by gone e = (λ g. absurd (let w : gone ≡ waiting = sym e ∙ g in cc), λ d. rw e refl)

-- and so of membranes
pub mem_removes_gone : Removes (λ (x : HeapMem). x.place) mem_unless_gone gone
mem_removes_gone x = by x.place refl
  where
    by : (p : Place) → x.place ≡ p → (x.place ≡ gone → mem_unless_gone x ≡ None) × ((x.place ≡ gone → ⊥) → mem_unless_gone x ≡ Some x)
    by top e = (λ g. absurd (let w : top ≡ gone = sym e ∙ g in cc), λ d. rw e refl)
    by (within m) e = (λ g. absurd (let w : within m ≡ gone = sym e ∙ g in cc), λ d. rw e refl)
    by waiting e = (λ g. absurd (let w : waiting ≡ gone = sym e ∙ g in cc), λ d. rw e refl)
    by gone e = (λ g. rw e refl, λ d. absurd (d e))

-- and of those that wait
pub mem_removes_waiting : Removes (λ (x : HeapMem). x.place) mem_unless_waiting waiting
mem_removes_waiting x = by x.place refl
  where
    by : (p : Place) → x.place ≡ p → (x.place ≡ waiting → mem_unless_waiting x ≡ None) × ((x.place ≡ waiting → ⊥) → mem_unless_waiting x ≡ Some x)
    by top e = (λ g. absurd (let w : top ≡ waiting = sym e ∙ g in cc), λ d. rw e refl)
    by (within m) e = (λ g. absurd (let w : within m ≡ waiting = sym e ∙ g in cc), λ d. rw e refl)
    by waiting e = (λ g. rw e refl, λ d. absurd (d e))
    by gone e = (λ g. absurd (let w : gone ≡ waiting = sym e ∙ g in cc), λ d. rw e refl)

-- places of items that are sent
pub sent_keeps : (m n : ℕ) (P : Place) → (P ≡ within m → ⊥) → sent m n P ≡ P
sent_keeps m n top d = refl
sent_keeps m n (within k) d = rw (apart_test k m (λ e. d (ap within e))) refl
sent_keeps m n waiting d = refl
sent_keeps m n gone d = refl
