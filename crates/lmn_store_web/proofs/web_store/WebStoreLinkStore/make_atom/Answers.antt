use Rattle.std.proofs.Common.{◌≡◌, ◌+◌, subst, sym, ap, ◌∙◌, refl, ℕ, inl, arith}
use Rattle.std.specs.Prelude.{Option}
use Rattle.lmn_base.proofs.Lists.{on_err}
use Rattle.lmn_store_heap.specs.Heap.{made_atom}
use Rattle.lmn_store_counts.specs.Counts.{HasCounts}
use Rattle.lmn_web_cells.specs.CellIds.{cell_id}
use Rattle.lmn_web.specs.declared.kind.CellKind.TheVariants.{Atom, Membrane}
use Rattle.lmn_web.specs.Webs.{WebCell}
use Rattle.lmn_web_merging.specs.Keepers.{merged_by}
use Rattle.lmn_store_web.specs.WebHeaps.{KeptWeb, heap_of, heap_by, atoms_of, mems_of}
use Rattle.lmn_store_web.specs.WebStores.{IsStored, kept_by}
use Rattle.lmn_store_web.proofs.MakeLemmas.{new_there, new_kind, new_homeless, new_apart, old_kind, old_files, old_mark, made_line, atom_stored, made_atom_heap, made_atom_counts}
use Rattle.lmn_store_heap.specs.Heap.{Heap}
use Rattle.lmn_web.specs.Webs.{web_label}
use Rattle.lmn_store_web.specs.Indexes.{key_of}
use Rattle.lmn_store_web.proofs.SoundLemmas.{heap_sound, merged_formed}
use Rattle.lmn_store_web.proofs.MemLists.{seen_by}
use Rattle.lmn_store_web.proofs.MakeLemmas.{made_key}
use Rattle.lmn_store_web.proofs.IndexLemmas.{index_by, index_same, key_by}
use Rattle.lmn_store_web.proofs.web_store.WebStoreLinkStore.make_atom.Goals as goal
use Rattle.lmn_store_heap.proofs.Common.{listed_mem as members}

pub make-requires : goal.make-requires
make-requires c = record { ports = λ e. absurd (let z : Atom ≡ Membrane = e in cc); class = c.number_of.ensures.class }

pub add_last_plain-requires-clause-plain : goal.add_last_plain-requires-clause-plain
add_last_plain-requires-clause-plain c =
    let k = kept_by c.self.inside in
    let p = k.posts in
    let v = merged_by k.web in
    let inv = c.self.invariant.store.stored in
    let a = cell_id c.in_ok-a.a in
    let u = merged_by c.make.new.self in
    let none = c.in_ok-a.ensures.0 in
    let make = c.in_ok-a.ensures.1 in
    old_mark v u a _ _ _ none make p.waiting inv.waiting ∙ inv.plain p.waiting inv.waiting (inl refl)

pub add_last_plain-requires-clause-files : goal.add_last_plain-requires-clause-files
add_last_plain-requires-clause-files c =
    let k = kept_by c.self.inside in
    let inv = c.self.invariant.store.stored in
    old_files (merged_by k.web) (merged_by c.make.new.self) (cell_id c.in_ok-a.a) _ _ _ c.in_ok-a.ensures.0 c.in_ok-a.ensures.1 k.posts.waiting inv.waiting (inv.files k.posts.waiting (inl refl))

pub add_last_plain-requires-clause-kind : goal.add_last_plain-requires-clause-kind
add_last_plain-requires-clause-kind c =
    let k = kept_by c.self.inside in
    let p = k.posts in
    let v = merged_by k.web in
    let inv = c.self.invariant.store.stored in
    let a = cell_id c.in_ok-a.a in
    let u = merged_by c.make.new.self in
    let none = c.in_ok-a.ensures.0 in
    let make = c.in_ok-a.ensures.1 in
    new_kind v u a _ _ _ none make

pub add_last_plain-requires-clause-there : goal.add_last_plain-requires-clause-there
add_last_plain-requires-clause-there c =
    let k = kept_by c.self.inside in
    let p = k.posts in
    let v = merged_by k.web in
    let inv = c.self.invariant.store.stored in
    let a = cell_id c.in_ok-a.a in
    let u = merged_by c.make.new.self in
    let none = c.in_ok-a.ensures.0 in
    let make = c.in_ok-a.ensures.1 in
    new_there v u a _ _ _ none make

pub add_last_plain-requires-clause-homeless : goal.add_last_plain-requires-clause-homeless
add_last_plain-requires-clause-homeless c =
    let k = kept_by c.self.inside in
    let p = k.posts in
    let v = merged_by k.web in
    let inv = c.self.invariant.store.stored in
    let a = cell_id c.in_ok-a.a in
    let u = merged_by c.make.new.self in
    let none = c.in_ok-a.ensures.0 in
    let make = c.in_ok-a.ensures.1 in
    new_homeless v u a _ _ _ none make

pub add_last_plain-requires-clause-membrane : goal.add_last_plain-requires-clause-membrane
add_last_plain-requires-clause-membrane c =
    let k = kept_by c.self.inside in
    let p = k.posts in
    let v = merged_by k.web in
    let inv = c.self.invariant.store.stored in
    let a = cell_id c.in_ok-a.a in
    let u = merged_by c.make.new.self in
    let none = c.in_ok-a.ensures.0 in
    let make = c.in_ok-a.ensures.1 in
    old_kind v u a _ _ _ none make p.waiting inv.waiting

pub add_last_plain-requires-clause-differ : goal.add_last_plain-requires-clause-differ
add_last_plain-requires-clause-differ c =
    let k = kept_by c.self.inside in
    let p = k.posts in
    let v = merged_by k.web in
    let inv = c.self.invariant.store.stored in
    let a = cell_id c.in_ok-a.a in
    let u = merged_by c.make.new.self in
    let none = c.in_ok-a.ensures.0 in
    let make = c.in_ok-a.ensures.1 in
    new_apart v u a _ _ _ none make p.waiting inv.waiting

pub invariant_of-self : goal.invariant_of-self
invariant_of-self c =
    let k = kept_by c.self.inside in
    let p = k.posts in
    let v = merged_by k.web in
    let inv = c.self.invariant.store.stored in
    record {
      atoms = c.self.invariant.atoms;
      mems = c.self.invariant.mems;
      sum = c.self.invariant.sum;
      store = record {
        stored = subst (λ (f : ℕ → Option WebCell). IsStored p k.table f) (sym c.in_err-a.ensures) inv;
        counts = subst (λ (f : ℕ → Option WebCell). HasCounts (atoms_of p f) (mems_of p k.table f) c.self.invariant.atoms c.self.invariant.mems c.self.inside.spare_count) (sym c.in_err-a.ensures) c.self.invariant.store.counts;
      };
      index = index_by _ _ _ _ (heap_by p k.table v) (heap_by p k.table (merged_by c.make.new.self)) (λ m. key_by v (merged_by c.make.new.self) m (ap (λ (f : ℕ → Option WebCell). web_label f m) c.in_err-a.ensures)) (ap (λ (f : ℕ → Option WebCell). heap_by p k.table f) c.in_err-a.ensures) c.self.invariant.index;
    }

pub returns-in_err-a-clause-err : goal.returns-in_err-a-clause-err
returns-in_err-a-clause-err c =
    let k = kept_by c.self.inside in
    let p = k.posts in
    let v = merged_by k.web in
    let inv = c.self.invariant.store.stored in
    on_err _ _ (ap (λ (f : ℕ → Option WebCell). heap_by p k.table f) c.in_err-a.ensures ∙ ap (λ (z : KeptWeb). heap_of z) c.self.view_is)

pub invariant_of-self-2 : goal.invariant_of-self-2
invariant_of-self-2 c =
    let k = kept_by c.self.inside in
    let p = k.posts in
    let v = merged_by k.web in
    let inv = c.self.invariant.store.stored in
    let a = cell_id c.in_ok-a.a in
    let u = merged_by c.make.new.self in
    let none = c.in_ok-a.ensures.0 in
    let make = c.in_ok-a.ensures.1 in
    let w = merged_by c.add_last_plain.new.self in
    let d = made_line p v u (merged_by c.add_last_plain.new.self) a Atom c.number_of.result c.args.f.arity none (λ e. new_apart v u a _ _ _ none make p.waiting inv.waiting (sym e)) make c.add_last_plain.ensures in
    let low = c.if-self-ge-BOUND.false in let sum = c.self.invariant.sum in
    let heap = made_atom_heap p k.table v w a c.number_of.result c.args.f.arity d inv c.number_of.ensures.range c.args.f c.number_of.ensures.back refl in
    let listed = (heap_sound p k.table v inv c.listed.ensures c.paired.ensures (merged_formed k.web)).listed in
    record {
      atoms = c.self.invariant.atoms + 1;
      mems = c.self.invariant.mems;
      sum = omega (arith, sum);
      store = record {
        stored = atom_stored p k.table v w a c.number_of.result c.args.f.arity d inv c.number_of.ensures.range;
        counts = made_atom_counts p k.table v w a c.number_of.result c.args.f.arity d inv c.number_of.ensures.range c.args.f c.number_of.ensures.back refl _ _ _ (omega (arith, low, sum)) c.self.invariant.store.counts;
      };
      index = index_same _ _ _ _ c.self.invariant.index (key_of w) (heap_by p k.table w) refl (λ m. ap (λ (h : Heap). seen_by (h.mems m)) heap) (made_key p v w a Atom c.number_of.result c.args.f.arity d k.table) (λ m y i. made_key p v w a Atom c.number_of.result c.args.f.arity d k.table y (members (heap_by p k.table v) listed m y i));
    }

pub returns-clause-ok : goal.returns-clause-ok
returns-clause-ok c =
    let k = kept_by c.self.inside in
    let p = k.posts in
    let v = merged_by k.web in
    let inv = c.self.invariant.store.stored in
    let a = cell_id c.in_ok-a.a in
    let u = merged_by c.make.new.self in
    let none = c.in_ok-a.ensures.0 in
    let make = c.in_ok-a.ensures.1 in
    let w = merged_by c.add_last_plain.new.self in
    let d = made_line p v u (merged_by c.add_last_plain.new.self) a Atom c.number_of.result c.args.f.arity none (λ e. new_apart v u a _ _ _ none make p.waiting inv.waiting (sym e)) make c.add_last_plain.ensures in
    made_atom_heap p k.table v w a c.number_of.result c.args.f.arity d inv c.number_of.ensures.range c.args.f c.number_of.ensures.back refl
    ∙ ap (λ (z : KeptWeb). made_atom (heap_of z) a c.args.f) c.self.view_is
