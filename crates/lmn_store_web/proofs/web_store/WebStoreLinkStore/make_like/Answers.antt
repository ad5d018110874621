use Rattle.std.proofs.Common.{◌≡◌, ◌+◌, Some, None, subst, sym, ap, ◌∙◌, refl, ℕ, inl, arith}
use Rattle.std.specs.Prelude.{Option}
use Rattle.std.specs.Option.{option_and_then}
use Rattle.lmn_base.proofs.Lists.{on_err}
use Rattle.lmn_base.specs.declared.functor.Functor.{Functor}
use Rattle.lmn_store_heap.specs.Heap.{IsAtom, functor_of, made_atom}
use Rattle.lmn_store_counts.specs.Counts.{HasCounts}
use Rattle.lmn_web_cells.specs.CellIds.{cell_id}
use Rattle.lmn_web.specs.declared.kind.CellKind.TheVariants.{Atom, Membrane}
use Rattle.lmn_web.specs.Webs.{WebCell}
use Rattle.lmn_web_merging.specs.Keepers.{merged_by}
use Rattle.lmn_store_web.specs.WebHeaps.{KeptWeb, heap_of, heap_by, atom_by, if_atom, atoms_of, mems_of}
use Rattle.lmn_store_web.specs.Labels.{label_by}
use Rattle.lmn_store_web.specs.WebStores.{IsStored, kept_by}
use Rattle.lmn_store_web.proofs.LabelLemmas.{number_class}
use Rattle.lmn_store_web.proofs.ReadLemmas.{atom_there, functor_is}
use Rattle.lmn_store_web.proofs.MakeLemmas.{new_there, new_kind, new_homeless, new_apart, old_kind, old_files, old_mark, made_line, atom_stored, made_atom_heap, made_atom_counts}
use Rattle.lmn_store_heap.specs.Heap.{Heap}
use Rattle.lmn_web.specs.Webs.{web_label}
use Rattle.lmn_store_web.specs.Indexes.{key_of}
use Rattle.lmn_store_web.proofs.SoundLemmas.{heap_sound, merged_formed}
use Rattle.lmn_store_web.proofs.MemLists.{seen_by}
use Rattle.lmn_store_web.proofs.MakeLemmas.{made_key}
use Rattle.lmn_store_web.proofs.IndexLemmas.{index_by, index_same, key_by}
use Rattle.lmn_store_web.proofs.web_store.WebStoreLinkStore.make_like.Goals as goal
use Rattle.lmn_store_heap.proofs.Common.{listed_mem as members}

pub make-requires : goal.make-requires
make-requires c =
    let k = kept_by c.self.inside in
    let p = k.posts in
    let v = merged_by k.web in
    let inv = c.self.invariant.store.stored in
    let old = cell_id c.args.a in
    let there = atom_there p k.table v old (subst (λ (z : KeptWeb). IsAtom (heap_of z) old) (sym c.self.view_is) c.requires) in
    record { ports = λ e. absurd (let z : Atom ≡ Membrane = e in cc); class = number_class _ _ (inv.labels old c.label-label.result there.1 c.label-label.ensures) }

pub add_last_plain-requires-clause-plain : goal.add_last_plain-requires-clause-plain
add_last_plain-requires-clause-plain c =
    let k = kept_by c.self.inside in
    let p = k.posts in
    let v = merged_by k.web in
    let inv = c.self.invariant.store.stored in
    let a = cell_id c.in_ok-copy.copy in
    let u = merged_by c.make.new.self in
    let none = c.in_ok-copy.ensures.0 in
    let make = c.in_ok-copy.ensures.1 in
    old_mark v u a _ _ _ none make p.waiting inv.waiting ∙ inv.plain p.waiting inv.waiting (inl refl)

pub add_last_plain-requires-clause-files : goal.add_last_plain-requires-clause-files
add_last_plain-requires-clause-files c =
    let k = kept_by c.self.inside in
    let inv = c.self.invariant.store.stored in
    old_files (merged_by k.web) (merged_by c.make.new.self) (cell_id c.in_ok-copy.copy) _ _ _ c.in_ok-copy.ensures.0 c.in_ok-copy.ensures.1 k.posts.waiting inv.waiting (inv.files k.posts.waiting (inl refl))

pub add_last_plain-requires-clause-kind : goal.add_last_plain-requires-clause-kind
add_last_plain-requires-clause-kind c =
    let k = kept_by c.self.inside in
    let p = k.posts in
    let v = merged_by k.web in
    let inv = c.self.invariant.store.stored in
    let a = cell_id c.in_ok-copy.copy in
    let u = merged_by c.make.new.self in
    let none = c.in_ok-copy.ensures.0 in
    let make = c.in_ok-copy.ensures.1 in
    new_kind v u a _ _ _ none make

pub add_last_plain-requires-clause-there : goal.add_last_plain-requires-clause-there
add_last_plain-requires-clause-there c =
    let k = kept_by c.self.inside in
    let p = k.posts in
    let v = merged_by k.web in
    let inv = c.self.invariant.store.stored in
    let a = cell_id c.in_ok-copy.copy in
    let u = merged_by c.make.new.self in
    let none = c.in_ok-copy.ensures.0 in
    let make = c.in_ok-copy.ensures.1 in
    new_there v u a _ _ _ none make

pub add_last_plain-requires-clause-homeless : goal.add_last_plain-requires-clause-homeless
add_last_plain-requires-clause-homeless c =
    let k = kept_by c.self.inside in
    let p = k.posts in
    let v = merged_by k.web in
    let inv = c.self.invariant.store.stored in
    let a = cell_id c.in_ok-copy.copy in
    let u = merged_by c.make.new.self in
    let none = c.in_ok-copy.ensures.0 in
    let make = c.in_ok-copy.ensures.1 in
    new_homeless v u a _ _ _ none make

pub add_last_plain-requires-clause-membrane : goal.add_last_plain-requires-clause-membrane
add_last_plain-requires-clause-membrane c =
    let k = kept_by c.self.inside in
    let p = k.posts in
    let v = merged_by k.web in
    let inv = c.self.invariant.store.stored in
    let a = cell_id c.in_ok-copy.copy in
    let u = merged_by c.make.new.self in
    let none = c.in_ok-copy.ensures.0 in
    let make = c.in_ok-copy.ensures.1 in
    old_kind v u a _ _ _ none make p.waiting inv.waiting

pub add_last_plain-requires-clause-differ : goal.add_last_plain-requires-clause-differ
add_last_plain-requires-clause-differ c =
    let k = kept_by c.self.inside in
    let p = k.posts in
    let v = merged_by k.web in
    let inv = c.self.invariant.store.stored in
    let a = cell_id c.in_ok-copy.copy in
    let u = merged_by c.make.new.self in
    let none = c.in_ok-copy.ensures.0 in
    let make = c.in_ok-copy.ensures.1 in
    new_apart v u a _ _ _ none make p.waiting inv.waiting

pub invariant_of-self : goal.invariant_of-self
invariant_of-self c =
    let k = kept_by c.self.inside in
    let p = k.posts in
    let v = merged_by k.web in
    let inv = c.self.invariant.store.stored in
    record {
      atoms = c.self.invariant.atoms;
      mems = c.self.invariant.mems;
      sum = c.self.invariant.sum;
      store = record {
        stored = subst (λ (f : ℕ → Option WebCell). IsStored p k.table f) (sym c.in_err-copy.ensures) inv;
        counts = subst (λ (f : ℕ → Option WebCell). HasCounts (atoms_of p f) (mems_of p k.table f) c.self.invariant.atoms c.self.invariant.mems c.self.inside.spare_count) (sym c.in_err-copy.ensures) c.self.invariant.store.counts;
      };
      index = index_by _ _ _ _ (heap_by p k.table v) (heap_by p k.table (merged_by c.make.new.self)) (λ m. key_by v (merged_by c.make.new.self) m (ap (λ (f : ℕ → Option WebCell). web_label f m) c.in_err-copy.ensures)) (ap (λ (f : ℕ → Option WebCell). heap_by p k.table f) c.in_err-copy.ensures) c.self.invariant.index;
    }

pub returns-in_err-copy-clause-err : goal.returns-in_err-copy-clause-err
returns-in_err-copy-clause-err c =
    let k = kept_by c.self.inside in
    let p = k.posts in
    let v = merged_by k.web in
    let inv = c.self.invariant.store.stored in
    on_err _ _ (ap (λ (f : ℕ → Option WebCell). heap_by p k.table f) c.in_err-copy.ensures ∙ ap (λ (z : KeptWeb). heap_of z) c.self.view_is)

pub invariant_of-self-2 : goal.invariant_of-self-2
invariant_of-self-2 c =
    let k = kept_by c.self.inside in
    let p = k.posts in
    let v = merged_by k.web in
    let inv = c.self.invariant.store.stored in
    let old = cell_id c.args.a in
    let there = atom_there p k.table v old (subst (λ (z : KeptWeb). IsAtom (heap_of z) old) (sym c.self.view_is) c.requires) in
    let range = inv.labels old c.label-label.result there.1 c.label-label.ensures in
    let f : Functor = record { label = label_by c.label-label.result; arity = c.arity-arity.result } in
    let a = cell_id c.in_ok-copy.copy in
    let u = merged_by c.make.new.self in
    let none = c.in_ok-copy.ensures.0 in
    let make = c.in_ok-copy.ensures.1 in
    let w = merged_by c.add_last_plain.new.self in
    let d = made_line p v u (merged_by c.add_last_plain.new.self) a Atom c.label-label.result c.arity-arity.result none (λ e. new_apart v u a _ _ _ none make p.waiting inv.waiting (sym e)) make c.add_last_plain.ensures in
    let low = c.if-self-ge-BOUND.false in let sum = c.self.invariant.sum in
    let heap = made_atom_heap p k.table v w a c.label-label.result c.arity-arity.result d inv range f refl refl in
    let listed = (heap_sound p k.table v inv c.listed.ensures c.paired.ensures (merged_formed k.web)).listed in
    record {
      atoms = c.self.invariant.atoms + 1;
      mems = c.self.invariant.mems;
      sum = omega (arith, sum);
      store = record {
        stored = atom_stored p k.table v w a c.label-label.result c.arity-arity.result d inv range;
        counts = made_atom_counts p k.table v w a c.label-label.result c.arity-arity.result d inv range f refl refl _ _ _ (omega (arith, low, sum)) c.self.invariant.store.counts;
      };
      index = index_same _ _ _ _ c.self.invariant.index (key_of w) (heap_by p k.table w) refl (λ m. ap (λ (h : Heap). seen_by (h.mems m)) heap) (made_key p v w a Atom c.label-label.result c.arity-arity.result d k.table) (λ m y i. made_key p v w a Atom c.label-label.result c.arity-arity.result d k.table y (members (heap_by p k.table v) listed m y i));
    }

pub returns-clause-ok : goal.returns-clause-ok
returns-clause-ok c =
    let k = kept_by c.self.inside in
    let p = k.posts in
    let v = merged_by k.web in
    let inv = c.self.invariant.store.stored in
    let old = cell_id c.args.a in
    let there = atom_there p k.table v old (subst (λ (z : KeptWeb). IsAtom (heap_of z) old) (sym c.self.view_is) c.requires) in
    let range = inv.labels old c.label-label.result there.1 c.label-label.ensures in
    let f : Functor = record { label = label_by c.label-label.result; arity = c.arity-arity.result } in
    let a = cell_id c.in_ok-copy.copy in
    let u = merged_by c.make.new.self in
    let none = c.in_ok-copy.ensures.0 in
    let make = c.in_ok-copy.ensures.1 in
    let w = merged_by c.add_last_plain.new.self in
    let d = made_line p v u (merged_by c.add_last_plain.new.self) a Atom c.label-label.result c.arity-arity.result none (λ e. new_apart v u a _ _ _ none make p.waiting inv.waiting (sym e)) make c.add_last_plain.ensures in (
      f,
      subst (λ (z : KeptWeb). functor_of (heap_of z) old ≡ Some f) c.self.view_is (functor_is p k.table v old there.1 c.label-label.result c.arity-arity.result f c.label-label.ensures c.arity-arity.ensures refl),
      made_atom_heap p k.table v w a c.label-label.result c.arity-arity.result d inv range f refl refl ∙ ap (λ (z : KeptWeb). made_atom (heap_of z) a f) c.self.view_is,
    )

pub label-label-requires : goal.label-label-requires
label-label-requires c =
    let a = cell_id c.args.a in let k = kept_by c.self.inside in
    (atom_there k.posts k.table (merged_by k.web) a (subst (λ (z : KeptWeb). IsAtom (heap_of z) a) (sym c.self.view_is) c.requires)).0

pub arity-arity-requires-clause-there : goal.arity-arity-requires-clause-there
arity-arity-requires-clause-there c =
    let a = cell_id c.args.a in let k = kept_by c.self.inside in
    (atom_there k.posts k.table (merged_by k.web) a (subst (λ (z : KeptWeb). IsAtom (heap_of z) a) (sym c.self.view_is) c.requires)).0

pub arity-arity-requires-clause-atom : goal.arity-arity-requires-clause-atom
arity-arity-requires-clause-atom c =
    let a = cell_id c.args.a in let k = kept_by c.self.inside in
    (atom_there k.posts k.table (merged_by k.web) a (subst (λ (z : KeptWeb). IsAtom (heap_of z) a) (sym c.self.view_is) c.requires)).1

pub returns-clause-fresh : goal.returns-clause-fresh
returns-clause-fresh c =
    let p = (kept_by c.self.inside).posts in
    subst (λ (z : KeptWeb). atoms_of z.posts (merged_by z.web) (cell_id c.in_ok-copy.copy) ≡ None) c.self.view_is
    (ap (λ (o : Option WebCell). option_and_then (λ (x : WebCell). if_atom x.kind (atom_by p x)) o) c.in_ok-copy.ensures.0)
