-- What the walks cite. Assumes `Logic`.
pub use Rattle.std.proofs.Common.{◌≡◌, ℕ, ◌+◌, ◌*◌, ◌^◌, ◌<◌, ◌≤◌, List, [], ◌∷◌, ◌++◌, length, get_or, set, replicate, Option, Some, None, refl, sym, ap, ◌∙◌, subst, lit<, nltb→le, w8, w32, w64, MutBor, arith}
pub use Rattle.std.proofs.raw_atomic.Walks.{proved}
pub use seplogic.Ra.Ura.{Ura}
pub use base.Fraction.{full_share}
pub use base.Logic.{SProp, ent, sep, wand, all, all_e, apply∗, id⊢, emp, fst∗, snd∗, via}
pub use base.Fml.{Lft, Share, Fml, ftrue, fsep, fat, froom, flft, fres}
pub use mir.Syntax.{Ty, ty_int, ty_ptr, ty_array, named}
pub use mir.Val.{Val, vunit, vint, vptr, vstruct, vcons, vnil}
pub use prog.Wp.{WpFn, Env}
pub use contract.Monad.{fact, fact_i}
pub use contract.Running.{tables}
pub use types.Logic.{Logic, sem}
pub use types.Kit.{Item as Entry, Goal, Seq, Soaks, Step, step, ‵, raw, ◌⊛◌, some, later, prop, at_ret, Sq, ◌$◌, ◌∵◌, !, qed, by, done, move, keep, drop, use0, use1, use2, use3, split, join, fsplit, fsplit3, fjoin, fjoin3, fpick, feq_i, feq_l, flt_i, flt_l, pick, await, rewrite, regoal, suffices, frame, group}
pub use types.Run.{enter, of_opd, lit, unit_lit, bin, addr, load, look, store, stop, fld, hop, no_more, and_then, assigns, assigns_last, init, first, blocks, branches, skips, exec, returns, returns_within, well_typed}
pub use types.ByLocal.{alloc_all, pass_all, free_all, look_at, get, through, sets, sets_last, lands_as, env}
pub use types.Part.{agg}
pub use denote.Builtin.{u8, u32, u64, usize, bool, unit, RefOf}
pub use denote.Exit.{yes, no}
pub use denote.Laws.{shows}
pub use denote.Memory.{cell_at, part_at, hidden_shr}
pub use denote.Opens.{hide, unhide, Shut}
pub use denote.Copied.{Copied, plain_Copied, uint_Copied}
pub use denote.Plain.{uint_in, uint_out, uint_Makes, uint_vals, uint_Tells, bool_vals, bool_Tells}
pub use denote.RattleType.{RattleType, owns}
pub use denote.RawPtr.{Ptr, RawPtr, block_ptr, block_of, count_of, ptr_val, coded_ptr, ptr_own, rawptr_pure, lies_at, in_a_block, rawptr_vals, rawptr_Tells, rawptr_Lawful}
pub use denote.Ref.{MutRef, ShrRef, mut_vals, mut_Tells, shr_vals, shr_Tells}
pub use denote.Signature.{plain, types_at}
pub use denote.Steps.{nothing, owned, opens, closes, tied, ties, heard, peeks, only, looks, shuts}
pub use denote.Struct.Laws.{RawPtr-laws}
pub use denote.Struct.Lending.{lent_at}
pub use denote.Triple.Call.{calls_at}
pub use denote.Triple.Clauses.{lasts}
pub use denote.Triple.Entry.{on_entry}
pub use denote.Triple.Spec.{triple_of}
pub use denote.Triple.Walked.{Stays, walk_of, says, stay_dropped, Goes-dropped, stay_ref, Goes-ref, ends_at}
pub use denote.Triple.Table.{framed}
pub use borrow.Table.OneValue.{part_in, part_out}
pub use Rattle.std.proofs.RcSteps.{Ptr-Good}
