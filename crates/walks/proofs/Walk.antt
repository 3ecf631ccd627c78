-- The names that the walks share, so that each has one line for them. Assumes nothing.
pub use mathlib.Core.Path.{◌≡◌, refl, ap, subst}
pub use Prim.Native.Nat.{ℕ, ◌<◌, ◌^◌, suc}
pub use mathlib.Core.List.{[], ◌∷◌, List}
pub use lib.ListN.{length, drop as dropped}
pub use lib.Dec.{nltb→le}
pub use seplogic.Ra.Ura.{Ura}
pub use mir.Syntax.{named, erased, w64, Callee as Key, ty_unit, local, value_local, place, deref, copy, opd_unit, rv_opd, seq, assign, call, return, Fn, Ty, field, Opd as Operand}
pub use mir.Val.{Val, vint, vunit, Vals, vbool, vfloat, vptr, vcode, vstruct, vnil}
pub use base.Logic.{SProp, ent, id⊢, emp}
pub use base.Fml.{Lft, Share, Fml, ftrue, flft, fres, fsep}
pub use prog.Memory.{Memory, field_of}
pub use prog.Routine.{Routine, Env as Routines}
pub use prog.Wp.{Heap, Calls, Loops, WpFn, Env, Closed}
pub use contract.Monad.{Fun, fact}
pub use contract.Running.{tables, Running}
pub use types.Kit.{Item, ‵, raw, ◌⊛◌, ⋆, ◌$◌, ◌∵◌, !, qed, by, move, keep, drop, use1, split, join, fsplit, fsplit3, fjoin, fjoin3, feq_i, suffices, frame, done, split3, Go}
pub use types.Run.{look, look_raw, init, store_raw, stop, hop, fld, from, load, lit, addr, of_opd, bin, unit_lit, and_then, no_more, assigns, land, returns, enter, alloc1, alloc0, params1, pass1, pass0, free0, Opd as Reading}
pub use types.Part.{agg, whole, sub, look_in}
pub use sound.WpLaws.{FmC}
pub use denote.RattleType.{owns, Denots, flat}
pub use denote.Laws.{Is, shows, Ises, Are}
pub use denote.Plain.{uint_Makes}
pub use denote.Builtin.{u8, usize, unit}
pub use denote.Ref.{Bor, MutBor, MutRef, shr_vals, mut_vals, mut_Tells, at_last}
pub use denote.Slice.{slice_val, shr_slice_vals, mut_slice_vals, MutSlice, ShrSlice, finally, mut_slice_Tells, shr_slice_Tells, mut_slice_Lawful, shr_slice_Lawful, shr_slice_copy}
pub use denote.Steps.{owned, peeks, heard, nothing}
pub use denote.Triple.Entry.{on_entry}
pub use denote.Triple.Spec.{triple_of, Meets}
pub use denote.Triple.Statement.{Contract, Triple}
pub use denote.Triple.Call.{calls_at}
pub use denote.Triple.Table.{cited}
pub use denote.Triple.Walked.{says, Stays, stay_ref, stay_dropped, gave_ref, gave_slice, walk_of, Goes-ref, Goes-dropped, Goes-gave_ref, Goes-gave_slice, ends_at}
pub use denote.Exit.{yes}
pub use denote.Signature.{Slot, plain, shr_slice_of}
pub use Rattle.walks.proofs.Steps.{ptr_of, read_ptr_of, slice_of, read_slice_of, lent, opened, closed, as_long, answered, told, assigns_if, freed, asks, proves}
pub use prog.Model.{Model}
pub use contract.Lifetimes.{Lfts, Shares, toks}
pub use denote.Struct.Declared.{row}
pub use denote.Triple.End.{all}
pub use denote.Triple.Clauses.{Clauses, Ended, closing}
pub use mathlib.Core.Option.{Option, some, none}
pub use mir.Fields.{get_v}
