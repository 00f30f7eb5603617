-- The names of the toolchain's logic that the proofs by hand of these crates use.
pub use mathlib.Core.Path.{◌≡◌, refl, sym, ap, ◌∙◌}
pub use Prim.Native.Nat.{ℕ, ◌+◌, ◌-◌, ◌*◌, ◌^◌, ◌<◌, ◌≤◌}
pub use mathlib.Core.List.{List, [], ◌∷◌, ◌++◌, map}
pub use lib.ListN.{length, take}
pub use seplogic.Ra.Ura.{Ura}
pub use mir.Syntax.{Callee, Place, Opd, Body, Lifetime, a_type, named, erased, dcons, dnil, seq, call, w8, w64}
pub use mir.MapTy.{inst_fn}
pub use mir.Val.{Val, vint, vptr, vunit, vstruct, vcons, vnil}
pub use base.Fraction.{full_share}
pub use base.Fml.{Fml, Lft, GName, Share, ftrue, fsep, flft, fobs, fbor}
pub use base.Logic.{SProp, ent, sep, emp, id⊢}
pub use prog.Wp.{Env, Calls, Loops}
pub use prog.Memory.{Memory}
pub use prog.Routine.{Routine}
pub use contract.Lifetimes.{toks}
pub use contract.Monad.{Fun, fact, fact_i}
pub use contract.Running.{tables}
pub use sound.WpLaws.{FmC}
pub use types.Logic.{Logic, sem}
pub use types.Kit.{Item, Post, Goal, Soaks, Seq, Step, step, runs, lands, ‵, raw, given, ◌⊛◌, some, later, ◌$◌, ◌∵◌, ! }
pub use types.Kit.{qed, done, move, keep, drop, split}
pub use types.Kit.{split3, join, fsplit, fsplit3, fjoin, fjoin3, fpick, fpack, feq_i, feq_l, flt_i, flt_l, use0, use1}
pub use types.Kit.{use2, use3, learn, group, await, pick}
pub use types.Kit.{suffices, frame, rewrite}
pub use types.Tokens.{lft_new, lft_end}
pub use types.Part.{whole, sub, agg}
pub use types.Run.{Opds, enter, stop, fld, hop, from, addr, unit_lit, of_opd, and_then, no_more, returns}
pub use types.ByLocal.{alloc_all, pass_all, free_all, look_at, look_in_at, get, get_in, sets, lands_as}
pub use types.SemTy.{Body as Held, Arr, cells}
pub use denote.Builtin.{u8, u64, usize}
pub use denote.Exit.{yes, no, left}
pub use denote.Memory.{mem}
pub use denote.Param.{bounded, copied, param}
pub use denote.Param.Laws.{copied_laws}
pub use denote.Plain.{uint_vals, uint_Tells}
pub use denote.RattleType.{RattleType, owns}
pub use denote.Ref.{MutBor, MutRef, ShrRef, mut_vals, mut_Tells, shr_vals, shr_Tells}
pub use denote.Signature.{plain, mut_slice_of, shr_ref_to, shr_slice_of}
pub use denote.Slice.{MutSlice, ShrSlice, Room, slice_val, mut_slice_vals, mut_slice_Tells, shr_slice_vals}
pub use denote.Slice.{shr_slice_Tells}
pub use denote.Steps.{nothing, opens, closes, heard, only}
pub use denote.Triple.Call.{calls_at}
pub use denote.Triple.Clauses.{lasts}
pub use denote.Triple.Spec.{triple_of}
pub use denote.Triple.Statement.{Triple, Contract}
pub use denote.Triple.Table.{framed}
pub use denote.Triple.Walked.{says, Stays, stay_dropped, stay_ref, ends_at, Goes-dropped, Goes-spent_slice, Goes-ref}
pub use Rattle.std.proofs.raw_atomic.Walks.{proved}
