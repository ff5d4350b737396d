-- The words in which the proofs of this crate speak: those of std, of the crates below and of its own specs.
pub use Rattle.std.proofs.alloc.Calls.{Fits, Goes-blank, token, α}
pub use Rattle.std.proofs.slice.Lists.{any-default}
pub use Rattle.std.specs.declared.alloc.Allocator.{Ghosts}
pub use Rattle.std_alloc.proofs.BoxSteps.Form.{Bx, P, R, X, args, own, τ}
pub use Rattle.std_alloc.proofs.BoxSteps.Steps.{el_tells}
pub use Rattle.std_alloc.proofs.OfVacant.{Vacant, Vacant-had, Vacant-made, vacant_ty, vacant_typed, vacant_val}
pub use Rattle.std_alloc.proofs.Pairs.{pair_Typed, pair_of, pair_val}
pub use Rattle.std_alloc.proofs.RawLayout.{as_written}
pub use Rattle.std_alloc.proofs.RcSteps.{Good, Ptr-Good, word, word-Good}
pub use Rattle.std_alloc.proofs.VecSteps.Shapes.{after}
pub use Rattle.std_collections.proofs.ListMemory.Chained.{IsChained-cons, IsChained-had, IsChained-init, IsChained-join, IsChained-tail, head_is, link_at, next_is, place_of-is}
pub use Rattle.std_collections.proofs.ListMemory.Seen.{elem_at, link_lent_at, number_in, number_out, pointer_in, pointer_out}
pub use Rattle.std_collections.proofs.ListMemory.Shared.{Lends-nodes, chain_lent_laws}
pub use Rattle.std_collections.proofs.ListMemory.Steps.{Hd, Held, One, append_in, block_back, block_ty, cons_in, cons_out, node_made, node_unmade, node_val, one_closes, one_opens, snoc_in, snoc_out}
pub use Rattle.std_collections.proofs.ListMemory.Steps.{uncons, unsnoc, words}
pub use Rattle.std_collections.proofs.ListRuns.{cut_at}
pub use Rattle.std_collections.proofs.TreeMemory.Owned.{word_had, word_made}
pub use Rattle.std_collections.specs.LinkedList.Links.{IsChained, LeadsBack, LeadsBackTo, LeadsForward, Link, links_of, place_of}
pub use Rattle.std_collections.specs.LinkedList.Ownership.{elem_offset, elem_places, links_lent, spread_lent}
pub use Prim.Native.Nat.{suc, zero, ℕ, ◌+◌, ◌-◌, ◌<◌, ◌^◌, ◌≤◌}
pub use Rattle.cursor_list.specs.contracts.nodes.Nodes.link_first.Key.{name}
pub use Rattle.cursor_list.specs.declared.nodes.Nodes.{Nodes}
pub use Rattle.cursor_list.specs.declared.nodes.Place.{Place}
pub use Rattle.cursor_list.specs.machine.NodePlaces.{KeepsPlaces}
pub use base.Fml.{GName, Incl-trans, Lft, Share, fauth, fbor, flft, fobor, fobs, froom, ftrue}
pub use base.Fraction.{full_share}
pub use base.Logic.{SProp, emp, ent, fst∗, never, sep, via}
pub use base.Stored.{Gv}
pub use contract.BorrowLft.{meet_⊑_left}
pub use contract.Monad.{fact, fact_i}
pub use contract.Running.{tables}
pub use denote.Builtin.{RefMutOf, RefOf, unit, usize}
pub use denote.Exit.{no, yes}
pub use denote.Memory.{cell_at, hidden_shr, lone, mem, shared_of}
pub use denote.Opens.{hide, unhide}
pub use denote.Param.Laws.{Laws}
pub use denote.Param.Shared.{copy_shared}
pub use denote.RattleType.{RattleType, Valss, owns}
pub use denote.RawPtr.{Ptr, RawPtr, block_ptr, in_a_block, ptr_val, ◌+ₚ◌}
pub use denote.Ref.{Bor, MutBor, MutRef, ShrRef}
pub use denote.Signature.{plain}
pub use denote.Steps.{closes, nothing, opens}
pub use denote.Struct.Field.{RawPtr-field, usize-field}
pub use denote.Struct.Laws.{RawPtr-copy, usize-copy}
pub use denote.Struct.Lending.{lent_at, of_Lends}
pub use denote.Struct.Owning.{Owning, shape}
pub use denote.Struct.Struct.{as_fields, within}
pub use denote.Struct.Tuple.{Tuple}
pub use denote.Triple.Carry.{spared}
pub use denote.Triple.Clauses.{Clauses, Ended, closing}
pub use denote.Triple.Entry.{on_entry}
pub use denote.Triple.Spec.{Meets, triple_of}
pub use denote.Triple.Table.{entered, run_framed}
pub use denote.Triple.Walked.{Goes-dropped, Goes-ref, Stays, ends_at, needs, says, stay_dropped, stay_ref, walk_Meets, walk_of}
pub use lib.Dec.{lit<}
pub use lib.ListN.{get_or, length, length-append, length-drop, length-map, length-take, take}
pub use mathlib.Core.List.{List, [], append_assoc, map-append, ◌++◌, ◌∷◌}
pub use mathlib.Core.Path.{ap, refl, subst, sym, ◌∙◌, ◌≡◌}
pub use mir.MapTy.{inst_fn}
pub use mir.Syntax.{Fn, named, ty_ptr, w64}
pub use mir.Val.{Val, of_list, vint, vptr, vstruct, vunit}
pub use native.Mathlib.Omega.{arith}
pub use prog.Wp.{Calls, Env, Loops, Tables, WpFn}
pub use seplogic.Ra.Ura.{Ura}
pub use sound.WpLaws.{WpFn-mono}
pub use types.ByLocal.{alloc_all, env, free_all, get, get_in, is, look_at, pass_all, sets, sets_last, through}
pub use types.Kit.{ !, Goal, Item, Seq, Soaks, Step, at_ret, by, done, drop, feq_i, feq_l, fjoin, fjoin3, flt_i, flt_l, fpack, fpick, frame, fsplit, fsplit3, group, join, keep, move, prop, qed, raw}
pub use types.Kit.{rewrite, split, step, suffices, use0, use1, use2, ‵, ⋆, ◌$◌, ◌∵◌, ◌⊛◌}
pub use types.Logic.{Logic, sem}
pub use types.Part.{agg, look_in, store_in, sub, whole}
pub use types.Run.{addr, and_then, assigns, assigns_last, bin, blocks, enter, exec, first, fld, from, init, lit, load, look, no_more, of_opd, returns, stop, store, unit_lit}
pub use types.SemTy.{Body}
