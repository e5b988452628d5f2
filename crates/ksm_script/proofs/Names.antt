-- The definitions, and the laws of the libraries and crates below, by their names, for proofs.
pub use Rattle.frame_table.specs.Lookup.{IsVacant, ReaderLog}
pub use Rattle.frame_table.specs.Named.{HeldView, PassView, TableName}
pub use Rattle.frame_table.specs.Seats.{new_pass}
pub use Rattle.frame_table.specs.declared.pass.Why.TheVariants.{Vacant}
pub use Rattle.ksm_audit.proofs.Callers.{as_many_back, still_own}
pub use Rattle.ksm_audit.proofs.Reporting.{zip_from}
pub use Rattle.ksm_audit.specs.Answered.{Audited}
pub use Rattle.ksm_audit.specs.Lookups.{word_loads}
pub use Rattle.ksm_audit.specs.declared.report.Row.{Row}
pub use Rattle.ksm_base.specs.Answers.{Answer, IsAnswerOrMemory}
pub use Rattle.ksm_base.specs.Counting.{counters_of}
pub use Rattle.ksm_base.specs.Journal.{journal_after, replay}
pub use Rattle.ksm_base.specs.State.{opening}
pub use Rattle.ksm_base.specs.Values.{frames_of}
pub use Rattle.ksm_base.specs.declared.command.Command.{Command}
pub use Rattle.ksm_base.specs.declared.fault.Fault.TheVariants.{BadNode, BadValue, Memory, NotRunning, UnknownPage, UnknownPlace}
pub use Rattle.ksm_base.specs.declared.page.TheConstants.{PAGE_WORDS}
pub use Rattle.ksm_lines.proofs.Hex.{passes_at, passes_below}
pub use Rattle.ksm_lines.proofs.Lanes.{agrees}
pub use Rattle.ksm_lines.proofs.Lines.{some_is}
pub use Rattle.ksm_lines.specs.Grammar.{IsNoLine, Writes}
pub use Rattle.ksm_lines.specs.Leading.{BeginsWith}
pub use Rattle.ksm_lines.specs.declared.line.Line.{Line}
pub use Rattle.ksm_lines.specs.declared.line.Line.TheVariants.{Empty}
pub use Rattle.ksm_lines.specs.declared.line.LineFault.{LineFault}
pub use Rattle.ksm_lines.specs.declared.line.LineFault.TheVariants.{Bad}
pub use Rattle.ksm_script.specs.Answering.{Answers, commanded, Commands, KeepsBook, reply_text, reply_to}
pub use Rattle.ksm_script.specs.Dialogue.{BreaksOff, Dialogue, HasReplied, IsWithin, silent, Talks, took, waited}
pub use Rattle.ksm_script.specs.Going.{AtOnce, end_at, GoesOn, IsDone, IsReplied, IsSoFar}
pub use Rattle.ksm_script.specs.Input.{EndsAs, IsPlain}
pub use Rattle.ksm_script.specs.LastLine.{EndsBad, EndsOpen}
pub use Rattle.ksm_script.specs.Lookups.{Acts, AuditedBy, DoesAt, EndsIdle, Found, GivesUp, HoldsStill, idle_of, IsIdle, LooksAt, table_of}
pub use Rattle.ksm_script.specs.Replies.{counted_text, counters_text, held_text, mapper_text, row_text, stopped_text, text_of}
pub use Rattle.ksm_script.specs.Said.{BreaksText, IsSaid, WritesReply, WritesText}
pub use Rattle.ksm_script.specs.Script.{Answered, AnsweredAll, AnsweredLast, AnsweredToBad, CarriesOut, Goes, IsBad, IsReadAs, more, none, ReadFor, streams}
pub use Rattle.ksm_script.specs.Seen.{script_of, SessionView}
pub use Rattle.ksm_script.specs.Slots.{ActsAt, AreThere, emptied, gaps, InBoth, present, refilled}
pub use Rattle.ksm_script.specs.State.{ScriptState}
pub use Rattle.ksm_script.specs.Takes.{Came, Extends, Takes, TakesForm, Took}
pub use Rattle.ksm_script.specs.Texts.{AppendsBroken, AppendsPart, byte_digits, content_text, word_digits}
pub use Rattle.ksm_script.specs.Worked.{at, both_hold, CommandLines, full, LookupLines, merged, one_holds, register, shape, start}
pub use Rattle.ksm_script.specs.declared.input.LineEnd.{LineEnd}
pub use Rattle.ksm_script.specs.declared.input.LineEnd.TheVariants.{Input, Newline, TooLong}
pub use Rattle.ksm_script.specs.declared.pass_state.PassState.{PassState}
pub use Rattle.ksm_script.specs.declared.pass_state.PassState.TheVariants.{Holding, Idle}
pub use Rattle.ksm_script.specs.declared.refusal.Refusal.TheVariants.{Book, NoPass}
pub use Rattle.ksm_script.specs.declared.reply.LineReply.{LineReply}
pub use Rattle.ksm_script.specs.declared.reply.LineReply.TheVariants.{Audit, BadLine as bad_line, Content, Counters, Done, Gone, Held, Pruned, Refused, Scanned, Unmerged}
pub use Rattle.ksm_script.specs.declared.script.End.{End}
pub use Rattle.ksm_script.specs.declared.script.End.TheVariants.{AllRead, BadLine}
pub use Rattle.ksm_script.specs.declared.script.RunFault.{RunFault}
pub use Rattle.ksm_script.specs.declared.script.RunFault.TheVariants.{Read, Write}
pub use Rattle.ksm_shared.proofs.Extended.{new_journal}
pub use Rattle.ksm_shared.specs.Locked.{fresh, made_by, SeesOn, state_seen, StepsAlone}
pub use Rattle.ksm_shared.specs.Named.{PartsId}
pub use Rattle.ksm_shared.specs.Seen.{caller, entries}
pub use Rattle.ksm_shared.specs.declared.seen.Caller.{Caller}
pub use Rattle.ksm_shared.specs.declared.seen.Owned.{Owned}
pub use Rattle.memchr.specs.Find.{is_byte, Nowhere, Passes}
pub use Rattle.std.proofs.Common.{[], All, ap, append_assoc, ap₂, arith, Bool, cond, drop, eqb, Err, false, Fits, get_or, IfErr, inl, inr, length, length-append, length-drop, length-set, List, map}
pub use Rattle.std.proofs.Common.{None, Ok, Option, refl, Result, rules, set, Some, subst, suc, sym, take, take-append-drop, take-take, true, vec_capacity, vec_len, w64, w8, zero, zero-le, ℕ, ⊎_elim}
pub use Rattle.std.proofs.Common.{◌%◌, ◌*◌, ◌++◌, ◌+◌, ◌-◌, ◌/◌, ◌<◌, ◌==◌, ◌^◌, ◌∙◌, ◌∷◌, ◌≡◌, ◌≢◌, ◌≤◌, ◌⊎◌}
pub use Rattle.std.proofs.KnownBytes.{Appends-kept, Appends-nil, Appends-trans, Consumes-nil, Consumes-trans, Keeps-refl, Keeps-trans}
pub use Rattle.std.proofs.Math.Seq.{take-add}
pub use Rattle.std.proofs.lemmas.Bool.{eq-eqb, eqb-true}
pub use Rattle.std.proofs.lemmas.Option.{get_or_from_slice_get, slice_get-get_or, slice_get_within}
pub use Rattle.std.proofs.lemmas.Fmt.{length-decimal-le}
pub use Rattle.std.proofs.lemmas.List.{append-nil, ext_get_or, get_or-map, get_or-set_same, get_or-take, get_or_default, length-map, length-replicate, length-take, map-append, map-set}
pub use Rattle.std.proofs.lemmas.List.{nil_from_length, set-set, take_all, take_min, take_more, take_more_set, take_rest}
pub use Rattle.std.proofs.lemmas.List.Concat.{flat_map-append}
pub use Rattle.std.proofs.lemmas.List.Elements.{All-append, All-cons, All-get_or, All-head, All-map, All-nil, All-replicate, All-set, All-tail}
pub use Rattle.std.proofs.lemmas.List.Folds.{flat_map-map}
pub use Rattle.std.proofs.lemmas.Simd.{Each1-from_get_or, get_or-swz_l_below, length-swz_l, SwzOk-from_below, zip2_splat}
pub use Rattle.std.specs.Bool.{then_some}
pub use Rattle.std.specs.Fmt.{digit_glyph}
pub use Rattle.std.specs.Int.{to_le_bytes}
pub use Rattle.std.specs.Io.Buffered.{reader_buffer, reader_remaining}
pub use Rattle.std.specs.Io.KnownBytes.{Appends, Consumes, IsAtEnd, Keeps, prepend_known}
pub use Rattle.std.specs.List.{AllZip, flat_map}
pub use Rattle.std.specs.Prelude.{codes, decimal, IfOk, if◌then◌else◌, IsErrAnd, IsSomeAnd, IsTrue, replicate, slice_get, ◌↔◌}
pub use Rattle.std.specs.Result.{result_and}
pub use borrow.Rule.Simd.Lanes.{act2}
pub use borrow.Table.Row.{s_int}
pub use denote.Enum.Bare.{sameb}
pub use lib.Lanes.{Each1, pick_l, zip2}
pub use lib.Seq.{take-append_seam}
pub use mir.Syntax.{bit_and, shr, unsigned}
