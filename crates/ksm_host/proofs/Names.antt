-- The definitions, and the laws of the libraries and crates below, by their names, for proofs.
pub use Rattle.ksm_host.specs.Ends.{HasTalked, Serves}
pub use Rattle.ksm_host.specs.Sent.{Replies}
pub use Rattle.ksm_host.specs.Statuses.{status_after}
pub use Rattle.ksm_host.specs.declared.status.Status.TheVariants.{Broken}
pub use Rattle.ksm_script.specs.Dialogue.{Dialogue, HasReplied, RunTalks}
pub use Rattle.ksm_script.specs.Replies.{text_of}
pub use Rattle.ksm_script.specs.Script.{AnsweredAll, AnsweredLast, more, Runs, Streams}
pub use Rattle.ksm_script.specs.State.{ScriptState}
pub use Rattle.ksm_script.specs.Texts.{AppendsBroken, AppendsPart}
pub use Rattle.ksm_script.specs.declared.reply.LineReply.{LineReply}
pub use Rattle.ksm_script.specs.declared.reply.LineReply.TheVariants.{BadLine as bad_line}
pub use Rattle.ksm_script.specs.declared.script.End.{End}
pub use Rattle.ksm_script.specs.declared.script.End.TheVariants.{AllRead, BadLine}
pub use Rattle.ksm_script.specs.declared.script.RunFault.{RunFault}
pub use Rattle.ksm_script.specs.declared.script.RunFault.TheVariants.{Read, Write}
pub use Rattle.std.proofs.Common.{[], ap, append_assoc, Bool, Err, false, inl, inr, List, None, Ok, Option, refl, Result, Some, subst, true, ℕ, ◌++◌, ◌+◌, ◌∙◌, ◌∷◌, ◌≡◌}
pub use Rattle.std.proofs.KnownBytes.{Appends-kept}
pub use Rattle.std.proofs.lemmas.List.{append-nil}
pub use Rattle.std.specs.Io.Buffered.{writer_contents}
pub use Rattle.std.specs.Io.KnownBytes.{append_known, Appends, Keeps}
pub use Rattle.std.specs.Prelude.{OnOk}
