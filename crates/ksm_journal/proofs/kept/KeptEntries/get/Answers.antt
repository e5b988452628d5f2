use Rattle.std.proofs.Common.{◌∙◌, sym, ap, rules, arith, Some}
use Rattle.std.proofs.lemmas.Option.{slice_get_past}
use Rattle.std.specs.Prelude.{slice_get}
use Rattle.ksm_base.specs.Journal.{Entry}
use Rattle.ksm_journal.specs.Coding.{KeptView, entries_of, entry_of}
use Rattle.ksm_journal.proofs.Entries.{entry_at, length_entries}
use Rattle.ksm_journal.proofs.kept.KeptEntries.get.Goals as goal

pub returns-then-number-len : goal.returns-then-number-len
returns-then-number-len c =
    let j = c.self.inside in
    let long = length_entries j.pages.items j.wholes.items j.codes.items j.answers.items c.self.invariant.0 in
    sym (slice_get_past (entries_of j.pages.items j.wholes.items j.codes.items j.answers.items) c.args.number (omega (arith, long)))
    ∙ ap (λ (v : KeptView). slice_get v.entries c.args.number) c.self.view_is

pub returns : goal.returns
returns c =
    let j = c.self.inside in
    ap (λ (e : Entry). Some e) c.entry.ensures
    ∙ (λ i. Some (entry_of (c.deref.ensures.value i) (c.deref-2.ensures.value i) c.index.result.now.kind c.index.result.now c.index-2.result.now))
    ∙ sym (entry_at j.pages.items j.wholes.items j.codes.items j.answers.items c.args.number c.index.result.now c.index-2.result.now c.self.invariant.0 (search rules) (search rules) (search rules))
    ∙ ap (λ (v : KeptView). slice_get v.entries c.args.number) c.self.view_is
