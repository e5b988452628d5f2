use Rattle.std.proofs.Common.{◌∙◌}
use Rattle.ksm_lines.proofs.Words.{is_given}
use Rattle.ksm_lines.proofs.part.is_read.Goals as goal

pub returns-in-Guest : goal.returns-in-Guest
returns-in-Guest c = rw c.in-Guest.is (c.is_ok.ensures.value ∙ is_given _ _ c.guest_in.ensures)

pub returns-in-Content : goal.returns-in-Content
returns-in-Content c = rw c.in-Content.is (c.is_ok-in-Content.ensures.value ∙ is_given _ _ c.content_in.ensures)

pub returns-in-Knob : goal.returns-in-Knob
returns-in-Knob c = rw c.in-Knob.is (c.is_ok-in-Knob.ensures.value ∙ is_given _ _ c.knob_named.ensures)

pub returns-in-Shown : goal.returns-in-Shown
returns-in-Shown c = rw c.in-Shown.is (c.is_ok-in-Shown.ensures.value ∙ is_given _ _ c.shown_named.ensures)
