use Rattle.ksm_book.proofs.Names.{arith}
use Rattle.ksm_book.proofs.Sharing.{has_remounted, may_freeze, may_mount, stays}
use Rattle.ksm_book.proofs.Laying.{turned}
use Rattle.ksm_book.proofs.moving.remount.Goals as goal

pub returns-in_default : goal.returns-in_default
returns-in_default c = grind (arith, turned c.requires.may.laid c.in_default.ensures)

pub freeze-requires-clause-may : goal.freeze-requires-clause-may
freeze-requires-clause-may c =
    may_freeze c.requires.may c.dup_frame-left.ensures c.lie_in_order.ensures.absent c.in-Some.ensures

pub base-items-requires : goal.base-items-requires
base-items-requires c =
    (may_freeze c.requires.may c.dup_frame-left.ensures c.lie_in_order.ensures.absent c.in-Some.ensures).0

pub returns-then-not-freeze : goal.returns-then-not-freeze
returns-then-not-freeze c =
    stays c.requires.may c.dup_frame-left.ensures c.lie_in_order.ensures.absent c.in-Some.ensures _
    c.freeze.ensures.1 (λ e. absurd (grind (arith, c.freeze.ensures.2.1 e)))

pub mount-requires-clause-may : goal.mount-requires-clause-may
mount-requires-clause-may c =
    may_mount c.requires.may c.dup_frame-left.ensures c.lie_in_order.ensures.absent c.in-Some.ensures _
    c.freeze.ensures.1 (c.freeze.ensures.2.0 c.if-not-freeze.false) c.base-items.ensures

pub returns : goal.returns
returns c =
    has_remounted c.requires.may c.dup_frame-left.ensures c.lie_in_order.ensures.absent c.in-Some.ensures _
    c.freeze.ensures.1 (c.freeze.ensures.2.0 c.if-not-freeze.false) c.base-items.ensures c.mount.ensures.made
    c.mount.ensures.ledger _ c.set_dup_frame.ensures
