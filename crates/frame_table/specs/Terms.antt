-- What the table and its core speak of, by name: limits, shapes, steps, kinds and notes of frames, lives, phases.
pub use Rattle.frame_core.specs.declared.event.Event.{Event}
pub use Rattle.frame_core.specs.declared.event.Event.TheVariants.{Keeper, Reader}
pub use Rattle.frame_core.specs.declared.event.KeeperStep.{KeeperStep}
pub use Rattle.frame_core.specs.declared.event.KeeperStep.TheVariants.{Add, Freeze, Open, Publish, Put, Raise, Reap, Replace, Sub, Withdraw, Word}
pub use Rattle.frame_core.specs.declared.event.ReaderStep.{ReaderStep}
pub use Rattle.frame_core.specs.declared.event.ReaderStep.TheVariants.{Exchange, Leave, LoadFrame, LoadPlace, LoadWord}
pub use Rattle.frame_core.specs.declared.frame.Kind.{Kind}
pub use Rattle.frame_core.specs.declared.frame.Kind.TheVariants.{Dying, Filling, Free, Stable}
pub use Rattle.frame_core.specs.declared.frame.TheConstants.{LINE_WORDS}
pub use Rattle.frame_core.specs.declared.ledger.Ledger.{Ledger}
pub use Rattle.frame_core.specs.declared.seat.Aim.{Aim}
pub use Rattle.frame_core.specs.declared.seat.Life.{Life}
pub use Rattle.frame_core.specs.declared.seat.Phase.{Phase}
pub use Rattle.frame_core.specs.declared.seat.Phase.TheVariants.{Counted, Held, Idle, Placed, Spent}
pub use Rattle.ksm_base.specs.Values.{IsShape, frames_of}
pub use Rattle.ksm_base.specs.declared.limits.TheConstants.{COUNT_SPAN, FRAME_WORDS, MOST_COUNT, MOST_FRAMES, MOST_LIVES, MOST_REFERENCES, PLACE_SPAN}
pub use Rattle.ksm_base.specs.declared.page.TheConstants.{PAGE_WORDS}
pub use Rattle.ksm_base.specs.declared.shape.Shape.{Shape}
