-- What opening and closing say, and how a pass is made and given back (own).
use Rattle.std.specs.Prelude.{◌≡◌, ℕ, ◌+◌, ◌-◌, ◌<◌, List, [], replicate, slice_index}
use Rattle.frame_table.specs.Terms.{Shape, frames_of, Ledger, Idle}
use Rattle.frame_core.specs.State.{place_word, count_in, life_in}
use Rattle.frame_core.specs.Words.{frame_word_at}
use Rattle.frame_core.specs.Ledger.{first_ledger, frame_at, named_at}
use Rattle.frame_table.specs.declared.view.View.{View}
use Rattle.frame_table.specs.declared.view.View.TheVariants.{Keeper, Reader}
use Rattle.frame_table.specs.Views.{shape_of, order_of, tally_of}
use Rattle.frame_table.specs.Orders.{later}
use Rattle.frame_table.specs.Named.{TableName, PassView, KeeperView, ClosedView}

-- a pass of the table that has made no step
abbrev pub new_pass : TableName → PassView
new_pass t = record { table = t; log = [] }

-- the keeper of the table, which has made no step
abbrev pub new_keeper : TableName → KeeperView
new_keeper t = record { table = t; ledger = first_ledger t.shape; log = [] }

-- a table of this shape with its keeper and a pass for each of `passes`, none of which has made a step
abbrev pub Opened : Shape → TableName → KeeperView → List PassView → Type 0
Opened sh t k ps = (t.shape ≡ sh) × (k ≡ new_keeper t) × (ps ≡ replicate sh.passes (new_pass t))

-- the keeper's view once one of the passes to come is made
abbrev pub one_more : View → View
one_more (Keeper sh ledger tally log order) = Keeper sh ledger (tally_of (tally.unmade - 1) (tally.out + 1)) log order
one_more v = v

-- the view of a pass that is made
abbrev pub newcomer : View → View
newcomer v = Reader (shape_of v) Idle [] []

-- the keeper's view once a pass is given back: it has seen what either has
abbrev pub one_less : View → View → View
one_less (Keeper sh ledger tally log order) w = Keeper sh ledger (tally_of tally.unmade (tally.out - 1)) log (later order (order_of w))
one_less v w = v

-- the words are those of the ledger, and each count is the keeper's own references
pub record Ends (k : Ledger) (c : ClosedView) : Type 0 where
  pub counts : (f : ℕ) → f < frames_of c.shape → count_in (slice_index c.words (frame_word_at (frames_of c.shape) f)) ≡ (frame_at k f).base
  pub generations : (f : ℕ) → f < frames_of c.shape → life_in (slice_index c.words (frame_word_at (frames_of c.shape) f)) ≡ (frame_at k f).generation
  pub places : (p : ℕ) → p < frames_of c.shape → slice_index c.words p ≡ place_word (named_at k p)
