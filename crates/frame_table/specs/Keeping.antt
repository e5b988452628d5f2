-- What each step of the keeper tells its seat (own).
use Rattle.std.specs.Prelude.{◌≡◌, ℕ, Some, ◌+◌, ◌-◌, ◌%◌, ◌<◌, ◌≤◌, ◌==◌, cond, List, [], ◌∷◌, ◌++◌, slice_index}
use Rattle.atomic_table.specs.Seated.{TableId}
use Rattle.atomic_table.specs.Table.{Step}
use Rattle.frame_table.specs.Terms.{COUNT_SPAN, FRAME_WORDS, MOST_LIVES, MOST_REFERENCES, PAGE_WORDS, PLACE_SPAN, frames_of, Event, KeeperStep, Reap, Put, Raise, Open, Add, Sub, Publish, Replace}
use Rattle.frame_table.specs.Terms.{Withdraw, Freeze, Word, Ledger}
use Rattle.frame_core.specs.declared.event.Event.TheVariants as event
use Rattle.frame_core.specs.State.{place_word, frame_word, count_in, life_in}
use Rattle.frame_core.specs.Words.{frame_word_at, content_at}
use Rattle.frame_core.specs.Ledger.{MayStep, ledger_after, frame_at}
use Rattle.frame_table.specs.declared.view.View.{View}
use Rattle.frame_table.specs.declared.view.View.TheVariants.{Keeper}
use Rattle.frame_table.specs.Orders.{IsPresent}
use Rattle.frame_table.specs.Named.{TableName}
use Rattle.frame_table.specs.Views.{Sat, IsKeeper, shape_in, ledger_in, order_in}

-- the word that a step of the keeper works on, in a table of so many places
abbrev pub keeper_word : ℕ → KeeperStep → ℕ
keeper_word places (Reap f) = frame_word_at places f
keeper_word places (Put f i w) = content_at places f i
keeper_word places (Raise f) = frame_word_at places f
keeper_word places (Open f) = frame_word_at places f
keeper_word places (Add f) = frame_word_at places f
keeper_word places (Sub f) = frame_word_at places f
keeper_word places (Publish p f) = p
keeper_word places (Replace p f) = p
keeper_word places (Withdraw p) = p
keeper_word places (Freeze f) = frame_word_at places f
keeper_word places (Word f i) = content_at places f i

-- the word of a place that names the frame in its present life
abbrev pub word_of_frame : Ledger → ℕ → ℕ
word_of_frame k f = place_word (Some record { frame = f; generation = (frame_at k f).generation })

-- what a step of the keeper leaves there, where it found n
abbrev pub keeper_written : Ledger → KeeperStep → ℕ → ℕ
keeper_written k (Put f i w) n = w
keeper_written k (Raise f) n = n + COUNT_SPAN
keeper_written k (Open f) n = n + 1
keeper_written k (Add f) n = n + 1
keeper_written k (Sub f) n = n - 1
keeper_written k (Publish p f) n = word_of_frame k f
keeper_written k (Replace p f) n = word_of_frame k f
keeper_written k (Withdraw p) n = 0
keeper_written k (Freeze f) n = cond (n == frame_word (frame_at k f).generation (frame_at k f).base) (frame_word (frame_at k f).generation 0) n
keeper_written k _ n = n

-- what the keeper is told that it found: of a plain store, 0
abbrev pub found_by : KeeperStep → ℕ → ℕ
found_by (Put f i w) n = 0
found_by (Publish p f) n = 0
found_by (Replace p f) n = 0
found_by (Withdraw p) n = 0
found_by _ n = n

-- the view after a step: what the keeper knows then, one entry more in the log, and this order
abbrev pub keeper_after : KeeperStep → View → ℕ → List Event → View
keeper_after e (Keeper sh ledger tally log old) n order = Keeper sh (ledger_after sh ledger e n) tally (log ++ (e, n) ∷ []) order
keeper_after e v n order = v

-- what the rule says of the word that a step found: it is that of the ledger, where the keeper alone writes it
abbrev pub knows : Ledger → KeeperStep → ℕ → Type 0
knows ledger (Raise f) n = (n ≡ frame_word (frame_at ledger f).generation 0) × ((frame_at ledger f).generation < MOST_LIVES)
knows ledger (Open f) n = (n ≡ frame_word (frame_at ledger f).generation 0) × ((frame_at ledger f).generation ≤ MOST_LIVES)
knows ledger (Publish p f) n = (frame_at ledger f).generation ≤ MOST_LIVES
knows ledger (Replace p f) n = (frame_at ledger f).generation ≤ MOST_LIVES
knows ledger (Add f) n = n < FRAME_WORDS
knows ledger (Sub f) n = 1 ≤ count_in n
knows ledger (Freeze f) n = (life_in n ≡ (frame_at ledger f).generation) × ((frame_at ledger f).base ≤ MOST_REFERENCES)
knows ledger (Word f i) n = n ≡ slice_index (frame_at ledger f).content i
knows ledger _ n = Unit {0}

abbrev pub knows_view : View → KeeperStep → ℕ → Type 0
knows_view (Keeper sh ledger tally log order) e n = knows ledger e n
knows_view _ e n = Unit {0}

-- what a step of the keeper asks: the seat is the keeper's, of this table, and its ledger allows the step
pub record MayKeep (t : TableName) (id : TableId) (m : Sat) (e : KeeperStep) : Type 0 where
  pub own : id ≡ t.id
  pub keeper : IsKeeper t.shape m
  pub may : MayStep t.shape (ledger_in m) e

-- the keeper made the step, of the present, and found the word n
abbrev pub Keeps : KeeperStep → Sat → ℕ → Sat → Type 0
Keeps e m n m' = (m' ≡ (keeper_after e m.0 n (order_in m'), m.1)) × knows_view m.0 e n × IsPresent (shape_in m) (order_in m) (order_in m') (event.Keeper e) n

-- an operation on the word on which the step works makes the step
abbrev pub KeepsAt : KeeperStep → Step (Unit {0}) → Sat → ℕ → Sat → Type 0
KeepsAt e st m n m' = st.word ≡ keeper_word (frames_of (shape_in m)) e → Keeps e m n m'

-- the step is of the frame whose word it is
abbrev pub on_frame : (ℕ → KeeperStep) → Step (Unit {0}) → Sat → ℕ → Sat → Type 0
on_frame e st m n m' = (f : ℕ) → KeepsAt (e f) st m n m'

abbrev pub puts : Step (Unit {0}) → Sat → ℕ → Sat → Type 0
puts st m n m' = (f i : ℕ) → i < PAGE_WORDS → KeepsAt (Put f i st.first) st m 0 m'

abbrev pub publishes : Step (Unit {0}) → Sat → ℕ → Sat → Type 0
publishes st m n m' = (p : ℕ) → KeepsAt (Publish p (st.first % PLACE_SPAN)) st m 0 m'

abbrev pub replaces : Step (Unit {0}) → Sat → ℕ → Sat → Type 0
replaces st m n m' = (p : ℕ) → KeepsAt (Replace p (st.first % PLACE_SPAN)) st m 0 m'

abbrev pub withdraws : Step (Unit {0}) → Sat → ℕ → Sat → Type 0
withdraws st m n m' = (p : ℕ) → KeepsAt (Withdraw p) st m 0 m'

abbrev pub shows : Step (Unit {0}) → Sat → ℕ → Sat → Type 0
shows st m n m' = (f i : ℕ) → i < PAGE_WORDS → KeepsAt (Word f i) st m n m'
