-- What contracts see of a table, its passes, its holds and its keeper, and of a table that was closed (own).
use Rattle.std.specs.Prelude.{ℕ, List, Option}
use Rattle.frame_table.specs.Terms.{Shape, KeeperStep, ReaderStep, Ledger}
use Rattle.atomic_table.specs.Seated.{TableId}

-- which table it is, and its shape
pub record TableName : Type 0 where
  pub id : TableId
  pub shape : Shape

-- the keeper of a table: what it knows, and its steps, each with the word that it found
pub record KeeperView : Type 0 where
  pub table : TableName
  pub ledger : Ledger
  pub log : List (KeeperStep × ℕ)

-- a pass that holds nothing: its steps, each with the word that it found
pub record PassView : Type 0 where
  pub table : TableName
  pub log : List (ReaderStep × ℕ)

-- a pass that holds a frame, in the life that its place named, with the words that it has read in this hold
pub record HeldView : Type 0 where
  pub table : TableName
  pub log : List (ReaderStep × ℕ)
  pub place : ℕ
  pub frame : ℕ
  pub generation : ℕ
  pub known : List (Option ℕ)

-- a table that was closed: its words, as they were then
pub record ClosedView : Type 0 where
  pub shape : Shape
  pub words : List ℕ
