-- Which parts a lock, a share or an answer is of (own).
use Rattle.std.specs.Prelude.{ℕ, [], Bool, false}
use Rattle.atomic_table.specs.Seated.{TableId}
use Rattle.logbook.specs.Pages.{Book}
use Rattle.ksm_base.specs.declared.shape.Shape.{Shape}
use Rattle.frame_table.specs.Named.{TableName}

-- the parts of one book: the table of its frames, the table of what its shares have seen, the logbook of its journal,
-- whether the entries are kept, how many shares there are, and how many readers of counters
pub record PartsId : Type 0 where
  pub frames : TableName
  pub seen : TableId
  pub logbook : Book
  pub is_kept : Bool
  pub callers : ℕ
  pub readers : ℕ

abbrev pub no_table : TableId
no_table = record { words = 0; slots = 0; views_name = 0; atom = 0; block = 0; offset = 0; slot_names = [] }

abbrev pub no_shape : Shape
no_shape = record { nodes = 0; frames_per_node = 0; passes = 0; last_generation = 0; tries = 0 }

abbrev pub no_logbook : Book
no_logbook = record { number = 0; log_name = 0; cells_name = 0 }

-- no parts
abbrev pub no_parts : PartsId
no_parts = record {
  frames = record { id = no_table; shape = no_shape };
  seen = no_table;
  logbook = no_logbook;
  is_kept = false;
  callers = 0;
  readers = 0;
}
