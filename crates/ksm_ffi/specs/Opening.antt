-- What opening a table says (own).
use Rattle.std.specs.Prelude.{◌≡◌, ℕ, ◌⊎◌, Result, Ok, Err}
use Rattle.ksm_base.specs.declared.shape.Shape.{Shape}
use Rattle.ksm_base.specs.Values.{IsShape}
use Rattle.frame_table.specs.Named.{KeeperView, TableName}
use Rattle.frame_table.specs.Seats.{new_keeper}
use Rattle.ksm_ffi.specs.declared.answer.Answer.{Answer}
use Rattle.ksm_ffi.specs.declared.answer.Answer.TheVariants as answer
use Rattle.ksm_ffi.specs.Homes.{HomeView, all_back}

-- a keeper that has made no step, on a table of this shape
abbrev pub IsNewOf : Shape → KeeperView → Type 0
IsNewOf sh v = (t : TableName) × (t.shape ≡ sh) × (v ≡ new_keeper t)

-- refused for the shape where a size is out of its range, and else for memory alone
abbrev pub OpensNot : Shape → Answer → Type 0
OpensNot sh a = ((a ≡ answer.Shape) × ¬ IsShape sh) ⊎ ((a ≡ answer.Memory) × IsShape sh)

-- a table of this shape and number, with a keeper that has made no step, and no pass out
abbrev pub OpensTable : Shape → ℕ → Result (KeeperView × HomeView) Answer → Type 0
OpensTable sh number (Ok r) = IsShape sh × IsNewOf sh r.0 × (r.1 ≡ all_back r.0.table number)
OpensTable sh number (Err a) = OpensNot sh a
