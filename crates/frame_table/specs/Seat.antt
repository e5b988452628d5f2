-- The word of the table on which a step of a reader works, and what it leaves there (own).
use Rattle.std.specs.Prelude.{ℕ, ◌+◌, ◌-◌, ◌==◌, cond}
use Rattle.frame_table.specs.Terms.{Shape, frames_of, ReaderStep, LoadPlace, LoadFrame, Exchange, Leave, LoadWord, Phase}
use Rattle.frame_core.specs.Seat.{frame_of, loaded_by}
use Rattle.frame_core.specs.Words.{frame_word_at, content_at}

-- the word that a step works on
abbrev pub reader_word : Shape → ReaderStep → Phase → ℕ
reader_word sh (LoadPlace p) phase = p
reader_word sh (LoadWord i) phase = content_at (frames_of sh) (frame_of phase) i
reader_word sh LoadFrame phase = frame_word_at (frames_of sh) (frame_of phase)
reader_word sh Exchange phase = frame_word_at (frames_of sh) (frame_of phase)
reader_word sh Leave phase = frame_word_at (frames_of sh) (frame_of phase)

-- what a step leaves where it found n
abbrev pub written : ReaderStep → Phase → ℕ → ℕ
written Exchange phase n = cond (n == loaded_by phase) (n + 1) n
written Leave phase n = n - 1
written _ phase n = n
