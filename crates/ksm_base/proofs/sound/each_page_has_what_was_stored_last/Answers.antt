use Rattle.std.proofs.Common.{refl}
use Rattle.ksm_base.specs.State.{opening}
use Rattle.ksm_base.specs.Journal.{replay}
use Rattle.ksm_base.proofs.LastStored.{reads_last, read_last}
use Rattle.ksm_base.proofs.sound.each_page_has_what_was_stored_last.Goals as goal

pub returns-clause-rows : goal.returns-clause-rows
returns-clause-rows c = λ shape journal. reads_last (opening shape) journal refl

pub returns-clause-read : goal.returns-clause-read
returns-clause-read c =
    λ shape journal page bytes read. read_last page bytes (replay (opening shape) journal) journal (reads_last (opening shape) journal refl) read
