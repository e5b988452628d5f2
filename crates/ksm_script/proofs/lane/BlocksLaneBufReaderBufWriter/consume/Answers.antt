use Rattle.ksm_script.proofs.Names.{ap, Consumes, reader_buffer, reader_remaining, sym, take, take-append-drop, ◌++◌, ◌∙◌}
use Rattle.ksm_script.proofs.Pieces.{taken_from}
use Rattle.ksm_script.proofs.lane.BlocksLaneBufReaderBufWriter.consume.Goals as goal

pub returns : goal.returns
returns g c =
    let buffer = reader_buffer c.args.reader.now in
    let split = sym (take-append-drop c.args.count buffer) ∙ ap (λ l. take c.args.count buffer ++ l) (sym c.consume.ensures.buffer) in
    let taken : Consumes (reader_remaining g.R.Read.remaining c.args.reader.now) (reader_remaining g.R.Read.remaining c.consume.new.self) (take c.args.count buffer) =
    taken_from _ _ _ _ _ _ _ c.consume.ensures.capacity (ap g.R.Read.remaining c.consume.ensures.inner) split in
    record { bytes = taken; took = taken }
