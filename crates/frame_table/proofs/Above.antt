-- What crates above are proved from: lists of passes as one is put or taken, and the words that a hold has read.
pub use Rattle.frame_table.proofs.Elements.{all_put, all_left, one_taken}
pub use Rattle.frame_table.proofs.Compared.{same_hold, reads_more}
