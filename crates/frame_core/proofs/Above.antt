-- What the table of words above is proved from: lists, the parts of a frame word, the words of a state, where steps are allowed, and runs.
pub use Rattle.frame_core.proofs.Lists.{get_set, count_set}
pub use Rattle.frame_core.proofs.Decides.{decides}
pub use Rattle.frame_core.proofs.Frames.{base_at_most, not_held}
pub use Rattle.frame_core.proofs.Changes.{seat_there, referenced}
pub use Rattle.frame_core.proofs.Fitting.{frames_at_most, frames_at_least, count_at_most, life_low}
pub use Rattle.frame_core.proofs.Keeps.{count_found, life_found, life_of_word, if_made, step_keeps}
pub use Rattle.frame_core.proofs.Flat.{word_get, content_get, place_get, word_set, note_set, count_set as word_counted, content_set, place_set, words_same, as_it_was}
pub use Rattle.frame_core.proofs.Histories.{run_rule, run_step, run_safe, run_given}
pub use Rattle.frame_core.proofs.Live.{publish_makes_live, live_until_given_up, run_live}
