-- The words of a state as one list. Source: own.
use Rattle.std.specs.Prelude.{ℕ, ◌+◌, ◌-◌, ◌*◌, List, [], ◌∷◌, ◌++◌, map, replicate}
use Rattle.std.specs.List.{flat_map}
use Rattle.frame_core.specs.Terms.{PAGE_WORDS, LINE_WORDS, Note}
use Rattle.frame_core.specs.State.{State, place_word, frame_word}

-- the frame words, by the generations and the counts
abbrev pub frame_words : List Note → List ℕ → List ℕ
frame_words [] counts = []
frame_words (note ∷ notes) [] = []
frame_words (note ∷ notes) (count ∷ counts) = frame_word note.generation count ∷ frame_words notes counts

-- a frame word begins eight words of which nobody uses the others, so it shares a line of the cache with no other frame word and no page; that of frame 0 may share one with the last places
abbrev pub line_of : ℕ → List ℕ
line_of word = word ∷ replicate (LINE_WORDS - 1) 0

abbrev pub page_of : Note → List ℕ
page_of note = note.content

-- eight unused words part those of the frames from their pages
abbrev pub pages_of : List Note → List ℕ
pages_of notes = replicate LINE_WORDS 0 ++ flat_map page_of notes

-- all words of a state: the places, eight words for each frame, then the pages of the frames
abbrev pub words_of : State → List ℕ
words_of s = map place_word s.ledger.places ++ (flat_map line_of (frame_words s.ledger.frames s.counts) ++ pages_of s.ledger.frames)

-- how many they are, where there are so many places and frames
abbrev pub words_for : ℕ → ℕ
words_for places = places + (places * LINE_WORDS + (LINE_WORDS + places * PAGE_WORDS))

-- where the frame word of the frame f stands, where its page begins, and where its content word i stands
abbrev pub frame_word_at : ℕ → ℕ → ℕ
frame_word_at places f = places + f * LINE_WORDS

abbrev pub page_at : ℕ → ℕ → ℕ
page_at places f = places + (places * LINE_WORDS + (LINE_WORDS + f * PAGE_WORDS))

abbrev pub content_at : ℕ → ℕ → ℕ → ℕ
content_at places f i = page_at places f + i
