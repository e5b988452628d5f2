-- Worked commands: three equal pages, as they lie in the frames of two nodes, and what a command does with these. Own.
use Rattle.std.specs.Prelude.{ℕ, ◌*◌, ◌^◌, List, [], ◌∷◌, None, Some, Ok}
use Rattle.std.specs.List.{repeat}
use Rattle.ksm_book.specs.Terms.{after, BookState, Command, Done, Drop, Frames, GuestPage, lies_on, nowhere, opening, PAGE_WORDS, Register, Scan, Scanned, SetRun, Shape, Store}

-- two nodes of four frames
abbrev pub shape : Shape
shape = record { nodes = 2; frames_per_node = 4; passes = 2; last_generation = 2 ^ 40; tries = 8 }

-- a page of guest 0
abbrev pub page : ℕ → GuestPage
page number = record { guest = 0; page = number }

-- bytes that are all equal
abbrev pub full : ℕ → List ℕ
full byte = repeat PAGE_WORDS (byte * 0x0101010101010101 ∷ [])

-- the state after commands that are done
abbrev pub done : BookState → List Command → BookState
done b [] = b
done b (command ∷ later) = done (after b command (Ok Done)) later

-- the state after so many visits
abbrev pub scanned : ℕ → BookState → BookState
scanned visits b = after b (Scan visits) (Ok (Scanned visits None))

-- two equal pages at home on node 0, and one on node 1
abbrev pub three : BookState
three =
    done (opening shape)
    (Register (page 0) 0 (full 0xaa) ∷ Register (page 1) 0 (full 0xaa) ∷ Register (page 2) 1 (full 0xaa)
    ∷ SetRun 1 ∷ [])

-- the lowest frames of their nodes
abbrev pub apart : Frames
apart = lies_on (page 0) (Some 0) (lies_on (page 1) (Some 1) (lies_on (page 2) (Some 4) nowhere))

-- the three merged, after two passes
abbrev pub merged : BookState
merged = scanned 6 three

-- the other two come to the frame of the first
abbrev pub together : Frames
together = lies_on (page 2) (Some 0) (lies_on (page 1) (Some 0) apart)

-- the three merged, and then stored to or dropped, so that their dup is stale
abbrev pub stale : BookState
stale = done merged (Store (page 0) (full 0xbb) ∷ Store (page 1) (full 0xcc) ∷ Drop (page 2) ∷ [])

-- the two that are left, each on a frame of its own
abbrev pub alone : Frames
alone = lies_on (page 0) (Some 1) (lies_on (page 1) (Some 2) nowhere)
