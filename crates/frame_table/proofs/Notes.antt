-- The notes that the keeper keeps are those of its ledger.
use Rattle.std.proofs.Common.{◌≡◌, ℕ, ◌<◌, List, length, map, set, get_or, ap, sym, ◌∙◌}
use Rattle.std.proofs.Math.ListN.{get_or-map as found_in_map}
use Rattle.std.proofs.lemmas.List.{map-set, get_or-map, set-get_or}
use Rattle.frame_core.specs.declared.ledger.Note.{Note}
use Rattle.frame_core.specs.Ledger.{blank}
use Rattle.frame_table.specs.declared.keeper.Use.{Use}
use Rattle.frame_table.specs.Notes.{generation_of, use_of}

-- what is kept of the notes has at each frame what is kept of the note there
pub uses_get : (notes : List Note) (f : ℕ) (d : Use) → f < length notes → get_or (map use_of notes) f d ≡ use_of (get_or notes f blank)
uses_get notes f d below = get_or-map use_of notes f blank d below

pub generations_get : (notes : List Note) (f d : ℕ) → f < length notes → get_or (map generation_of notes) f d ≡ generation_of (get_or notes f blank)
generations_get notes f d below = get_or-map generation_of notes f blank d below

-- what is kept of the notes, once one is another, is a write of what is kept of the new note
pub uses_set : (notes : List Note) (f : ℕ) (x : Note) → map use_of (set notes f x) ≡ set (map use_of notes) f (use_of x)
uses_set notes f x = map-set use_of notes f x

pub generations_set : (notes : List Note) (f : ℕ) (x : Note) → map generation_of (set notes f x) ≡ set (map generation_of notes) f (generation_of x)
generations_set notes f x = map-set generation_of notes f x

-- what is kept of the notes stays where that of one frame does
pub notes_kept : {A : Type 0} (part : Note → A) (notes : List Note) (f : ℕ) (x : Note) → part x ≡ part (get_or notes f blank)
    → map part (set notes f x) ≡ map part notes
notes_kept part notes f x same = map-set part notes f x
    ∙ (ap (set (map part notes) f) (same ∙ sym (found_in_map part notes f blank)) ∙ set-get_or (map part notes) f (part blank))
