-- What a change of one key, or of what lies under it, does to the slots of a shelf.
use Rattle.ksm_tree.proofs.Names.{[], ap, arith, change_items_of, change_slot, Dup, get, get_or, get_or-replicate, get_or-set_other, get_or-set_same, get_or_default, get_or_past, GuestPage, has_room}
use Rattle.ksm_tree.proofs.Names.{is_some, items_in, Kept, kept_at, length, length-replicate, length-set, List, None, Option, replicate, set, set-get_or, ShelfState, Slab, slots_by, Some, sym, true}
use Rattle.ksm_tree.proofs.Names.{Updates-with_value, with_value, ℕ, ◌<◌, ◌∙◌, ◌≡◌, ◌≢◌, ◌≤◌}
use Rattle.slab.specs.Slab.{Updates as Fills}
use Rattle.std.proofs.lemmas.List.FromFn.{fill_by_all, get_or-map-range_with_len, length-map-range_with_len}

-- what a place holds by its key
abbrev held : List ℕ → Slab Kept → ℕ → Option Dup
held keys dups p = kept_at p (get dups (get_or keys p 0))

-- a list with what each place holds by its key
by_keys : (keys : List ℕ) (dups : Slab Kept) (slots : List (Option Dup)) → length slots ≡ length keys → ((p : ℕ) → p < length keys → get_or slots p None ≡ held keys dups p) → slots_by keys dups ≡ slots
by_keys keys dups slots many each = sym (fill_by_all (held keys dups) slots (length keys) None many each)

module _ (p : ℕ) (keys : List ℕ) (dups : Slab Kept) {s : ShelfState} (view : record { slots = slots_by keys dups; ready = has_room dups } ≡ s) where
  -- there is a slot for each key
  pub many : length keys ≡ length s.slots
  many = sym (length-map-range_with_len (held keys dups) 0 (length keys)) ∙ ap (λ t. length t.slots) view

  reads : (q : ℕ) → q < length keys → held keys dups q ≡ get_or s.slots q None
  reads q within = grind (arith, get_or-map-range_with_len)

  -- what a place holds is read by its key
  pub seen_by : {key : ℕ} → p < length keys → key ≡ get_or keys p 0 → kept_at p (get dups key) ≡ get_or s.slots p None
  seen_by within read = rw read (reads p within)

  -- a key is put at a place, with what lies under it from then on, which is of that place as what lay there was
  put_by : {key : ℕ} {new : Slab Kept} {slot : Option Kept} → p < length keys → Fills dups new key slot → ((q : ℕ) → q ≢ p → kept_at q slot ≡ kept_at q (get dups key)) → slots_by (set keys p key) new ≡ set s.slots p (kept_at p slot)
  put_by {key} {new} {slot} within fills same =
      by_keys (set keys p key) new (set s.slots p (kept_at p slot)) (grind (arith, length-set, many))
      (λ q lt. grind (arith, fills, same q, reads q, many, length-set, get_or-set_same, get_or-set_other))

  -- a dup of the place is put under a key that was vacant, and the place gets that key
  pub filled : {key : ℕ} {new : Slab Kept} (kept : Kept) → kept.dup.row.place ≡ p → p < length keys → get dups key ≡ None → Fills dups new key (Some kept) → slots_by (set keys p key) new ≡ set s.slots p (Some kept.dup)
  filled kept is within vacant fills = grind (arith, put_by within fills (λ q apart. grind arith))

  pub seen_past : length keys ≤ p → None ≡ get_or s.slots p None
  seen_past past = grind (arith, many, get_or_past)

  -- a place that holds a dup has a key
  pub filled_key : is_some (get_or s.slots p None) ≡ true → p < length keys
  filled_key filled = grind (arith, seen_past)

  module _ {key : ℕ} (read : key ≡ get_or keys p key) (filled : is_some (get_or s.slots p None) ≡ true) where
    -- the key of a place that holds a dup leads to it
    key_is : key ≡ get_or keys p 0
    key_is = read ∙ sym (get_or_default _ p 0 key (filled_key filled))

    leads : kept_at p (get dups key) ≡ get_or s.slots p None
    leads = seen_by (filled_key filled) key_is

    -- the items of a place are those of the dup under its key
    pub items_there : {kept : Kept} → Some kept ≡ get dups key → items_in (get_or s.slots p None) ≡ kept.dup.items
    items_there stood = grind (arith, leads)

    -- under the key of a place that holds a dup lies one
    pub not_none : None ≡ get dups key → ⊥
    not_none none = grind (arith, leads)

    moved : {new : Slab Kept} {slot : Option Kept} → Fills dups new key slot → ((kept : Kept) → slot ≡ Some kept → kept.dup.row.place ≡ p) → slots_by keys new ≡ set s.slots p (kept_at p slot)
    moved fills of_it =
        let put = put_by (filled_key filled) fills (λ q apart. grind (arith, leads)) in
        grind (arith, key_is, set-get_or keys p 0)

    -- a dup that goes leaves its place empty
    pub emptied : {new : Slab Kept} → Fills dups new key None → slots_by keys new ≡ set s.slots p None
    emptied fills = moved fills (λ kept none. grind arith)

    -- a dup that changes under its key, and stays at its place, changes in its slot
    pub changed : {was : Kept} (kept : Kept) (f : List GuestPage → List GuestPage) → Some was ≡ get dups key → kept.dup ≡ change_items_of f was.dup → slots_by keys (with_value dups key kept) ≡ change_slot p f s.slots
    changed kept f stood now =
        let fills = Updates-with_value dups key kept (sym (ap is_some stood)) in
        grind (arith, leads, moved fills (λ k is. grind (arith, leads)))

-- where every key leads to nothing, each place is empty
pub none_by : (n : ℕ) (dups : Slab Kept) → dups.slots ≡ [] → slots_by (replicate n 0) dups ≡ replicate n None
none_by n dups none = by_keys (replicate n 0) dups (replicate n None) (grind (arith, length-replicate))
    (λ p lt. grind (arith, length-replicate, get_or-replicate))

-- more room changes no slot
pub same_slots : (keys : List ℕ) (old : Slab Kept) {new : Slab Kept} {s : ShelfState} → record { slots = slots_by keys old; ready = has_room old } ≡ s → new ≡ record old { capacity = new.capacity } → slots_by keys new ≡ s.slots
same_slots keys old view is = ap (slots_by keys) is ∙ ap (λ t. t.slots) view

-- what the keys say of the slots
pub ruleset steps = (changed, items_there, not_none, emptied, filled_key, many, none_by, same_slots, seen_by, seen_past)
