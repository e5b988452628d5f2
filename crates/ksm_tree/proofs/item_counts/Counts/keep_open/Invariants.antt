use Rattle.ksm_tree.proofs.Names.{is_open, places_where, take, ◌≡◌}
use Rattle.ksm_tree.proofs.item_counts.Counts.keep_open.Given as goal

-- the open ones of the first places, and nothing else has changed
abbrev pub invariant-loop-place : goal.invariant-loop-place
invariant-loop-place l =
    (l.self-inside.open_at.list.items ≡ places_where (is_open l.limit) 0 (take l.place l.initial.self-inside.each.items))
    × (l.self-inside.open_at.list.capacity ≡ l.initial.self-inside.open_at.list.capacity)
    × (l.self-inside.each ≡ l.initial.self-inside.each)
    × (l.self-inside.limit ≡ l.limit)
