-- What a log that is no lookup lacks.
use Rattle.std.proofs.Common.{◌≡◌, ℕ, ◌+◌, ◌*◌, List, [], ◌∷◌, ◌++◌, length, map, refl, ap, sym, arith}
use Rattle.frame_core.specs.declared.event.ReaderStep.{ReaderStep}
use Rattle.frame_table.specs.Lookup.{ReaderLog, AllLost, lookup_so_far}

-- two logs that are equal tell the same words
pub words : {a b : ReaderLog} → a ≡ b → map (λ x. x.1) a ≡ map (λ x. x.1) b
words e = ap (map (λ (x : ReaderStep × ℕ). x.1)) e

-- a log has one load of the place, and two steps for each round
pub long : (place word : ℕ) (xs : List (ℕ × ℕ)) (last log : ReaderLog) → log ≡ lookup_so_far place word xs ++ last → length log ≡ 1 + (length xs * 2 + length last)
long place word [] last log e = omega (arith, ap length e)
long place word (x ∷ xs) last log e = let r = long place word xs last (lookup_so_far place word xs ++ last) refl in omega (arith, ap length e, r)

-- a round that was made is none of those that were lost
pub made : (g : ℕ) (xs : List (ℕ × ℕ)) (x : ℕ × ℕ) → AllLost g (x ∷ xs) → x.0 ≡ x.1 → ⊥
made g xs x lost same = lost.1 (sym same)
