-- What stands at the front of a text.
use Rattle.ksm_lines.proofs.Names.{[], AllPass-from_list_all, ap, append-nil, append_assoc, arith, Bool, bytes_eq, bytes_eq-Decides, drop, false_from_ne_true, get_or, get_or-take, IfNone, IfSome}
use Rattle.ksm_lines.proofs.Names.{is_some, length, length-append, length-take, List, list_all, nil_from_length, None, Option, Some, sym, take, take-append-drop, take_more, take_rest, true, ℕ, ◌++◌}
use Rattle.ksm_lines.proofs.Names.{◌+◌, ◌-◌, ◌<◌, ◌∙◌, ◌∷◌, ◌≡◌, ◌≢◌, ◌≤◌}
use denote.Ref.{Bor}

-- where all bytes at the front of a text pass a test, each byte there passes
pub passes_in : (p : ℕ → Bool) (text : List ℕ) (i k : ℕ) → list_all p (take i text) ≡ true → k < i → i ≤ length text → p (get_or text k 0) ≡ true
passes_in p text i k all lt le = ap p (sym (get_or-take i text k 0 lt)) ∙ AllPass-from_list_all p (take i text) all k 0 (omega (arith, length-take i text))

-- a text is what stands before one of its bytes, that byte, and what is behind it
pub parted_at : (text : List ℕ) (at byte : ℕ) → at < length text → get_or text at 0 ≡ byte → text ≡ take at text ++ byte ∷ take (length text - (at + 1)) (drop (at + 1) text)
parted_at text at byte lt is =
    let rest = drop (at + 1) text in
    sym (take-append-drop (at + 1) text) ∙ ap (λ l. l ++ rest) (take_more text at 0 lt) ∙ append_assoc (take at text) (get_or text at 0 ∷ []) rest
    ∙ ap (λ b. take at text ++ b ∷ rest) is ∙ ap (λ l. take at text ++ byte ∷ l) (sym (take_rest text (at + 1)))

-- a word as long as a name is the name exactly where something is behind the name in it
pub is_name : (word name : List ℕ) (left : Option (Bor (List ℕ))) → length word ≡ length name → IfSome left (λ l. word ≡ name ++ l.now)
    → IfNone left ((l : List ℕ) → word ≢ name ++ l) → bytes_eq word name ≡ is_some left
is_name word name (Some left) long some none =
    let nothing : length left.now ≡ 0 = omega (arith, long, ap length some, length-append name left.now) in
    (bytes_eq-Decides word name).1 (some ∙ ap (λ l. name ++ l) (nil_from_length left.now nothing) ∙ append-nil name)
is_name word name None long some none = false_from_ne_true _ (λ e. none [] ((bytes_eq-Decides word name).0 e ∙ sym (append-nil name)))
