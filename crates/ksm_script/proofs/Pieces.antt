-- What a reader's buffer has of a line.
use Rattle.ksm_script.proofs.Names.{[], All-append, ap, append_assoc, arith, BeginsWith, Bool, Came, cond, Consumes, Consumes-nil, Consumes-trans, Dialogue, EndsAs, eq-eqb, eqb-true, Err, Extends}
use Rattle.ksm_script.proofs.Names.{false, get_or, get_or-take, get_or_default, IfErr, if◌then◌else◌, is_byte, IsErrAnd, IsPlain, IsTrue, Keeps, Keeps-refl, length, length-append, length-take, Line}
use Rattle.ksm_script.proofs.Names.{LineEnd, List, None, Nowhere, Ok, Option, Passes, prepend_known, refl, Result, RunFault, silent, Some, subst, sym, take, take-append_seam, take-take, take_min}
use Rattle.ksm_script.proofs.Names.{take_more, Takes, TakesForm, then_some, Took, took, TooLong, true, waited, zero-le, ℕ, ◌++◌, ◌+◌, ◌-◌, ◌<◌, ◌==◌, ◌↔◌, ◌∙◌, ◌∷◌, ◌≡◌, ◌≢◌, ◌≤◌}

-- bytes that are taken from a buffer are read; with no capacity nothing is known
pub taken_from : (n m : ℕ) (a b : Option (List ℕ)) (buffer rest bytes : List ℕ) → m ≡ n → b ≡ a → buffer ≡ bytes ++ rest
    → Consumes (if n == 0 then None else prepend_known buffer a) (if m == 0 then None else prepend_known rest b) bytes
taken_from n m a b buffer rest bytes room same split = rw (room, same) (go (n == 0) a)
  where
    go : (none : Bool) (a : Option (List ℕ)) → Consumes (cond none None (prepend_known buffer a)) (cond none None (prepend_known rest a)) bytes
    go true a = tt
    go false None = tt
    go false (Some xs) = ap (λ l. l ++ xs) split ∙ append_assoc bytes rest xs

-- a buffer up to the first newline of its beginning
pub up_to_newline : (buffer : List ℕ) (n at : ℕ) → at < length (take n buffer) → is_byte 10 (get_or (take n buffer) at 0) ≡ true
    → take (at + 1) buffer ≡ take at (take n buffer) ++ 10 ∷ []
up_to_newline buffer n at lt found =
    let shorter : at + 1 ≤ n = omega (arith, length-take n buffer) in
    sym (take-take (at + 1) n buffer shorter) ∙ take_more (take n buffer) at 0 lt ∙ ap (λ x. take at (take n buffer) ++ x ∷ []) (eqb-true _ _ found)

-- a beginning in which no newline was found
pub is_plain_before : (block : List ℕ) (at : ℕ) → at ≤ length block → Nowhere (Passes (is_byte 10) block) 0 at → IsPlain (take at block)
is_plain_before block at fits none = λ k d lt is.
    let low : k < at = omega (arith, lt, length-take at block) in
    none k zero-le low (eq-eqb _ _ (get_or_default block k 0 d (omega arith) ∙ sym (get_or-take at block k d low) ∙ is))

-- a block in which no newline was found is plain
pub is_plain_block : (block : List ℕ) → Nowhere (Passes (is_byte 10) block) 0 (length block) → IsPlain block
is_plain_block block none = λ k d lt is. none k zero-le lt (eq-eqb _ _ (get_or_default block k 0 d lt ∙ is))

-- a buffer up to the end of its beginning
pub up_to_end : (buffer : List ℕ) (n : ℕ) → take (length (take n buffer)) buffer ≡ take n buffer
up_to_end buffer n = ap (λ k. take k buffer) (length-take n buffer) ∙ take_min n buffer

-- two plain pieces of a line are one
pub plain_with : (line part : List ℕ) → IsPlain line → IsPlain part → IsPlain (line ++ part)
plain_with line part = All-append (λ byte. byte ≢ 10) line part

-- a line that a part is added to is too long, or goes on
pub extends_so : (long : Bool) (before line part : List ℕ) → line ≡ before ++ part → IsTrue long ↔ (length line ≡ 257) → length line ≤ 257
    → Extends (then_some long TooLong) before line part
extends_so true before line part is full room = (sym is, full.0 refl)
extends_so false before line part is full room = (is, less (λ e. let h = full.1 e in absurd cc))
  where
    less : length line ≢ 257 → length line ≤ 256
    less other = omega (arith, other)

-- a buffer whose beginning is a line, its newline and a rest, up to that newline
up_to_line : (buffer line rest : List ℕ) (n : ℕ) → take n buffer ≡ line ++ 10 ∷ rest → take (length line + 1) buffer ≡ line ++ 10 ∷ []
up_to_line buffer line rest n is =
    let front = line ++ 10 ∷ [] in
    let long = length-append line (10 ∷ []) in
    let all = length-append line (10 ∷ rest) in
    let shorter : length line + 1 ≤ n = omega (arith, length-take n buffer, ap length is, all) in
    sym (take-take (length line + 1) n buffer shorter) ∙ ap (take (length line + 1)) (is ∙ sym (append_assoc line (10 ∷ []) rest))
    ∙ ap (λ k. take k (front ++ rest)) (sym long) ∙ take-append_seam front rest

-- the line that a buffer begins with is taken, with its newline
pub form_taken : (form : Line) (Took : List ℕ → Type 0) (buffer near rest : List ℕ) (n : ℕ) → buffer ≡ near → BeginsWith form (take n buffer) rest → n ≤ 257
    → Took (take (length (take n buffer) - length rest) near) → TakesForm form Took
form_taken form Took buffer near rest n same begins room consumed =
    let line = begins.0 in
    let is = begins.3 in
    let long = length-append line (10 ∷ rest) in
    let size : length (take n buffer) - length rest ≡ length line + 1 = omega (arith, ap length is, long) in
    let short : length line ≤ 256 = omega (arith, ap length is, long, length-take n buffer) in
    (line, begins.1, begins.2, short, subst Took (ap (take (length (take n buffer) - length rest)) (sym same) ∙ ap (λ k. take k buffer) size ∙ up_to_line buffer line rest n is) consumed)

-- a line that goes on is no shorter
pub longer : (Took : List ℕ → Type 0) (before line : List ℕ) (told : Option LineEnd) → told ≡ None → Takes told before line Took → length before ≤ length line
longer Took before line told is q =
    let h : Takes None before line Took = subst (λ t. Takes t before line Took) is q in omega (arith, ap length h.1.0, length-append before h.0)

module _ {R W : Type 0} (remaining : R → Option (List ℕ)) (takes : R → R → List ℕ → Type 0) (waits : W → R → R → Option (List ℕ) → Type 0) (May : List ℕ → W → Type 0) (first : R) where
  -- what was read of a reader, and by which dialogue
  abbrev pub IsTalked : R → List ℕ → Type 0
  IsTalked now bytes = Consumes (remaining first) (remaining now) bytes × Dialogue takes waits May first now bytes

  took_more : (now next : R) (before : List ℕ) → IsTalked now before → (bytes : List ℕ) → Took remaining takes now next bytes → IsTalked next (before ++ bytes)
  took_more now next before so bytes more = (Consumes-trans _ _ _ before bytes so.0 more.0, took so.1 bytes more.1)

  came_more : (now next : R) (before : List ℕ) (writer : W) → May before writer → IsTalked now before → (bytes : List ℕ) → Came remaining waits writer now next bytes
      → IsTalked next (before ++ bytes)
  came_more now next before writer may so bytes more = (Consumes-trans _ _ _ before bytes so.0 more.0, waited so.1 writer may bytes more.1)

  goes_on : (Took : List ℕ → Type 0) (next : R) (before line : List ℕ) (told : Option LineEnd) → told ≡ None → ((bytes : List ℕ) → Took bytes → IsTalked next (before ++ bytes))
      → Takes told before line Took → (length line ≤ 256) × IsTalked next line
  goes_on Took next before line told is more q =
      let h : Takes None before line Took = subst (λ t. Takes t before line Took) is q in (h.1.1, subst (IsTalked next) (sym h.1.0) (more h.0 h.2))

  ends_so : (Took : List ℕ → Type 0) (next : R) (before line : List ℕ) (told : Option LineEnd) (end : LineEnd) → told ≡ Some end → ((bytes : List ℕ) → Took bytes → IsTalked next (before ++ bytes))
      → Takes told before line Took → (bytes : List ℕ) × EndsAs end line bytes × IsTalked next bytes
  ends_so Took next before line told end is more q =
      let h : Takes (Some end) before line Took = subst (λ t. Takes t before line Took) is q in (before ++ h.0, h.1, more h.0 h.2)

  module _ (now next : R) (before line : List ℕ) (told : Option LineEnd) (so : IsTalked now before) where
    -- a line goes on by bytes at hand, or ends with them
    pub took_on : told ≡ None → Takes told before line (Took remaining takes now next) → (length line ≤ 256) × IsTalked next line
    took_on is = goes_on _ next before line told is (took_more now next before so)

    pub took_end : (end : LineEnd) → told ≡ Some end → Takes told before line (Took remaining takes now next) → (bytes : List ℕ) × EndsAs end line bytes × IsTalked next bytes
    took_end end is = ends_so _ next before line told end is (took_more now next before so)

    -- or by bytes that were waited for
    pub came_on : (writer : W) → May before writer → told ≡ None → Takes told before line (Came remaining waits writer now next) → (length line ≤ 256) × IsTalked next line
    came_on writer may is = goes_on _ next before line told is (came_more now next before writer may so)

    pub came_end : (writer : W) → May before writer → (end : LineEnd) → told ≡ Some end → Takes told before line (Came remaining waits writer now next)
        → (bytes : List ℕ) × EndsAs end line bytes × IsTalked next bytes
    came_end writer may end is = ends_so _ next before line told end is (came_more now next before writer may so)

  -- nothing is read of a line that is just begun
  pub nothing_talked : (contents : W → Option (List ℕ)) (writer : W) (line : List ℕ) → line ≡ []
      → IsPlain line × (length line ≤ 256) × IsTalked first line × (0 ≤ length line) × Keeps (contents writer) (contents writer)
  nothing_talked contents writer line none =
      subst (λ (l : List ℕ). IsPlain l × (length l ≤ 256) × IsTalked first l × (0 ≤ length l) × Keeps (contents writer) (contents writer)) (sym none)
      ((λ k d lt is. absurd (omega (arith, lt))), omega arith, (Consumes-nil (remaining first), silent), omega arith, Keeps-refl (contents writer))

-- what is said of a fault is said of it where it is handed on
pub fault_told : {A : Type 0} (P : RunFault → Type 0) (r : Result A RunFault) (e d : RunFault) → IsErrAnd r (λ f. f ≡ e) → e ≡ d → P d → IfErr r P
fault_told P (Ok x) e d is same p = absurd is
fault_told P (Err f) e d is same p = subst P (sym (is ∙ same)) p

abbrev pub told : Option LineEnd → Result (Option LineEnd) RunFault
told end = Ok end

told_is : (end : Option LineEnd) → told end ≡ told None → end ≡ None
told_is end e = cc

-- a line that goes on by some bytes grows
pub grows : (before line bytes : List ℕ) (end : Option LineEnd) → told end ≡ told None → Extends end before line bytes → 0 < length bytes → length before < length line
grows before line bytes end is more some =
    let h : Extends None before line bytes = subst (λ t. Extends t before line bytes) (told_is end is) more in
    omega (arith, some, ap length h.0, length-append before bytes)
