-- The entries of a journal as they are kept: what is added, and what stays.
use Rattle.std.proofs.Common.{◌≡◌, ◌<◌, ◌≤◌, ℕ, zero, suc, Bool, true, false, true≢false, not, ◌&&◌, if◌then◌else◌, List, [], ◌∷◌, ◌++◌, length, get_or, Some, refl, sym, ap, ◌∙◌, subst, arith}
use Rattle.std.proofs.lemmas.List.{append-nil, get_or_append_left}
use Rattle.std.proofs.lemmas.List.Elements.{All-append}
use Rattle.std.proofs.Math.Seq.{get_or-append_seam}
use Rattle.std.specs.Prelude.{slice_get, MatchBool, All}
use Rattle.ksm_base.specs.declared.command.Command.{Command}
use Rattle.ksm_base.specs.Answers.{Answer}
use Rattle.ksm_base.specs.Journal.{Entry}
use Rattle.ksm_journal.specs.declared.code.CommandCode.{CommandCode}
use Rattle.ksm_journal.specs.declared.code.AnswerCode.{AnswerCode}
use Rattle.ksm_journal.specs.declared.code.StoredPage.{StoredPage}
use Rattle.ksm_journal.specs.Coding.{IsInside, answer_of, command_beside, command_of, entries_of, entry_of, is_beside, is_whole, no_entry, no_page, tells_all}

-- all rows of these codes stand in lists of so many pages and whole entries
abbrev pub AreInside : ℕ → ℕ → List CommandCode → Type 0
AreInside pages wholes cs = All (λ c. IsInside pages wholes c.kind c.number) cs

-- a part that stands in a list stands there too when the list goes on
part_stays : (b d : Bool) (ps qs : List StoredPage) (ws vs : List Entry) (n : ℕ) (y : StoredPage) (z : Entry) (f : StoredPage → Command) (x : Command) (a : Answer)
    → MatchBool b (n < length ws) (MatchBool d (n < length ps) (Unit {0}))
    → ◌≡◌ {A = Entry} (if b then get_or (ws ++ vs) n z else (if d then f (get_or (ps ++ qs) n y) else x, a)) (if b then get_or ws n z else (if d then f (get_or ps n y) else x, a))
part_stays true d ps qs ws vs n y z f x a lt = get_or_append_left ws vs z n lt
part_stays false true ps qs ws vs n y z f x a lt = (λ i. (f (get_or_append_left ps qs y n lt i), a))
part_stays false false ps qs ws vs n y z f x a lt = refl

-- entries stay when the lists beside them go on
pub entries_stay : (ps qs : List StoredPage) (ws vs : List Entry) (cs : List CommandCode) (ts : List AnswerCode) → AreInside (length ps) (length ws) cs
    → entries_of (ps ++ qs) (ws ++ vs) cs ts ≡ entries_of ps ws cs ts
entries_stay ps qs ws vs [] ts all = refl
entries_stay ps qs ws vs (c ∷ cs) [] all = refl
entries_stay ps qs ws vs (c ∷ cs) (t ∷ ts) all =
    let here = part_stays (is_whole c.kind) (is_beside c.kind) ps qs ws vs c.number no_page no_entry (command_beside c.kind c) (command_of c.kind c) (answer_of t c.number) (all 0 c (omega arith)) in
    let rest = entries_stay ps qs ws vs cs ts (λ k d lt. all (suc k) d (omega arith)) in
    (λ i. here i ∷ rest i)

-- one more code is one more entry
pub entries_add : (ps : List StoredPage) (ws : List Entry) (cs : List CommandCode) (ts : List AnswerCode) (c : CommandCode) (t : AnswerCode) → length ts ≡ length cs
    → entries_of ps ws (cs ++ c ∷ []) (ts ++ t ∷ []) ≡ entries_of ps ws cs ts ++ entry_of ps ws c.kind c t ∷ []
entries_add ps ws [] [] c t same = refl
entries_add ps ws [] (u ∷ ts) c t same = absurd (omega arith)
entries_add ps ws (d ∷ cs) [] c t same = absurd (omega arith)
entries_add ps ws (d ∷ cs) (u ∷ ts) c t same = ap (λ (es : List Entry). entry_of ps ws d.kind d u ∷ es) (entries_add ps ws cs ts c t (omega arith))

-- there are as many entries as codes of commands
pub length_entries : (ps : List StoredPage) (ws : List Entry) (cs : List CommandCode) (ts : List AnswerCode) → length ts ≡ length cs → length (entries_of ps ws cs ts) ≡ length cs
length_entries ps ws [] ts same = refl
length_entries ps ws (c ∷ cs) [] same = absurd (omega arith)
length_entries ps ws (c ∷ cs) (t ∷ ts) same = ap suc (length_entries ps ws cs ts (omega arith))

-- an entry is told by its two codes
pub entry_at : (ps : List StoredPage) (ws : List Entry) (cs : List CommandCode) (ts : List AnswerCode) (k : ℕ) (c : CommandCode) (t : AnswerCode) → length ts ≡ length cs
    → k < length cs → get_or cs k c ≡ c → get_or ts k t ≡ t → slice_get (entries_of ps ws cs ts) k ≡ Some (entry_of ps ws c.kind c t)
entry_at ps ws [] ts k c t same lt is told = absurd (omega arith)
entry_at ps ws (d ∷ cs) [] k c t same lt is told = absurd (omega arith)
entry_at ps ws (d ∷ cs) (u ∷ ts) zero c t same lt is told = (λ i. Some (entry_of ps ws (is i).kind (is i) (told i)))
entry_at ps ws (d ∷ cs) (u ∷ ts) (suc k) c t same lt is told = entry_at ps ws cs ts k c t (omega arith) (omega arith) is told

-- a code that has all parts of its command needs no list
all_told : (b d : Bool) (z : Entry) (y x : Command) (a : Answer) → (not b && not d) ≡ true → ◌≡◌ {A = Entry} (if b then z else (if d then y else x, a)) (x, a)
all_told true d z y x a tells = absurd (true≢false (sym tells))
all_told false true z y x a tells = absurd (true≢false (sym tells))
all_told false false z y x a tells = refl

told_beside : (b d : Bool) (z : Entry) (y x : Command) (a : Answer) → b ≡ false → d ≡ true → ◌≡◌ {A = Entry} (if b then z else (if d then y else x, a)) (y, a)
told_beside b d z y x a off is = (λ i. if off i then z else (if is i then y else x, a))

-- two codes that tell all of an entry, put behind the others, add that entry
pub adds_short : (ps : List StoredPage) (ws : List Entry) (cs cs' : List CommandCode) (ts ts' : List AnswerCode) (c : CommandCode) (t : AnswerCode) (command : Command) (answer : Answer) (es : List Entry)
    → length ts ≡ length cs → entries_of ps ws cs ts ≡ es → cs' ≡ cs ++ c ∷ [] → ts' ≡ ts ++ t ∷ []
    → tells_all c.kind ≡ true → command_of c.kind c ≡ command → answer_of t c.number ≡ answer → entries_of ps ws cs' ts' ≡ es ++ (command, answer) ∷ []
adds_short ps ws cs cs' ts ts' c t command answer es same view pushed told tells is answered =
    (λ i. entries_of ps ws (pushed i) (told i))
    ∙ entries_add ps ws cs ts c t same
    ∙ (λ i. view i ++ all_told (is_whole c.kind) (is_beside c.kind) (get_or ws c.number no_entry) (command_beside c.kind c (get_or ps c.number no_page)) (command_of c.kind c) (answer_of t c.number) tells i ∷ [])
    ∙ (λ i. es ++ (is i, answered i) ∷ [])

-- two codes put behind the others, with the page of their entry behind the pages, add that entry
pub adds_beside : (ps ps' : List StoredPage) (ws : List Entry) (cs cs' : List CommandCode) (ts ts' : List AnswerCode) (c : CommandCode) (t : AnswerCode) (p : StoredPage) (command : Command) (answer : Answer) (es : List Entry)
    → length ts ≡ length cs → AreInside (length ps) (length ws) cs → entries_of ps ws cs ts ≡ es → ps' ≡ ps ++ p ∷ [] → cs' ≡ cs ++ c ∷ [] → ts' ≡ ts ++ t ∷ []
    → c.number ≡ length ps → is_whole c.kind ≡ false → is_beside c.kind ≡ true → command_beside c.kind c p ≡ command → answer_of t c.number ≡ answer
    → entries_of ps' ws cs' ts' ≡ es ++ (command, answer) ∷ []
adds_beside ps ps' ws cs cs' ts ts' c t p command answer es same all view paged pushed told row off beside is answered =
    let read : get_or (ps ++ p ∷ []) c.number no_page ≡ p = ap (λ (m : ℕ). get_or (ps ++ p ∷ []) m no_page) row ∙ get_or-append_seam ps p [] no_page in
    let stay : entries_of (ps ++ p ∷ []) ws cs ts ≡ entries_of ps ws cs ts =
    ap (λ (vs : List Entry). entries_of (ps ++ p ∷ []) vs cs ts) (sym (append-nil ws)) ∙ entries_stay ps (p ∷ []) ws [] cs ts all in
    (λ i. entries_of (paged i) ws (pushed i) (told i))
    ∙ entries_add (ps ++ p ∷ []) ws cs ts c t same
    ∙ (λ i. (stay ∙ view) i ++ told_beside (is_whole c.kind) (is_beside c.kind) (get_or ws c.number no_entry) (command_beside c.kind c (get_or (ps ++ p ∷ []) c.number no_page)) (command_of c.kind c) (answer_of t c.number) off beside i ∷ [])
    ∙ (λ i. es ++ (command_beside c.kind c (read i), answer_of t c.number) ∷ [])
    ∙ (λ i. es ++ (is i, answered i) ∷ [])

-- two codes put behind the others, with their entry behind the entries kept whole, add that entry
pub adds_whole : (ps : List StoredPage) (ws ws' : List Entry) (cs cs' : List CommandCode) (ts ts' : List AnswerCode) (c : CommandCode) (t : AnswerCode) (e : Entry) (es : List Entry)
    → length ts ≡ length cs → AreInside (length ps) (length ws) cs → entries_of ps ws cs ts ≡ es → ws' ≡ ws ++ e ∷ [] → cs' ≡ cs ++ c ∷ [] → ts' ≡ ts ++ t ∷ []
    → c.number ≡ length ws → is_whole c.kind ≡ true → entries_of ps ws' cs' ts' ≡ es ++ e ∷ []
adds_whole ps ws ws' cs cs' ts ts' c t e es same all view kept pushed told row whole =
    let stay : entries_of ps (ws ++ e ∷ []) cs ts ≡ entries_of ps ws cs ts =
    ap (λ (qs : List StoredPage). entries_of qs (ws ++ e ∷ []) cs ts) (sym (append-nil ps)) ∙ entries_stay ps [] ws (e ∷ []) cs ts all in
    (λ i. entries_of ps (kept i) (pushed i) (told i))
    ∙ entries_add ps (ws ++ e ∷ []) cs ts c t same
    ∙ (λ i. (stay ∙ view) i ++ (if whole i then get_or (ws ++ e ∷ []) (row i) no_entry else (if is_beside c.kind then command_beside c.kind c (get_or ps c.number no_page) else command_of c.kind c, answer_of t c.number)) ∷ [])
    ∙ ap (λ (x : Entry). es ++ x ∷ []) (get_or-append_seam ws e [] no_entry)

-- rows stay inside where the lists go on
more_inside : (b d : Bool) (p p' w n : ℕ) → p ≤ p' → MatchBool b (n < w) (MatchBool d (n < p) (Unit {0})) → MatchBool b (n < w) (MatchBool d (n < p') (Unit {0}))
more_inside true d p p' w n le lt = lt
more_inside false true p p' w n le lt = omega arith
more_inside false false p p' w n le lt = tt

told_inside : (b d : Bool) (p w n : ℕ) → (not b && not d) ≡ true → MatchBool b (n < w) (MatchBool d (n < p) (Unit {0}))
told_inside true d p w n tells = absurd (true≢false (sym tells))
told_inside false true p w n tells = absurd (true≢false (sym tells))
told_inside false false p w n tells = tt

-- numbers of pages and of whole entries stay in range behind a code that needs neither of them
pub inside_short : (p w : ℕ) (cs cs' : List CommandCode) (c : CommandCode) → AreInside p w cs → cs' ≡ cs ++ c ∷ [] → tells_all c.kind ≡ true → AreInside p w cs'
inside_short p w cs cs' c all pushed tells =
    subst (AreInside p w) (sym pushed) (All-append (λ c. IsInside p w c.kind c.number) cs (c ∷ []) all (one_inside p w c (told_inside (is_whole c.kind) (is_beside c.kind) p w c.number tells)))
  where
    one_inside : (p w : ℕ) (c : CommandCode) → IsInside p w c.kind c.number → AreInside p w (c ∷ [])
    one_inside p w c is zero d lt = is
    one_inside p w c is (suc k) d lt = absurd (omega arith)

-- numbers of pages and of whole entries stay in range behind a code whose page was put behind the pages
pub inside_beside : (p p' w : ℕ) (cs cs' : List CommandCode) (c : CommandCode) → AreInside p w cs → cs' ≡ cs ++ c ∷ [] → p' ≡ suc p → c.number ≡ p → is_whole c.kind ≡ false → is_beside c.kind ≡ true
    → AreInside p' w cs'
inside_beside p p' w cs cs' c all pushed more row off beside =
    subst (AreInside p' w) (sym pushed) (All-append (λ c. IsInside p' w c.kind c.number) cs (c ∷ []) (λ k d lt. more_inside (is_whole (get_or cs k d).kind) (is_beside (get_or cs k d).kind) p p' w (get_or cs k d).number (omega (arith, more)) (all k d lt))
    (one_inside (here (is_whole c.kind) (is_beside c.kind) off beside)))
  where
    here : (b d : Bool) → b ≡ false → d ≡ true → MatchBool b (c.number < w) (MatchBool d (c.number < p') (Unit {0}))
    here true d off is = absurd (true≢false off)
    here false false off is = absurd (true≢false (sym is))
    here false true off is = omega (arith, more, row)

    one_inside : IsInside p' w c.kind c.number → AreInside p' w (c ∷ [])
    one_inside is zero d lt = is
    one_inside is (suc k) d lt = absurd (omega arith)
