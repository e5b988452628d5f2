-- Lines at the front of a text, word by word, each with the byte behind it.
use Rattle.ksm_lines.proofs.Names.{[], All, All-append, All-cons, ap, append_assoc, AreWritten, arith, BeginsWith, Bool, cond, content_of, decimal, decimal-digits_value, digits_decimal, digits_value}
use Rattle.ksm_lines.proofs.Names.{drop, false, form_in, get_or, get_or-take, GuestPage, is_ascii_digit, is_ascii_hexdigit, IsLine, IsOf, IsReadTo, IsWritten, kind_of, Knob, knob_name, length}
use Rattle.ksm_lines.proofs.Names.{length-take-le, Line, line_at, List, list_all, made, Makes, None, not, OfKnob, Option, Part, refl, Shown, shown_name, slice_split_at, slice_split_none, Some, subst}
use Rattle.ksm_lines.proofs.Names.{sym, take, Told, true, Values, words_of, ℕ, ◌++◌, ◌+◌, ◌-◌, ◌<◌, ◌^◌, ◌∙◌, ◌∷◌, ◌≡◌, ◌≢◌, ◌≤◌}
use Rattle.ksm_lines.proofs.Names.parts
use Rattle.ksm_lines.proofs.Numbers.{own}
use Rattle.ksm_lines.proofs.Front.{parted_at}
use Rattle.ksm_lines.proofs.Lines.{above_space, line_takes, shown_above}
use Rattle.ksm_lines.proofs.Words.{each, is_space, other}

-- a word has neither a space nor a newline
abbrev pub IsWord : List ℕ → Type 0
IsWord word = All (λ byte. is_space byte ≡ false) word × All (λ byte. byte ≢ 10) word

-- bytes that pass a test are a word, where neither a space nor a newline passes it
pub word_of : (p : ℕ → Bool) (word : List ℕ) → p 32 ≡ false → p 10 ≡ false → list_all p word ≡ true → IsWord word
word_of p word space newline passes = (each p (λ byte. is_space byte ≡ false) word (λ byte. other p 32 byte space) passes, each p (λ byte. byte ≢ 10) word (λ byte h is. absurd (cc (sym h ∙ ap p is ∙ newline))) passes)

-- the decimal of a number is a word
pub decimal_is_word : (n : ℕ) → n < 2 ^ 32 → IsWord (decimal n)
decimal_is_word n small = word_of is_ascii_digit (decimal n) refl refl (digits_decimal own n (omega arith))

-- a content is a word
pub content_is_word : (word page : List ℕ) → content_of word ≡ Some page → IsWord word
content_is_word word page read = word_of is_ascii_hexdigit word refl refl (of (list_all is_ascii_hexdigit word) _ read)
  where
    of : (digits : Bool) (found : Option (List ℕ)) → cond (not digits) None found ≡ Some page → digits ≡ true
    of true found e = refl
    of false found e = absurd cc

-- the name of what is shown is a word
shown_is_word : (named : Shown) → IsWord (shown_name named)
shown_is_word named = word_of above_space (shown_name named) refl refl (shown_above named)

-- ---- a number that was read

-- a text whose first digits were read as a number is the number's decimal, the byte behind, and the rest
pub number_in_front : (text : List ℕ) (at value end : ℕ) → IsReadTo at text value → at < length text → 0 < at → (get_or text 0 0 ≡ 48 → at ≤ 1)
    → get_or text at 0 ≡ end → text ≡ decimal value ++ end ∷ take (length text - (at + 1)) (drop (at + 1) text)
number_in_front text at value end read lt long single is =
    let word = take at text in
    let size : length word ≡ at = length-take-le at text (omega arith) in
    let first : get_or word 0 0 ≡ get_or text 0 0 = get_or-take at text 0 0 long in
    let wide : digits_value 10 word < 2 ^ 64 = omega (arith, read.1, read.2) in
    let written : decimal (digits_value 10 word) ≡ word =
    decimal-digits_value own word read.0 (omega (arith, size)) (λ e. let short = single (sym first ∙ e) in omega (arith, short, size)) wide in
    parted_at text at end lt is ∙ ap (λ w. w ++ end ∷ take (length text - (at + 1)) (drop (at + 1) text)) (sym written ∙ ap decimal (sym read.1))

-- ---- the words of a line

-- a text begins with words that write values, and a newline
pub record Leads (parts : List Part) (told : Values parts) (text rest : List ℕ) : Type 0 where
  pub line : List ℕ
  pub written : AreWritten parts told (words_of line)
  pub plain : All (λ byte. byte ≢ 10) line
  pub is : text ≡ line ++ 10 ∷ rest

-- a word and a newline are a line
pub last : (part : Part) (told : Told (kind_of part)) (word text rest : List ℕ) → IsWord word → IsWritten (kind_of part) told word → text ≡ word ++ 10 ∷ rest → Leads (part ∷ []) (told, tt) text rest
last part told word text rest is writes same =
    record {
      line = word;
      written = subst (λ (words : List (List ℕ)). AreWritten (part ∷ []) (told, tt) words) (sym (slice_split_none is_space word is.0)) (writes, tt);
      plain = is.1;
      is = same;
    }

-- a word before others, with the space between
module _ (word text behind rest : List ℕ) (is : IsWord word) (same : text ≡ word ++ 32 ∷ behind) (parts : List Part) (told : Values parts) (later : Leads parts told behind rest) where
  words : words_of (word ++ 32 ∷ later.line) ≡ word ∷ words_of later.line
  words = slice_split_at is_space word 32 later.line is.0 refl

  plain : All (λ byte. byte ≢ 10) (word ++ 32 ∷ later.line)
  plain = All-append (λ byte. byte ≢ 10) word (32 ∷ later.line) is.1 (All-cons (λ byte. byte ≢ 10) 32 later.line (λ e. omega arith) later.plain)

  all : text ≡ (word ++ 32 ∷ later.line) ++ 10 ∷ rest
  all = same ∙ ap (λ l. word ++ 32 ∷ l) later.is ∙ sym (append_assoc word (32 ∷ later.line) (10 ∷ rest))

  pub more : (part : Part) (first : Told (kind_of part)) → IsWritten (kind_of part) first word → Leads (part ∷ parts) (first, told) text rest
  more part first writes =
      record {
        line = word ++ 32 ∷ later.line;
        written = subst (λ (ws : List (List ℕ)). AreWritten (part ∷ parts) (first, told) ws) (sym words) (writes, later.written);
        plain = plain;
        is = all;
      }

  -- the first word of a line, the name of a form
  pub begins : (makes : Makes parts) → form_in word ≡ Some (word, parts, makes) → BeginsWith (made parts makes told) text rest
  begins makes named =
      let is = subst (λ o. IsOf (made parts makes told) o (words_of later.line)) (sym named) (told, refl, later.written) in
      (word ++ 32 ∷ later.line, subst (λ (ws : List (List ℕ)). IsLine (made parts makes told) ws) (sym words) is, plain, all)

-- ---- the lines

-- a name without spaces and what its parts write are a line of that name
pub line : (name : List ℕ) {parts : List Part} {told : Values parts} {makes : Makes parts} {text left rest : List ℕ} → list_all above_space name ≡ true
    → form_in name ≡ Some (name, parts, makes) → text ≡ name ++ 32 ∷ left → Leads parts told left rest → BeginsWith (made parts makes told) text rest
line name {parts = parts} {told = told} {makes = makes} above named is later =
    begins name _ _ _ (word_of above_space name refl refl above) is parts told later makes named

-- a line of one word
pub bare : (name : List ℕ) (form : Line) {text rest : List ℕ} → list_all above_space name ≡ true → line_at (words_of name) ≡ Some form → text ≡ name ++ 10 ∷ rest → BeginsWith form text rest
bare name form above read is = (name, line_takes form (words_of name) read, (word_of above_space name refl refl above).1, is)

-- the last word is a number
pub number_last : {text rest : List ℕ} (part : Part) (told : Told (kind_of part)) {n : ℕ} → text ≡ decimal n ++ 10 ∷ rest → n < 2 ^ 32 → IsWritten (kind_of part) told (decimal n)
    → Leads (part ∷ []) (told, tt) text rest
number_last part told is fits writes = last part told (decimal _) _ _ (decimal_is_word _ fits) writes is

pub guest_last : {text rest : List ℕ} (n : ℕ) → text ≡ decimal n ++ 10 ∷ rest → n < 2 ^ 16 → Leads (parts.Guest ∷ []) (n, tt) text rest
guest_last n is fits = number_last parts.Guest n is (omega arith) (fits, refl)

-- the last word is a content
pub content_last : {text rest bytes : List ℕ} → (word : List ℕ) × (content_of word ≡ Some bytes) × (text ≡ word ++ 10 ∷ rest) → Leads (parts.Content ∷ []) (bytes, tt) text rest
content_last h = last parts.Content _ h.0 _ _ (content_is_word h.0 _ h.1) h.1 h.2

module _ {text behind rest : List ℕ} {others : List Part} {told : Values others} where
  -- a number stands before others
  pub number_more : (part : Part) (first : Told (kind_of part)) {n : ℕ} → text ≡ decimal n ++ 32 ∷ behind → n < 2 ^ 32 → IsWritten (kind_of part) first (decimal n)
      → Leads others told behind rest → Leads (part ∷ others) (first, told) text rest
  number_more part first is fits writes later = more (decimal _) _ _ _ (decimal_is_word _ fits) is _ _ later part first writes

  pub guest_more : (n : ℕ) → text ≡ decimal n ++ 32 ∷ behind → n < 2 ^ 16 → Leads others told behind rest → Leads (parts.Guest ∷ others) (n, told) text rest
  guest_more n is fits later = number_more parts.Guest n is (omega arith) (fits, refl) later

  -- the name of a knob stands before others
  pub knob_more : {named : Knob} {left : List ℕ} → text ≡ knob_name named ++ left → left ≡ 32 ∷ behind → Leads others told behind rest → Leads (parts.Knob ∷ others) (named, told) text rest
  knob_more {named = named} is space later =
      more (knob_name named) _ _ _ (shown_is_word (OfKnob named)) (is ∙ ap (λ l. knob_name named ++ l) space) _ _ later parts.Knob named refl

-- the last two words are a page
pub page_last : {text rest : List ℕ} (page : GuestPage) → text ≡ decimal page.guest ++ 32 ∷ (decimal page.page ++ 10 ∷ rest) → (page.guest < 2 ^ 16) × (page.page < 2 ^ 32)
    → Leads (parts.Guest ∷ parts.Page ∷ []) (page.guest, (page.page, tt)) text rest
page_last page is fits = guest_more page.guest is fits.0 (number_last parts.Page page.page refl fits.1 (fits.1, refl))

-- the last word is the name of what is shown
pub shown_last : {text left rest : List ℕ} {named : Shown} → text ≡ shown_name named ++ left → left ≡ 10 ∷ rest → Leads (parts.Shown ∷ []) (named, tt) text rest
shown_last {named = named} is newline = last parts.Shown named (shown_name named) _ _ (shown_is_word named) refl (is ∙ ap (λ l. shown_name named ++ l) newline)
