-- The hexadecimal texts of a page's content (own).
use Rattle.std.specs.Prelude.{◌≡◌, true, ℕ, Bool, ◌+◌, ◌*◌, not, ◌==◌, nat_lt, List, length, map, take, drop, Option, Some, None, slice_index, if◌then◌else◌}
use Rattle.std.specs.Char.{digit_value, is_ascii_hexdigit}
use Rattle.std.specs.Int.{w64, from_le_bytes}
use Rattle.std.specs.List.{list_all, range_with_len}
use Rattle.ksm_base.specs.declared.page.TheConstants.{PAGE_WORDS}

-- the value of a hexadecimal digit, 0 of any other byte
abbrev pub hex_value : ℕ → ℕ
hex_value byte = if nat_lt (digit_value byte) 16 then digit_value byte else 0

-- the same, and 255 of any other byte
abbrev pub digit_or_none : ℕ → ℕ
digit_or_none byte = if is_ascii_hexdigit byte then digit_value byte else 255

-- the value of some digit
abbrev pub is_small : ℕ → Bool
is_small value = nat_lt value 16

-- the values of digits, and of any other byte one that is no digit's
abbrev pub AreValues : List ℕ → List ℕ → Type 0
AreValues digits values = (list_all is_small values ≡ list_all is_ascii_hexdigit digits)
    × (list_all is_ascii_hexdigit digits ≡ true → values ≡ map hex_value digits)

-- the byte that the digits 2k and 2k + 1 of a text write
abbrev pub byte_at : List ℕ → ℕ → ℕ
byte_at text k = hex_value (slice_index text (2 * k)) * 16 + hex_value (slice_index text (2 * k + 1))

-- word i of a page of such bytes: eight bytes, the first in the lowest eight bits
abbrev pub word_at : (ℕ → ℕ) → ℕ → ℕ
word_at byte i = from_le_bytes w64 (map (λ j. byte (8 * i + j)) (range_with_len 0 8))

-- the page of such bytes
abbrev pub page_of : (ℕ → ℕ) → List ℕ
page_of byte = map (word_at byte) (range_with_len 0 PAGE_WORDS)

-- the page that digits of either case write: two of them fill all its bytes, or there are two for each byte
abbrev pub content_of : List ℕ → Option (List ℕ)
content_of text =
    if not (list_all is_ascii_hexdigit text) then None
    else if length text == 2 then Some (page_of (λ k. byte_at text 0))
    else if length text == 16 * PAGE_WORDS then Some (page_of (byte_at text))
    else None

-- the byte that the values 2k and 2k + 1 of digits make
abbrev pub pair_in : List ℕ → ℕ → ℕ
pair_in values k = slice_index values (2 * k) * 16 + slice_index values (2 * k + 1)

-- the digits of word i of a page
abbrev pub digits_of_word : List ℕ → ℕ → List ℕ
digits_of_word text i = take 16 (drop (16 * i) text)

-- the page that as many digits as a page has write
abbrev pub page_of_digits : List ℕ → Option (List ℕ)
page_of_digits text = if list_all is_ascii_hexdigit text then Some (page_of (byte_at text)) else None
