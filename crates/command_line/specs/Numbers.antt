-- The values of single words: alignments, addresses, numbers of bytes, owners. (This
-- project's own.)
use Rattle.std.specs.Prelude.{◌≡◌, ◌*◌, ◌^◌, ◌||◌, ℕ, List, [], ◌∷◌, ◌++◌, codes, find, drop, true}
use Rattle.std.specs.Prelude.{Bool, false, not}
use Rattle.std.specs.Prelude.{Option, Some, None, option_map, ◌==◌, if◌then◌else◌}
use Rattle.std.specs.Borrow.{Bor}
use Rattle.std.specs.List.{list_any, starts_with}
use Rattle.std.specs.Str.Parse.{IsNumeral, digits_value}
use Rattle.std.specs.Str.{bytes_eq}
use Rattle.command_line.specs.declared.request.AlignRule.{AlignRule}
use Rattle.command_line.specs.declared.request.Owner.{Owner}

-- the words of the alignments that a manifest may have, in bytes or in units of 1,024
abbrev pub align_words : List (List ℕ × ℕ)
align_words =
    (codes "4", 4) ∷ (codes "8", 8) ∷ (codes "16", 16) ∷ (codes "32", 32) ∷ (codes "64", 64)
    ∷ (codes "128", 128)
    ∷ (codes "256", 256) ∷ (codes "512", 512) ∷ (codes "1024", 1024) ∷ (codes "2048", 2048)
    ∷ (codes "4096", 4096)
    ∷ (codes "8192", 8192) ∷ (codes "16384", 16384) ∷ (codes "32768", 32768)
    ∷ (codes "65536", 65536)
    ∷ (codes "4K", 4096) ∷ (codes "8K", 8192) ∷ (codes "16K", 16384) ∷ (codes "32K", 32768)
    ∷ (codes "64K", 65536)
    ∷ (codes "4k", 4096) ∷ (codes "8k", 8192) ∷ (codes "16k", 16384) ∷ (codes "32k", 32768)
    ∷ (codes "64k", 65536) ∷ []

-- the alignment that a word names
abbrev pub align_named : List ℕ → Option ℕ
align_named word = option_map (λ p. p.1) (find (λ p. bytes_eq p.0 word) align_words)

-- the bytes are this number in digits of this radix
abbrev pub IsNumber : ℕ → List ℕ → ℕ → Type 0
IsNumber radix digits n = IsNumeral radix digits × (digits_value radix digits ≡ n)

-- the digits of an address, without `0x` in front
abbrev pub address_digits : List ℕ → List ℕ
address_digits word = if starts_with (λ a b. a == b) word (codes "0x") then drop 2 word else word

-- a word is this address
abbrev pub IsAddress : List ℕ → ℕ → Type 0
IsAddress word n = IsNumber 16 (address_digits word) n

-- the address that the option names, or 0 without it
abbrev pub IsBaseOf : Option (List ℕ) → ℕ → Type 0
IsBaseOf None n = n ≡ 0
IsBaseOf (Some word) n = IsAddress word n

-- each word is the address at the same index
pub data AreAddresses : List (List ℕ) → List ℕ → Type 0 where
  no_address : AreAddresses [] []
  next_address : (ws : List (List ℕ)) (ns : List ℕ) (w : List ℕ) (n : ℕ) → AreAddresses ws ns
      → IsAddress w n → AreAddresses (ws ++ w ∷ []) (ns ++ n ∷ [])

-- the number of bytes of a unit, by its letter: K, M or G, capital or small
abbrev pub unit_of : ℕ → Option ℕ
unit_of letter =
    if (letter == 75) || (letter == 107) then Some (2 ^ 10) else
    if (letter == 77) || (letter == 109) then Some (2 ^ 20) else
    if (letter == 71) || (letter == 103) then Some (2 ^ 30) else None

-- a word is this number of bytes: hexadecimal digits after `0x`; or decimal digits, after which the
-- letter of a unit may be
pub data IsSize (word : List ℕ) (n : ℕ) : Type 0 where
  in_hexadecimal : starts_with (λ a b. a == b) word (codes "0x") ≡ true
      → IsNumber 16 (drop 2 word) n → IsSize word n
  in_decimal : IsNumber 10 word n → IsSize word n
  in_units : (digits : List ℕ) (letter unit k : ℕ) → word ≡ digits ++ letter ∷ []
      → unit_of letter ≡ Some unit → IsNumber 10 digits k → n ≡ k * unit → IsSize word n

-- a word is this owner: the numbers of a user and a group in decimal digits, with a colon between
-- them
pub data IsOwner (word : List ℕ) (o : Owner) : Type 0 where
  user_and_group : (user group : List ℕ) → word ≡ user ++ (codes ":" ++ group)
      → IsNumber 10 user o.uid
      → IsNumber 10 group o.gid → IsOwner word o

-- a word is this rule: a pattern and an alignment, with an equals sign between them
pub data IsAlignRule (word : List ℕ) (r : AlignRule) : Type 0 where
  pattern_and_align : (number : List ℕ) → word ≡ r.pattern.now ++ (codes "=" ++ number)
      → align_named number ≡ Some r.align → IsAlignRule word r

-- A word changes the alignment of files that match no pattern, or adds a rule.
pub data NotesAlign (word : List ℕ) (old new : ℕ × List AlignRule) : Type 0 where
  usual_align : align_named word ≡ Some new.0 → new.1 ≡ old.1 → NotesAlign word old new
  another_rule : (r : AlignRule) → IsAlignRule word r → new.0 ≡ old.0 → new.1 ≡ old.1 ++ r ∷ []
      → NotesAlign word old new

-- The words say the alignment of files that match no pattern, which is otherwise 4, and the rules
-- in their order.
pub data AreAligns : List (List ℕ) → ℕ × List AlignRule → Type 0 where
  no_align : AreAligns [] (4, [])
  next_align : (ws : List (List ℕ)) (w : List ℕ) (old new : ℕ × List AlignRule) → AreAligns ws old
      → NotesAlign w old new → AreAligns (ws ++ w ∷ []) new

-- a text with bytes, none of them a space or a line feed
abbrev pub is_plain : List ℕ → Bool
is_plain [] = false
is_plain (b ∷ bs) = not (list_any (λ a. (a == 32) || (a == 10)) (b ∷ bs))

-- the words PATH, TYPE, MAJOR, MINOR and MODE of a device
abbrev pub DeviceWords : Type 0
DeviceWords =
    Bor (List ℕ) × Bor (List ℕ) × Bor (List ℕ) × Bor (List ℕ) × Bor (List ℕ)

-- a word is this device: plain texts with a space between each and the next
pub record IsDevice (word : List ℕ) (d : DeviceWords) : Type 0 where
  pub texts : word ≡ d.0.now ++ (codes " " ++ (d.1.now ++ (codes " " ++ (d.2.now ++ (codes " "
      ++ (d.3.now ++ (codes " " ++ d.4.now)))))))
  pub path : is_plain d.0.now ≡ true
  pub kind : is_plain d.1.now ≡ true
  pub major : is_plain d.2.now ≡ true
  pub minor : is_plain d.3.now ≡ true
  pub mode : is_plain d.4.now ≡ true

-- A word adds a device.
pub data NotesDevice (word : List ℕ) (old new : List DeviceWords) : Type 0 where
  another_device : (d : DeviceWords) → IsDevice word d → new ≡ old ++ d ∷ []
      → NotesDevice word old new

-- each word is the device at the same index
pub data AreDevices : List (List ℕ) → List DeviceWords → Type 0 where
  no_device : AreDevices [] []
  next_device : (ws : List (List ℕ)) (w : List ℕ) (old new : List DeviceWords)
      → AreDevices ws old → NotesDevice w old new → AreDevices (ws ++ w ∷ []) new

-- a value is the one that the word names; without the word there is none
abbrev pub IsOptional : {X : Type 0} → (List ℕ → X → Type 0) → Option (List ℕ) → Option X → Type 0
IsOptional P None None = Unit {0}
IsOptional P None (Some x) = ⊥
IsOptional P (Some word) None = ⊥
IsOptional P (Some word) (Some x) = P word x

-- the alignment that an option names, or 4 if it is not given
abbrev pub IsAlignOf : Option (List ℕ) → ℕ → Type 0
IsAlignOf None n = n ≡ 4
IsAlignOf (Some word) n = align_named word ≡ Some n
