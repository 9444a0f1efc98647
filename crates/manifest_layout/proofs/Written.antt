-- What each line of a manifest has, whatever is before it.
use Rattle.std.proofs.Common.{◌≡◌, ◌≢◌, ℕ, ◌+◌, ◌*◌, ◌<◌, ◌==◌, nat_lt, Bool, true, false, cond, List, [], ◌∷◌, length}
use Rattle.std.proofs.Common.{reverse, codes, Option, None, Some, Result, Ok, Err, ◌⊎◌, inl, inr, refl, sym, ap, subst}
use Rattle.std.proofs.Common.{◌∙◌, arith}
use Rattle.std.proofs.lemmas.Bool.{ltb-true}
use Rattle.std.proofs.lemmas.Bool.Decides.{eqb_tells}
use Rattle.std.specs.List.{list_any, AllByRecursion as Every}
use Rattle.std.specs.Option.{option_map}
use Rattle.std.specs.Str.{bytes_eq}
use Rattle.std.specs.Char.{digit_value}
use Rattle.percent_encoding.specs.Percent.{percent_decode, is_escape}
use Rattle.record_forest.specs.Members.{Pairs}
use Rattle.record_forest.proofs.Lists.{every_weaker, pairs_weaker}
use Rattle.manifest.specs.declared.line.Line.{Line}
use Rattle.manifest.specs.declared.line.Word.{Word}
use Rattle.manifest.specs.declared.line.Word.TheVariants.{Dir, File, Slink, Block, Character, Fifo, Socket, Hard, Same}
use Rattle.manifest.specs.declared.numbers.Numbers.{Numbers}
use Rattle.manifest.specs.declared.error.TheConstants.{BAD_WORD, BAD_PATH, EXISTS}
use Rattle.manifest.specs.Texts.{pieces, is_empty, is_bad, octal, decimal, digits_from, below}
use Rattle.manifest.specs.Lines.{ManifestLines}
use Rattle.manifest.specs.Grammar.{Fault, Fields, Seen, manifest_of, read_lines, read, read_by, read_volume}
use Rattle.manifest.specs.Grammar.{read_fields, read_numbers, with_line, with_numbers, numbers_of, all_numbers, line_of}
use Rattle.manifest.specs.Grammar.{fields_of, volume_field, three_fields, five_fields, six_fields, seven_fields}
use Rattle.manifest.specs.Grammar.{eight_fields, device, device_word, plain_fields, no_mode, zero_text, fault, fault_of}
use Rattle.manifest.specs.Grammar.{is_skipped, and_then, as_manifest, nothing_read}
use Rattle.manifest_layout.proofs.Bools.{true_is_not_false, same_some, or_false}
use Rattle.manifest.proofs.Digits.{stays_small}

abbrev pub is_device : Word → Bool
is_device Block = true
is_device Character = true
is_device _ = false

abbrev pub is_slink : Word → Bool
is_slink Slink = true
is_slink _ = false

-- what a line has
pub record IsLine (l : Line) : Type 0 where
  pub mode : l.mode < 4096
  pub numbers : is_device l.word ≡ false → (l.major ≡ 0) × (l.minor ≡ 0)
  pub text : is_slink l.word ≡ true → 0 < length l.text

record FieldsFit (f : Fields) : Type 0 where
  numbers : is_device f.word ≡ false → (f.major ≡ zero_text) × (f.minor ≡ zero_text)
  text : is_slink f.word ≡ true → is_empty f.text ≡ false

-- fields of a line that is no device, and no link or with a text
plain_fit : (w : Word) (path mode uid gid align text : List ℕ) → (is_slink w ≡ true → is_empty text ≡ false)
    → FieldsFit (plain_fields w path mode uid gid align text)
plain_fit w path mode uid gid align text h = record { numbers = λ _. (refl, refl); text = h }

-- a choice between fields, and what all of them have
fit_by : (b : Bool) (g f : Fields) (o : Option Fields) → FieldsFit g → (o ≡ Some f → FieldsFit f)
    → cond b (Some g) o ≡ Some f → FieldsFit f
fit_by true g f o h k e = subst FieldsFit (same_some e) h
fit_by false g f o h k e = k e

no_fields : (f : Fields) → None ≡ Some f → FieldsFit f
no_fields f e = absurd (cc)

three_fit : (w a b : List ℕ) (f : Fields) → three_fields w a b ≡ Some f → FieldsFit f
three_fit w a b f e = fit_by (bytes_eq w (codes "hard"))
    (plain_fields Hard a no_mode zero_text zero_text zero_text b) f None
    (plain_fit Hard a no_mode zero_text zero_text zero_text b (λ z. absurd (cc))) (no_fields f) e

five_fit : (w a b c d : List ℕ) (f : Fields) → five_fields w a b c d ≡ Some f → FieldsFit f
five_fit w a b c d f e =
    fit_by (bytes_eq w (codes "dir")) (plain_fields Dir a b c d zero_text []) f _
    (plain_fit Dir a b c d zero_text [] (λ z. absurd (cc)))
    (fit_by (bytes_eq w (codes "pipe")) (plain_fields Fifo a b c d zero_text []) f _
    (plain_fit Fifo a b c d zero_text [] (λ z. absurd (cc)))
    (fit_by (bytes_eq w (codes "sock")) (plain_fields Socket a b c d zero_text []) f None
    (plain_fit Socket a b c d zero_text [] (λ z. absurd (cc))) (no_fields f))) e

six_fit : (w a b c d t : List ℕ) (f : Fields) → is_empty t ≡ false → six_fields w a b c d t ≡ Some f → FieldsFit f
six_fit w a b c d t f s e =
    fit_by (bytes_eq w (codes "slink")) (plain_fields Slink a b c d zero_text t) f _
    (plain_fit Slink a b c d zero_text t (λ z. s))
    (fit_by (bytes_eq w (codes "same")) (plain_fields Same a b c d zero_text t) f None
    (plain_fit Same a b c d zero_text t (λ z. absurd (cc))) (no_fields f)) e

seven_fit : (w a b c d g t : List ℕ) (f : Fields) → seven_fields w a b c d g t ≡ Some f → FieldsFit f
seven_fit w a b c d g t f e = fit_by (bytes_eq w (codes "file")) (plain_fields File a b c d g t) f None
    (plain_fit File a b c d g t (λ z. absurd (cc))) (no_fields f) e

device_fit : (o : Option Word) (a b c d g h : List ℕ) (f : Fields)
    → ((w : Word) → o ≡ Some w → (is_device w ≡ true) × (is_slink w ≡ false)) → device o a b c d g h ≡ Some f
    → FieldsFit f
device_fit None a b c d g h f k e = absurd (cc)
device_fit (Some w) a b c d g h f k e =
    let s = k w refl in
    subst FieldsFit (same_some e) (record {
      numbers = λ z. absurd (true_is_not_false (is_device w) s.0 z);
      text = λ z. absurd (true_is_not_false (is_slink w) z s.1);
    })

letter_fit : (x : List ℕ) (w : Word) → device_word x ≡ Some w → (is_device w ≡ true) × (is_slink w ≡ false)
letter_fit x w e = by (bytes_eq x (codes "b")) (bytes_eq x (codes "c")) e
  where
    by : (a b : Bool) → cond a (Some Block) (cond b (Some Character) None) ≡ Some w
        → (is_device w ≡ true) × (is_slink w ≡ false)
    by true b h = let s : Block ≡ w = same_some h in (ap is_device (sym s), ap is_slink (sym s))
    by false true h = let s : Character ≡ w = same_some h in (ap is_device (sym s), ap is_slink (sym s))
    by false false h = absurd (cc)

eight_fit : (w a b c d x g h : List ℕ) (f : Fields) → eight_fields w a b c d x g h ≡ Some f → FieldsFit f
eight_fit w a b c d x g h f e = by (bytes_eq w (codes "nod")) e
  where
    by : (t : Bool) → cond t (device (device_word x) a b c d g h) None ≡ Some f → FieldsFit f
    by true k = device_fit (device_word x) a b c d g h f (letter_fit x) k
    by false k = absurd (cc)

fields_fit : (fs : List (List ℕ)) (f : Fields) → list_any is_empty fs ≡ false → fields_of fs ≡ Some f → FieldsFit f
fields_fit [] f h e = absurd (cc)
fields_fit (w ∷ []) f h e = absurd (cc)
fields_fit (w ∷ a ∷ []) f h e = absurd (cc)
fields_fit (w ∷ a ∷ b ∷ []) f h e = three_fit w a b f e
fields_fit (w ∷ a ∷ b ∷ c ∷ []) f h e = absurd (cc)
fields_fit (w ∷ a ∷ b ∷ c ∷ d ∷ []) f h e = five_fit w a b c d f e
fields_fit (w ∷ a ∷ b ∷ c ∷ d ∷ t ∷ []) f h e =
    let s1 = or_false (is_empty w) _ h in
    let s2 = or_false (is_empty a) _ s1.1 in
    let s3 = or_false (is_empty b) _ s2.1 in
    let s4 = or_false (is_empty c) _ s3.1 in
    let s5 = or_false (is_empty d) _ s4.1 in
    six_fit w a b c d t f (or_false (is_empty t) false s5.1).0 e
fields_fit (w ∷ a ∷ b ∷ c ∷ d ∷ g ∷ t ∷ []) f h e = seven_fit w a b c d g t f e
fields_fit (w ∷ a ∷ b ∷ c ∷ d ∷ x ∷ g ∷ t ∷ []) f h e = eight_fit w a b c d x g t f e
fields_fit (w ∷ a ∷ b ∷ c ∷ d ∷ x ∷ g ∷ t ∷ u ∷ more) f h e = absurd (cc)

-- numbers that are all there
all_there : (a b c d e g : Option ℕ) (k : Numbers) → all_numbers a b c d e g ≡ Some k
    → (a ≡ Some k.mode) × (e ≡ Some k.major) × (g ≡ Some k.minor)
all_there (Some a) (Some b) (Some c) (Some d) (Some e) (Some g) k h =
    let s = same_some h in (
      ap (λ (x : Numbers). Some x.mode) s,
      ap (λ (x : Numbers). Some x.major) s,
      ap (λ (x : Numbers). Some x.minor) s,
    )
all_there None b c d e g k h = absurd (cc)
all_there (Some a) None c d e g k h = absurd (cc)
all_there (Some a) (Some b) None d e g k h = absurd (cc)
all_there (Some a) (Some b) (Some c) None e g k h = absurd (cc)
all_there (Some a) (Some b) (Some c) (Some d) None g k h = absurd (cc)
all_there (Some a) (Some b) (Some c) (Some d) (Some e) None k h = absurd (cc)

-- a mode has twelve bits
octal_small : (bs : List ℕ) (n : ℕ) → octal bs ≡ Some n → n < 4096
unfolding octal
octal_small bs n h = by (eqb_tells (length bs) 4)
  where
    small : below 4096 (Some n) ≡ Some n → n < 4096
    small e = elim (nat_lt n 4096) as (λ t. nat_lt n 4096 ≡ t → cond t (Some n) None ≡ Some n → n < 4096)
        [ true ↦ λ g k. ltb-true n 4096 g | false ↦ λ g k. absurd (cc) ] refl e

    by : (((length bs == 4) ≡ true) × (length bs ≡ 4)) ⊎ (((length bs == 4) ≡ false) × (length bs ≢ 4)) → n < 4096
    by (inl t) =
        let d : digits_from 8 0 bs ≡ Some n = (rw t.0 at h) in
        small (sym (ap (below 4096) d) ∙ (stays_small 4096 8 0 bs (rw t.1 (omega arith)) ∙ d))
    by (inr t) = let d : None ≡ Some n = (rw t.0 at h) in absurd (cc)

zero_is : (t : List ℕ) (n : ℕ) → t ≡ zero_text → decimal t ≡ Some n → n ≡ 0
unfolding decimal
zero_is t n e h = let d : Some 0 ≡ Some n = sym (ap decimal e) ∙ h in sym (same_some d)

-- what is decoded is not empty if its code is not
decoded_some : (t : List ℕ) → is_empty t ≡ false → 0 < length (percent_decode t)
unfolding percent_decode
decoded_some [] h = absurd (cc)
decoded_some (b ∷ []) h = omega arith
decoded_some (b ∷ c ∷ []) h = omega arith
decoded_some (b ∷ c ∷ d ∷ rest) h =
    by (is_escape b c d) (percent_decode rest) (percent_decode (c ∷ d ∷ rest)) (16 * digit_value c + digit_value d)
  where
    by : (t : Bool) (xs ys : List ℕ) (x : ℕ) → 0 < length (cond t (x ∷ xs) (b ∷ ys))
    by true xs ys x = omega arith
    by false xs ys x = omega arith

line_fits : (n : ℕ) (f : Fields) (l : Line) → FieldsFit f → line_of n f ≡ Some l → IsLine l × (l.number ≡ n)
unfolding numbers_of
line_fits n f l h e = by (numbers_of f) refl e
  where
    made : (k : Numbers) → numbers_of f ≡ Some k → IsLine (with_numbers n f k)
    made k g =
        let t = all_there (octal f.mode) (decimal f.uid) (decimal f.gid) (decimal f.align) (decimal f.major)
        (decimal f.minor) k g in
        record {
          mode = octal_small f.mode k.mode t.0;
          numbers = λ z. (zero_is f.major k.major (h.numbers z).0 t.1, zero_is f.minor k.minor (h.numbers z).1 t.2);
          text = λ z. decoded_some f.text (h.text z);
        }

    by : (o : Option Numbers) → numbers_of f ≡ o → option_map (with_numbers n f) o ≡ Some l → IsLine l × (l.number ≡ n)
    by None g k = absurd (cc)
    by (Some x) g k = let s = same_some k in (subst IsLine s (made x g), ap (λ (y : Line). y.number) (sym s))

-- what was read before line n
pub record IsRead (n : ℕ) (s : Seen) : Type 0 where
  pub lines : Every IsLine s.latest
  pub numbered : Every (λ l. (0 < l.number) × (l.number < n)) s.latest
  pub rises : Pairs (λ l k. k.number < l.number) s.latest
  pub volume : is_bad 255 s.volume ≡ false

same_ok : {s t : Seen} → ◌≡◌ {A = Result Seen Fault} (Ok s) (Ok t) → s ≡ t
same_ok e = cc

later : (n : ℕ) (s : Seen) → IsRead n s → IsRead (n + 1) s
later n s h = record {
  lines = h.lines;
  numbered = every_weaker (λ (l : Line). (0 < l.number) × (l.number < n))
      (λ (l : Line). (0 < l.number) × (l.number < n + 1))
      (λ l k. let a = k.0 in let b = k.1 in (a, omega arith)) s.latest h.numbered;
  rises = h.rises;
  volume = h.volume;
}

by_line : (s t : Seen) (n : ℕ) (l : Line) (o : Option ℕ) → 0 < n → IsLine l → l.number ≡ n → IsRead n s
    → with_line s n l o ≡ Ok t → IsRead (n + 1) t
by_line s t n l (Some k) pos i e h g = absurd (cc)
by_line s t n l None pos i e h g =
    let up = later n s h in
    subst (IsRead (n + 1)) (same_ok g) (record {
      lines = (i, h.lines);
      numbered = ((omega (arith, e, pos), omega (arith, e)), up.numbered);
      rises = (
        every_weaker (λ (k : Line). (0 < k.number) × (k.number < n)) (λ (k : Line). k.number < l.number)
            (λ k x. let u = x.1 in omega (arith, e, u)) s.latest h.numbered,
        h.rises,
      );
      volume = h.volume;
    })

by_fields : (s t : Seen) (n : ℕ) (o : Option Fields) → 0 < n → ((f : Fields) → o ≡ Some f → FieldsFit f) → IsRead n s
    → read_fields s n o ≡ Ok t → IsRead (n + 1) t
by_fields s t n None pos k h g = absurd (cc)
by_fields s t n (Some f) pos k h g = by (line_of n f) refl g
  where
    by : (o : Option Line) → line_of n f ≡ o → read_numbers s n o ≡ Ok t → IsRead (n + 1) t
    by None e x = absurd (cc)
    by (Some l) e x = let p = line_fits n f l (k f refl) e in by_line s t n l (fault_of s.latest l) pos p.0 p.1 h x

by_volume : (s t : Seen) (n : ℕ) (name : List ℕ) → IsRead n s → read_volume s n name ≡ Ok t → IsRead (n + 1) t
by_volume s t n name h g = by (is_bad 255 name) (s.volume_line == 0) refl g
  where
    by : (a b : Bool) → is_bad 255 name ≡ a
        → cond a (fault n BAD_PATH) (cond b (Ok (record { latest = s.latest; volume = name; volume_line = n }))
        (fault n EXISTS)) ≡ Ok t → IsRead (n + 1) t
    by true b e x = absurd (cc)
    by false true e x = let up = later n s h in subst (IsRead (n + 1)) (same_ok x)
        (record { lines = h.lines; numbered = up.numbered; rises = h.rises; volume = e })
    by false false e x = absurd (cc)

by_read : (s t : Seen) (n : ℕ) (line : List ℕ) → 0 < n → IsRead n s → read s n line ≡ Ok t → IsRead (n + 1) t
unfolding read
by_read s t n line pos h g = by (list_any is_empty (pieces 32 line)) (volume_field (pieces 32 line)) refl g
  where
    by : (b : Bool) (o : Option (List ℕ)) → list_any is_empty (pieces 32 line) ≡ b
        → cond b (fault n BAD_WORD) (read_by s n (pieces 32 line) o) ≡ Ok t → IsRead (n + 1) t
    by true o e x = absurd (cc)
    by false (Some name) e x = by_volume s t n (percent_decode name) h x
    by false None e x = by_fields s t n (fields_of (pieces 32 line)) pos (λ f k. fields_fit (pieces 32 line) f e k) h x

by_lines : (s t : Seen) (n : ℕ) (ls : List (List ℕ)) → 0 < n → IsRead n s → read_lines s n ls ≡ Ok t
    → (k : ℕ) × IsRead k t
by_lines s t n [] pos h g = (n, subst (IsRead n) (same_ok g) h)
by_lines s t n (l ∷ ls) pos h g =
    elim (is_skipped l) as (λ b. cond b (read_lines s (n + 1) ls) (and_then (read s n l) (λ u. read_lines u (n + 1) ls))
    ≡ Ok t → (k : ℕ) × IsRead k t) [
      | true ↦ λ x. by_lines s t (n + 1) ls (omega arith) (later n s h) x
      | false ↦ λ x. after (read s n l) refl x (λ u c. by_lines u t (n + 1) ls (omega arith) c)
    ] g
  where
    after : (r : Result Seen Fault) → read s n l ≡ r → and_then r (λ u. read_lines u (n + 1) ls) ≡ Ok t
        → ((u : Seen) → IsRead (n + 1) u → read_lines u (n + 1) ls ≡ Ok t → (k : ℕ) × IsRead k t) → (k : ℕ) × IsRead k t
    after (Err e) same x go = absurd (cc)
    after (Ok u) same x go = go u (by_read s u n l pos h same) x

-- a manifest as it was read, its lines from the last to the first
pub record IsWritten (m : ManifestLines) (latest : List Line) : Type 0 where
  pub reversed : m.lines ≡ reverse latest
  pub lines : Every IsLine latest
  pub numbered : Every (λ l. 0 < l.number) latest
  pub rises : Pairs (λ l k. k.number < l.number) latest
  pub apart : Pairs (λ l k. l.number ≢ k.number) latest
  pub volume : is_bad 255 m.volume ≡ false

pub written : (m : ManifestLines) (text : List ℕ) → manifest_of text ≡ Ok m → (latest : List Line) × IsWritten m latest
unfolding manifest_of
written m text h = by (read_lines nothing_read 1 (pieces 10 text)) refl h
  where
    injective : {x y : ManifestLines} → ◌≡◌ {A = Result ManifestLines Fault} (Ok x) (Ok y) → x ≡ y
    injective e = cc

    by : (r : Result Seen Fault) → read_lines nothing_read 1 (pieces 10 text) ≡ r → as_manifest r ≡ Ok m
        → (latest : List Line) × IsWritten m latest
    by (Err e) same g = absurd (cc)
    by (Ok s) same g =
        let k = (by_lines nothing_read s 1 (pieces 10 text) (omega arith)
        (record { lines = tt; numbered = tt; rises = tt; volume = refl }) same).1 in
        let e = injective g in (
          s.latest,
          record {
            reversed = ap (λ (x : ManifestLines). x.lines) (sym e);
            lines = k.lines;
            numbered = every_weaker (λ (l : Line). (0 < l.number) × (l.number < _)) (λ (l : Line). 0 < l.number)
                (λ l x. x.0) s.latest k.numbered;
            rises = k.rises;
            apart = pairs_weaker (λ (l : Line) (k : Line). k.number < l.number)
                (λ (l : Line) (k : Line). l.number ≢ k.number) (λ l k r e. omega (arith, r, e)) s.latest k.rises;
            volume = subst (λ (x : ManifestLines). is_bad 255 x.volume ≡ false) e k.volume;
          },
        )
