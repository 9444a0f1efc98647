-- The sizes of the sources of a manifest that fits.
use Rattle.std.proofs.Common.{◌≡◌, ℕ, zero, suc, ◌+◌, ◌^◌, ◌<◌, ◌≤◌, ◌&&◌, ◌||◌, nat_lt, true, false, Bool}
use Rattle.std.proofs.Common.{if◌then◌else◌, inl, inr, List, [], ◌∷◌, length, reverse, get_or, Some, None, Option, refl}
use Rattle.std.proofs.Common.{sym, ap, subst, ◌∙◌, arith}
use Rattle.std.proofs.lemmas.Bool.{lt-ltb, le-ltb, cases_lt}
use Rattle.std.proofs.lemmas.List.{reverse-append}
use Rattle.std.specs.List.{AllByRecursion as Every}
use Rattle.std.specs.Str.{bytes_eq}
use Rattle.record_forest.specs.Members.{Has, Pairs}
use Rattle.record_forest.proofs.Lists.{every_weaker, pairs_push, has_of}
use Rattle.manifest.specs.declared.line.Line.{Line}
use Rattle.manifest.specs.declared.line.Word.{Word}
use Rattle.manifest.specs.declared.line.Word.TheVariants.{Dir, File, Slink, Block, Character, Fifo, Socket, Hard, Same}
use Rattle.manifest.specs.Lines.{ManifestLines, is_file, is_hard, is_same, led, filed, sources_of}
use Rattle.manifest.specs.Grammar.{IsManifest}
use Rattle.manifest_tree.specs.Tree.{sources_before, with_contents, inode_of, inode_by}
use Rattle.formats.specs.Format.{Format, romfs, cramfs}
use Rattle.manifest_layout.specs.Misfit.{HasNoMisfit, IsLarge, TOO_LARGE, large}
use Rattle.manifest_layout.proofs.Sourced.{has_reverse, every_back}
use Rattle.manifest_layout.proofs.Written.{written}
use Rattle.manifest_layout.proofs.Led.{LedIn, all_led}
use Rattle.manifest_layout.proofs.Known.{known, Fits}

past_end : (xs : List ℕ) (k : ℕ) → length xs ≤ k → get_or xs k 0 ≡ 0
past_end [] k h = refl
past_end (x ∷ xs) zero h = absurd (omega arith)
past_end (x ∷ xs) (suc k) h = past_end xs k (omega arith)

pairs_back : {X : Type 0} (R S : X → X → Type 0) → ((x y : X) → R x y → S y x) → (xs : List X) → Pairs R xs
    → Pairs S (reverse xs)
pairs_back R S flip [] p = tt
pairs_back R S flip (x ∷ xs) p = subst (Pairs S) (sym (reverse-append (x ∷ []) xs))
    (pairs_push S (reverse xs) x (pairs_back R S flip xs p.1)
    (every_weaker (R x) (λ y. S y x) (λ y r. flip x y r) (reverse xs) (every_back (R x) xs p.0)))

abbrev Rising : List Line → Type 0
Rising ls = Pairs (λ l k. l.number < k.number) ls

kept : (t : Bool) (a n s : ℕ) → n ≤ a → (if t && nat_lt a n then s + 1 else s) ≡ s
kept true a n s h = rw (le-ltb a n h) refl
kept false a n s h = refl

counted : (t : Bool) (a n s : ℕ) → t ≡ true → a < n → (if t && nat_lt a n then s + 1 else s) ≡ s + 1
counted true a n s e h = rw (lt-ltb a n h) refl
counted false a n s e h = absurd (cc)

skipped : (t : Bool) (a n s : ℕ) → t ≡ false → (if t && nat_lt a n then s + 1 else s) ≡ s
skipped true a n s e = absurd (cc)
skipped false a n s e = refl

none_before : (n : ℕ) (ls : List Line) → Every (λ l. n < l.number) ls → sources_before n ls ≡ 0
none_before n [] h = refl
none_before n (l ∷ ls) h =
    let low = h.0 in kept (is_file l.word) l.number n (sources_before n ls) (omega (arith, low)) ∙ none_before n ls h.1

more_sources : (l : Line) (ls : List Line) → is_file l.word ≡ true
    → length (sources_of (l ∷ ls)) ≡ suc (length (sources_of ls))
more_sources l ls e = rw e refl

no_more_sources : (l : Line) (ls : List Line) → is_file l.word ≡ false
    → length (sources_of (l ∷ ls)) ≡ length (sources_of ls)
no_more_sources l ls e = rw e refl

-- the `file` line of the source k
abbrev Found : List Line → ℕ → Type 0
Found ls k = (x : Line) × Has (λ y. y ≡ x) ls × (is_file x.word ≡ true) × (sources_before x.number ls ≡ k)

found_next : (l : Line) (ls : List Line) → Every (λ k. l.number < k.number) ls
    → ((k : ℕ) → k < length (sources_of ls) → Found ls k) → (t : Bool) (k : ℕ) → is_file l.word ≡ t
    → k < length (sources_of (l ∷ ls)) → Found (l ∷ ls) k
found_next l ls r later true zero e h = (
  l,
  inl refl,
  e,
  kept (is_file l.word) l.number l.number (sources_before l.number ls) (omega arith)
      ∙ none_before l.number ls r,
)
found_next l ls r later true (suc k) e h =
    let n = more_sources l ls e in
    let x = later k (omega arith) in
    let low = has_of (λ (y : Line). l.number < y.number) ls x.0 x.1 r in
    let c : sources_before x.0.number (l ∷ ls) ≡ sources_before x.0.number ls + 1 =
    counted (is_file l.word) l.number x.0.number (sources_before x.0.number ls) e low in
    let g = x.3 in
    (x.0, inr x.1, x.2, omega (arith, c, g))
found_next l ls r later false k e h =
    let n = no_more_sources l ls e in
    let x = later k (omega arith) in
    let c : sources_before x.0.number (l ∷ ls) ≡ sources_before x.0.number ls =
    skipped (is_file l.word) l.number x.0.number (sources_before x.0.number ls) e in
    (x.0, inr x.1, x.2, c ∙ x.3)

found : (ls : List Line) → Rising ls → (k : ℕ) → k < length (sources_of ls) → Found ls k
found [] r k h = absurd (omega arith)
found (l ∷ ls) r k h = found_next l ls r.0 (found ls r.1) (is_file l.word) k refl h

same_some : {l x : Line} → Some l ≡ Some x → l ≡ x
same_some e = cc

no_file : (l x : Line) → is_file l.word ≡ false → is_file x.word ≡ true → Some l ≡ Some x → ⊥
no_file l x n f e = let z : true ≡ false = sym f ∙ ap (λ (y : Line). is_file y.word) (sym (same_some e)) ∙ n in cc

-- a path that leads to a `file` line has its contents
filed_next : (t : Bool) (w : Word) (l x : Line) (a b c d : Option Line) → l.word ≡ w → (a ≡ Some x → b ≡ Some x)
    → (c ≡ Some x → d ≡ Some x) → is_file x.word ≡ true → (if t then (if is_hard w then a else Some l) else c) ≡ Some x
    → (if t then (if is_hard w || is_same w then b else (if is_file w then Some l else None)) else d) ≡ Some x
filed_next false w l x a b c d e g k f h = k h
filed_next true Hard l x a b c d e g k f h = g h
filed_next true File l x a b c d e g k f h = h
filed_next true Same l x a b c d e g k f h = absurd (no_file l x (ap is_file e) f h)
filed_next true Dir l x a b c d e g k f h = absurd (no_file l x (ap is_file e) f h)
filed_next true Slink l x a b c d e g k f h = absurd (no_file l x (ap is_file e) f h)
filed_next true Block l x a b c d e g k f h = absurd (no_file l x (ap is_file e) f h)
filed_next true Character l x a b c d e g k f h = absurd (no_file l x (ap is_file e) f h)
filed_next true Fifo l x a b c d e g k f h = absurd (no_file l x (ap is_file e) f h)
filed_next true Socket l x a b c d e g k f h = absurd (no_file l x (ap is_file e) f h)

led_filed : (ls : List Line) (p : List ℕ) (x : Line) → is_file x.word ≡ true → led ls p ≡ Some x → filed ls p ≡ Some x
led_filed [] p x f h = absurd (cc)
led_filed (l ∷ ls) p x f h =
    filed_next (bytes_eq l.path p) l.word l x (led ls l.text) (filed ls l.text) (led ls p) (filed ls p) refl
    (led_filed ls l.text x f) (led_filed ls p x f) f h

is_file_word : (w : Word) → is_file w ≡ true → (w ≡ File) × (is_hard w ≡ false)
is_file_word File e = (refl, refl)
is_file_word Hard e = absurd (cc)
is_file_word Same e = absurd (cc)
is_file_word Dir e = absurd (cc)
is_file_word Slink e = absurd (cc)
is_file_word Block e = absurd (cc)
is_file_word Character e = absurd (cc)
is_file_word Fifo e = absurd (cc)
is_file_word Socket e = absurd (cc)

size_of_file : (all : List Line) (sizes : List ℕ) (x : Line) → x.word ≡ File → filed (reverse all) x.path ≡ Some x
    → (inode_of all sizes x).size ≡ get_or sizes (sources_before x.number all) 0
unfolding inode_of
size_of_file all sizes x e f =
    ap (λ (w : Word). (inode_by all sizes w x).size) e ∙ ap (λ (o : Option Line). (with_contents all sizes x o).size) f

-- what is larger than this is too large in each format
large_in : (f : Format) (size : ℕ) → 2 ^ 28 < size → IsLarge f size
large_in romfs size h = h
large_in (cramfs o) size h = omega arith

small_here : (f : Format) (m : ManifestLines) (sizes : List ℕ) → IsManifest m → HasNoMisfit f m sizes → (k : ℕ)
    → k < length (sources_of m.lines) → get_or sizes k 0 ≤ 2 ^ 28
small_here f m sizes h n k l =
    let o = known f m sizes h n.lines in
    let w = written m h.0 h.1 in
    let up : Rising m.lines = subst Rising (sym w.1.reversed)
    (pairs_back (λ (l : Line) (k : Line). k.number < l.number) (λ (l : Line) (k : Line). l.number < k.number)
    (λ x y r. r) w.0 w.1.rises) in
    let x = found m.lines up k l in
    let latest = o.0 in
    let here : Has (λ y. y ≡ x.0) latest =
    subst (Has (λ y. y ≡ x.0)) o.1.back (has_reverse (λ (y : Line). y ≡ x.0) m.lines x.1) in
    let fits = has_of (Fits f m sizes) latest x.0 here o.1.fit in
    let in_line = has_of (LedIn latest) latest x.0 here (all_led latest o.1.checked) in
    let word = is_file_word x.0.word x.2 in
    let to_file = led_filed latest x.0.path x.0 x.2 (in_line.own word.1) in
    let size = size_of_file m.lines sizes x.0 word.0
    (subst (λ (ls : List Line). filed ls x.0.path ≡ Some x.0) (sym o.1.back) to_file)
    ∙ ap (λ (j : ℕ). get_or sizes j 0) x.3 in
    elim (cases_lt (2 ^ 28) (get_or sizes k 0)) [
      | inl big ↦ absurd (fits TOO_LARGE
          (large refl (large_in f (inode_of m.lines sizes x.0).size (subst (λ (j : ℕ). 2 ^ 28 < j) (sym size) big))))
      | inr low ↦ low
    ]

pub sizes_small : (f : Format) (m : ManifestLines) (sizes : List ℕ) → IsManifest m
    → length sizes ≡ length (sources_of m.lines)
    → HasNoMisfit f m sizes → (file : ℕ) → get_or sizes file 0 < 2 ^ 32
sizes_small f m sizes h l n file = elim (cases_lt file (length sizes)) [
  | inl low ↦ let s = small_here f m sizes h n file (omega arith) in omega (arith, s)
  | inr high ↦ let z = past_end sizes file (omega (arith, high)) in omega (arith, z)
]
