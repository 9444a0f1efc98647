-- The lines of files, one more at a time.
use Rattle.std.proofs.Common.{◌≡◌, ℕ, ◌+◌, ◌<◌, Bool, true, false, cond, Ordering, Less, Equal, Greater, List, [], ◌∷◌}
use Rattle.std.proofs.Common.{◌++◌, length, map, take, get_or, Option, Some, None, refl, sym, ap, ap₂, subst}
use Rattle.std.proofs.Common.{option_map, ◌∙◌, arith, append_assoc, append-nil}
use Rattle.std.specs.Prelude.{◌==◌, ◌&&◌}
use Rattle.std.specs.Borrow.{Bor}
use Rattle.std.specs.BTreeMap.{BTreeMap, get}
use Rattle.std.specs.Ordering.{is_eq, nat_cmp, ordering_then}
use Rattle.std.proofs.lemmas.Bool.Decides.{nat_tests}
use Rattle.std.proofs.lemmas.Bool.{cases_Bool}
use mathlib.Core.Logic.{⊎_elim}
use Rattle.std.proofs.lemmas.List.{take_more, map-append}
use Rattle.manifest.specs.declared.line.Line.{Line}
use Rattle.build_commands.specs.Inventory.{is_linked, first_of, first_link, lines_behind, lines_found, name_line}
use Rattle.manifest.specs.Entries.{line_of}
use Rattle.manifest.specs.declared.entry.Entry.{Entry}
use Rattle.build_commands.specs.Noted.{noted, noted_link, noted_with}
use Rattle.build_commands.specs.declared.inventory.NamedFile.{NamedFile}
use Rattle.formats.specs.declared.format.Format.{Format}

by_test : (b : Bool) (f g : NamedFile) (rest more : Option NamedFile) (device number : ℕ)
    → more ≡ noted_with f rest device number
    → cond b (Some g) more ≡ noted_with f (cond b (Some g) rest) device number
by_test true f g rest more device number e = refl
by_test false f g rest more device number e = e

first_more : (device number : ℕ) (before : List NamedFile) (f : NamedFile)
    → first_of device number (before ++ f ∷ []) ≡ noted_with f (first_of device number before) device number
first_more device number [] f = refl
first_more device number (g ∷ before) f =
    by_test (is_linked device number g) f g (first_of device number before)
    (first_of device number (before ++ f ∷ [])) device number (first_more device number before f)

lines_more : (o : Option Format) (before fs : List NamedFile) (f : NamedFile)
    → lines_behind o before (fs ++ f ∷ [])
    ≡ lines_behind o before fs ++ name_line o (first_link f (before ++ fs)) f ∷ []
lines_more o before [] f =
    ap (λ (x : List NamedFile). name_line o (first_link f x) f ∷ [])
    (sym (append-nil before))
lines_more o before (g ∷ fs) f =
    ap (λ (x : List Line). name_line o (first_link g before) g ∷ x)
    (lines_more o (before ++ g ∷ []) fs f
    ∙ ap (λ (x : List NamedFile). lines_behind o (before ++ g ∷ []) fs
    ++ name_line o (first_link f x) f ∷ [])
    (append_assoc before (g ∷ []) fs))

-- the lines up to the next file
pub next_line : (o : Option Format) (found : List NamedFile) (i : ℕ) (d : NamedFile) → i < length found
    → lines_found o (take (i + 1) found)
    ≡ lines_found o (take i found)
    ++ name_line o (first_link (get_or found i d) (take i found)) (get_or found i d) ∷ []
next_line o found i d h =
    ap (λ (xs : List NamedFile). lines_found o xs) (take_more found i d h)
    ∙ lines_more o [] (take i found) (get_or found i d)

-- the first files up to the next one
pub next_first : (found : List NamedFile) (i : ℕ) (d : NamedFile) → i < length found → (device number : ℕ)
    → first_of device number (take (i + 1) found)
    ≡ noted_with (get_or found i d) (first_of device number (take i found)) device number
next_first found i d h device number =
    ap (λ (xs : List NamedFile). first_of device number xs) (take_more found i d h)
    ∙ first_more device number (take i found) (get_or found i d)

-- one more line
pub pushed_line : (old new : List Entry) (e : Entry) → new ≡ old ++ e ∷ [] → (ls : List Line) → map line_of old ≡ ls
    → (l : Line) → line_of e ≡ l
    → map line_of new ≡ ls ++ l ∷ []
pushed_line old new e h ls k l m =
    ap (map line_of) h ∙ map-append line_of old (e ∷ []) ∙ ap₂ (λ (x : List Line) (y : Line). x ++ y ∷ []) k m

-- The map.

equal_then : (x y : Ordering) → is_eq (ordering_then x y) ≡ (is_eq x && is_eq y)
equal_then Less y = refl
equal_then Equal y = refl
equal_then Greater y = refl

equal_numbers : (x y : ℕ) → is_eq (nat_cmp x y) ≡ (x == y)
equal_numbers x y = grind (arith, nat_tests)

abbrev pub by_parts : ℕ × ℕ → ℕ × ℕ → Ordering
by_parts x y = ordering_then (nat_cmp x.0 y.0) (nat_cmp x.1 y.1)

equal_keys : (x y : ℕ × ℕ) → is_eq (by_parts x y) ≡ ((x.0 == y.0) && (x.1 == y.1))
equal_keys x y =
    equal_then (nat_cmp x.0 y.0) (nat_cmp x.1 y.1) ∙ ap₂ ◌&&◌ (equal_numbers x.0 y.0) (equal_numbers x.1 y.1)

equal_numbers_are : (a b c d : ℕ) → ((a == c) && (b == d)) ≡ true → (a ≡ c) × (b ≡ d)
equal_numbers_are a b c d h = (grind (arith, nat_tests, h), grind (arith, nat_tests, h))

stays : (f : NamedFile) (o : Option NamedFile) (device number : ℕ)
    → is_linked device number f ≡ false
    → noted_with f o device number ≡ o
stays f None device number h = rw h refl
stays f (Some g) device number h = refl

is_put : (f : NamedFile) (o : Option NamedFile) (device number : ℕ)
    → is_linked device number f ≡ true
    → o ≡ None → noted_with f o device number ≡ Some f
is_put f None device number h e = rw h refl
is_put f (Some g) device number h e = absurd cc

-- what is noted of the inode of a file, and the first file of it
pub noted_is : (m : BTreeMap (ℕ × ℕ) (Bor NamedFile)) (fs : List NamedFile)
    → ((device number : ℕ) → noted m device number ≡ first_of device number fs)
    → (f : NamedFile) → noted_link m f ≡ first_link f fs
noted_is m fs h f = ap (λ (o : Option NamedFile). cond f.has_links o None) (h f.inode.device f.inode.number)

-- a map in which a file was put for an inode that had none
pub noted_more : (m n : BTreeMap (ℕ × ℕ) (Bor NamedFile)) (f : Bor NamedFile)
    → f.now.has_links ≡ true → get by_parts m (f.now.inode.device, f.now.inode.number) ≡ None
    → ((q : ℕ × ℕ) → get by_parts n q ≡ cond (is_eq (by_parts (f.now.inode.device, f.now.inode.number) q)) (Some f)
    (get by_parts m q))
    → (device number : ℕ) → noted n device number ≡ noted_with f.now (noted m device number) device number
noted_more m n f linked none more device number =
    let a : ℕ = f.now.inode.device in
    let b : ℕ = f.now.inode.number in
    let now = λ (o : Option (Bor NamedFile)). option_map (λ g. g.now) o in
    let test : Bool = (a == device) && (b == number) in
    let same : is_linked device number f.now ≡ test = ap (λ (l : Bool). l && (a == device) && (b == number)) linked in
    let here = more (device, number) ∙ ap (λ t. cond t (Some f) (get by_parts m (device, number)))
    (equal_keys (a, b) (device, number)) in
    ap now here ∙
    ⊎_elim
    (λ (t : test ≡ true). let e = equal_numbers_are a b device number t in
    let empty : get by_parts m (device, number) ≡ None =
    subst (λ (k : ℕ). get by_parts m (device, k) ≡ None) e.1
    (subst (λ (k : ℕ). get by_parts m (k, b) ≡ None) e.0 none) in
    ap (λ x. now (cond x (Some f) (get by_parts m (device, number)))) t
    ∙ sym (is_put f.now (noted m device number) device number (same ∙ t) (ap now empty)))
    (λ (t : test ≡ false). ap (λ x. now (cond x (Some f) (get by_parts m (device, number)))) t
    ∙ sym (stays f.now (noted m device number) device number (same ∙ t)))
    (cases_Bool test)
