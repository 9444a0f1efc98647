-- A line that is too long is known by its front.
use Rattle.std.proofs.Common.{◌≡◌, ℕ, ◌<◌, ◌≤◌, Bool, true, false, List, Some, None, length, take, drop, refl, sym, ap}
use Rattle.std.proofs.Common.{◌∙◌, arith, cond, nat_lt, length-take}
use Rattle.std.proofs.lemmas.Bool.Decides.{nat_tests}
use Rattle.std.proofs.lemmas.List.{take_all}
use Rattle.serve_lines.specs.declared.bad.Bad.TheVariants as bad
use Rattle.serve_lines.specs.Texts.{bad_text}
use Rattle.serve_lines.specs.Served.{ForgetsLong}
use Rattle.serve_lines.specs.Commands.{Line, is_bad, line_of}
use Rattle.open_files.specs.Calls.{Calls}
use Rattle.rom_serve.specs.Obeyed.{Said, says, answered}
use Rattle.rom_serve.specs.Machines.{lines_alone, lines_among, is_quit, session_of, session_digit, unnamed, answered_by}
use Rattle.rom_serve.specs.Machines.{answered_among, prefixed}

is_over : (n : ℕ) → nat_lt 8191 n ≡ true → 8191 < n
is_over n h = grind (arith, nat_tests)

over_is : (n : ℕ) → 8191 < n → nat_lt 8191 n ≡ true
over_is n h = grind (arith, nat_tests)

is_within : (n : ℕ) → nat_lt 8191 n ≡ false → n ≤ 8191
is_within n h = grind (arith, nat_tests)

within_is : (n : ℕ) → n ≤ 8191 → nat_lt 8191 n ≡ false
within_is n h = grind (arith, nat_tests)

front_over : (l : List ℕ) → 8191 < length l → 8191 < length (take 8192 l)
front_over l h = omega (arith, length-take 8192 l)

over_front : (l : List ℕ) → nat_lt 8191 (length l) ≡ true → nat_lt 8191 (length (take 8192 l)) ≡ true
over_front l h = over_is (length (take 8192 l)) (front_over l (is_over (length l) h))

fits_front : (n : ℕ) → n ≤ 8191 → n ≤ 8192
fits_front n h = omega arith

whole_front : (l : List ℕ) → nat_lt 8191 (length l) ≡ false → take 8192 l ≡ l
whole_front l h = take_all 8192 l (fits_front (length l) (is_within (length l) h))

-- what is the same on all long lines, and on each other line what it is, is known by the front
by_front_on : {X : Type 0} (f : List ℕ → X) (x : X) → ((l : List ℕ) → nat_lt 8191 (length l) ≡ true → f l ≡ x)
    → (l : List ℕ) (b : Bool) → nat_lt 8191 (length l) ≡ b → f (take 8192 l) ≡ f l
by_front_on f x same l true h = same (take 8192 l) (over_front l h) ∙ sym (same l h)
by_front_on f x same l false h = ap f (whole_front l h)

pub by_front : {X : Type 0} (f : List ℕ → X) (x : X) → ((l : List ℕ) → nat_lt 8191 (length l) ≡ true → f l ≡ x)
    → (l : List ℕ) → f (take 8192 l) ≡ f l
by_front f x same l = by_front_on f x same l (nat_lt 8191 (length l)) refl

line_long : (mounts : Bool) (l : List ℕ) → nat_lt 8191 (length l) ≡ true → line_of mounts l ≡ is_bad bad.Line
unfolding line_of
line_long mounts l h = rw h refl

session_long : (l : List ℕ) → nat_lt 8191 (length l) ≡ true → session_of l ≡ None
unfolding session_of
session_long l h = rw h refl

unnamed_long : (l : List ℕ) → nat_lt 8191 (length l) ≡ true → unnamed l ≡ bad.Line
unnamed_long l h = rw h refl

pub alone_long : {S : Type 0} (c : Calls S) → ForgetsLong (lines_alone c)
alone_long c = record {
  reply = λ s l. ap (λ (x : Line). (answered c s x).text)
      (by_front (line_of false) (is_bad bad.Line) (line_long false) l);
  next = λ s l. ap (λ (x : Line). (answered c s x).state)
      (by_front (line_of false) (is_bad bad.Line) (line_long false) l);
  ends = λ l. ap is_quit (by_front (line_of false) (is_bad bad.Line) (line_long false) l);
}

among_front : {S : Type 0} (c : ℕ → Calls S) (s : S) (l : List ℕ)
    → answered_among c s (take 8192 l) ≡ answered_among c s l
among_front c s l = by_front (answered_among c s) (says (bad_text bad.Line) s)
    (λ x h. ap (answered_by c s x) (session_long x h) ∙ ap (λ b. says (bad_text b) s) (unnamed_long x h)) l

pub among_long : {S : Type 0} (c : ℕ → Calls S) → ForgetsLong (lines_among c)
among_long {S} c = record {
  reply = λ s l. ap (λ (x : Said S). x.text) (among_front c s l);
  next = λ s l. ap (λ (x : Said S). x.state) (among_front c s l);
  ends = λ l. refl;
}

-- what is answered to a line that is too long, to one that names no session, and to one that names session k
pub long_said : {S : Type 0} (c : ℕ → Calls S) (s : S) (l : List ℕ) → 8191 < length l
    → answered_among c s l ≡ says (bad_text bad.Line) s
long_said c s l h = let t = over_is (length l) h in ap (answered_by c s l) (session_long l t)
    ∙ ap (λ b. says (bad_text b) s) (unnamed_long l t)

session_short : (l : List ℕ) → length l ≤ 8191 → session_of l ≡ session_digit l
unfolding session_of
session_short l h = let t = within_is (length l) h in ap (λ (b : Bool). cond b None (session_digit l)) t

pub none_said : {S : Type 0} (c : ℕ → Calls S) (s : S) (l : List ℕ) → length l ≤ 8191 → session_digit l ≡ None
    → answered_among c s l ≡ says (bad_text bad.Session) s
none_said c s l h none =
    let t = within_is (length l) h in
    ap (answered_by c s l) (session_short l h ∙ none)
    ∙ ap (λ (b : Bool). says (bad_text (cond b bad.Line bad.Session)) s) t

pub some_said : {S : Type 0} (c : ℕ → Calls S) (s : S) (l : List ℕ) (k : ℕ) → length l ≤ 8191 → session_digit l ≡ Some k
    → answered_among c s l ≡ prefixed k (answered (c k) s (line_of true (drop 2 l)))
some_said c s l k h some = ap (answered_by c s l) (session_short l h ∙ some)
