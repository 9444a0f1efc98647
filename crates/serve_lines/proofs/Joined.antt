-- Lines that are joined to a text and cut again are the same.
use Rattle.std.proofs.Common.{◌≡◌, ℕ, Bool, true, false, cond, List, [], ◌∷◌, ◌++◌, ◌==◌, refl, sym, ap, ◌∙◌}
use Rattle.std.proofs.Common.{append_assoc, append-nil}
use Rattle.std.specs.Prelude.{◌||◌}
use Rattle.std.specs.List.{filter}
use Rattle.std.proofs.lemmas.Bool.{true≢false}
use Rattle.serve_lines.specs.Served.{lines_after, lines_of, joined, line_feed}

abbrev pub has_feed : List ℕ → Bool
has_feed [] = false
has_feed (b ∷ l) = (b == line_feed) || has_feed l

-- no line has a line feed
abbrev pub AreLines : List (List ℕ) → Type 0
AreLines [] = Unit {0}
AreLines (l ∷ ls) = (has_feed l ≡ false) × AreLines ls

neither : (a b : Bool) → (a || b) ≡ false → (a ≡ false) × (b ≡ false)
neither true b h = absurd (true≢false h)
neither false b h = (refl, h)

lines-front : (line l x : List ℕ) → has_feed l ≡ false
    → lines_after line (l ++ line_feed ∷ x) ≡ (line ++ l) ∷ lines_after [] x
unfolding lines_after
lines-front line [] x h = ap (λ (t : List ℕ). t ∷ lines_after [] x) (sym (append-nil line))
lines-front line (b ∷ l) x h =
    let both = neither (b == line_feed) (has_feed l) h in
    ap (λ (t : Bool). cond t (line ∷ lines_after [] (l ++ line_feed ∷ x))
    (lines_after (line ++ b ∷ []) (l ++ line_feed ∷ x))) both.0
    ∙ lines-front (line ++ b ∷ []) l x both.1
    ∙ ap (λ (t : List ℕ). t ∷ lines_after [] x) (append_assoc line (b ∷ []) l)

pub lines-joined : (ls : List (List ℕ)) → AreLines ls → lines_of (joined ls) ≡ ls
unfolding lines_after
lines-joined [] h = refl
lines-joined (l ∷ ls) h = lines-front [] l (joined ls) h.0 ∙ ap (λ (t : List (List ℕ)). l ∷ t) (lines-joined ls h.1)

feed-append : (line : List ℕ) (b : ℕ) → has_feed line ≡ false → (b == line_feed) ≡ false
    → has_feed (line ++ b ∷ []) ≡ false
feed-append [] b h k = ap (λ (t : Bool). t || false) k
feed-append (a ∷ line) b h k =
    let both = neither (a == line_feed) (has_feed line) h in
    ap (λ (t : Bool). t || has_feed (line ++ b ∷ [])) both.0 ∙ feed-append line b both.1 k

are-lines-by : (t : Bool) (a b : List (List ℕ)) → (t ≡ true → AreLines a) → (t ≡ false → AreLines b)
    → AreLines (cond t a b)
are-lines-by true a b h k = h refl
are-lines-by false a b h k = k refl

are-lines-last : (line : List ℕ) → has_feed line ≡ false → AreLines (lines_after line [])
unfolding lines_after
are-lines-last [] h = tt
are-lines-last (b ∷ line) h = (h, tt)

pub are-lines : (line x : List ℕ) → has_feed line ≡ false → AreLines (lines_after line x)
unfolding lines_after
are-lines line [] h = are-lines-last line h
are-lines line (b ∷ x) h =
    are-lines-by (b == line_feed) (line ∷ lines_after [] x) (lines_after (line ++ b ∷ []) x)
    (λ e. (h, are-lines [] x refl)) (λ e. are-lines (line ++ b ∷ []) x (feed-append line b h e))

are-filtered : (keep : List ℕ → Bool) (ls : List (List ℕ)) → AreLines ls → AreLines (filter keep ls)
are-filtered keep [] h = tt
are-filtered keep (l ∷ ls) h =
    are-lines-by (keep l) (l ∷ filter keep ls) (filter keep ls) (λ e. (h.0, are-filtered keep ls h.1))
    (λ e. are-filtered keep ls h.1)

-- some of the lines of a text
pub filtered-again : (keep : List ℕ → Bool) (x : List ℕ)
    → lines_of (joined (filter keep (lines_of x))) ≡ filter keep (lines_of x)
filtered-again keep x = lines-joined (filter keep (lines_of x)) (are-filtered keep (lines_of x) (are-lines [] x refl))

-- all of them
pub again : (x : List ℕ) → lines_of (joined (lines_of x)) ≡ lines_of x
again x = lines-joined (lines_of x) (are-lines [] x refl)
