-- Where interpreters and libraries are looked for.
use Rattle.std.proofs.Common.{◌≡◌, ◌==◌, ◌+◌, ◌-◌, ◌<◌, ◌≤◌, ℕ, Bool, true, false, List, [], ◌∷◌, length, refl, sym, ap}
use Rattle.std.proofs.Common.{◌∙◌, arith, Some, None, Ok, Err, take, drop, ◌||◌}
use Rattle.std.proofs.Common.{length-drop}
use Rattle.std.specs.Prelude.{if◌then◌else◌, nat_lt, not}
use Rattle.std.specs.List.{position, position_or_len, slice_split, list_any, onto_first}
use Rattle.std.proofs.lemmas.Bool.{le-ltb, lt-ltb, ltb-false, ltb-true}
use Rattle.std.proofs.lemmas.List.{take_rest}
use Rattle.std.proofs.lemmas.List.Splits.{slice_split_first}
use Rattle.rom_tree.specs.Image.{Image}
use Rattle.rom_tree.specs.Tree.{Node, is_regular}
use Rattle.path_walk.specs.Resolution.{resolution, tree_namespace}
use Rattle.path_walk.specs.declared.error.WalkError.{WalkError}
use Rattle.path_walk.specs.declared.error.WalkError.TheVariants.{Enametoolong}
use Rattle.program_report.specs.Needs.{in_part, in_parts, is_file, is_file_at, parts}

-- a path that leads to a node, and one that leads nowhere
pub led : (m : Image) (path : List ℕ) (r : Bool) (x : Node)
    → resolution (tree_namespace m.bytes m.tree) path true ≡ Ok x → r ≡ is_regular x → r ≡ is_file_at m path
unfolding is_file_at
led m path r x e h = h ∙ sym (ap is_file e)

pub led_nowhere : (m : Image) (path : List ℕ) (w : WalkError)
    → resolution (tree_namespace m.bytes m.tree) path true ≡ Err w → false ≡ is_file_at m path
unfolding is_file_at
led_nowhere m path w e = sym (ap is_file e)

-- a path that is too long
pub too_long : (m : Image) (path : List ℕ) → 4095 < length path → false ≡ is_file_at m path
unfolding resolution
too_long m path l =
    let e : nat_lt 4095 (length path) ≡ true = lt-ltb 4095 (length path) l in
    led_nowhere m path Enametoolong (rw e refl)

some_at : (b : Bool) (e n : ℕ) → Some e ≡ (if b then Some n else None) → (b ≡ true) × (e ≡ n)
some_at true e n h = (refl, cc)
some_at false e n h = absurd cc

none_at : (b : Bool) (n : ℕ) → None ≡ (if b then Some n else None) → b ≡ false
none_at true n h = absurd cc
none_at false n h = refl

-- a run path with a colon, and one without
pub divided : (path : List ℕ) (end : ℕ) → Some end ≡ position (λ c. c == 58) path
    → (parts path ≡ take end path ∷ parts (take (length path - (end + 1)) (drop (end + 1) path)))
    × (length (take (length path - (end + 1)) (drop (end + 1) path)) < length path)
divided path end h =
    let p : ℕ → Bool = λ c. c == 58 in
    let s = some_at (nat_lt (position_or_len p path) (length path)) end (position_or_len p path) h in
    let l : position_or_len p path < length path = ltb-true (position_or_len p path) (length path) s.0 in
    let e : take (length path - (end + 1)) (drop (end + 1) path) ≡ drop (end + 1) path = take_rest path (end + 1) in
    let q : parts path ≡ take end path ∷ parts (drop (end + 1) path) =
    rw s.1 (slice_split_first p path 0 l) in
    (rw e q, rw e (omega (arith, length-drop (end + 1) path, s.1)))

uncut : (p : ℕ → Bool) (l : List ℕ) → nat_lt (position_or_len p l) (length l) ≡ false → slice_split p l ≡ l ∷ []
uncut p [] h = refl
uncut p (x ∷ l) h = one (p x) h (uncut p l)
  where
    one : (b : Bool) → nat_lt (if not b then 1 + position_or_len p l else 0) (length (x ∷ l)) ≡ false
        → (nat_lt (position_or_len p l) (length l) ≡ false → slice_split p l ≡ l ∷ [])
        → (if b then [] ∷ slice_split p l else onto_first x (slice_split p l)) ≡ (x ∷ l) ∷ []
    one true h k = absurd (let f : length (x ∷ l) ≤ 0 = ltb-false 0 (length (x ∷ l)) h in omega arith)
    one false h k =
        let n : ℕ = position_or_len p l in
        let f : length (x ∷ l) ≤ 1 + n = ltb-false (1 + n) (length (x ∷ l)) h in
        ap (onto_first x) (k (le-ltb n (length l) (omega arith)))

pub whole : (path : List ℕ) → None ≡ position (λ c. c == 58) path → parts path ≡ path ∷ []
whole path h =
    let p : ℕ → Bool = λ c. c == 58 in
    uncut p path (none_at (nat_lt (position_or_len p path) (length path)) (position_or_len p path) h)

-- one of the parts has the file, or the rest is looked at
pub one_part : (m : Image) (name path part rest : List ℕ) → parts path ≡ part ∷ parts rest
    → in_part m name part ≡ true → in_parts m name path ≡ true
one_part m name path part rest e h =
    ap (list_any (in_part m name)) e ∙ rw h refl

pub next_part : (m : Image) (name path part rest : List ℕ) → parts path ≡ part ∷ parts rest
    → in_part m name part ≡ false → in_parts m name rest ≡ in_parts m name path
next_part m name path part rest e h =
    sym (ap (list_any (in_part m name)) e ∙ rw h refl)

pub last_part : (m : Image) (name path : List ℕ) → parts path ≡ path ∷ []
    → in_part m name path ≡ in_parts m name path
last_part m name path e = sym (ap (list_any (in_part m name)) e ∙ settled (in_part m name path))
  where
    settled : (b : Bool) → (b || false) ≡ b
    settled true = refl
    settled false = refl
