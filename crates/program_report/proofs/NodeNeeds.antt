-- What a node needs, by what was read of it; and what is missing, by index.
use Rattle.std.proofs.Common.{◌≡◌, ◌==◌, ◌+◌, ℕ, zero, suc, Bool, true, false, List, [], ◌∷◌, length, refl, sym, ap}
use Rattle.std.proofs.Common.{◌∙◌, arith}
use Rattle.std.proofs.Common.{Option, None, map}
use Rattle.std.specs.Prelude.{slice_index_or}
use Rattle.std.proofs.lemmas.Bool.{eq-eqb, ne_eqb}
use Rattle.rom_tree.specs.Image.{Image, stat_of}
use Rattle.rom_tree.specs.Runs.{front_of}
use Rattle.rom_tree.specs.Tree.{Node, attributes_of, is_regular, places_of}
use Rattle.rom_tree.specs.declared.types.Stat.{Stat}
use Rattle.program_report.specs.FileNeeded.{FileNeeded, file_needs, nothing_needed}
use Rattle.program_report.specs.Needs.{has_interpreter, has_library, may_execute, missing, needs_in, unless}

pub not_regular : (m : Image) (x : Node) (n : FileNeeded) → n ≡ nothing_needed → is_regular x ≡ false → n ≡ needs_in m x
unfolding needs_in
not_regular m x n h e = h ∙ rw e refl

pub scattered : (m : Image) (x : Node) (n : FileNeeded) (s : Stat) (b : List ℕ) → n ≡ nothing_needed
    → is_regular x ≡ true → s ≡ stat_of x → b ≡ front_of m.bytes (places_of x) → (length b ≡ s.size → ⊥)
    → n ≡ needs_in m x
unfolding needs_in
scattered m x n s b h e t f d =
    let z : (length (front_of m.bytes (places_of x)) == length (places_of x)) ≡ false =
    ne_eqb (length (front_of m.bytes (places_of x))) (length (places_of x))
    (λ q. d (ap length f ∙ (q ∙ sym (ap (λ (v : Stat). v.size) t)))) in
    h ∙ rw (e, z) refl

pub in_one_run : (m : Image) (x : Node) (n : FileNeeded) (s : Stat) (b : List ℕ) (may : Bool)
    → n ≡ file_needs may b → may ≡ may_execute s.mode
    → is_regular x ≡ true → s ≡ stat_of x → b ≡ front_of m.bytes (places_of x) → length b ≡ s.size → n ≡ needs_in m x
unfolding needs_in
in_one_run m x n s b may h k e t f d =
    let z : (length (front_of m.bytes (places_of x)) == length (places_of x)) ≡ true =
    eq-eqb (length (front_of m.bytes (places_of x))) (length (places_of x))
    (sym (ap length f) ∙ (d ∙ ap (λ (v : Stat). v.size) t)) in
    let y : may ≡ may_execute (attributes_of x).mode = k ∙ ap (λ (v : Stat). may_execute v.mode) t in
    h ∙ (ap (λ (v : Bool). file_needs v b) y
    ∙ (ap (λ (v : List ℕ). file_needs (may_execute (attributes_of x).mode) v) f ∙ rw (e, z) refl))

mapped : (has : List ℕ → Bool) (l : List (Option (List ℕ))) (i : ℕ)
    → unless has (slice_index_or l i None) ≡ slice_index_or (map (unless has) l) i None
mapped has [] i = refl
mapped has (x ∷ l) zero = refl
mapped has (x ∷ l) (suc i) = mapped has l i

behind : (o : Option (List ℕ)) (l : List (Option (List ℕ))) (i : ℕ)
    → slice_index_or l i None ≡ slice_index_or (o ∷ l) (1 + i) None
behind o l i =
    let e : 1 + i ≡ suc i = omega arith in
    sym (ap (λ (k : ℕ). slice_index_or (o ∷ l) k None) e)

-- the library of an entry
pub entry_missing : (m : Image) (n : FileNeeded) (i : ℕ) (path name : Option (List ℕ))
    → path ≡ n.libraries.run_path → name ≡ slice_index_or n.libraries.needed i None
    → unless (has_library m path) name ≡ slice_index_or (missing m n) (1 + i) None
unfolding missing
entry_missing m n i path name e h =
    ap (λ (v : Option (List ℕ)). unless (has_library m v) name) e
    ∙ (ap (unless (has_library m n.libraries.run_path)) h
    ∙ (mapped (has_library m n.libraries.run_path) n.libraries.needed i
    ∙ behind (unless (has_interpreter m) n.interpreter)
    (map (unless (has_library m n.libraries.run_path)) n.libraries.needed) i))
