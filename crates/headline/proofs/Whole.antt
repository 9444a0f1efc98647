-- A file whose places are a run is lent whole by one call of `map`.
use Rattle.std.proofs.Common.{◌≡◌, ℕ, zero, suc, ◌+◌, ◌*◌, ◌<◌, ◌==◌, nat_lt, false, true, List, ◌∷◌, length, take}
use Rattle.std.proofs.Common.{drop, inl, inr, None, Some, Ok, refl, sym, ap, subst, ◌∙◌, arith, add-one}
use Rattle.std.proofs.lemmas.Bool.{eq-eqb, ne_eqb, le-ltb}
use Rattle.std.proofs.lemmas.Bool.Decides.{eqb_tells}
use Rattle.std.proofs.lemmas.List.{take_all}
use Rattle.rom_tree.specs.Image.{Image}
use Rattle.rom_tree.specs.Tree.{Node, node, directory, regular, symlink, block, character, socket, fifo, places_of}
use Rattle.rom_tree.specs.Tree.{is_directory, row_from}
use Rattle.manifest_tree.specs.Placement.{IsRun}
use Rattle.headline.specs.Lent.{IsMappedWhole}
use Rattle.open_files.specs.Calls.{Lent, Of}
use Rattle.open_files.specs.Lending.{first_place, consecutive_from, consecutive, lent}
use Rattle.open_files.specs.Machine.{Open, Table, Outcome, open_at, opened, map_on}

run_on : (p n : ℕ) → consecutive_from p (row_from p n) ≡ row_from p n
run_on p zero = refl
run_on p (suc n) =
    let rest : consecutive_from (suc p) (row_from (p + 1) n) ≡ row_from (p + 1) n =
    subst (λ (q : ℕ). consecutive_from (suc p) (row_from q n) ≡ row_from q n) (sym (add-one p)) (run_on (suc p) n) in
    elim (eqb_tells p p) [
      | inl y ↦ rw y.0 (ap (λ (xs : List ℕ). p ∷ xs) rest)
      | inr y ↦ absurd (y.1 refl)
    ]

run_whole : (p n : ℕ) → consecutive (row_from p n) ≡ row_from p n
unfolding consecutive
run_whole p zero = refl
run_whole p (suc n) = run_on p (suc n)

no_directory : (x : Node) → 0 < length (places_of x) → is_directory x ≡ false
no_directory (node a (directory es)) h = absurd (omega (arith, h))
no_directory (node a (regular ps)) h = refl
no_directory (node a (symlink ps)) h = refl
no_directory (node a block) h = refl
no_directory (node a character) h = refl
no_directory (node a socket) h = refl
no_directory (node a fifo) h = refl

map_whole : (b : List ℕ) (x : Node) (q align : ℕ) → IsRun align (places_of x) → 0 < length (places_of x)
    → map_on None b 0 (length (places_of x)) x q ≡ Ok ((None, lent b (places_of x)), q)
map_whole b x q align r h =
    let ps = places_of x in
    let n = length ps in
    let file = no_directory x h in
    let some : (n == 0) ≡ false = ne_eqb n 0 (λ z. absurd (omega (arith, z, h))) in
    let inside : nat_lt n (0 + n) ≡ false = le-ltb n (0 + n) (omega arith) in
    let all : take n (drop 0 ps) ≡ ps = take_all n ps (omega arith) in
    let run : consecutive ps ≡ ps =
    subst (λ (qs : List ℕ). consecutive qs ≡ qs) (sym r.1) (run_whole (r.0 * align) n) in
    let whole : (length (consecutive ps) == n) ≡ true = eq-eqb (length (consecutive ps)) n (ap length run) in
    rw (file, some, inside, all, whole) refl

-- the first place of a run
first_of : (p n : ℕ) → 0 < n → first_place (row_from p n) ≡ p
first_of p zero h = absurd (omega arith)
first_of p (suc n) h = refl

pub whole_gives : (m : Image) (t : Table Node) (fd align : ℕ) (o : Open Node) → open_at t fd ≡ Some o
    → IsRun align (places_of o.place) → 0 < length (places_of o.place) → IsMappedWhole m t fd o.place align
whole_gives m t fd align o e r h =
    let ps = places_of o.place in
    let f : Node → ℕ → Outcome (Of Lent) = λ x p. map_on None m.bytes 0 (length ps) x p in
    let gives : f o.place o.position ≡ Ok ((None, lent m.bytes ps), o.position) =
    map_whole m.bytes o.place o.position align r h in
    let reply : (opened t fd f (open_at t fd)).reply ≡ Ok (None, lent m.bytes ps) = (rw (e, gives) refl) in
    let first : first_place ps ≡ r.0 * align = ap first_place r.1 ∙ first_of (r.0 * align) (length ps) h in
    record { times = r.0; aligned = first; answered = reply }
