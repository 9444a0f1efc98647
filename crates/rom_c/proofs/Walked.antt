-- The nodes that a walk has met, and those that are to come.
use Rattle.std.proofs.Common.{◌≡◌, ℕ, ◌+◌, ◌<◌, ◌≤◌, ◌==◌, ◌||◌, Bool, true, false, cond, List, [], ◌∷◌, length}
use Rattle.std.proofs.Common.{Some, None, sym, ap, ◌∙◌, arith, eq-eqb}
use Rattle.std.specs.List.{count_by, find}
use Rattle.std.proofs.lemmas.List.Sums.{count_by-le-length, sum_by-cons}
use Rattle.std.proofs.lemmas.Bool.{ne_eqb}
use Rattle.rom_tree.specs.Tree.{Node, Entries, entry, entries_of, ino_of, nodes}
use Rattle.rom_c.specs.Linked.{has_entry, links_of, entered_from}

abbrev has_number : ℕ → Node → Bool
has_number n x = ino_of x == n

abbrev leads : ℕ → Node → Bool
leads n x = has_entry n (entries_of x)

pub all_count : (t : Node) (xs : List Node) (n : ℕ) → xs ≡ nodes t
    → 0 + count_by (λ x. ino_of x == n) xs ≡ links_of t n
all_count t xs n e =
    let k : count_by (has_number n) xs ≡ links_of t n = ap (count_by (has_number n)) e in
    omega (arith, k)

pub no_more : (links n : ℕ) (t : Node) (old : List Node) → old ≡ []
    → links + count_by (λ x. ino_of x == n) old ≡ links_of t n → links ≡ links_of t n
no_more links n t old e h =
    let k : count_by (has_number n) old ≡ 0 = ap (count_by (has_number n)) e in
    omega (arith, k, h)

counted : (given : Node) (old new : List Node) (n : ℕ) → old ≡ given ∷ new
    → count_by (has_number n) old ≡ cond (ino_of given == n) 1 0 + count_by (has_number n) new
counted given old new n e =
    ap (count_by (has_number n)) e ∙ sum_by-cons (λ (x : Node). cond (has_number n x) 1 0) given new

pub met_it : (links n : ℕ) (t given : Node) (old new : List Node) → old ≡ given ∷ new → ino_of given ≡ n
    → links + count_by (λ x. ino_of x == n) old ≡ links_of t n
    → (links + 1) + count_by (λ x. ino_of x == n) new ≡ links_of t n
met_it links n t given old new e i h =
    let b : (ino_of given == n) ≡ true = eq-eqb (ino_of given) n i in
    let f : Bool → ℕ = λ v. cond v 1 0 in
    let one : f (ino_of given == n) ≡ f true = ap f b in
    let k = counted given old new n e in
    omega (arith, k, one, h)

pub met_other : (links n : ℕ) (t given : Node) (old new : List Node) → old ≡ given ∷ new
    → (ino_of given ≡ n → ⊥)
    → links + count_by (λ x. ino_of x == n) old ≡ links_of t n
    → links + count_by (λ x. ino_of x == n) new ≡ links_of t n
met_other links n t given old new e i h =
    let b : (ino_of given == n) ≡ false = ne_eqb (ino_of given) n i in
    let f : Bool → ℕ = λ v. cond v 1 0 in
    let none : f (ino_of given == n) ≡ f false = ap f b in
    let k = counted given old new n e in
    omega (arith, k, none, h)

-- what was counted is at most all
pub has_room : (links n : ℕ) (t : Node) (old : List Node) → length (nodes t) ≤ 4294967296
    → links + count_by (λ x. ino_of x == n) old ≡ links_of t n → links + 1 < 18446744073709551616
has_room links n t old few h =
    let l : links_of t n ≤ length (nodes t) = count_by-le-length (has_number n) (nodes t) in
    omega (arith, l, h, few)

-- the first node that leads there

pub none_yet : (t : Node) (xs : List Node) (n : ℕ) → xs ≡ nodes t
    → find (λ x. has_entry n (entries_of x)) xs ≡ entered_from t n
none_yet t xs n e = ap (find (leads n)) e

pub none_left : (t : Node) (old : List Node) (n : ℕ) → old ≡ []
    → find (λ x. has_entry n (entries_of x)) old ≡ entered_from t n → entered_from t n ≡ None
none_left t old n e h = sym h ∙ ap (find (leads n)) e

pub passes : (t given : Node) (old new : List Node) (n : ℕ) → old ≡ given ∷ new
    → has_entry n (entries_of given) ≡ false
    → find (λ x. has_entry n (entries_of x)) old ≡ entered_from t n
    → find (λ x. has_entry n (entries_of x)) new ≡ entered_from t n
passes t given old new n e b h =
    sym (ap (find (leads n)) e
    ∙ ap (λ (v : Bool). cond v (Some given) (find (leads n) new)) b)
    ∙ h

pub found : (t given : Node) (old new : List Node) (n : ℕ) → old ≡ given ∷ new
    → has_entry n (entries_of given) ≡ true
    → find (λ x. has_entry n (entries_of x)) old ≡ entered_from t n
    → entered_from t n ≡ Some given
found t given old new n e b h =
    sym h ∙ (ap (find (leads n)) e
    ∙ ap (λ (v : Bool). cond v (Some given) (find (leads n) new)) b)

-- the entries that were passed lead elsewhere

pub entry_other : (n : ℕ) (name : List ℕ) (x : Node) (es : Entries) → (ino_of x ≡ n → ⊥)
    → has_entry n (entry name x es) ≡ has_entry n es
entry_other n name x es h = ap (λ (v : Bool). v || has_entry n es) (ne_eqb (ino_of x) n h)

pub entry_leads : (n : ℕ) (name : List ℕ) (x : Node) (es : Entries) → ino_of x ≡ n
    → has_entry n (entry name x es) ≡ true
entry_leads n name x es h = ap (λ (v : Bool). v || has_entry n es) (eq-eqb (ino_of x) n h)
