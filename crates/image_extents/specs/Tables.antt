-- Records that share block pointers: which is the first one, and which is the next. `table` says
-- which block pointers a record has, if it has some: their offset, and the number of bytes to which
-- they lead. (This project's own.)
use Rattle.std.specs.Prelude.{ℕ, zero, suc, ◌==◌, if◌then◌else◌, Bool, true, false, List, [], ◌∷◌}
use Rattle.std.specs.Prelude.{Option, None, Some, slice_get}
use Rattle.std.specs.Ordering.{nat_cmp, ordering_then}
use Rattle.std.specs.declared.cmp.Ordering.{Ordering}
use Rattle.image_extents.specs.declared.extent.Record.{Record}

-- the order of the offsets, and for one offset that of the lengths
abbrev pub pair_cmp : ℕ × ℕ → ℕ × ℕ → Ordering
pair_cmp x y = ordering_then (nat_cmp x.0 y.0) (nat_cmp x.1 y.1)

abbrev pub is_table : ℕ × ℕ → Option (ℕ × ℕ) → Bool
is_table t None = false
is_table t (Some u) = if t.0 == u.0 then t.1 == u.1 else false

-- the number of the first record with the block pointers t, if the first record has the number n
abbrev pub first_with : (Record → Option (ℕ × ℕ)) → ℕ × ℕ → ℕ → List Record → Option ℕ
first_with table t n [] = None
first_with table t n (x ∷ xs) =
    if is_table t (table x) then Some n else first_with table t (suc n) xs

-- the same for the block pointers of a record, which may have none
abbrev pub first_as : (Record → Option (ℕ × ℕ)) → Option (ℕ × ℕ) → ℕ → List Record
    → Option ℕ
first_as table None n xs = None
first_as table (Some t) n xs = first_with table t n xs

-- for each record the number of the next one with its block pointers, if the first record has the
-- number n
abbrev pub nexts : (Record → Option (ℕ × ℕ)) → ℕ → List Record → List (Option ℕ)
nexts table n [] = []
nexts table n (x ∷ xs) = first_as table (table x) (suc n) xs ∷ nexts table (suc n) xs

-- the same where no record shares block pointers
abbrev pub no_next : Record → Option ℕ
no_next x = None

-- the block pointers of a record, if it is there
abbrev pub table_by : (Record → Option (ℕ × ℕ)) → Option Record → Option (ℕ × ℕ)
table_by table None = None
table_by table (Some x) = table x

abbrev pub is_at : ℕ → Option ℕ → Bool
is_at n None = true
is_at n (Some k) = k == n

-- whether the n-th record is the first one with its block pointers, or has none
abbrev pub is_first : (Record → Option (ℕ × ℕ)) → List Record → ℕ → Record → Bool
is_first table all n x = is_at n (first_as table (table x) 0 all)

abbrev pub inner : Option (Option ℕ) → Option ℕ
inner None = None
inner (Some o) = o

-- the numbers to which `next` leads from a number, at most so many
abbrev pub led : List (Option ℕ) → ℕ → Option ℕ → List ℕ
led next zero o = []
led next (suc most) None = []
led next (suc most) (Some i) = i ∷ led next most (inner (slice_get next i))
