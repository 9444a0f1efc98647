-- What the entries of a table name.
use Rattle.std.proofs.Common.{◌≡◌, ℕ, ◌<◌, List, length, get_or, arith, ap, sym, ◌∙◌, None}
use Rattle.std.proofs.lemmas.List.{get_or-map, length-map}
use Rattle.std.proofs.lemmas.List.FromFn.{get_or-map-range_with_len, length-map-range_with_len}
use Rattle.elf_format.specs.Needs.{Needed, entry_at, library, needs_in}
use Rattle.elf_format.specs.Table.{table_rows}
use Rattle.elf_format.specs.declared.table.Table.{Table}

-- one for each entry
pub as_many : (b : List ℕ) (strings : ℕ) (t : Table) (v : Needed) → needs_in b strings (table_rows b t) ≡ v
    → length v.needed ≡ t.count
as_many b strings t v e =
    let f = entry_at t.class t.order b t.at in
    sym (ap (λ (n : Needed). length n.needed) e)
    ∙ (length-map (table_rows b t) (library b strings) ∙ length-map-range_with_len f 0 t.count)

pub named_at : (b : List ℕ) (strings : ℕ) (t : Table) (v : Needed) (i : ℕ) → needs_in b strings (table_rows b t) ≡ v
    → i < length v.needed → library b strings (entry_at t.class t.order b t.at i) ≡ get_or v.needed i None
named_at b strings t v i e s =
    let f = entry_at t.class t.order b t.at in
    let n : length v.needed ≡ t.count = as_many b strings t v e in
    let l : length (table_rows b t) ≡ t.count = length-map-range_with_len f 0 t.count in
    let row : get_or (table_rows b t) i (f i) ≡ f i =
    get_or-map-range_with_len f 0 t.count i i (f i) (omega arith) (omega arith) in
    sym (ap (library b strings) row)
    ∙ (sym (get_or-map (library b strings) (table_rows b t) i (f i) None (omega arith))
    ∙ ap (λ (n : Needed). get_or n.needed i None) e)
