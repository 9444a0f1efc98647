-- `table_references`: references in two tables, for tests. For the record at each offset, one table
-- has the offset of its own list, and the other that of the next record. (This project's own.)
use Rattle.std.specs.Prelude.{◌≡◌, ◌<◌, ◌≤◌, ◌==◌, ℕ, true, List, get_or, Option, None, Some}
use Rattle.std.specs.Prelude.{IfSome, if◌then◌else◌}
use Rattle.record_forest.specs.declared.reference.Reference.{Reference}
use Rattle.rom_fields.specs.declared.fault.Fault.{Fault}
use Rattle.record_forest.specs.References.{References}

-- no record is at 0
abbrev pub offset : ℕ → Option ℕ
offset n = if n == 0 then None else Some n

-- the offset of a record, or 0
abbrev pub place : Option ℕ → ℕ
place None = 0
place (Some p) = p

-- the root is at 1
abbrev pub table_target : List ℕ → List ℕ → Reference → Option ℕ
table_target own after x = if x.which == 0 then Some 1
    else (if x.which == 1 then offset (get_or own x.source 0) else offset (get_or after x.source 0))

abbrev pub table_references : List ℕ → List ℕ → References
table_references own after = record {
  top = record { source = 0; which = 0 };
  target = table_target own after;
  own = λ x. record { source = place (table_target own after x); which = 1 };
  after = λ x. record { source = place (table_target own after x); which = 2 };
  chained = true;
}

-- a record has a row of the tables
abbrev pub table_sound : List ℕ → List ℕ → Reference → Type 0
table_sound own after x = IfSome (table_target own after x) (λ p. p < 8)

abbrev pub table_faulty : List ℕ → List ℕ → Reference → Fault → Type 0
table_faulty own after x e =
    IfSome (table_target own after x) (λ p. (8 ≤ p) × (e ≡ record { number = 1; at = p }))
