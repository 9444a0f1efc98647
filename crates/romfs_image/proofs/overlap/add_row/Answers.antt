use Rattle.std.proofs.Common.{◌≡◌, ◌⊎◌, inl, inr, ℕ, ◌-◌, List, ◌++◌, true, refl, sym, ap, ◌∙◌, append_assoc, arith}
use Rattle.rom_fields.specs.Extents.{added}
use Rattle.rom_fields.specs.declared.span.Span.{Span}
use Rattle.rom_fields.specs.declared.span.Extent.TheVariants.{Record, Data}
use Rattle.record_forest.specs.declared.reference.Row.{Row}
use Rattle.romfs_format.specs.Record.{end_of, size_of, type_of, has_data}
use Rattle.romfs_format.specs.Tree.{row_extents}
use Rattle.romfs_image.proofs.Reading.{end_after}
use Rattle.romfs_image.proofs.overlap.add_row.Goals as goal

pub overflow_sub-end : goal.overflow_sub-end
overflow_sub-end c =
    let e = end_after c.args.b.now.bytes.now c.args.row.offset in let f = c.end_at-end.ensures.value in omega arith

data_by : (k : ℕ) → (k ≡ 2) ⊎ ((k ≡ 2 → ⊥) × (k ≡ 3)) → has_data k ≡ true
data_by k (inl e) = rw e refl
data_by k (inr e) = rw e.1 refl

-- what a record takes that has data
with_data : (b : List ℕ) (x : Row) (e s : ℕ) → e ≡ end_of b x.offset → s ≡ size_of b x.offset
    → has_data (type_of b x.offset) ≡ true → added Record x.offset (e - x.offset) ++ added Data e s ≡ row_extents b x
with_data b x e s f g h = rw (h, f, g) refl

both : (old mid new : List Span) (b : List ℕ) (x : Row) (e s : ℕ) → mid ≡ old ++ added Record x.offset (e - x.offset)
    → new ≡ mid ++ added Data e s → added Record x.offset (e - x.offset) ++ added Data e s ≡ row_extents b x
    → new ≡ old ++ row_extents b x
both old mid new b x e s m n q = n ∙
    (ap (λ v. v ++ added Data e s) m ∙
    (append_assoc old (added Record x.offset (e - x.offset)) (added Data e s) ∙ ap (λ v. old ++ v) q))

pub returns-in_ok-add-2 : goal.returns-in_ok-add-2
returns-in_ok-add-2 c =
    let b : List ℕ = c.args.b.now.bytes.now in
    let x : Row = c.args.row in
    let h : has_data (type_of b x.offset) ≡ true =
    sym (ap has_data c.type_at-kind.ensures) ∙ data_by c.type_at-kind.result c.then-kind-eq2.either in
    both c.args.spans.now.items c.add.new.spans.items c.add-then-kind-eq2.new.spans.items b x c.end_at-end.result
    c.size_at.result
    c.in_ok-add.ensures c.in_ok-add-2.ensures
    (with_data b x c.end_at-end.result c.size_at.result c.end_at-end.ensures.value c.size_at.ensures h)
