-- The blocks of a list of extents to which a run, or what is not one, is added.
use Rattle.std.proofs.Common.{◌≡◌, ℕ, zero, suc, ◌+◌, ◌-◌, ◌*◌, ◌/◌, ◌%◌, ◌==◌, ◌<◌, ◌≤◌, Bool, true, false, List, []}
use Rattle.std.proofs.Common.{◌∷◌, ◌++◌, refl, sym, ap, subst, ◌∙◌, arith, append_assoc, append-nil, if◌then◌else◌}
use Rattle.std.proofs.lemmas.Bool.{eqb-true}
use Rattle.std.proofs.lemmas.List.Concat.{flat_map-append}
use Rattle.std.specs.List.{flat_map}
use Rattle.rom_fields.specs.declared.span.Span.{Span}
use Rattle.rom_fields.specs.declared.span.Extent.{Extent}
use Rattle.rom_fields.specs.declared.span.Extent.TheVariants.{Super, List as ListOf, Data}
use Rattle.rom_fields.specs.Extents.{added}
use Rattle.record_forest.specs.declared.reference.Row.{Row}
use Rattle.cramfs_format.specs.Order.{word}
use Rattle.cramfs_format.specs.declared.order.Order.{Order}
use Rattle.cramfs_format.specs.Inode.{type_of, size_of, offset_of, block_start}
use Rattle.cramfs_format.specs.Tree.{data_from}
use Rattle.cramfs_image.specs.Merged.{is_data, is_run, whole_block, blocks, blocks_in, expanded, IsRun}
use Rattle.cramfs_image.specs.Files.{list_part, whole_blocks}
use Rattle.cramfs_image.proofs.Hits.{run_true, blocks_of_run, blocks_of_other}

-- a run
run_added : (s n : ℕ) → n % 4096 ≡ 0 → expanded (added Data s n) ≡ blocks (n / 4096) s
run_added s zero e = refl
run_added s (suc n) e =
    let x : Span = record { kind = Data; start = s; len = suc n } in
    append-nil (blocks_in x) ∙ blocks_of_run x (run_true x (record { data_kind = refl; whole = e }))

-- what is no run
pub other_added : (k : Extent) (s n : ℕ) → is_data k ≡ false → expanded (added k s n) ≡ added k s n
other_added k s zero e = refl
other_added k s (suc n) e =
    let x : Span = record { kind = k; start = s; len = suc n } in
    let f : is_run x ≡ false = subst (λ (v : Bool). (if v then (suc n) % 4096 == 0 else false) ≡ false) (sym e) refl in
    append-nil (blocks_in x) ∙ blocks_of_other x f

not_zero : (n m : ℕ) → m ≡ suc n → (m == 0) ≡ true → false ≡ true
not_zero n m e t = absurd (let z = eqb-true m 0 t in omega arith)

pub rest_added : (s n : ℕ) → n < 4096 → expanded (added Data s n) ≡ added Data s n
rest_added s zero l = refl
rest_added s (suc n) l =
    let x : Span = record { kind = Data; start = s; len = suc n } in
    let m : (suc n) % 4096 ≡ suc n = omega arith in
    append-nil (blocks_in x) ∙ blocks_of_other x (not_true ((suc n) % 4096 == 0) (λ t. not_zero n ((suc n) % 4096) m t))
  where
    not_true : (v : Bool) → (v ≡ true → false ≡ true) → v ≡ false
    not_true true h = sym (h refl)
    not_true false h = refl

pub expanded_join : (xs ys : List Span) → expanded (xs ++ ys) ≡ expanded xs ++ expanded ys
expanded_join xs ys = flat_map-append blocks_in xs ys

-- one block more
blocks_more : (n s : ℕ) → blocks (suc n) s ≡ blocks n s ++ whole_block (s + 4096 * n) ∷ []
blocks_more zero s =
    let e : s ≡ s + 4096 * 0 = omega arith in ap (λ (v : ℕ). whole_block v ∷ []) e
blocks_more (suc n) s =
    let e : s + 4096 + 4096 * n ≡ s + 4096 * (suc n) = omega arith in
    ap (λ (v : List Span). whole_block s ∷ v)
    (blocks_more n (s + 4096) ∙ ap (λ (v : ℕ). blocks n (s + 4096) ++ whole_block v ∷ []) e)

-- a block goes to the end of the run
pub block_joined : (es : List Span) (start len next : ℕ) → start + len ≡ next → len % 4096 ≡ 0
    → expanded es ++ blocks ((len + 4096) / 4096) start
    ≡ (expanded es ++ blocks (len / 4096) start) ++ added Data next 4096
block_joined es start len next f w =
    let e : (len + 4096) / 4096 ≡ suc (len / 4096) = omega arith in
    let at : start + 4096 * (len / 4096) ≡ next = omega arith in
    ap (λ (v : ℕ). expanded es ++ blocks v start) e
    ∙ ap (λ (v : List Span). expanded es ++ v) (blocks_more (len / 4096) start
    ∙ ap (λ (v : ℕ). blocks (len / 4096) start ++ whole_block v ∷ []) at)
    ∙ sym (append_assoc (expanded es) (blocks (len / 4096) start) (whole_block next ∷ []))

run_put : (es fs : List Span) (start len : ℕ) → fs ≡ es ++ added Data start len → len % 4096 ≡ 0
    → expanded fs ≡ expanded es ++ blocks (len / 4096) start
run_put es fs start len e w =
    ap expanded e ∙ expanded_join es (added Data start len)
    ∙ ap (λ (v : List Span). expanded es ++ v) (run_added start len w)

-- lists have no runs
list_apart : (o : Order) (b : List ℕ) (x : Row) → expanded (list_part o b x) ≡ list_part o b x
list_apart o b x = choice (type_of o b x.offset == 4)
  where
    choice : (v : Bool) → expanded (if v then added ListOf (offset_of o b x.offset) (size_of o b x.offset) else [])
        ≡ (if v then added ListOf (offset_of o b x.offset) (size_of o b x.offset) else [])
    choice true = other_added ListOf (offset_of o b x.offset) (size_of o b x.offset) refl
    choice false = refl

lists_apart : (o : Order) (b : List ℕ) (xs : List Row)
    → expanded (flat_map (list_part o b) xs) ≡ flat_map (list_part o b) xs
lists_apart o b [] = refl
lists_apart o b (x ∷ xs) =
    expanded_join (list_part o b x) (flat_map (list_part o b) xs)
    ∙ ap (λ (v : List Span). v ++ expanded (flat_map (list_part o b) xs)) (list_apart o b x)
    ∙ ap (λ (v : List Span). list_part o b x ++ v) (lists_apart o b xs)

pub base_apart : (o : Order) (b : List ℕ) (xs : List Row) (es : List Span)
    → es ≡ added Super 0 76 ++ flat_map (list_part o b) xs
    → expanded es ≡ added Super 0 76 ++ flat_map (list_part o b) xs
base_apart o b xs es e =
    ap expanded e ∙ expanded_join (added Super 0 76) (flat_map (list_part o b) xs)
    ∙ ap (λ (v : List Span). v ++ expanded (flat_map (list_part o b) xs)) (other_added Super 0 76 refl)
    ∙ ap (λ (v : List Span). added Super 0 76 ++ v) (lists_apart o b xs)
