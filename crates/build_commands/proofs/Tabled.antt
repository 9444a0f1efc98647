-- The files that rows make, as lines of a manifest.
use Rattle.std.proofs.Common.{◌≡◌, ℕ, suc, ◌+◌, ◌-◌, ◌<◌, ◌^◌, ◌&&◌, ◌||◌, Bool, true, false, cond, nat_lt, not}
use Rattle.std.proofs.Common.{List, [], ◌∷◌, ◌++◌, length, map, take, get_or, refl, sym, ap, ap₂, ◌∙◌, arith, Option}
use Rattle.std.proofs.Common.{Some, None}
use Rattle.std.specs.Prelude.{Result, Ok, Err, slice_get}
use Rattle.std.specs.BTreeSet.{UpdatesBy}
use Rattle.std.specs.Borrow.{Bor}
use Rattle.std.specs.Cmp.Lexicographic.{slice_cmp}
use Rattle.std.specs.List.{list_any}
use Rattle.std.specs.Ordering.{nat_cmp}
use Rattle.std.specs.Str.{bytes_eq, is_utf8}
use Rattle.std.proofs.lemmas.List.{append_assoc, length-append}
use Rattle.std.proofs.lemmas.List.Folds.{list_any-append, list_any_more}
use Rattle.std.proofs.lemmas.Map.Text.{is_eq-slice_cmp}
use Rattle.manifest.specs.Alone.{own_fault}
use Rattle.manifest.specs.FaultNumbers.{BAD_NUMBER, BAD_PATH, BAD_TARGET, BAD_WORD}
use Rattle.manifest.specs.Lines.{is_dir}
use Rattle.manifest.specs.Texts.{is_empty}
use Rattle.manifest.specs.declared.line.Line.{Line}
use Rattle.manifest.specs.declared.line.Word.{Word}
use Rattle.manifest.specs.declared.line.Word.TheVariants.{Dir}
use Rattle.build_commands.specs.Devices.{has_contents, made, without_contents}
use Rattle.build_commands.specs.DeviceTable.{IsMade, Table, add_entry, and_then, device, entry_of, file_for}
use Rattle.build_commands.specs.DeviceTable.{is_entry_below}
use Rattle.build_commands.specs.DeviceTable.{Entry, is_below, is_link, is_set_below, is_slink, makes_directory}
use Rattle.build_commands.specs.DeviceTable.{set_below, set_entry, set_line}
use Rattle.build_commands.specs.DeviceTable.{line_for, sound, with_attributes, with_devices, with_entries}
use Rattle.build_commands.specs.DeviceTable.{is_hidden, shown_from}
use Rattle.build_commands.specs.Fitting.{has_directory, holds}
use Rattle.build_commands.specs.Inventory.{or_root, path_of}
use Rattle.build_commands.specs.Lists.{line_of, setting_of}
use Rattle.build_commands.specs.Overlay.{has_path, is_directory}
use Rattle.build_commands.specs.TableRow.{Row, word_of_node}
use Rattle.build_commands.specs.declared.device_table.Made.{Made}
use Rattle.build_commands.specs.declared.inventory.FileKind.TheVariants.{Directory, Regular, Symlink, Block, Character}
use Rattle.build_commands.specs.declared.inventory.FileKind.TheVariants.{Fifo, Socket}
use Rattle.build_commands.specs.declared.inventory.NamedFile.{NamedFile}
use Rattle.build_commands.specs.declared.listing.BadLine.{BadLine}
use Rattle.build_commands.specs.declared.listing.Why.TheVariants as why
use Rattle.build_commands.specs.declared.rights.Change.{Change}
use Rattle.build_commands.specs.declared.table_row.Node.{Node}
use Rattle.build_commands.specs.declared.table_row.Node.TheVariants as node
use Rattle.build_commands.proofs.Mapped.{Mapping}

-- a file and its line
pub line_path : (f : NamedFile) → (line_of f).path ≡ path_of f
line_path f = elim f.kind as (λ k. (line_of (record f { kind = k })).path ≡ path_of f) [
  | Directory ↦ refl
  | Regular ↦ refl
  | Symlink t ↦ refl
  | Block d ↦ refl
  | Character d ↦ refl
  | Fifo ↦ refl
  | Socket ↦ refl
]

pub line_dir : (f : NamedFile) → is_dir (line_of f).word ≡ is_directory f
line_dir f = elim f.kind as (λ k. is_dir (line_of (record f { kind = k })).word ≡ is_directory (record f { kind = k })) [
  | Directory ↦ refl
  | Regular ↦ refl
  | Symlink t ↦ refl
  | Block d ↦ refl
  | Character d ↦ refl
  | Fifo ↦ refl
  | Socket ↦ refl
]

line_link : (f : NamedFile) → is_slink (line_of f).word ≡ is_link f.kind
line_link f = elim f.kind as (λ k. is_slink (line_of (record f { kind = k })).word ≡ is_link k) [
  | Directory ↦ refl
  | Regular ↦ refl
  | Symlink t ↦ refl
  | Block d ↦ refl
  | Character d ↦ refl
  | Fifo ↦ refl
  | Socket ↦ refl
]

line_set : (r : Row) (f : NamedFile) → line_of (with_attributes r f) ≡ set_line r (line_of f)
line_set r f = elim f.kind as
    (λ k. line_of (with_attributes r (record f { kind = k })) ≡ set_line r (line_of (record f { kind = k }))) [
      | Directory ↦ refl
      | Regular ↦ refl
      | Symlink t ↦ refl
      | Block d ↦ refl
      | Character d ↦ refl
      | Fifo ↦ refl
      | Socket ↦ refl
    ]

entry_below : (path : List ℕ) (f : NamedFile) → is_entry_below path (entry_of f) ≡ is_set_below path f
entry_below path f = ap₂ (λ (b : Bool) (q : List ℕ). not b && is_below q path) (line_link f) (line_path f)

entry_set : (r : Row) (f : NamedFile) → entry_of (set_below r f) ≡ set_entry r (entry_of f)
entry_set r f = rw (entry_below r.path f)
    (elim (is_set_below r.path f) as
    (λ t. entry_of (cond t (with_attributes r f) f)
    ≡ cond t (record (entry_of f) { line = set_line r (line_of f) }) (entry_of f)) [
      | true ↦ ap (λ (l : Line). record (entry_of f) { line = l }) (line_set r f)
      | false ↦ refl
    ])

any_below : (path : List ℕ) (fs : List NamedFile) → list_any (is_entry_below path) (map entry_of fs)
    ≡ list_any (is_set_below path) fs
any_below path [] = refl
any_below path (f ∷ fs) = ap₂ ◌||◌ (entry_below path f) (any_below path fs)

map_set : (r : Row) (fs : List NamedFile) → map entry_of (map (set_below r) fs) ≡ map (set_entry r) (map entry_of fs)
map_set r [] = refl
map_set r (f ∷ fs) = ap₂ ◌∷◌ (entry_set r f) (map_set r fs)

pub entries_done : (found : List NamedFile) (r : Row) (u : Table) (fs gs : List NamedFile)
    → u.entries ≡ map entry_of fs → gs ≡ map (set_below r) fs
    → list_any (is_set_below r.path) found || list_any (is_set_below r.path) fs ≡ true
    → with_entries found r u ≡ Ok (record u { entries = map entry_of gs })
entries_done found r u fs gs e g h =
    let b : BadLine = record { line = r.line; number = BAD_TARGET; why = why.File } in
    ap (λ (t : Bool). cond t (Ok (record u { entries = map (set_entry r) u.entries })) (Err b))
    (ap (λ (es : List Entry). list_any (is_set_below r.path) found || list_any (is_entry_below r.path) es) e
    ∙ ap (λ (t : Bool). list_any (is_set_below r.path) found || t) (any_below r.path fs) ∙ h)
    ∙ ap (λ (es : List Entry). Ok (record u { entries = es }))
    (ap (map (set_entry r)) e ∙ sym (map_set r fs) ∙ ap (map entry_of) (sym g))

pub entries_none : (found : List NamedFile) (r : Row) (u : Table) (fs : List NamedFile)
    → u.entries ≡ map entry_of fs
    → list_any (is_set_below r.path) found || list_any (is_set_below r.path) fs ≡ false
    → with_entries found r u ≡ Err (record { line = r.line; number = BAD_TARGET; why = why.File })
entries_none found r u fs e h =
    let b : BadLine = record { line = r.line; number = BAD_TARGET; why = why.File } in
    ap (λ (t : Bool). cond t (Ok (record u { entries = map (set_entry r) u.entries })) (Err b))
    (ap (λ (es : List Entry). list_any (is_set_below r.path) found || list_any (is_entry_below r.path) es) e
    ∙ ap (λ (t : Bool). list_any (is_set_below r.path) found || t) (any_below r.path fs) ∙ h)

-- what these files and changes are
abbrev pub as_table : List NamedFile → List Change → Table
as_table fs cs = record { entries = map entry_of fs; settings = map setting_of cs }

-- directories among the files
kept : (r : Row) (p : List ℕ) (f : NamedFile) → (is_directory (set_below r f) && has_path p (set_below r f))
    ≡ (is_directory f && has_path p f)
kept r p f = elim (is_set_below r.path f) as
    (λ t. (is_directory (cond t (with_attributes r f) f) && has_path p (cond t (with_attributes r f) f))
    ≡ (is_directory f && has_path p f)) [
      | true ↦ refl
      | false ↦ refl
    ]

pub kept_directories : (r : Row) (p : List ℕ) (fs : List NamedFile)
    → has_directory (map (set_below r) fs) p ≡ has_directory fs p
kept_directories r p [] = refl
kept_directories r p (f ∷ fs) = ap₂ ◌||◌ (kept r p f) (kept_directories r p fs)

pub same_directories : (fs : List NamedFile) (p : List ℕ) → has_directory fs p ≡ makes_directory (map entry_of fs) p
same_directories [] p = refl
same_directories (f ∷ fs) p =
    ap₂ ◌||◌ (ap₂ ◌&&◌ (sym (line_dir f)) (ap (λ (q : List ℕ). bytes_eq q p) (sym (line_path f))))
    (same_directories fs p)

or_false : (a : Bool) → a || false ≡ a
or_false true = refl
or_false false = refl

or_last : (a b : Bool) → cond b true a ≡ a || (b || false)
or_last true true = refl
or_last true false = refl
or_last false true = refl
or_last false false = refl

-- one more directory
pub made_more : (old new : Made) (k : Bor (List ℕ)) (f : NamedFile) → IsMade old
    → new.listing.files.items ≡ old.listing.files.items ++ f ∷ []
    → is_directory f ≡ true → path_of f ≡ k.now
    → UpdatesBy (λ x y. slice_cmp nat_cmp x.now y.now) (λ y. slice_cmp nat_cmp k.now y.now) old.directories
    new.directories true
    → IsMade new
made_more old new k f was items d path u p =
    let test : NamedFile → Bool = λ g. is_directory g && has_path p g in
    let here : test f ≡ bytes_eq k.now p =
    ap (λ (b : Bool). b && has_path p f) d ∙ ap (λ (q : List ℕ). bytes_eq q p) path in
    u.0 (record k { now = p })
    ∙ ap (λ (b : Bool). cond b true (holds old.directories p)) (is_eq-slice_cmp k.now p ∙ sym here)
    ∙ or_last (holds old.directories p) (test f)
    ∙ ap (λ (b : Bool). b || (test f || false)) (was p)
    ∙ sym (list_any-append test old.listing.files.items (f ∷ []))
    ∙ ap (λ (fs : List NamedFile). has_directory fs p) (sym items)

-- one more file, which is no directory
pub made_same : (old new : Made) (f : NamedFile) → IsMade old
    → new.listing.files.items ≡ old.listing.files.items ++ f ∷ [] → is_directory f ≡ false
    → new.directories ≡ old.directories → IsMade new
made_same old new f was items d same p =
    let test : NamedFile → Bool = λ g. is_directory g && has_path p g in
    ap (λ s. holds s p) same ∙ was p
    ∙ sym (or_false (has_directory old.listing.files.items p))
    ∙ ap (λ (b : Bool). has_directory old.listing.files.items p || (b && has_path p f || false)) (sym d)
    ∙ sym (list_any-append test old.listing.files.items (f ∷ []))
    ∙ ap (λ (fs : List NamedFile). has_directory fs p) (sym items)

err_ok : {X : Type 0} (b : BadLine) (x : X) → Err b ≡ Ok x → ⊥
err_ok b x e = absurd cc

abbrev as_ok : Line → Result Line BadLine
as_ok l = Ok l

ok_ok : (x y : Line) → as_ok x ≡ as_ok y → y ≡ x
ok_ok x y e = cc

-- the line of a file that can be made
made_is : (l m : Line) → made l ≡ Ok m → m ≡ without_contents l
made_is l m =
    let word : BadLine = record { line = l.number; number = BAD_WORD; why = why.Word } in
    let text : BadLine = record { line = l.number; number = BAD_PATH; why = why.Text } in
    elim (is_utf8 l.path && is_utf8 l.text) as
    (λ t. cond t (cond (has_contents l.word) (Err word) (Ok (without_contents l))) (Err text) ≡ Ok m
    → m ≡ without_contents l) [
      | true ↦ elim (has_contents l.word) as
          (λ t. cond t (Err word) (Ok (without_contents l)) ≡ Ok m → m ≡ without_contents l) [
            | true ↦ λ e. absurd (err_ok word m e)
            | false ↦ λ e. ok_ok (without_contents l) m e
          ]
      | false ↦ λ e. absurd (err_ok text m e)
    ]

sound_is : (l m : Line) (o : Option ℕ) → sound l o ≡ Ok m → m ≡ without_contents l
sound_is l m (Some k) e = absurd (err_ok (record { line = l.number; number = k; why = why.Row }) m e)
sound_is l m None e = made_is l m e

pub file_is : (r : Row) (w : Word) (minor : ℕ) (path : List ℕ) (m : Line) → file_for r w minor path ≡ Ok m
    → (m ≡ without_contents (line_for r w minor path)) × (is_empty path ≡ false)
file_is r w minor path m =
    let l : Line = line_for r w minor path in
    let word : BadLine = record { line = r.line; number = BAD_WORD; why = why.Row } in
    let number : BadLine = record { line = r.line; number = BAD_NUMBER; why = why.Row } in
    elim (nat_lt minor (2 ^ 32)) as
    (λ t. cond t (cond (is_empty path) (Err word) (sound l (own_fault l))) (Err number) ≡ Ok m
    → (m ≡ without_contents l) × (is_empty path ≡ false)) [
      | true ↦ elim (is_empty path) as
          (λ t. cond t (Err word) (sound l (own_fault l)) ≡ Ok m → (m ≡ without_contents l) × (t ≡ false)) [
            | true ↦ λ e. absurd (err_ok word m e)
            | false ↦ λ e. (sound_is l m (own_fault l) e, refl)
          ]
      | false ↦ λ e. absurd (err_ok number m e)
    ]

not_root : (path : List ℕ) → is_empty path ≡ false → or_root path ≡ path
not_root [] e = absurd cc
not_root (b ∷ bs) e = refl

-- what is made for a directory
pub directory_is : (r : Row) (path : List ℕ) (f : NamedFile) → file_for r Dir 0 path ≡ Ok (line_of f)
    → (is_directory f ≡ true) × (path_of f ≡ path)
directory_is r path f e =
    let l : Line = line_for r Dir 0 path in
    let is : (line_of f ≡ without_contents l) × (is_empty path ≡ false) = file_is r Dir 0 path (line_of f) e in (
      sym (line_dir f) ∙ ap (λ (m : Line). is_dir m.word) is.0,
      sym (line_path f) ∙ ap (λ (m : Line). m.path) is.0 ∙ not_root path is.1,
    )

node_word : (r : Row) (n : Node) (minor : ℕ) (path : List ℕ)
    → is_dir (without_contents (line_for r (word_of_node n) minor path)).word ≡ false
node_word r node.Character minor path = refl
node_word r node.Block minor path = refl
node_word r node.Fifo minor path = refl

pub device_is : (r : Row) (n : Node) (minor : ℕ) (path : List ℕ) (f : NamedFile)
    → file_for r (word_of_node n) minor path ≡ Ok (line_of f) → is_directory f ≡ false
device_is r n minor path f e =
    sym (line_dir f) ∙ ap (λ (m : Line). is_dir m.word) (file_is r (word_of_node n) minor path (line_of f) e).0
    ∙ node_word r n minor path

-- one device after the other
pub devices_step : (r : Row) (n : Node) (t : Table) (step all : ℕ) → step < all
    → with_devices r n t step (all - step)
    ≡ and_then (add_entry t false (device r n step)) (λ u. with_devices r n u (step + 1) (all - (step + 1)))
devices_step r n t step all l =
    let more : all - step ≡ suc (all - (step + 1)) = omega (arith, l) in ap (with_devices r n t step) more

-- the files that are shown
pub last_pushed : (xs : List NamedFile) (f : NamedFile) → slice_get (xs ++ f ∷ []) (length xs) ≡ Some f
last_pushed [] f = refl
last_pushed (x ∷ xs) f = last_pushed xs f

pub shown_next : (old new rest more : List NamedFile) (f : NamedFile) → rest ≡ f ∷ more → new ≡ old ++ f ∷ []
    → is_hidden (slice_get old (length old - 1)) f ≡ false
    → new ++ shown_from (slice_get new (length new - 1)) more ≡ old ++ shown_from (slice_get old (length old - 1)) rest
shown_next old new rest more f is put seen =
    let last : slice_get new (length new - 1) ≡ Some f =
    ap (λ (xs : List NamedFile). slice_get xs (length xs - 1)) put
    ∙ ap (slice_get (old ++ f ∷ [])) (omega (arith, length-append old (f ∷ [])))
    ∙ last_pushed old f
    in
    ap₂ (λ (xs : List NamedFile) (g : Option NamedFile). xs ++ shown_from g more) put last
    ∙ append_assoc old (f ∷ []) (shown_from (Some f) more)
    ∙ ap (λ (b : Bool). old ++ cond b (shown_from (slice_get old (length old - 1)) more) (f ∷ shown_from (Some f) more))
    (sym seen)
    ∙ ap (λ (xs : List NamedFile). old ++ shown_from (slice_get old (length old - 1)) xs) (sym is)

-- one more file is looked at
any_next : (p : NamedFile → Bool) (g : ℕ → NamedFile → NamedFile) (old now : List NamedFile) (i : ℕ) (f : NamedFile)
    → i < length now → f ≡ get_or now i f → Mapping g old now i
    → list_any p (take (i + 1) old) ≡ (list_any p (take i old) || p f)
any_next p g old now i f l is m =
    list_any_more p old i f (omega (arith, l, m.size))
    ∙ ap (λ (h : NamedFile). list_any p (take i old) || p h) (sym (m.left i f (omega arith)) ∙ sym is)

or_true : (a : Bool) → a || true ≡ true
or_true true = refl
or_true false = refl

pub any_then : (p : NamedFile → Bool) (g : ℕ → NamedFile → NamedFile) (old now : List NamedFile) (i : ℕ) (f : NamedFile)
    → i < length now → f ≡ get_or now i f → Mapping g old now i → p f ≡ true → list_any p (take (i + 1) old) ≡ true
any_then p g old now i f l is m e =
    any_next p g old now i f l is m ∙ ap (λ (b : Bool). list_any p (take i old) || b) e
    ∙ or_true (list_any p (take i old))

pub any_else : (p : NamedFile → Bool) (g : ℕ → NamedFile → NamedFile) (old now : List NamedFile) (i : ℕ) (f : NamedFile)
    → i < length now → f ≡ get_or now i f → Mapping g old now i → p f ≡ false
    → list_any p (take (i + 1) old) ≡ list_any p (take i old)
any_else p g old now i f l is m e =
    any_next p g old now i f l is m ∙ ap (λ (b : Bool). list_any p (take i old) || b) e
    ∙ or_false (list_any p (take i old))
