-- The depth of a tree and the depths of its rows.
use Rattle.std.proofs.Common.{◌≡◌, ◌≢◌, ℕ, suc, ◌+◌, ◌≤◌, Bool, true, false, List, [], ◌++◌, Some, inl, inr, refl, sym}
use Rattle.std.proofs.Common.{ap, subst, ◌∙◌, arith, if◌then◌else◌, max}
use Rattle.std.proofs.lemmas.Bool.{ne_eqb, false≢true}
use Rattle.std.proofs.lemmas.Bool.Decides.{eqb_tells}
use Rattle.std.specs.List.{AllByRecursion as Every}
use Rattle.rom_tree.specs.Tree.{Entries, entry, depth, body_depth, entries_depth, directory, regular, symlink, block}
use Rattle.rom_tree.specs.Tree.{character, socket, fifo}
use Rattle.record_forest.specs.declared.reference.Reference.{Reference}
use Rattle.record_forest.specs.declared.reference.Row.{Row}
use Rattle.record_forest.specs.Forest.{Forest, none, at, Stands, rows}
use Rattle.record_forest.proofs.Lists.{every_join, every_left, every_right, every_weaker}
use Rattle.romfs_format.specs.Record.{first_of, name_of, type_of}
use Rattle.romfs_format.specs.Refers.{references, reference_offset}
use Rattle.romfs_format.specs.Tree.{kind_numbers, places_at, node_of, entries_at, led, by_type}
use Rattle.rom_tree.specs.Dots.{is_dots}
use Rattle.romfs_format.specs.Made.{StandsAt}
use Rattle.rom_tree.proofs.ByKind.{by_kind_map, by_kind_directory, by_kind_rest}
use Rattle.romfs_format.proofs.Trees.{led_self}
use Rattle.romfs_format.proofs.Bridge.{offset_some, own_offset, standing}

-- a node is as deep as its list, if it is a directory
node_depth_is : (b : List ℕ) (q : ℕ) (es : Entries)
    → depth (node_of b q es) ≡ by_type (type_of b q) (entries_depth es) 0 0 0 0 0 0
unfolding node_of
node_depth_is b q es = by_kind_map body_depth kind_numbers (type_of b q) (directory es) (regular (places_at b q))
    (symlink (places_at b q)) block character socket fifo

pub directory_depth : (b : List ℕ) (q : ℕ) (es : Entries) → type_of b q ≡ 1 → depth (node_of b q es) ≡ entries_depth es
directory_depth b q es t =
    node_depth_is b q es ∙ by_kind_directory kind_numbers (type_of b q) (entries_depth es) 0 0 0 0 0 0 t

pub node_depth : (b : List ℕ) (q : ℕ) (es : Entries) → depth (node_of b q es) ≤ entries_depth es
node_depth b q es = elim (eqb_tells (type_of b q) 1) [
  | inl h ↦ let e = directory_depth b q es h.1 in omega arith
  | inr h ↦ let e =
      node_depth_is b q es ∙ by_kind_rest kind_numbers (type_of b q) (entries_depth es) 0 h.1 in omega arith
]

-- an entry is no deeper than m
abbrev pub IsWithin : List ℕ → ℕ → Row → Type 0
IsWithin b m y = is_dots (name_of b y.offset) ≡ false → y.depth ≤ m

-- if no entry's row is deeper than m, the entries are not
pub entries_within : (b : List ℕ) (r : ℕ) (x : Reference) (d p n m : ℕ) (f : Forest)
    → Every (IsWithin b m) (rows (references b r) x d p (n + 1) f) → n ≤ m → n + entries_depth (entries_at b f) ≤ m
entries_within b r x d p n m none h l = omega arith
entries_within b r x d p n m (at q own after) h l =
    let g = references b r in
    let own_rows = rows g (g.own x) q d (n + 1 + 1) own in
    let after_rows = rows g (g.after x) d p (n + 1) after in
    let right = entries_within b r (g.after x) d p n m after (every_right (IsWithin b m) own_rows after_rows h.1) l in
    let left = every_left (IsWithin b m) own_rows after_rows h.1 in
    elim (is_dots (name_of b q)) as (λ v. is_dots (name_of b q) ≡ v
    → n + entries_depth (if v then entries_at b after
    else entry (name_of b q) (node_of b (led 8 b q) (entries_at b own)) (entries_at b after)) ≤ m) [
      | true ↦ λ e. right
      | false ↦ λ e.
          let here = h.0 e in
          let below = entries_within b r (g.own x) q d (n + 1) m own left here in
          let top = node_depth b (led 8 b q) (entries_at b own) in
          omega arith
    ] refl

-- `.` and `..` are hard links
abbrev pub IsDotLink : List ℕ → Row → Type 0
IsDotLink b y = is_dots (name_of b y.offset) ≡ true → type_of b y.offset ≡ 0

no_list : (b : List ℕ) (p : ℕ) (f : Forest) → type_of b p ≢ 1 → StandsAt b (first_of b p) f → f ≡ none
unfolding first_of
no_list b p none n s = refl
no_list b p (at q own after) n s = absurd (s.0 (rw (ne_eqb (type_of b p) 1 n) refl))

empty_list : (b : List ℕ) (own : Forest) → own ≡ none → entries_depth (entries_at b own) ≡ 0
empty_list b own e = rw e refl

-- an entry's node is as deep as its list
full_depth : (b : List ℕ) (q : ℕ) (own : Forest) → StandsAt b (first_of b q) own
    → entries_depth (entries_at b own) ≤ depth (node_of b (led 8 b q) (entries_at b own))
full_depth b q own s = elim (eqb_tells (type_of b q) 1) [
  | inl h ↦
      let live : type_of b q ≢ 0 = λ z. omega arith in
      let e = ap (λ (v : ℕ). depth (node_of b v (entries_at b own))) (led_self 8 b q live)
      ∙ directory_depth b q (entries_at b own) h.1 in
      omega arith
  | inr h ↦ let e = empty_list b own (no_list b q own h.1 s) in omega arith
]

-- the list that a record's own reference leads to begins with its first record
own_stands : (b : List ℕ) (r : ℕ) (x : Reference) (q d n : ℕ) (own : Forest) → (references b r).target x ≡ Some q
    → q ≢ r → Stands (references b r) ((references b r).own x) own
    → Every (λ (y : Row). r ≢ y.offset) (rows (references b r) ((references b r).own x) q d n own)
    → StandsAt b (first_of b q) own
own_stands b r x q d n own e other s apart =
    let k = offset_some (reference_offset b r x) q e in
    let live : q ≢ 0 = λ z. k.0 (sym k.1 ∙ z) in
    let is : reference_offset b r (record { source = reference_offset b r x; which = 0 }) ≡ first_of b q =
    ap (λ (o : ℕ). reference_offset b r (record { source = o; which = 0 })) (sym k.1)
    ∙ own_offset b r q live other in
    subst (λ (o : ℕ). StandsAt b o own) is (standing b r ((references b r).own x) q d n own s apart)

-- what is known of a row below the root
abbrev pub IsBelowRoot : List ℕ → ℕ → Row → Type 0
IsBelowRoot b r y = IsDotLink b y × (r ≢ y.offset)

-- an empty list for `.` and `..`
dot_list : (b : List ℕ) (q : ℕ) (own : Forest) → (is_dots (name_of b q) ≡ true → type_of b q ≡ 0)
    → is_dots (name_of b q) ≡ true → StandsAt b (first_of b q) own → own ≡ none
dot_list b q own link e s = let t = link e in no_list b q own (λ z. absurd (omega arith)) s

-- a higher bound
within_more : (b : List ℕ) (m n : ℕ) (xs : List Row) → m ≤ n → Every (IsWithin b m) xs → Every (IsWithin b n) xs
within_more b m n xs l h = every_weaker (IsWithin b m) (IsWithin b n) (λ y k e. let z = k e in omega arith) xs h

-- no entry's row is deeper than the entries
pub rows_within : (b : List ℕ) (r : ℕ) (x : Reference) (d p n : ℕ) (f : Forest) → Stands (references b r) x f
    → Every (IsBelowRoot b r) (rows (references b r) x d p (n + 1) f)
    → Every (IsWithin b (n + entries_depth (entries_at b f))) (rows (references b r) x d p (n + 1) f)
rows_within b r x d p n none s h = tt
rows_within b r x d p n (at q own after) s h =
    let g = references b r in
    let own_rows = rows g (g.own x) q d (n + 1 + 1) own in
    let after_rows = rows g (g.after x) d p (n + 1) after in
    let left = every_left (IsBelowRoot b r) own_rows after_rows h.1 in
    let right = every_right (IsBelowRoot b r) own_rows after_rows h.1 in
    let apart = every_weaker (IsBelowRoot b r) (λ (y : Row). r ≢ y.offset) (λ y k. k.1) own_rows left in
    let list = own_stands b r x q d (n + 1 + 1) own s.0 (λ z. h.0.1 (sym z)) s.1 apart in
    let rest = rows_within b r (g.after x) d p n after s.2 right in
    let inner = rows_within b r (g.own x) q d (n + 1) own s.1 left in
    let Goal : Bool → Type 0 = λ v. (is_dots (name_of b q) ≡ false
    → n + 1 ≤ n + entries_depth (if v then entries_at b after
    else entry (name_of b q) (node_of b (led 8 b q) (entries_at b own)) (entries_at b after)))
    × Every (IsWithin b (n + entries_depth
    (if v then entries_at b after else entry (name_of b q) (node_of b (led 8 b q) (entries_at b own))
    (entries_at b after)))) (own_rows ++ after_rows) in
    elim (is_dots (name_of b q)) as (λ v. is_dots (name_of b q) ≡ v → Goal v) [
      | true ↦ λ e.
          let empty = dot_list b q own h.0.0 e list in
          let nothing : own_rows ≡ [] = ap (λ (f : Forest). rows g (g.own x) q d (n + 1 + 1) f) empty in (
            (λ z. absurd (false≢true (sym z ∙ e))),
            subst (λ (xs : List Row). Every (IsWithin b (n + entries_depth (entries_at b after))) (xs ++ after_rows))
                (sym nothing) rest,
          )
      | false ↦ λ e.
          let full = full_depth b q own list in
          let m : ℕ =
          n + max (suc (depth (node_of b (led 8 b q) (entries_at b own)))) (entries_depth (entries_at b after)) in (
            (λ z. omega arith),
            every_join (IsWithin b m) own_rows after_rows
                (within_more b (n + 1 + entries_depth (entries_at b own)) m own_rows (omega arith) inner)
                (within_more b (n + entries_depth (entries_at b after)) m after_rows (omega arith) rest),
          )
    ] refl
