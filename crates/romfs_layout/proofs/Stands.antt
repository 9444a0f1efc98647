-- The records of a layout are in its bytes.
use Rattle.std.proofs.Common.{◌≡◌, ◌≢◌, ℕ, ◌+◌, ◌%◌, ◌<◌, List, ◌∷◌, ◌++◌, map, refl, sym, ap, subst, ◌∙◌, arith, Some}
use Rattle.std.proofs.lemmas.Bool.{ne_eqb, eq-eqb}
use Rattle.std.proofs.lemmas.List.{map-append}
use Rattle.std.specs.List.{AllByRecursion as Every}
use Rattle.rom_fields.specs.Words.{word_be}
use Rattle.rom_tree.specs.declared.types.Kind.{Kind}
use Rattle.rom_tree.specs.declared.types.Kind.TheVariants.{Directory, Regular, Symlink, Block, Character, Socket, Fifo}
use Rattle.record_forest.specs.declared.reference.Reference.{Reference}
use Rattle.record_forest.specs.declared.reference.Row.{Row}
use Rattle.record_forest.specs.Forest.{Forest, none, at, Stands, rows, all_rows}
use Rattle.record_forest.proofs.Lists.{every_left, every_right}
use Rattle.romfs_format.specs.Record.{pad16, next_of, type_of, spec_offset_of, first_of}
use Rattle.romfs_format.specs.Refers.{references, reference_offset, some_offset}
use Rattle.romfs_format.specs.Made.{StandsAt}
use Rattle.record_forest.specs.Forest.{Everywhere}
use Rattle.romfs_format.proofs.Bridge.{own_offset, after_offset}
use Rattle.manifest_tree.specs.Names.{Inode, Names, nothing, leaf, link, subdirectory}
use Rattle.romfs_layout.specs.Layout.{Header, number_of, code_of, place_of, leaf_end, header_end, ends, first_place}
use Rattle.romfs_layout.specs.Layout.{headers}
use Rattle.romfs_layout.specs.Reads.{Reads}
use Rattle.romfs_layout.specs.Wells.{FitsKind, IsFile, AreWell}
use Rattle.romfs_layout.specs.Forest.{offsets, in_row}
use Rattle.romfs_layout.proofs.Places.{place_after, ends_after, first_even}
use Rattle.romfs_layout.proofs.Headers.{code_is}

-- what the word next says: the next header, and a type
pub record Says (b : List ℕ) (p q code : ℕ) : Type 0 where
  pub next : next_of b p ≡ q
  pub kind : type_of b p ≡ code % 8

pub says : (b : List ℕ) (p next code : ℕ) → word_be b p ≡ next + code → next % 16 ≡ 0 → code < 16 → Says b p next code
unfolding next_of type_of
says b p next code e even small = record { next = rw e (omega arith); kind = rw e (omega arith) }

pub says_target : (b : List ℕ) (p spec : ℕ) → word_be b (p + 4) ≡ spec → spec % 16 ≡ 0 → spec_offset_of b p ≡ spec
unfolding spec_offset_of
says_target b p spec e even = rw e (omega arith)

pub first_none : (b : List ℕ) (p k : ℕ) → type_of b p ≡ k → k ≢ 1 → first_of b p ≡ 0
unfolding first_of
first_none b p k e n = let d : type_of b p ≢ 1 = λ z. n (sym e ∙ z) in rw (ne_eqb (type_of b p) 1 d) refl

pub first_some : (b : List ℕ) (p : ℕ) → type_of b p ≡ 1 → first_of b p ≡ spec_offset_of b p
unfolding first_of
first_some b p e = rw (eq-eqb (type_of b p) 1 e) refl

-- a file is no directory
number_by : (k : Kind) (i : Inode) → FitsKind k i → (number_of k ≢ 1) × (number_of k ≢ 0)
number_by Directory i h = absurd h
number_by Regular i h = (λ e. absurd (omega arith), λ e. absurd (omega arith))
number_by Symlink i h = (λ e. absurd (omega arith), λ e. absurd (omega arith))
number_by Block i h = (λ e. absurd (omega arith), λ e. absurd (omega arith))
number_by Character i h = (λ e. absurd (omega arith), λ e. absurd (omega arith))
number_by Socket i h = (λ e. absurd (omega arith), λ e. absurd (omega arith))
number_by Fifo i h = (λ e. absurd (omega arith), λ e. absurd (omega arith))

pub number_is : (cs : List (List ℕ)) (i : Inode) → IsFile cs i → (number_of i.kind ≢ 1) × (number_of i.kind ≢ 0)
number_is cs i h = number_by i.kind i h.kind

-- the list that is placed from `from` on is there
pub stands_at : (b : List ℕ) (cs : List (List ℕ)) (at' : ℕ → ℕ) (dir from : ℕ) (n : Names) → AreWell cs n → 0 < from
    → Every (Reads b cs) (headers at' dir from n) → StandsAt b (first_place from n) (offsets from n)
stands_at b cs at' dir from nothing h pos r = refl
stands_at b cs at' dir from (leaf name i after) h pos r =
    let p = place_of from name i in
    let q = leaf_end from name i in
    let a = place_after cs from name i h.1 in
    let c = code_is i in
    let s = says b p (first_place q after) (code_of i) r.0.word (first_even cs q after h.2) c.small in
    let rest = stands_at b cs at' dir q after h.2 (omega arith) r.1 in (
      omega arith,
      refl,
      first_none b p (number_of i.kind) (s.kind ∙ c.kind) (number_is cs i h.1).0,
      subst (λ (x : ℕ). StandsAt b x (offsets q after)) (sym s.next) rest,
    )
stands_at b cs at' dir from (link name i after) h pos r =
    let p = pad16 from in
    let q = header_end from name in
    let s = says b p (first_place q after) 0 (r.0.word ∙ omega arith) (first_even cs q after h.2) (omega arith) in
    let rest = stands_at b cs at' dir q after h.2 (omega arith) r.1 in (
      omega arith,
      refl,
      first_none b p 0 s.kind (λ z. absurd (omega arith)),
      subst (λ (x : ℕ). StandsAt b x (offsets q after)) (sym s.next) rest,
    )
stands_at b cs at' dir from (subdirectory name i own after) h pos r =
    let p = pad16 from in
    let he = header_end from name in
    let q = ends (he + 64) own in
    let o = ends_after cs (he + 64) own h.2 in
    let c = code_is i in
    let mine = headers at' p (he + 64) own in
    let theirs = headers at' dir q after in
    let inner = stands_at b cs at' p (he + 64) own h.2 (omega arith) (every_left (Reads b cs) mine theirs r.1.1.1) in
    let later = stands_at b cs at' dir q after h.3 (omega arith) (every_right (Reads b cs) mine theirs r.1.1.1) in
    let s = says b p (first_place q after) (code_of i) r.0.word (first_even cs q after h.3) c.small in
    let s1 = says b he (he + 32) 0 (r.1.0.word ∙ omega arith) (omega arith) (omega arith) in
    let s2 = says b (he + 32) (first_place (he + 64) own) 0 (r.1.1.0.word ∙ omega arith)
    (first_even cs (he + 64) own h.2) (omega arith) in
    let f : first_of b p ≡ he =
    first_some b p (s.kind ∙ c.kind ∙ ap number_of h.1.kind) ∙ says_target b p he r.0.spec (omega arith) in
    let list2 : StandsAt b (he + 32) (at (he + 32) none (offsets (he + 64) own)) = (
      omega arith,
      refl,
      first_none b (he + 32) 0 s2.kind (λ z. absurd (omega arith)),
      subst (λ (x : ℕ). StandsAt b x (offsets (he + 64) own)) (sym s2.next) inner,
    ) in
    let list1 : StandsAt b he (at he none (at (he + 32) none (offsets (he + 64) own))) = (
      omega arith,
      refl,
      first_none b he 0 s1.kind (λ z. absurd (omega arith)),
      subst (λ (x : ℕ). StandsAt b x (at (he + 32) none (offsets (he + 64) own))) (sym s1.next) list2,
    ) in (
      omega arith,
      refl,
      subst (λ (x : ℕ). StandsAt b x (at he none (at (he + 32) none (offsets (he + 64) own))))
          (sym f) list1,
      subst (λ (x : ℕ). StandsAt b x (offsets q after)) (sym s.next) later,
    )

-- what holds for offsets away from the root holds for the references
pub stands_for : (b : List ℕ) (r : ℕ) (x : Reference) (f : Forest) → StandsAt b (reference_offset b r x) f
    → Everywhere (λ p. p ≢ r) f → Stands (references b r) x f
stands_for b r x none s o = rw (eq-eqb (reference_offset b r x) 0 s) refl
stands_for b r x (at p own after) s o =
    let q = reference_offset b r x in
    let live : p ≢ 0 = λ z. s.0 (sym s.1 ∙ z) in
    let own_is : reference_offset b r (record { source = q; which = 0 }) ≡ first_of b p =
    ap (λ (v : ℕ). reference_offset b r (record { source = v; which = 0 })) (sym s.1) ∙ own_offset b r p live o.0 in
    let after_is : reference_offset b r (record { source = q; which = 1 }) ≡ next_of b p =
    ap (λ (v : ℕ). reference_offset b r (record { source = v; which = 1 })) (sym s.1)
    ∙ after_offset b r p live o.0 in
    let here : some_offset q ≡ Some p = rw (ne_eqb q 0 s.0) (ap Some (sym s.1)) in (
      here,
      stands_for b r (record { source = q; which = 0 }) own (subst (λ (v : ℕ). StandsAt b v own) (sym own_is) s.2) o.1,
      stands_for b r (record { source = q; which = 1 }) after
          (subst (λ (v : ℕ). StandsAt b v after) (sym after_is) s.3) o.2,
    )

-- the offsets of the rows, of the forest, and of the headers are the same
pub rows_in_row : (b : List ℕ) (r : ℕ) (x : Reference) (directory parent depth : ℕ) (f : Forest)
    → map (λ (y : Row). y.offset) (rows (references b r) x directory parent depth f) ≡ in_row f
rows_in_row b r x directory parent depth none = refl
rows_in_row b r x directory parent depth (at p own after) =
    let g = references b r in
    let left = rows_in_row b r (g.own x) p directory (depth + 1) own in
    let right = rows_in_row b r (g.after x) directory parent depth after in
    let both = map-append (λ (y : Row). y.offset) (rows g (g.own x) p directory (depth + 1) own)
    (rows g (g.after x) directory parent depth after) in
    ap (λ (ys : List ℕ). p ∷ ys) (both
    ∙ ap (λ (ys : List ℕ). ys ++ map (λ (y : Row). y.offset) (rows g (g.after x) directory parent depth after)) left
    ∙ ap (λ (ys : List ℕ). in_row own ++ ys) right)

pub all_in_row : (b : List ℕ) (r : ℕ) (f : Forest)
    → map (λ (y : Row). y.offset) (all_rows (references b r) f) ≡ in_row f
all_in_row b r none = refl
all_in_row b r (at p own after) =
    let g = references b r in
    let left = rows_in_row b r (g.own g.top) p p 1 own in
    let right = rows_in_row b r (g.after g.top) p p 1 after in
    let both =
    map-append (λ (y : Row). y.offset) (rows g (g.own g.top) p p 1 own) (rows g (g.after g.top) p p 1 after) in
    ap (λ (ys : List ℕ). p ∷ ys) (both
    ∙ ap (λ (ys : List ℕ). ys ++ map (λ (y : Row). y.offset) (rows g (g.after g.top) p p 1 after)) left
    ∙ ap (λ (ys : List ℕ). in_row own ++ ys) right)

pub headers_in_row : (at' : ℕ → ℕ) (dir from : ℕ) (n : Names)
    → map (λ (i : Header). i.place) (headers at' dir from n) ≡ in_row (offsets from n)
headers_in_row at' dir from nothing = refl
headers_in_row at' dir from (leaf name i after) =
    ap (λ (ys : List ℕ). place_of from name i ∷ ys) (headers_in_row at' dir (leaf_end from name i) after)
headers_in_row at' dir from (link name i after) =
    ap (λ (ys : List ℕ). pad16 from ∷ ys) (headers_in_row at' dir (header_end from name) after)
headers_in_row at' dir from (subdirectory name i own after) =
    let p = pad16 from in
    let he = header_end from name in
    let q = ends (he + 64) own in
    let left = headers_in_row at' p (he + 64) own in
    let right = headers_in_row at' dir q after in
    let both = map-append (λ (j : Header). j.place) (headers at' p (he + 64) own) (headers at' dir q after) in
    ap (λ (ys : List ℕ). p ∷ he ∷ (he + 32) ∷ ys)
    (both ∙ ap (λ (ys : List ℕ). ys ++ map (λ (j : Header). j.place) (headers at' dir q after)) left
    ∙ ap (λ (ys : List ℕ). in_row (offsets (he + 64) own) ++ ys) right)
