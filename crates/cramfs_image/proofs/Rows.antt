-- The extents of the rows of an image: the lists of directories, and those of files.
use Rattle.std.proofs.Common.{◌≡◌, ℕ, zero, suc, ◌+◌, ◌*◌, ◌%◌, ◌^◌, ◌<◌, true, false, List, [], ◌∷◌, ◌++◌, length}
use Rattle.std.proofs.Common.{take, get_or, Option, None, Some, IfSome, inl, inr, refl, sym, ap, subst, ◌∙◌, arith}
use Rattle.std.proofs.Common.{append_assoc}
use Rattle.std.proofs.Common.{append-nil, IsPermutation, if◌then◌else◌}
use Rattle.std.proofs.lemmas.List.{take_more}
use Rattle.std.proofs.lemmas.List.Elements.{recursion_from_All, All-from_recursion, All-contains, Contains-append_left}
use Rattle.std.proofs.lemmas.List.Elements.{Contains-append_right, Contains-append_cases}
use Rattle.std.proofs.lemmas.List.Sorted.{All-permutation, Contains-permutation, IsPermutation-refl, IsPermutation-sym}
use Rattle.std.proofs.lemmas.List.Sorted.{IsPermutation-trans, IsPermutation-append_left, IsPermutation-append_right}
use Rattle.std.proofs.lemmas.List.Sorted.{IsPermutation-append_comm}
use Rattle.std.specs.List.{All, Contains, flat_map, AllByRecursion as Every}
use Rattle.rom_fields.specs.declared.span.Span.{Span}
use Rattle.rom_fields.specs.declared.span.Extent.TheVariants.{Super, Table}
use Rattle.rom_fields.specs.Extents.{is_shareable, OverlapsAt, IsLeastOf, added}
use Rattle.rom_fields.proofs.Same.{least_permuted}
use Rattle.record_forest.specs.declared.reference.Row.{Row}
use Rattle.record_forest.proofs.Lists.{every_join, every_weaker, has_left, has_right}
use Rattle.cramfs_format.specs.declared.order.Order.{Order}
use Rattle.cramfs_format.specs.Inode.{type_of, size_of, offset_of, has_data, block_count}
use Rattle.cramfs_format.specs.Tree.{data_from, file_extents, row_extents, extents_of}
use Rattle.cramfs_image.specs.declared.overlap.File.{File}
use Rattle.cramfs_image.specs.Phases.{IsRecord}
use Rattle.cramfs_image.specs.Extents.{AreTheSame}
use Rattle.cramfs_image.specs.Files.{list_part, file_part, spans_of, FileLies, AddsFiles}
use Rattle.cramfs_image.proofs.Repeats.{Same, same_self, same_drop, same_least, IsRepeat}
use Rattle.cramfs_image.proofs.Blocks.{Member, all_spans_shareable}

-- one member more
flat_push : {X Y : Type 0} (g : X → List Y) (xs : List X) (x : X) → flat_map g (xs ++ x ∷ []) ≡ flat_map g xs ++ g x
flat_push g [] x = append-nil (g x)
flat_push g (y ∷ xs) x = ap (λ v. g y ++ v) (flat_push g xs x) ∙ sym (append_assoc (g y) (flat_map g xs) (g x))

pub parts_more : {Y : Type 0} (g : Row → List Y) (base : List Y) (rows : List Row) (i : ℕ) (d : Row) (old new : List Y)
    → i < length rows → old ≡ base ++ flat_map g (take i rows) → new ≡ old ++ g (get_or rows i d)
    → new ≡ base ++ flat_map g (take (i + 1) rows)
parts_more g base rows i d old new l e f =
    f ∙ ap (λ v. v ++ g (get_or rows i d)) e ∙ append_assoc base (flat_map g (take i rows)) (g (get_or rows i d))
    ∙ ap (λ v. base ++ v) (sym (ap (flat_map g) (take_more rows i d l) ∙ flat_push g (take i rows) (get_or rows i d)))

-- what each row gives in two parts
split : {X Y : Type 0} (f g : X → List Y) (xs : List X)
    → IsPermutation (flat_map (λ x. f x ++ g x) xs) (flat_map f xs ++ flat_map g xs)
split f g [] = IsPermutation-refl []
split f g (x ∷ xs) =
    let F = flat_map f xs in
    let G = flat_map g xs in
    let R = flat_map (λ y. f y ++ g y) xs in
    let one : IsPermutation ((f x ++ g x) ++ R) ((f x ++ g x) ++ (F ++ G)) =
    IsPermutation-append_right (f x ++ g x) R (F ++ G) (split f g xs) in
    let turn : IsPermutation ((g x ++ F) ++ G) ((F ++ g x) ++ G) =
    IsPermutation-append_left G (g x ++ F) (F ++ g x) (IsPermutation-append_comm (g x) F) in
    let two : IsPermutation (f x ++ ((g x ++ F) ++ G)) (f x ++ ((F ++ g x) ++ G)) =
    IsPermutation-append_right (f x) ((g x ++ F) ++ G) ((F ++ g x) ++ G) turn in
    let a : (f x ++ g x) ++ (F ++ G) ≡ f x ++ ((g x ++ F) ++ G) =
    append_assoc (f x) (g x) (F ++ G) ∙ ap (λ v. f x ++ v) (sym (append_assoc (g x) F G)) in
    let b : f x ++ ((F ++ g x) ++ G) ≡ (f x ++ F) ++ (g x ++ G) =
    ap (λ v. f x ++ v) (append_assoc F (g x) G) ∙ sym (append_assoc (f x) F (g x ++ G)) in
    IsPermutation-trans _ _ _ (subst (IsPermutation ((f x ++ g x) ++ R)) a one)
    (subst (IsPermutation (f x ++ ((g x ++ F) ++ G))) b two)

-- the extents of a row are its list and those of its file
abbrev files : Order → List ℕ → Row → List Span
files o b x = if has_data (type_of o b x.offset) then file_extents o b x.offset else []

file_is : (o : Order) (b : List ℕ) (x : Row) → flat_map (spans_of o b) (file_part o b x) ≡ files o b x
unfolding file_extents
file_is o b x = elim (has_data (type_of o b x.offset)) as
    (λ v. flat_map (spans_of o b) (if v then record { table = offset_of o b x.offset; size = size_of o b x.offset } ∷ []
    else [])
    ≡ (if v then added Table (offset_of o b x.offset) (4 * block_count (size_of o b x.offset))
    ++ data_from o b (block_count (size_of o b x.offset)) (offset_of o b x.offset) (size_of o b x.offset) else [])) [
      | true ↦ append-nil _
      | false ↦ refl
    ]

files_are : (o : Order) (b : List ℕ) (rows : List Row)
    → flat_map (spans_of o b) (flat_map (file_part o b) rows) ≡ flat_map (files o b) rows
files_are o b [] = refl
files_are o b (x ∷ rows) = flat_join (spans_of o b) (file_part o b x) (flat_map (file_part o b) rows)
    ∙ ap (λ v. v ++ flat_map (spans_of o b) (flat_map (file_part o b) rows)) (file_is o b x)
    ∙ ap (λ v. files o b x ++ v) (files_are o b rows)
  where
    flat_join : {X Y : Type 0} (g : X → List Y) (xs ys : List X)
        → flat_map g (xs ++ ys) ≡ flat_map g xs ++ flat_map g ys
    flat_join g [] ys = refl
    flat_join g (x ∷ xs) ys =
        ap (λ v. g x ++ v) (flat_join g xs ys) ∙ sym (append_assoc (g x) (flat_map g xs) (flat_map g ys))

-- members of what a list's members give
every_files : (P : Span → Type 0) (o : Order) (b : List ℕ) (fs : List File) → Every (λ f. Every P (spans_of o b f)) fs
    → Every P (flat_map (spans_of o b) fs)
every_files P o b [] h = tt
every_files P o b (f ∷ fs) h = every_join P (spans_of o b f) (flat_map (spans_of o b) fs) h.0 (every_files P o b fs h.1)

has_file : (o : Order) (b : List ℕ) (z : Span) (fs : List File) (k : ℕ) (f : File) → k < length fs → get_or fs k f ≡ f
    → Member z (spans_of o b f) → Member z (flat_map (spans_of o b) fs)
has_file o b z [] k f l e m = absurd (omega arith)
has_file o b z (g ∷ fs) zero f l e m =
    has_left (λ (y : Span). y ≡ z) (spans_of o b g) (flat_map (spans_of o b) fs)
    (subst (λ (v : File). Member z (spans_of o b v)) (sym e) m)
has_file o b z (g ∷ fs) (suc k) f l e m =
    has_right (λ (y : Span). y ≡ z) (spans_of o b g) (flat_map (spans_of o b) fs)
    (has_file o b z fs k f (omega arith) e m)

repeats : (ks xs : List Span) → Every (λ (z : Span). is_shareable z.kind ≡ true) xs → Every (λ z. Member z ks) xs
    → Every (IsRepeat ks) xs
repeats ks [] p q = tt
repeats ks (x ∷ xs) p q = (record { shareable = p.0; member = q.0 }, repeats ks xs p.1 q.1)

back_if : (P Q : ℕ → Type 0) (v : Option ℕ) → ((p : ℕ) → P p → Q p) → IfSome v P → IfSome v Q
back_if P Q None f h = h
back_if P Q (Some p) f h = f p h

contains_of : (z : Span) (xs : List Span) → Member z xs → Contains xs z
contains_of z [] h = absurd h
contains_of z (x ∷ xs) (inl e) = (0, omega arith, e)
contains_of z (x ∷ xs) (inr h) = let c = contains_of z xs h in (suc c.0, (let l = c.1 in omega arith), c.2)

-- `es` has what is in `base`, and what was added for the files.
module _ (o : Order) (b : List ℕ) (rows : List Row) (sorted : List File) (base es : List Span)
    (e : base ≡ added Super 0 76 ++ flat_map (list_part o b) rows)
    (p : IsPermutation (flat_map (file_part o b) rows) sorted) (w : AddsFiles o b sorted base es) where
  found : (z : Span) (f : File) → Contains (flat_map (file_part o b) rows) f → Member z (spans_of o b f)
      → Member z (flat_map (spans_of o b) (flat_map (file_part o b) rows))
  found z f c m = has_file o b z (flat_map (file_part o b) rows) c.0 f c.1 c.2 m

  into : Every (λ z. Member z (flat_map (spans_of o b) (flat_map (file_part o b) rows))) w.more
  into =
      let fs : List File = flat_map (file_part o b) rows in
      every_weaker (λ z. (f : File) × Contains sorted f × Member z (spans_of o b f))
      (λ z. Member z (flat_map (spans_of o b) fs))
      (λ z m. let c = Contains-permutation sorted fs m.0
      (IsPermutation-sym fs sorted p) m.1 in found z m.0 c m.2) w.more w.into

  back : Every (λ z. Member z w.more) (flat_map (spans_of o b) (flat_map (file_part o b) rows))
  back =
      let fs : List File = flat_map (file_part o b) rows in
      every_files (λ z. Member z w.more) o b fs
      (recursion_from_All (λ f. Every (λ z. Member z w.more) (spans_of o b f)) fs
      (All-permutation (λ f. Every (λ z. Member z w.more) (spans_of o b f)) sorted fs
      (IsPermutation-sym fs sorted p) w.back))

  whole : IsPermutation (extents_of o b rows) (base ++ flat_map (spans_of o b) (flat_map (file_part o b) rows))
  whole =
      let k : IsPermutation (added Super 0 76 ++ flat_map (row_extents o b) rows)
      (added Super 0 76 ++ (flat_map (list_part o b) rows ++ flat_map (files o b) rows)) =
      IsPermutation-append_right (added Super 0 76) (flat_map (row_extents o b) rows)
      (flat_map (list_part o b) rows ++ flat_map (files o b) rows) (split (list_part o b) (files o b) rows) in
      let same : added Super 0 76 ++ (flat_map (list_part o b) rows ++ flat_map (files o b) rows)
      ≡ base ++ flat_map (spans_of o b) (flat_map (file_part o b) rows) =
      sym (append_assoc (added Super 0 76) (flat_map (list_part o b) rows) (flat_map (files o b) rows))
      ∙ ap (λ x. x ++ flat_map (files o b) rows) (sym e) ∙ ap (λ x. base ++ x) (sym (files_are o b rows)) in
      subst (IsPermutation (extents_of o b rows)) same k

  -- These are the extents of the rows,
  pub rows_same : AreTheSame es (extents_of o b rows)
  rows_same x =
      let fs : List Span = flat_map (spans_of o b) (flat_map (file_part o b) rows) in (
        (λ h. Contains-permutation (base ++ fs) (extents_of o b rows) x
            (IsPermutation-sym (extents_of o b rows) (base ++ fs) whole)
            (elim (Contains-append_cases base w.more x (subst (λ v. Contains v x) w.is h)) [
              | inl k ↦ Contains-append_left base fs x k
              | inr k ↦ Contains-append_right base fs x
                  (contains_of x fs (All-contains (λ z. Member z fs) w.more x
                  (All-from_recursion (λ z. Member z fs) w.more into) k))
            ])),
        (λ h. subst (λ v. Contains v x) (sym w.is)
            (elim (Contains-append_cases base fs x
            (Contains-permutation (extents_of o b rows) (base ++ fs) x whole h)) [
              | inl k ↦ Contains-append_left base w.more x k
              | inr k ↦ Contains-append_right base w.more x
                  (contains_of x w.more (All-contains (λ z. Member z w.more) fs x
                  (All-from_recursion (λ z. Member z w.more) fs back) k))
            ])),
      )

  -- with their overlaps, also with the extents before.
  pub rows_least : (v : Option ℕ) → IsLeastOf (OverlapsAt es) v → IsLeastOf (OverlapsAt (extents_of o b rows)) v
  rows_least v h =
      let fs : List File = flat_map (file_part o b) rows in
      let all : List Span = flat_map (spans_of o b) fs in
      let gs : List Span = w.more in
      let one : Same (base ++ gs) ((base ++ gs) ++ all) =
      same_drop (base ++ gs) (base ++ gs) all (same_self (base ++ gs))
      (repeats (base ++ gs) all (all_spans_shareable o b fs)
      (every_weaker (λ z. Member z gs) (λ z. Member z (base ++ gs))
      (λ z. has_right (λ (y : Span). y ≡ z) base gs) all back)) in
      let two : Same (base ++ all) ((base ++ all) ++ gs) =
      same_drop (base ++ all) (base ++ all) gs (same_self (base ++ all))
      (repeats (base ++ all) gs w.shareable
      (every_weaker (λ z. Member z all) (λ z. Member z (base ++ all))
      (λ z. has_right (λ (y : Span). y ≡ z) base all) gs into)) in
      let turn : IsPermutation (base ++ (all ++ gs)) (base ++ (gs ++ all)) =
      IsPermutation-append_right base (all ++ gs) (gs ++ all) (IsPermutation-append_comm all gs) in
      let swap : IsPermutation ((base ++ all) ++ gs) ((base ++ gs) ++ all) =
      subst (λ x. IsPermutation x ((base ++ gs) ++ all)) (sym (append_assoc base all gs))
      (subst (IsPermutation (base ++ (all ++ gs))) (sym (append_assoc base gs all)) turn) in
      let a : IsLeastOf (OverlapsAt (base ++ gs)) v = subst (λ x. IsLeastOf (OverlapsAt x) v) w.is h in
      let c : IsLeastOf (OverlapsAt ((base ++ gs) ++ all)) v = same_least (base ++ gs) ((base ++ gs) ++ all) v one a in
      let d : IsLeastOf (OverlapsAt ((base ++ all) ++ gs)) v =
      least_permuted ((base ++ all) ++ gs) ((base ++ gs) ++ all) v swap c in
      let f : IsLeastOf (OverlapsAt (base ++ all)) v =
      record {
        here = back_if (OverlapsAt ((base ++ all) ++ gs)) (OverlapsAt (base ++ all)) v two.under d.here;
        least = λ q k. d.least q (two.over q k);
      } in
      least_permuted (extents_of o b rows) (base ++ all) v whole f

-- the block pointers of a file are among the bytes
pub file_lies : (o : Order) (b : List ℕ) (p table size : ℕ) → IsRecord o b p → has_data (type_of o b p) ≡ true
    → table ≡ offset_of o b p → size ≡ size_of o b p → table < 2 ^ 28 → size < 2 ^ 24 → table % 4 ≡ 0
    → FileLies o b (record { table = table; size = size })
file_lies o b p table size r d e f l m a = record {
  aligned = a;
  low = l;
  small = m;
  table = λ k. (let t = r.body.table d (rw (← f) (omega arith)) in let y = t.1 in rw (e, f) y);
}

pub all_lie : (o : Order) (b : List ℕ) (fs sorted : List File) → IsPermutation fs sorted → Every (FileLies o b) fs
    → All (FileLies o b) sorted
all_lie o b fs sorted p h = All-permutation (FileLies o b) fs sorted p (All-from_recursion (FileLies o b) fs h)
