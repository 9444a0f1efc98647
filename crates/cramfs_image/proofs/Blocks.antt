-- The extents of files, with each whole block added once for each pointer.
use Rattle.std.proofs.Common.{◌≡◌, ℕ, zero, suc, ◌+◌, ◌-◌, ◌*◌, ◌/◌, ◌%◌, ◌<◌, ◌≤◌, ◌^◌, max, min, true, List, [], ◌∷◌}
use Rattle.std.proofs.Common.{◌++◌, length, get_or, ◌⊎◌, inl, inr, refl, sym, ap, subst, ◌∙◌, arith, append_assoc}
use Rattle.std.proofs.Common.{append-nil}
use Rattle.std.proofs.Math.Nat.{min-eq_left, min-eq_right, max-eq_left, max-eq_right}
use Rattle.std.proofs.lemmas.Bool.{cases_lt}
use Rattle.std.proofs.lemmas.List.{get_or_default}
use Rattle.std.proofs.lemmas.List.Elements.{Contains-get_or}
use Rattle.std.specs.List.{Contains, flat_map, AllByRecursion as Every}
use Rattle.std.specs.List.Sorted.{IsNonDecreasingBy}
use Rattle.rom_fields.specs.declared.span.Span.{Span}
use Rattle.rom_fields.specs.declared.span.Extent.TheVariants.{Table, Data}
use Rattle.rom_fields.specs.Extents.{is_shareable, added}
use Rattle.record_forest.specs.Members.{Has}
use Rattle.record_forest.proofs.Lists.{every_join, every_weaker, has_left, has_right}
use Rattle.record_forest.proofs.Spans.{every_added, has_added}
use Rattle.cramfs_format.specs.Order.{word}
use Rattle.cramfs_format.specs.declared.order.Order.{Order}
use Rattle.cramfs_format.specs.Inode.{block_count, block_start}
use Rattle.cramfs_format.specs.Tree.{data_from}
use Rattle.cramfs_image.specs.declared.overlap.File.{File}
use Rattle.cramfs_image.specs.Files.{spans_of, FileLies, whole_end, whole_blocks, file_added, AddsFiles}

-- y is in the list
abbrev pub Member : Span → List Span → Type 0
Member z xs = Has (λ (y : Span). y ≡ z) xs

-- the block of the pointer at q
abbrev pub block : Order → List ℕ → ℕ → ℕ → Span
block o b q len = record { kind = Data; start = block_start (word o b q); len = len }

every_data : (P : Span → Type 0) (o : Order) (b : List ℕ) (count q size : ℕ)
    → ((i : ℕ) → i < count → 0 < min 4096 (size - 4096 * i) → P (block o b (q + 4 * i) (min 4096 (size - 4096 * i))))
    → Every P (data_from o b count q size)
every_data P o b zero q size h = tt
every_data P o b (suc k) q size h =
    let e : q + 4 * 0 ≡ q = omega arith in
    let f : size - 4096 * 0 ≡ size = omega arith in
    every_join P (added Data (block_start (word o b q)) (min 4096 size)) (data_from o b k (q + 4) (size - 4096))
    (every_added P Data (block_start (word o b q)) (min 4096 size)
    (λ l. subst (λ (v : ℕ). P (block o b v (min 4096 size))) e
    (subst (λ (v : ℕ). P (block o b (q + 4 * 0) (min 4096 v))) f
    (h 0 (omega arith) (subst (λ (v : ℕ). 0 < min 4096 v) (sym f) l)))))
    (every_data P o b k (q + 4) (size - 4096) (λ i l m.
    let g : q + 4 * (suc i) ≡ q + 4 + 4 * i = omega arith in
    let r : size - 4096 * (suc i) ≡ size - 4096 - 4096 * i = omega arith in
    subst (λ (v : ℕ). P (block o b v (min 4096 (size - 4096 - 4096 * i)))) g
    (subst (λ (v : ℕ). P (block o b (q + 4 * (suc i)) (min 4096 v))) r
    (h (suc i) (omega arith) (subst (λ (v : ℕ). 0 < min 4096 v) (sym r) m)))))

has_block : (o : Order) (b : List ℕ) (count q size i : ℕ) → i < count → 0 < min 4096 (size - 4096 * i)
    → Member (block o b (q + 4 * i) (min 4096 (size - 4096 * i))) (data_from o b count q size)
has_block o b zero q size i l m = absurd (omega arith)
has_block o b (suc k) q size zero l m =
    let e : q + 4 * 0 ≡ q = omega arith in
    let f : size - 4096 * 0 ≡ size = omega arith in
    let here = has_added Data (block_start (word o b q)) (min 4096 size) (subst (λ (v : ℕ). 0 < min 4096 v) f m) in
    has_left (λ (y : Span). y ≡ block o b (q + 4 * 0) (min 4096 (size - 4096 * 0)))
    (added Data (block_start (word o b q)) (min 4096 size)) (data_from o b k (q + 4) (size - 4096))
    (subst (λ (v : ℕ). Member (block o b v (min 4096 (size - 4096 * 0)))
    (added Data (block_start (word o b q)) (min 4096 size))) (sym e)
    (subst (λ (v : ℕ). Member (block o b q (min 4096 v)) (added Data (block_start (word o b q)) (min 4096 size)))
    (sym f) here))
has_block o b (suc k) q size (suc i) l m =
    let g : q + 4 * (suc i) ≡ q + 4 + 4 * i = omega arith in
    let r : size - 4096 * (suc i) ≡ size - 4096 - 4096 * i = omega arith in
    let rest = data_from o b k (q + 4) (size - 4096) in
    has_right (λ (y : Span). y ≡ block o b (q + 4 * (suc i)) (min 4096 (size - 4096 * (suc i))))
    (added Data (block_start (word o b q)) (min 4096 size)) rest
    (subst (λ (v : ℕ). Member (block o b v (min 4096 (size - 4096 * (suc i)))) rest) (sym g)
    (subst (λ (v : ℕ). Member (block o b (q + 4 + 4 * i) (min 4096 v)) rest) (sym r)
    (has_block o b k (q + 4) (size - 4096) i (omega arith) (subst (λ (v : ℕ). 0 < min 4096 v) r m))))

-- blocks that are whole
pub full : (n i : ℕ) → i < n → min 4096 (4096 * n - 4096 * i) ≡ 4096
full n i l = min-eq_left (omega arith)

every_whole : (P : Span → Type 0) (o : Order) (b : List ℕ) (n q : ℕ)
    → ((i : ℕ) → i < n → P (block o b (q + 4 * i) 4096)) → Every P (whole_blocks o b n q)
every_whole P o b n q h =
    every_data P o b n q (4096 * n) (λ i l m. subst (λ (v : ℕ). P (block o b (q + 4 * i) v)) (sym (full n i l)) (h i l))

has_whole : (o : Order) (b : List ℕ) (n q i : ℕ) → i < n → Member (block o b (q + 4 * i) 4096) (whole_blocks o b n q)
has_whole o b n q i l = subst (λ (v : ℕ). Member (block o b (q + 4 * i) v) (whole_blocks o b n q)) (full n i l)
    (has_block o b n q (4096 * n) i l (subst (λ (v : ℕ). 0 < v) (sym (full n i l)) (omega arith)))

-- the one of the pointer at q, between two ends
pub in_whole : (o : Order) (b : List ℕ) (first end q : ℕ) → first % 4 ≡ 0 → end % 4 ≡ 0 → q % 4 ≡ 0 → first ≤ q
    → q < end → Member (block o b q 4096) (whole_blocks o b ((end - first) / 4) first)
in_whole o b first end q f e p l m =
    let at : first + 4 * ((q - first) / 4) ≡ q = omega arith in
    subst (λ (v : ℕ). Member (block o b v 4096) (whole_blocks o b ((end - first) / 4) first)) at
    (has_whole o b ((end - first) / 4) first ((q - first) / 4) (omega arith))

-- a block of a file is whole, or the last one
pub block_cases : (size i : ℕ) → i < block_count size
    → ((i < size / 4096) × (min 4096 (size - 4096 * i) ≡ 4096))
    ⊎ ((i ≡ size / 4096) × (min 4096 (size - 4096 * i) ≡ size % 4096) × (0 < size % 4096))
block_cases size i l = elim (cases_lt i (size / 4096)) [
  | inl m ↦ inl (m, min-eq_left (omega arith))
  | inr m ↦
      let e : i ≡ size / 4096 = omega arith in
      let r : size - 4096 * i ≡ size % 4096 = omega arith in
      inr (e, min-eq_right (omega arith) ∙ r, (omega arith))
]

-- the block of a file at an index
file_whole : (o : Order) (b : List ℕ) (f : File) (i : ℕ) → i < f.size / 4096
    → Member (block o b (f.table + 4 * i) 4096) (spans_of o b f)
file_whole o b f i l =
    let e : min 4096 (f.size - 4096 * i) ≡ 4096 = min-eq_left (omega arith) in
    has_right (λ (y : Span). y ≡ block o b (f.table + 4 * i) 4096) (added Table f.table (4 * block_count f.size))
    (data_from o b (block_count f.size) f.table f.size)
    (subst (λ (v : ℕ). Member (block o b (f.table + 4 * i) v) (data_from o b (block_count f.size) f.table f.size)) e
    (has_block o b (block_count f.size) f.table f.size i (omega arith)
    (subst (λ (v : ℕ). 0 < v) (sym e) (omega arith))))

file_rest : (o : Order) (b : List ℕ) (f : File) → 0 < f.size % 4096
    → Member (block o b (whole_end f.table f.size) (f.size % 4096)) (spans_of o b f)
file_rest o b f l =
    let i = f.size / 4096 in
    let r : f.size - 4096 * i ≡ f.size % 4096 = omega arith in
    let e : min 4096 (f.size - 4096 * i) ≡ f.size % 4096 = min-eq_right (omega arith) ∙ r in
    has_right (λ (y : Span). y ≡ block o b (f.table + 4 * i) (f.size % 4096))
    (added Table f.table (4 * block_count f.size)) (data_from o b (block_count f.size) f.table f.size)
    (subst (λ (v : ℕ). Member (block o b (f.table + 4 * i) v) (data_from o b (block_count f.size) f.table f.size)) e
    (has_block o b (block_count f.size) f.table f.size i (omega arith) (subst (λ (v : ℕ). 0 < v) (sym e) l)))

-- what is past the end of a list of files
abbrev pub no_file : File
no_file = record { table = 0; size = 0 }

-- Of the first i files the extents are there, and those of the whole blocks of all pointers from the later tables up to
-- `done`.
pub record Done (o : Order) (b : List ℕ) (files : List File) (i : ℕ) (base es : List Span) (done : ℕ) : Type 0 where
  pub more : List Span
  pub is : es ≡ base ++ more
  pub shareable : Every (λ (z : Span). is_shareable z.kind ≡ true) more
  pub into : Every (λ (z : Span). (f : File) × Contains files f × Member z (spans_of o b f)) more
  pub back : (j : ℕ) → j < i → Every (λ (z : Span). Member z more) (spans_of o b (get_or files j no_file))
  pub aligned : done % 4 ≡ 0
  pub low : done < 2 ^ 29
  pub there : (j q : ℕ) → i ≤ j → j < length files → (get_or files j no_file).table ≤ q → q < done → q % 4 ≡ 0
      → Member (block o b q 4096) more

-- the parts of what is added of a file
module _ (o : Order) (b : List ℕ) (f : File) (done : ℕ) (h : FileLies o b f) (a : done % 4 ≡ 0) where
  abbrev first : ℕ
  first = max f.table done

  abbrev end : ℕ
  end = whole_end f.table f.size

  pub first_facts : (f.table ≤ max f.table done) × (done ≤ max f.table done) × (max f.table done % 4 ≡ 0)
      × ((q : ℕ) → f.table ≤ q → done ≤ q → max f.table done ≤ q)
  first_facts = elim (cases_lt f.table done) [
    | inl l ↦ (let e : max f.table done
        ≡ done = max-eq_right (omega arith) in
        ((omega arith), (omega arith), (let k = h.aligned in omega arith), (λ q x y. (omega arith))))
    | inr l ↦ (let e : max f.table done
        ≡ f.table = max-eq_left (omega arith) in
        ((omega arith), (omega arith), (let k = h.aligned in omega arith), (λ q x y. (omega arith))))
  ]

  abbrev parts : (P : Span → Type 0) → Type 0
  parts P = Every P (file_added o b f.table f.size done)

  join : (P : Span → Type 0) → Every P (added Table f.table (4 * block_count f.size))
      → Every P (whole_blocks o b ((end - first) / 4) first)
      → Every P (added Data (block_start (word o b end)) (f.size % 4096)) → parts P
  join P x y z =
      every_join P (added Table f.table (4 * block_count f.size))
      (whole_blocks o b ((end - first) / 4) first ++ added Data (block_start (word o b end)) (f.size % 4096)) x
      (every_join P (whole_blocks o b ((end - first) / 4) first)
      (added Data (block_start (word o b end)) (f.size % 4096)) y z)

  pub all_shareable : parts (λ z. is_shareable z.kind ≡ true)
  all_shareable = join (λ z. is_shareable z.kind ≡ true)
      (every_added (λ z. is_shareable z.kind ≡ true) Table f.table (4 * block_count f.size) (λ l. refl))
      (every_whole (λ z. is_shareable z.kind ≡ true) o b ((end - first) / 4) first (λ i l. refl))
      (every_added (λ z. is_shareable z.kind ≡ true) Data (block_start (word o b end)) (f.size % 4096) (λ l. refl))

  pub all_into : parts (λ z. Member z (spans_of o b f))
  all_into = join (λ z. Member z (spans_of o b f))
      (every_added (λ z. Member z (spans_of o b f)) Table f.table (4 * block_count f.size) (λ l.
      has_left (λ (y : Span). y ≡ record { kind = Table; start = f.table; len = 4 * block_count f.size })
      (added Table f.table (4 * block_count f.size)) (data_from o b (block_count f.size) f.table f.size)
      (has_added Table f.table (4 * block_count f.size) l)))
      (every_whole (λ z. Member z (spans_of o b f)) o b ((end - first) / 4) first (λ i l.
      let w = first_facts in
      let x = w.0 in let y = w.2 in let k = h.aligned in
      let at : f.table + 4 * ((first - f.table) / 4 + i) ≡ first + 4 * i = omega arith in
      subst (λ (v : ℕ). Member (block o b v 4096) (spans_of o b f)) at
      (file_whole o b f ((first - f.table) / 4 + i) (omega arith))))
      (every_added (λ z. Member z (spans_of o b f)) Data (block_start (word o b end)) (f.size % 4096)
      (λ l. file_rest o b f l))

  pub whole_at : (q : ℕ) → f.table ≤ q → done ≤ q → q < end → q % 4 ≡ 0
      → Member (block o b q 4096) (file_added o b f.table f.size done)
  whole_at q x y l m =
      let P : Span → Type 0 = λ v. v ≡ block o b q 4096 in
      let w = first_facts in
      let k = h.aligned in
      let whole = whole_blocks o b ((end - first) / 4) first in
      let rest = added Data (block_start (word o b end)) (f.size % 4096) in
      has_right P (added Table f.table (4 * block_count f.size)) (whole ++ rest)
      (has_left P whole rest (in_whole o b first end q w.2 (omega arith) m (w.3 q x y) l))

  -- what of the file is added, and what was there
  pub all_back : (more : List Span) → ((q : ℕ) → f.table ≤ q → q < done → q % 4 ≡ 0 → Member (block o b q 4096) more)
      → Every (λ z. Member z (more ++ file_added o b f.table f.size done)) (spans_of o b f)
  all_back more old =
      let fresh = file_added o b f.table f.size done in
      let table = added Table f.table (4 * block_count f.size) in
      let whole = whole_blocks o b ((end - first) / 4) first in
      let rest = added Data (block_start (word o b end)) (f.size % 4096) in
      every_join (λ z. Member z (more ++ fresh)) table (data_from o b (block_count f.size) f.table f.size)
      (every_added (λ z. Member z (more ++ fresh)) Table f.table (4 * block_count f.size) (λ l.
      let P : Span → Type 0 = λ y. y ≡ record { kind = Table; start = f.table; len = 4 * block_count f.size } in
      has_right P more fresh (has_left P table (whole ++ rest) (has_added Table f.table (4 * block_count f.size) l))))
      (every_data (λ z. Member z (more ++ fresh)) o b (block_count f.size) f.table f.size (λ i l m.
      elim (block_cases f.size i l) [
        | inl k ↦ subst (λ (v : ℕ). Member (block o b (f.table + 4 * i) v) (more ++ fresh)) (sym k.1) (inside i k.0)
        | inr k ↦
            let P : Span → Type 0 = λ y. y ≡ block o b (f.table + 4 * i) (min 4096 (f.size - 4096 * i)) in
            has_right P more fresh (has_right P table (whole ++ rest) (has_right P whole rest
            (subst (λ (v : ℕ). Member (block o b (f.table + 4 * v) (min 4096 (f.size - 4096 * i))) rest) (sym k.0)
            (subst (λ (v : ℕ). Member (block o b end v) rest) (sym k.1)
            (has_added Data (block_start (word o b end)) (f.size % 4096) k.2)))))
      ]))
    where
      inside : (i : ℕ) → i < f.size / 4096
          → Member (block o b (f.table + 4 * i) 4096) (more ++ file_added o b f.table f.size done)
      inside i l =
          let P : Span → Type 0 = λ y. y ≡ block o b (f.table + 4 * i) 4096 in
          let k = h.aligned in
          elim (cases_lt (f.table + 4 * i) done) [
            | inl u ↦ has_left P more (file_added o b f.table f.size done)
                (old (f.table + 4 * i) (omega arith) u (omega arith))
            | inr u ↦ has_right P more (file_added o b f.table f.size done)
                (whole_at (f.table + 4 * i) (omega arith) u (omega arith) (omega arith))
          ]

pub done_start : (o : Order) (b : List ℕ) (files : List File) (base es : List Span) → es ≡ base
    → Done o b files 0 base es 0
done_start o b files base es e = record {
  more = [];
  is = e ∙ sym (append-nil base);
  shareable = tt;
  into = tt;
  back = λ j l. absurd (omega arith);
  aligned = refl;
  low = omega arith;
  there = λ j q i l x y a. absurd (omega arith);
}

-- one file further
pub done_more : (o : Order) (b : List ℕ) (files : List File) (i done next : ℕ) (base es new : List Span)
    → IsNonDecreasingBy (λ (f : File). f.table) files → i < length files → FileLies o b (get_or files i no_file)
    → Done o b files i base es done
    → new ≡ es ++ file_added o b (get_or files i no_file).table (get_or files i no_file).size done
    → next ≡ max done (whole_end (get_or files i no_file).table (get_or files i no_file).size)
    → Done o b files (i + 1) base new next
done_more o b files i done next base es new up l h w e n =
    let f : File = get_or files i no_file in
    let fresh = file_added o b f.table f.size done in
    let k = h.aligned in
    let a = w.aligned in
    record {
      more = w.more ++ fresh;
      is = e ∙ ap (λ (v : List Span). v ++ fresh) w.is ∙ append_assoc base w.more fresh;
      shareable =
          every_join (λ z. is_shareable z.kind ≡ true) w.more fresh w.shareable (all_shareable o b f done h w.aligned);
      into = every_join (λ z. (g : File) × Contains files g × Member z (spans_of o b g)) w.more fresh w.into
          (every_weaker (λ z. Member z (spans_of o b f))
          (λ z. (g : File) × Contains files g × Member z (spans_of o b g))
          (λ z m. (f, Contains-get_or files i no_file l, m)) fresh (all_into o b f done h w.aligned));
      back = λ j m. elim (cases_lt j i) [
        | inl u ↦ every_weaker (λ z. Member z w.more) (λ z. Member z (w.more ++ fresh))
            (λ z. has_left (λ (y : Span). y ≡ z) w.more fresh) (spans_of o b (get_or files j no_file)) (w.back j u)
        | inr u ↦
            let same : i ≡ j = omega arith in
            subst (λ (v : ℕ). Every (λ z. Member z (w.more ++ fresh)) (spans_of o b (get_or files v no_file))) same
            (all_back o b f done h w.aligned w.more (λ q x y z. w.there i q (omega arith) l x y z))
      ];
      aligned = (elim (cases_lt done (whole_end f.table f.size)) [
        | inl u ↦ (let m : next ≡ whole_end f.table f.size = n ∙ max-eq_right (omega arith) in omega arith)
        | inr u ↦ (let m : next ≡ done = n ∙ max-eq_left u in omega arith)
      ]);
      low = (elim (cases_lt done (whole_end f.table f.size)) [
        | inl u ↦ (let m : next ≡ whole_end f.table f.size = n
            ∙ max-eq_right (omega arith) in let x = h.low in let y = h.small in omega arith)
        | inr u ↦ (let m : next ≡ done = n ∙ max-eq_left u in let x = w.low in omega arith)
      ]);
      there = λ j q i' l' x y z.
          let after : f.table ≤ (get_or files j no_file).table = up i j no_file (omega arith) l' in
          elim (cases_lt q done) [
            | inl u ↦ has_left (λ (v : Span). v ≡ block o b q 4096) w.more fresh (w.there j q (omega arith) l' x u z)
            | inr u ↦
                let m : q < whole_end f.table f.size = (elim (cases_lt done (whole_end f.table f.size)) [
                  | inl v ↦ (let g : next ≡ whole_end f.table f.size = n ∙ max-eq_right (omega arith) in omega arith)
                  | inr v ↦ (let g : next ≡ done = n ∙ max-eq_left v in absurd (omega arith))
                ]) in
                has_right (λ (v : Span). v ≡ block o b q 4096) w.more fresh
                (whole_at o b f done h w.aligned q (omega arith) u m z)
          ];
    }

pub done_end : (o : Order) (b : List ℕ) (files : List File) (i done : ℕ) (base es : List Span) → length files ≤ i
    → Done o b files i base es done → AddsFiles o b files base es
done_end o b files i done base es l w = record {
  more = w.more;
  is = w.is;
  shareable = w.shareable;
  into = w.into;
  back = λ j d m. subst (λ (f : File). Every (λ z. Member z w.more) (spans_of o b f))
      (get_or_default files j no_file d m) (w.back j (omega arith));
}

pub all_spans_shareable : (o : Order) (b : List ℕ) (fs : List File)
    → Every (λ (z : Span). is_shareable z.kind ≡ true) (flat_map (spans_of o b) fs)
all_spans_shareable o b [] = tt
all_spans_shareable o b (f ∷ fs) =
    every_join (λ z. is_shareable z.kind ≡ true) (spans_of o b f) (flat_map (spans_of o b) fs)
    (every_join (λ z. is_shareable z.kind ≡ true) (added Table f.table (4 * block_count f.size))
    (data_from o b (block_count f.size) f.table f.size)
    (every_added (λ z. is_shareable z.kind ≡ true) Table f.table (4 * block_count f.size) (λ l. refl))
    (every_data (λ z. is_shareable z.kind ≡ true) o b (block_count f.size) f.table f.size (λ i l m. refl)))
    (all_spans_shareable o b fs)
