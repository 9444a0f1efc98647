-- The records of a romfs image, list by list.
use Rattle.std.proofs.Common.{◌≡◌, ◌≢◌, ℕ, zero, suc, ◌+◌, ◌*◌, ◌^◌, ◌<◌, ◌≤◌, Bool, true, false, List, [], ◌∷◌, ◌++◌}
use Rattle.std.proofs.Common.{length, length-append, refl, sym, ap, subst, ◌∙◌, arith, append_assoc, append-nil}
use Rattle.std.proofs.lemmas.Bool.{eq-eqb}
use Rattle.std.specs.List.{AllByRecursion as Every}
use Rattle.record_forest.specs.Forest.{Forest, none, count}
use Rattle.romfs_format.specs.Record.{first_of, next_of}
use Rattle.romfs_format.specs.Refers.{heads_itself, list_of, following}
use Rattle.romfs_format.specs.Made.{grow, start_of, IsRomfs}
use Rattle.romfs_format.proofs.Trees.{IsList, list_is, root_list}
use Rattle.romfs_format.proofs.Chain.{IsStep, step_of}
use Rattle.image_info.specs.Gaps.{most_records, romfs_forest}
use Rattle.image_extents.specs.declared.extent.Record.{Record}
use Rattle.image_extents.specs.declared.extent.Extent.{Extent}
use Rattle.image_extents.specs.declared.extent.Kind.TheVariants.{Super}
use Rattle.image_extents.specs.Listed.{listed, romfs_entry, romfs_listed, root_entry}
use Rattle.image_extents.specs.Found.{found, romfs_found, found_from, romfs_all_found}
use Rattle.image_extents.proofs.Walk.{every_push, every_front, come, come_none, come_step, found_next, weight}
use Rattle.image_extents.proofs.Walk.{weight_push}

-- the records of the list that begins there
abbrev pub forest_at : List ℕ → ℕ × ℕ → Forest
forest_at b x = grow most_records b x.0

abbrev pub number_of : ℕ × ℕ → ℕ
number_of x = x.1

abbrev pub Stand : List ℕ → ℕ → ℕ × ℕ → Type 0
Stand b r x = IsList b r most_records x.0

abbrev pub to_come : List ℕ → ℕ → List (ℕ × ℕ) → List Record
to_come b n xs = come (romfs_entry b) (forest_at b) number_of n xs

ends : (k : ℕ) (b : List ℕ) → grow k b 0 ≡ none
ends zero b = refl
ends (suc k) b = refl

below : (k : ℕ) (b : List ℕ) (r : ℕ) (v : Bool) → heads_itself b r ≡ v
    → listed (romfs_entry b) 1 0 (grow k b (list_of b r r))
    ++ listed (romfs_entry b) (suc (count (grow k b (list_of b r r)))) 0 (grow k b (following b r r))
    ≡ listed (romfs_entry b) 1 0 (grow k b (start_of b r))
unfolding list_of following start_of
below k b r true e = rw (eq-eqb r r refl, e, ends k b) refl
below k b r false e = rw (eq-eqb r r refl, e, ends k b) (append-nil _)

pub whole : (b : List ℕ) (r : ℕ) → romfs_listed b r
    ≡ root_entry r ∷ listed (romfs_entry b) 1 0 (grow most_records b (start_of b r))
unfolding romfs_listed romfs_forest
whole b r = ap (λ (v : List Record). root_entry r ∷ v) (below most_records b r (heads_itself b r) refl)

-- The lists that are still to be read stand; the records so far and those of the lists are all; the
-- extents are those of the records so far.
pub record Walks (b : List ℕ) (r : ℕ) (records : List Record) (extents : List Extent)
    (lists : List (ℕ × ℕ)) : Type 0 where
  pub stand : Every (Stand b r) lists
  pub all : records ++ to_come b (length records) lists ≡ romfs_listed b r
  pub found : extents ≡ found Super 0 r 0 0 ++ found_from (romfs_found b) 0 records

more_room : (b : List ℕ) (r k q : ℕ) → k ≤ 2 ^ 32 → IsList b r k q → IsList b r most_records q
unfolding most_records
more_room b r k q h l = list_is b r most_records q (grow k b q) l.stands l.good (let f = l.few in omega arith)

pub walk_start : (b : List ℕ) (r start : ℕ) (records : List Record) (none' before extents : List Extent)
    (empty lists : List (ℕ × ℕ)) (k : ℕ) → k ≤ 2 ^ 32 → IsRomfs b r k
    → records ≡ root_entry r ∷ [] → none' ≡ [] → before ≡ none' ++ found Super 0 r 0 0
    → extents ≡ before ++ romfs_found b r 0 → empty ≡ []
    → start ≡ start_of b r → lists ≡ empty ++ (start, 0) ∷ [] → Walks b r records extents lists
walk_start b r start records none' before extents empty lists k h s z y x f n t l =
    let first : lists ≡ (start_of b r, 0) ∷ [] =
    l ∙ ap (λ (v : List (ℕ × ℕ)). v ++ (start, 0) ∷ []) n ∙ ap (λ (v : ℕ). (v, 0) ∷ []) t in
    let i = more_room b r k (start_of b r) h (root_list s) in
    record {
      stand = subst (Every (Stand b r)) (sym first) (i, tt);
      all = ap (λ (v : List Record). v ++ to_come b (length v) lists) z
          ∙ ap (λ (v : List (ℕ × ℕ)). root_entry r ∷ to_come b 1 v) first ∙ sym (whole b r);
      found = f ∙ ap (λ (v : List Extent). v ++ romfs_found b r 0)
          (x ∙ ap (λ (v : List Extent). v ++ found Super 0 r 0 0) y)
          ∙ ap (λ (v : List Extent). found Super 0 r 0 0 ++ v)
          (sym (ap (found_from (romfs_found b) 0) z ∙ append-nil (romfs_found b r 0)));
    }

module _ {b : List ℕ} {r : ℕ} {records : List Record} {extents : List Extent} {items : List (ℕ × ℕ)}
    (xs : List (ℕ × ℕ)) (x : ℕ × ℕ) (w : Walks b r records extents items) (split : items ≡ xs ++ x ∷ []) where
  parted : Every (Stand b r) xs × Stand b r x
  parted = every_front (Stand b r) xs x (subst (Every (Stand b r)) split w.stand)

  pub step_at : x.0 ≢ 0 → IsStep b r most_records x.0
  step_at h = step_of b r most_records x.0 parted.1 h

  weight_is : weight (forest_at b) items ≡ suc (2 * count (forest_at b x)) + weight (forest_at b) xs
  weight_is = ap (weight (forest_at b)) split ∙ weight_push (forest_at b) xs x

  pub walk_zero : x.0 ≡ 0 → Walks b r records extents xs × (weight (forest_at b) xs < weight (forest_at b) items)
  walk_zero z =
      let e : forest_at b x ≡ none = ap (λ (v : ℕ). grow most_records b v) z ∙ ends most_records b in
      let u = weight_is in (
        record {
          stand = parted.0;
          all = ap (λ (v : List Record). records ++ v)
              (sym (ap (to_come b (length records)) split
              ∙ come_none (romfs_entry b) (forest_at b) number_of (length records) xs x e)) ∙ w.all;
          found = w.found;
        },
        omega arith,
      )

  pub walk_on : (number : ℕ) (entry : Record) (more : List Record) (far : List Extent) (next first : ℕ)
      (some all : List (ℕ × ℕ)) → x.0 ≢ 0 → number ≡ length records → entry ≡ romfs_entry b x.0 x.1
      → more ≡ records ++ entry ∷ [] → far ≡ extents ++ romfs_found b x.0 number
      → next ≡ next_of b x.0 → some ≡ xs ++ (next, x.1) ∷ []
      → first ≡ first_of b x.0 → all ≡ some ++ (first, number) ∷ []
      → Walks b r more far all × (weight (forest_at b) all < weight (forest_at b) items)
  walk_on number entry more far next first some all h nu ey em' ef' en es eg ea' =
      let st = step_at h in
      let em : more ≡ records ++ romfs_entry b x.0 x.1 ∷ [] = em' ∙ ap (λ (v : Record). records ++ v ∷ []) ey in
      let ef : far ≡ extents ++ romfs_found b x.0 (length records) =
      ef' ∙ ap (λ (v : ℕ). extents ++ romfs_found b x.0 v) nu in
      let ea : all ≡ some ++ (first, length records) ∷ [] = ea' ∙ ap (λ (v : ℕ). some ++ (first, v) ∷ []) nu in
      let N : ℕ × ℕ = (next_of b x.0, x.1) in
      let G : ℕ × ℕ = (first_of b x.0, length records) in
      let one : some ≡ xs ++ N ∷ [] = es ∙ ap (λ (v : ℕ). xs ++ (v, x.1) ∷ []) en in
      let two : all ≡ (xs ++ N ∷ []) ++ G ∷ [] =
      ea ∙ ap (λ (v : ℕ). some ++ (v, length records) ∷ []) eg ∙ ap (λ (v : List (ℕ × ℕ)). v ++ G ∷ []) one in
      let u = weight_is in
      let z = st.size in
      let c1 : weight (forest_at b) (xs ++ N ∷ []) ≡ suc (2 * count (forest_at b N)) + weight (forest_at b) xs =
      weight_push (forest_at b) xs N in
      let c2 : weight (forest_at b) all ≡ suc (2 * count (forest_at b G)) + weight (forest_at b) (xs ++ N ∷ []) =
      ap (weight (forest_at b)) two ∙ weight_push (forest_at b) (xs ++ N ∷ []) G in
      let l : length more ≡ suc (length records) =
      ap length em ∙ length-append records (romfs_entry b x.0 x.1 ∷ []) ∙ (omega arith) in
      let c : to_come b (length records) items ≡ romfs_entry b x.0 x.1 ∷ to_come b (suc (length records)) all =
      ap (to_come b (length records)) split
      ∙ come_step (romfs_entry b) (forest_at b) number_of (length records) xs x N G x.0
      (grow most_records b (first_of b x.0)) (grow most_records b (next_of b x.0)) st.is refl refl refl refl
      ∙ ap (λ (v : List (ℕ × ℕ)). romfs_entry b x.0 x.1 ∷ to_come b (suc (length records)) v) (sym two) in (
        record {
          stand = subst (Every (Stand b r)) (sym two)
              (every_push (Stand b r) (xs ++ N ∷ []) G (every_push (Stand b r) xs N parted.0 st.next) st.first);
          all = ap (λ (n : ℕ). more ++ to_come b n all) l
              ∙ ap (λ (v : List Record). v ++ to_come b (suc (length records)) all) em
              ∙ append_assoc records (romfs_entry b x.0 x.1 ∷ []) (to_come b (suc (length records)) all)
              ∙ ap (λ (v : List Record). records ++ v) (sym c) ∙ w.all;
          found = ef ∙ ap (λ (v : List Extent). v ++ romfs_found b x.0 (length records)) w.found
              ∙ append_assoc (found Super 0 r 0 0) (found_from (romfs_found b) 0 records)
              (romfs_found b x.0 (length records))
              ∙ ap (λ (v : List Extent). found Super 0 r 0 0 ++ v)
              (sym (ap (found_from (romfs_found b) 0) em ∙ found_next (romfs_found b) records (romfs_entry b x.0 x.1)));
        },
        omega arith,
      )

-- no list is left
pub walk_end : (b : List ℕ) (r : ℕ) (records : List Record) (extents : List Extent) (lists : List (ℕ × ℕ))
    → length lists ≡ 0 → Walks b r records extents lists
    → (records ≡ romfs_listed b r) × (extents ≡ romfs_all_found b r)
unfolding romfs_all_found
walk_end b r records extents [] e w =
    let same : records ≡ romfs_listed b r = sym (append-nil records) ∙ w.all in
    (same, w.found ∙ ap (λ (v : List Record). found Super 0 r 0 0 ++ found_from (romfs_found b) 0 v) same)
walk_end b r records extents (x ∷ xs) e w = absurd (omega arith)
