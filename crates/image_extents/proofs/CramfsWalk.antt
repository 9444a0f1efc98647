-- The records of a cramfs image, list by list.
use Rattle.std.proofs.Common.{◌≡◌, ℕ, suc, ◌+◌, ◌*◌, ◌^◌, ◌<◌, ◌≤◌, List, [], ◌∷◌, ◌++◌}
use Rattle.std.proofs.Common.{length, length-append, refl, sym, ap, subst, ◌∙◌, arith, append_assoc, append-nil}
use Rattle.std.specs.List.{AllByRecursion as Every}
use Rattle.record_forest.specs.Forest.{Forest, none, count}
use Rattle.cramfs_format.specs.declared.order.Order.{Order}
use Rattle.cramfs_format.specs.Inode.{end_of, list_start, list_end}
use Rattle.cramfs_format.specs.Refers.{root_place}
use Rattle.cramfs_format.specs.Made.{grow, IsCramfs}
use Rattle.cramfs_format.proofs.Trees.{IsList, list_is, root_list}
use Rattle.cramfs_format.proofs.Chain.{IsStep, step_of, list_done}
use Rattle.image_info.specs.Gaps.{most_records, cramfs_forest}
use Rattle.image_extents.specs.declared.extent.Record.{Record}
use Rattle.image_extents.specs.Listed.{listed, cramfs_entry, cramfs_listed, root_entry}
use Rattle.image_extents.proofs.Walk.{every_push, every_front, come, come_none, come_step, weight, weight_push}

-- the records of the list that begins and ends there
abbrev pub forest_at : Order → List ℕ → ℕ × ℕ × ℕ → Forest
forest_at o b x = grow most_records o b x.1 x.0

abbrev pub number_of : ℕ × ℕ × ℕ → ℕ
number_of x = x.2

abbrev pub Stand : Order → List ℕ → ℕ × ℕ × ℕ → Type 0
Stand o b x = IsList o b most_records x.1 x.0

abbrev pub to_come : Order → List ℕ → ℕ → List (ℕ × ℕ × ℕ) → List Record
to_come o b n xs = come (cramfs_entry o b) (forest_at o b) number_of n xs

pub whole : (o : Order) (b : List ℕ) → cramfs_listed o b
    ≡ root_entry root_place
    ∷ listed (cramfs_entry o b) 1 0 (grow most_records o b (list_end o b root_place) (list_start o b root_place))
unfolding cramfs_listed cramfs_forest
whole o b = ap (λ (v : List Record). root_entry root_place ∷ v) (append-nil _)

-- The lists that are still to be read stand, and the records so far and those of the lists are all.
pub record Walks (o : Order) (b : List ℕ) (records : List Record) (lists : List (ℕ × ℕ × ℕ)) : Type 0 where
  pub stand : Every (Stand o b) lists
  pub all : records ++ to_come o b (length records) lists ≡ cramfs_listed o b

more_room : (o : Order) (b : List ℕ) (k e q : ℕ) → k ≤ 2 ^ 32 → IsList o b k e q → IsList o b most_records e q
unfolding most_records
more_room o b k e q h l =
    list_is o b most_records e q (grow k o b e q) l.stands l.good (let f = l.few in omega arith)

-- where the list of the record at p begins and ends, and the number of the record
abbrev pub list_of : Order → List ℕ → ℕ → ℕ → ℕ × ℕ × ℕ
list_of o b p n = (list_start o b p, list_end o b p, n)

pub walk_start : (o : Order) (b : List ℕ) (start end : ℕ) (records : List Record) (empty lists : List (ℕ × ℕ × ℕ))
    (k : ℕ) → k ≤ 2 ^ 32 → IsCramfs o b k → records ≡ root_entry root_place ∷ [] → empty ≡ []
    → start ≡ list_start o b root_place → end ≡ list_end o b root_place
    → lists ≡ empty ++ (start, end, 0) ∷ [] → Walks o b records lists
walk_start o b start end records empty lists k h s z n t u l =
    let first : lists ≡ list_of o b root_place 0 ∷ [] =
    l ∙ ap (λ (v : List (ℕ × ℕ × ℕ)). v ++ (start, end, 0) ∷ []) n
    ∙ ap (λ (v : ℕ). (v, end, 0) ∷ []) t ∙ ap (λ (v : ℕ). (list_start o b root_place, v, 0) ∷ []) u in
    let i = more_room o b k (list_end o b root_place) (list_start o b root_place) h (root_list s) in
    record {
      stand = subst (Every (Stand o b)) (sym first) (i, tt);
      all = ap (λ (v : List Record). v ++ to_come o b (length v) lists) z
          ∙ ap (λ (v : List (ℕ × ℕ × ℕ)). root_entry root_place ∷ to_come o b 1 v) first ∙ sym (whole o b);
    }

module _ {o : Order} {b : List ℕ} {records : List Record} {items : List (ℕ × ℕ × ℕ)}
    (xs : List (ℕ × ℕ × ℕ)) (x : ℕ × ℕ × ℕ) (w : Walks o b records items) (split : items ≡ xs ++ x ∷ []) where
  parted : Every (Stand o b) xs × Stand o b x
  parted = every_front (Stand o b) xs x (subst (Every (Stand o b)) split w.stand)

  pub step_at : x.0 < x.1 → IsStep o b most_records x.1 x.0
  step_at h = step_of o b most_records x.1 x.0 parted.1 h

  weight_is : weight (forest_at o b) items ≡ suc (2 * count (forest_at o b x)) + weight (forest_at o b) xs
  weight_is = ap (weight (forest_at o b)) split ∙ weight_push (forest_at o b) xs x

  pub walk_done : x.1 ≤ x.0 → Walks o b records xs × (weight (forest_at o b) xs < weight (forest_at o b) items)
  walk_done z =
      let e : forest_at o b x ≡ none = list_done most_records o b x.1 x.0 z in
      let u = weight_is in (
        record {
          stand = parted.0;
          all = ap (λ (v : List Record). records ++ v)
              (sym (ap (to_come o b (length records)) split
              ∙ come_none (cramfs_entry o b) (forest_at o b) number_of (length records) xs x e)) ∙ w.all;
        },
        omega arith,
      )

  pub walk_on : (number : ℕ) (entry : Record) (more : List Record) (next start end : ℕ) (some all : List (ℕ × ℕ × ℕ))
      → x.0 < x.1 → number ≡ length records → entry ≡ cramfs_entry o b x.0 x.2
      → more ≡ records ++ entry ∷ [] → next ≡ end_of o b x.0 → some ≡ xs ++ (next, x.1, x.2) ∷ []
      → start ≡ list_start o b x.0 → end ≡ list_end o b x.0 → all ≡ some ++ (start, end, number) ∷ []
      → Walks o b more all × (weight (forest_at o b) all < weight (forest_at o b) items)
  walk_on number entry more next start end some all h nu ey em' en es eg ee ea =
      let st = step_at h in
      let em : more ≡ records ++ cramfs_entry o b x.0 x.2 ∷ [] = em' ∙ ap (λ (v : Record). records ++ v ∷ []) ey in
      let N : ℕ × ℕ × ℕ = (end_of o b x.0, x.1, x.2) in
      let G : ℕ × ℕ × ℕ = list_of o b x.0 (length records) in
      let one : some ≡ xs ++ N ∷ [] = es ∙ ap (λ (v : ℕ). xs ++ (v, x.1, x.2) ∷ []) en in
      let two : all ≡ (xs ++ N ∷ []) ++ G ∷ [] =
      ea ∙ ap (λ (v : ℕ). some ++ (v, end, number) ∷ []) eg
      ∙ ap (λ (v : ℕ). some ++ (list_start o b x.0, v, number) ∷ []) ee
      ∙ ap (λ (v : ℕ). some ++ (list_start o b x.0, list_end o b x.0, v) ∷ []) nu
      ∙ ap (λ (v : List (ℕ × ℕ × ℕ)). v ++ G ∷ []) one in
      let u = weight_is in
      let z = st.size in
      let c1 : weight (forest_at o b) (xs ++ N ∷ []) ≡ suc (2 * count (forest_at o b N)) + weight (forest_at o b) xs =
      weight_push (forest_at o b) xs N in
      let c2 : weight (forest_at o b) all
      ≡ suc (2 * count (forest_at o b G)) + weight (forest_at o b) (xs ++ N ∷ []) =
      ap (weight (forest_at o b)) two ∙ weight_push (forest_at o b) (xs ++ N ∷ []) G in
      let l : length more ≡ suc (length records) =
      ap length em ∙ length-append records (cramfs_entry o b x.0 x.2 ∷ []) ∙ (omega arith) in
      let c : to_come o b (length records) items ≡ cramfs_entry o b x.0 x.2 ∷ to_come o b (suc (length records)) all =
      ap (to_come o b (length records)) split
      ∙ come_step (cramfs_entry o b) (forest_at o b) number_of (length records) xs x N G x.0
      (grow most_records o b (list_end o b x.0) (list_start o b x.0)) (grow most_records o b x.1 (end_of o b x.0))
      st.is refl refl refl refl
      ∙ ap (λ (v : List (ℕ × ℕ × ℕ)). cramfs_entry o b x.0 x.2 ∷ to_come o b (suc (length records)) v) (sym two) in (
        record {
          stand = subst (Every (Stand o b)) (sym two)
              (every_push (Stand o b) (xs ++ N ∷ []) G (every_push (Stand o b) xs N parted.0 st.next) st.own);
          all = ap (λ (n : ℕ). more ++ to_come o b n all) l
              ∙ ap (λ (v : List Record). v ++ to_come o b (suc (length records)) all) em
              ∙ append_assoc records (cramfs_entry o b x.0 x.2 ∷ []) (to_come o b (suc (length records)) all)
              ∙ ap (λ (v : List Record). records ++ v) (sym c) ∙ w.all;
        },
        omega arith,
      )

-- no list is left
pub walk_end : (o : Order) (b : List ℕ) (records : List Record) (lists : List (ℕ × ℕ × ℕ))
    → length lists ≡ 0 → Walks o b records lists → records ≡ cramfs_listed o b
walk_end o b records [] e w = sym (append-nil records) ∙ w.all
walk_end o b records (x ∷ xs) e w = absurd (omega arith)
