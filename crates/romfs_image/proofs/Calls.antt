-- What each call finds.
use Rattle.std.proofs.Common.{take, ◌≡◌, ◌≢◌, ℕ, suc, ◌+◌, ◌-◌, ◌/◌, ◌%◌, ◌^◌, ◌<◌, ◌≤◌, true, false, eqb, List, length}
use Rattle.std.proofs.Common.{Option, None, Some, IsSome, ◌⊎◌, inl, inr, refl, sym, ap, subst, ◌∙◌, arith, rules}
use Rattle.std.proofs.Common.{if◌then◌else◌, nat_eq}
use Rattle.std.proofs.lemmas.Bool.{ne_eqb, eq-eqb}
use Rattle.std.proofs.lemmas.Bool.Decides.{eqb_tells, nat_tests}
use Rattle.std.specs.Prelude.{nat_lt}
use Rattle.std.specs.Str.{bytes_eq}
use Rattle.rom_tree.specs.declared.types.Kind.{Kind}
use Rattle.rom_tree.specs.Tree.{Node, entry_at, entries_of, places_of, ino_of}
use Rattle.rom_tree.specs.Image.{find_entry, stat_of, IsEntry, IsRun, LieIn}
use Rattle.rom_tree.proofs.Rows.{lies_in_front}
use Rattle.romfs_image.proofs.Reading.{name_stands}
use Rattle.rom_fields.specs.Words.{word_be}
use Rattle.romfs_format.specs.Record.{first_of, next_of, name_of, end_of, type_of, size_of}
use Rattle.record_forest.specs.Forest.{Forest, none, at, count, Everywhere}
use Rattle.romfs_format.specs.Made.{StandsAt, grow, list_at, made, IsGood, IsRomfs, bump, index_at, cursor_of, begins}
use Rattle.romfs_format.specs.Tree.{kind_numbers, node_of, entries_at, led, kind_named, mode_named, places_at}
use Rattle.romfs_format.specs.Tree.{attributes_at, by_type}
use Rattle.rom_tree.specs.Dots.{is_dots}
use Rattle.rom_tree.proofs.ByKind.{body_kind_is}
use Rattle.rom_tree.proofs.Numbers.{length_row, row_at}
use Rattle.romfs_format.proofs.Contents.{file_size, made_places}
use Rattle.romfs_format.proofs.Trees.{IsList, list_is, ino_is, made_entries}
use Rattle.romfs_format.proofs.Chain.{IsStep, step_of, list_end, index_start, index_rest, index_next}
use Rattle.romfs_image.specs.Romfs.{romfs_view}

pub stat_is : (b : List ℕ) (r k n front spec size : ℕ) (kind : Kind) (mode len major minor : ℕ) (x : Node)
    → x ≡ made b r k n → front ≡ word_be b n → spec ≡ word_be b (n + 4) → size ≡ word_be b (n + 8)
    → kind ≡ kind_named (front % 8) → mode ≡ mode_named (front % 8) (nat_eq (front / 8 % 2) 1)
    → len ≡ by_type (front % 8) 0 size size 0 0 0 0
    → major ≡ by_type (front % 8) 0 0 0 (spec / 65536) (spec / 65536) 0 0
    → minor ≡ by_type (front % 8) 0 0 0 (spec % 65536) (spec % 65536) 0 0
    → record { ino = n; kind = kind; mode = mode; uid = 0; gid = 0; size = len; major = major; minor = minor }
    ≡ stat_of x
unfolding made node_of attributes_at type_of size_of places_at
stat_is b r k n front spec size kind mode len major minor x e ef es ez ek em el ea ei =
    let t : ℕ = word_be b n % 8 in
    let l : length (places_of (made b r k n)) ≡ by_type t 0 (word_be b (n + 8)) (word_be b (n + 8)) 0 0 0 0 =
    ap length (made_places b r k n) ∙ length_row (end_of b n) (file_size b n) in
    let q = body_kind_is kind_numbers t (places_at b n) (entries_at b (list_at b r k n)) in
    rw (e, ek, em, el, ea, ei, ef, es, ez, l, q) refl

pub run_is : (b : List ℕ) (r k n off place len : ℕ) (x : Node) → x ≡ made b r k n → off < len → len ≡ file_size b n
    → place ≡ end_of b n
    → IsRun (places_of x) off (record { place = place + off; len = len - off })
run_is b r k n off place len x e lt el ep = rw (e, made_places b r k n, ep, ← el) (record {
  some = omega arith;
  within = rw (length_row (end_of b n) len) (omega arith);
  row = λ j v. row_at (end_of b n) len (off + j) (omega arith) ∙ (omega arith);
})

pub no_run : (b : List ℕ) (r k n off len : ℕ) (x : Node) → x ≡ made b r k n → len ≤ off → len ≡ file_size b n
    → length (places_of x) ≤ off
no_run b r k n off len x e le el = rw (e, made_places b r k n, length_row, ← el) le

-- from the front on, all of the contents are one run
pub run_whole : (b : List ℕ) (r k n off len : ℕ) (x : Node) → x ≡ made b r k n → off ≡ 0 → len ≡ file_size b n
    → len - off ≡ length (places_of x)
run_whole b r k n off len x e o el = rw (e, made_places b r k n, length_row, ← el) (omega arith)

-- a run has the rest of the file
pub run_rest : (b : List ℕ) (r k n off len : ℕ) (x : Node) → x ≡ made b r k n → len ≡ file_size b n
    → len - off ≡ length (places_of x) - off
run_rest b r k n off len x e el = rw (e, made_places b r k n, length_row, ← el) refl

pub file_size_is : (b : List ℕ) (n front size len : ℕ) → front ≡ word_be b n → size ≡ word_be b (n + 8)
    → len ≡ by_type (front % 8) 0 size size 0 0 0 0 → len ≡ file_size b n
unfolding type_of size_of
file_size_is b n front size len f s e = rw (e, f, s) refl

-- a cursor of a list
pub cursor_cases : (b : List ℕ) (r k d c i : ℕ) → cursor_of b r k d c ≡ Some i → c ≢ 0
    → (2 ^ 32 ≤ c) × (index_at b (list_at b r k d) (c - 2 ^ 32) ≡ Some i)
unfolding cursor_of
cursor_cases b r k d c i e n =
    let f : (if nat_lt c (2 ^ 32) then None else index_at b (list_at b r k d) (c - 2 ^ 32)) ≡ Some i =
    (rw (ne_eqb c 0 n) at e) in
    elim (nat_lt c (2 ^ 32)) as (λ v. nat_lt c (2 ^ 32) ≡ v
    → (if v then None else index_at b (list_at b r k d) (c - 2 ^ 32)) ≡ Some i
    → (2 ^ 32 ≤ c) × (index_at b (list_at b r k d) (c - 2 ^ 32) ≡ Some i)) [
      | true ↦ λ t g. absurd (cc)
      | false ↦ λ t g. (grind (arith, nat_tests), g)
    ] refl f

pub has_index : (o : Option ℕ) → IsSome o → (i : ℕ) × (o ≡ Some i)
has_index None h = absurd (search rules)
has_index (Some i) h = (i, refl)

-- what stands where a cursor points
list_there : (b : List ℕ) (r k s q i : ℕ) (f : Forest) → StandsAt b s f → Everywhere (IsGood b r) f → count f ≤ k
    → index_at b f q ≡ Some i → IsList b r k q
list_there b r k s q i none x g c e = elim (eqb_tells q 0) [
  | inl h ↦ list_is b r k q none h.1 tt (omega arith)
  | inr h ↦ let v = (rw h.0 at e) in absurd (cc)
]
list_there b r k s q i (at p own after) x g c e = elim (eqb_tells p q) [
  | inl h ↦ list_is b r k q (at p own after) (subst (λ (v : ℕ). StandsAt b v (at p own after)) (sym x.1 ∙ h.1) x) g c
  | inr h ↦ by b r k q i p after (index_at b after q) refl (rw h.0 at e)
      (λ m z. list_there b r k (next_of b p) q m after x.3 g.2 (omega arith) z)
]
  where
    by : (b : List ℕ) (r k q i p : ℕ) (after : Forest) → (o : Option ℕ) → index_at b after q ≡ o
        → bump (is_dots (name_of b p)) (index_at b after q) ≡ Some i
        → ((m : ℕ) → index_at b after q ≡ Some m → IsList b r k q) → IsList b r k q
    by b r k q i p after None eo e ih = let v = (rw eo at e) in absurd (cc)
    by b r k q i p after (Some m) eo e ih = ih m eo

pub list_from : (b : List ℕ) (r k s q i : ℕ) → IsList b r k s → index_at b (grow k b s) q ≡ Some i → IsList b r k q
list_from b r k s q i l e = list_there b r k s q i (grow k b s) l.stands l.good l.few e

-- its records have offsets that a word holds
pub offset_small : (b : List ℕ) (r k q : ℕ) → IsList b r k q → length b < 2 ^ 32 → q < 2 ^ 32
offset_small b r k q l s = elim (eqb_tells q 0)
    [ inl h ↦ rw h.1 (omega arith) | inr h ↦ let g = (step_of b r k q l h.1).good.sound.header in omega arith ]

cursor_next : (b : List ℕ) (r k d next i : ℕ) → index_at b (list_at b r k d) next ≡ Some i
    → cursor_of b r k d (4294967296 + next) ≡ Some i
unfolding cursor_of
cursor_next b r k d next i e =
    let n : eqb (4294967296 + next) 0 ≡ false = grind (arith, nat_tests) in
    let l : nat_lt (4294967296 + next) (2 ^ 32) ≡ false = grind (arith, nat_tests) in
    let m : 4294967296 + next - 2 ^ 32 ≡ next = omega arith in
    rw (n, l, m) e

-- one record further
pub further : (b : List ℕ) (r k d i q : ℕ) → IsList b r k (begins b r d) → IsList b r k q → IsStep b r k q
    → index_at b (list_at b r k d) q ≡ Some i
    → index_at b (list_at b r k d) (next_of b q) ≡ Some (if is_dots (name_of b q) then i else suc i)
unfolding list_at
further b r k d i q l lq st e = index_next b (begins b r d) q i (grow k b (begins b r d)) (grow k b (first_of b q))
    (grow k b (next_of b q)) l.stands (subst (StandsAt b q) st.is lq.stands) e

-- the entry of a record
pub entry_here : (bytes b : List ℕ) (r k q : ℕ) (s : IsRomfs b r k) (w : length b ≤ length bytes) (d i node next : ℕ)
    (name : List ℕ) (x : Node) → b ≡ take (length b) bytes → x ≡ made b r k d → type_of b d ≡ 1
    → IsList b r k (begins b r d) → IsStep b r k q → q ≢ 0 → IsList b r k q
    → index_at b (list_at b r k d) q ≡ Some i → is_dots (name_of b q) ≡ false → name ≡ name_of b q → node ≡ led 8 b q
    → next ≡ next_of b q
    → IsEntry (romfs_view bytes b r k s w) d (entries_of x) i name node (4294967296 + next)
unfolding list_at
entry_here bytes b r k q s w d i node next name x f e t l st n lq ei ed en eo ex =
    let target = node_of b (led 8 b q) (entries_at b (grow k b (first_of b q))) in
    let rest = index_rest b (begins b r d) q i 0 (grow k b (begins b r d)) (grow k b q) l.stands lq.stands ei in
    let iz : i + 0 ≡ i = omega arith in
    let es : entries_of x ≡ entries_at b (grow k b (begins b r d)) = ap entries_of e ∙ made_entries b r k d t in
    let g : entry_at (entries_at b (grow k b q)) 0 ≡ Some (name_of b q, target) = rw (st.is, ed) refl in
    let i' : entry_at (entries_at b (grow k b (begins b r d))) i ≡ Some (name_of b q, target) =
    subst (λ (v : ℕ). entry_at (entries_at b (grow k b (begins b r d))) v ≡ Some (name_of b q, target)) iz
    (rest ∙ g) in
    record {
      target = target;
      at = rw (es, en) i';
      number = ino_is b (led 8 b q) (entries_at b (grow k b (first_of b q))) ∙ sym eo;
      next = cursor_next b r k d next (i + 1)
          (subst (λ (v : ℕ). index_at b (list_at b r k d) v ≡ Some (i + 1)) (sym ex)
          (further b r k d i q l lq st ei ∙ (let one : suc i ≡ i + 1 = omega arith in rw (ed, one) refl)));
      lies =
          let h = st.good.sound.name_ends in
          subst (LieIn bytes) (sym en) (lies_in_front bytes b (name_of b q) (q + 16) f w (omega (arith, h))
          (name_stands b q));
    }

pub no_entry : (b : List ℕ) (r k d i q : ℕ) (x : Node) → x ≡ made b r k d → type_of b d ≡ 1
    → IsList b r k (begins b r d) → IsList b r k q → q ≡ 0 → index_at b (list_at b r k d) q ≡ Some i
    → entry_at (entries_of x) i ≡ None
unfolding list_at
no_entry b r k d i q x e t l lq z ei =
    let rest = index_rest b (begins b r d) q i 0 (grow k b (begins b r d)) (grow k b q) l.stands lq.stands ei in
    let iz : i + 0 ≡ i = omega arith in
    let es : entries_of x ≡ entries_at b (grow k b (begins b r d)) = ap entries_of e ∙ made_entries b r k d t in
    let end : grow k b q ≡ none = subst (λ (v : ℕ). IsList b r k v → grow k b v ≡ none) (sym z) (list_end b r k) lq in
    let g : entry_at (entries_at b (grow k b q)) 0 ≡ None = rw end refl in
    rw es (subst (λ (v : ℕ). entry_at (entries_at b (grow k b (begins b r d))) v ≡ None) iz (rest ∙ g))

-- the loop of entry: where it begins
pub begins_start : (b : List ℕ) (r k d c here : ℕ) → c ≡ 0 → here ≡ begins b r d → IsList b r k (begins b r d) → (i : ℕ)
    → cursor_of b r k d c ≡ Some i → index_at b (list_at b r k d) here ≡ Some i
unfolding cursor_of list_at
begins_start b r k d c here z e l i h =
    let g : Some 0 ≡ Some i = (rw (eq-eqb c 0 z) at h) in
    rw e (index_start b (begins b r d) (grow k b (begins b r d)) l.stands ∙ g)

pub begins_there : (b : List ℕ) (r k d c here : ℕ) → c ≢ 0 → here ≡ c - 4294967296 → (i : ℕ)
    → cursor_of b r k d c ≡ Some i → index_at b (list_at b r k d) here ≡ Some i
begins_there b r k d c here n e i h = rw e (cursor_cases b r k d c i h n).1

pub list_cursor : (b : List ℕ) (r k d c here : ℕ) → c ≢ 0 → here ≡ c - 4294967296 → IsList b r k (begins b r d)
    → IsSome (cursor_of b r k d c) → IsList b r k here
unfolding list_at
list_cursor b r k d c here n e l h =
    let i = has_index (cursor_of b r k d c) h in
    list_from b r k (begins b r d) here i.0 l (begins_there b r k d c here n e i.0 i.1)

pub cursor_low : (b : List ℕ) (r k d c : ℕ) → c ≢ 0 → IsSome (cursor_of b r k d c) → 4294967296 ≤ c
cursor_low b r k d c n h = let i = has_index (cursor_of b r k d c) h in (cursor_cases b r k d c i.0 i.1 n).0

pub skipped : (b : List ℕ) (r k d i q n : ℕ) → IsList b r k (begins b r d) → IsList b r k q → IsStep b r k q
    → is_dots (name_of b q) ≡ true → n ≡ next_of b q → index_at b (list_at b r k d) q ≡ Some i
    → index_at b (list_at b r k d) n ≡ Some i
skipped b r k d i q n l lq st ed en e = rw en (further b r k d i q l lq st e ∙ rw ed refl)

pub shrinks : (b : List ℕ) (r k q n : ℕ) → IsStep b r k q → n ≡ next_of b q → count (grow k b n) < count (grow k b q)
shrinks b r k q n st e = let z = st.size in rw e (omega arith)

-- lookup: past a record whose name is another, or none of an entry
pub passed : (b : List ℕ) (r k q n : ℕ) (name found : List ℕ) → IsStep b r k q → n ≡ next_of b q → found ≡ name_of b q
    → (is_dots found ≡ true) ⊎ (bytes_eq found name ≡ false)
    → find_entry (entries_at b (grow k b q)) name ≡ find_entry (entries_at b (grow k b n)) name
passed b r k q n name found st e f (inl d) =
    let d' : is_dots (name_of b q) ≡ true = sym (ap is_dots f) ∙ d in rw (e, st.is, d') refl
passed b r k q n name found st e f (inr d) =
    let d' : bytes_eq (name_of b q) name ≡ false = sym (ap (λ (x : List ℕ). bytes_eq x name) f) ∙ d in
    elim (is_dots (name_of b q)) as (λ v. is_dots (name_of b q) ≡ v
    → find_entry (entries_at b (grow k b q)) name ≡ find_entry (entries_at b (grow k b n)) name) [
      | true ↦ λ t. rw (e, st.is, t) refl
      | false ↦ λ t. rw (e, st.is, t, d') refl
    ] refl

pub found_here : (b : List ℕ) (r k q d node : ℕ) (name found : List ℕ) (x : Node) → x ≡ made b r k d → type_of b d ≡ 1
    → IsStep b r k q → found ≡ name_of b q → is_dots found ≡ false → bytes_eq found name ≡ true → node ≡ led 8 b q
    → find_entry (entries_at b (list_at b r k d)) name ≡ find_entry (entries_at b (grow k b q)) name
    → (y : Node) × (find_entry (entries_of x) name ≡ Some y) × (ino_of y ≡ node)
found_here b r k q d node name found x e t st f n m g h =
    let n' : is_dots (name_of b q) ≡ false = sym (ap is_dots f) ∙ n in
    let m' : bytes_eq (name_of b q) name ≡ true = sym (ap (λ (x : List ℕ). bytes_eq x name) f) ∙ m in
    let es : entries_of x ≡ entries_at b (list_at b r k d) = ap entries_of e ∙ made_entries b r k d t in
    let y = node_of b (led 8 b q) (entries_at b (grow k b (first_of b q))) in
    let z : find_entry (entries_at b (grow k b q)) name ≡ Some y = rw (st.is, n', m') refl in
    (y, rw es (h ∙ z), ino_is b (led 8 b q) (entries_at b (grow k b (first_of b q))) ∙ sym g)

pub found_none : (b : List ℕ) (r k q d : ℕ) (name : List ℕ) (x : Node) → x ≡ made b r k d → type_of b d ≡ 1
    → IsList b r k q → q ≡ 0
    → find_entry (entries_at b (list_at b r k d)) name ≡ find_entry (entries_at b (grow k b q)) name
    → find_entry (entries_of x) name ≡ None
found_none b r k q d name x e t lq z h =
    let es : entries_of x ≡ entries_at b (list_at b r k d) = ap entries_of e ∙ made_entries b r k d t in
    let end : grow k b q ≡ none = subst (λ (v : ℕ). IsList b r k v → grow k b v ≡ none) (sym z) (list_end b r k) lq in
    let g : find_entry (entries_at b (grow k b q)) name ≡ None = rw end refl in
    rw es (h ∙ g)
