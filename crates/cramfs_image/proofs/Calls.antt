-- What each call finds.
use Rattle.std.proofs.Common.{◌≡◌, ◌≢◌, ℕ, suc, ◌+◌, ◌-◌, ◌*◌, ◌/◌, ◌%◌, ◌<◌, ◌≤◌, min, true, false, List, length, take}
use Rattle.std.proofs.Common.{drop, Option, None, Some, IsSome, ◌⊎◌, inl, inr, refl, sym, ap, subst, ◌∙◌, arith, rules}
use Rattle.std.proofs.lemmas.Bool.{ne_eqb, eq-eqb}
use Rattle.std.proofs.lemmas.List.{length-take, take-take}
use Rattle.std.specs.Prelude.{slice_index}
use Rattle.std.specs.Str.{bytes_eq}
use Rattle.rom_tree.specs.declared.types.Kind.{Kind}
use Rattle.rom_tree.specs.Tree.{Node, entry_at, entries_of, places_of, ino_of}
use Rattle.rom_tree.specs.Image.{find_entry, stat_of, IsEntry, IsRun, LieIn}
use Rattle.rom_tree.proofs.Rows.{lies_in_front}
use Rattle.cramfs_format.specs.Order.{word}
use Rattle.cramfs_format.specs.declared.order.Order.{Order}
use Rattle.cramfs_format.specs.Inode.{mode_of, uid_of, gid_of, size_of, type_of, name_of, name_room, end_of, offset_of}
use Rattle.cramfs_format.specs.Inode.{list_start, list_end, without_zeros, block_start, pointer_place, pointer_of}
use Rattle.cramfs_format.specs.Inode.{HasBody}
use Rattle.cramfs_format.specs.Tree.{kind_numbers, node_of, entries_at, kind_named, places_at, attributes_at, by_type}
use Rattle.cramfs_format.specs.Made.{grow, list_at, made, index_at, cursor_of, IsCramfs}
use Rattle.cramfs_format.proofs.Lists.{end_after}
use Rattle.rom_tree.proofs.ByKind.{body_kind_is}
use Rattle.cramfs_format.proofs.Trees.{IsList, IsKnown, made_entries, ino_is}
use Rattle.cramfs_format.proofs.Chain.{IsStep, step_of, list_done, index_start, index_rest, index_next, list_there}
use Rattle.cramfs_format.proofs.Contents.{file_size, made_length, made_place, file_byte, link_data}
use Rattle.cramfs_image.specs.Cramfs.{cramfs_view}
use Rattle.cramfs_image.proofs.Zeros.{zeros_cut, zeros_shorter}

pub name_slice : (o : Order) (b : List ℕ) (p room : ℕ) → room ≡ name_room o b p
    → without_zeros (take (p + 12 + room - (p + 12)) (drop (p + 12) b)) ≡ name_of o b p
unfolding name_of
name_slice o b p room e =
    let n : p + 12 + room - (p + 12) ≡ name_room o b p = omega (arith, e) in
    ap (λ (x : ℕ). without_zeros (take x (drop (p + 12) b))) n

-- a name is read at its offset
name_lies : (o : Order) (bytes b : List ℕ) (p : ℕ) → b ≡ take (length b) bytes → length b ≤ length bytes
    → end_of o b p ≤ length b → LieIn bytes (name_of o b p)
unfolding name_of end_of
name_lies o bytes b p f w h =
    let room : List ℕ = take (name_room o b p) (drop (p + 12) b) in
    let n : ℕ = length (without_zeros room) in
    let short : n ≤ name_room o b p =
    (let a = zeros_shorter room in let l = length-take (name_room o b p) (drop (p + 12) b) in omega (arith, a, l)) in
    let cut : take n (drop (p + 12) b) ≡ without_zeros room =
    sym (take-take n (name_room o b p) (drop (p + 12) b) short) ∙ zeros_cut room in
    lies_in_front bytes b (without_zeros room) (p + 12) f w (omega (arith, h, short)) cut

pub stat_is : (o : Order) (b : List ℕ) (k n t size : ℕ) (kind : Kind) (mode uid gid len major minor : ℕ) (x : Node)
    → x ≡ made o b k n → t ≡ type_of o b n → size ≡ size_of o b n
    → kind ≡ kind_named t → mode ≡ mode_of o b n → uid ≡ uid_of o b n → gid ≡ gid_of o b n → len ≡ file_size o b n
    → major ≡ by_type t 0 0 0 (size / 256) (size / 256) 0 0 → minor ≡ by_type t 0 0 0 (size % 256) (size % 256) 0 0
    → record {
      ino = n;
      kind = kind;
      mode = mode % 4096;
      uid = uid;
      gid = gid;
      size = len;
      major = major;
      minor = minor;
    } ≡ stat_of x
unfolding made node_of attributes_at
stat_is o b k n t size kind mode uid gid len major minor x e et es ek em eu eg el ea ei =
    let l = made_length o b k n in
    let q = body_kind_is kind_numbers (type_of o b n) (places_at o b n) (entries_at o b (list_at o b k n)) in
    rw (e, ek, em, eu, eg, el, ea, ei, et, es, l, q) refl

-- the offset of the block pointer of byte off of a file
pub pointer_within : (o : Order) (b : List ℕ) (n off : ℕ) → HasBody o b n → off < file_size o b n
    → offset_of o b n + 4 * (off / 4096) + 4 ≤ length b
pointer_within o b n off h l =
    let d = file_byte o b n off l in
    let small = d.1 in
    let t = (h.table d.0 (omega arith)).1 in
    omega arith

pub pointer_is : (o : Order) (b : List ℕ) (n i table pointer start : ℕ) → table ≡ offset_of o b n
    → pointer ≡ word o b (table + 4 * i) → start ≡ block_start pointer → start ≡ block_start (pointer_of o b n i)
unfolding pointer_place
pointer_is o b n i table pointer start e f g = g ∙ ap block_start (f ∙ ap (λ (q : ℕ). word o b (q + 4 * i)) e)

pub run_is : (o : Order) (b : List ℕ) (k n off len start rest : ℕ) (x : Node) → x ≡ made o b k n → off < len
    → len ≡ file_size o b n → start ≡ block_start (pointer_of o b n (off / 4096))
    → rest ≡ min (len - off) (4096 - off % 4096)
    → IsRun (places_of x) off (record { place = start + off % 4096; len = rest })
run_is o b k n off len start rest x e lt el es er =
    let size : length (places_of x) ≡ len = ap (λ (y : Node). length (places_of y)) e ∙ made_length o b k n ∙ sym el in
    record {
      some = omega arith;
      within = omega arith;
      row = λ j v.
          let small : off + j < file_size o b n = omega arith in
          let q : (off + j) / 4096 ≡ off / 4096 = omega arith in
          let m : (off + j) % 4096 ≡ off % 4096 + j = omega arith in
          let place = made_place o b k n (off + j) small in
          let here : slice_index (places_of x) (off + j)
          ≡ block_start (pointer_of o b n (off / 4096)) + (off % 4096 + j) =
          ap (λ (y : Node). slice_index (places_of y) (off + j)) e ∙ place
          ∙ ap (λ (i : ℕ). block_start (pointer_of o b n i) + (off + j) % 4096) q
          ∙ ap (λ (i : ℕ). block_start (pointer_of o b n (off / 4096)) + i) m in
          omega arith;
    }

pub no_run : (o : Order) (b : List ℕ) (k n off len : ℕ) (x : Node) → x ≡ made o b k n → len ≤ off
    → len ≡ file_size o b n → length (places_of x) ≤ off
no_run o b k n off len x e le el =
    let size : length (places_of x) ≡ len = ap (λ (y : Node). length (places_of y)) e ∙ made_length o b k n ∙ sym el in
    omega arith

-- from the front on, all of a link's text is one run
pub run_whole : (o : Order) (b : List ℕ) (k n off len rest : ℕ) (x : Node) → x ≡ made o b k n → HasBody o b n
    → type_of o b n ≡ 10 → off ≡ 0 → len ≡ file_size o b n → rest ≡ min (len - off) (4096 - off % 4096)
    → rest ≡ length (places_of x)
run_whole o b k n off len rest x e h t z el er =
    let size : length (places_of x) ≡ len = ap (λ (y : Node). length (places_of y)) e ∙ made_length o b k n ∙ sym el in
    let s = link_data o b n t in
    let bound = (h.link_size t).1 in
    let m : off % 4096 ≡ 0 = omega arith in
    omega arith

-- a run ends with its block, or with the file
pub run_block : (o : Order) (b : List ℕ) (k n off len rest : ℕ) (x : Node) → x ≡ made o b k n → len ≡ file_size o b n
    → rest ≡ min (len - off) (4096 - off % 4096) → rest ≡ min (length (places_of x) - off) (4096 - off % 4096)
run_block o b k n off len rest x e el er =
    let size : length (places_of x) ≡ len = ap (λ (y : Node). length (places_of y)) e ∙ made_length o b k n ∙ sym el in
    er ∙ ap (λ (v : ℕ). min (v - off) (4096 - off % 4096)) (sym size)

pub has_index : (v : Option ℕ) → IsSome v → (i : ℕ) × (v ≡ Some i)
has_index None h = absurd (search rules)
has_index (Some i) h = (i, refl)

-- the meaning of a cursor
abbrev pub IsPlace : Order → List ℕ → ℕ → ℕ → ℕ → Type 0
IsPlace o b d c v = ((c ≡ 0) × (v ≡ list_start o b d)) ⊎ ((c ≢ 0) × (v ≡ c))

pub place_index : (o : Order) (b : List ℕ) (k d c v i : ℕ) → IsKnown o b k d → IsPlace o b d c v
    → cursor_of o b k d c ≡ Some i → index_at (list_end o b d) (list_at o b k d) v ≡ Some i
unfolding cursor_of list_at
place_index o b k d c v i known (inl h) e =
    let g : Some 0 ≡ Some i = (rw (eq-eqb c 0 h.0) at e) in
    rw h.1 (index_start o b (list_end o b d) (list_start o b d)
    (grow k o b (list_end o b d) (list_start o b d)) known.list.stands ∙ g)
place_index o b k d c v i known (inr h) e =
    rw h.1 (let g : index_at (list_end o b d) (grow k o b (list_end o b d) (list_start o b d)) c
    ≡ Some i = (rw (ne_eqb c 0 h.0) at e) in g)

-- the list from there on
pub list_from : (o : Order) (b : List ℕ) (k d v i : ℕ) → IsKnown o b k d
    → index_at (list_end o b d) (list_at o b k d) v ≡ Some i → IsList o b k (list_end o b d) v
unfolding list_at
list_from o b k d v i known e =
    list_there o b k (list_end o b d) (list_start o b d) v i
    (grow k o b (list_end o b d) (list_start o b d)) known.list.stands known.list.good known.list.few e

pub step_from : (o : Order) (b : List ℕ) (k d c v : ℕ) → IsKnown o b k d → IsPlace o b d c v
    → IsSome (cursor_of o b k d c) → v < list_end o b d → IsStep o b k (list_end o b d) v
step_from o b k d c v known p h l =
    let i = has_index (cursor_of o b k d c) h in
    step_of o b k (list_end o b d) v (list_from o b k d v i.0 known (place_index o b k d c v i.0 known p i.1)) l

pub no_entry : (o : Order) (b : List ℕ) (k d c v i : ℕ) (x : Node) → x ≡ made o b k d → type_of o b d ≡ 4
    → IsKnown o b k d → IsPlace o b d c v → cursor_of o b k d c ≡ Some i → list_end o b d ≤ v
    → entry_at (entries_of x) i ≡ None
unfolding list_at
no_entry o b k d c v i x e t known p h l =
    let at = place_index o b k d c v i known p h in
    let there = list_from o b k d v i known at in
    let rest = index_rest o b (list_end o b d) (list_start o b d) v i 0 (grow k o b (list_end o b d) (list_start o b d))
    (grow k o b (list_end o b d) v) known.list.stands there.stands at in
    let iz : i + 0 ≡ i = omega arith in
    let es : entries_of x ≡ entries_at o b (grow k o b (list_end o b d) (list_start o b d)) =
    ap entries_of e ∙ made_entries o b k d t in
    let end = list_done k o b (list_end o b d) v l in
    let g : entry_at (entries_at o b (grow k o b (list_end o b d) v)) 0 ≡ None = rw end refl in
    rw es (subst (λ (j : ℕ). entry_at (entries_at o b (grow k o b (list_end o b d) (list_start o b d))) j ≡ None) iz
    (rest ∙ g))

cursor_next : (o : Order) (b : List ℕ) (k d v i : ℕ) → IsKnown o b k d → v < list_end o b d
    → index_at (list_end o b d) (list_at o b k d) v ≡ Some i → cursor_of o b k d (end_of o b v) ≡ Some (i + 1)
unfolding cursor_of list_at
cursor_next o b k d v i known l e =
    let a = end_after o b v in
    let n : end_of o b v ≢ 0 = λ z. omega arith in
    let one : suc i ≡ i + 1 = omega arith in
    rw (ne_eqb (end_of o b v) 0 n) (index_next o b (list_end o b d) (list_start o b d) v i
    (grow k o b (list_end o b d) (list_start o b d)) known.list.stands l e ∙ ap Some one)

-- the entry that is there
pub entry_here : (o : Order) (bytes b : List ℕ) (k : ℕ) (s : IsCramfs o b k) (w : length b ≤ length bytes)
    (d c v i next : ℕ) (name : List ℕ) (x : Node) → b ≡ take (length b) bytes → x ≡ made o b k d → type_of o b d ≡ 4
    → IsKnown o b k d
    → IsPlace o b d c v → cursor_of o b k d c ≡ Some i → v < list_end o b d → name ≡ name_of o b v → next ≡ end_of o b v
    → IsEntry (cramfs_view o bytes b k s w) d (entries_of x) i name v next
unfolding list_at
entry_here o bytes b k s w d c v i next name x f e t known p h l en ex =
    let at = place_index o b k d c v i known p h in
    let there = list_from o b k d v i known at in
    let st = step_of o b k (list_end o b d) v there l in
    let target = node_of o b v (entries_at o b (grow k o b (list_end o b v) (list_start o b v))) in
    let rest = index_rest o b (list_end o b d) (list_start o b d) v i 0 (grow k o b (list_end o b d) (list_start o b d))
    (grow k o b (list_end o b d) v) known.list.stands there.stands at in
    let iz : i + 0 ≡ i = omega arith in
    let es : entries_of x ≡ entries_at o b (grow k o b (list_end o b d) (list_start o b d)) =
    ap entries_of e ∙ made_entries o b k d t in
    let g : entry_at (entries_at o b (grow k o b (list_end o b d) v)) 0 ≡ Some (name_of o b v, target) =
    rw (st.is) refl in
    let here : entry_at (entries_at o b (grow k o b (list_end o b d) (list_start o b d))) i
    ≡ Some (name_of o b v, target) =
    subst (λ (j : ℕ). entry_at (entries_at o b (grow k o b (list_end o b d) (list_start o b d))) j
    ≡ Some (name_of o b v, target)) iz (rest ∙ g) in
    record {
      target = target;
      at = rw (es, en) here;
      number = ino_is o b v (entries_at o b (grow k o b (list_end o b v) (list_start o b v)));
      next = ap (cursor_of o b k d) ex ∙ cursor_next o b k d v i known l at;
      lies = subst (LieIn bytes) (sym en) (name_lies o bytes b v f w st.good.name);
    }

-- lookup: past an entry of another name
pub passed : (o : Order) (b : List ℕ) (k e q next : ℕ) (name found : List ℕ) → IsStep o b k e q → next ≡ end_of o b q
    → found ≡ name_of o b q → bytes_eq found name ≡ false
    → find_entry (entries_at o b (grow k o b e q)) name ≡ find_entry (entries_at o b (grow k o b e next)) name
passed o b k e q next name found st en f n =
    let n' : bytes_eq (name_of o b q) name ≡ false = sym (ap (λ (x : List ℕ). bytes_eq x name) f) ∙ n in
    rw (en, st.is, n') refl

pub found_here : (o : Order) (b : List ℕ) (k q d : ℕ) (name found : List ℕ) (x : Node) → x ≡ made o b k d
    → type_of o b d ≡ 4 → IsStep o b k (list_end o b d) q → found ≡ name_of o b q → bytes_eq found name ≡ true
    → find_entry (entries_at o b (list_at o b k d)) name
    ≡ find_entry (entries_at o b (grow k o b (list_end o b d) q)) name
    → (y : Node) × (find_entry (entries_of x) name ≡ Some y) × (ino_of y ≡ q)
found_here o b k q d name found x e t st f m h =
    let m' : bytes_eq (name_of o b q) name ≡ true = sym (ap (λ (x : List ℕ). bytes_eq x name) f) ∙ m in
    let es : entries_of x ≡ entries_at o b (list_at o b k d) = ap entries_of e ∙ made_entries o b k d t in
    let y = node_of o b q (entries_at o b (grow k o b (list_end o b q) (list_start o b q))) in
    let z : find_entry (entries_at o b (grow k o b (list_end o b d) q)) name ≡ Some y = rw (st.is, m') refl in
    (y, rw es (h ∙ z), ino_is o b q (entries_at o b (grow k o b (list_end o b q) (list_start o b q))))

pub found_none : (o : Order) (b : List ℕ) (k q d : ℕ) (name : List ℕ) (x : Node) → x ≡ made o b k d → type_of o b d ≡ 4
    → list_end o b d ≤ q
    → find_entry (entries_at o b (list_at o b k d)) name
    ≡ find_entry (entries_at o b (grow k o b (list_end o b d) q)) name → find_entry (entries_of x) name ≡ None
found_none o b k q d name x e t l h =
    let es : entries_of x ≡ entries_at o b (list_at o b k d) = ap entries_of e ∙ made_entries o b k d t in
    let g : find_entry (entries_at o b (grow k o b (list_end o b d) q)) name ≡ None =
    rw (list_done k o b (list_end o b d) q l) refl in
    rw es (h ∙ g)
