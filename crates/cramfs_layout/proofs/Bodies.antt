-- Each entry of a layout is valid.
use Rattle.std.proofs.Common.{◌≡◌, ◌≢◌, ℕ, ◌+◌, ◌*◌, ◌^◌, ◌<◌, ◌≤◌, true, false, List, length, refl, sym, ap, subst}
use Rattle.std.proofs.Common.{◌∙◌, arith}
use Rattle.std.proofs.lemmas.Bool.{false≢true}
use Rattle.std.proofs.lemmas.List.Elements.{All-contains, All-from_recursion}
use Rattle.std.specs.List.{AllByRecursion as Every, Contains}
use Rattle.rom_tree.specs.declared.types.Kind.{Kind}
use Rattle.rom_tree.specs.declared.types.Kind.TheVariants.{Directory, Regular, Symlink, Block, Character, Socket, Fifo}
use Rattle.record_forest.specs.declared.reference.Reference.{Reference}
use Rattle.record_forest.specs.declared.reference.Row.{Row}
use Rattle.record_forest.specs.Forest.{rows}
use Rattle.record_forest.proofs.Lists.{every_join}
use Rattle.cramfs_format.specs.Order.{word}
use Rattle.cramfs_format.specs.declared.order.Order.{Order}
use Rattle.cramfs_format.specs.Inode.{type_of, size_of, offset_of, end_of, name_of, list_start, list_end, is_kind}
use Rattle.cramfs_format.specs.Inode.{has_data, block_start, is_direct, pointer_place, has_kinds, HasBody, IsName}
use Rattle.cramfs_format.specs.Inode.{IsSound}
use Rattle.cramfs_format.specs.Refers.{references, LeadsToSound}
use Rattle.manifest_tree.specs.Names.{Inode, Names, nothing, leaf, link, subdirectory, bytes_of}
use Rattle.manifest_tree.specs.Lists.{IsName as IsWritten}
use Rattle.cramfs_layout.specs.Layout.{pad4, type_bits, size_by, entry_len, list_len, list_offset, State, kept}
use Rattle.cramfs_layout.specs.Layout.{table_by, after_file, after_list, after_names}
use Rattle.cramfs_layout.specs.Wells.{FitsKind, AreWell, AllRead}
use Rattle.cramfs_layout.specs.Forest.{spots}
use Rattle.cramfs_layout.proofs.Stored.{file_onward, names_onward}
use Rattle.cramfs_layout.proofs.Stands.{empty, at_place, is_placed, directory_list}
use Rattle.cramfs_layout.proofs.Sound.{IsTable, table_is}

-- a file with data, or a link
data_body : (o : Order) (b : List ℕ) (p size t : ℕ) → is_kind (type_of o b p) ≡ true → type_of o b p ≢ 4
    → (type_of o b p ≡ 10 → (1 ≤ size) × (size ≤ 4095)) → size_of o b p ≡ size → offset_of o b p ≡ t
    → (0 < size → IsTable o b t size) → has_kinds (word o b 8) ≡ true → HasBody o b p
unfolding pointer_place
data_body o b p size t kind other sized s e table flag = record {
  kind = kind;
  link_size = λ z. let l = sized z in (omega (arith, s, l.0), omega (arith, s, l.1));
  list = λ z. absurd (other z);
  table = λ _ k. let x = table (omega (arith, s, k)) in let a = x.table.0 in let c =
      x.table.1 in (omega (arith, e, a), omega (arith, e, s, c));
  plain = λ _ i k. let x = table (omega (arith, s, k)) in
      (flag, subst (λ (v : ℕ). is_direct (word o b (v + 4 * i)) ≡ true) (sym e) (x.each i (omega (arith, s, k))).0);
  blocks = λ _ i k. λ m.
      let x = table (omega (arith, s, k)) in
      let y : block_start (word o b (offset_of o b p + 4 * i)) ≡ x.place + 4096 * i =
      subst (λ (v : ℕ). block_start (word o b (v + 4 * i)) ≡ x.place + 4096 * i) (sym e)
      (x.each i (omega (arith, s, k))).1 in
      let a = x.blocks.0 in
      let c = x.blocks.1 in
      (omega (arith, y, a), omega (arith, y, c, s, k));
}

-- one without
bare_body : (o : Order) (b : List ℕ) (p : ℕ) → is_kind (type_of o b p) ≡ true → type_of o b p ≢ 4 → type_of o b p ≢ 10
    → has_data (type_of o b p) ≡ false → HasBody o b p
bare_body o b p kind other sized bare = record {
  kind = kind;
  link_size = λ z. absurd (sized z);
  list = λ z. absurd (other z);
  table = λ z. absurd (false≢true (sym bare ∙ z));
  plain = λ z. absurd (false≢true (sym bare ∙ z));
  blocks = λ z. absurd (false≢true (sym bare ∙ z));
}

body_by : (k : Kind) (o : Order) (b : List ℕ) (p t : ℕ) (i : Inode) → FitsKind k i → type_of o b p ≡ type_bits k
    → size_of o b p ≡ size_by k i → offset_of o b p ≡ t → (0 < i.size → IsTable o b t i.size)
    → has_kinds (word o b 8) ≡ true → HasBody o b p
body_by Directory o b p t i h ty s e table flag = absurd h
body_by Regular o b p t i h ty s e table flag =
    data_body o b p i.size t (rw ty refl) (λ z. absurd (omega (arith, ty, z)))
    (λ z. absurd (omega (arith, ty, z))) s e table flag
body_by Symlink o b p t i h ty s e table flag =
    data_body o b p i.size t (rw ty refl) (λ z. absurd (omega (arith, ty, z))) (λ z. (h.2, h.3)) s e table flag
body_by Block o b p t i h ty s e table flag =
    bare_body o b p (rw ty refl) (λ z. absurd (omega (arith, ty, z))) (λ z. absurd (omega (arith, ty, z))) (rw ty refl)
body_by Character o b p t i h ty s e table flag =
    bare_body o b p (rw ty refl) (λ z. absurd (omega (arith, ty, z))) (λ z. absurd (omega (arith, ty, z))) (rw ty refl)
body_by Socket o b p t i h ty s e table flag =
    bare_body o b p (rw ty refl) (λ z. absurd (omega (arith, ty, z))) (λ z. absurd (omega (arith, ty, z))) (rw ty refl)
body_by Fifo o b p t i h ty s e table flag =
    bare_body o b p (rw ty refl) (λ z. absurd (omega (arith, ty, z))) (λ z. absurd (omega (arith, ty, z))) (rw ty refl)

directory_body : (o : Order) (b : List ℕ) (p offset size : ℕ) → type_of o b p ≡ 4 → offset_of o b p ≡ offset
    → size_of o b p ≡ size → (0 < size → (76 ≤ offset) × (offset + size ≤ length b)) → HasBody o b p
directory_body o b p offset size ty e s lies = record {
  kind = rw ty refl;
  link_size = λ z. absurd (omega (arith, ty, z));
  list = λ _ k. let l =
      lies (omega (arith, s, k)) in let a = l.0 in let c = l.1 in (omega (arith, e, a), omega (arith, e, s, c));
  table = λ z. absurd (false≢true (sym (bare_of p ty) ∙ z));
  plain = λ z. absurd (false≢true (sym (bare_of p ty) ∙ z));
  blocks = λ z. absurd (false≢true (sym (bare_of p ty) ∙ z));
} where
  bare_of : (p : ℕ) → type_of o b p ≡ 4 → has_data (type_of o b p) ≡ false
  bare_of p ty = rw ty refl

every_contains : (xs : List ℕ) → Every (λ x. x ≢ 0) xs → Contains xs 0 → ⊥
every_contains xs h c = All-contains (λ x. x ≢ 0) xs 0 (All-from_recursion (λ x. x ≢ 0) xs h) c refl

is_name : (o : Order) (b : List ℕ) (p : ℕ) (name : List ℕ) → name_of o b p ≡ name → IsWritten name
    → IsName (name_of o b p)
is_name o b p name e w =
    subst IsName (sym e) (record { some = w.named; no_zero = every_contains name w.no_zero; no_slash = w.no_slash })

-- each row of a list is valid, if the reference to it is the pair of directory and offset
pub all_sound : (o : Order) (b : List ℕ) (cs : List (List ℕ)) (high : ℕ) (x : Reference) (d up depth l : ℕ) (s : State)
    (n : Names)
    → AreWell cs n → AllRead o b cs high l s n → has_kinds (word o b 8) ≡ true
    → high ≤ length b → high ≤ 2 ^ 28 → (after_names s n).at ≤ high → 76 ≤ s.at → x.source ≡ d → x.which ≡ l → d ≢ 0
    → 0 < l → list_end o b d ≡ l + list_len n
    → Every (λ (y : Row). LeadsToSound o b y.reference) (rows (references o b) x d up depth (spots l s n))
unfolding list_start
all_sound o b cs high x d up depth l s nothing h r flag within top fits low xs xw live pos e = tt
all_sound o b cs high x d up depth l s (leaf name i rest) h r flag within top fits low xs xw live pos e =
    let g = references o b in
    let l' = l + entry_len name in
    let s' = after_file s i in
    let a = file_onward cs s i h.1 in
    let t = table_by (kept s.tables i) s.at in
    let bytes = bytes_of cs i.fill in
    let len = h.1.bytes in
    let table : 0 < i.size → IsTable o b t i.size =
    λ k. subst (λ (m : ℕ). IsTable o b t m) len
    (table_is o b bytes high t within top (omega (arith, len, k)) (r.1 k)) in
    let body = body_by i.kind o b l t i h.1.kind r.0.type r.0.size_is r.0.offset_is table flag in
    let end = r.0.end in
    let sound : IsSound o b (list_end o b d) l =
    record {
      fits = (omega (arith, e), omega (arith, e, end));
      name = is_name o b l name r.0.name_is h.0.0.written;
      body = body;
    } in
    let next_which : (g.after x).which ≡ l' = ap (end_of o b) xw ∙ end in (
      record {
        root = λ z. absurd (live (sym xs ∙ z));
        entry = λ _. subst (λ (v : ℕ). IsSound o b (list_end o b v) x.which) (sym xs)
            (subst (λ (v : ℕ). IsSound o b (list_end o b d) v) (sym xw) sound);
      },
      all_sound o b cs high (g.after x) d up depth l' s' rest h.2 r.2 flag within top fits
          (omega (arith, a)) xs next_which live (omega arith) (omega (arith, e)),
    )
all_sound o b cs high x d up depth l s (link name i rest) h r flag within top fits low xs xw live pos e = absurd h
all_sound o b cs high x d up depth l s (subdirectory name i own rest) h r flag within top fits low xs xw live pos e =
    let g = references o b in
    let l' = l + entry_len name in
    let q = pad4 s.at in
    let s1 = after_list s own in
    let s' = after_names s1 own in
    let a = names_onward cs s1 own h.2 in
    let c = names_onward cs s' rest h.3 in
    let end = r.0.end in
    let type = r.0.type ∙ ap type_bits h.1.kind in
    let list = directory_list o b l (list_offset s.at own) (list_len own) type r.0.offset_is r.0.size_is in
    let lies : 0 < list_len own → (76 ≤ list_offset s.at own) × (list_offset s.at own + list_len own ≤ length b) =
    λ k. elim (is_placed s.at own) [
      | empty z ↦ let y : list_len own ≡ 0 = ap list_len z in absurd (omega (arith, k, y))
      | at_place z ↦ (omega (arith, z), omega (arith, z, a, c, fits, within))
    ] in
    let sound : IsSound o b (list_end o b d) l =
    record {
      fits = (omega (arith, e), omega (arith, e, end));
      name = is_name o b l name r.0.name_is h.0.0.written;
      body = directory_body o b l (list_offset s.at own) (list_len own) type r.0.offset_is r.0.size_is lies;
    } in
    let next_which : (g.after x).which ≡ l' = ap (end_of o b) xw ∙ end in
    let own_which : (g.own x).which ≡ list_offset s.at own = ap (offset_of o b) xw ∙ r.0.offset_is in
    let mine : Every (λ (y : Row). LeadsToSound o b y.reference) (rows g (g.own x) l d (depth + 1) (spots q s1 own)) =
    elim (is_placed s.at own) [
      | empty z ↦ subst (λ (m : Names). Every (λ (y : Row). LeadsToSound o b y.reference)
          (rows g (g.own x) l d (depth + 1) (spots q (after_list s m) m))) (sym z) tt
      | at_place z ↦ all_sound o b cs high (g.own x) l d (depth + 1) q s1 own h.2 r.1 flag within top
          (omega (arith, c, fits)) (omega arith) xw (own_which ∙ z) (λ y. absurd (omega (arith, pos, y))) (omega arith)
          (omega (arith, list, z))
    ] in (
      record {
        root = λ z. absurd (live (sym xs ∙ z));
        entry = λ _. subst (λ (v : ℕ). IsSound o b (list_end o b v) x.which) (sym xs)
            (subst (λ (v : ℕ). IsSound o b (list_end o b d) v) (sym xw) sound);
      },
      every_join (λ (y : Row). LeadsToSound o b y.reference) (rows g (g.own x) l d (depth + 1) (spots q s1 own))
          (rows g (g.after x) d up depth (spots l' s' rest)) mine
          (all_sound o b cs high (g.after x) d up depth l' s' rest h.3 r.2 flag within top fits
          (omega (arith, a)) xs next_which live (omega arith) (omega (arith, e))),
    )
