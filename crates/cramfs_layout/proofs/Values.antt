-- The node of an entry has the file's values.
use Rattle.std.proofs.Common.{◌≡◌, ◌≢◌, ℕ, zero, suc, ◌+◌, ◌-◌, ◌*◌, ◌/◌, ◌%◌, ◌^◌, ◌<◌, ◌≤◌, min, List, [], ◌∷◌, ◌++◌}
use Rattle.std.proofs.Common.{length, map, drop, get_or, refl, sym, ap, subst, ◌∙◌, arith, inl, inr}
use Rattle.std.proofs.lemmas.Bool.Decides.{eqb_tells}
use Rattle.std.proofs.lemmas.List.{drop-drop, get_or-drop, append-nil}
use Rattle.rom_tree.specs.declared.types.Kind.{Kind}
use Rattle.rom_tree.specs.declared.types.Kind.TheVariants.{Directory, Regular, Symlink, Block, Character, Socket, Fifo}
use Rattle.rom_tree.specs.Tree.{Entries}
use Rattle.cramfs_format.specs.Order.{word}
use Rattle.cramfs_format.specs.declared.order.Order.{Order}
use Rattle.cramfs_format.specs.Inode.{type_of, size_of, offset_of, mode_of, uid_of, gid_of, block_count, block_start}
use Rattle.cramfs_format.specs.Tree.{node_of, attributes_at, places_at, blocks_from, by_type, kind_numbers, kind_named}
use Rattle.rom_tree.specs.Tree.{row_from}
use Rattle.rom_tree.proofs.ByKind.{body_kind_is, body_places_is}
use Rattle.rom_fields.specs.Parts.{HasAt}
use Rattle.manifest_tree.specs.Names.{no_bytes, Inode, bytes_of}
use Rattle.manifest_tree.specs.Shape.{Value, node_value, file_value}
use Rattle.cramfs_layout.specs.Layout.{type_bits, size_by}
use Rattle.cramfs_layout.specs.Wells.{FitsKind, IsFile, IsStored}
use Rattle.cramfs_layout.proofs.Sound.{pointer_at, pointer_says}

same_value : (x y : Value) → x.kind ≡ y.kind → x.mode ≡ y.mode → x.uid ≡ y.uid → x.gid ≡ y.gid → x.major ≡ y.major
    → x.minor ≡ y.minor → x.bytes ≡ y.bytes → x ≡ y
same_value x y a c d e f g h =
    λ t. record { kind = a t; mode = c t; uid = d t; gid = e t; major = f t; minor = g t; bytes = h t }

-- the bytes from an offset on
row_bytes : (v : List ℕ) (p : ℕ) (bytes : List ℕ) → HasAt v p bytes
    → map (λ q. get_or v q 0) (row_from p (length bytes)) ≡ bytes
row_bytes v p [] h = refl
row_bytes v p (x ∷ xs) (back, e) =
    let here : get_or v p 0 ≡ x = ap (λ (q : ℕ). get_or v q 0) (let z : p ≡ p + 0 = omega arith in z)
    ∙ sym (get_or-drop p v 0 0) ∙ ap (λ (ys : List ℕ). get_or ys 0 0) e in
    let next : HasAt v (p + 1) xs = (back, sym (drop-drop 1 p v) ∙ ap (drop 1) e) in
    let later = row_bytes v (p + 1) xs next in
    cc

row_join : (p a c : ℕ) → row_from p a ++ row_from (p + a) c ≡ row_from p (a + c)
row_join p zero c = ap (λ (q : ℕ). row_from q c) (let z : p + 0 ≡ p = omega arith in z)
    ∙ ap (row_from p) (let z : c ≡ 0 + c = omega arith in z)
row_join p (suc a) c =
    let e : p + suc a ≡ p + 1 + a = omega arith in
    let f : suc (a + c) ≡ suc a + c = omega arith in
    ap (λ (q : ℕ). p ∷ (row_from (p + 1) a ++ row_from q c)) e ∙ ap (λ (xs : List ℕ). p ∷ xs) (row_join (p + 1) a c)
    ∙ ap (row_from p) f

-- blocks without gaps are one run of offsets
pub one_run : (o : Order) (b : List ℕ) (k q p size : ℕ) → size ≤ 4096 * k
    → ((i : ℕ) → i < k → block_start (word o b (q + 4 * i)) ≡ p + 4096 * i)
    → blocks_from o b k q size ≡ row_from p size
one_run o b zero q p size l f = let z : 0 ≡ size = omega arith in ap (row_from p) z
one_run o b (suc k) q p size l f =
    let e : q + 4 * 0 ≡ q = omega arith in
    let here : block_start (word o b q) ≡ p =
    ap (λ (v : ℕ). block_start (word o b v)) (sym e) ∙ (f 0 (omega arith) ∙ omega arith) in
    let rest = one_run o b k (q + 4) (p + 4096) (size - 4096) (omega arith)
    (λ i m. let s : q + 4 + 4 * i ≡ q + 4 * suc i = omega arith in ap (λ (v : ℕ). block_start (word o b v)) s
    ∙ (f (suc i) (omega arith) ∙ omega arith)) in
    let m = min 4096 size in
    ap (λ (v : ℕ). row_from v m ++ blocks_from o b k (q + 4) (size - 4096)) here
    ∙ ap (λ (xs : List ℕ). row_from p m ++ xs) rest ∙ (elim (eqb_tells (size - 4096) 0) [
      | inl z ↦ let y = z.1 in let w : m ≡ size =
          omega (arith, y) in ap (λ (n : ℕ). row_from p m ++ row_from (p + 4096) n) z.1 ∙ append-nil (row_from p m)
          ∙ ap (row_from p) w
      | inr z ↦ let y =
          z.1 in let w : m ≡ 4096 = omega (arith, y) in let u : 4096 + (size - 4096) ≡ size = omega (arith, y) in
          ap (λ (n : ℕ). row_from p n ++ row_from (p + 4096) (size - 4096)) w ∙ row_join p 4096 (size - 4096)
          ∙ ap (row_from p) u
    ])

-- the entry at p is that of the file i
pub record IsAt (o : Order) (b : List ℕ) (cs : List (List ℕ)) (high : ℕ) (i : Inode) (p : ℕ) : Type 0 where
  pub type : type_of o b p ≡ type_bits i.kind
  pub mode : mode_of o b p % 4096 ≡ i.mode
  pub uid : uid_of o b p ≡ i.uid
  pub gid : gid_of o b p ≡ i.gid
  pub size_is : i.kind ≢ Directory → size_of o b p ≡ size_by i.kind i
  pub content : i.kind ≢ Directory → 0 < i.size → IsStored o b (bytes_of cs i.fill) high (offset_of o b p)

numbers_by : (k : Kind) (i : Inode) (w : ℕ) → FitsKind k i → w ≡ size_by k i
    → (by_type (type_bits k) 0 0 0 (w / 256) (w / 256) 0 0 ≡ i.major)
    × (by_type (type_bits k) 0 0 0 (w % 256) (w % 256) 0 0 ≡ i.minor)
numbers_by Directory i w h e = absurd h
numbers_by Regular i w h e = (sym h.0, sym h.1)
numbers_by Symlink i w h e = (sym h.0, sym h.1)
numbers_by Block i w h e = let m = h.1 in (omega (arith, e, m), omega (arith, e, m))
numbers_by Character i w h e = let m = h.1 in (omega (arith, e, m), omega (arith, e, m))
numbers_by Socket i w h e = (sym h.0, sym h.1)
numbers_by Fifo i w h e = (sym h.0, sym h.1)

named_by : (k : Kind) → kind_named (type_bits k) ≡ k
named_by Directory = refl
named_by Regular = refl
named_by Symlink = refl
named_by Block = refl
named_by Character = refl
named_by Socket = refl
named_by Fifo = refl

bytes_by : (k : Kind) (cs : List (List ℕ)) (i : Inode) (v ps : List ℕ) → FitsKind k i
    → (size_by k i ≡ i.size → map (λ q. get_or v q 0) ps ≡ bytes_of cs i.fill)
    → map (λ q. get_or v q 0) (by_type (type_bits k) [] ps ps [] [] [] []) ≡ bytes_of cs i.fill
bytes_by Directory cs i v ps h e = absurd h
bytes_by Regular cs i v ps h e = e refl
bytes_by Symlink cs i v ps h e = e refl
bytes_by Block cs i v ps h e = sym (ap (bytes_of cs) h.2)
bytes_by Character cs i v ps h e = sym (ap (bytes_of cs) h.2)
bytes_by Socket cs i v ps h e = sym (ap (bytes_of cs) h.2)
bytes_by Fifo cs i v ps h e = sym (ap (bytes_of cs) h.2)

not_directory : (k : Kind) (i : Inode) → FitsKind k i → k ≢ Directory
not_directory Directory i h = absurd h
not_directory Regular i h = λ e. absurd (let n = ap type_bits e in omega (arith, n))
not_directory Symlink i h = λ e. absurd (let n = ap type_bits e in omega (arith, n))
not_directory Block i h = λ e. absurd (let n = ap type_bits e in omega (arith, n))
not_directory Character i h = λ e. absurd (let n = ap type_bits e in omega (arith, n))
not_directory Socket i h = λ e. absurd (let n = ap type_bits e in omega (arith, n))
not_directory Fifo i h = λ e. absurd (let n = ap type_bits e in omega (arith, n))

-- the bytes of a stored file
stored_bytes : (o : Order) (b bytes : List ℕ) (high t size : ℕ) → high ≤ 2 ^ 28 → length bytes ≡ size
    → (0 < size → IsStored o b bytes high t)
    → map (λ q. get_or b q 0) (blocks_from o b (block_count size) t size) ≡ bytes
stored_bytes o b bytes high t zero top l f =
    ap (map (λ q. get_or b q 0)) (one_run o b 0 t 0 0 (omega arith) (λ i m. absurd (omega arith)))
    ∙ sym (nil_by bytes l)
  where
    nil_by : (xs : List ℕ) → length xs ≡ 0 → xs ≡ []
    nil_by [] e = refl
    nil_by (x ∷ xs) e = absurd (omega (arith, e))
stored_bytes o b bytes high t (suc n) top l f =
    let st = f (omega arith) in
    let within = st.within in
    let even = st.place_even in
    let k = block_count (length bytes) in
    let run = one_run o b k t st.place (length bytes) (omega arith)
    (λ i m. (pointer_says (word o b (t + 4 * i)) (st.place + 4096 * i)
    (pointer_at o b t st.place k i (omega arith) m st.table) (omega arith) (omega arith)).1) in
    subst (λ (m : ℕ). map (λ q. get_or b q 0) (blocks_from o b (block_count m) t m) ≡ bytes) l
    (ap (map (λ q. get_or b q 0)) run ∙ row_bytes b st.place bytes st.content)

pub file_is : (o : Order) (b : List ℕ) (cs : List (List ℕ)) (high : ℕ) (i : Inode) (p : ℕ) (es : Entries)
    → high ≤ 2 ^ 28 → IsFile cs i → IsAt o b cs high i p → node_value b (node_of o b p es) ≡ file_value cs i
unfolding node_value file_value node_of attributes_at places_at
file_is o b cs high i p es top h a =
    let t = a.type in
    let other = not_directory i.kind i h.kind in
    let s = a.size_is other in
    let ps = blocks_from o b (block_count (size_of o b p)) (offset_of o b p) (size_of o b p) in
    let numbers = numbers_by i.kind i (size_of o b p) h.kind s in
    same_value (node_value b (node_of o b p es)) (file_value cs i)
    (body_kind_is kind_numbers (type_of o b p) ps es ∙ ap kind_named t ∙ named_by i.kind) a.mode a.uid a.gid
    (ap (λ (k : ℕ). by_type k 0 0 0 (size_of o b p / 256) (size_of o b p / 256) 0 0) t ∙ numbers.0)
    (ap (λ (k : ℕ). by_type k 0 0 0 (size_of o b p % 256) (size_of o b p % 256) 0 0) t ∙ numbers.1)
    (ap (map (λ q. get_or b q 0)) (body_places_is kind_numbers (type_of o b p) ps es)
    ∙ ap (λ (k : ℕ). map (λ q. get_or b q 0) (by_type k [] ps ps [] [] [] [])) t
    ∙ bytes_by i.kind cs i b ps h.kind
    (λ e. subst (λ (m : ℕ). map (λ q. get_or b q 0) (blocks_from o b (block_count m) (offset_of o b p) m)
    ≡ bytes_of cs i.fill) (sym (s ∙ e))
    (stored_bytes o b (bytes_of cs i.fill) high (offset_of o b p) i.size top h.bytes (a.content other))))

pub directory_is : (o : Order) (b : List ℕ) (cs : List (List ℕ)) (high : ℕ) (i : Inode) (p : ℕ) (es : Entries)
    → i.kind ≡ Directory → (i.major ≡ 0) × (i.minor ≡ 0) → i.fill ≡ no_bytes → IsAt o b cs high i p
    → node_value b (node_of o b p es) ≡ file_value cs i
unfolding node_value file_value node_of attributes_at places_at
directory_is o b cs high i p es kind numbers none a =
    let t : type_of o b p ≡ 4 = a.type ∙ ap type_bits kind in
    let ps = blocks_from o b (block_count (size_of o b p)) (offset_of o b p) (size_of o b p) in
    same_value (node_value b (node_of o b p es)) (file_value cs i)
    (body_kind_is kind_numbers (type_of o b p) ps es ∙ ap kind_named t ∙ sym kind) a.mode a.uid a.gid
    (ap (λ (k : ℕ). by_type k 0 0 0 (size_of o b p / 256) (size_of o b p / 256) 0 0) t ∙ sym numbers.0)
    (ap (λ (k : ℕ). by_type k 0 0 0 (size_of o b p % 256) (size_of o b p % 256) 0 0) t ∙ sym numbers.1)
    (ap (map (λ q. get_or b q 0)) (body_places_is kind_numbers (type_of o b p) ps es)
    ∙ ap (λ (k : ℕ). map (λ q. get_or b q 0) (by_type k [] ps ps [] [] [] [])) t ∙ sym (ap (bytes_of cs) none))
