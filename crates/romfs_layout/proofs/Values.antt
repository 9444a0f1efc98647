-- The node of a file's record has the file's values.
use Rattle.std.proofs.Common.{◌≡◌, ℕ, ◌+◌, ◌*◌, ◌/◌, ◌%◌, List, [], ◌∷◌, length, map, drop, get_or, refl, sym, ap, ◌∙◌}
use Rattle.std.proofs.Common.{arith}
use Rattle.std.proofs.lemmas.List.{drop-drop, get_or-drop}
use Rattle.rom_fields.specs.Words.{word_be}
use Rattle.rom_tree.specs.declared.types.Kind.{Kind}
use Rattle.rom_tree.specs.declared.types.Kind.TheVariants.{Directory, Regular, Symlink, Block, Character, Socket, Fifo}
use Rattle.rom_tree.specs.Tree.{Entries}
use Rattle.romfs_format.specs.Record.{type_of, size_of, end_of}
use Rattle.romfs_format.specs.Tree.{node_of, attributes_at, places_at, by_type, kind_numbers, kind_named, mode_named}
use Rattle.romfs_format.specs.Tree.{executable}
use Rattle.rom_tree.specs.Tree.{row_from}
use Rattle.rom_tree.proofs.ByKind.{body_kind_is, body_places_is}
use Rattle.rom_fields.specs.Parts.{HasAt}
use Rattle.manifest_tree.specs.Names.{Inode, bytes_of}
use Rattle.romfs_layout.specs.Layout.{number_of, device_of}
use Rattle.romfs_layout.specs.Wells.{FitsKind, IsFile, IsDirectory}
use Rattle.manifest_tree.specs.Shape.{Value, node_value, file_value}
use Rattle.romfs_layout.proofs.Files.{IsAt, file_kind}

same_value : (x y : Value) → x.kind ≡ y.kind → x.mode ≡ y.mode → x.uid ≡ y.uid → x.gid ≡ y.gid → x.major ≡ y.major
    → x.minor ≡ y.minor → x.bytes ≡ y.bytes → x ≡ y
same_value x y a c d e f g h =
    λ t. record { kind = a t; mode = c t; uid = d t; gid = e t; major = f t; minor = g t; bytes = h t }

-- the bytes from an offset on
row_bytes : (v : List ℕ) (p : ℕ) (bytes : List ℕ) → HasAt v p bytes
    → map (λ q. get_or v q 0) (row_from p (length bytes)) ≡ bytes
row_bytes v p [] h = refl
row_bytes v p (x ∷ xs) (back, e) =
    let here : get_or v p 0 ≡ x = ap (λ (q : ℕ). get_or v q 0) (let z : p ≡ p + 0 = omega arith in z)
    ∙ sym (get_or-drop p v 0 0) ∙ ap (λ (ys : List ℕ). get_or ys 0 0) e in
    let next : HasAt v (p + 1) xs = (back, sym (drop-drop 1 p v) ∙ ap (drop 1) e) in
    let later = row_bytes v (p + 1) xs next in
    cc

-- the numbers of a device
numbers_by : (k : Kind) (i : Inode) (w : ℕ) → FitsKind k i → w ≡ i.major * 65536 + i.minor
    → (by_type (number_of k) 0 0 0 (w / 65536) (w / 65536) 0 0 ≡ i.major)
    × (by_type (number_of k) 0 0 0 (w % 65536) (w % 65536) 0 0 ≡ i.minor)
numbers_by Directory i w h e = absurd h
numbers_by Regular i w h e = (sym h.0, sym h.1)
numbers_by Symlink i w h e = (sym h.0, sym h.1)
numbers_by Block i w h e = let m = h.1 in (omega (arith, e, m), omega (arith, e, m))
numbers_by Character i w h e = let m = h.1 in (omega (arith, e, m), omega (arith, e, m))
numbers_by Socket i w h e = (sym h.0, sym h.1)
numbers_by Fifo i w h e = (sym h.0, sym h.1)

named_by : (k : Kind) → kind_named (number_of k) ≡ k
named_by Directory = refl
named_by Regular = refl
named_by Symlink = refl
named_by Block = refl
named_by Character = refl
named_by Socket = refl
named_by Fifo = refl

-- the bytes that a file of a kind has
bytes_by : (k : Kind) (cs : List (List ℕ)) (i : Inode) (v ps : List ℕ) → FitsKind k i
    → map (λ q. get_or v q 0) ps ≡ bytes_of cs i.fill
    → map (λ q. get_or v q 0) (by_type (number_of k) [] ps ps [] [] [] []) ≡ bytes_of cs i.fill
bytes_by Directory cs i v ps h e = absurd h
bytes_by Regular cs i v ps h e = e
bytes_by Symlink cs i v ps h e = e
bytes_by Block cs i v ps h e = sym (ap (bytes_of cs) h.2)
bytes_by Character cs i v ps h e = sym (ap (bytes_of cs) h.2)
bytes_by Socket cs i v ps h e = sym (ap (bytes_of cs) h.2)
bytes_by Fifo cs i v ps h e = sym (ap (bytes_of cs) h.2)

pub file_is : (v b : List ℕ) (cs : List (List ℕ)) (i : Inode) (p : ℕ) (es : Entries)
    → ((q : ℕ) (bytes : List ℕ) → HasAt b q bytes → HasAt v q bytes) → IsFile cs i → IsAt b cs i p
    → node_value v (node_of b p es) ≡ file_value cs i
unfolding node_value file_value node_of attributes_at places_at device_of
file_is v b cs i p es moved h a =
    let t = a.kind in
    let other = file_kind cs i h in
    let ps = row_from (end_of b p) (size_of b p) in
    let numbers = numbers_by i.kind i (word_be b (p + 4)) h.kind (a.numbers other) in
    let size : size_of b p ≡ length (bytes_of cs i.fill) = a.size other ∙ sym h.bytes in
    let row : map (λ q. get_or v q 0) ps ≡ bytes_of cs i.fill =
    ap (λ (s : ℕ). map (λ q. get_or v q 0) (row_from (end_of b p) s)) size
    ∙ row_bytes v (end_of b p) (bytes_of cs i.fill) (moved (end_of b p) (bytes_of cs i.fill) (a.content other)) in
    same_value (node_value v (node_of b p es)) (file_value cs i)
    (body_kind_is kind_numbers (type_of b p) ps es ∙ ap kind_named t ∙ named_by i.kind)
    (ap (λ (k : ℕ). mode_named k (executable b p)) t ∙ a.mode)
    (sym h.owner.0) (sym h.owner.1)
    (ap (λ (k : ℕ). by_type k 0 0 0 (word_be b (p + 4) / 65536) (word_be b (p + 4) / 65536) 0 0) t ∙ numbers.0)
    (ap (λ (k : ℕ). by_type k 0 0 0 (word_be b (p + 4) % 65536) (word_be b (p + 4) % 65536) 0 0) t ∙ numbers.1)
    (ap (map (λ q. get_or v q 0)) (body_places_is kind_numbers (type_of b p) ps es)
    ∙ ap (λ (k : ℕ). map (λ q. get_or v q 0) (by_type k [] ps ps [] [] [] [])) t
    ∙ bytes_by i.kind cs i v ps h.kind row)

pub directory_is : (v b : List ℕ) (cs : List (List ℕ)) (i : Inode) (p : ℕ) (es : Entries) → IsDirectory i
    → IsAt b cs i p
    → node_value v (node_of b p es) ≡ file_value cs i
unfolding node_value file_value node_of attributes_at places_at
directory_is v b cs i p es h a =
    let t : type_of b p ≡ 1 = a.kind ∙ ap number_of h.kind in
    let ps = row_from (end_of b p) (size_of b p) in
    same_value (node_value v (node_of b p es)) (file_value cs i)
    (body_kind_is kind_numbers (type_of b p) ps es ∙ ap kind_named t ∙ sym h.kind)
    (ap (λ (k : ℕ). mode_named k (executable b p)) a.kind ∙ a.mode)
    (sym h.owner.0) (sym h.owner.1)
    (ap (λ (k : ℕ). by_type k 0 0 0 (word_be b (p + 4) / 65536) (word_be b (p + 4) / 65536) 0 0) t ∙ sym h.numbers.0)
    (ap (λ (k : ℕ). by_type k 0 0 0 (word_be b (p + 4) % 65536) (word_be b (p + 4) % 65536) 0 0) t ∙ sym h.numbers.1)
    (ap (map (λ q. get_or v q 0)) (body_places_is kind_numbers (type_of b p) ps es)
    ∙ ap (λ (k : ℕ). map (λ q. get_or v q 0) (by_type k [] ps ps [] [] [] [])) t ∙ sym (ap (bytes_of cs) h.bytes))
