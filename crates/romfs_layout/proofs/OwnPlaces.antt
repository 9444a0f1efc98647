-- Files of different lines have their bytes at different offsets.
use Rattle.std.proofs.Common.{◌≡◌, ◌≢◌, ℕ, zero, suc, ◌+◌, ◌<◌, ◌≤◌, List, [], ◌∷◌, ◌++◌, inl, inr, sym, ap, subst, ◌∙◌}
use Rattle.std.proofs.Common.{arith}
use Rattle.std.specs.List.{AllByRecursion as Every}
use Rattle.record_forest.specs.Members.{Has, Pairs}
use Rattle.record_forest.proofs.Lists.{every_join, every_left, every_right, every_weaker, every_all, pairs_join}
use Rattle.record_forest.proofs.Lists.{pairs_pick}
use Rattle.rom_tree.specs.declared.types.Kind.{Kind}
use Rattle.rom_tree.specs.declared.types.Kind.TheVariants.{Directory, Regular, Symlink, Block, Character, Socket, Fifo}
use Rattle.rom_tree.specs.Tree.{Node, Entries, places_of, row_from}
use Rattle.rom_tree.proofs.ByKind.{body_places_is}
use Rattle.romfs_format.specs.Record.{pad16, end_of, size_of, type_of}
use Rattle.romfs_format.specs.Tree.{node_of, places_at, by_type, kind_numbers}
use Rattle.manifest_tree.specs.Names.{Inode, Names, nothing, leaf, link, subdirectory}
use Rattle.manifest_tree.specs.Shape.{node_under, file_under, with_names}
use Rattle.manifest_tree.specs.Files.{Placed, at_place}
use Rattle.manifest_tree.proofs.Alike.{alike_some}
use Rattle.romfs_layout.specs.Disjoint.{AreDisjoint, FilesAreApart}
use Rattle.romfs_layout.specs.Layout.{record_len, place_of, leaf_end, header_end, ends, placed, place_with, headers}
use Rattle.romfs_layout.specs.Layout.{number_of, root_at}
use Rattle.romfs_layout.specs.Planned.{IsPlanned}
use Rattle.romfs_layout.specs.Reads.{Reads}
use Rattle.romfs_layout.specs.Wells.{AreWell}
use Rattle.romfs_layout.proofs.Files.{IsAt}
use Rattle.romfs_layout.proofs.Image.{tree_in, is_image}
use Rattle.romfs_layout.proofs.Paths.{IsEnd}
use Rattle.romfs_layout.proofs.Places.{place_after, ends_after}
use Rattle.romfs_layout.proofs.Shaped.{IsOne, all_placed, bytes_in, ends_alike}

-- the bytes of a file end at q, or before
abbrev pub EndsBy : List ℕ → ℕ → Placed → Type 0
EndsBy b q x = x.inode.kind ≢ Directory → end_of b x.place + size_of b x.place ≤ q

-- the bytes of x end before the header of y
abbrev pub IsBefore : List ℕ → Placed → Placed → Type 0
IsBefore b x y = EndsBy b y.place x

-- files one after the other, each with its bytes, from `from` on and up to `to`
record AreRising (b : List ℕ) (from to : ℕ) (xs : List Placed) : Type 0 where
  low : Every (λ (x : Placed). from ≤ x.place) xs
  high : Every (EndsBy b to) xs
  rises : Pairs (IsBefore b) xs

rising_join : (b : List ℕ) (from mid to : ℕ) (xs ys : List Placed) → from ≤ mid → mid ≤ to → AreRising b from mid xs
    → AreRising b mid to ys → AreRising b from to (xs ++ ys)
rising_join b from mid to xs ys l m a c = record {
  low = every_join (λ (x : Placed). from ≤ x.place) xs ys a.low
      (every_weaker (λ (x : Placed). mid ≤ x.place) (λ (x : Placed). from ≤ x.place)
      (λ x k. omega (arith, k, l)) ys c.low);
  high = every_join (EndsBy b to) xs ys
      (every_weaker (EndsBy b mid) (EndsBy b to) (λ x k z. let e = k z in omega (arith, e, m)) xs a.high) c.high;
  rises = pairs_join (IsBefore b) xs ys a.rises c.rises
      (every_weaker (EndsBy b mid) (λ (x : Placed). Every (IsBefore b x) ys)
      (λ x k. every_weaker (λ (y : Placed). mid ≤ y.place) (IsBefore b x)
      (λ y j z. let e = k z in omega (arith, e, j)) ys c.low) xs a.high);
}

no_file : (b : List ℕ) (from to : ℕ) → AreRising b from to []
no_file b from to = record { low = tt; high = tt; rises = tt }

one_file : (b : List ℕ) (from to : ℕ) (x : Placed) → from ≤ x.place → EndsBy b to x → AreRising b from to (x ∷ [])
one_file b from to x l h = record { low = (l, tt); high = (h, tt); rises = (tt, tt) }

files_rise : (b : List ℕ) (cs : List (List ℕ)) (at' : ℕ → ℕ) (dir from : ℕ) (n : Names) → AreWell cs n
    → Every (Reads b cs) (headers at' dir from n) → AreRising b from (ends from n) (placed from n)
files_rise b cs at' dir from nothing h r = no_file b from from
files_rise b cs at' dir from (leaf name i after) h r =
    let q = leaf_end from name i in
    let x = at_place i (place_of from name i) in
    let a = place_after cs from name i h.1 in
    let e : end_of b x.place ≡ x.place + record_len name = r.0.ends in
    let s : size_of b x.place ≡ i.size = r.0.size in
    rising_join b from q (ends q after) (x ∷ []) (placed q after) (omega (arith, a)) (ends_after cs q after h.2)
    (one_file b from q x a (λ _. omega (arith, e, s))) (files_rise b cs at' dir q after h.2 r.1)
files_rise b cs at' dir from (link name i after) h r =
    let q = header_end from name in
    rising_join b from q (ends q after) [] (placed q after) (omega arith) (ends_after cs q after h.2) (no_file b from q)
    (files_rise b cs at' dir q after h.2 r.1)
files_rise b cs at' dir from (subdirectory name i own after) h r =
    let p = pad16 from in
    let he = header_end from name in
    let q = ends (he + 64) own in
    let x = at_place i p in
    let o = ends_after cs (he + 64) own h.2 in
    let e = ends_after cs q after h.3 in
    let mine = headers at' p (he + 64) own in
    let theirs = headers at' dir q after in
    rising_join b from (he + 64) (ends q after) (x ∷ []) (placed (he + 64) own ++ placed q after) (omega arith)
    (omega (arith, o, e))
    (one_file b from (he + 64) x (omega arith) (λ z. absurd (z h.1.kind)))
    (rising_join b (he + 64) q (ends q after) (placed (he + 64) own) (placed q after) o e
    (files_rise b cs at' p (he + 64) own h.2 (every_left (Reads b cs) mine theirs r.1.1.1))
    (files_rise b cs at' dir q after h.3 (every_right (Reads b cs) mine theirs r.1.1.1)))

-- v is one of n offsets from e on
record IsWithin (k : Kind) (v e n : ℕ) : Type 0 where
  other : k ≢ Directory
  low : e ≤ v
  high : v < e + n

row_low : (v n e : ℕ) → Has (λ x. x ≡ v) (row_from e n) → e ≤ v
row_low v zero e h = absurd h
row_low v (suc n) e (inl z) = omega (arith, z)
row_low v (suc n) e (inr h) = let a = row_low v n (e + 1) h in omega (arith, a)

row_high : (v n e : ℕ) → Has (λ x. x ≡ v) (row_from e n) → v < e + n
row_high v zero e h = absurd h
row_high v (suc n) e (inl z) = omega (arith, z)
row_high v (suc n) e (inr h) = let a = row_high v n (e + 1) h in omega (arith, a)

kind_within : (k : Kind) (v e n : ℕ)
    → Has (λ x. x ≡ v) (by_type (number_of k) [] (row_from e n) (row_from e n) [] [] [] []) → IsWithin k v e n
kind_within Directory v e n h = absurd h
kind_within Regular v e n h =
    record {
      other = λ z. absurd (let m = ap number_of z in omega (arith, m));
      low = row_low v n e h;
      high = row_high v n e h;
    }
kind_within Symlink v e n h =
    record {
      other = λ z. absurd (let m = ap number_of z in omega (arith, m));
      low = row_low v n e h;
      high = row_high v n e h;
    }
kind_within Block v e n h = absurd h
kind_within Character v e n h = absurd h
kind_within Socket v e n h = absurd h
kind_within Fifo v e n h = absurd h

-- each offset of a file is one of its bytes behind its header
node_within : (b : List ℕ) (cs : List (List ℕ)) (i : Inode) (p : ℕ) (es : Entries) (v : ℕ) → IsAt b cs i p
    → Has (λ x. x ≡ v) (places_of (node_of b p es)) → IsWithin i.kind v (end_of b p) (size_of b p)
unfolding node_of places_at
node_within b cs i p es v a h =
    let ps = row_from (end_of b p) (size_of b p) in
    let is : places_of (node_of b p es) ≡ by_type (number_of i.kind) [] ps ps [] [] [] [] =
    body_places_is kind_numbers (type_of b p) ps es ∙ ap (λ (k : ℕ). by_type k [] ps ps [] [] [] []) a.kind in
    kind_within i.kind v (end_of b p) (size_of b p) (subst (Has (λ x. x ≡ v)) is h)

end_after : (b : List ℕ) (p : ℕ) → p ≤ end_of b p
unfolding end_of
end_after b p = omega arith

-- the bytes of a file are not those of one behind it
behind : (b : List ℕ) (x y : Placed) (v : ℕ) → IsBefore b x y
    → IsWithin x.inode.kind v (end_of b x.place) (size_of b x.place)
    → IsWithin y.inode.kind v (end_of b y.place) (size_of b y.place) → ⊥
behind b x y v l u w =
    let a = l u.other in
    let c = u.high in
    let d = w.low in
    let e = end_after b y.place in
    absurd (omega (arith, a, c, d, e))

same_before : (b : List ℕ) (x y u w : Placed) → x ≡ u → y ≡ w → IsBefore b x y → IsBefore b u w
same_before b x y u w e f l = subst (λ (z : Placed). IsBefore b u z) f (subst (λ (z : Placed). IsBefore b z y) e l)

-- what is at the ends of two paths, of two lines
ends_apart : (b : List ℕ) (cs : List (List ℕ)) (all : List Placed) (x y : Node) (i j : Inode) → Pairs (IsBefore b) all
    → IsEnd b cs (IsOne b cs all) x i → IsEnd b cs (IsOne b cs all) y j → i.line ≢ j.line
    → AreDisjoint (places_of x) (places_of y)
ends_apart b cs all x y i j rise e f differ v h k =
    let u = at_place i e.place in
    let w = at_place j f.place in
    let a = node_within b cs i e.place e.entries v e.known.0
    (subst (λ (z : Node). Has (λ p. p ≡ v) (places_of z)) e.is h) in
    let c = node_within b cs j f.place f.entries v f.known.0
    (subst (λ (z : Node). Has (λ p. p ≡ v) (places_of z)) f.is k) in
    elim (pairs_pick (IsBefore b) (λ z. z ≡ u) (λ z. z ≡ w) all rise e.known.1.1 f.known.1.1) [
      | inl s ↦ absurd (differ (ap (λ (z : Placed). z.inode.line) (sym s.1 ∙ s.2)))
      | inr s ↦ elim s.4 [
        | inl l ↦ behind b u w v (same_before b s.0 s.1 u w s.2 s.3 l) a c
        | inr l ↦ behind b w u v (same_before b s.1 s.0 w u s.3 s.2 l) c a
      ]
    ]

pub has_apart : (volume : List ℕ) (root : Inode) (n : Names) (cs : List (List ℕ)) → IsPlanned volume root n cs
    → FilesAreApart (tree_in (bytes_in volume root n cs) volume n) root n
has_apart volume root n cs h q s x y i j a c e f differ =
    let r = root_at volume in
    let b = bytes_in volume root n cs in
    let xs = placed (r + 64) n in
    let all = all_placed volume root n in
    let Q = IsOne b cs all in
    let t = tree_in b volume n in
    let m = with_names root n in
    let reads = (is_image volume root n cs h).holds.reads in
    let rising = files_rise b cs (place_with xs) r (r + 64) n h.well reads.1.1 in
    let rise : Pairs (IsBefore b) all =
    (every_all (IsBefore b (at_place root r)) (λ y z. absurd (z h.directory.kind)) xs, rising.rises) in
    let alike = ends_alike volume root n cs h in
    ends_apart b cs all x y i j rise (alike_some (IsEnd b cs Q) (node_under q t) (file_under q m) x i (alike q) a e)
    (alike_some (IsEnd b cs Q) (node_under s t) (file_under s m) y j (alike s) c f) differ
