-- The tree of a planned volume has the shape of its names.
use Rattle.manifest_tree.proofs.Alike.{Alike, alike_map, alike_some, same_both, pairs_unmap}
use Rattle.rom_fields.proofs.Parts.{moved}
use Rattle.std.proofs.Common.{◌↔◌, ◌≡◌, ◌≢◌, ℕ, ◌+◌, ◌-◌, ◌<◌, ◌≤◌, ◌⊎◌, List, [], ◌∷◌, ◌++◌, replicate, refl, sym, ap}
use Rattle.std.proofs.Common.{subst, ◌∙◌, arith, inl, inr}
use Rattle.std.specs.List.{AllByRecursion as Every}
use Rattle.rom_tree.specs.Tree.{Node, Entries, ino_of, places_of}
use Rattle.record_forest.specs.Members.{Has, Pairs}
use Rattle.record_forest.proofs.Lists.{every_join, every_weaker, every_both, every_of, every_all, pairs_join}
use Rattle.romfs_format.specs.Record.{pad16}
use Rattle.romfs_format.specs.Tree.{node_of, attributes_at}
use Rattle.manifest_tree.specs.Names.{Inode, Names, nothing, leaf, link, subdirectory}
use Rattle.romfs_layout.specs.Layout.{Header, placed, place_with, code_of, place_of, leaf_end, header_end, ends}
use Rattle.romfs_layout.specs.Layout.{root_at, all_headers, full_size_of, image_of, layout, number_of, headers}
use Rattle.rom_fields.specs.Padding.{pad}
use Rattle.manifest_tree.specs.Files.{Placed, at_place}
use Rattle.manifest_tree.specs.Placement.{IsRun, AreInRuns}
use Rattle.romfs_layout.specs.Wells.{IsFile, IsDirectory, AreWell, AreLinks}
use Rattle.romfs_layout.specs.Planned.{IsPlanned}
use Rattle.manifest_tree.specs.Shape.{node_value, file_value, node_under, file_under, with_names, HasShape}
use Rattle.romfs_layout.proofs.Places.{place_after, ends_after}
use Rattle.romfs_layout.proofs.Headers.{code_is}
use Rattle.manifest_tree.proofs.Alike.{pairs_unmap}
use Rattle.romfs_layout.proofs.Files.{IsAt, AtPlace, files_at, placed_files, mode_is, bit_is}
use Rattle.romfs_layout.proofs.Stands.{says}
use Rattle.romfs_layout.proofs.Entries.{made_of}
use Rattle.romfs_layout.proofs.Image.{tree_in, is_image}
use Rattle.romfs_layout.proofs.Values.{file_is, directory_is}
use Rattle.romfs_layout.proofs.Runs.{IsAligned, files_aligned, node_run}
use Rattle.romfs_layout.proofs.Paths.{KnownAt, IsShown, IsEnd, links_at, path_alike, entries_one}

abbrev IsGood : List (List ℕ) → Inode → Type 0
IsGood cs i = IsFile cs i ⊎ IsDirectory i

good_files : (cs : List (List ℕ)) (from : ℕ) (n : Names) → AreWell cs n
    → Every (λ (x : Placed). IsGood cs x.inode) (placed from n)
good_files cs from nothing h = tt
good_files cs from (leaf name i after) h = (inl h.1, good_files cs (leaf_end from name i) after h.2)
good_files cs from (link name i after) h = good_files cs (header_end from name) after h.2
good_files cs from (subdirectory name i own after) h =
    let he = header_end from name in
    let q = ends (he + 64) own in (
      inr h.1,
      every_join (λ (x : Placed). IsGood cs x.inode) (placed (he + 64) own) (placed q after)
          (good_files cs (he + 64) own h.2) (good_files cs q after h.3),
    )

-- files are from `from` on and before `to`, and no two at one offset
pub record AreApart (from to : ℕ) (xs : List Placed) : Type 0 where
  pub within : Every (λ (x : Placed). (from ≤ x.place) × (x.place < to)) xs
  pub apart : Pairs (λ (x y : Placed). x.place ≢ y.place) xs

apart_join : (from mid to : ℕ) (xs ys : List Placed) → from ≤ mid → mid ≤ to → AreApart from mid xs
    → AreApart mid to ys → AreApart from to (xs ++ ys)
apart_join from mid to xs ys l m a c = record {
  within = every_join (λ (x : Placed). (from ≤ x.place) × (x.place < to)) xs ys
      (every_weaker (λ (x : Placed). (from ≤ x.place) × (x.place < mid))
      (λ (x : Placed). (from ≤ x.place) × (x.place < to)) (λ x k. let u = k.1 in (k.0, omega arith)) xs a.within)
      (every_weaker (λ (x : Placed). (mid ≤ x.place) × (x.place < to))
      (λ (x : Placed). (from ≤ x.place) × (x.place < to)) (λ x k. let u = k.0 in (omega arith, k.1)) ys c.within);
  apart = pairs_join (λ (x y : Placed). x.place ≢ y.place) xs ys a.apart c.apart
      (every_weaker (λ (x : Placed). (from ≤ x.place) × (x.place < mid))
      (λ (x : Placed). Every (λ (y : Placed). x.place ≢ y.place) ys)
      (λ x k. every_weaker (λ (y : Placed). (mid ≤ y.place) × (y.place < to)) (λ (y : Placed). x.place ≢ y.place)
      (λ y j z. let u = k.1 in let w = j.0 in absurd (omega (arith, z))) ys c.within) xs a.within);
}

apart_one : (from to : ℕ) (x : Placed) → from ≤ x.place → x.place < to → AreApart from to (x ∷ [])
apart_one from to x l m = record { within = ((l, m), tt); apart = (tt, tt) }

pub files_apart : (cs : List (List ℕ)) (from : ℕ) (n : Names) → AreWell cs n
    → AreApart from (ends from n) (placed from n)
files_apart cs from nothing h = record { within = tt; apart = tt }
files_apart cs from (leaf name i after) h =
    let q = leaf_end from name i in
    let a = place_after cs from name i h.1 in
    apart_join from q (ends q after) (record { inode = i; place = place_of from name i } ∷ []) (placed q after)
    (omega arith) (ends_after cs q after h.2)
    (apart_one from q (record { inode = i; place = place_of from name i }) a (omega arith)) (files_apart cs q after h.2)
files_apart cs from (link name i after) h =
    let q = header_end from name in
    apart_join from q (ends q after) [] (placed q after) (omega arith) (ends_after cs q after h.2)
    (record { within = tt; apart = tt }) (files_apart cs q after h.2)
files_apart cs from (subdirectory name i own after) h =
    let he = header_end from name in
    let q = ends (he + 64) own in
    let x : Placed = record { inode = i; place = pad16 from } in
    let o = ends_after cs (he + 64) own h.2 in
    let e = ends_after cs q after h.3 in
    apart_join from (he + 64) (ends q after) (x ∷ []) (placed (he + 64) own ++ placed q after) (omega arith)
    (omega arith) (apart_one from (he + 64) x (omega arith) (omega arith))
    (apart_join (he + 64) q (ends q after) (placed (he + 64) own) (placed q after) o e
    (files_apart cs (he + 64) own h.2) (files_apart cs q after h.3))

pub ino_at : (b : List ℕ) (p : ℕ) (es : Entries) → ino_of (node_of b p es) ≡ p
unfolding node_of attributes_at
ino_at b p es = refl

-- two nodes have one number exactly if they have one offset
same_nodes : (b : List ℕ) (x y : Node) (p q : ℕ) (es fs : Entries) (A : Type 0) → x ≡ node_of b p es
    → y ≡ node_of b q fs → (p ≡ q) ↔ A → (ino_of x ≡ ino_of y) ↔ A
same_nodes b x y p q es fs A e f both =
    let n1 : ino_of x ≡ p = ap ino_of e ∙ ino_at b p es in
    let n2 : ino_of y ≡ q = ap ino_of f ∙ ino_at b q fs in
    (λ z. both.0 (sym n1 ∙ z ∙ n2), λ a. n1 ∙ both.1 a ∙ sym n2)

-- the known facts of a placed file: it is a file, it is among all of them, and its data are aligned
abbrev pub IsOne : List ℕ → List (List ℕ) → List Placed → Placed → Type 0
IsOne b cs all x = IsGood cs x.inode × Has (λ u. u ≡ x) all × IsAligned b x

-- all files, the root first
abbrev pub all_placed : List ℕ → Inode → Names → List Placed
all_placed volume root n = at_place root (root_at volume) ∷ placed (root_at volume + 64) n

-- the accessible bytes
abbrev pub bytes_in : List ℕ → Inode → Names → List (List ℕ) → List ℕ
bytes_in volume root n cs = image_of volume (full_size_of (root_at volume) n) cs (all_headers (root_at volume) root n)

-- what is at each path of the tree is the file there
pub ends_alike : (volume : List ℕ) (root : Inode) (n : Names) (cs : List (List ℕ)) → IsPlanned volume root n cs
    → (q : List (List ℕ))
    → Alike (IsEnd (bytes_in volume root n cs) cs (IsOne (bytes_in volume root n cs) cs (all_placed volume root n)))
    (node_under q (tree_in (bytes_in volume root n cs) volume n)) (file_under q (with_names root n))
unfolding tree_in
ends_alike volume root n cs h q =
    let r = root_at volume in
    let b = bytes_in volume root n cs in
    let held = (is_image volume root n cs h).holds in
    let reads = held.reads in
    let xs = placed (r + 64) n in
    let at' = place_with xs in
    let all = all_placed volume root n in
    let Q : Placed → Type 0 = IsOne b cs all in
    let c = code_is root in
    let s0 = says b r (r + 32) (code_of root) reads.0.word (let even = held.even in omega arith) c.small in
    let root_is : IsAt b cs root r = record {
      even = held.even;
      kind = s0.kind ∙ c.kind;
      mode = mode_is b root r (r + 32) h.directory.mode reads.0.word (let even = held.even in omega arith);
      bit = bit_is b root r (r + 32) reads.0.word (let even = held.even in omega arith);
      size = λ z. absurd (z h.directory.kind);
      numbers = λ z. absurd (z h.directory.kind);
      content = λ z. absurd (z h.directory.kind);
    } in
    let ats = files_at b cs (λ _. Unit {0}) at' r (r + 64) n h.well reads.1.1
    (every_all (λ (i : Header). Unit {0}) (λ _. tt) (headers at' r (r + 64) n)) in
    let goods = good_files cs (r + 64) n h.well in
    let listed = every_of (λ (x : Placed). Has (λ u. u ≡ x) all) xs (λ x k. inr k) in
    let aligned = files_aligned b cs at' r (r + 64) n h.well reads.1.1 in
    let known : Every (KnownAt b cs Q) xs =
    every_weaker (λ (x : Placed). AtPlace b cs (λ _. Unit {0}) x
    × (IsGood cs x.inode × (Has (λ u. u ≡ x) all × IsAligned b x))) (KnownAt b cs Q)
    (λ x k. (k.0.0, (k.1.0, k.1.1.0, k.1.1.1))) xs
    (every_both (AtPlace b cs (λ _. Unit {0}))
    (λ (x : Placed). IsGood cs x.inode × (Has (λ u. u ≡ x) all × IsAligned b x)) xs ats
    (every_both (λ (x : Placed). IsGood cs x.inode) (λ (x : Placed). Has (λ u. u ≡ x) all × IsAligned b x) xs goods
    (every_both (λ (x : Placed). Has (λ u. u ≡ x) all) (IsAligned b) xs listed aligned))) in
    let links = links_at b cs Q xs n (subst (λ (js : List Inode). AreLinks js n)
    (sym (placed_files (r + 64) n)) h.links) known in
    let es = made_of b at' (r + 64) n in
    let t = node_of b r es in
    let top : IsShown b cs Q at' t (with_names root n) = record {
      place = r;
      from = r + 64;
      entries = es;
      is = refl;
      list = entries_one b r es (s0.kind ∙ c.kind ∙ ap number_of h.directory.kind);
      known = (root_is, (inr h.directory, inl refl, λ z. absurd (z h.directory.kind)));
      inner = known;
      links = links;
      well = h.well;
    } in
    path_alike b cs Q at' q t (with_names root n) top

pub has_shape : (volume : List ℕ) (root : Inode) (n : Names) (cs : List (List ℕ)) → IsPlanned volume root n cs
    → HasShape (layout volume root n cs) (tree_in (bytes_in volume root n cs) volume n) cs root n
unfolding layout
has_shape volume root n cs h =
    let r = root_at volume in
    let size = full_size_of r n in
    let b = bytes_in volume root n cs in
    let zeros = replicate {A = ℕ} (pad size 1024 - size) 0 in
    let v = b ++ zeros in
    let xs = placed (r + 64) n in
    let all = all_placed volume root n in
    let Q : Placed → Type 0 = IsOne b cs all in
    let t = tree_in b volume n in
    let value : (x : Node) (i : Inode) → IsEnd b cs Q x i → node_value v x ≡ file_value cs i =
    λ x i k. ap (node_value v) k.is ∙ elim k.known.1.0 [
      | inl f ↦ file_is v b cs i k.place k.entries (moved b zeros) f k.known.0
      | inr f ↦ directory_is v b cs i k.place k.entries f k.known.0
    ] in
    let apart = files_apart cs (r + 64) n h.well in
    let places : Pairs (λ (u w : Placed). u.place ≢ w.place) all = (
      every_weaker (λ (x : Placed). (r + 64 ≤ x.place) × (x.place < ends (r + 64) n)) (λ (x : Placed). r ≢ x.place)
          (λ x k z. let u = k.0 in absurd (omega (arith, z))) xs apart.within,
      apart.apart,
    ) in
    let lines : Pairs (λ (u w : Placed). u.inode.line ≢ w.inode.line) all =
    pairs_unmap (λ (x : Placed). x.inode) (λ (i j : Inode). i.line ≢ j.line) all
    (subst (Pairs (λ (i j : Inode). i.line ≢ j.line))
    (ap (λ (js : List Inode). root ∷ js) (sym (placed_files (r + 64) n))) h.lines) in
    let alike = ends_alike volume root n cs h in
    record {
      values = λ q. alike_map (IsEnd b cs Q) (node_value v) (file_value cs) value (node_under q t)
          (file_under q (with_names root n)) (alike q);
      shared = λ p q x y i j a e f g.
          let u = alike_some (IsEnd b cs Q) (node_under p t) (file_under p (with_names root n)) x i (alike p) a f in
          let w = alike_some (IsEnd b cs Q) (node_under q t) (file_under q (with_names root n)) y j (alike q) e g in
          let both = same_both all (record { inode = i; place = u.place })
          (record { inode = j; place = w.place }) places lines u.known.1.1 w.known.1.1 in
          same_nodes b x y u.place w.place u.entries w.entries (i.line ≡ j.line) u.is w.is both;
    }

-- at the end of a path the file has its offsets in a run
end_run : (b : List ℕ) (cs : List (List ℕ)) (all : List Placed) (x : Node) (i : Inode) → IsEnd b cs (IsOne b cs all) x i
    → IsRun i.align (places_of x)
end_run b cs all x i e =
    let run = node_run b cs i e.place e.entries e.known.1.0 e.known.0 e.known.1.2 in
    subst (λ (y : Node). IsRun i.align (places_of y)) (sym e.is) run

pub has_runs : (volume : List ℕ) (root : Inode) (n : Names) (cs : List (List ℕ)) → IsPlanned volume root n cs
    → AreInRuns (tree_in (bytes_in volume root n cs) volume n) root n
has_runs volume root n cs h q x i a f =
    let b = bytes_in volume root n cs in
    let Q = IsOne b cs (all_placed volume root n) in
    let t = tree_in b volume n in
    let e = alike_some (IsEnd b cs Q) (node_under q t) (file_under q (with_names root n)) x i
    (ends_alike volume root n cs h q) a f in
    end_run b cs (all_placed volume root n) x i e
