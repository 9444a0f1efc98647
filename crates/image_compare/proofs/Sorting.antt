-- Rows and names that are sorted together.
use Rattle.std.proofs.Common.{◌≡◌, ℕ, ◌+◌, ◌<◌, List, [], ◌∷◌, map, length, get_or, set, refl, sym, ap, ◌∙◌}
use Rattle.std.proofs.Common.{subst}
use Rattle.std.proofs.Common.{arith, Option, false, ◌≤◌}
use Rattle.std.specs.Cmp.Lexicographic.{slice_cmp}
use Rattle.std.specs.List.{swap}
use Rattle.std.specs.List.Sorted.{IsPermutation, apply_swaps, SwapsInRange, IsSortedByKey}
use Rattle.std.specs.Ordering.{nat_cmp, is_lt}
use Rattle.std.proofs.lemmas.List.{length-map, get_or-map}
use Rattle.std.proofs.lemmas.List.Sorted.{All-permutation}
use Rattle.std.proofs.lemmas.Simd.{map-map}
use Rattle.std.proofs.Math.ListN as L
use Rattle.std.proofs.Math.Seq.{map-set}
use Rattle.rom_tree.specs.Tree.{Node}
use Rattle.rom_tree.specs.Image.{Image}
use Rattle.rom_tree.specs.Names.{Name, names}
use Rattle.image_compare.specs.declared.directories.Directory.{Directory}
use Rattle.image_compare.specs.declared.rows.Row.{Row}
use Rattle.image_compare.specs.declared.rows.Rows.{Rows}
use Rattle.image_compare.specs.Directories.{AreWays}
use Rattle.image_compare.specs.Rows.{AreRows, HasNames, HoldsSorted, row_path, row_key, name_key}

-- ---- maps of what is moved

module _ {X Y : Type 0} (f : X → Y) where
  map_swap : (xs : List X) (i j : ℕ) → map f (swap xs i j) ≡ swap (map f xs) i j
  map_swap [] i j = refl
  map_swap (d ∷ ys) i j =
      let xs : List X = d ∷ ys in
      let p : X = get_or xs j d in
      let q : X = get_or xs i d in
      map-set f (set xs i p) j q
      ∙ (ap (λ (v : List Y). set v j (f q)) (map-set f xs i p)
      ∙ (ap (λ (v : Y). set (set (map f xs) i v) j (f q)) (sym (L.get_or-map f xs j d))
      ∙ ap (λ (v : Y). set (set (map f xs) i (get_or (map f xs) j (f d))) j v) (sym (L.get_or-map f xs i d))))

  map_swaps : (xs : List X) (ms : List (ℕ × ℕ)) → map f (apply_swaps xs ms) ≡ apply_swaps (map f xs) ms
  map_swaps xs [] = refl
  map_swaps xs (m ∷ ms) = map_swap (apply_swaps xs ms) m.0 m.1
      ∙ ap (λ (v : List Y). swap v m.0 m.1) (map_swaps xs ms)

-- ---- rows

module _ (ws : List (List ℕ)) where
  paths_same : (m : Image) (rows : List Row) (ns : List Name) → AreRows m ws rows ns
      → map (row_path ws) rows ≡ map (λ (n : Name). n.path) ns
  paths_same m rows ns h =
      sym (map-map (λ (v : List ℕ × Option Node). v.0) (row_key m ws) rows)
      ∙ (ap (map (λ (v : List ℕ × Option Node). v.0)) h ∙ map-map (λ (v : List ℕ × Option Node). v.0) name_key ns)

  sorted_by : (r : Row) (rows : List Row) (ns : List Name) → map (row_path ws) rows ≡ map (λ (n : Name). n.path) ns
      → IsSortedByKey (row_path ws) (slice_cmp nat_cmp) rows
      → IsSortedByKey (λ (n : Name). n.path) (slice_cmp nat_cmp) ns
  sorted_by r rows ns e s = λ k d low high.
      let path : Name → List ℕ = λ n. n.path in
      let l : length rows ≡ length ns =
      sym (length-map rows (row_path ws)) ∙ (ap length e ∙ length-map ns path) in
      let at : (i : ℕ) → i < length ns → row_path ws (get_or rows i r) ≡ path (get_or ns i d) = λ i h.
      sym (get_or-map (row_path ws) rows i r [] (omega (arith, h, l)))
      ∙ (ap (λ (v : List (List ℕ)). get_or v i []) e ∙ get_or-map path ns i d [] h) in
      let here : row_path ws (get_or rows k r) ≡ path (get_or ns k d) = at k (omega (arith, high)) in
      let next : row_path ws (get_or rows (k + 1) r) ≡ path (get_or ns (k + 1) d) = at (k + 1) high in
      let P : List ℕ → Type 0 = λ v. is_lt (slice_cmp nat_cmp v (row_path ws (get_or rows k r))) ≡ false in
      let Q : List ℕ → Type 0 = λ v. is_lt (slice_cmp nat_cmp (path (get_or ns (k + 1) d)) v) ≡ false in
      subst Q here (subst P next (s k r low (omega (arith, high, l))))

  sorted_names : (rows : List Row) (ns : List Name) → map (row_path ws) rows ≡ map (λ (n : Name). n.path) ns
      → IsSortedByKey (row_path ws) (slice_cmp nat_cmp) rows
      → IsSortedByKey (λ (n : Name). n.path) (slice_cmp nat_cmp) ns
  sorted_names [] ns e s = λ k d low high.
      let l : length (map (λ (n : Name). n.path) ns) ≡ 0 = sym (ap length e) in
      absurd (omega (arith, high, l, length-map ns (λ (n : Name). n.path)))
  sorted_names (r ∷ rows) ns e s = sorted_by r (r ∷ rows) ns e s

-- the names that are moved as the rows are
pub holds_sorted : (m : Image) (found new : Rows) (h : HasNames m found (names m.tree))
    → new.directories ≡ found.directories → IsPermutation found.names.items new.names.items
    → IsSortedByKey (row_path h.ways) (slice_cmp nat_cmp) new.names.items → HoldsSorted m new
holds_sorted m found new h d p s =
    let ws : List (List ℕ) = h.ways in
    let ns : List Name = apply_swaps (names m.tree) p.moves in
    let key : Row → List ℕ × Option Node = row_key m ws in
    let keys : AreRows m ws new.names.items ns =
    ap (map key) p.is ∙ (map_swaps key found.names.items p.moves
    ∙ (ap (λ (v : List (List ℕ × Option Node)). apply_swaps v p.moves) h.same
    ∙ sym (map_swaps name_key (names m.tree) p.moves))) in
    let l : length found.names.items ≡ length (names m.tree) =
    sym (length-map found.names.items key) ∙ (ap length h.same ∙ length-map (names m.tree) name_key) in
    let all : IsPermutation (names m.tree) ns =
    record { moves = p.moves; below = subst (λ (v : ℕ). SwapsInRange v p.moves) l p.below; is = refl } in
    record {
      names = ns;
      sorted = record {
        all = all;
        sorted = sorted_names ws new.names.items ns (paths_same ws m new.names.items ns keys) s;
      };
      rows = record {
        ways = ws;
        directories = let P : List Directory → Type 0 = λ v. AreWays v ws in
            subst P (ap (λ v. v.items) (sym d)) h.directories;
        same = keys;
        short = All-permutation (λ (n : Name). length n.path ≤ 16384) (names m.tree) ns all h.short;
      };
    }
