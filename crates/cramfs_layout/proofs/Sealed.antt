-- What the superblock of a layout states is true of it.
use Rattle.std.proofs.Common.{◌≡◌, ℕ, suc, ◌+◌, ◌*◌, ◌/◌, ◌^◌, ◌<◌, ◌⊎◌, List, [], length, refl, sym, ap}
use Rattle.std.proofs.Common.{◌∙◌, arith, inl, inr, length-append}
use Rattle.std.proofs.lemmas.Bool.Decides.{eqb_tells}
use Rattle.rom_tree.specs.Tree.{Node, Entries, no_entries, nodes, body_nodes, entries_nodes, directory, regular}
use Rattle.rom_tree.specs.Tree.{symlink, block, character, socket, fifo}
use Rattle.rom_tree.proofs.ByKind.{by_kind_map, by_kind_directory, by_kind_rest}
use Rattle.cramfs_format.specs.Order.{word}
use Rattle.cramfs_format.specs.declared.order.Order.{Order}
use Rattle.cramfs_format.specs.Inode.{type_of}
use Rattle.cramfs_format.specs.Tree.{CramfsTree, node_of, tree_of, entries_at, places_at, kind_numbers}
use Rattle.rom_fields.specs.Parts.{HasAt}
use Rattle.rom_fields.proofs.Parts.{HasAt-after, HasAt-moved}
use Rattle.manifest_tree.specs.Names.{Inode, Names, nothing, leaf, link, subdirectory}
use Rattle.cramfs_layout.specs.Layout.{word_bytes, type_bits, entry_len, pad4, State}
use Rattle.cramfs_layout.specs.Layout.{after_file, after_list, after_names, first_state, count, files_of, flags}
use Rattle.cramfs_layout.specs.Layout.{size_of, layout}
use Rattle.cramfs_layout.specs.Wells.{AreWell, AllRead}
use Rattle.cramfs_layout.specs.Planned.{IsPlanned}
use Rattle.cramfs_layout.specs.Forest.{spots}
use Rattle.cramfs_layout.specs.Sealed.{FSID_VERSION_2, SORTED_DIRS, EXT_BLOCK_POINTERS, IsSealed}
use Rattle.cramfs_layout.proofs.Entries.{length-word, word_has}
use Rattle.cramfs_layout.proofs.Super.{behind}
use Rattle.cramfs_layout.proofs.Whole.{all_spots}
use Rattle.cramfs_layout.proofs.Image.{is_image, has_tree, formed, front_says}

-- the nodes of an inode's node: itself, and those of its list if it is a directory
node_many : (o : Order) (b : List ℕ) (p : ℕ) (es : Entries) → (type_of o b p ≡ 4) ⊎ (es ≡ no_entries)
    → length (nodes (node_of o b p es)) ≡ suc (length (entries_nodes es))
unfolding node_of
node_many o b p es h =
    let t = type_of o b p in
    let ps = places_at o b p in
    let e = by_kind_map body_nodes kind_numbers t (directory es) (regular ps) (symlink ps) block character socket
    fifo in
    elim (eqb_tells t 4) [
      | inl k ↦ ap (λ (xs : List Node). suc (length xs))
          (e ∙ by_kind_directory kind_numbers t (entries_nodes es) [] [] [] [] [] [] k.1)
      | inr k ↦ elim h [
        | inl z ↦ absurd (k.1 z)
        | inr z ↦ ap (λ (xs : List Node). suc (length xs))
            (e ∙ by_kind_rest kind_numbers t (entries_nodes es) [] k.1 ∙ sym (ap entries_nodes z))
      ]
    ]

-- the tree has a node for each name
names_many : (o : Order) (b : List ℕ) (cs : List (List ℕ)) (high l : ℕ) (s : State) (n : Names) → AreWell cs n
    → AllRead o b cs high l s n → length (entries_nodes (entries_at o b (spots l s n))) ≡ count n
names_many o b cs high l s nothing h r = refl
names_many o b cs high l s (leaf name i rest) h r =
    let l' = l + entry_len name in
    let s' = after_file s i in
    let more = entries_nodes (entries_at o b (spots l' s' rest)) in
    let one = node_many o b l no_entries (inr refl) in
    omega (
      arith,
      one,
      length-append (nodes (node_of o b l no_entries)) more,
      names_many o b cs high l' s' rest h.2 r.2,
    )
names_many o b cs high l s (link name i rest) h r = absurd h
names_many o b cs high l s (subdirectory name i own rest) h r =
    let l' = l + entry_len name in
    let s1 = after_list s own in
    let s2 = after_names s1 own in
    let es = entries_at o b (spots (pad4 s.at) s1 own) in
    let more = entries_nodes (entries_at o b (spots l' s2 rest)) in
    let one = node_many o b l es (inl (r.0.type ∙ ap type_bits h.1.kind)) in
    omega (
      arith,
      one,
      length-append (nodes (node_of o b l es)) more,
      names_many o b cs high (pad4 s.at) s1 own h.2 r.1,
      names_many o b cs high l' s2 rest h.3 r.2,
    )

-- the words behind the crc: the edition, the number of blocks and that of files
words_behind : (o : Order) (b volume : List ℕ) (root : Inode) (n : Names) (more : List ℕ)
    → HasAt b 36 (behind o volume root n more) → size_of n / 4096 < 2 ^ 32 → files_of n < 2 ^ 32
    → (word o b 40 ≡ size_of n / 4096) × (word o b 44 ≡ files_of n)
words_behind o b volume root n more h small few =
    let blocks = word_bytes o (size_of n / 4096) in
    let files = word_bytes o (files_of n) in
    let h40 = HasAt-after b 36 (word_bytes o 0) _ h in
    let edition_long = length-word o 0 in
    let block_long = length-word o (size_of n / 4096) in
    let at_blocks = HasAt-moved b (36 + length (word_bytes o 0)) 40 _ (omega (arith, edition_long)) h40 in
    let h44 = HasAt-after b 40 blocks _ at_blocks in
    let at_files = HasAt-moved b (40 + length blocks) 44 _ (omega (arith, block_long)) h44 in
    (word_has o b 40 (size_of n / 4096) _ small at_blocks, word_has o b 44 (files_of n) _ few at_files)

whole_blocks : (n : Names) → size_of n / 4096 * 4096 ≡ size_of n
unfolding size_of
whole_blocks n = omega arith

-- if these are the flags, and the number of files counts the root
pub is_sealed : (o : Order) (volume : List ℕ) (root : Inode) (n : Names) (cs : List (List ℕ))
    → ((bytes : List ℕ) (m k d e : ℕ) (t u : Node) → CramfsTree o bytes m d t → CramfsTree o bytes k e u → t ≡ u)
    → flags ≡ FSID_VERSION_2 + (SORTED_DIRS + EXT_BLOCK_POINTERS) → files_of n ≡ count n + 1
    → IsPlanned volume root n cs → IsSealed o (layout o volume root n cs)
unfolding tree_of
is_sealed o volume root n cs one marks counts h =
    let b = layout o volume root n cs in
    let i = is_image o volume root n cs h in
    let f = formed o volume root n cs in
    let room = h.room in
    let few = h.few in
    let says = front_says o b (size_of n) f.crc (behind o volume root n f.more) f.is (omega arith) f.small in
    let words = words_behind o b volume root n f.more f.has36 (omega arith) (omega (arith, counts, few)) in
    let s = first_state n in
    let es = entries_at o b (spots 76 s n) in
    let own = names_many o b cs (after_names s n).at 76 s n h.well i.holds.reads in
    let counted : length (nodes (tree_of o b (all_spots n))) ≡ suc (count n) =
    node_many o b 64 es (inl i.holds.kind) ∙ ap suc own in
    record {
      size = says.size_is ∙ sym i.long;
      flags = says.flags_are ∙ marks;
      crc = says.crc_is ∙ f.of_bytes;
      blocks = ap (λ (k : ℕ). k * 4096) words.0 ∙ whole_blocks n ∙ sym i.long;
      files = λ most deepest t tree.
          let same = one b (2 ^ 20) most 64 deepest (tree_of o b (all_spots n)) t (has_tree o volume root n cs h)
          tree in
          let all = words.1 in
          omega (arith, all, counts, counted, ap (λ (u : Node). length (nodes u)) same);
    }
