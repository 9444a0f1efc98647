-- What the superblock of a layout states is true of it.
use Rattle.std.proofs.Common.{◌≡◌, ℕ, ◌-◌, min, List, ◌++◌, length, take, drop, replicate, sym, ap, ◌∙◌}
use Rattle.std.proofs.Common.{arith}
use Rattle.std.proofs.Math.Seq.{drop-append_seam}
use Rattle.std.proofs.lemmas.List.{take-append-le}
use Rattle.byteorder.specs.Endian.{big_bytes, big_number}
use Rattle.byteorder.specs.Numbers.{big_number-reads_back}
use Rattle.rom_fields.specs.Padding.{pad}
use Rattle.rom_fields.specs.Words.{word_be, words_sum}
use Rattle.romfs_format.specs.Tree.{magic, full_size}
use Rattle.manifest_tree.specs.Names.{Inode, Names}
use Rattle.romfs_layout.specs.Layout.{all_headers, root_at, full_size_of, image_of, layout}
use Rattle.romfs_layout.specs.Planned.{IsPlanned}
use Rattle.romfs_layout.specs.Sealed.{IsSealed}
use Rattle.romfs_layout.proofs.Image.{is_image, has_length, sum_at}

pub is_sealed : (volume : List ℕ) (root : Inode) (n : Names) (cs : List (List ℕ)) → IsPlanned volume root n cs
    → IsSealed (layout volume root n cs)
unfolding layout word_be
is_sealed volume root n cs h =
    let r = root_at volume in
    let size = full_size_of r n in
    let b = image_of volume size cs (all_headers r root n) in
    let i = is_image volume root n cs h in
    let zeros = replicate {A = ℕ} (pad size 1024 - size) 0 in
    let v = b ++ zeros in
    let room = h.room in
    let whole : v ≡ magic ++ (big_bytes 4 size ++ (i.begins.0 ++ zeros)) = ap (λ (x : List ℕ). x ++ zeros) i.begins.1 in
    let full : full_size v ≡ size = ap (λ (x : List ℕ). big_number 4 (drop 8 x)) whole
    ∙ big_number-reads_back 4 size (i.begins.0 ++ zeros) (omega arith) in
    let long : length v ≡ pad size 1024 = has_length volume root n cs h in
    let all : full_size v ≡ length b = full ∙ sym i.size in
    let rest : pad size 1024 - size ≡ length v - full_size v =
    ap (λ (k : ℕ). k - size) (sym long) ∙ ap (λ (k : ℕ). length v - k) (sym full) in
    record {
      sixteens = omega (arith, full);
      size = long ∙ ap (λ (k : ℕ). pad k 1024) (sym full);
      zeros = ap (λ (k : ℕ). drop k v) all ∙ drop-append_seam b zeros ∙ ap (λ (k : ℕ). replicate {A = ℕ} k 0) rest;
      sum = ap (λ (k : ℕ). words_sum (take (min 512 k) v)) all
          ∙ ap words_sum (take-append-le (min 512 (length b)) b zeros (omega arith)) ∙ sum_at b i.sum;
    }
