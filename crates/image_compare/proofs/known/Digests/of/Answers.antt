use Rattle.std.proofs.Common.{◌≡◌, ◌∙◌, ℕ, List, Option, IfSome, ap, sym, subst, map}
use Rattle.std.specs.Prelude.{slice_index}
use Rattle.sha2.specs.Sha256.{sha256}
use Rattle.rom_tree.specs.Tree.{Node, places_of}
use Rattle.rom_tree.specs.Image.{Image, contents_of}
use Rattle.rom_tree.proofs.Named.{node_by}
use Rattle.image_check.specs.Any.{any_view}
use Rattle.image_check.specs.declared.any.Parts.{Parts}
use Rattle.image_info.specs.declared.data.Data.{Data}
use Rattle.image_info.specs.Data.{data_bytes, data_cmp, data_places}
use Rattle.image_info.proofs.Noted.{exact_data, still_right}
use Rattle.image_compare.proofs.known.Digests.of.Goals as goal

-- the digest of a node's bytes is that of the bytes where they are
located : (m : Image) (parts : Parts) (d : Data) (x : Node) → places_of x ≡ data_places m.bytes parts d
    → sha256 (data_bytes m.bytes parts d) ≡ sha256 (contents_of m.bytes x)
located m parts d x e = ap (λ (ps : List ℕ). sha256 (map (λ p. slice_index m.bytes p) ps)) (sym e)

pub returns-in-Some-clause-digest : goal.returns-in-Some-clause-digest
returns-in-Some-clause-digest c = λ x i.
    let m : Image = any_view c.args.image.now in
    let n : Parts = c.args.self.now.parts in
    let d : Data = c.data_of-data.result in
    let P : Option (List ℕ) → Type 0 = λ v. IfSome v (λ h. h ≡ sha256 (data_bytes m.bytes n d)) in
    subst P (sym c.in-Some.ensures.value) (c.requires.known.known d)
    ∙ located m n d x (c.data_of-data.ensures x i)

pub returns-in-Ok-clause-known : goal.returns-in-Ok-clause-known
returns-in-Ok-clause-known c =
    let m : Image = any_view c.args.image.now in
    let n : Parts = c.args.self.now.parts in
    let d : Data = c.data_of-data.result in
    let x = node_by m c.args.n.0 c.requires.node in
    record {
      parts = c.requires.known.parts;
      tree = c.requires.known.tree;
      known = still_right data_cmp exact_data (λ q h. h ≡ sha256 (data_bytes m.bytes n q)) c.args.self.now.known
          c.insert.new.self d c.file_digest-digest.result c.requires.known.known c.in-Ok.ensures.updates
          (c.file_digest-digest.ensures x.0 x.1 ∙ sym (located m n d x.0 (c.data_of-data.ensures x.0 x.1)));
    }
