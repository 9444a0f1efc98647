-- The known facts of a romfs plan.
use Rattle.std.proofs.Common.{◌≡◌, ℕ, ◌+◌, ◌-◌, ◌^◌, ◌<◌, List, [], ◌∷◌, ◌++◌, map, length, get_or, refl, sym, ap}
use Rattle.std.proofs.Common.{subst, ◌∙◌, arith}
use Rattle.manifest.specs.Grammar.{IsManifest}
use Rattle.manifest.specs.Lines.{ManifestLines, sources_of}
use Rattle.manifest_tree.specs.Names.{Inode, Names, nothing, leaf, link, subdirectory}
use Rattle.manifest_tree.specs.Tree.{tree_of, root_of}
use Rattle.romfs_format.specs.Record.{pad16}
use Rattle.rom_fields.specs.Padding.{pad}
use Rattle.manifest_tree.specs.Items.{Item, Section, SectionsRise}
use Rattle.manifest_tree.specs.Bodies.{item_at}
use Rattle.romfs_layout.specs.Layout.{Header, record_len, leaf_end, header_end, ends, headers, all_headers, place_with}
use Rattle.romfs_layout.specs.Layout.{placed, root_at, full_size_of}
use Rattle.romfs_layout.specs.Items as romfs_items
use Rattle.romfs_layout.specs.Items.{item_of, items_of, sections_from}
use Rattle.romfs_layout.specs.Planned.{IsPlanned}
use Rattle.romfs_layout.proofs.Image.{planned_headers}
use Rattle.romfs_layout.proofs.Sectioned as in_romfs
use Rattle.formats.specs.Format.{Format, romfs}
use Rattle.manifest_layout.specs.Format.{len_of, sections_of}
use Rattle.manifest_layout.specs.Format as of_format
use Rattle.manifest_layout.specs.Misfit.{HasNoMisfit}
use Rattle.manifest_layout.specs.Format.{IsPlannedBy}
use Rattle.manifest_layout.specs.Plans.{Planned, IsPlanOf, IsPlan}
use Rattle.romfs_write.specs.Form.{item_end, full_size}
use Rattle.romfs_write.specs.Known.{IsRomfsPlan}
use Rattle.romfs_write.proofs.Sections.{are_parts}
use Rattle.manifest_layout.proofs.Sized.{Fitting, zeros, lengths}
use Rattle.manifest_layout.proofs.SourceSizes.{sizes_small}

-- the end of the last of some headers, with its bytes
abbrev last_end : ℕ → List Header → ℕ
last_end from [] = from
last_end from (h ∷ hs) = last_end (h.place + record_len h.name + h.size) hs

last_append : (from : ℕ) (xs ys : List Header) → last_end from (xs ++ ys) ≡ last_end (last_end from xs) ys
last_append from [] ys = refl
last_append from (x ∷ xs) ys = last_append (x.place + record_len x.name + x.size) xs ys

headers_last : (at : ℕ → ℕ) (dir from : ℕ) (n : Names) → last_end from (headers at dir from n) ≡ ends from n
headers_last at dir from nothing = refl
headers_last at dir from (leaf name i after) = headers_last at dir (leaf_end from name i) after
headers_last at dir from (link name i after) =
    let q = header_end from name in
    let e : q + 0 ≡ q = omega arith in
    ap (λ (k : ℕ). last_end k (headers at dir q after)) e ∙ headers_last at dir q after
headers_last at dir from (subdirectory name i own after) =
    let h = header_end from name in
    let q = ends (h + 64) own in
    let inner = headers at (pad16 from) (h + 64) own in
    let outer = headers at dir q after in
    let e : h + 32 + 32 + 0 ≡ h + 64 = omega arith in
    ap (λ (k : ℕ). last_end k (inner ++ outer)) e ∙ last_append (h + 64) inner outer
    ∙ ap (λ (k : ℕ). last_end k outer) (headers_last at (pad16 from) (h + 64) own) ∙ headers_last at dir q after

all_last : (r : ℕ) (root : Inode) (n : Names) → last_end 0 (all_headers r root n) ≡ ends (r + 64) n
all_last r root n =
    let at = place_with (placed (r + 64) n) in
    let e : r + 32 + 32 + 0 ≡ r + 64 = omega arith in
    ap (λ (k : ℕ). last_end k (headers at r (r + 64) n)) e ∙ headers_last at r (r + 64) n

at_last : (from : ℕ) (h : Header) (hs : List Header)
    → item_end (item_at (map item_of (h ∷ hs)) (length (map item_of hs))) ≡ last_end from (h ∷ hs)
at_last from h [] = refl
at_last from h (g ∷ hs) = at_last (h.place + record_len h.name + h.size) g hs

last_of : (hs gs : List Header) → gs ≡ hs → 0 < length hs
    → item_end (item_at (map item_of hs) (length (map item_of hs) - 1)) ≡ last_end 0 hs
last_of hs [] e l = let z : length hs ≡ 0 = ap length (sym e) in absurd (omega arith)
last_of hs (h ∷ gs) e l =
    let k : length (map item_of (h ∷ gs)) - 1 ≡ length (map item_of gs) = omega arith in
    ap (λ (xs : List Header). item_end (item_at (map item_of xs) (length (map item_of xs) - 1))) (sym e)
    ∙ ap (λ (n : ℕ). item_end (item_at (map item_of (h ∷ gs)) n)) k ∙ at_last 0 h gs ∙ ap (last_end 0) e

pub full_is : (volume : List ℕ) (root : Inode) (n : Names)
    → full_size (items_of volume root n) ≡ full_size_of (root_at volume) n
full_is volume root n =
    let hs = all_headers (root_at volume) root n in
    ap pad16 (last_of hs hs refl (omega arith) ∙ all_last (root_at volume) root n)

-- the plan of names
abbrev pub planned_by : List ℕ → Inode → Names → List ℕ → Planned
planned_by volume root n sizes =
    let items = items_of volume root n in
    record {
      format = romfs;
      volume = volume;
      image_len = pad (full_size_of (root_at volume) n) 1024;
      items = items;
      sections = romfs_items.sections_of volume items;
      sizes = sizes;
    }

-- of a manifest
abbrev pub planned : ManifestLines → List ℕ → Planned
planned m sizes = planned_by m.volume (root_of m.lines sizes) (tree_of m.lines sizes) sizes

same_plan : (p : Planned) (f : Format) (v : List ℕ) (l : ℕ) (i : List Item) (s : List Section) (z : List ℕ)
    → p.format ≡ f → p.volume ≡ v
    → p.image_len ≡ l → p.items ≡ i → p.sections ≡ s → p.sizes ≡ z
    → p ≡ record { format = f; volume = v; image_len = l; items = i; sections = s; sizes = z }
same_plan p f v l i s z ef ev el ei es ez =
    ap (λ (x : Format). record {
      format = x;
      volume = p.volume;
      image_len = p.image_len;
      items = p.items;
      sections = p.sections;
      sizes = p.sizes;
    }) ef
    ∙ ap (λ (x : List ℕ). record {
      format = f;
      volume = x;
      image_len = p.image_len;
      items = p.items;
      sections = p.sections;
      sizes = p.sizes;
    }) ev
    ∙ ap (λ (x : ℕ). record {
      format = f;
      volume = v;
      image_len = x;
      items = p.items;
      sections = p.sections;
      sizes = p.sizes;
    }) el
    ∙ ap (λ (x : List Item). record {
      format = f;
      volume = v;
      image_len = l;
      items = x;
      sections = p.sections;
      sizes = p.sizes;
    }) ei
    ∙ ap (λ (x : List Section). record
    { format = f; volume = v; image_len = l; items = i; sections = x; sizes = p.sizes }) es
    ∙ ap (λ (x : List ℕ). record { format = f; volume = v; image_len = l; items = i; sections = s; sizes = x }) ez

pub planned_is : (m : ManifestLines) (sizes : List ℕ) (p : Planned) → IsPlanOf romfs m sizes p → p ≡ planned m sizes
planned_is m sizes p h =
    same_plan p romfs m.volume (len_of romfs m sizes) (of_format.items_of romfs m sizes)
    (sections_of romfs m sizes) sizes h.format h.volume h.image_len h.items h.sections h.of_sources

pub of_names : (volume : List ℕ) (root : Inode) (n : Names) (cs : List (List ℕ)) → IsPlanned volume root n cs
    → ((file : ℕ) → get_or (map length cs) file 0 < 2 ^ 32) → IsRomfsPlan (planned_by volume root n (map length cs))
of_names volume root n cs h sized =
    let r = root_at volume in
    let all = items_of volume root n in
    let e = full_is volume root n in
    let up = in_romfs.rise volume root n cs h in
    let room = h.room in
    let z : 0 + r ≡ r = omega arith in
    let up' = subst (λ (k : ℕ). SectionsRise k (full_size_of r n) (sections_from 0 all)) z up.2 in
    record {
      short = h.short;
      some = omega arith;
      full = omega arith;
      end = ap (λ (k : ℕ). pad k 1024) (sym e);
      sections = refl;
      rises = subst (λ (k : ℕ). SectionsRise r k (sections_from 0 all)) (sym e) up';
      bodies = are_parts cs all 0 (all_headers r root n) refl (planned_headers volume root n cs h);
      sized = sized;
    }

pub facts : Fitting → (m : ManifestLines) (sizes : List ℕ) → IsManifest m → (length sizes ≡ length (sources_of m.lines))
    → HasNoMisfit romfs m sizes → IsRomfsPlan (planned m sizes)
facts fitting m sizes h l n =
    let e = lengths sizes in
    let cs = zeros sizes in
    let n' = subst (HasNoMisfit romfs m) (sym e) n in
    let sized =
    subst (λ (xs : List ℕ). (file : ℕ) → get_or xs file 0 < 2 ^ 32) (sym e) (sizes_small romfs m sizes h l n) in
    subst (λ (xs : List ℕ). IsRomfsPlan (planned m xs)) e
    (of_names m.volume (root_of m.lines (map length cs)) (tree_of m.lines (map length cs)) cs
    (fitting romfs m cs h n') sized)

pub plan_known : Fitting → (p : Planned) → IsPlan p → p.format ≡ romfs → IsRomfsPlan p
plan_known fitting p h e =
    let m = h.0 in
    let sizes = h.1 in
    let is : IsPlanOf romfs m sizes p = subst (λ (f : Format). IsPlanOf f m sizes p) e h.4 in
    subst IsRomfsPlan (sym (planned_is m sizes p is)) (facts fitting m sizes h.2 h.3 is.fits)
