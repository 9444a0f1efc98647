-- The entries that a layout's bytes hold.
use Rattle.std.proofs.Common.{◌≡◌, ◌≢◌, ℕ, zero, suc, ◌+◌, ◌≤◌, true, false, List, refl, sym, ap, ◌∙◌, arith, inl, inr}
use Rattle.std.proofs.lemmas.Bool.{ne_eqb, eq-eqb}
use Rattle.std.proofs.lemmas.Bool.Decides.{eqb_tells}
use Rattle.std.specs.List.{AllByRecursion as Every}
use Rattle.rom_tree.specs.Tree.{Entries, no_entries, entry, entries_depth, body_depth, depth, directory, regular}
use Rattle.rom_tree.specs.Tree.{symlink, block, character, socket, fifo}
use Rattle.record_forest.specs.declared.reference.Row.{Row}
use Rattle.record_forest.proofs.Lists.{every_left, every_right}
use Rattle.record_forest.specs.Forest.{Forest, none, at}
use Rattle.romfs_format.specs.Record.{pad16, type_of, spec_offset_of, name_of}
use Rattle.romfs_format.specs.Tree.{led, entries_at, node_of, body_named, places_at, by_type, kind_numbers}
use Rattle.rom_tree.specs.Dots.{is_dots}
use Rattle.romfs_format.proofs.Trees.{led_self}
use Rattle.rom_tree.proofs.ByKind.{by_kind_map, by_kind_directory, by_kind_rest}
use Rattle.manifest_tree.specs.Names.{Names, nothing, leaf, link, subdirectory}
use Rattle.romfs_layout.specs.Layout.{number_of, code_of, place_of, leaf_end, header_end, ends, first_place, headers}
use Rattle.romfs_layout.specs.Reads.{Reads}
use Rattle.romfs_layout.specs.Wells.{AreWell}
use Rattle.manifest_tree.specs.Files.{height}
use Rattle.romfs_layout.specs.Forest.{offsets}
use Rattle.romfs_layout.proofs.Places.{first_even}
use Rattle.romfs_layout.proofs.Headers.{code_is}
use Rattle.romfs_layout.proofs.Stands.{says, says_target, number_is}
use Rattle.romfs_layout.proofs.Leads.{AreLed}

-- the entries of names whose list is placed from `from` on
abbrev pub made_of : List ℕ → (ℕ → ℕ) → ℕ → Names → Entries
made_of b at' from nothing = no_entries
made_of b at' from (leaf name i after) =
    entry name (node_of b (place_of from name i) no_entries) (made_of b at' (leaf_end from name i) after)
made_of b at' from (link name i after) =
    entry name (node_of b (at' i.line) no_entries) (made_of b at' (header_end from name) after)
made_of b at' from (subdirectory name i own after) =
    let h = header_end from name in
    entry name (node_of b (pad16 from) (made_of b at' (h + 64) own)) (made_of b at' (ends (h + 64) own) after)

pub led_once : (n : ℕ) (b : List ℕ) (p q : ℕ) → type_of b p ≡ 0 → spec_offset_of b p ≡ q → type_of b q ≢ 0
    → led (suc n) b p ≡ q
unfolding led
led_once zero b p q t e live = rw (eq-eqb (type_of b p) 0 t) e
led_once (suc n) b p q t e live =
    let ih = led_once n b p q t e live in
    rw (ih, ne_eqb (type_of b q) 0 live) refl

-- a record that is no entry, and one that is
pub skip : (b : List ℕ) (p : ℕ) (own after : Forest) → is_dots (name_of b p) ≡ true
    → entries_at b (at p own after) ≡ entries_at b after
skip b p own after d = rw d refl

take_entry : (b : List ℕ) (p q : ℕ) (name : List ℕ) (own after : Forest) (es fs : Entries) → name_of b p ≡ name
    → is_dots name ≡ false → led 8 b p ≡ q → entries_at b own ≡ es → entries_at b after ≡ fs
    → entries_at b (at p own after) ≡ entry name (node_of b q es) fs
take_entry b p q name own after es fs n d l e f = rw (n, d, l, e, f) refl

pub entries_is : (b : List ℕ) (cs : List (List ℕ)) (all : List Row) (at' : ℕ → ℕ) (dir from : ℕ) (n : Names)
    → AreWell cs n → AreLed b all at' n → Every (Reads b cs) (headers at' dir from n)
    → entries_at b (offsets from n) ≡ made_of b at' from n
entries_is b cs all at' dir from nothing h led reads = refl
entries_is b cs all at' dir from (leaf name i after) h led reads =
    let p = place_of from name i in
    let q = leaf_end from name i in
    let c = code_is i in
    let s = says b p (first_place q after) (code_of i) reads.0.word (first_even cs q after h.2) c.small in
    take_entry b p p name none (offsets q after) no_entries (made_of b at' q after) reads.0.name h.0.no_dots
    (led_self 8 b p (λ z. (number_is cs i h.1).1 (sym (s.kind ∙ c.kind) ∙ z))) refl
    (entries_is b cs all at' dir q after h.2 led reads.1)
entries_is b cs all at' dir from (link name i after) h led reads =
    let p = pad16 from in
    let q = header_end from name in
    let s = says b p (first_place q after) 0 (reads.0.word ∙ omega arith) (first_even cs q after h.2) (omega arith) in
    take_entry b p (at' i.line) name none (offsets q after) no_entries (made_of b at' q after) reads.0.name h.0.no_dots
    (led_once 7 b p (at' i.line) s.kind (says_target b p (at' i.line) reads.0.spec led.0.even) led.0.live) refl
    (entries_is b cs all at' dir q after h.2 led.2 reads.1)
entries_is b cs all at' dir from (subdirectory name i own after) h led reads =
    let p = pad16 from in
    let he = header_end from name in
    let q = ends (he + 64) own in
    let c = code_is i in
    let mine = headers at' p (he + 64) own in
    let theirs = headers at' dir q after in
    let s = says b p (first_place q after) (code_of i) reads.0.word (first_even cs q after h.3) c.small in
    let kind : type_of b p ≡ 1 = s.kind ∙ c.kind ∙ ap number_of h.1.kind in
    let inner = entries_is b cs all at' p (he + 64) own h.2 led.0 (every_left (Reads b cs) mine theirs reads.1.1.1) in
    let later = entries_is b cs all at' dir q after h.3 led.1 (every_right (Reads b cs) mine theirs reads.1.1.1) in
    let list = skip b he none (at (he + 32) none (offsets (he + 64) own)) (ap is_dots reads.1.0.name)
    ∙ skip b (he + 32) none (offsets (he + 64) own) (ap is_dots reads.1.1.0.name) ∙ inner in
    take_entry b p p name (at he none (at (he + 32) none (offsets (he + 64) own))) (offsets q after)
    (made_of b at' (he + 64) own) (made_of b at' q after) reads.0.name h.0.no_dots
    (led_self 8 b p (λ z. absurd (omega (arith, kind, z)))) list later

-- a node is no deeper than its list
pub node_depth : (b : List ℕ) (p : ℕ) (es : Entries) → depth (node_of b p es) ≤ entries_depth es
unfolding node_of
node_depth b p es =
    let t = type_of b p in
    let ps = places_at b p in
    let e : body_depth (body_named t ps es) ≡ by_type t (entries_depth es) 0 0 0 0 0 0 =
    by_kind_map body_depth kind_numbers t (directory es) (regular ps) (symlink ps) block character socket fifo in
    elim (eqb_tells t 1) [
      | inl k ↦ let f = e ∙ by_kind_directory kind_numbers t (entries_depth es) 0 0 0 0 0 0 k.1 in omega (arith, f)
      | inr k ↦ let f = e ∙ by_kind_rest kind_numbers t (entries_depth es) 0 k.1 in omega (arith, f)
    ]

pub made_depth : (b : List ℕ) (at' : ℕ → ℕ) (from : ℕ) (n : Names) → entries_depth (made_of b at' from n) ≤ height n
made_depth b at' from nothing = omega arith
made_depth b at' from (leaf name i after) =
    let d = node_depth b (place_of from name i) no_entries in
    let e = made_depth b at' (leaf_end from name i) after in
    omega (arith, d, e)
made_depth b at' from (link name i after) =
    let d = node_depth b (at' i.line) no_entries in
    let e = made_depth b at' (header_end from name) after in
    omega (arith, d, e)
made_depth b at' from (subdirectory name i own after) =
    let h = header_end from name in
    let d = node_depth b (pad16 from) (made_of b at' (h + 64) own) in
    let c = made_depth b at' (h + 64) own in
    let e = made_depth b at' (ends (h + 64) own) after in
    omega (arith, c, d, e)
