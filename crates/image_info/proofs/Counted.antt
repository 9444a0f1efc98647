-- What a walk has counted, and what is to come.
use Rattle.std.proofs.Common.{◌≡◌, ◌+◌, ◌*◌, ◌<◌, ◌≤◌, ◌==◌, ◌||◌, ◌&&◌, not, ℕ, suc, Bool, true, false, cond, List, []}
use Rattle.std.proofs.Common.{◌∷◌, length, refl, ap, ◌∙◌, arith, inl, inr}
use Rattle.std.specs.List.{list_any}
use Rattle.std.specs.BTreeSet.{BTreeSet, contains, Updates}
use Rattle.std.specs.BTreeMap.{is_at}
use Rattle.std.specs.Ordering.{nat_cmp}
use Rattle.std.proofs.lemmas.Bool.{cases_lt, lt-ltb, le-ltb}
use Rattle.std.proofs.lemmas.Bool.Decides.{eqb_tells}
use Rattle.rom_tree.specs.declared.types.Kind.{Kind}
use Rattle.rom_tree.specs.declared.types.Kind.TheVariants.{Directory, Regular, Symlink, Block, Character, Socket, Fifo}
use Rattle.rom_tree.specs.Tree.{Node, ino_of, kind_of, places_of}
use Rattle.rom_tree.specs.Names.{Name}
use Rattle.image_info.specs.Tallies.{is_file, is_directory, is_symlink, is_other, how_many, is_among, new_bytes}
use Rattle.image_info.specs.Tallies.{bytes_of_files, tally_of}
use Rattle.image_info.specs.declared.tally.Tally.{Tally}
use Rattle.rom_tree.specs.declared.types.Stat.{Stat}
use Rattle.rom_tree.specs.Image.{stat_of}

-- the set has these numbers
abbrev pub HoldsNumbers : List ℕ → BTreeSet ℕ → Type 0
HoldsNumbers ks met = (i : ℕ) → contains nat_cmp met i ≡ is_among ks i

at_is : (p q : ℕ) → is_at (nat_cmp p) q ≡ (p == q)
at_is p q =
    elim (eqb_tells p q) [
      | inl e ↦ rw (le-ltb p q (omega arith), e.0) refl
      | inr n ↦ elim (cases_lt p q) [ inl l ↦ rw (lt-ltb p q l, n.0) refl | inr l ↦ rw (le-ltb p q l, n.0) refl ]
    ]

-- one number more
pub holds_more : (ks : List ℕ) (k : ℕ) (old new : BTreeSet ℕ) → HoldsNumbers ks old → Updates nat_cmp old new k true
    → HoldsNumbers (k ∷ ks) new
holds_more ks k old new h u i =
    u.0 i ∙ ap (λ (b : Bool). cond b true (contains nat_cmp old i)) (at_is k i)
    ∙ ap (λ (b : Bool). cond (k == i) true b) (h i) ∙ either (k == i) (is_among ks i)
  where
    either : (a b : Bool) → cond a true b ≡ (a || b)
    either true b = refl
    either false b = refl

pub holds_none : (new : BTreeSet ℕ) → new.keys ≡ [] → HoldsNumbers [] new
holds_none new e i = ap (list_any (is_at (nat_cmp i))) e

-- a name more of some kind
one_more : (is : Kind → Bool) (n : Name) (old new : List Name) (so_far all more : ℕ) → old ≡ n ∷ new
    → so_far + how_many is old ≡ all → more ≡ so_far + cond (is (kind_of n.node)) 1 0 → more + how_many is new ≡ all
one_more is n old new so_far all more e h m =
    let o : how_many is old ≡ cond (is (kind_of n.node)) 1 0 + how_many is new =
    ap (how_many is) e in omega (arith, o, h, m)

-- the bytes of a name more
more_bytes : (ks : List ℕ) (n : Name) (old new : List Name) (so_far all more : ℕ) → old ≡ n ∷ new
    → so_far + bytes_of_files ks old ≡ all → more ≡ so_far + new_bytes ks n.node
    → more + bytes_of_files (ino_of n.node ∷ ks) new ≡ all
more_bytes ks n old new so_far all more e h m =
    let o : bytes_of_files ks old ≡ new_bytes ks n.node + bytes_of_files (ino_of n.node ∷ ks) new =
    ap (bytes_of_files ks) e in omega (arith, o, h, m)

-- each name is of one kind
one_kind : (k : Kind) → cond (is_file k) 1 0 + cond (is_directory k) 1 0 + cond (is_symlink k) 1 0 + cond
    (is_other k) 1 0
    ≡ 1
one_kind Directory = refl
one_kind Regular = refl
one_kind Symlink = refl
one_kind Block = refl
one_kind Character = refl
one_kind Socket = refl
one_kind Fifo = refl

at_most : (b : Bool) (n : ℕ) → cond b n 0 ≤ n
at_most true n = omega arith
at_most false n = omega arith

-- What was counted and what is to come are all names; what was counted is bounded by the names that were met.
pub record Counts (ks : List ℕ) (t : Tally) (ns all : List Name) : Type 0 where
  pub files : t.files + how_many is_file ns ≡ how_many is_file all
  pub directories : t.directories + how_many is_directory ns ≡ how_many is_directory all
  pub links : t.links + how_many is_symlink ns ≡ how_many is_symlink all
  pub others : t.others + how_many is_other ns ≡ how_many is_other all
  pub contents : t.contents + bytes_of_files ks ns ≡ bytes_of_files [] all
  pub few : t.files + t.directories + t.links + t.others + length ns ≤ 4294967296
  pub room : t.contents ≤ (t.files + t.directories + t.links + t.others) * 4294967296

abbrev tally : ℕ → ℕ → ℕ → ℕ → ℕ → Tally
tally a b c d e = record { files = a; directories = b; links = c; others = d; contents = e }

pub started : (ns all : List Name) → ns ≡ all → length all ≤ 4294967296 → Counts [] (tally 0 0 0 0 0) ns all
started ns all e h =
    let l : length ns ≡ length all = ap (length) e in
    let f : how_many is_file ns ≡ how_many is_file all = ap (how_many is_file) e in
    let d : how_many is_directory ns ≡ how_many is_directory all = ap (how_many is_directory) e in
    let s : how_many is_symlink ns ≡ how_many is_symlink all = ap (how_many is_symlink) e in
    let o : how_many is_other ns ≡ how_many is_other all = ap (how_many is_other) e in
    let b : bytes_of_files [] ns ≡ bytes_of_files [] all = ap (bytes_of_files []) e in
    record {
      files = omega (arith, f);
      directories = omega (arith, d);
      links = omega (arith, s);
      others = omega (arith, o);
      contents = omega (arith, b);
      few = omega (arith, h, l);
      room = omega arith;
    }

module _ {ks : List ℕ} {t : Tally} {old all : List Name} (c : Counts ks t old all) (n : Name) (new : List Name)
    (first : old ≡ n ∷ new) where
  len : length old ≡ suc (length new)
  len = ap length first

  -- one name more has room
  pub fewer_than : t.files + t.directories + t.links + t.others < 4294967296
  fewer_than = let l = len in let f = c.few in omega (arith, l, f)

  pub has_room : (size : ℕ) → size < 4294967296 → t.contents + size < 18446744073709551616
  has_room size h = let f = fewer_than in let r = c.room in omega (arith, h, f, r)

  -- the name is counted
  pub counts_more : (s : Stat) (fresh : Bool) (u : Tally) → s ≡ stat_of n.node → s.size < 4294967296
      → fresh ≡ not (is_among ks (ino_of n.node))
      → u.files ≡ t.files + cond (is_file s.kind) 1 0 → u.directories ≡ t.directories + cond (is_directory s.kind) 1 0
      → u.links ≡ t.links + cond (is_symlink s.kind) 1 0 → u.others ≡ t.others + cond (is_other s.kind) 1 0
      → u.contents ≡ t.contents + cond (is_file s.kind && fresh) s.size 0 → Counts (ino_of n.node ∷ ks) u new all
  counts_more s fresh u e small new_one hf hd hl ho hc =
      let x : Node = n.node in
      let f : u.files ≡ t.files + cond (is_file (kind_of x)) 1 0 =
      hf ∙ ap (λ (v : Stat). t.files + cond (is_file v.kind) 1 0) e in
      let d : u.directories ≡ t.directories + cond (is_directory (kind_of x)) 1 0 =
      hd ∙ ap (λ (v : Stat). t.directories + cond (is_directory v.kind) 1 0) e in
      let l : u.links ≡ t.links + cond (is_symlink (kind_of x)) 1 0 =
      hl ∙ ap (λ (v : Stat). t.links + cond (is_symlink v.kind) 1 0) e in
      let o : u.others ≡ t.others + cond (is_other (kind_of x)) 1 0 =
      ho ∙ ap (λ (v : Stat). t.others + cond (is_other v.kind) 1 0) e in
      let b : u.contents ≡ t.contents + new_bytes ks x =
      hc ∙ (ap (λ (v : Stat). t.contents + cond (is_file v.kind && fresh) v.size 0) e
      ∙ ap (λ (v : Bool). t.contents + cond (is_file (kind_of x) && v) (length (places_of x)) 0) new_one) in
      let k = one_kind (kind_of x) in
      let m = at_most (is_file s.kind && fresh) s.size in
      let few = c.few in
      let room = c.room in
      let le = len in
      record {
        files = one_more is_file n old new t.files _ u.files first c.files f;
        directories = one_more is_directory n old new t.directories _ u.directories first c.directories d;
        links = one_more is_symlink n old new t.links _ u.links first c.links l;
        others = one_more is_other n old new t.others _ u.others first c.others o;
        contents = more_bytes ks n old new t.contents _ u.contents first c.contents b;
        few = omega (arith, f, d, l, o, k, few, le);
        room = omega (arith, f, d, l, o, k, hc, m, small, room);
      }

-- all names are counted
pub all_counted : (ks : List ℕ) (t : Tally) (ns all : List Name) → Counts ks t ns all → ns ≡ [] → t ≡ tally_of all
all_counted ks t ns all c e =
    let f : how_many is_file ns ≡ 0 = ap (how_many is_file) e in
    let d : how_many is_directory ns ≡ 0 = ap (how_many is_directory) e in
    let s : how_many is_symlink ns ≡ 0 = ap (how_many is_symlink) e in
    let o : how_many is_other ns ≡ 0 = ap (how_many is_other) e in
    let b : bytes_of_files ks ns ≡ 0 = ap (bytes_of_files ks) e in
    let cf = c.files in
    let cd = c.directories in
    let cl = c.links in
    let co = c.others in
    let cc' = c.contents in
    same (how_many is_file all) (how_many is_directory all) (how_many is_symlink all) (how_many is_other all)
    (bytes_of_files [] all)
    (omega (arith, f, cf)) (omega (arith, d, cd)) (omega (arith, s, cl)) (omega (arith, o, co)) (omega (arith, b, cc'))
  where
    same : (v w x y z : ℕ) → t.files ≡ v → t.directories ≡ w → t.links ≡ x → t.others ≡ y → t.contents ≡ z
        → t ≡ tally v w x y z
    same v w x y z hv hw hx hy hz =
        ap (λ (i : ℕ). tally i t.directories t.links t.others t.contents) hv
        ∙ (ap (λ (i : ℕ). tally v i t.links t.others t.contents) hw
        ∙ (ap (λ (i : ℕ). tally v w i t.others t.contents) hx
        ∙ (ap (λ (i : ℕ). tally v w x i t.contents) hy ∙ ap (λ (i : ℕ). tally v w x y i) hz)))
