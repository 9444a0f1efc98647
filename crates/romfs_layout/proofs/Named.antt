-- The records of a layout are valid, and the names of one list differ.
use Rattle.std.proofs.Common.{◌≡◌, ◌≢◌, ℕ, ◌+◌, ◌-◌, ◌%◌, ◌<◌, ◌≤◌, true, ◌⊎◌, List, [], ◌∷◌, length, refl, sym, ap}
use Rattle.std.proofs.Common.{subst, ◌∙◌, arith, inl, inr}
use Rattle.std.proofs.lemmas.Bool.{false≢true}
use Rattle.std.specs.List.{AllByRecursion as Every, Contains}
use Rattle.rom_fields.specs.Words.{words_sum, part_of}
use Rattle.record_forest.specs.declared.reference.Reference.{Reference}
use Rattle.record_forest.specs.declared.reference.Row.{Row}
use Rattle.record_forest.specs.Forest.{none, at, rows}
use Rattle.record_forest.specs.Members.{Pairs}
use Rattle.record_forest.proofs.Lists.{every_join, every_left, every_right, every_weaker, pairs_join}
use Rattle.romfs_format.specs.Record.{pad16, type_of, name_of, end_of, IsSound}
use Rattle.romfs_format.specs.Refers.{references}
use Rattle.rom_tree.specs.Dots.{dot, dot_dot, is_dots}
use Rattle.record_forest.specs.Forest.{NamesDiffer}
use Rattle.manifest_tree.specs.Names.{Names, nothing, leaf, link, subdirectory}
use Rattle.romfs_layout.specs.Layout.{Header, record_len, place_of, leaf_end, header_end, ends, headers}
use Rattle.romfs_layout.specs.Reads.{Reads, IsHeader}
use Rattle.romfs_layout.specs.Wells.{AreWell}
use Rattle.manifest_tree.specs.Lists.{StandsIn}
use Rattle.romfs_layout.specs.Forest.{offsets}
use Rattle.romfs_layout.proofs.Places.{place_after, ends_after}
use Rattle.romfs_layout.proofs.Headers.{Ascend}

-- an item that was read back is a valid record
pub sound_by : (b : List ℕ) (cs : List (List ℕ)) (r : ℕ) (i : Header) → Reads b cs i → IsHeader cs i → r ≤ i.place
    → i.place + record_len i.name + i.size ≤ length b → IsSound b r i.place
unfolding type_of
sound_by b cs r i reads w low fits =
    let p = i.place in
    let n = reads.name in
    let ln : length (name_of b p) ≡ length i.name = ap length n in
    let e = reads.ends in
    let s = reads.size in
    let named = w.name.named in
    let short = w.name.short in
    let len : end_of b p - p ≡ record_len i.name = omega (arith, e) in
    record {
      from_root = low;
      header = omega arith;
      name_ends = omega (arith, ln);
      name_short = omega (arith, ln);
      within = omega (arith, e);
      named = omega (arith, ln);
      no_slash = subst (λ (x : List ℕ). Contains x 47 → ⊥) (sym n) w.name.no_slash;
      sum = ap (λ (k : ℕ). words_sum (part_of b p k)) len ∙ reads.sum;
      data_within = λ q. omega (arith, e, s);
      link_size = λ q. let l = w.link (ap (λ (x : ℕ). x % 8) (sym reads.word) ∙ q) in
          (omega (arith, s, l.0), omega (arith, s, l.1));
    }

pub all_sound : (b : List ℕ) (cs : List (List ℕ)) (r from to : ℕ) (is : List Header) → Every (Reads b cs) is
    → Every (IsHeader cs) is → r ≤ from → Ascend from to is → to ≤ length b → Every (λ i. IsSound b r i.place) is
all_sound b cs r from to [] reads w low a fits = tt
all_sound b cs r from to (i ∷ is) reads w low a fits =
    let l = a.0 in
    let q = i.place + record_len i.name + i.size in
    let e = last q to is a.1 in (
      sound_by b cs r i reads.0 w.0 (omega arith) (omega arith),
      all_sound b cs r q to is reads.1 w.1 (omega arith) a.1 fits,
    )
  where
    last : (from to : ℕ) (is : List Header) → Ascend from to is → from ≤ to
    last from to [] h = h
    last from to (j ∷ js) h =
        let x = h.0 in let e = last (j.place + record_len j.name + j.size) to js h.1 in omega arith

-- a row of the list of dir has a name of it, and any other row a directory further on
abbrev pub Located : List ℕ → ℕ → ℕ → Names → Row → Type 0
Located b dir from n y =
    ((y.directory ≡ dir) × StandsIn (name_of b y.offset) n) ⊎ ((from ≤ y.directory) × (y.directory < ends from n))

later_located : (b : List ℕ) (dir from q : ℕ) (n after : Names) (y : Row)
    → ((m : List ℕ) → StandsIn m after → StandsIn m n) → from ≤ q → ends q after ≡ ends from n
    → Located b dir q after y → Located b dir from n y
later_located b dir from q n after y s l e (inl h) = inl (h.0, s (name_of b y.offset) h.1)
later_located b dir from q n after y s l e (inr h) = let u = h.0 in let v = h.1 in inr (omega arith, omega (arith, e))

inner_located : (b : List ℕ) (dir from low high : ℕ) (n : Names) (y : Row) → low ≤ dir → dir < high → low ≤ from
    → ends from n ≤ high → Located b dir from n y → (low ≤ y.directory) × (y.directory < high)
inner_located b dir from low high n y l k m o (inl h) = let e = h.0 in (omega (arith, e), omega (arith, e))
inner_located b dir from low high n y l k m o (inr h) = let u = h.0 in let v = h.1 in (omega arith, omega arith)

pub located : (b : List ℕ) (r : ℕ) (cs : List (List ℕ)) (at' : ℕ → ℕ) (x : Reference) (dir up depth from : ℕ)
    (n : Names)
    → AreWell cs n → Every (Reads b cs) (headers at' dir from n)
    → Every (Located b dir from n) (rows (references b r) x dir up depth (offsets from n))
located b r cs at' x dir up depth from nothing h reads = tt
located b r cs at' x dir up depth from (leaf name i after) h reads =
    let g = references b r in
    let q = leaf_end from name i in
    let a = place_after cs from name i h.1 in (
      inl (refl, inl reads.0.name),
      every_weaker (Located b dir q after) (Located b dir from (leaf name i after))
          (λ y k. later_located b dir from q (leaf name i after) after y (λ m s. inr s) (omega arith) refl k)
          (rows g (g.after x) dir up depth (offsets q after))
          (located b r cs at' (g.after x) dir up depth q after h.2 reads.1),
    )
located b r cs at' x dir up depth from (link name i after) h reads =
    let g = references b r in
    let q = header_end from name in (
      inl (refl, inl reads.0.name),
      every_weaker (Located b dir q after) (Located b dir from (link name i after))
          (λ y k. later_located b dir from q (link name i after) after y (λ m s. inr s) (omega arith) refl k)
          (rows g (g.after x) dir up depth (offsets q after))
          (located b r cs at' (g.after x) dir up depth q after h.2 reads.1),
    )
located b r cs at' x dir up depth from (subdirectory name i own after) h reads =
    let g = references b r in
    let p = pad16 from in
    let he = header_end from name in
    let q = ends (he + 64) own in
    let mine = headers at' p (he + 64) own in
    let theirs = headers at' dir q after in
    let o = ends_after cs (he + 64) own h.2 in
    let e = ends_after cs q after h.3 in
    let y1 = g.own x in
    let y2 = g.after y1 in
    let y3 = g.after y2 in
    let inner = every_weaker (Located b p (he + 64) own) (Located b dir from (subdirectory name i own after))
    (λ y k. inr (inner_located b p (he + 64) from (ends q after) own y (omega arith) (omega arith) (omega arith)
    (omega arith) k)) (rows g y3 p dir (depth + 1) (offsets (he + 64) own))
    (located b r cs at' y3 p dir (depth + 1) (he + 64) own h.2 (every_left (Reads b cs) mine theirs reads.1.1.1)) in
    let later = every_weaker (Located b dir q after) (Located b dir from (subdirectory name i own after))
    (λ y k. later_located b dir from q (subdirectory name i own after) after y (λ m s. inr s) (omega arith) refl k)
    (rows g (g.after x) dir up depth (offsets q after))
    (located b r cs at' (g.after x) dir up depth q after h.3 (every_right (Reads b cs) mine theirs reads.1.1.1)) in (
      inl (refl, inl reads.0.name),
      every_join (Located b dir from (subdirectory name i own after))
          (rows g y1 p dir (depth + 1) (at he none (at (he + 32) none (offsets (he + 64) own))))
          (rows g (g.after x) dir up depth (offsets q after))
          (inr (omega arith, omega arith), (inr (omega arith, omega arith), inner)) later,
    )

-- `.` and `..` are no names of a list
pub no_name : (cs : List (List ℕ)) (m : List ℕ) (n : Names) → is_dots m ≡ true → AreWell cs n → StandsIn m n → ⊥
no_name cs m nothing d h s = s
no_name cs m (leaf name i after) d h (inl e) = false≢true (sym h.0.no_dots ∙ ap is_dots (sym e) ∙ d)
no_name cs m (leaf name i after) d h (inr s) = no_name cs m after d h.2 s
no_name cs m (link name i after) d h (inl e) = false≢true (sym h.0.no_dots ∙ ap is_dots (sym e) ∙ d)
no_name cs m (link name i after) d h (inr s) = no_name cs m after d h.2 s
no_name cs m (subdirectory name i own after) d h (inl e) = false≢true (sym h.0.no_dots ∙ ap is_dots (sym e) ∙ d)
no_name cs m (subdirectory name i own after) d h (inr s) = no_name cs m after d h.3 s

-- a head before rows that are located behind it
pub head_differs : (b : List ℕ) (x y : Row) (dir q : ℕ) (after : Names) → x.directory ≡ dir → dir < q
    → (StandsIn (name_of b x.offset) after → ⊥) → Located b dir q after y → NamesDiffer (name_of b) x y
head_differs b x y dir q after e l alone (inl h) =
    λ same eq. alone (subst (λ (m : List ℕ). StandsIn m after) (sym eq) h.1)
head_differs b x y dir q after e l alone (inr h) = λ same eq. let u = h.0 in absurd (omega (arith, e, same))

-- rows with other directories
apart_differs : (b : List ℕ) (x y : Row) → x.directory ≢ y.directory → NamesDiffer (name_of b) x y
apart_differs b x y n = λ same eq. absurd (n same)

-- a row inside a directory, and one behind it
cross_differs : (b : List ℕ) (x y : Row) (dir q high : ℕ) (after : Names) → dir < x.directory → x.directory < q
    → Located b dir q after y → NamesDiffer (name_of b) x y
cross_differs b x y dir q high after l k (inl h) = λ same eq. let e = h.0 in absurd (omega (arith, e, same))
cross_differs b x y dir q high after l k (inr h) = λ same eq. let u = h.0 in absurd (omega (arith, same))

pub dot_is_not : dot ≡ dot_dot → ⊥
dot_is_not e = absurd (let n : length dot ≡ length dot_dot = ap length e in omega (arith, n))

pub names_differ : (b : List ℕ) (r : ℕ) (cs : List (List ℕ)) (at' : ℕ → ℕ) (x : Reference) (dir up depth from : ℕ)
    (n : Names)
    → AreWell cs n → dir < from → Every (Reads b cs) (headers at' dir from n)
    → Pairs (NamesDiffer (name_of b)) (rows (references b r) x dir up depth (offsets from n))
names_differ b r cs at' x dir up depth from nothing h low reads = tt
names_differ b r cs at' x dir up depth from (leaf name i after) h low reads =
    let g = references b r in
    let q = leaf_end from name i in
    let a = place_after cs from name i h.1 in
    let head : Row =
    record { offset = place_of from name i; reference = x; directory = dir; parent = up; depth = depth } in
    let alone = subst (λ (m : List ℕ). StandsIn m after → ⊥) (sym reads.0.name) h.0.alone in (
      every_weaker (Located b dir q after) (NamesDiffer (name_of b) head)
          (λ y k. head_differs b head y dir q after refl (omega arith) alone k)
          (rows g (g.after x) dir up depth (offsets q after))
          (located b r cs at' (g.after x) dir up depth q after h.2 reads.1),
      names_differ b r cs at' (g.after x) dir up depth q after h.2 (omega arith) reads.1,
    )
names_differ b r cs at' x dir up depth from (link name i after) h low reads =
    let g = references b r in
    let q = header_end from name in
    let head : Row = record { offset = pad16 from; reference = x; directory = dir; parent = up; depth = depth } in
    let alone = subst (λ (m : List ℕ). StandsIn m after → ⊥) (sym reads.0.name) h.0.alone in (
      every_weaker (Located b dir q after) (NamesDiffer (name_of b) head)
          (λ y k. head_differs b head y dir q after refl (omega arith) alone k)
          (rows g (g.after x) dir up depth (offsets q after))
          (located b r cs at' (g.after x) dir up depth q after h.2 reads.1),
      names_differ b r cs at' (g.after x) dir up depth q after h.2 (omega arith) reads.1,
    )
names_differ b r cs at' x dir up depth from (subdirectory name i own after) h low reads =
    let g = references b r in
    let p = pad16 from in
    let he = header_end from name in
    let q = ends (he + 64) own in
    let mine = headers at' p (he + 64) own in
    let theirs = headers at' dir q after in
    let o = ends_after cs (he + 64) own h.2 in
    let y1 = g.own x in
    let y2 = g.after y1 in
    let y3 = g.after y2 in
    let head : Row = record { offset = p; reference = x; directory = dir; parent = up; depth = depth } in
    let row1 : Row = record { offset = he; reference = y1; directory = p; parent = dir; depth = depth + 1 } in
    let row2 : Row = record { offset = he + 32; reference = y2; directory = p; parent = dir; depth = depth + 1 } in
    let own_rows = rows g y3 p dir (depth + 1) (offsets (he + 64) own) in
    let after_rows = rows g (g.after x) dir up depth (offsets q after) in
    let own_located =
    located b r cs at' y3 p dir (depth + 1) (he + 64) own h.2 (every_left (Reads b cs) mine theirs reads.1.1.1) in
    let after_located =
    located b r cs at' (g.after x) dir up depth q after h.3 (every_right (Reads b cs) mine theirs reads.1.1.1) in
    let alone = subst (λ (m : List ℕ). StandsIn m after → ⊥) (sym reads.0.name) h.0.alone in
    let dot_alone = subst (λ (m : List ℕ). StandsIn m own → ⊥) (sym reads.1.0.name) (no_name cs dot own refl h.2) in
    let dots_alone =
    subst (λ (m : List ℕ). StandsIn m own → ⊥) (sym reads.1.1.0.name) (no_name cs dot_dot own refl h.2) in
    let inner = names_differ b r cs at' y3 p dir (depth + 1) (he + 64) own h.2 (omega arith)
    (every_left (Reads b cs) mine theirs reads.1.1.1) in
    let later = names_differ b r cs at' (g.after x) dir up depth q after h.3 (omega arith)
    (every_right (Reads b cs) mine theirs reads.1.1.1) in
    let inside = every_weaker (Located b p (he + 64) own) (λ (y : Row). (p ≤ y.directory) × (y.directory < q))
    (λ y k. inner_located b p (he + 64) p q own y (omega arith) (omega arith) (omega arith)
    (omega arith) k) own_rows own_located in
    let dots : NamesDiffer (name_of b) row1 row2 =
    λ same eq. absurd (dot_is_not (sym reads.1.0.name ∙ eq ∙ reads.1.1.0.name)) in
    let own_head = every_weaker (λ (y : Row). (p ≤ y.directory) × (y.directory < q)) (NamesDiffer (name_of b) head)
    (λ y k. let u = k.0 in apart_differs b head y (λ z. absurd (omega (arith, z)))) own_rows inside in
    let after_head = every_weaker (Located b dir q after) (NamesDiffer (name_of b) head)
    (λ y k. head_differs b head y dir q after refl (omega arith) alone k) after_rows after_located in
    let after_own = every_weaker (λ (y : Row). (p ≤ y.directory) × (y.directory < q))
    (λ y. Every (NamesDiffer (name_of b) y) after_rows)
    (λ y k. every_weaker (Located b dir q after) (NamesDiffer (name_of b) y)
    (λ z l. let u = k.0 in cross_differs b y z dir q q after
    (omega arith) k.1 l) after_rows after_located) own_rows inside in
    let after_row1 = every_weaker (Located b dir q after) (NamesDiffer (name_of b) row1)
    (λ z l. cross_differs b row1 z dir q q after (omega arith) (omega arith) l) after_rows after_located in
    let after_row2 = every_weaker (Located b dir q after) (NamesDiffer (name_of b) row2)
    (λ z l. cross_differs b row2 z dir q q after (omega arith) (omega arith) l) after_rows after_located in
    let own_row1 = every_weaker (Located b p (he + 64) own) (NamesDiffer (name_of b) row1)
    (λ y k. head_differs b row1 y p (he + 64) own refl (omega arith) dot_alone k) own_rows own_located in
    let own_row2 = every_weaker (Located b p (he + 64) own) (NamesDiffer (name_of b) row2)
    (λ y k. head_differs b row2 y p (he + 64) own refl (omega arith) dots_alone k) own_rows own_located in
    let list = row1 ∷ row2 ∷ own_rows in (
      every_join (NamesDiffer (name_of b) head) list after_rows (
        apart_differs b head row1 (λ z. absurd (omega (arith, z))),
        (apart_differs b head row2 (λ z. absurd (omega (arith, z))), own_head),
      ) after_head,
      pairs_join (NamesDiffer (name_of b)) list after_rows ((dots, own_row1), (own_row2, inner)) later
          (after_row1, (after_row2, after_own)),
    )
