-- What the paths of members are composed of.
use Rattle.std.proofs.Common.{◌≡◌, ℕ, zero, suc, ◌+◌, ◌<◌, ◌≤◌, List, [], ◌∷◌, ◌++◌, length, get_or, Option, Some, None}
use Rattle.std.proofs.Common.{refl, sym, ap, ◌∙◌, arith, append_assoc, length-append}
use Rattle.rom_tree.specs.Names.{path_below}
use Rattle.image_manifest.specs.Composed.{path_by, way_at, way_with, ways_behind, ways_of}
use Rattle.image_manifest.specs.declared.naming.Member.{Member}

pub way_append : (ws vs : List (List ℕ)) (i : ℕ) → i < length ws → way_at (ws ++ vs) i ≡ way_at ws i
way_append [] vs i h = absurd (omega (arith, h))
way_append (w ∷ ws) vs zero h = refl
way_append (w ∷ ws) vs (suc i) h = way_append ws vs i (omega (arith, h))

pub way_last : (ws : List (List ℕ)) (w : List ℕ) (k : ℕ) → k ≡ length ws → way_at (ws ++ w ∷ []) k ≡ w
way_last [] w zero h = refl
way_last [] w (suc k) h = absurd (omega (arith, h))
way_last (v ∷ ws) w zero h = absurd (omega (arith, h))
way_last (v ∷ ws) w (suc k) h = way_last ws w k (omega (arith, h))

way_out : (ws : List (List ℕ)) (i : ℕ) → length ws ≤ i → way_at ws i ≡ []
way_out [] i h = refl
way_out (w ∷ ws) zero h = absurd (omega (arith, h))
way_out (w ∷ ws) (suc i) h = way_out ws i (omega (arith, h))

kept : (ws : List (List ℕ)) (ms : List Member) (i : ℕ) → i < length ws → way_at (ways_behind ws ms) i ≡ way_at ws i
kept ws [] i h = refl
kept ws (x ∷ xs) i h =
    let v : List (List ℕ) = way_with ws x.parent x.name.now ∷ [] in
    kept (ws ++ v) xs i (omega (arith, h, length-append ws v)) ∙ way_append ws v i h

-- the ways before an index, of which the way there is composed
record IsFront (all : List (List ℕ)) (k : ℕ) (x : Member) : Type 0 where
  front : List (List ℕ)
  many : length front ≡ k
  same : (j : ℕ) → j < k → way_at front j ≡ way_at all j
  way : way_at all k ≡ way_with front x.parent x.name.now

front_at : (ws : List (List ℕ)) (ms : List Member) (i k : ℕ) (d : Member) → i < length ms → k ≡ length ws + i
    → IsFront (ways_behind ws ms) k (get_or ms i d)
front_at ws [] i k d h e = absurd (omega (arith, h))
front_at ws (x ∷ xs) zero k d h e =
    let w : List ℕ = way_with ws x.parent x.name.now in
    let l = length-append ws (w ∷ []) in
    record {
      front = ws;
      many = omega (arith, e);
      same = λ j b. sym (kept (ws ++ w ∷ []) xs j (omega (arith, b, e, l))
          ∙ way_append ws (w ∷ []) j (omega (arith, b, e)));
      way = kept (ws ++ w ∷ []) xs k (omega (arith, e, l)) ∙ way_last ws w k (omega (arith, e));
    }
front_at ws (x ∷ xs) (suc i) k d h e =
    let w : List ℕ = way_with ws x.parent x.name.now in
    front_at (ws ++ w ∷ []) xs i k d (omega (arith, h)) (omega (arith, e, length-append ws (w ∷ [])))

front : (ms : List Member) (k : ℕ) (d : Member) → k < length ms → IsFront (ways_of ms) k (get_or ms k d)
unfolding ways_of
front ms k d h = front_at [] ms k k d h (omega arith)

none_way : (ws : List (List ℕ)) (o : Option ℕ) (name w : List ℕ) → o ≡ None → w ≡ way_with ws o name → w ≡ []
none_way ws o name w e h = h ∙ ap (λ (v : Option ℕ). way_with ws v name) e

some_way : (ws : List (List ℕ)) (o : Option ℕ) (p : ℕ) (name w : List ℕ) → o ≡ Some p → w ≡ way_with ws o name
    → w ≡ path_below (way_at ws p) name
some_way ws o p name w e h = h ∙ ap (λ (v : Option ℕ). way_with ws v name) e

-- the way of a member without a parent, of one with an earlier parent, and of one with a later one
pub root_way : (ms : List Member) (k : ℕ) (d : Member) → k < length ms → (get_or ms k d).parent ≡ None
    → way_at (ways_of ms) k ≡ []
root_way ms k d h e =
    let f = front ms k d h in none_way f.front (get_or ms k d).parent (get_or ms k d).name.now _ e f.way

pub below_way : (ms : List Member) (k p : ℕ) (d : Member) → k < length ms → (get_or ms k d).parent ≡ Some p → p < k
    → way_at (ways_of ms) k ≡ path_below (way_at (ways_of ms) p) (get_or ms k d).name.now
below_way ms k p d h e l =
    let f = front ms k d h in
    some_way f.front (get_or ms k d).parent p (get_or ms k d).name.now _ e f.way
    ∙ ap (λ (v : List ℕ). path_below v (get_or ms k d).name.now) (f.same p l)

pub later_way : (ms : List Member) (k p : ℕ) (d : Member) → k < length ms → (get_or ms k d).parent ≡ Some p → k ≤ p
    → way_at (ways_of ms) k ≡ 47 ∷ (get_or ms k d).name.now
later_way ms k p d h e l =
    let f = front ms k d h in
    some_way f.front (get_or ms k d).parent p (get_or ms k d).name.now _ e f.way
    ∙ ap (λ (v : List ℕ). path_below v (get_or ms k d).name.now) (way_out f.front p (omega (arith, f.many, l)))

-- their lengths
pub below_length : (w a name : List ℕ) → w ≡ path_below a name → length w ≡ length a + (1 + length name)
below_length w a name e = let l = length-append a (47 ∷ name) in let s : length w ≡ length (a ++ 47 ∷ name) =
    ap length e in omega (arith, l, s)

-- a path of a way
pub path_root : (w : List ℕ) → w ≡ [] → path_by w ≡ 47 ∷ []
path_root w e = ap path_by e

pub path_more : (w : List ℕ) (b : ℕ) (bs : List ℕ) → w ≡ b ∷ bs → path_by w ≡ w
path_more w b bs e = ap path_by e ∙ sym e

pub path_some : (w : List ℕ) → 0 < length w → path_by w ≡ w
path_some [] h = absurd (omega (arith, h))
path_some (b ∷ bs) h = refl

pub path_of_below : (a name : List ℕ) → path_by (path_below a name) ≡ path_below a name
path_of_below [] name = refl
path_of_below (b ∷ a) name = refl

-- it is no shorter than the way
pub way_short : (w : List ℕ) → length (path_by w) ≤ 4095 → length w ≤ 4095
way_short [] h = omega arith
way_short (b ∷ bs) h = h

-- a slash and a name behind a buffer
pub with_name : (old mid pushed new base name w : List ℕ) → mid ≡ old ++ base → w ≡ base ++ 47 ∷ name
    → pushed ≡ mid ++ 47 ∷ [] → new ≡ pushed ++ name → new ≡ old ++ w
with_name old mid pushed new base name w a b p q =
    q ∙ ap (λ (v : List ℕ). v ++ name) p ∙ append_assoc mid (47 ∷ []) name ∙ ap (λ (v : List ℕ). v ++ 47 ∷ name) a
    ∙ append_assoc old base (47 ∷ name) ∙ ap (λ (v : List ℕ). old ++ v) (sym b)

-- it has room
pub name_room : (old mid base name w : List ℕ) → mid ≡ old ++ base → w ≡ base ++ 47 ∷ name
    → length old + length w ≤ 4095 → length mid + (1 + length name) ≤ 4095
name_room old mid base name w a b h =
    let s : length mid ≡ length (old ++ base) = ap length a in
    omega (arith, h, s, length-append old base, below_length w base name b)
